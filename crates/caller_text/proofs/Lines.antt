-- A register's line is its name and what follows it.
-- Assumes nothing.
use Prim.Native.Nat.{ℕ}
use mathlib.Core.Path.{◌≡◌}
use mathlib.Core.List.{List, ◌++◌, append_assoc}
use Rattle.text.specs.Text.{text}

pub line-is : (name digits : List ℕ) → name ++ (text " " ++ digits ++ text "\n") ≡ name ++ text " " ++ digits ++ text "\n"
line-is name digits = simp append_assoc
