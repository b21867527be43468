-- The invariant: what the codes that are left and what was found so far come to is what all come to; `left` is the offset of the instruction
-- of the code before, where the instructions of those codes end.
-- Assumes nothing.
use Rattle.std.specs.Prelude.{Ok}
use Prim.Native.Nat.{◌-◌}
use mathlib.Core.Path.{◌≡◌}
use lib.ListN.{length}
use Rattle.words.specs.Units.{code_bytes}
use Rattle.unwinding.specs.CodeList.{total}
use Rattle.comparing.specs.Items.{size_of, scan_coded}
use Rattle.comparing.specs.AsCoded.Passes.{prologue_pass}
use Rattle.comparing.proofs.prologue.Given as goal

abbrev pub invariant-loop-i : goal.invariant-loop-i
invariant-loop-i l =
    (l.left ≡ total size_of (scan_coded l.codes (code_bytes l.i)).list)
    × (prologue_pass l.code (scan_coded l.codes (code_bytes l.i)).list l.found ≡ prologue_pass l.code (scan_coded l.codes (code_bytes 0)).list (Ok tt))

abbrev pub decreases-loop-i : goal.decreases-loop-i
decreases-loop-i l = length l.codes - l.i
