-- Words as little-endian bytes, to write examples down.
use Prim.Native.Nat.{ℕ}
use mathlib.Core.List.{List, ◌∷◌, []}
use Rattle.words.specs.Bits.{bits}

abbrev pub bytes_of : List ℕ → List ℕ
bytes_of [] = []
bytes_of (w ∷ ws) = bits 0 8 w ∷ bits 8 8 w ∷ bits 16 8 w ∷ bits 24 8 w ∷ bytes_of ws
