-- Skipping and the end of a code list, of these codes.
-- Assumes nothing.
use Rattle.std.specs.Prelude.{Option, Some}
use Prim.Native.Nat.{ℕ, ◌+◌}
use mathlib.Core.Path.{◌≡◌}
use mathlib.Core.List.{List}
use Rattle.words.specs.declared.CodeBytes.{CodeBytes}
use Rattle.unwinding.specs.CodeList.{total, end_of}
use Rattle.unwinding.proofs.SkipEnds as Law
use Rattle.codes.specs.Code.{size, taking, bytes_of, scan}
use Rattle.reader.specs.AsCoded.Skip.{skip_at}
use Rattle.codes.specs.declared.Code.{Code}
use Rattle.codes.proofs.Scanning.{takes}

-- the codes behind what was skipped
abbrev pub codes_behind : List ℕ → Option CodeBytes → Option (List Code)
codes_behind s x = Law.codes_behind taking bytes_of s x

pub skip-ends :
    (s : List ℕ) (after n : ℕ) (i : CodeBytes) (k : ℕ) → k + n ≡ total size (scan s i).list + after
    → end_of size after n (scan s i).list ≡ codes_behind s (skip_at s i k)
skip-ends s after n i k h = Law.skip-ends size takes s after n i k h

pub skip-ending : (s : List ℕ) (i : CodeBytes) (k : ℕ) (p : CodeBytes) → skip_at s i k ≡ Some p → (scan s p).ending ≡ (scan s i).ending
skip-ending s i k p e = Law.skip-ending size takes s i k p e
