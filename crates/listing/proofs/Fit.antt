-- When a report is unfit (14), and the last lines of a listing.
-- Assumes nothing.
use Rattle.std.specs.Prelude.{Err}
use Prim.Native.Nat.{ℕ}
use mathlib.Core.Path.{◌≡◌, refl}
use mathlib.Core.List.{List, [], ◌∷◌, ◌++◌}
use lib.ListN.{replicate}
use Rattle.words.specs.declared.Refusal.TheVariants.{UnfitReport}
use Rattle.report.specs.Report.{report, mark}
use Rattle.text.specs.Text.{text}
use Rattle.listing.specs.Listing.{listing}
use Rattle.lent.proofs.Bytes.{bytes_of}
use Rattle.listing.proofs.Opened.{opened}

-- a report of this mark, these six words, all registers 0 but pc, and these bytes
abbrev file : List ℕ → (words : List ℕ) → (pc : ℕ) → (rest : List ℕ) → List ℕ
file m ws pc rest = m ++ bytes_of (ws ++ replicate 15 0 ++ (pc ∷ [])) ++ replicate 256 0 ++ rest

-- nothing at all; a version 2; a byte too many; more records than a file can hold, which does not wrap
empty : report [] ≡ Err UnfitReport
unfolding opened
empty = refl

version : report (file (0x57 ∷ 0x4C ∷ 0x4B ∷ 2 ∷ 0 ∷ 0 ∷ 0 ∷ 0 ∷ []) (replicate 6 0) 0 []) ≡ Err UnfitReport
unfolding opened
version = refl

more : report (file mark (replicate 6 0) 0 (0 ∷ [])) ≡ Err UnfitReport
unfolding opened
more = refl

no_wrap : report (file mark (0 ∷ 0x20000000 ∷ replicate 4 0) 0 []) ≡ Err UnfitReport
unfolding opened
no_wrap = refl

unfit-printed : listing [] ≡ text "refused 14\n"
unfolding opened
unfit-printed = refl

-- a leaf whose return address is 0; a refusal, with its pc's bit 0 cleared
leaf-printed :
    listing (file mark (replicate 6 0) 0x402 []) ≡ text "frame pc sp place\n0 00000402 00000000 leaf\nend frames 1 codes 0\n"
unfolding opened
leaf-printed = refl

refused-printed :
    listing (file mark (0x1000 ∷ replicate 5 0) 0x403 []) ≡ text "frame pc sp place\nrefused 2 at 00000402 frames 0 codes 0\n"
unfolding opened
refused-printed = refl
