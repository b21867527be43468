-- A report has no proper beginning that is one, and is the beginning of no longer one: its first words say how long it is.
-- Assumes nothing.
use Rattle.std.specs.Prelude.{Ok, Err}
use Prim.Native.Nat.{ℕ, ◌+◌, ◌≤◌, ◌<◌}
use mathlib.Core.Path.{◌≡◌, refl, ap}
use mathlib.Core.Logic.{◌≢◌, ◌⊎◌, inl, inr}
use mathlib.Core.List.{List, [], ◌∷◌, ◌++◌}
use mathlib.Core.Bool.{Bool, true, false}
use lib.ListN.{length, get_or, length-append}
use lib.Dec.{leb, eqb}
use native.Mathlib.Omega.{arith}
use borrow.Author.Tests.{leb-true, leb-false, eqb-true, eqb-false}
use Rattle.lent.specs.Lent.{lent, word_at}
use Rattle.words.specs.declared.Refusal.TheVariants.{UnfitReport}
use Rattle.report.specs.Report.{Report, report, head_bytes, end_at}
use Rattle.listing.specs.Listing.{printed, listing}
use Rattle.report.proofs.Reading.{too_short, not-whole}
use Rattle.listing.proofs.Opened.{opened}
use Rattle.caller_text.specs.CallerText.{caller_text}
use Rattle.text.specs.Text.{text}
use Rattle.demands.specs.Reader.{ours}
use Rattle.demands.specs.Demand1.{Unfit}
use Rattle.demands.proofs.Wider.{more-word}

unfit : (s : List ℕ) → report s ≡ Err UnfitReport → Unfit ours s
unfolding listing caller_text opened
unfit s e = (rw e refl, rw e refl)

-- so that what is no report is told from what is one: a report's listing starts with another letter
fit : (s : List ℕ) (p : Report) → report s ≡ Ok p → listing s ≢ text "refused 14\n"
unfolding listing printed
fit s p e q = let z : ◌≡◌ {A = ℕ} 0x66 0x72 = ap (λ (t : List ℕ). get_or t 0 0) (rw e at q) in omega arith

module _ (file more : List ℕ) where
  same_word : (i : ℕ) → i + 4 ≤ length file → word_at (lent 0 (file ++ more)) i ≡ word_at (lent 0 file) i
  same_word i h = more-word (lent 0 file) (lent 0 (file ++ more)) (record { before = []; after = more; base = refl; bytes = refl }) i (omega arith) (omega (arith, h))

  same_whole : head_bytes ≤ length file → end_at (file ++ more) ≡ end_at file
  same_whole h = rw (same_word 12 (omega (arith, h)), same_word 20 (omega (arith, h)), same_word 28 (omega (arith, h))) refl

some_more : (more : List ℕ) → more ≢ [] → 0 < length more
some_more [] h = absurd (h refl)
some_more (b ∷ more) h = omega arith

pub whole-file : (file more : List ℕ) → more ≢ [] → Unfit ours file ⊎ Unfit ours (file ++ more)
whole-file file more h = go (leb head_bytes (length file)) (eqb (length file) (end_at file)) refl refl
  where
    longer : head_bytes ≤ length file → length file ≡ end_at file → length (file ++ more) ≢ end_at (file ++ more)
    longer a e q = omega (arith, length-append file more, some_more more h, same_whole file more a, e, q)

    go : (a b : Bool) → leb head_bytes (length file) ≡ a → eqb (length file) (end_at file) ≡ b → Unfit ours file ⊎ Unfit ours (file ++ more)
    go false b p q = inl (unfit file (too_short file (leb-false head_bytes (length file) p)))
    go true false p q = inl (unfit file (not-whole file (eqb-false (length file) (end_at file) q)))
    go true true p q = inr (unfit (file ++ more) (not-whole (file ++ more) (longer (leb-true head_bytes (length file) p) (eqb-true (length file) (end_at file) q))))
