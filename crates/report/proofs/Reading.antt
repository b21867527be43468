-- When a report is read and when not, and what its parts then are.
-- Assumes nothing.
use Rattle.std.specs.Prelude.{Ok, Err}
use Prim.Native.Nat.{ℕ, ◌≤◌, ◌<◌}
use mathlib.Core.Path.{◌≡◌, refl, sym, ap, ◌∙◌}
use mathlib.Core.Bool.{Bool, true, false, ◌&&◌}
use mathlib.Core.List.{List}
use lib.ListN.{length, take}
use lib.Dec.{leb, eqb}
use borrow.Author.Tests.{le-leb, lt-leb, eq-eqb, ne_eqb}
use native.Mathlib.Nat.{add-sub_cancel_left}
use native.Mathlib.Omega.{arith}
use Rattle.words.specs.declared.Refusal.TheVariants.{UnfitReport}
use Rattle.words.specs.declared.Refusal.{Refusal}
use Rattle.words.specs.Answer.{Res, ◌>>=◌, ◌>>◌, need}
use Rattle.lent.specs.Parts.{same}
use Rattle.report.specs.declared.Parts.{Parts}
use Rattle.report.specs.Report.{Report, report, mark, head_bytes, pdata_bytes, xdata_bytes, stack_size, xdata_at, stack_at, end_at, inputs_of, regs_of}
use Rattle.report.specs.AsCoded.Parts.{parts, parts_of, inputs_in, report_in}

-- whatever was asked before, one need that fails is 14
need-14 : (b : Bool) → ◌>>◌ {B = Report} (need b UnfitReport) (Err UnfitReport) ≡ Err UnfitReport
need-14 true = refl
need-14 false = refl

pub too_short : (s : List ℕ) → length s < head_bytes → report s ≡ Err UnfitReport
unfolding report
too_short s h = rw (lt-leb head_bytes (length s) h) refl

pub too_long : (s : List ℕ) → 65536 < length s → report s ≡ Err UnfitReport
unfolding report
too_long s h = let l : head_bytes ≤ length s = omega arith in rw (le-leb head_bytes (length s) l, lt-leb (length s) 65536 h) refl

pub not-marked : (s : List ℕ) → same (take 8 s) mark ≡ false → report s ≡ Err UnfitReport
unfolding report
not-marked s e = rw e (need-14 (leb head_bytes (length s) && leb (length s) 65536))

pub not-whole : (s : List ℕ) → (length s ≡ end_at s → ⊥) → report s ≡ Err UnfitReport
unfolding report
not-whole s h = rw (ne_eqb (length s) (end_at s) h, need-14 (same (take 8 s) mark)) (need-14 (leb head_bytes (length s) && leb (length s) 65536))

pub fit : (s : List ℕ) → head_bytes ≤ length s → length s ≤ 65536 → same (take 8 s) mark ≡ true → length s ≡ end_at s → report s ≡ Ok (record { inputs = inputs_of s; regs = regs_of s })
unfolding report
fit s a b m e = rw (le-leb head_bytes (length s) a, le-leb (length s) 65536 b, m, eq-eqb (length s) (end_at s) e) refl

-- what reading answers where the report is unfit, and where it is fit
pub refused-is : (s : List ℕ) → report s ≡ Err UnfitReport → Err UnfitReport ≡ parts s
unfolding parts
refused-is s e = rw e refl

pub given_is : (s : List ℕ) {p : Parts} {r : Report} → report s ≡ Ok r → p ≡ parts_of s → Ok p ≡ parts s
unfolding parts
given_is s {p} {r} e q = rw e (ap Ok q)

-- the parts that are read give the report
inputs_in_lem : (s : List ℕ) → inputs_in s (parts_of s) ≡ inputs_of s
inputs_in_lem s =
    rw (add-sub_cancel_left head_bytes (pdata_bytes s), add-sub_cancel_left (xdata_at s) (xdata_bytes s), add-sub_cancel_left (stack_at s) (stack_size s)) refl

pub parts-report : (s : List ℕ) → report_in s (parts s) ≡ report s
unfolding parts report
parts-report s = go (leb head_bytes (length s) && leb (length s) 65536) (same (take 8 s) mark) (eqb (length s) (end_at s))
  where
    asked : (a b c : Bool) → Res Report
    asked a b c = need a UnfitReport >> (need b UnfitReport >> (need c UnfitReport >> Ok (record { inputs = inputs_of s; regs = regs_of s })))

    go : (a b c : Bool) → report_in s (asked a b c >>= (λ p. Ok (parts_of s))) ≡ asked a b c
    go true true true = rw (inputs_in_lem s) refl
    go true true false = refl
    go true false c = refl
    go false b c = refl

-- a report that was read is of its parts
pub read-given : (s : List ℕ) (p : Parts) → Ok p ≡ parts s → report s ≡ Ok (record { inputs = inputs_in s p; regs = p.regs })
read-given s p e = sym (ap (report_in s) e ∙ parts-report s)

pub read-refused : (s : List ℕ) (r : Refusal) → Err r ≡ parts s → report s ≡ Err r
read-refused s r e = sym (ap (report_in s) e ∙ parts-report s)
