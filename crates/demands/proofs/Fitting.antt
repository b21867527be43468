-- Order 3, of our checker.
-- Assumes nothing.
use Rattle.std.specs.Prelude.{if◌then◌else◌, Ok, Err}
use Prim.Native.Nat.{ℕ, ◌≤◌}
use mathlib.Core.Path.{◌≡◌, refl, sym, ap, ◌∙◌}
use mathlib.Core.Logic.{inl, inr}
use mathlib.Core.Bool.{Bool, true, false, not, true≢false}
use mathlib.Core.List.{List, ◌++◌}
use native.Mathlib.Omega.{arith}
use Rattle.words.specs.Refusals.{number}
use Rattle.words.specs.declared.Refusal.{Refusal}
use Rattle.words.specs.declared.Refusal.TheVariants.{UnfitInput}
use Rattle.words.specs.Answer.{Res, either}
use Rattle.lent.specs.Lent.{Lent}
use Rattle.unwinding.specs.Extent.{of_extent}
use Rattle.unwinding.specs.Shape.{Shape}
use Rattle.unwinding.specs.View.{view}
use Rattle.unwinding.proofs.Staying.{Stays}
use Rattle.codes.specs.Code.{size, codes_at}
use Rattle.xdata.specs.Xdata.{fit_xdata}
use Rattle.record.specs.Record.{shape_at}
use Rattle.place.specs.Judged.{view_at}
use Rattle.fitting.specs.Fitting.{fit_number, shape_fitted, fitted}
use Rattle.fitting.specs.Exactly.{Unread}
use Rattle.fitting.specs.declared.FitRefusal.{FitRefusal}
use Rattle.fitting.specs.declared.FitRefusal.TheVariants.{Record, Short, Differs}
use Rattle.fitting.proofs.Exact.{exactly}
use Rattle.fitting.proofs.Behind.{fit-behind}
use Rattle.executing.specs.Claims.{FitDemand3}
use Rattle.executing.proofs.Demand as Executing
use Rattle.demands.specs.Reader.{ours}
use Rattle.demands.specs.Demand1.{More}
use Rattle.demands.specs.Fitting.{ours_of_fits, lasts, FitNumber, Order3}
use Rattle.demands.proofs.Numbers.{Only, bound, only-shape, only-view}
use Rattle.demands.proofs.Wider.{stays_at}

-- ---- the numbers
abbrev Early : ℕ → Type 0
Early k = (4 ≤ k) × (k ≤ 7)

early : (x : Lent) (w : ℕ) → Only Early (view_at x w)
early x w =
    bound Early (shape_at x w) (view size codes_at) (only-shape Early (omega arith, omega arith) (omega arith, omega arith) x w)
    (λ s. only-view Early (omega arith, omega arith) (omega arith, omega arith) s)

unread-number : (x : Lent) (w : ℕ) (r : Refusal) → Unread x w r → FitNumber (number r)
unread-number x w r (inl h) = inl (ap number h.1)
unread-number x w r (inr h) = inr (inl (early x w r h.1))

fit-number : (x : Lent) (w : ℕ) (s : List ℕ) (r : FitRefusal) → fitted x w s ≡ Err r → FitNumber (fit_number r)
fit-number x w s (Record r) e = unread-number x w r (((exactly x w s).unread r).0 e)
fit-number x w s Short e = inr (inr (inr refl))
fit-number x w s (Differs o) e = inr (inr (inl refl))

-- ---- with more .xdata
module _ (x x' : Lent) (w : ℕ) (s : List ℕ) (m : More x x') (f : fit_xdata x' ≡ true) where
  stays-read : (y y' : Res Shape) → Stays y y' → lasts (either y (λ r. Err (Record r)) (shape_fitted s)) ≡ true → either y' (λ r. Err (Record r)) (shape_fitted s) ≡ either y (λ r. Err (Record r)) (shape_fitted s)
  stays-read (Ok sh) y' h l = rw (h refl) refl
  stays-read (Err r) y' h l = go (of_extent (number r)) refl l
    where
      go : (t : Bool) → of_extent (number r) ≡ t → not t ≡ true → either y' (λ r. Err (Record r)) (shape_fitted s) ≡ Err (Record r)
      go true e k = absurd (true≢false (sym k))
      go false e k = rw (h e) refl

  stays-xdata : lasts (fitted x w s) ≡ true → fitted x' w s ≡ fitted x w s
  unfolding fitted
  stays-xdata l = go (fit_xdata x) l
    where
      go :
          (t : Bool) → lasts (if t then either (shape_at x w) (λ r. Err (Record r)) (shape_fitted s) else Err (Record UnfitInput)) ≡ true
          → (if fit_xdata x' then either (shape_at x' w) (λ r. Err (Record r)) (shape_fitted s) else Err (Record UnfitInput))
          ≡ (if t then either (shape_at x w) (λ r. Err (Record r)) (shape_fitted s) else Err (Record UnfitInput))
      go true k = rw f (stays-read (shape_at x w) (shape_at x' w) (stays_at x x' m w) k)
      go false k = absurd (true≢false (sym k))

-- ---- and more code
stays : (x x' : Lent) (w : ℕ) (s more : List ℕ) → More x x' → fit_xdata x' ≡ true → lasts (fitted x w s) ≡ true → fitted x' w (s ++ more) ≡ fitted x w s
stays x x' w s more m f l =
    let e = stays-xdata x x' w s m f l in
    fit-behind x' w s more (λ q. true≢false (sym (ap lasts (sym (sym e ∙ q)) ∙ l) ∙ refl)) ∙ e

pub order3 : Order3 ours_of_fits
order3 = record {
  told = λ x w s. refl;
  printed = λ file. refl;
  exactly = exactly;
  numbered = fit-number;
  stays = stays;
}

-- demand 3 of functions whose record fits, whose nops and body keep their conditions
pub fit-demand3 : FitDemand3 ours.unwind
fit-demand3 = Executing.fit-demand3
