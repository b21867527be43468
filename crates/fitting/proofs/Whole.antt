-- The whole answer, by what 4 to 7 say of the record and what reading it came to.
-- Assumes nothing.
use Rattle.std.specs.Prelude.{if◌then◌else◌, Ok, Err, IsOk}
use Prim.Native.Nat.{ℕ}
use mathlib.Core.Path.{◌≡◌, refl, sym, ap, ◌∙◌}
use mathlib.Core.List.{List}
use mathlib.Core.Bool.{true, false}
use lib.ListN.{length}
use lib.Dec.{ltb}
use native.Mathlib.Omega.{arith}
use Rattle.words.specs.declared.Refusal.{Refusal}
use Rattle.words.specs.declared.Refusal.TheVariants.{UnfitInput}
use Rattle.words.specs.Answer.{Res, ◌>>=◌, either, verdict}
use Rattle.words.proofs.Tests.{if-true, if-false}
use Rattle.lent.specs.Lent.{Lent, lent}
use Rattle.unwinding.specs.Shape.{Shape}
use Rattle.unwinding.specs.View.{View, view}
use Rattle.unwinding.proofs.Mapping.{mapped, view_of}
use Rattle.codes.specs.Code.{size, codes_at}
use Rattle.codes.specs.declared.Code.{Code}
use Rattle.xdata.specs.Xdata.{fit_xdata}
use Rattle.record.specs.Record.{shape_at}
use Rattle.record.specs.AsCoded.Plan.{shape_by, read_of, codes_in, read_shape}
use Rattle.record.specs.declared.Record as Read
use Rattle.record.proofs.Shapes.{read-shape, read-given}
use Rattle.place.specs.Judged.{view_at}
use Rattle.comparing.specs.Items.{Coded, size_of, coded_at}
use Rattle.comparing.proofs.Scanning.{view-coded}
use Rattle.fitting.specs.Fitting.{answered, view_fitted, shape_fitted, fitted}
use Rattle.fitting.specs.AsCoded.Passes.{plan_fitted}
use Rattle.fitting.specs.declared.FitRefusal.TheVariants.{Record, Short}
use Rattle.fitting.proofs.Planned.{plan-compared}

pub fit-unfit : (x : Lent) (w : ℕ) (s : List ℕ) → fit_xdata x ≡ false → Err (Record UnfitInput) ≡ fitted x w s
unfolding fitted
fit-unfit x w s h = if-false _ _ h

pub fit-shape : (x : Lent) (w : ℕ) (s : List ℕ) (y : Res Shape) → fit_xdata x ≡ true → shape_at x w ≡ y → either y (λ r. Err (Record r)) (shape_fitted s) ≡ fitted x w s
unfolding fitted
fit-shape x w s y h e = ap (λ z. either z (λ r. Err (Record r)) (shape_fitted s)) (sym e) ∙ if-true _ _ h

no-refusal : {A : Type 0} (r : Refusal) → ◌≡◌ {A = Res (Unit {0})} (Err r) (Ok tt) → A
no-refusal r h = absurd (let z : ◌≡◌ {A = ℕ} 0 1 = cc in omega arith)

-- a refusal of 4 to 7 stays
pub fit_refused : (x : Lent) (w : ℕ) (s : List ℕ) (r : Refusal) → fit_xdata x ≡ true → verdict (view_at x w) ≡ Err r → Err (Record r) ≡ fitted x w s
fit_refused x w s r h q = go (shape_at x w) refl q ∙ fit-shape x w s (shape_at x w) h refl
  where
    same : (t : Refusal) → ◌≡◌ {A = Res (Unit {0})} (Err t) (Err r) → t ≡ r
    same t e = cc

    by-view : (y : Res (View Coded)) (z : Res (View Code)) (sh : Shape) → mapped (view_of (λ (d : Coded). d.code)) y ≡ z → verdict z ≡ Err r → Err (Record r) ≡ either y (λ t. Err (Record t)) (view_fitted s sh)
    by-view (Ok v) z sh e f = absurd (let g : ◌≡◌ {A = Res (Unit {0})} (Ok tt) (Err r) = ap verdict e ∙ f in let n : ◌≡◌ {A = ℕ} 0 1 = cc in omega arith)
    by-view (Err t) z sh e f = ap (λ u. Err (Record u)) (sym (same t (ap verdict e ∙ f)))

    go : (y : Res Shape) → shape_at x w ≡ y → verdict (y >>= view size codes_at) ≡ Err r → Err (Record r) ≡ either y (λ t. Err (Record t)) (shape_fitted s)
    go (Err t) e f = ap (λ u. Err (Record u)) (sym (same t f))
    go (Ok sh) e f = by-view (view size_of coded_at sh) (view size codes_at sh) sh (view-coded sh) f

-- a record that 4 to 7 do not refuse is read, and compared by its plan
module _ (b : ℕ) (x : List ℕ) (w : ℕ) (judged : verdict (view_at (lent b x) w) ≡ Ok tt) where
  pub read-judged : IsOk (read_of (lent b x) w)
  read-judged = go (read_of (lent b x) w) refl
    where
      go : (r : Res Read.Record) → read_of (lent b x) w ≡ r → IsOk r
      go (Ok f) e = refl
      go (Err why) e =
          no-refusal why (sym (ap (λ s. verdict (s >>= view size codes_at)) (read-shape b x w ∙ ap (read_shape x) e)) ∙ judged)

  module _ (s : List ℕ) (f : Read.Record) (is : read_of (lent b x) w ≡ Ok f) where
    abbrev shape : Shape
    shape = shape_by f.plan (codes_in f.codes x) x

    by-view :
        (y : Res (View Coded)) → view size_of coded_at shape ≡ y → verdict (mapped (view_of (λ (d : Coded). d.code)) y) ≡ Ok tt
        → plan_fitted s (codes_in f.codes x) f.plan x ≡ either y (λ t. Err (Record t)) (view_fitted s shape)
    by-view (Ok v) e g = ap (λ c. if ltb (length s) f.plan.span then Err Short else answered c) (sym (plan-compared s shape v e))
    by-view (Err r) e g = no-refusal r g

    pub fit-given : fit_xdata (lent b x) ≡ true → plan_fitted s (codes_in f.codes x) f.plan x ≡ fitted (lent b x) w s
    fit-given h =
        let e = read-given b x w f is in
        by-view (view size_of coded_at shape) refl
        (ap verdict (view-coded shape) ∙ sym (ap (λ z. verdict (z >>= view size codes_at)) e) ∙ judged)
        ∙ fit-shape (lent b x) w s _ h e
