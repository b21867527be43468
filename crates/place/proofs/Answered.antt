-- The answer for a record by what reading it came to.
-- Assumes nothing.
use Rattle.std.specs.Prelude.{Ok, Err}
use Prim.Native.Nat.{ℕ}
use mathlib.Core.Path.{◌≡◌, refl, sym, ap, ◌∙◌}
use mathlib.Core.List.{List}
use native.Mathlib.Omega.{arith}
use Rattle.words.specs.declared.Refusal.{Refusal}
use Rattle.words.specs.Answer.{Res, verdict, ◌>>=◌}
use Rattle.lent.specs.Lent.{lent}
use Rattle.unwinding.specs.View.{view}
use Rattle.codes.specs.Code.{size, codes_at}
use Rattle.record.specs.AsCoded.Plan.{shape_by, codes_in, read_of, read_shape}
use Rattle.record.proofs.Shapes.{read-shape, read-given}
use Rattle.record.specs.declared.Record.{Record}
use Rattle.place.specs.Judged.{view_at}
use Rattle.place.specs.AsCoded.Placed.{placed_in}
use Rattle.place.specs.declared.AnyPlaced.{AnyPlaced}

-- the code bytes beside a place are its record's
pub placed-codes :
    (x : List ℕ) (r : Res Record) (o : ℕ) (q : AnyPlaced) → Ok q ≡ (r >>= λ f. Ok (placed_in x f o))
    → (f : Record) × (r ≡ Ok f) × (q.codes ≡ f.codes)
placed-codes x (Ok f) o q is = let w : q ≡ placed_in x f o = cc in (f, refl, ap (λ q. q.codes) w)
placed-codes x (Err r) o q is = absurd (let z : ◌≡◌ {A = ℕ} 0 1 = cc in omega arith)

-- 4 to 7 by what reading the record came to
module _ (b : ℕ) (x : List ℕ) (w : ℕ) where
  pub judged-refused : (r : Refusal) → read_of (lent b x) w ≡ Err r → Err r ≡ verdict (view_at (lent b x) w)
  judged-refused r e = sym (ap (λ s. verdict (s >>= view size codes_at)) (read-shape b x w ∙ ap (read_shape x) e))

  pub judged-given :
      (f : Record) → read_of (lent b x) w ≡ Ok f
      → verdict (view size codes_at (shape_by f.plan (codes_in f.codes x) x)) ≡ verdict (view_at (lent b x) w)
  judged-given f e = sym (ap (λ s. verdict (s >>= view size codes_at)) (read-given b x w f e))
