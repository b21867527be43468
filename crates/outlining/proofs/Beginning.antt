-- Where the parts of an outline begin: what was read of a report is ready for the first, and its parts are left, or the refusal.
-- Assumes nothing.
use Rattle.std.specs.Prelude.{Ok, Err}
use Prim.Native.Nat.{ℕ}
use mathlib.Core.Path.{◌≡◌, refl, sym}
use mathlib.Core.List.{List, [], ◌∷◌, ◌++◌}
use native.Mathlib.Omega.{arith}
use Rattle.words.specs.declared.Refusal.{Refusal}
use Rattle.words.specs.Answer.{Res, ◌>>=◌}
use Rattle.report.specs.declared.Parts.{Parts}
use Rattle.report.specs.AsCoded.Parts as Report
use Rattle.report.specs.AsCoded.Parts.{Lie}
use Rattle.report.proofs.Reading.{read-given, read-refused}
use Rattle.text.specs.Text.{text}
use Rattle.listing.specs.Listing.{refused_text}
use Rattle.outlining.specs.declared.At.{At}
use Rattle.outlining.specs.AsCoded.Parts.{parts_at, parts, standing_at, inputs_at, Ready, first_at, begun_at}

-- where an outline begins, it is ready
pub first-ready : (s : List ℕ) (p : Parts) → Lie s p → Ready s (first_at s p)
first-ready s p h = record {
  lie = h;
  stands = record { checks = refl; table = refl; small = record { rose = omega arith; few = omega arith }; room = omega arith };
}

-- and its parts are left, unless the report is refused: then the refusal is the only one
pub begun-given : (s : List ℕ) (a : At) → Ok a ≡ begun_at s → parts s ≡ parts_at (inputs_at s a) (standing_at a)
unfolding parts
begun-given s a e = go (Report.parts s) refl e
  where
    go : (r : Res Parts) → Report.parts s ≡ r → Ok a ≡ r >>= (λ p. Ok (first_at s p)) → parts s ≡ parts_at (inputs_at s a) (standing_at a)
    go (Ok p) q f = let z : a ≡ first_at s p = cc in rw (read-given s p (sym q), z) refl
    go (Err r) q f = absurd (let z : ◌≡◌ {A = ℕ} 0 1 = cc in omega arith)

pub begun-refused : (s : List ℕ) (r : Refusal) → Err r ≡ begun_at s → parts s ≡ (refused_text r ++ text "\n") ∷ []
unfolding parts
begun-refused s r e = go (Report.parts s) refl e
  where
    go : (x : Res Parts) → Report.parts s ≡ x → Err r ≡ x >>= (λ p. Ok (first_at s p)) → parts s ≡ (refused_text r ++ text "\n") ∷ []
    go (Ok p) q f = absurd (let z : ◌≡◌ {A = ℕ} 0 1 = cc in omega arith)
    go (Err why) q f = let z : r ≡ why = cc in rw (read-refused s why (sym q), z) refl
