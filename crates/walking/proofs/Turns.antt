-- A turn of the walk, in place and as the code has it by value; and that each frame keeps the bounds that its sums need.
-- Assumes nothing.
use Rattle.std.specs.Prelude.{Result, Ok, Err, if◌then◌else◌}
use Prim.Native.Nat.{ℕ, ◌≤◌}
use mathlib.Core.Path.{◌≡◌, refl, sym}
use mathlib.Core.Bool.{Bool, true, false}
use mathlib.Core.List.{List}
use native.Mathlib.Omega.{arith}
use lib.Dec.{eqb}
use Rattle.unwinding.specs.AsCoded.Turn as General
use Rattle.unwinding.proofs.Rising.{Bounded, next-few}
use Rattle.pdata.specs.declared.Checked.{Checked}
use Rattle.frame.specs.declared.Came.{Came}
use Rattle.frame.specs.Frame.{Inputs}
use Rattle.frame.specs.AsCoded.InPlace.{caller_by, came_to}
use Rattle.frame.proofs.Bounds.{frame-sp, frame-codes}
use Rattle.walking.specs.declared.Standing.{Standing}
use Rattle.walking.specs.declared.Stop.{Stop}
use Rattle.walking.specs.declared.Turn.{Turn}
use Rattle.walking.specs.Walk.{arm, frames, next_frame}
use Rattle.walking.specs.AsCoded.Turn.{state, turned}
use Rattle.walking.specs.AsCoded.InPlace.{stands, halted_at}

pub bounded : (t : Inputs) → Bounded arm (frames t) 1020
bounded t = record { up = λ first g c e. frame-sp first t g c e; few = λ first g c e. frame-codes first t g c e }

pub came-codes : (t : Inputs) (s : Standing) (r d : List ℕ) (u : Came) (a b : List ℕ)
    → came_to (Ok u) a b ≡ next_frame (eqb s.frames 0) t (stands s r d).at → u.codes ≤ 1020
came-codes t s r d u a b is = next-few arm (frames t) 1020 (bounded t) _ (stands s r d).at (caller_by u a b) (sym is)

-- the frame at which a turn stops is that of the walk's turn, whatever the lent lists hold
pub halted-frame : (s : Standing) (r d : List ℕ) (z : Stop) → halted_at s ≡ (General.halted arm (stands s r d) z).frame
halted-frame s r d z = refl

-- what a turn that goes on was, and one that does not
module _ (k : Checked) (y : General.Turn arm) where
  abbrev made : Bool → Result Turn Stop
  made b = if b then Ok (record { frame = y.frame; next = state k y.next }) else Err y.stop

  pub went_on : (r : Turn) → turned k y ≡ Ok r → (y.on ≡ true) × (record { frame = y.frame; next = state k y.next } ≡ r)
  went_on r e = go y.on refl e
    where
      go : (b : Bool) → y.on ≡ b → made b ≡ Ok r → (y.on ≡ true) × (record { frame = y.frame; next = state k y.next } ≡ r)
      go true o h = (o, cc h)
      go false o h = absurd (let z : ◌≡◌ {A = ℕ} 0 1 = cc in omega arith)

  pub went-no : (z : Stop) → turned k y ≡ Err z → (y.on ≡ false) × (y.stop ≡ z)
  went-no z e = go y.on refl e
    where
      go : (b : Bool) → y.on ≡ b → made b ≡ Err z → (y.on ≡ false) × (y.stop ≡ z)
      go true o h = absurd (let z : ◌≡◌ {A = ℕ} 0 1 = cc in omega arith)
      go false o h = (o, cc h)
