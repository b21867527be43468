-- What refusal 13 makes of what a frame in place came to.
-- Assumes nothing.
use Rattle.std.specs.Prelude.{Ok, Err}
use Prim.Native.Nat.{ℕ}
use mathlib.Core.Path.{◌≡◌, refl, sym}
use mathlib.Core.Bool.{Bool, true, false}
use mathlib.Core.List.{List}
use mathlib.Core.Logic.{◌≢◌}
use borrow.Author.Tests.{eq-eqb, ne_eqb}
use Rattle.words.specs.declared.Refusal.{Refusal}
use Rattle.words.specs.declared.Refusal.TheVariants.{SpSame}
use Rattle.words.specs.Answer.{Res}
use Rattle.unwinding.proofs.Thirteen.{refused, passed, still, next-is}
use Rattle.machine.specs.declared.Regs.{Regs}
use Rattle.frame.specs.declared.Came.{Came}
use Rattle.frame.specs.Frame.{Inputs, Caller, frame_of}
use Rattle.frame.specs.AsCoded.InPlace.{caller_by, came_to}
use Rattle.walking.specs.Walk.{arm, frames, next_frame}

module _ (first : Bool) (t : Inputs) (g : Regs) where
  pub refused-stays : (why : Refusal) → ◌≡◌ {A = Res Caller} (Err why) (frame_of first t g) → ◌≡◌ {A = Res Caller} (Err why) (next_frame first t g)
  refused-stays why is = sym (next-is arm (frames t) first g (refused why (sym is)))

  module _ (u : Came) (r d : List ℕ) (is : came_to (Ok u) r d ≡ frame_of first t g) where
    -- the first frame's, and one that leaves another SP
    pub first-stays : first ≡ true → came_to (Ok u) r d ≡ next_frame first t g
    first-stays f = sym (next-is arm (frames t) first g (passed (caller_by u r d) (sym is) (rw f refl)))

    pub other-stays : first ≡ false → u.sp ≢ g.sp → came_to (Ok u) r d ≡ next_frame first t g
    other-stays f h = sym (next-is arm (frames t) first g (passed (caller_by u r d) (sym is) (rw (f, ne_eqb u.sp g.sp h) refl)))

    -- one after the first that leaves it the same is refused
    pub same-is-13 : first ≡ false → u.sp ≡ g.sp → ◌≡◌ {A = Res Caller} (Err SpSame) (next_frame first t g)
    same-is-13 f h = sym (next-is arm (frames t) first g (still (caller_by u r d) (sym is) (rw (f, eq-eqb u.sp g.sp h) refl)))
