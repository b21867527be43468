-- The walk laws, of our reader.
-- Assumes nothing.
use Rattle.std.specs.Prelude.{Ok, Err}
use mathlib.Core.Path.{◌≡◌, refl}
use Rattle.words.specs.Answer.{Res}
use Rattle.unwinding.specs.Singly.{alone_of}
use Rattle.unwinding.proofs.Singly.{follows, less-room}
use Rattle.machine.specs.declared.Regs.{Regs}
use Rattle.frame.specs.Frame.{Caller, frame, unwound}
use Rattle.walking.specs.Walk.{arm, frames}
use Rattle.demands.specs.Reader.{ours, alone}
use Rattle.demands.specs.WalkLaws.{WalkLaws}
use Rattle.demands.proofs.Later.{later-frame}

alone-is : (g : Regs) (x : Res Caller) → alone (unwound g x) ≡ alone_of arm g x
alone-is g (Ok c) = refl
alone-is g (Err r) = refl

pub walk-laws : WalkLaws ours
walk-laws = record {
  follows = λ t g l. follows arm (frames t) (later-frame t) (λ h. alone (ours.unwind t h)) (λ h. alone-is h (frame t h)) l g;
  less = λ t g l l' h. less-room arm (frames t) g l l' h;
}
