-- Walks, asked of any reader (unwinding/specs/Singly.antt): its walk goes by its own single frames, and with less room it is cut short, never
-- another.
use Rattle.std.specs.Prelude.{◌≤◌, List, length}
use Rattle.unwinding.specs.Singly.{Follows, Cut}
use Rattle.machine.specs.declared.Regs.{Regs}
use Rattle.frame.specs.Frame.{Inputs}
use Rattle.walking.specs.Walk.{arm}
use Rattle.walking.specs.declared.Frame.{Frame}
use Rattle.demands.specs.Reader.{Reader, alone, seen}

pub record WalkLaws (a : Reader) : Type 0 where
  pub follows : (t : Inputs) (g : Regs) (l : List Frame) → Follows arm (λ h. alone (a.unwind t h)) g (length l) (seen (a.walk t g l))
  pub less : (t : Inputs) (g : Regs) (l l' : List Frame) → length l ≤ length l' → Cut arm (length l) (seen (a.walk t g l)) (seen (a.walk t g l'))
