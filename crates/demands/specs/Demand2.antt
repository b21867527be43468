-- Demand 2 (RULES 10.3). The rules that it speaks of are the definitions that `ours` names; a reader that answers as they do is the only
-- one. Beside it stand laws that say what its answers are for, and not how the operation is defined.
use Rattle.std.specs.Prelude.{ℕ, ◌≡◌, List}
use Rattle.lent.specs.Lent.{Lent}
use Rattle.machine.specs.declared.Regs.{Regs}
use Rattle.packed.specs.declared.Packed.{Packed}
use Rattle.frame.specs.Frame.{Inputs}
use Rattle.walking.specs.declared.Frame.{Frame}
use Rattle.demands.specs.Reader.{Reader, ours}
use Rattle.demands.specs.FindLaws.{FindLaws}
use Rattle.demands.specs.SizeLaws.{SizeLaws}
use Rattle.demands.specs.PackedLaws.{PackedLaws}
use Rattle.demands.specs.WalkLaws.{WalkLaws}

pub record Demand2 (a : Reader) : Type 0 where
  pub record_of : (image : ℕ) (pdata : List ℕ) (pc : ℕ) → a.find image pdata pc ≡ ours.find image pdata pc
  pub caller : (t : Inputs) (g : Regs) → a.unwind t g ≡ ours.unwind t g
  pub callers : (t : Inputs) (g : Regs) (l : List Frame) → a.walk t g l ≡ ours.walk t g l
  pub bytes : (x : Lent) (at : ℕ) → a.size x at ≡ ours.size x at
  pub word : (p : Packed) → a.word p ≡ ours.word p
  pub codes : (w : ℕ) → a.codes w ≡ ours.codes w
  pub printed : (file : List ℕ) → a.list file ≡ ours.list file
  pub shown : (file : List ℕ) → a.show file ≡ ours.show file
  pub finding : FindLaws a
  pub sizes : SizeLaws a
  pub packed : PackedLaws a
  pub walks : WalkLaws a
