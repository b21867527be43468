-- The loop's invariant: the lines of the frames so far are laid, and the rest of the walk is left (proofs/Printing.antt). A turn more fills one
-- of the 256 places, or is the last.
-- Assumes nothing.
use mathlib.Core.Path.{◌≡◌, refl, sym, subst}
use native.Mathlib.Omega.{arith}
use Rattle.frame.specs.Frame.{inputs}
use Rattle.unwinding.specs.AsCoded.Turn.{begun}
use Rattle.walking.specs.declared.Standing.{Standing}
use Rattle.walking.specs.Walk.{arm, walk}
use Rattle.walking.specs.AsCoded.InPlace.{stands}
use Rattle.text.specs.Overlay.{Laid}
use Rattle.text.proofs.Overlaid.{none}
use Rattle.listing.specs.Listing.{printed}
use Rattle.listing.proofs.Printing.{printing-begins, printing-small, printing-on, printing-less, printing-ends, printing-headed}
use Rattle.listing.proofs.put_walk.Goals as goal

pub loop-going-init : goal.loop-going-init
loop-going-init c =
    let k = c.stand-s in
    let g = c.args.g in
    printing-begins _ (stands k.result g.r g.d) _ _
    (subst (λ (p : Standing). stands p g.r g.d ≡ begun arm (stands p g.r g.d).at) (sym k.ensures) refl)
    (none _ _ (omega arith) (omega arith))

pub turn_in-x-requires : goal.turn_in-x-requires
turn_in-x-requires c = (c.check-c.ensures, printing-small _ _ c.loop-going.invariant)

pub loop-going-smaller : goal.loop-going-smaller
loop-going-smaller c =
    let l = c.loop-going in
    let x = c.turn_in-x in
    printing-less _ _ l.s l.r l.d l.invariant c.in-Ok.going x.new.r x.new.d (rw c.in-Ok.is at x.ensures)

pub loop-going-preserved : goal.loop-going-preserved
loop-going-preserved c =
    let l = c.loop-going in
    let x = c.turn_in-x in
    printing-on _ _ l.s l.r l.d l.invariant c.in-Ok.going x.new.r x.new.d (rw c.in-Ok.is at x.ensures) (rw c.in-Ok.is at c.put_turn-next.ensures)

pub returns-in-Err : goal.returns-in-Err
returns-in-Err c =
    let l = c.loop-going in
    let a = c.args in
    let x = c.turn_in-x in
    let t = inputs a.image a.pdata.now a.rva a.xdata.now a.base a.stack.now in
    let k = c.stand-s in
    subst (λ (p : Standing). Laid a.out.now 0 (printed (walk t 256 (stands p a.g.r a.g.d).at)) c.put_turn-next.result c.put_turn-next.new.out) k.ensures
    (printing-headed t (stands k.result a.g.r a.g.d).at c.put_text-next.ensures
    (printing-ends _ _ l.s l.r l.d l.invariant _ x.new.r x.new.d (rw c.in-Err.is at x.ensures) (rw c.in-Err.is at c.put_turn-next.ensures)))
