-- A byte more is a store more; past the end, one text after another.
-- Assumes nothing.
use Prim.Native.Nat.{◌+◌, ◌≤◌}
use mathlib.Core.Path.{sym, ap, ◌∙◌}
use mathlib.Core.List.{[], ◌∷◌}
use lib.ListN.{length, set, length-append}
use native.Mathlib.Omega.{arith}
use borrow.Author.Tests.{ltb-true}
use Rattle.text.proofs.Overlaid.{overlay-next, overlay-length, fitted, joined}
use Rattle.text.proofs.put_word.Goals as goal

pub lay_text-requires : goal.lay_text-requires
lay_text-requires c =
    let a = c.args in
    let h : a.at + length a.s.now ≤ length a.out.now = omega (arith, ltb-true) in
    h

pub bounds-out-at : goal.bounds-out-at
bounds-out-at c =
    let a = c.args in
    omega (arith, ltb-true, ap length c.lay_text.ensures ∙ overlay-length a.out.now a.at a.s.now)

pub returns-then-s-out : goal.returns-then-s-out
returns-then-s-out c =
    let a = c.args in
    fitted (omega (arith, length-append a.s.now (a.after ∷ []))) (omega (arith, ltb-true)) (omega arith)
    (ap (λ o. set o (a.at + length a.s.now) a.after) c.lay_text.ensures ∙ sym (overlay-next a.out.now a.at a.s.now a.after))

pub returns : goal.returns
returns c = joined c.put_bytes-next.ensures c.put_byte.ensures
