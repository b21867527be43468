-- The fields of a word fit, and its list is theirs. Assumes nothing.
use Prim.Native.Nat.{◌+◌}
use mathlib.Core.Path.{ap, ◌∙◌}
use Rattle.codes.specs.Table.{lr_if}
use Rattle.packed.specs.Packed.{integers}
use Rattle.packed.proofs.Words.{fields_fit_lem}
use Rattle.packed.proofs.registers.Goals as goal

pub list-requires : goal.list-requires
list-requires c = rw c.fields.ensures (fields_fit_lem c.args.word)

pub returns : goal.returns
returns c =
    let a = c.args in
    c.list.ensures ∙ ap (λ p. integers p a.fold + lr_if p.l) c.fields.ensures
