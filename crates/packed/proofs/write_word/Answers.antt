-- By whether the writer takes the fields: the sum of fields that fit, or refused. Assumes nothing.
use Rattle.std.specs.Prelude.{Ok}
use mathlib.Core.Path.{sym, ap, ◌∙◌}
use Rattle.packed.proofs.Words.{fit-true, write-given, write-large, write-not-allowed}
use Rattle.packed.proofs.write_word.Goals as goal
use Rattle.packed.proofs.write_word.Goals.{else-fields_fit-via-then-fields_fit+else-allowed, else-fields_fit-via-else-fields_fit}

pub fields_fit-requires : goal.fields_fit-requires
fields_fit-requires c = tt

pub allowed-requires : goal.allowed-requires
allowed-requires c = tt

pub word_of-requires : goal.word_of-requires
word_of-requires c = fit-true c.args.p (sym c.fields_fit.ensures ∙ c.if-fields_fit.true)

pub returns-then-allowed : goal.returns-then-allowed
returns-then-allowed c =
    let p = c.args.p in
    ap Ok c.word_of.ensures
    ∙ sym (write-given p (sym c.fields_fit.ensures ∙ c.if-fields_fit.true) (sym c.allowed.ensures ∙ c.if-allowed.true))

pub returns : goal.returns
returns c =
    let p = c.args.p in
    let f = sym c.fields_fit.ensures in
    sym
    (elim c.else-fields_fit.branch [
      | else-fields_fit-via-then-fields_fit+else-allowed w ↦ write-not-allowed p (sym w.allowed.ensures ∙ w.if-allowed.false)
      | else-fields_fit-via-else-fields_fit w ↦ write-large p (f ∙ w.if-fields_fit.false)
    ])
