-- By whether the word is allowed: both lists of its fields, or refused. Assumes nothing.
use Rattle.std.specs.Prelude.{Ok}
use mathlib.Core.Path.{sym, ap, ◌∙◌}
use Rattle.packed.specs.Packed.{allowed}
use Rattle.packed_codes.proofs.Written.{codes-refused, codes-given}
use Rattle.packed_codes.proofs.write_codes.Goals as goal

pub returns-then-allowed : goal.returns-then-allowed
returns-then-allowed c =
    ap Ok c.both_lists.ensures
    ∙ sym (codes-given c.args.word (sym (ap allowed c.fields.ensures) ∙ sym c.allowed.ensures ∙ c.if-allowed.true))

pub returns : goal.returns
returns c = sym (codes-refused c.args.word (sym (ap allowed c.fields.ensures) ∙ sym c.allowed.ensures ∙ c.if-allowed.false))
