-- By the writer's answer: the bytes and their lengths, or its refusal and zeros. Assumes nothing.
use mathlib.Core.Path.{sym, ap, ◌∙◌}
use Rattle.exports.specs.Numbers.{code_list, lengths}
use Rattle.words.specs.Refusals.{verdict_number}
use Rattle.exports.proofs.leafbobbin_codes.Goals as goal

pub returns-in-Ok : goal.returns-in-Ok
returns-in-Ok c =
    let e = sym c.in-Ok.is ∙ c.write_codes.ensures in
    (ap verdict_number e, ap code_list e, ap lengths e)

pub returns-in-Err : goal.returns-in-Err
returns-in-Err c =
    let e = sym c.in-Err.is ∙ c.write_codes.ensures in
    (c.number.ensures ∙ ap verdict_number e, ap code_list e, ap lengths e)
