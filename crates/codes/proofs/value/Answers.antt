-- `codes::value` meets its contract: a number of one byte more at each test.
-- Assumes nothing.
use mathlib.Core.Path.{◌≡◌, sym, ap, ◌∙◌}
use native.Mathlib.Omega.{arith}
use Rattle.codes.proofs.Values.{bytes, bytes_one, bytes-more}
use Rattle.codes.proofs.value.Goals as goal

pub returns-then-n-eq1 : goal.returns-then-n-eq1
returns-then-n-eq1 c =
    let a = c.args in
    bytes_one a.codes.now a.at _ (omega arith) c.byte-one.ensures.0 ∙ ap (bytes a.codes.now a.at) (sym c.if-n-eq1.true)

pub returns-then-n-eq2 : goal.returns-then-n-eq2
returns-then-n-eq2 c =
    let a = c.args in
    let one = bytes_one a.codes.now a.at _ (omega arith) c.byte-one.ensures.0 in
    bytes-more a.codes.now a.at 1 _ _ (omega arith) one c.byte.ensures.0 ∙ ap (bytes a.codes.now a.at) (sym c.if-n-eq2.true)

pub returns-then-n-eq3 : goal.returns-then-n-eq3
returns-then-n-eq3 c =
    let a = c.args in
    let one = bytes_one a.codes.now a.at _ (omega arith) c.byte-one.ensures.0 in
    let two = bytes-more a.codes.now a.at 1 _ _ (omega arith) one c.byte.ensures.0 in
    bytes-more a.codes.now a.at 2 _ _ (omega arith) two c.byte-2.ensures.0 ∙ ap (bytes a.codes.now a.at) (sym c.if-n-eq3.true)

pub returns : goal.returns
returns c =
    let a = c.args in
    let one = bytes_one a.codes.now a.at _ (omega arith) c.byte-one.ensures.0 in
    let two = bytes-more a.codes.now a.at 1 _ _ (omega arith) one c.byte.ensures.0 in
    let three = bytes-more a.codes.now a.at 2 _ _ (omega arith) two c.byte-2.ensures.0 in
    let n : 4 ≡ a.n = omega arith in
    bytes-more a.codes.now a.at 3 _ _ (omega arith) three c.byte-3.ensures.0 ∙ ap (bytes a.codes.now a.at) n
