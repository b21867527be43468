-- By what is expected. Assumes nothing.
use mathlib.Core.Path.{◌≡◌, sym, ap, ◌∙◌}
use mathlib.Core.Bool.{◌||◌}
use Rattle.expected.specs.Expected.{home, same, allows}
use Rattle.expected.proofs.allows.Goals as goal

pub returns-in-This : goal.returns-in-This
unfolding same
returns-in-This c =
    let a = c.args.a in
    let e : c.eq.result ≡ same a c.in-This.b = c.eq.ensures in
    e ∙ ap (λ x. allows x a) (sym c.in-This.is)

pub returns-then-eq : goal.returns-then-eq
unfolding same
returns-then-eq c =
    let a = c.args.a in
    let e : c.eq-in-OrHome.result ≡ same a c.in-OrHome.b = c.eq-in-OrHome.ensures in
    c.if-eq.true ∙ ap (λ t. t || same a home) (sym c.if-eq.true ∙ e) ∙ ap (λ x. allows x a) (sym c.in-OrHome.is)

pub returns-else-eq : goal.returns-else-eq
unfolding same
returns-else-eq c =
    let a = c.args.a in
    let e : c.eq-in-OrHome.result ≡ same a c.in-OrHome.b = c.eq-in-OrHome.ensures in
    let f : c.eq-else-eq.result ≡ same a home = c.eq-else-eq.ensures in
    f ∙ ap (λ t. t || same a home) (sym c.if-eq.false ∙ e) ∙ ap (λ x. allows x a) (sym c.in-OrHome.is)
