-- `codes::sp_from` meets its contract: each arm is a case of the definition's test.
-- Assumes nothing.
use mathlib.Core.Path.{refl}
use mathlib.Core.Logic.{inl, inr, ⊎_elim}
use borrow.Author.Tests.{ne_eqb}
use Rattle.codes.proofs.sp_from.Goals as goal

-- 15 is no 13, so each key settles the test
pub returns-in-13 : goal.returns-in-13
returns-in-13 c = ⊎_elim (λ e. rw (e) refl) (λ e. rw (e) refl) c.in-13.is

pub returns-in_default : goal.returns-in_default
returns-in_default c = rw (ne_eqb _ _ (λ e. c.in_default.in_default-own.rest.1 (inl e)), ne_eqb _ _ (λ e. c.in_default.in_default-own.rest.1 (inr e))) refl
