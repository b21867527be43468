-- What `==` of instructions tells: that they are equal.
-- Assumes nothing.
use Prim.Native.Nat.{ℕ}
use mathlib.Core.Path.{◌≡◌, refl, sym, ap, ap₂, ◌∙◌}
use mathlib.Core.Bool.{Bool, true, false, ◌&&◌}
use mathlib.Core.Logic.{◌⊎◌, inl, inr, ⊎_elim}
use lib.Dec.{eqb}
use borrow.Author.Tests.{eqb-true}
use Rattle.words.proofs.Tests.{both}
use Rattle.thumb.specs.declared.Action.{Action}
use Rattle.thumb.specs.declared.Action.TheVariants.{Push, Pop, Vpush, Vpop, SubSp, AddSp, Mov, Store, Load, Bx, Branch, Other}
use Rattle.thumb.specs.contracts.Action.{as_values}
use Rattle.thumb.specs.contracts.ActionEq.TheImpl.Laws.{laws-law}
use Rattle.expected.specs.Expected.{same}

-- a test that tells what is equal
abbrev Tells : {A : Type 0} → (A → A → Bool) → Type 0
Tells {A} E = (x y : A) → E x y ≡ true → x ≡ y

-- the numbers of an instruction, one or two
abbrev One : Type 0
One = ℕ × Unit {0}

abbrev Two : Type 0
Two = ℕ × One

-- an instruction of the first kind, or of those behind it
kinds :
    {A B : Type 0} {E : A → A → Bool} {F : B → B → Bool} → Tells E → Tells F
    → Tells (λ c d. ⊎_elim (λ x. ⊎_elim (λ y. E x y) (λ y. false) d) (λ x. ⊎_elim (λ y. false) (λ y. F x y) d) c)
kinds e f (inl x) (inl y) h = ap inl (e x y h)
kinds e f (inl x) (inr y) h = cc
kinds e f (inr x) (inl y) h = cc
kinds e f (inr x) (inr y) h = ap inr (f x y h)

none : Tells (λ (x y : Unit {0}). true)
none x y h = refl

one : Tells (λ (x y : One). eqb x.0 y.0)
one x y h = ap (λ n. (n, tt)) (eqb-true x.0 y.0 h)

two : Tells (λ (x y : Two). eqb x.0 y.0 && eqb x.1.0 y.1.0)
two x y h =
    let p = both (eqb x.0 y.0) (eqb x.1.0 y.1.0) h in
    ap₂ (λ n m. (n, (m, tt))) (eqb-true x.0 y.0 p.0) (eqb-true x.1.0 y.1.0 p.1)

end : Tells (λ (x y : ⊥). absurd x)
end x y h = absurd x

-- the instruction of a kind, with its numbers
abbrev Kinds : Type 0
Kinds = One ⊎ (One ⊎ (Two ⊎ (Two ⊎ (One ⊎ (One ⊎ (Two ⊎ (Two ⊎ (Two ⊎ (One ⊎ (Unit {0} ⊎ (Unit {0} ⊎ ⊥)))))))))))

built : Kinds → Action
built (inl x) = Push x.0
built (inr (inl x)) = Pop x.0
built (inr (inr (inl x))) = Vpush x.0 x.1.0
built (inr (inr (inr (inl x)))) = Vpop x.0 x.1.0
built (inr (inr (inr (inr (inl x))))) = SubSp x.0
built (inr (inr (inr (inr (inr (inl x)))))) = AddSp x.0
built (inr (inr (inr (inr (inr (inr (inl x))))))) = Mov x.0 x.1.0
built (inr (inr (inr (inr (inr (inr (inr (inl x)))))))) = Store x.0 x.1.0
built (inr (inr (inr (inr (inr (inr (inr (inr (inl x))))))))) = Load x.0 x.1.0
built (inr (inr (inr (inr (inr (inr (inr (inr (inr (inl x)))))))))) = Bx x.0
built (inr (inr (inr (inr (inr (inr (inr (inr (inr (inr (inl x))))))))))) = Branch
built (inr (inr (inr (inr (inr (inr (inr (inr (inr (inr (inr (inl x)))))))))))) = Other
built (inr (inr (inr (inr (inr (inr (inr (inr (inr (inr (inr (inr x)))))))))))) = absurd x

rebuilt : (a : Action) → built (as_values a) ≡ a
unfolding built
rebuilt (Push l) = refl
rebuilt (Pop l) = refl
rebuilt (Vpush s e) = refl
rebuilt (Vpop s e) = refl
rebuilt (SubSp n) = refl
rebuilt (AddSp n) = refl
rebuilt (Mov d m) = refl
rebuilt (Store t n) = refl
rebuilt (Load t n) = refl
rebuilt (Bx m) = refl
rebuilt Branch = refl
rebuilt Other = refl

pub same-equal : (a b : Action) → same a b ≡ true → a ≡ b
unfolding same
same-equal a b h =
    let behind = kinds one (kinds one (kinds two (kinds two (kinds two (kinds one (kinds none (kinds none end))))))) in
    sym (rebuilt a) ∙ ap built (kinds one (kinds one (kinds two (kinds two behind))) (as_values a) (as_values b) h) ∙ rebuilt b

pub equal-same : (a b : Action) → a ≡ b → same a b ≡ true
unfolding same
equal-same a b h = ap (λ x. same x b) h ∙ laws-law.refl b
