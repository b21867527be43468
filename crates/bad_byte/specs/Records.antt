-- The first list of a record that cannot be read (RULES 3.8, 9.54): the lists from index 0 and then from each scope's index, in their order.
use Rattle.std.specs.Prelude.{ℕ, List, [], ◌∷◌, map}
use Rattle.unwinding.specs.Shape.{Shape}
use Rattle.unwinding.specs.declared.Scope.{Scope}
use Rattle.bad_byte.specs.Lists.{Reads, Bad}

-- where a record's lists begin
abbrev pub indices : Shape → List ℕ
indices s = 0 ∷ map (λ (e : Scope). e.index.0) s.scopes

-- from each of these a list can be read
abbrev pub AllRead : (codes : List ℕ) → List ℕ → Type 0
AllRead s [] = Unit {0}
AllRead s (i ∷ is) = Reads s i × AllRead s is

-- of lists in their order the first that cannot be read, with the byte that it tells: all before it can be read
pub data FirstOf (codes : List ℕ) : (is : List ℕ) → (byte : ℕ) → Type 0 where
  here : {i byte : ℕ} {is : List ℕ} → Bad codes i byte → FirstOf codes (i ∷ is) byte
  later : {i byte : ℕ} {is : List ℕ} → Reads codes i → FirstOf codes is byte → FirstOf codes (i ∷ is) byte

-- of a record's lists
abbrev pub FirstBad : Shape → (byte : ℕ) → Type 0
FirstBad s byte = FirstOf s.codes (indices s) byte
