-- What the C functions on numbers take and give (RULES 8.12): 0 or a refusal's number, and the rest in lent arrays, zeros if it is
-- refused.
use Rattle.std.specs.Prelude.{ℕ, ◌≡◌, List, [], ◌∷◌, get_or, replicate, Option, None, Some, Ok, Err}
use Rattle.words.specs.Refusals.{verdict_number}
use Rattle.words.specs.Units.{halfwords}
use Rattle.words.specs.Answer.{Res, or_else}
use Rattle.packed_codes.specs.declared.CodesOf.{CodesOf}
use Rattle.pdata.specs.declared.Entry.{Entry}
use Rattle.packed.specs.declared.Packed.{Packed}

-- whether a record was found, its number, its start and its word
abbrev pub found_numbers : Res (Option Entry) → List ℕ
found_numbers (Ok (Some e)) = 1 ∷ e.number ∷ e.start ∷ e.word ∷ []
found_numbers (Ok None) = 0 ∷ 0 ∷ 0 ∷ 0 ∷ []
found_numbers (Err r) = 0 ∷ 0 ∷ 0 ∷ 0 ∷ []

-- the fields of a packed word in its order, from bit 0 up (RULES 4.18)
abbrev pub fields_in : List ℕ → Packed
fields_in s =
    record { flag = get_or s 0 0; length = halfwords (get_or s 1 0); ret = get_or s 2 0; h = get_or s 3 0; reg = get_or s 4 0; r = get_or s 5 0; l = get_or s 6 0; c = get_or s 7 0; adjust = get_or s 8 0 }

-- the code bytes, and the lengths of both lists (RULES 4.19)
abbrev pub code_list : Res CodesOf → List ℕ
code_list (Ok c) = c.bytes
code_list (Err r) = replicate 16 0

abbrev pub lengths : Res CodesOf → List ℕ
lengths (Ok c) = c.first.0 ∷ c.second.0 ∷ []
lengths (Err r) = 0 ∷ 0 ∷ []

-- what each function tells: the refusal's number as its result, and the rest in what it is lent
abbrev pub FoundTold : Res (Option Entry) → (result : ℕ) → (left : List ℕ) → Type 0
FoundTold f r left = (r ≡ verdict_number f) × (left ≡ found_numbers f)

abbrev pub SizeTold : Res ℕ → (result left : ℕ) → Type 0
SizeTold s r left = (r ≡ verdict_number s) × (left ≡ or_else s 0)

abbrev pub WordTold : Res ℕ → (result left : ℕ) → Type 0
WordTold w r left = (r ≡ verdict_number w) × (left ≡ or_else w 0)

abbrev pub CodesTold : Res CodesOf → (result : ℕ) → (bytes lens : List ℕ) → Type 0
CodesTold c r bytes lens = (r ≡ verdict_number c) × (bytes ≡ code_list c) × (lens ≡ lengths c)
