-- The instructions of a prologue and of an epilogue end to end, each with its offset and its code (RULES 13.4), and the first that is not
-- the one that its code stands for.
use Rattle.std.specs.Prelude.{ℕ, ◌+◌, List, [], ◌∷◌, ◌++◌, Bool, false, eqb, get_or, if◌then◌else◌, Result, Ok, Err}
use Rattle.words.specs.declared.CodeBytes.{CodeBytes}
use Rattle.words.specs.Answer.{Res}
use Rattle.unwinding.specs.CodeList.{Codes, total}
use Rattle.unwinding.specs.Taking as General
use Rattle.unwinding.specs.Taking.{Taken, one, last, bad, Scan}
use Rattle.codes.specs.Code.{size, taking, bytes_of}
use Rattle.codes.specs.declared.Code.{Code}
use Rattle.thumb.specs.Instruction.{instruction_at}
use Rattle.thumb.specs.declared.Instruction.{Instruction}
use Rattle.expected.specs.Expected.{before, after, ending, meets}
use Rattle.expected.specs.declared.Expected.{Expected}
use Rattle.comparing.specs.declared.Differs.{Differs}

-- a code beside its first byte, which tells 04 from F7 00 04
pub record Coded : Type 0 where
  pub code : Code
  pub first : ℕ

abbrev pub size_of : Coded → ℕ
size_of c = size c.code

-- code lists of such codes
abbrev pub with_first : (first : ℕ) → Taken Code → Taken Coded
with_first b (one c next) = one (record { code = c; first = b }) next
with_first b (last n) = last n
with_first b (bad i) = bad i

abbrev pub taking_coded : (at : ℕ) → (left : List ℕ) → Taken Coded
taking_coded at left = with_first (get_or left 0 0) (taking at left)

abbrev pub scan_coded : List ℕ → CodeBytes → Scan Coded
scan_coded s i = General.scan taking_coded bytes_of s i

abbrev pub coded_at : List ℕ → CodeBytes → Res (Codes Coded)
coded_at s i = General.codes_at taking_coded bytes_of s i

-- what an instruction is there for: a code of a prologue; one of an epilogue, the last before FF or not; an end code, by its size
pub data Role : Type 0 where
  opens : Coded → Role
  closes : (last : Bool) → Coded → Role
  leaves : (size : ℕ) → Role

abbrev pub expects : Role → Expected
expects (opens c) = before c.first c.code
expects (closes l c) = after l c.code
expects (leaves n) = ending n

pub record Item : Type 0 where
  pub offset : ℕ
  pub role : Role
  pub found : Instruction

abbrev pub fits : Item → Bool
fits i = meets (expects i.role) i.found

-- that all fit, or the offset of the first that does not
abbrev pub Compared : Type 0
Compared = Result (Unit {0}) Differs

abbrev pub differs : (offset : ℕ) → Compared
differs o = Err (record { 0 = o })

unfoldable pub compared : List Item → Compared
compared [] = Ok tt
compared (i ∷ is) = let further = compared is in if fits i then further else differs i.offset

-- whether a code is the last before FF
abbrev pub is_last : (behind : List Coded) → (end_size : ℕ) → Bool
is_last [] e = eqb e 0
is_last (c ∷ cs) e = false

-- over a function's bytes
module _ (s : List ℕ) where
  abbrev pub item : ℕ → Role → Item
  item o r = record { offset = o; role = r; found = instruction_at s o }

  -- a prologue: the last code's instruction stands first
  unfoldable pub prologue_items : List Coded → List Item
  prologue_items [] = []
  prologue_items (c ∷ cs) = prologue_items cs ++ (item (total size_of cs) (opens c) ∷ [])

  -- an epilogue from an offset on: the first code's instruction first, that of the end code last, if it has one
  unfoldable pub epilogue_items : (offset : ℕ) → List Coded → (end_size : ℕ) → List Item
  epilogue_items o [] e = if eqb e 0 then [] else item o (leaves e) ∷ []
  epilogue_items o (c ∷ cs) e = item o (closes (is_last cs e) c) ∷ epilogue_items (o + size_of c) cs e
