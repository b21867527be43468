-- What order 4 of document 02 moved in packed words (RULES 4.21): before it the nop of C=1 had 32 bits, whatever was pushed. The lists as they
-- were stand here to be compared with; nothing else reads them.
use Rattle.std.specs.Prelude.{ℕ, ◌+◌, ◌≤◌, ◌≡◌, List, ◌∷◌, ◌++◌, reverse, [], Bool, true, false, ◌&&◌, not, length, take, replicate, eqb}
use Rattle.words.specs.Units.{code_bytes}
use Rattle.words.specs.declared.Halfwords.{Halfwords}
use Rattle.unwinding.specs.CodeList.{Codes, total}
use Rattle.codes.specs.Table.{bits16, bits32}
use Rattle.codes.specs.Code.{size}
use Rattle.codes.specs.declared.Code.{Code}
use Rattle.codes.specs.declared.Undo.TheVariants.{Nothing}
use Rattle.packed.specs.Packed.{amount, PF, integers}
use Rattle.packed.specs.declared.Packed.{Packed}
use Rattle.packed_codes.specs.PackedCodes.{when, up_code, vpop_code, pop_code, low, pushed, chain_alone, first_list, second_list, written}
use Rattle.packed_codes.specs.Lists.{only, ups, vpops, pops, homes, prologue_codes, epilogue_codes}
use Rattle.packed_codes.specs.declared.CodesOf.{CodesOf}

-- the first list as it was
unfoldable pub first_before : Packed → List ℕ
first_before p =
    let l : ℕ = integers p (PF p) in
    when (not (PF p)) (up_code (amount p)) ++ vpop_code p ++ when (eqb p.c 1) (0xFC ∷ []) ++ pop_code (low l) l p.l
    ++ when (eqb p.h 1) (0x04 ∷ [])
    ++ (0xFF ∷ [])

-- the code bytes as they were
abbrev pub written_before : Packed → CodesOf
written_before p =
    record { bytes = take 16 (first_before p ++ second_list p ++ replicate 16 0); first = code_bytes (length (first_before p)); second = code_bytes (length (second_list p)) }

-- the prologue's codes as they were
abbrev pub codes_before : Packed → Codes Code
codes_before p =
    let l : ℕ = integers p (PF p) in
    record { list = reverse (homes p ++ pops (low l) l p.l ++ only (eqb p.c 1) Nothing bits32 ++ vpops p ++ ups p (PF p)); end_size = 0 }

-- the fields by which r11 and LR are pushed, and nothing else
abbrev pub chain_fields : Packed → Bool
chain_fields p = eqb p.r 1 && eqb p.c 1 && eqb p.l 1 && not (PF p)

abbrev pub nop : Halfwords → Code
nop n = record { undo = Nothing; size = n }

-- two lists that are alike but for one thing in one place
pub record ButFor {A : Type 0} (was is : A) (old new : List A) : Type 0 where
  pub front : List A
  pub back : List A
  pub before : old ≡ front ++ (was ∷ back)
  pub after : new ≡ front ++ (is ∷ back)

pub record Chained (p : Packed) : Type 0 where
  pub which : chain_alone (pushed p) ≡ chain_fields p
  -- of any other word nothing moved
  pub kept : chain_alone (pushed p) ≡ false → (written p ≡ written_before p) × (prologue_codes p ≡ codes_before p)
  -- of these one byte, and the size of one instruction: the prologue is two bytes shorter
  pub byte : chain_alone (pushed p) ≡ true → ButFor 0xFC 0xFB (first_before p) (first_list p)
  pub code : chain_alone (pushed p) ≡ true → ButFor (nop bits32) (nop bits16) (codes_before p).list (prologue_codes p).list
  pub shorter : chain_alone (pushed p) ≡ true → total size (codes_before p).list ≡ total size (prologue_codes p).list + 2
  -- both lists fit 16 bytes, and neither has more than 5 codes
  pub fit : length (first_list p) + length (second_list p) ≤ 16
  pub few : (length (prologue_codes p).list ≤ 5) × (length (epilogue_codes p).list ≤ 5)
