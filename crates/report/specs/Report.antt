-- The report file: a mark, numbers and registers at the offsets of RULES 8.1, then three parts, which end with the file (RULES 8.2).
use Rattle.std.specs.Prelude.{ℕ, zero, suc, ◌+◌, ◌*◌, List, [], ◌∷◌, ◌&&◌, length, take, leb, eqb, Ok}
use Rattle.lent.specs.Little.{word32, word64}
use Rattle.lent.specs.Parts.{same, part}
use Rattle.words.specs.declared.Refusal.TheVariants.{UnfitReport}
use Rattle.words.specs.Answer.{Res, ◌>>◌, need}
use Rattle.machine.specs.declared.Regs.{Regs}
use Rattle.frame.specs.Frame.{Inputs, inputs}

pub record Report : Type 0 where
  pub inputs : Inputs
  pub regs : Regs

-- n words, or n double words, from a byte offset
unfoldable pub words32 : List ℕ → (at n : ℕ) → List ℕ
words32 s a zero = []
words32 s a (suc n) = word32 s a ∷ words32 s (a + 4) n

unfoldable pub words64 : List ℕ → (at n : ℕ) → List ℕ
words64 s a zero = []
words64 s a (suc n) = word64 s a ∷ words64 s (a + 8) n

-- the letters WLK, the version, zeros
abbrev pub mark : List ℕ
mark = 0x57 ∷ 0x4C ∷ 0x4B ∷ 1 ∷ 0 ∷ 0 ∷ 0 ∷ 0 ∷ []

-- the bytes before the .pdata: the mark, 22 words, 32 double words
abbrev pub head_bytes : ℕ
head_bytes = 8 + 4 * 22 + 8 * 32

abbrev pub pdata_bytes : List ℕ → ℕ
pdata_bytes s = 8 * word32 s 12

abbrev pub xdata_bytes : List ℕ → ℕ
xdata_bytes s = word32 s 20

abbrev pub stack_size : List ℕ → ℕ
stack_size s = word32 s 28

-- where the .xdata, the stack and the end stand
abbrev pub xdata_at : List ℕ → ℕ
xdata_at s = head_bytes + pdata_bytes s

abbrev pub stack_at : List ℕ → ℕ
stack_at s = xdata_at s + xdata_bytes s

abbrev pub end_at : List ℕ → ℕ
end_at s = stack_at s + stack_size s

-- the numbers of a report
abbrev pub image_of : List ℕ → ℕ
image_of s = word32 s 8

abbrev pub rva_of : List ℕ → ℕ
rva_of s = word32 s 16

abbrev pub base_of : List ℕ → ℕ
base_of s = word32 s 24

-- the parts of a report whose lengths fit
abbrev pub inputs_of : List ℕ → Inputs
inputs_of s =
    inputs (image_of s) (part s head_bytes (pdata_bytes s)) (rva_of s) (part s (xdata_at s) (xdata_bytes s)) (base_of s) (part s (stack_at s) (stack_size s))

abbrev pub regs_of : List ℕ → Regs
regs_of s = record { r = words32 s 32 13; sp = word32 s 84; lr = word32 s 88; pc = word32 s 92; d = words64 s 96 32 }

-- a report, or 14 (RULES 8.2)
unfoldable pub report : List ℕ → Res Report
report s = do
  need (leb head_bytes (length s) && leb (length s) 65536) UnfitReport
  need (same (take 8 s) mark) UnfitReport
  need (eqb (length s) (end_at s)) UnfitReport
  Ok (record { inputs = inputs_of s; regs = regs_of s })
