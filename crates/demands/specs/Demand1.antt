-- Demand 1 (RULES 10.1), as laws on answers (RULES 10.2). That it answers at all, whatever is damaged, is said by its type: a reader
-- answers every input.
use Rattle.std.specs.Prelude.{ℕ, ◌+◌, ◌≤◌, ◌≡◌, ◌≢◌, ◌⊎◌, List, [], ◌++◌, true, false, ◌&&◌, length, replicate, Ok, Err}
use Rattle.lent.specs.Lent.{Lent}
use Rattle.words.specs.Refusals.{number, verdict_number}
use Rattle.words.specs.declared.Place.TheVariants.{Leaf}
use Rattle.words.specs.declared.Refusal.{Refusal}
use Rattle.unwinding.specs.Extent.{of_extent}
use Rattle.unwinding.specs.Singly.{Untouched, Agree}
use Rattle.machine.specs.declared.Regs.{Regs}
use Rattle.xdata.specs.Xdata.{fit_xdata, size_given}
use Rattle.packed.specs.Packed.{word_given}
use Rattle.packed.specs.declared.Packed.{Packed}
use Rattle.packed_codes.specs.PackedCodes.{codes_given}
use Rattle.frame.specs.Frame.{Inputs, fit_stack, unwound, told_of}
use Rattle.walking.specs.Walk.{arm}
use Rattle.walking.specs.declared.Frame.{Frame}
use Rattle.walking.specs.declared.Stop.TheVariants as Stop
use Rattle.text.specs.Text.{text}
use Rattle.demands.specs.Reader.{Reader, seen}

-- the same bytes at the same addresses, with more lent before and after them
pub record More (l l' : Lent) : Type 0 where
  pub before : List ℕ
  pub after : List ℕ
  pub base : l.base ≡ l'.base + length before
  pub bytes : l'.bytes ≡ before ++ (l.bytes ++ after)

-- the same inputs, with more .xdata and more stack, which pass 1
pub record Wider (t t' : Inputs) : Type 0 where
  pub image : t'.image ≡ t.image
  pub pdata : t'.pdata ≡ t.pdata
  pub xdata : More t.xdata t'.xdata
  pub stack : More t.stack t'.stack
  pub fit : (fit_stack t'.stack && fit_xdata t'.xdata) ≡ true

-- both programs print of a file what refusal 14 prints
abbrev pub Unfit : Reader → (file : List ℕ) → Type 0
Unfit a file = (a.list file ≡ text "refused 14\n") × (a.show file ≡ text "refused 14\n")

pub record Demand1 (a : Reader) : Type 0 where
  -- the numbers of its refusals (RULES 9.56): of one frame 1 to 11, of a walk 1 to 13, of finding 1 to 3
  pub frame-number : (t : Inputs) (g : Regs) (r : Refusal) → (a.unwind t g).told ≡ Err r → (1 ≤ number r) × (number r ≤ 11)
  pub walk-number : (t : Inputs) (g : Regs) (l : List Frame) (r : Refusal) (pc : ℕ) → (a.walk t g l).walked.stop ≡ Stop.Refused r pc → (1 ≤ number r) × (number r ≤ 13)
  pub find-number : (image : ℕ) (pdata : List ℕ) (pc : ℕ) (r : Refusal) → a.find image pdata pc ≡ Err r → (1 ≤ number r) × (number r ≤ 3)
  -- of a size 1, 4 or 5, of both writers 4, and what they then give is zeros (RULES 2.13, 4.18, 4.19)
  pub size_number : (x : Lent) (at : ℕ) (r : Refusal) → a.size x at ≡ Err r → ((number r ≡ 1) ⊎ (number r ≡ 4) ⊎ (number r ≡ 5)) × (size_given (a.size x at) ≡ 0)
  pub word_number : (p : Packed) (r : Refusal) → a.word p ≡ Err r → (number r ≡ 4) × (word_given (a.word p) ≡ 0)
  pub codes-number : (w : ℕ) (r : Refusal) → a.codes w ≡ Err r
      → (number r ≡ 4) × ((codes_given (a.codes w)).bytes ≡ replicate 16 0) × ((codes_given (a.codes w)).first.0 ≡ 0) × ((codes_given (a.codes w)).second.0 ≡ 0)
  -- a refused frame is the registers as they came, place leaf and zeros (RULES 6.7)
  pub given_back : (t : Inputs) (g : Regs) (r : Refusal) → (a.unwind t g).told ≡ Err r
      → (a.unwind t g ≡ unwound g (Err r)) × (told_of (a.unwind t g) ≡ record { place = Leaf; handler = 0; codes = 0 })
  -- records that a walk does not fill stay as lent, however it stops (RULES 7.2)
  pub untouched : (t : Inputs) (g : Regs) (l : List Frame) → Untouched arm l (seen (a.walk t g l))
  -- only lent bytes are read, and a missing one does not count as 0 (RULES 1.8): an answer, given or refused by anything but how much is
  -- lent, does not change with what lies beyond
  pub frame-stays : (t t' : Inputs) (g : Regs) → Wider t t' → of_extent (verdict_number (a.unwind t g).told) ≡ false → a.unwind t' g ≡ a.unwind t g
  pub walk-stays : (t t' : Inputs) (g : Regs) (l : List Frame) → Wider t t' → ((r : Refusal) (pc : ℕ) → (a.walk t g l).walked.stop ≡ Stop.Refused r pc → of_extent (number r) ≡ false) → a.walk t' g l ≡ a.walk t g l
  -- so too for the frames that a walk lists before it is refused, by any number
  pub listed-stay : (t t' : Inputs) (g : Regs) (l : List Frame) → Wider t t' → Agree arm (a.walk t g l).walked.frames (seen (a.walk t g l)) (seen (a.walk t' g l))
  pub size-stays : (x x' : Lent) (at : ℕ) → More x x' → fit_xdata x' ≡ true → of_extent (verdict_number (a.size x at)) ≡ false → a.size x' at ≡ a.size x at
  -- a report ends with its parts (RULES 8.2): cut short, or with more bytes, it is none
  pub whole-file : (file more : List ℕ) → more ≢ [] → Unfit a file ⊎ Unfit a (file ++ more)
  -- what the programs print fits their buffers (RULES 8.7)
  pub list-fits : (file : List ℕ) → length (a.list file) ≤ 8192
  pub show-fits : (file : List ℕ) → length (a.show file) ≤ 1024
