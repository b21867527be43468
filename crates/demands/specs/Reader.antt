-- Any reader: what it answers to each of the operations, whole. The three demands are asked of any.
use Rattle.std.specs.Prelude.{ℕ, List, length, Option}
use Rattle.lent.specs.Lent.{Lent}
use Rattle.unwinding.specs.Singly as Singly
use Rattle.machine.specs.declared.Regs.{Regs}
use Rattle.pdata.specs.Pdata.{find}
use Rattle.xdata.specs.Xdata.{xdata_size}
use Rattle.packed.specs.Packed.{write_word}
use Rattle.packed_codes.specs.PackedCodes.{write_codes}
use Rattle.words.specs.Answer.{Res, verdict}
use Rattle.pdata.specs.declared.Entry.{Entry}
use Rattle.packed.specs.declared.Packed.{Packed}
use Rattle.packed_codes.specs.declared.CodesOf.{CodesOf}
use Rattle.frame.specs.Frame.{Inputs, frame, unwound, told_of}
use Rattle.frame.specs.declared.Unwound.{Unwound}
use Rattle.walking.specs.Walk as Walking
use Rattle.walking.specs.Walk.{arm}
use Rattle.walking.specs.declared.Frame.{Frame}
use Rattle.walking.specs.declared.WalkedAll.{WalkedAll}
use Rattle.listing.specs.Listing.{listing}
use Rattle.caller_text.specs.CallerText.{caller_text}

-- the operations of RULES 1.2, in that order, with a report's two texts at the end
pub record Reader : Type 0 where
  pub find : (image : ℕ) → (pdata : List ℕ) → (pc : ℕ) → Res (Option Entry)
  pub unwind : Inputs → Regs → Unwound
  pub walk : Inputs → Regs → (lent : List Frame) → WalkedAll
  pub size : (xdata : Lent) → (at : ℕ) → Res ℕ
  pub word : Packed → Res ℕ
  pub codes : (word : ℕ) → Res CodesOf
  pub list : (file : List ℕ) → List ℕ
  pub show : (file : List ℕ) → List ℕ

-- a frame's answer and a walk's, as what is asked of any machine's reader looks at them
abbrev pub alone : Unwound → Singly.Alone arm
alone u =
    record { verdict = verdict u.told; to = u.regs; place = (told_of u).place; codes = (told_of u).codes }

abbrev pub seen : WalkedAll → Singly.WalkedAll arm
seen w = record { walked = record { stop = w.walked.stop; frames = w.walked.frames; codes = w.walked.codes }; list = w.list }

-- ours: the definitions, which the code meets by its contracts (proofs/Contracts.antt)
abbrev pub ours : Reader
ours = record {
  find = find;
  unwind = λ t g. unwound g (frame t g);
  walk = λ t g l. Walking.walked_all l (Walking.walk t (length l) g);
  size = xdata_size;
  word = write_word;
  codes = write_codes;
  list = listing;
  show = caller_text;
}
