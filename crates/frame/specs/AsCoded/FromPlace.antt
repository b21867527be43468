-- The caller from where the pc stands: the codes from an index run, 11, and the answer. That this is `within` is a law (`within-placed` of
-- proofs/Within.antt), and that by the record found it is `by_word` (`word-placed` of proofs/Records.antt).
use Rattle.std.specs.Prelude.{ℕ, ◌≡◌, List, Bool, length, leb, ltb, if◌then◌else◌, Option, Ok}
use Rattle.lent.specs.Lent.{Lent}
use Rattle.words.specs.declared.CodeBytes.{CodeBytes}
use Rattle.words.specs.declared.Place.{Place}
use Rattle.words.specs.declared.Refusal.TheVariants.{SpFell}
use Rattle.words.specs.Answer.{Res, ◌>>=◌, ◌>>◌, need, maybe}
use Rattle.codes.specs.Code.{scan}
use Rattle.machine.specs.declared.Regs.{Regs}
use Rattle.machine.specs.AsCoded.Run.{run_at}
use Rattle.record.specs.Record.{shape_at}
use Rattle.frame.specs.Frame.{Inputs, Caller, returned, uncovered, within, frame_of, unwound, checked}
use Rattle.frame.specs.declared.Unwound.{Unwound}
use Rattle.pdata.specs.declared.Checked.{Checked}
use Rattle.place.specs.declared.Placed.{Placed}

-- 11, and the caller (RULES 6.3)
abbrev pub finish : (handler : ℕ) → (given : Regs) → Place → (codes : ℕ) → Regs → Res Caller
finish handler g p n h =
    need (leb g.sp h.sp) SpFell >> Ok (record { regs = returned h; place = p; handler = handler; codes = n })

-- the codes from an index run, and that
abbrev pub ran_from : (stack : Lent) → (codes : List ℕ) → (handler : ℕ) → Regs → Place → CodeBytes → Res Caller
ran_from k s handler g p i = run_at k s i g >>= finish handler g p (length (scan s i).list)

-- by where the pc stands in a record with these code bytes, if its function covers it
abbrev pub from_placed : (first : Bool) → (stack : Lent) → (codes : List ℕ) → Regs → Option Placed → Res Caller
from_placed first k s g p = maybe p (uncovered first g) (λ p. ran_from k s p.handler g p.place p.index)

-- what a frame comes to over tables whose checks were made: those of these inputs
abbrev pub Answers : (first : Bool) → Checked → Inputs → Regs → Unwound → Type 0
Answers first c t g r = c ≡ checked t → r ≡ unwound g (frame_of first t g)

-- by word 1 of the record found, at an offset that its function covers or not; at that of the pc it is `by_record` (`after-record` of
-- proofs/Finding.antt)
abbrev pub by_word : (first : Bool) → (xdata : Lent) → (word : ℕ) → (stack : Lent) → (offset : ℕ) → Regs → Res Caller
by_word first x w k o g = shape_at x w >>= λ s. if ltb o s.span then within k s o g else uncovered first g
