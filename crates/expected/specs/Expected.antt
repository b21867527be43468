-- The instruction that a code stands for, in a prologue (RULES 13.5) and in an epilogue (RULES 13.6).
use Rattle.std.specs.Prelude.{ℕ, ◌+◌, ◌^◌, ◌<◌, Bool, true, ◌&&◌, ◌||◌, eqb, if◌then◌else◌}
use Rattle.words.specs.Bits.{bit}
use Rattle.words.specs.Units.{halfwords, stack_bytes}
use Rattle.codes.specs.declared.Code.{Code}
use Rattle.codes.specs.declared.Undo.{Undo}
use Rattle.codes.specs.declared.Undo.TheVariants as U
use Rattle.thumb.specs.declared.Action.{Action}
use Rattle.thumb.specs.declared.Action.TheVariants.{Push, Pop, Vpush, Vpop, SubSp, AddSp, Mov, Store, Load, Bx, Branch}
use Rattle.thumb.specs.declared.Instruction.{Instruction}
use Rattle.thumb.specs.contracts.ActionPartialEq.TheImpl as Equality
use Rattle.expected.specs.declared.Acts.{Acts}
use Rattle.expected.specs.declared.Acts.TheVariants.{Any, This, OrHome}
use Rattle.expected.specs.declared.Expected.{Expected}

-- registers by number
abbrev pub sp : ℕ
sp = 13

abbrev pub lr : ℕ
lr = 14

abbrev pub pc : ℕ
pc = 15

-- a store of LR below SP, which moves there: of one word it is a push. A load of LR, or PC, at SP, which rises: of one word it is a pop
abbrev pub storing : (bytes : ℕ) → Action
storing n = if eqb n 4 then Push (2 ^ lr) else Store lr n

abbrev pub loading : (register bytes : ℕ) → Action
loading t n = if eqb n 4 then Pop (2 ^ t) else Load t n

-- an amount: that of the byte 04 may also home r0-r3
abbrev pub lowering : (first : ℕ) → Action → Acts
lowering b a = if eqb b 0x04 then OrHome a else This a

-- in a prologue, of a code with this first byte
abbrev pub acts_before : (first : ℕ) → Undo → Acts
acts_before b (U.Up n) = lowering b (SubSp (stack_bytes n))
acts_before b (U.Pop l) = This (Push l)
acts_before b (U.SpFrom x) = This (Mov x sp)
acts_before b (U.Vpop s e) = This (Vpush s e)
acts_before b (U.LoadLr n) = This (storing (stack_bytes n))
acts_before b U.Nothing = Any

-- in the last code before FF, LR stands for PC
abbrev pub or_pc : (last : Bool) → ℕ
or_pc last = if last then pc else lr

abbrev pub with_pc : (list : ℕ) → ℕ
with_pc l = if bit lr l then l + 2 ^ lr else l

abbrev pub list_or_pc : (last : Bool) → (list : ℕ) → ℕ
list_or_pc last l = if last then with_pc l else l

-- a list of registers as codes have them, so that PC's bit can be set in it
abbrev pub Listed : Undo → Type 0
Listed (U.Up n) = Unit {0}
Listed (U.Pop l) = l < 2 ^ 15
Listed (U.SpFrom x) = Unit {0}
Listed (U.Vpop s e) = Unit {0}
Listed (U.LoadLr n) = Unit {0}
Listed U.Nothing = Unit {0}

-- in an epilogue
abbrev pub acts_after : (last : Bool) → Undo → Acts
acts_after last (U.Up n) = This (AddSp (stack_bytes n))
acts_after last (U.Pop l) = This (Pop (list_or_pc last l))
acts_after last (U.SpFrom x) = This (Mov sp x)
acts_after last (U.Vpop s e) = This (Vpop s e)
acts_after last (U.LoadLr n) = This (loading (or_pc last) (stack_bytes n))
acts_after last U.Nothing = Any

abbrev pub before : (first : ℕ) → Code → Expected
before b c = record { acts = acts_before b c.undo; size = c.size }

abbrev pub after : (last : Bool) → Code → Expected
after last c = record { acts = acts_after last c.undo; size = c.size }

-- by the size of an end code's instruction: bx lr for FD, b for FE
abbrev pub ending : (size : ℕ) → Expected
ending n = if eqb n 2 then record { acts = This (Bx lr); size = halfwords 1 } else record { acts = This Branch; size = halfwords 2 }

-- what `==` answers of two instructions: that they are equal (laws `same-equal`, `equal-same` of proofs/Equal.antt)
unfoldable pub same : Action → Action → Bool
same = (Equality.ghosts).eq

-- push {r0-r3}
abbrev pub home : Action
home = Push 0xF

abbrev pub allows : Acts → Action → Bool
allows Any a = true
allows (This b) a = same a b
allows (OrHome b) a = same a b || same a home

-- whether an instruction is an expected one
abbrev pub meets : Expected → Instruction → Bool
meets e i = eqb e.size.0 i.size.0 && allows e.acts i.action
