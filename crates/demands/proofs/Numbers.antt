-- Which refusal numbers an operation can give: finding 1 to 3; a size 1, 4 and 5; the packed writers 4; one frame 1 to 11; 12 and 13 only a
-- walk's later frames. And that no two refusals share a number.
-- Assumes nothing.
use Rattle.std.specs.Prelude.{if◌then◌else◌, Ok, Err, Option, None, Some}
use Prim.Native.Nat.{ℕ, zero, suc, ◌+◌, ◌-◌, ◌%◌, ◌≤◌}
use mathlib.Core.Path.{◌≡◌, refl, sym, ap, ◌∙◌, subst}
use mathlib.Core.Logic.{◌⊎◌, inl, inr}
use mathlib.Core.List.{List, [], ◌∷◌}
use mathlib.Core.Bool.{Bool, true, false, ◌&&◌, ◌||◌, not}
use lib.ListN.{length, replicate, get_or}
use lib.Dec.{leb, ltb, eqb}
use native.Mathlib.Omega.{arith}
use borrow.Author.Tests.{ne_eqb}
use Rattle.words.specs.Bits.{bits, bit, even}
use Rattle.words.specs.Units.{code_bytes}
use Rattle.lent.specs.Lent.{Lent, holds, word_at}
use Rattle.words.specs.Refusals.{number}
use Rattle.words.specs.declared.CodeBytes.{CodeBytes}
use Rattle.words.specs.declared.Place.{Place}
use Rattle.words.specs.declared.Refusal.{Refusal}
use Rattle.words.specs.declared.Refusal.TheVariants.{UnfitInput, PcBelowBase, StartsNotAscending, Reserved, OutsideXdata, BadCodes, BadLayout, BadStack, InsideInstruction, Conditional, SpFell, NoRecord, SpSame, UnfitReport}
use Rattle.words.specs.Answer.{Res, ◌>>=◌, ◌>>◌, need, maybe}
use Rattle.unwinding.specs.CodeList.{total, end_of, run}
use Rattle.unwinding.specs.Shape.{Shape}
use Rattle.unwinding.specs.View.{EpilogueOf, View, ascending, fits, epilogues, view}
use Rattle.unwinding.specs.Todo.{Todo, left, in_epilogue, in_epilogues, todo}
use Rattle.unwinding.specs.Trail as Trail
use Rattle.unwinding.specs.declared.Scope.{Scope}
use Rattle.unwinding.proofs.Scanning.{by-scan}
use Rattle.codes.specs.Code.{size, scan, codes_at}
use Rattle.codes.proofs.Scanning.{takes}
use Rattle.codes.specs.Condition.{executing}
use Rattle.codes.specs.declared.Code.{Code}
use Rattle.codes.specs.declared.Undo.{Undo}
use Rattle.codes.specs.declared.Undo.TheVariants.{Up, Pop, SpFrom, Vpop, LoadLr, Nothing}
use Rattle.machine.specs.declared.Regs.{Regs}
use Rattle.machine.specs.Step.{stands, load, pop_reg, pop_d, pop, vpop, effect, step}
use Rattle.pdata.specs.declared.Entry.{Entry}
use Rattle.packed.specs.declared.Packed.{Packed}
use Rattle.pdata.specs.Pdata.{find, find_rva, starts}
use Rattle.packed.specs.Packed.{fields, fields_fit, allowed, write_word, word_given}
use Rattle.packed_codes.specs.PackedCodes.{write_codes, codes_given}
use Rattle.xdata.specs.Xdata.{fit_xdata, record_bytes, scope_count, short_head, long_head, head_at, xdata_size, size_given}
use Rattle.xdata.specs.Scopes.{scopes_at}
use Rattle.record.specs.Record.{full_shape, packed_shape, shape_at, shape_of}
use Rattle.frame.specs.Frame.{Inputs, fit_stack, uncovered, within, by_record, frame_of}
use Rattle.walking.specs.Walk.{next_frame}
use Rattle.regions.specs.declared.RegionRefusal.{RegionRefusal}
use Rattle.regions.specs.declared.RegionRefusal.TheVariants.{Record, TableOutside, Crossed}
use Rattle.regions.specs.Table.{region_number}
use Rattle.fitting.specs.Fitting.{fit_number}
use Rattle.fitting.specs.declared.FitRefusal.{FitRefusal}
use Rattle.fitting.specs.declared.FitRefusal.TheVariants as Fit

pub numbered : (r : Refusal) → 1 ≤ number r
numbered UnfitInput = omega arith
numbered PcBelowBase = omega arith
numbered StartsNotAscending = omega arith
numbered Reserved = omega arith
numbered OutsideXdata = omega arith
numbered (BadCodes i) = omega arith
numbered BadLayout = omega arith
numbered BadStack = omega arith
numbered InsideInstruction = omega arith
numbered Conditional = omega arith
numbered SpFell = omega arith
numbered NoRecord = omega arith
numbered SpSame = omega arith
numbered UnfitReport = omega arith

-- the number of a refusal of this answer is one of those
abbrev pub Only : {A : Type 0} → (ℕ → Type 0) → Res A → Type 0
Only P x = (r : Refusal) → x ≡ Err r → P (number r)

module _ (P : ℕ → Type 0) where
  given : {A : Type 0} (a : A) → Only P (Ok a)
  given a r e = absurd (let z : ◌≡◌ {A = ℕ} 0 1 = cc in omega arith)

  refused : {A : Type 0} (q : Refusal) → P (number q) → Only {A = A} P (Err q)
  refused q h r e = let z : q ≡ r = cc in subst (λ x. P (number x)) z h

  pub bound : {A B : Type 0} (x : Res A) (f : A → Res B) → Only P x → ((a : A) → Only P (f a)) → Only P (x >>= f)
  bound (Ok a) f h k = k a
  bound (Err q) f h k = refused q (h q refl)

  needed : {B : Type 0} (t : Bool) (q : Refusal) (y : Res B) → P (number q) → Only P y → Only P (need t q >> y)
  needed true q y h k = k
  needed false q y h k = refused q h

  either_way : {A : Type 0} (t : Bool) (x y : Res A) → Only P x → Only P y → Only P (if t then x else y)
  either_way true x y h k = h
  either_way false x y h k = k

  -- the operations on the tables
  only-find : P 1 → P 2 → P 3 → (image : ℕ) (pdata : List ℕ) (pc : ℕ) → Only P (find image pdata pc)
  unfolding find find_rva
  only-find p1 p2 p3 i s pc =
      needed (eqb (length s % 8) 0) UnfitInput _ p1
      (needed (leb i (even pc)) PcBelowBase _ p2
      (needed (eqb (length s % 8) 0) UnfitInput _ p1 (needed (ascending (starts s)) StartsNotAscending _ p3 (given _))))

  only-long : P 4 → P 5 → (x : Lent) (a w : ℕ) → Only P (long_head x a w)
  unfolding long_head
  only-long p4 p5 x a w = needed (holds x a 8) OutsideXdata _ p5 (needed (eqb (bits 24 8 (word_at x (a + 4))) 0) Reserved _ p4 (given _))

  only-head : P 4 → P 5 → (x : Lent) (a : ℕ) → Only P (head_at x a)
  unfolding head_at
  only-head p4 p5 x a =
      needed (holds x a 4) OutsideXdata _ p5
      (needed (eqb (bits 18 2 (word_at x a)) 0) Reserved _ p4
      (bound (if eqb (bits 23 9 (word_at x a)) 0 then long_head x a (word_at x a) else Ok (short_head (word_at x a))) _
      (either_way (eqb (bits 23 9 (word_at x a)) 0) (long_head x a (word_at x a)) (Ok (short_head (word_at x a))) (only-long p4 p5 x a (word_at x a)) (given (short_head (word_at x a))))
      (λ h. needed (holds x a (record_bytes h)) OutsideXdata _ p5 (given h))))

  pub only-size : P 1 → P 4 → P 5 → (x : Lent) (a : ℕ) → Only P (xdata_size x a)
  unfolding xdata_size
  only-size p1 p4 p5 x a = needed (fit_xdata x) UnfitInput _ p1 (bound (head_at x (a - a % 4)) _ (only-head p4 p5 x (a - a % 4)) (λ h. given _))

  only-codes : P 4 → (w : ℕ) → Only P (write_codes w)
  unfolding write_codes
  only-codes p4 w = needed (allowed (fields w)) Reserved _ p4 (given _)

  only-scopes : P 4 → (x : Lent) (a k : ℕ) → Only P (scopes_at x a k)
  unfolding scopes_at
  only-scopes p4 x a zero = given []
  only-scopes p4 x a (suc k) = needed (eqb (bits 18 2 (word_at x a)) 0) Reserved _ p4 (bound (scopes_at x (a + 4) k) _ (only-scopes p4 x (a + 4) k) (λ l. given _))

  pub only-shape : P 4 → P 5 → (x : Lent) (w : ℕ) → Only P (shape_at x w)
  unfolding full_shape packed_shape
  only-shape p4 p5 x w =
      either_way (eqb (bits 0 2 w) 0) (full_shape x w) (packed_shape w)
      (bound (head_at x w) _ (only-head p4 p5 x w) (λ h. bound (scopes_at x (w + h.bytes) (scope_count h)) _ (only-scopes p4 x (w + h.bytes) (scope_count h)) (λ l. given _)))
      (bound (write_codes w) _ (only-codes p4 w) (λ c. given _))

  only-scan : P 6 → (s : List ℕ) (i : CodeBytes) → Only P (scan s i).ending
  only-scan p6 s i = by-scan takes s (λ j x. Only P x.ending) (λ j c next r e h. h) (λ j n e. given n) (λ j k e. refused (BadCodes k) p6) i

  only-list : P 6 → (s : List ℕ) (i : CodeBytes) → Only P (codes_at s i)
  only-list p6 s i = bound (scan s i).ending _ (only-scan p6 s i) (λ k. given _)

  only-epilogues : P 6 → (s : Shape) (l : List Scope) → Only P (epilogues size codes_at s l)
  unfolding epilogues
  only-epilogues p6 s [] = given []
  only-epilogues p6 s (e ∷ l) = bound (codes_at s.codes e.index) _ (only-list p6 s.codes e.index) (λ c. bound (epilogues size codes_at s l) _ (only-epilogues p6 s l) (λ rest. given _))

  pub only-view : P 6 → P 7 → (s : Shape) → Only P (view size codes_at s)
  unfolding view
  only-view p6 p7 s =
      bound (codes_at s.codes (code_bytes 0)) _ (only-list p6 s.codes (code_bytes 0))
      (λ c. bound (epilogues size codes_at s s.scopes) _ (only-epilogues p6 s s.scopes) (λ es. needed (fits s.span (if s.fragment then 0 else total size c.list) es) BadLayout _ p7 (given _)))

-- what one frame is made of
module _ (P : ℕ → Type 0) (all : (k : ℕ) → k ≤ 11 → P k) where
  up_left : (p : Place) (after o : ℕ) (cs : List Code) → Only P (left size p after o cs)
  unfolding left
  up_left p after o cs = go (end_of size after o cs)
    where
      go : (l : Option (List Code)) → Only {A = Todo Code} P (maybe l (Err InsideInstruction) (λ l. Ok (record { place = p; codes = l })))
      go None = refused P InsideInstruction (all 9 (omega arith))
      go (Some l) = given P _

  up-epilogue : (e : EpilogueOf Code) (o : ℕ) → Only P (in_epilogue size executing e o)
  unfolding in_epilogue
  up-epilogue e o = bound P (left size _ e.codes.end_size (e.start + e.size - o) e.codes.list) _ (up_left _ e.codes.end_size (e.start + e.size - o) e.codes.list) (λ t. needed P (executing e.condition) Conditional _ (all 10 (omega arith)) (given P t))

  up_in : (es : List (EpilogueOf Code)) (o : ℕ) (cs : List Code) → Only P (in_epilogues size executing es o cs)
  unfolding in_epilogues
  up_in [] o cs = given P _
  up_in (e ∷ es) o cs = either_way P (leb e.start o && ltb o (e.start + e.size)) (in_epilogue size executing e o) (in_epilogues size executing es o cs) (up-epilogue e o) (up_in es o cs)

  up-todo : (v : View Code) (o : ℕ) → Only P (todo size executing v o)
  unfolding todo
  up-todo v o = either_way P (ltb o v.prologue) _ _ (up_left _ 0 o v.codes.list) (up_in v.epilogues o v.codes.list)

  up-load : (k : Lent) (a : ℕ) → Only P (load k a)
  unfolding load
  up-load k a = needed P (holds k a 4) BadStack _ (all 8 (omega arith)) (given P _)

  up-pop : (k : Lent) (l m : ℕ) (g : Regs) → Only P (pop k l m g)
  unfolding pop pop_reg
  up-pop k l zero g = given P g
  up-pop k l (suc m) g = bound P (pop k l m g) _ (up-pop k l m g) (λ h. either_way P (bit m l) (pop_reg k m h) (Ok h) (bound P (load k h.sp) _ (up-load k h.sp) (λ w. given P _)) (given P h))

  up-vpop : (k : Lent) (x m : ℕ) (g : Regs) → Only P (vpop k x m g)
  unfolding vpop pop_d
  up-vpop k x zero g = given P g
  up-vpop k x (suc m) g = bound P (vpop k x m g) _ (up-vpop k x m g) (λ h. bound P (load k h.sp) _ (up-load k h.sp) (λ w. bound P (load k (h.sp + 4)) _ (up-load k (h.sp + 4)) (λ v. given P _)))

  up-effect : (k : Lent) (u : Undo) (g : Regs) → Only P (effect k u g)
  up-effect k (Up m) g = given P _
  up-effect k (Pop l) g = up-pop k l 15 g
  up-effect k (SpFrom x) g = given P _
  up-effect k (Vpop s e) g = up-vpop k s (e + 1 - s) g
  up-effect k (LoadLr m) g = bound P (load k g.sp) _ (up-load k g.sp) (λ w. given P _)
  up-effect k Nothing g = given P g

  up_run : (k : Lent) (cs : List Code) (g : Regs) → Only P (run (step k) cs g)
  unfolding run step
  up_run k [] g = given P g
  up_run k (c ∷ cs) g = bound P (step k c g) _ (bound P (effect k c.undo g) _ (up-effect k c.undo g) (λ h. needed P (stands k h.sp) BadStack _ (all 8 (omega arith)) (given P h))) (λ h. up_run k cs h)

  up-within : (k : Lent) (s : Shape) (o : ℕ) (g : Regs) → Only P (within k s o g)
  unfolding within
  up-within k s o g =
      bound P (view size codes_at s) _ (only-view P (all 6 (omega arith)) (all 7 (omega arith)) s)
      (λ v. bound P (todo size executing v o) _ (up-todo v o)
      (λ t. bound P (run (step k) t.codes g) _ (up_run k t.codes g) (λ h. needed P (leb g.sp h.sp) SpFell _ (all 11 (omega arith)) (given P _))))

  up-frame : (first : Bool) → ((g : Regs) → Only P (uncovered first g)) → (t : Inputs) (g : Regs) → Only P (frame_of first t g)
  unfolding frame_of by_record
  up-frame first none-covers t g =
      needed P (fit_stack t.stack && fit_xdata t.xdata) UnfitInput _ (all 1 (omega arith))
      (bound P (find t.image t.pdata g.pc) _ (only-find P (all 1 (omega arith)) (all 2 (omega arith)) (all 3 (omega arith)) t.image t.pdata g.pc) (λ e. needed P (stands t.stack g.sp) BadStack _ (all 8 (omega arith)) (go e)))
    where
      go : (e : Option Entry) → Only P (maybe e (uncovered first g) (λ e. by_record first t e g))
      go None = none-covers g
      go (Some e) = bound P (shape_of t.xdata e) _ (only-shape P (all 4 (omega arith)) (all 5 (omega arith)) t.xdata e.word) (λ s. either_way P (ltb (even g.pc - t.image - e.start) s.span) _ _ (up-within t.stack s (even g.pc - t.image - e.start) g) (none-covers g))

abbrev pub UpTo : {A : Type 0} → ℕ → Res A → Type 0
UpTo n x = Only (λ k. k ≤ n) x

pub up_first : (t : Inputs) (g : Regs) → UpTo 11 (frame_of true t g)
up_first t g = up-frame (λ k. k ≤ 11) (λ k h. h) true (λ g. given (λ k. k ≤ 11) _) t g

up-any : (first : Bool) (t : Inputs) (g : Regs) → UpTo 13 (frame_of first t g)
up-any true = up-frame (λ k. k ≤ 13) (λ k h. omega (arith, h)) true (λ g. given (λ k. k ≤ 13) _)
up-any false = up-frame (λ k. k ≤ 13) (λ k h. omega (arith, h)) false (λ g. refused (λ k. k ≤ 13) NoRecord (omega arith))

pub up_next : (first : Bool) (t : Inputs) (g : Regs) → UpTo 13 (next_frame first t g)
unfolding Trail.next_frame
up_next first t g =
    bound (λ k. k ≤ 13) (frame_of first t g) _ (up-any first t g)
    (λ c. needed (λ k. k ≤ 13) (first || not (eqb c.regs.sp g.sp)) SpSame _ (omega arith) (given (λ k. k ≤ 13) c))

-- ---- the operations on the tables: their numbers, and the zeros that stand for an answer
pub found_number : (image : ℕ) (pdata : List ℕ) (pc : ℕ) (r : Refusal) → find image pdata pc ≡ Err r → (1 ≤ number r) × (number r ≤ 3)
found_number i s pc r e = (numbered r, only-find (λ k. k ≤ 3) (omega arith) (omega arith) (omega arith) i s pc r e)

pub size_number : (x : Lent) (at : ℕ) (r : Refusal) → xdata_size x at ≡ Err r → ((number r ≡ 1) ⊎ (number r ≡ 4) ⊎ (number r ≡ 5)) × (size_given (xdata_size x at) ≡ 0)
size_number x at r e = (only-size (λ k. (k ≡ 1) ⊎ (k ≡ 4) ⊎ (k ≡ 5)) (inl refl) (inr (inl refl)) (inr (inr refl)) x at r e, rw e refl)

only-word : (p : Packed) → Only (λ k. k ≡ 4) (write_word p)
unfolding write_word
only-word p = needed (λ k. k ≡ 4) (fields_fit p && allowed p) Reserved _ refl (given (λ k. k ≡ 4) _)

pub word_number : (p : Packed) (r : Refusal) → write_word p ≡ Err r → (number r ≡ 4) × (word_given (write_word p) ≡ 0)
word_number p r e = (only-word p r e, rw e refl)

pub codes-number : (w : ℕ) (r : Refusal) → write_codes w ≡ Err r
    → (number r ≡ 4) × ((codes_given (write_codes w)).bytes ≡ replicate 16 0) × ((codes_given (write_codes w)).first.0 ≡ 0) × ((codes_given (write_codes w)).second.0 ≡ 0)
codes-number w r e = (only-codes (λ k. k ≡ 4) refl w r e, rw e refl, rw e refl, rw e refl)

-- ---- no two refusals share a number
-- a refusal, but for what it holds
abbrev pub kind : Refusal → Refusal
kind UnfitInput = UnfitInput
kind PcBelowBase = PcBelowBase
kind StartsNotAscending = StartsNotAscending
kind Reserved = Reserved
kind OutsideXdata = OutsideXdata
kind (BadCodes i) = BadCodes (code_bytes 0)
kind BadLayout = BadLayout
kind BadStack = BadStack
kind InsideInstruction = InsideInstruction
kind Conditional = Conditional
kind SpFell = SpFell
kind NoRecord = NoRecord
kind SpSame = SpSame
kind UnfitReport = UnfitReport

-- the one of a number
abbrev named : ℕ → Refusal
named n =
    get_or (UnfitInput ∷ PcBelowBase ∷ StartsNotAscending ∷ Reserved ∷ OutsideXdata ∷ BadCodes (code_bytes 0) ∷ BadLayout ∷ BadStack ∷ InsideInstruction ∷ Conditional ∷ SpFell ∷ NoRecord ∷ SpSame ∷ UnfitReport ∷ []) (n - 1) UnfitReport

named-kind : (r : Refusal) → named (number r) ≡ kind r
named-kind UnfitInput = refl
named-kind PcBelowBase = refl
named-kind StartsNotAscending = refl
named-kind Reserved = refl
named-kind OutsideXdata = refl
named-kind (BadCodes i) = refl
named-kind BadLayout = refl
named-kind BadStack = refl
named-kind InsideInstruction = refl
named-kind Conditional = refl
named-kind SpFell = refl
named-kind NoRecord = refl
named-kind SpSame = refl
named-kind UnfitReport = refl

pub numbers-differ : (r s : Refusal) → number r ≡ number s → kind r ≡ kind s
numbers-differ r s e = sym (named-kind r) ∙ ap named e ∙ named-kind s

-- with those of order 1
abbrev pub region_kind : RegionRefusal → RegionRefusal
region_kind (Record r) = Record (kind r)
region_kind TableOutside = TableOutside
region_kind Crossed = Crossed

abbrev region_named : ℕ → RegionRefusal
region_named n = if eqb n 15 then TableOutside else (if eqb n 16 then Crossed else Record (named n))

-- every other number is below them
below-15 : (r : Refusal) → number r ≤ 14
below-15 UnfitInput = omega arith
below-15 PcBelowBase = omega arith
below-15 StartsNotAscending = omega arith
below-15 Reserved = omega arith
below-15 OutsideXdata = omega arith
below-15 (BadCodes i) = omega arith
below-15 BadLayout = omega arith
below-15 BadStack = omega arith
below-15 InsideInstruction = omega arith
below-15 Conditional = omega arith
below-15 SpFell = omega arith
below-15 NoRecord = omega arith
below-15 SpSame = omega arith
below-15 UnfitReport = omega arith

region_named-kind : (r : RegionRefusal) → region_named (region_number r) ≡ region_kind r
region_named-kind (Record r) =
    let h = below-15 r in
    rw (ne_eqb (number r) 15 (λ e. omega (arith, h, e)), ne_eqb (number r) 16 (λ e. omega (arith, h, e))) (ap Record (named-kind r))
region_named-kind TableOutside = refl
region_named-kind Crossed = refl

pub region-numbers-differ : (r s : RegionRefusal) → region_number r ≡ region_number s → region_kind r ≡ region_kind s
region-numbers-differ r s e = sym (region_named-kind r) ∙ ap region_named e ∙ region_named-kind s

-- and with those of order 3
abbrev pub fit_kind : FitRefusal → FitRefusal
fit_kind (Fit.Record r) = Fit.Record (kind r)
fit_kind Fit.Short = Fit.Short
fit_kind (Fit.Differs o) = Fit.Differs 0

abbrev fit_named : ℕ → FitRefusal
fit_named n = if eqb n 17 then Fit.Differs 0 else (if eqb n 18 then Fit.Short else Fit.Record (named n))

fit_named-kind : (r : FitRefusal) → fit_named (fit_number r) ≡ fit_kind r
fit_named-kind (Fit.Record r) =
    let h = below-15 r in
    rw (ne_eqb (number r) 17 (λ e. omega (arith, h, e)), ne_eqb (number r) 18 (λ e. omega (arith, h, e))) (ap Fit.Record (named-kind r))
fit_named-kind Fit.Short = refl
fit_named-kind (Fit.Differs o) = refl

pub fit-numbers-differ : (r s : FitRefusal) → fit_number r ≡ fit_number s → fit_kind r ≡ fit_kind s
fit-numbers-differ r s e = sym (fit_named-kind r) ∙ ap fit_named e ∙ fit_named-kind s

-- those of regions are other numbers than those of fitting, but for a record's own
pub apart-numbers : (r : RegionRefusal) (s : FitRefusal) → region_number r ≡ fit_number s → (q : Refusal) × (p : Refusal) × (r ≡ Record q) × (s ≡ Fit.Record p)
apart-numbers (Record q) (Fit.Record p) e = (q, p, refl, refl)
apart-numbers (Record q) Fit.Short e = absurd (omega (arith, below-15 q, e))
apart-numbers (Record q) (Fit.Differs o) e = absurd (omega (arith, below-15 q, e))
apart-numbers TableOutside (Fit.Record p) e = absurd (omega (arith, below-15 p, e))
apart-numbers TableOutside Fit.Short e = absurd (omega (arith, e))
apart-numbers TableOutside (Fit.Differs o) e = absurd (omega (arith, e))
apart-numbers Crossed (Fit.Record p) e = absurd (omega (arith, below-15 p, e))
apart-numbers Crossed Fit.Short e = absurd (omega (arith, e))
apart-numbers Crossed (Fit.Differs o) e = absurd (omega (arith, e))
