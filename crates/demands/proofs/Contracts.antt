-- The code's own contracts, as whoever calls it learns them: each public operation asks nothing, its result is our reader's answer, and so
-- any two results that a contract allows coincide.
-- Assumes nothing.
use Prim.Native.Nat.{ℕ, ◌+◌, ◌-◌, ◌^◌, min}
use mathlib.Core.Path.{◌≡◌, refl, sym, ap, ◌∙◌, subst}
use mathlib.Core.List.{List}
use lib.ListN.{length}
use contract.Lifetimes.{Lfts}
use borrow.Fn.Kinds.{Dens, ended_of, res_t}
use denote.Triple.Entry.{Args, Res}
use seplogic.Ra.Ura.{Ura}
use base.Logic.{SProp, emp}
use contract.Monad.{Fun, fact}
use types.Logic.{Logic}
use prog.Memory.{Memory}
use prog.Routine.{Routine}
use denote.Triple.Clauses.{AtExit}
use Rattle.lent.specs.Lent.{lent}
use Rattle.words.specs.Answer.{or_else}
use Rattle.words.specs.Refusals.{verdict_number}
use Rattle.frame.specs.Frame.{Inputs, inputs}
use Rattle.walking.specs.Walk.{Trail, walk, walked, filled, walked_all}
use Rattle.walking.specs.contracts.walk as Walk
use Rattle.text.specs.Overlay.{overlay}
use Rattle.report.specs.AsCoded.Parts.{parts}
use Rattle.fit_file.specs.AsCoded.Parts as FitParts
use Rattle.pdata.proofs.find.Kinds as Find·kinds
use Rattle.pdata.proofs.find.Reads as Find
use Rattle.frame.proofs.unwind.Kinds as Unwind·kinds
use Rattle.frame.proofs.unwind.Reads as Unwind
use Rattle.walking.proofs.walk_all.Kinds as WalkAll·kinds
use Rattle.walking.proofs.walk_all.Reads as WalkAll
use Rattle.xdata.proofs.xdata_size.Kinds as Size·kinds
use Rattle.xdata.proofs.xdata_size.Reads as Size
use Rattle.packed.proofs.write_word.Kinds as Word·kinds
use Rattle.packed.proofs.write_word.Reads as Word
use Rattle.packed_codes.proofs.write_codes.Kinds as Codes·kinds
use Rattle.packed_codes.proofs.write_codes.Reads as Codes
use Rattle.report.proofs.read_report.Kinds as Read·kinds
use Rattle.report.proofs.read_report.Reads as Read
use Rattle.listing.proofs.list_report.Kinds as List·kinds
use Rattle.listing.proofs.list_report.Reads as Listed
use Rattle.caller_text.proofs.show_caller.Kinds as Show·kinds
use Rattle.caller_text.proofs.show_caller.Reads as Show
use Rattle.regions.proofs.table.Kinds as Table·kinds
use Rattle.regions.proofs.table.Reads as Table
use Rattle.region_text.proofs.put_regions.Kinds as Lines·kinds
use Rattle.region_text.proofs.put_regions.Reads as Lines
use Rattle.outlining.proofs.outline_report.Kinds as Outline·kinds
use Rattle.outlining.proofs.outline_report.Reads as Outline
use Rattle.fitting.proofs.check.Kinds as Fits·kinds
use Rattle.fitting.proofs.check.Reads as Fits
use Rattle.fit_file.proofs.read_fit.Kinds as ReadFit·kinds
use Rattle.fit_file.proofs.read_fit.Reads as ReadFit
use Rattle.fits_text.proofs.answer_fits.Kinds as FitsText·kinds
use Rattle.fits_text.proofs.answer_fits.Reads as FitsText
use Rattle.exports.proofs.leafbobbin_walk.Kinds as CWalk·kinds
use Rattle.exports.proofs.leafbobbin_walk.Reads as CWalk
use Rattle.exports.proofs.leafbobbin_caller.Kinds as CCaller·kinds
use Rattle.exports.proofs.leafbobbin_caller.Reads as CCaller
use Rattle.exports.proofs.leafbobbin_find.Kinds as CFind·kinds
use Rattle.exports.proofs.leafbobbin_find.Reads as CFind
use Rattle.exports.proofs.leafbobbin_size.Kinds as CSize·kinds
use Rattle.exports.proofs.leafbobbin_size.Reads as CSize
use Rattle.exports.proofs.leafbobbin_word.Kinds as CWord·kinds
use Rattle.exports.proofs.leafbobbin_word.Reads as CWord
use Rattle.exports.proofs.leafbobbin_codes.Kinds as CCodes·kinds
use Rattle.exports.proofs.leafbobbin_codes.Reads as CCodes
use Rattle.regions.specs.AsCoded.Table.{table_of, listed_in}
use Rattle.regions.proofs.Tables.{table-listed}
use Rattle.demands.specs.Regions.{ours_of_regions}
use Rattle.demands.specs.Fitting.{ours_of_fits}
use Rattle.exports.specs.Numbers.{found_numbers, fields_in, code_list, lengths}
use Rattle.forward.specs.State.{State}
use Rattle.forward.specs.Demand.{Asked, Answer, Demand3}
use Rattle.forward.proofs.Memory.{outside-same}
use Rattle.demands.specs.Reader.{ours}
use Rattle.demands.specs.Contract.{Contract, Gives, Unique}
use Rattle.demands.proofs.Ours.{demand3}

unique : (c : Contract) (f : (κs : Lfts c.lifetimes) → Dens κs c.params → (res_t c.result κs).Denot) (g : (κs : Lfts c.lifetimes) → Dens κs c.params → c.Left) → Gives c f g → Unique c
unique c f g h κs a z z' e e' p q =
    let x = h κs a z e p in
    let y = h κs a z' e' q in
    (x.0 ∙ sym y.0, x.1 ∙ sym y.1)

-- ---- results alone
abbrev pub find : Contract
find = record { lifetimes = 1; params = Find·kinds.ps; result = Find·kinds.r; asks = Find.Asked; free = λ κs a. tt; allows = Find.Learnt; Left = Unit {0}; left = λ κs e. tt }

pub find-gives : Gives find (λ κs a. ours.find a.0 a.1.0.now a.1.1.0) (λ κs a. tt)
find-gives κs a z e p = (p, refl)

pub find-unique : Unique find
find-unique = unique find _ _ find-gives

abbrev unwind-inputs : (κs : Lfts 3) → Dens κs Unwind·kinds.ps → Inputs
unwind-inputs κs a = inputs a.0 a.1.0.now a.1.1.0 a.1.1.1.0.now a.1.1.1.1.0 a.1.1.1.1.1.0.now

abbrev pub unwind : Contract
unwind = record { lifetimes = 3; params = Unwind·kinds.ps; result = Unwind·kinds.r; asks = Unwind.Asked; free = λ κs a. tt; allows = Unwind.Learnt; Left = Unit {0}; left = λ κs e. tt }

pub unwind-gives : Gives unwind (λ κs a. ours.unwind (unwind-inputs κs a) a.1.1.1.1.1.1.0) (λ κs a. tt)
unwind-gives κs a z e p = (p, refl)

pub unwind-unique : Unique unwind
unwind-unique = unique unwind _ _ unwind-gives

-- demand 3 of the code: called on the registers of a function that was stopped, whatever `frame::unwind` gives is the caller at entry
pub unwind-finds :
    (κs : Lfts 3) (a : Dens κs Unwind·kinds.ps) (z : (res_t Unwind·kinds.r κs).Denot) (e : AtExit (ended_of 3 Unwind·kinds.ps Unwind·kinds.r) κs) → unwind.allows κs a z e
    → (entry here : State) (h : Asked (unwind-inputs κs a) entry here)
    → here.regs ≡ a.1.1.1.1.1.1.0
    → Answer entry h.place h.shape.handler h.undone z
unfolding Demand3
unwind-finds κs a z e p entry here h q =
    let t = unwind-inputs κs a in
    let f = demand3 t entry here h in
    let same : z ≡ f.caller = (unwind-gives κs a z e p).0 ∙ ap (ours.unwind t) (sym q) ∙ f.found t.stack (outside-same _ _ t.stack) in
    subst (Answer entry h.place h.shape.handler h.undone) (sym same) f.answer

abbrev pub walk-all : Contract
walk-all = record { lifetimes = 3; params = WalkAll·kinds.ps; result = WalkAll·kinds.r; asks = WalkAll.Asked; free = λ κs a. tt; allows = WalkAll.Learnt; Left = Unit {0}; left = λ κs e. tt }

pub walk-all-gives : Gives walk-all (λ κs a. walked_all a.1.1.1.1.1.1.1.0 (walk (inputs a.0 a.1.0.now a.1.1.0 a.1.1.1.0.now a.1.1.1.1.0 a.1.1.1.1.1.0.now) 256 a.1.1.1.1.1.1.0)) (λ κs a. tt)
walk-all-gives κs a z e p = (p, refl)

pub walk-all-unique : Unique walk-all
walk-all-unique = unique walk-all _ _ walk-all-gives

abbrev pub size : Contract
size = record { lifetimes = 1; params = Size·kinds.ps; result = Size·kinds.r; asks = Size.Asked; free = λ κs a. tt; allows = Size.Learnt; Left = Unit {0}; left = λ κs e. tt }

pub size-gives : Gives size (λ κs a. ours.size (lent a.0 a.1.0.now) a.1.1.0) (λ κs a. tt)
size-gives κs a z e p = (p, refl)

pub size-unique : Unique size
size-unique = unique size _ _ size-gives

abbrev pub word : Contract
word = record { lifetimes = 0; params = Word·kinds.ps; result = Word·kinds.r; asks = Word.Asked; free = λ κs a. tt; allows = Word.Learnt; Left = Unit {0}; left = λ κs e. tt }

pub word-gives : Gives word (λ κs a. ours.word a.0) (λ κs a. tt)
word-gives κs a z e p = (p, refl)

pub word-unique : Unique word
word-unique = unique word _ _ word-gives

abbrev pub codes : Contract
codes = record { lifetimes = 0; params = Codes·kinds.ps; result = Codes·kinds.r; asks = Codes.Asked; free = λ κs a. tt; allows = Codes.Learnt; Left = Unit {0}; left = λ κs e. tt }

pub codes-gives : Gives codes (λ κs a. ours.codes a.0) (λ κs a. tt)
codes-gives κs a z e p = (p, refl)

pub codes-unique : Unique codes
codes-unique = unique codes _ _ codes-gives

abbrev pub read : Contract
read = record { lifetimes = 1; params = Read·kinds.ps; result = Read·kinds.r; asks = Read.Asked; free = λ κs a. tt; allows = Read.Learnt; Left = Unit {0}; left = λ κs e. tt }

pub read-gives : Gives read (λ κs a. parts a.0.now) (λ κs a. tt)
read-gives κs a z e p = (p.0, refl)

pub read-unique : Unique read
read-unique = unique read _ _ read-gives

-- ---- the two that print: how many bytes, and the lent buffer
abbrev pub list : Contract
list = record { lifetimes = 2; params = List·kinds.ps; result = List·kinds.r; asks = Listed.Asked; free = λ κs a. tt; allows = Listed.Learnt; Left = List ℕ; left = λ κs e. e.1.0.now }

pub list-gives : Gives list (λ κs a. length (ours.list a.0.now)) (λ κs a. overlay a.1.0.now 0 (ours.list a.0.now))
list-gives κs a z e p = p.0

pub list-unique : Unique list
list-unique = unique list _ _ list-gives

abbrev pub show : Contract
show = record { lifetimes = 2; params = Show·kinds.ps; result = Show·kinds.r; asks = Show.Asked; free = λ κs a. tt; allows = Show.Learnt; Left = List ℕ; left = λ κs e. e.1.0.now }

pub show-gives : Gives show (λ κs a. length (ours.show a.0.now)) (λ κs a. overlay a.1.0.now 0 (ours.show a.0.now))
show-gives κs a z e p = p.0

pub show-unique : Unique show
show-unique = unique show _ _ show-gives

-- ---- those of order 1: a record's regions, their text, the outline of a report
abbrev pub regions : Contract
regions = record { lifetimes = 1; params = Table·kinds.ps; result = Table·kinds.r; asks = Table.Asked; free = λ κs a. tt; allows = Table.Learnt; Left = Unit {0}; left = λ κs e. tt }

pub regions-gives : Gives regions (λ κs a. table_of (lent a.0 a.1.0.now) a.1.1.0) (λ κs a. tt)
regions-gives κs a z e p = (p.0, refl)

pub regions-unique : Unique regions
regions-unique = unique regions _ _ regions-gives

-- the table given lists the regions that our reader lists
pub regions-list :
    (κs : Lfts 1) (a : Dens κs Table·kinds.ps) (z : (res_t Table·kinds.r κs).Denot) (e : AtExit (ended_of 1 Table·kinds.ps Table·kinds.r) κs) → regions.allows κs a z e
    → listed_in a.1.0.now z ≡ ours_of_regions.regions (lent a.0 a.1.0.now) a.1.1.0
regions-list κs a z e p =
    ap (listed_in a.1.0.now) p.0 ∙ table-listed (lent a.0 a.1.0.now) a.1.1.0

abbrev lines-text : (κs : Lfts 2) → Dens κs Lines·kinds.ps → List ℕ
lines-text κs a = ours_of_regions.lines (lent a.1.1.0 a.1.1.1.0.now) a.1.1.1.1.0 a.1.1.1.1.1.0

abbrev pub lines : Contract
lines = record { lifetimes = 2; params = Lines·kinds.ps; result = Lines·kinds.r; asks = Lines.Asked; free = λ κs a. tt; allows = Lines.Learnt; Left = List ℕ; left = λ κs e. e.0.now }

pub lines-gives : Gives lines (λ κs a. min (a.1.0 + length (lines-text κs a)) (2 ^ 64 - 1)) (λ κs a. overlay a.0.now a.1.0 (lines-text κs a))
lines-gives κs a z e p = (p.place, p.bytes)

pub lines-unique : Unique lines
lines-unique = unique lines _ _ lines-gives

abbrev pub outline : Contract
outline = record { lifetimes = 2; params = Outline·kinds.ps; result = Outline·kinds.r; asks = Outline.Asked; free = λ κs a. tt; allows = Outline.Learnt; Left = List ℕ; left = λ κs e. e.1.0.now }

pub outline-gives : Gives outline (λ κs a. length (ours_of_regions.outline a.0.now)) (λ κs a. overlay a.1.0.now 0 (ours_of_regions.outline a.0.now))
outline-gives κs a z e p = p.0

pub outline-unique : Unique outline
outline-unique = unique outline _ _ outline-gives

-- ---- those of order 3: whether a record fits its code, a FIT file, its text
abbrev pub fits : Contract
fits = record { lifetimes = 2; params = Fits·kinds.ps; result = Fits·kinds.r; asks = Fits.Asked; free = λ κs a. tt; allows = Fits.Learnt; Left = Unit {0}; left = λ κs e. tt }

pub fits_gives : Gives fits (λ κs a. ours_of_fits.fits (lent a.0 a.1.0.now) a.1.1.0 a.1.1.1.0.now) (λ κs a. tt)
fits_gives κs a z e p = (p, refl)

pub fits-unique : Unique fits
fits-unique = unique fits _ _ fits_gives

abbrev pub read-fit : Contract
read-fit = record { lifetimes = 1; params = ReadFit·kinds.ps; result = ReadFit·kinds.r; asks = ReadFit.Asked; free = λ κs a. tt; allows = ReadFit.Learnt; Left = Unit {0}; left = λ κs e. tt }

pub read-fit-gives : Gives read-fit (λ κs a. FitParts.parts a.0.now) (λ κs a. tt)
read-fit-gives κs a z e p = (p.0, refl)

pub read-fit-unique : Unique read-fit
read-fit-unique = unique read-fit _ _ read-fit-gives

abbrev pub fits-text : Contract
fits-text = record { lifetimes = 2; params = FitsText·kinds.ps; result = FitsText·kinds.r; asks = FitsText.Asked; free = λ κs a. tt; allows = FitsText.Learnt; Left = List ℕ; left = λ κs e. e.1.0.now }

pub fits-text-gives : Gives fits-text (λ κs a. length (ours_of_fits.text a.0.now)) (λ κs a. overlay a.1.0.now 0 (ours_of_fits.text a.0.now))
fits-text-gives κs a z e p = p.0

pub fits-text-unique : Unique fits-text
fits-text-unique = unique fits-text _ _ fits-text-gives

-- ---- the two texts of a report, for C
abbrev pub c-walk : Contract
c-walk = record { lifetimes = 2; params = CWalk·kinds.ps; result = CWalk·kinds.r; asks = CWalk.Asked; free = λ κs a. tt; allows = CWalk.Learnt; Left = List ℕ; left = λ κs e. e.1.0.now }

pub c-walk-gives : Gives c-walk (λ κs a. length (ours.list a.0.now)) (λ κs a. overlay a.1.0.now 0 (ours.list a.0.now))
c-walk-gives κs a z e p = p

pub c-walk-unique : Unique c-walk
c-walk-unique = unique c-walk _ _ c-walk-gives

abbrev pub c-caller : Contract
c-caller = record { lifetimes = 2; params = CCaller·kinds.ps; result = CCaller·kinds.r; asks = CCaller.Asked; free = λ κs a. tt; allows = CCaller.Learnt; Left = List ℕ; left = λ κs e. e.1.0.now }

pub c-caller-gives : Gives c-caller (λ κs a. length (ours.show a.0.now)) (λ κs a. overlay a.1.0.now 0 (ours.show a.0.now))
c-caller-gives κs a z e p = p

pub c-caller-unique : Unique c-caller
c-caller-unique = unique c-caller _ _ c-caller-gives

-- ---- the operations on tables, for C: a refusal's number or 0, and the answer in what is lent
abbrev pub c-find : Contract
c-find = record { lifetimes = 2; params = CFind·kinds.ps; result = CFind·kinds.r; asks = CFind.Asked; free = λ κs a. tt; allows = CFind.Learnt; Left = List ℕ; left = λ κs e. e.1.1.1.0.now }

pub c-find-gives : Gives c-find (λ κs a. verdict_number (ours.find a.0 a.1.0.now a.1.1.0)) (λ κs a. found_numbers (ours.find a.0 a.1.0.now a.1.1.0))
c-find-gives κs a z e p = p

pub c-find-unique : Unique c-find
c-find-unique = unique c-find _ _ c-find-gives

abbrev pub c-size : Contract
c-size = record { lifetimes = 2; params = CSize·kinds.ps; result = CSize·kinds.r; asks = CSize.Asked; free = λ κs a. tt; allows = CSize.Learnt; Left = ℕ; left = λ κs e. e.1.1.1.0.now }

pub c-size-gives : Gives c-size (λ κs a. verdict_number (ours.size (lent a.0 a.1.0.now) a.1.1.0)) (λ κs a. or_else (ours.size (lent a.0 a.1.0.now) a.1.1.0) 0)
c-size-gives κs a z e p = p

pub c-size-unique : Unique c-size
c-size-unique = unique c-size _ _ c-size-gives

abbrev pub c-word : Contract
c-word = record { lifetimes = 2; params = CWord·kinds.ps; result = CWord·kinds.r; asks = CWord.Asked; free = λ κs a. tt; allows = CWord.Learnt; Left = ℕ; left = λ κs e. e.1.0.now }

pub c-word-gives : Gives c-word (λ κs a. verdict_number (ours.word (fields_in a.0.now))) (λ κs a. or_else (ours.word (fields_in a.0.now)) 0)
c-word-gives κs a z e p = p

pub c-word-unique : Unique c-word
c-word-unique = unique c-word _ _ c-word-gives

abbrev pub c-codes : Contract
c-codes = record { lifetimes = 2; params = CCodes·kinds.ps; result = CCodes·kinds.r; asks = CCodes.Asked; free = λ κs a. tt; allows = CCodes.Learnt; Left = List ℕ × List ℕ; left = λ κs e. (e.1.0.now, e.1.1.0.now) }

pub c-codes-gives : Gives c-codes (λ κs a. verdict_number (ours.codes a.0)) (λ κs a. (code_list (ours.codes a.0), lengths (ours.codes a.0)))
c-codes-gives κs a z e p = (p.0, rw (p.1, p.2) refl)

pub c-codes-unique : Unique c-codes
c-codes-unique = unique c-codes _ _ c-codes-gives

-- ---- the walk into a lent list of records, by the clause that its code is proved to meet
abbrev of-args : (κs : Lfts 4) → Args Walk.signature κs → Trail
of-args κs a =
    walk (inputs a.0 a.1.0.now a.1.1.0 a.1.1.1.0.now a.1.1.1.1.0 a.1.1.1.1.1.0.now) (length a.1.1.1.1.1.1.1.0.now) a.1.1.1.1.1.1.0

abbrev Walks : (κs : Lfts 4) (a : Args Walk.signature κs) → Res Walk.signature κs → AtExit Walk.ended κs → Type 0
Walks κs a r e = (r ≡ walked (of-args κs a)) × (e.1.1.1.1.1.1.1.0.now ≡ filled a.1.1.1.1.1.1.1.0.now (of-args κs a))

pub walk-clause :
    {M : Type 1} {𝓤 : Ura M} (𝓛 : Logic 𝓤) (mem : Memory → SProp 𝓤) (run : Routine → Fun 𝓤) (κs : Lfts 4) (a : Args Walk.signature κs) (r : Res Walk.signature κs)
    (e : AtExit Walk.ended κs)
    → (Walk.clauses 𝓛 mem run κs a).ensures tt r e ≡ fact 𝓤 (Walks κs a r e)
walk-clause 𝓛 mem run κs a r e = refl

pub walk-gives :
    (κs : Lfts 4) (a : Args Walk.signature κs) (r : Res Walk.signature κs) (e : AtExit Walk.ended κs) → Walks κs a r e
    → record { walked = r; list = e.1.1.1.1.1.1.1.0.now }
    ≡ ours.walk (inputs a.0 a.1.0.now a.1.1.0 a.1.1.1.0.now a.1.1.1.1.0 a.1.1.1.1.1.0.now) a.1.1.1.1.1.1.0 a.1.1.1.1.1.1.1.0.now
walk-gives κs a r e p = rw (p.0, p.1) refl

pub walk-unique :
    (κs : Lfts 4) (a : Args Walk.signature κs) (r r' : Res Walk.signature κs) (e e' : AtExit Walk.ended κs) → Walks κs a r e → Walks κs a r' e'
    → (r ≡ r') × (e.1.1.1.1.1.1.1.0.now ≡ e'.1.1.1.1.1.1.1.0.now)
walk-unique κs a r r' e e' p q = (p.0 ∙ sym q.0, p.1 ∙ sym q.1)

pub walk-free :
    {M : Type 1} {𝓤 : Ura M} (𝓛 : Logic 𝓤) (mem : Memory → SProp 𝓤) (run : Routine → Fun 𝓤) (κs : Lfts 4) (a : Args Walk.signature κs)
    → (Walk.clauses 𝓛 mem run κs a).requires tt ≡ emp 𝓤
walk-free 𝓛 mem run κs a = refl
