-- Demand 3 of functions whose record fits: what was executed by the manual is what demand 3 asks.
-- Assumes nothing.
use Rattle.std.specs.Prelude.{Ok}
use Prim.Native.Nat.{ℕ, ◌+◌, ◌%◌, ◌^◌, ◌≤◌, ◌<◌}
use mathlib.Core.Path.{◌≡◌, refl, sym, ap, subst, ◌∙◌}
use mathlib.Core.List.{List, [], ◌∷◌, ◌++◌, map-append}
use Rattle.words.specs.declared.Place.{Place}
use Rattle.lent.specs.Lent.{Lent, end, word_at}
use Rattle.unwinding.specs.CodeList.{total}
use Rattle.unwinding.specs.Shape.{Shape}
use Rattle.unwinding.specs.View.{View, view}
use Rattle.unwinding.proofs.All.{All, all_end}
use Rattle.unwinding.proofs.Mapping.{epilogue_of, view_of}
use Rattle.unwinding.proofs.Viewed.{Viewed, viewed, read_of}
use Rattle.codes.specs.Code.{size, codes_at}
use Rattle.codes.specs.declared.Code.{Code}
use Rattle.pdata.specs.declared.Entry.{Entry}
use Rattle.record.specs.Record.{shape_at}
use Rattle.frame.specs.Frame.{Inputs}
use Rattle.comparing.specs.Items.{Coded, size_of, coded_at, prologue_items, epilogue_items}
use Rattle.comparing.proofs.Scanning.{total-coded}
use Rattle.fitting.specs.Exactly.{AllStand}
use Rattle.fitting.specs.Fitting.{items}
use Rattle.forward.specs.Saving.{RX}
use Rattle.forward.specs.State.{State}
use Rattle.forward.specs.Met.{Fine}
use Rattle.forward.specs.Stop as S
use Rattle.forward.specs.Demand.{Asked, Demand3}
use Rattle.forward.proofs.Back.{Inv}
use Rattle.forward.proofs.Flat.{flat}
use Rattle.forward.proofs.Steps.{seen, st, inv-body}
use Rattle.forward.proofs.Framed.{fit-second, stack-end, answer, demand3}
use Rattle.executing.specs.Executed.{code_of, plain, Past, InPrologue, InBody, InEpilogue, Stopped, prologue, body, epilogue, Executed}
use Rattle.executing.specs.Claims.{FitDemand3}
use Rattle.executing.proofs.Table.{Known, codes-known}
use Rattle.executing.proofs.Standing.{fitting, of-prologue, of_part, of-epilogues, of-epilogue, view-plain, of_plain, none-plain, no-prologue}
use Rattle.executing.proofs.Entering.{entered, past}
use Rattle.executing.proofs.Leaving.{Part, closed-stack, closed-ran}

-- the end of a fine list is fine
fine_end : (ahead undone : List Coded) → Fine (plain (ahead ++ undone)) → Fine (plain undone)
fine_end [] undone h = h
fine_end (c ∷ ahead) undone h = fine_end ahead undone h.1

module _
    (s : List ℕ) (x : Lent) (r : Entry) (sh : Shape) (v : View Coded) (e4 : shape_at x r.word ≡ Ok sh) (e6 : view size_of coded_at sh ≡ Ok v)
    (stand : AllStand (items s sh.fragment v)) (fine : Fine (plain v.codes.list)) (entry : State) (al : entry.regs.sp % 4 ≡ 0)
  where
    abbrev bare : View Code
    bare = view_of code_of v

    known : All Known v.codes.list
    known = codes-known _ _ _ (viewed size_of coded_at sh v e6).codes

    viewed-bare : Viewed size codes_at sh bare
    viewed-bare = viewed size codes_at sh bare (view-plain sh v e6)

    in-prologue :
        {o : ℕ} {now : State} {undone : List Coded} → InPrologue s v entry o now undone → entry.regs.sp ≤ end now.stack → end now.stack < 2 ^ 32
        → S.InPrologue bare entry o now (plain undone)
    in-prologue {o} {now} {undone} h high m =
        let all : AllStand (prologue_items s v.codes.list) = of-prologue s sh.fragment v (no-prologue sh v o e6 h.early) stand in
        let part : AllStand (prologue_items s undone) = of_part s h.ahead undone (subst (λ l. AllStand (prologue_items s l)) h.codes all) in
        let k : All Known undone = all_end Known h.ahead undone (subst (All Known) h.codes known) in
        let f : Fine (plain undone) = fine_end h.ahead undone (subst (λ l. Fine (plain l)) h.codes fine) in
        let d = entered s h.entered k part f high m in
        record {
          ahead = plain h.ahead;
          codes = ap plain h.codes ∙ map-append code_of h.ahead undone;
          offset = h.offset ∙ total-coded undone;
          early = h.early;
          done = d.done;
          stays = d.stays;
        }

    in-past : {now : State} → Past s sh.fragment v.codes.list entry now → entry.regs.sp ≤ end now.stack → end now.stack < 2 ^ 32 → S.Past (plain v.codes.list) entry now
    in-past h high m = past s h (λ e. of-prologue s sh.fragment v e stand) known fine high m

    in_body : {o : ℕ} {now : State} → InBody s sh.fragment v entry o now → entry.regs.sp ≤ end now.stack → end now.stack < 2 ^ 32 → S.InBody bare entry o now
    in_body {o} h high m = record { late = h.late; outside = none-plain o v.epilogues h.outside; past = in-past h.past high m }

    part_of : {o : ℕ} {now : State} {undone : List Coded} (h : InEpilogue s r sh v entry o now undone) → Part s undone h.read.codes.end_size h.read.start h.gone
    part_of {undone = undone} h =
        let y = read_of size_of coded_at sh (viewed size_of coded_at sh v e6).epilogues h.listed in
        let en : ℕ = h.read.codes.end_size in
        let all = of-epilogue s h.listed (of-epilogues s sh.fragment v stand) in
        record {
          known = subst (All Known) h.codes (codes-known _ _ _ y.codes);
          stand = subst (λ l. AllStand (epilogue_items s h.read.start l en)) h.codes all;
          inside = subst (λ l. total size_of h.gone < total size_of l + en) h.codes (subst (λ n. total size_of h.gone < n) y.long h.inside);
        }

    in-epilogue :
        {o : ℕ} {now : State} {undone : List Coded} → InEpilogue s r sh v entry o now undone → entry.regs.sp ≤ end now.stack → end now.stack < 2 ^ 32
        → S.InEpilogue r sh bare entry o now (plain undone)
    in-epilogue {o} {now} {undone} h high m =
        let part = part_of h in
        let en : ℕ = h.read.codes.end_size in
        let k : Lent = h.start.stack in
        let same : now.stack ≡ k = closed-stack s undone en h.closed part in
        let top : entry.regs.sp ≤ end k = subst (λ (y : Lent). entry.regs.sp ≤ end y) same high in
        let small : end k < 2 ^ 32 = subst (λ (y : Lent). end y < 2 ^ 32) same m in
        let p = in-past h.past top small in
        let q = fit-second x r sh bare e4 viewed-bare h.scope (epilogue_of code_of h.read) (of_plain h.listed) h.fit in
        let i = q.inv _ _ _ _ (inv-body al p.done p.stays p.keeps) in
        let list : plain h.read.codes.list ≡ plain (h.gone ++ undone) = ap plain h.codes in
        let ran = closed-ran s undone en k (st entry) al top small (RX (plain v.codes.list)) h.closed part
        (λ y a. q.r_x y (subst (λ l. RX l y) (sym list) a)) refl
        (subst (λ l. Inv k.base (st entry) (flat l) (seen h.start.regs) (word_at k)) list i) in
        record {
          scope = h.scope;
          read = epilogue_of code_of h.read;
          listed = of_plain h.listed;
          fit = h.fit;
          unconditional = h.unconditional;
          gone = plain h.gone;
          codes = list ∙ map-append code_of h.gone undone;
          offset = h.offset ∙ ap (λ n. h.read.start + n) (total-coded h.gone);
          inside = subst (λ n. n < h.read.size) (total-coded h.gone) h.inside;
          start = h.start;
          past = p;
          ran = ran;
        }

    stopped :
        {o : ℕ} {now : State} {p : Place} {undone : List Coded} → Stopped s r sh v entry o now p undone → entry.regs.sp ≤ end now.stack → end now.stack < 2 ^ 32
        → S.Stopped r sh bare entry o now p (plain undone)
    stopped (prologue h) high m = S.prologue (in-prologue h high m)
    stopped (body h) high m = S.body (in_body h high m)
    stopped (epilogue h) high m = S.epilogue (in-epilogue h high m)

asked : (s : List ℕ) (t : Inputs) (entry now : State) → Executed s t entry now → Asked t entry now
asked s t entry now a =
    let f = fitting t.xdata a.own.word s a.shape a.view a.fits a.passes4-5 a.passes6-7 in
    let high : entry.regs.sp ≤ end now.stack = subst (λ (k : Lent). entry.regs.sp ≤ end k) (sym a.stack) a.lent in
    let m : end now.stack < 2 ^ 32 = subst (λ (k : Lent). end k < 2 ^ 32) (sym a.stack) (stack-end t.stack a.passes1) in
    record {
      passes1 = rw (a.passes1, f.passes1) refl;
      own = a.own;
      found = a.found;
      shape = a.shape;
      passes4-5 = a.passes4-5;
      view = view_of code_of a.view;
      passes6-7 = view-plain a.shape a.view a.passes6-7;
      offset = a.offset;
      here = a.here;
      covers = a.covers;
      aligned = a.aligned;
      lent = a.lent;
      stack = a.stack;
      place = a.place;
      undone = plain a.undone;
      stopped = stopped s t.xdata a.own a.shape a.view a.passes4-5 a.passes6-7 f.stand a.fine entry a.aligned a.stopped high m;
    }

pub fit-demand3 : FitDemand3 answer
unfolding Demand3 asked
fit-demand3 s t entry now a = demand3 t entry now (asked s t entry now a)
