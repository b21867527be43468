-- What every unwound frame keeps: SP does not fall, and at most 1,020 codes run.
-- Assumes nothing.
use Rattle.std.specs.Prelude.{if◌then◌else◌, Ok, Option, None, Some}
use Prim.Native.Nat.{ℕ, ◌-◌, ◌≤◌}
use mathlib.Core.Path.{◌≡◌, sym, ap, ◌∙◌}
use mathlib.Core.List.{List}
use mathlib.Core.Bool.{Bool, true, false, ◌&&◌}
use lib.ListN.{length}
use lib.Dec.{leb, ltb}
use native.Mathlib.Omega.{arith}
use borrow.Author.Tests.{leb-true}
use Rattle.words.specs.Bits.{even}
use Rattle.lent.specs.Lent.{Lent}
use Rattle.words.specs.declared.Place.{Place}
use Rattle.words.specs.declared.CodeBytes.{CodeBytes}
use Rattle.words.specs.declared.Refusal.TheVariants.{UnfitInput, BadStack, SpFell}
use Rattle.words.specs.Answer.{Res, ◌>>◌, need, maybe}
use Rattle.unwinding.specs.Shape.{Shape}
use Rattle.words.proofs.Answers.{bind_ok, need-ok, ok_same}
use Rattle.record.proofs.Shapes.{shape-few}
use Rattle.codes.specs.Code.{scan}
use Rattle.unwinding.proofs.Scanning.{scan-length}
use Rattle.codes.proofs.Scanning.{takes}
use Rattle.machine.specs.declared.Regs.{Regs}
use Rattle.machine.specs.Step.{stands}
use Rattle.machine.specs.AsCoded.Run.{run_at}
use Rattle.pdata.specs.declared.Entry.{Entry}
use Rattle.pdata.specs.Pdata.{find}
use Rattle.xdata.specs.Xdata.{fit_xdata}
use Rattle.record.specs.Record.{shape_of}
use Rattle.frame.specs.Frame.{Inputs, Caller, fit_stack, returned, leaf_of, uncovered, within, by_record, after_find, frame_of}
use Rattle.frame.specs.AsCoded.FromPlace.{finish, ran_from}
use Rattle.frame.proofs.Within.{spot_in, within-placed}

-- what a frame keeps
record Kept (g : Regs) (c : Caller) : Type 0 where
  sp : g.sp ≤ c.regs.sp
  codes : c.codes ≤ 1020

kept-uncovered : (first : Bool) (g : Regs) (c : Caller) → uncovered first g ≡ Ok c → Kept g c
kept-uncovered true g c q =
    let e : leaf_of g ≡ c = ok_same (leaf_of g) c q in
    record { sp = omega (arith, ap (λ y. y.regs.sp) e); codes = omega (arith, ap (λ y. y.codes) e) }
kept-uncovered false g c q = absurd (let z : ◌≡◌ {A = ℕ} 0 1 = cc in omega arith)

kept_from :
    (k : Lent) (s : List ℕ) (hd : ℕ) (g : Regs) (p : Place) (i : CodeBytes) (c : Caller) → length s ≤ 1020 → ran_from k s hd g p i ≡ Ok c → Kept g c
kept_from k s hd g p i c n q =
    let u = bind_ok (run_at k s i g) (finish hd g p (length (scan s i).list)) c q in
    let d : Caller = record { regs = returned u.0; place = p; handler = hd; codes = length (scan s i).list } in
    let w = need-ok (leb g.sp u.0.sp) SpFell (Ok d) c u.2 in
    let e : d ≡ c = ok_same d c w.1 in
    record { sp = omega (arith, leb-true g.sp u.0.sp w.0, ap (λ y. y.regs.sp) e); codes = omega (arith, scan-length takes s i, ap (λ y. y.codes) e) }

kept-within : (k : Lent) (s : Shape) (o : ℕ) (g : Regs) (c : Caller) → length s.codes ≤ 1020 → within k s o g ≡ Ok c → Kept g c
kept-within k s o g c n q =
    let u = bind_ok (spot_in s o) (λ p. ran_from k s.codes s.handler g p.place p.index) c (sym (within-placed k s o g) ∙ q) in
    kept_from k s.codes s.handler g u.0.place u.0.index c n u.2

kept_record : (first : Bool) (t : Inputs) (e : Entry) (g : Regs) (c : Caller) → by_record first t e g ≡ Ok c → Kept g c
unfolding by_record
kept_record first t e g c q =
    let u = bind_ok (shape_of t.xdata e) (λ s. if ltb (even g.pc - t.image - e.start) s.span then within t.stack s (even g.pc - t.image - e.start) g else uncovered first g) c q in
    go u.0 (ltb (even g.pc - t.image - e.start) u.0.span) (shape-few t.xdata e.word u.0 u.1) u.2
  where
    go :
        (s : Shape) (b : Bool) → length s.codes ≤ 1020
        → (if b then within t.stack s (even g.pc - t.image - e.start) g else uncovered first g) ≡ Ok c → Kept g c
    go s true n h = kept-within t.stack s (even g.pc - t.image - e.start) g c n h
    go s false n h = kept-uncovered first g c h

kept-found : (first : Bool) (t : Inputs) (g : Regs) (x : Res (Option Entry)) (c : Caller) → after_find first t g x ≡ Ok c → Kept g c
kept-found first t g x c q =
    let u = bind_ok x (λ e. need (stands t.stack g.sp) BadStack >> maybe e (uncovered first g) (λ e. by_record first t e g)) c q in
    let w = need-ok (stands t.stack g.sp) BadStack (maybe u.0 (uncovered first g) (λ e. by_record first t e g)) c u.2 in
    go u.0 w.1
  where
    go : (e : Option Entry) → maybe e (uncovered first g) (λ e. by_record first t e g) ≡ Ok c → Kept g c
    go None h = kept-uncovered first g c h
    go (Some e) h = kept_record first t e g c h

kept : (first : Bool) (t : Inputs) (g : Regs) (c : Caller) → frame_of first t g ≡ Ok c → Kept g c
unfolding frame_of
kept first t g c q =
    let w = need-ok (fit_stack t.stack && fit_xdata t.xdata) UnfitInput (after_find first t g (find t.image t.pdata g.pc)) c q in
    kept-found first t g (find t.image t.pdata g.pc) c w.1

pub frame-sp : (first : Bool) (t : Inputs) (g : Regs) (c : Caller) → frame_of first t g ≡ Ok c → g.sp ≤ c.regs.sp
frame-sp first t g c q = (kept first t g c q).sp

pub frame-codes : (first : Bool) (t : Inputs) (g : Regs) (c : Caller) → frame_of first t g ≡ Ok c → c.codes ≤ 1020
frame-codes first t g c q = (kept first t g c q).codes
