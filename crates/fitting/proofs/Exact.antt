-- A record passes exactly if nothing refuses it and all its instructions are their codes'; and so for each refusal.
-- Assumes nothing.
use Rattle.std.specs.Prelude.{if◌then◌else◌, Ok, Err}
use Prim.Native.Nat.{ℕ, ◌≤◌, ◌<◌}
use mathlib.Core.Path.{◌≡◌, refl, sym, ap, subst, ◌∙◌}
use mathlib.Core.Logic.{inl, inr}
use mathlib.Core.List.{List}
use mathlib.Core.Bool.{Bool, true, false}
use lib.ListN.{length}
use lib.Dec.{ltb}
use native.Mathlib.Omega.{arith}
use borrow.Author.Tests.{ltb-true, ltb-false, lt-ltb, le-ltb}
use Rattle.words.specs.declared.Refusal.{Refusal}
use Rattle.words.specs.declared.Refusal.TheVariants.{UnfitInput}
use Rattle.words.specs.Answer.{Res, ◌>>=◌, either, verdict}
use Rattle.words.proofs.Tests.{if-true, if-false}
use Rattle.lent.specs.Lent.{Lent}
use Rattle.unwinding.specs.Shape.{Shape}
use Rattle.unwinding.specs.View.{View, view}
use Rattle.unwinding.proofs.Mapping.{mapped, view_of}
use Rattle.codes.specs.Code.{size, codes_at}
use Rattle.xdata.specs.Xdata.{fit_xdata}
use Rattle.record.specs.Record.{shape_at}
use Rattle.place.specs.Judged.{view_at}
use Rattle.comparing.specs.Items.{Coded, size_of, coded_at, Compared, compared}
use Rattle.comparing.proofs.Scanning.{view-coded}
use Rattle.fitting.specs.Fitting.{items, Fitted, answered, view_fitted, shape_fitted, fitted}
use Rattle.fitting.specs.Exactly.{InLine, Reads, Passes, DiffersAt, IsShort, Unread, Exactly}
use Rattle.fitting.specs.declared.FitRefusal.TheVariants.{Record, Short, Differs}
use Rattle.fitting.proofs.Standing.{same-all, all_same, differs-first, first-differs}
use Rattle.fitting.proofs.Lines.{items-line}
use Rattle.fitting.proofs.Whole.{fit-unfit, fit-shape, fit_refused}

module _ (x : Lent) (w : ℕ) (s : List ℕ) where
  -- a record that is read
  fit-read : (q : Reads x w) → view_fitted s q.shape q.view ≡ fitted x w s
  fit-read q =
      ap (λ y. either y (λ r. Err (Record r)) (view_fitted s q.shape)) (sym q.passes6-7) ∙ fit-shape x w s (Ok q.shape) q.passes1 q.passes4-5

  pub fit-long : (q : Reads x w) → q.shape.span ≤ length s → answered (compared (items s q.shape.fragment q.view)) ≡ fitted x w s
  fit-long q h = if-false (Err Short) _ (le-ltb _ _ h) ∙ fit-read q

  fit-short : (q : Reads x w) → length s < q.shape.span → Err Short ≡ fitted x w s
  fit-short q h = if-true _ _ (lt-ltb _ _ h) ∙ fit-read q

  -- the ways in which an answer comes
  pub data Way : Fitted → Type 0 where
    unread : (r : Refusal) → Unread x w r → Way (Err (Record r))
    short : IsShort x w s → Way (Err Short)
    long : (q : Reads x w) → q.shape.span ≤ length s → Way (answered (compared (items s q.shape.fragment q.view)))

  refused-view : (sh : Shape) (r : Refusal) → shape_at x w ≡ Ok sh → view size_of coded_at sh ≡ Err r → view_at x w ≡ Err r
  refused-view sh r e f = ap (λ y. y >>= view size codes_at) e ∙ sym (view-coded sh) ∙ ap (mapped (view_of (λ (d : Coded). d.code))) f

  pub way : Way (fitted x w s)
  unfolding fitted
  way = by-xdata (fit_xdata x) refl
    where
      by_span : (q : Reads x w) (t : Bool) → ltb (length s) q.shape.span ≡ t → Way (if t then Err Short else answered (compared (items s q.shape.fragment q.view)))
      by_span q true h = short (record { reads = q; short = ltb-true _ _ h })
      by_span q false h = long q (ltb-false _ _ h)

      by-view : fit_xdata x ≡ true → (sh : Shape) → shape_at x w ≡ Ok sh → (y : Res (View Coded)) → view size_of coded_at sh ≡ y → Way (either y (λ r. Err (Record r)) (view_fitted s sh))
      by-view h sh e (Ok v) f = by_span (record { passes1 = h; shape = sh; passes4-5 = e; view = v; passes6-7 = f }) (ltb (length s) sh.span) refl
      by-view h sh e (Err r) f = unread r (inr (h, refused-view sh r e f))

      by_shape : fit_xdata x ≡ true → (y : Res Shape) → shape_at x w ≡ y → Way (either y (λ r. Err (Record r)) (shape_fitted s))
      by_shape h (Ok sh) e = by-view h sh e (view size_of coded_at sh) refl
      by_shape h (Err r) e = unread r (inr (h, ap (λ y. y >>= view size codes_at) e))

      by-xdata : (t : Bool) → fit_xdata x ≡ t → Way (if t then either (shape_at x w) (λ r. Err (Record r)) (shape_fitted s) else Err (Record UnfitInput))
      by-xdata true h = by_shape h (shape_at x w) refl
      by-xdata false h = unread UnfitInput (inl (h, refl))

  -- no two answers are one
  clash : {A : Type 0} → ◌≡◌ {A = ℕ} 0 1 → A
  clash h = absurd (omega arith)

  from-passes : (f : Fitted) → Way f → f ≡ Ok tt → Passes x w s
  from-passes f (unread r u) h = clash cc
  from-passes f (short q) h = clash cc
  from-passes f (long q l) h = go (compared (items s q.shape.fragment q.view)) refl h
    where
      go : (c : Compared) → compared (items s q.shape.fragment q.view) ≡ c → answered c ≡ Ok tt → Passes x w s
      go (Ok u) e h = record { list = items s q.shape.fragment q.view; compares = record { reads = q; long = l; all = refl }; stand = same-all (items s q.shape.fragment q.view) e }
      go (Err d) e h = clash cc

  from-differs : (o : ℕ) (f : Fitted) → Way f → f ≡ Err (Differs o) → DiffersAt x w s o
  from-differs o f (unread r u) h = clash cc
  from-differs o f (short q) h = clash cc
  from-differs o f (long q l) h = go (compared (items s q.shape.fragment q.view)) refl h
    where
      go : (c : Compared) → compared (items s q.shape.fragment q.view) ≡ c → answered c ≡ Err (Differs o) → DiffersAt x w s o
      go (Ok u) e h = clash cc
      go (Err d) e h =
          let f = differs-first (items s q.shape.fragment q.view) d.0 e in
          let z : d.0 ≡ o = cc in
          record { before = f.before; first = f.first; behind = f.behind; compares = record { reads = q; long = l; all = f.all }; stand = f.stand; other = f.other; at = f.at ∙ z }

  from-short : (f : Fitted) → Way f → f ≡ Err Short → IsShort x w s
  from-short f (unread r u) h = clash cc
  from-short f (short q) h = q
  from-short f (long q l) h = go (compared (items s q.shape.fragment q.view)) h
    where
      go : (c : Compared) → answered c ≡ Err Short → IsShort x w s
      go (Ok u) h = clash cc
      go (Err d) h = clash cc

  from-unread : (r : Refusal) (f : Fitted) → Way f → f ≡ Err (Record r) → Unread x w r
  from-unread r f (unread t u) h = let z : t ≡ r = cc in rw (sym z) u
  from-unread r f (short q) h = clash cc
  from-unread r f (long q l) h = go (compared (items s q.shape.fragment q.view)) h
    where
      go : (c : Compared) → answered c ≡ Err (Record r) → Unread x w r
      go (Ok u) h = clash cc
      go (Err d) h = clash cc

  to-passes : Passes x w s → fitted x w s ≡ Ok tt
  to-passes p =
      let c = p.compares in
      sym (fit-long c.reads c.long) ∙ ap (λ l. answered (compared l)) c.all ∙ ap answered (all_same p.list p.stand)

  to-differs : (o : ℕ) → DiffersAt x w s o → fitted x w s ≡ Err (Differs o)
  to-differs o d =
      let c = d.compares in
      sym (fit-long c.reads c.long) ∙ ap (λ l. answered (compared l)) c.all
      ∙ ap answered (first-differs d.before d.first d.behind d.stand d.other)
      ∙ ap (λ n. Err (Differs n)) d.at

  pub to-unread : (r : Refusal) → Unread x w r → fitted x w s ≡ Err (Record r)
  to-unread r (inl h) = sym (fit-unfit x w s h.0) ∙ ap (λ t. Err (Record t)) (sym h.1)
  to-unread r (inr h) = sym (fit_refused x w s r h.0 (ap verdict h.1))

  pub exactly : Exactly (fitted x w s) x w s
  exactly = record {
    in-line = λ is c. subst (λ l. InLine 0 l c.reads.shape.span) c.all (items-line s c.reads.shape c.reads.view c.reads.passes6-7);
    passes = (from-passes (fitted x w s) way, to-passes);
    differs = λ o. (from-differs o (fitted x w s) way, to-differs o);
    short = (from-short (fitted x w s) way, λ q. sym (fit-short q.reads q.short));
    unread = λ r. (from-unread r (fitted x w s) way, to-unread r);
  }
