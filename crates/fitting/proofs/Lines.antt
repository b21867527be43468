-- The instructions of a record that passes 6 and 7 stand one behind the other inside the function: prologue, then epilogues.
-- Assumes nothing.
use Rattle.std.specs.Prelude.{if◌then◌else◌, Ok}
use Prim.Native.Nat.{ℕ, ◌+◌, ◌*◌, ◌≤◌, ◌<◌}
use mathlib.Core.Path.{◌≡◌, refl, sym, ap, subst, ◌∙◌}
use mathlib.Core.List.{List, [], ◌∷◌, ◌++◌, map}
use mathlib.Core.Bool.{Bool, true, false, ◌&&◌, ◌||◌}
use lib.ListN.{drop}
use lib.Dec.{leb, eqb}
use native.Mathlib.Omega.{arith}
use borrow.Author.Tests.{leb-true, eqb-true, eqb-false}
use Rattle.words.specs.Units.{code_bytes, halfword_bytes}
use Rattle.words.specs.declared.CodeBytes.{CodeBytes}
use Rattle.words.proofs.Answers.{bind_ok, ok_same}
use Rattle.words.proofs.Tests.{both}
use Rattle.unwinding.specs.CodeList.{Codes, total}
use Rattle.unwinding.specs.Shape.{Shape, start_of}
use Rattle.unwinding.specs.Taking.{Scan}
use Rattle.unwinding.specs.View.{EpilogueOf, View, stretch, epilogues, view}
use Rattle.unwinding.specs.AsCoded.Lined.{empty, next, lined}
use Rattle.unwinding.specs.declared.Scope.{Scope}
use Rattle.unwinding.proofs.All.{Sized}
use Rattle.unwinding.proofs.Lined.{fits-lined}
use Rattle.unwinding.proofs.Scanning.{by-scan, codes_all}
use Rattle.unwinding.proofs.Viewed.{viewed}
use Rattle.codes.proofs.Scanning.{take-size, take_last}
use Rattle.expected.specs.Expected.{ending}
use Rattle.comparing.specs.Items.{Coded, size_of, scan_coded, coded_at, Item, opens, leaves, expects, item, prologue_items, epilogue_items}
use Rattle.comparing.proofs.Scanning.{takes-coded, taken-one, taken-last}
use Rattle.fitting.specs.Fitting.{epilogues_items, items}
use Rattle.fitting.specs.Exactly.{InLine}

line-from : (a m b : ℕ) (ys : List Item) → a ≤ m → InLine m ys b → InLine a ys b
line-from a m b [] h k = omega (arith, h, k)
line-from a m b (i ∷ is) h k = (omega (arith, h, k.0), k.1, k.2)

line-append : (a m b : ℕ) (xs ys : List Item) → InLine a xs m → InLine m ys b → InLine a (xs ++ ys) b
line-append a m b [] ys h k = line-from a m b ys h k
line-append a m b (i ∷ xs) ys h k = (h.0, h.1, line-append (i.offset + halfword_bytes (expects i.role).size) m b xs ys h.2 k)

line-up : (a b c : ℕ) (xs : List Item) → InLine a xs b → b ≤ c → InLine a xs c
line-up a b c [] h k = omega (arith, h, k)
line-up a b c (i ∷ xs) h k = (h.0, h.1, line-up (i.offset + halfword_bytes (expects i.role).size) b c xs h.2 k)

-- a line goes up; one that goes nowhere has nothing in it
pub line-le : (a b : ℕ) (xs : List Item) → InLine a xs b → a ≤ b
line-le a b [] h = h
line-le a b (i ∷ xs) h = omega (arith, h.0, h.1, line-le (i.offset + halfword_bytes (expects i.role).size) b xs h.2)

line-none : (a b : ℕ) (xs : List Item) → InLine a xs b → b ≤ a → xs ≡ []
line-none a b [] h k = refl
line-none a b (i ∷ xs) h k = absurd (omega (arith, h.0, h.1, line-le (i.offset + halfword_bytes (expects i.role).size) b xs h.2, k))

-- what a list that is read has: codes with instructions, and an end code whose instruction has 0, 2 or 4 bytes
record Ends (c : Codes Coded) : Type 0 where
  sized : Sized size_of c.list
  half : ℕ
  is : c.end_size ≡ 2 * half
  small : half ≤ 2

abbrev Half : ℕ → Type 0
Half n = (h : ℕ) × (n ≡ 2 * h) × (h ≤ 2)

end-half : (k : List ℕ) (i : CodeBytes) (n : ℕ) → (scan_coded k i).ending ≡ Ok n → Half n
end-half k i =
    by-scan takes-coded k (λ j (x : Scan Coded). (n : ℕ) → x.ending ≡ Ok n → Half n)
    (λ j c next r e ih. ih)
    (λ j m e n q. let w = take_last k j (taken-last j (drop j k) e) in let z : m ≡ n = ok_same m n q in (w.0, sym z ∙ w.1, w.2))
    (λ j b e n q. absurd (let z : ◌≡◌ {A = ℕ} 0 1 = cc in omega arith))
    i

ends : (k : List ℕ) (i : CodeBytes) (c : Codes Coded) → coded_at k i ≡ Ok c → Ends c
ends k i c q =
    let a = bind_ok (scan_coded k i).ending _ c q in
    let z : record { list = (scan_coded k i).list; end_size = a.0 } ≡ c = ok_same _ _ a.2 in
    let w = end-half k i a.0 a.1 in
    record {
      sized = codes_all takes-coded (λ (d : Coded). 0 < size_of d) k (λ j d next e. let t = take-size k j (taken-one j (drop j k) e) in omega (arith, t)) i c q;
      half = w.0;
      is = sym (ap (λ (x : Codes Coded). x.end_size) z) ∙ w.1;
      small = w.2;
    }

end-size : (e h : ℕ) → e ≡ 2 * h → h ≤ 2 → (e ≡ 0 → ⊥) → halfword_bytes (ending e).size ≡ e
end-size e h q l n = go (eqb e 2) refl
  where
    go : (t : Bool) → eqb e 2 ≡ t → halfword_bytes (ending e).size ≡ e
    go true r = let z : 2 ≡ e = sym (eqb-true e 2 r) in rw r z
    go false r = let z : 4 ≡ e = omega (arith, eqb-false e 2 r) in rw r z

module _ (s : List ℕ) where
  prologue-line : (cs : List Coded) → Sized size_of cs → InLine 0 (prologue_items s cs) (total size_of cs)
  unfolding prologue_items total
  prologue-line [] h = omega arith
  prologue-line (c ∷ cs) h =
      line-append 0 (total size_of cs) (size_of c + total size_of cs) (prologue_items s cs) (item s (total size_of cs) (opens c) ∷ []) (prologue-line cs h.1) (omega arith, h.0, omega arith)

  epilogue-line : (o : ℕ) (cs : List Coded) (e h : ℕ) → Sized size_of cs → e ≡ 2 * h → h ≤ 2 → InLine o (epilogue_items s o cs e) (o + total size_of cs + e)
  unfolding epilogue_items total
  epilogue-line o [] e h z q l = go (eqb e 0) refl
    where
      go : (t : Bool) → eqb e 0 ≡ t → InLine o (if t then [] else item s o (leaves e) ∷ []) (o + 0 + e)
      go true r = omega arith
      go false r =
          let m : halfword_bytes (ending e).size ≡ e = end-size e h q l (eqb-false e 0 r) in
          (omega arith, omega (arith, m, eqb-false e 0 r), omega (arith, m))
  epilogue-line o (c ∷ cs) e h z q l =
      (omega arith, z.0, line-up _ _ _ (epilogue_items s (o + size_of c) cs e) (epilogue-line (o + size_of c) cs e h z.1 q l) (omega arith))

  -- epilogues that stand in line behind an offset
  epilogues-line :
      (sh : Shape) (scs : List Scope) (exs : List (EpilogueOf Coded)) (floor reach : ℕ) → epilogues size_of coded_at sh scs ≡ Ok exs
      → lined sh.span floor reach (map stretch exs) ≡ true → reach ≤ sh.span → InLine reach (epilogues_items s exs) sh.span
  unfolding epilogues epilogues_items
  epilogues-line sh [] exs f r q h b = subst (λ l. InLine r (epilogues_items s l) sh.span) (ok_same [] exs q) b
  epilogues-line sh (e ∷ es) exs f r q h b =
      let a = bind_ok (coded_at sh.codes e.index) _ exs q in
      let m = bind_ok (epilogues size_of coded_at sh es) _ exs a.2 in
      let c = a.0 in
      let n = total size_of c.list + c.end_size in
      let x : EpilogueOf Coded = record { start = start_of e.start sh.span n; size = n; condition = e.condition; codes = c } in
      let z : x ∷ m.0 ≡ exs = ok_same (x ∷ m.0) exs m.2 in
      let w = ends sh.codes e.index c a.1 in
      let here : InLine x.start (epilogue_items s x.start c.list c.end_size) (x.start + n) =
      line-up _ _ _ (epilogue_items s x.start c.list c.end_size) (epilogue-line x.start c.list c.end_size w.half w.sized w.is w.small) (omega arith) in
      subst (λ l. InLine r (epilogues_items s l) sh.span) z
      (one_line x m.0 sh f r here (subst (λ l. lined sh.span f r (map stretch l) ≡ true) (sym z) h) b (λ g t k l. epilogues-line sh es m.0 g t m.1 k l))
    where
      one_line :
          (x : EpilogueOf Coded) (rest : List (EpilogueOf Coded)) (sh : Shape) (f r : ℕ)
          → InLine x.start (epilogue_items s x.start x.codes.list x.codes.end_size) (x.start + x.size)
          → lined sh.span f r (stretch x ∷ map stretch rest) ≡ true → r ≤ sh.span
          → ((g t : ℕ) → lined sh.span g t (map stretch rest) ≡ true → t ≤ sh.span → InLine t (epilogues_items s rest) sh.span)
          → InLine r (epilogue_items s x.start x.codes.list x.codes.end_size ++ epilogues_items s rest) sh.span
      one_line x rest sh f r here h b ih =
          let p = both (next sh.span f r (stretch x)) _ h in
          let q = both (leb f x.start && leb (x.start + x.size) sh.span) (empty (stretch x) || leb r x.start) p.0 in
          let k = both (leb f x.start) (leb (x.start + x.size) sh.span) q.0 in
          go (empty (stretch x)) refl q.1 p.1 (leb-true _ _ k.1)
        where
          go :
              (t : Bool) → leb (x.start + x.size) x.start ≡ t → (t || leb r x.start) ≡ true
              → lined sh.span (x.start + 1) (if t then r else x.start + x.size) (map stretch rest) ≡ true → x.start + x.size ≤ sh.span
              → InLine r (epilogue_items s x.start x.codes.list x.codes.end_size ++ epilogues_items s rest) sh.span
          go true e q l k =
              let none = line-none x.start (x.start + x.size) (epilogue_items s x.start x.codes.list x.codes.end_size) here (leb-true _ _ e) in
              rw none (ih (x.start + 1) r l b)
          go false e q l k =
              line-append r (x.start + x.size) sh.span (epilogue_items s x.start x.codes.list x.codes.end_size) (epilogues_items s rest)
              (line-from r x.start (x.start + x.size) (epilogue_items s x.start x.codes.list x.codes.end_size) (leb-true _ _ q) here)
              (ih (x.start + 1) (x.start + x.size) l k)

  pub items-line : (sh : Shape) (v : View Coded) → view size_of coded_at sh ≡ Ok v → InLine 0 (items s sh.fragment v) sh.span
  items-line sh v q =
      let w = viewed size_of coded_at sh v q in
      let k = both (leb v.prologue sh.span) _ (sym (fits-lined sh.span v.prologue v.epilogues) ∙ w.fit) in
      let low = leb-true _ _ k.0 in
      let rest = epilogues-line sh sh.scopes v.epilogues 0 v.prologue w.epilogues k.1 low in
      go sh.fragment w.prologue rest (ends sh.codes (code_bytes 0) v.codes w.codes).sized
    where
      go :
          (f : Bool) → v.prologue ≡ (if f then 0 else total size_of v.codes.list) → InLine v.prologue (epilogues_items s v.epilogues) sh.span → Sized size_of v.codes.list
          → InLine 0 (items s f v) sh.span
      go true e rest z = line-from 0 v.prologue sh.span (epilogues_items s v.epilogues) (omega arith) rest
      go false e rest z =
          line-append 0 v.prologue sh.span (prologue_items s v.codes.list) (epilogues_items s v.epilogues) (line-up 0 _ _ (prologue_items s v.codes.list) (prologue-line v.codes.list z) (omega (arith, e))) rest
