-- The code bytes of a packed word are its two lists, the prologue's in reverse and the epilogue's, each up to its end code, then zeros.
-- Assumes nothing.
use Rattle.std.specs.Prelude.{if◌then◌else◌, Ok, Err}
use Prim.Native.Nat.{ℕ, zero, suc, ◌+◌, ◌-◌, ◌≤◌, ◌<◌}
use mathlib.Core.Path.{◌≡◌, refl, sym, ap, ap₂, subst, ◌∙◌}
use mathlib.Core.List.{List, [], ◌∷◌, ◌++◌, append_assoc, append-nil, reverse, reverse-append}
use mathlib.Core.Bool.{Bool, true, false, ◌&&◌, not}
use mathlib.Core.Logic.{◌≢◌}
use lib.Dec.{leb, eqb}
use lib.ListN.{length, take, drop, replicate, length-append, length-replicate}
use lib.Seq.{take-append-add, take-append_seam, take-append-le, take-length, drop-append_seam}
use native.Mathlib.Omega.{arith}
use borrow.Author.Tests.{ltb-true, eqb-true, eqb-false}
use Rattle.words.specs.Units.{code_bytes, halfwords, halfword_bytes}
use Rattle.words.specs.declared.Halfwords.{Halfwords}
use Rattle.words.specs.declared.Refusal.TheVariants.{BadCodes}
use Rattle.words.proofs.Tests.{both}
use Rattle.words.specs.Answer.{Res, ◌>>=◌}
use Rattle.unwinding.specs.CodeList.{Codes}
use Rattle.codes.specs.Table.{rows, row_in, bits32}
use Rattle.unwinding.specs.Taking.{Scan, scan_from}
use Rattle.codes.specs.Code.{taking, bytes_of, codes_at}
use Rattle.codes.specs.declared.Code.{Code}
use Rattle.codes.specs.declared.Undo.{Undo}
use Rattle.codes.specs.declared.Undo.TheVariants.{Up, Nothing}
use Rattle.unwinding.proofs.Scanning.{scan-at}
use Rattle.codes.proofs.Scanning.{takes}
use Rattle.packed.specs.Packed.{Fit, amount, PF, EF, integers}
use Rattle.packed_codes.specs.PackedCodes.{when, up_code, vpop_code, pop_code, low, pushed, chain_alone, first_list, leave, second_list, written}
use Rattle.packed.specs.declared.Packed.{Packed}
use Rattle.packed.proofs.IntegerLists.{integers-small}
use Rattle.packed_codes.specs.Lists.{only, size_if, ups, vpops, pops, nops, homes, prologue_codes, leaving, epilogue_codes, Stands, Holds}
use Rattle.packed_codes.specs.Chain.{first_before, written_before, codes_before}
use Rattle.packed_codes.proofs.Buffer.{holding-bytes}
use Rattle.packed_codes.proofs.Lengths.{first_with, lists-fit, before-fit}
use Rattle.packed_codes.proofs.Pieces.{amount-small, leave-load, leave-return, leave-jump, second_none, second-some}
use Rattle.packed_codes.proofs.Reading.{Reads, reads_none, reads-append, reads-when, ends, reads_up, reads-vpop, reads-nop, reads-home, reads-return, reads-pop}

-- ---- bytes up to an end code
record Ended (bs : List ℕ) (c : Codes Code) : Type 0 where
  before : List ℕ
  end : ℕ
  bytes : bs ≡ before ++ (end ∷ [])
  codes : Reads before c.list
  ends : (at : ℕ) (rest : List ℕ) → scan_from taking bytes_of at (end ∷ rest) 0 ≡ record { list = []; ending = Ok c.end_size }

abbrev ahead : List Code → Codes Code → Codes Code
ahead cs c = record { list = cs ++ c.list; end_size = c.end_size }

abbrev none : ℕ → Codes Code
none n = record { list = []; end_size = n }

ended-after : {a b : List ℕ} {cs : List Code} {c : Codes Code} → Reads a cs → Ended b c → Ended (a ++ b) (ahead cs c)
ended-after {a} h k =
    record { before = a ++ k.before; end = k.end; bytes = ap (λ l. a ++ l) k.bytes ∙ sym (append_assoc a k.before (k.end ∷ [])); codes = reads-append h k.codes; ends = k.ends }

ended-last : {a b : List ℕ} {cs : List Code} {n : ℕ} → Reads a cs → Ended b (none n) → Ended (a ++ b) (record { list = cs; end_size = n })
ended-last {a} {b} {cs} {n} h k = subst (λ l. Ended (a ++ b) (record { list = l; end_size = n })) (append-nil cs) (ended-after h k)

ends-FF : Ended (0xFF ∷ []) (none 0)
unfolding rows row_in
ends-FF = record { before = []; end = 0xFF; bytes = refl; codes = reads_none; ends = λ at rest. ends 0xFF (halfwords 0) at rest refl refl (λ v. refl) }

-- FD or FE
ends-branch : (ret : ℕ) → ret < 4 → ret ≢ 0 → ret ≢ 3 → Ended ((0xFC + ret) ∷ []) (none (halfword_bytes (size_if (eqb ret 1))))
unfolding rows row_in
ends-branch zero h n m = absurd (n refl)
ends-branch (suc zero) h n m =
    record { before = []; end = 0xFD; bytes = refl; codes = reads_none; ends = λ at rest. ends 0xFD (halfwords 1) at rest refl refl (λ v. refl) }
ends-branch (suc (suc zero)) h n m =
    record { before = []; end = 0xFE; bytes = refl; codes = reads_none; ends = λ at rest. ends 0xFE (halfwords 2) at rest refl refl (λ v. refl) }
ends-branch (suc (suc (suc k))) h n m = absurd (m (omega arith))

-- ---- the two lists
-- the prologue's pieces, from the last to the first
reverse-only : (t : Bool) (u : Undo) (n : Halfwords) → reverse (only t u n) ≡ only t u n
reverse-only true u n = refl
reverse-only false u n = refl

backwards :
    (a b c d e : List Code) → reverse a ≡ a → reverse b ≡ b → reverse c ≡ c → reverse d ≡ d → reverse e ≡ e
    → reverse (a ++ b ++ c ++ d ++ e) ≡ e ++ d ++ c ++ b ++ a
backwards a b c d e p q r s t =
    rw (reverse-append (a ++ b ++ c ++ d) e, reverse-append (a ++ b ++ c) d, reverse-append (a ++ b) c, reverse-append a b, p, q, r, s, t)
    (simp append_assoc)

-- the prologue's list with a nop of this size, for C=1
abbrev pub codes_with : Packed → (nop : Halfwords) → List Code
codes_with p n = let l : ℕ = integers p (PF p) in ups p (PF p) ++ vpops p ++ only (eqb p.c 1) Nothing n ++ pops (low l) l p.l ++ homes p

pub reversed :
    (p : Packed) (n : Halfwords)
    → reverse (homes p ++ pops (low (integers p (PF p))) (integers p (PF p)) p.l ++ only (eqb p.c 1) Nothing n ++ vpops p ++ ups p (PF p)) ≡ codes_with p n
reversed p n =
    let l : ℕ = integers p (PF p) in
    backwards (homes p) (pops (low l) l p.l) (only (eqb p.c 1) Nothing n) (vpops p) (ups p (PF p)) (reverse-only (eqb p.h 1) _ _)
    (reverse-only (not (eqb (l + p.l) 0)) _ _)
    (reverse-only (eqb p.c 1) _ _)
    (reverse-only (eqb p.r 1 && not (eqb p.reg 7)) _ _)
    (reverse-only (not (PF p) && not (eqb (amount p).0 0)) _ _)

pub prologue-is : (p : Packed) → (prologue_codes p).list ≡ ups p (PF p) ++ vpops p ++ nops p ++ pops (low (integers p (PF p))) (integers p (PF p)) p.l ++ homes p
prologue-is p = reversed p (size_if (chain_alone (pushed p)))

module _ (p : Packed) (w : Fit p) where
  reads-ups : (f : Bool) → Reads (when (not f) (up_code (amount p))) (ups p f)
  reads-ups f = go (not f)
    where
      go : (t : Bool) → Reads (when t (up_code (amount p))) (only (t && not (eqb (amount p).0 0)) (Up (amount p)) (size_if (leb (amount p).0 127)))
      go true = reads_up (amount p).0 (amount-small p w)
      go false = reads_none

  reads-vpops : Reads (vpop_code p) (vpops p)
  reads-vpops = reads-when (eqb p.r 1 && not (eqb p.reg 7)) (reads-vpop p.reg w.reg)

  reads-homes : Reads (when (eqb p.h 1) (0x04 ∷ [])) (homes p)
  reads-homes = reads-when (eqb p.h 1) reads-home

  reads-pops : (t f : Bool) (b : ℕ) → b < 2 → (t ≡ true → low (integers p f) ≡ true) → Reads (pop_code t (integers p f) b) (pops t (integers p f) b)
  reads-pops t f b h q = reads-pop t (integers p f) b (λ e. ltb-true (integers p f) 256 (q e)) (integers-small p f w) h

  -- the first list with a nop of either size
  with-ended : (narrow : Bool) → Ended (first_with p (if narrow then 0xFB else 0xFC)) (record { list = codes_with p (size_if narrow); end_size = 0 })
  with-ended t =
      ended-last
      (reads-append
      (reads-append
      (reads-append (reads-append (reads-ups (PF p)) reads-vpops) (reads-when (eqb p.c 1) (reads-nop t)))
      (reads-pops (low (integers p (PF p))) (PF p) p.l w.l (λ e. e)))
      reads-homes)
      ends-FF

  first_ended : Ended (first_list p) (prologue_codes p)
  unfolding first_list
  first_ended = subst (λ l. Ended (first_list p) (record { list = l; end_size = 0 })) (sym (prologue-is p)) (with-ended (chain_alone (pushed p)))

  before-ended : Ended (first_before p) (codes_before p)
  unfolding first_before
  before-ended = subst (λ l. Ended (first_before p) (record { list = l; end_size = 0 })) (sym (reversed p bits32)) (with-ended false)

  leave-ended : (f : Bool) → p.ret ≢ 3 → Ended (leave p (integers p f)) (leaving (eqb p.h 1 && eqb p.l 1) (eqb p.ret 0) p (integers p f))
  leave-ended f n = go (eqb p.h 1 && eqb p.l 1) refl (eqb p.ret 0) refl
    where
      go : (s : Bool) → (eqb p.h 1 && eqb p.l 1) ≡ s → (t : Bool) → eqb p.ret 0 ≡ t → Ended (leave p (integers p f)) (leaving s t p (integers p f))
      go true e t q =
          rw (leave-load p (integers p f) e) (ended-after (reads-pops (low (integers p f)) f 0 (omega arith) (λ q. q)) (ended-last {b = 0xFF ∷ []} reads-return ends-FF))
      go false e true q =
          rw (leave-return p (integers p f) e (eqb-true p.ret 0 q)) (ended-last (reads-pops (low (integers p f)) f p.l w.l (λ q. q)) ends-FF)
      go false e false q =
          rw (leave-jump p (integers p f) e (eqb-false p.ret 0 q))
          (ended-last
          (reads-append
          (reads-pops (low (integers p f) && eqb p.l 0) f p.l w.l (λ q. (both (low (integers p f)) (eqb p.l 0) q).0))
          reads-homes)
          (ends-branch p.ret w.ret (eqb-false p.ret 0 q) n))

  second_ended : p.ret ≢ 3 → Ended (second_list p) (epilogue_codes p)
  second_ended n = rw (second-some p n) (ended-after (reads-append (reads-ups (EF p)) reads-vpops) (leave-ended (EF p) n))

-- ---- among other bytes
abbrev codes_of : Scan Code → Res (Codes Code)
codes_of s = s.ending >>= λ n. Ok (record { list = s.list; end_size = n })

module _ (k bs : List ℕ) (c : Codes Code) (e : Ended bs c) where
  scanned : (rest : List ℕ) → scan_from taking bytes_of (length k) (bs ++ rest) 0 ≡ record { list = c.list; ending = Ok c.end_size }
  scanned rest =
      ap (λ l. scan_from taking bytes_of (length k) (l ++ rest) 0) e.bytes
      ∙ ap (λ l. scan_from taking bytes_of (length k) l 0) (append_assoc e.before (e.end ∷ []) rest)
      ∙ e.codes.read (length k) (e.end ∷ rest)
      ∙ ap (λ s. record { list = c.list ++ s.list; ending = s.ending }) (e.ends (length k + length e.before) rest)
      ∙ ap (λ l. record { list = l; ending = Ok c.end_size }) (append-nil c.list)

  -- whatever follows the list
  read-there : (rest : List ℕ) → codes_at (k ++ (bs ++ rest)) (code_bytes (length k)) ≡ Ok c
  read-there rest =
      ap codes_of (scan-at takes (k ++ (bs ++ rest)) (length k) ∙ ap (λ l. scan_from taking bytes_of (length k) l 0) (drop-append_seam k (bs ++ rest)) ∙ scanned rest)

  -- and not without its last byte
  no_end : codes_at (k ++ e.before) (code_bytes (length k)) ≢ Ok c
  unfolding scan_from
  no_end q =
      let s = scan-at takes (k ++ e.before) (length k) ∙ ap (λ l. scan_from taking bytes_of (length k) l 0) (drop-append_seam k e.before ∙ sym (append-nil e.before)) ∙ e.codes.read (length k) [] in
      let r : ◌≡◌ {A = Res (Codes Code)} (Err (BadCodes (code_bytes (length k + length e.before + 0)))) (Ok c) = sym (ap codes_of s) ∙ q in
      let z : ◌≡◌ {A = ℕ} 0 1 = cc in omega arith

  stands : (rest : List ℕ) → Stands (k ++ (bs ++ rest)) (code_bytes (length k)) (code_bytes (length bs)) c
  stands rest =
      let cut : (n : ℕ) → n ≤ length bs → take (length k + n) (k ++ (bs ++ rest)) ≡ k ++ take n bs =
      λ n h. take-append-add k (bs ++ rest) n ∙ ap (λ l. k ++ l) (take-append-le n bs rest h) in
      let n : ℕ = length e.before in
      let long : length bs ≡ n + 1 = ap length e.bytes ∙ length-append e.before (e.end ∷ []) in
      let less : length k + length bs - 1 ≡ length k + n = omega (arith, long) in
      let before : take n bs ≡ e.before = ap (take n) e.bytes ∙ take-append_seam e.before (e.end ∷ []) in
      record {
        read = read-there rest;
        within = ap (λ l. codes_at l (code_bytes (length k))) (cut (length bs) (omega arith) ∙ ap (λ l. k ++ l) (take-length bs ∙ sym (append-nil bs))) ∙ read-there [];
        last = λ q.
            no_end
            (ap (λ l. codes_at l (code_bytes (length k))) (sym (ap (λ m. take m (k ++ (bs ++ rest))) less ∙ cut n (omega (arith, long)) ∙ ap (λ l. k ++ l) before)) ∙ q);
      }

-- ---- in the 16 bytes
-- the epilogue's list behind any first one with which it fits
module _ (p : Packed) (w : Fit p) (l : List ℕ) (c : Codes Code) (ended : Ended l c) (fit : length l + length (second_list p) ≤ 16) where
  abbrev bytes : List ℕ
  bytes = take 16 (l ++ second_list p ++ replicate 16 0)

  abbrev zeros : List ℕ
  zeros = replicate (16 - length (l ++ second_list p)) 0

  long : length (l ++ second_list p) ≡ length l + length (second_list p)
  long = length-append l (second_list p)

  bytes-are : bytes ≡ l ++ second_list p ++ zeros
  bytes-are = holding-bytes (l ++ second_list p) (omega (arith, long, fit))

  in-turn : l ++ (second_list p ++ zeros) ≡ bytes
  in-turn = sym (bytes-are ∙ append_assoc l (second_list p) zeros)

  first-stands : Stands bytes (code_bytes 0) (code_bytes (length l)) c
  first-stands = subst (λ s. Stands s (code_bytes 0) (code_bytes (length l)) c) in-turn (stands [] l c ended (second_list p ++ zeros))

  second-stands : p.ret ≢ 3 → Stands bytes (code_bytes (length l)) (code_bytes (length (second_list p))) (epilogue_codes p)
  second-stands n =
      subst (λ s. Stands s (code_bytes (length l)) (code_bytes (length (second_list p))) (epilogue_codes p)) in-turn
      (stands l (second_list p) (epilogue_codes p) (second_ended p w n) zeros)

  rest-are : drop (length l + length (second_list p)) bytes ≡ replicate (16 - (length l + length (second_list p))) 0
  rest-are = ap₂ drop (sym long) bytes-are ∙ drop-append_seam (l ++ second_list p) zeros ∙ ap (λ n. replicate (16 - n) 0) long

  all_are : length bytes ≡ 16
  all_are =
      let a : length bytes ≡ length (l ++ second_list p) + (16 - length (l ++ second_list p)) = ap length bytes-are ∙ length-append (l ++ second_list p) zeros ∙ ap (λ n. length (l ++ second_list p) + n) (length-replicate (16 - length (l ++ second_list p)) 0) in
      let b : length (l ++ second_list p) ≤ 16 = omega (arith, long, fit) in
      omega (arith, a, b)

module _ (p : Packed) (w : Fit p) where
  pub holds : Holds p (written p)
  holds =
      let l : List ℕ = first_list p in
      let c : Codes Code = prologue_codes p in
      let e = first_ended p w in
      let f = lists-fit p in
      record {
        first = first-stands p w l c e f;
        second = second-stands p w l c e f;
        none = λ e. ap (λ l. code_bytes (length l)) (second_none p e);
        rest = rest-are p w l c e f;
        all = all_are p w l c e f;
      }

  -- the bytes as they were before order 4
  pub before-first : Stands (written_before p).bytes (code_bytes 0) (written_before p).first (codes_before p)
  before-first = first-stands p w (first_before p) (codes_before p) (before-ended p w) (before-fit p)

  pub before-second : p.ret ≢ 3 → Stands (written_before p).bytes (written_before p).first (written_before p).second (epilogue_codes p)
  before-second = second-stands p w (first_before p) (codes_before p) (before-ended p w) (before-fit p)
