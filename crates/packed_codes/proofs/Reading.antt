-- Code bytes that hold whole codes: what they are read as, whatever follows them; and those of a list up to its end code.
-- Assumes nothing.
use Rattle.std.specs.Prelude.{if◌then◌else◌, Ok, Option, None, Some}
use Prim.Native.Nat.{ℕ, zero, suc, ◌+◌, ◌*◌, ◌/◌, ◌%◌, ◌^◌, ◌≤◌, ◌<◌}
use mathlib.Core.Path.{◌≡◌, refl, sym, ap, ap₂, ◌∙◌}
use mathlib.Core.List.{List, [], ◌∷◌, ◌++◌, append_assoc}
use mathlib.Core.Bool.{Bool, true, false, not}
use lib.Dec.{leb, eqb}
use lib.ListN.{length, length-append}
use native.Mathlib.Omega.{arith}
use borrow.Author.Tests.{leb-true, le-leb, lt-leb, eqb-true}
use Rattle.words.specs.Bits.{bits}
use Rattle.words.specs.Units.{code_bytes, stack_words, halfword_bytes}
use Rattle.words.specs.declared.Halfwords.{Halfwords}
use Rattle.codes.specs.Table.{Row, row, rows, row_in, row_of, range, lr_if, bits16, bits32}
use Rattle.unwinding.specs.Taking.{one, Scan, scan_from}
use Rattle.unwinding.proofs.Scanning.{scan-front}
use Rattle.codes.proofs.Scanning.{takes}
use Rattle.codes.specs.Code.{value, take_from, taking, bytes_of}
use Rattle.codes.specs.declared.Code.{Code}
use Rattle.codes.specs.declared.Meaning.TheVariants.{Does, End}
use Rattle.codes.specs.declared.Undo.{Undo}
use Rattle.codes.specs.declared.Undo.TheVariants.{Up, Pop, Vpop, LoadLr, Nothing}
use Rattle.packed_codes.specs.PackedCodes.{when, up_code, up_to, d_form, pop_code}
use Rattle.packed_codes.specs.Lists.{only, size_if, pops}

-- codes before what a scan found
abbrev ahead : List Code → Scan Code → Scan Code
ahead cs s = record { list = cs ++ s.list; ending = s.ending }

pub record Reads (bs : List ℕ) (cs : List Code) : Type 0 where
  pub read : (at : ℕ) (rest : List ℕ) → scan_from taking bytes_of at (bs ++ rest) 0 ≡ ahead cs (scan_from taking bytes_of (at + length bs) rest 0)

pub reads_none : Reads [] []
reads_none = record { read = λ at rest. ap (λ n. scan_from taking bytes_of n rest 0) (let z : at ≡ at + 0 = omega arith in z) }

append-read :
    (a b : List ℕ) (cs ds : List Code) → Reads a cs → Reads b ds → (at : ℕ) (rest : List ℕ)
    → scan_from taking bytes_of at (a ++ b ++ rest) 0 ≡ ahead (cs ++ ds) (scan_from taking bytes_of (at + length (a ++ b)) rest 0)
append-read a b cs ds h k at rest =
    ap (λ l. scan_from taking bytes_of at l 0) (append_assoc a b rest)
    ∙ h.read at (b ++ rest)
    ∙ ap (ahead cs) (k.read (at + length a) rest)
    ∙ ap (λ l. record { list = l; ending = (scan_from taking bytes_of (at + length a + length b) rest 0).ending }) (sym (append_assoc cs ds (scan_from taking bytes_of (at + length a + length b) rest 0).list))
    ∙ ap (λ n. ahead (cs ++ ds) (scan_from taking bytes_of n rest 0)) (let z : at + length a + length b ≡ at + length (a ++ b) = omega (arith, length-append a b) in z)

pub reads-append : {a b : List ℕ} {cs ds : List Code} → Reads a cs → Reads b ds → Reads (a ++ b) (cs ++ ds)
reads-append {a} {b} {cs} {ds} h k = record { read = append-read a b cs ds h k }

pub reads-when : {bs : List ℕ} {cs : List Code} (t : Bool) → Reads bs cs → Reads (when t bs) (if t then cs else [])
reads-when true h = h
reads-when false h = reads_none

-- a code of one byte, of two
abbrev code_of : Undo → Row → Code
code_of u r = record { undo = u; size = r.size }

one-read :
    (b : ℕ) (r : Row) (u : Undo) → row_of b ≡ r → r.bytes ≡ 1 → r.means (256 * 0 + b) ≡ Does u → (at : ℕ) (rest : List ℕ)
    → scan_from taking bytes_of at (b ∷ rest) 0 ≡ ahead (code_of u r ∷ []) (scan_from taking bytes_of (at + 1) rest 0)
unfolding take_from value
one-read b r u e n m at rest =
    let l : leb 1 (length (b ∷ rest)) ≡ true = le-leb 1 (length (b ∷ rest)) (omega arith) in
    let q : taking at (b ∷ rest) ≡ one (code_of u r) (code_bytes (at + 1)) = rw (e, n, l, m) refl in
    scan-front takes at b [] rest q (ap (λ x. x.bytes) e ∙ n)

reads-one : (b : ℕ) (r : Row) (u : Undo) → row_of b ≡ r → r.bytes ≡ 1 → r.means (256 * 0 + b) ≡ Does u → Reads (b ∷ []) (code_of u r ∷ [])
reads-one b r u e n m = record { read = one-read b r u e n m }

two-read :
    (b c : ℕ) (r : Row) (u : Undo) → row_of b ≡ r → r.bytes ≡ 2 → r.means (256 * (256 * 0 + b) + c) ≡ Does u → (at : ℕ) (rest : List ℕ)
    → scan_from taking bytes_of at (b ∷ c ∷ rest) 0 ≡ ahead (code_of u r ∷ []) (scan_from taking bytes_of (at + 2) rest 0)
unfolding take_from value
two-read b c r u e n m at rest =
    let l : leb 2 (length (b ∷ c ∷ rest)) ≡ true = le-leb 2 (length (b ∷ c ∷ rest)) (omega arith) in
    let q : taking at (b ∷ c ∷ rest) ≡ one (code_of u r) (code_bytes (at + 2)) = rw (e, n, l, m) refl in
    scan-front takes at b (c ∷ []) rest q (ap (λ x. x.bytes) e ∙ n)

two : (b c : ℕ) (r : Row) (u : Undo) → row_of b ≡ r → r.bytes ≡ 2 → r.means (256 * (256 * 0 + b) + c) ≡ Does u → Reads (b ∷ c ∷ []) (code_of u r ∷ [])
two b c r u e n m = record { read = two-read b c r u e n m }

-- an end code
pub ends : (b : ℕ) (n : Halfwords) (at : ℕ) (rest : List ℕ) → ((row_of b).bytes ≡ 1) → ((row_of b).size ≡ n) → ((v : ℕ) → (row_of b).means v ≡ End)
    → scan_from taking bytes_of at (b ∷ rest) 0 ≡ record { list = []; ending = Ok (halfword_bytes n) }
unfolding scan_from take_from value
ends b n at rest e z m =
    let l : leb 1 (length (b ∷ rest)) ≡ true = le-leb 1 (length (b ∷ rest)) (omega arith) in
    rw (e, l, m (256 * 0 + b), z) refl

-- ---- rows
up-row : (b : ℕ) → b ≤ 0x7F → row_of b ≡ row 0x7F 1 bits16 (λ v. Does (Up (stack_words (bits 0 7 v))))
unfolding rows row_in
up-row b h = rw (le-leb b 0x7F h) refl

vpop-row : (b : ℕ) → 0xDF < b → b ≤ 0xE7 → row_of b ≡ row 0xE7 1 bits32 (λ v. Does (Vpop 8 (8 + bits 0 3 v)))
unfolding rows row_in
vpop-row b l h =
    rw (lt-leb b 0x7F (omega arith), lt-leb b 0xBF (omega arith), lt-leb b 0xCF (omega arith), lt-leb b 0xD7 (omega arith), lt-leb b 0xDF l, le-leb b 0xE7 h) refl

long-up-row : (b : ℕ) → 0xE7 < b → b ≤ 0xEB → row_of b ≡ row 0xEB 2 bits32 (λ v. Does (Up (stack_words (bits 0 10 v))))
unfolding rows row_in
long-up-row b l h =
    rw (lt-leb b 0x7F (omega arith), lt-leb b 0xBF (omega arith), lt-leb b 0xCF (omega arith), lt-leb b 0xD7 (omega arith), lt-leb b 0xDF (omega arith), lt-leb b 0xE7 l, le-leb b 0xEB h) refl

pop-row : (b : ℕ) → 0x7F < b → b ≤ 0xBF → row_of b ≡ row 0xBF 2 bits32 (λ v. Does (Pop (bits 0 13 v + lr_if (bits 13 1 v))))
unfolding rows row_in
pop-row b l h = rw (lt-leb b 0x7F l, le-leb b 0xBF h) refl

low-pop-row : (b : ℕ) → 0xEB < b → b ≤ 0xED → row_of b ≡ row 0xED 2 bits16 (λ v. Does (Pop (bits 0 8 v + lr_if (bits 8 1 v))))
unfolding rows row_in
low-pop-row b l h =
    rw (lt-leb b 0x7F (omega arith), lt-leb b 0xBF (omega arith), lt-leb b 0xCF (omega arith), lt-leb b 0xD7 (omega arith), lt-leb b 0xDF (omega arith), lt-leb b 0xE7 (omega arith), lt-leb b 0xEB l, le-leb b 0xED h) refl

d-row : (b : ℕ) → 0xCF < b → b ≤ 0xD7 → row_of b ≡ row 0xD7 1 bits16 (λ v. Does (Pop (range 4 (4 + bits 0 2 v) + lr_if (bits 2 1 v))))
unfolding rows row_in
d-row b l h = rw (lt-leb b 0x7F (omega arith), lt-leb b 0xBF (omega arith), lt-leb b 0xCF l, le-leb b 0xD7 h) refl

long-d-row : (b : ℕ) → 0xD7 < b → b ≤ 0xDF → row_of b ≡ row 0xDF 1 bits32 (λ v. Does (Pop (range 4 (8 + bits 0 2 v) + lr_if (bits 2 1 v))))
unfolding rows row_in
long-d-row b l h = rw (lt-leb b 0x7F (omega arith), lt-leb b 0xBF (omega arith), lt-leb b 0xCF (omega arith), lt-leb b 0xD7 l, le-leb b 0xDF h) refl

-- ---- the pieces of packed lists
pub reads_up : (n : ℕ) → n < 1024 → Reads (up_code (stack_words n)) (only (not (eqb n 0)) (Up (stack_words n)) (size_if (leb n 127)))
reads_up n h = reads-when (not (eqb n 0)) (go (leb n 127) refl)
  where
    go :
        (t : Bool) → leb n 127 ≡ t
        → Reads (if t then n ∷ [] else (0xE8 + n / 256) ∷ (n % 256) ∷ []) (only true (Up (stack_words n)) (size_if t))
    go true e = reads-one n _ (Up (stack_words n)) (up-row n (leb-true n 127 e)) refl (ap (λ i. Does (Up (stack_words i))) (let z : bits 0 7 (256 * 0 + n) ≡ n = omega (arith, leb-true n 127 e) in z))
    go false e =
        two (0xE8 + n / 256) (n % 256) _ (Up (stack_words n)) (long-up-row (0xE8 + n / 256) (omega arith) (omega arith)) refl
        (ap (λ i. Does (Up (stack_words i))) (let z : bits 0 10 (256 * (256 * 0 + (0xE8 + n / 256)) + n % 256) ≡ n = omega arith in z))

pub reads-vpop : (x : ℕ) → x < 8 → Reads ((0xE0 + x) ∷ []) (only true (Vpop 8 (8 + x)) bits32)
reads-vpop x h =
    reads-one (0xE0 + x) _ (Vpop 8 (8 + x)) (vpop-row (0xE0 + x) (omega arith) (omega arith)) refl
    (ap (λ i. Does (Vpop 8 (8 + i))) (let z : bits 0 3 (256 * 0 + (0xE0 + x)) ≡ x = omega arith in z))

pub reads-nop : (narrow : Bool) → Reads ((if narrow then 0xFB else 0xFC) ∷ []) (only true Nothing (size_if narrow))
unfolding rows row_in
reads-nop true = reads-one 0xFB (row_of 0xFB) Nothing refl refl refl
reads-nop false = reads-one 0xFC (row_of 0xFC) Nothing refl refl refl

pub reads-home : Reads (0x04 ∷ []) (only true (Up (stack_words 4)) bits16)
unfolding rows row_in
reads-home = reads-one 0x04 (row_of 0x04) (Up (stack_words 4)) refl refl refl

pub reads-return : Reads (0xEF ∷ 0x05 ∷ []) (only true (LoadLr (stack_words 5)) bits32)
unfolding rows row_in
reads-return = two 0xEF 0x05 (row_of 0xEF) (LoadLr (stack_words 5)) refl refl refl

-- the list is r4-rX
record UpTo (n x l y : ℕ) : Type 0 where
  low : x ≤ y
  high : y < x + n
  same : l ≡ range 4 y

up-to : (n x l y : ℕ) → up_to n x l ≡ Some y → UpTo n x l y
unfolding up_to
up-to zero x l y h = absurd (let z : ◌≡◌ {A = ℕ} 0 1 = cc in omega arith)
up-to (suc n) x l y h = go (eqb l (range 4 x)) refl h (λ q. up-to n (x + 1) l y q)
  where
    go :
        (t : Bool) → eqb l (range 4 x) ≡ t → (if t then Some x else up_to n (x + 1) l) ≡ Some y → (up_to n (x + 1) l ≡ Some y → UpTo n (x + 1) l y)
        → UpTo (suc n) x l y
    go true e q ih = let z : x ≡ y = cc in record { low = omega arith; high = omega arith; same = eqb-true l (range 4 x) e ∙ ap (range 4) z }
    go false e q ih = let w = ih q in record { low = omega (arith, w.low); high = omega (arith, w.high); same = w.same }

-- what a pop's code is read as
abbrev popped_as : Bool → ℕ → ℕ → List Code
popped_as w l b = only true (Pop (l + lr_if b)) (size_if w)

pop-16 : (l b : ℕ) (x : Option ℕ) → up_to 4 4 l ≡ x → l < 256 → b < 2 → Reads (d_form x 0xD0 b ((0xEC + b) ∷ l ∷ [])) (popped_as true l b)
pop-16 l b None e h k =
    two (0xEC + b) l _ (Pop (l + lr_if b)) (low-pop-row (0xEC + b) (omega arith) (omega arith)) refl
    (ap₂ (λ i j. Does (Pop (i + lr_if j))) (let z : bits 0 8 (256 * (256 * 0 + (0xEC + b)) + l) ≡ l = omega arith in z) (let z : bits 8 1 (256 * (256 * 0 + (0xEC + b)) + l) ≡ b = omega arith in z))
pop-16 l b (Some y) e h k =
    let u = up-to 4 4 l y e in
    reads-one (0xD0 + y % 4 + 4 * b) _ (Pop (l + lr_if b)) (d-row (0xD0 + y % 4 + 4 * b) (omega arith) (omega arith)) refl
    (ap₂ (λ i j. Does (Pop (range 4 i + lr_if j))) (let z : 4 + bits 0 2 (256 * 0 + (0xD0 + y % 4 + 4 * b)) ≡ y = omega (arith, u.low, u.high) in z)
    (let z : bits 2 1 (256 * 0 + (0xD0 + y % 4 + 4 * b)) ≡ b = omega arith in z)
    ∙ ap (λ i. Does (Pop (i + lr_if b))) (sym u.same))

pop-32 : (l b : ℕ) (x : Option ℕ) → up_to 4 8 l ≡ x → l < 2 ^ 13 → b < 2 → Reads (d_form x 0xD8 b ((0x80 + l / 256 + 32 * b) ∷ (l % 256) ∷ [])) (popped_as false l b)
pop-32 l b None e h k =
    two (0x80 + l / 256 + 32 * b) (l % 256) _ (Pop (l + lr_if b)) (pop-row (0x80 + l / 256 + 32 * b) (omega arith) (omega arith)) refl
    (ap₂ (λ i j. Does (Pop (i + lr_if j))) (let z : bits 0 13 (256 * (256 * 0 + (0x80 + l / 256 + 32 * b)) + l % 256) ≡ l = omega arith in z)
    (let z : bits 13 1 (256 * (256 * 0 + (0x80 + l / 256 + 32 * b)) + l % 256) ≡ b = omega arith in z))
pop-32 l b (Some y) e h k =
    let u = up-to 4 8 l y e in
    reads-one (0xD8 + y % 4 + 4 * b) _ (Pop (l + lr_if b)) (long-d-row (0xD8 + y % 4 + 4 * b) (omega arith) (omega arith)) refl
    (ap₂ (λ i j. Does (Pop (range 4 i + lr_if j))) (let z : 8 + bits 0 2 (256 * 0 + (0xD8 + y % 4 + 4 * b)) ≡ y = omega (arith, u.low, u.high) in z)
    (let z : bits 2 1 (256 * 0 + (0xD8 + y % 4 + 4 * b)) ≡ b = omega arith in z)
    ∙ ap (λ i. Does (Pop (i + lr_if b))) (sym u.same))

pub reads-pop : (w : Bool) (l b : ℕ) → (w ≡ true → l < 256) → l < 2 ^ 13 → b < 2 → Reads (pop_code w l b) (pops w l b)
reads-pop true l b f h k = reads-when (not (eqb (l + b) 0)) (pop-16 l b (up_to 4 4 l) refl (f refl) k)
reads-pop false l b f h k = reads-when (not (eqb (l + b) 0)) (pop-32 l b (up_to 4 8 l) refl h k)
