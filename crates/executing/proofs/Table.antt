-- What is known of a code that was read from code bytes: it is one of the table's, and that of the byte 04 lowers SP by four words.
-- Assumes nothing.
use Rattle.std.specs.Prelude.{Ok}
use Prim.Native.Nat.{ℕ}
use mathlib.Core.Path.{◌≡◌, sym, ap, subst, ◌∙◌}
use mathlib.Core.List.{List, [], ◌∷◌}
use lib.ListN.{drop, get_or, take}
use native.Mathlib.Omega.{arith}
use Rattle.words.specs.declared.CodeBytes.{CodeBytes}
use Rattle.words.specs.declared.StackWords.{StackWords}
use Rattle.unwinding.specs.CodeList.{Codes}
use Rattle.unwinding.specs.Taking.{Taken, Scan, one, last, bad}
use Rattle.unwinding.proofs.All.{All}
use Rattle.unwinding.proofs.Scanning.{by-scan, codes_all}
use Rattle.codes.specs.Table.{rows, row_in, row_of}
use Rattle.codes.specs.Code.{value, taking}
use Rattle.codes.specs.declared.Code.{Code}
use Rattle.codes.specs.declared.Undo.TheVariants.{Up}
use Rattle.codes.specs.declared.Meaning.TheVariants.{Does}
use Rattle.codes.proofs.Scanning.{took}
use Rattle.codes.proofs.Sound.{Sound, sound-code}
use Rattle.comparing.specs.Items.{Coded, with_first, taking_coded, scan_coded, coded_at}
use Rattle.comparing.proofs.Scanning.{takes-coded, taken-one}
use Rattle.executing.specs.Claims.{In, here, later, IsCode}

pub record Known (c : Coded) : Type 0 where
  pub sound : Sound c.code.undo
  pub home : (n : StackWords) → c.first ≡ 4 → c.code.undo ≡ Up n → n.0 ≡ 4

-- the row of 04
four : (l : List ℕ) (n : StackWords) → (row_of 4).means (value (take (row_of 4).bytes (4 ∷ l)) 0) ≡ Does (Up n) → n.0 ≡ 4
unfolding rows row_in value
four l n h = ap (λ (x : StackWords). x.0) (let z : n ≡ record { 0 = 4 } = cc in z)

homes : (at : ℕ) (l : List ℕ) (c : Code) (next : CodeBytes) (n : StackWords) → taking at l ≡ one c next → get_or l 0 0 ≡ 4 → c.undo ≡ Up n → n.0 ≡ 4
homes at [] c next n e p q = absurd (let z : ◌≡◌ {A = ℕ} 0 4 = p in omega arith)
homes at (b ∷ l) c next n e p q =
    four l n (subst (λ i. (row_of i).means (value (take (row_of i).bytes (i ∷ l)) 0) ≡ Does (Up n)) p ((took at (b ∷ l) e).means ∙ ap Does q))

first_of : (b : ℕ) (x : Taken Code) (c : Coded) (next : CodeBytes) → with_first b x ≡ one c next → c.first ≡ b
first_of b (one d i) c next e = ap (λ (y : Coded). y.first) (let z : c ≡ record { code = d; first = b } = cc in z)
first_of b (last n) c next e = absurd (let z : ◌≡◌ {A = ℕ} 0 1 = cc in omega arith)
first_of b (bad i) c next e = absurd (let z : ◌≡◌ {A = ℕ} 0 1 = cc in omega arith)

pub known-taken : (at : ℕ) (l : List ℕ) (c : Coded) (next : CodeBytes) → taking_coded at l ≡ one c next → Known c
known-taken at l c next e =
    let w = taken-one at l e in
    record {
      sound = sound-code _ _ c.code.undo (took at l w).means;
      home = λ n p q. homes at l c.code next n w (sym (first_of (get_or l 0 0) (taking at l) c next e) ∙ p) q;
    }

-- each code of a list
pub codes-known : (s : List ℕ) (i : CodeBytes) (c : Codes Coded) → coded_at s i ≡ Ok c → All Known c.list
codes-known s = codes_all takes-coded Known s (λ j c next e. known-taken j (drop j s) c next e)

all_in : (c : Coded) (l : List Coded) → All Known l → In c l → Known c
all_in c [] h i = elim i [ ]
all_in c (x ∷ l) h here = h.0
all_in c (x ∷ l) h (later i) = all_in c l h.1 i

pub is_known : {c : Coded} → IsCode c → Known c
is_known {c} i =
    all_in c (scan_coded i.bytes i.index).list
    (by-scan takes-coded i.bytes (λ j (x : Scan Coded). All Known x.list) (λ j a next r q ih. (known-taken j (drop j i.bytes) a next q, ih)) (λ j n q. tt) (λ j k q. tt) i.index)
    i.among
