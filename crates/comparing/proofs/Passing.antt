-- The passes over codes, one code and then the rest, by what stands at an index.
-- Assumes nothing.
use Rattle.std.specs.Prelude.{if◌then◌else◌}
use Prim.Native.Nat.{ℕ, zero, suc, ◌+◌, ◌*◌, ◌≤◌}
use mathlib.Core.Path.{◌≡◌, refl, sym, ap, ◌∙◌}
use mathlib.Core.List.{List, []}
use mathlib.Core.Bool.{Bool, true, false, not}
use lib.Dec.{eqb}
use lib.ListN.{length, get_or, drop, drop_of_length-le}
use native.Mathlib.Omega.{arith}
use borrow.Author.Tests.{ne_eqb}
use Rattle.words.specs.Units.{code_bytes}
use Rattle.words.specs.declared.CodeBytes.{CodeBytes}
use Rattle.words.specs.Answer.{Res}
use Rattle.unwinding.specs.CodeList.{total}
use Rattle.unwinding.specs.Taking.{Scan, nothing}
use Rattle.codes.specs.Code.{size, take_from, take_at, seen}
use Rattle.codes.specs.AsCoded.Sizing.{sized}
use Rattle.codes.specs.declared.Code.{Code}
use Rattle.codes.specs.declared.Undo.{Undo}
use Rattle.codes.specs.declared.Undo.TheVariants.{Up, Pop, SpFrom, Vpop, LoadLr, Nothing}
use Rattle.words.specs.declared.Halfwords.{Halfwords}
use Rattle.codes.specs.declared.Taken.{Taken}
use Rattle.codes.specs.declared.Taken.TheVariants as T
use Rattle.codes.proofs.Scanning.{took}
use Rattle.codes.proofs.Sound.{Sound, sound-code}
use Rattle.codes.proofs.Registers.{list-small}
use Rattle.expected.specs.Expected.{Listed, before, after}
use Rattle.comparing.specs.Items.{Coded, size_of, scan_coded, Compared, differs}
use Rattle.comparing.specs.AsCoded.Passes.{last_of, test, prologue_pass, end_pass, epilogue_pass}
use Rattle.comparing.proofs.Scanning.{scan-one, scan-last, scan-bad}

-- a test whose opposite was made
pub not-false : (b : Bool) → not b ≡ false → b ≡ true
not-false true h = refl
not-false false h = sym h

pub not-true : (b : Bool) → not b ≡ true → b ≡ false
not-true true h = sym h
not-true false h = refl

-- whether FF stands at an index, by what was taken there
abbrev pub last_by : Taken Halfwords → Bool
last_by (T.One z next) = false
last_by (T.Last n) = eqb n.0 0
last_by (T.Bad i) = false

twice : (n : ℕ) → eqb (2 * n) 0 ≡ eqb n 0
twice zero = refl
twice (suc n) = ne_eqb (2 * suc n) 0 (λ h. omega arith) ∙ sym (ne_eqb (suc n) 0 (λ h. omega arith))

pub last_taken : (s : List ℕ) (i : CodeBytes) → last_of (scan_coded s i).list (scan_coded s i).ending ≡ last_by (sized (take_at s i))
last_taken s i = go (take_at s i) refl
  where
    go : (x : Taken Code) → take_at s i ≡ x → last_of (scan_coded s i).list (scan_coded s i).ending ≡ last_by (sized x)
    go (T.One c next) e = ap (λ (x : Scan Coded). last_of x.list x.ending) (scan-one s i.0 e)
    go (T.Last n) e = ap (λ (x : Scan Coded). last_of x.list x.ending) (scan-last s i.0 e) ∙ twice n.0
    go (T.Bad j) e = ap (λ (x : Scan Coded). last_of x.list x.ending) (scan-bad s i.0 e)

-- a code that was taken has a list of registers in which PC's bit is clear
listed : (u : Undo) → Sound u → Listed u
listed (Up n) h = tt
listed (Pop l) h = list-small l h
listed (SpFrom x) h = tt
listed (Vpop s e) h = tt
listed (LoadLr n) h = tt
listed Nothing h = tt

pub taken-listed : (s : List ℕ) (i : ℕ) {c : Code} {next : CodeBytes} → take_at s (code_bytes i) ≡ T.One c next → Listed c.undo
taken-listed s i {c} e = listed c.undo (sound-code _ _ c.undo (took i (drop i s) (ap seen e)).means)

module _ (s codes : List ℕ) (i : ℕ) where
  -- behind the bytes there is nothing
  pub scan-past : length codes ≤ i → scan_coded codes (code_bytes i) ≡ nothing (code_bytes i)
  unfolding take_from
  scan-past h = scan-bad codes i (ap (take_from i) (drop_of_length-le codes h))

  module _ {c : Code} {next : CodeBytes} (e : take_at codes (code_bytes i) ≡ T.One c next) where
    pub total-one : total size_of (scan_coded codes (code_bytes i)).list ≡ size c + total size_of (scan_coded codes next).list
    unfolding total
    total-one = ap (λ (x : Scan Coded). total size_of x.list) (scan-one codes i e)

    pub prologue-one :
        (found : Compared)
        → prologue_pass s (scan_coded codes (code_bytes i)).list found
        ≡ prologue_pass s (scan_coded codes next).list (if test s (total size_of (scan_coded codes next).list) (before (get_or codes i 0) c) then found else differs (total size_of (scan_coded codes next).list))
    unfolding prologue_pass
    prologue-one found = ap (λ (x : Scan Coded). prologue_pass s x.list found) (scan-one codes i e)

    pub epilogue-one :
        (o : ℕ)
        → epilogue_pass s o (scan_coded codes (code_bytes i)).list (scan_coded codes (code_bytes i)).ending
        ≡ (if test s o (after (last_of (scan_coded codes next).list (scan_coded codes next).ending) c)
        then epilogue_pass s (o + size c) (scan_coded codes next).list (scan_coded codes next).ending
        else differs o)
    unfolding epilogue_pass
    epilogue-one o = ap (λ (x : Scan Coded). epilogue_pass s o x.list x.ending) (scan-one codes i e)

  -- at an end code, or at what is no code
  module _ {r : Res ℕ} (e : scan_coded codes (code_bytes i) ≡ record { list = []; ending = r }) where
    pub prologue-none : (found : Compared) → prologue_pass s (scan_coded codes (code_bytes i)).list found ≡ found
    unfolding prologue_pass
    prologue-none found = ap (λ (x : Scan Coded). prologue_pass s x.list found) e

    pub epilogue-none : (o : ℕ) → epilogue_pass s o (scan_coded codes (code_bytes i)).list (scan_coded codes (code_bytes i)).ending ≡ end_pass s o r
    unfolding epilogue_pass
    epilogue-none o = ap (λ (x : Scan Coded). epilogue_pass s o x.list x.ending) e
