-- One code: what is taken at an index, and what stands there.
-- Assumes nothing.
use Rattle.std.specs.Prelude.{if◌then◌else◌}
use Prim.Native.Nat.{ℕ, ◌+◌, ◌-◌, ◌≤◌}
use mathlib.Core.Path.{◌≡◌, refl, sym, ap, subst, ◌∙◌}
use mathlib.Core.Bool.{Bool, true, false}
use mathlib.Core.List.{List, [], ◌∷◌}
use lib.ListN.{length, take, drop, length-drop}
use lib.Dec.{leb}
use native.Mathlib.Omega.{arith}
use borrow.Author.Tests.{leb-true, leb-false, le-leb, lt-leb}
use Rattle.words.specs.Units.{code_bytes}
use Rattle.unwinding.specs.Taking.{Taken as AnyTaken, one, last, bad}
use Rattle.codes.specs.Table.{row_of}
use Rattle.codes.specs.Code.{value, taken, take_from, take_at, seen, taking}
use Rattle.codes.specs.declared.Code.{Code}
use Rattle.codes.specs.declared.Meaning.{Meaning}
use Rattle.codes.specs.declared.Meaning.TheVariants.{Does, End, Undefined}
use Rattle.codes.specs.declared.Taken.TheVariants.{Bad as BadTaken}
use Rattle.codes.proofs.Taking.{take_past}
use Rattle.bad_byte.specs.Lists.{Begins, asked, left, Whole, CutShort, BadCode}

-- what stands at an index, by what is taken there
abbrev pub Stands : (s : List ℕ) (i : ℕ) → AnyTaken Code → Type 0
Stands s i (one c next) = (w : Whole s i (Does c.undo)) × (next ≡ code_bytes (i + asked w.code))
Stands s i (last n) = Whole s i End
Stands s i (bad j) = BadCode s i j.0

-- a code begins within the bytes, and those left are the rest
pub begins-left : {s : List ℕ} {i : ℕ} (b : Begins s i) → i + left b ≡ length s
begins-left {s} {i} b = let e : left b ≡ length s - i = sym (ap length b.here) ∙ length-drop i s in omega arith

module _ (s : List ℕ) (i : ℕ) where
  pub stands : Stands s i (taking i (drop i s))
  unfolding take_from
  stands = go (drop i s) refl
    where
      go : (l : List ℕ) → drop i s ≡ l → Stands s i (taking i l)
      go [] e = BadCode.past (omega (arith, ap length e, length-drop i s))
      go (b ∷ l) e = by_bytes (leb (row_of b).bytes (length (b ∷ l))) refl
        where
          begins : Begins s i
          begins = record { first = b; behind = l; here = e }

          m : Meaning
          m = (row_of b).means (value (take (row_of b).bytes (b ∷ l)) 0)

          whole : (x : Meaning) → m ≡ x → (row_of b).bytes ≤ length (b ∷ l) → Stands s i (seen (taken i (row_of b) x))
          whole (Does u) q h = (record { code = begins; there = h; means = q }, refl)
          whole End q h = record { code = begins; there = h; means = q }
          whole Undefined q h = BadCode.undefined (record { code = begins; there = h; means = q })

          by_bytes :
              (x : Bool) → leb (row_of b).bytes (length (b ∷ l)) ≡ x
              → Stands s i (seen (if x then taken i (row_of b) m else BadTaken (code_bytes (i + length (b ∷ l)))))
          by_bytes true q = whole m refl (leb-true _ _ q)
          by_bytes false q =
              subst (BadCode s i) (sym (begins-left begins)) (BadCode.cut (record { code = begins; short = leb-false _ _ q }))

  -- and the other way
  pub takes_whole : {m : Meaning} (w : Whole s i m) → take_at s (code_bytes i) ≡ taken i (row_of w.code.first) m
  unfolding take_from
  takes_whole w =
      let r = row_of w.code.first in
      ap (take_from i) w.code.here ∙ rw (le-leb (asked w.code) (left w.code) w.there) (ap (taken i r) w.means)

  takes-short : CutShort s i → take_at s (code_bytes i) ≡ BadTaken (code_bytes (length s))
  unfolding take_from
  takes-short c =
      ap (take_from i) c.code.here
      ∙ rw (lt-leb (asked c.code) (left c.code) c.short) (ap (λ n. BadTaken (code_bytes n)) (begins-left c.code))

  pub code-tells : (j : ℕ) → take_at s (code_bytes i) ≡ BadTaken (code_bytes j) → BadCode s i j
  code-tells j e = subst (Stands s i) (ap seen e) stands

  pub tells-code : (j : ℕ) → BadCode s i j → take_at s (code_bytes i) ≡ BadTaken (code_bytes j)
  tells-code j (BadCode.past h) = take_past s i h
  tells-code j (BadCode.undefined w) = takes_whole w
  tells-code j (BadCode.cut c) = takes-short c
