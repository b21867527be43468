-- What is left of a text, piece by piece, when the lines that begin with a space are left out: a piece leads from one place of a line to
-- another, and of two pieces is left what is left of each. Digits are above the space, and so neither begin a line that goes nor end a line.
-- Assumes nothing.
use Rattle.std.specs.Prelude.{if◌then◌else◌}
use Prim.Native.Nat.{ℕ, zero, suc, ◌+◌, ◌/◌, ◌%◌, ◌<◌}
use mathlib.Core.Path.{◌≡◌, refl, sym, ap, ◌∙◌, subst}
use mathlib.Core.Bool.{Bool, true, false}
use mathlib.Core.List.{List, [], ◌∷◌, ◌++◌, append_assoc, append-nil}
use lib.Dec.{ltb, eqb}
use borrow.Author.Tests.{ne_eqb}
use native.Mathlib.Omega.{arith}
use Rattle.text.specs.Text.{digit, digits, decimal_length, decimal, hex8}
use Rattle.outlining.specs.Stripped.{Where, start, kept, dropped, after_kept, after_dropped, stripped_from, stripped}

-- a text leads from one place to another, and this is left of it, whatever follows
pub record Leaves (w : Where) (t : List ℕ) (v : Where) (l : List ℕ) : Type 0 where
  pub so : (rest : List ℕ) → stripped_from w (t ++ rest) ≡ l ++ stripped_from v rest

-- whole lines that stay, and whole lines that go
abbrev pub Kept : List ℕ → Type 0
Kept t = Leaves start t start t

abbrev pub Gone : List ℕ → Type 0
Gone t = Leaves start t start []

pub whole : {t l : List ℕ} → Leaves start t start l → stripped t ≡ l
unfolding stripped_from
whole {t} {l} h = ap (stripped_from start) (sym (append-nil t)) ∙ h.so [] ∙ append-nil l

-- one text after another
pub both : {w v x : Where} {s t l m : List ℕ} → Leaves w s v l → Leaves v t x m → Leaves w (s ++ t) x (l ++ m)
both {w} {v} {x} {s} {t} {l} {m} h k = record {
  so = λ rest. ap (stripped_from w) (append_assoc s t rest) ∙ h.so (t ++ rest) ∙ ap (λ z. l ++ z) (k.so rest) ∙ sym (append_assoc l m (stripped_from x rest));
}

-- and one of which nothing is left
pub then-gone : {w v x : Where} {s t l : List ℕ} → Leaves w s v l → Leaves v t x [] → Leaves w (s ++ t) x l
then-gone {w} {v} {x} {s} {t} {l} h k = subst (λ z. Leaves w (s ++ t) x z) (append-nil l) (both h k)

-- ---- bytes above the space
abbrev Glyphs : List ℕ → Type 0
Glyphs [] = Unit {0}
Glyphs (c ∷ t) = (32 < c) × Glyphs t

-- a byte above the space begins no line that goes, and ends none
no-space : (c : ℕ) → 32 < c → eqb c 0x20 ≡ false
no-space c h = let no : c ≡ 32 → ⊥ = λ e. omega arith in ne_eqb c 32 no

no-newline : (c : ℕ) → 32 < c → eqb c 0x0A ≡ false
no-newline c h = let no : c ≡ 10 → ⊥ = λ e. omega arith in ne_eqb c 10 no

stays-kept : (c : ℕ) → 32 < c → after_kept c ≡ kept
stays-kept c h = rw (no-newline c h) refl

stays-dropped : (c : ℕ) → 32 < c → after_dropped c ≡ dropped
stays-dropped c h = rw (no-newline c h) refl

glyphs-kept : (t : List ℕ) → Glyphs t → Leaves kept t kept t
unfolding stripped_from
glyphs-kept [] h = record { so = λ rest. refl }
glyphs-kept (c ∷ t) h = record { so = λ rest. ap (λ w. c ∷ stripped_from w (t ++ rest)) (stays-kept c h.0) ∙ ap (λ z. c ∷ z) ((glyphs-kept t h.1).so rest) }

glyphs-dropped : (t : List ℕ) → Glyphs t → Leaves dropped t dropped []
unfolding stripped_from
glyphs-dropped [] h = record { so = λ rest. refl }
glyphs-dropped (c ∷ t) h = record { so = λ rest. ap (λ w. stripped_from w (t ++ rest)) (stays-dropped c h.0) ∙ (glyphs-dropped t h.1).so rest }

glyphs-start : (c : ℕ) (t : List ℕ) → Glyphs (c ∷ t) → Leaves start (c ∷ t) kept (c ∷ t)
unfolding stripped_from
glyphs-start c t h = record { so = λ rest. rw (no-space c h.0) ((glyphs-kept (c ∷ t) h).so rest) }

-- ---- numbers
digit_glyph : (n : ℕ) → 32 < digit n
digit_glyph n = go (ltb n 10)
  where
    go : (b : Bool) → 32 < (if b then 48 + n else 87 + n)
    go true = omega arith
    go false = omega arith

digits-glyphs : (b n v : ℕ) (rest : List ℕ) → Glyphs rest → Glyphs (digits b n v rest)
unfolding digits
digits-glyphs b zero v rest h = h
digits-glyphs b (suc n) v rest h = digits-glyphs b n (v / b) (digit (v % b) ∷ rest) (digit_glyph (v % b), h)

digits-start : (b n v c : ℕ) (rest : List ℕ) → Glyphs (c ∷ rest) → Leaves start (digits b n v (c ∷ rest)) kept (digits b n v (c ∷ rest))
unfolding digits
digits-start b zero v c rest h = glyphs-start c rest h
digits-start b (suc n) v c rest h = digits-start b n (v / b) (digit (v % b)) (c ∷ rest) (digit_glyph (v % b), h)

-- a decimal number has a digit
some-digit : (n v : ℕ) → (k : ℕ) × (decimal_length n v ≡ suc k)
unfolding decimal_length
some-digit zero v = (0, refl)
some-digit (suc n) v = go (ltb v 10)
  where
    go : (b : Bool) → (k : ℕ) × ((if b then 1 else suc (decimal_length n (v / 10))) ≡ suc k)
    go true = (0, refl)
    go false = (decimal_length n (v / 10), refl)

-- a number at a line's start, and numbers in a line
pub decimal-start : (v : ℕ) → Leaves start (decimal v) kept (decimal v)
unfolding digits
decimal-start v =
    let d = some-digit 20 v in
    subst (λ n. Leaves start (digits 10 n v []) kept (digits 10 n v [])) (sym d.1) (digits-start 10 d.0 (v / 10) (digit (v % 10)) [] (digit_glyph (v % 10), tt))

pub decimal-kept : (v : ℕ) → Leaves kept (decimal v) kept (decimal v)
decimal-kept v = glyphs-kept (decimal v) (digits-glyphs 10 (decimal_length 20 v) v [] tt)

pub hex-kept : (v : ℕ) → Leaves kept (hex8 v) kept (hex8 v)
hex-kept v = glyphs-kept (hex8 v) (digits-glyphs 16 8 v [] tt)

pub decimal-dropped : (v : ℕ) → Leaves dropped (decimal v) dropped []
decimal-dropped v = glyphs-dropped (decimal v) (digits-glyphs 10 (decimal_length 20 v) v [] tt)

pub hex-dropped : (v : ℕ) → Leaves dropped (hex8 v) dropped []
hex-dropped v = glyphs-dropped (hex8 v) (digits-glyphs 16 8 v [] tt)
