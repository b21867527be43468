-- The head and the size of an .xdata record, by what its tests say; a head that is given is small.
-- Assumes nothing.
use Rattle.std.specs.Prelude.{if◌then◌else◌, Ok, Err}
use Prim.Native.Nat.{ℕ, ◌+◌, ◌-◌, ◌*◌, ◌%◌, ◌^◌, ◌<◌, ◌≤◌}
use mathlib.Core.Path.{◌≡◌, refl, sym, ap, ◌∙◌}
use mathlib.Core.Bool.{Bool, true, false}
use lib.Dec.{eqb}
use native.Mathlib.Omega.{arith}
use borrow.Author.Tests.{eqb-true, eqb-false, eq-eqb, ne_eqb}
use Rattle.words.specs.Bits.{bits}
use Rattle.lent.specs.Lent.{Lent, holds, word_at}
use Rattle.words.specs.declared.Refusal.{Refusal}
use Rattle.words.specs.declared.Refusal.TheVariants.{UnfitInput, Reserved, OutsideXdata}
use Rattle.words.specs.Answer.{Res, need, ◌>>◌, ◌>>=◌}
use Rattle.xdata.specs.Xdata.{fit_xdata, X, E, record_bytes, long_head, short_head, head_at, xdata_size}
use Rattle.xdata.specs.AsCoded.Heads.{whole_record, long_record}
use Rattle.xdata.specs.declared.Head.{Head}

-- the head of a record whose first word is lent, by that word
unfoldable head_by : Lent → (at word : ℕ) → Res Head
head_by x a w =
    need (eqb (bits 18 2 w) 0) Reserved >> ((if eqb (bits 23 9 w) 0 then long_head x a w else Ok (short_head w)) >>= λ h. whole_record x a h)

head-by : (x : Lent) (a : ℕ) → holds x a 4 ≡ true → head_at x a ≡ head_by x a (word_at x a)
unfolding head_at head_by
head-by x a h = rw h refl

by-version : (x : Lent) (a w : ℕ) → (bits 18 2 w ≡ 0 → ⊥) → head_by x a w ≡ Err Reserved
unfolding head_by
by-version x a w v = rw (ne_eqb (bits 18 2 w) 0 v) refl

by-long : (x : Lent) (a w : ℕ) → bits 18 2 w ≡ 0 → bits 23 9 w ≡ 0 → head_by x a w ≡ long_record x a w
unfolding head_by
by-long x a w v z = rw (eq-eqb (bits 18 2 w) 0 v, eq-eqb (bits 23 9 w) 0 z) refl

by-short : (x : Lent) (a w : ℕ) → bits 18 2 w ≡ 0 → (bits 23 9 w ≡ 0 → ⊥) → head_by x a w ≡ whole_record x a (short_head w)
unfolding head_by
by-short x a w v z = rw (eq-eqb (bits 18 2 w) 0 v, ne_eqb (bits 23 9 w) 0 z) refl

-- the head at an RVA, by what its tests say
pub head-outside : (x : Lent) (a : ℕ) → holds x a 4 ≡ false → head_at x a ≡ Err OutsideXdata
unfolding head_at
head-outside x a h = rw h refl

module _ (x : Lent) (a w : ℕ) (e : w ≡ word_at x a) (h : holds x a 4 ≡ true) where
  pub head-version : (bits 18 2 w ≡ 0 → ⊥) → head_at x a ≡ Err Reserved
  head-version v = head-by x a h ∙ ap (head_by x a) (sym e) ∙ by-version x a w v

  pub head-long : bits 18 2 w ≡ 0 → bits 23 9 w ≡ 0 → head_at x a ≡ long_record x a w
  head-long v z = head-by x a h ∙ ap (head_by x a) (sym e) ∙ by-long x a w v z

  pub head-short : bits 18 2 w ≡ 0 → (bits 23 9 w ≡ 0 → ⊥) → head_at x a ≡ whole_record x a (short_head w)
  head-short v z = head-by x a h ∙ ap (head_by x a) (sym e) ∙ by-short x a w v z

-- the extension word
abbrev pub long_of : (word extension : ℕ) → Head
long_of w v = record { word = w; bytes = 8; count = bits 0 16 v; codewords = bits 16 8 v }

unfoldable long_by : (word extension : ℕ) → Res Head
long_by w v = need (eqb (bits 24 8 v) 0) Reserved >> Ok (long_of w v)

long-by : (x : Lent) (a w : ℕ) → holds x a 8 ≡ true → long_head x a w ≡ long_by w (word_at x (a + 4))
unfolding long_head long_by
long-by x a w h = rw h refl

by-reserved : (w v : ℕ) → (bits 24 8 v ≡ 0 → ⊥) → long_by w v ≡ Err Reserved
unfolding long_by
by-reserved w v z = rw (ne_eqb (bits 24 8 v) 0 z) refl

by-extension : (w v : ℕ) → bits 24 8 v ≡ 0 → long_by w v ≡ Ok (long_of w v)
unfolding long_by
by-extension w v z = rw (eq-eqb (bits 24 8 v) 0 z) refl

then-whole : (x : Lent) (a : ℕ) → Res Head → Res Head
then-whole x a r = r >>= λ h. whole_record x a h

pub long-outside : (x : Lent) (a w : ℕ) → holds x a 8 ≡ false → long_record x a w ≡ Err OutsideXdata
unfolding long_head
long-outside x a w h = rw h refl

module _ (x : Lent) (a w v : ℕ) (e : v ≡ word_at x (a + 4)) (h : holds x a 8 ≡ true) where
  pub long-reserved : (bits 24 8 v ≡ 0 → ⊥) → long_record x a w ≡ Err Reserved
  unfolding then-whole
  long-reserved z = ap (then-whole x a) (long-by x a w h ∙ ap (long_by w) (sym e) ∙ by-reserved w v z)

  pub long-given : bits 24 8 v ≡ 0 → long_record x a w ≡ whole_record x a (long_of w v)
  unfolding then-whole
  long-given z = ap (then-whole x a) (long-by x a w h ∙ ap (long_by w) (sym e) ∙ by-extension w v z)

-- the whole record
pub whole-given : (x : Lent) (a : ℕ) (h : Head) → holds x a (record_bytes h) ≡ true → whole_record x a h ≡ Ok h
whole-given x a h t = rw t refl

pub whole-outside : (x : Lent) (a : ℕ) (h : Head) → holds x a (record_bytes h) ≡ false → whole_record x a h ≡ Err OutsideXdata
whole-outside x a h t = rw t refl

-- a head that is given has at most 65,535 scopes and 255 code words, and its record is lent
pub record Small (x : Lent) (a : ℕ) (h : Head) : Type 0 where
  pub bytes : h.bytes ≤ 8
  pub count : h.count < 2 ^ 16
  pub codewords : h.codewords < 2 ^ 8
  pub lent : holds x a (record_bytes h) ≡ true

whole-small :
    (x : Lent) (a : ℕ) (h g : Head) → h.bytes ≤ 8 → h.count < 2 ^ 16 → h.codewords < 2 ^ 8 → whole_record x a h ≡ Ok g → Small x a g
whole-small x a h g b c k e = go (holds x a (record_bytes h)) refl
  where
    go : (t : Bool) → holds x a (record_bytes h) ≡ t → Small x a g
    go true p =
        let same : h ≡ g = cc (whole-given x a h p) in
        rw same at (let s : Small x a h = record { bytes = b; count = c; codewords = k; lent = p } in s)
    go false p = absurd (let z : ◌≡◌ {A = ℕ} 0 1 = cc (whole-outside x a h p) in omega arith)

long-small : (x : Lent) (a w : ℕ) (h : Head) → long_record x a w ≡ Ok h → Small x a h
long-small x a w h e = go (holds x a 8) refl (eqb (bits 24 8 (word_at x (a + 4))) 0) refl
  where
    go : (t : Bool) → holds x a 8 ≡ t → (u : Bool) → eqb (bits 24 8 (word_at x (a + 4))) 0 ≡ u → Small x a h
    go true p true q = whole-small x a (long_of w (word_at x (a + 4))) h (omega arith) (omega arith) (omega arith) (sym (long-given x a w (word_at x (a + 4)) refl p (eqb-true _ _ q)) ∙ e)
    go true p false q = absurd (let z : ◌≡◌ {A = ℕ} 0 1 = cc (long-reserved x a w (word_at x (a + 4)) refl p (eqb-false _ _ q)) in omega arith)
    go false p u q = absurd (let z : ◌≡◌ {A = ℕ} 0 1 = cc (long-outside x a w p) in omega arith)

pub head_small : (x : Lent) (a : ℕ) (h : Head) → head_at x a ≡ Ok h → Small x a h
head_small x a h e = go (holds x a 4) refl (eqb (bits 18 2 (word_at x a)) 0) refl (eqb (bits 23 9 (word_at x a)) 0) refl
  where
    go :
        (t : Bool) → holds x a 4 ≡ t → (u : Bool) → eqb (bits 18 2 (word_at x a)) 0 ≡ u → (s : Bool) → eqb (bits 23 9 (word_at x a)) 0 ≡ s
        → Small x a h
    go true p true q true r = long-small x a (word_at x a) h (sym (head-long x a (word_at x a) refl p (eqb-true _ _ q) (eqb-true _ _ r)) ∙ e)
    go true p true q false r = whole-small x a (short_head (word_at x a)) h (omega arith) (omega arith) (omega arith) (sym (head-short x a (word_at x a) refl p (eqb-true _ _ q) (eqb-false _ _ r)) ∙ e)
    go true p false q s r = absurd (let z : ◌≡◌ {A = ℕ} 0 1 = cc (head-version x a (word_at x a) refl p (eqb-false _ _ q)) in omega arith)
    go false p u q s r = absurd (let z : ◌≡◌ {A = ℕ} 0 1 = cc (head-outside x a p) in omega arith)

pub small-record : (x : Lent) (a : ℕ) (h : Head) → Small x a h → record_bytes h < 2 ^ 20
small-record x a h s = go (E h) (X h)
  where
    go : (e t : Bool) → h.bytes + 4 * (if e then 0 else h.count) + 4 * h.codewords + (if t then 4 else 0) < 2 ^ 20
    go true true = omega (arith, s.bytes, s.codewords)
    go true false = omega (arith, s.bytes, s.codewords)
    go false true = omega (arith, s.bytes, s.count, s.codewords)
    go false false = omega (arith, s.bytes, s.count, s.codewords)

-- the size routine, by what its tests say
pub size-unfit : (x : Lent) (a : ℕ) → fit_xdata x ≡ false → xdata_size x a ≡ Err UnfitInput
unfolding xdata_size
size-unfit x a h = rw h refl

pub size-given :
    (x : Lent) (a : ℕ) (h : Head) → fit_xdata x ≡ true → head_at x (a - a % 4) ≡ Ok h → xdata_size x a ≡ Ok (record_bytes h)
unfolding xdata_size
size-given x a h f e = rw (f, e) refl

pub size-refused :
    (x : Lent) (a : ℕ) (why : Refusal) → fit_xdata x ≡ true → head_at x (a - a % 4) ≡ Err why → xdata_size x a ≡ Err why
unfolding xdata_size
size-refused x a why f e = rw (f, e) refl
