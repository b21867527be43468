-- The fields of a packed word: which fit, which are allowed, and that writing and reading are inverse.
-- Assumes nothing.
use Rattle.std.specs.Prelude.{Ok, Err}
use Prim.Native.Nat.{ℕ, ◌+◌, ◌*◌, ◌/◌, ◌%◌, ◌^◌, ◌<◌}
use mathlib.Core.Path.{◌≡◌, refl, sym, ap, ◌∙◌}
use mathlib.Core.Bool.{Bool, true, false}
use lib.Dec.{ltb}
use native.Mathlib.Omega.{arith}
use native.Mathlib.Nat.{add-mul-div_left, div-eq_of_lt, add-mul-mod_self_left, mod-eq_of_lt, zero-add, mod-add-div, div-div-eq-div-mul, div-one}
use borrow.Author.Tests.{ltb-true, lt-ltb}
use Rattle.words.proofs.Tests.{both}
use Rattle.words.specs.declared.Refusal.TheVariants.{Reserved}
use Rattle.packed.specs.Packed.{Fit, fields, fields_fit, allowed, word_of, write_word}
use Rattle.packed.specs.declared.Packed.{Packed}

-- where the test holds each field is below what its bits hold
pub fit-true : (p : Packed) → fields_fit p ≡ true → Fit p
fit-true p t8 =
    let h8 = both _ (ltb p.adjust 1024) t8 in
    let h7 = both _ (ltb p.c 2) h8.0 in
    let h6 = both _ (ltb p.l 2) h7.0 in
    let h5 = both _ (ltb p.r 2) h6.0 in
    let h4 = both _ (ltb p.reg 8) h5.0 in
    let h3 = both _ (ltb p.h 2) h4.0 in
    let h2 = both _ (ltb p.ret 4) h3.0 in
    let h1 = both (ltb p.flag 4) (ltb p.length.0 2048) h2.0 in
    record { flag = ltb-true _ _ h1.0; length = ltb-true _ _ h1.1; ret = ltb-true _ _ h2.1; h = ltb-true _ _ h3.1; reg = ltb-true _ _ h4.1; r = ltb-true _ _ h5.1; l = ltb-true _ _ h6.1; c = ltb-true _ _ h7.1; adjust = ltb-true _ _ h8.1 }

pub true-fit : (p : Packed) → Fit p → fields_fit p ≡ true
true-fit p f =
    rw (lt-ltb p.flag 4 f.flag, lt-ltb p.length.0 2048 f.length, lt-ltb p.ret 4 f.ret, lt-ltb p.h 2 f.h, lt-ltb p.reg 8 f.reg, lt-ltb p.r 2 f.r, lt-ltb p.l 2 f.l, lt-ltb p.c 2 f.c, lt-ltb p.adjust 1024 f.adjust)
    refl

pub write-given : (p : Packed) → fields_fit p ≡ true → allowed p ≡ true → write_word p ≡ Ok (word_of p)
unfolding write_word
write-given p f h = rw (f, h) refl

-- a field that does not fit its bits is refused by 4 (RULES 9.55), and so are fields that are not allowed
pub write-large : (p : Packed) → fields_fit p ≡ false → write_word p ≡ Err Reserved
unfolding write_word
write-large p h = rw h refl

pub write-not-allowed : (p : Packed) → allowed p ≡ false → write_word p ≡ Err Reserved
unfolding write_word
write-not-allowed p h = go (fields_fit p) refl
  where
    go : (t : Bool) → fields_fit p ≡ t → write_word p ≡ Err Reserved
    go true f = rw (f, h) refl
    go false f = write-large p f

-- a reader's fields fit
pub fields_fit_lem : (w : ℕ) → Fit (fields w)
fields_fit_lem w =
    record { flag = omega arith; length = omega arith; ret = omega arith; h = omega arith; reg = omega arith; r = omega arith; l = omega arith; c = omega arith; adjust = omega arith }

-- a field between what stands below and above it
field_at : (w low a x b high : ℕ) → w ≡ low + a * (x + b * high) → low < a → x < b → w / a % b ≡ x
field_at w low a x b high e h k =
    let above : (low + a * (x + b * high)) / a ≡ x + b * high =
    add-mul-div_left low (x + b * high) (omega arith) ∙ ap (λ q. q + (x + b * high)) (div-eq_of_lt h) ∙ zero-add (x + b * high) in
    let below : (x + b * high) % b ≡ x = add-mul-mod_self_left x b high ∙ mod-eq_of_lt k in
    ap (λ q. q / a % b) e ∙ ap (λ q. q % b) above ∙ below

-- the word's fields are those written
pub fields-of-word : (p : Packed) → Fit p → fields (word_of p) ≡ p
fields-of-word p f =
    let e0 : word_of p / 1 % 4 ≡ p.flag = field_at (word_of p) (0) 1 p.flag 4 (p.length.0 + 2048 * p.ret + 8192 * p.h + 16384 * p.reg + 131072 * p.r + 262144 * p.l + 524288 * p.c + 1048576 * p.adjust) (omega arith) (omega arith) (omega arith) in
    let e1 : word_of p / 4 % 2048 ≡ p.length.0 = field_at (word_of p) p.flag 4 p.length.0 2048 (p.ret + 4 * p.h + 8 * p.reg + 64 * p.r + 128 * p.l + 256 * p.c + 512 * p.adjust) (omega arith) (omega arith) (omega arith) in
    let e2 : word_of p / 8192 % 4 ≡ p.ret = field_at (word_of p) (p.flag + 4 * p.length.0) 8192 p.ret 4 (p.h + 2 * p.reg + 16 * p.r + 32 * p.l + 64 * p.c + 128 * p.adjust) (omega arith) (omega arith) (omega arith) in
    let e3 : word_of p / 32768 % 2 ≡ p.h = field_at (word_of p) (p.flag + 4 * p.length.0 + 8192 * p.ret) 32768 p.h 2 (p.reg + 8 * p.r + 16 * p.l + 32 * p.c + 64 * p.adjust) (omega arith) (omega arith) (omega arith) in
    let e4 : word_of p / 65536 % 8 ≡ p.reg = field_at (word_of p) (p.flag + 4 * p.length.0 + 8192 * p.ret + 32768 * p.h) 65536 p.reg 8 (p.r + 2 * p.l + 4 * p.c + 8 * p.adjust) (omega arith) (omega arith) (omega arith) in
    let e5 : word_of p / 524288 % 2 ≡ p.r = field_at (word_of p) (p.flag + 4 * p.length.0 + 8192 * p.ret + 32768 * p.h + 65536 * p.reg) 524288 p.r 2 (p.l + 2 * p.c + 4 * p.adjust) (omega arith) (omega arith) (omega arith) in
    let e6 : word_of p / 1048576 % 2 ≡ p.l = field_at (word_of p) (p.flag + 4 * p.length.0 + 8192 * p.ret + 32768 * p.h + 65536 * p.reg + 524288 * p.r) 1048576 p.l 2 (p.c + 2 * p.adjust) (omega arith) (omega arith) (omega arith) in
    let e7 : word_of p / 2097152 % 2 ≡ p.c = field_at (word_of p) (p.flag + 4 * p.length.0 + 8192 * p.ret + 32768 * p.h + 65536 * p.reg + 524288 * p.r + 1048576 * p.l) 2097152 p.c 2 p.adjust (omega arith) (omega arith) (omega arith) in
    let e8 : word_of p / 4194304 % 1024 ≡ p.adjust = field_at (word_of p) (p.flag + 4 * p.length.0 + 8192 * p.ret + 32768 * p.h + 65536 * p.reg + 524288 * p.r + 1048576 * p.l + 2097152 * p.c) 4194304 p.adjust 1024 (0) (omega arith) (omega arith) (omega arith) in
    λ i. record { flag = e0 i; length = record { 0 = e1 i }; ret = e2 i; h = e3 i; reg = e4 i; r = e5 i; l = e6 i; c = e7 i; adjust = e8 i }

-- what stands from one bit on is a field and what stands above it
above-field : (w a b : ℕ) → w / a ≡ w / a % b + b * (w / (a * b))
above-field w a b = sym (mod-add-div (w / a) b) ∙ ap (λ q. w / a % b + b * q) (div-div-eq-div-mul w a b)

-- nine fields, each beside what stands above it
sum-of-fields :
    (w0 w1 w2 w3 w4 w5 w6 w7 w8 f0 f1 f2 f3 f4 f5 f6 f7 f8 : ℕ) → w0 ≡ f0 + 4 * w1 → w1 ≡ f1 + 2048 * w2 → w2 ≡ f2 + 4 * w3
    → w3 ≡ f3 + 2 * w4
    → w4 ≡ f4 + 8 * w5
    → w5 ≡ f5 + 2 * w6
    → w6 ≡ f6 + 2 * w7
    → w7 ≡ f7 + 2 * w8
    → w8 ≡ f8
    → f0 + 4 * f1 + 8192 * f2 + 32768 * f3 + 65536 * f4 + 524288 * f5 + 1048576 * f6 + 2097152 * f7 + 4194304 * f8 ≡ w0
sum-of-fields w0 w1 w2 w3 w4 w5 w6 w7 w8 f0 f1 f2 f3 f4 f5 f6 f7 f8 e0 e1 e2 e3 e4 e5 e6 e7 e8 = omega arith

-- and the word of its fields is the word
pub word-of-fields : (w : ℕ) → w < 2 ^ 32 → word_of (fields w) ≡ w
word-of-fields w h =
    sum-of-fields (w / 1) (w / 4) (w / 8192) (w / 32768) (w / 65536) (w / 524288) (w / 1048576) (w / 2097152) (w / 4194304) (w / 1 % 4)
    (w / 4 % 2048)
    (w / 8192 % 4)
    (w / 32768 % 2)
    (w / 65536 % 8)
    (w / 524288 % 2)
    (w / 1048576 % 2)
    (w / 2097152 % 2)
    (w / 4194304 % 1024)
    (above-field w 1 4)
    (above-field w 4 2048)
    (above-field w 8192 4)
    (above-field w 32768 2)
    (above-field w 65536 8)
    (above-field w 524288 2)
    (above-field w 1048576 2)
    (above-field w 2097152 2)
    (sym (mod-eq_of_lt (omega arith)))
    ∙ div-one w

-- the word has 32 bits
word_small : (p : Packed) → Fit p → word_of p < 2 ^ 32
word_small p f = omega (arith, f.flag, f.length, f.ret, f.h, f.reg, f.r, f.l, f.c, f.adjust)

-- the writer and the reader are inverse on what they accept
pub write-then-read : (p : Packed) (w : ℕ) → write_word p ≡ Ok w → (fields w ≡ p) × (w < 2 ^ 32)
write-then-read p w h = go (fields_fit p) refl (allowed p) refl
  where
    go : (s : Bool) → fields_fit p ≡ s → (t : Bool) → allowed p ≡ t → (fields w ≡ p) × (w < 2 ^ 32)
    go true f true e =
        let word : word_of p ≡ w = cc (write-given p f e) in
        let fit = fit-true p f in (rw word at (fields-of-word p fit), rw word at (word_small p fit))
    go true f false e = absurd (let z : ◌≡◌ {A = ℕ} 0 1 = cc (write-not-allowed p e) in omega arith)
    go false f t e = absurd (let z : ◌≡◌ {A = ℕ} 0 1 = cc (write-large p f) in omega arith)

pub read-then-write : (w : ℕ) → w < 2 ^ 32 → allowed (fields w) ≡ true → write_word (fields w) ≡ Ok w
read-then-write w h a = write-given (fields w) (true-fit (fields w) (fields_fit_lem w)) a ∙ ap Ok (word-of-fields w h)
