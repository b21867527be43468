-- The size laws, of our reader; and the shams that they break.
-- Assumes nothing.
use Rattle.std.specs.Prelude.{if◌then◌else◌, Ok}
use Prim.Native.Nat.{ℕ, ◌+◌, ◌-◌, ◌*◌, ◌%◌}
use mathlib.Core.Path.{◌≡◌, refl, sym, ap, ◌∙◌}
use mathlib.Core.Logic.{◌≢◌}
use mathlib.Core.List.{[], ◌∷◌}
use mathlib.Core.Bool.{Bool, true, false}
use lib.Dec.{eqb}
use native.Mathlib.Omega.{arith}
use Rattle.words.specs.Bits.{bits, bit}
use Rattle.lent.specs.Lent.{Lent, holds, word_at}
use Rattle.words.specs.declared.Refusal.TheVariants.{UnfitInput, Reserved, OutsideXdata}
use Rattle.lent.proofs.Bytes.{bytes_of}
use Rattle.words.specs.Answer.{Res, ◌>>◌}
use Rattle.xdata.specs.Xdata.{fit_xdata, record_bytes, short_head, long_head, head_at, xdata_size}
use Rattle.xdata.specs.AsCoded.Heads.{whole_record}
use Rattle.xdata.specs.declared.Head.{Head}
use Rattle.xdata.proofs.Heads.{long_of, head_small}
use Rattle.words.proofs.Answers.{bind_ok, need-ok, ok_same}
use Rattle.listing.proofs.Opened.{opened}
use Rattle.demands.specs.Reader.{ours}
use Rattle.demands.specs.SizeLaws.{word_count, SizeLaws}
use Rattle.demands.specs.Shams.{resized, handlerless}
use Rattle.demands.proofs.Wider.{inside}

-- ---- a head's record in words
by-words : (n s k : ℕ) (t : Bool) → 4 * n + 4 * s + 4 * k + (if t then 4 else 0) ≡ 4 * (n + s + k + (if t then 1 else 0))
by-words n s k true = omega arith
by-words n s k false = omega arith

long-words : (w v : ℕ) → eqb (bits 23 9 w) 0 ≡ true → record_bytes (long_of w v) ≡ 4 * word_count w v
long-words w v q = rw q (by-words 2 (if bit 21 w then 0 else bits 0 16 v) (bits 16 8 v) (bit 20 w))

short-words : (w v : ℕ) → eqb (bits 23 9 w) 0 ≡ false → record_bytes (short_head w) ≡ 4 * word_count w v
short-words w v q = rw q (by-words 1 (if bit 21 w then 0 else bits 23 5 w) (bits 28 4 w) (bit 20 w))

-- ---- the head that is read
long-is : (x : Lent) (a w : ℕ) (h : Head) → long_head x a w ≡ Ok h → long_of w (word_at x (a + 4)) ≡ h
unfolding long_head
long-is x a w h e =
    let p = need-ok (holds x a 8) OutsideXdata _ h e in
    let q = need-ok (eqb (bits 24 8 (word_at x (a + 4))) 0) Reserved _ h p.1 in
    ok_same _ h q.1

kind-words : (x : Lent) (a w : ℕ) (h : Head) (long : Bool) → eqb (bits 23 9 w) 0 ≡ long → (if long then long_head x a w else Ok (short_head w)) ≡ Ok h
    → record_bytes h ≡ 4 * word_count w (word_at x (a + 4))
kind-words x a w h true q e = ap record_bytes (sym (long-is x a w h e)) ∙ long-words w (word_at x (a + 4)) q
kind-words x a w h false q e = ap record_bytes (sym (ok_same (short_head w) h e)) ∙ short-words w (word_at x (a + 4)) q

head-words : (x : Lent) (a : ℕ) (h : Head) → head_at x a ≡ Ok h → record_bytes h ≡ 4 * word_count (word_at x a) (word_at x (a + 4))
unfolding head_at
head-words x a h e =
    let w = word_at x a in
    let p = need-ok (holds x a 4) OutsideXdata _ h e in
    let q = need-ok (eqb (bits 18 2 w) 0) Reserved _ h p.1 in
    let r = bind_ok (if eqb (bits 23 9 w) 0 then long_head x a w else Ok (short_head w)) (whole_record x a) h q.1 in
    let s = need-ok (holds x a (record_bytes r.0)) OutsideXdata (Ok r.0) h r.2 in
    kind-words x a w h (eqb (bits 23 9 w) 0) refl (r.1 ∙ s.1)

-- ---- a size that is given is a head's
size-head : (x : Lent) (at n : ℕ) → xdata_size x at ≡ Ok n → (h : Head) × (head_at x (at - at % 4) ≡ Ok h) × (record_bytes h ≡ n)
unfolding xdata_size
size-head x at n e =
    let p = need-ok (fit_xdata x) UnfitInput _ n e in
    let q = bind_ok (head_at x (at - at % 4)) (λ h. Ok (record_bytes h)) n p.1 in
    (q.0, q.1, ok_same _ n q.2)

pub size-laws : SizeLaws ours
size-laws = record {
  counted = λ x at n e. let h = size-head x at n e in sym h.2 ∙ head-words x (at - at % 4) h.0 h.1;
  inside = λ x at n e. let h = size-head x at n e in
      rw h.2 at (inside x (at - at % 4) (record_bytes h.0) (head_small x (at - at % 4) h.0 h.1).lent);
}

-- ---- any other number of bytes, wherever a size is given
pub no-resized : (n : Lent → ℕ → ℕ) (x : Lent) (at m : ℕ) → ours.size x at ≡ Ok m → n x at ≢ m → SizeLaws (resized n) → ⊥
no-resized n x at m e d h = d (h.counted x at (n x at) (ap (λ (r : Res ℕ). r >> Ok (n x at)) e) ∙ sym (size-laws.counted x at m e))

-- so a size without the handler's word: E=1, X=1, one word of codes
abbrev handled : Lent
handled = record { base = 0x3000; bytes = bytes_of (0x103000A5 ∷ 0xFD04DDC7 ∷ 0x1234 ∷ []) }

twelve : ours.size handled 0x3000 ≡ Ok 12
unfolding opened
twelve = refl

eight : handlerless handled 0x3000 ≡ 8
unfolding opened
eight = refl

no-handlerless : SizeLaws (resized handlerless) → ⊥
no-handlerless = no-resized handlerless handled 0x3000 12 twelve (λ e. let z : ◌≡◌ {A = ℕ} 8 12 = sym eight ∙ e in omega arith)
