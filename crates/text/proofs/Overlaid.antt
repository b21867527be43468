-- Laws of text laid over a buffer.
-- Assumes nothing.
use Prim.Native.Nat.{ℕ, suc, ◌+◌, ◌-◌, ◌^◌, ◌≤◌, ◌<◌, min}
use mathlib.Core.Path.{◌≡◌, refl, sym, ap, ap₂, ◌∙◌, subst}
use mathlib.Core.Bool.{Bool, true, false}
use mathlib.Core.List.{List, [], ◌∷◌, ◌++◌, append_assoc}
use lib.ListN.{length, take, drop, set, length-set, length-append}
use lib.Seq.{set_out}
use Rattle.std.proofs.lemmas.Slice.{put_mid-paste}
use Rattle.std.proofs.lemmas.List.Edits.{sets, sets-eq, paste_all}
use borrow.Rule.Slice.PartMut.{put_mid}
use native.Mathlib.Numerals.{add-one}
use lib.Dec.{leb}
use borrow.Author.Tests.{leb-true, leb-false}
use native.Mathlib.Omega.{arith}
use Rattle.text.specs.Overlay.{overlay, Laid}

-- one byte is one store
pub overlay-one : (b : List ℕ) (i c : ℕ) → overlay b i (c ∷ []) ≡ set b i c
unfolding overlay
overlay-one b i c = refl

-- two texts one after the other
pub overlay-append : (b : List ℕ) (i : ℕ) (s t : List ℕ) → overlay b i (s ++ t) ≡ overlay (overlay b i s) (i + length s) t
unfolding overlay
overlay-append b i [] t = let e : i ≡ i + 0 = omega arith in ap (λ k. overlay b k t) e
overlay-append b i (c ∷ s) t =
    let e : i + 1 + length s ≡ i + length (c ∷ s) = omega arith in
    overlay-append (set b i c) (i + 1) s t ∙ ap (λ k. overlay (overlay (set b i c) (i + 1) s) k t) e

-- four bytes are four stores
pub overlay-four :
    (b : List ℕ) (i c d e f : ℕ) → overlay b i (c ∷ d ∷ e ∷ f ∷ []) ≡ set (set (set (set b i c) (i + 1) d) (i + 2) e) (i + 3) f
unfolding overlay
overlay-four b i c d e f =
    let two : i + 1 + 1 ≡ i + 2 = omega arith in
    let three : i + 1 + 1 + 1 ≡ i + 3 = omega arith in
    ap₂ (λ j k. set (set (set (set b i c) (i + 1) d) j e) k f) two three

-- one byte more is one store more
pub overlay-next : (b : List ℕ) (i : ℕ) (t : List ℕ) (c : ℕ) → overlay b i (t ++ (c ∷ [])) ≡ set (overlay b i t) (i + length t) c
overlay-next b i t c = overlay-append b i t (c ∷ []) ∙ overlay-one (overlay b i t) (i + length t) c

-- the buffer keeps its length, and all its bytes where the text falls past its end
pub overlay-length : (b : List ℕ) (i : ℕ) (t : List ℕ) → length (overlay b i t) ≡ length b
unfolding overlay
overlay-length b i [] = refl
overlay-length b i (c ∷ t) = overlay-length (set b i c) (i + 1) t ∙ length-set b i c

pub overlay-past : (b : List ℕ) (i : ℕ) (t : List ℕ) → length b ≤ i → overlay b i t ≡ b
unfolding overlay
overlay-past b i [] h = refl
overlay-past b i (c ∷ t) h = ap (λ x. overlay x (i + 1) t) (set_out b i c h) ∙ overlay-past b (i + 1) t (omega arith)

-- a text that has room, copied over its part of the buffer
stored : (b : List ℕ) (i : ℕ) (t : List ℕ) → overlay b i t ≡ sets b i t
unfolding overlay
stored b i [] = refl
stored b i (c ∷ t) = rw add-one (stored (set b i c) (suc i) t)

pub overlay-copied : (b : List ℕ) (i : ℕ) (t : List ℕ) → i + length t ≤ length b → put_mid i (i + length t - i) b t ≡ overlay b i t
overlay-copied b i t h =
    let n : length t ≡ i + length t - i = omega arith in
    let laid : overlay b i t ≡ take i b ++ (t ++ drop (i + length t) b) = stored b i t ∙ sets-eq t b i h ∙ append_assoc (take i b) t (drop (i + length t) b) in
    put_mid-paste i (i + length t - i) b t t (length t) refl n refl ∙ paste_all b i t (length t) refl ∙ sym laid

-- nothing, and one byte
pub none : (b : List ℕ) (i : ℕ) → i < 2 ^ 64 → length b < 2 ^ 64 → Laid b i [] i b
unfolding overlay
none b i h l = record { place = omega arith; bytes = refl; room = l }

pub one : (b o : List ℕ) (i r c : ℕ) → r ≡ min (i + 1) (2 ^ 64 - 1) → o ≡ set b i c → length b < 2 ^ 64 → Laid b i (c ∷ []) r o
one b o i r c e f l = record { place = e; bytes = f ∙ sym (overlay-one b i c); room = l }

-- a text that has room
pub fitted : {b o t : List ℕ} {i r : ℕ} → r ≡ i + length t → r ≤ length b → length b < 2 ^ 64 → o ≡ overlay b i t → Laid b i t r o
fitted e h l f = record { place = omega arith; bytes = f; room = l }

-- the place of a second text, which only a text past the buffer's end can have cut
met : (b : List ℕ) (i n : ℕ) (t : List ℕ) → length b < 2 ^ 64 → overlay b (min (i + n) (2 ^ 64 - 1)) t ≡ overlay b (i + n) t
met b i n t l = go (leb (i + n) (2 ^ 64 - 1)) refl
  where
    go : (t' : Bool) → leb (i + n) (2 ^ 64 - 1) ≡ t' → overlay b (min (i + n) (2 ^ 64 - 1)) t ≡ overlay b (i + n) t
    go true h = let e : min (i + n) (2 ^ 64 - 1) ≡ i + n = omega (arith, leb-true (i + n) (2 ^ 64 - 1) h) in ap (λ k. overlay b k t) e
    go false h =
        let q : 2 ^ 64 - 1 < i + n = leb-false (i + n) (2 ^ 64 - 1) h in
        overlay-past b (min (i + n) (2 ^ 64 - 1)) t (omega arith) ∙ sym (overlay-past b (i + n) t (omega arith))

-- one writer after another
pub joined : {b o o' s t : List ℕ} {i r r' : ℕ} → Laid b i s r o → Laid o r t r' o' → Laid b i (s ++ t) r' o'
joined {b} {o} {o'} {s} {t} {i} {r} {r'} h k =
    let l : length (overlay b i s) < 2 ^ 64 = omega (arith, overlay-length b i s, h.room) in
    record { place = omega (arith, length-append s t, h.place, k.place); bytes = k.bytes ∙ ap (λ x. overlay x r t) h.bytes ∙ ap (λ x. overlay (overlay b i s) x t) h.place ∙ met (overlay b i s) i (length s) t l ∙ sym (overlay-append b i s t); room = h.room }

-- the same text
pub laid_as : {b o s t : List ℕ} {i r : ℕ} → s ≡ t → Laid b i s r o → Laid b i t r o
laid_as {b} {o} {s} {t} {i} {r} e h = subst (λ x. Laid b i x r o) e h

-- two texts that one writer lays
pub joined-two : {b o o' s : List ℕ} {i r r' : ℕ} (t u : List ℕ) → Laid b i s r o → Laid o r (t ++ u) r' o' → Laid b i (s ++ t ++ u) r' o'
joined-two {s = s} t u h k = laid_as (sym (append_assoc s t u)) (joined h k)

pub laid-length : {b o t : List ℕ} {i r : ℕ} → Laid b i t r o → length o ≡ length b
laid-length {b} {o} {t} {i} h = ap length h.bytes ∙ overlay-length b i t

-- a text that is short, from the buffer's start
pub from_start : {b o t : List ℕ} {r : ℕ} → length t < 2 ^ 64 → Laid b 0 t r o → (r ≡ length t) × (o ≡ overlay b 0 t)
from_start l h = (omega (arith, h.place), h.bytes)
