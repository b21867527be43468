-- The laws of packed records, of our reader; and readers that look like one, each refuted by one of them.
-- Assumes nothing.
use Rattle.std.specs.Prelude.{Ok, Err}
use Prim.Native.Nat.{ℕ}
use mathlib.Core.Path.{◌≡◌, refl, sym, ap, subst, ◌∙◌}
use mathlib.Core.List.{List, [], ◌∷◌}
use mathlib.Core.Bool.{Bool, true, false, ◌&&◌}
use native.Mathlib.Omega.{arith}
use Rattle.words.specs.declared.Refusal.TheVariants.{Reserved}
use Rattle.words.specs.Answer.{Res, ◌>>◌, need, verdict}
use Rattle.unwinding.specs.CodeList.{Codes}
use Rattle.codes.specs.declared.Code.{Code}
use Rattle.packed.specs.Packed.{fields, fields_fit, allowed, word_of, write_word}
use Rattle.packed_codes.specs.PackedCodes.{written, write_codes}
use Rattle.packed.specs.declared.Packed.{Packed}
use Rattle.packed_codes.specs.declared.CodesOf.{CodesOf}
use Rattle.record.proofs.Opened.{opened}
use Rattle.packed.proofs.Words.{fields_fit_lem, true-fit, write-then-read, read-then-write}
use Rattle.packed_codes.specs.Lists.{Holds}
use Rattle.packed_codes.proofs.Written.{codes-given}
use Rattle.packed_codes.proofs.Decoding.{holds}
use Rattle.demands.specs.Reader.{ours}
use Rattle.demands.specs.PackedLaws.{PackedLaws}
use Rattle.demands.specs.Shams.{forgetting, narrow-pop, unreversed, wide-chain}

-- ---- ours
accepted : (p : Packed) → verdict (ours.word p) ≡ need (fields_fit p && allowed p) Reserved
unfolding write_word
accepted p = go (fields_fit p && allowed p)
  where
    go : (t : Bool) → verdict (need t Reserved >> Ok (word_of p)) ≡ need t Reserved
    go true = refl
    go false = refl

-- a word's codes are given where its fields are allowed
allows : (w : ℕ) → verdict (ours.codes w) ≡ need (allowed (fields w)) Reserved
unfolding write_codes
allows w = go (allowed (fields w))
  where
    go : (t : Bool) → verdict (need t Reserved >> Ok (written (fields w))) ≡ need t Reserved
    go true = refl
    go false = refl

alike : (w : ℕ) → verdict (ours.codes w) ≡ verdict (ours.word (fields w))
alike w =
    allows w ∙ sym (accepted (fields w) ∙ ap (λ t. need (t && allowed (fields w)) Reserved) (true-fit (fields w) (fields_fit_lem w)))

given-allowed : (w : ℕ) (c : CodesOf) → ours.codes w ≡ Ok c → allowed (fields w) ≡ true
given-allowed w c h = go (allowed (fields w)) refl (sym (allows w) ∙ ap verdict h)
  where
    go : (t : Bool) → allowed (fields w) ≡ t → need t Reserved ≡ Ok tt → allowed (fields w) ≡ true
    go true e q = e
    go false e q = absurd (let z : ◌≡◌ {A = ℕ} 0 1 = cc in omega arith)

lists : (w : ℕ) (c : CodesOf) → ours.codes w ≡ Ok c → Holds (fields w) c
lists w c e =
    let same : written (fields w) ≡ c = cc (sym (codes-given w (given-allowed w c e)) ∙ e) in
    subst (Holds (fields w)) same (holds (fields w) (fields_fit_lem w))

pub packed-laws : PackedLaws ours
packed-laws = record {
  accepted = accepted;
  alike = alike;
  written_read = write-then-read;
  read-written = λ w c h e. read-then-write w h (given-allowed w c e);
  lists = lists;
}

-- ---- shams
-- without H the fields of the word are others: push {r0-r3}; push {r4,r5,lr}; sub sp,#8
no-forgetting : PackedLaws forgetting → ⊥
unfolding opened
no-forgetting h =
    let z : ◌≡◌ {A = ℕ} 0 1 = ap (λ (p : Packed). p.h) (h.written_read (fields 0x00918041) _ refl).0 in omega arith

-- the size of a list's first instruction
first-size : Res (Codes Code) → ℕ
first-size (Err r) = 0
first-size (Ok c) = go c.list
  where
    go : List Code → ℕ
    go [] = 0
    go (c ∷ cs) = c.size.0

-- pop {r4,lr} has 32 bits before a branch
no-narrow-pop : PackedLaws narrow-pop → ⊥
unfolding opened first-size
no-narrow-pop h =
    let other : ◌≡◌ {A = ℕ} 1 3 → ⊥ = λ e. omega arith in
    let z : ◌≡◌ {A = ℕ} 1 2 = ap first-size ((h.lists 0x00102041 _ refl).second other).read in omega arith

-- the code of the last instruction, a sub of 32 bits, stands first
no-unreversed : PackedLaws unreversed → ⊥
unfolding opened first-size
no-unreversed h =
    let z : ◌≡◌ {A = ℕ} 1 2 = ap first-size (h.lists 0x20110041 _ refl).first.read in omega arith

-- push.w {r11,lr}; mov r11,sp: the last instruction has 16 bits
no-wide-chain : PackedLaws wide-chain → ⊥
unfolding opened first-size
no-wide-chain h =
    let z : ◌≡◌ {A = ℕ} 2 1 = ap first-size (h.lists 0x003F0041 _ refl).first.read in omega arith
