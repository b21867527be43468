-- A record that is read stands for its shape: refused where the definition's shape is, and else the same shape of the plan, the code bytes
-- and the .xdata; the code bytes lie inside it.
-- Assumes nothing.
use Rattle.std.specs.Prelude.{if◌then◌else◌, Ok, Err}
use Prim.Native.Nat.{ℕ, zero, suc, ◌+◌, ◌-◌, ◌*◌, ◌≤◌, ◌<◌}
use Rattle.words.proofs.Answers.{bind_ok, need-ok, ok_same}
use mathlib.Core.Path.{subst, ◌≡◌, refl, sym, ap, ap₂, ◌∙◌}
use mathlib.Core.Bool.{Bool, true, false, ◌&&◌}
use mathlib.Core.List.{List, ◌∷◌, [], ◌++◌}
use lib.ListN.{length, take, drop, replicate, length-take}
use lib.Dec.{eqb, leb}
use native.Mathlib.Omega.{arith}
use borrow.Author.Tests.{leb-true}
use Rattle.words.specs.Bits.{bits}
use Rattle.lent.specs.Lent.{Lent, lent, holds, word_at}
use Rattle.lent.specs.Little.{word32}
use Rattle.words.specs.Units.{code_bytes, code_word_bytes}
use Rattle.words.specs.declared.Refusal.TheVariants.{Reserved}
use Rattle.words.specs.declared.CodeBytes.{CodeBytes}
use Rattle.words.specs.Answer.{verdict, Res, need, ◌>>◌, ◌>>=◌}
use Rattle.unwinding.specs.Shape.{Shape}
use Rattle.unwinding.specs.declared.Scope.{Scope}
use Rattle.xdata.specs.Xdata.{E, F, scope_count, codes_offset, record_bytes, head_at}
use Rattle.packed.specs.Packed.{fields, allowed, packed_span, packed_fragment}
use Rattle.packed_codes.specs.PackedCodes.{first_list, second_list, written, write_codes}
use Rattle.record.specs.Record.{last_scope, full_shape, packed_shape, shape_at}
use Rattle.xdata.specs.Scopes.{scope_of, scopes_at}
use Rattle.record.specs.AsCoded.Plan.{scope_in, scopes_end, scopes_from, scopes_of, plan_of, full_by, after_head, full_plan, shape_by, packed_by, packed_plan, read_of, codes_in, codes_end, read_shape}
use Rattle.xdata.specs.AsCoded.Scopes.{res_zero}
use Rattle.xdata.specs.declared.Head.{Head}
use Rattle.record.specs.declared.Scopes.{Scopes}
use Rattle.record.specs.declared.Scopes.TheVariants.{Ending, Listed}
use Rattle.packed.specs.declared.Packed.{Packed}
use Rattle.packed_codes.specs.declared.CodesOf.{CodesOf}
use Rattle.record.specs.declared.Record.{Record}
use Rattle.record.specs.Record as Record
use Rattle.words.proofs.Tests.{if-true, if-false}
use Rattle.xdata.proofs.Heads.{head_small}

-- a plan's scopes, one after another: what a loop over them cites
pub scopes-done : (c : Scopes) (s : List ℕ) (k n : ℕ) → n ≤ k → scopes_from c s k (n - k) ≡ []
unfolding scopes_from
scopes-done c s k n h = let e : n - k ≡ 0 = omega arith in rw e refl

pub scopes-next :
    (c : Scopes) (s : List ℕ) (k n : ℕ) → k < n → scopes_from c s k (n - k) ≡ scope_in c s k ∷ scopes_from c s (k + 1) (n - (k + 1))
unfolding scopes_from
scopes-next c s k n h = let e : n - k ≡ suc (n - (k + 1)) = omega arith in rw e refl

-- the word of a scope is in the .xdata where all are
pub scopes-inside : (c : Scopes) (k n m : ℕ) → k < n → scopes_end c n ≤ m → scopes_end c (k + 1) ≤ m
scopes-inside (Ending i) k n m l h = omega arith
scopes-inside (Listed at) k n m l h = omega (arith, l, h)

-- one scope word before others
unfoldable step_by : ℕ → Res (List Scope) → Res (List Scope)
step_by w rest = need (eqb (bits 18 2 w) 0) Reserved >> (rest >>= λ l. Ok (scope_of w ∷ l))

step_is : (x : Lent) (a n : ℕ) → scopes_at x a (suc n) ≡ step_by (word_at x a) (scopes_at x (a + 4) n)
unfolding scopes_at step_by
step_is x a n = refl

step_by_lem :
    (w : ℕ) (u : Bool) (l : List Scope)
    → step_by w (if u then Ok l else Err Reserved) ≡ (if eqb (bits 18 2 w) 0 && u then Ok (scope_of w ∷ l) else Err Reserved)
unfolding step_by
step_by_lem w u l = go (eqb (bits 18 2 w) 0) u
  where
    go :
        (t u : Bool)
        → (need t Reserved >> ((if u then Ok l else Err Reserved) >>= λ l. Ok (scope_of w ∷ l)))
        ≡ (if t && u then Ok (scope_of w ∷ l) else Err Reserved)
    go true true = refl
    go true false = refl
    go false u = refl

-- scope words in the .xdata: listed where each has Res 0, and else refused
scopes-listed :
    (b : ℕ) (s : List ℕ) (o n k a : ℕ) → a ≡ b + o + 4 * k
    → scopes_at (lent b s) a n ≡ (if res_zero s o k n then Ok (scopes_from (Listed o) s k n) else Err Reserved)
unfolding scopes_at res_zero scopes_from
scopes-listed b s o zero k a e = refl
scopes-listed b s o (suc n) k a e =
    let at : a - b ≡ o + 4 * k = omega arith in
    step_is (lent b s) a n ∙ ap₂ step_by (ap (word32 s) at) (scopes-listed b s o n (k + 1) (a + 4) (omega arith))
    ∙ step_by_lem (word32 s (o + 4 * k)) (res_zero s o (k + 1) n) (scopes_from (Listed o) s (k + 1) n)

-- the record of a head, by the test of Res
module _ (b : ℕ) (s : List ℕ) (a : ℕ) (h : Head) (above : b ≤ a) where
  scopes-are :
      scopes_at (lent b s) (a + h.bytes) (scope_count h)
      ≡ (if res_zero s (a - b + h.bytes) 0 (scope_count h) then Ok (scopes_from (Listed (a - b + h.bytes)) s 0 (scope_count h)) else Err Reserved)
  scopes-are = scopes-listed b s (a - b + h.bytes) (scope_count h) 0 (a + h.bytes) (omega arith)

  scopes-given :
      res_zero s (a - b + h.bytes) 0 (scope_count h) ≡ true
      → scopes_at (lent b s) (a + h.bytes) (scope_count h) ≡ Ok (scopes_from (Listed (a - b + h.bytes)) s 0 (scope_count h))
  scopes-given t = scopes-are ∙ sym (if-true _ _ t)

  scopes-refused :
      res_zero s (a - b + h.bytes) 0 (scope_count h) ≡ false → scopes_at (lent b s) (a + h.bytes) (scope_count h) ≡ Err Reserved
  scopes-refused t = scopes-are ∙ sym (if-false _ _ t)

  pub after-given :
      res_zero s (a - b + h.bytes) 0 (scope_count h) ≡ true → after_head (lent b s) a h ≡ Ok (full_by (lent b s) a h)
  after-given t = ap (λ r. r >>= λ l. Ok (full_by (lent b s) a h)) (scopes-given t)

  pub after-refused : res_zero s (a - b + h.bytes) 0 (scope_count h) ≡ false → after_head (lent b s) a h ≡ Err Reserved
  after-refused t = ap (λ r. r >>= λ l. Ok (full_by (lent b s) a h)) (scopes-refused t)

-- what is lent stands at or above the base, and within the bytes
lent-above : (x : Lent) (a n : ℕ) → holds x a n ≡ true → (x.base ≤ a) × (a + n ≤ x.base + length x.bytes)
lent-above x a n h = go (leb x.base a) refl h
  where
    go :
        (t : Bool) → leb x.base a ≡ t → (t && leb (a + n) (x.base + length x.bytes)) ≡ true
        → (x.base ≤ a) × (a + n ≤ x.base + length x.bytes)
    go true e q = (leb-true x.base a e, leb-true (a + n) (x.base + length x.bytes) q)
    go false e q = absurd (let z : ◌≡◌ {A = ℕ} 0 1 = cc in omega arith)

-- so do a head that is given and its scopes
pub head-lent : (x : Lent) (a : ℕ) (h : Head) → head_at x a ≡ Ok h → (x.base ≤ a) × (a + codes_offset h ≤ x.base + length x.bytes)
head-lent x a h e = let w = lent-above x a (record_bytes h) (head_small x a h e).lent in (w.0, omega (arith, w.1))

-- a head's scopes are the plan's
plan-scopes :
    (o : ℕ) (s : List ℕ) (h : Head)
    → (if E h then last_scope (code_bytes h.count) ∷ [] else scopes_from (Listed (o + h.bytes)) s 0 (scope_count h))
    ≡ scopes_from (scopes_of o h) s 0 (if E h then 1 else h.count)
unfolding scopes_from
plan-scopes o s h = go (E h)
  where
    go :
        (e : Bool)
        → (if e then last_scope (code_bytes h.count) ∷ [] else scopes_from (Listed (o + h.bytes)) s 0 (if e then 0 else h.count))
        ≡ scopes_from (if e then Ending (code_bytes h.count) else Listed (o + h.bytes)) s 0 (if e then 1 else h.count)
    go true = refl
    go false = refl

-- the shape of a record whose head was read and whose scopes are listed
plan-shape :
    (b : ℕ) (s : List ℕ) (a : ℕ) (h : Head) → b ≤ a
    → Record.full_of (lent b s) a h (scopes_from (Listed (a - b + h.bytes)) s 0 (scope_count h))
    ≡ shape_by (plan_of (lent b s) a h) (take (code_word_bytes h.codewords).0 (drop (a - b + codes_offset h) s)) s
plan-shape b s a h above =
    let from : a + codes_offset h - b ≡ a - b + codes_offset h = omega arith in
    λ i. record { span = (plan_of (lent b s) a h).span; codes = take (code_word_bytes h.codewords).0 (drop (from i) s); fragment = F h; scopes = plan-scopes (a - b) s h i; handler = (plan_of (lent b s) a h).handler }

-- a full record's shape by its head, and with that what its plan stands for
module _ (b : ℕ) (s : List ℕ) (a : ℕ) where
  abbrev shape-after : Head → Res Shape
  shape-after h = scopes_at (lent b s) (a + h.bytes) (scope_count h) >>= λ l. Ok (Record.full_of (lent b s) a h l)

  by-scopes : (h : Head) → b ≤ a → shape-after h ≡ read_shape s (after_head (lent b s) a h)
  by-scopes h above = go (res_zero s (a - b + h.bytes) 0 (scope_count h)) refl
    where
      after : Res (List Scope) → Res Shape
      after r = r >>= λ l. Ok (Record.full_of (lent b s) a h l)

      go : (t : Bool) → res_zero s (a - b + h.bytes) 0 (scope_count h) ≡ t → shape-after h ≡ read_shape s (after_head (lent b s) a h)
      go true t =
          ap after (scopes-given b s a h above t) ∙ ap Ok (plan-shape b s a h above)
          ∙ sym (ap (read_shape s) (after-given b s a h above t))
      go false t = ap after (scopes-refused b s a h above t) ∙ sym (ap (read_shape s) (after-refused b s a h above t))

  -- the plan of a full record stands for the definition's shape, or its refusal
  full-shape : full_shape (lent b s) a ≡ read_shape s (full_plan (lent b s) a)
  unfolding full_shape full_plan
  full-shape = go (head_at (lent b s) a) refl
    where
      go : (r : Res Head) → head_at (lent b s) a ≡ r → (r >>= shape-after) ≡ read_shape s (r >>= after_head (lent b s) a)
      go (Ok h) e = by-scopes h (head-lent (lent b s) a h e).0
      go (Err why) e = refl

-- a full record that was read is that of its head
full-read :
    (x : Lent) (a : ℕ) (f : Record) → full_plan x a ≡ Ok f → (h : Head) × (head_at x a ≡ Ok h) × (full_by x a h ≡ f)
unfolding full_plan
full-read x a f e =
    let u = bind_ok (head_at x a) (after_head x a) f e in
    let v = bind_ok (scopes_at x (a + u.0.bytes) (scope_count u.0)) (λ l. Ok (full_by x a u.0)) f u.2 in
    (u.0, u.1, ok_same (full_by x a u.0) f v.2)

module _ (b : ℕ) (s : List ℕ) (a : ℕ) (f : Record) (is : full_plan (lent b s) a ≡ Ok f) where
  -- its code bytes are in the .xdata
  full-inside : codes_end f.codes ≤ length s
  full-inside =
      let u = full-read (lent b s) a f is in
      subst (λ (f : Record). codes_end f.codes ≤ length s) u.2
      (omega (arith, lent-above (lent b s) a (record_bytes u.0) (head_small (lent b s) a u.0 u.1).lent))

  -- and so are its scope words
  full-listed : scopes_end f.plan.scopes f.plan.count ≤ length s
  full-listed =
      let u = full-read (lent b s) a f is in
      let h = u.0 in
      subst (λ (f : Record). scopes_end f.plan.scopes f.plan.count ≤ length s) u.2
      (ends (E h) (code_bytes h.count) (a - b) h.bytes h.count (length s) (omega (arith, lent-above (lent b s) a (record_bytes h) (head_small (lent b s) a h u.1).lent)))
    where
      ends :
          (t : Bool) (i : CodeBytes) (o h n m : ℕ) → o + (h + 4 * (if t then 0 else n)) ≤ m
          → scopes_end (if t then Ending i else Listed (o + h)) (if t then 1 else n) ≤ m
      ends true i o h n m l = omega arith
      ends false i o h n m l = omega (arith, l)

  -- there are at most 255 words of code bytes
  full-few : length (codes_in f.codes s) ≤ 1020
  full-few =
      let u = full-read (lent b s) a f is in
      let h = u.0 in
      let n = (code_word_bytes h.codewords).0 in
      subst (λ (f : Record). length (codes_in f.codes s) ≤ 1020) u.2
      (omega (arith, (head_small (lent b s) a h u.1).codewords, length-take n (drop (a - b + codes_offset h) s)))

-- a packed record's epilogue is the plan's
packed-scopes :
    (p : Packed) (i : CodeBytes) (s : List ℕ)
    → (if eqb p.ret 3 then [] else last_scope i ∷ []) ≡ scopes_from (Ending i) s 0 (if eqb p.ret 3 then 0 else 1)
unfolding scopes_from
packed-scopes p i s = go (eqb p.ret 3)
  where
    go : (t : Bool) → (if t then [] else last_scope i ∷ []) ≡ scopes_from (Ending i) s 0 (if t then 0 else 1)
    go true = refl
    go false = refl

-- the plan of a packed record stands for the definition's shape, or its refusal, beside any .xdata
packed-shape : (w : ℕ) (s : List ℕ) → packed_shape w ≡ read_shape s (packed_plan w)
unfolding packed_shape packed_plan
packed-shape w s = go (write_codes w)
  where
    p : Packed
    p = fields w

    shape : CodesOf → List Scope → Shape
    shape c l = record { span = packed_span p; codes = c.bytes; fragment = packed_fragment p; scopes = l; handler = 0 }

    go :
        (r : Res CodesOf)
        → (r >>= λ c. Ok (shape c (if eqb p.ret 3 then [] else last_scope c.first ∷ []))) ≡ read_shape s (r >>= λ c. Ok (packed_by w c))
    go (Ok c) = ap (λ l. Ok (shape c l)) (packed-scopes p c.first s)
    go (Err why) = refl

-- a packed record that was read is that of its codes
packed-read : (w : ℕ) (f : Record) → packed_plan w ≡ Ok f → (c : CodesOf) × (write_codes w ≡ Ok c) × (packed_by w c ≡ f)
unfolding packed_plan
packed-read w f e =
    let u = bind_ok (write_codes w) (λ c. Ok (packed_by w c)) f e in
    (u.0, u.1, ok_same (packed_by w u.0) f u.2)

module _ (w : ℕ) (s : List ℕ) (f : Record) (is : packed_plan w ≡ Ok f) where
  -- its code bytes are no part of the .xdata
  packed-inside : codes_end f.codes ≤ length s
  packed-inside =
      let u = packed-read w f is in
      subst (λ (f : Record). codes_end f.codes ≤ length s) u.2 (omega arith)

  -- it has no scope words
  packed-listed : scopes_end f.plan.scopes f.plan.count ≤ length s
  packed-listed =
      let u = packed-read w f is in
      subst (λ (f : Record). scopes_end f.plan.scopes f.plan.count ≤ length s) u.2 (omega arith)

  -- and few code bytes
  packed-few : length (codes_in f.codes s) ≤ 1020
  unfolding write_codes
  packed-few =
      let u = packed-read w f is in
      let v = need-ok (allowed (fields w)) Reserved (Ok (written (fields w))) u.0 u.1 in
      let e : written (fields w) ≡ u.0 = ok_same (written (fields w)) u.0 v.1 in
      subst (λ (f : Record). length (codes_in f.codes s) ≤ 1020) (ap (packed_by w) e ∙ u.2)
      (omega (arith, length-take 16 (first_list (fields w) ++ second_list (fields w) ++ replicate 16 0)))

-- ---- a record of either kind
-- what was read stands for the definition's shape, or its refusal
pub read-shape : (b : ℕ) (s : List ℕ) (w : ℕ) → shape_at (lent b s) w ≡ read_shape s (read_of (lent b s) w)
read-shape b s w = go (eqb (bits 0 2 w) 0)
  where
    go :
        (t : Bool)
        → (if t then full_shape (lent b s) w else packed_shape w) ≡ read_shape s (if t then full_plan (lent b s) w else packed_plan w)
    go true = full-shape b s w
    go false = packed-shape w s

-- so it is refused as the shape is
pub read_told : (b : ℕ) (s : List ℕ) (w : ℕ) → verdict (read_of (lent b s) w) ≡ verdict (shape_at (lent b s) w)
read_told b s w = go (read_of (lent b s) w) ∙ sym (ap verdict (read-shape b s w))
  where
    go : (r : Res Record) → verdict r ≡ verdict (read_shape s r)
    go (Ok f) = refl
    go (Err why) = refl

module _ (b : ℕ) (s : List ℕ) (w : ℕ) (f : Record) (is : read_of (lent b s) w ≡ Ok f) where
  -- its code bytes and its scope words are in the .xdata
  pub read-inside : codes_end f.codes ≤ length s
  read-inside = go (eqb (bits 0 2 w) 0) is
    where
      go : (t : Bool) → (if t then full_plan (lent b s) w else packed_plan w) ≡ Ok f → codes_end f.codes ≤ length s
      go true e = full-inside b s w f e
      go false e = packed-inside w s f e

  pub read-listed : scopes_end f.plan.scopes f.plan.count ≤ length s
  read-listed = go (eqb (bits 0 2 w) 0) is
    where
      go : (t : Bool) → (if t then full_plan (lent b s) w else packed_plan w) ≡ Ok f → scopes_end f.plan.scopes f.plan.count ≤ length s
      go true e = full-listed b s w f e
      go false e = packed-listed w s f e

  -- it has few code bytes
  pub read-few : length (codes_in f.codes s) ≤ 1020
  read-few = go (eqb (bits 0 2 w) 0) is
    where
      go : (t : Bool) → (if t then full_plan (lent b s) w else packed_plan w) ≡ Ok f → length (codes_in f.codes s) ≤ 1020
      go true e = full-few b s w f e
      go false e = packed-few w s f e

  -- and its shape is the definition's
  pub read-given : shape_at (lent b s) w ≡ Ok (shape_by f.plan (codes_in f.codes s) s)
  read-given = read-shape b s w ∙ ap (read_shape s) is

pub shape-few : (x : Lent) (w : ℕ) (s : Shape) → shape_at x w ≡ Ok s → length s.codes ≤ 1020
shape-few x w s q = go (read_of x w) refl
  where
    go : (r : Res Record) → read_of x w ≡ r → length s.codes ≤ 1020
    go (Ok f) e =
        subst (λ (y : Shape). length y.codes ≤ 1020)
        (ok_same (shape_by f.plan (codes_in f.codes x.bytes) x.bytes) s (sym (read-given x.base x.bytes w f e) ∙ q))
        (read-few x.base x.bytes w f e)
    go (Err why) e =
        absurd (let z : ◌≡◌ {A = Res Shape} (Err why) (Ok s) = sym (ap (read_shape x.bytes) e) ∙ sym (read-shape x.base x.bytes w) ∙ q in let n : ◌≡◌ {A = ℕ} 0 1 = cc in omega arith)
