-- The byte that 6 tells of a record fits in 16 bits: it has few code bytes, and its indices have at most 16 bits.
-- Assumes nothing.
use Rattle.std.specs.Prelude.{if◌then◌else◌, Ok, Err}
use Prim.Native.Nat.{ℕ, zero, suc, ◌+◌, ◌≤◌}
use mathlib.Core.Logic.{⊎_elim}
use mathlib.Core.Path.{◌≡◌, refl, subst}
use mathlib.Core.Bool.{Bool, true, false}
use mathlib.Core.List.{List, [], ◌∷◌, map}
use lib.Dec.{eqb}
use lib.ListN.{length}
use native.Mathlib.Omega.{arith}
use Rattle.words.specs.Bits.{bits}
use Rattle.words.specs.Units.{code_bytes}
use Rattle.words.specs.declared.CodeBytes.{CodeBytes}
use Rattle.words.specs.declared.Refusal.TheVariants.{Reserved, BadCodes}
use Rattle.words.specs.Answer.{◌>>=◌}
use Rattle.words.proofs.Answers.{bind_ok, need-ok, ok_same}
use Rattle.lent.specs.Lent.{Lent, word_at}
use Rattle.unwinding.specs.Shape.{Shape}
use Rattle.unwinding.specs.View.{view}
use Rattle.unwinding.specs.declared.Scope.{Scope}
use Rattle.unwinding.proofs.All.{All}
use Rattle.codes.specs.Code.{size, codes_at}
use Rattle.xdata.specs.Xdata.{E, scope_count, head_at}
use Rattle.xdata.specs.Scopes.{scope_of, scopes_at}
use Rattle.xdata.proofs.Heads.{head_small}
use Rattle.packed.specs.Packed.{fields, allowed}
use Rattle.packed_codes.specs.PackedCodes.{written, write_codes}
use Rattle.packed_codes.specs.declared.CodesOf.{CodesOf}
use Rattle.packed_codes.proofs.Lengths.{lists-fit}
use Rattle.record.specs.Record.{last_scope, full_of, full_shape, packed_shape, shape_at}
use Rattle.record.proofs.Shapes.{shape-few}
use Rattle.bad_byte.specs.Records.{FirstOf, here, later, FirstBad}
use Rattle.bad_byte.proofs.Numbers.{through, shape-other}
use Rattle.bad_byte.proofs.Lists.{bad-limit}
use Rattle.bad_byte.proofs.Records.{first-told}

abbrev Narrow : ℕ → Type 0
Narrow i = i ≤ 65535

abbrev Small : List Scope → Type 0
Small es = All Narrow (map (λ (e : Scope). e.index.0) es)

by-test : (P : List Scope → Type 0) (t : Bool) {k l : List Scope} → P k → P l → P (if t then k else l)
by-test P true a b = a
by-test P false a b = b

-- a scope word's index has 8 bits
listed_small : (x : Lent) (a n : ℕ) (l : List Scope) → scopes_at x a n ≡ Ok l → Small l
unfolding scopes_at
listed_small x a zero l h = subst Small (ok_same [] l h) tt
listed_small x a (suc n) l h =
    let t = need-ok (eqb (bits 18 2 (word_at x a)) 0) Reserved _ l h in
    let r = bind_ok (scopes_at x (a + 4) n) _ l t.1 in
    subst Small (ok_same (scope_of (word_at x a) ∷ r.0) l r.2) (omega arith, listed_small x (a + 4) n r.0 r.1)

-- with E=1 the index is the count, of at most 16 bits
full-small : (x : Lent) (a : ℕ) (sh : Shape) → full_shape x a ≡ Ok sh → Small sh.scopes
unfolding full_shape
full-small x a sh h =
    let d = bind_ok (head_at x a) _ sh h in
    let l = bind_ok (scopes_at x (a + d.0.bytes) (scope_count d.0)) _ sh d.2 in
    let few = (head_small x a d.0 d.1).count in
    let one : Small (last_scope (code_bytes d.0.count) ∷ []) = (omega (arith, few), tt) in
    subst (λ (s : Shape). Small s.scopes) (ok_same (full_of x a d.0 l.0) sh l.2) (by-test Small (E d.0) one (listed_small x _ _ l.0 l.1))

-- a packed record's index is its first list's length
first_small : (w : ℕ) (c : CodesOf) → write_codes w ≡ Ok c → c.first.0 ≤ 16
unfolding write_codes
first_small w c h =
    let t = need-ok (allowed (fields w)) Reserved (Ok (written (fields w))) c h in
    subst (λ (c : CodesOf). c.first.0 ≤ 16) (ok_same (written (fields w)) c t.1) (omega (arith, lists-fit (fields w)))

packed-small : (w : ℕ) (sh : Shape) → packed_shape w ≡ Ok sh → Small sh.scopes
unfolding packed_shape
packed-small w sh h =
    let c = bind_ok (write_codes w) _ sh h in
    let one : Small (last_scope c.0.first ∷ []) = (omega (arith, first_small w c.0 c.1), tt) in
    subst (λ (s : Shape). Small s.scopes) (ok_same _ sh c.2) (by-test Small (eqb (fields w).ret 3) {k = []} tt one)

shape-small : (x : Lent) (w : ℕ) (sh : Shape) → shape_at x w ≡ Ok sh → Small sh.scopes
shape-small x w sh h = go (eqb (bits 0 2 w) 0) h
  where
    go : (t : Bool) → (if t then full_shape x w else packed_shape w) ≡ Ok sh → Small sh.scopes
    go true q = full-small x w sh q
    go false q = packed-small w sh q

-- so the first list that cannot be read tells one of few bytes
lists-limit : (s is : List ℕ) (j : ℕ) → length s ≤ 1020 → All Narrow is → FirstOf s is j → j ≤ 65535
lists-limit s [] j l a x' = elim x' [ ]
lists-limit s (i ∷ is) j l a (here b) = ⊎_elim (λ h. omega (arith, h, l)) (λ e. omega (arith, e, a.0)) (bad-limit s i j b)
lists-limit s (i ∷ is) j l a (later r f) = lists-limit s is j l a.1 f

pub record-limit : (x : Lent) (w : ℕ) (sh : Shape) (j : ℕ) → shape_at x w ≡ Ok sh → FirstBad sh j → j ≤ 65535
record-limit x w sh j h f = lists-limit sh.codes _ j (shape-few x w sh h) (omega arith, shape-small x w sh h) f

-- the same of what reading a record and its lists tells
pub viewed-limit : (x : Lent) (w : ℕ) (i : CodeBytes) → (shape_at x w >>= view size codes_at) ≡ Err (BadCodes i) → i.0 ≤ 65535
viewed-limit x w i h =
    let a = through (shape_at x w) (view size codes_at) (BadCodes i) (shape-other x w) h refl in
    record-limit x w a.0 i.0 a.1 (first-told a.0 i.0 a.2)
