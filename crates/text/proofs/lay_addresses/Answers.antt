-- A space is one store; the digits behind it are laid as they are by themselves.
-- Assumes nothing.
use Prim.Native.Nat.{ℕ, ◌+◌, ◌^◌, ◌≤◌, ◌<◌}
use mathlib.Core.Path.{◌≡◌, refl, ◌∙◌}
use mathlib.Core.List.{List, [], ◌∷◌}
use lib.ListN.{length, set, length-set}
use native.Mathlib.Omega.{arith}
use Rattle.text.specs.Text.{hex8}
use Rattle.text.specs.Overlay.{Laid}
use Rattle.text.proofs.Overlaid.{one, joined, laid-length}
use Rattle.text.proofs.Numbers.{hex8-length}
use Rattle.text.proofs.lay_addresses.Goals as goal

-- a byte that has room
stored : (b : List ℕ) (i c : ℕ) → i < length b → length b < 2 ^ 64 → Laid b i (c ∷ []) (i + 1) (set b i c)
stored b i c h l = one b (set b i c) i (i + 1) c (omega arith) refl l

-- behind a byte and eight digits that have room: the place, and as long a buffer
behind :
    (b : List ℕ) (i c v : ℕ) {o : List ℕ} {r : ℕ}
    → Laid (set b i c) (i + 1) (hex8 v) r o → i + 10 ≤ length b → (r ≡ i + 9) × (length o ≡ length b)
behind b i c v h l =
    let e = length-set b i c in
    (omega (arith, h.place, h.room, hex8-length v, e), laid-length h ∙ e)

pub lay_hex8-next-requires : goal.lay_hex8-next-requires
lay_hex8-next-requires c =
    let a = c.args in
    let h : a.at + 1 + 8 ≤ length (set a.out.now a.at 32) = omega (arith, length-set a.out.now a.at 32) in
    h

pub bounds-out-next : goal.bounds-out-next
bounds-out-next c =
    let a = c.args in
    let f = behind a.out.now a.at 32 a.pc c.lay_hex8-next.ensures (omega arith) in
    omega (arith, f.0, f.1)

pub overflow_add-next : goal.overflow_add-next
overflow_add-next c = omega (arith, bounds-out-next c.before)

pub lay_hex8-next-requires-2 : goal.lay_hex8-next-requires-2
lay_hex8-next-requires-2 c =
    let a = c.args in
    let k = c.lay_hex8-next in
    let f = behind a.out.now a.at 32 a.pc k.ensures (omega arith) in
    let h : k.result + 1 + 8 ≤ length (set k.new.out k.result 32) = omega (arith, f.0, f.1, length-set k.new.out k.result 32) in
    h

pub bounds-out-next-2 : goal.bounds-out-next-2
bounds-out-next-2 c =
    let a = c.args in
    let k = c.lay_hex8-next in
    let f = behind a.out.now a.at 32 a.pc k.ensures (omega arith) in
    let s = behind k.new.out k.result 32 a.sp c.lay_hex8-next-2.ensures (omega (arith, f.0, f.1)) in
    omega (arith, f.0, f.1, s.0, s.1)

pub overflow_add-result : goal.overflow_add-result
overflow_add-result c =
    let m = c.lay_hex8-next-2 in
    let e = laid-length m.ensures in
    omega (arith, bounds-out-next-2 c, e, m.ensures.room)

pub returns : goal.returns
returns c =
    let a = c.args in
    let k = c.lay_hex8-next in
    let m = c.lay_hex8-next-2 in
    let e = laid-length k.ensures in
    let f = laid-length m.ensures in
    joined (joined (joined (joined (stored a.out.now a.at 32 (omega arith) (omega arith)) k.ensures) (stored k.new.out k.result 32 (bounds-out-next c.before.before.before.before) (omega (arith, e, k.ensures.room)))) m.ensures) (stored m.new.out m.result 32 (bounds-out-next-2 c) (omega (arith, f, m.ensures.room)))

pub shape_of-out : goal.shape_of-out
shape_of-out c = laid-length (returns c)
