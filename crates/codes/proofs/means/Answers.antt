-- Each arm's answer is the law of its row, at the bits that the arm reads. Assumes nothing.
use Prim.Native.Nat.{ℕ, ◌+◌, ◌≤◌}
use mathlib.Core.Path.{◌≡◌, sym, ◌∙◌}
use mathlib.Core.Logic.{inl, inr}
use native.Mathlib.Omega.{arith}
use borrow.Author.Tests.{le-leb}
use Rattle.codes.proofs.Registers.{from-r4, bit-number}
use Rattle.codes.proofs.Meanings.{row-00, row-80, row-C0, row-D0, row-D8, row-E0, row-E8, row-EC, row-EE, row-EF, row-F5, row-F6, row-F7, row-F8, row-FB, row-FD}
use Rattle.codes.proofs.means.Goals as goal

-- a byte from n on that is not n
past : (n b : ℕ) → n ≤ b → (b ≡ n → ⊥) → n + 1 ≤ b
past n b l h = omega (arith, h)

pub returns-in-239 : goal.returns-in-239
returns-in-239 c =
    let a = c.args in
    c.load_lr.ensures ∙ rw (c.bits.ensures.0, c.bits-in-239.ensures.0) (row-EF a.b a.v c.in-239.is)

pub returns-in-245 : goal.returns-in-245
returns-in-245 c =
    let a = c.args in
    c.vpop.ensures ∙ rw (c.bits-in-245.ensures.0, c.bits-in-245-2.ensures.0) (row-F5 a.b a.v c.in-245.is)

pub returns-in-246 : goal.returns-in-246
returns-in-246 c =
    let a = c.args in
    c.vpop-in-246.ensures ∙ rw (c.bits-in-246.ensures.0, c.bits-in-246-2.ensures.0) (row-F6 a.b a.v c.in-246.is)

pub returns-in-247 : goal.returns-in-247
returns-in-247 c =
    let a = c.args in
    c.up.ensures ∙ rw c.bits-in-247.ensures.0 (row-F7 a.b a.v c.in-247.is)

pub returns-in-248 : goal.returns-in-248
returns-in-248 c =
    let a = c.args in
    c.up-in-248.ensures ∙ rw c.bits-in-248.ensures.0 (row-F8 a.b a.v c.in-248.is)

pub returns-in-0-to-127 : goal.returns-in-0-to-127
returns-in-0-to-127 c =
    let a = c.args in
    c.up-in-0-to-127.ensures ∙ rw c.bits-in-0-to-127.ensures.0 (row-00 a.b a.v (omega arith))

pub returns-in-128-to-191 : goal.returns-in-128-to-191
returns-in-128-to-191 c =
    let a = c.args in
    c.pop.ensures ∙ rw (c.bits-in-128-to-191.ensures.0, c.bit.ensures, bit-number 13 a.v) (row-80 a.b a.v (omega arith) (omega arith))

pub returns-in-192-to-207 : goal.returns-in-192-to-207
returns-in-192-to-207 c =
    let a = c.args in
    c.sp_from.ensures ∙ rw c.bits-in-192-to-207.ensures.0 (row-C0 a.b a.v (omega arith) (omega arith))

pub returns-in-208-to-215 : goal.returns-in-208-to-215
returns-in-208-to-215 c =
    let a = c.args in
    let x = 4 + c.bits-in-208-to-215.result in
    let l = c.from_r4.ensures.0 ∙ sym (from-r4 x (omega arith) (omega arith)) in
    c.pop-in-208-to-215.ensures ∙ rw (l, c.bits-in-208-to-215.ensures.0, c.bit-in-208-to-215.ensures, bit-number 2 a.v) (row-D0 a.b a.v (omega arith) (omega arith))

pub returns-in-216-to-223 : goal.returns-in-216-to-223
returns-in-216-to-223 c =
    let a = c.args in
    let x = 8 + c.bits-in-216-to-223.result in
    let l = c.from_r4-in-216-to-223.ensures.0 ∙ sym (from-r4 x (omega arith) (omega arith)) in
    c.pop-in-216-to-223.ensures ∙ rw (l, c.bits-in-216-to-223.ensures.0, c.bit-in-216-to-223.ensures, bit-number 2 a.v) (row-D8 a.b a.v (omega arith) (omega arith))

pub returns-in-224-to-231 : goal.returns-in-224-to-231
returns-in-224-to-231 c =
    let a = c.args in
    let h : 8 ≤ 8 + c.bits-in-224-to-231.result = omega arith in
    rw (le-leb _ _ h) at c.vpop-in-224-to-231.ensures ∙ rw c.bits-in-224-to-231.ensures.0 (row-E0 a.b a.v (omega arith) (omega arith))

pub returns-in-232-to-235 : goal.returns-in-232-to-235
returns-in-232-to-235 c =
    let a = c.args in
    c.up-in-232-to-235.ensures ∙ rw c.bits-in-232-to-235.ensures.0 (row-E8 a.b a.v (omega arith) (omega arith))

pub returns-in-236-to-237 : goal.returns-in-236-to-237
returns-in-236-to-237 c =
    let a = c.args in
    c.pop-in-236-to-237.ensures ∙ rw (c.bits-in-236-to-237.ensures.0, c.bit-in-236-to-237.ensures, bit-number 8 a.v) (row-EC a.b a.v (omega arith) (omega arith))

pub returns-in_default : goal.returns-in_default
returns-in_default c = let a = c.args in row-EE a.b a.v (omega arith) (omega arith) (λ e. omega arith)

pub returns-in-251 : goal.returns-in-251
returns-in-251 c =
    let a = c.args in
    let r = c.in-251.in_default-own.rest in
    let l6 = past 0xF5 a.b c.in-251.if-b-lt245-own.false r.0.0.0.1 in
    let l8 = past 0xF7 a.b (past 0xF6 a.b l6 r.0.0.1) (λ e. r.0.1 (inl e)) in
    let la = past 0xF9 a.b (past 0xF8 a.b l8 (λ e. r.1 (inl e))) (λ e. r.0.1 (inr e)) in
    row-FB a.b a.v (past 0xFA a.b la (λ e. r.1 (inr e))) c.in-251.if-b-lt253-own.true

pub returns-in-253 : goal.returns-in-253
returns-in-253 c = let a = c.args in row-FD a.b a.v (omega arith) (omega arith)
