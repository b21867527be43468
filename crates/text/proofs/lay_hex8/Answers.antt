-- The four digits above and the last four.
-- Assumes nothing.
use Prim.Native.Nat.{ℕ, ◌+◌, ◌/◌}
use mathlib.Core.Path.{◌≡◌, sym, ap, ◌∙◌}
use mathlib.Core.List.{List, []}
use native.Mathlib.Omega.{arith}
use Rattle.text.specs.Text.{digits, hex8}
use Rattle.text.specs.Overlay.{overlay}
use Rattle.text.proofs.Overlaid.{overlay-append, fitted}
use Rattle.text.proofs.Numbers.{hex8-length}
use Rattle.text.proofs.lay_hex8.Goals as goal

-- four digits after four are eight
halves :
    (b : List ℕ) (i v : ℕ)
    → overlay (overlay b i (digits 16 4 (v / 16 / 16 / 16 / 16) [])) (i + 4) (digits 16 4 v []) ≡ overlay b i (hex8 v)
unfolding digits
halves b i v = sym (overlay-append b i (digits 16 4 (v / 16 / 16 / 16 / 16) []) (digits 16 4 v []))

pub returns : goal.returns
returns c =
    let a = c.args in
    fitted (omega (arith, hex8-length a.value)) (omega arith) (omega arith)
    (c.lay_hex4-2.ensures ∙ ap (λ x. overlay x (a.at + 4) (digits 16 4 a.value [])) c.lay_hex4.ensures ∙ halves a.out.now a.at a.value)
