-- Parts laid one behind the other are the outline: what holds wherever a part begins, how a part keeps it, and what it says at the end.
-- Assumes nothing.
use Rattle.std.specs.Prelude.{None, Some, Ok, Err}
use Prim.Native.Nat.{ℕ, ◌-◌, ◌^◌, ◌<◌}
use mathlib.Core.Path.{◌≡◌, refl, sym, ap, ◌∙◌, subst}
use mathlib.Core.List.{List, [], ◌++◌, append_assoc, append-nil, flatten}
use lib.ListN.{length}
use native.Mathlib.Omega.{arith}
use Rattle.words.specs.declared.Refusal.{Refusal}
use Rattle.report.specs.declared.Parts.{Parts}
use Rattle.report.specs.AsCoded.Parts.{inputs_in, Lie}
use Rattle.text.specs.Text.{text}
use Rattle.text.specs.Overlay.{Laid}
use Rattle.text.proofs.Overlaid.{none, joined, laid_as}
use Rattle.listing.specs.Listing.{refused_text}
use Rattle.outlining.specs.declared.At.{At}
use Rattle.outlining.specs.declared.Part.{Part}
use Rattle.outlining.specs.Outlined.{outlined}
use Rattle.outlining.specs.AsCoded.Parts.{parts_at, standing_at, inputs_at, Stands, Follows, Ready, Writes, begun_at}
use Rattle.outlining.proofs.Beginning.{begun-given, begun-refused}
use Rattle.outlining.proofs.Parting.{parts-outlined}

-- the text of the parts that are left
abbrev left : List ℕ → At → List ℕ
left file s = flatten (parts_at (inputs_at file s) (standing_at s))

-- the text laid so far, and that of the parts that are left, are the text of all
pub record Laying (file : List ℕ) (a : At) (b : List ℕ) (s : At) (next : ℕ) (o : List ℕ) : Type 0 where
  pub done : List ℕ
  pub laid : Laid b 0 done next o
  pub rest : done ++ left file s ≡ left file a
  pub ready : Ready file s

pub laying-begins : (file : List ℕ) (a : At) (b : List ℕ) → Ready file a → length b < 2 ^ 64 → Laying file a b a 0 b
laying-begins file a b h l = record { done = []; laid = none b 0 (omega arith) l; rest = refl; ready = h }

-- where the next part begins, it may rest on the same, and fewer frames are left
pub next-ready : (file : List ℕ) (s n : At) → Ready file s → Follows (inputs_at file s) s n → Ready file n
next-ready file s n h f = record { lie = subst (Lie file) (sym f.same) h.lie; stands = subst (λ (p : Parts). Stands (inputs_in file p) n) (sym f.same) f.stands }

pub part-less : (file : List ℕ) (s n : At) → Ready file s → Follows (inputs_at file s) s n → 257 - n.frames < 257 - s.frames
part-less file s n h f = omega (arith, f.further, h.stands.room)

module _ (file : List ℕ) (a : At) (b : List ℕ) (s : At) (next : ℕ) (o : List ℕ) (h : Laying file a b s next o) (r : Part) (u : List ℕ) (w : Writes file s o next r u) where
  -- another part follows
  pub laying-turn : (n : At) → r.next ≡ Some n → Laying file a b n r.place u
  unfolding flatten
  laying-turn n q =
      let f : Follows (inputs_at file s) s n = rw q at w.follows in
      let same : flatten (parts_at (inputs_at file s) (standing_at n)) ≡ left file n = ap (λ (p : Parts). flatten (parts_at (inputs_in file p) (standing_at n))) (sym f.same) in
      record {
        done = h.done ++ w.part;
        laid = joined h.laid w.laid;
        rest = append_assoc h.done w.part (left file n) ∙ ap (λ t. h.done ++ t) (ap (λ t. w.part ++ t) (sym same) ∙ sym (ap flatten (rw q at w.parts))) ∙ h.rest;
        ready = next-ready file s n h.ready f;
      }

  -- it was the last
  pub laying-done : r.next ≡ None → Laid b 0 (left file a) r.place u
  unfolding flatten
  laying-done q =
      laid_as (ap (λ t. h.done ++ t) (sym (append-nil w.part) ∙ sym (ap flatten (rw q at w.parts))) ∙ h.rest) (joined h.laid w.laid)

-- what was read of a report: the text of all parts is the outline; where it is refused, the refusal is
pub outline-given : (file : List ℕ) (a : At) → Ok a ≡ begun_at file → left file a ≡ outlined file
outline-given file a e = ap flatten (sym (begun-given file a e)) ∙ parts-outlined file

pub outline-refused : (file : List ℕ) (r : Refusal) → Err r ≡ begun_at file → refused_text r ++ text "\n" ≡ outlined file
unfolding flatten
outline-refused file r e = sym (append-nil (refused_text r ++ text "\n")) ∙ ap flatten (sym (begun-refused file r e)) ∙ parts-outlined file
