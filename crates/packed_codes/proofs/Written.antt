-- What the code writer has written: both lists, then zeros, and both lengths.
-- Assumes nothing.
use Rattle.std.specs.Prelude.{Ok, Err}
use Prim.Native.Nat.{ℕ, ◌+◌, ◌-◌, ◌≤◌}
use mathlib.Core.Path.{◌≡◌, refl, sym, ap, ◌∙◌}
use mathlib.Core.List.{[], ◌++◌}
use mathlib.Core.Bool.{true, false}
use lib.ListN.{length, take, replicate, length-append}
use native.Mathlib.Omega.{arith}
use Rattle.words.specs.Units.{code_bytes}
use Rattle.words.specs.declared.Refusal.TheVariants.{Reserved}
use Rattle.packed.specs.Packed.{fields, allowed}
use Rattle.packed_codes.specs.PackedCodes.{first_list, second_list, written, write_codes}
use Rattle.packed.specs.declared.Packed.{Packed}
use Rattle.packed_codes.specs.declared.Out.{Out}
use Rattle.packed_codes.specs.AsCoded.Out.{blank, puts}
use Rattle.packed_codes.proofs.Buffer.{holding, puts-holding, holding-bytes}
use Rattle.packed_codes.proofs.Lengths.{lists-fit}

pub codes-refused : (w : ℕ) → allowed (fields w) ≡ false → write_codes w ≡ Err Reserved
unfolding write_codes
codes-refused w h = rw h refl

pub codes-given : (w : ℕ) → allowed (fields w) ≡ true → write_codes w ≡ Ok (written (fields w))
unfolding write_codes
codes-given w h = rw h refl

-- both lists on a blank
module _ (p : Packed) (one two : Out) (e : one ≡ puts blank (first_list p)) (f : two ≡ puts one (second_list p)) where
  pub first_out : one ≡ holding (first_list p)
  first_out = e ∙ puts-holding [] (first_list p) (omega (arith, lists-fit p))

  pub second-out : two ≡ holding (first_list p ++ second_list p)
  second-out = f ∙ ap (λ o. puts o (second_list p)) first_out ∙ puts-holding (first_list p) (second_list p) (lists-fit p)

  lengths : two.len ≡ one.len + length (second_list p)
  lengths = ap (λ (o : Out). o.len) second-out ∙ length-append (first_list p) (second_list p) ∙ ap (λ n. n + length (second_list p)) (sym (ap (λ (o : Out). o.len) first_out))

  pub second-longer : one.len ≤ two.len
  second-longer = omega (arith, lengths)

  pub codes-written :
      record { bytes = two.bytes; first = code_bytes one.len; second = code_bytes (two.len - one.len) } ≡ written p
  codes-written =
      let all : two.bytes ≡ take 16 (first_list p ++ second_list p ++ replicate 16 0) = ap (λ (o : Out). o.bytes) second-out ∙ sym (holding-bytes (first_list p ++ second_list p) (omega (arith, length-append (first_list p) (second_list p), lists-fit p))) in
      let second : two.len - one.len ≡ length (second_list p) = omega (arith, lengths) in
      λ i. record { bytes = all i; first = code_bytes (first_out i).len; second = code_bytes (second i) }
