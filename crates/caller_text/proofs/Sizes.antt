-- The largest text of a caller: how much room the caller program needs.
-- Assumes nothing.
use Rattle.std.specs.Prelude.{Ok, Err}
use Prim.Native.Nat.{ℕ, ◌≤◌}
use mathlib.Core.Path.{◌≡◌, refl}
use mathlib.Core.List.{List, ◌++◌}
use lib.ListN.{length, length-append}
use native.Mathlib.Omega.{arith}
use Rattle.words.specs.Answer.{Res, either}
use Rattle.machine.specs.declared.Regs.{Regs}
use Rattle.frame.specs.Frame.{frame, unwound}
use Rattle.frame.specs.declared.Told.{Told}
use Rattle.frame.specs.declared.Unwound.{Unwound}
use Rattle.text.specs.Text.{text, digits, decimal_length, numbered}
use Rattle.text.proofs.Numbers.{decimal-limit, hex8-length}
use Rattle.report.specs.Report.{Report, report}
use Rattle.listing.specs.Listing.{refused_text}
use Rattle.listing.proofs.Sizes.{place-length, refused-length}
use Rattle.caller_text.specs.CallerText.{regs_text, told_text, unwound_text, caller_text}

-- the pieces of the caller's text: every register takes as much as any
regs-length : (g : Regs) → length (regs_text g) ≡ 857
unfolding regs_text numbered digits decimal_length
regs-length g = refl

told-length : (x : Res Told) → length (told_text x) ≤ 66
told-length (Ok c) =
    simp length-append (omega (arith, place-length c.place, hex8-length c.handler, decimal-limit c.codes))
told-length (Err r) = omega (arith, refused-length r)

unwound-length : (u : Unwound) → length (unwound_text u) ≤ 1024
unfolding unwound_text
unwound-length u = simp length-append (omega (arith, told-length u.told, regs-length u.regs))

-- the largest text of a caller
pub caller-fits : (s : List ℕ) → length (caller_text s) ≤ 1024
unfolding caller_text
caller-fits s = go (report s)
  where
    go : (r : Res Report) → length (either r (λ x. refused_text x ++ text "\n") (λ p. unwound_text (unwound p.regs (frame p.inputs p.regs)))) ≤ 1024
    go (Ok p) = unwound-length (unwound p.regs (frame p.inputs p.regs))
    go (Err r) = simp length-append (omega (arith, refused-length r))
