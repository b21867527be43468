-- What the caller program prints of a report that was read, and of one that was refused.
-- Assumes nothing.
use Rattle.std.specs.Prelude.{Ok, Err}
use Prim.Native.Nat.{ℕ, ◌≤◌}
use mathlib.Core.Path.{◌≡◌, refl}
use mathlib.Core.List.{List, ◌++◌}
use lib.ListN.{length}
use native.Mathlib.Omega.{arith}
use Rattle.words.specs.declared.Refusal.{Refusal}
use Rattle.frame.specs.Frame.{frame, unwound}
use Rattle.report.specs.Report.{Report, report}
use Rattle.text.specs.Text.{text}
use Rattle.listing.specs.Listing.{refused_text}
use Rattle.text.specs.Overlay.{overlay, Laid}
use Rattle.text.proofs.Overlaid.{from_start}
use Rattle.caller_text.specs.CallerText.{unwound_text, caller_text}
use Rattle.caller_text.proofs.Sizes.{caller-fits}

pub shown-given : (s : List ℕ) {p : Report} → report s ≡ Ok p → unwound_text (unwound p.regs (frame p.inputs p.regs)) ≡ caller_text s
unfolding caller_text
shown-given s e = rw e refl

pub shown-refused : (s : List ℕ) {r : Refusal} → report s ≡ Err r → refused_text r ++ text "\n" ≡ caller_text s
unfolding caller_text
shown-refused s e = rw e refl

-- a text laid from the buffer's start, as the contract says it
pub shown : (s : List ℕ) {b o : List ℕ} {r : ℕ} → Laid b 0 (caller_text s) r o → ((r ≡ length (caller_text s)) × (o ≡ overlay b 0 (caller_text s))) × (r ≤ 1024)
shown s h =
    let f = caller-fits s in
    let e = from_start (omega arith) h in
    (e, omega arith)
