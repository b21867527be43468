-- What the parts of a report come to as a listing.
-- Assumes nothing.
use Rattle.std.specs.Prelude.{Ok, Err}
use Prim.Native.Nat.{ℕ, ◌≤◌}
use mathlib.Core.Path.{◌≡◌, refl}
use mathlib.Core.List.{List, ◌++◌}
use lib.ListN.{length}
use native.Mathlib.Omega.{arith}
use Rattle.words.specs.declared.Refusal.{Refusal}
use Rattle.walking.specs.Walk.{walk}
use Rattle.report.specs.Report.{Report, report}
use Rattle.text.specs.Text.{text}
use Rattle.listing.specs.Listing.{refused_text, printed, listing}
use Rattle.text.specs.Overlay.{overlay, Laid}
use Rattle.text.proofs.Overlaid.{from_start}
use Rattle.listing.proofs.Sizes.{listing-fits}

-- the listing of a report that was read, and of one that was refused
pub listing-given : (s : List ℕ) {p : Report} → report s ≡ Ok p → printed (walk p.inputs 256 p.regs) ≡ listing s
unfolding listing
listing-given s e = rw e refl

pub listing-refused : (s : List ℕ) {r : Refusal} → report s ≡ Err r → refused_text r ++ text "\n" ≡ listing s
unfolding listing
listing-refused s e = rw e refl

-- a listing laid from the buffer's start, as the contract says it
pub listed : (s : List ℕ) {b o : List ℕ} {r : ℕ} → Laid b 0 (listing s) r o → ((r ≡ length (listing s)) × (o ≡ overlay b 0 (listing s))) × (r ≤ 8192)
listed s h =
    let f = listing-fits s in
    let e = from_start (omega arith) h in
    (e, omega arith)
