-- The invariant: what the codes that are left come to, from the offset that was reached, is what all come to; and offsets stay in 64 bits.
-- Assumes nothing.
use Prim.Native.Nat.{◌+◌, ◌-◌, ◌*◌, ◌^◌, ◌<◌}
use mathlib.Core.Path.{◌≡◌}
use lib.ListN.{length}
use Rattle.words.specs.Units.{code_bytes}
use Rattle.comparing.specs.Items.{scan_coded}
use Rattle.comparing.specs.AsCoded.Passes.{epilogue_pass}
use Rattle.comparing.proofs.epilogue.Given as goal

abbrev pub invariant-loop-i : goal.invariant-loop-i
invariant-loop-i l =
    (epilogue_pass l.code l.at (scan_coded l.codes (code_bytes l.i)).list (scan_coded l.codes (code_bytes l.i)).ending
    ≡ epilogue_pass l.code l.start (scan_coded l.codes (code_bytes l.initial.i)).list (scan_coded l.codes (code_bytes l.initial.i)).ending)
    × (l.at + 4 * (length l.codes - l.i) < 2 ^ 64)

abbrev pub decreases-loop-i : goal.decreases-loop-i
decreases-loop-i l = length l.codes - l.i
