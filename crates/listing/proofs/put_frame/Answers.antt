-- One text after another.
-- Assumes nothing.
use Prim.Native.Nat.{ℕ}
use mathlib.Core.Path.{◌≡◌}
use mathlib.Core.List.{List, ◌++◌, append_assoc}
use Rattle.text.specs.Text.{text, decimal, hex8, addresses}
use Rattle.text.proofs.Overlaid.{joined, joined-two, laid_as}
use Rattle.listing.specs.Listing.{place_name}
use Rattle.listing.proofs.put_frame.Goals as goal

-- the addresses behind a text, piece by piece
behind : (s : List ℕ) (pc sp : ℕ) → s ++ addresses pc sp ≡ s ++ text " " ++ hex8 pc ++ text " " ++ hex8 sp ++ text " "
behind s pc sp = simp append_assoc

pub returns : goal.returns
returns c =
    let a = c.args in
    joined-two (text (place_name a.frame.place)) (text "\n")
    (laid_as (behind (decimal a.number) a.frame.pc a.frame.sp) (joined c.put_decimal-next.ensures c.put_addresses-next.ensures))
    c.put_place.ensures
