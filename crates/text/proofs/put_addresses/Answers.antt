-- Where there is room they are laid, else one text after another.
-- Assumes nothing.
use Prim.Native.Nat.{◌+◌, ◌≤◌}
use lib.ListN.{length}
use native.Mathlib.Omega.{arith}
use borrow.Author.Tests.{leb-true}
use Rattle.text.proofs.Overlaid.{joined}
use Rattle.text.proofs.put_addresses.Goals as goal

pub lay_addresses-requires : goal.lay_addresses-requires
lay_addresses-requires c =
    let a = c.args in
    let h : a.at + 19 ≤ length a.out.now = omega (arith, leb-true) in
    h

pub returns : goal.returns
returns c =
    joined (joined (joined (joined c.put_byte-next.ensures c.put_hex8-next.ensures) c.put_byte-next-2.ensures) c.put_hex8-next-2.ensures) c.put_byte.ensures
