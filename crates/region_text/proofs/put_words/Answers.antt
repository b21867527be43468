-- One text after another.
-- Assumes nothing.
use Prim.Native.Nat.{ℕ}
use mathlib.Core.Path.{◌≡◌}
use mathlib.Core.List.{List, ◌++◌, append_assoc}
use Rattle.text.specs.Text.{text, hex8, addresses}
use Rattle.text.proofs.Overlaid.{joined, laid_as}
use Rattle.region_text.specs.RegionText.{mark}
use Rattle.region_text.proofs.put_words.Goals as goal

-- the addresses behind a text, piece by piece
behind : (s : List ℕ) (b e : ℕ) → s ++ addresses b e ≡ s ++ text " " ++ hex8 b ++ text " " ++ hex8 e ++ text " "
behind s b e = simp append_assoc

pub returns : goal.returns
returns c =
    let a = c.args in
    let marked = laid_as c.mark_of.ensures c.put_byte-next.ensures in
    let words = joined marked c.put_addresses-next.ensures in
    let range = laid_as (behind (mark a.rva a.r) a.r.begin a.r.end) words in
    let handler = joined (joined range c.put_hex8-next.ensures) c.put_byte-next-2.ensures in
    joined (joined handler c.put_hex8-next-2.ensures) c.put_byte.ensures
