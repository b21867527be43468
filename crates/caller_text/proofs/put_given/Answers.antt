-- One text after another; the space behind the place's name is laid with it.
-- Assumes nothing.
use mathlib.Core.List.{◌++◌, append_assoc}
use Rattle.text.specs.Text.{text, decimal}
use Rattle.text.proofs.Overlaid.{joined, joined-two, laid_as}
use Rattle.listing.specs.Listing.{place_name}
use Rattle.caller_text.proofs.put_given.Goals as goal

pub returns : goal.returns
returns c =
    let a = c.args in
    let name = text (place_name a.place) in
    let space = text " " in
    joined-two (text " codes ") (decimal a.codes) (joined (laid_as (append_assoc (text "caller place " ++ name) space (text "handler ")) (joined (joined-two name space c.put_text-next.ensures c.put_place-next.ensures) c.put_text-next-2.ensures)) c.put_hex8-next.ensures) c.put_count.ensures
