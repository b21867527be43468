-- To unfold `opened` is to unfold every definition of this crate: for examples that compute.
use Rattle.text.specs.Text.{digits, decimal_length, numbered}
use Rattle.text.specs.Overlay.{overlay}

unfoldable pub opened : Unit {0}
unfolding digits decimal_length numbered overlay
opened = tt
