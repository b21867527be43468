-- To unfold `opened` is to unfold every definition of this crate and of those below it: for examples that compute.
use Rattle.walking.proofs.Opened as Walking
use Rattle.text.proofs.Opened as Text
use Rattle.report.specs.Report.{words32, words64, report}
use Rattle.listing.specs.Listing.{frame_lines, printed, listing}

unfoldable pub opened : Unit {0}
unfolding Walking.opened Text.opened words32 words64 report frame_lines printed listing
opened = tt
