-- What a turn of the walk prints. That the turns print the listing is a law (`printing-on`, `printing-ends` of proofs/Printing.antt).
use Rattle.std.specs.Prelude.{ℕ, List, Result, Ok, Err}
use Rattle.walking.specs.declared.Standing.{Standing}
use Rattle.walking.specs.declared.Going.{Going}
use Rattle.walking.specs.declared.Stop.{Stop}
use Rattle.listing.specs.Listing.{frame_line, last_of}

abbrev pub turn_text : Standing → Result Going Stop → List ℕ
turn_text s (Ok x) = frame_line s.frames x.frame
turn_text s (Err stop) = last_of stop s.frames s.codes
