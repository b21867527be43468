-- The text that a program makes of a report (RULES 8.3, 8.6, 8.8).
use Rattle.std.specs.Prelude.{ℕ, List}
use Rattle.listing.specs.Listing.{listing}
use Rattle.caller_text.specs.CallerText.{caller_text}
use Rattle.programs.specs.declared.Text.{Text}
use Rattle.programs.specs.declared.Text.TheVariants.{Listing, Caller}

abbrev pub text_of : Text → List ℕ → List ℕ
text_of Listing s = listing s
text_of Caller s = caller_text s
