-- The listing of a report with each frame's regions under its line (RULES 8.14 to 8.17):
--
--   frame pc sp place
--   0 0040101a 00020000 body
--     - 00001010 00001016 00003001 00001070
--     * 00001018 00001030 00003001 00001080
--       * 0000101a 00001020 00003009 00001090
--   1 00402010 00020014 body
--   end frames 2 codes 2
use Rattle.std.specs.Prelude.{ℕ, ◌+◌, ◌-◌, List, [], ◌∷◌, ◌++◌, eqb, if◌then◌else◌, Option}
use Rattle.words.specs.Bits.{bits}
use Rattle.words.specs.declared.Place.{Place}
use Rattle.words.specs.declared.Place.TheVariants.{Leaf, Prologue, Body, Epilogue}
use Rattle.words.specs.Answer.{Res, either, maybe}
use Rattle.pdata.specs.declared.Entry.{Entry}
use Rattle.pdata.specs.Pdata.{find}
use Rattle.frame.specs.Frame.{Inputs}
use Rattle.walking.specs.Walk.{Trail, walk}
use Rattle.walking.specs.declared.Frame.{Frame}
use Rattle.report.specs.Report.{report}
use Rattle.text.specs.Text.{text}
use Rattle.listing.specs.Listing.{refused_text, frame_line, last_line}
use Rattle.regions.specs.Table.{Listed, listed, regions_of}
use Rattle.region_text.specs.RegionText.{regions_text}

-- the regions of a .pdata record: a packed one has none (RULES 2.2)
abbrev pub regions_by : Inputs → Entry → Listed
regions_by t e = if eqb (bits 0 2 e.word) 0 then regions_of t.xdata e.word else listed []

-- of the record found for a pc
abbrev pub regions_found : Inputs → Res (Option Entry) → Listed
regions_found t found = either found (λ r. listed []) (λ e. maybe e (listed []) (regions_by t))

-- of the record that covers a frame that was listed: at every place but a leaf it is the one found (RULES 5.2, 8.14)
abbrev pub regions_at : Inputs → (pc : ℕ) → Place → Listed
regions_at t pc Leaf = listed []
regions_at t pc Prologue = regions_found t (find t.image t.pdata pc)
regions_at t pc Body = regions_found t (find t.image t.pdata pc)
regions_at t pc Epilogue = regions_found t (find t.image t.pdata pc)

-- their text, for the frame's pc as an RVA (RULES 8.16)
abbrev pub region_lines : Inputs → Frame → List ℕ
region_lines t f = regions_text (f.pc - t.image) (regions_at t f.pc f.place)

abbrev pub outlined_frame : Inputs → ℕ → Frame → List ℕ
outlined_frame t n f = frame_line n f ++ region_lines t f

-- the frames, the first of which has this number
unfoldable pub outlined_frames : Inputs → ℕ → List Frame → List ℕ
outlined_frames t n [] = []
outlined_frames t n (f ∷ fs) = outlined_frame t n f ++ outlined_frames t (n + 1) fs

abbrev pub heading : List ℕ
heading = text "frame pc sp place\n"

unfoldable pub outlined_walk : Inputs → Trail → List ℕ
outlined_walk t w = heading ++ outlined_frames t 0 w.frames ++ last_line w

-- a report's bytes in, the outline out
unfoldable pub outlined : List ℕ → List ℕ
outlined s = either (report s) (λ r. refused_text r ++ text "\n") (λ p. outlined_walk p.inputs (walk p.inputs 256 p.regs))
