-- One code without what it undoes. That an entry's sort and a second byte say it are laws (`by_kind`, `by-second` of proofs/Sorts.antt).
use Rattle.std.specs.Prelude.{ℕ, ◌/◌, ◌%◌, Bool, leb, eqb, if◌then◌else◌}
use Rattle.codes.specs.declared.Code.{Code}
use Rattle.words.specs.declared.Halfwords.{Halfwords}
use Rattle.codes.specs.declared.Taken.{Taken}
use Rattle.codes.specs.declared.Taken.TheVariants as T
use Rattle.codes.specs.declared.Taken.TheVariants.{One, Last, Bad}

abbrev pub sized : Taken Code → Taken Halfwords
sized (T.One c next) = One c.size next
sized (T.Last n) = Last n
sized (T.Bad i) = Bad i

-- a second byte that its code's sort allows
abbrev pub fitting : (sort second : ℕ) → Bool
fitting s x = if eqb s 3 then eqb (x / 16) 0 else leb (x / 16) (x % 16)
