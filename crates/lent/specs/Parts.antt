-- Whether bytes are the same, and the parts of a file's bytes.
use Rattle.std.specs.Prelude.{ℕ, ◌-◌, List, [], ◌∷◌, Bool, true, false, ◌&&◌, take, drop, eqb}

abbrev pub same : List ℕ → List ℕ → Bool
same [] [] = true
same [] (b ∷ t) = false
same (a ∷ s) [] = false
same (a ∷ s) (b ∷ t) = eqb a b && same s t

-- n bytes from a place of a file
abbrev pub part : List ℕ → (at n : ℕ) → List ℕ
part s a n = take n (drop a s)

-- the bytes from one place of a file up to another
abbrev pub between : List ℕ → (from to : ℕ) → List ℕ
between s a e = part s a (e - a)
