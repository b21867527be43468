-- A record that passes 6 and 7: its codes from index 0, its prologue's size (RULES 5.3) and its epilogues (RULES 5.4).
use Rattle.std.specs.Prelude.{ℕ, ◌+◌, min, max, List, [], ◌∷◌, map, Bool, true, ◌&&◌, not, leb, ltb, if◌then◌else◌, Ok}
use Rattle.words.specs.declared.CodeBytes.{CodeBytes}
use Rattle.words.specs.Units.{code_bytes}
use Rattle.words.specs.declared.Refusal.TheVariants.{BadLayout}
use Rattle.words.specs.Answer.{Res, ◌>>=◌, ◌>>◌, need}
use Rattle.unwinding.specs.CodeList.{Codes, total}
use Rattle.unwinding.specs.Shape.{Shape, start_of}
use Rattle.unwinding.specs.declared.Scope.{Scope}

-- an epilogue with its codes: it takes the bytes from `start` up to `start + size`
pub record EpilogueOf (C : Type 0) : Type 0 where
  pub start : ℕ
  pub size : ℕ
  pub condition : ℕ
  pub codes : Codes C

pub record View (C : Type 0) : Type 0 where
  pub codes : Codes C
  pub prologue : ℕ
  pub epilogues : List (EpilogueOf C)

-- the bytes from one offset up to another
pub record Stretch : Type 0 where
  pub from : ℕ
  pub to : ℕ

abbrev pub stretch : {C : Type 0} → EpilogueOf C → Stretch
stretch e = record { from = e.start; to = e.start + e.size }

-- an empty stretch shares nothing (RULES 5.5)
abbrev pub shared : Stretch → Stretch → Bool
shared a b = ltb (max a.from b.from) (min a.to b.to)

abbrev pub inside : ℕ → List Stretch → Bool
inside span [] = true
inside span (a ∷ rest) = leb a.to span && inside span rest

abbrev pub apart : Stretch → List Stretch → Bool
apart a [] = true
apart a (b ∷ rest) = not (shared a b) && apart a rest

abbrev pub all_apart : List Stretch → Bool
all_apart [] = true
all_apart (a ∷ rest) = apart a rest && all_apart rest

abbrev pub ascending : List ℕ → Bool
ascending [] = true
ascending (a ∷ []) = true
ascending (a ∷ b ∷ rest) = ltb a b && ascending (b ∷ rest)

-- what 7 asks: all inside the function, the starts of the epilogues rising, no two with a byte in common (RULES 5.5, 9.7)
abbrev pub fits : {C : Type 0} → (span prologue : ℕ) → List (EpilogueOf C) → Bool
fits span p es =
    let all : List Stretch = record { from = 0; to = p } ∷ map stretch es in
    inside span all && ascending (map (λ e. e.start) es) && all_apart all

-- a machine's codes have sizes, and are read from code bytes at an index, or refused by 6
module _ {C : Type 0} (size : C → ℕ) (read : List ℕ → CodeBytes → Res (Codes C)) where
  unfoldable pub epilogues : Shape → List Scope → Res (List (EpilogueOf C))
  epilogues s [] = Ok []
  epilogues s (e ∷ es) = do
    c ← read s.codes e.index
    rest ← epilogues s es
    let n = total size c.list + c.end_size
    Ok (record { start = start_of e.start s.span n; size = n; condition = e.condition; codes = c } ∷ rest)

  -- 6 before 7: every code list is read before the layout is looked at (RULES 9.54). The end code adds nothing to a prologue (RULES 3.4)
  unfoldable pub view : Shape → Res (View C)
  view s = do
    c ← read s.codes (code_bytes 0)
    es ← epilogues s s.scopes
    let p = if s.fragment then 0 else total size c.list
    need (fits s.span p es) BadLayout
    Ok (record { codes = c; prologue = p; epilogues = es })
