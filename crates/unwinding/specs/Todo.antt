-- Where an offset stands in a record (RULES 5.6), and which codes are left to undo there (RULES 5.7 to 5.9).
use Rattle.std.specs.Prelude.{ℕ, ◌+◌, ◌-◌, List, [], ◌∷◌, Bool, ◌&&◌, leb, ltb, if◌then◌else◌, Ok, Err}
use Rattle.words.specs.declared.Place.{Place}
use Rattle.words.specs.declared.Place.TheVariants.{Prologue, Body, Epilogue}
use Rattle.words.specs.declared.Refusal.TheVariants.{InsideInstruction, Conditional}
use Rattle.words.specs.Answer.{Res, ◌>>=◌, ◌>>◌, need, maybe}
use Rattle.unwinding.specs.CodeList.{end_of}
use Rattle.unwinding.specs.View.{EpilogueOf, View}

pub record Todo (C : Type 0) : Type 0 where
  pub place : Place
  pub codes : List C

module _ {C : Type 0} (size : C → ℕ) where
  -- the codes whose instructions, with `after` bytes behind them, take n bytes; 9 where n ends inside an instruction
  unfoldable pub left : Place → (after n : ℕ) → List C → Res (Todo C)
  left p after n cs = maybe (end_of size after n cs) (Err InsideInstruction) (λ l. Ok (record { place = p; codes = l }))

-- `may`: whether an epilogue of a condition may be executing; 10 if not
module _ {C : Type 0} (size : C → ℕ) (may : (condition : ℕ) → Bool) where
  -- inside an epilogue: 9 before 10 (RULES 9.54)
  unfoldable pub in_epilogue : EpilogueOf C → (offset : ℕ) → Res (Todo C)
  in_epilogue e o = do
    t ← left size Epilogue e.codes.end_size (e.start + e.size - o) e.codes.list
    need (may e.condition) Conditional
    Ok t

  -- in the epilogue that the offset falls into, else in the body
  unfoldable pub in_epilogues : List (EpilogueOf C) → (offset : ℕ) → (body : List C) → Res (Todo C)
  in_epilogues [] o cs = Ok (record { place = Body; codes = cs })
  in_epilogues (e ∷ es) o cs =
      let further = in_epilogues es o cs in
      if leb e.start o && ltb o (e.start + e.size) then in_epilogue e o else further

  unfoldable pub todo : View C → (offset : ℕ) → Res (Todo C)
  todo v o =
      if ltb o v.prologue then left size Prologue 0 o v.codes.list else in_epilogues v.epilogues o v.codes.list
