-- Prologues and epilogues compared in one pass over their codes, as the code does it. That this is comparing the items in turn are laws
-- (`prologue-compared`, `epilogue-compared` of proofs/Comparing.antt).
use Rattle.std.specs.Prelude.{ℕ, ◌+◌, List, [], ◌∷◌, Bool, false, ◌||◌, eqb, if◌then◌else◌, Ok, Err}
use Rattle.words.specs.Answer.{Res}
use Rattle.unwinding.specs.CodeList.{total}
use Rattle.thumb.specs.Instruction.{instruction_at}
use Rattle.expected.specs.Expected.{before, after, ending, meets}
use Rattle.comparing.specs.Items.{Coded, size_of, Compared, differs}
use Rattle.expected.specs.declared.Expected.{Expected}

-- the list ends in FF
abbrev pub returns_here : Res ℕ → Bool
returns_here (Ok e) = eqb e 0
returns_here (Err r) = false

abbrev pub last_of : (behind : List Coded) → (ending : Res ℕ) → Bool
last_of [] r = returns_here r
last_of (c ∷ cs) r = false

-- the first of two, the first of which may have found none
abbrev pub or_else : Compared → Compared → Compared
or_else (Ok u) d = d
or_else (Err e) d = Err e

module _ (s : List ℕ) where
  abbrev pub test : (offset : ℕ) → Expected → Bool
  test o e = meets e (instruction_at s o)

  -- a prologue's codes from the last instruction to the first: the last misfit met is the first one
  unfoldable pub prologue_pass : List Coded → (found : Compared) → Compared
  prologue_pass [] found = found
  prologue_pass (c ∷ cs) found = prologue_pass cs (if test (total size_of cs) (before c.first c.code) then found else differs (total size_of cs))

  -- an epilogue's codes from the first instruction on; nothing is expected behind what is no code
  abbrev pub end_pass : (offset : ℕ) → Res ℕ → Compared
  end_pass o (Ok e) = if eqb e 0 || test o (ending e) then Ok tt else differs o
  end_pass o (Err r) = Ok tt

  unfoldable pub epilogue_pass : (offset : ℕ) → List Coded → (ending : Res ℕ) → Compared
  epilogue_pass o [] r = end_pass o r
  epilogue_pass o (c ∷ cs) r =
      let further = epilogue_pass (o + size_of c) cs r in
      if test o (after (last_of cs r) c.code) then further else differs o
