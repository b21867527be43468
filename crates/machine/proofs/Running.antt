-- Running the codes from an index on: by the code that stands there, and where the code list is known.
-- Assumes nothing.
use Rattle.std.specs.Prelude.{Ok, Err}
use Prim.Native.Nat.{ℕ, ◌+◌}
use mathlib.Core.Path.{◌≡◌, refl, sym, ap, ◌∙◌}
use mathlib.Core.List.{List}
use lib.ListN.{length}
use native.Mathlib.Numerals.{add-one}
use native.Mathlib.Omega.{arith}
use Rattle.lent.specs.Lent.{Lent}
use Rattle.words.specs.declared.CodeBytes.{CodeBytes}
use Rattle.words.specs.declared.Halfwords.{Halfwords}
use Rattle.words.specs.declared.Refusal.{Refusal}
use Rattle.words.specs.declared.Refusal.TheVariants.{BadCodes}
use Rattle.words.specs.Answer.{Res, ◌>>=◌, ◌>>◌}
use Rattle.unwinding.specs.CodeList.{Codes, run}
use Rattle.words.proofs.Answers.{bind_assoc, bind-same}
use Rattle.unwinding.proofs.Running.{run-empty, run_step}
use Rattle.unwinding.specs.Taking.{Scan}
use Rattle.codes.specs.Code.{take_at, scan, codes_at}
use Rattle.codes.specs.declared.Code.{Code}
use Rattle.codes.specs.declared.Taken.TheVariants.{One, Last, Bad}
use Rattle.codes.proofs.Scanning.{scan-by}
use Rattle.machine.specs.Step.{step}
use Rattle.machine.specs.AsCoded.Run.{run_at}
use Rattle.machine.specs.declared.Regs.{Regs}

-- the codes of a scan, and then its end
abbrev through : Lent → Regs → Scan Code → Res Regs
through k g z = run (step k) z.list g >>= λ h. z.ending >> Ok h

module _ (k : Lent) (s : List ℕ) (i : CodeBytes) (g : Regs) where
  -- a run is its first code, and a run of those behind it (RULES 3.15)
  pub run-first : (c : Code) (next : CodeBytes) → take_at s i ≡ One c next → run_at k s i g ≡ (step k c g >>= λ h. run_at k s next h)
  unfolding run_at
  run-first c next e =
      ap (through k g) (scan-by s i e)
      ∙ ap (λ x. x >>= λ h. (scan s next).ending >> Ok h) (run_step (step k) c (scan s next).list g)
      ∙ bind_assoc (step k c g) (λ t. run (step k) (scan s next).list t) (λ h. (scan s next).ending >> Ok h)

  pub first-given : (c : Code) (next : CodeBytes) (h : Regs) → take_at s i ≡ One c next → step k c g ≡ Ok h → run_at k s i g ≡ run_at k s next h
  first-given c next h e f = run-first c next e ∙ ap (λ x. x >>= λ t. run_at k s next t) f

  pub first-refused : (c : Code) (next : CodeBytes) (r : Refusal) → take_at s i ≡ One c next → step k c g ≡ Err r → run_at k s i g ≡ Err r
  first-refused c next r e f = run-first c next e ∙ ap (λ x. x >>= λ t. run_at k s next t) f

  pub run-last : (n : Halfwords) → take_at s i ≡ Last n → run_at k s i g ≡ Ok g
  unfolding run_at
  run-last n e = ap (through k g) (scan-by s i e) ∙ rw (run-empty (step k) g) refl

  pub run-bad : (j : CodeBytes) → take_at s i ≡ Bad j → run_at k s i g ≡ Err (BadCodes j)
  unfolding run_at
  run-bad j e = ap (through k g) (scan-by s i e) ∙ rw (run-empty (step k) g) refl

-- the count of the codes goes the same way
pub count-first :
    (s : List ℕ) (i : CodeBytes) (c : Code) (next : CodeBytes) → take_at s i ≡ One c next
    → length (scan s i).list ≡ length (scan s next).list + 1
count-first s i c next e = ap (λ z. length z.list) (scan-by s i e) ∙ sym (add-one _)

pub count-last : (s : List ℕ) (i : CodeBytes) (n : Halfwords) → take_at s i ≡ Last n → length (scan s i).list ≡ 0
count-last s i n e = ap (λ z. length z.list) (scan-by s i e)

-- where the code bytes hold a whole code list, running them is running the list
bind_ok : {A : Type 0} (x : Res A) → (x >>= λ a. Ok a) ≡ x
bind_ok (Ok a) = refl
bind_ok (Err r) = refl

whole :
    (l : List Code) (x : Res ℕ) (c : Codes Code) → (x >>= λ n. Ok (record { list = l; end_size = n })) ≡ Ok c
    → (l ≡ c.list) × ((h : Regs) → (x >> Ok h) ≡ Ok h)
whole l (Ok n) c e = let same : record { list = l; end_size = n } ≡ c = cc in (ap (λ d. d.list) same, λ h. refl)
whole l (Err r) c e = absurd (let z : ◌≡◌ {A = ℕ} 0 1 = cc in omega arith)

module _ (s : List ℕ) (i : CodeBytes) (c : Codes Code) (e : codes_at s i ≡ Ok c) where
  codes-list : (scan s i).list ≡ c.list
  codes-list = (whole (scan s i).list (scan s i).ending c e).0

  pub run-codes : (k : Lent) (g : Regs) → run_at k s i g ≡ run (step k) c.list g
  unfolding run_at
  run-codes k g =
      let x = run (step k) (scan s i).list g in
      bind-same x (λ h. (scan s i).ending >> Ok h) (λ h. Ok h) (whole (scan s i).list (scan s i).ending c e).1
      ∙ bind_ok x
      ∙ ap (λ l. run (step k) l g) codes-list
