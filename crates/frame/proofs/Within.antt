-- A frame at an offset that its record covers: the spot found, the codes run from its index, 11, and the caller.
-- Assumes nothing.
use Rattle.std.specs.Prelude.{Ok, Err}
use Prim.Native.Nat.{ℕ}
use mathlib.Core.Path.{◌≡◌, refl, sym, ap, ◌∙◌}
use mathlib.Core.List.{List}
use lib.ListN.{length}
use Rattle.lent.specs.Lent.{Lent}
use Rattle.words.specs.Answer.{Res, ◌>>=◌, ◌>>◌}
use Rattle.unwinding.specs.CodeList.{run}
use Rattle.unwinding.specs.Shape.{Shape}
use Rattle.unwinding.specs.View.{view}
use Rattle.unwinding.specs.Todo.{Todo, todo}
use Rattle.words.proofs.Answers.{bind_assoc}
use Rattle.codes.specs.declared.Code.{Code}
use Rattle.codes.specs.Code.{size, scan, codes_at}
use Rattle.codes.specs.Condition.{executing}
use Rattle.machine.specs.declared.Regs.{Regs}
use Rattle.machine.specs.Step.{step}
use Rattle.machine.specs.AsCoded.Run.{run_at}
use Rattle.frame.specs.Frame.{Caller, within}
use Rattle.place.specs.AsCoded.Look.{spot_of}
use Rattle.frame.specs.AsCoded.FromPlace.{finish, ran_from}
use Rattle.place.specs.declared.Spot.{Spot}
use Rattle.place.proofs.Placing.{todo_of, spot-todo, Ended, spot-ends}

abbrev undone : (stack : Lent) → (handler : ℕ) → Regs → Todo Code → Res Caller
undone k handler g t = run (step k) t.codes g >>= finish handler g t.place (length t.codes)

todo-ran :
    (k : Lent) (s : List ℕ) (handler : ℕ) (g : Regs) (x : Res Spot) → Ended s x
    → (todo_of s x >>= undone k handler g) ≡ (x >>= λ p. ran_from k s handler g p.place p.index)
unfolding run_at
todo-ran k s handler g (Err r) e = refl
todo-ran k s handler g (Ok p) e = rw e.1 (go (run (step k) (scan s p.index).list g))
  where
    go :
        (x : Res Regs)
        → (x >>= finish handler g p.place (length (scan s p.index).list))
        ≡ (x >>= (λ h. Ok e.0 >> Ok h) >>= finish handler g p.place (length (scan s p.index).list))
    go (Ok h) = refl
    go (Err r) = refl

abbrev pub spot_in : Shape → (offset : ℕ) → Res Spot
spot_in sh o = spot_of sh.codes sh.span sh.fragment sh.scopes o

pub within-placed :
    (k : Lent) (sh : Shape) (o : ℕ) (g : Regs) → within k sh o g ≡ (spot_in sh o >>= λ p. ran_from k sh.codes sh.handler g p.place p.index)
unfolding within
within-placed k sh o g =
    sym (bind_assoc (view size codes_at sh) (λ v. todo size executing v o) (undone k sh.handler g))
    ∙ ap (λ x. x >>= undone k sh.handler g) (spot-todo sh o)
    ∙ todo-ran k sh.codes sh.handler g (spot_in sh o) (spot-ends sh.codes sh.span sh.fragment sh.scopes o)
