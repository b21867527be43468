-- Comparing the items of a prologue or an epilogue in turn is what one pass over the codes does; and all fit exactly if none differs.
-- Assumes nothing.
use Rattle.std.specs.Prelude.{if◌then◌else◌, Ok, Err}
use Prim.Native.Nat.{ℕ, ◌+◌}
use mathlib.Core.Path.{◌≡◌, refl, sym, ap, ◌∙◌}
use mathlib.Core.List.{List, [], ◌∷◌, ◌++◌}
use mathlib.Core.Bool.{Bool, true, false, ◌||◌}
use lib.Dec.{eqb}
use Rattle.unwinding.specs.CodeList.{total}
use Rattle.expected.specs.Expected.{before, after, ending}
use Rattle.comparing.specs.Items.{Coded, size_of, opens, leaves, Item, fits, Compared, differs, compared, is_last, item, prologue_items, epilogue_items}
use Rattle.comparing.specs.AsCoded.Passes.{last_of, or_else, test, prologue_pass, epilogue_pass}

pub compared-append : (a b : List Item) → compared (a ++ b) ≡ or_else (compared a) (compared b)
unfolding compared
compared-append [] b = refl
compared-append (i ∷ a) b = go (fits i) (compared-append a b)
  where
    go :
        (t : Bool) → compared (a ++ b) ≡ or_else (compared a) (compared b)
        → (if t then compared (a ++ b) else differs i.offset) ≡ or_else (if t then compared a else differs i.offset) (compared b)
    go true ih = ih
    go false ih = refl

or_assoc : (a b c : Compared) → or_else (or_else a b) c ≡ or_else a (or_else b c)
or_assoc (Ok u) b c = refl
or_assoc (Err e) b c = refl

module _ (s : List ℕ) where
  -- a prologue from its end down: what is found before stands behind
  prologue-found : (cs : List Coded) (found : Compared) → prologue_pass s cs found ≡ or_else (compared (prologue_items s cs)) found
  unfolding prologue_pass prologue_items compared
  prologue-found [] found = refl
  prologue-found (c ∷ cs) found =
      prologue-found cs _
      ∙ ap (or_else (compared (prologue_items s cs))) (go (test s (total size_of cs) (before c.first c.code)))
      ∙ sym (or_assoc (compared (prologue_items s cs)) (compared (item s (total size_of cs) (opens c) ∷ [])) found)
      ∙ ap (λ x. or_else x found) (sym (compared-append (prologue_items s cs) (item s (total size_of cs) (opens c) ∷ [])))
    where
      go : (t : Bool) → (if t then found else differs (total size_of cs)) ≡ or_else (if t then Ok tt else differs (total size_of cs)) found
      go true = refl
      go false = refl

  pub prologue-compared : (cs : List Coded) → prologue_pass s cs (Ok tt) ≡ compared (prologue_items s cs)
  prologue-compared cs = prologue-found cs (Ok tt) ∙ none (compared (prologue_items s cs))
    where
      none : (x : Compared) → or_else x (Ok tt) ≡ x
      none (Ok u) = refl
      none (Err e) = refl

  last-same : (cs : List Coded) (e : ℕ) → last_of cs (Ok e) ≡ is_last cs e
  last-same [] e = refl
  last-same (c ∷ cs) e = refl

  pub epilogue-compared : (o : ℕ) (cs : List Coded) (e : ℕ) → epilogue_pass s o cs (Ok e) ≡ compared (epilogue_items s o cs e)
  unfolding epilogue_pass epilogue_items compared
  epilogue-compared o [] e = go (eqb e 0)
    where
      go : (z : Bool) → (if z || test s o (ending e) then Ok tt else differs o) ≡ compared (if z then [] else item s o (leaves e) ∷ [])
      go true = refl
      go false = refl
  epilogue-compared o (c ∷ cs) e =
      ap (λ b. if test s o (after b c.code) then epilogue_pass s (o + size_of c) cs (Ok e) else differs o) (last-same cs e)
      ∙ ap (λ x. if test s o (after (is_last cs e) c.code) then x else differs o) (epilogue-compared (o + size_of c) cs e)
