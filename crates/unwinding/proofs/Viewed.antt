-- What a record that passes 6 and 7 has: its code lists are read from its code bytes, and its prologue and epilogues are apart.
-- Assumes nothing.
use Rattle.std.specs.Prelude.{if◌then◌else◌, Ok}
use Prim.Native.Nat.{ℕ, ◌+◌}
use mathlib.Core.Path.{◌≡◌, sym, ap, ◌∙◌}
use mathlib.Core.Bool.{true}
use mathlib.Core.List.{List, ◌∷◌}
use Rattle.words.specs.Units.{code_bytes}
use Rattle.words.specs.declared.CodeBytes.{CodeBytes}
use Rattle.words.specs.declared.Refusal.TheVariants.{BadLayout}
use Rattle.words.specs.Answer.{Res}
use Rattle.unwinding.specs.CodeList.{Codes, total}
use Rattle.unwinding.specs.Shape.{Shape, start_of}
use Rattle.unwinding.specs.View.{EpilogueOf, View, fits, epilogues, view}
use Rattle.unwinding.specs.declared.Scope.{Scope}
use Rattle.unwinding.specs.Listed.{Of, here, later}
use Rattle.words.proofs.Answers.{bind_ok, need-ok}

module _ {C : Type 0} (size : C → ℕ) (read : List ℕ → CodeBytes → Res (Codes C)) where
  abbrev prologue_of : Shape → Codes C → ℕ
  prologue_of s c = if s.fragment then 0 else total size c.list

  pub record Viewed (s : Shape) (v : View C) : Type 0 where
    pub codes : read s.codes (code_bytes 0) ≡ Ok v.codes
    pub prologue : v.prologue ≡ prologue_of s v.codes
    pub epilogues : epilogues size read s s.scopes ≡ Ok v.epilogues
    pub fit : fits s.span v.prologue v.epilogues ≡ true

  abbrev view_of : Shape → Codes C → List (EpilogueOf C) → View C
  view_of s c es = record { codes = c; prologue = prologue_of s c; epilogues = es }

  pub viewed : (s : Shape) (v : View C) → view size read s ≡ Ok v → Viewed s v
  unfolding view
  viewed s v h =
      let a = bind_ok (read s.codes (code_bytes 0)) _ v h in
      let b = bind_ok (epilogues size read s s.scopes) _ v a.2 in
      let c = need-ok (fits s.span (prologue_of s a.0) b.0) BadLayout (Ok (view_of s a.0 b.0)) v b.2 in
      let e : view_of s a.0 b.0 ≡ v = cc in
      record {
        codes = a.1 ∙ ap (λ (x : View C). Ok x.codes) e;
        prologue = sym (ap (λ (x : View C). x.prologue) e) ∙ ap (λ (x : View C). prologue_of s x.codes) e;
        epilogues = b.1 ∙ ap (λ (x : View C). Ok x.epilogues) e;
        fit = ap (λ (x : View C). fits s.span x.prologue x.epilogues) (sym e) ∙ c.0;
      }

  -- an epilogue's codes are those at its scope's index, and its size is theirs
  pub record Read (s : Shape) (sc : Scope) (ex : EpilogueOf C) : Type 0 where
    pub codes : read s.codes sc.index ≡ Ok ex.codes
    pub long : ex.size ≡ total size ex.codes.list + ex.codes.end_size

  abbrev epilogue_of : Shape → Scope → Codes C → EpilogueOf C
  epilogue_of s sc c =
      let n : ℕ = total size c.list + c.end_size in
      record { start = start_of sc.start s.span n; size = n; condition = sc.condition; codes = c }

  -- the list of epilogues, taken apart
  record Parts (s : Shape) (sc : Scope) (scs : List Scope) (exs : List (EpilogueOf C)) : Type 0 where
    codes : Codes C
    given : read s.codes sc.index ≡ Ok codes
    rest : List (EpilogueOf C)
    more : epilogues size read s scs ≡ Ok rest
    whole : epilogue_of s sc codes ∷ rest ≡ exs

  parts : (s : Shape) (sc : Scope) (scs : List Scope) (exs : List (EpilogueOf C)) → epilogues size read s (sc ∷ scs) ≡ Ok exs → Parts s sc scs exs
  unfolding epilogues
  parts s sc scs exs h =
      let a = bind_ok (read s.codes sc.index) _ exs h in
      let b = bind_ok (epilogues size read s scs) _ exs a.2 in
      let e : epilogue_of s sc a.0 ∷ b.0 ≡ exs = cc b.2 in
      record { codes = a.0; given = a.1; rest = b.0; more = b.1; whole = e }

  pub read_of : {sc : Scope} {ex : EpilogueOf C} {scs : List Scope} {exs : List (EpilogueOf C)} (s : Shape) → epilogues size read s scs ≡ Ok exs → Of sc ex scs exs → Read s sc ex
  read_of {sc} {ex} s h (here {scs = scs} {exs = exs}) =
      let p = parts s sc scs (ex ∷ exs) h in
      let e : epilogue_of s sc p.codes ≡ ex = cc p.whole in
      record { codes = p.given ∙ ap (λ (x : EpilogueOf C). Ok x.codes) e; long = sym (ap (λ (x : EpilogueOf C). x.size) e) ∙ ap (λ (x : EpilogueOf C). total size x.codes.list + x.codes.end_size) e }
  read_of {sc} {ex} s h (later {a = a} {b = b} {scs = scs} {exs = exs} o) =
      let p = parts s a scs (b ∷ exs) h in
      let e : p.rest ≡ exs = cc p.whole in
      read_of s (p.more ∙ ap Ok e) o
