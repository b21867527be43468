-- Codes with more beside them: where codes of one kind have codes of another as a part, and both are taken alike, so are their lists, their
-- epilogues and a record's view, but for that part.
-- Assumes nothing.
use Rattle.std.specs.Prelude.{if◌then◌else◌, Ok, Err}
use Prim.Native.Nat.{ℕ, zero, suc, ◌+◌, ◌-◌}
use mathlib.Core.Path.{◌≡◌, refl, sym, ap, ap₂, ◌∙◌}
use mathlib.Core.List.{List, [], ◌∷◌, map}
use mathlib.Core.Bool.{Bool, true, false, ◌&&◌}
use Rattle.words.specs.Units.{code_bytes}
use Rattle.words.specs.declared.CodeBytes.{CodeBytes}
use Rattle.words.specs.declared.Refusal.{Refusal}
use Rattle.words.specs.declared.Refusal.TheVariants.{BadLayout}
use Rattle.words.specs.Answer.{Res, ◌>>=◌, ◌>>◌, need}
use Rattle.unwinding.specs.CodeList.{Codes, total}
use Rattle.unwinding.specs.Taking.{Taken, one, last, bad, Scan, follow, scan_from, scan, codes_at}
use Rattle.unwinding.specs.Shape.{Shape, start_of}
use Rattle.unwinding.specs.View.{EpilogueOf, View, Stretch, stretch, inside, ascending, all_apart, fits, epilogues, view}
use Rattle.unwinding.specs.declared.Scope.{Scope}

-- an answer's value, by a function
abbrev pub mapped : {A B : Type 0} → (A → B) → Res A → Res B
mapped f (Ok a) = Ok (f a)
mapped f (Err r) = Err r

-- two chains of answers are alike where each link is
mapped-bind :
    {A B X Y : Type 0} (g : A → B) (h : X → Y) (x : Res A) (y : Res B) (k : A → Res X) (l : B → Res Y)
    → mapped g x ≡ y → ((a : A) → mapped h (k a) ≡ l (g a)) → mapped h (x >>= k) ≡ (y >>= l)
mapped-bind g h (Ok a) y k l e f = f a ∙ ap (λ z. z >>= l) e
mapped-bind g h (Err r) y k l e f = ap (λ z. z >>= l) e

mapped-need : {X Y : Type 0} (h : X → Y) (t u : Bool) (r : Refusal) (x : X) (y : Y) → t ≡ u → h x ≡ y → mapped h (need t r >> Ok x) ≡ (need u r >> Ok y)
mapped-need h true u r x y e f = ap Ok f ∙ ap (λ z. need z r >> Ok y) e
mapped-need h false u r x y e f = ap (λ z. need z r >> Ok y) e

module _ {C D : Type 0} (f : D → C) where
  abbrev pub taken_of : Taken D → Taken C
  taken_of (one d next) = one (f d) next
  taken_of (last n) = last n
  taken_of (bad i) = bad i

  abbrev pub scan_of : Scan D → Scan C
  scan_of s = record { list = map f s.list; ending = s.ending }

  abbrev pub codes_of : Codes D → Codes C
  codes_of c = record { list = map f c.list; end_size = c.end_size }

  abbrev pub epilogue_of : EpilogueOf D → EpilogueOf C
  epilogue_of e = record { start = e.start; size = e.size; condition = e.condition; codes = codes_of e.codes }

  abbrev pub view_of : View D → View C
  view_of v = record { codes = codes_of v.codes; prologue = v.prologue; epilogues = map epilogue_of v.epilogues }

  module _ (take : ℕ → List ℕ → Taken D) (take' : ℕ → List ℕ → Taken C) (bytes : ℕ → ℕ) (alike : (at : ℕ) (l : List ℕ) → taken_of (take at l) ≡ take' at l) where
    scan-from : (l : List ℕ) (at k : ℕ) → scan_of (scan_from take bytes at l k) ≡ scan_from take' bytes at l k
    unfolding scan_from
    scan-from [] at k = refl
    scan-from (b ∷ s) at (suc k) = scan-from s (at + 1) k
    scan-from (b ∷ s) at zero = go (take at (b ∷ s)) (scan-from s (at + 1) (bytes b - 1)) ∙ ap (λ x. follow x (λ next. scan_from take' bytes (at + 1) s (bytes b - 1))) (alike at (b ∷ s))
      where
        go :
            (x : Taken D) → scan_of (scan_from take bytes (at + 1) s (bytes b - 1)) ≡ scan_from take' bytes (at + 1) s (bytes b - 1)
            → scan_of (follow x (λ next. scan_from take bytes (at + 1) s (bytes b - 1))) ≡ follow (taken_of x) (λ next. scan_from take' bytes (at + 1) s (bytes b - 1))
        go (one d next) ih = ap (λ (r : Scan C). record { list = f d ∷ r.list; ending = r.ending }) ih
        go (last n) ih = refl
        go (bad i) ih = refl

    pub scan-mapped : (s : List ℕ) (i : CodeBytes) → scan_of (scan take bytes s i) ≡ scan take' bytes s i
    scan-mapped s i = scan-from s 0 i.0

    pub codes-mapped : (s : List ℕ) (i : CodeBytes) → mapped codes_of (codes_at take bytes s i) ≡ codes_at take' bytes s i
    codes-mapped s i = go (scan take bytes s i).ending ∙ ap (λ (x : Scan C). x.ending >>= λ n. Ok (record { list = x.list; end_size = n })) (scan-mapped s i)
      where
        go :
            (x : Res ℕ)
            → mapped codes_of (x >>= λ n. Ok (record { list = (scan take bytes s i).list; end_size = n })) ≡ (x >>= λ n. Ok (record { list = map f (scan take bytes s i).list; end_size = n }))
        go (Ok n) = refl
        go (Err r) = refl

  module _ (size : C → ℕ) (read : List ℕ → CodeBytes → Res (Codes D)) (read' : List ℕ → CodeBytes → Res (Codes C)) (alike : (s : List ℕ) (i : CodeBytes) → mapped codes_of (read s i) ≡ read' s i) where
    abbrev sized : D → ℕ
    sized d = size (f d)

    pub total-mapped : (l : List D) → total sized l ≡ total size (map f l)
    unfolding total
    total-mapped [] = refl
    total-mapped (d ∷ l) = ap (λ n. size (f d) + n) (total-mapped l)

    stretches : (es : List (EpilogueOf D)) → map stretch (map epilogue_of es) ≡ map stretch es
    stretches [] = refl
    stretches (e ∷ es) = ap (λ l. stretch e ∷ l) (stretches es)

    starts : (es : List (EpilogueOf D)) → map (λ (e : EpilogueOf C). e.start) (map epilogue_of es) ≡ map (λ (e : EpilogueOf D). e.start) es
    starts [] = refl
    starts (e ∷ es) = ap (λ l. e.start ∷ l) (starts es)

    fits-mapped : (span p : ℕ) (es : List (EpilogueOf D)) → fits span p es ≡ fits span p (map epilogue_of es)
    fits-mapped span p es =
        ap₂ (λ (a : List Stretch) b. inside span (record { from = 0; to = p } ∷ a) && ascending b && all_apart (record { from = 0; to = p } ∷ a)) (sym (stretches es)) (sym (starts es))

    pub epilogues-mapped : (s : Shape) (scs : List Scope) → mapped (map epilogue_of) (epilogues sized read s scs) ≡ epilogues size read' s scs
    unfolding epilogues
    epilogues-mapped s [] = refl
    epilogues-mapped s (e ∷ es) =
        mapped-bind codes_of (map epilogue_of) (read s.codes e.index) _ _ _ (alike s.codes e.index)
        (λ c. mapped-bind (map epilogue_of) (map epilogue_of) (epilogues sized read s es) _ _ _ (epilogues-mapped s es)
        (λ rest. ap (λ n. Ok (record { start = start_of e.start s.span (n + c.end_size); size = n + c.end_size; condition = e.condition; codes = codes_of c } ∷ map epilogue_of rest)) (total-mapped c.list)))

    pub view-mapped : (s : Shape) → mapped view_of (view sized read s) ≡ view size read' s
    unfolding view
    view-mapped s =
        mapped-bind codes_of view_of (read s.codes (code_bytes 0)) _ _ _ (alike s.codes (code_bytes 0))
        (λ c. mapped-bind (map epilogue_of) view_of (epilogues sized read s s.scopes) _ _ _ (epilogues-mapped s s.scopes) (λ es. last_step c es))
      where
        prologue : Codes D → ℕ
        prologue c = if s.fragment then 0 else total sized c.list

        prologue' : Codes D → ℕ
        prologue' c = if s.fragment then 0 else total size (map f c.list)

        last_step :
            (c : Codes D) (es : List (EpilogueOf D))
            → mapped view_of (need (fits s.span (prologue c) es) BadLayout >> Ok (record { codes = c; prologue = prologue c; epilogues = es }))
            ≡ (need (fits s.span (prologue' c) (map epilogue_of es)) BadLayout >> Ok (record { codes = codes_of c; prologue = prologue' c; epilogues = map epilogue_of es }))
        last_step c es =
            let p : prologue c ≡ prologue' c = ap (λ n. if s.fragment then 0 else n) (total-mapped c.list) in
            mapped-need view_of _ _ BadLayout _ _
            (ap (λ n. fits s.span n es) p ∙ fits-mapped s.span (prologue' c) es)
            (ap (λ n. record { codes = codes_of c; prologue = n; epilogues = map epilogue_of es }) p)
