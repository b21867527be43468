-- The code at an index without what it undoes, by its entry of the table.
-- Assumes nothing.
use Rattle.std.specs.Prelude.{if◌then◌else◌}
use Prim.Native.Nat.{ℕ, ◌+◌, ◌/◌, ◌%◌, ◌≤◌, ◌<◌}
use mathlib.Core.Path.{◌≡◌, refl, sym, ap, ap₂, ◌∙◌}
use mathlib.Core.List.{List}
use mathlib.Core.Bool.{true, false}
use lib.ListN.{length, get_or}
use native.Mathlib.Omega.{arith}
use Rattle.words.specs.Units.{code_bytes, halfwords, halfword_bytes}
use Rattle.words.specs.declared.CodeBytes.{CodeBytes}
use Rattle.words.specs.declared.Halfwords.{Halfwords}
use Rattle.unwinding.specs.Taking.{one, last, bad}
use Rattle.codes.specs.Table.{Row, row_of}
use Rattle.codes.specs.Code.{taken, take_at, seen}
use Rattle.codes.specs.AsCoded.Rows.{kind, sort_of, entry_of}
use Rattle.codes.specs.AsCoded.Sizing.{sized, fitting}
use Rattle.codes.specs.declared.Meaning.{Meaning}
use Rattle.codes.specs.declared.Meaning.TheVariants.{Does, End, Undefined}
use Rattle.codes.specs.declared.Code.{Code}
use Rattle.codes.specs.declared.Taken.{Taken}
use Rattle.codes.specs.declared.Taken.TheVariants as T
use Rattle.codes.specs.declared.Taken.TheVariants.{One, Last, Bad}
use Rattle.codes.proofs.Rows.{row-few}
use Rattle.codes.proofs.Sorts.{entry-count, entry-halfwords, entry-sort, by_kind, two_bytes, by-second}
use Rattle.codes.proofs.Taking.{take_whole}
use Rattle.codes.proofs.Values.{bytes, bytes_one, bytes-more}

-- the code by its meaning's kind
module _ (i : ℕ) (r : Row) where
  abbrev passed : Taken Halfwords
  passed = One r.size (code_bytes (i + r.bytes))

  kind_0 : (m : Meaning) → kind m ≡ 0 → passed ≡ sized (taken i r m)
  kind_0 (Does u) e = refl
  kind_0 End e = absurd (omega (arith, e))
  kind_0 Undefined e = absurd (omega (arith, e))

  kind_1 : (m : Meaning) → kind m ≡ 1 → Last r.size ≡ sized (taken i r m)
  kind_1 (Does u) e = absurd (omega (arith, e))
  kind_1 End e = refl
  kind_1 Undefined e = absurd (omega (arith, e))

  kind_2 : (m : Meaning) → kind m ≡ 2 → Bad (code_bytes i) ≡ sized (taken i r m)
  kind_2 (Does u) e = absurd (omega (arith, e))
  kind_2 End e = absurd (omega (arith, e))
  kind_2 Undefined e = refl

-- an entry r of the first byte at i, all of whose code's bytes are there
module _ (s : List ℕ) (i r : ℕ) where
  abbrev b : ℕ
  b = get_or s i 0

  abbrev x : ℕ
  x = get_or s (i + 1) 0

  module _ (e : r ≡ entry_of b) (whole : i + (row_of b).bytes ≤ length s) (small : b < 256) where
    abbrev m : Meaning
    m = (row_of b).means (bytes s i (row_of b).bytes)

    there : i < length s
    there = omega (arith, (row-few b).some, whole)

    whole_code : sized (take_at s (code_bytes i)) ≡ sized (taken i (row_of b) m)
    whole_code = ap sized (take_whole s i there (omega arith))

    sort : r / 32 ≡ sort_of b
    sort = ap (λ n. n / 32) e ∙ entry-sort b

    one-here : One (halfwords (r / 8 % 4)) (code_bytes (i + r % 8)) ≡ passed i (row_of b)
    one-here = ap₂ One (entry-halfwords b e) (ap (λ n. code_bytes (i + n)) (entry-count b e))

    kind-here : sort_of b < 3 → kind m ≡ sort_of b
    kind-here l =
        by_kind b (bytes s i (row_of b).bytes) small (λ n. ap (bytes s i) n ∙ sym (bytes_one s i b there refl)) l

    -- by the sort alone
    pub sort-0 : r / 32 ≡ 0 → One (halfwords (r / 8 % 4)) (code_bytes (i + r % 8)) ≡ sized (take_at s (code_bytes i))
    sort-0 h = one-here ∙ kind_0 i (row_of b) m (kind-here (omega (arith, sort)) ∙ sym sort ∙ h) ∙ sym whole_code

    pub sort-1 : r / 32 ≡ 1 → Last (halfwords (r / 8 % 4)) ≡ sized (take_at s (code_bytes i))
    sort-1 h = ap Last (entry-halfwords b e) ∙ kind_1 i (row_of b) m (kind-here (omega (arith, sort)) ∙ sym sort ∙ h) ∙ sym whole_code

    pub sort-2 : r / 32 ≡ 2 → Bad (code_bytes i) ≡ sized (take_at s (code_bytes i))
    sort-2 h = kind_2 i (row_of b) m (kind-here (omega (arith, sort)) ∙ sym sort ∙ h) ∙ sym whole_code

    -- by the second byte
    module _ (l : 3 ≤ r / 32) where
      late : 3 ≤ sort_of b
      late = omega (arith, sort)

      pub second : i + 1 < length s
      second = omega (arith, two_bytes b late, whole)

      module _ (h : x < 256) where
        said : kind m ≡ (if fitting (r / 32) x then 0 else 2)
        said =
            ap (λ n. kind ((row_of b).means (bytes s i n))) (two_bytes b late)
            ∙ ap (λ v. kind ((row_of b).means v)) (sym (bytes-more s i 1 b x second (bytes_one s i b there refl) refl))
            ∙ by-second x h b late
            ∙ ap (λ n. if fitting n x then 0 else 2) (sym sort)

        pub fits_one : fitting (r / 32) x ≡ true → One (halfwords (r / 8 % 4)) (code_bytes (i + r % 8)) ≡ sized (take_at s (code_bytes i))
        fits_one f = one-here ∙ kind_0 i (row_of b) m (said ∙ ap (λ t. if t then 0 else 2) f) ∙ sym whole_code

        pub fits_not : fitting (r / 32) x ≡ false → Bad (code_bytes i) ≡ sized (take_at s (code_bytes i))
        fits_not f = kind_2 i (row_of b) m (said ∙ ap (λ t. if t then 0 else 2) f) ∙ sym whole_code

-- what was taken, by what is told of it
module _ (s : List ℕ) (i : CodeBytes) where
  pub told-one : {z : Halfwords} {next : CodeBytes} → sized (take_at s i) ≡ One z next → (c : Code) × (seen (take_at s i) ≡ one c next) × (c.size ≡ z)
  told-one {z} {next} e = go (take_at s i) e
    where
      go : (t : Taken Code) → sized t ≡ One z next → (c : Code) × (seen t ≡ one c next) × (c.size ≡ z)
      go (T.One c n) e = let p : n ≡ next = cc in (c, ap (one c) p, cc)
      go (T.Last n) e = absurd (let y : ◌≡◌ {A = ℕ} 0 1 = cc in omega arith)
      go (T.Bad j) e = absurd (let y : ◌≡◌ {A = ℕ} 0 1 = cc in omega arith)

  pub told-last : {z : Halfwords} → sized (take_at s i) ≡ Last z → seen (take_at s i) ≡ last (halfword_bytes z)
  told-last {z} e = go (take_at s i) e
    where
      go : (t : Taken Code) → sized t ≡ Last z → seen t ≡ last (halfword_bytes z)
      go (T.One c n) e = absurd (let y : ◌≡◌ {A = ℕ} 0 1 = cc in omega arith)
      go (T.Last n) e = let p : n ≡ z = cc in ap (λ x. last (halfword_bytes x)) p
      go (T.Bad j) e = absurd (let y : ◌≡◌ {A = ℕ} 0 1 = cc in omega arith)

  pub told-bad : {k : CodeBytes} → sized (take_at s i) ≡ Bad k → seen (take_at s i) ≡ bad k
  told-bad {k} e = go (take_at s i) e
    where
      go : (t : Taken Code) → sized t ≡ Bad k → seen t ≡ bad k
      go (T.One c n) e = absurd (let y : ◌≡◌ {A = ℕ} 0 1 = cc in omega arith)
      go (T.Last n) e = absurd (let y : ◌≡◌ {A = ℕ} 0 1 = cc in omega arith)
      go (T.Bad j) e = let p : j ≡ k = cc in ap bad p
