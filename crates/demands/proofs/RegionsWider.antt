-- The regions of a record are the same from more lent .xdata, since no byte outside was read; and so are their refusals, but for those of
-- how much is lent.
-- Assumes nothing.
use Rattle.std.specs.Prelude.{if◌then◌else◌, Ok, Err}
use Prim.Native.Nat.{ℕ, zero, suc, ◌+◌, ◌-◌, ◌*◌, ◌%◌, ◌≤◌}
use mathlib.Core.Path.{◌≡◌, refl, sym, ap, ap₂, ◌∙◌}
use mathlib.Core.Bool.{Bool, true, false, true≢false, ◌&&◌}
use mathlib.Core.List.{List, [], ◌∷◌}
use lib.Dec.{leb}
use lib.ListN.{length}
use native.Mathlib.Omega.{arith}
use borrow.Author.Tests.{not-true}
use Rattle.words.specs.declared.Refusal.TheVariants.{OutsideXdata, UnfitInput}
use Rattle.words.specs.Answer.{Res}
use Rattle.words.proofs.Answers.{bind_ok, need-ok}
use Rattle.words.proofs.Tests.{both}
use Rattle.lent.specs.Lent.{Lent, end, holds, word_at}
use Rattle.lent.specs.Little.{word32}
use Rattle.unwinding.proofs.Staying.{Stays, stays-given}
use Rattle.xdata.specs.Xdata.{fit_xdata, handled, head_at, xdata_size}
use Rattle.regions.specs.declared.RegionRefusal.TheVariants.{TableOutside, Crossed}
use Rattle.regions.specs.declared.Region.{Region}
use Rattle.regions.specs.Region.{region_in, regions_from, sound}
use Rattle.regions.specs.Table.{Listed, listed, denied, table_lent, first_of, table_at, table_behind, regions_of}
use Rattle.regions.proofs.Tables.{lent-inside}
use Rattle.demands.specs.Demand1.{More}
use Rattle.demands.specs.Regions.{lasting}
use Rattle.demands.proofs.Wider.{inside, more-low, more-word, more-holds, stays-size}

-- a table by whether it is lent, and its regions
abbrev table_by : Bool → List Region → Listed
table_by t rs = if t then (if sound rs then listed rs else denied Crossed) else denied TableOutside

-- the first word of a record that has a size is lent
size-held : (x : Lent) (a n : ℕ) → xdata_size x a ≡ Ok n → holds x (a - a % 4) 4 ≡ true
unfolding xdata_size head_at
size-held x a n h =
    let q = bind_ok (head_at x (a - a % 4)) _ n (need-ok (fit_xdata x) UnfitInput _ n h).1 in
    (need-ok (holds x (a - a % 4) 4) OutsideXdata _ q.0 q.1).0

module _ (x x' : Lent) (m : More x x') where
  -- ---- words and regions
  same_word : (o o' : ℕ) → x.base + o ≡ x'.base + o' → o + 4 ≤ length x.bytes → word32 x'.bytes o' ≡ word32 x.bytes o
  same_word o o' e h =
      let i : o' ≡ x.base + o - x'.base = omega arith in
      let j : x.base + o - x.base ≡ o = omega arith in
      ap (word32 x'.bytes) i ∙ more-word x x' m (x.base + o) (omega arith) (omega arith) ∙ ap (word32 x.bytes) j

  same-region : (b k : ℕ) → x.base ≤ b → b + 16 * (k + 1) ≤ end x → region_in x'.bytes (b - x'.base) k ≡ region_in x.bytes (b - x.base) k
  same-region b k lo hi =
      let o : ℕ = b - x.base + 16 * k in
      let o' : ℕ = b - x'.base + 16 * k in
      let w0 = same_word o o' (omega (arith, more-low x x' m)) (omega arith) in
      let w1 = same_word (o + 4) (o' + 4) (omega (arith, more-low x x' m)) (omega arith) in
      let w2 = same_word (o + 8) (o' + 8) (omega (arith, more-low x x' m)) (omega arith) in
      let w3 = same_word (o + 12) (o' + 12) (omega (arith, more-low x x' m)) (omega arith) in
      cc

  same_rows : (n b k : ℕ) → x.base ≤ b → b + 16 * (k + n) ≤ end x → regions_from x'.bytes (b - x'.base) k n ≡ regions_from x.bytes (b - x.base) k n
  unfolding regions_from
  same_rows zero b k lo hi = refl
  same_rows (suc n) b k lo hi =
      ap₂ (λ r rs. r ∷ rs) (same-region b k lo (omega arith)) (same_rows n b (k + 1) lo (omega arith))

  -- ---- the table
  lent-lasts : (a : ℕ) → table_lent x a ≡ true → table_lent x' a ≡ true
  lent-lasts a h =
      let p = both (holds x a 4 && leb (word_at x a) 64) (holds x (a + 4) (16 * word_at x a)) h in
      let q = both (holds x a 4) (leb (word_at x a) 64) p.0 in
      let i = inside x a 4 q.0 in
      let e : word_at x' a ≡ word_at x a = more-word x x' m a i.0 i.1 in
      rw (e, more-holds x x' m a 4 q.0, q.1, more-holds x x' m (a + 4) (16 * word_at x a) p.1) refl

  lent_rows : (a : ℕ) → table_lent x a ≡ true → regions_from x'.bytes (first_of x' a) 0 (word_at x' a) ≡ regions_from x.bytes (first_of x a) 0 (word_at x a)
  lent_rows a h =
      let p = both (holds x a 4 && leb (word_at x a) 64) (holds x (a + 4) (16 * word_at x a)) h in
      let j = inside x (a + 4) (16 * word_at x a) p.1 in
      let i = lent-inside x a h in
      ap (regions_from x'.bytes (first_of x' a) 0) (more-word x x' m a i.0 i.1) ∙ same_rows (word_at x a) (a + 4) 0 j.0 (omega (arith, j.1))

  same-table : (a : ℕ) → lasting (table_at x a) ≡ true → table_at x' a ≡ table_at x a
  same-table a l = go (table_lent x a) refl
    where
      go : (t : Bool) → table_lent x a ≡ t → table_at x' a ≡ table_at x a
      go true h = ap₂ table_by (lent-lasts a h ∙ sym h) (lent_rows a h)
      go false h = absurd (true≢false (sym l ∙ ap (λ t. lasting (table_by t (regions_from x.bytes (first_of x a) 0 (word_at x a)))) h))

  same-behind : (a n : ℕ) → holds x a 4 ≡ true → lasting (table_behind x a n) ≡ true → table_behind x' a n ≡ table_behind x a n
  same-behind a n h l =
      let i = inside x a 4 h in
      ap (λ w. if handled w then table_at x' (a + n) else listed []) (more-word x x' m a i.0 i.1) ∙ go (handled (word_at x a)) l
    where
      go : (t : Bool) → lasting (if t then table_at x (a + n) else listed []) ≡ true → (if t then table_at x' (a + n) else listed []) ≡ (if t then table_at x (a + n) else listed [])
      go true l = same-table (a + n) l
      go false l = refl

  -- ---- the regions of a record
  pub regions-stay : (a : ℕ) → fit_xdata x' ≡ true → lasting (regions_of x a) ≡ true → regions_of x' a ≡ regions_of x a
  unfolding regions_of
  regions-stay a f = go (xdata_size x a) refl
    where
      go : (r : Res ℕ) → xdata_size x a ≡ r → lasting (regions_of x a) ≡ true → regions_of x' a ≡ regions_of x a
      go (Ok n) e =
          let e' : xdata_size x' a ≡ Ok n = stays-given (xdata_size x a) (xdata_size x' a) n (stays-size x x' m a f) e in
          rw (e, e') (λ l. same-behind (a - a % 4) n (size-held x a n e) l)
      go (Err r) e =
          let s : Stays (Err r) (xdata_size x' a) = rw e at (stays-size x x' m a f) in
          rw e (λ l. rw (s (not-true _ l)) refl)
