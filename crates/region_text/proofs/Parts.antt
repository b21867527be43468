-- What one region and one list print, put together: a list that goes on prints its first region and then the rest of itself, and the inner
-- regions of a region are the list of those that its range covers.
-- Assumes nothing.
use Rattle.std.specs.Prelude.{if◌then◌else◌}
use Prim.Native.Nat.{ℕ, ◌+◌, ◌^◌, ◌≤◌, ◌<◌}
use mathlib.Core.Path.{◌≡◌, refl, sym, ap, ap₂, ◌∙◌}
use mathlib.Core.Bool.{Bool, true, false}
use mathlib.Core.List.{List, [], ◌++◌}
use lib.ListN.{length, drop, drop_of_length-le}
use lib.Seq.{drop-cons}
use native.Mathlib.Numerals.{add-one}
use native.Mathlib.Omega.{arith}
use Rattle.text.specs.Overlay.{Laid}
use Rattle.text.proofs.Overlaid as Overlaid
use Rattle.text.proofs.Overlaid.{joined, laid_as}
use Rattle.regions.specs.declared.Region.{Region}
use Rattle.regions.specs.Region.{covers, regions_from}
use Rattle.nesting.specs.Outline.{Outline, none, region, front, behind, nest, outline}
use Rattle.nesting.specs.AsCoded.Order.{those, order_from}
use Rattle.nesting.proofs.Orders.{sorted-order}
use Rattle.region_text.specs.declared.Put.{Put}
use Rattle.region_text.specs.RegionText.{outline_text, region_line}
use Rattle.region_text.specs.AsCoded.Part.{in_list, front_of, behind_of, from, region_of, PutRegion, PutList}

-- every region is in the outermost list
front-all : (l h : ℕ) (o : Outline) → front_of true l h o ≡ o
unfolding front_of
front-all l h none = refl
front-all l h (region s i b) = ap (region s i) (front-all l h b)

-- the list of a region's range is that of its inner regions
front-covers : (r : Region) (o : Outline) → front_of false r.begin r.end o ≡ front r o
unfolding front_of front
front-covers r none = refl
front-covers r (region s i b) = ap (λ x. if covers r s then region s i x else none) (front-covers r b)

behind-covers : (r : Region) (o : Outline) → behind_of false r.begin r.end o ≡ behind r o
unfolding behind_of behind
behind-covers r none = refl
behind-covers r (region s i b) = ap (λ x. if covers r s then x else region s i b) (behind-covers r b)

-- a region before an outline takes the regions in front that it covers
abbrev over : Region → Outline → Outline
over r o = region r (front r o) (behind r o)

module _ (s order : List ℕ) (f k : ℕ) where
  -- the outline from a place of the order on is that place's region over the outline from the next one on; past the end it is none
  from_next : k < length order → from s f order k ≡ over (region_of s f order k) (from s f order (k + 1))
  unfolding nest
  from_next h =
      ap (λ l. nest (those s f l)) (drop-cons order k 0 h)
      ∙ ap (λ j. over (region_of s f order k) (nest (those s f (drop j order)))) (sym (add-one k))

  from_end : length order ≤ k → from s f order k ≡ none
  unfolding nest
  from_end h = ap (λ l. nest (those s f l)) (drop_of_length-le order h)

-- a list with its first region, and one whose first region is another's
front-more :
    (t : Bool) (l h : ℕ) (r : Region) (o : Outline) → in_list t l h r ≡ true
    → front_of t l h (over r o) ≡ region r (front r o) (front_of t l h (behind r o))
unfolding front_of
front-more t l h r o e = rw e refl

behind_more : (t : Bool) (l h : ℕ) (r : Region) (o : Outline) → in_list t l h r ≡ true → behind_of t l h (over r o) ≡ behind_of t l h (behind r o)
unfolding behind_of
behind_more t l h r o e = rw e refl

front-other : (t : Bool) (l h : ℕ) (r : Region) (o : Outline) → in_list t l h r ≡ false → front_of t l h (over r o) ≡ none
unfolding front_of
front-other t l h r o e = rw e refl

behind-other : (t : Bool) (l h : ℕ) (r : Region) (o : Outline) → in_list t l h r ≡ false → behind_of t l h (over r o) ≡ over r o
unfolding behind_of
behind-other t l h r o e = rw e refl

-- no region, no text
no_text : (n a : ℕ) → outline_text n a none ≡ []
unfolding outline_text
no_text n a = refl

-- the text of a region, its inner regions and those beside it
text-more : (n a : ℕ) (r : Region) (i b : Outline) → outline_text n a (region r i b) ≡ region_line n a r ++ outline_text (n + 1) a i ++ outline_text n a b
unfolding outline_text
text-more n a r i b = refl

module _ (s order : List ℕ) (f k : ℕ) (t : Bool) (l h n a : ℕ) where
  -- a list that prints nothing
  nothing :
      (b : List ℕ) (at : ℕ) → front_of t l h (from s f order k) ≡ none → behind_of t l h (from s f order k) ≡ from s f order k
      → k ≤ length order → at < 2 ^ 64 → length b < 2 ^ 64 → PutList s f order k t l h n a b at (record { at = at; next = k }) b
  nothing b at e g w p q =
      record { text = laid_as (sym (ap (outline_text n a) e ∙ no_text n a)) (Overlaid.none b at p q); rest = sym g; onward = omega arith; within = w }

  -- at the end of the order
  pub put-end :
      (b : List ℕ) (at : ℕ) → k ≡ length order → at < 2 ^ 64 → length b < 2 ^ 64
      → PutList s f order k t l h n a b at (record { at = at; next = k }) b
  unfolding front_of behind_of
  put-end b at e p q =
      let o = from_end s order f k (omega arith) in
      nothing b at (ap (front_of t l h) o) (ap (behind_of t l h) o ∙ sym o) (omega arith) p q

  -- before a region that is not in the list
  pub put_other :
      (b : List ℕ) (at : ℕ) → k < length order → in_list t l h (region_of s f order k) ≡ false → at < 2 ^ 64 → length b < 2 ^ 64
      → PutList s f order k t l h n a b at (record { at = at; next = k }) b
  put_other b at w e p q =
      let o = from_next s order f k w in
      let r = region_of s f order k in
      let u = from s f order (k + 1) in
      nothing b at (ap (front_of t l h) o ∙ front-other t l h r u e) (ap (behind_of t l h) o ∙ behind-other t l h r u e ∙ sym o) (omega arith) p q

  -- a region of the list, and the list from behind it on
  pub put-more :
      {b c d : List ℕ} {at : ℕ} {p q : Put} → k < length order → in_list t l h (region_of s f order k) ≡ true → PutRegion s f order k n a b at p c
      → PutList s f order p.next t l h n a c p.at q d → PutList s f order k t l h n a b at q d
  put-more w e x y =
      let o = from_next s order f k w in
      let r = region_of s f order k in
      let u = from s f order (k + 1) in
      let first = front-more t l h r u e in
      let whole = ap (λ z. outline_text n a (front_of t l h z)) o ∙ ap (outline_text n a) first ∙ text-more n a r (front r u) (front_of t l h (behind r u)) in
      let rest = ap (λ z. outline_text n a (front_of t l h z)) x.rest in
      record {
        text = laid_as (ap (λ z. region_line n a r ++ outline_text (n + 1) a (front r u) ++ z) rest ∙ sym whole) (joined x.text y.text);
        rest = y.rest ∙ ap (behind_of t l h) x.rest ∙ sym (ap (behind_of t l h) o ∙ behind_more t l h r u e);
        onward = omega (arith, x.onward, y.onward);
        within = y.within;
      }

-- a region's line and the list of its inner regions
pub put-inner :
    (s order : List ℕ) (f k n a : ℕ) {b c d : List ℕ} {at m : ℕ} {p : Put} (r : Region) → r ≡ region_of s f order k → Laid b at (region_line n a r) m c
    → PutList s f order (k + 1) false r.begin r.end (n + 1) a c m p d → PutRegion s f order k n a b at p d
put-inner s order f k n a r e x y =
    let u = from s f order (k + 1) in
    let inner = ap (outline_text (n + 1) a) (front-covers r u ∙ ap (λ z. front z u) e) in
    record {
      text = laid_as (ap₂ (λ z w. region_line n a z ++ w) e inner) (joined x y.text);
      rest = y.rest ∙ behind-covers r u ∙ ap (λ z. behind z u) e;
      onward = omega (arith, y.onward);
      within = y.within;
    }

-- the outermost list from the start of the order is all of a table's outline
pub whole :
    (s order : List ℕ) (f n a : ℕ) → order ≡ order_from s f 0 n
    → outline_text 1 a (front_of true 0 0 (from s f order 0)) ≡ outline_text 1 a (outline (regions_from s f 0 n))
whole s order f n a e =
    ap (outline_text 1 a) (front-all 0 0 (from s f order 0)) ∙ ap (λ l. outline_text 1 a (nest (those s f l))) e ∙ ap (λ l. outline_text 1 a (nest l)) (sorted-order s f 0 n)
