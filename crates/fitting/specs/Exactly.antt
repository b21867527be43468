-- What passing is, said without any way of testing it (RULES 13.10): a record passes exactly if nothing refuses it and each of its instructions
-- is the one that its code stands for; and 17 tells the first that is not.
use Rattle.std.specs.Prelude.{ℕ, ◌+◌, ◌≤◌, ◌<◌, ◌≡◌, ◌⊎◌, List, [], ◌∷◌, ◌++◌, true, false, length, Ok, Err}
use Rattle.words.specs.declared.Refusal.{Refusal}
use Rattle.words.specs.declared.Refusal.TheVariants.{UnfitInput}
use Rattle.words.specs.Units.{halfword_bytes}
use Rattle.lent.specs.Lent.{Lent}
use Rattle.unwinding.specs.Shape.{Shape}
use Rattle.unwinding.specs.View as Views
use Rattle.xdata.specs.Xdata.{fit_xdata}
use Rattle.record.specs.Record.{shape_at}
use Rattle.place.specs.Judged.{view_at}
use Rattle.thumb.specs.declared.Action.{Action}
use Rattle.expected.specs.Expected.{home}
use Rattle.comparing.specs.Items.{Coded, size_of, coded_at, Item, expects}
use Rattle.expected.specs.declared.Acts.{Acts}
use Rattle.expected.specs.declared.Acts.TheVariants.{Any, This, OrHome}
use Rattle.fitting.specs.Fitting.{Fitted, items}
use Rattle.fitting.specs.declared.FitRefusal.TheVariants.{Record, Short, Differs}

-- an instruction does what is expected
abbrev pub As : Acts → Action → Type 0
As Any a = Unit {0}
As (This b) a = a ≡ b
As (OrHome b) a = (a ≡ b) ⊎ (a ≡ home)

-- the instruction at an offset is the one that its code stands for, in size, kind, registers and amount
pub record Stands (i : Item) : Type 0 where
  pub size : i.found.size ≡ (expects i.role).size
  pub does : As (expects i.role).acts i.found.action

abbrev pub AllStand : List Item → Type 0
AllStand [] = Unit {0}
AllStand (i ∷ is) = Stands i × AllStand is

-- instructions from one offset up to another, each with bytes of its own, behind those of the one before: so the first is the lowest
abbrev pub InLine : (from : ℕ) → List Item → (to : ℕ) → Type 0
InLine a [] b = a ≤ b
InLine a (i ∷ is) b = (a ≤ i.offset) × (0 < halfword_bytes (expects i.role).size) × InLine (i.offset + halfword_bytes (expects i.role).size) is b

-- a record that 1 and 4 to 7 do not refuse
pub record Reads (x : Lent) (w : ℕ) : Type 0 where
  pub passes1 : fit_xdata x ≡ true
  pub shape : Shape
  pub passes4-5 : shape_at x w ≡ Ok shape
  pub view : Views.View Coded
  pub passes6-7 : Views.view size_of coded_at shape ≡ Ok view

-- nor does 18, and these are its offsets, codes and instructions
pub record Compares (x : Lent) (w : ℕ) (s : List ℕ) (is : List Item) : Type 0 where
  pub reads : Reads x w
  pub long : reads.shape.span ≤ length s
  pub all : items s reads.shape.fragment reads.view ≡ is

pub record Passes (x : Lent) (w : ℕ) (s : List ℕ) : Type 0 where
  pub list : List Item
  pub compares : Compares x w s list
  pub stand : AllStand list

-- the first that is not the one of its code stands at an offset
pub record DiffersAt (x : Lent) (w : ℕ) (s : List ℕ) (o : ℕ) : Type 0 where
  pub before : List Item
  pub first : Item
  pub behind : List Item
  pub compares : Compares x w s (before ++ (first ∷ behind))
  pub stand : AllStand before
  pub other : Stands first → ⊥
  pub at : first.offset ≡ o

pub record IsShort (x : Lent) (w : ℕ) (s : List ℕ) : Type 0 where
  pub reads : Reads x w
  pub short : length s < reads.shape.span

-- 1, and then what 4 to 7 say of the record
abbrev pub Unread : Lent → ℕ → Refusal → Type 0
Unread x w r = ((fit_xdata x ≡ false) × (r ≡ UnfitInput)) ⊎ ((fit_xdata x ≡ true) × (view_at x w ≡ Err r))

abbrev pub Iff : Type 0 → Type 0 → Type 0
Iff A B = (A → B) × (B → A)

-- an answer, whoever gives it
pub record Exactly (answer : Fitted) (x : Lent) (w : ℕ) (s : List ℕ) : Type 0 where
  pub in-line : (is : List Item) (c : Compares x w s is) → InLine 0 is c.reads.shape.span
  pub passes : Iff (answer ≡ Ok tt) (Passes x w s)
  pub differs : (o : ℕ) → Iff (answer ≡ Err (Differs o)) (DiffersAt x w s o)
  pub short : Iff (answer ≡ Err Short) (IsShort x w s)
  pub unread : (r : Refusal) → Iff (answer ≡ Err (Record r)) (Unread x w r)
