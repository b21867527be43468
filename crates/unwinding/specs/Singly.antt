-- Walks beside single frames, asked of any reader on any machine: its walk goes by its own single frames, from its first frame's answer
-- (k = 0) on; it leaves records that it has not filled; and with less room it is cut short, never another.
use Rattle.std.specs.Prelude.{ℕ, zero, suc, ◌+◌, ◌≤◌, ◌<◌, min, ◌≡◌, ◌≢◌, List, length, get_or, take, drop, Ok, Err}
use Rattle.words.specs.declared.Place.{Place}
use Rattle.words.specs.declared.Place.TheVariants.{Leaf}
use Rattle.words.specs.declared.Refusal.{Refusal}
use Rattle.words.specs.declared.Refusal.TheVariants.{NoRecord, SpSame}
use Rattle.words.specs.Answer.{Res}
use Rattle.unwinding.specs.Trail.{Walker, Trail, filled}

-- a frame by itself; a refused one gives back the state, with 0 codes and place leaf (RULES 6.7)
pub record Alone (W : Walker) : Type 0 where
  pub verdict : Res (Unit {0})
  pub to : W.State
  pub place : Place
  pub codes : ℕ

abbrev pub alone_of : (W : Walker) → W.State → Res W.Caller → Alone W
alone_of W g (Ok c) = record { verdict = Ok tt; to = W.to c; place = W.place c; codes = W.codes c }
alone_of W g (Err r) = record { verdict = Err r; to = g; place = Leaf; codes = 0 }

-- a walk's answer, and with it the lent list as the walk leaves it
pub record Walked (W : Walker) : Type 0 where
  pub stop : W.Stop
  pub frames : ℕ
  pub codes : ℕ

pub record WalkedAll (W : Walker) : Type 0 where
  pub walked : Walked W
  pub list : List W.Frame

abbrev pub walked_all : (W : Walker) → List W.Frame → Trail W → WalkedAll W
walked_all W lent w = record { walked = record { stop = w.stop; frames = length w.frames; codes = w.codes }; list = filled W lent w }

-- the records of a lent list that a walk has not filled are as they were
pub record Untouched (W : Walker) (lent : List W.Frame) (w : WalkedAll W) : Type 0 where
  pub room : w.walked.frames ≤ length lent
  pub long : length w.list ≡ length lent
  pub rest : drop w.walked.frames w.list ≡ drop w.walked.frames lent

-- two walks list the same first n frames
abbrev pub Agree : (W : Walker) → (n : ℕ) → WalkedAll W → WalkedAll W → Type 0
Agree W n w w' = (n ≤ w'.walked.frames) × (take n w'.list ≡ take n w.list)

-- the walk w is w' as far as there is room
pub record Cut (W : Walker) (room : ℕ) (w w' : WalkedAll W) : Type 0 where
  pub frames : w.walked.frames ≡ min room w'.walked.frames
  pub list : take w.walked.frames w.list ≡ take w.walked.frames w'.list
  pub whole : w.walked.frames < room → w.walked ≡ w'.walked

module _ (W : Walker) (unwind : W.State → Alone W) where
  open W use {State, pc, sp, Frame, listed_as, Stop, ended, full, refused_at}

  -- the state k frames up, each frame unwound by itself, and the codes that run in those k
  unfoldable pub reached : State → (k : ℕ) → State
  reached g zero = g
  reached g (suc k) = reached (unwind g).to k

  unfoldable pub codes_run : State → (k : ℕ) → ℕ
  codes_run g zero = 0
  codes_run g (suc k) = (unwind g).codes + codes_run (unwind g).to k

  -- why the frame at g, with n before it, is refused: by itself; a later one by 12, as a leaf, or by 13, if it does not change SP (RULES 7.6)
  pub data Why (g : State) (n : ℕ) : Refusal → Type 0 where
    itself : (r : Refusal) → (unwind g).verdict ≡ Err r → Why g n r
    uncovered : 0 < n → (unwind g).verdict ≡ Ok tt → (unwind g).place ≡ Leaf → Why g n NoRecord
    still : 0 < n → (unwind g).verdict ≡ Ok tt → (unwind g).place ≢ Leaf → sp (unwind g).to ≡ sp g → Why g n SpSame

  -- how a walk stops at g, with n frames listed
  pub data Stops (g : State) (n room : ℕ) : Stop → Type 0 where
    at-end : 0 < n → pc g ≡ 0 → Stops g n room ended
    at-full : n ≡ room → (0 < n → pc g ≢ 0) → Stops g n room full
    at-refusal : (r : Refusal) → n < room → (0 < n → pc g ≢ 0) → Why g n r → Stops g n room (refused_at g r)

  -- a later frame that is listed is neither an end nor 12 nor 13
  pub record Onward (g : State) : Type 0 where
    pub pc-on : pc g ≢ 0
    pub covered : (unwind g).place ≢ Leaf
    pub moved : sp (unwind g).to ≢ sp g

  -- a walk goes by single frames
  pub record Follows (g : State) (room : ℕ) (w : WalkedAll W) : Type 0 where
    pub given : (k : ℕ) → k < w.walked.frames → (unwind (reached g k)).verdict ≡ Ok tt
    pub shown : (k : ℕ) (none : Frame) → k < w.walked.frames → get_or w.list k none ≡ listed_as (reached g k) (unwind (reached g k)).place
    pub codes : w.walked.codes ≡ codes_run g w.walked.frames
    pub on : (k : ℕ) → 0 < k → k < w.walked.frames → Onward (reached g k)
    pub stop : Stops (reached g w.walked.frames) w.walked.frames room w.walked.stop
