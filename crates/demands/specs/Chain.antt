-- Order 4 of document 02, the nop of a frame chain (RULES 4.21): what it moved in packed records, and where one frame's answer moved with it.
use Rattle.std.specs.Prelude.{ℕ, ◌+◌, ◌-◌, ◌≤◌, ◌<◌, ◌≡◌, ◌⊎◌, ◌∷◌, [], true, false, eqb, if◌then◌else◌, Ok, Err}
use Rattle.words.specs.declared.Place.TheVariants.{Body}
use Rattle.words.specs.declared.Refusal.{Refusal}
use Rattle.words.specs.declared.Refusal.TheVariants.{Reserved, BadLayout}
use Rattle.words.specs.Answer.{Res, need, ◌>>=◌, ◌>>◌}
use Rattle.lent.specs.Lent.{Lent}
use Rattle.unwinding.specs.Shape.{Shape}
use Rattle.unwinding.specs.View.{View, view}
use Rattle.unwinding.specs.Todo.{todo}
use Rattle.codes.specs.Code.{size, codes_at}
use Rattle.codes.specs.Condition.{executing}
use Rattle.codes.specs.declared.Code.{Code}
use Rattle.machine.specs.declared.Regs.{Regs}
use Rattle.packed.specs.Packed.{Fit, fields, allowed, packed_span, packed_fragment}
use Rattle.packed.specs.declared.Packed.{Packed}
use Rattle.packed_codes.specs.PackedCodes.{pushed, chain_alone}
use Rattle.packed_codes.specs.Lists.{prologue_codes}
use Rattle.packed_codes.specs.Chain.{written_before, Chained}
use Rattle.record.specs.Record.{last_scope, packed_shape}
use Rattle.frame.specs.Frame.{Caller, within}

-- a packed record before the order
unfoldable pub shape_before : ℕ → Res Shape
shape_before w = do
  need (allowed (fields w)) Reserved
  let p = fields w
  let c = written_before p
  Ok (record { span = packed_span p; codes = c.bytes; fragment = packed_fragment p; scopes = if eqb p.ret 3 then [] else last_scope c.first ∷ []; handler = 0 })

-- one frame at an offset of a packed word's function: its answer, and the one before the order
abbrev pub now : Lent → (word offset : ℕ) → Regs → Res Caller
now k w o g = packed_shape w >>= λ s. within k s o g

abbrev pub before : Lent → (word offset : ℕ) → Regs → Res Caller
before k w o g = shape_before w >>= λ s. within k s o g

-- the bytes of what stands before the nop: push {r0-r3}, if H=1, and the push of r11 and LR
abbrev pub pushes : Packed → ℕ
pushes p = (if eqb p.h 1 then 2 else 0) + 4

-- a word that pushes r11 and LR and nothing else, and that passed 6 and 7 before: `v` is its view then
pub record Moved (w : ℕ) (v : View Code) : Type 0 where
  -- it passes them still: the prologue is two bytes shorter, if there is one, and the epilogues are where they were
  pub passes : (packed_shape w >>= view size codes_at) ≡ Ok (record { codes = prologue_codes (fields w); prologue = v.prologue - 2; epilogues = v.epilogues })
  -- up to the nop, and past the prologue that it had, the answer is the one that it was
  pub until : (k : Lent) (o : ℕ) (g : Regs) → o ≤ pushes (fields w) → now k w o g ≡ before k w o g
  pub past : (k : Lent) (o : ℕ) (g : Regs) → v.prologue ≤ o → now k w o g ≡ before k w o g
  -- behind the nop it is the one of two bytes further on
  pub behind : (k : Lent) (o : ℕ) (g : Regs) → pushes (fields w) < o → o + 2 < v.prologue → now k w o g ≡ before k w (o + 2) g
  -- and the last two bytes of the prologue that it had are body
  pub freed :
      (o : ℕ) → o < v.prologue → v.prologue ≤ o + 2
      → (packed_shape w >>= view size codes_at >>= λ u. todo size executing u o) ≡ Ok (record { place = Body; codes = (prologue_codes (fields w)).list })

pub record Order4 : Type 0 where
  pub lists : (p : Packed) → Fit p → Chained p
  -- any other packed word is the record that it was
  pub others : (w : ℕ) → chain_alone (pushed (fields w)) ≡ false → packed_shape w ≡ shape_before w
  -- of these words, one that was refused is refused the same, unless it was by 7
  pub refused :
      (w : ℕ) (r : Refusal) → chain_alone (pushed (fields w)) ≡ true → (shape_before w >>= view size codes_at) ≡ Err r
      → (r ≡ BadLayout) ⊎ ((packed_shape w >>= view size codes_at) ≡ Err r)
  pub moved : (w : ℕ) (v : View Code) → chain_alone (pushed (fields w)) ≡ true → (shape_before w >>= view size codes_at) ≡ Ok v → Moved w v
