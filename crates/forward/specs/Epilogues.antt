-- What is asked of an epilogue by its record's kind (RULES 10.18).
use Rattle.std.specs.Prelude.{◌≡◌, ◌≢◌}
use Rattle.words.specs.Bits.{bits}
use Rattle.words.specs.Units.{code_bytes}
use Rattle.unwinding.specs.declared.Scope.{Scope}
use Rattle.packed.specs.Packed.{fields, PF, EF}
use Rattle.pdata.specs.declared.Entry.{Entry}
use Rattle.packed.specs.declared.Packed.{Packed}

-- the d list is not empty (RULES 4.4)
abbrev pub SavesD : Packed → Type 0
SavesD p = (p.r ≡ 1) × (p.reg ≢ 7)

pub data Fit (r : Entry) (sc : Scope) : Type 0 where
  -- a full record: the epilogue's codes are those of index 0
  full : bits 0 2 r.word ≡ 0 → sc.index ≡ code_bytes 0 → Fit r sc
  -- a packed record with a d list folds both ways, or neither
  packed : bits 0 2 r.word ≢ 0 → (SavesD (fields r.word) → PF (fields r.word) ≡ EF (fields r.word)) → Fit r sc
