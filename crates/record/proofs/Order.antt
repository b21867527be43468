-- The order of the refusals that the tables give: inputs that are wrong in two ways, and the number that comes first.
-- Assumes nothing.
use Rattle.std.specs.Prelude.{Ok, Err, None}
use Prim.Native.Nat.{ℕ}
use mathlib.Core.Path.{◌≡◌, refl}
use mathlib.Core.List.{List, ◌∷◌, []}
use Rattle.lent.specs.Lent.{Lent}
use Rattle.words.specs.declared.Refusal.TheVariants.{UnfitInput, PcBelowBase, StartsNotAscending, Reserved, OutsideXdata}
use Rattle.pdata.specs.Pdata.{find}
use Rattle.xdata.specs.Xdata.{xdata_size}
use Rattle.record.specs.Record.{full_shape, packed_shape}
use Rattle.record.proofs.Opened.{opened}
use Rattle.lent.proofs.Bytes.{bytes_of}

-- .pdata (RULES 9.55): 1 before 2, 2 before 3; 3 looks at the whole table, bit 0 cleared
length-first : find 0x400000 (bytes_of (0x1000 ∷ 0 ∷ 0 ∷ [])) 0x3FFFFE ≡ Err UnfitInput
unfolding opened
length-first = refl

base-second : find 0x400000 (bytes_of (0x2000 ∷ 0 ∷ 0x1000 ∷ 0 ∷ [])) 0x3FFFFE ≡ Err PcBelowBase
unfolding opened
base-second = refl

starts-third : find 0x400000 (bytes_of (0x1000 ∷ 0 ∷ 0x2000 ∷ 0 ∷ 0x2001 ∷ 0 ∷ [])) 0x401000 ≡ Err StartsNotAscending
unfolding opened
starts-third = refl

-- the pc's bit 0 is cleared before it is compared
odd-pc : find 0x400000 [] 0x400001 ≡ Ok None
unfolding opened
odd-pc = refl

abbrev x : List ℕ → Lent
x s = record { base = 0x1000; bytes = s }

-- a full record, in the order of RULES 9.52. The first word before Vers: three bytes, of which the last has Vers
first_word : full_shape (x (0 ∷ 0 ∷ 0x04 ∷ [])) 0x1000 ≡ Err OutsideXdata
unfolding opened
first_word = refl

-- Vers before the extension word
vers : full_shape (x (bytes_of (0x00040000 ∷ []))) 0x1000 ≡ Err Reserved
unfolding opened
vers = refl

extension : full_shape (x (bytes_of (0 ∷ []))) 0x1000 ≡ Err OutsideXdata
unfolding opened
extension = refl

-- the extension word's bits 24-31 before the whole record
reserved-byte : full_shape (x (bytes_of (0 ∷ 0x01000001 ∷ []))) 0x1000 ≡ Err Reserved
unfolding opened
reserved-byte = refl

-- the whole record before Res: one scope with Res 1, and no code word
whole-record : full_shape (x (bytes_of (0x10800010 ∷ 0x00040000 ∷ []))) 0x1000 ≡ Err OutsideXdata
unfolding opened
whole-record = refl

scope-res : full_shape (x (bytes_of (0x10800010 ∷ 0x00040000 ∷ 0xFF ∷ []))) 0x1000 ≡ Err Reserved
unfolding opened
scope-res = refl

-- the size routine (RULES 2.13, 9.55) does not look at Res, clears the RVA's bits 0-1, and gives 1 first
size-stops : xdata_size (x (bytes_of (0x10800010 ∷ 0x00040000 ∷ 0xFF ∷ []))) 0x1003 ≡ Ok 12
unfolding opened
size-stops = refl

size-unfit : xdata_size (record { base = 0x1002; bytes = [] }) 0x1000 ≡ Err UnfitInput
unfolding opened
size-unfit = refl

-- packed words that cannot be, one for each case of RULES 4.5
flag-3 : packed_shape 0x00900043 ≡ Err Reserved
unfolding opened
flag-3 = refl

ret-l : packed_shape 0x00810041 ≡ Err Reserved
unfolding opened
ret-l = refl

c-l : packed_shape 0x00A12041 ≡ Err Reserved
unfolding opened
c-l = refl

c-reg-7 : packed_shape 0x00B70041 ≡ Err Reserved
unfolding opened
c-reg-7 = refl
