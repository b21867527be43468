-- Where a walk stops, and with what: vectors for each stop, and for the refusals that only a walk gives.
-- Assumes nothing.
use Prim.Native.Nat.{ℕ}
use mathlib.Core.Path.{◌≡◌, refl}
use mathlib.Core.List.{List, [], ◌∷◌}
use lib.ListN.{replicate}
use Rattle.words.specs.declared.Place.{Place}
use Rattle.words.specs.declared.Place.TheVariants.{Leaf, Body}
use Rattle.words.specs.declared.Refusal.TheVariants.{NoRecord, SpSame}
use Rattle.machine.specs.declared.Regs.{Regs}
use Rattle.frame.specs.Frame.{Inputs}
use Rattle.walking.specs.declared.Frame.{Frame}
use Rattle.walking.specs.declared.Stop.TheVariants.{End, Full, Refused}
use Rattle.walking.specs.Walk.{walk, filled}
use Rattle.lent.proofs.Bytes.{bytes_of}
use Rattle.walking.proofs.Opened.{opened}

abbrev regs : (pc sp lr : ℕ) → Regs
regs c s l = record { r = replicate 13 0; sp = s; lr = l; pc = c; d = replicate 32 0 }

-- a function push {lr}; sub sp,#4 at 0x1000, codes 01 ED 00 FF, over these words of stack
abbrev inputs : List ℕ → Inputs
inputs ws =
    record { image = 0x400000; pdata = bytes_of (0x1000 ∷ 0x005F0041 ∷ []); xdata = record { base = 0; bytes = [] }; stack = record { base = 0x20000; bytes = bytes_of ws } }

abbrev at : (pc sp : ℕ) → Place → Frame
at c s p = record { pc = c; sp = s; place = p }

-- pc 0 in the caller is the end, also where the list is full then (RULES 7.4): one record, and one frame
end-before-full : walk (inputs (9 ∷ 0 ∷ [])) 1 (regs 0x401008 0x20000 0) ≡ record { frames = at 0x401008 0x20000 Body ∷ []; stop = End; codes = 2 }
unfolding opened
end-before-full = refl

-- a return address of 1 is pc 0
end-odd : (walk (inputs (9 ∷ 1 ∷ [])) 1 (regs 0x401008 0x20000 0)).stop ≡ End
unfolding opened
end-odd = refl

-- without room it stops before the next frame, and in a list of no records before any refusal (RULES 7.3)
full-after-1 :
    walk (inputs (9 ∷ 0x401009 ∷ 9 ∷ 0 ∷ [])) 1 (regs 0x401008 0x20000 0) ≡ record { frames = at 0x401008 0x20000 Body ∷ []; stop = Full; codes = 2 }
unfolding opened
full-after-1 = refl

full-at-0 : walk (inputs []) 0 (regs 0 1 0) ≡ record { frames = []; stop = Full; codes = 0 }
unfolding opened
full-at-0 = refl

-- a first frame may be a leaf and keep SP; a later one is 12 (RULES 7.6)
leaf_first :
    walk (inputs (9 ∷ 0 ∷ [])) 9 (regs 0x409000 0x20000 0x401009)
    ≡ record { frames = at 0x409000 0x20000 Leaf ∷ at 0x401008 0x20000 Body ∷ []; stop = End; codes = 2 }
unfolding opened
leaf_first = refl

later-12 :
    walk (inputs (9 ∷ 0x409001 ∷ [])) 9 (regs 0x401008 0x20000 0)
    ≡ record { frames = at 0x401008 0x20000 Body ∷ []; stop = Refused NoRecord 0x409000; codes = 2 }
unfolding opened
later-12 = refl

-- a return address at a function's start, where no code is run: 13 (RULES 7.8)
later-13 : (walk (inputs (9 ∷ 0x401001 ∷ [])) 9 (regs 0x401008 0x20000 0)).stop ≡ Refused SpSame 0x401000
unfolding opened
later-13 = refl

-- the list that was lent: frames in front, the rest as it was
lent-list :
    filled (replicate 3 (at 1 2 Leaf)) (walk (inputs (9 ∷ 0x409001 ∷ [])) 3 (regs 0x401008 0x20000 0))
    ≡ at 0x401008 0x20000 Body ∷ at 1 2 Leaf ∷ at 1 2 Leaf ∷ []
unfolding opened
lent-list = refl
