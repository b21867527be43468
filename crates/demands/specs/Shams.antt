-- Shams (RULES 10.23): readers that look like one, and that a demand must break (proofs/Refuted.antt).
use Rattle.std.specs.Prelude.{ℕ, ◌-◌, ◌<◌, ◌≡◌, List, [], ◌∷◌, ◌++◌, leb, eqb, length, take, replicate, get_or, if◌then◌else◌, Ok, Err}
use Rattle.words.specs.Bits.{bit}
use Rattle.lent.specs.Lent.{Lent, word_at}
use Rattle.words.specs.Units.{code_bytes}
use Rattle.words.specs.declared.Place.TheVariants.{Leaf}
use Rattle.words.specs.declared.Refusal.{Refusal}
use Rattle.words.specs.Answer.{Res, ◌>>◌}
use Rattle.machine.specs.declared.Regs.{Regs}
use Rattle.xdata.specs.Xdata.{size_given}
use Rattle.packed.specs.declared.Packed.{Packed}
use Rattle.packed_codes.specs.declared.CodesOf.{CodesOf}
use Rattle.frame.specs.Frame.{Inputs, unwound, leaf_of}
use Rattle.frame.specs.declared.Told.{Told}
use Rattle.frame.specs.declared.Unwound.{Unwound}
use Rattle.walking.specs.declared.Frame.{Frame}
use Rattle.walking.specs.declared.WalkedAll.{WalkedAll}
use Rattle.demands.specs.Reader.{Reader, ours}

-- ours, but for one frame's answer
abbrev pub with-unwind : (Inputs → Regs → Unwound) → Reader
with-unwind u =
    record { find = ours.find; unwind = u; walk = ours.walk; size = ours.size; word = ours.word; codes = ours.codes; list = ours.list; show = ours.show }

-- it always refuses
abbrev pub refusing : (Inputs → Regs → Refusal) → Reader
refusing r = with-unwind (λ t g. unwound g (Err (r t g)))

-- it always has the same caller
abbrev pub fixed : Unwound → Reader
fixed u = with-unwind (λ t g. u)

-- it answers like a leaf
abbrev pub as-leaf : Reader
as-leaf = with-unwind (λ t g. unwound g (Ok (leaf_of g)))

-- its count of codes is made up, in any way: a refused frame that should count some is told as a leaf that does
abbrev pub told_with : ℕ → Res Told → Res Told
told_with n (Ok c) = Ok (record { place = c.place; handler = c.handler; codes = n })
told_with n (Err r) = if eqb n 0 then Err r else Ok (record { place = Leaf; handler = 0; codes = n })

abbrev pub recounted : ℕ → Unwound → Unwound
recounted n u = record { regs = u.regs; told = told_with n u.told }

abbrev pub inventing : (Inputs → Regs → ℕ) → Reader
inventing count = with-unwind (λ t g. recounted (count t g) (ours.unwind t g))

-- its walk repeats its first frame: any reader whose walks list no other
abbrev pub Copying : Reader → Type 0
Copying a =
    (t : Inputs) (g : Regs) (l : List Frame) (none : Frame) (i : ℕ) → i < (a.walk t g l).walked.frames
    → get_or (a.walk t g l).list i none ≡ get_or (a.walk t g l).list 0 none

-- More, that demand 2's laws break (proofs/Finding.antt, OneWalk.antt, Sizing.antt, Packing.antt).
-- ours, but that it looks at the table's first record only
abbrev pub first-only : Reader
first-only =
    record { find = λ image s pc. ours.find image (take 8 s) pc; unwind = ours.unwind; walk = ours.walk; size = ours.size; word = ours.word; codes = ours.codes; list = ours.list; show = ours.show }

-- ours, but for the walk: its sum of codes invented; begun at the caller where there is room for one frame alone
abbrev pub with-walk : (Inputs → Regs → List Frame → WalkedAll) → Reader
with-walk w =
    record { find = ours.find; unwind = ours.unwind; walk = w; size = ours.size; word = ours.word; codes = ours.codes; list = ours.list; show = ours.show }

abbrev pub summing : (Inputs → Regs → List Frame → ℕ) → Reader
summing sum = with-walk (λ t g l. let w = ours.walk t g l in record { walked = record { stop = w.walked.stop; frames = w.walked.frames; codes = sum t g l }; list = w.list })

abbrev pub skipping : Reader
skipping = with-walk (λ t g l. ours.walk t (if leb (length l) 1 then (ours.unwind t g).regs else g) l)

-- ours, but for the bytes of a size: those without the handler's word
abbrev pub resized : (Lent → ℕ → ℕ) → Reader
resized n =
    record { find = ours.find; unwind = ours.unwind; walk = ours.walk; size = λ x at. ours.size x at >> Ok (n x at); word = ours.word; codes = ours.codes; list = ours.list; show = ours.show }

abbrev pub handlerless : Lent → ℕ → ℕ
handlerless x at = size_given (ours.size x at) - (if bit 20 (word_at x at) then 4 else 0)

-- ours, but for packed words and their code bytes
abbrev pub with-packed : (Packed → Res ℕ) → (ℕ → Res CodesOf) → Reader
with-packed word codes =
    record { find = ours.find; unwind = ours.unwind; walk = ours.walk; size = ours.size; word = word; codes = codes; list = ours.list; show = ours.show }

-- words written without H
abbrev pub forgetting : Reader
forgetting =
    with-packed (λ p. ours.word (record { flag = p.flag; length = p.length; ret = p.ret; h = 0; reg = p.reg; r = p.r; l = p.l; c = p.c; adjust = p.adjust })) ours.codes

-- other lists for one word
abbrev pub coding : ℕ → (first second : List ℕ) → Reader
coding word k l =
    with-packed ours.word (λ w. if eqb w word then Ok (record { bytes = take 16 (k ++ l ++ replicate 16 0); first = code_bytes (length k); second = code_bytes (length l) }) else ours.codes w)

-- pop {r4,lr} coded as D4, of 16 bits, while it has 32 (RULES 4.20), in an epilogue that branches: Ret=1, L=1
abbrev pub narrow-pop : Reader
narrow-pop = coding 0x00102041 (0xD4 ∷ 0xFF ∷ []) (0xD4 ∷ 0xFD ∷ [])

-- the prologue's codes not in reverse: push {r4,r5,lr}; sub sp,#512
abbrev pub unreversed : Reader
unreversed = coding 0x20110041 (0xD5 ∷ 0xE8 ∷ 0x80 ∷ 0xFF ∷ []) (0xE8 ∷ 0x80 ∷ 0xD5 ∷ 0xFF ∷ [])

-- a code writer that gives mov r11,sp 32 bits, as before order 4 (RULES 4.21)
abbrev pub wide-chain : Reader
wide-chain = coding 0x003F0041 (0xFC ∷ 0xA8 ∷ 0x00 ∷ 0xFF ∷ []) (0xA8 ∷ 0x00 ∷ 0xFF ∷ [])
