-- What C links promises what `exports` does, word for word: for each function, its clauses as a caller learns them are those of the function
-- of that name, which the theorems on functions for C are about (crates/demands).
-- Assumes nothing.
use mathlib.Core.Path.{◌≡◌, refl}
use borrow.Fn.Kinds.{In, Out}
use Rattle.exports.proofs.leafbobbin_walk.Kinds as Walk·kinds
use Rattle.exports.proofs.leafbobbin_walk.Reads as Walk
use Rattle.exports_c.proofs.leafbobbin_walk.Reads as CWalk
use Rattle.exports.proofs.leafbobbin_caller.Kinds as Caller·kinds
use Rattle.exports.proofs.leafbobbin_caller.Reads as Caller
use Rattle.exports_c.proofs.leafbobbin_caller.Reads as CCaller
use Rattle.exports.proofs.leafbobbin_find.Kinds as Find·kinds
use Rattle.exports.proofs.leafbobbin_find.Reads as Find
use Rattle.exports_c.proofs.leafbobbin_find.Reads as CFind
use Rattle.exports.proofs.leafbobbin_size.Kinds as Size·kinds
use Rattle.exports.proofs.leafbobbin_size.Reads as Size
use Rattle.exports_c.proofs.leafbobbin_size.Reads as CSize
use Rattle.exports.proofs.leafbobbin_word.Kinds as Word·kinds
use Rattle.exports.proofs.leafbobbin_word.Reads as Word
use Rattle.exports_c.proofs.leafbobbin_word.Reads as CWord
use Rattle.exports.proofs.leafbobbin_codes.Kinds as Codes·kinds
use Rattle.exports.proofs.leafbobbin_codes.Reads as Codes
use Rattle.exports_c.proofs.leafbobbin_codes.Reads as CCodes

pub walk-asks : ◌≡◌ {A = In 2 Walk·kinds.ps} CWalk.Asked Walk.Asked
walk-asks = refl

pub walk-allows : ◌≡◌ {A = Out 2 Walk·kinds.ps Walk·kinds.r} CWalk.Learnt Walk.Learnt
walk-allows = refl

pub caller-asks : ◌≡◌ {A = In 2 Caller·kinds.ps} CCaller.Asked Caller.Asked
caller-asks = refl

pub caller-allows : ◌≡◌ {A = Out 2 Caller·kinds.ps Caller·kinds.r} CCaller.Learnt Caller.Learnt
caller-allows = refl

pub find-asks : ◌≡◌ {A = In 2 Find·kinds.ps} CFind.Asked Find.Asked
find-asks = refl

pub find-allows : ◌≡◌ {A = Out 2 Find·kinds.ps Find·kinds.r} CFind.Learnt Find.Learnt
find-allows = refl

pub size-asks : ◌≡◌ {A = In 2 Size·kinds.ps} CSize.Asked Size.Asked
size-asks = refl

pub size-allows : ◌≡◌ {A = Out 2 Size·kinds.ps Size·kinds.r} CSize.Learnt Size.Learnt
size-allows = refl

pub word-asks : ◌≡◌ {A = In 2 Word·kinds.ps} CWord.Asked Word.Asked
word-asks = refl

pub word-allows : ◌≡◌ {A = Out 2 Word·kinds.ps Word·kinds.r} CWord.Learnt Word.Learnt
word-allows = refl

pub codes-asks : ◌≡◌ {A = In 2 Codes·kinds.ps} CCodes.Asked Codes.Asked
codes-asks = refl

pub codes-allows : ◌≡◌ {A = Out 2 Codes·kinds.ps Codes·kinds.r} CCodes.Learnt Codes.Learnt
codes-allows = refl
