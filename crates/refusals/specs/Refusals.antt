-- The numbers of the refusals. Definitions only.
use Rattle.std.specs.Prelude.{Result, Ok, Err, ℕ}
use Rattle.refusals.specs.declared.Refusal.{Refusal}
use Rattle.refusals.specs.declared.Refusal.TheVariants as refusal

-- the number by which a host and the papers know a refusal
abbrev pub refusal_number : Refusal → ℕ
refusal_number refusal.UnknownKernel = 1
refusal_number refusal.BadRatio = 2
refusal_number refusal.ZeroRate = 3
refusal_number refusal.WordOutOfRange = 4
refusal_number refusal.BadState = 5
refusal_number refusal.NoLineEnd = 6
refusal_number refusal.WrongLetter = 7
refusal_number refusal.NotADigit = 8
refusal_number refusal.WrongLength = 9
refusal_number refusal.WrongCheck = 10
refusal_number refusal.SmallBuffer = 11
refusal_number refusal.BadBuffer = 12
refusal_number refusal.BadLanes = 13
refusal_number refusal.Unwritable = 14
refusal_number refusal.NotNext = 15
refusal_number refusal.QueueFull = 16

-- what a call for a host returns: 0, or the number of its refusal
abbrev pub answer_number : {A : Type 0} → Result A Refusal → ℕ
answer_number (Ok a) = 0
answer_number (Err r) = refusal_number r
