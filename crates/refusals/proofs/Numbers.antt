-- The numbers of the refusals are 1 to 16, and no two refusals have one number, so that a number tells all that a refusal does. Assumes nothing.
use Rattle.std.specs.Prelude.{◌≡◌, refl, List, [], ◌∷◌, ℕ, ◌-◌, ◌≤◌, get_or}
use Rattle.std.proofs.Common.{sym, ap, ◌∙◌, lit≤}
use Rattle.refusals.specs.declared.Refusal.{Refusal}
use Rattle.refusals.specs.declared.Refusal.TheVariants as refusal
use Rattle.refusals.specs.Refusals.{refusal_number}

-- all refusals, in the order of their numbers
abbrev pub refusals : List Refusal
refusals =
    refusal.UnknownKernel
    ∷ refusal.BadRatio
    ∷ refusal.ZeroRate
    ∷ refusal.WordOutOfRange
    ∷ refusal.BadState
    ∷ refusal.NoLineEnd
    ∷ refusal.WrongLetter
    ∷ refusal.NotADigit
    ∷ refusal.WrongLength
    ∷ refusal.WrongCheck
    ∷ refusal.SmallBuffer
    ∷ refusal.BadBuffer
    ∷ refusal.BadLanes
    ∷ refusal.Unwritable
    ∷ refusal.NotNext
    ∷ refusal.QueueFull
    ∷ []

-- the refusal with a number
abbrev pub refusal_at : ℕ → Refusal
refusal_at n = get_or refusals (n - 1) refusal.UnknownKernel

-- the refusal with a refusal's number is that one
pub refusal_at-number : (r : Refusal) → refusal_at (refusal_number r) ≡ r
refusal_at-number refusal.UnknownKernel = refl
refusal_at-number refusal.BadRatio = refl
refusal_at-number refusal.ZeroRate = refl
refusal_at-number refusal.WordOutOfRange = refl
refusal_at-number refusal.BadState = refl
refusal_at-number refusal.NoLineEnd = refl
refusal_at-number refusal.WrongLetter = refl
refusal_at-number refusal.NotADigit = refl
refusal_at-number refusal.WrongLength = refl
refusal_at-number refusal.WrongCheck = refl
refusal_at-number refusal.SmallBuffer = refl
refusal_at-number refusal.BadBuffer = refl
refusal_at-number refusal.BadLanes = refl
refusal_at-number refusal.Unwritable = refl
refusal_at-number refusal.NotNext = refl
refusal_at-number refusal.QueueFull = refl

-- no two refusals have one number
pub refusal_number-injective : (a b : Refusal) → refusal_number a ≡ refusal_number b → a ≡ b
refusal_number-injective a b e = sym (refusal_at-number a) ∙ (ap refusal_at e ∙ refusal_at-number b)

-- the numbers are 1 to 16
pub refusal_number-within : (r : Refusal) → (1 ≤ refusal_number r) × (refusal_number r ≤ 16)
refusal_number-within refusal.UnknownKernel = (lit≤ tt, lit≤ tt)
refusal_number-within refusal.BadRatio = (lit≤ tt, lit≤ tt)
refusal_number-within refusal.ZeroRate = (lit≤ tt, lit≤ tt)
refusal_number-within refusal.WordOutOfRange = (lit≤ tt, lit≤ tt)
refusal_number-within refusal.BadState = (lit≤ tt, lit≤ tt)
refusal_number-within refusal.NoLineEnd = (lit≤ tt, lit≤ tt)
refusal_number-within refusal.WrongLetter = (lit≤ tt, lit≤ tt)
refusal_number-within refusal.NotADigit = (lit≤ tt, lit≤ tt)
refusal_number-within refusal.WrongLength = (lit≤ tt, lit≤ tt)
refusal_number-within refusal.WrongCheck = (lit≤ tt, lit≤ tt)
refusal_number-within refusal.SmallBuffer = (lit≤ tt, lit≤ tt)
refusal_number-within refusal.BadBuffer = (lit≤ tt, lit≤ tt)
refusal_number-within refusal.BadLanes = (lit≤ tt, lit≤ tt)
refusal_number-within refusal.Unwritable = (lit≤ tt, lit≤ tt)
refusal_number-within refusal.NotNext = (lit≤ tt, lit≤ tt)
refusal_number-within refusal.QueueFull = (lit≤ tt, lit≤ tt)
