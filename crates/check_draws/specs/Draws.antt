-- What is drawn. Definitions only.
use Rattle.std.specs.Prelude.{◌≡◌, ◌⊎◌, ⊤, ℕ, zero, suc, ℤ, pos, neg_ℤ, ◌≤ℤ◌}
use Rattle.check_draws.specs.declared.draws.Samples.{Samples}
use Rattle.check_draws.specs.declared.draws.Samples.TheVariants as samples

-- a sample of the kind
abbrev pub IsDrawn : Samples → ℤ → Type 0
IsDrawn samples.Small x = (neg_ℤ (pos 100) ≤ℤ x) × (x ≤ℤ pos 99)
IsDrawn samples.Outermost x = (x ≡ neg_ℤ (pos 32768)) ⊎ (x ≡ pos 32767)
IsDrawn samples.Any x = ⊤

-- the kind of a number
abbrev pub kind_of : ℕ → Samples
kind_of zero = samples.Small
kind_of (suc zero) = samples.Outermost
kind_of (suc (suc n)) = samples.Any
