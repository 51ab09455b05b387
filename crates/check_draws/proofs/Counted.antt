-- A call counts as refused just where it was. Assumes nothing.
use Rattle.std.proofs.Common.{◌≡◌, ℕ, Option, Some, None, IfSome, IfNone, arith}
use Rattle.refusals.specs.declared.Refusal.{Refusal}
use Rattle.refusals.specs.Refusals.{refusal_number}
use Rattle.refusals.proofs.Numbers.{refusal_number-within}

-- a refusal's number is not 0
pub refused : {P : Type 0} (refusal : Option Refusal) (n : ℕ) → IfSome refusal (λ r. n ≡ refusal_number r) → ((n ≡ 0 → ⊥) → P) → IfSome refusal (λ _. P)
refused None n e f = tt
refused (Some r) n e f = f (λ z. let w = refusal_number-within r in omega (arith, w.0, e, z))

-- and where there is none it is 0
pub answered : {P : Type 0} (refusal : Option Refusal) (n : ℕ) → IfNone refusal (n ≡ 0) → (n ≡ 0 → P) → IfNone refusal P
answered None n e f = f e
answered (Some r) n e f = tt
