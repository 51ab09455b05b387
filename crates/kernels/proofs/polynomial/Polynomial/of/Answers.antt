-- `kernels::polynomial::Polynomial::of` meets its contract. Assumes nothing.
use Rattle.std.proofs.Common.{ℕ, ◌^◌, ℤ, sym, subst, to_z-of_z, w64, SFits}
use borrow.Author.Rules.{sfits_of}
use Rattle.integers.specs.Within.{Within}
use Rattle.integers.specs.Machine.{stored}
use Rattle.kernels_spec.proofs.Numbers.{fraction-within}
use Rattle.kernels.specs.Scale.{number_of}
use Rattle.kernels.proofs.polynomial.Polynomial.of.Goals as goal

-- what the machine reads is as small
small : {B : ℕ} {z : ℤ} → SFits w64 z → Within B z → Within B (stored z)
small {B} f h = subst (Within B) (sym (to_z-of_z f)) h

pub invariant_of-result : goal.invariant_of-result
invariant_of-result c = record {
  v0_small = small (sfits_of c.column.type_inv) c.column.ensures.small;
  v1_small = small (sfits_of c.column-2.type_inv) c.column-2.ensures.small;
  v2_small = small (sfits_of c.column-3.type_inv) c.column-3.ensures.small;
  v3_small = small (sfits_of c.column-4.type_inv) c.column-4.ensures.small;
  m_small = small (sfits_of c.fraction.type_inv) (subst (Within (2 ^ 14)) (sym c.fraction.ensures) (fraction-within (number_of c.args.kernel) c.args.register));
}
