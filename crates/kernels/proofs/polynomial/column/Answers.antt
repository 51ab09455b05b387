-- `kernels::polynomial::column` meets its contract. Assumes nothing.
use Rattle.std.proofs.Common.{◌≡◌, ℕ, ◌*◌, ◌^◌, ◌<◌, List, [], ◌∷◌, ℤ, pos, negsuc, ◌+ℤ◌, ◌*ℤ◌, sym, ◌∙◌, subst, lit<, w16, SFits, rules}
use lib.Signed.{le_z_yes}
use Rattle.integers.specs.Ring.{Expr, var, cast, ◌:+◌, ◌:*◌}
use Rattle.integers.specs.Range.{In, Interval, ◌to◌, ±◌, w-in, in-w, weaken}
use Rattle.integers.specs.Within.{Within}
use Rattle.integers.specs.Machine.{Known, none, ◌&◌, computed, whole, fits, computes}
use Rattle.integers.specs.Operations.{elem-sfits}
use Rattle.kernels_spec.specs.Kernel.{places, kernel_of}
use Rattle.kernels_spec.specs.Value.{column}
use Rattle.kernels.specs.Scale.{weight, number_of}
use Rattle.kernels.proofs.CoefficientTable.{coefficient-within, column-within}
use Rattle.kernels.proofs.polynomial.column.Goals as goal

-- ---- the code, over the coefficients and the samples of xm, x0, x1, x2
abbrev term : ℕ → ℕ → Expr
term c x = var c :* cast w16 x

abbrev sum : Expr
sum = term 0 4 :+ term 1 5 :+ term 2 6 :+ term 3 7

abbrev sample : Interval
sample = negsuc 32767 to pos 32767

module _ (k power : ℕ) (h : power < 4) (row x : List ℤ) (is : (place : ℕ) → places row place ≡ (kernel_of k).coefficient power place) (s : (i : ℕ) → SFits w16 (places x i)) where
  abbrev numbers : List ℤ
  numbers = places row 0 ∷ places row 1 ∷ places row 2 ∷ places row 3 ∷ places x 0 ∷ places x 1 ∷ places x 2 ∷ places x 3 ∷ []

  six : (place : ℕ) → place < 4 → In (negsuc 5) (pos 6) (places row place)
  six place l = subst (In (negsuc 5) (pos 6)) (sym (is place)) (w-in (coefficient-within k power h place l))

  known : Known numbers (± 6 ∷ ± 6 ∷ ± 6 ∷ ± 6 ∷ sample ∷ sample ∷ sample ∷ sample ∷ [])
  known = six 0 (lit< tt) & six 1 (lit< tt) & six 2 (lit< tt) & six 3 (lit< tt) & whole w16 (s 0) & whole w16 (s 1) & whole w16 (s 2) & whole w16 (s 3) & none

  value : computed numbers sum ≡ column ((kernel_of k).coefficient power) (places x)
  unfolding column
  value = computes known sum tt ∙ (λ i. is 0 i *ℤ places x 0 +ℤ is 1 i *ℤ places x 1 +ℤ is 2 i *ℤ places x 2 +ℤ is 3 i *ℤ places x 3)

  size : Within (weight power * 2 ^ 15) (computed numbers sum)
  size =
      let within : (i : ℕ) → Within (2 ^ 15) (places x i) = λ i. in-w (weaken (le_z_yes tt) (le_z_yes tt) (whole w16 (s i))) in
      subst (Within (weight power * 2 ^ 15)) (sym value) (column-within k power h (places x) (within 0) (within 1) (within 2) (within 3))

pub returns-clause-value : goal.returns-clause-value
returns-clause-value c = value (number_of c.args.kernel) c.args.power c.requires c.row.result c.args.x c.row.ensures (λ i. search (rules, elem-sfits))

pub returns-clause-small : goal.returns-clause-small
returns-clause-small c = size (number_of c.args.kernel) c.args.power c.requires c.row.result c.args.x c.row.ensures (λ i. search (rules, elem-sfits))

pub overflow_mul-result : goal.overflow_mul-result
overflow_mul-result c = fits (known (number_of c.args.kernel) c.args.power c.requires c.row.result c.args.x c.row.ensures (λ i. search (rules, elem-sfits))) (term 0 4) tt

pub overflow_mul-result-2 : goal.overflow_mul-result-2
overflow_mul-result-2 c = fits (known (number_of c.args.kernel) c.args.power c.requires c.row.result c.args.x c.row.ensures (λ i. search (rules, elem-sfits))) (term 1 5) tt

pub overflow_add-result : goal.overflow_add-result
overflow_add-result c = fits (known (number_of c.args.kernel) c.args.power c.requires c.row.result c.args.x c.row.ensures (λ i. search (rules, elem-sfits))) (term 0 4 :+ term 1 5) tt

pub overflow_mul-result-3 : goal.overflow_mul-result-3
overflow_mul-result-3 c = fits (known (number_of c.args.kernel) c.args.power c.requires c.row.result c.args.x c.row.ensures (λ i. search (rules, elem-sfits))) (term 2 6) tt

pub overflow_add-result-2 : goal.overflow_add-result-2
overflow_add-result-2 c = fits (known (number_of c.args.kernel) c.args.power c.requires c.row.result c.args.x c.row.ensures (λ i. search (rules, elem-sfits))) (term 0 4 :+ term 1 5 :+ term 2 6) tt

pub overflow_mul-result-4 : goal.overflow_mul-result-4
overflow_mul-result-4 c = fits (known (number_of c.args.kernel) c.args.power c.requires c.row.result c.args.x c.row.ensures (λ i. search (rules, elem-sfits))) (term 3 7) tt

pub overflow_add-result-3 : goal.overflow_add-result-3
overflow_add-result-3 c = fits (known (number_of c.args.kernel) c.args.power c.requires c.row.result c.args.x c.row.ensures (λ i. search (rules, elem-sfits))) sum tt
