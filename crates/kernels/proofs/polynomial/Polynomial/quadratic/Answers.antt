-- `kernels::polynomial::Polynomial::quadratic` meets its contract. Assumes nothing.
use Rattle.std.proofs.Common.{◌^◌, ℤ, pos, ◌*ℤ◌, ap, ◌∙◌}
use Rattle.integers.specs.Ring.{Expr, var, lit, ◌:+◌, ◌:*◌, ring}
use Rattle.integers.specs.Machine.{fits, computes}
use Rattle.kernels_spec.specs.Kernel.{four}
use Rattle.kernels_spec.specs.Value.{polynomial}
use Rattle.kernels_spec.proofs.Rows.{polynomial_e}
use Rattle.kernels.proofs.Columns.{numbers, known}
use Rattle.kernels.proofs.polynomial.Polynomial.quadratic.Goals as goal

abbrev a : Expr
a = var 2 :* var 4 :+ var 1 :* lit (pos (2 ^ 14))

abbrev sum : Expr
sum = a :* var 4 :+ var 0 :* lit (pos (2 ^ 28))

pub returns : goal.returns
unfolding polynomial
returns c =
    let p = c.args.self in
    ap (λ (z : ℤ). z *ℤ pos (2 ^ 14)) (computes (known p) sum tt)
    ∙ ring (numbers p) (sum :* lit (pos (2 ^ 14))) (polynomial_e (four (var 0) (var 1) (var 2) (lit (pos 0))) (var 4) (lit (pos (2 ^ 14)))) tt

pub overflow_add-a : goal.overflow_add-a
overflow_add-a c = fits (known c.args.self) a tt

pub overflow_mul-result : goal.overflow_mul-result
overflow_mul-result c = fits (known c.args.self) (a :* var 4) tt

pub overflow_add-result : goal.overflow_add-result
overflow_add-result c = fits (known c.args.self) sum tt
