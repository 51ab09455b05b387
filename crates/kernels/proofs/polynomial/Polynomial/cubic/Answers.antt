-- `kernels::polynomial::Polynomial::cubic` meets its contract. Assumes nothing.
use Rattle.std.proofs.Common.{◌^◌, pos}
use Rattle.integers.specs.Ring.{Expr, var, lit, ◌:+◌, ◌:*◌}
use Rattle.integers.specs.Machine.{fits, gives}
use Rattle.kernels_spec.specs.Value.{polynomial}
use Rattle.kernels_spec.proofs.Rows.{polynomial_e}
use Rattle.kernels.proofs.Columns.{known}
use Rattle.kernels.proofs.polynomial.Polynomial.cubic.Goals as goal

abbrev a : Expr
a = var 3 :* var 4 :+ var 2 :* lit (pos (2 ^ 14))

abbrev b : Expr
b = a :* var 4 :+ var 1 :* lit (pos (2 ^ 28))

abbrev sum : Expr
sum = b :* var 4 :+ var 0 :* lit (pos (2 ^ 42))

pub returns : goal.returns
unfolding polynomial
returns c = gives (known c.args.self) sum (polynomial_e var (var 4) (lit (pos (2 ^ 14)))) tt tt

pub overflow_add-a : goal.overflow_add-a
overflow_add-a c = fits (known c.args.self) a tt

pub overflow_mul-b : goal.overflow_mul-b
overflow_mul-b c = fits (known c.args.self) (a :* var 4) tt

pub overflow_add-b : goal.overflow_add-b
overflow_add-b c = fits (known c.args.self) b tt

pub overflow_mul-result : goal.overflow_mul-result
overflow_mul-result c = fits (known c.args.self) (b :* var 4) tt

pub overflow_add-result : goal.overflow_add-result
overflow_add-result c = fits (known c.args.self) sum tt
