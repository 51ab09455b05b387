-- The numbers of a polynomial, v0 to v3 and m, with their ranges: what its three sums are computed over. Assumes nothing.
use Rattle.std.proofs.Common.{◌*◌, ◌^◌, List, [], ◌∷◌, ℤ}
use Rattle.integers.specs.Range.{Interval, ±◌, w-in}
use Rattle.integers.specs.Machine.{Known, none, ◌&◌}
use Rattle.kernels.specs.declared.polynomial.Polynomial.{Polynomial}
use Rattle.kernels.specs.Scale.{weight}

abbrev pub numbers : Polynomial → List ℤ
numbers p = p.v0 ∷ p.v1 ∷ p.v2 ∷ p.v3 ∷ p.m ∷ []

abbrev pub ranges : List Interval
ranges = ± (weight 0 * 2 ^ 15) ∷ ± (weight 1 * 2 ^ 15) ∷ ± (weight 2 * 2 ^ 15) ∷ ± (weight 3 * 2 ^ 15) ∷ ± (2 ^ 14) ∷ []

pub known : (p : Polynomial) → Known (numbers p) ranges
known p = w-in p.v0_small & w-in p.v1_small & w-in p.v2_small & w-in p.v3_small & w-in p.m_small & none
