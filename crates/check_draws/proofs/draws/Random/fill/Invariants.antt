-- `check_draws::draws::Random::fill` has drawn the places so far.
use Rattle.std.proofs.Common.{All, take}
use Rattle.check_draws.specs.Draws.{IsDrawn}
use Rattle.check_draws.proofs.draws.Random.fill.Given as goal

abbrev pub invariant-loop-place : goal.invariant-loop-place
invariant-loop-place l = All (IsDrawn l.kind) (take l.place-index l.place-items)
