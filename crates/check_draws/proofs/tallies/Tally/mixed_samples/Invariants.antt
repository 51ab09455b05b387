-- `check_draws::tallies::Tally::mixed_samples` keeps the hash below 2^47, and the totals as they were.
use Rattle.std.proofs.Common.{◌≡◌, ◌^◌, ◌<◌}
use Rattle.check_draws.specs.Tallies.{with_hash}
use Rattle.check_draws.proofs.tallies.Tally.mixed_samples.Given as goal

abbrev pub invariant-loop-x : goal.invariant-loop-x
invariant-loop-x l = record {
  hash : l.self.hash < 2 ^ 47;
  totals : l.self ≡ with_hash l.fn.self l.self.hash;
}
