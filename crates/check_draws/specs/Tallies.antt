-- What is tallied. Definitions only.
use Rattle.std.specs.Prelude.{ℕ}
use Rattle.check_draws.specs.declared.tallies.Tally.{Tally}

-- another hash, and the same totals
abbrev pub with_hash : Tally → ℕ → Tally
with_hash t h = record { hash = h; calls = t.calls; taken = t.taken; written = t.written; high = t.high; low = t.low; refused = t.refused }
