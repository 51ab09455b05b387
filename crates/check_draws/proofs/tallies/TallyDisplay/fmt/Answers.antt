-- What `check_draws::tallies::TallyDisplay::fmt` writes.
use Rattle.std.proofs.Common.{append_assoc}
use Rattle.std.proofs.Output.{has_written_of_eq}
use Rattle.std.proofs.lemmas.List.{append-nil}
use Rattle.check_draws.proofs.tallies.TallyDisplay.fmt.Goals as goal

pub returns-clause-writes : goal.returns-clause-writes
returns-clause-writes g c = λ plain ok. has_written_of_eq _ _ _ _ _ (simp (append_assoc, append-nil)) (c.write.ensures.writes plain ok)
