-- `check_draws::tallies::Tally::answered_with` counts a refusal by its number.
use Rattle.check_draws.proofs.Counted.{refused, answered}
use Rattle.check_draws.proofs.tallies.Tally.answered_with.Goals as goal

pub returns-clause-refused : goal.returns-clause-refused
returns-clause-refused c = refused c.args.refusal c.number_of.result c.number_of.ensures.some c.answered_by.ensures.refused

pub returns-clause-answered : goal.returns-clause-answered
returns-clause-answered c = answered c.args.refusal c.number_of.result c.number_of.ensures.none c.answered_by.ensures.answered
