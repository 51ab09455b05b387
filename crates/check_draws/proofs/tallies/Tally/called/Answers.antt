-- `check_draws::tallies::Tally::called` counts a refusal by its number.
use Rattle.check_draws.proofs.Counted.{refused, answered}
use Rattle.check_draws.proofs.tallies.Tally.called.Goals as goal

pub returns-clause-refused : goal.returns-clause-refused
returns-clause-refused c = refused c.args.refusal c.number_of.result c.number_of.ensures.some c.called_by.ensures.refused

pub returns-clause-answered : goal.returns-clause-answered
returns-clause-answered c = answered c.args.refusal c.number_of.result c.number_of.ensures.none c.called_by.ensures.answered
