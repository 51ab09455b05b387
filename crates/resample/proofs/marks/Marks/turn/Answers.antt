use Rattle.std.proofs.Common.{arith, false, ◌++◌, ◌-◌, take, drop, rules}
use Rattle.program_spec.specs.Turn.{as_turn}
use Rattle.resample.specs.Buffers.{as_marks}
use Rattle.resample.proofs.Marking.{MadeTurn, made-turn}
use Rattle.resample.proofs.marks.Marks.turn.Goals as goal
use Rattle.resample.proofs.marks.Marks.turn.Goals.{After-make_turn-made}

-- the turn that was made
turned : (c : After-make_turn-made) → let m = c.args.self.now in let text = c.args.text.now in
    MadeTurn (as_marks m false) c.args.bytes.now text (as_turn c.make_turn-made.result) (take m.filled text ++ (c.make_turn-made.new.text ++ drop (65536 - m.filled) (drop m.filled text)))
turned c =
    let m = c.args.self.now in
    made-turn (as_marks m false) c.args.bytes.now c.args.text.now (m.in_order, m.in_bounds, m.text_in_bounds) (search rules) (search rules) c.unread.ensures (as_turn c.make_turn-made.result)
    c.make_turn-made.new.text c.make_turn-made.ensures

pub overflow_add-self : goal.overflow_add-self
overflow_add-self c = let b = (turned (goal.at.overflow_add-self c).After-make_turn-made).bounds in omega (arith, b.0, b.1)

pub invariant_of-self : goal.invariant_of-self
invariant_of-self c = let b = (turned (goal.at.invariant_of-self c).After-make_turn-made).bounds in record { in_order = b.0; in_bounds = b.1; text_in_bounds = b.2 }

pub returns-clause-room : goal.returns-clause-room
returns-clause-room c = (turned (goal.at.returns-clause-room c).After-make_turn-made).room

pub returns-clause-made : goal.returns-clause-made
returns-clause-made c = (turned (goal.at.returns-clause-made c).After-make_turn-made).made
