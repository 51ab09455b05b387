-- `frames_read::line::line_end` meets its contract. Assumes nothing.
use Rattle.std.proofs.Common.{◌≡◌, length, take, ap, ◌∙◌, arith}
use Rattle.std.proofs.lemmas.List.{take_min}
use Rattle.frames_spec.specs.Line.{before10, line_limit, line_end}
use Rattle.frames_read.proofs.line.line_end.Goals as goal
use Rattle.frames_read.proofs.line.line_end.Goals.{After-find10-end}

-- the bytes that are looked at
first : (c : After-find10-end) → take c.min.result c.args.line.now ≡ take line_limit c.args.line.now
first c = rw c.min.ensures (take_min 270 c.args.line.now)

pub returns-then-end-first : goal.returns-then-end-first
unfolding line_end
returns-then-end-first c = let e = first (goal.at.returns-then-end-first c).After-find10-end in (c.find10-end.ensures.0 ∙ ap before10 e, omega (arith, c.if-end-first.true, ap length e))

pub returns-else-end-first : goal.returns-else-end-first
unfolding line_end
returns-else-end-first c =
    let e = first (goal.at.returns-else-end-first c).After-find10-end in
    omega (arith, c.find10-end.ensures.0, c.find10-end.ensures.1, ap before10 e, ap length e, c.if-end-first.false)
