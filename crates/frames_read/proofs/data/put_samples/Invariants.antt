-- `frames_read::data::put_samples` meets its contract: after i turns the first i samples stand. Assumes nothing.
use Rattle.frames_read.proofs.Placed.{Placed}
use Rattle.frames_read.proofs.data.put_samples.Given as goal

abbrev pub invariant-loop-i : goal.invariant-loop-i
invariant-loop-i g l = Placed g.E.Entry.layout l.line.digits.text.now l.initial.samples l.i l.samples
