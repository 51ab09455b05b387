use native.Mathlib.Omega.{arith}
use Rattle.buffers_spec.proofs.Samples.{samples-long}
use Rattle.buffers.proofs.entry.U8Entry.count.Goals as goal

pub returns-clause-samples : goal.returns-clause-samples
returns-clause-samples c = omega (arith, samples-long c.args.buffer.now)
