use native.Mathlib.Omega.{arith}
use Rattle.buffers_spec.proofs.Samples.{samples-long}
use Rattle.buffers.proofs.entry.U8Entry.sample.Goals as goal

pub sample_at-requires : goal.sample_at-requires
sample_at-requires c = omega (arith, samples-long c.args.buffer.now)
