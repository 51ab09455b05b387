use native.Mathlib.Omega.{arith}
use Rattle.buffers_spec.proofs.Samples.{samples-long}
use Rattle.buffers.proofs.entry.U8Entry.head.Goals as goal

pub returns-then-buffer-lt8 : goal.returns-then-buffer-lt8
returns-then-buffer-lt8 c = let t = c.if-buffer-lt8.true in omega (arith, samples-long c.args.buffer.now)

pub returns-else-buffer-lt8 : goal.returns-else-buffer-lt8
returns-else-buffer-lt8 c = let t = c.if-buffer-lt8.false in omega (arith, samples-long c.args.buffer.now)
