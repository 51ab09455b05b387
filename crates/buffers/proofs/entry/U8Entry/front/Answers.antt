use borrow.Author.Rules.{rules}
use mathlib.Core.Path.{◌≡◌, ap, ◌∙◌}
use native.Mathlib.Omega.{arith}
use lib.ListN.{length}
use lib.Seq.{length-take-le}
use Rattle.buffers_spec.specs.Bytes.{samples_of}
use Rattle.buffers_spec.proofs.Samples.{samples-front, samples-long}
use Rattle.buffers.proofs.entry.U8Entry.front.Goals as goal

pub returns-clause-part : goal.returns-clause-part
returns-clause-part c = samples-front c.args.both.now c.args.n

pub returns-clause-long : goal.returns-clause-long
returns-clause-long c =
    let l : length c.args.both.now ≡ 16 = search rules in
    ap length (samples-front c.args.both.now c.args.n) ∙ length-take-le c.args.n (samples_of c.args.both.now) (omega (arith, samples-long c.args.both.now, l))
