-- `frames_read::data::put_samples` meets its contract: after i turns the first i samples stand. Assumes nothing.
use mir.Syntax.{w16}
use Rattle.std.proofs.Common.{◌≡◌, ap, ◌∙◌, arith, to_z-of_z}
use borrow.Author.Rules.{sfits_of}
use Rattle.integers.specs.Sample.{signed}
use Rattle.buffers_spec.specs.Overwritten.{over}
use Rattle.frames_read.proofs.Placed.{laid, none-placed, one_more, all-placed}
use Rattle.frames_read.proofs.data.put_samples.Goals as goal

pub loop-i-init : goal.loop-i-init
loop-i-init g c = none-placed g.E.Entry.layout c.args.line.digits.text.now c.args.samples.now

pub loop-i-preserved : goal.loop-i-preserved
loop-i-preserved g c =
    one_more g.E.Entry.layout c.args.line.digits.text.now c.args.samples.now c.loop-i.i c.loop-i.invariant c.put.ensures
    (to_z-of_z {w = w16} (sfits_of c.signed.type_inv) ∙ c.signed.ensures ∙ ap signed c.four-number.ensures)

pub returns-clause-filled : goal.returns-clause-filled
returns-clause-filled g c =
    let ds = c.args.line.digits.text.now in
    let old = c.args.samples.now in
    let e : c.loop-i.i ≡ c.args.line.fields.count = omega arith in
    λ h. all-placed g.E.Entry.layout ds old c.loop-i.i c.loop-i.invariant g.met.E.Entry.regular (omega (arith, h)) ∙ ap (λ n. over (laid g.E.Entry.layout ds old n) old) e
