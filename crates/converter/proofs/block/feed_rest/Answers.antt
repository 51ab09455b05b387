use borrow.Author.Rules.{rules, scaled_fits≤}
use Prim.Native.Nat.{◌≤◌}
use native.Mathlib.Nat.{le-div_iff_mul-le}
use native.Mathlib.Omega.{arith}
use lib.ListN.{length}
use Rattle.converter_state.proofs.States.{is_state_lem}
use Rattle.pass_spec.proofs.Finishing.{rest_right}
use Rattle.converter.proofs.block.feed_rest.Goals as goal

pub pass_by-second-requires-clause-kernel : goal.pass_by-second-requires-clause-kernel
pass_by-second-requires-clause-kernel g c = omega (arith, (is_state_lem c.args.s.state c.args.s.sound).kernel)

pub pass_by-second-requires-clause-below : goal.pass_by-second-requires-clause-below
pass_by-second-requires-clause-below g c = (is_state_lem c.args.s.state c.args.s.sound).below

pub offset_bounds-output-start : goal.offset_bounds-output-start
offset_bounds-output-start g c =
    let w = (le-div_iff_mul-le g.met.E.Entry.regular.some).0 c.requires.fits in
    let h : c.place-start.result ≤ length c.args.output.now = omega (arith, w, c.place-start.ensures.place) in
    search (rules, scaled_fits≤)

pub returns : goal.returns
returns g c = rest_right g.E.Entry.layout c.place-start.ensures.place c.pass_by-second.ensures.right c.finish_over.ensures
