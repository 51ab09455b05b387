use borrow.Author.Rules.{rules, scaled_fits≤}
use mathlib.Core.Path.{ap, ◌∙◌}
use Prim.Native.Nat.{◌/◌, ◌≤◌}
use native.Mathlib.Nat.{le-div_iff_mul-le}
use native.Mathlib.Omega.{arith}
use lib.ListN.{length}
use Rattle.kernels_spec.specs.Clips.{plus}
use Rattle.kernels_spec.proofs.Counting.{fits-same}
use Rattle.pass_spec.proofs.LaidParts.{laid-fits, full-laid, two-fit, lent-laid}
use Rattle.converter.proofs.parts.feed_accepted_parts.Goals as goal

pub returns-in-Full : goal.returns-in-Full
returns-in-Full g c = let r = g.met.E.Entry.regular in full-laid g.E.Entry.layout r.some r.each c.feed_accepted-first.ensures.fed _ c.in-Full.is

pub place-start-requires : goal.place-start-requires
place-start-requires g c =
    let r = g.met.E.Entry.regular in
    let f = laid-fits g.E.Entry.layout r.some r.each c.feed_accepted-first.ensures.fed in
    (le-div_iff_mul-le r.some).1 (omega (arith, f.1, f.3))

pub offset_bounds-output-start : goal.offset_bounds-output-start
offset_bounds-output-start g c =
    let r = g.met.E.Entry.regular in
    let f = laid-fits g.E.Entry.layout r.some r.each c.feed_accepted-first.ensures.fed in
    let h : c.place-start.result ≤ length c.feed_accepted-first.new.output = omega (arith, f.1, f.3, c.place-start.ensures.place) in
    search (rules, scaled_fits≤)

pub slice_bounds-feed_accepted-count : goal.slice_bounds-feed_accepted-count
slice_bounds-feed_accepted-count g c =
    let r = g.met.E.Entry.regular in
    let f = laid-fits g.E.Entry.layout r.some r.each c.feed_accepted-first.ensures.fed in
    omega (arith, f.1, f.3, c.place-start.ensures.place)

pub slice_bounds-feed_accepted-start : goal.slice_bounds-feed_accepted-start
slice_bounds-feed_accepted-start g c =
    let r = g.met.E.Entry.regular in
    let f = laid-fits g.E.Entry.layout r.some r.each c.feed_accepted-first.ensures.fed in
    omega (arith, f.1, f.3, c.place-start.ensures.place)

-- before the sums, which a feed of another state meets too
pub returns : goal.returns
returns g c =
    let r = g.met.E.Entry.regular in
    let first = c.feed_accepted-first in
    let second = c.feed_accepted-second in
    let fit = two-fit g.E.Entry.layout r.some r.each first.ensures.fed c.place-start.ensures.place second.ensures.fed in
    let same = ap (λ n. n / g.E.Entry.layout.width) (laid-fits g.E.Entry.layout r.some r.each first.ensures.fed).3 in
    let clips = c.add_clips.ensures ∙ fits-same (plus first.result.counts.clips second.result.counts.clips) (omega (arith, fit, same, c.place-start.ensures.fits)) in
    lent-laid g.E.Entry.layout r.some r.each first.ensures.fed c.place-start.ensures.place second.ensures.fed c.in-Hungry.is clips

pub overflow_add-result : goal.overflow_add-result
overflow_add-result g c = omega (arith, c.feed_accepted-first.ensures.few, c.feed_accepted-second.ensures.few)

pub overflow_add-result-2 : goal.overflow_add-result-2
overflow_add-result-2 g c =
    let r = g.met.E.Entry.regular in
    let fit = two-fit g.E.Entry.layout r.some r.each c.feed_accepted-first.ensures.fed c.place-start.ensures.place c.feed_accepted-second.ensures.fed in
    let f = laid-fits g.E.Entry.layout r.some r.each c.feed_accepted-first.ensures.fed in
    let same = ap (λ n. n / g.E.Entry.layout.width) f.3 in
    omega (arith, fit, same, c.place-start.ensures.fits)
