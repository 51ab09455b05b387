use Rattle.std.proofs.Common.{rules}
use mathlib.Core.Path.{◌≡◌, sym, ◌∙◌}
use mathlib.Core.List.{flat_map}
use lib.IntN.{pos}
use lib.ListN.{length, get_or}
use mir.Syntax.{w16}
use mir.Val.{SFits}
use Rattle.buffers_spec.specs.Bytes.{bytes_of, samples_of, AreSamples}
use Rattle.buffers_spec.proofs.Samples.{pair-of, samples-pairs}
use Rattle.buffers.proofs.Eight.{eight_are}
use Rattle.buffers.proofs.entry.U8Entry.lay.Goals as goal

pub returns : goal.returns
unfolding AreSamples bytes_of samples_of flat_map
returns c =
    let xs = c.args.xs in
    let h0 : SFits w16 (get_or xs 0 (pos 0)) = search rules in
    let h1 : SFits w16 (get_or xs 1 (pos 0)) = search rules in
    let h2 : SFits w16 (get_or xs 2 (pos 0)) = search rules in
    let h3 : SFits w16 (get_or xs 3 (pos 0)) = search rules in
    let h4 : SFits w16 (get_or xs 4 (pos 0)) = search rules in
    let h5 : SFits w16 (get_or xs 5 (pos 0)) = search rules in
    let h6 : SFits w16 (get_or xs 6 (pos 0)) = search rules in
    let h7 : SFits w16 (get_or xs 7 (pos 0)) = search rules in
    let l : length xs ≡ 8 = search rules in
    let e = eight_are xs l in
    rw (pair-of h0 c.to_le_bytes.ensures, pair-of h1 c.to_le_bytes-2.ensures, pair-of h2 c.to_le_bytes-3.ensures, pair-of h3 c.to_le_bytes-4.ensures, pair-of h4 c.to_le_bytes-5.ensures, pair-of h5 c.to_le_bytes-6.ensures, pair-of h6 c.to_le_bytes-7.ensures, pair-of h7 c.to_le_bytes-8.ensures)
    (samples-pairs _ (h0, (h1, (h2, (h3, (h4, (h5, (h6, (h7, tt)))))))) ∙ sym e)
