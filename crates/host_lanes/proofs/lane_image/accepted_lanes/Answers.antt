use mathlib.Core.Path.{sym}
use native.Mathlib.Omega.{arith}
use lib.Seq.{length-take-le}
use Rattle.host_spec.specs.Image.{image_length}
use Rattle.host_lanes.proofs.lane_image.accepted_lanes.Goals as goal

pub slice_bounds-accepted-end : goal.slice_bounds-accepted-end
slice_bounds-accepted-end c = sym (length-take-le image_length c.args.image.now (omega (arith, c.if-image-ne-LANES_BYTES.false)))
