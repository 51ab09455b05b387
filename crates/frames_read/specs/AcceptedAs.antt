-- What the code's D line comes to. Nothing here is needed to read the promises.
use Rattle.std.specs.Prelude.{Result, Ok, Err}
use Rattle.refusals.specs.declared.Refusal.{Refusal}
use Rattle.refusals.specs.Refusals.{refusal_number}
use Rattle.frames_spec.specs.Line.{Read, read, refused}
use Rattle.frames_spec.specs.Frame.{Frame, frame_samples}
use Rattle.frames_read.specs.declared.accepted.Accepted.{Accepted}

abbrev pub accepted_as : Result Accepted Refusal → Read Frame
accepted_as (Ok a) = read (record { sequence = a.fields.sequence; samples = frame_samples a.fields.count a.digits.text.now })
accepted_as (Err r) = refused (refusal_number r)
