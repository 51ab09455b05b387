-- What the digits that code has of a line come to. Nothing here is needed to read the promises.
use Rattle.std.specs.Prelude.{Result, Ok, Err, List, ℕ}
use Rattle.refusals.specs.declared.Refusal.{Refusal}
use Rattle.refusals.specs.Refusals.{refusal_number}
use Rattle.frames_spec.specs.Line.{Read, read, refused}
use Rattle.frames_read.specs.declared.digits.Digits.{Digits}

abbrev pub digits_read : Result Digits Refusal → Read (List ℕ)
digits_read (Ok d) = read d.text.now
digits_read (Err r) = refused (refusal_number r)
