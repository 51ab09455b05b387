-- `frames_read::digits::Digits::number` meets its contract: what was read, with the digits that are left behind it, is the number of all. Assumes nothing.
use Rattle.std.proofs.Common.{◌≡◌, ◌^◌, ◌<◌, drop}
use Rattle.frames_spec.specs.Line.{number, number_after}
use Rattle.frames_read.proofs.digits.Digits.number.Given as goal

abbrev pub invariant-loop-b : goal.invariant-loop-b
invariant-loop-b l = (number l.b-items ≡ number_after l.number (drop l.b-index l.b-items)) × (l.number < 16 ^ l.b-index)
