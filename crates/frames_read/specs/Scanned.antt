-- What a scan of digits owes. Nothing here is needed to read the promises.
use Rattle.std.specs.Prelude.{◌≡◌, Option, Some, None, true, false, List, ℕ, ◌%◌}
use Rattle.frames_spec.specs.Line.{all_digits, byte_sum}

-- none where a byte is no digit, else the sum modulo 256 of the bytes that pairs of digits write
abbrev pub Scanned : List ℕ → Option ℕ → Type 0
Scanned s None = all_digits s ≡ false
Scanned s (Some sum) = (all_digits s ≡ true) × (sum ≡ byte_sum s % 256)
