-- What the count of a D line's digits owes. Nothing here is needed to read the promises.
use Rattle.std.specs.Prelude.{◌≡◌, Option, Some, None, true, false, List, ℕ, ◌+◌, ◌*◌, length}
use Rattle.frames_spec.specs.Frame.{has_length, count_of}

-- none where refusal 9 meets them
abbrev pub Counted : List ℕ → Option ℕ → Type 0
Counted ds None = has_length ds ≡ false
Counted ds (Some n) = (has_length ds ≡ true) × (n ≡ count_of ds) × (length ds ≡ 12 + n * 4)
