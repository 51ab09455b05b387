-- What the search for a line's byte 10 owes. Nothing here is needed to read the promises.
use Rattle.std.specs.Prelude.{◌≡◌, Option, Some, None, List, ℕ, ◌<◌, length, take}
use Rattle.frames_spec.specs.Line.{line_limit, line_end}

-- its place, or none among the bytes where it must be
abbrev pub Ends : List ℕ → Option ℕ → Type 0
Ends bs None = line_end bs ≡ length (take line_limit bs)
Ends bs (Some end) = (end ≡ line_end bs) × (end < length (take line_limit bs))
