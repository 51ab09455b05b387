-- How long the program's two buffers are. A file of its own, since the marks of the code rest on it. Definitions only.
use Rattle.std.specs.Prelude.{ℕ}

-- how long each is
abbrev pub buffer_size : ℕ
buffer_size = 65536
