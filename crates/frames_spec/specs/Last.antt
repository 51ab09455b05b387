-- What the reader of D lines is told: the last number accepted, or that there was none. Definitions only.
use Rattle.std.specs.Prelude.{ℕ}

pub data Last : Type 0 where
  None : Last
  Number : ℕ → Last
