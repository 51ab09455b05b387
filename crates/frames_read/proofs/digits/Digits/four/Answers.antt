-- `frames_read::digits::Digits::four` meets its contract. Assumes nothing.
use Rattle.std.proofs.Common.{◌≡◌, ℕ, ◌+◌, ◌-◌, ◌*◌, ◌/◌, ◌<◌, List, length, take, drop, get_or, sym, ap, ◌∙◌, arith, length-drop, length-take-le}
use lib.Bits.{bit_and}
use Rattle.frames_spec.specs.Line.{digit_value, number}
use Rattle.frames_spec.proofs.Hex.{digit_at, number-of-four}
use Rattle.frames_spec.proofs.FourBytes.{joined, four-values, paired}
use Rattle.frames_spec.proofs.Fronts.{field-right}
use Rattle.frames_read.proofs.digits.Digits.four.Goals as goal
use Rattle.frames_read.proofs.digits.Digits.four.Goals.{After-from_le_bytes-x}

-- each byte of the four is a digit
module _ (c : After-from_le_bytes-x) where
  abbrev ds : List ℕ
  ds = take (c.args.a + 4 - c.args.a) (drop c.args.a c.args.self.text.now)

  four : length ds ≡ 4
  four = length-take-le (c.args.a + 4 - c.args.a) (drop c.args.a c.args.self.text.now) (simp length-drop (omega (arith, c.requires))) ∙ omega arith

  abbrev byte : ℕ → ℕ
  byte i = get_or ds i 0

  digit : (i : ℕ) → i < 4 → digit_value (byte i) < 16
  digit i h = digit_at ds i (field-right c.args.a (c.args.a + 4 - c.args.a) c.args.self.text.now (omega arith) c.args.self.known).1 (omega (arith, four))

  -- their values, each in a byte
  values : bit_and c.from_le_bytes-x.result 0x0F0F0F0F + bit_and c.from_le_bytes-x.result 0x40404040 / 64 * 9 ≡ joined (digit_value (byte 0)) (digit_value (byte 1)) (digit_value (byte 2)) (digit_value (byte 3))
  values =
      let e : c.from_le_bytes-x.result ≡ joined (byte 0) (byte 1) (byte 2) (byte 3) = omega (arith, c.from_le_bytes-x.ensures) in
      rw e (four-values (byte 0) (byte 1) (byte 2) (byte 3) (digit 0 (omega arith)) (digit 1 (omega arith)) (digit 2 (omega arith)) (digit 3 (omega arith)))

pub returns : goal.returns
returns c =
    let z = (goal.at.returns c).After-from_le_bytes-x in
    let e : c.args.a + 4 - c.args.a ≡ 4 = omega arith in
    paired _ _ _ _ _ (digit z 0 (omega arith)) (digit z 1 (omega arith)) (digit z 2 (omega arith)) (digit z 3 (omega arith)) (values z)
    ∙ sym (number-of-four (ds z) (four z)) ∙ ap (λ n. number (take n (drop c.args.a c.args.self.text.now))) e

pub overflow_mul-values : goal.overflow_mul-values
overflow_mul-values c = let s = (goal.at.overflow_mul-values c).After-from_le_bytes-x in omega (arith, values s, digit s 0 (omega arith), digit s 1 (omega arith), digit s 2 (omega arith), digit s 3 (omega arith))

pub overflow_add-values : goal.overflow_add-values
overflow_add-values c = let s = (goal.at.overflow_add-values c).After-from_le_bytes-x in omega (arith, values s, digit s 0 (omega arith), digit s 1 (omega arith), digit s 2 (omega arith), digit s 3 (omega arith))

pub overflow_mul-pairs : goal.overflow_mul-pairs
overflow_mul-pairs c = let s = (goal.at.overflow_mul-pairs c).After-from_le_bytes-x in omega (arith, values s, digit s 0 (omega arith), digit s 1 (omega arith), digit s 2 (omega arith), digit s 3 (omega arith))

pub overflow_add-pairs : goal.overflow_add-pairs
overflow_add-pairs c = let s = (goal.at.overflow_add-pairs c).After-from_le_bytes-x in omega (arith, values s, digit s 0 (omega arith), digit s 1 (omega arith), digit s 2 (omega arith), digit s 3 (omega arith))
