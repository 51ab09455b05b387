-- `frames_read::digits::Digits::number` meets its contract: what was read, with the digits that are left behind it, is the number of all. Assumes nothing.
use Rattle.std.proofs.Common.{◌≡◌, ◌+◌, ◌-◌, ◌<◌, ◌≤◌, true, length, take, drop, List, ℕ, sym, ap, ◌∙◌, arith, drop_of_length-le, length-take}
use Rattle.frames_spec.specs.Line.{all_digits, number, number_after}
use Rattle.frames_spec.proofs.Hex.{digit_at, number_step, power_small, digit-more}
use Rattle.frames_spec.proofs.Fronts.{field-right}
use Rattle.frames_read.proofs.digits.Digits.number.Goals as goal
use Rattle.frames_read.proofs.digits.Digits.number.Goals.{In-loop-b}

-- the digits of the field, and where a turn stands among them
abbrev items : In-loop-b → List ℕ
items c = take (c.args.a + c.args.n - c.args.a) (drop c.args.a c.args.self.text.now)

right : (c : In-loop-b) → (length (items c) ≤ 9) × (all_digits (items c) ≡ true)
right c = let few : c.args.a + c.args.n - c.args.a ≤ 9 = omega (arith, c.requires.few) in field-right c.args.a _ _ few c.args.self.known

digit : (c : In-loop-b) → c.loop-b.b-index < length (items c)
digit c = c.loop-b-test.true

pub known_value-requires : goal.known_value-requires
known_value-requires c = let d = (goal.at.known_value-requires c).In-loop-b in digit_at (items d) d.loop-b.b-index (right d).1 (digit d)

pub overflow_mul-number : goal.overflow_mul-number
overflow_mul-number c =
    let a = c.args in
    omega (arith, c.loop-b-test.true, c.loop-b.invariant.1, power_small c.loop-b.b-index (omega (arith, c.loop-b-test.true, length-take (a.a + a.n - a.a) (drop a.a a.self.text.now), c.requires.few)))

pub overflow_add-number : goal.overflow_add-number
overflow_add-number c =
    let d = (goal.at.overflow_add-number c).In-loop-b in
    omega (arith, power_small c.loop-b.b-index (omega (arith, digit d, (right d).0)), c.loop-b.invariant.1)

pub loop-b-preserved : goal.loop-b-preserved
loop-b-preserved c =
    let d = (goal.at.loop-b-preserved c).In-loop-b in
    let i = c.loop-b.b-index in
    let v = c.known_value.ensures in
    let below = digit_at (items d) i (right d).1 (digit d) in (
      c.loop-b.invariant.0 ∙ number_step (items d) i (digit d) c.loop-b.number ∙ rw v,
      digit-more i c.loop-b.number c.known_value.result c.loop-b.invariant.1 (omega (arith, v, below)),
    )

pub returns-clause-value : goal.returns-clause-value
unfolding number_after
returns-clause-value c =
    let a = c.args in
    let e : a.n ≡ a.a + a.n - a.a = omega arith in
    sym (ap (λ n. number (take n (drop a.a a.self.text.now))) e ∙ c.loop-b.invariant.0 ∙ ap (number_after c.loop-b.number) (drop_of_length-le (take (a.a + a.n - a.a) (drop a.a a.self.text.now)) {i = c.loop-b.b-index} c.loop-b-test.false))
