-- `frames_read::line::line_digits` meets its contract: each return cites the outcome that the tests before it lead to. Assumes nothing.
use Rattle.std.proofs.Common.{◌≡◌, ◌-◌, take, drop, refl, sym, ap, ◌∙◌, arith, rules}
use Rattle.frames_spec.specs.Line.{all_digits, line_digits, read, refuse_unless}
use Rattle.frames_spec.proofs.Lines.{between-part, no_end, end-within, no-letter, other-letter, lettered}
use Rattle.frames_read.proofs.line.line_digits.Goals as goal
use Rattle.frames_read.proofs.line.line_digits.Goals.{Else-line-letter, then-end-eq0-via-then-end-eq0, then-end-eq0-via-else-end-eq0+then-line-letter}

-- past the test of the letter, by whether all are digits
front : (c : Else-line-letter) → let bs = c.args.line.now in let part = take (c.in-Some.end - 1) (drop 1 bs) in
    line_digits c.args.letter bs ≡ refuse_unless (all_digits part) 8 (read part)
front c =
    let bs = c.args.line.now in
    let end = c.in-Some.end in
    lettered c.args.letter bs end c.in-Some.ensures.0 c.in-Some.ensures.1 (omega arith) c.if-line-letter.false ∙ ap (λ ds. refuse_unless (all_digits ds) 8 (read ds)) (sym (between-part end bs))

pub returns-in_default : goal.returns-in_default
returns-in_default c = sym (no_end c.args.letter c.args.line.now _ refl c.in_default.ensures)

pub returns-then-end-eq0 : goal.returns-then-end-eq0
returns-then-end-eq0 c =
    let bs = c.args.line.now in
    let end = c.in-Some.end in
    elim c.then-end-eq0.branch [
      | then-end-eq0-via-then-end-eq0 w ↦ sym (no-letter c.args.letter bs end c.in-Some.ensures.0 c.in-Some.ensures.1 w.if-end-eq0.true)
      | then-end-eq0-via-else-end-eq0+then-line-letter w ↦ sym (other-letter c.args.letter bs end c.in-Some.ensures.0 c.in-Some.ensures.1 (omega arith) w.if-line-letter.true)
    ]

pub slice_bounds-text-end : goal.slice_bounds-text-end
slice_bounds-text-end c = let w = end-within c.args.line.now c.in-Some.end c.in-Some.ensures.1 in search rules

pub returns-in-Some-scan : goal.returns-in-Some-scan
returns-in-Some-scan c =
    let e = front (goal.at.returns-in-Some-scan c).Else-line-letter in
    sym (rw c.in-Some-scan.ensures.0 at e)

pub returns-in-None : goal.returns-in-None
returns-in-None c =
    let e = front (goal.at.returns-in-None c).Else-line-letter in
    sym (rw c.in-None.ensures at e)
