use Rattle.std.proofs.Common.{◌≡◌, ◌-◌, rules, arith, refl, sym, subst, inl, inr, length, true, false}
use Rattle.std.specs.Io.KnownBytes.{Consumes}
use Rattle.resample.specs.Buffers.{as_marks}
use Rattle.resample.proofs.Marking.{after_read, came-after, more-after}
use Rattle.resample.proofs.Streaming.{any-err}
use Rattle.resample.proofs.marks.Marks.read_more.Goals as goal

pub returns-in_err-n-clause-stops : goal.returns-in_err-n-clause-stops
returns-in_err-n-clause-stops g c =
    let m = c.args.self.now in
    let p = as_marks m false in
    let l : length c.read.new.buf ≡ 65536 - (m.to - m.from) = search rules in
    any-err c.from_residual.result _
    (after_read p 0 true, refl, more-after p c.args.bytes.now (m.in_order, m.in_bounds, m.text_in_bounds) (search rules) c.to_front.ensures c.read.new.buf l 0 true (omega arith) (λ d. inr refl))

pub returns-clause-more : goal.returns-clause-more
returns-clause-more g c =
    let m = c.args.self.now in
    let p = as_marks m false in
    let l : length c.read.new.buf ≡ 65536 - (m.to - m.from) = search rules in
    more-after p c.args.bytes.now (m.in_order, m.in_bounds, m.text_in_bounds) (search rules) c.to_front.ensures c.read.new.buf l c.in_ok-n.n false c.in_ok-n.ensures.bound.0 (λ d. inl d)

pub returns-clause-read : goal.returns-clause-read
returns-clause-read g c =
    let m = c.args.self.now in
    let p = as_marks m false in
    subst (Consumes _ _)
    (sym (came-after p c.args.bytes.now (m.in_order, m.in_bounds, m.text_in_bounds) (search rules) c.to_front.ensures c.read.new.buf c.in_ok-n.n false c.in_ok-n.ensures.bound.0))
    c.in_ok-n.ensures.bytes.0
