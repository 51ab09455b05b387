-- What an accepted D line takes of the bytes. Assumes nothing.
use Rattle.std.proofs.Common.{◌≡◌, ℕ, List, ℤ, [], ◌∷◌, ◌+◌, ◌*◌, ◌≤◌, length, refl, sym, ap, ◌∙◌, arith}
use mathlib.Core.List.{flat_map}
use Rattle.buffers_spec.specs.Layout.{as_samples}
use Rattle.buffers_spec.specs.Overwritten.{over}
use Rattle.frames_spec.specs.Last.{Last}
use Rattle.frames_spec.specs.Line.{Read, read, used}
use Rattle.frames_spec.specs.Frame.{Frame, DataRight, frame_samples, data_line, data_answer, filled}
use Rattle.frames_spec.proofs.Frames.{Framed, framed, samples-length}

module _ (told : Last) (space : ℕ) (bs : List ℕ) (sequence count : ℕ) (ds : List ℕ)
    (is : read (record { sequence = sequence; samples = frame_samples count ds }) ≡ data_line told space bs) where
  line : Framed space bs (record { sequence = sequence; samples = frame_samples count ds })
  line = framed told space bs _ (sym is)

  pub whole : 14 + count * 4 ≤ length bs
  whole = omega (arith, line.size, line.whole, samples-length count ds)

  pub size : used (data_line told space bs) bs ≡ 14 + count * 4
  size = ap (λ (r : Read Frame). used r bs) (sym is) ∙ omega (arith, line.size, samples-length count ds)

  pub fits : count ≤ space
  fits = omega (arith, line.fits, samples-length count ds)

-- samples that lie as they are
singles : (xs : List ℤ) → flat_map as_samples.entries xs ≡ xs
unfolding flat_map
singles [] = refl
singles (x ∷ xs) = ap (λ ys. x ∷ ys) (singles xs)

pub right : (told : Last) (bs : List ℕ) (sequence count : ℕ) (ds : List ℕ) (old new : List ℤ) → read (record { sequence = sequence; samples = frame_samples count ds }) ≡ data_line told (length old) bs
    → new ≡ over (flat_map as_samples.entries (frame_samples count ds)) old → DataRight bs told old (record { sequence = sequence; count = count; refusal = 0 }) new
right told bs sequence count ds old new is e = record {
  answer = (λ i. record { sequence = sequence; count = sym (samples-length count ds) i; refusal = 0 }) ∙ ap data_answer is;
  buffer = e ∙ ap (λ xs. over xs old) (singles (frame_samples count ds)) ∙ ap (λ (r : Read Frame). filled r old) is;
}
