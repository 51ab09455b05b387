-- Refusal 9 of digits of another length, as the code comes to it. Assumes nothing.
use Rattle.std.proofs.Common.{◌≡◌, ◌<◌, ℕ, List, sym, ap, ◌∙◌, arith, length}
use Rattle.frames_spec.specs.Last.{Last}
use Rattle.frames_spec.specs.StartLine.{StartLine, start_of, start_answer}
use Rattle.frames_spec.specs.Frame.{DataLine, frame_of, count_of, data_answer}
use Rattle.frames_spec.specs.Line.{refused}
use Rattle.frames_spec.proofs.Frames.{frame-9}
use Rattle.frames_spec.proofs.Starts.{start-9}

pub start_of_other_length : (ds : List ℕ) (r : StartLine) → r ≡ start_answer (refused 9) → (length ds ≡ 18 → ⊥) → r ≡ start_answer (start_of ds)
start_of_other_length ds r e n = e ∙ ap start_answer (sym (start-9 ds n))

pub too_many_counted : (told : Last) (space : ℕ) (ds : List ℕ) (n : ℕ) (r : DataLine) → r ≡ data_answer (refused 9) → n ≡ count_of ds → 64 < n → r ≡ data_answer (frame_of told space ds)
too_many_counted told space ds n r e c m = e ∙ ap data_answer (sym (frame-9 ds told space (λ h. omega (arith, c, m, h.1))))
