-- A back of a single byte, or of none, has no sample. Assumes nothing.
use mathlib.Core.Path.{◌≡◌, refl, ap, ◌∙◌}
use mathlib.Core.List.{List, [], ◌∷◌, ◌++◌, append-nil}
use Prim.Native.Nat.{ℕ, ◌<◌}
use native.Mathlib.Omega.{arith}
use lib.ListN.{length}
use Rattle.buffers_spec.specs.Bytes.{samples_of}

no-samples : (bs : List ℕ) → length bs < 2 → samples_of bs ≡ []
unfolding samples_of
no-samples [] h = refl
no-samples (a ∷ []) h = refl
no-samples (a ∷ b ∷ bs) h = absurd (omega arith)

pub front_alone : (front back : List ℕ) → length back < 2 → samples_of front ++ samples_of back ≡ samples_of front
front_alone front back n = ap (λ ys. samples_of front ++ ys) (no-samples back n) ∙ append-nil (samples_of front)
