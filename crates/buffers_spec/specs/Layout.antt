-- How samples lie in a buffer: as they are, or each as two bytes. Definitions only.
use Rattle.std.specs.Prelude.{◌≡◌, List, [], ◌∷◌, ◌++◌, ℕ, ◌+◌, ◌*◌, ◌/◌, ◌<◌, min, ℤ, pos, length, take, drop, get_or}
use Rattle.buffers_spec.specs.Bytes.{pair_of}

-- each as so many entries (one sample, or two bytes)
pub record Layout (A : Type 0) : Type 0 where
  pub entries : ℤ → List A
  pub width : ℕ

abbrev pub as_samples : Layout ℤ
as_samples = record { entries = λ x. x ∷ []; width = 1 }

-- samples as they lie in the host's buffers
abbrev pub as_pairs : Layout ℕ
as_pairs = record { entries = pair_of; width = 2 }

-- how many samples a buffer has room for
abbrev pub room : {A : Type 0} → Layout A → List A → ℕ
room L buffer = length buffer / L.width

-- each sample takes as many entries as the layout says, and at least one
pub record Regular {A : Type 0} (L : Layout A) : Type 0 where
  pub some : 0 < L.width
  pub each : (x : ℤ) → length (L.entries x) ≡ L.width

-- sample x stored at place i of a buffer, which held `left` and holds `left'`
pub record Stored {A : Type 0} (L : Layout A) (left : List A) (i : ℕ) (x : ℤ) (left' : List A) : Type 0 where
  pub long : length left' ≡ length left
  pub front : take ((i + 1) * L.width) left' ≡ take (i * L.width) left ++ L.entries x
  pub rest : drop ((i + 1) * L.width) left' ≡ drop ((i + 1) * L.width) left

-- how many of the first four samples there are
abbrev pub head_of : List ℤ → ℕ
head_of xs = min 4 (length xs)

-- a window and the four samples that follow it, zeros where there are none
abbrev pub joined_of : List ℤ → List ℤ → List ℤ
joined_of w xs =
    get_or w 0 (pos 0) ∷ get_or w 1 (pos 0) ∷ get_or w 2 (pos 0) ∷ get_or w 3 (pos 0) ∷ get_or xs 0 (pos 0) ∷ get_or xs 1 (pos 0) ∷ get_or xs 2 (pos 0) ∷ get_or xs 3 (pos 0) ∷ []
