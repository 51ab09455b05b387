-- The samples of a D line, put one by one into the first places of a buffer. The laws hold for every layout L of samples in a buffer. Assumes nothing.
use Rattle.std.proofs.Common.{◌≡◌, ℕ, ◌+◌, ◌*◌, ◌≤◌, ◌<◌, List, ℤ, [], ◌∷◌, ◌++◌, length, take, drop, refl, sym, ap, ◌∙◌, arith, append-nil, take-append-drop, length-take-le, drop-drop, add-one}
use mathlib.Core.List.{flat_map}
use native.Mathlib.Nat.{zero-mul}
use Rattle.std.proofs.Math.Nat.{le-div_iff_mul-le}
use Rattle.std.proofs.lemmas.Grind.{flat_map-append}
use Rattle.buffers_spec.specs.Layout.{Layout, Regular, Stored, room}
use Rattle.buffers_spec.specs.Overwritten.{over}
use Rattle.frames_spec.specs.Frame.{frame_samples, sample_at}

module _ {A : Type 0} (L : Layout A) (ds : List ℕ) (old : List A) where
  -- the first i samples of the digits
  abbrev pub laid : ℕ → List A
  laid i = flat_map L.entries (frame_samples i ds)

  one_laid : (i : ℕ) → laid (i + 1) ≡ laid i ++ L.entries (sample_at ds i)
  unfolding frame_samples flat_map
  one_laid i = rw add-one (flat_map-append L.entries (frame_samples i ds) (sample_at ds i ∷ []) ∙ ap (λ ys. laid i ++ ys) (append-nil (L.entries (sample_at ds i))))

  -- they stand, and behind them what stood there
  pub record Placed (i : ℕ) (left : List A) : Type 0 where
    pub long : length left ≡ length old
    pub front : take (i * L.width) left ≡ laid i
    pub rest : drop (i * L.width) left ≡ drop (i * L.width) old

  pub none-placed : Placed 0 old
  unfolding frame_samples flat_map
  none-placed = record { long = refl; front = rw (zero-mul L.width); rest = refl }

  module _ (i : ℕ) {left : List A} (p : Placed i left) where
    pub fits : (n : ℕ) → n ≤ room L old → i < n → i < room L left
    fits n h l = rw p.long (omega arith)

    pub one_more : {left' : List A} {x : ℤ} → Stored L left i x left' → x ≡ sample_at ds i → Placed (i + 1) left'
    one_more s e =
        let next : laid (i + 1) ≡ laid i ++ L.entries (sample_at ds i) = one_laid i in
        let past : (i + 1) * L.width ≡ i * L.width + L.width = grind arith in
        record {
          long = s.long ∙ p.long;
          front = s.front ∙ (λ t. p.front t ++ L.entries (e t)) ∙ sym next;
          rest = s.rest ∙ rw past (sym (drop-drop L.width (i * L.width) left) ∙ ap (drop L.width) p.rest ∙ drop-drop L.width (i * L.width) old);
        }

    pub all-placed : Regular L → i ≤ room L old → left ≡ over (laid i) old
    all-placed r h =
        let most : i * L.width ≤ length left = rw p.long ((le-div_iff_mul-le r.some).0 h) in
        let long : i * L.width ≡ length (laid i) = sym (length-take-le (i * L.width) left most) ∙ ap length p.front in
        sym (take-append-drop (i * L.width) left) ∙ (λ t. p.front t ++ (p.rest ∙ ap (λ n. drop n old) long) t)
