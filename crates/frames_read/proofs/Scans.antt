-- A scan pair by pair: whether all bytes so far are digits is whether the largest value is below 16. Assumes nothing.
use Rattle.std.proofs.Common.{◌≡◌, ◌+◌, ◌*◌, ◌%◌, ◌<◌, ◌≤◌, ◌/◌, ◌&&◌, ltb, max, Bool, List, ℕ, length, take, drop, length-drop, length-take-le, take-append-drop, drop-drop, get_or, refl, sym, ap, ◌∙◌, inl, inr, arith}
use native.Mathlib.Decide.{dec_lt}
use Rattle.frames_spec.specs.Line.{digit_value, all_digits, byte_sum}
use Rattle.frames_spec.proofs.Hex.{both_below, all-pair, sum-pair, all-parts}
use Rattle.frames_spec.proofs.WrittenDigits.{sum-append}

below : (w d : ℕ) → ltb (max w d) 16 ≡ (ltb w 16 && ltb d 16)
below w d = elim (dec_lt w d) [ yes l ↦ both_below w d (max w d) (inl (l, omega arith)) | no l ↦ both_below w d (max w d) (inr (omega arith, omega arith)) ]

-- the largest value and the sum of the pairs before pair k
abbrev pub Pairs : List ℕ → ℕ → ℕ → ℕ → Type 0
Pairs s k w x = (all_digits s ≡ (ltb w 16 && all_digits (drop (2 * k) s))) × (byte_sum s % 256 ≡ (x + byte_sum (drop (2 * k) s)) % 256)

module _ (s : List ℕ) (k w x : ℕ) (p : Pairs s k w x) where
  pub pair : (a b v y : ℕ) → 2 * k + 1 < length s → a ≡ digit_value (get_or s (2 * k) 0) → b ≡ digit_value (get_or s (2 * k + 1) 0)
      → v ≡ max w (max a b) → y ≡ ((x + a * 16 % 256) % 256 + b) % 256 → Pairs s (k + 1) v y
  pair a b v y h e f g t =
      let next : 2 * k + 2 ≡ 2 * (k + 1) = omega arith in
      let all = all-pair s (2 * k) h w a b (max a b) v e f (below a b) (ap (λ n. ltb n 16) g ∙ below w (max a b)) in
      let sum = sum-pair s (2 * k) h (byte_sum s) x a b ((a % 16 * 16 + b) % 256) y e f refl (omega (arith, t)) p.1 in
      let both : ((ltb w 16 && all_digits (drop (2 * k) s)) ≡ (ltb v 16 && all_digits (drop (2 * k + 2) s))) × (byte_sum s % 256 ≡ (y + byte_sum (drop (2 * k + 2) s)) % 256) = (all, sum) in
      let moved = rw next at both in
      (p.0 ∙ moved.0, moved.1)

  -- all bytes, with the value d of the last where it stands in no pair
  pub whole : (d v : ℕ) → length s / 2 ≡ k → ltb d 16 ≡ all_digits (drop (2 * (length s / 2)) s) → v ≡ max w d → all_digits s ≡ ltb v 16
  whole d v e f g = p.0 ∙ ap (λ r. ltb w 16 && r) (sym (f ∙ ap (λ n. all_digits (drop (2 * n) s)) e)) ∙ sym (ap (λ n. ltb n 16) g ∙ below w d)

-- ---- a scan block by block: a block of 16 at place i, and the bytes behind it
module _ (s : List ℕ) (i n : ℕ) (is : n ≡ 16) (h : i + 16 ≤ length s) where
  abbrev block : List ℕ
  block = take n (drop i s)

  pub block-sum : byte_sum (drop i s) ≡ byte_sum block + byte_sum (drop (i + 16) s)
  block-sum =
      let l : 16 ≤ length (drop i s) = simp length-drop (omega arith) in
      let e : length (take 16 (drop i s)) % 2 ≡ 0 = rw (length-take-le 16 (drop i s) l) in
      rw is (ap byte_sum (sym (take-append-drop 16 (drop i s))) ∙ sum-append (take 16 (drop i s)) (drop 16 (drop i s)) e ∙ rw (drop-drop 16 i s))

  pub block-all : (b : Bool) → all_digits block ≡ b → all_digits (drop i s) ≡ (b && all_digits (drop (i + 16) s))
  block-all b e = all-parts 16 (drop i s) ∙ rw (drop-drop 16 i s, ← is, e)
