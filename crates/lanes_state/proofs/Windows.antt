-- Windows as the code has them, a list for each, and one after another in one list. Assumes nothing.
use Rattle.std.proofs.Common.{◌≡◌, refl, ap, ◌∙◌, arith, ℕ, zero, suc, ◌+◌, ◌*◌, ◌<◌, List, [], ◌∷◌, ◌++◌, length, get_or, set, take, drop}
use Rattle.std.proofs.lemmas.Grind.{common_steps}
use mir.Val.{Val}
use base.Fml.{Fml}
use denote.Shadow.{shadow}
use denote.Array.{each, in_array}
use mathlib.Core.List.{append_assoc}
use lib.Seq.{take_at, take-append-add, drop-append-add}
use native.Mathlib.Nat.{suc-mul, zero-mul}
use Rattle.std.specs.List.{flat_map}
use Rattle.lanes_state.specs.Parts.{part}

-- each row of an array of arrays has as many elements
pub rows_long : (X : Type 0) (f : X → List Val → Fml) (n : ℕ) (p : List (List X)) (us : List Val) (i : ℕ) (d : List X) → shadow (each (List X) (in_array X f n) p us) → i < length p → length (get_or p i d) ≡ n
rows_long X f n [] us i d h a = omega arith
rows_long X f n (x ∷ xs) [] i d h a = absurd h
rows_long X f n (x ∷ xs) (u ∷ us) zero d h a = h.0.1.0.1
rows_long X f n (x ∷ xs) (u ∷ us) (suc i) d h a = rows_long X f n xs us i d h.1 (omega arith)

-- ---- rows one after another, each n long
abbrev flat : {A : Type 0} → List (List A) → List A
flat = flat_map (λ row. row)

abbrev pub Rows : {A : Type 0} → ℕ → List (List A) → Type 0
Rows n rows = (i : ℕ) → i < length rows → length (get_or rows i []) ≡ n

module _ {A : Type 0} (n : ℕ) where
  below_first : (xs : List A) (rows : List (List A)) → Rows n (xs ∷ rows) → Rows n rows
  below_first xs rows h i k = h (suc i) (omega arith)

  -- and stay as long where one is replaced
  pub rows-set : (rows : List (List A)) → Rows n rows → (k : ℕ) (ys : List A) → length ys ≡ n → (i : ℕ) → i < length (set rows k ys) → length (get_or (set rows k ys) i []) ≡ n
  rows-set [] h k ys e i l = absurd (omega arith)
  rows-set (xs ∷ rows) h zero ys e zero l = e
  rows-set (xs ∷ rows) h zero ys e (suc i) l = h (suc i) l
  rows-set (xs ∷ rows) h (suc k) ys e zero l = h 0 (omega arith)
  rows-set (xs ∷ rows) h (suc k) ys e (suc i) l = rows-set rows (below_first xs rows h) k ys e i (omega arith)

  pub flat-long : (rows : List (List A)) → Rows n rows → length (flat rows) ≡ length rows * n
  flat-long [] h = omega arith
  flat-long (xs ∷ rows) h = grind (arith, common_steps, flat-long rows (below_first xs rows h), h 0 (omega arith), suc-mul (length rows) n)

  -- part i is row i
  pub part-row : (rows : List (List A)) → Rows n rows → (i : ℕ) → i < length rows → part n i (flat rows) ≡ get_or rows i []
  part-row [] h i k = absurd (omega arith)
  part-row (xs ∷ rows) h zero k = rw (zero-mul n) (take_at xs (flat rows) n (h 0 k))
  part-row (xs ∷ rows) h (suc i) k =
      let e : suc i * n ≡ length xs + i * n = omega (arith, suc-mul i n, h 0 (omega arith)) in
      rw e (ap (take n) (drop-append-add xs (flat rows) (i * n)) ∙ part-row rows (below_first xs rows h) i (omega arith))

  -- another row i is another part i
  pub row-replaced : (rows : List (List A)) → Rows n rows → (i : ℕ) → i < length rows → (ys : List A) → flat (set rows i ys) ≡ take (i * n) (flat rows) ++ ys ++ drop (i * n + n) (flat rows)
  row-replaced [] h i k ys = absurd (omega arith)
  row-replaced (xs ∷ rows) h zero k ys =
      let e = h 0 k in rw (zero-mul n) (grind (arith, common_steps, e))
  row-replaced (xs ∷ rows) h (suc i) k ys =
      let e : suc i * n ≡ length xs + i * n = omega (arith, suc-mul i n, h 0 (omega arith)) in
      let past : suc i * n + n ≡ length xs + (i * n + n) = omega (arith, e) in
      let more = row-replaced rows (below_first xs rows h) i (omega arith) ys in
      rw (past, e, take-append-add xs (flat rows) (i * n), drop-append-add xs (flat rows) (i * n + n), more)
      (rw (append_assoc xs (take (i * n) (flat rows)) ys, append_assoc xs (take (i * n) (flat rows) ++ ys) (drop (i * n + n) (flat rows))) refl)
