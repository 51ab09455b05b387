-- `kernels::kernel::Kernel::around` meets its contract: the newest sample is one past the basepoint. Assumes nothing.
use Rattle.std.proofs.Common.{◌≡◌, ℕ, zero, suc, ◌+◌, ◌-◌, List, [], ◌∷◌, length, get_or, ℤ, pos, sym, refl, ap, ◌∙◌, ⊎_elim, arith, lit<, to_z-of_z, w16, to_z, of_z, rules}
use lib.ListN.{get_or-eq_default}
use Rattle.integers.specs.Operations.{elem-sfits}
use Rattle.kernels_spec.specs.Kernel.{places, Kernel}
use Rattle.kernels_spec.specs.Value.{window_at}
use Rattle.kernels_spec.proofs.Numbers.{reach-low}
use Rattle.kernels.specs.declared.kernel.Kernel.{Kernel as Named}
use Rattle.kernels.specs.Scale.{kernel_named}
use Rattle.kernels.proofs.kernel.Kernel.around.Goals as goal

one-past : (κ : Kernel) → κ.reach ≡ 1 → (w : List ℤ) → length w ≡ 4 → (place : ℕ) → places (get_or w 1 (pos 0) ∷ get_or w 2 (pos 0) ∷ get_or w 3 (pos 0) ∷ pos 0 ∷ []) place ≡ window_at κ w place
unfolding window_at
one-past κ e w l place = by_place place ∙ ap (λ (r : ℕ). places w (place + 2 - r)) (sym e)
  where
    by_place : (place : ℕ) → places (get_or w 1 (pos 0) ∷ get_or w 2 (pos 0) ∷ get_or w 3 (pos 0) ∷ pos 0 ∷ []) place ≡ places w (place + 2 - 1)
    by_place zero = refl
    by_place (suc zero) = refl
    by_place (suc (suc zero)) = refl
    by_place (suc (suc (suc zero))) = sym (get_or-eq_default w (pos 0) (omega arith))
    by_place (suc (suc (suc (suc n)))) = sym (get_or-eq_default w (pos 0) (omega arith))

abbrev reach_of : Named → ℕ
reach_of k = (kernel_named k).reach

pub returns-in-Linear : goal.returns-in-Linear
returns-in-Linear c =
    let w = c.args.window in
    let e₁ : to_z w16 (of_z w16 (get_or w 1 (pos 0))) ≡ get_or w 1 (pos 0) = to_z-of_z {w = w16} (search (rules, elem-sfits)) in
    let e₂ : to_z w16 (of_z w16 (get_or w 2 (pos 0))) ≡ get_or w 2 (pos 0) = to_z-of_z {w = w16} (search (rules, elem-sfits)) in
    let e₃ : to_z w16 (of_z w16 (get_or w 3 (pos 0))) ≡ get_or w 3 (pos 0) = to_z-of_z {w = w16} (search (rules, elem-sfits)) in
    let reach = ⊎_elim (λ e. ap reach_of e ∙ reach-low 0 (lit< tt)) (λ e. ap reach_of e ∙ reach-low 1 (lit< tt)) c.in-Linear.is in
    λ place. ap (λ (x : List ℤ). places x place) (λ i. e₁ i ∷ e₂ i ∷ e₃ i ∷ pos 0 ∷ []) ∙ one-past (kernel_named c.args.self) reach w (search rules) place
