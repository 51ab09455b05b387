-- A retune whose setting is refused, as a state comes to it. Assumes nothing.
use mathlib.Core.Path.{◌≡◌, sym, ap, ◌∙◌}
use mathlib.Core.Bool.{true}
use mathlib.Core.List.{List}
use Prim.Native.Nat.{ℕ}
use Rattle.oscillator_spec.specs.declared.settings.Setting.{Setting}
use Rattle.converter_state.specs.Start.{Retuned, retuned}
use Rattle.host_spec.specs.declared.saved.Saved.{Saved}
use Rattle.host_spec.specs.Image.{saved_of, is_image}
use Rattle.host_spec.specs.Host.{reply, host_retune}
use Rattle.host_spec.proofs.Hosts.{retune-refused}

pub refused_retune : (image : List ℕ) (a : Setting) (v : Saved) (r : Retuned) → v ≡ saved_of image → r ≡ retuned v.state a → is_image image ≡ true → (r.refusal ≡ 0 → ⊥)
    → reply r.refusal image ≡ host_retune image a
refused_retune image a v r d e h n = sym (retune-refused image a r.refusal h (ap (λ (t : Retuned). t.refusal) (sym (e ∙ ap (λ (s : Saved). retuned s.state a) d))) n)
