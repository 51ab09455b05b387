-- `kernels::output::held_by_number` meets its contract: the number that is written out is the kernel's, or stands for it. Assumes nothing.
use Rattle.std.proofs.Common.{◌≡◌, ℕ, List, ℤ, sym, ap, ◌∙◌, arith}
use Rattle.kernels_spec.specs.declared.clips.Clips.{Clips}
use Rattle.kernels_spec.specs.Kernel.{Kernel, kernel_of}
use Rattle.kernels_spec.specs.Value.{output_of, clip_of}
use Rattle.kernels_spec.proofs.Numbers.{cubic-above}
use Rattle.kernels.proofs.output.held_by_number.Goals as goal

-- what is answered for a kernel is answered for its number
answer : (k register : ℕ) (window : List ℤ) {v : ℤ} {b : Clips} (κ : Kernel) → kernel_of k ≡ κ → (v ≡ output_of κ register window) × (b ≡ clip_of κ register window)
    → (v ≡ output_of (kernel_of k) register window) × (b ≡ clip_of (kernel_of k) register window)
answer k register window κ e h = (h.0 ∙ ap (λ (κ : Kernel). output_of κ register window) (sym e), h.1 ∙ ap (λ (κ : Kernel). clip_of κ register window) (sym e))

pub returns-in_default : goal.returns-in_default
returns-in_default c =
    answer c.args.kernel c.args.register c.args.window (kernel_of 3) (cubic-above c.args.kernel (omega arith)) c.held_output-in_default.ensures

pub returns-in-0 : goal.returns-in-0
returns-in-0 c = answer c.args.kernel c.args.register c.args.window (kernel_of 0) (ap kernel_of c.in-0.is) c.held_output.ensures

pub returns-in-1 : goal.returns-in-1
returns-in-1 c = answer c.args.kernel c.args.register c.args.window (kernel_of 1) (ap kernel_of c.in-1.is) c.held_output-in-1.ensures

pub returns-in-2 : goal.returns-in-2
returns-in-2 c = answer c.args.kernel c.args.register c.args.window (kernel_of 2) (ap kernel_of c.in-2.is) c.held_output-in-2.ensures
