use Rattle.std.proofs.Common.{◌≡◌, ◌+◌, length, drop}
use Rattle.std.proofs.lemmas.List.Edits.{sets}
use Rattle.buffers.proofs.copies.store.Given as goal

-- what is stored with the items that are left is what is to be stored
abbrev pub invariant-loop-i : goal.invariant-loop-i
invariant-loop-i g l = (length l.to ≡ length l.initial.to) × (sets l.initial.to l.at l.items ≡ sets l.to (l.at + l.i) (drop l.i l.items))
