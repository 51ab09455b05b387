-- `check_draws::tallies::show` writes the group and then its tally with the line's end, which together are the line.
use Rattle.std.proofs.Common.{◌≡◌, ℕ, List, [], ◌∷◌, ◌++◌, append_assoc, Option, Result, Ok, Err, OnOk}
use Rattle.std.specs.Io.KnownBytes.{Appends}
use Rattle.std.proofs.KnownBytes.{Appends-trans}
use Rattle.check_draws.specs.declared.tallies.Tally.{Tally}
use Rattle.check_draws.specs.Line.{tally_text, tally_line, line_of}
use Rattle.check_draws.proofs.tallies.show.Goals as goal

with-end : (t : Tally) → tally_text t ++ (10 ∷ []) ≡ tally_line t
with-end t = simp append_assoc

shown : {X E : Type 0} (r : Result X E) (a b d : Option (List ℕ)) (group : List ℕ) (t : Tally) → Appends a b group → OnOk r (Appends b d (tally_text t ++ (10 ∷ []))) → OnOk r (Appends a d (line_of group t))
shown (Ok x) a b d group t p q = Appends-trans a b d group (tally_line t) p (rw (with-end t) at q)
shown (Err e) a b d group t p q = tt

pub returns : goal.returns
returns g c = shown c.writeln.result _ _ _ _ _ c.in_ok-write_all.ensures.bytes c.writeln.ensures.bytes
