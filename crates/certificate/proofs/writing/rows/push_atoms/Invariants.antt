use Rattle.std.proofs.Common.{◌≡◌, ◌++◌, ◌∷◌, take, map}
use Rattle.std.specs.List.{flat_map}
use Rattle.certificate.specs.Content.{name_at}
use Rattle.certificate.proofs.writing.rows.push_atoms.Given as goal

abbrev pub invariant-loop-place : goal.invariant-loop-place
invariant-loop-place l = l.out.items ≡ l.initial.out.items ++ flat_map (λ atom. 32 ∷ atom) (map (name_at l.atoms) (take l.place-index l.places))
