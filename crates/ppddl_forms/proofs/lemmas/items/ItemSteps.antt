-- Items by chance, read a branch at a time.
use Rattle.std.proofs.Common.{◌≡◌, List, [], ◌∷◌, ◌++◌, true, Ok, refl, sym, ap, ◌∙◌}
use Rattle.exact_fraction.specs.declared.fraction.Fraction.{Fraction}
use Rattle.ppddl_model.specs.declared.tree.Atom.{Atom}
use Rattle.ppddl_model.specs.declared.tree.InitBranch.{InitBranch}
use Rattle.ppddl_forms.specs.names.Declarations.{Declared}
use Rattle.ppddl_cursor.specs.Ahead.{Ahead, has_form}
use Rattle.ppddl_cursor.specs.Reading.{read_to, one_at, rest_at}
use Rattle.ppddl_cursor.proofs.Steps.{then_step, checking_step}
use Rattle.ppddl_forms.specs.Chances.{next_chance}
use Rattle.ppddl_forms.specs.items.Items.{chances_of, with_branch, added, next_branch, branches}
use Rattle.ppddl_forms.proofs.lemmas.items.Steps.{pairs_step}

-- one more branch
pub branches_next : (d : Declared) (seen : List InitBranch) (p : Fraction) (atoms : List Atom) (h k next : Ahead) → has_form h ≡ true
    → one_at (next_chance (chances_of seen)) h ≡ read_to p k → one_at (added d) k ≡ read_to atoms next
    → rest_at (branches d (with_branch seen p atoms)) next ≡ rest_at (branches d seen) h
unfolding branches next_branch
branches_next d seen p atoms h k next stands chances adds =
    sym (pairs_step (λ s. next_chance (chances_of s)) (next_branch d) seen h
    ∙ rw (stands, chances) (then_step (next_branch d seen p) (λ t. branches d t) k ∙ rw (checking_step (λ xs. Ok (with_branch seen p xs)) (added d) k, adds) refl))

pub chances_push : (seen : List InitBranch) (p : Fraction) (atoms : List Atom) → chances_of (with_branch seen p atoms) ≡ chances_of seen ++ p ∷ []
chances_push [] p atoms = refl
chances_push (x ∷ seen) p atoms = ap (λ ps. x.chance ∷ ps) (chances_push seen p atoms)
