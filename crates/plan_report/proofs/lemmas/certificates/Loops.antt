-- The steps of loops over rows that are kept.
use Rattle.std.proofs.Common.{◌≡◌, ℕ, ◌+◌, ◌<◌, List, [], ◌∷◌, ◌++◌, length, get_or, drop, refl, sym, ap, ◌∙◌}
use Rattle.std.specs.BTreeSet.{insert_key}
use Rattle.std.proofs.lemmas.List.{at_drop_more}
use Rattle.std.proofs.lemmas.List.Concat.{flat_map-cons}
use Rattle.plain_list.specs.Texts.{compare_texts}
use Rattle.ground_model.specs.Packed.{State}
use Rattle.ground_model.specs.Ground.{Ground}
use Rattle.ground_step.specs.Edits.{with_atom, with_atoms}
use Rattle.certificate.specs.Numbering.{filled}
use Rattle.plan_report.specs.certificates.RowsKept.{KeptRow}
use Rattle.plan_report.specs.certificates.Kept.{atoms_in, act_name, act_names, named}

with_atoms-append : (s : State) (xs ys : List ℕ) → with_atoms s (xs ++ ys) ≡ with_atoms (with_atoms s xs) ys
with_atoms-append s [] ys = refl
with_atoms-append s (x ∷ xs) ys = with_atoms-append (with_atom s x) xs ys

pub atoms_more : (s : State) (rows : List KeptRow) (i : ℕ) (r : KeptRow) → i < length rows → r ≡ get_or rows i r
    → with_atoms s (atoms_in (drop i rows)) ≡ with_atoms (with_atoms s r.atoms) (atoms_in (drop (i + 1) rows))
atoms_more s rows i r within is =
    at_drop_more (λ (rest : List KeptRow). with_atoms s (atoms_in rest)) rows i r within
    ∙ ap (with_atoms s) (flat_map-cons (λ (x : KeptRow). x.atoms) (get_or rows i r) (drop (i + 1) rows))
    ∙ with_atoms-append s ((get_or rows i r).atoms) (atoms_in (drop (i + 1) rows))
    ∙ ap (λ (x : KeptRow). with_atoms (with_atoms s x.atoms) (atoms_in (drop (i + 1) rows))) (sym is)

filled-append : (table xs ys : List (List ℕ)) → filled table (xs ++ ys) ≡ filled (filled table xs) ys
filled-append table [] ys = refl
filled-append table (x ∷ xs) ys = filled-append (insert_key compare_texts table x) xs ys

pub names_more : (g : Ground) (table : List (List ℕ)) (rows : List KeptRow) (i : ℕ) (r : KeptRow) → i < length rows → r ≡ get_or rows i r
    → filled table (act_names g (drop i rows)) ≡ filled (filled table (named (act_name g r.upper))) (act_names g (drop (i + 1) rows))
names_more g table rows i r within is =
    at_drop_more (λ (rest : List KeptRow). filled table (act_names g rest)) rows i r within
    ∙ ap (filled table) (flat_map-cons (λ (x : KeptRow). named (act_name g x.upper)) (get_or rows i r) (drop (i + 1) rows))
    ∙ filled-append table (named (act_name g (get_or rows i r).upper)) (act_names g (drop (i + 1) rows))
    ∙ ap (λ (x : KeptRow). filled (filled table (named (act_name g x.upper))) (act_names g (drop (i + 1) rows))) (sym is)
