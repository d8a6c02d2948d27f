-- Names of predicates that are put in.
use Rattle.std.proofs.Common.{◌≡◌, ℕ, ◌+◌, ◌<◌, List, [], ◌∷◌, map, take, length, get_or, sym, ap, ◌∙◌}
use Rattle.std.proofs.lemmas.List.{map-append}
use Rattle.ppddl_model.specs.declared.tree.PredicateDecl.{PredicateDecl}
use Rattle.ppddl_model.specs.State.{Name}
use Rattle.type_table.specs.Numbered.{each_once, with_name}
use Rattle.type_table.proofs.Once.{each_once-push}
use Rattle.ground_terms.proofs.lemmas.terms.Giving.{one_more}
use Rattle.task_instances.specs.fact_rows.Rows.{declared_name}

pub declared_more : (declared : List PredicateDecl) (i : ℕ) (p : PredicateDecl) (before after : List Name) → i < length declared → p ≡ get_or declared i p
    → before ≡ each_once (map declared_name (take i declared)) → after ≡ with_name before p.name
    → after ≡ each_once (map declared_name (take (i + 1) declared))
declared_more declared i p before after within is so_far put =
    put ∙ ap (λ l. with_name l p.name) so_far
    ∙ sym (ap (λ l. each_once (map declared_name l)) (one_more declared i p within is)
    ∙ ap each_once (map-append declared_name (take i declared) (p ∷ []))
    ∙ each_once-push (map declared_name (take i declared)) p.name)
