use Rattle.std.proofs.Common.{◌≡◌, ◌∙◌, ◌++◌, ◌∷◌, [], true, false, is_some, ap, sym}
use Rattle.std.specs.Map.{lookup}
use Rattle.indexmap.proofs.CallerLemmas.{insert_entry-new}
use Rattle.ppddl_forms.specs.items.Values.{same_term, term_of, value_in}
use Rattle.ppddl_forms.proofs.lemmas.items.Indexed.{indexed-new, indexed-again, none_from}
use Rattle.ppddl_forms.proofs.items.values.Values.add.Goals as goal

pub invariant_of-self-then-contains_key : goal.invariant_of-self-then-contains_key
invariant_of-self-then-contains_key c t =
    let entries = c.self.inside.found.entries in
    let there : is_some (lookup (same_term (term_of c.args.value)) entries) ≡ true =
    ap (λ k. is_some (lookup (same_term k) entries)) (sym c.in_ok-key.ensures) ∙ sym c.contains_key.ensures ∙ c.if-contains_key.true in
    indexed-again c.self.inside.list.items entries c.args.value c.self.invariant there t ∙ ap (λ vs. value_in vs t) (sym c.in_ok-push.ensures.items)

pub invariant_of-self-in-Ok : goal.invariant_of-self-in-Ok
invariant_of-self-in-Ok c t =
    let entries = c.self.inside.found.entries in
    let absent : is_some (lookup (same_term c.in_ok-key.key) entries) ≡ false = sym c.contains_key.ensures ∙ c.if-contains_key.false in
    let grown : c.insert.new.self.entries ≡ entries ++ (term_of c.args.value, c.args.value.value) ∷ [] =
    c.in-Ok.ensures.entries
    ∙ insert_entry-new _ c.self.inside.found c.in_ok-key.key c.args.value.value (none_from (lookup (same_term c.in_ok-key.key) entries) absent)
    ∙ ap (λ k. entries ++ (k, c.args.value.value) ∷ []) c.in_ok-key.ensures in
    ap (lookup (same_term t)) grown
    ∙ indexed-new c.self.inside.list.items entries c.args.value c.self.invariant t
    ∙ ap (λ vs. value_in vs t) (sym c.in_ok-push.ensures.items)
