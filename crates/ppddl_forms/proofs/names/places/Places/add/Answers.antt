use Rattle.std.proofs.Common.{◌≡◌, ◌∙◌, false, true, ◌++◌, ◌∷◌, [], is_some, ap, sym, map, if◌then◌else◌, None}
use Rattle.std.specs.Map.{lookup}
use Rattle.indexmap.proofs.CallerLemmas.{insert_entry-new}
use Rattle.ppddl_forms.specs.names.Places.{entry_of, place_in}
use Rattle.ppddl_forms.proofs.lemmas.names.Finding.{place-entries, map-push, is_vector_of, none_from}
use Rattle.ppddl_forms.proofs.names.places.Places.add.Goals as goal

pub returns-then-contains_key-clause-added : goal.returns-then-contains_key-clause-added
returns-then-contains_key-clause-added c =
    let old = c.args.self.now in
    let name = c.args.name.now in
    let there : is_some (place_in old name) ≡ true =
    ap (λ places. is_some (place_in places name)) (sym c.self.view_is)
    ∙ ap is_some (sym (place-entries c.self.inside.table.entries name))
    ∙ sym c.contains_key.ensures
    ∙ c.if-contains_key.true in
    sym (ap (λ b. if b then old else old ++ (name, c.args.place) ∷ []) there)

pub returns-clause-added : goal.returns-clause-added
returns-clause-added c =
    let old = c.args.self.now in
    let name = c.args.name.now in
    let es = c.self.inside.table.entries in
    let absent : is_some (lookup (is_vector_of name) es) ≡ false = sym c.contains_key.ensures ∙ c.if-contains_key.false in
    let new : is_some (place_in old name) ≡ false =
    ap (λ places. is_some (place_in places name)) (sym c.self.view_is) ∙ ap is_some (sym (place-entries es name)) ∙ absent in
    let copied = c.in_ok-copy.ensures.items in
    let none : lookup (is_vector_of c.in_ok-copy.copy.items) es ≡ None = ap (λ n. lookup (is_vector_of n) es) copied ∙ none_from (lookup (is_vector_of name) es) absent in
    ap (map entry_of) (c.in-Ok.ensures.entries ∙ insert_entry-new _ c.self.inside.table c.in_ok-copy.copy c.args.place none)
    ∙ map-push es (c.in_ok-copy.copy, c.args.place)
    ∙ (λ i. c.self.view_is i ++ (copied i, c.args.place) ∷ [])
    ∙ sym (ap (λ b. if b then old else old ++ (name, c.args.place) ∷ []) new)
