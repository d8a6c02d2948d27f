use Rattle.std.proofs.Common.{◌≡◌, ℕ, true≢false, ◌∷◌, map, drop, get_or, refl, sym, ap, subst, ◌∙◌}
use Rattle.std.specs.Prelude.{◌==◌}
use Rattle.ppddl_model.specs.Objects.{World, objects_of}
use Rattle.ppddl_model.specs.Steps.{world}
use Rattle.type_table.specs.Types.{object_at}
use Rattle.ground_terms.specs.terms.Scopes.{binding_of}
use Rattle.task_instances.specs.facts.Facts.{table_of}
use Rattle.task_instances.specs.quantified_atoms.Needed.{params_of}
use Rattle.grounder.specs.texts.Texts.{ground_texts}
use Rattle.grounder.specs.texts.Wanted.{with_more, IsPut}
use Rattle.grounder.proofs.lemmas.texts.Adding.{object_texts, first_ways, tail_is}
use Rattle.grounder.proofs.lemmas.texts.Wanting.{item_more, item_over}
use Rattle.grounder.proofs.texts.literals.+add_ways.Goals as goal

pub loop-object-init : goal.loop-object-init
loop-object-init t c =
    let w = world c.args.facts.now in
    let table = table_of c.args.facts.now in
    let items = c.as_slice-object-items.result.now in
    let first = c.index-variables-0.result.now in
    let listed : map (object_at table) items ≡ objects_of w first
    = ap (map (object_at table)) c.as_slice-object-items.ensures
    ∙ subst (λ (v : World). map (object_at v) c.in_ok-objects.objects ≡ objects_of v first) c.table.ensures.table c.in_ok-objects.ensures.objects in
    ap (with_more c.args.texts.now)
    (first_ways w table (binding_of c.args.scope.now) c.args.variables.now c.index-variables-0.result c.args.atom.now items
    (λ none. true≢false (sym (ap (λ k. k == 0) none) ∙ sym c.is_empty.ensures ∙ c.if-is_empty.false)) c.index-variables-0.is listed)

pub loop-object-preserved : goal.loop-object-preserved
loop-object-preserved t c =
    let w = world c.args.facts.now in
    let table = table_of c.args.facts.now in
    let items = c.as_slice-object-items.result.now in
    let vars = c.args.variables.now in
    let first = c.index-variables-0.result.now in
    let b = binding_of c.args.scope.now in
    let o : ℕ = get_or items c.loop-object.object-index 0 in
    let named = c.as_slice.ensures in
    let at : c.object_name.result.now ≡ object_at table o
    = c.object_name.ensures.name ∙ ap (λ (v : World). object_at v o) c.table-in-loop-object.ensures.table in
    let put : IsPut c.loop-object.texts (object_texts w table b (params_of (drop 1 vars)) first c.args.atom.now o) c.in_ok-add_ways.field-0 c.add_ways.new.texts
    = subst (λ l. IsPut c.loop-object.texts l c.in_ok-add_ways.field-0 c.add_ways.new.texts)
    (λ i. ground_texts w c.args.atom.now (params_of (tail_is vars i)) ((named i, at i) ∷ b)) c.in_ok-add_ways.ensures in
    item_more (object_texts w table b (params_of (drop 1 vars)) first c.args.atom.now) items c.loop-object.object-index o 0 c.loop-object.texts
    c.add_ways.new.texts _ c.in_ok-add_ways.field-0 c.loop-object-test.true refl put c.loop-object.invariant c.if-not-branch.false

pub returns-then-not-branch : goal.returns-then-not-branch
returns-then-not-branch t c =
    let w = world c.args.facts.now in
    let table = table_of c.args.facts.now in
    let items = c.as_slice-object-items.result.now in
    let vars = c.args.variables.now in
    let first = c.index-variables-0.result.now in
    let b = binding_of c.args.scope.now in
    let o : ℕ = get_or items c.loop-object.object-index 0 in
    let named = c.as_slice.ensures in
    let at : c.object_name.result.now ≡ object_at table o
    = c.object_name.ensures.name ∙ ap (λ (v : World). object_at v o) c.table-in-loop-object.ensures.table in
    let put : IsPut c.loop-object.texts (object_texts w table b (params_of (drop 1 vars)) first c.args.atom.now o) c.in_ok-add_ways.field-0 c.add_ways.new.texts
    = subst (λ l. IsPut c.loop-object.texts l c.in_ok-add_ways.field-0 c.add_ways.new.texts)
    (λ i. ground_texts w c.args.atom.now (params_of (tail_is vars i)) ((named i, at i) ∷ b)) c.in_ok-add_ways.ensures in
    item_over (object_texts w table b (params_of (drop 1 vars)) first c.args.atom.now) items c.loop-object.object-index o 0 c.loop-object.texts
    c.add_ways.new.texts _ c.in_ok-add_ways.field-0 c.loop-object-test.true refl put c.loop-object.invariant c.if-not-branch.true
