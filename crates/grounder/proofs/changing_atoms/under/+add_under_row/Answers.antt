use Rattle.std.proofs.Common.{◌≡◌, ◌<◌, ◌-◌, ℕ, zero, suc, true≢false, length, refl, sym, ap, subst, ◌∙◌, arith}
use Rattle.std.specs.Prelude.{flat_map, IfOk, ◌==◌}
use Rattle.std.proofs.lemmas.Bool.{eqb-true}
use Rattle.ppddl_model.specs.Steps.{world}
use Rattle.ground_terms.specs.terms.Scopes.{binding_of}
use Rattle.task_instances.specs.facts.Facts.{table_of}
use Rattle.grounder.specs.texts.Texts.{under_texts}
use Rattle.grounder.specs.texts.Wanted.{IsPut}
use Rattle.grounder.proofs.lemmas.changing_atoms.Instances.{bound_none, one_less, all_behind}
use Rattle.grounder.proofs.changing_atoms.under.+add_under_row.Goals as goal

pub returns-then-is_empty : goal.returns-then-is_empty
returns-then-is_empty t c =
    let none : length c.args.params.now ≡ 0 = eqb-true (length c.args.params.now) 0 (sym c.is_empty.ensures ∙ c.if-is_empty.true) in
    subst (λ b. IfOk c.add_under.result
    (λ all. IsPut c.args.texts.now (flat_map (under_texts (world c.args.facts.now) b) c.args.atoms.now) all c.add_under.new.texts))
    (sym (bound_none (table_of c.args.facts.now) c.args.params.now c.args.row.now (binding_of c.args.scope.now) none))
    c.add_under.ensures

pub add_under_row-requires : goal.add_under_row-requires
add_under_row-requires t c =
    let some : length c.args.params.now ≡ 0 → ⊥ = λ none. true≢false (sym (ap (λ k. k == 0) none) ∙ sym c.is_empty.ensures ∙ c.if-is_empty.false) in
    let params = one_less c.args.params.now in
    let row = one_less c.args.row.now in
    let before : length c.args.params.now ≡ t = c.decreases in
    let long = c.requires.long in (
      falls (length c.args.params.now) t _ some before params,
      (
        omega (arith, params, row, long),
        all_behind (λ o. o < length (table_of c.args.facts.now).objects) c.args.row.now c.requires.within,
      ),
    )
  where
    falls : (n t k : ℕ) → (n ≡ 0 → ⊥) → n ≡ t → k ≡ n - 1 → k < t
    falls zero t k some before is = absurd (some refl)
    falls (suc n) t k some before is = omega (arith, before, is)
