use Rattle.std.proofs.Common.{◌≡◌, ℕ, ◌-◌, ◌<◌, ◌≤◌, [], length, drop, sym, ap, ◌∙◌, arith}
use Rattle.std.specs.List.{list_all}
use Rattle.ppddl_model.specs.declared.tree.Param.{Param}
use Rattle.ppddl_model.specs.Objects.{objects_of, bindings}
use Rattle.ppddl_model.specs.Steps.{world}
use Rattle.task_instances.specs.quantified_atoms.Needed.{params_of}
use Rattle.task_instances.specs.quantified_atoms.Quantified.{passes}
use Rattle.task_instances.proofs.lemmas.quantified_atoms.MoreVariables.{pass, next_under, some_objects, under_none, params_reversed}
use Rattle.task_instances.proofs.quantified_atoms.quantifying.under.Goals as goal

pub loop-place-init : goal.loop-place-init
loop-place-init c = record {
  within = omega arith;
  under = λ f b.
      under_none (world c.args.facts.now) f c.args.inner.now c.args.variables.now c.in_ok-named.named.items c.reverse.new.self.items b
      c.reverse.ensures.items (c.in_ok-named.ensures.items ∙ c.as_slice.ensures.value);
}

pub loop-place-preserved : goal.loop-place-preserved
loop-place-preserved c =
    let w = world c.args.facts.now in
    let vs = c.args.variables.now in
    let place : ℕ = c.loop-place.place in
    let p : Param = c.index-variables-place.result in
    let within : place ≤ length vs = c.loop-place.invariant.within in
    let some : 0 < place = omega arith in
    let at : place - 1 < length vs = omega (arith, within, some) in
    record {
      within = omega (arith, within);
      under = λ f b.
          next_under w c.args.inner.now.atom.now f vs place p (params_of c.loop-place.named.items) (params_of c.add_needed.new.named.items)
          (passes w f c.args.inner.now) some within c.index-variables-place.is
          (λ none. some_objects w vs (place - 1) p [] c.requires at (ap (λ q. length (objects_of w q)) (sym c.index-variables-place.is) ∙ none))
          c.in_ok-add_needed.ensures (c.loop-place.invariant.under f) b;
    }

pub returns : goal.returns
returns c = λ f b.
    let w = world c.args.facts.now in
    let vs = c.args.variables.now in
    let none : c.loop-place.place ≡ 0 = omega arith in
    ap (λ l. pass w c.args.inner.now.atom.now f l b) (ap params_of c.reverse-2.ensures.items ∙ params_reversed c.loop-place.named.items)
    ∙ c.loop-place.invariant.under f b
    ∙ ap (λ k. list_all (passes w f c.args.inner.now) (bindings w (drop k vs) b)) none
