use Rattle.std.proofs.Common.{◌≡◌, true, false, cond, sym, ap, ◌∙◌}
use Rattle.ppddl_model.specs.State.{same_name}
use Rattle.ppddl_model.specs.Objects.{bound}
use Rattle.ground_terms.specs.terms.Scopes.{binding_of}
use Rattle.ground_terms.proofs.lemmas.terms.Naming.{told}
use Rattle.ground_terms.proofs.terms.scope.+bound.Goals as goal

pub returns-then-eq : goal.returns-then-eq
returns-then-eq t c =
    let v = c.args.variable.now in
    let same : same_name c.in-Bound.name.now v ≡ true = told c.in-Bound.name.now v c.eq.result true c.eq.ensures c.if-eq.true in
    sym (ap (λ s. bound (binding_of s) v) c.in-Bound.is
    ∙ ap (λ b. cond b c.in-Bound.object.now (bound (binding_of c.in-Bound.outer.now) v)) same)

pub returns-else-eq : goal.returns-else-eq
returns-else-eq t c =
    let v = c.args.variable.now in
    let same : same_name c.in-Bound.name.now v ≡ false = told c.in-Bound.name.now v c.eq.result false c.eq.ensures c.if-eq.false in
    c.bound.ensures
    ∙ sym (ap (λ s. bound (binding_of s) v) c.in-Bound.is
    ∙ ap (λ b. cond b c.in-Bound.object.now (bound (binding_of c.in-Bound.outer.now) v)) same)
