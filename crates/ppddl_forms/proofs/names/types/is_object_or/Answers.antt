use Rattle.std.proofs.Common.{◌≡◌, ◌∙◌, ◌||◌, ap, sym, false}
use Rattle.std.specs.Prelude.{codes}
use Rattle.std.specs.Cmp.Lexicographic.{texts_ties}
use Rattle.ppddl_model.specs.State.{same_name}
use Rattle.ppddl_forms.proofs.names.types.is_object_or.Goals as goal

pub returns-else-eq : goal.returns-else-eq
returns-else-eq c =
    let name = c.args.name.now in
    let other = c.args.other.now in
    let differs : same_name name (codes "object") ≡ false =
    ap (same_name name) (sym c.as_slice.ensures) ∙ sym (texts_ties name c.as_slice.result.now) ∙ sym c.eq.ensures ∙ c.if-eq.false in
    c.eq-else-eq.ensures ∙ texts_ties name other ∙ sym (ap (λ b. b || same_name name other) differs)
