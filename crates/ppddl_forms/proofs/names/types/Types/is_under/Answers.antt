use Rattle.std.proofs.Common.{◌≡◌, ◌∙◌, ap, sym, false, []}
use Rattle.ppddl_model.specs.Objects.{World, is_under}
use Rattle.ppddl_model.specs.WellFormed.{is_type}
use Rattle.type_table.specs.Types.{type_names, table_world}
use Rattle.type_table.proofs.Numbered.{number_is}
use Rattle.ppddl_forms.proofs.lemmas.names.Under.{under-no_type, under_no_type}
use Rattle.ppddl_forms.proofs.names.types.Types.is_under.Goals as goal

pub returns-in_default : goal.returns-in_default
returns-in_default c =
    let kind = c.args.kind.now in
    let other = c.args.other.now in
    let types = c.self.inside.declared in
    let none : is_type types kind ≡ false = sym (c.in_default.ensures.known ∙ ap (λ (w : World). is_type w.types kind) c.self.invariant) in
    c.is_object_or.ensures ∙ sym (under-no_type types kind other none) ∙ ap (λ ts. is_under (table_world ts []) kind other) c.self.view_is

pub returns-in_default-type_number : goal.returns-in_default-type_number
returns-in_default-type_number c =
    let kind = c.args.kind.now in
    let other = c.args.other.now in
    let types = c.self.inside.declared in
    let none : is_type types other ≡ false =
    sym (c.in_default-type_number.ensures.known ∙ ap (λ (w : World). is_type w.types other) c.self.invariant) in
    c.is_object_or-in_default-type_number.ensures ∙ sym (under_no_type types kind other none) ∙ ap (λ ts. is_under (table_world ts []) kind other) c.self.view_is

pub returns : goal.returns
returns c =
    let kind = c.args.kind.now in
    let other = c.args.other.now in
    let table = c.self.inside.table in
    let first = number_is (type_names table.types) kind c.in-Some.kind_number (sym c.in-Some.ensures.number) in
    let second = number_is (type_names table.types) other c.in-Some-type_number.other_number (sym c.in-Some-type_number.ensures.number) in
    c.is_under.ensures
    ∙ (λ i. is_under (c.self.invariant i) (first.named i) (second.named i))
    ∙ ap (λ ts. is_under (table_world ts []) kind other) c.self.view_is
