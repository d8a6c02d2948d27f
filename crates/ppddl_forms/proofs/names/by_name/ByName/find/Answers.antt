use Rattle.std.proofs.Common.{◌∙◌, ap, sym, Some}
use Rattle.std.specs.Option.{option_copied}
use Rattle.std.proofs.lemmas.Option.{slice_get-get_or}
use Rattle.ppddl_model.specs.State.{same_name}
use Rattle.ppddl_forms.specs.names.Places.{first_named}
use Rattle.ppddl_forms.proofs.lemmas.names.Finding.{found, not_found}
use Rattle.ppddl_forms.proofs.names.by_name.ByName.find.Goals as goal

pub returns-in_err-place : goal.returns-in_err-place
returns-in_err-place g c =
    let name_of = g.T.Named.name_of in
    let name = c.args.name.now in
    let xs = c.self.inside.items.items in
    ap option_copied c.from_residual.ensures
    ∙ sym (not_found (λ x. same_name (name_of x) name) xs (sym (c.self.invariant name) ∙ sym c.place_of.ensures ∙ c.in_err-place.was))
    ∙ ap (λ ys. first_named name_of ys name) c.self.view_is

pub returns : goal.returns
returns g c =
    let name_of = g.T.Named.name_of in
    let name = c.args.name.now in
    let xs = c.self.inside.items.items in
    let at = found (λ x. same_name (name_of x) name) xs c.in_ok-place.place (sym (c.self.invariant name) ∙ sym c.place_of.ensures ∙ c.in_ok-place.was) in
    ap Some c.index.ensures
    ∙ sym (slice_get-get_or xs c.in_ok-place.place c.index.result.now at.0)
    ∙ sym at.1
    ∙ ap (λ ys. first_named name_of ys name) c.self.view_is
