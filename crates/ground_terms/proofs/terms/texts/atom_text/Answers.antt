use Rattle.std.proofs.Common.{◌≡◌, ◌∙◌, ◌++◌, ◌∷◌, [], ap, map}
use Rattle.std.specs.Prelude.{flat_map, codes}
use Rattle.ppddl_model.specs.Objects.{named}
use Rattle.ground_terms.specs.terms.Scopes.{binding_of}
use Rattle.ground_terms.proofs.lemmas.terms.Spelling.{spaced, begun}
use Rattle.ground_terms.proofs.terms.texts.atom_text.Goals as goal

pub loop-term-init : goal.loop-term-init
loop-term-init c =
    let b = binding_of c.args.scope.now in
    let written : c.extend_from_slice.new.self.items ≡ 40 ∷ c.args.atom.now.predicate =
    c.in_ok-extend_from_slice.ensures.items
    ∙ (λ i. c.in_ok-push.ensures.items i ++ c.as_slice.ensures i)
    ∙ ap (λ l. (l ++ 40 ∷ []) ++ c.args.atom.now.predicate) c.in_ok-text.ensures.items in
    (λ i. written i ++ (flat_map spaced (map (named b) (c.as_slice-term-items.ensures i)) ++ codes ")"))
    ∙ begun c.args.atom.now.predicate (map (named b) c.args.atom.now.args)
