use Rattle.std.proofs.Common.{[], ◌∷◌, ap, subst}
use Rattle.std.specs.Prelude.{nat_le}
use Rattle.grounder.specs.texts.Texts.{with_texts}
use Rattle.grounder.specs.texts.Wanted.{IsPut}
use Rattle.grounder.proofs.lemmas.texts.Wanting.{one_put}
use Rattle.grounder.proofs.texts.text_set.TextSet.insert.Goals as goal

pub returns : goal.returns
returns c =
    subst (λ s. IsPut s (c.args.text ∷ []) (nat_le c.len.result c.self.inside.most)
    (record { texts = with_texts [] c.insert.new.self.keys; most = c.self.inside.most })) c.self.view_is
    (one_put c.self.inside.texts.keys c.insert.new.self.keys c.args.text c.self.inside.most (nat_le c.len.result c.self.inside.most)
    c.in-Ok.ensures.keys c.len.ensures.unique (ap (λ k. nat_le k c.self.inside.most) c.len.ensures.len))
