-- A state that is not listed is put behind the others.
use Rattle.std.proofs.Common.{sym, subst, inl, refl}
use Rattle.trial_workers.specs.explorer.Found.{IsAdded}
use Rattle.trial_workers.proofs.lemmas.explorer.Distinct.{AreDistinct, distinct_added}
use Rattle.trial_workers.proofs.lemmas.explorer.Insertion.{listed_is, inserted}
use Rattle.trial_workers.proofs.explorer.listing.Listing.add.Goals as goal

pub invariant_of-self-2 : goal.invariant_of-self-2
invariant_of-self-2 c =
    let keys = c.self.inside.set.keys in
    subst AreDistinct (sym c.in-Ok.ensures.keys)
    (distinct_added keys _ c.args.state.now c.self.invariant (inserted keys c.args.state.now c.in_ok-copy.copy c.in_ok-copy.ensures.cases))

pub returns : goal.returns
returns c =
    let keys = c.self.inside.set.keys in
    subst (λ old. IsAdded old c.insert.new.self.keys c.args.state.now) c.self.view_is
    (subst (λ new. IsAdded keys new c.args.state.now) (sym c.in-Ok.ensures.keys) (inserted keys c.args.state.now c.in_ok-copy.copy c.in_ok-copy.ensures.cases))

pub returns-then-contains : goal.returns-then-contains
returns-then-contains c =
    let keys = c.self.inside.set.keys in
    subst (λ listed. IsAdded listed listed c.args.state.now) c.self.view_is
    (inl (refl, listed_is keys c.args.state.now c.contains.result c.contains.ensures c.if-contains.true))
