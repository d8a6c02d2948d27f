use Rattle.std.proofs.Common.{◌≡◌, ℕ, true, sym, subst}
use Rattle.std.specs.Prelude.{List}
use Rattle.brtdp_trial.specs.Meaning.{Last}
use Rattle.brtdp_trial.specs.Listed.{Listing, answered, last_in, state_at}
use Rattle.brtdp_trial.specs.declared.listed.Interval.{Interval}
use Rattle.brtdp_trial.specs.declared.listed.ListedState.{ListedState}
use Rattle.brtdp_trial.proofs.Answered.{IsGood, answered_at_good}
use Rattle.brtdp_trial.proofs.listed_bounds.ListedBoundsBounds.backup.Goals as goal

good : (cap id : ℕ) (states given_states : List ListedState) (numbers given_numbers : List Interval) (x : Last)
    → x ≡ answered cap given_states given_numbers (state_at given_states id) → given_states ≡ states
    → given_numbers ≡ numbers → IsGood states (answered cap states numbers (state_at states id)) → IsGood states x
good cap id states given_states numbers given_numbers x is same_states same_numbers holds =
    let first : x ≡ answered cap states given_numbers (state_at states id)
    = subst (λ s. x ≡ answered cap s given_numbers (state_at s id)) same_states is in
    let then : x ≡ answered cap states numbers (state_at states id)
    = subst (λ n. x ≡ answered cap states n (state_at states id)) same_numbers first in
    subst (IsGood states) (sym then) holds

pub returns-clause-choices : goal.returns-clause-choices
returns-clause-choices c =
    (good c.self.inside.penalty c.args.id c.self.inside.states c.as_slice.result.now c.self.inside.numbers c.as_slice-2.result.now
    (last_in c.back_up-found.result.code c.back_up-found.result.den c.back_up-found.result.steps)
    c.back_up-found.ensures.answer c.as_slice.ensures c.as_slice-2.ensures
    (answered_at_good c.self.inside.penalty c.self.inside.states c.self.inside.numbers c.args.id c.self.invariant.states
    c.self.invariant.numbers c.self.invariant.a_number_each
    (subst (λ (l : Listing). (state_at l.states c.args.id).placed ≡ true) (sym c.self.view_is) c.requires))).0

pub returns-clause-known : goal.returns-clause-known
returns-clause-known c =
    (good c.self.inside.penalty c.args.id c.self.inside.states c.as_slice.result.now c.self.inside.numbers c.as_slice-2.result.now
    (last_in c.back_up-found.result.code c.back_up-found.result.den c.back_up-found.result.steps)
    c.back_up-found.ensures.answer c.as_slice.ensures c.as_slice-2.ensures
    (answered_at_good c.self.inside.penalty c.self.inside.states c.self.inside.numbers c.args.id c.self.invariant.states
    c.self.invariant.numbers c.self.invariant.a_number_each
    (subst (λ (l : Listing). (state_at l.states c.args.id).placed ≡ true) (sym c.self.view_is) c.requires))).1

pub returns-clause-unplaced : goal.returns-clause-unplaced
returns-clause-unplaced c =
    (good c.self.inside.penalty c.args.id c.self.inside.states c.as_slice.result.now c.self.inside.numbers c.as_slice-2.result.now
    (last_in c.back_up-found.result.code c.back_up-found.result.den c.back_up-found.result.steps)
    c.back_up-found.ensures.answer c.as_slice.ensures c.as_slice-2.ensures
    (answered_at_good c.self.inside.penalty c.self.inside.states c.self.inside.numbers c.args.id c.self.invariant.states
    c.self.invariant.numbers c.self.invariant.a_number_each
    (subst (λ (l : Listing). (state_at l.states c.args.id).placed ≡ true) (sym c.self.view_is) c.requires))).2
