-- Which actions are open, and that of two that do the same both are open or none.
use Rattle.std.proofs.Common.{◌≡◌, ℕ, ◌<◌, true, Option, Some, None, List, length, refl, sym, ap, ◌∙◌}
use Rattle.std.specs.Prelude.{AllPairs, Contains}
use Rattle.std.specs.List.{slice_get, range_with_len}
use Rattle.std.proofs.lemmas.Bool.{false≢true}
use Rattle.std.proofs.lemmas.Option.{same_Some, slice_get_within}
use Rattle.std.proofs.lemmas.List.Kept.{AllPairs-filter}
use Rattle.ground_model.specs.declared.action.GroundAction.{GroundAction}
use Rattle.ground_model.specs.Packed.{State, has_bit}
use Rattle.ground_model.specs.Truth.{truth}
use Rattle.ground_model.specs.Ground.{Ground}
use Rattle.ground_model.specs.Steps.{is_open, is_open_at, ground_process}
use Rattle.applicable_actions.specs.distinct.Enough.{AreLike}
use Rattle.applicable_actions.proofs.lemmas.distinct.Members.{Contains-filter, Contains-filter_cases, Contains-range, range_rises}

-- ---- actions that do the same

pub like_itself : (actions : List GroundAction) (k : ℕ) (a : GroundAction) → slice_get actions k ≡ Some a → AreLike actions k k
like_itself actions k a here = record {
  one = a;
  other = a;
  one_here = here;
  other_here = here;
  same = record { condition = refl; choices = refl; den = refl };
}

pub like_through : (actions : List GroundAction) (i j k : ℕ) → AreLike actions i j → AreLike actions j k → AreLike actions i k
like_through actions i j k first second =
    let same : first.other ≡ second.one = same_Some first.other second.one (sym first.other_here ∙ second.one_here) in
    record {
      one = first.one;
      other = second.other;
      one_here = first.one_here;
      other_here = second.other_here;
      same = record {
        condition = first.same.condition ∙ ap (λ (a : GroundAction). a.condition) same ∙ second.same.condition;
        choices = first.same.choices ∙ ap (λ (a : GroundAction). a.choices) same ∙ second.same.choices;
        den = first.same.den ∙ ap (λ (a : GroundAction). a.den) same ∙ second.same.den;
      };
    }

-- ---- open actions

action_of : (o : Option GroundAction) (s : State) → is_open_at o s ≡ true → (a : GroundAction) × (o ≡ Some a)
action_of None s open_there = absurd (false≢true open_there)
action_of (Some a) s open_there = (a, refl)

module _ (g : Ground) (s : State) where
  pub opens_rise : AllPairs (λ (j k : ℕ). j < k) ((ground_process g).choices s)
  opens_rise =
      AllPairs-filter (λ (j k : ℕ). j < k) (λ k. is_open g k s) (range_with_len 0 (length g.actions))
      (range_rises 0 (length g.actions))

  is_open_there : (k : ℕ) → Contains ((ground_process g).choices s) k → is_open g k s ≡ true
  is_open_there k inside = (Contains-filter_cases (λ k. is_open g k s) (range_with_len 0 (length g.actions)) k inside).1

  pub open_action : (k : ℕ) → Contains ((ground_process g).choices s) k → (a : GroundAction) × (slice_get g.actions k ≡ Some a)
  open_action k inside = action_of (slice_get g.actions k) s (is_open_there k inside)

  pub like_is_open : (j k : ℕ) → AreLike g.actions j k → Contains ((ground_process g).choices s) k
      → Contains ((ground_process g).choices s) j
  like_is_open j k like inside =
      Contains-filter (λ k. is_open g k s) (range_with_len 0 (length g.actions)) j
      (Contains-range (length g.actions) j (slice_get_within g.actions j like.one like.one_here))
      (ap (λ o. is_open_at o s) like.one_here ∙ ap (truth (has_bit s)) like.same.condition
      ∙ sym (ap (λ o. is_open_at o s) like.other_here) ∙ is_open_there k inside)
