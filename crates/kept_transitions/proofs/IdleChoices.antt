-- A choice that is idle leads from each state to that state, and costs the same in each.
use Rattle.std.proofs.Common.{◌≡◌, ◌==◌, Bool, true, false, ◌&&◌, [], length, refl, sym, ap, ◌∙◌, eqb-true}
use Rattle.std.proofs.lemmas.Bool.{and_parts}
use Rattle.std.proofs.lemmas.List.{nil_from_length}
use Rattle.ground_model.specs.declared.action.Choice.{Choice}
use Rattle.ground_model.specs.Packed.{State, has_bit}
use Rattle.ground_model.specs.Choices.{after, next_state}
use Rattle.ground_model.proofs.Packed.{same_packed}
use Rattle.ground_step.proofs.Packed.{AreWords, is_packed}
use Rattle.kept_transitions.specs.Idle.{is_idle}

lists_are_empty : (c : Choice) → is_idle c ≡ true → (c.adds ≡ []) × (c.deletes ≡ []) × (c.guarded ≡ [])
lists_are_empty c idle =
    let first = and_parts (length c.adds == 0) ((length c.deletes == 0) && (length c.guarded == 0)) idle in
    let rest = and_parts (length c.deletes == 0) (length c.guarded == 0) first.1 in (
      nil_from_length c.adds (eqb-true (length c.adds) 0 first.0),
      nil_from_length c.deletes (eqb-true (length c.deletes) 0 rest.0),
      nil_from_length c.guarded (eqb-true (length c.guarded) 0 rest.1),
    )

-- without lists
abbrev nothing_of : Choice → Choice
nothing_of c = record { weight = c.weight; cost = c.cost; adds = []; deletes = []; guarded = [] }

idle_is_nothing : (c : Choice) → is_idle c ≡ true → c ≡ nothing_of c
idle_is_nothing c idle = let none = lists_are_empty c idle in λ i. record {
  weight = c.weight;
  cost = c.cost;
  adds = none.0 i;
  deletes = none.1 i;
  guarded = none.2 i;
}

stays_so : (b : Bool) → (b && true) ≡ b
stays_so true = refl
stays_so false = refl

pub idle_stays : (s : State) (c : Choice) → AreWords s → is_idle c ≡ true → next_state s c ≡ s
idle_stays s c are idle =
    ap (next_state s) (idle_is_nothing c idle)
    ∙ same_packed (after (has_bit s) (nothing_of c)) (has_bit s) (length s) (λ q below. stays_so (has_bit s q))
    ∙ sym (is_packed s are)
