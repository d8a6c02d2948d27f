-- Each allowed event keeps a core sound, and a core begins sound.
use Rattle.std.proofs.Common.{◌≡◌, ◌≢◌, ℕ, suc, zero, ◌<◌, true, false, List, [], ◌∷◌, length, None, Some, refl, sym, ap, inl, inr, ◌∙◌, arith}
use Rattle.std.specs.Prelude.{AllPairs, IsSome, is_some}
use Rattle.std.specs.List.{slice_get}
use Rattle.std.proofs.lemmas.Bool.{cases_lt, ltb-true}
use Rattle.std.proofs.lemmas.Option.{slice_get_past, slice_get_within, slice_get-get_or, get_or_from_slice_get}
use Rattle.ground_model.specs.Packed.{State}
use Rattle.ground_model.specs.Ground.{Ground}
use Rattle.ground_model.proofs.Steps.{slice_get-contains}
use Rattle.bound_core.specs.declared.event.Event.TheVariants.{SeeLower, SeeUpper, Raise, Sink, Claim, Write, Publish, Look, Split, Join}
use Rattle.bound_core.specs.Core.{sight_at, IsPublished, first_core}
use Rattle.bound_core.specs.Events.{after}
use Rattle.bound_core.specs.Sound.{spare_of, IsSeenBy}
use Rattle.bound_core.specs.Laws as laws
use Rattle.bound_core.proofs.Numbers.{first_lower_is_sound, first_upper_is_sound, none_is_not_some}
use Rattle.bound_core.proofs.Changing.{lower_is_seen, upper_is_seen, raise_keeps, sink_keeps, write_keeps, look_keeps}
use Rattle.bound_core.proofs.Holding.{claim_keeps, publish_keeps, split_keeps, join_keeps}

module _ (g : Ground) where
  pub keeps_sound : laws.EventKeepsSound g
  keeps_sound c (SeeLower k id) sound allowed = lower_is_seen g c k id sound
  keeps_sound c (SeeUpper k id) sound allowed = upper_is_seen g c k id sound
  keeps_sound c (Raise k id value) sound allowed = raise_keeps g c k id value sound allowed
  keeps_sound c (Sink k id word) sound allowed = sink_keeps g c k id word sound allowed
  keeps_sound c (Claim k) sound allowed = claim_keeps g c k sound allowed.0 allowed.1
  keeps_sound c (Write k place word) sound allowed = write_keeps g c k place word sound
  keeps_sound c (Publish k) sound allowed = publish_keeps g c k sound allowed
  keeps_sound c (Look k None) sound allowed = sound
  keeps_sound c (Look k (Some id)) sound allowed = look_keeps g c k id sound allowed.1
  keeps_sound c (Split k) sound allowed = split_keeps g c k sound
  keeps_sound c (Join k other) sound allowed = join_keeps g c k other sound allowed.3

  pub keep_sound : laws.EventsKeepSound g
  keep_sound c [] sound allowed = sound
  keep_sound c (e ∷ events) sound allowed = keep_sound (after g c e) events (keeps_sound c e sound allowed.0) allowed.1

  -- no worker of the first core has a spare
  no_spare : (states : List State) (k : ℕ) → spare_of g (first_core g states) k ≡ None
  no_spare states zero = refl
  no_spare states (suc k) = refl

  first_seen : (states : List State) (k : ℕ) → IsSeenBy (first_core g states) (sight_at g (first_core g states) k)
  first_seen states zero = record { lower = λ s. omega arith; upper = λ s. omega arith }
  first_seen states (suc k) = record { lower = λ s. omega arith; upper = λ s. omega arith }

  within_is_some : (states : List State) (id : ℕ) → id < length states → IsSome (slice_get states id)
  within_is_some states id within = ap is_some (slice_get-get_or states id [] within)

  first_known : (states : List State) (k id : ℕ) → (sight_at g (first_core g states) k).knows id ≡ true
      → IsPublished (first_core g states) id
  first_known states zero id on = within_is_some states id (ltb-true id (length states) on)
  first_known states (suc k) id on = absurd cc

  apart_by_order : (states : List State) → AllPairs (λ (s t : State). s ≢ t) states → (i j : ℕ) (s : State)
      → slice_get states i ≡ Some s → slice_get states j ≡ Some s → i < j → ⊥
  apart_by_order states differ i j s first second before =
      differ i j s before (slice_get_within states j s second)
      (get_or_from_slice_get states i s s first ∙ sym (get_or_from_slice_get states j s s second))

  pub first_is_sound : laws.FirstIsSound g
  first_is_sound states differ reached = record {
    ids = record {
      each = λ id below. inl (within_is_some states id below);
      published = λ id published. elim (cases_lt id (length states)) [
        | inl below ↦ below
        | inr past ↦
            let gone : false ≡ true = sym (ap is_some (slice_get_past states id past)) ∙ published in
            absurd cc
      ];
      spare_given = λ k id holds. absurd (none_is_not_some id (sym (no_spare states k) ∙ holds));
      spare_unpublished = λ k id holds. absurd (none_is_not_some id (sym (no_spare states k) ∙ holds));
      spares_differ = λ k l id holds _. absurd (none_is_not_some id (sym (no_spare states k) ∙ holds));
    };
    states = record {
      distinct = λ i j s first second. elim (cases_lt i j) [
        | inl before ↦ absurd (apart_by_order states differ i j s first second before)
        | inr above ↦ elim (cases_lt j i) [
          | inl before ↦ absurd (apart_by_order states differ j i s second first before)
          | inr above' ↦ omega arith
        ]
      ];
      reachable = λ id s there. reached s (slice_get-contains states id s there);
      known = first_known states;
    };
    lower = first_lower_is_sound g;
    upper = first_upper_is_sound g;
    seen = first_seen states;
  }
