-- Events that change who holds which id, and who works, keep a core sound.
use Rattle.std.proofs.Common.{◌≡◌, ◌≢◌, ◌⊎◌, ℕ, suc, ◌<◌, cond, true, List, [], ◌∷◌, ◌++◌, None, Some, refl, sym, ap, subst, inl, inr, ◌∙◌, arith}
use Rattle.std.specs.Prelude.{Option, IsSome, is_some, Contains, slice_set, flat_map, nat_eq, map}
use Rattle.std.specs.Option.{unwrap_or}
use Rattle.std.proofs.lemmas.Bool.{cases_eq, eqb-true}
use Rattle.std.proofs.lemmas.List.Elements.{Contains-append_right}
use Rattle.plain_list.proofs.Members.{Contains-flat_map}
use Rattle.decision_process.specs.Process.{Start}
use Rattle.decision_process.specs.Levels.{near, successors, IsReachable}
use Rattle.ground_model.specs.Packed.{State}
use Rattle.ground_model.specs.Ground.{Ground}
use Rattle.ground_model.specs.Steps.{ground_process, ground_starts}
use Rattle.bound_core.specs.declared.event.Event.TheVariants.{Claim, Publish, Split, Join}
use Rattle.bound_core.specs.Core.{Sight, Core, ended, sight_at, IsLive, IsPublished, written}
use Rattle.bound_core.specs.Events.{takes_spare, learns, without_spare, joined, CanPublish, Allowed, publishes, after}
use Rattle.bound_core.specs.Sound.{spare_of, IdsAreHeld, StatesAreReached, IsSeenBy, Sound}
use Rattle.bound_core.proofs.Numbers.{none_is_not_some}
use Rattle.bound_core.proofs.Sights.{set_each, push_each, set_relates, push_relates, set_sight, other_sight}
use Rattle.bound_core.proofs.Changing.{none_or_some, some_is_some, unwrapped, same_content, or_cases, at_id, off_id, Spares, ids_kept, KnowsPublished}

module _ (g : Ground) where
  -- ---- a claim

  claim_ids : (c : Core) (k : ℕ) → IsLive g c k → spare_of g c k ≡ None → IdsAreHeld g c → IdsAreHeld g (after g c (Claim k))
  claim_ids c k live empty held =
      let w : Sight = takes_spare c.given (sight_at g c k) in
      let mine : spare_of g (after g c (Claim k)) k ≡ Some c.given = ap (λ (v : Sight). v.spare) (set_sight g c k w live) in
      let others = λ (j : ℕ) (apart : j ≢ k). ap (λ (v : Sight). v.spare) (other_sight g c k w j apart) in
      let taken = λ (j id : ℕ) (holds : spare_of g (after g c (Claim k)) j ≡ Some id). claimed_by c k live empty j id holds in
      record {
        each = λ id below. elim (cases_eq id c.given) [
          | inl same ↦ inr (k, mine ∙ ap Some (sym same))
          | inr apart ↦ elim (held.each id (omega arith)) [
            | inl published ↦ inl published
            | inr (j, holds) ↦ inr (j, others j (λ same. none_is_not_some id (sym empty ∙ subst (λ i. spare_of g c i ≡ Some id) same holds)) ∙ holds)
          ]
        ];
        published = λ id published. let below : id < c.given = held.published id published in omega arith;
        spare_given = λ j id holds. elim (taken j id holds) [
          | inl (same, is_new) ↦ omega arith
          | inr (apart, old) ↦ let below : id < c.given = held.spare_given j id old in omega arith
        ];
        spare_unpublished = λ j id holds. elim (taken j id holds) [
          | inl (same, is_new) ↦ subst (λ i. c.state_of i ≡ None) is_new (elim (none_or_some (c.state_of c.given)) [
            | inl none ↦ none
            | inr (s, some) ↦ let below : c.given < c.given = held.published c.given (some_is_some (c.state_of c.given) s some) in absurd (omega arith)
          ])
          | inr (apart, old) ↦ held.spare_unpublished j id old
        ];
        spares_differ = λ i j id first second. elim (taken i id first) [
          | inl (same, is_new) ↦ elim (taken j id second) [
            | inl (same', _) ↦ same ∙ sym same'
            | inr (_, old) ↦ let below : id < c.given = held.spare_given j id old in absurd (omega arith)
          ]
          | inr (_, old) ↦ elim (taken j id second) [
            | inl (same', is_new) ↦ let below : id < c.given = held.spare_given i id old in absurd (omega arith)
            | inr (_, old') ↦ held.spares_differ i j id old old'
          ]
        ];
      }
    where
      claimed_by : (c : Core) (k : ℕ) → IsLive g c k → spare_of g c k ≡ None → (j id : ℕ) → spare_of g (after g c (Claim k)) j ≡ Some id
          → ((j ≡ k) × (c.given ≡ id)) ⊎ ((j ≢ k) × (spare_of g c j ≡ Some id))
      claimed_by c k live empty j id holds =
          let w : Sight = takes_spare c.given (sight_at g c k) in elim (cases_eq j k) [
            | inl same ↦ inl (
              same,
              same_content c.given id
                  (ap (λ (v : Sight). v.spare) (sym (set_sight g c k w live)) ∙ subst (λ i. spare_of g (after g c (Claim k)) i ≡ Some id) same holds),
            )
            | inr apart ↦ inr (apart, ap (λ (v : Sight). v.spare) (sym (other_sight g c k w j apart)) ∙ holds)
          ]

  pub claim_keeps : (c : Core) (k : ℕ) → Sound g c → IsLive g c k → spare_of g c k ≡ None → Sound g (after g c (Claim k))
  claim_keeps c k sound live empty = record {
    ids = claim_ids c k live empty sound.ids;
    states = record {
      distinct = sound.states.distinct;
      reachable = sound.states.reachable;
      known = set_each (KnowsPublished g c) c.workers k (takes_spare c.given (sight_at g c k)) (ended g) (sound.states.known k) sound.states.known;
    };
    lower = sound.lower;
    upper = sound.upper;
    seen = set_each (IsSeenBy (after g c (Claim k))) c.workers k (takes_spare c.given (sight_at g c k)) (ended g)
        (record { lower = (sound.seen k).lower; upper = (sound.seen k).upper })
        (λ j. record { lower = (sound.seen j).lower; upper = (sound.seen j).upper });
  }

  -- ---- a publication

  next_is_reachable : (s t : State) → IsReachable (ground_process g) (ground_starts g) s → Contains (successors (ground_process g) s) t
      → IsReachable (ground_process g) (ground_starts g) t
  next_is_reachable s t reached next = (
    suc reached.0,
    Contains-append_right (map (λ (start : Start State). start.state) (ground_starts g))
        (flat_map (successors (ground_process g)) (near (ground_process g) (ground_starts g) reached.0)) t
        (Contains-flat_map (successors (ground_process g)) (near (ground_process g) (ground_starts g) reached.0) s t reached.1 next),
  )

  module _ (c : Core) (k id : ℕ) (live : IsLive g c k) (mine : spare_of g c k ≡ Some id) where
    made : State
    made = written g (sight_at g c k)

    abbrev with_made : ℕ → Option State
    with_made i = cond (nat_eq i id) (Some (written g (sight_at g c k))) (c.state_of i)

    with_made_at : with_made id ≡ Some (written g (sight_at g c k))
    with_made_at = at_id id (Some (written g (sight_at g c k))) c.state_of

    with_made_off : (i : ℕ) → i ≢ id → with_made i ≡ c.state_of i
    with_made_off i apart = off_id i id (Some (written g (sight_at g c k))) c.state_of apart

    still_published : (i : ℕ) → IsPublished c i → IsSome (with_made i)
    still_published i published = elim (cases_eq i id) [
      | inl same ↦ subst (λ n. IsSome (with_made n)) (sym same) (some_is_some (with_made id) (written g (sight_at g c k)) with_made_at)
      | inr apart ↦ ap is_some (with_made_off i apart) ∙ published
    ]

    published_before : (i : ℕ) → i ≢ id → IsSome (with_made i) → IsPublished c i
    published_before i apart published = ap is_some (sym (with_made_off i apart)) ∙ published

    abbrev publisher : Sight
    publisher = learns id (without_spare (sight_at g c k))

    held_by_other : (j i : ℕ) → spare_of g (publishes g c k id) j ≡ Some i → (j ≢ k) × (spare_of g c j ≡ Some i)
    held_by_other j i holds = elim (cases_eq j k) [
      | inl same ↦ absurd (none_is_not_some i
          (ap (λ (v : Sight). v.spare) (sym (set_sight g c k publisher live)) ∙ subst (λ n. spare_of g (publishes g c k id) n ≡ Some i) same holds))
      | inr apart ↦ (apart, ap (λ (v : Sight). v.spare) (sym (other_sight g c k publisher j apart)) ∙ holds)
    ]

    publish_ids : IdsAreHeld g c → IdsAreHeld g (publishes g c k id)
    publish_ids held = record {
      each = λ i below. elim (cases_eq i id) [
        | inl same ↦ inl (subst (λ n. IsSome (with_made n)) (sym same) (some_is_some (with_made id) (written g (sight_at g c k)) with_made_at))
        | inr apart ↦ elim (held.each i below) [
          | inl published ↦ inl (still_published i published)
          | inr (j, holds) ↦ inr (
            j,
            ap (λ (v : Sight). v.spare) (other_sight g c k publisher j
                (λ same. apart (same_content i id (sym holds ∙ subst (λ n. spare_of g c n ≡ Some id) (sym same) mine)))) ∙ holds,
          )
        ]
      ];
      published = λ i published. elim (cases_eq i id) [
        | inl same ↦ subst (λ n. n < c.given) (sym same) (held.spare_given k id mine)
        | inr apart ↦ held.published i (published_before i apart published)
      ];
      spare_given = λ j i holds. held.spare_given j i (held_by_other j i holds).1;
      spare_unpublished = λ j i holds.
          let old = held_by_other j i holds in
          with_made_off i (λ same. old.0 (held.spares_differ j k i old.1 (mine ∙ ap Some (sym same))))
          ∙ held.spare_unpublished j i old.1;
      spares_differ = λ i j n first second. held.spares_differ i j n (held_by_other i n first).1 (held_by_other j n second).1;
    }

    publish_states : CanPublish g c (sight_at g c k) → StatesAreReached g c → StatesAreReached g (publishes g c k id)
    publish_states can states = record {
      distinct = λ i j s first second. elim (cases_eq i id) [
        | inl same ↦ elim (cases_eq j id) [
          | inl same' ↦ same ∙ sym same'
          | inr apart ↦ absurd (can.is_new j (sym (with_made_off j apart) ∙ second ∙ sym (is_made i s same first)))
        ]
        | inr apart ↦ elim (cases_eq j id) [
          | inl same ↦ absurd (can.is_new i (sym (with_made_off i apart) ∙ first ∙ sym (is_made j s same second)))
          | inr apart' ↦ states.distinct i j s (sym (with_made_off i apart) ∙ first) (sym (with_made_off j apart') ∙ second)
        ]
      ];
      reachable = λ i s there. elim (cases_eq i id) [
        | inl same ↦
            let next = can.is_reached in
            subst (λ t. IsReachable (ground_process g) (ground_starts g) t) (same_content (written g (sight_at g c k)) s (is_made i s same there))
            (next_is_reachable next.1 (written g (sight_at g c k)) (states.reachable next.0 next.1 next.3) next.4)
        | inr apart ↦ states.reachable i s (sym (with_made_off i apart) ∙ there)
      ];
      known = set_each (λ (w : Sight). (i : ℕ) → w.knows i ≡ true → IsSome (with_made i)) c.workers k publisher (ended g)
          (λ i on. elim (or_cases (nat_eq i id) ((sight_at g c k).knows i) on) [
            | inl same ↦ subst (λ n. IsSome (with_made n)) (sym (eqb-true i id same)) (some_is_some (with_made id) (written g (sight_at g c k)) with_made_at)
            | inr old ↦ still_published i (states.known k i old)
          ])
          (λ j i on. still_published i (states.known j i on));
    }
      where
        is_made : (i : ℕ) (s : State) → i ≡ id → with_made i ≡ Some s → Some (written g (sight_at g c k)) ≡ Some s
        is_made i s same there = sym with_made_at ∙ subst (λ n. with_made n ≡ Some s) same there

    pub publishes_keeps : CanPublish g c (sight_at g c k) → Sound g c → Sound g (publishes g c k id)
    publishes_keeps can sound = record {
      ids = publish_ids sound.ids;
      states = publish_states can sound.states;
      lower = sound.lower;
      upper = sound.upper;
      seen = set_each (IsSeenBy (publishes g c k id)) c.workers k publisher (ended g)
          (record { lower = (sound.seen k).lower; upper = (sound.seen k).upper })
          (λ j. record { lower = (sound.seen j).lower; upper = (sound.seen j).upper });
    }

  pub publish_keeps : (c : Core) (k : ℕ) → Sound g c → Allowed g c (Publish k) → Sound g (after g c (Publish k))
  publish_keeps c k sound allowed =
      publishes_keeps c k (unwrap_or (spare_of g c k) 0) allowed.0 (unwrapped (spare_of g c k) 0 allowed.1.has_spare) allowed.1 sound

  -- ---- workers that begin and end

  pub split_keeps : (c : Core) (k : ℕ) → Sound g c → Sound g (after g c (Split k))
  split_keeps c k sound =
      let w : Sight = without_spare (sight_at g c k) in record {
        ids = ids_kept g c c.lower c.upper (c.workers ++ w ∷ [])
            (push_relates (λ (v v' : Sight). v'.spare ≡ v.spare) (λ v. refl) c.workers w (ended g) refl) sound.ids;
        states = record {
          distinct = sound.states.distinct;
          reachable = sound.states.reachable;
          known = push_each (KnowsPublished g c) c.workers w (ended g) (sound.states.known k) (λ id on. absurd cc) sound.states.known;
        };
        lower = sound.lower;
        upper = sound.upper;
        seen = push_each (IsSeenBy (after g c (Split k))) c.workers w (ended g)
            (record { lower = (sound.seen k).lower; upper = (sound.seen k).upper })
            (record { lower = λ s. omega arith; upper = sound.upper.within_first })
            (λ j. record { lower = (sound.seen j).lower; upper = (sound.seen j).upper });
      }

  pub join_keeps : (c : Core) (k other : ℕ) → Sound g c → spare_of g c other ≡ None → Sound g (after g c (Join k other))
  join_keeps c k other sound empty =
      let w : Sight = joined (sight_at g c k) (sight_at g c other) in
      let ws : List Sight = slice_set c.workers k w in
      let first : Spares g c.workers ws = set_relates (λ (v v' : Sight). v'.spare ≡ v.spare) (λ v. refl) c.workers k w (ended g) refl in
      let second : Spares g ws (slice_set ws other (ended g))
      = set_relates (λ (v v' : Sight). v'.spare ≡ v.spare) (λ v. refl) ws other (ended g) (ended g) (sym (first other ∙ empty)) in
      record {
        ids = ids_kept g c c.lower c.upper (slice_set ws other (ended g)) (λ j. second j ∙ first j) sound.ids;
        states = record {
          distinct = sound.states.distinct;
          reachable = sound.states.reachable;
          known = set_each (KnowsPublished g c) ws other (ended g) (ended g) (λ id on. absurd cc)
              (set_each (KnowsPublished g c) c.workers k w (ended g)
              (λ id on. elim (or_cases ((sight_at g c k).knows id) ((sight_at g c other).knows id) on) [
                | inl mine ↦ sound.states.known k id mine
                | inr theirs ↦ sound.states.known other id theirs
              ])
              sound.states.known);
        };
        lower = sound.lower;
        upper = sound.upper;
        seen = set_each (IsSeenBy (after g c (Join k other))) ws other (ended g) (ended g)
            (record { lower = λ s. omega arith; upper = sound.upper.within_first })
            (set_each (IsSeenBy (after g c (Join k other))) c.workers k w (ended g)
            (record {
              lower = λ s. omega (arith, (sound.seen k).lower s, (sound.seen other).lower s);
              upper = λ s. omega (arith, (sound.seen k).upper s, (sound.seen other).upper s);
            })
            (λ j. record { lower = (sound.seen j).lower; upper = (sound.seen j).upper }));
      }
