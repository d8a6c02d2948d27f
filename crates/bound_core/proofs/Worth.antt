-- What the numbers of a sound core are worth.
use Rattle.std.proofs.Common.{◌≡◌, ℕ, suc, zero, ◌*◌, ◌^◌, ◌≤◌, cond, [], length, map, ap, subst, inl, inr, ◌∙◌, arith}
use Rattle.std.specs.Prelude.{IsTrue, Contains, flat_map}
use Rattle.std.proofs.Math.Nat.{one-le-pow, le_of_mul-le-mul_right}
use Rattle.std.proofs.lemmas.Bool.{cases_Bool}
use Rattle.std.proofs.lemmas.List.Elements.{Contains-append_cases}
use Rattle.plain_list.proofs.Members.{Contains-nil, Contains-map_cases, Contains-flat_map_cases}
use Rattle.fixed_round.specs.Words.{value_of}
use Rattle.decision_process.specs.Process.{Outcome, Start}
use Rattle.decision_process.specs.Least.{CoversFromAbove}
use Rattle.decision_process.specs.Levels.{near, nexts, successors}
use Rattle.decision_process.specs.Following.{IsUpperFrom}
use Rattle.decision_process.proofs.Balance.{act_is_policy, spend_le_high}
use Rattle.decision_process.proofs.LowerBounds.{least_le_spend}
use Rattle.decision_process.proofs.Covering.{supported_act_covers}
use Rattle.ground_model.specs.Packed.{State, is_inside}
use Rattle.ground_model.specs.Ground.{Ground}
use Rattle.ground_model.specs.Invariant.{IsGroundProblem}
use Rattle.ground_model.specs.Steps.{ground_process, ground_starts}
use Rattle.ground_model.proofs.Steps.{den_positive, outcomes_stay_inside, starts_are_inside}
use Rattle.bound_core.specs.Numbers.{act_of, first_word, policy_of}
use Rattle.bound_core.specs.Core.{Core}
use Rattle.bound_core.specs.Sound.{Sound}
use Rattle.bound_core.specs.Laws as laws
use Rattle.bound_core.proofs.Numbers.{value_rises, covers_less, covers_more, first_word_at_goal, first_value_elsewhere}

module _ (g : Ground) where
  pub sound_is_balanced : laws.SoundIsBalanced g
  sound_is_balanced c sound s = record {
    low_follows = sound.lower.follows s;
    high_at_goal = λ on. ap value_of ((sound.upper.follows s).at_goal on) ∙ omega arith;
    high_follows = (sound.upper.follows s).follows;
  }

  pub words_policy_is_within : laws.WordsPolicyIsWithin g
  words_policy_is_within c sound n s =
      spend_le_high (ground_process g) c.lower (λ t. value_of (c.upper t)) (policy_of c.upper) (sound_is_balanced c sound) n s

  upper_covers : (c : Core) → Sound g c → (s : State) → CoversFromAbove (ground_process g) (value_of (c.upper s)) s
  upper_covers c sound s n =
      let policy = act_is_policy (ground_process g) c.lower (λ t. value_of (c.upper t)) (policy_of c.upper) (sound_is_balanced c sound) in
      omega (arith, least_le_spend (ground_process g) (policy_of c.upper) policy n s, words_policy_is_within c sound n s)

  upper_within_penalty : (c : Core) → Sound g c → (s : State) → value_of (c.upper s) ≤ g.penalty
  upper_within_penalty c sound s =
      let below : value_of (c.upper s) ≤ value_of (first_word g s) = value_rises (c.upper s) (first_word g s) (sound.upper.within_first s) in
      elim (cases_Bool ((ground_process g).goal s)) [
        | inl on ↦ let none : value_of (first_word g s) ≡ 0 = ap value_of (first_word_at_goal g s on) ∙ omega arith in omega arith
        | inr off ↦ omega (arith, below, first_value_elsewhere g s off)
      ]

  pub sound_covers : IsGroundProblem g → laws.SoundCovers g
  sound_covers is c sound s =
      let lower = sound.lower.covers s in
      let upper : CoversFromAbove (ground_process g) (value_of (c.upper s)) s = upper_covers c sound s in
      let scaled : c.lower s * (ground_process g).den ^ lower.0 ≤ value_of (c.upper s) * (ground_process g).den ^ lower.0
      = omega (arith, lower.1, upper lower.0) in (
        (lower, upper),
        le_of_mul-le-mul_right scaled (one-le-pow lower.0 (ground_process g).den (den_positive g is)),
        upper_within_penalty c sound s,
      )

  pub seen_covers : laws.SeenCovers g
  seen_covers c sound k s = (
    covers_less g _ (c.lower s) s ((sound.seen k).lower s) (sound.lower.covers s),
    covers_more g (value_of (c.upper s)) _ s (value_rises (c.upper s) _ ((sound.seen k).upper s)) (upper_covers c sound s),
  )

  pub word_names_its_act : IsGroundProblem g → laws.WordNamesItsAct g
  word_names_its_act is c sound s off =
      let follows : IsUpperFrom (ground_process g) (λ t. value_of (c.upper t)) s (act_of (c.upper s)) (value_of (c.upper s))
      = (sound.upper.follows s).follows in record {
        quits = λ none. omega (arith, follows.covers_quit off none, upper_within_penalty c sound s);
        acts = λ a n some. (
          follows.is_open a off some,
          supported_act_covers (ground_process g) (λ t. value_of (c.upper t)) s a (value_of (c.upper s)) off
              (subst (λ act. IsUpperFrom (ground_process g) (λ t. value_of (c.upper t)) s act (value_of (c.upper s))) some follows)
              (λ _ b _ o _. upper_covers c sound o.next) n,
        );
      }

  -- the states that are reached have one bit for each atom
  next_is_inside : IsGroundProblem g → (s t : State) → IsTrue (is_inside (length g.atoms) s)
      → Contains (successors (ground_process g) s) t → IsTrue (is_inside (length g.atoms) t)
  next_is_inside is s t inside next = elim (cases_Bool ((ground_process g).goal s)) [
    | inl on ↦ absurd (Contains-nil t (subst (λ b. Contains (cond b [] (flat_map (λ a. nexts (ground_process g) a s) ((ground_process g).choices s))) t) on next))
    | inr off ↦
        let found = Contains-flat_map_cases (λ a. nexts (ground_process g) a s) ((ground_process g).choices s) t
        (subst (λ b. Contains (cond b [] (flat_map (λ a. nexts (ground_process g) a s) ((ground_process g).choices s))) t) off next) in
        let outcome = Contains-map_cases (λ (o : Outcome State). o.next) ((ground_process g).step found.0 s) t found.2 in
        subst (λ u. IsTrue (is_inside (length g.atoms) u)) outcome.2 (outcomes_stay_inside g is found.0 s inside outcome.0 outcome.1)
  ]

  near_is_inside : IsGroundProblem g → (d : ℕ) (s : State) → Contains (near (ground_process g) (ground_starts g) d) s
      → IsTrue (is_inside (length g.atoms) s)
  near_is_inside is zero s reached = absurd (Contains-nil s reached)
  near_is_inside is (suc d) s reached =
      elim (Contains-append_cases (map (λ (start : Start State). start.state) (ground_starts g))
      (flat_map (successors (ground_process g)) (near (ground_process g) (ground_starts g) d)) s reached) [
        | inl start ↦
            let found = Contains-map_cases (λ (x : Start State). x.state) (ground_starts g) s start in
            subst (λ u. IsTrue (is_inside (length g.atoms) u)) found.2 (starts_are_inside g is found.0 found.1)
        | inr later ↦
            let found = Contains-flat_map_cases (successors (ground_process g)) (near (ground_process g) (ground_starts g) d) s later in
            next_is_inside is found.0 s (near_is_inside is d found.0 found.1) found.2
      ]

  pub published_are_inside : IsGroundProblem g → laws.PublishedAreInside g
  published_are_inside is c states id s there =
      let reached = states.reachable id s there in near_is_inside is reached.0 s reached.1
