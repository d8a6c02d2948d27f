-- States near the starts.
use Rattle.std.proofs.Common.{◌≡◌, ℕ, zero, suc, cond, List, [], sym, subst, arith, inl, inr}
use Rattle.std.specs.Prelude.{Contains, flat_map}
use Rattle.std.proofs.lemmas.List.Elements.{Contains-append_left, Contains-append_right, Contains-append_cases}
use Rattle.std.proofs.lemmas.Bool.{cases_lt}
use Rattle.plain_list.proofs.Members.{Contains-nil, Contains-map, Contains-flat_map, Contains-flat_map_cases}
use Rattle.decision_process.specs.Process.{Process, Outcome, Start}
use Rattle.decision_process.specs.Levels.{near, nexts, successors}
use Rattle.decision_process.specs.sweeps.Laws as laws
use Rattle.decision_process.specs.sweeps.Laws.{states_of}

module _ {S A : Type 0} (p : Process S A) where
  pub outcome_is_successor : laws.OutcomeIsSuccessor p
  outcome_is_successor s off a is_open o inside =
      subst (λ b. Contains (cond b [] (flat_map (λ a. nexts p a s) (p.choices s))) o.next) (sym off)
      (Contains-flat_map (λ a. nexts p a s) (p.choices s) a o.next is_open (Contains-map (λ (o : Outcome S). o.next) (p.step a s) o inside))

  module _ (starts : List (Start S)) where
    pub start_is_near : laws.StartIsNear p starts
    start_is_near s inside = Contains-append_left (states_of starts) (flat_map (successors p) (near p starts 0)) s inside

    pub successor_is_near : laws.SuccessorIsNear p starts
    successor_is_near d s t here next =
        Contains-append_right (states_of starts) (flat_map (successors p) (near p starts d)) t
        (Contains-flat_map (successors p) (near p starts d) s t here next)

    pub near_is_start_or_successor : laws.NearIsStartOrSuccessor p starts
    near_is_start_or_successor d t inside =
        elim (Contains-append_cases (states_of starts) (flat_map (successors p) (near p starts d)) t inside) [
          | inl start ↦ inl start
          | inr later ↦ inr (Contains-flat_map_cases (successors p) (near p starts d) t later)
        ]

    pub near_rises : (d : ℕ) (s : S) → Contains (near p starts d) s → Contains (near p starts (suc d)) s
    near_rises zero s inside = absurd (Contains-nil s inside)
    near_rises (suc d) s inside = elim (near_is_start_or_successor d s inside) [
      | inl start ↦ Contains-append_left (states_of starts) (flat_map (successors p) (near p starts (suc d))) s start
      | inr later ↦ successor_is_near (suc d) later.0 s (near_rises d later.0 later.1) later.2
    ]

    pub near_grows : laws.NearGrows p starts
    near_grows d zero within s inside =
        let same : d ≡ 0 = omega arith in subst (λ k. Contains (near p starts k) s) same inside
    near_grows d (suc e) within s inside = elim (cases_lt e d) [
      | inl last ↦ let same : d ≡ suc e = omega arith in subst (λ k. Contains (near p starts k) s) same inside
      | inr before ↦ near_rises e s (near_grows d e before s inside)
    ]
