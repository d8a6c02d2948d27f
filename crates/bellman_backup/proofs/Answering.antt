-- The choices of an answer.
use Rattle.std.proofs.Common.{◌≡◌, ℕ, ◌+◌, ◌<◌, ◌≤◌, ◌^◌, List, [], ◌∷◌, refl, sym, ap, ◌∙◌, subst, inl, inr, ⊎_elim, arith}
use Rattle.std.specs.Prelude.{All, Contains, sum, sum_by}
use Rattle.std.proofs.lemmas.Bool.{cases_Bool}
use Rattle.std.proofs.lemmas.List.Sums.{sum-map, sum_by-cons}
use Rattle.std.specs.List.{AllZip}
use Rattle.std.proofs.lemmas.List.Elements.{All-nil, All-cons, All-same, All-contains, All-map, Contains-append_right}
use Rattle.plain_list.proofs.Members.{Contains-first}
use Rattle.plain_list.specs.weighted.Mean.{total}
use Rattle.ground_model.specs.declared.action.Choice.{Choice}
use Rattle.ground_model.specs.Packed.{State}
use Rattle.ground_model.specs.Choices.{next_state}
use Rattle.ground_model.specs.Ground.{Ground}
use Rattle.ground_model.specs.Invariant.{IsGroundProblem}
use Rattle.ground_model.specs.Steps.{ground_process}
use Rattle.word_table.specs.declared.view.View.{View}
use Rattle.word_table.specs.view.Views.{knows}
use Rattle.brtdp_trial.specs.Meaning.{Last, AreChoices, IsInterval, LeadsToKnown, UnplacedOnlyWhere}
use Rattle.brtdp_trial.specs.Meaning as meaning
use Rattle.brtdp_trial.specs.Listed.{no_action}
use Rattle.bellman_backup.specs.Races.{FoundFull}
use Rattle.bellman_backup.specs.Readings.{Reading, IsReading}
use Rattle.bellman_backup.specs.Candidates.{Found, choice_weights, steps_of, answer_of, IsAnswer, IsFirstBest}
use Rattle.bellman_backup.specs.Backups.{IsFound, HasBackedUp}
use Rattle.bellman_backup.proofs.Narrowing.{action_is}

weights_by_total : (cs : List Choice) → sum_by (λ (c : Choice). c.weight) cs ≡ total (λ (c : Choice). c.weight) cs
weights_by_total [] = refl
weights_by_total (c ∷ cs) = sum_by-cons (λ (d : Choice). d.weight) c cs ∙ ap (λ n. c.weight + n) (weights_by_total cs)

sum_of_weights : (cs : List Choice) → sum (choice_weights cs) ≡ total (λ (c : Choice). c.weight) cs
sum_of_weights cs = sum-map (λ (c : Choice). c.weight) cs ∙ weights_by_total cs

weights_within : (cs : List Choice) (most : ℕ) → total (λ (d : Choice). d.weight) cs ≤ most → All (λ (c : Choice). c.weight ≤ most) cs
weights_within [] most below = All-nil (λ (c : Choice). c.weight ≤ most)
weights_within (c ∷ cs) most below = All-cons (λ (d : Choice). d.weight ≤ most) c cs (omega arith) (weights_within cs most (omega arith))

pub weight_within : (cs : List Choice) (c : Choice) (most : ℕ) → total (λ (d : Choice). d.weight) cs ≤ most → Contains cs c → c.weight ≤ most
weight_within cs c most below there = All-contains (λ (d : Choice). d.weight ≤ most) cs c (weights_within cs most below) there

module _ (g : Ground) (v w : View) (s : State) where
  abbrev Between : Choice → Reading → Type 0
  Between c r = IsReading g v w (next_state s c) r

  step_weights : (cs : List Choice) (rs : List Reading) → AllZip Between cs rs → meaning.weights_of (steps_of cs rs) ≡ choice_weights cs
  step_weights [] [] all = refl
  step_weights [] (r ∷ rs) all = absurd all
  step_weights (c ∷ cs) [] all = absurd all
  step_weights (c ∷ cs) (r ∷ rs) all = ap (λ ws. c.weight ∷ ws) (step_weights cs rs all.1)

  steps_are_intervals : g.penalty ≤ 10 ^ 14 → (cs : List Choice) (rs : List Reading) → AllZip Between cs rs → All IsInterval (steps_of cs rs)
  steps_are_intervals small [] [] all = All-nil IsInterval
  steps_are_intervals small [] (r ∷ rs) all = absurd all
  steps_are_intervals small (c ∷ cs) [] all = absurd all
  steps_are_intervals small (c ∷ cs) (r ∷ rs) all =
      All-cons IsInterval _ (steps_of cs rs) (record { ordered = all.0.ordered; bounded = (let q = all.0.within_quit in omega arith) }) (steps_are_intervals small cs rs all.1)

  steps_are_known : (cs : List Choice) (rs : List Reading) → AllZip Between cs rs → All (LeadsToKnown (knows w)) (steps_of cs rs)
  steps_are_known [] [] all = All-nil (LeadsToKnown (knows w))
  steps_are_known [] (r ∷ rs) all = absurd all
  steps_are_known (c ∷ cs) [] all = absurd all
  steps_are_known (c ∷ cs) (r ∷ rs) all =
      All-cons (LeadsToKnown (knows w)) _ (steps_of cs rs) (λ id at. (all.0.placed id at).0) (steps_are_known cs rs all.1)

  steps_are_unplaced : (cs : List Choice) (rs : List Reading) → AllZip Between cs rs → All (UnplacedOnlyWhere (FoundFull v w)) (steps_of cs rs)
  steps_are_unplaced [] [] all = All-nil (UnplacedOnlyWhere (FoundFull v w))
  steps_are_unplaced [] (r ∷ rs) all = absurd all
  steps_are_unplaced (c ∷ cs) [] all = absurd all
  steps_are_unplaced (c ∷ cs) (r ∷ rs) all =
      All-cons (UnplacedOnlyWhere (FoundFull v w)) _ (steps_of cs rs) (λ at. (next_state s c, (all.0.unplaced at).2)) (steps_are_unplaced cs rs all.1)

  best_of : (found : List Found) (last : Last) (best : IsFirstBest g.penalty s found last) → All (IsFound g v w s) found → IsFound g v w s best.best
  best_of found last best each = All-contains (IsFound g v w s) found best.best each
      (subst (λ (xs : List Found). Contains xs best.best) (sym best.split) (Contains-append_right best.before (best.best ∷ best.behind) best.best (Contains-first best.best best.behind)))

  pub no_choices : (code : ℕ) → AreChoices (no_action code)
  no_choices code = record {
    positive = All-nil (λ w. 0 < w);
    whole = λ some. absurd (omega arith);
    den_bounded = omega arith;
    intervals = All-nil IsInterval;
  }

  best_choices : (problem : IsGroundProblem g) (f : Found) → IsFound g v w s f → AreChoices (answer_of f)
  best_choices problem f is =
      let action = action_is g problem f.code f.action is.here in
      let weights = action.weights in
      let same = step_weights f.action.choices f.readings is.readings in record {
        positive = All-same (λ w. 0 < w) _ (choice_weights f.action.choices) same (All-map (λ w. 0 < w) (λ (c : Choice). c.weight) f.action.choices weights.positive);
        whole = λ some. ap sum same ∙ sum_of_weights f.action.choices ∙ weights.sum;
        den_bounded = weights.den_within;
        intervals = steps_are_intervals (let p = problem.penalty_within in omega arith) f.action.choices f.readings is.readings;
      }

  pub are_choices : (problem : IsGroundProblem g) (found : List Found) (last : Last) → IsAnswer g.penalty s found last → All (IsFound g v w s) found → AreChoices last
  are_choices problem found last is each = ⊎_elim
      (λ quits. subst AreChoices (sym quits.1) (no_choices _))
      (λ best. subst AreChoices (sym best.answer) (best_choices problem best.best (best_of found last best each)))
      is

  pub are_known : (found : List Found) (last : Last) → IsAnswer g.penalty s found last → All (IsFound g v w s) found → All (LeadsToKnown (knows w)) last.steps
  are_known found last is each = ⊎_elim
      (λ quits. All-same (LeadsToKnown (knows w)) last.steps [] (ap (λ (l : Last). l.steps) quits.1) (All-nil (LeadsToKnown (knows w))))
      (λ best. let f : Found = best.best in
      All-same (LeadsToKnown (knows w)) last.steps (steps_of f.action.choices f.readings) (ap (λ (l : Last). l.steps) best.answer)
      (steps_are_known f.action.choices f.readings (best_of found last best each).readings))
      is

  are_unplaced : (found : List Found) (last : Last) → IsAnswer g.penalty s found last → All (IsFound g v w s) found → All (UnplacedOnlyWhere (FoundFull v w)) last.steps
  are_unplaced found last is each = ⊎_elim
      (λ quits. All-same (UnplacedOnlyWhere (FoundFull v w)) last.steps [] (ap (λ (l : Last). l.steps) quits.1) (All-nil (UnplacedOnlyWhere (FoundFull v w))))
      (λ best. let f : Found = best.best in
      All-same (UnplacedOnlyWhere (FoundFull v w)) last.steps (steps_of f.action.choices f.readings) (ap (λ (l : Last). l.steps) best.answer)
      (steps_are_unplaced f.action.choices f.readings (best_of found last best each).readings))
      is

-- a choice of the answer has no id only where the table was found full
pub backed_unplaced : (g : Ground) (v w : View) (id : ℕ) (last : Last) → HasBackedUp g v w id last → All (UnplacedOnlyWhere (FoundFull v w)) last.steps
backed_unplaced g v w id last (s, state, (at_goal, off_goal)) = elim (cases_Bool ((ground_process g).goal s)) [
  | inl on ↦ All-same (UnplacedOnlyWhere (FoundFull v w)) last.steps [] (ap (λ (l : Last). l.steps) (at_goal on).1) (All-nil (UnplacedOnlyWhere (FoundFull v w)))
  | inr off ↦ let found = off_goal off in are_unplaced g v w s found.0 last found.1.answer found.1.readings.each
]
