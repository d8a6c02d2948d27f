-- A whole round of a crew.
use Rattle.std.proofs.Common.{◌≡◌, ℕ, ◌+◌, ◌-◌, ◌*◌, ◌<◌, ◌≤◌, ◌^◌, List, ◌∷◌, length, refl, subst, arith}
use Rattle.std.specs.List.{AllZip}
use Rattle.std.proofs.Math.Nat.{mul-le-mul_right}
use Rattle.ground_model.specs.Packed.{State}
use Rattle.word_table.specs.Seen.{Board, IsOf}
use Rattle.trial_workers.specs.declared.effort.Effort.{Effort}
use Rattle.trial_workers.specs.declared.extent.Extent.{Extent}
use Rattle.trial_workers.specs.declared.parts.Division.{Division}
use Rattle.trial_workers.specs.declared.worker.Worker.{Worker}
use Rattle.trial_workers.specs.Parts.{IsDivision}
use Rattle.trial_workers.specs.Workers.{HasTakenPart}
use Rattle.trial_workers.specs.Rounds.{AllPrepared, HaveMet}
use Rattle.trial_workers.specs.Crews.{IsCrewOf, FirstHas, IsListed}
use Rattle.trial_workers.specs.Effort.{HaveRounds}
use Rattle.trial_workers.proofs.Rounding.{KnowsAll, RoundDone, round_is_done}
use Rattle.trial_workers.proofs.Counting.{knows_all, crew_goes_on}

pub is_division : (d : Division) (depth : ℕ) (b : Board) (number : ℕ) (os : List Worker) → d.workers ≡ length os → d.first_trial ≡ number * d.trials → number < 2 ^ 32 → d.trials < 2 ^ 32
    → IsCrewOf b depth os → IsDivision d
is_division d depth b number os count first small few crew = record {
  some = (let s = crew.some in omega arith);
  few = (let f = crew.few in omega arith);
  fits =
      (let a : number * d.trials ≤ (2 ^ 32 - 1) * d.trials = mul-le-mul_right d.trials (let c : number ≤ 2 ^ 32 - 1 = omega arith in c) in
      omega arith);
}

pub crew_knows : (b : Board) (depth : ℕ) (d : Division) (states : List State) (x : Extent) (os : List Worker) → IsListed b.problem states x → d.swept ≡ x.swept → FirstHas states os
    → (o : Worker) (rest : List Worker) → os ≡ o ∷ rest → KnowsAll b d o.pass.view
crew_knows b depth d states x os listed swept has o rest is =
    knows_all b.problem states x listed b d o.pass.view refl swept (subst (FirstHas states) is has)

pub crew_here : (b : Board) (depth : ℕ) (os : List Worker) → IsCrewOf b depth os → (o : Worker) (rest : List Worker) → os ≡ o ∷ rest → IsOf b o.pass
crew_here b depth os crew o rest is = let c = subst (IsCrewOf b depth) is crew in (c.each 0 o (omega arith)).fit.here

module _ (b : Board) (d : Division) (e : Effort) (number : ℕ) (states : List State) (x : Extent) (os ms ss ns : List Worker) (listed : IsListed b.problem states x) (swept : d.swept ≡ x.swept)
    (first : d.first_trial ≡ number * e.trials) (items : d.trials ≡ e.trials) (division : IsDivision d) (count : length os ≡ d.workers) (crew : IsCrewOf b e.depth os)
    (has : FirstHas states os) (prepared : AllPrepared b d os ms) (parts : AllZip (HasTakenPart b e) ms ss) (met : HaveMet b ss ns) where
  pub round_done : RoundDone b d e number os ns
  round_done = round_is_done b d e number first items os ms ss ns
      (record { division = division; count = count; crew = crew; prepared = prepared; parts = parts; met = met })

  pub round_counts : (r : ℕ) → HaveRounds b.problem x.depth r os → HaveRounds b.problem x.depth (r + 1) ns
  round_counts r rounds = crew_goes_on b.problem states x listed b d os ns refl swept (crew_here b e.depth os crew) has round_done.swept r rounds
