-- States that can be reached are inside.
use Rattle.std.proofs.Common.{ℕ, zero, suc, ◌<◌, ◌*◌, ◌^◌, Bool, true, false, cond, List, [], length, map, inl, inr, subst, arith}
use Rattle.std.specs.Prelude.{Contains, IsTrue, flat_map}
use Rattle.std.proofs.lemmas.List.Elements.{Contains-append_cases}
use Rattle.plain_list.proofs.Members.{Contains-nil, Contains-map_cases, Contains-flat_map_cases}
use Rattle.decision_process.specs.Process.{Outcome, Start}
use Rattle.decision_process.specs.Levels.{near, nexts, successors, IsReachable}
use Rattle.ground_model.specs.Packed.{State, is_inside}
use Rattle.ground_model.specs.Ground.{Ground}
use Rattle.ground_model.specs.Invariant.{IsGroundProblem}
use Rattle.ground_model.specs.Steps.{step, ground_process, ground_starts}
use Rattle.ground_model.proofs.Packed.{length-inside}
use Rattle.ground_model.proofs.Steps.{outcomes_stay_inside, starts_are_inside}
use Rattle.plan_report.proofs.lemmas.certificates.AtomSets.{few_words}

off_goal : (b : Bool) (l : List State) (t : State) → Contains (cond b [] l) t → Contains l t
off_goal true l t h = absurd (Contains-nil t h)
off_goal false l t h = h

module _ (g : Ground) (is : IsGroundProblem g) where
  inside_next : (s t : State) → IsTrue (is_inside (length g.atoms) s) → Contains (successors (ground_process g) s) t → IsTrue (is_inside (length g.atoms) t)
  inside_next s t inside follows =
      let chosen = Contains-flat_map_cases (λ k. nexts (ground_process g) k s) ((ground_process g).choices s) t
      (off_goal ((ground_process g).goal s) (flat_map (λ k. nexts (ground_process g) k s) ((ground_process g).choices s)) t follows) in
      let o = Contains-map_cases (λ (o : Outcome State). o.next) (step g chosen.0 s) t chosen.2 in
      subst (λ u. IsTrue (is_inside (length g.atoms) u)) o.2 (outcomes_stay_inside g is chosen.0 s inside o.0 o.1)

  near_inside : (d : ℕ) (t : State) → Contains (near (ground_process g) (ground_starts g) d) t → IsTrue (is_inside (length g.atoms) t)
  near_inside zero t h = absurd (Contains-nil t h)
  near_inside (suc d) t h =
      elim (Contains-append_cases (map (λ (x : Start State). x.state) (ground_starts g))
      (flat_map (successors (ground_process g)) (near (ground_process g) (ground_starts g) d)) t h) [
        | inl start ↦
            let x = Contains-map_cases (λ (x : Start State). x.state) (ground_starts g) t start in
            subst (λ u. IsTrue (is_inside (length g.atoms) u)) x.2 (starts_are_inside g is x.0 x.1)
        | inr later ↦
            let from = Contains-flat_map_cases (successors (ground_process g)) (near (ground_process g) (ground_starts g) d) t later in
            inside_next from.0 t (near_inside d from.0 from.1) from.2
      ]

  pub reached_inside : (s : State) → IsReachable (ground_process g) (ground_starts g) s → IsTrue (is_inside (length g.atoms) s)
  reached_inside s reached = near_inside reached.0 s reached.1

  pub inside_short : (s : State) → IsTrue (is_inside (length g.atoms) s) → 64 * length s < 2 ^ 32
  inside_short s inside =
      let long = length-inside (length g.atoms) s inside in
      let few = few_words (length g.atoms) (let most = is.atoms_count in omega arith) in
      omega arith
