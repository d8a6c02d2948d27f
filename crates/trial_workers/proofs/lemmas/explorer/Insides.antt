-- States that can be reached are inside, so each has the problem's length.
use Rattle.std.proofs.Common.{◌≡◌, ℕ, zero, suc, ◌≤◌, ◌+◌, ◌/◌, Bool, true, false, cond, List, [], ◌∷◌, length, map, inl, inr, refl, ap, subst, arith}
use Rattle.std.specs.Prelude.{Contains, IsTrue, flat_map}
use Rattle.plain_list.proofs.Members.{Contains-nil, Contains-map_cases, Contains-flat_map_cases}
use Rattle.decision_process.specs.Process.{Outcome, Start}
use Rattle.decision_process.specs.Levels.{near, nexts, successors}
use Rattle.decision_process.specs.sweeps.Laws.{states_of}
use Rattle.decision_process.proofs.lemmas.sweeps.Near.{near_is_start_or_successor}
use Rattle.ground_model.specs.declared.start.Start as declared
use Rattle.ground_model.specs.Packed.{State, words_for, is_inside}
use Rattle.ground_model.specs.Ground.{Ground}
use Rattle.ground_model.specs.Invariant.{IsGroundProblem}
use Rattle.ground_model.specs.Steps.{start_of, step, ground_process, ground_starts}
use Rattle.ground_model.proofs.Packed.{length-inside}
use Rattle.ground_model.proofs.Steps.{outcomes_stay_inside, starts_are_inside}

off_goal : (b : Bool) (l : List State) (t : State) → Contains (cond b [] l) t → Contains l t
off_goal true l t h = absurd (Contains-nil t h)
off_goal false l t h = h

module _ (g : Ground) (is : IsGroundProblem g) where
  inside_next : (s t : State) → IsTrue (is_inside (length g.atoms) s) → Contains (successors (ground_process g) s) t → IsTrue (is_inside (length g.atoms) t)
  inside_next s t inside follows =
      let chosen = Contains-flat_map_cases (λ k. nexts (ground_process g) k s) ((ground_process g).choices s) t
      (off_goal ((ground_process g).goal s) (flat_map (λ k. nexts (ground_process g) k s) ((ground_process g).choices s)) t follows) in
      let o = Contains-map_cases (λ (o : Outcome State). o.next) (step g chosen.0 s) t chosen.2 in
      subst (λ u. IsTrue (is_inside (length g.atoms) u)) o.2 (outcomes_stay_inside g is chosen.0 s inside o.0 o.1)

  near_inside : (d : ℕ) (t : State) → Contains (near (ground_process g) (ground_starts g) d) t → IsTrue (is_inside (length g.atoms) t)
  near_inside zero t h = absurd (Contains-nil t h)
  near_inside (suc d) t h = elim (near_is_start_or_successor (ground_process g) (ground_starts g) d t h) [
    | inl start ↦
        let x = Contains-map_cases (λ (x : Start State). x.state) (ground_starts g) t start in
        subst (λ u. IsTrue (is_inside (length g.atoms) u)) x.2 (starts_are_inside g is x.0 x.1)
    | inr later ↦ inside_next later.0 t (near_inside d later.0 later.1) later.2
  ]

  pub near_has_length : (d : ℕ) (t : State) → Contains (near (ground_process g) (ground_starts g) d) t → length t ≡ words_for (length g.atoms)
  near_has_length d t h = length-inside (length g.atoms) t (near_inside d t h)

few_words : (atoms : ℕ) → atoms ≤ 1024 → words_for atoms ≤ 16
few_words atoms few = let words : (atoms + 63) / 64 ≤ 16 = omega arith in omega arith

-- so a state has few words
pub near_is_short : (g : Ground) → IsGroundProblem g → (d : ℕ) (t : State) → Contains (near (ground_process g) (ground_starts g) d) t → length t ≤ 16
near_is_short g is d t h = omega (arith, near_has_length g is d t h, few_words (length g.atoms) (omega (arith, is.atoms_count)))

pub starts_long : (starts : List declared.Start) → length (states_of (map start_of starts)) ≡ length starts
starts_long [] = refl
starts_long (x ∷ xs) = ap suc (starts_long xs)

pub starts_are : (starts : List declared.Start) → map (λ (x : declared.Start). x.state) starts ≡ states_of (map start_of starts)
starts_are [] = refl
starts_are (x ∷ xs) = ap (λ l. x.state ∷ l) (starts_are xs)
