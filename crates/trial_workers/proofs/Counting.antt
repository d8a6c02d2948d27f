-- A round of a crew is a round of plain rounded iteration.
use Rattle.std.proofs.Common.{◌≡◌, ℕ, zero, suc, ◌+◌, ◌<◌, ◌≤◌, cond, Option, Some, None, List, [], ◌∷◌, ◌++◌, length, take, map, refl, sym, ap, ◌∙◌, subst, arith, inl, inr}
use Rattle.std.specs.Prelude.{Contains}
use Rattle.std.specs.List.{slice_get}
use Rattle.std.proofs.lemmas.Bool.{cases_Bool}
use Rattle.std.proofs.lemmas.Option.{slice_get-get_or}
use Rattle.fixed_round.specs.Words.{value_of}
use Rattle.decision_process.specs.Rounded.{up}
use Rattle.decision_process.specs.sweeps.Sweeps.{IsFirst}
use Rattle.decision_process.specs.sweeps.Sweeps as sweeps
use Rattle.decision_process.specs.sweeps.Laws.{states_of}
use Rattle.decision_process.proofs.lemmas.sweeps.Rounds.{narrower_has_rounds, rounds_begin, round_goes_on}
use Rattle.ground_model.specs.declared.start.Start.{Start}
use Rattle.ground_model.specs.Packed.{State}
use Rattle.ground_model.specs.Ground.{Ground}
use Rattle.ground_model.specs.Steps.{ground_process, ground_starts, start_of}
use Rattle.bound_core.specs.Numbers.{first_word}
use Rattle.word_table.specs.declared.view.View.{View}
use Rattle.word_table.specs.view.Views.{knows, seen_lower, seen_upper}
use Rattle.word_table.specs.view.Laws.{HasMore}
use Rattle.word_table.proofs.lemmas.view.Seen.{more_is_later}
use Rattle.word_table.specs.Seen.{Board, IsOf}
use Rattle.bellman_backup.specs.Backups.{Narrows}
use Rattle.bellman_backup.proofs.NextRead.{first_at_goal, first_off_goal, seen_within_first}
use Rattle.bellman_backup.specs.means.Means.{HasStarts, seen_value}
use Rattle.trial_workers.specs.declared.extent.Extent.{Extent}
use Rattle.trial_workers.specs.declared.parts.Division.{Division}
use Rattle.trial_workers.specs.declared.worker.Worker.{Worker}
use Rattle.trial_workers.specs.Workers.{HasListed}
use Rattle.trial_workers.specs.Crews.{FirstHas, IsListed}
use Rattle.trial_workers.specs.Effort.{HasRoundsOf, HaveRounds}
use Rattle.trial_workers.proofs.Passes.{seen_value_falls}
use Rattle.trial_workers.proofs.Rounding.{KnowsAll, FirstNarrows}

-- ---- lists

some_start : (x y : Start) → Some x ≡ Some y → x ≡ y
some_start x y same = cc

none_is_not_start : (x : Start) → None ≡ Some x → ⊥
none_is_not_start x same = cc

none_is_not_some : {X : Type 0} (x : X) → None ≡ Some x → ⊥
none_is_not_some x same = cc

-- a member of the first n
pub taken_at : {X : Type 0} (l : List X) (n i : ℕ) (x : X) → slice_get (take n l) i ≡ Some x → (i < n) × (slice_get l i ≡ Some x)
taken_at l zero i x at = absurd (none_is_not_some x at)
taken_at [] (suc n) i x at = absurd (none_is_not_some x at)
taken_at (y ∷ l) (suc n) zero x at = (omega arith, at)
taken_at (y ∷ l) (suc n) (suc i) x at = let r = taken_at l n i x at in (omega (arith, r.0), r.1)

-- ---- what was listed is known

pub starts_first : (xs : List Start) (more : List State) (id : ℕ) (x : Start) → slice_get xs id ≡ Some x → slice_get (states_of (map start_of xs) ++ more) id ≡ Some x.state
starts_first [] more id x at = absurd (none_is_not_start x at)
starts_first (y ∷ xs) more zero x at = ap (λ (z : Start). Some z.state) (some_start y x at)
starts_first (y ∷ xs) more (suc id) x at = starts_first xs more id x at

starts_within : (xs : List Start) (more : List State) → length xs ≤ length (states_of (map start_of xs) ++ more)
starts_within [] more = omega arith
starts_within (x ∷ xs) more = let r = starts_within xs more in omega (arith, r)

module _ (g : Ground) (states : List State) (x : Extent) (listed : IsListed g states x) where
  pub starts_are_had : (v : View) → HasListed states v → HasStarts g v
  starts_are_had v has id x at =
      has id x.state (subst (λ l. slice_get l id ≡ Some x.state) (sym listed.2.first.1) (starts_first g.starts listed.2.first.0 id x at))

  start_count : length g.starts ≤ length states
  start_count =
      let e = ap (λ (l : List State). length l) listed.2.first.1 in let w = starts_within g.starts listed.2.first.0 in omega arith

  any_state : (l : List State) (i : ℕ) → i < length l → (s : State) × (slice_get l i ≡ Some s)
  any_state [] i below = absurd (omega arith)
  any_state (s ∷ l) zero below = (s, refl)
  any_state (s ∷ l) (suc i) below = any_state l i (omega arith)

  known_below : (v : View) → HasListed states v → (id : ℕ) → id < length states → knows v id
  known_below v has id below = let s = any_state states id below in (has id s.0 s.1).0

  pub knows_all : (b : Board) (d : Division) (v : View) → b.problem ≡ g → d.swept ≡ x.swept → HasListed states v → KnowsAll b d v
  knows_all b d v same swept has = record {
    starts = λ id below. known_below v has id (let c = start_count in let e = ap (λ (p : Ground). length p.starts) same in omega arith);
    ids = λ id below. known_below v has id (let w = listed.2.within in omega arith);
  }

-- ---- rounds

first_value : (g : Ground) (s : State) → value_of (first_word g s) ≤ up (ground_process g) 0 s
first_value g s = elim (cases_Bool ((ground_process g).goal s)) [
  | inl on ↦ (let is = first_at_goal g s on in let to : up (ground_process g) 0 s ≡ 0 = ap (λ b. cond b 0 g.penalty) on in omega arith)
  | inr off ↦ (let is = first_off_goal g s off in let to : up (ground_process g) 0 s ≡ g.penalty = ap (λ b. cond b 0 g.penalty) off in omega arith)
]

pub sees_first : (g : Ground) (v : View) → v.problem ≡ g → IsFirst (ground_process g) (seen_value v)
sees_first g v same s =
    let first : seen_upper v s ≤ first_word g s = subst (λ (p : Ground). seen_upper v s ≤ first_word p s) same (seen_within_first v s) in
    let value = first_value g s in
    let rises : value_of (seen_upper v s) ≤ value_of (first_word g s) = omega arith in omega arith

pub no_rounds : (g : Ground) (depth : Option ℕ) (v : View) → v.problem ≡ g → HasRoundsOf g depth 0 v
no_rounds g depth v same = rounds_begin (ground_process g) (ground_starts g) depth (seen_lower v) (seen_value v) (sees_first g v same)

pub rounds_stay : (g : Ground) (depth : Option ℕ) (r : ℕ) (v w : View) → HasMore v w → HasRoundsOf g depth r v → HasRoundsOf g depth r w
rounds_stay g depth r v w more has =
    let later = more_is_later v w more in
    narrower_has_rounds (ground_process g) (ground_starts g) depth r (seen_lower v) (seen_value v) (seen_lower w) (seen_value w) has later.lower (seen_value_falls v w later)

module _ (g : Ground) (states : List State) (x : Extent) (listed : IsListed g states x) where
  swept_backed : (v w : View) → HasListed states v → ((id : ℕ) → id < x.swept → Narrows g v w id)
      → (s : State) → Contains (take x.swept states) s → sweeps.IsBackedUp (ground_process g) (seen_lower v) (seen_value v) (seen_lower w) (seen_value w) s
  swept_backed v w has done s inside =
      let there : slice_get (take x.swept states) inside.0 ≡ Some s = slice_get-get_or (take x.swept states) inside.0 s inside.1 ∙ ap Some inside.2 in
      let at = taken_at states x.swept inside.0 s there in
      let b = done inside.0 at.0 s (has inside.0 s at.1).1 in
      record { lower = b.lower; upper = b.upper }

  pub view_goes_on : (v w : View) (r : ℕ) → v.problem ≡ g → HasListed states v → ((id : ℕ) → id < x.swept → Narrows g v w id)
      → HasRoundsOf g x.depth r v → HasRoundsOf g x.depth (r + 1) w
  view_goes_on v w r same has done rounds =
      let one : suc r ≡ r + 1 = omega arith in
      subst (λ n. HasRoundsOf g x.depth n w) one
      (round_goes_on (ground_process g) (ground_starts g) x.depth (take x.swept states) listed.2.are r (seen_lower v) (seen_value v) (seen_lower w) (seen_value w)
      (sees_first g v same) rounds (swept_backed v w has done))

  pub crew_goes_on : (b : Board) (d : Division) (os ns : List Worker) → b.problem ≡ g → d.swept ≡ x.swept → ((o : Worker) (rest : List Worker) → os ≡ o ∷ rest → IsOf b o.pass)
      → FirstHas states os → FirstNarrows b d.swept os ns
      → (r : ℕ) → HaveRounds g x.depth r os → HaveRounds g x.depth (r + 1) ns
  crew_goes_on b d [] ns same swept here has done r rounds = absurd has
  crew_goes_on b d (o ∷ os) [] same swept here has done r rounds = absurd done
  crew_goes_on b d (o ∷ os) (n ∷ ns) same swept here has done r rounds =
      view_goes_on o.pass.view n.pass.view r ((here o os refl).view.problem ∙ same) has
      (λ id below. subst (λ p. Narrows p o.pass.view n.pass.view id) same (done id (omega arith))) rounds
