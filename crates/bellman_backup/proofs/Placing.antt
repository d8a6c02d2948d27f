-- Once the open actions of an id's state were read, each state that follows it has an id, or the table was found full.
use Rattle.std.proofs.Common.{◌≡◌, ℕ, ◌/◌, true, false, cond, Some, None, List, [], ◌∷◌, map, refl, sym, ap, ◌∙◌, subst, inl, inr, ⊎_elim}
use Rattle.std.specs.Prelude.{All, Contains, Option, flat_map}
use Rattle.std.specs.List.{slice_get, AllZip}
use Rattle.std.proofs.lemmas.List.Elements.{All-contains}
use Rattle.plain_list.proofs.Members.{Contains-nil, Contains-cons_cases, Contains-map_cases, Contains-flat_map_cases}
use Rattle.decision_process.specs.Process.{Outcome}
use Rattle.decision_process.specs.Levels.{nexts, successors}
use Rattle.ground_model.specs.declared.action.Choice.{Choice}
use Rattle.ground_model.specs.Packed.{State}
use Rattle.ground_model.specs.Choices.{next_state}
use Rattle.ground_model.specs.Ground.{Ground}
use Rattle.ground_model.specs.Steps.{ground_process, den_of, outcome_of, step_at}
use Rattle.applicable_actions.specs.distinct.Enough.{AreEnough}
use Rattle.applicable_actions.specs.distinct.Laws.{SuccessorsByEnough}
use Rattle.word_table.specs.declared.view.View.{View}
use Rattle.word_table.specs.view.Laws.{HasMore}
use Rattle.word_table.proofs.lemmas.view.Seen.{has_state_more}
use Rattle.word_table.specs.Seen.{Board, Knowledge}
use Rattle.state_interner.specs.Interned.{AddsLooks}
use Rattle.brtdp_trial.specs.Meaning.{Last}
use Rattle.bellman_backup.specs.Races.{full_between}
use Rattle.bellman_backup.specs.Readings.{Reading, IsRead}
use Rattle.bellman_backup.specs.Candidates.{Found, codes_of}
use Rattle.bellman_backup.specs.Backups.{IsStateOf, IsPlacedOrFull, PlacesNext}
use Rattle.bellman_backup.specs.Choosing.{IsReadAction}
use Rattle.bellman_backup.specs.Weighing.{HasWeighed, RestsAt}

-- ---- one state that follows

zip_at : {A B : Type 0} (R : A → B → Type 0) (xs : List A) (ys : List B) → AllZip R xs ys → (x : A) → Contains xs x → (y : B) × R x y
zip_at R [] ys all x there = absurd (Contains-nil x there)
zip_at R (a ∷ xs) [] all x there = absurd all
zip_at R (a ∷ xs) (b ∷ ys) all x there = elim (Contains-cons_cases a xs x there) [
  | inl same ↦ (b, subst (λ c. R c b) same all.0)
  | inr later ↦ zip_at R xs ys all.1 x later
]

read_is_placed : (g : Ground) (v w : View) (t : State) (r : Reading) (id : Option ℕ) → r.id ≡ id → IsRead g v w t r → IsPlacedOrFull v w t
read_is_placed g v w t r None at is = inr (is.unplaced at).2
read_is_placed g v w t r (Some id) at is = inl (id, record { known = (is.placed id at).0; state = (is.placed id at).1 })

-- it follows by a choice of an action that was read
choice_to : (g : Ground) (s : State) (f : Found) → slice_get g.actions f.code ≡ Some f.action → (t : State)
    → Contains (nexts (ground_process g) f.code s) t → (c : Choice) × Contains f.action.choices c × (next_state s c ≡ t)
choice_to g s f here t there =
    let den = den_of g.actions in
    let next : Outcome State → State = λ o. o.next in
    let among : Contains (map next (step_at den (Some f.action) s)) t = subst (λ o. Contains (map next (step_at den o s)) t) here there in
    let outcome = Contains-map_cases next (step_at den (Some f.action) s) t among in
    let choice = Contains-map_cases (outcome_of (den / f.action.den) s) f.action.choices outcome.0 outcome.1 in
    (choice.0, choice.1, ap next choice.2 ∙ outcome.2)

-- ---- all states that follow

follows_placed : (g : Ground) (v w : View) (s : State) (found : List Found) → SuccessorsByEnough → AreEnough g s (codes_of found)
    → (ground_process g).goal s ≡ false → All (IsReadAction g v w s) found → (t : State) → Contains (successors (ground_process g) s) t
    → IsPlacedOrFull v w t
follows_placed g v w s found law enough off each t there =
    let by_codes : Contains (flat_map (λ k. nexts (ground_process g) k s) (codes_of found)) t = (law g s (codes_of found) enough off t).1 there in
    let code = Contains-flat_map_cases (λ k. nexts (ground_process g) k s) (codes_of found) t by_codes in
    let of_code = Contains-map_cases (λ (f : Found). f.code) found code.0 code.1 in
    let f : Found = of_code.0 in
    let is : IsReadAction g v w s f = All-contains (IsReadAction g v w s) found f each of_code.1 in
    let choice = choice_to g s f is.here t (subst (λ k. Contains (nexts (ground_process g) k s) t) (sym of_code.2) code.2) in
    let reading = zip_at (λ c r. IsRead g v w (next_state s c) r) f.action.choices f.readings is.readings choice.0 choice.1 in
    subst (IsPlacedOrFull v w) choice.2 (read_is_placed g v w (next_state s choice.0) reading.0 reading.0.id refl reading.1)

places_all : (g : Ground) (v w : View) (id : ℕ) (s : State) → IsStateOf v w id s
    → ((t : State) → Contains (successors (ground_process g) s) t → IsPlacedOrFull v w t) → PlacesNext g v w id
places_all g v w id s state each u had t there = each t (subst (λ x. Contains (successors (ground_process g) x) t) (state.one u had) there)

none_follows : (g : Ground) (s : State) → (ground_process g).goal s ≡ true → successors (ground_process g) s ≡ []
none_follows g s on = ap (λ b. cond b [] (flat_map (λ k. nexts (ground_process g) k s) ((ground_process g).choices s))) on

pub places_at_goal : (b : Board) (k l : Knowledge) (id : ℕ) (last : Last) → RestsAt b k l id last → PlacesNext b.problem k.view l.view id
places_at_goal b k l id last rest = places_all b.problem k.view l.view id rest.state rest.is
    (λ t there. absurd (Contains-nil t (subst (λ (xs : List State). Contains xs t) (none_follows b.problem rest.state rest.on_goal) there)))

pub weighed_places : (b : Board) (k l : Knowledge) (id : ℕ) (last : Last) (lower word : ℕ) → SuccessorsByEnough
    → HasWeighed b k l id last lower word → PlacesNext b.problem k.view l.view id
weighed_places b k l id last lower word law w = places_all b.problem k.view l.view id w.state w.is
    (follows_placed b.problem k.view l.view w.state w.found law w.codes w.off_goal w.each)

-- ---- between an earlier and a later view

placed_between : (u v w x : View) (t : State) → HasMore u v → AddsLooks u v → HasMore w x → AddsLooks w x → IsPlacedOrFull v w t → IsPlacedOrFull u x t
placed_between u v w x t more looks noted looked is = ⊎_elim
    (λ own. inl (own.0, record { known = noted.known own.0 own.1.known; state = has_state_more w x noted own.0 t own.1.state }))
    (λ full. inr (full_between u v w x t more looks full noted looked))
    is

pub places_between : (g : Ground) (u v w x : View) (id : ℕ) → HasMore u v → AddsLooks u v → HasMore w x → AddsLooks w x → PlacesNext g v w id → PlacesNext g u x id
places_between g u v w x id more looks noted looked places s had t there =
    placed_between u v w x t more looks noted looked (places s (has_state_more u v more id s had) t there)
