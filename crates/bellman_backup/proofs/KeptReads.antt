-- Readings by what is kept of a state.
use Rattle.std.proofs.Common.{◌≡◌, ℕ, ◌+◌, ◌-◌, ◌*◌, ◌/◌, ◌<◌, ◌≤◌, ◌^◌, min, true, false, cond, Some, List, [], ◌∷◌, ◌++◌, length, map, take, get_or, refl, sym, ap, ◌∙◌, ⊎_elim, subst, arith}
use Rattle.std.specs.Prelude.{Bool, not, Contains, Option}
use Rattle.std.specs.Int.{div_ceil, from_bool}
use Rattle.std.specs.List.{slice_get, AllZip}
use Rattle.std.proofs.Math.Nat.{mul-add}
use Rattle.std.proofs.lemmas.List.{length_push, take_all, take_more}
use Rattle.std.proofs.lemmas.Option.{slice_get_read, slice_get_within, get_or_from_slice_get}
use Rattle.fixed_round.specs.Means.{weighted}
use Rattle.fixed_round.specs.Words.{word_of, value_of}
use Rattle.plain_list.specs.weighted.Mean.{total}
use Rattle.ground_model.specs.declared.action.Choice.{Choice}
use Rattle.ground_model.specs.declared.action.GroundAction.{GroundAction}
use Rattle.ground_model.specs.declared.limits.TheConstants.{MOST_PENALTY}
use Rattle.ground_model.specs.Packed.{State, has_bit}
use Rattle.ground_model.specs.Choices.{cost_of, next_state}
use Rattle.ground_model.specs.Ground.{Ground}
use Rattle.ground_model.specs.Invariant.{IsAction, IsGroundProblem}
use Rattle.ground_model.proofs.Steps.{slice_get-contains}
use Rattle.word_table.specs.declared.view.View.{View}
use Rattle.word_table.specs.view.Views.{knows}
use Rattle.word_table.specs.view.Laws.{HasMore}
use Rattle.word_table.proofs.lemmas.view.Seen.{has_state_more}
use Rattle.word_table.specs.rule.Told.{HasOneState}
use Rattle.word_table.specs.Seen.{Board, Knowledge, IsOf}
use Rattle.brtdp_trial.specs.declared.step.Step.{Step}
use Rattle.brtdp_trial.specs.Listed.{last_in}
use Rattle.state_interner.specs.Interned.{GoesOn, IsIdOf}
use Rattle.kept_transitions.specs.declared.kept_action.KeptAction.{KeptAction}
use Rattle.kept_transitions.specs.declared.kept_row.KeptRow.{KeptRow}
use Rattle.kept_transitions.specs.Idle.{is_idle, moving}
use Rattle.kept_transitions.specs.Meaning.{kept_id}
use Rattle.kept_transitions.specs.Rows.{Transitions, IsKept, row_of}
use Rattle.kept_transitions.proofs.Growth.{grown_all}
use Rattle.kept_transitions.proofs.Putting.{one_moving_more}
use Rattle.bellman_backup.specs.declared.best.Best.{Best}
use Rattle.bellman_backup.specs.declared.share.Share.{Share}
use Rattle.bellman_backup.specs.declared.sums.Sums.{Sums}
use Rattle.bellman_backup.specs.Races.{has_all}
use Rattle.bellman_backup.specs.Readings.{Reading, IsRead}
use Rattle.bellman_backup.specs.Backups.{Keeps, IsStateOf}
use Rattle.bellman_backup.specs.Choosing.{HasChosen}
use Rattle.bellman_backup.specs.Kept.{LeadsTo, IsKeptAction, IsKeptAt, AreKept, IsKeptState, IsKeeping}
use Rattle.bellman_backup.specs.Odds.{share_of}
use Rattle.bellman_backup.specs.Places.{IsPlace}
use Rattle.bellman_backup.specs.Totals.{IsSmallStep, HasReadNext, HasRead, HasReadAction}
use Rattle.bellman_backup.proofs.Keeping.{keeps_all, keeps_again, grows}
use Rattle.bellman_backup.proofs.KeptRows.{id_later, action_later, state_later}
use Rattle.bellman_backup.proofs.PlacedWeights.{share_at, choice_at}
use Rattle.bellman_backup.proofs.Summing.{nothing_read, read_more, product_within}
use Rattle.bellman_backup.proofs.Narrowing.{action_is}
use Rattle.bellman_backup.proofs.Answering.{weight_within}
use Rattle.bellman_backup.proofs.Finishing.{action_goes_on}

pub goes_nowhere : (b : Board) (k : Knowledge) → IsOf b k → GoesOn b k k
goes_nowhere b k of = record { here = of; noted = has_all k.view; rights = refl; count = omega arith; loads = refl; looks = ([], refl) }

-- ---- the costs apart

module _ {A B : Type 0} (R : A → B → Type 0) (w k : A → ℕ) (n : B → ℕ) where
  pub costs_apart : (xs : List A) (ys : List B) → AllZip R xs ys
      → total (λ x. w x * k x) xs + weighted (map w xs) (map (λ x. 0) xs) (map n ys) ≡ weighted (map w xs) (map k xs) (map n ys)
  costs_apart [] [] all = refl
  costs_apart [] (v ∷ ys) all = absurd all
  costs_apart (u ∷ xs) [] all = absurd all
  costs_apart (u ∷ xs) (v ∷ ys) all =
      let rest = costs_apart xs ys all.1 in
      let here : w u * (k u + n v) ≡ w u * k u + w u * n v = mul-add (w u) (k u) (n v) in
      let alone : w u * (0 + n v) ≡ w u * n v = ap (λ x. w u * x) (omega arith) in omega arith

-- ---- the choices of an action

same_id : (here : Option ℕ) (i j : ℕ) → here ≡ Some i → here ≡ Some j → i ≡ j
same_id here i j one other = cc

abbrev pub no_price : Choice → ℕ
no_price c = 0

-- the choices so far were read, and the next id that is kept stands in this place
pub record KeptSoFar (b : Board) (k l : Knowledge) (own : ℕ) (ids : List ℕ) (a : GroundAction) (kept : KeptAction) (steps : List Step) (sums : Sums)
    (place i : ℕ) : Type 0 where
  pub keeps : Keeps b k l
  pub long : length steps ≡ i
  pub place_is : place ≡ kept.first + moving (take i a.choices)
  pub place_room : place ≤ kept.first + i
  pub lower_room : sums.lower ≤ 2 ^ 64 + i * (10 ^ 18 * (11 * 10 ^ 13))
  pub upper_room : sums.upper ≤ 2 ^ 64 + i * (10 ^ 18 * (11 * 10 ^ 13))
  pub read : (s : State) → IsKeptAction k.view s own ids a kept → (part : Sums) × (rs : List Reading)
      × HasRead b.problem k.view l.view s no_price (take i a.choices) rs steps part
      × (sums.lower ≡ kept.cost + part.lower) × (sums.upper ≡ kept.cost + part.upper)

pub kept_begins : (b : Board) (k : Knowledge) (own : ℕ) (ids : List ℕ) (a : GroundAction) (kept : KeptAction) (steps : List Step) (sums : Sums) (place : ℕ) → IsOf b k
    → steps ≡ [] → sums.lower ≡ kept.cost → sums.upper ≡ kept.cost → kept.cost < 2 ^ 64 → place ≡ kept.first
    → KeptSoFar b k k own ids a kept steps sums place 0
kept_begins b k own ids a kept steps sums place of none lower upper small first = record {
  keeps = keeps_all b k of;
  long = ap (λ (xs : List Step). length xs) none;
  place_is = omega arith;
  place_room = omega arith;
  lower_room = omega arith;
  upper_room = omega arith;
  read = λ s is. let part : Sums = record { lower = 0; upper = 0 } in (
    part,
    [],
    subst (λ (xs : List Step). HasRead b.problem k.view k.view s no_price [] [] xs part) (sym none) (nothing_read b.problem k.view s no_price part refl refl),
    omega arith,
    omega arith,
  );
}

kept_step_is_small : (g : Ground) (v w : View) (t : State) (a : GroundAction) (c : Choice) (x : Step) → IsAction (length g.atoms) a → g.penalty ≤ MOST_PENALTY
    → Contains a.choices c → HasReadNext g v w t c.weight x → IsSmallStep 0 x
kept_step_is_small g v w t a c x action penalty there next =
    let weight : x.weight ≡ c.weight = ap (λ (y : Step). y.weight) next.step in
    let lower : x.lower ≡ next.reading.lower = ap (λ (y : Step). y.lower) next.step in
    let upper : x.upper ≡ value_of next.reading.word = ap (λ (y : Step). y.upper) next.step in
    let total = weight_within a.choices c a.den (let e = action.weights.sum in omega arith) there in
    let den = action.weights.den_within in
    let quit = next.is.within_quit in let order = next.is.ordered in record {
      cost_within = omega arith;
      weight_within = omega arith;
      lower_within = omega arith;
      upper_within = omega arith;
    }

-- the state to which the choice leads is that of the id
next_is_read : (b : Board) (k l m : Knowledge) (own : ℕ) (ids : List ℕ) (a : GroundAction) (kept : KeptAction) (i id : ℕ) (c : Choice) (x : Step) (s : State)
    → IsKeptAction k.view s own ids a kept → HasMore k.view l.view → slice_get a.choices i ≡ Some c
    → kept_id own ids (kept.first + moving (take i a.choices)) c ≡ Some id
    → ((t : State) → IsIdOf l.view t id → HasReadNext b.problem l.view m.view t c.weight x) → HasReadNext b.problem l.view m.view (next_state s c) c.weight x
next_is_read b k l m own ids a kept i id c x s is later here at read =
    let place = kept.first + moving (take i a.choices) in
    let leads : LeadsTo k.view s own ids place c = is.next i c here in
    let same : leads.0 ≡ id = same_id (kept_id own ids place c) leads.0 id leads.1 at in
    read (next_state s c) (subst (λ n. IsIdOf l.view (next_state s c) n) same (id_later k.view l.view later (next_state s c) leads.0 leads.2))

-- how far the place goes, and the id that is read, by a choice that is idle or not
step_of : (idle : Bool) → cond idle 0 1 ≡ from_bool (not idle)
step_of true = refl
step_of false = refl

pub at_most_one : (b : Bool) → from_bool b ≤ 1
at_most_one true = omega arith
at_most_one false = omega arith

id_of : (idle : Bool) (x y : Option ℕ) → cond idle x y ≡ cond (not idle) y x
id_of true x y = refl
id_of false x y = refl

-- the choice whose share is read next
module _ (b : Board) (k l : Knowledge) (own : ℕ) (ids : List ℕ) (a : GroundAction) (kept : KeptAction) (steps : List Step) (sums : Sums) (place i : ℕ)
    (so : KeptSoFar b k l own ids a kept steps sums place i) (s : State) (is : IsKeptAction k.view s own ids a kept)
    (shares : List Share) (same : shares ≡ map share_of a.choices) (below : i < length shares) where
  abbrev share : Share
  share = share_at shares i

  abbrev choice : Choice
  choice = (choice_at a shares same i below).0

  choice_here : slice_get a.choices i ≡ Some choice
  choice_here = (choice_at a shares same i below).1

  share_is : share ≡ share_of choice
  share_is = (choice_at a shares same i below).2

  leads : LeadsTo k.view s own ids (kept.first + moving (take i a.choices)) choice
  leads = is.next i choice choice_here

  abbrev its_id : Option ℕ
  its_id = kept_id own ids (kept.first + moving (take i a.choices)) choice

  id_there : cond share.moves (slice_get ids place) (Some own) ≡ its_id
  id_there = (λ j. cond (share_is j).moves (slice_get ids (so.place_is j)) (Some own))
      ∙ sym (id_of (is_idle choice) (Some own) (slice_get ids (kept.first + moving (take i a.choices))))

  pub id_is_inside : share.moves ≡ true → place < length ids
  id_is_inside moves = slice_get_within ids place leads.0
      (ap (λ b. cond b (slice_get ids place) (Some own)) (sym moves) ∙ id_there ∙ leads.1)

  module _ (id : ℕ) (found : cond share.moves (slice_get ids place) (Some own) ≡ Some id) where
    id_at : its_id ≡ Some id
    id_at = sym id_there ∙ found

    pub id_is_known : knows l.view id
    id_is_known = subst (knows l.view) (same_id its_id leads.0 id leads.1 id_at) (so.keeps.noted.known leads.0 leads.2.known)

    module _ (m : Knowledge) (x : Step) (action : IsAction (length b.problem.atoms) a) (penalty : b.problem.penalty ≤ MOST_PENALTY)
        (read : (t : State) → IsIdOf l.view t id → HasReadNext b.problem l.view m.view t share.weight x) where
      weight_is : share.weight ≡ choice.weight
      weight_is = ap (λ (y : Share). y.weight) share_is

      read_so : (t : State) → IsIdOf l.view t id → HasReadNext b.problem l.view m.view t choice.weight x
      read_so t its = subst (λ w. HasReadNext b.problem l.view m.view t w x) weight_is (read t its)

      pub choice_is_small : IsSmallStep 0 x
      choice_is_small = kept_step_is_small b.problem l.view m.view (next_state s choice) a choice x action penalty (slice_get-contains a.choices i choice choice_here)
          (next_is_read b k l m own ids a kept i id choice x s is so.keeps.noted choice_here id_at read_so)

      module _ (keeps : Keeps b l m) (steps' : List Step) (sums' : Sums) (place' : ℕ) (goes : place' ≡ place + from_bool share.moves)
          (lower : sums'.lower ≡ sums.lower + x.weight * (0 + x.lower)) (upper : sums'.upper ≡ sums.upper + x.weight * (0 + x.upper))
          (pushed : steps' ≡ steps ++ x ∷ []) where
        more : take (i + 1) a.choices ≡ take i a.choices ++ choice ∷ []
        more = take_more a.choices i choice (slice_get_within a.choices i choice choice_here)
            ∙ ap (λ d. take i a.choices ++ d ∷ []) (get_or_from_slice_get a.choices i choice choice choice_here)

        place_goes : place' ≡ kept.first + moving (take (i + 1) a.choices)
        place_goes =
            let far = so.place_is in let step = ap (λ (y : Share). from_bool y.moves) share_is ∙ sym (step_of (is_idle choice)) in
            let one = one_moving_more a.choices i choice choice_here in omega arith

        pub kept_goes_on : KeptSoFar b k m own ids a kept steps' sums' place' (i + 1)
        kept_goes_on =
            let small = choice_is_small in
            let low = product_within x.weight (0 + x.lower) small.weight_within (let p = small.lower_within in omega arith) in
            let high = product_within x.weight (0 + x.upper) small.weight_within (let p = small.upper_within in omega arith) in
            let old = so.lower_room in let old' = so.upper_room in record {
              keeps = keeps_again b k l m so.keeps keeps;
              long = ap length pushed ∙ length_push steps x ∙ ap (λ n. n + 1) so.long;
              place_is = place_goes;
              place_room = (let far = so.place_room in let step = at_most_one share.moves in omega arith);
              lower_room = omega arith;
              upper_room = omega arith;
              read = λ z kept_so.
                  let before = so.read z kept_so in
                  let part : Sums = before.0 in
                  let part' : Sums = record { lower = part.lower + x.weight * (0 + x.lower); upper = part.upper + x.weight * (0 + x.upper) } in
                  let next = next_is_read b k l m own ids a kept i id choice x z kept_so so.keeps.noted choice_here id_at read_so in
                  let all : HasRead b.problem k.view m.view z no_price (take i a.choices ++ choice ∷ []) (before.1 ++ next.reading ∷ []) (steps ++ x ∷ []) part'
                  = read_more b.problem k.view l.view m.view z no_price (grows b k l so.keeps) (grows b l m keeps) (take i a.choices) before.1
                  steps part part' choice x 0 before.2 next refl refl refl in
                  let low_is = before.3 in let high_is = before.4 in (
                    part',
                    before.1 ++ next.reading ∷ [],
                    subst (λ ds. HasRead b.problem k.view m.view z no_price ds (before.1 ++ next.reading ∷ []) steps' part') (sym more)
                        (subst (λ xs. HasRead b.problem k.view m.view z no_price (take i a.choices ++ choice ∷ []) (before.1 ++ next.reading ∷ []) xs part')
                        (sym pushed) all),
                    omega arith,
                    omega arith,
                  );
            }

pub kept_ends : (b : Board) (k l : Knowledge) (own : ℕ) (ids : List ℕ) (a : GroundAction) (kept : KeptAction) (steps : List Step) (sums : Sums) (place i : ℕ)
    → KeptSoFar b k l own ids a kept steps sums place i → take i a.choices ≡ a.choices → (s : State) → IsKeptAction k.view s own ids a kept
    → HasReadAction b.problem k.view l.view s a steps sums
kept_ends b k l own ids a kept steps sums place i so all s is =
    let end = so.read s is in
    let part : Sums = end.0 in let rs : List Reading = end.1 in
    let read : HasRead b.problem k.view l.view s no_price a.choices rs steps part = subst (λ cs. HasRead b.problem k.view l.view s no_price cs rs steps part) all end.2 in
    let R : Choice → Reading → Type 0 = λ c r. IsRead b.problem k.view l.view (next_state s c) r in
    let low = costs_apart R (λ (c : Choice). c.weight) (cost_of (has_bit s)) (λ (r : Reading). r.lower) a.choices rs read.readings in
    let high = costs_apart R (λ (c : Choice). c.weight) (cost_of (has_bit s)) (λ (r : Reading). value_of r.word) a.choices rs read.readings in (
      rs,
      record {
        readings = read.readings;
        loads = read.loads;
        steps_are = read.steps_are;
        lower = end.3 ∙ (λ j. is.cost j + read.lower j) ∙ low;
        upper = end.4 ∙ (λ j. is.cost j + read.upper j) ∙ high;
      },
    )

-- ---- the actions of a state

pub record KeptChosen (b : Board) (k l : Knowledge) (own : ℕ) (t : Transitions) (row : KeptRow) (chosen : List Step) (best : Best) (i : ℕ) : Type 0 where
  pub keeps : Keeps b k l
  pub chosen_is : (s : State) (are : AreKept k.view s own b.problem t row)
      → HasChosen b.problem k.view l.view s (take i are.codes) chosen best

same_action : {X : Type 0} (xs : List X) (i : ℕ) (x y : X) → slice_get xs i ≡ Some x → slice_get xs i ≡ Some y → x ≡ y
same_action xs i x y one other = cc

-- the action in this place
module _ (b : Board) (k l : Knowledge) (s : State) (own : ℕ) (t : Transitions) (row : KeptRow) (are : AreKept k.view s own b.problem t row)
    (later : HasMore k.view l.view) (i : ℕ) (action : KeptAction) (below : i < length are.codes) (here : slice_get t.actions (row.first + i) ≡ Some action) where
  pub own_is_kept : IsKeptAt k.view s own b.problem t.ids (get_or are.codes i 0) action
  own_is_kept = let e = are.each i below in
      subst (λ x. IsKeptAt k.view s own b.problem t.ids (get_or are.codes i 0) x) (same_action t.actions (row.first + i) e.0 action e.1 here) e.2

  pub action_is_kept : (a : GroundAction) → slice_get b.problem.actions action.code ≡ Some a → IsKeptAction l.view s own t.ids a action
  action_is_kept a coded =
      let is : own_is_kept.action ≡ a = same_action b.problem.actions (get_or are.codes i 0) own_is_kept.action a own_is_kept.here
      (subst (λ n. slice_get b.problem.actions n ≡ Some a) own_is_kept.code_is coded) in
      subst (λ x. IsKeptAction l.view s own t.ids x action) is
      (action_later k.view l.view later s own t.ids own_is_kept.action action own_is_kept.kept)

pub record IsOwnAt (b : Board) (l : Knowledge) (s : State) (own : ℕ) (t : Transitions) (row : KeptRow) (i : ℕ) (action : KeptAction) : Type 0 where
  pub here : slice_get t.actions (row.first + i) ≡ Some action
  pub coded : action.code < length b.problem.actions
  pub kept : (a : GroundAction) → slice_get b.problem.actions action.code ≡ Some a → IsKeptAction l.view s own t.ids a action

pub place_is_coded : (b : Board) (k : Knowledge) (s : State) (own : ℕ) (t : Transitions) (row : KeptRow) (i : ℕ) (are : AreKept k.view s own b.problem t row)
    → i < row.past - row.first → i < length are.codes
place_is_coded b k s own t row i are within = let n = are.count in omega arith

pub is_inside : (b : Board) (k : Knowledge) (s : State) (own : ℕ) (t : Transitions) (row : KeptRow) (i : ℕ) → AreKept k.view s own b.problem t row
    → i < row.past - row.first → row.first + i < length t.actions
is_inside b k s own t row i are within =
    let e = are.each i (place_is_coded b k s own t row i are within) in slice_get_within t.actions (row.first + i) e.0 e.1

pub is_own_at : (b : Board) (k l : Knowledge) (s : State) (own : ℕ) (t : Transitions) (row : KeptRow) (i : ℕ) (action : KeptAction)
    → HasMore k.view l.view → AreKept k.view s own b.problem t row → i < row.past - row.first → slice_get t.actions (row.first + i) ≡ Some action
    → IsOwnAt b l s own t row i action
is_own_at b k l s own t row i action later are within here =
    let below : i < length are.codes = place_is_coded b k s own t row i are within in
    let is : IsKeptAt k.view s own b.problem t.ids (get_or are.codes i 0) action = own_is_kept b k l s own t row are later i action below here in
    let within_all = slice_get_within b.problem.actions (get_or are.codes i 0) is.action is.here in
    let code = is.code_is in
    record { here = here; coded = omega arith; kept = action_is_kept b k l s own t row are later i action below here }

pub record IsActionAt (b : Board) (l : Knowledge) (s : State) (own : ℕ) (t : Transitions) (action : KeptAction) (a : GroundAction) : Type 0 where
  pub coded : slice_get b.problem.actions action.code ≡ Some a
  pub is : IsAction (length b.problem.atoms) a
  pub kept : IsKeptAction l.view s own t.ids a action

pub is_action_at : (b : Board) (l : Knowledge) (s : State) (own : ℕ) (t : Transitions) (row : KeptRow) (i : ℕ) (action : KeptAction)
    → IsOwnAt b l s own t row i action → IsGroundProblem b.problem → (all : List GroundAction) → all ≡ b.problem.actions → (a : GroundAction)
    → a ≡ get_or all action.code a → IsActionAt b l s own t action a
is_action_at b l s own t row i action at problem all same a read =
    let inside : action.code < length all = (let n = ap length same in let c = at.coded in omega arith) in
    let coded : slice_get b.problem.actions action.code ≡ Some a =
    subst (λ (xs : List GroundAction). slice_get xs action.code ≡ Some a) same (slice_get_read all (length all) action.code a refl inside read) in record {
      coded = coded;
      is = action_is b.problem problem action.code a coded;
      kept = at.kept a coded;
    }

pub chosen_goes_on : (b : Board) (k l m : Knowledge) (own : ℕ) (t : Transitions) (row : KeptRow) (chosen chosen' tried : List Step) (best best' : Best) (i : ℕ)
    (action : KeptAction) (a : GroundAction) (sums : Sums) → KeptChosen b k l own t row chosen best i → Keeps b l m → i < row.past - row.first
    → slice_get t.actions (row.first + i) ≡ Some action → slice_get b.problem.actions action.code ≡ Some a
    → ((s : State) → IsKeptAction l.view s own t.ids a action → HasReadAction b.problem l.view m.view s a tried sums)
    → best'.lower ≡ min (sums.lower / a.den) best.lower → best'.word ≡ min (word_of (div_ceil sums.upper a.den) action.code) best.word
    → (best'.lower < best.lower → last_in best'.code best'.den chosen' ≡ last_in action.code a.den tried)
    → (best.lower ≤ best'.lower → last_in best'.code best'.den chosen' ≡ last_in best.code best.den chosen)
    → KeptChosen b k m own t row chosen' best' (i + 1)
chosen_goes_on b k l m own t row chosen chosen' tried best best' i action a sums so keeps within here coded read lower word better same = record {
  keeps = keeps_again b k l m so.keeps keeps;
  chosen_is = λ s are.
      let codes : List ℕ = are.codes in
      let below : i < length codes = place_is_coded b k s own t row i are within in
      let code_is : action.code ≡ get_or codes i 0 = (own_is_kept b k l s own t row are so.keeps.noted i action below here).code_is in
      action_goes_on b k l m s (take i codes) (take (i + 1) codes) action.code a sums tried chosen chosen' best best' so.keeps keeps
      (take_more codes i 0 below ∙ ap (λ n. take i codes ++ n ∷ []) (sym code_is)) coded
      (read s (action_is_kept b k l s own t row are so.keeps.noted i action below here a coded)) (so.chosen_is s are) lower word better same;
}

-- all that are kept were read
pub chosen_ends : (b : Board) (k l : Knowledge) (own : ℕ) (t : Transitions) (row : KeptRow) (chosen : List Step) (best : Best) (i : ℕ)
    → KeptChosen b k l own t row chosen best i → row.past - row.first ≤ i → (s : State) (are : AreKept k.view s own b.problem t row)
    → HasChosen b.problem k.view l.view s are.codes chosen best
chosen_ends b k l own t row chosen best i so all s are =
    subst (λ cs. HasChosen b.problem k.view l.view s cs chosen best) (take_all i are.codes (let n = are.count in omega arith)) (so.chosen_is s are)

-- ---- the state of an id

some_is : (q w : Knowledge) → Some q ≡ Some w → q ≡ w
some_is q w same = cc

place_is_keeping : (g : Ground) (old : Option Knowledge) (near own : Transitions) (id : ℕ) (t : Transitions) (row : KeptRow) → IsPlace near own id t row
    → IsKeeping g old near → IsKeeping g old own → IsKeeping g old t
place_is_keeping g old near own id t row place of_near of_own = ⊎_elim
    (λ there. subst (IsKeeping g old) (sym there.1) of_near)
    (λ here. subst (IsKeeping g old) (sym here.1) of_own)
    place.t_is

pub row_is_recalled : (g p : Ground) (old : Option Knowledge) (w : Knowledge) (v : View) (id : ℕ) (near own t : Transitions) (row : KeptRow) → p ≡ g
    → IsKeeping p old near → IsKeeping p old own → old ≡ Some w → IsKept row → IsPlace near own id t row → HasMore w.view v → IsKeptState g v id t row
row_is_recalled g p old w v id near own t row same of_near of_own had kept place heard =
    let keeping = place_is_keeping p old near own id t row place of_near of_own in
    let is_own = keeping id (subst IsKept place.row_is kept) in
    let witness : is_own.0 ≡ w = some_is is_own.0 w (sym is_own.1 ∙ had) in
    let is : IsKeptState p w.view id t row = subst (λ r. IsKeptState p w.view id t r) (sym place.row_is)
    (subst (λ (q : Knowledge). IsKeptState p q.view id t (row_of t id)) witness is_own.2) in
    subst (λ (q : Ground). IsKeptState q v id t row) same
    (state_later w.view v heard p id t t row (grown_all t) is)

pub state_is_recalled : (g : Ground) (k l : View) (id : ℕ) (t : Transitions) (row : KeptRow) (is : IsKeptState g l id t row) → HasMore k l → HasOneState l
    → IsStateOf k l id is.state
state_is_recalled g k l id t row is more one = record {
  has = is.is.state;
  one = λ s had. one id s is.state (has_state_more k l more id s had) is.is.state;
}
