-- Choices and actions that are put behind the others, one by one.
use Rattle.std.proofs.Common.{◌≡◌, ℕ, ◌+◌, ◌*◌, ◌<◌, ◌≤◌, true, false, cond, Some, List, [], ◌∷◌, ◌++◌, length, take, get_or, sym, ap, ◌∙◌, subst, arith, below_more}
use Rattle.std.specs.List.{slice_get}
use Rattle.std.proofs.lemmas.List.{take_more}
use Rattle.std.proofs.lemmas.Option.{slice_get_within, get_or_from_slice_get}
use Rattle.plain_list.proofs.lemmas.weighted.Totals.{total-append}
use Rattle.ground_model.specs.declared.action.Choice.{Choice}
use Rattle.ground_model.specs.declared.action.GroundAction.{GroundAction}
use Rattle.ground_model.specs.Packed.{State, has_bit}
use Rattle.ground_model.specs.Choices.{cost_of, next_state}
use Rattle.ground_model.specs.Ground.{Ground}
use Rattle.applicable_actions.specs.distinct.Enough.{AreEnough}
use Rattle.kept_transitions.specs.declared.kept_action.KeptAction.{KeptAction}
use Rattle.kept_transitions.specs.declared.kept_row.KeptRow.{KeptRow}
use Rattle.kept_transitions.specs.Idle.{is_idle, moving}
use Rattle.kept_transitions.specs.Rows.{Transitions, AddsAction}
use Rattle.kept_transitions.specs.Meaning.{cost_of_all, LeadsTo, IsKeptAt, AreKept, HasGrown}
use Rattle.kept_transitions.proofs.Growth.{slice_get_more, slice_get_last}
use Rattle.kept_transitions.proofs.Still.{leads_still, at_still}

-- what one choice more costs
pub one_cost_more : (s : State) (cs : List Choice) (i : ℕ) (c : Choice) → i < length cs → c ≡ get_or cs i c
    → cost_of_all s (take (i + 1) cs) ≡ cost_of_all s (take i cs) + c.weight * cost_of (has_bit s) c
one_cost_more s cs i c within is =
    let last = total-append (λ (x : Choice). x.weight * cost_of (has_bit s) x) (take i cs) (c ∷ []) in
    let more : take (i + 1) cs ≡ take i cs ++ c ∷ [] = take_more cs i c within ∙ ap (λ x. take i cs ++ x ∷ []) (sym is) in
    ap (cost_of_all s) more ∙ (let l = last in omega arith)

module _ (R : State → ℕ → Type 0) (s : State) (own : ℕ) where
  -- the ids from the first place on are those of the states to which so many choices lead
  abbrev pub AllLead : List Choice → List ℕ → ℕ → ℕ → Type 0
  AllLead choices ids first n = (i : ℕ) (c : Choice) → i < n → slice_get choices i ≡ Some c
      → LeadsTo R s own ids (first + moving (take i choices)) c

  module _ (g : Ground) (codes : List ℕ) where
    -- the action in this place behind the first is that of its code
    abbrev pub StandsAt : Transitions → ℕ → ℕ → Type 0
    StandsAt t first i = (k : KeptAction) × (slice_get t.actions (first + i) ≡ Some k) × IsKeptAt R s own g t.ids (get_or codes i 0) k

    -- the actions from the first place on are those of so many codes
    abbrev pub AllStand : Transitions → ℕ → ℕ → Type 0
    AllStand t first n = (i : ℕ) → i < n → StandsAt t first i

    pub row_is_kept : (t : Transitions) (row : KeptRow) (first : ℕ) → AllStand t first (length codes) → AreEnough g s codes
        → row.first ≡ first → row.past ≡ first + length codes → AreKept R s own g t row
    row_is_kept t row first stand enough first_is past_is = record {
      codes = codes;
      enough = enough;
      count = past_is ∙ ap (λ n. n + length codes) (sym first_is);
      each = subst (λ n. AllStand t n (length codes)) (sym first_is) stand;
    }

  -- an action with all its choices
  pub action_is_kept : (g : Ground) (code : ℕ) (a : GroundAction) (t u : Transitions) (first n : ℕ) (k : KeptAction) → AllLead a.choices t.ids first n
      → length a.choices ≤ n → slice_get g.actions code ≡ Some a → k.code ≡ code → k.first ≡ first → k.cost ≡ cost_of_all s a.choices
      → AddsAction t k true u → IsKeptAt R s own g u.ids code k
  action_is_kept g code a t u first n k lead all coded code_is first_is cost_is adds = record {
    code_is = code_is;
    action = a;
    here = coded;
    kept = record {
      cost = cost_is;
      next = λ i c here.
          let place = first + moving (take i a.choices) in
          let leads : LeadsTo R s own t.ids place c = lead i c (let inside = slice_get_within a.choices i c here in omega arith) here in
          let ids_are : u.ids ≡ t.ids = ap (λ (x : Transitions). x.ids) adds in
          subst (λ m. LeadsTo R s own u.ids (m + moving (take i a.choices)) c) (sym first_is)
          (subst (λ (xs : List ℕ). LeadsTo R s own xs place c) (sym ids_are) leads);
    };
  }

-- how many choices are not idle, with one choice more
pub one_moving_more : (cs : List Choice) (i : ℕ) (c : Choice) → slice_get cs i ≡ Some c
    → moving (take (i + 1) cs) ≡ moving (take i cs) + cond (is_idle c) 0 1
one_moving_more cs i c here =
    let within = slice_get_within cs i c here in
    let is : get_or cs i c ≡ c = get_or_from_slice_get cs i c c here in
    let last = total-append (λ (x : Choice). cond (is_idle x) 0 1) (take i cs) (c ∷ []) in
    let more : take (i + 1) cs ≡ take i cs ++ c ∷ [] = take_more cs i c within ∙ ap (λ x. take i cs ++ x ∷ []) is in
    ap moving more ∙ (let l = last in omega arith)

module _ (T : State → ℕ → Type 0) (s : State) (own : ℕ) (c : Choice) where
  -- the id of a choice that is not idle is put behind the others
  pub new_id_leads : (ids : List ℕ) (place id : ℕ) → is_idle c ≡ false → place ≡ length ids → T (next_state s c) id
      → LeadsTo T s own (ids ++ id ∷ []) place c
  new_id_leads ids place id moves last is = (
    id,
    ap (λ b. cond b (Some own) (slice_get (ids ++ id ∷ []) place)) moves ∙ slice_get_last ids id place last,
    is,
  )

  -- that of one that is idle is known
  pub own_id_leads : (ids : List ℕ) (place : ℕ) → is_idle c ≡ true → T (next_state s c) own → LeadsTo T s own ids place c
  own_id_leads ids place idle is = (own, ap (λ b. cond b (Some own) (slice_get ids place)) idle, is)

module _ (R T : State → ℕ → Type 0) (same : (s : State) (id : ℕ) → R s id → T s id) (s : State) (own : ℕ) where
  -- one choice more
  module _ (choices : List Choice) (ids later : List ℕ) (first i : ℕ) (c : Choice) (lead : AllLead R s own choices ids first i)
      (here : slice_get choices i ≡ Some c) (leads : LeadsTo T s own (ids ++ later) (first + moving (take i choices)) c) where
    new_leads : (d : Choice) → slice_get choices i ≡ Some d → LeadsTo T s own (ids ++ later) (first + moving (take i choices)) d
    new_leads d at =
        let same_choice : c ≡ d = cc in
        subst (LeadsTo T s own (ids ++ later) (first + moving (take i choices))) same_choice leads

    old_leads : (j : ℕ) → j < i → (d : Choice) → slice_get choices j ≡ Some d → LeadsTo T s own (ids ++ later) (first + moving (take j choices)) d
    old_leads j below d at = leads_still R T same s own ids later (first + moving (take j choices)) d (lead j d below at)

    pub one_more_leads : AllLead T s own choices (ids ++ later) first (i + 1)
    one_more_leads j d below at =
        below_more (λ n. (e : Choice) → slice_get choices n ≡ Some e → LeadsTo T s own (ids ++ later) (first + moving (take n choices)) e)
        i old_leads new_leads j below d at

  -- one action more
  module _ (g : Ground) (codes : List ℕ) (t u : Transitions) (first i code : ℕ) (k : KeptAction) (stand : AllStand R s own g codes t first i)
      (count : length t.actions ≡ first + i) (grown : HasGrown t u) (put : u.actions ≡ t.actions ++ k ∷ []) (is : IsKeptAt T s own g u.ids code k)
      (here : code ≡ get_or codes i 0) where
    new_stands : StandsAt T s own g codes u first i
    new_stands = (
      k,
      ap (λ (xs : List KeptAction). slice_get xs (first + i)) put ∙ slice_get_last t.actions k (first + i) (sym count),
      subst (λ n. IsKeptAt T s own g u.ids n k) here is,
    )

    old_stands : (j : ℕ) → j < i → StandsAt T s own g codes u first j
    old_stands j below = let e = stand j below in (
      e.0,
      ap (λ (xs : List KeptAction). slice_get xs (first + j)) put ∙ slice_get_more t.actions (k ∷ []) (first + j) e.0 e.1,
      subst (λ (xs : List ℕ). IsKeptAt T s own g xs (get_or codes j 0) e.0) (sym grown.ids)
          (at_still R T same s own t.ids grown.more_ids g (get_or codes j 0) e.0 e.2),
    )

    pub one_more_stands : AllStand T s own g codes u first (i + 1)
    one_more_stands = below_more (StandsAt T s own g codes u first) i old_stands new_stands
