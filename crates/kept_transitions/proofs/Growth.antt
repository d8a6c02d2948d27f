-- Lists and transitions that grow.
use Rattle.std.proofs.Common.{◌≡◌, ℕ, zero, suc, true, false, Some, List, [], ◌∷◌, ◌++◌, length, take, refl, sym, ap, ◌∙◌, subst, append_assoc, arith}
use Rattle.std.specs.Prelude.{Bool}
use Rattle.std.specs.List.{slice_get}
use Rattle.std.proofs.lemmas.List.{append-nil, length-append, get_or_push, take_at}
use Rattle.std.proofs.lemmas.Option.{slice_get-get_or}
use Rattle.kept_transitions.specs.declared.kept_action.KeptAction.{KeptAction}
use Rattle.kept_transitions.specs.Rows.{Transitions, AddsId, AddsAction}
use Rattle.kept_transitions.specs.Meaning.{HasGrown}

-- ---- lists

module _ {X : Type 0} where
  pub slice_get_more : (xs ys : List X) (i : ℕ) (x : X) → slice_get xs i ≡ Some x → slice_get (xs ++ ys) i ≡ Some x
  slice_get_more [] ys i x here = cc
  slice_get_more (y ∷ xs) ys zero x here = here
  slice_get_more (y ∷ xs) ys (suc i) x here = slice_get_more xs ys i x here

  pub slice_get_last : (xs : List X) (x : X) (i : ℕ) → i ≡ length xs → slice_get (xs ++ x ∷ []) i ≡ Some x
  slice_get_last xs x i same =
      let long = length-append xs (x ∷ []) in
      slice_get-get_or (xs ++ x ∷ []) i x (omega arith) ∙ ap Some (get_or_push xs x x i (sym same))

  -- a list that grew and is cut to what it was
  cut_back : (xs more grown cut : List X) (n : ℕ) → grown ≡ xs ++ more → n ≡ length xs → cut ≡ take n grown → cut ≡ xs ++ []
  cut_back xs more grown cut n grown_is n_is cut_is =
      cut_is ∙ ap (take n) grown_is ∙ take_at xs more n (sym n_is) ∙ sym (append-nil xs)

-- ---- transitions

pub grown_all : (t : Transitions) → HasGrown t t
grown_all t = record { rows = refl; more_actions = []; actions = sym (append-nil t.actions); more_ids = []; ids = sym (append-nil t.ids) }

pub grown_again : (t u w : Transitions) → HasGrown t u → HasGrown u w → HasGrown t w
grown_again t u w first second = record {
  rows = second.rows ∙ first.rows;
  more_actions = first.more_actions ++ second.more_actions;
  actions = second.actions ∙ ap (λ xs. xs ++ second.more_actions) first.actions ∙ append_assoc t.actions first.more_actions second.more_actions;
  more_ids = first.more_ids ++ second.more_ids;
  ids = second.ids ∙ ap (λ xs. xs ++ second.more_ids) first.ids ∙ append_assoc t.ids first.more_ids second.more_ids;
}

pub id_grown : (t u : Transitions) (id : ℕ) (done : Bool) → AddsId t id done u → HasGrown t u
id_grown t u id true adds = record {
  rows = ap (λ (x : Transitions). x.rows) adds;
  more_actions = [];
  actions = ap (λ (x : Transitions). x.actions) adds ∙ sym (append-nil t.actions);
  more_ids = id ∷ [];
  ids = ap (λ (x : Transitions). x.ids) adds;
}
id_grown t u id false adds = subst (HasGrown t) (sym adds) (grown_all t)

pub action_grown : (t u : Transitions) (action : KeptAction) (done : Bool) → AddsAction t action done u → HasGrown t u
action_grown t u action true adds = record {
  rows = ap (λ (x : Transitions). x.rows) adds;
  more_actions = action ∷ [];
  actions = ap (λ (x : Transitions). x.actions) adds;
  more_ids = [];
  ids = ap (λ (x : Transitions). x.ids) adds ∙ sym (append-nil t.ids);
}
action_grown t u action false adds = subst (HasGrown t) (sym adds) (grown_all t)

-- what was put is cut off again
pub cut_is_grown : (t u w : Transitions) (actions ids : ℕ) → HasGrown t u → actions ≡ length t.actions → ids ≡ length t.ids
    → w.rows ≡ u.rows → w.actions ≡ take actions u.actions → w.ids ≡ take ids u.ids → HasGrown t w
cut_is_grown t u w actions ids grown actions_is ids_is rows cut_actions cut_ids = record {
  rows = rows ∙ grown.rows;
  more_actions = [];
  actions = cut_back t.actions grown.more_actions u.actions w.actions actions grown.actions actions_is cut_actions;
  more_ids = [];
  ids = cut_back t.ids grown.more_ids u.ids w.ids ids grown.ids ids_is cut_ids;
}
