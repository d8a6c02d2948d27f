-- Kept actions, by their kinds.
use Rattle.std.proofs.Common.{◌≡◌, ℕ, suc, ◌<◌, List, [], ◌∷◌, ◌++◌, length, get_or, cond, Bool, true, false, refl, sym, ap, subst, ◌∙◌, arith}
use Rattle.std.proofs.lemmas.List.{length-append, map-append}
use Rattle.std.proofs.lemmas.List.Elements.{All-push}
use Rattle.std.proofs.Math.ListN.{get_or-append}
use Rattle.std.proofs.lemmas.Option.{slice_get_within, get_or_from_slice_get}
use Rattle.kept_transitions.specs.declared.kept_action.KeptAction.{KeptAction}
use Rattle.kept_transitions.specs.declared.kind.Kind.{Kind}
use Rattle.kept_transitions.specs.declared.unpacked_action.UnpackedAction.{UnpackedAction}
use Rattle.kept_transitions.specs.Rows.{Transitions, AddsAction}
use Rattle.kept_transitions.specs.Kinds.{no_kind, of_kind, action_of, actions_of, AreOfKinds, HasKind, HasMoreKinds}

-- ---- more kinds

module _ (kinds more : List Kind) (grown : HasMoreKinds kinds more) where
  longer : (n : ℕ) → n < length kinds → n < length more
  longer n below = let all = ap length grown.are ∙ length-append kinds grown.others in omega arith

  same_action : (a : UnpackedAction) → a.kind < length kinds → action_of more a ≡ action_of kinds a
  same_action a below = ap (λ (ks : List Kind). action_of ks a) grown.are
      ∙ ap (λ (k : Kind). of_kind k a.first) (get_or-append kinds grown.others no_kind a.kind below)

  pub actions_of_more : (xs : List UnpackedAction) → AreOfKinds kinds xs → actions_of more xs ≡ actions_of kinds xs
  actions_of_more [] are = refl
  actions_of_more (a ∷ xs) are =
      let here = same_action a (are 0 a (omega arith)) in
      let rest = actions_of_more xs (λ i d below. are (suc i) d (omega arith)) in λ j. here j ∷ rest j

  pub are_still : (xs : List UnpackedAction) → AreOfKinds kinds xs → AreOfKinds more xs
  are_still xs are = λ i d below. longer (get_or xs i d).kind (are i d below)

-- ---- maybe another action

module _ (kinds more : List Kind) (grown : HasMoreKinds kinds more) (xs : List UnpackedAction) (are : AreOfKinds kinds xs) (place : ℕ) (action : KeptAction)
    (has : HasKind more place action.code action.cost) where
  abbrev another : UnpackedAction
  another = record { kind = place; first = action.first }

  is_another : action_of more another ≡ action
  is_another =
      let here : get_or more place no_kind ≡ has.kind = get_or_from_slice_get more place has.kind no_kind has.here in
      let code = has.code_is in let cost = has.cost_is in
      ap (λ (k : Kind). of_kind k action.first) here ∙ (λ j. record { cost = cost j; first = action.first; code = code j })

  pub actions_are : (done : Bool) (ys : List UnpackedAction) → ys ≡ cond done (xs ++ another ∷ []) xs
      → actions_of more ys ≡ cond done (actions_of kinds xs ++ action ∷ []) (actions_of kinds xs)
  actions_are true ys is = ap (actions_of more) is ∙ map-append (action_of more) xs (another ∷ [])
      ∙ (λ j. actions_of_more kinds more grown xs are j ++ is_another j ∷ [])
  actions_are false ys is = ap (actions_of more) is ∙ actions_of_more kinds more grown xs are

  pub are_of_kinds : (done : Bool) (ys : List UnpackedAction) → ys ≡ cond done (xs ++ another ∷ []) xs → AreOfKinds more ys
  are_of_kinds true ys is = subst (AreOfKinds more) (sym is)
      (All-push (λ (a : UnpackedAction). a.kind < length more) xs another (are_still kinds more grown xs are)
      (slice_get_within more place has.kind has.here))
  are_of_kinds false ys is = subst (AreOfKinds more) (sym is) (are_still kinds more grown xs are)

pub adds_action : (t : Transitions) (action : KeptAction) (done : Bool) (actions : List KeptAction)
    → actions ≡ cond done (t.actions ++ action ∷ []) t.actions → AddsAction t action done (record t { actions = actions })
adds_action t action true actions is = λ j. record t { actions = is j }
adds_action t action false actions is = λ j. record t { actions = is j }
