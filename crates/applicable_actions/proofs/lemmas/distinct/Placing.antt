-- The choices of actions side by side are those of the actions.
use Rattle.std.proofs.Common.{◌≡◌, ℕ, ◌+◌, ◌-◌, ◌*◌, ◌<◌, ◌≤◌, Option, Some, None, List, [], ◌∷◌, ◌++◌, length, map, take, drop, get_or, refl, sym, ap, ◌∙◌, subst, arith}
use Rattle.std.specs.Prelude.{All}
use Rattle.std.specs.List.{slice_get}
use Rattle.std.specs.Option.{option_map}
use Rattle.std.proofs.lemmas.List.{append-nil, drop-append-le, take-append-le, length-drop, length-append, length-map, length-take, length-take-le, get_or-take, map-append, take_more}
use Rattle.std.proofs.lemmas.List.Elements.{All-nil, All-head, All-tail, All-push, All-weaker, All-contains, All-get_or}
use Rattle.std.proofs.lemmas.Option.{slice_get-map, slice_get_within, slice_get-get_or, get_or_from_slice_get}
use Rattle.ground_model.specs.declared.action.Choice.{Choice}
use Rattle.ground_model.specs.declared.action.GroundAction.{GroundAction}
use Rattle.ground_model.specs.Ground.{Ground}
use Rattle.ground_model.specs.Invariant.{IsAction, IsGroundProblem}
use Rattle.ground_model.proofs.Steps.{slice_get-contains}
use Rattle.ground_step.specs.Steps.{choices_at, choices_of}
use Rattle.applicable_actions.specs.declared.distinct.span.Span.{Span}
use Rattle.applicable_actions.specs.distinct.Enough.{RepeatsLast}
use Rattle.applicable_actions.specs.distinct.Placed.{choices_of_action, IsWithin, choices_in, HavePlaced, HasPlaced}

-- ---- more choices behind the others

module _ (choices more : List Choice) where
  within_more : (s : Span) → IsWithin choices s → IsWithin (choices ++ more) s
  within_more s within = let n = length-append choices more in omega arith

  choices_stay : (s : Span) → IsWithin choices s → choices_in (choices ++ more) s ≡ choices_in choices s
  choices_stay s within =
      let long = length-drop s.first choices in
      ap (λ xs. take s.count xs) (drop-append-le s.first choices more (omega arith)) ∙ take-append-le s.count (drop s.first choices) more (omega arith)

  all_choices_stay : (spans : List Span) → All (IsWithin choices) spans → map (choices_in (choices ++ more)) spans ≡ map (choices_in choices) spans
  all_choices_stay [] all = refl
  all_choices_stay (s ∷ spans) all =
      ap (λ o. o ∷ map (choices_in (choices ++ more)) spans) (choices_stay s (All-head (IsWithin choices) s spans all))
      ∙ ap (λ os. choices_in choices s ∷ os) (all_choices_stay spans (All-tail (IsWithin choices) s spans all))

-- ---- the actions so far

pub record ArePlaced (actions : List GroundAction) (spans : List Span) (choices : List Choice) (i : ℕ) : Type 0 where
  pub placed : HavePlaced (take i actions) spans choices
  pub few : length choices ≤ i * 256

pub none_placed : (actions : List GroundAction) (spans : List Span) (choices : List Choice) → spans ≡ [] → choices ≡ [] → ArePlaced actions spans choices 0
none_placed actions spans choices blank none = record {
  placed = record {
    within = subst (λ xs. All (IsWithin choices) xs) (sym blank) (All-nil (IsWithin choices));
    are = ap (λ xs. map (choices_in choices) xs) blank;
  };
  few = (let n = ap (λ (xs : List Choice). length xs) none in omega arith);
}

pub few_choices : (g : Ground) → IsGroundProblem g → (actions : List GroundAction) → actions ≡ g.actions → (i : ℕ) → i < length actions → (a : GroundAction)
    → a ≡ get_or actions i a → (length a.choices ≤ 256) × (length actions ≤ 65534)
few_choices g problem actions same i below a read =
    let n = ap (λ (xs : List GroundAction). length xs) same in
    let is : IsAction (length g.atoms) (get_or actions i a) = All-get_or (IsAction (length g.atoms)) actions i a below
    (subst (λ xs. All (IsAction (length g.atoms)) xs) (sym same) problem.actions) in
    let own : IsAction (length g.atoms) a = subst (IsAction (length g.atoms)) (sym read) is in
    let few = own.count in let all = problem.actions_count in (omega arith, omega arith)

pub more_placed : (actions : List GroundAction) (spans spans' : List Span) (choices choices' : List Choice) (i : ℕ) (a : GroundAction) (s : Span)
    → ArePlaced actions spans choices i → i < length actions → a ≡ get_or actions i a → length a.choices ≤ 256 → HasPlaced a s choices choices'
    → spans' ≡ spans ++ s ∷ [] → ArePlaced actions spans' choices' (i + 1)
more_placed actions spans spans' choices choices' i a s so below read small put pushed =
    let more = put.more in
    let later : All (IsWithin choices') spans = subst (λ ws. All (IsWithin ws) spans) (sym put.grown)
    (All-weaker (IsWithin choices) (IsWithin (choices ++ more)) (within_more choices more) spans so.placed.within) in
    let stay : map (choices_in choices') spans ≡ map (choices_in choices) spans
    = ap (λ ws. map (choices_in ws) spans) put.grown ∙ all_choices_stay choices more spans so.placed.within in
    let next : take (i + 1) actions ≡ take i actions ++ a ∷ [] = take_more actions i a below ∙ ap (λ x. take i actions ++ x ∷ []) (sym read) in
    let long = ap (λ (xs : List Choice). length xs) put.grown ∙ length-append choices more in
    let few = so.few in let own = put.few in record {
      placed = record {
        within = subst (λ xs. All (IsWithin choices') xs) (sym pushed) (All-push (IsWithin choices') spans s later put.within);
        are = ap (λ xs. map (choices_in choices') xs) pushed ∙ map-append (choices_in choices') spans (s ∷ [])
            ∙ ap (λ os. os ++ choices_in choices' s ∷ []) (stay ∙ so.placed.are)
            ∙ ap (λ o. map choices_of_action (take i actions) ++ o ∷ []) put.are
            ∙ sym (map-append choices_of_action (take i actions) (a ∷ [])) ∙ ap (λ xs. map choices_of_action xs) (sym next);
      };
      few = omega arith;
    }

-- ---- an action that does the same as the one before

slice_get_taken : {X : Type 0} (xs : List X) (n i : ℕ) (x : X) → slice_get xs i ≡ Some x → i < n → slice_get (take n xs) i ≡ Some x
slice_get_taken xs n i x here below =
    let inside = slice_get_within xs i x here in let long = length-take n xs in
    slice_get-get_or (take n xs) i x (omega arith) ∙ ap Some (get_or-take n xs i x below ∙ get_or_from_slice_get xs i x x here)

module _ (actions : List GroundAction) (code : ℕ) (a : GroundAction) (spans : List Span) (last : Span) (choices : List Choice)
    (so : HavePlaced (take code actions) spans choices) (repeats : RepeatsLast actions code) (here : slice_get actions code ≡ Some a)
    (is_last : slice_get spans (length spans - 1) ≡ Some last) where
  spans_long : length spans ≡ code
  spans_long =
      let inside = slice_get_within actions code a here in
      sym (length-map spans (choices_in choices)) ∙ ap length so.are ∙ length-map (take code actions) choices_of_action ∙ length-take-le code actions (omega arith)

  last_here : slice_get spans repeats.last ≡ Some last
  last_here =
      let long = spans_long in let before = repeats.before in
      subst (λ n. slice_get spans n ≡ Some last) (let same : length spans - 1 ≡ repeats.last = omega arith in same) is_last

  choices_before : choices_in choices last ≡ choices_of_action repeats.like.one
  choices_before =
      let before = repeats.before in let same = so.are in
      let own : slice_get (map (choices_in choices) spans) repeats.last ≡ Some (choices_in choices last)
      = slice_get-map (choices_in choices) spans repeats.last ∙ ap (λ o. option_map (choices_in choices) o) last_here in
      let theirs : slice_get (map choices_of_action (take code actions)) repeats.last ≡ Some (choices_of_action repeats.like.one)
      = slice_get-map choices_of_action (take code actions) repeats.last
      ∙ ap (λ o. option_map choices_of_action o) (slice_get_taken actions code repeats.last repeats.like.one repeats.like.one_here (omega arith)) in cc

  other_is : repeats.like.other ≡ a
  other_is = let there = repeats.like.other_here in cc

  pub last_is_placed : HasPlaced a last choices choices
  last_is_placed = record {
    more = [];
    grown = sym (append-nil choices);
    few = omega arith;
    within = All-contains (IsWithin choices) spans last so.within (slice_get-contains spans repeats.last last last_here);
    are = choices_before ∙ repeats.like.same.choices ∙ ap choices_of_action other_is;
  }

-- ---- an action whose choices are put behind the others

-- ---- the choices of one action

choices_of_found : (found : Option GroundAction) (cs : List Choice) → option_map choices_of_action found ≡ Some cs → cs ≡ choices_at found
choices_of_found None cs is = cc
choices_of_found (Some a) cs is = cc

pub choices_here : (g : Ground) (all : List (List Choice)) → all ≡ map choices_of_action g.actions → (code : ℕ) → code < length g.actions
    → slice_get all code ≡ Some (choices_of g code)
choices_here g all same code below =
    let long = ap (λ (xs : List (List Choice)). length xs) same ∙ length-map g.actions choices_of_action in
    let own : slice_get all code ≡ Some (get_or all code []) = slice_get-get_or all code [] (omega arith) in
    let found : slice_get all code ≡ option_map choices_of_action (slice_get g.actions code)
    = ap (λ (xs : List (List Choice)). slice_get xs code) same ∙ slice_get-map choices_of_action g.actions code in
    own ∙ ap Some (choices_of_found (slice_get g.actions code) (get_or all code []) (sym found ∙ own))
