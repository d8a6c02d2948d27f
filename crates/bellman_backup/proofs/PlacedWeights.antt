-- The shares of actions side by side are those of the actions.
use Rattle.std.proofs.Common.{◌≡◌, ℕ, ◌+◌, ◌-◌, ◌*◌, ◌<◌, ◌≤◌, false, Some, nat_eq, ◌&&◌, List, [], ◌∷◌, ◌++◌, length, map, take, drop, get_or, refl, sym, ap, ◌∙◌, subst, arith, rules}
use Rattle.std.specs.Prelude.{All}
use Rattle.std.specs.Bool.{Decides, beq}
use Rattle.std.specs.Cmp.{booleans_Decides}
use Rattle.std.specs.List.{slice_get}
use Rattle.std.specs.Option.{option_map}
use Rattle.std.proofs.Math.Seq.{take-append_seam, drop-append_seam}
use Rattle.std.proofs.lemmas.Bool.{and_parts}
use Rattle.std.proofs.lemmas.Bool.Decides.{Decides-eqb}
use Rattle.std.proofs.lemmas.List.{append-nil, drop-append-le, take-append-le, length-drop, length-append, length-map, length-take, length-take-le, get_or-take, map-append, take_more}
use Rattle.std.proofs.lemmas.List.Elements.{All-nil, All-head, All-tail, All-push, All-weaker, All-contains, All-get_or}
use Rattle.std.proofs.lemmas.Option.{slice_get-map, slice_get_within, slice_get-get_or, get_or_from_slice_get}
use Rattle.ground_model.specs.declared.action.Choice.{Choice}
use Rattle.ground_model.specs.declared.action.GroundAction.{GroundAction}
use Rattle.ground_model.specs.Ground.{Ground}
use Rattle.ground_model.specs.Invariant.{IsAction, IsGroundProblem}
use Rattle.ground_model.proofs.Steps.{slice_get-contains}
use Rattle.applicable_actions.specs.distinct.Enough.{RepeatsLast}
use Rattle.bellman_backup.specs.declared.share.Share.{Share}
use Rattle.bellman_backup.specs.declared.span.Span.{Span}
use Rattle.bellman_backup.specs.Odds.{Odds, share_of, odds_of, odds_in, IsWithin, HavePlaced, HasPlaced}

-- ---- more shares behind the others

module _ (shares more : List Share) where
  within_more : (s : Span) → IsWithin shares s → IsWithin (shares ++ more) s
  within_more s within = let n = length-append shares more in omega arith

  odds_stay : (s : Span) → IsWithin shares s → odds_in (shares ++ more) s ≡ odds_in shares s
  odds_stay s within =
      let long = length-drop s.first shares in
      let own : take s.count (drop s.first (shares ++ more)) ≡ take s.count (drop s.first shares)
      = ap (λ xs. take s.count xs) (drop-append-le s.first shares more (omega arith)) ∙ take-append-le s.count (drop s.first shares) more (omega arith) in
      ap (λ xs. record { shares = xs; den = s.den }) own

  all_odds_stay : (spans : List Span) → All (IsWithin shares) spans → map (odds_in (shares ++ more)) spans ≡ map (odds_in shares) spans
  all_odds_stay [] all = refl
  all_odds_stay (s ∷ spans) all =
      ap (λ o. o ∷ map (odds_in (shares ++ more)) spans) (odds_stay s (All-head (IsWithin shares) s spans all))
      ∙ ap (λ os. odds_in shares s ∷ os) (all_odds_stay spans (All-tail (IsWithin shares) s spans all))

-- ---- the actions so far

pub record ArePlaced (actions : List GroundAction) (spans : List Span) (shares : List Share) (i : ℕ) : Type 0 where
  pub placed : HavePlaced (take i actions) spans shares
  pub few : length shares ≤ i * 256

pub none_placed : (actions : List GroundAction) (spans : List Span) (shares : List Share) → spans ≡ [] → shares ≡ [] → ArePlaced actions spans shares 0
none_placed actions spans shares blank none = record {
  placed = record {
    within = subst (λ xs. All (IsWithin shares) xs) (sym blank) (All-nil (IsWithin shares));
    odds = ap (λ xs. map (odds_in shares) xs) blank;
  };
  few = (let n = ap (λ (xs : List Share). length xs) none in omega arith);
}

pub few_choices : (g : Ground) → IsGroundProblem g → (actions : List GroundAction) → actions ≡ g.actions → (i : ℕ) → i < length actions → (a : GroundAction)
    → a ≡ get_or actions i a → (length a.choices ≤ 256) × (length actions ≤ 65534)
few_choices g problem actions same i below a read =
    let n = ap (λ (xs : List GroundAction). length xs) same in
    let is : IsAction (length g.atoms) (get_or actions i a) = All-get_or (IsAction (length g.atoms)) actions i a below
    (subst (λ xs. All (IsAction (length g.atoms)) xs) (sym same) problem.actions) in
    let own : IsAction (length g.atoms) a = subst (IsAction (length g.atoms)) (sym read) is in
    let few = own.count in let all = problem.actions_count in (omega arith, omega arith)

pub more_placed : (actions : List GroundAction) (spans spans' : List Span) (shares shares' : List Share) (i : ℕ) (a : GroundAction) (s : Span)
    → ArePlaced actions spans shares i → i < length actions → a ≡ get_or actions i a → length a.choices ≤ 256 → HasPlaced a s shares shares'
    → spans' ≡ spans ++ s ∷ [] → ArePlaced actions spans' shares' (i + 1)
more_placed actions spans spans' shares shares' i a s so below read small put pushed =
    let more = put.more in
    let later : All (IsWithin shares') spans = subst (λ ws. All (IsWithin ws) spans) (sym put.grown)
    (All-weaker (IsWithin shares) (IsWithin (shares ++ more)) (within_more shares more) spans so.placed.within) in
    let stay : map (odds_in shares') spans ≡ map (odds_in shares) spans
    = ap (λ ws. map (odds_in ws) spans) put.grown ∙ all_odds_stay shares more spans so.placed.within in
    let next : take (i + 1) actions ≡ take i actions ++ a ∷ [] = take_more actions i a below ∙ ap (λ x. take i actions ++ x ∷ []) (sym read) in
    let long = ap (λ (xs : List Share). length xs) put.grown ∙ length-append shares more in
    let few = so.few in let own = put.few in record {
      placed = record {
        within = subst (λ xs. All (IsWithin shares') xs) (sym pushed) (All-push (IsWithin shares') spans s later put.within);
        odds = ap (λ xs. map (odds_in shares') xs) pushed ∙ map-append (odds_in shares') spans (s ∷ [])
            ∙ ap (λ os. os ++ odds_in shares' s ∷ []) (stay ∙ so.placed.odds) ∙ ap (λ o. map odds_of (take i actions) ++ o ∷ []) put.odds
            ∙ sym (map-append odds_of (take i actions) (a ∷ [])) ∙ ap (λ xs. map odds_of xs) (sym next);
      };
      few = omega arith;
    }

-- ---- an action that does the same as the one before

slice_get_taken : {X : Type 0} (xs : List X) (n i : ℕ) (x : X) → slice_get xs i ≡ Some x → i < n → slice_get (take n xs) i ≡ Some x
slice_get_taken xs n i x here below =
    let inside = slice_get_within xs i x here in let long = length-take n xs in
    slice_get-get_or (take n xs) i x (omega arith) ∙ ap Some (get_or-take n xs i x below ∙ get_or_from_slice_get xs i x x here)

module _ (actions : List GroundAction) (code : ℕ) (a : GroundAction) (spans : List Span) (last : Span) (shares : List Share)
    (so : HavePlaced (take code actions) spans shares) (repeats : RepeatsLast actions code) (here : slice_get actions code ≡ Some a)
    (is_last : slice_get spans (length spans - 1) ≡ Some last) where
  spans_long : length spans ≡ code
  spans_long =
      let inside = slice_get_within actions code a here in
      sym (length-map spans (odds_in shares)) ∙ ap length so.odds ∙ length-map (take code actions) odds_of ∙ length-take-le code actions (omega arith)

  last_here : slice_get spans repeats.last ≡ Some last
  last_here =
      let long = spans_long in let before = repeats.before in
      subst (λ n. slice_get spans n ≡ Some last) (let same : length spans - 1 ≡ repeats.last = omega arith in same) is_last

  odds_before : odds_in shares last ≡ odds_of repeats.like.one
  odds_before =
      let before = repeats.before in let same = so.odds in
      let own : slice_get (map (odds_in shares) spans) repeats.last ≡ Some (odds_in shares last)
      = slice_get-map (odds_in shares) spans repeats.last ∙ ap (λ o. option_map (odds_in shares) o) last_here in
      let theirs : slice_get (map odds_of (take code actions)) repeats.last ≡ Some (odds_of repeats.like.one)
      = slice_get-map odds_of (take code actions) repeats.last
      ∙ ap (λ o. option_map odds_of o) (slice_get_taken actions code repeats.last repeats.like.one repeats.like.one_here (omega arith)) in cc

  other_is : repeats.like.other ≡ a
  other_is = let there = repeats.like.other_here in cc

  pub last_is_placed : HasPlaced a last shares shares
  last_is_placed = record {
    more = [];
    grown = sym (append-nil shares);
    few = omega arith;
    within = All-contains (IsWithin shares) spans last so.within (slice_get-contains spans repeats.last last last_here);
    odds = odds_before ∙ (λ j. record { shares = map share_of (repeats.like.same.choices j); den = repeats.like.same.den j }) ∙ ap odds_of other_is;
  }

-- ---- an action whose shares are those of the action before

pub same_share : (x y : Share) → Decides (nat_eq x.weight y.weight && beq x.moves y.moves) (x ≡ y)
same_share x y = (
  λ on. let parts = and_parts (nat_eq x.weight y.weight) (beq x.moves y.moves) on in
      λ i. record { weight = (Decides-eqb x.weight y.weight).0 parts.0 i; moves = (booleans_Decides x.moves y.moves).0 parts.1 i },
  λ is. search rules,
)

pub repeated_is_placed : (a : GroundAction) (last : Span) (old new cut own : List Share) → IsWithin old last → new ≡ old ++ map share_of a.choices
    → own ≡ drop (length old) new → take last.count (drop last.first new) ≡ own → cut ≡ take (length old) new
    → HasPlaced a (record { first = last.first; count = last.count; den = a.den }) old cut
repeated_is_placed a last old new cut own within grown own_is same cut_is =
    let span : Span = record { first = last.first; count = last.count; den = a.den } in
    let added = map share_of a.choices in
    let back : cut ≡ old = cut_is ∙ ap (λ xs. take (length old) xs) grown ∙ take-append_seam old added in
    let behind : drop (length old) new ≡ added = ap (λ xs. drop (length old) xs) grown ∙ drop-append_seam old added in
    let odds : odds_in old span ≡ odds_of a = sym (odds_stay old added span within) ∙ ap (λ xs. odds_in xs span) (sym grown)
    ∙ ap (λ xs. record { shares = xs; den = a.den }) (same ∙ own_is ∙ behind) in record {
      more = [];
      grown = back ∙ sym (append-nil old);
      few = omega arith;
      within = subst (λ xs. IsWithin xs span) (sym back) within;
      odds = ap (λ xs. odds_in xs span) back ∙ odds;
    }

-- ---- the weights of one action

pub odds_at : (actions : List GroundAction) (all : List Odds) → all ≡ map odds_of actions → (code : ℕ) (a : GroundAction) → slice_get actions code ≡ Some a
    → slice_get all code ≡ Some (odds_of a)
odds_at actions all same code a here =
    ap (λ (os : List Odds). slice_get os code) same ∙ slice_get-map odds_of actions code ∙ ap (λ o. option_map odds_of o) here

pub odds_within : (actions : List GroundAction) (all : List Odds) → all ≡ map odds_of actions → (code : ℕ) → code < length actions → code < length all
odds_within actions all same code below =
    let n = ap (λ (os : List Odds). length os) same ∙ length-map actions odds_of in omega arith

abbrev pub share_at : List Share → ℕ → Share
share_at shares i = get_or shares i (record { weight = 0; moves = false })

-- the choice that has the share in this place
pub choice_at : (a : GroundAction) (shares : List Share) → shares ≡ map share_of a.choices → (i : ℕ) → i < length shares
    → (c : Choice) × (slice_get a.choices i ≡ Some c) × (share_at shares i ≡ share_of c)
choice_at a shares same i below =
    let blank : Choice = record { weight = 0; cost = 0; adds = []; deletes = []; guarded = [] } in
    let n = ap (λ (xs : List Share). length xs) same ∙ length-map a.choices share_of in
    let c : Choice = get_or a.choices i blank in
    let here : slice_get a.choices i ≡ Some c = slice_get-get_or a.choices i blank (omega arith) in
    let there : slice_get shares i ≡ Some (share_of c)
    = ap (λ (xs : List Share). slice_get xs i) same ∙ slice_get-map share_of a.choices i ∙ ap (λ o. option_map share_of o) here in
    (c, here, get_or_from_slice_get shares i (share_of c) (record { weight = 0; moves = false }) there)

pub shares_long : (a : GroundAction) (shares : List Share) → shares ≡ map share_of a.choices → length shares ≡ length a.choices
shares_long a shares same = ap (λ (xs : List Share). length xs) same ∙ length-map a.choices share_of
