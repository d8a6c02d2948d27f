-- Splits and joins of seats.
use Rattle.std.proofs.Common.{◌≡◌, ◌≢◌, ◌⊎◌, ℕ, zero, suc, ◌+◌, ◌-◌, ◌<◌, ◌≤◌, min, true, false, List, [], ◌∷◌, ◌++◌, length, None, Some, refl, sym, ap, ◌∙◌, subst, inl, inr, ⊎_elim, arith}
use Rattle.std.specs.Prelude.{All, get_or, slice_set}
use Rattle.std.proofs.Math.ListN.{get_or-append}
use Rattle.std.proofs.Math.Seq.{get_or-append_seam}
use Rattle.std.proofs.lemmas.List.{length-set, length-append, get_or-set_same, get_or-set_other}
use Rattle.std.proofs.lemmas.List.Elements.{All-nil, All-append, All-weaker}
use mathlib.Core.Option.{some, some-injective, some-ne-none}
use lib.ListN.{get_elem?}
use Rattle.atomic_table.proofs.Lists.{at_set, set_else}
use Rattle.ground_model.specs.Ground.{Ground}
use Rattle.ground_model.specs.Packed.{State}
use Rattle.bound_core.specs.declared.event.Event.TheVariants.{Split, Join}
use Rattle.bound_core.specs.Numbers.{first_word}
use Rattle.bound_core.specs.Core.{Sight, ended, sight_at}
use Rattle.bound_core.specs.Events.{without_spare, joined}
use Rattle.word_table.specs.declared.layout.Layout.{Layout}
use Rattle.word_table.specs.declared.view.View.{View}
use Rattle.word_table.specs.view.Steps.{united, richer, spent}
use Rattle.word_table.proofs.lemmas.view.Lists.{either_first, either_second}
use Rattle.word_table.specs.rule.Words.{Table}
use Rattle.word_table.specs.rule.Rule.{IsHeld, IsStateWord, IsBelow, IsAbove, IsShownBy, one_if_some}
use Rattle.word_table.specs.rule.Laws as laws
use Rattle.word_table.specs.rule.Laws.{IsViewOf, IsStep, Sits, with_split, with_join}
use Rattle.word_table.proofs.lemmas.rule.Lists.{inside, total_set, holders_set, total_snoc, holders_snoc}
use Rattle.word_table.proofs.lemmas.rule.Facts.{own, lives, views_after}
use Rattle.word_table.proofs.lemmas.rule.Looks.{words_with}

place_of : {A : Type 0} (xs : List A) (a b : A) (j : ℕ) → get_elem? (xs ++ a ∷ []) j ≡ some b
    → ((j < length xs) × (get_elem? xs j ≡ some b)) ⊎ ((j ≡ length xs) × (a ≡ b))
place_of [] a b zero there = inr (refl, some-injective a b there)
place_of [] a b (suc j) there = absurd (some-ne-none b (sym there))
place_of (x ∷ xs) a b zero there = inl (omega arith, there)
place_of (x ∷ xs) a b (suc j) there = ⊎_elim
    (λ t. let below = t.0 in inl (omega arith, t.1))
    (λ t. let last = t.0 in inr (omega arith, t.1)) (place_of xs a b j there)

none_is_not_some : {X : Type 0} (x : X) → None ≡ Some x → ⊥
none_is_not_some x same = cc

-- ---- splits

module _ (g : Ground) (l : Layout) (ws : List ℕ) (w : Sight) (v : View) (h : IsShownBy g l ws w v) where
  -- the sight of the new worker has seen what a view without spare notes
  split_off : (rights : ℕ) → IsShownBy g l ws (without_spare w) (record v { rights = rights; spare = None; draft = [] })
  split_off rights = record {
    live = h.live;
    first = h.first;
    count = h.count;
    spare = refl;
    right = λ id its. absurd (none_is_not_some id its);
    draft = λ place x e. absurd (none_is_not_some x e);
    known = h.known;
    held = h.held;
    words = h.words;
    lower = h.lower;
    upper = h.upper;
  }

  with_rights : (rights : ℕ) → ((id : ℕ) → v.spare ≡ Some id → 0 < rights) → IsShownBy g l ws w (record v { rights = rights })
  with_rights rights right = record {
    live = h.live;
    first = h.first;
    count = h.count;
    spare = h.spare;
    right = right;
    draft = h.draft;
    known = h.known;
    held = h.held;
    words = h.words;
    lower = h.lower;
    upper = h.upper;
  }

module _ (g : Ground) (l : Layout) (most : ℕ) (s : Table) (k : ℕ) (v : View) (sits : Sits g l most s k v) where
  splits : (left right : ℕ) → left + right ≡ v.rights → ((id : ℕ) → v.spare ≡ Some id → 0 < left)
      → IsStep g l most s (with_split s k (record v { rights = left }) (record v { rights = right; spare = None; draft = [] })) (Split k)
  splits left right parts keeps =
      let one : View = record v { rights = left } in
      let new : View = record v { rights = right; spare = None; draft = [] } in
      let vs : List View = slice_set s.views k one in record {
        words = sits.holds.words;
        rights = record {
          total = total_snoc vs new ∙ (let sum = total_set s.views k v one sits.here in let all = sits.holds.rights.total in omega arith);
          balance = (
              let sum = holders_set s.views k v one sits.here in
              let last = holders_snoc vs new in
              let all = sits.holds.rights.balance in
              omega arith);
        };
        event = λ c sound shows.
            let w : Sight = sight_at g c k in
            let mine = own g l most s k v sits c sound shows in
            let copy : Sight = without_spare w in
            let long : length vs ≡ length s.views = length-set s.views k one in
            let count = shows.count in (
              lives g l most s k v sits c sound shows,
              record {
                words = words_with g l s.words c (c.workers ++ copy ∷ []) shows.words;
                count = length-append c.workers (copy ∷ []) ∙ (let more : length c.workers + 1 ≡ length vs + 1 = omega arith in more) ∙ sym (length-append vs (new ∷ []));
                views = λ j u there. ⊎_elim
                    (λ t.
                    let below = t.0 in
                    let same : get_or (c.workers ++ copy ∷ []) j (ended g) ≡ get_or c.workers j (ended g)
                    = get_or-append c.workers (copy ∷ []) (ended g) j (omega arith) in
                    subst (λ y. IsShownBy g l s.words y u) (sym same) (⊎_elim
                    (λ here. subst (λ y. IsShownBy g l s.words y u) (ap (λ i. get_or c.workers i (ended g)) (sym here.0))
                    (subst (IsShownBy g l s.words w) here.1 (with_rights g l s.words w v mine left keeps)))
                    (λ else. shows.views j u else.1) (at_set s.views k j one u t.1)))
                    (λ t.
                    let last : j ≡ length c.workers = (let at = t.0 in omega arith) in
                    let same : get_or (c.workers ++ copy ∷ []) j (ended g) ≡ copy
                    = ap (λ i. get_or (c.workers ++ copy ∷ []) i (ended g)) last ∙ get_or-append_seam c.workers copy [] (ended g) in
                    subst (λ y. IsShownBy g l s.words y u) (sym same) (subst (IsShownBy g l s.words copy) t.1 (split_off g l s.words w v mine right)))
                    (place_of vs new u j there);
              },
            );
      }

module _ (g : Ground) (l : Layout) (most : ℕ) where
  pub split_is_a_step : laws.SplitIsAStep g l most
  split_is_a_step s k v sits = splits g l most s k v sits v.rights 0 (omega arith)
      (let core = sits.holds.core in (own g l most s k v sits core.0 core.1 core.2).right)

  pub one_right_is_a_step : laws.OneRightIsAStep g l most
  one_right_is_a_step s k v sits some_right more = splits g l most s k v sits (v.rights - 1) 1 (omega arith)
      (λ id its. let two = more id its in omega arith)

-- ---- joins

module _ (g : Ground) (l : Layout) (ws : List ℕ) (w w' : Sight) (v v' : View) (h : IsShownBy g l ws w v) (h' : IsShownBy g l ws w' v') where
  low_left : All (IsBelow g l ws w.lower) v.lower → All (IsBelow g l ws (joined w w').lower) v.lower
  low_left all = All-weaker (IsBelow g l ws w.lower) (IsBelow g l ws (joined w w').lower)
      (λ n b. record { published = b.published; within = b.within; seen = (let here = b.seen in omega arith) }) v.lower all

  low_right : All (IsBelow g l ws w'.lower) v'.lower → All (IsBelow g l ws (joined w w').lower) v'.lower
  low_right all = All-weaker (IsBelow g l ws w'.lower) (IsBelow g l ws (joined w w').lower)
      (λ n b. record { published = b.published; within = b.within; seen = (let here = b.seen in omega arith) }) v'.lower all

  high_left : All (IsAbove g l ws w.upper) v.upper → All (IsAbove g l ws (joined w w').upper) v.upper
  high_left all = All-weaker (IsAbove g l ws w.upper) (IsAbove g l ws (joined w w').upper)
      (λ n b. record { published = b.published; within = b.within; seen = (let here = b.seen in omega arith) }) v.upper all

  high_right : All (IsAbove g l ws w'.upper) v'.upper → All (IsAbove g l ws (joined w w').upper) v'.upper
  high_right all = All-weaker (IsAbove g l ws w'.upper) (IsAbove g l ws (joined w w').upper)
      (λ n b. record { published = b.published; within = b.within; seen = (let here = b.seen in omega arith) }) v'.upper all

  known_left : All (λ id. (joined w w').knows id ≡ true) v.known
  known_left = All-weaker (λ id. w.knows id ≡ true) (λ id. (joined w w').knows id ≡ true)
      (λ id on. either_first (w.knows id) (w'.knows id) on) v.known h.known

  known_right : All (λ id. (joined w w').knows id ≡ true) v'.known
  known_right = All-weaker (λ id. w'.knows id ≡ true) (λ id. (joined w w').knows id ≡ true)
      (λ id on. either_second (w.knows id) (w'.knows id) on) v'.known h'.known

  joined_first : (s : State) → min (w.upper s) (w'.upper s) ≤ first_word g s
  joined_first s = let here = h.first s in omega arith

  more_rights : (id : ℕ) → v.spare ≡ Some id → 0 < v.rights + v'.rights
  more_rights id its = let some_right = h.right id its in omega arith

  united_shown : IsShownBy g l ws (joined w w') (united v v')
  united_shown = record {
    live = h.live;
    first = joined_first;
    count = (let here = h.count in let there = h'.count in omega arith);
    spare = h.spare;
    right = more_rights;
    draft = h.draft;
    known = All-append (λ id. (joined w w').knows id ≡ true) v.known v'.known known_left known_right;
    held = All-append (IsHeld g l ws) v.held v'.held h.held h'.held;
    words = All-append (IsStateWord g l ws) v.words v'.words h.words h'.words;
    lower = All-append (IsBelow g l ws (joined w w').lower) v.lower v'.lower (low_left h.lower) (low_right h'.lower);
    upper = All-append (IsAbove g l ws (joined w w').upper) v.upper v'.upper (high_left h.upper) (high_right h'.upper);
  }

  richer_shown : IsShownBy g l ws (joined w w') (richer v v')
  richer_shown = record {
    live = h.live;
    first = joined_first;
    count = h.count;
    spare = h.spare;
    right = more_rights;
    draft = h.draft;
    known = known_left;
    held = h.held;
    words = h.words;
    lower = low_left h.lower;
    upper = high_left h.upper;
  }

false_is_not_true : false ≡ true → ⊥
false_is_not_true same = cc

spent_shown : (g : Ground) (l : Layout) (ws : List ℕ) → IsShownBy g l ws (ended g) spent
spent_shown g l ws = record {
  live = λ on. absurd (false_is_not_true on);
  first = λ s. omega arith;
  count = omega arith;
  spare = refl;
  right = λ id its. absurd (none_is_not_some id its);
  draft = λ place x e. absurd (none_is_not_some x e);
  known = All-nil (λ id. (ended g).knows id ≡ true);
  held = All-nil (IsHeld g l ws);
  words = All-nil (IsStateWord g l ws);
  lower = All-nil (IsBelow g l ws (ended g).lower);
  upper = All-nil (IsAbove g l ws (ended g).upper);
}

module _ (g : Ground) (l : Layout) (most : ℕ) (s : Table) (k : ℕ) (v : View) (other : ℕ) (w : View) (both : View)
    (sits : Sits g l most s k v) (view : IsViewOf g l w) (no_spare : w.spare ≡ None) (apart : other ≢ k) (there : get_elem? s.views other ≡ some w)
    (rights : both.rights ≡ v.rights + w.rights) (spare : both.spare ≡ v.spare)
    (shown : (y y' : Sight) → IsShownBy g l s.words y v → IsShownBy g l s.words y' w → IsShownBy g l s.words (joined y y') both) where
  joins : IsStep g l most s (with_join s k both other) (Join k other)
  joins =
      let vs : List View = slice_set s.views k both in
      let there' : get_elem? vs other ≡ some w = set_else s.views k other both apart ∙ there in record {
        words = sits.holds.words;
        rights = record {
          total = (
              let first = total_set s.views k v both sits.here in
              let second = total_set vs other w spent there' in
              let all = sits.holds.rights.total in omega arith);
          balance = (
              let first = holders_set s.views k v both sits.here in
              let second = holders_set vs other w spent there' in
              let same : one_if_some both.spare ≡ one_if_some v.spare = ap one_if_some spare in
              let none : one_if_some w.spare ≡ 0 = ap one_if_some no_spare in
              let all = sits.holds.rights.balance in omega arith);
        };
        event = λ c sound shows.
            let y : Sight = sight_at g c k in let y' : Sight = sight_at g c other in
            let mine = own g l most s k v sits c sound shows in
            let its = shows.views other w there in
            let x : Sight = joined y y' in
            let workers : List Sight = slice_set c.workers k x in
            let long : length workers ≡ length c.workers = length-set c.workers k x in
            let inside_other : other < length workers = (let below = inside s.views other w there in let count = shows.count in omega arith) in
            let middle = views_after g l most s k v sits c sound shows s.words x both (shown y y' mine its) (λ j u else at. shows.views j u at) in (
              (lives g l most s k v sits c sound shows, its.live view.live, apart, its.spare ∙ no_spare),
              record {
                words = words_with g l s.words c (slice_set workers other (ended g)) shows.words;
                count = length-set workers other (ended g) ∙ (long ∙ (shows.count ∙ (sym (length-set s.views k both) ∙ sym (length-set vs other spent))));
                views = λ j u at. ⊎_elim
                    (λ t. subst (λ z. IsShownBy g l s.words z u) (sym (ap (λ i. get_or (slice_set workers other (ended g)) i (ended g)) t.0 ∙ get_or-set_same workers other (ended g) (ended g) inside_other))
                    (subst (IsShownBy g l s.words (ended g)) t.1 (spent_shown g l s.words)))
                    (λ t. subst (λ z. IsShownBy g l s.words z u) (sym (get_or-set_other workers other j (ended g) (ended g) t.0)) (middle j u t.1))
                    (at_set vs other j spent u at);
              },
            );
      }

module _ (g : Ground) (l : Layout) (most : ℕ) where
  pub join_is_a_step : laws.JoinIsAStep g l most
  join_is_a_step s k v other w sits view no_spare apart there = joins g l most s k v other w (united v w) sits view no_spare apart there refl refl
      (λ y y' h h'. united_shown g l s.words y y' v w h h')

  pub rights_join_is_a_step : laws.RightsJoinIsAStep g l most
  rights_join_is_a_step s k v other w sits view no_spare apart there = joins g l most s k v other w (richer v w) sits view no_spare apart there refl refl
      (λ y y' h h'. richer_shown g l s.words y y' v w h h')
