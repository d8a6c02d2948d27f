-- What a look-up of a state tells.
use Rattle.std.proofs.Common.{◌<◌, ◌≡◌, ℕ, ◌≤◌, Bool, true, cond, nat_eq, List, [], ◌∷◌, ◌++◌, inl, inr, refl, sym, ap, ◌∙◌, subst, arith}
use Rattle.std.specs.Prelude.{IsTrue}
use Rattle.std.proofs.lemmas.Bool.{cases_Bool, eq-eqb}
use Rattle.std.proofs.lemmas.List.{append_assoc}
use Rattle.std.proofs.lemmas.List.Elements.{Contains-append_left, Contains-append_right}
use Rattle.ground_model.specs.Packed.{State}
use Rattle.ground_model.specs.Steps.{ground_process}
use Rattle.ground_step.specs.Hash.{hash_of}
use Rattle.bound_core.specs.Numbers.{goal_word, quit_word, first_word}
use Rattle.word_table.specs.declared.layout.Layout.{Layout}
use Rattle.word_table.specs.layout.Places.{turn}
use Rattle.word_table.specs.declared.view.notes.Look.{Look}
use Rattle.word_table.specs.declared.view.notes.Look.TheVariants.{End}
use Rattle.word_table.specs.declared.view.notes.Load.TheVariants.{Lower, Upper}
use Rattle.word_table.specs.declared.view.View.{View}
use Rattle.word_table.specs.view.Views.{number, held, has_state, seen_lower, seen_upper, noted_upper, IsOther, IsClear}
use Rattle.word_table.specs.view.Laws.{HasMore, IsLater}
use Rattle.word_table.specs.view.Steps.{with_count, with_lower_load}
use Rattle.word_table.proofs.lemmas.view.Lists.{is_first}
use Rattle.word_table.proofs.lemmas.view.Noting.{noted_is_more}
use Rattle.word_table.proofs.lemmas.view.Seen.{has_state_more, seen_lower_is_greatest, seen_upper_is_least, raised_is_seen, sunk_is_seen, more_is_later, greatest_over, least_under, least_first}
use Rattle.word_table.specs.rule.Told.{HasOneEach}
use Rattle.word_table.specs.Seen.{Board, Knowledge, knowledge, IsOf}
use Rattle.bound_words.specs.declared.bounds.Interval.{Interval}
use Rattle.bound_words.specs.Intervals.{with_interval, word_in, TellsInterval}
use Rattle.state_interner.specs.Interned.{AddsLooks, HasLooked, GoesOn, IsIdOf, IsMissing}
use Rattle.policy_server.specs.Replies.{NoQuery, NoAtom, Unvisited, Found, Serves, IsFound}

-- ---- what stays

pub same_view : (v : View) → HasMore v v
same_view v = record { problem = refl; layout = refl; known = λ id h. h; held = λ n h. h; words = λ id place x h. h; lower = λ n h. h; upper = λ n h. h }

pub more_then : (u v w : View) → HasMore u v → HasMore v w → HasMore u w
more_then u v w a b = record {
  problem = b.problem ∙ a.problem;
  layout = b.layout ∙ a.layout;
  known = λ id h. b.known id (a.known id h);
  held = λ n h. b.held n (a.held n h);
  words = λ id place x h. b.words id place x (a.words id place x h);
  lower = λ n h. b.lower n (a.lower n h);
  upper = λ n h. b.upper n (a.upper n h);
}

looks_join : (first second : List Look) (u v w : View) → v.looks ≡ first ++ u.looks → w.looks ≡ second ++ v.looks
    → w.looks ≡ (second ++ first) ++ u.looks
looks_join first second u v w is then = then ∙ (ap (λ l. second ++ l) is ∙ sym (append_assoc second first u.looks))

pub adds_then : (u v w : View) → AddsLooks u v → AddsLooks v w → AddsLooks u w
adds_then u v w (first, is) (second, then) = (second ++ first, looks_join first second u v w is then)

pub looked_since : (u v w : View) (look : Look) → AddsLooks u v → HasLooked v w look → HasLooked u w look
looked_since u v w look (first, is) (second, then, there) =
    (second ++ first, looks_join first second u v w is then, Contains-append_left second first look there)

pub looked_still : (u v w : View) (look : Look) → HasLooked u v look → AddsLooks v w → HasLooked u w look
looked_still u v w look (first, is, there) (second, then) =
    (second ++ first, looks_join first second u v w is then, Contains-append_right second first look there)

other_later : (v w : View) (bucket : ℕ) (s : State) → HasMore v w → IsOther v bucket s → IsOther w bucket s
other_later v w bucket s more o = record {
  id = o.id;
  place = o.place;
  word = o.word;
  found = more.held (held bucket o.id) o.found;
  noted = more.words o.id o.place o.word o.noted;
  differs = o.differs;
}

pub clear_later : (v w : View) (s : State) (bucket : ℕ) → HasMore v w → IsClear v s bucket → IsClear w s bucket
clear_later v w s bucket more clear = record {
  turns = clear.turns;
  here = subst (λ (l : Layout). turn l (hash_of s) clear.turns ≡ bucket) (sym more.layout) clear.here;
  others = λ m before. subst (λ (l : Layout). IsOther w (turn l (hash_of s) m) s) (sym more.layout)
      (other_later v w (turn v.layout (hash_of s) m) s more (clear.others m before));
}

pub id_later : (v w : View) (s : State) (id : ℕ) → HasMore v w → IsIdOf v s id → IsIdOf w s id
id_later v w s id more is = record {
  known = more.known id is.known;
  state = has_state_more v w more id s is.state;
  at_goal = λ on.
      let a = is.at_goal (subst (λ p. (ground_process p).goal s ≡ true) more.problem on) in
      let b = (more_is_later v w more).noted_upper id in omega arith;
}

-- ---- look-ups

pub serves_nothing : (b : Board) (k : Knowledge) → IsOf b k → Serves b k k []
serves_nothing b k here = record { here = here; noted = same_view k.view; rights = refl; spare = refl; loads = refl; looks = ([], refl); told = tt; in_turn = tt }

pub no_query_serves : (b : Board) (k : Knowledge) → IsOf b k → Serves b k k (NoQuery ∷ [])
no_query_serves b k here =
    record { here = here; noted = same_view k.view; rights = refl; spare = refl; loads = refl; looks = ([], refl); told = (tt, tt); in_turn = (tt, tt) }

pub no_atom_serves : (b : Board) (k : Knowledge) → IsOf b k → Serves b k k (NoAtom ∷ [])
no_atom_serves b k here =
    record { here = here; noted = same_view k.view; rights = refl; spare = refl; loads = refl; looks = ([], refl); told = (tt, tt); in_turn = (tt, tt) }

pub missing_serves : (b : Board) (k l : Knowledge) (s : State) → GoesOn b k l → l.view.spare ≡ k.view.spare → IsMissing k.view s l.view
    → Serves b k l (Unvisited s ∷ [])
missing_serves b k l s goes spare missing = record {
  here = goes.here;
  noted = goes.noted;
  rights = goes.rights;
  spare = spare;
  loads = goes.loads;
  looks = goes.looks;
  told = (
    record {
      bucket = missing.bucket;
      empty = missing.empty;
      clear = missing.clear;
      none = λ id has. missing.none id (has_state_more k.view l.view goes.noted id s has);
    },
    tt,
  );
  in_turn = (tt, tt);
}

within_first : (v : View) (s : State) (x : ℕ) → ((ground_process v.problem).goal s ≡ true → x ≤ goal_word) → x ≤ quit_word v.problem.penalty
    → x ≤ first_word v.problem s
within_first v s x on off = elim (cases_Bool ((ground_process v.problem).goal s)) [
  | inl is ↦ subst (λ (b : Bool). x ≤ cond b goal_word (quit_word v.problem.penalty)) (sym is) (on is)
  | inr is ↦ subst (λ (b : Bool). x ≤ cond b goal_word (quit_word v.problem.penalty)) (sym is) off
]

count_adds : (v : View) (n : ℕ) → AddsLooks v (with_count v n)
count_adds v n = elim (cases_Bool (nat_eq n v.layout.ids)) [
  | inl on ↦ (End ∷ [], ap (λ b. cond b (End ∷ v.looks) v.looks) on)
  | inr off ↦ ([], ap (λ b. cond b (End ∷ v.looks) v.looks) off)
]

-- the pass u has found the id; then it looks at the count and reads the interval
module _ (b : Board) (k u : Knowledge) (s : State) (id n : ℕ) (i : Interval) (goes : GoesOn b k u) (is_id : IsIdOf u.view s id)
    (small : i.code < 65536) (one : HasOneEach u.view) (told : TellsInterval b.problem (with_count u.view n) id i) where
  abbrev counted : View
  counted = with_count u.view n

  abbrev after : View
  after = with_interval counted id i

  read_more : HasMore u.view after
  read_more = more_then u.view counted after ((noted_is_more u.view).count n)
      (more_then counted (with_lower_load counted id i.lower) after ((noted_is_more counted).lower_load id i.lower) ((noted_is_more (with_lower_load counted id i.lower)).upper_load id (word_in i)))

  since : IsLater k.view u.view
  since = more_is_later k.view u.view goes.noted

  has : IsTrue (has_state after id s)
  has = has_state_more u.view after read_more id s is_id.state

  lower_seen : seen_lower u.view s ≤ i.lower
  lower_seen = seen_lower_is_greatest u.view s i.lower (λ m there had.
      let a = greatest_over (λ j. nat_eq j id) u.view.lower m there (eq-eqb m.id id (one m.id id s had is_id.state)) in
      let c = told.lower_narrower in omega arith)

  word_within : word_in i ≤ noted_upper u.view id
  word_within = told.upper_narrower

  upper_seen : word_in i ≤ seen_upper u.view s
  upper_seen = seen_upper_is_least u.view s (word_in i)
      (within_first u.view s (word_in i) (λ on. let a = is_id.at_goal on in let c = word_within in omega arith)
      (let a = least_first (λ j. nat_eq j id) (quit_word u.view.problem.penalty) u.view.upper in let c = word_within in omega arith))
      (λ m there had.
      let a = least_under (λ j. nat_eq j id) (quit_word u.view.problem.penalty) u.view.upper m there (eq-eqb m.id id (one m.id id s had is_id.state)) in
      let c = word_within in omega arith)

  is_found : IsFound b.problem k.view s id i after
  is_found = record {
    is_id = id_later u.view after s id read_more is_id;
    is_code = small;
    lower_since = (let a = since.lower s in let c = lower_seen in omega arith);
    upper_since = (let a = since.upper s in let c = upper_seen in omega arith);
    lower_until = raised_is_seen after (number id i.lower) s (is_first (number id i.lower) u.view.lower) has;
    upper_until = sunk_is_seen after (number id (word_in i)) s (is_first (number id (word_in i)) u.view.upper) has;
    ordered = told.ordered;
    within_quit = told.within_quit;
    covers = told.covers s is_id.state;
    worth = told.worth s is_id.state;
  }

  found_there : u.view.spare ≡ k.view.spare → Serves b k (knowledge u.table after) (Found s id i ∷ [])
  found_there spare = record {
    here = record { table = goes.here.table; view = record { live = goes.here.view.live; problem = goes.here.view.problem; layout = goes.here.view.layout } };
    noted = more_then k.view u.view after goes.noted read_more;
    rights = goes.rights;
    spare = spare;
    loads = ap (λ l. Upper id (word_in i) ∷ Lower id i.lower ∷ l) goes.loads;
    looks = adds_then k.view u.view after goes.looks (count_adds u.view n);
    told = (is_found, tt);
    in_turn = (tt, tt);
  }

pub found_serves : (b : Board) (k u v w : Knowledge) (s : State) (id n : ℕ) (i : Interval) → GoesOn b k u → u.view.spare ≡ k.view.spare → IsIdOf u.view s id
    → i.code < 65536 → HasOneEach u.view → v ≡ knowledge u.table (with_count u.view n) → w ≡ knowledge v.table (with_interval v.view id i) → TellsInterval b.problem v.view id i
    → Serves b k w (Found s id i ∷ [])
found_serves b k u v w s id n i goes spare is_id small one count read told =
    subst (λ (x : Knowledge). Serves b k x (Found s id i ∷ []))
    (sym (read ∙ ap (λ (x : Knowledge). knowledge x.table (with_interval x.view id i)) count))
    (found_there b k u s id n i goes is_id small one (subst (λ (x : Knowledge). TellsInterval b.problem x.view id i) count told) spare)
