-- The buckets of a run, one by one.
use Rattle.std.proofs.Common.{◌≡◌, ℕ, ◌+◌, ◌*◌, ◌/◌, ◌%◌, ◌<◌, ◌≤◌, cond, nat_eq, [], ◌∷◌, length, Some, None, refl, sym, ap, ◌∙◌, subst, inl, inr, arith}
use Rattle.std.specs.Prelude.{IfNone, IsTrue, Contains, Option, flat_map}
use Rattle.std.proofs.Math.Nat.{mod-add-div, add-mul-mod_self_left}
use Rattle.std.proofs.lemmas.Bool.{cases_Bool, and_parts, eqb-true}
use mathlib.Core.Logic.{dite}
use native.Mathlib.Decide.{ℕ_discrete}
use Rattle.plain_list.proofs.Members.{Contains-nil, Contains-map_cases, Contains-flat_map_cases}
use Rattle.decision_process.specs.Process.{Outcome}
use Rattle.decision_process.specs.Levels.{nexts, successors}
use Rattle.ground_model.specs.declared.action.GroundAction.{GroundAction}
use Rattle.ground_model.specs.Packed.{State, has_bit}
use Rattle.ground_model.specs.Choices.{after}
use Rattle.ground_model.specs.Ground.{Ground}
use Rattle.ground_model.specs.Steps.{ground_process, outcome_of, step_at}
use Rattle.ground_model.proofs.Packed.{length-packed}
use Rattle.ground_step.specs.Hash.{hash_of}
use Rattle.word_table.specs.declared.layout.Layout.{Layout}
use Rattle.word_table.specs.layout.Places.{turn}
use Rattle.word_table.specs.declared.view.notes.Look.TheVariants.{Empty}
use Rattle.word_table.specs.declared.view.View.{View}
use Rattle.word_table.specs.view.Views.{knows, held, has_words, has_state, IsOther, IsClear, IsReached}
use Rattle.word_table.specs.view.Steps.{with_held, with_empty}
use Rattle.word_table.specs.view.Laws.{HasMore}
use Rattle.word_table.proofs.lemmas.view.Lists.{is_first}
use Rattle.word_table.proofs.lemmas.view.Seen.{has_state_more}
use Rattle.word_table.specs.rule.Told.{HasRoom, TellsNone}
use Rattle.word_table.specs.Seen.{Board, Knowledge, knowledge}
use Rattle.state_interner.specs.declared.turn.Turn.{Turn}
use Rattle.state_interner.specs.declared.turn.Turn.TheVariants.{Own, Other, Free}
use Rattle.state_interner.specs.Interned.{GoesOn, IsMissing}
use Rattle.state_interner.specs.Turns.{NotesWords, CompareTells, TurnTells}
use Rattle.state_interner.proofs.Going.{goes_then, looked_since}

-- ---- what stays

pub other_later : (v w : View) (bucket : ℕ) (s : State) → HasMore v w → IsOther v bucket s → IsOther w bucket s
other_later v w bucket s more o = record {
  id = o.id;
  place = o.place;
  word = o.word;
  found = more.held (held bucket o.id) o.found;
  noted = more.words o.id o.place o.word o.noted;
  differs = o.differs;
}

pub clear_later : (v w : View) (s : State) (bucket : ℕ) → HasMore v w → IsClear v s bucket → IsClear w s bucket
clear_later v w s bucket more clear = record {
  turns = clear.turns;
  here = subst (λ (l : Layout). turn l (hash_of s) clear.turns ≡ bucket) (sym more.layout) clear.here;
  others = λ m before. subst (λ (l : Layout). IsOther w (turn l (hash_of s) m) s) (sym more.layout)
      (other_later v w (turn v.layout (hash_of s) m) s more (clear.others m before));
}

pub reached_later : (v w : View) (s : State) → HasMore v w → IsReached v s → IsReached w s
reached_later v w s more r = record {
  id = r.id;
  from = r.from;
  known = more.known r.id r.known;
  has = has_state_more v w more r.id r.from r.has;
  next = subst (λ (g : Ground). Contains (successors (ground_process g) r.from) s) (sym more.problem) r.next;
}

-- ---- successors have the length of their states

next_has_length : (den : ℕ) (a : Option GroundAction) (s : State) (o : Outcome State) → Contains (step_at den a s) o → length o.next ≡ length s
next_has_length den None s o there = absurd (Contains-nil o there)
next_has_length den (Some a) s o there =
    let c = Contains-map_cases (outcome_of (den / a.den) s) a.choices o there in
    subst (λ (x : Outcome State). length x.next ≡ length s) c.2 (length-packed (after (has_bit s) c.0) (length s))

pub reached_is_wide : (v : View) (s : State) → IsReached v s → length s ≡ v.layout.width
reached_is_wide v s r =
    let p = ground_process v.problem in
    let parts = and_parts (nat_eq (length r.from) v.layout.width) (has_words v.words r.id 0 r.from) r.has in
    let wide : length r.from ≡ v.layout.width = eqb-true (length r.from) v.layout.width parts.0 in
    elim (cases_Bool (p.goal r.from)) [
      | inl on ↦ absurd (Contains-nil s (subst (λ b. Contains (cond b [] (flat_map (λ a. nexts p a r.from) (p.choices r.from))) s) on r.next))
      | inr off ↦
          let found = Contains-flat_map_cases (λ a. nexts p a r.from) (p.choices r.from) s
          (subst (λ b. Contains (cond b [] (flat_map (λ a. nexts p a r.from) (p.choices r.from))) s) off r.next) in
          let outcome = Contains-map_cases (λ (o : Outcome State). o.next) (p.step found.0 r.from) s found.2 in
          ap length (sym outcome.2) ∙ (next_has_length p.den _ r.from outcome.0 outcome.1 ∙ wide)
    ]

-- ---- one bucket

pub empty_is_missing : (old new : Knowledge) (s : State) (bucket : ℕ) → new ≡ knowledge old.table (with_empty old.view bucket)
    → TellsNone old.view bucket → IsClear old.view s bucket → IsMissing old.view s new.view
empty_is_missing old new s bucket is tells clear = subst (λ (k : Knowledge). IsMissing old.view s k.view) (sym is) record {
  bucket = bucket;
  empty = (Empty bucket ∷ [], refl, is_first (Empty bucket) []);
  clear = record {
    turns = clear.turns;
    here = clear.here;
    others = λ m before. let o = clear.others m before in
        record { id = o.id; place = o.place; word = o.word; found = o.found; noted = o.noted; differs = o.differs };
  };
  none = λ id has. tells id s has clear;
}

-- the bucket holds an id, whose state was compared with s
pub held_tells : (free : Type 0) (old mid new : Knowledge) (bucket id : ℕ) (s : State) (t : Turn)
    → mid ≡ knowledge old.table (with_held old.view bucket id) → HasRoom mid.view → NotesWords mid new → CompareTells s id t new.view
    → TurnTells free s bucket t new.view
held_tells free old mid new bucket id s (Own i) is room (ns, then) told = record {
  known = subst (λ n. knows new.view n) (sym told.0)
      (subst (λ (k : Knowledge). knows k.view id) (sym then) (subst (λ (k : Knowledge). knows k.view id) (sym is) (is_first id old.view.known)));
  state = subst (λ n. IsTrue (has_state new.view n s)) (sym told.0) told.1;
}
held_tells free old mid new bucket id s Other is room (ns, then) told = (
  record {
    id = id;
    place = told.place;
    word = told.word;
    found = subst (λ (k : Knowledge). Contains k.view.held (held bucket id)) (sym then)
        (subst (λ (k : Knowledge). Contains k.view.held (held bucket id)) (sym is) (is_first (held bucket id) old.view.held));
    noted = told.noted;
    differs = told.differs;
  },
  subst (λ (k : Knowledge). HasRoom k.view) (sym then) room,
)
held_tells free old mid new bucket id s Free is room notes told = absurd told

-- ---- a walk

-- the buckets of the run before this turn hold other states
pub record Walks (b : Board) (old now : Knowledge) (s : State) (turns : ℕ) : Type 0 where
  pub goes : GoesOn b old now
  pub others : (m : ℕ) → m < turns → IsOther now.view (turn now.view.layout (hash_of s) m) s
  pub room : 0 < turns → HasRoom now.view

same_turn : (l : Layout) (hash k : ℕ) → (hash % l.buckets + k) % l.buckets ≡ turn l hash k
same_turn l hash k =
    let n : ℕ = l.buckets in
    let parts = mod-add-div hash n in
    let whole : hash + k ≡ (hash % n + k) + n * (hash / n) = omega arith in
    sym (ap (λ i. i % n) whole ∙ add-mul-mod_self_left (hash % n + k) n (hash / n))

-- bucket k of the run, as it is computed
pub turn_is : (l : Layout) (s : State) (hash n m k : ℕ) → hash ≡ hash_of s → n ≡ l.buckets → m ≡ l.buckets
    → (hash % n + k) % m ≡ turn l (hash_of s) k
turn_is l s hash n m k is buckets same =
    ap (λ h. (h % n + k) % m) is
    ∙ (ap (λ i. (hash_of s % i + k) % m) buckets ∙ (ap (λ i. (hash_of s % l.buckets + k) % i) same ∙ same_turn l (hash_of s) k))

pub walk_is_clear : (b : Board) (old now : Knowledge) (s : State) (turns bucket : ℕ) → Walks b old now s turns
    → bucket ≡ turn b.layout (hash_of s) turns → IsClear now.view s bucket
walk_is_clear b old now s turns bucket walk is = record {
  turns = turns;
  here = ap (λ (l : Layout). turn l (hash_of s) turns) walk.goes.here.view.layout ∙ sym is;
  others = walk.others;
}

pub walk_goes_on : (b : Board) (old now new : Knowledge) (s : State) (turns bucket : ℕ) → Walks b old now s turns
    → bucket ≡ turn b.layout (hash_of s) turns → GoesOn b now new → IsOther new.view bucket s → HasRoom new.view
    → Walks b old new s (turns + 1)
walk_goes_on b old now new s turns bucket walk is goes other room = record {
  goes = goes_then b old now new walk.goes goes;
  others = λ m before. dite (ℕ_discrete m turns)
      (λ at. subst (λ i. IsOther new.view i s) (is ∙ (ap (turn b.layout (hash_of s)) (sym at) ∙ ap (λ (l : Layout). turn l (hash_of s) m) (sym goes.here.view.layout))) other)
      (λ else. subst (λ (l : Layout). IsOther new.view (turn l (hash_of s) m) s) (sym goes.noted.layout)
      (other_later now.view new.view (turn now.view.layout (hash_of s) m) s goes.noted (walk.others m (omega arith))));
  room = λ some. room;
}

pub walk_ends : (b : Board) (old now : Knowledge) (s : State) (turns : ℕ) → Walks b old now s turns → 0 < b.layout.buckets → b.layout.buckets ≤ turns → ⊥
walk_ends b old now s turns walk some all = walk.room (omega arith) (hash_of s)
    (λ k below.
    let same = walk.goes.here.view.layout in
    let o = walk.others k (let few : k < b.layout.buckets = subst (λ (l : Layout). k < l.buckets) same below in omega arith) in
    (o.id, o.found))

pub missing_since : (b : Board) (old now : Knowledge) (s : State) (w : View) → GoesOn b old now → IsMissing now.view s w → IsMissing old.view s w
missing_since b old now s w goes missing = record {
  bucket = missing.bucket;
  empty = looked_since old.view now.view w (Empty missing.bucket) goes.looks missing.empty;
  clear = missing.clear;
  none = missing.none;
}

pub none_since : (b : Board) (old now : Knowledge) (s : State) (found : Option ℕ) (w : View) → GoesOn b old now
    → IfNone found (IsMissing now.view s w) → IfNone found (IsMissing old.view s w)
none_since b old now s None w goes told = missing_since b old now s w goes told
none_since b old now s (Some id) w goes told = told
