-- Passes that go on: by one step, and by several.
use Rattle.std.proofs.Common.{◌≡◌, ℕ, ◌≤◌, cond, nat_eq, List, [], ◌∷◌, ◌++◌, refl, sym, ap, ◌∙◌, subst, inl, inr, arith}
use Rattle.std.proofs.lemmas.Bool.{cases_Bool, eq-eqb}
use Rattle.std.proofs.lemmas.List.{append_assoc}
use Rattle.std.proofs.lemmas.List.Elements.{Contains-append_left, Contains-append_right}
use Rattle.word_table.specs.declared.view.notes.Look.{Look}
use Rattle.word_table.specs.declared.view.notes.Look.TheVariants.{End, Empty}
use Rattle.word_table.specs.declared.view.notes.StateWord.{StateWord}
use Rattle.word_table.specs.declared.view.notes.Written.{Written}
use Rattle.word_table.specs.declared.view.View.{View}
use Rattle.word_table.specs.view.Steps.{with_held, with_empty, with_count, with_spare, with_published, with_upper}
use Rattle.word_table.specs.view.Laws.{HasMore}
use Rattle.word_table.proofs.lemmas.view.Lists.{is_first}
use Rattle.word_table.proofs.lemmas.view.Noting.{noted_is_more, has_word_right}
use Rattle.word_table.specs.Seen.{Board, Knowledge, IsOf, knowledge}
use Rattle.state_interner.specs.Interned.{AddsLooks, HasLooked, GoesOn}
use Rattle.state_interner.specs.Turns.{with_words, with_draft, NotesWords}

-- ---- looks

looks_join : (first second : List Look) (u v w : View) → v.looks ≡ first ++ u.looks → w.looks ≡ second ++ v.looks
    → w.looks ≡ (second ++ first) ++ u.looks
looks_join first second u v w is then = then ∙ (ap (λ l. second ++ l) is ∙ sym (append_assoc second first u.looks))

pub adds_then : (u v w : View) → AddsLooks u v → AddsLooks v w → AddsLooks u w
adds_then u v w (first, is) (second, then) = (second ++ first, looks_join first second u v w is then)

pub looked_since : (u v w : View) (look : Look) → AddsLooks u v → HasLooked v w look → HasLooked u w look
looked_since u v w look (first, is) (second, then, there) =
    (second ++ first, looks_join first second u v w is then, Contains-append_left second first look there)

pub looked_still : (u v w : View) (look : Look) → HasLooked u v look → AddsLooks v w → HasLooked u w look
looked_still u v w look (first, is, there) (second, then) =
    (second ++ first, looks_join first second u v w is then, Contains-append_right second first look there)

count_adds : (v : View) (n : ℕ) → AddsLooks v (with_count v n)
count_adds v n = elim (cases_Bool (nat_eq n v.layout.ids)) [
  | inl on ↦ (End ∷ [], ap (λ b. cond b (End ∷ v.looks) v.looks) on)
  | inr off ↦ ([], ap (λ b. cond b (End ∷ v.looks) v.looks) off)
]

pub count_looks : (v : View) (n : ℕ) → n ≡ v.layout.ids → HasLooked v (with_count v n) End
count_looks v n is = (End ∷ [], ap (λ b. cond b (End ∷ v.looks) v.looks) (eq-eqb n v.layout.ids is), is_first End [])

-- ---- more is noted

same : (v : View) → HasMore v v
same v = record { problem = refl; layout = refl; known = λ id h. h; held = λ n h. h; words = λ id place x h. h; lower = λ n h. h; upper = λ n h. h }

more_then : (u v w : View) → HasMore u v → HasMore v w → HasMore u w
more_then u v w a b = record {
  problem = b.problem ∙ a.problem;
  layout = b.layout ∙ a.layout;
  known = λ id h. b.known id (a.known id h);
  held = λ n h. b.held n (a.held n h);
  words = λ id place x h. b.words id place x (a.words id place x h);
  lower = λ n h. b.lower n (a.lower n h);
  upper = λ n h. b.upper n (a.upper n h);
}

-- ---- passes

pub goes_nowhere : (b : Board) (k : Knowledge) → IsOf b k → GoesOn b k k
goes_nowhere b k here = record { here = here; noted = same k.view; rights = refl; count = omega arith; loads = refl; looks = ([], refl) }

pub goes_then : (b : Board) (u v w : Knowledge) → GoesOn b u v → GoesOn b v w → GoesOn b u w
goes_then b u v w first second = record {
  here = second.here;
  noted = more_then u.view v.view w.view first.noted second.noted;
  rights = second.rights ∙ first.rights;
  count = (let low = first.count in let high = second.count in omega arith);
  loads = second.loads ∙ first.loads;
  looks = adds_then u.view v.view w.view first.looks second.looks;
}

module _ (b : Board) (old new : Knowledge) (here : IsOf b old) where
  goes_to : (v : View) → new ≡ knowledge old.table v → HasMore old.view v → v.live ≡ old.view.live → v.rights ≡ old.view.rights
      → old.view.count ≤ v.count → v.loads ≡ old.view.loads → AddsLooks old.view v → GoesOn b old new
  goes_to v is more live rights count loads looks = subst (GoesOn b old) (sym is) record {
    here = record {
      table = here.table;
      view = record { live = live ∙ here.view.live; problem = more.problem ∙ here.view.problem; layout = more.layout ∙ here.view.layout };
    };
    noted = more;
    rights = rights;
    count = count;
    loads = loads;
    looks = looks;
  }

  pub held_goes : (bucket id : ℕ) → new ≡ knowledge old.table (with_held old.view bucket id) → GoesOn b old new
  held_goes bucket id is =
      goes_to (with_held old.view bucket id) is ((noted_is_more old.view).held bucket id) refl refl (omega arith) refl ([], refl)

  pub empty_goes : (bucket : ℕ) → new ≡ knowledge old.table (with_empty old.view bucket) → GoesOn b old new
  empty_goes bucket is =
      goes_to (with_empty old.view bucket) is ((noted_is_more old.view).empty bucket) refl refl (omega arith) refl (Empty bucket ∷ [], refl)

  pub count_goes : (n : ℕ) → old.view.count ≤ n → new ≡ knowledge old.table (with_count old.view n) → GoesOn b old new
  count_goes n greater is =
      goes_to (with_count old.view n) is ((noted_is_more old.view).count n) refl refl greater refl (count_adds old.view n)

  pub spare_goes : (id : ℕ) → old.view.count ≤ id → new ≡ knowledge old.table (with_spare old.view id) → GoesOn b old new
  spare_goes id greater is =
      goes_to (with_spare old.view id) is ((noted_is_more old.view).spare id) refl refl (omega arith) refl ([], refl)

  pub published_goes : (bucket : ℕ) → new ≡ knowledge old.table (with_published old.view bucket) → GoesOn b old new
  published_goes bucket is =
      goes_to (with_published old.view bucket) is ((noted_is_more old.view).published bucket) refl refl (omega arith) refl ([], refl)

  pub upper_goes : (id x : ℕ) → new ≡ knowledge old.table (with_upper old.view id x) → GoesOn b old new
  upper_goes id x is =
      goes_to (with_upper old.view id x) is ((noted_is_more old.view).upper id x) refl refl (omega arith) refl ([], refl)

  pub draft_goes : (ds : List Written) → new ≡ knowledge old.table (with_draft ds old.view) → GoesOn b old new
  draft_goes ds is =
      let v : View = old.view in
      goes_to (with_draft ds v) is
      record { problem = refl; layout = refl; known = λ id h. h; held = λ n h. h; words = λ id place x h. h; lower = λ n h. h; upper = λ n h. h }
      refl refl (omega arith) refl ([], refl)

  pub words_goes : (ns : List StateWord) → new ≡ knowledge old.table (with_words ns old.view) → GoesOn b old new
  words_goes ns is =
      let v : View = old.view in
      goes_to (with_words ns v) is
      record { problem = refl; layout = refl; known = λ id h. h; held = λ n h. h; words = has_word_right ns v.words; lower = λ n h. h; upper = λ n h. h }
      refl refl (omega arith) refl ([], refl)

-- a bucket that holds an id, words of whose state are then noted
pub held_words_go : (b : Board) (old mid new : Knowledge) → IsOf b old → (bucket id : ℕ) → mid ≡ knowledge old.table (with_held old.view bucket id)
    → NotesWords mid new → GoesOn b old new
held_words_go b old mid new here bucket id is notes =
    let held = held_goes b old mid here bucket id is in
    goes_then b old mid new held (words_goes b mid new held.here notes.0 notes.1)
