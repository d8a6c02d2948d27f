-- What a view has seen of states, and of a view that has noted more.
use Rattle.std.proofs.Common.{◌≡◌, ℕ, ◌+◌, ◌≤◌, min, max, Bool, true, false, cond, nat_eq, List, [], ◌∷◌, length, refl, ap, ◌∙◌, subst, ⊎_elim, arith}
use Rattle.std.specs.Prelude.{Contains, IsTrue}
use Rattle.std.proofs.lemmas.Bool.{and_parts}
use Rattle.ground_model.specs.Packed.{State}
use Rattle.bound_core.specs.Numbers.{first_word, quit_word}
use Rattle.word_table.specs.declared.view.notes.Number.{Number}
use Rattle.word_table.specs.declared.view.notes.StateWord.{StateWord}
use Rattle.word_table.specs.declared.view.View.{View}
use Rattle.word_table.specs.view.Views.{has_word, has_words, has_state, greatest_of, least_of, seen_lower, seen_upper, noted_lower, noted_upper}
use Rattle.word_table.specs.view.Laws as laws
use Rattle.word_table.specs.view.Laws.{HasMore}
use Rattle.word_table.proofs.lemmas.view.Lists.{is_first, is_later, first_or_later, none_is_in, both}

-- ---- folds over notes

max_within : (b : Bool) (rest n most : ℕ) → rest ≤ most → (b ≡ true → n ≤ most) → cond b (max rest n) rest ≤ most
max_within true rest n most below here = let first = here refl in omega arith
max_within false rest n most below here = below

max_over : (b : Bool) (rest n : ℕ) → b ≡ true → n ≤ cond b (max rest n) rest
max_over true rest n on = omega arith
max_over false rest n on = absurd cc

max_keeps : (b : Bool) (rest n : ℕ) → rest ≤ cond b (max rest n) rest
max_keeps true rest n = omega arith
max_keeps false rest n = omega arith

min_within : (b : Bool) (rest n least : ℕ) → least ≤ rest → (b ≡ true → least ≤ n) → least ≤ cond b (min rest n) rest
min_within true rest n least above here = let first = here refl in omega arith
min_within false rest n least above here = above

min_under : (b : Bool) (rest n : ℕ) → b ≡ true → cond b (min rest n) rest ≤ n
min_under true rest n on = omega arith
min_under false rest n on = absurd cc

min_keeps : (b : Bool) (rest n : ℕ) → cond b (min rest n) rest ≤ rest
min_keeps true rest n = omega arith
min_keeps false rest n = omega arith

module _ (of : ℕ → Bool) where
  pub greatest_within : (ns : List Number) (most : ℕ)
      → ((n : Number) → Contains ns n → of n.id ≡ true → n.number ≤ most) → greatest_of of ns ≤ most
  greatest_within [] most each = omega arith
  greatest_within (n ∷ ns) most each = max_within (of n.id) (greatest_of of ns) n.number most
      (greatest_within ns most (λ m there. each m (is_later n m ns there))) (each n (is_first n ns))

  pub greatest_over : (ns : List Number) (n : Number) → Contains ns n → of n.id ≡ true → n.number ≤ greatest_of of ns
  greatest_over [] n there on = absurd (none_is_in n there)
  greatest_over (m ∷ ns) n there on = ⊎_elim
      (λ same. let here = max_over (of m.id) (greatest_of of ns) m.number (ap (λ (x : Number). of x.id) same ∙ on) in
      subst (λ (x : Number). x.number ≤ greatest_of of (m ∷ ns)) same here)
      (λ later. let rest = greatest_over ns n later on in let more = max_keeps (of m.id) (greatest_of of ns) m.number in omega arith)
      (first_or_later m n ns there)

  pub least_within : (first : ℕ) (ns : List Number) (least : ℕ) → least ≤ first
      → ((n : Number) → Contains ns n → of n.id ≡ true → least ≤ n.number) → least ≤ least_of of first ns
  least_within first [] least below each = below
  least_within first (n ∷ ns) least below each = min_within (of n.id) (least_of of first ns) n.number least
      (least_within first ns least below (λ m there. each m (is_later n m ns there))) (each n (is_first n ns))

  pub least_under : (first : ℕ) (ns : List Number) (n : Number) → Contains ns n → of n.id ≡ true → least_of of first ns ≤ n.number
  least_under first [] n there on = absurd (none_is_in n there)
  least_under first (m ∷ ns) n there on = ⊎_elim
      (λ same. let here = min_under (of m.id) (least_of of first ns) m.number (ap (λ (x : Number). of x.id) same ∙ on) in
      subst (λ (x : Number). least_of of first (m ∷ ns) ≤ x.number) same here)
      (λ later. let rest = least_under first ns n later on in let less = min_keeps (of m.id) (least_of of first ns) m.number in omega arith)
      (first_or_later m n ns there)

  pub least_first : (first : ℕ) (ns : List Number) → least_of of first ns ≤ first
  least_first first [] = omega arith
  least_first first (n ∷ ns) = let rest = least_first first ns in let less = min_keeps (of n.id) (least_of of first ns) n.number in omega arith

-- ---- states

pub has_words_more : (ns ms : List StateWord) (id : ℕ) → ((place x : ℕ) → IsTrue (has_word ns id place x) → IsTrue (has_word ms id place x))
    → (place : ℕ) (s : State) → IsTrue (has_words ns id place s) → IsTrue (has_words ms id place s)
has_words_more ns ms id more place [] has = refl
has_words_more ns ms id more place (x ∷ xs) has =
    let parts = and_parts (has_word ns id place x) (has_words ns id (place + 1) xs) has in
    both (has_word ms id place x) (has_words ms id (place + 1) xs) (more place x parts.0) (has_words_more ns ms id more (place + 1) xs parts.1)

pub has_state_more : (v w : View) → HasMore v w → (id : ℕ) (s : State) → IsTrue (has_state v id s) → IsTrue (has_state w id s)
has_state_more v w more id s has =
    let parts = and_parts (nat_eq (length s) v.layout.width) (has_words v.words id 0 s) has in
    both (nat_eq (length s) w.layout.width) (has_words w.words id 0 s)
    (ap (λ l. nat_eq (length s) l.width) more.layout ∙ parts.0)
    (has_words_more v.words w.words id (more.words id) 0 s parts.1)

-- ---- laws

pub seen_lower_is_greatest : laws.SeenLowerIsGreatest
seen_lower_is_greatest v s most each = greatest_within (λ id. has_state v id s) v.lower most each

pub seen_upper_is_least : laws.SeenUpperIsLeast
seen_upper_is_least v s least below each = least_within (λ id. has_state v id s) (first_word v.problem s) v.upper least below each

pub raised_is_seen : laws.RaisedIsSeen
raised_is_seen v n s there has = greatest_over (λ id. has_state v id s) v.lower n there has

pub sunk_is_seen : laws.SunkIsSeen
sunk_is_seen v n s there has = least_under (λ id. has_state v id s) (first_word v.problem s) v.upper n there has

pub more_is_later : laws.MoreIsLater
more_is_later v w more = record {
  known = more.known;
  states = has_state_more v w more;
  lower = λ s. seen_lower_is_greatest v s (seen_lower w s)
      (λ n there has. raised_is_seen w n s (more.lower n there) (has_state_more v w more n.id s has));
  upper = λ s. seen_upper_is_least v s (seen_upper w s)
      (subst (λ g. seen_upper w s ≤ first_word g s) more.problem (least_first (λ id. has_state w id s) (first_word w.problem s) w.upper))
      (λ n there has. sunk_is_seen w n s (more.upper n there) (has_state_more v w more n.id s has));
  noted_lower = λ id. greatest_within (λ i. nat_eq i id) v.lower (noted_lower w id)
      (λ n there same. greatest_over (λ i. nat_eq i id) w.lower n (more.lower n there) same);
  noted_upper = λ id. least_within (λ i. nat_eq i id) (quit_word v.problem.penalty) v.upper (noted_upper w id)
      (subst (λ g. noted_upper w id ≤ quit_word g.penalty) more.problem (least_first (λ i. nat_eq i id) (quit_word w.problem.penalty) w.upper))
      (λ n there same. least_under (λ i. nat_eq i id) (quit_word w.problem.penalty) w.upper n (more.upper n there) same);
}

pub later_is_reflexive : laws.LaterIsReflexive
later_is_reflexive v = record {
  known = λ id there. there;
  states = λ id s has. has;
  lower = λ s. omega arith;
  upper = λ s. omega arith;
  noted_lower = λ id. omega arith;
  noted_upper = λ id. omega arith;
}

pub later_is_transitive : laws.LaterIsTransitive
later_is_transitive u v w first second = record {
  known = λ id there. second.known id (first.known id there);
  states = λ id s has. second.states id s (first.states id s has);
  lower = λ s. let a = first.lower s in let b = second.lower s in omega arith;
  upper = λ s. let a = first.upper s in let b = second.upper s in omega arith;
  noted_lower = λ id. let a = first.noted_lower id in let b = second.noted_lower id in omega arith;
  noted_upper = λ id. let a = first.noted_upper id in let b = second.noted_upper id in omega arith;
}
