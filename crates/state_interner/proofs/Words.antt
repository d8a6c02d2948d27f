-- States that are compared and written word by word.
use Rattle.std.proofs.Common.{◌≡◌, ℕ, suc, ◌+◌, ◌<◌, ◌≤◌, true, ◌&&◌, nat_eq, List, [], ◌∷◌, length, Some, refl, sym, ap, ◌∙◌, subst, arith}
use Rattle.std.specs.Prelude.{IsTrue, get_or}
use Rattle.std.proofs.lemmas.Bool.{eq-eqb}
use mathlib.Core.Logic.{dite}
use native.Mathlib.Decide.{ℕ_discrete}
use Rattle.ground_model.specs.Packed.{State}
use Rattle.word_table.specs.declared.layout.Layout.{Layout}
use Rattle.word_table.specs.declared.view.notes.StateWord.{StateWord}
use Rattle.word_table.specs.declared.view.View.{View}
use Rattle.word_table.specs.view.Views.{is_word, has_word, has_words, has_state, state_word, written_at}
use Rattle.word_table.specs.view.Steps.{with_state_word}
use Rattle.word_table.proofs.lemmas.view.Lists.{both, either_first, either_second}
use Rattle.word_table.specs.Seen.{Knowledge, knowledge}
use Rattle.state_interner.specs.Turns.{NotesWords, WritesDraft}

-- ---- comparing

is_own : (id place x p y : ℕ) → p ≡ place → y ≡ x → is_word id p y (state_word id place x) ≡ true
is_own id place x p y at is = both (nat_eq id id && nat_eq place p) (nat_eq x y)
    (both (nat_eq id id) (nat_eq place p) (eq-eqb id id refl) (eq-eqb place p (sym at))) (eq-eqb x y (sym is))

has_words_of : (ns : List StateWord) (id place : ℕ) (s : State)
    → ((i : ℕ) → i < length s → IsTrue (has_word ns id (place + i) (get_or s i 0))) → IsTrue (has_words ns id place s)
has_words_of ns id place [] each = refl
has_words_of ns id place (x ∷ xs) each = both (has_word ns id place x) (has_words ns id (place + 1) xs)
    (subst (λ p. IsTrue (has_word ns id p x)) (omega arith) (each 0 (omega arith)))
    (has_words_of ns id (place + 1) xs
    (λ i below. subst (λ p. IsTrue (has_word ns id p (get_or xs i 0))) (omega arith) (each (suc i) (omega arith))))

pub notes_more : (old now new : Knowledge) (id place x : ℕ) → NotesWords old now
    → new ≡ knowledge now.table (with_state_word now.view id place x) → NotesWords old new
notes_more old now new id place x (ns, seen) is =
    (state_word id place x ∷ ns, is ∙ ap (λ (k : Knowledge). knowledge k.table (with_state_word k.view id place x)) seen)

-- the words before this place are noted to be those of s
pub record Compares (old now : Knowledge) (id : ℕ) (s : State) (place : ℕ) : Type 0 where
  pub seen : NotesWords old now
  pub same : (p : ℕ) → p < place → IsTrue (has_word now.view.words id p (get_or s p 0))

module _ (old now new : Knowledge) (id : ℕ) (s : State) (place x : ℕ) (so_far : Compares old now id s place)
    (is : new ≡ knowledge now.table (with_state_word now.view id place x)) where
  pub one_word_more : NotesWords old new
  one_word_more = notes_more old now new id place x so_far.seen is

  found : (p y : ℕ) → p ≡ place → y ≡ x → IsTrue (has_word new.view.words id p y)
  found p y at same = subst (λ (k : Knowledge). IsTrue (has_word k.view.words id p y)) (sym is)
      (either_first (is_word id p y (state_word id place x)) (has_word now.view.words id p y) (is_own id place x p y at same))

  pub compares_more : x ≡ get_or s place 0 → Compares old new id s (place + 1)
  compares_more same = record {
    seen = one_word_more;
    same = λ p below. dite (ℕ_discrete p place)
        (λ at. found p (get_or s p 0) at (ap (λ i. get_or s i 0) at ∙ sym same))
        (λ other. subst (λ (k : Knowledge). IsTrue (has_word k.view.words id p (get_or s p 0))) (sym is)
        (either_second (is_word id p (get_or s p 0) (state_word id place x)) (has_word now.view.words id p (get_or s p 0)) (so_far.same p (omega arith))));
  }

pub all_compared : (old now : Knowledge) (id : ℕ) (s : State) (place : ℕ) → Compares old now id s place → length s ≤ place
    → length s ≡ old.view.layout.width → IsTrue (has_state now.view id s)
all_compared old now id s place so_far all wide =
    let v : View = now.view in
    let layout : v.layout ≡ old.view.layout = ap (λ (k : Knowledge). k.view.layout) so_far.seen.1 in
    both (nat_eq (length s) v.layout.width) (has_words v.words id 0 s)
    (eq-eqb (length s) v.layout.width (wide ∙ sym (ap (λ (l : Layout). l.width) layout)))
    (has_words_of v.words id 0 s (λ i below. subst (λ p. IsTrue (has_word v.words id p (get_or s i 0))) (omega arith) (so_far.same i (omega arith))))

-- ---- writing

-- the words before this place are written
pub record Writes (old now : Knowledge) (s : State) (place : ℕ) : Type 0 where
  pub seen : WritesDraft old now
  pub same : (p : ℕ) → p < place → written_at now.view.draft p ≡ Some (get_or s p 0)
