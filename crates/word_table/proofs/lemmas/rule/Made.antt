-- The rule holds of a table as it is made.
use Rattle.std.proofs.Common.{◌≡◌, ℕ, zero, suc, ◌+◌, ◌<◌, min, cond, true, nat_lt, List, [], ◌∷◌, length, None, Some, refl, sym, ap, ◌∙◌, subst, inr, arith}
use Rattle.std.specs.Prelude.{All, get_or}
use Rattle.std.specs.List.{slice_get, range_with_len}
use Rattle.std.proofs.lemmas.Bool.{lt-ltb}
use Rattle.std.proofs.lemmas.List.Elements.{All-nil, All-append, All-from_get_or}
use Rattle.std.proofs.lemmas.List.FromFn.{length-range_with_len, get_or-range_with_len, get_or-map-range_with_len}
use Rattle.std.proofs.lemmas.Option.{slice_get_within, slice_get-get_or}
use mathlib.Core.Option.{some, some-injective, some-ne-none}
use lib.ListN.{get_elem?}
use Rattle.ground_model.specs.Packed.{State}
use Rattle.ground_model.specs.Ground.{Ground}
use Rattle.ground_model.specs.Steps.{ground_process}
use Rattle.bound_core.specs.Numbers.{first_word, goal_word, quit_word}
use Rattle.bound_core.specs.Core.{sight_at, first_sight, first_core}
use Rattle.bound_core.proofs.Keeping.{first_is_sound}
use Rattle.word_table.specs.declared.layout.Layout.{Layout}
use Rattle.word_table.specs.layout.Places.{state_at}
use Rattle.word_table.specs.declared.view.notes.StateWord.{StateWord}
use Rattle.word_table.specs.declared.view.View.{View}
use Rattle.word_table.specs.view.Views.{state_word}
use Rattle.word_table.specs.view.Steps.{words_of, words_of_all, first_view}
use Rattle.word_table.specs.rule.Words.{word, state_in, IsPublished}
use Rattle.word_table.specs.rule.Rule.{IsShownBy, IsHeld, IsStateWord, IsBelow, IsAbove, ShowsNumbers}
use Rattle.word_table.specs.rule.Made.{AreMade}
use Rattle.word_table.specs.rule.Laws as laws
use Rattle.word_table.proofs.lemmas.rule.Publishing.{all_words_of, first_within}

-- the notes of states
all_words_of_all : (P : StateWord → Type 0) (base : ℕ) (states : List State)
    → ((i : ℕ) (s : State) → slice_get states i ≡ Some s → (p : ℕ) → p < length s → P (state_word (base + i) p (get_or s p 0)))
    → All P (words_of_all base states)
all_words_of_all P base [] each = All-nil P
all_words_of_all P base (s ∷ states) each = All-append P (words_of base 0 s) (words_of_all (base + 1) states)
    (all_words_of P base 0 s (λ p below. subst (λ q. P (state_word base q (get_or s p 0))) (let z : p ≡ 0 + p = omega arith in z)
    (subst (λ n. P (state_word n p (get_or s p 0))) (let z : base + 0 ≡ base = omega arith in z) (each 0 s refl p below))))
    (all_words_of_all P (base + 1) states (λ i t there p below. subst (λ n. P (state_word n p (get_or t p 0))) (let z : base + suc i ≡ base + 1 + i = omega arith in z) (each (suc i) t there p below)))

none_is_not_some : {X : Type 0} (x : X) → None ≡ Some x → ⊥
none_is_not_some x same = cc

first_at_goal : (g : Ground) (s : State) → (ground_process g).goal s ≡ true → first_word g s ≡ goal_word
first_at_goal g s on = ap (λ b. cond b goal_word (quit_word g.penalty)) on

module _ (g : Ground) (l : Layout) (most : ℕ) (states : List State) (ws : List ℕ) (made : AreMade g l states ws) where
  state_there : (id : ℕ) → IsPublished l ws id → slice_get states id ≡ Some (state_in l ws id)
  state_there id there =
      let at = slice_get-get_or states id [] (made.only id there) in
      at ∙ ap Some (sym (made.state id (get_or states id []) at).1)

  numbers : (id : ℕ) → IsPublished l ws id → ShowsNumbers g l ws (first_core g states) id
  numbers id there =
      let first : ℕ = first_word g (state_in l ws id) in
      let is = made.published id there in
      let within = first_within g (state_in l ws id) in record {
        lower = sym is.0;
        upper = (let least : first ≡ min first first = omega arith in least) ∙ ap (min first) (sym is.1);
        within_quit = (let word = is.1 in omega arith);
        at_goal = λ on. inr (is.1 ∙ first_at_goal g (state_in l ws id) on);
      }

  first_view_shown : IsShownBy g l ws (first_sight g states) (first_view g l most states)
  first_view_shown = record {
    live = λ on. refl;
    first = λ s. omega arith;
    count = omega arith;
    spare = refl;
    right = λ id its. absurd (none_is_not_some id its);
    draft = λ place x e. absurd (none_is_not_some x e);
    known = All-from_get_or (λ id. (first_sight g states).knows id ≡ true) (range_with_len 0 (length states)) 0
        (λ i below.
        let small : i < length states = (let long = length-range_with_len 0 (length states) in omega arith) in
        let at : get_or (range_with_len 0 (length states)) i 0 ≡ i = get_or-range_with_len 0 (length states) i 0 small ∙ (let z : 0 + i ≡ i = omega arith in z) in
        subst (λ n. nat_lt n (length states) ≡ true) (sym at) (lt-ltb i (length states) small));
    held = All-nil (IsHeld g l ws);
    words = all_words_of_all (IsStateWord g l ws) 0 states
        (λ i s there p below.
        let is = made.state i s there in
        let small : p < l.width = (let wide = is.0 in omega arith) in
        let at : get_or (state_in l ws i) p 0 ≡ word ws (state_at l i p)
        = get_or-map-range_with_len (λ q. word ws (state_at l i q)) 0 l.width p p 0 small (omega arith) in
        subst (λ n. IsStateWord g l ws (state_word n p (get_or s p 0))) (let z : i ≡ 0 + i = omega arith in z) record {
          published = made.in_bucket i (slice_get_within states i s there);
          place = small;
          here = sym at ∙ ap (λ u. get_or u p 0) is.1;
        });
    lower = All-nil (IsBelow g l ws (first_sight g states).lower);
    upper = All-nil (IsAbove g l ws (first_sight g states).upper);
  }

  only_view : (k : ℕ) (v : View) → get_elem? (first_view g l most states ∷ []) k ≡ some v → IsShownBy g l ws (sight_at g (first_core g states) k) v
  only_view zero v there = subst (IsShownBy g l ws (first_sight g states)) (some-injective (first_view g l most states) v there) first_view_shown
  only_view (suc k) v there = absurd (some-ne-none v (sym there))

pub made_holds : (g : Ground) (l : Layout) (most : ℕ) → laws.MadeHolds g l most
made_holds g l most states ws table made distinct reachable = record {
  table = table;
  words = record {
    wide = made.wide;
    given = (let same = made.given in let few = made.few in omega arith);
    once = made.once;
    run = made.run;
    as_made = made.others;
  };
  rights = record { total = omega arith; balance = (let given = made.given in let taken = made.taken in omega arith) };
  core = (
    first_core g states,
    first_is_sound g states distinct reachable,
    record {
      words = record {
        given = sym made.given;
        published = state_there g l most states ws made;
        in_bucket = λ id s there. made.in_bucket id (slice_get_within states id s there);
        numbers = numbers g l most states ws made;
        others = λ s none. (refl, refl);
      };
      count = refl;
      views = only_view g l most states ws made;
    },
  );
}
