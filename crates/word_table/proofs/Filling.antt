-- Words while a table is made.
use Rattle.std.proofs.Common.{◌≡◌, ◌≢◌, ◌⊎◌, ℕ, zero, suc, ◌+◌, ◌*◌, ◌<◌, ◌≤◌, List, [], ◌∷◌, ◌++◌, length, map, take, Some, None, refl, sym, ap, ◌∙◌, subst, inl, inr, arith}
use Rattle.std.specs.Prelude.{slice_set, get_or}
use Rattle.std.specs.List.{slice_get, range_with_len}
use Rattle.std.proofs.Math.Nat.{mul-le-mul_right}
use Rattle.std.proofs.lemmas.List.{length-set, length-take-le, take_more, get_or-set_same, get_or-set_other, same_lists}
use Rattle.std.proofs.lemmas.Grind.{get_or-set_at, same_number_lists}
use Rattle.std.proofs.lemmas.List.Elements.{All-from_get_or}
use Rattle.std.proofs.lemmas.List.FromFn.{length-range_with_len, length-map-range_with_len, get_or-range_with_len, get_or-map-range_with_len}
use Rattle.std.proofs.lemmas.Option.{slice_get-get_or, get_or_from_slice_get}
use Rattle.ground_model.specs.Packed.{State}
use Rattle.ground_model.specs.Ground.{Ground}
use Rattle.ground_model.specs.Invariant.{IsGroundProblem}
use Rattle.ground_model.proofs.Packed.{length-inside}
use Rattle.ground_step.specs.Hash.{hash_of}
use Rattle.bound_core.specs.Core.{width, first_core}
use Rattle.bound_core.specs.Numbers.{first_word, quit_word}
use Rattle.bound_core.proofs.Keeping.{first_is_sound}
use Rattle.bound_core.proofs.Worth.{published_are_inside}
use Rattle.word_table.specs.declared.layout.Layout.{Layout}
use Rattle.word_table.specs.layout.Places.{size, bucket_at, state_at, lower_at, upper_at, IsLayout}
use Rattle.word_table.specs.view.Steps.{first_view}
use Rattle.word_table.specs.rule.Words.{word, held_in, state_in}
use Rattle.word_table.specs.rule.Rule.{taken_below}
use Rattle.word_table.specs.rule.Made.{AreMade, IsPut}
use Rattle.word_table.proofs.lemmas.rule.Lists.{taken, map_range_same}
use Rattle.word_table.proofs.lemmas.rule.Putting.{put_is_made}
use Rattle.word_table.specs.Seen.{IsWithin}
use Rattle.word_table.specs.Made.{IsFree, HasWritten, AreFirst, states_in}

none_is_not_some : {X : Type 0} (x : X) → None ≡ Some x → ⊥
none_is_not_some x same = cc

-- ---- no id is given out

pub record AreEmpty (l : Layout) (quit n : ℕ) (ws : List ℕ) : Type 0 where
  pub long : length ws ≡ size l
  pub low : (i : ℕ) → i < upper_at l 0 → word ws i ≡ 0
  pub upper : (i : ℕ) → i < n → word ws (upper_at l i) ≡ quit

none_taken : (ws : List ℕ) (n : ℕ) → ((b : ℕ) → b < n → held_in ws b ≡ 0) → taken_below ws n ≡ 0
none_taken ws zero all = refl
none_taken ws (suc n) all =
    let rest = none_taken ws n (λ b below. all b (omega arith)) in
    let here : taken (held_in ws n) ≡ 0 = ap taken (all n (omega arith)) in
    omega arith

nothing_there : (i : ℕ) (s : State) → slice_get [] i ≡ Some s → ⊥
nothing_there zero s there = none_is_not_some s there
nothing_there (suc i) s there = none_is_not_some s there

pub empty_is_made : (g : Ground) (l : Layout) (quit n : ℕ) (ws : List ℕ) → AreEmpty l quit n ws → l.ids ≤ n → quit ≡ quit_word g.penalty → AreMade g l [] ws
empty_is_made g l quit n ws empty all is =
    let none : (b : ℕ) → b < l.buckets → held_in ws b ≡ 0 = λ b below. empty.low (bucket_at b) (omega arith) in record {
      wide = empty.long;
      given = empty.low 0 (omega arith);
      few = omega arith;
      in_bucket = λ id below. absurd (omega arith);
      only = λ id there. let bare = none there.0 there.1 in let full = there.2 in absurd (omega arith);
      once = λ b c below below' full same. absurd (full (none b below));
      run = λ bucket id below here. let bare = none bucket below in absurd (omega arith);
      taken = none_taken ws l.buckets none;
      state = λ id s there. absurd (nothing_there id s there);
      published = λ id there. let bare = none there.0 there.1 in let full = there.2 in absurd (omega arith);
      others = λ id below not. (empty.low (lower_at l id) (omega arith), empty.upper id (omega arith) ∙ is);
    }

-- ---- one state more

module _ (g : Ground) (l : Layout) (s : State) (id place : ℕ) (ws written : List ℕ) (at first up x y fw : ℕ) (layout : IsLayout l)
    (wide : length ws ≡ size l) (inside : id < l.ids) (words : length s ≡ l.width) (free : IsFree l ws (hash_of s) place)
    (at_is : at ≡ bucket_at place) (first_is : first ≡ state_at l id 0) (up_is : up ≡ upper_at l id) (x_is : x ≡ id + 1) (y_is : y ≡ id + 1)
    (fw_is : fw ≡ first_word g s) (put : HasWritten s first (length s) (slice_set ws at x) written) where
  abbrev after : List ℕ
  after = slice_set (slice_set written up fw) 0 y

  long_written : length written ≡ length ws
  long_written = put.long ∙ length-set ws at x

  long_after : length after ≡ length ws
  long_after = length-set (slice_set written up fw) 0 y ∙ (length-set written up fw ∙ long_written)

  off_count : (i : ℕ) → i ≢ 0 → word after i ≡ word (slice_set written up fw) i
  off_count i other = get_or-set_other (slice_set written up fw) 0 i y 0 other

  off_upper : (i : ℕ) → i ≢ 0 → i ≢ up → word after i ≡ word written i
  off_upper i other else = off_count i other ∙ get_or-set_other written up i fw 0 else

  untouched : (i : ℕ) → i ≢ 0 → i ≢ up → (i < first) ⊎ (first + length s ≤ i) → i ≢ at → word after i ≡ word ws i
  untouched i other else out apart = off_upper i other else ∙ (put.others i out ∙ get_or-set_other ws at i x 0 apart)

  rows_before : (i j : ℕ) → i < j → i * l.width + l.width ≤ j * l.width
  rows_before i j below =
      let more : (i + 1) * l.width ≤ j * l.width = mul-le-mul_right l.width (omega arith) in
      let opened : (i + 1) * l.width ≡ i * l.width + l.width = omega arith in
      omega arith

  behind : first + length s ≤ lower_at l 0
  behind = let rows = rows_before id l.ids inside in omega arith

  in_state : (k : ℕ) → k < length s → word after (state_at l id k) ≡ get_or s k 0
  in_state k below =
      let last = behind in
      let here : state_at l id k ≡ first + k = omega arith in
      off_upper (state_at l id k) (λ z. omega arith) (λ z. omega arith) ∙ (ap (word written) here ∙ put.here k below)

  pub put_is : IsPut g l s id place ws after
  put_is = let last = behind in let small = free.bucket in record {
    bucket = free.bucket;
    empty = free.empty;
    run = record { turns = free.turns; here = free.here; taken = free.taken };
    long = long_after;
    given = get_or-set_same (slice_set written up fw) 0 y 0 (let a = length-set written up fw in let b = long_written in omega arith) ∙ y_is;
    here = off_upper (bucket_at place) (λ z. omega arith) (λ z. omega arith)
        ∙ (put.others (bucket_at place) (inl (omega arith)) ∙ (get_or-set_at ws at (bucket_at place) x 0 (sym at_is) (omega arith) ∙ x_is));
    state = same_number_lists (state_in l after id) s (length-map-range_with_len (λ p. word after (state_at l id p)) 0 l.width ∙ sym words)
        (λ k below.
        let long = length-map-range_with_len (λ p. word after (state_at l id p)) 0 l.width in
        let within : k < l.width = omega arith in
        get_or-map-range_with_len (λ p. word after (state_at l id p)) 0 l.width k k 0 within (omega arith) ∙ in_state k (omega arith));
    upper = off_count (upper_at l id) (λ z. omega arith)
        ∙ (get_or-set_at written up (upper_at l id) fw 0 (sym up_is) (let b = long_written in omega arith) ∙ fw_is);
    other_buckets = λ b below other. untouched (bucket_at b) (λ z. omega arith) (λ z. omega arith) (inl (omega arith)) (λ z. other (omega arith));
    other_states = λ i below. map_range_same (λ p. word after (state_at l i p)) (λ p. word ws (state_at l i p)) 0 l.width
        (λ p low high. let rows = rows_before i id below in
        untouched (state_at l i p) (λ z. omega arith) (λ z. omega arith) (inl (omega arith)) (λ z. omega arith));
    lower = λ i below. untouched (lower_at l i) (λ z. omega arith) (λ z. omega arith) (inr (omega arith)) (λ z. omega arith);
    other_upper = λ i below other. untouched (upper_at l i) (λ z. omega arith) (λ z. other (omega arith)) (inr (omega arith)) (λ z. omega arith);
  }

pub one_more_is_made : (g : Ground) (l : Layout) (states : List State) (i : ℕ) (s : State) (bucket : ℕ) (ws ws' : List ℕ) → IsLayout l
    → AreMade g l (take i states) ws → i < length states → length states ≤ l.ids → slice_get states i ≡ Some s → length s ≡ l.width
    → IsPut g l s i bucket ws ws' → AreMade g l (take (i + 1) states) ws'
one_more_is_made g l states i s bucket ws ws' layout made below few there wide put =
    let long : length (take i states) ≡ i = length-take-le i states (omega arith) in
    let more : take (i + 1) states ≡ take i states ++ s ∷ [] = take_more states i s below ∙ ap (λ t. take i states ++ t ∷ []) (get_or_from_slice_get states i s s there) in
    subst (λ xs. AreMade g l xs ws') (sym more)
    (put_is_made g l 0 (take i states) s bucket ws ws' layout made (omega arith) wide (subst (λ n. IsPut g l s n bucket ws ws') (sym long) put))

-- ---- all states

pub first_is_wide : (g : Ground) (ids : ℕ) (states : List State) → IsGroundProblem g → AreFirst g ids states
    → (i : ℕ) (s : State) → slice_get states i ≡ Some s → length s ≡ width g
first_is_wide g ids states problem first i s there =
    length-inside (length g.atoms) s
    (published_are_inside g problem (first_core g states) (first_is_sound g states first.differ first.reached).states i s there)

pub states_in_is : (g : Ground) (l : Layout) (states : List State) (ws : List ℕ) → AreMade g l states ws → states_in l ws ≡ states
states_in_is g l states ws made =
    let long = length-map-range_with_len (state_in l ws) 0 (length states) in
    ap (λ n. map (state_in l ws) (range_with_len 0 n)) made.given
    ∙ same_lists (map (state_in l ws) (range_with_len 0 (length states))) states long
    (λ k d below.
    let small : k < length states = omega arith in
    get_or-map-range_with_len (state_in l ws) 0 (length states) k k d small (omega arith)
    ∙ (made.state k (get_or states k d) (slice_get-get_or states k d small)).1)

pub first_is_within : (g : Ground) (l : Layout) (most : ℕ) (states : List State) → length states ≤ l.ids → IsWithin (first_view g l most states)
first_is_within g l most states few = record {
  known = All-from_get_or (λ id. id < l.ids) (range_with_len 0 (length states)) 0
      (λ i below.
      let long = length-range_with_len 0 (length states) in
      let at = get_or-range_with_len 0 (length states) i 0 (omega arith) in
      omega arith);
  spare = λ id its. absurd (none_is_not_some id its);
}
