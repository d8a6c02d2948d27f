-- The numbers that the readings of the open actions come to follow from what was seen, and are the best that do.
use Rattle.std.proofs.Common.{◌≡◌, ℕ, ◌*◌, ◌<◌, ◌≤◌, true, false, cond, Some, None, List, length, map, sym, ap, ◌∙◌, subst, ⊎_elim, arith}
use Rattle.std.specs.Prelude.{IsTrue, All, Contains}
use Rattle.std.specs.List.{slice_get}
use Rattle.std.proofs.Math.Nat.{mul-le-mul_right}
use Rattle.std.proofs.lemmas.Bool.{both_ways, eq-eqb, ne_eqb}
use Rattle.std.proofs.lemmas.List.Elements.{All-contains}
use Rattle.std.proofs.lemmas.Option.{slice_get_within}
use Rattle.plain_list.proofs.Members.{Contains-map, Contains-map_cases}
use Rattle.fixed_round.specs.Words.{word_of, value_of, code_of}
use Rattle.decision_process.specs.Process.{min_with}
use Rattle.decision_process.specs.Backup.{action_value, lower_candidate, upper_candidate, lower_backup, upper_backup}
use Rattle.decision_process.specs.Following.{IsLowerFrom, IsUpperFrom}
use Rattle.decision_process.proofs.Choice.{min_with_is_least}
use Rattle.decision_process.proofs.Rounding.{floor_is_greatest, ceiling_is_least}
use Rattle.decision_process.proofs.Backups.{lower_backup_follows, lower_backup_rises, upper_backup_rises}
use Rattle.ground_model.specs.declared.action.Choice.{Choice}
use Rattle.ground_model.specs.declared.action.GroundAction.{GroundAction}
use Rattle.ground_model.specs.Packed.{State, has_bit}
use Rattle.ground_model.specs.Choices.{cost_of, next_state}
use Rattle.ground_model.specs.Ground.{Ground}
use Rattle.ground_model.specs.Invariant.{IsAction, IsGroundProblem}
use Rattle.ground_model.specs.Steps.{ground_process, own_action_value}
use Rattle.ground_model.proofs.OwnDen.{lower_by_own_den, upper_by_own_den}
use Rattle.ground_model.proofs.Steps.{slice_get-contains, den_positive}
use Rattle.applicable_actions.specs.distinct.Enough.{AreEnough}
use Rattle.applicable_actions.specs.distinct.Laws.{LowerByEnough, UpperByEnough}
use Rattle.bound_core.specs.declared.codes.TheConstants.{GIVE_UP}
use Rattle.bound_core.specs.Numbers.{act_of, first_word, quit_word, IsSupported}
use Rattle.word_table.specs.declared.view.View.{View}
use Rattle.word_table.specs.view.Views.{knows, has_state, seen_lower, seen_upper, CanRaise}
use Rattle.word_table.specs.view.Laws.{IsLater}
use Rattle.bellman_backup.specs.Readings.{Reading, IsReading}
use Rattle.bellman_backup.specs.Candidates.{Found, sum_of, low, high, act_word, least_low, least_word}
use Rattle.bellman_backup.specs.Backups.{IsFound, IsBackedUp, Narrows}
use Rattle.bellman_backup.proofs.NextRead.{first_at_goal, seen_within_first}
use Rattle.bellman_backup.proofs.Summing.{zip_weaker, sum_below, sum_above}

value_rises : (a b : ℕ) → a ≤ b → value_of a ≤ value_of b
value_rises a b h = omega arith

-- ---- upper words by their parts

code_is : (value code : ℕ) → code < 65536 → code_of (word_of value code) ≡ code
code_is value code small = omega arith

value_is : (value code : ℕ) → code < 65536 → value_of (word_of value code) ≡ value
value_is value code small = omega arith

quits : (penalty : ℕ) → act_of (quit_word penalty) ≡ None
quits penalty = ap (λ b. cond b None (Some (code_of (quit_word penalty)))) (eq-eqb (code_of (quit_word penalty)) GIVE_UP (code_is penalty GIVE_UP (omega arith)))

acts : (value code : ℕ) → code < 65535 → act_of (word_of value code) ≡ Some code
acts value code small =
    let is : code_of (word_of value code) ≡ code = code_is value code (omega arith) in
    ap (λ b. cond b None (Some (code_of (word_of value code)))) (ne_eqb (code_of (word_of value code)) GIVE_UP (λ same. omega arith)) ∙ ap Some is

none_is_not_some : (a : ℕ) → None ≡ Some a → ⊥
none_is_not_some a same = cc

some_is : (a b : ℕ) → Some a ≡ Some b → a ≡ b
some_is a b same = cc

-- ---- one action

pub action_is : (g : Ground) → IsGroundProblem g → (k : ℕ) (a : GroundAction) → slice_get g.actions k ≡ Some a → IsAction (length g.atoms) a
action_is g is k a here = All-contains (IsAction (length g.atoms)) g.actions a is.actions (slice_get-contains g.actions k a here)

pub code_within : (g : Ground) → IsGroundProblem g → (k : ℕ) (a : GroundAction) → slice_get g.actions k ≡ Some a → k < 65534
code_within g is k a here = let inside = slice_get_within g.actions k a here in let few = is.actions_count in omega arith

module _ (g : Ground) (v w : View) (s : State) (f : Found) (is : IsFound g v w s f) where
  abbrev Between : Choice → Reading → Type 0
  Between c r = IsReading g v w (next_state s c) r

  lower_until : sum_of s (λ r. r.lower) f ≤ own_action_value (seen_lower w) f.action s
  lower_until = sum_below (λ (c : Choice). c.weight) (cost_of (has_bit s)) (λ c. seen_lower w (next_state s c)) (λ (r : Reading). r.lower) f.action.choices f.readings
      (zip_weaker Between (λ c r. r.lower ≤ seen_lower w (next_state s c)) f.action.choices f.readings (λ c r h. h.lower_until) is.readings)

  lower_since : own_action_value (seen_lower v) f.action s ≤ sum_of s (λ r. r.lower) f
  lower_since = sum_above (λ (c : Choice). c.weight) (cost_of (has_bit s)) (λ c. seen_lower v (next_state s c)) (λ (r : Reading). r.lower) f.action.choices f.readings
      (zip_weaker Between (λ c r. seen_lower v (next_state s c) ≤ r.lower) f.action.choices f.readings (λ c r h. h.lower_since) is.readings)

  upper_until : own_action_value (λ t. value_of (seen_upper w t)) f.action s ≤ sum_of s (λ r. value_of r.word) f
  upper_until = sum_above (λ (c : Choice). c.weight) (cost_of (has_bit s)) (λ c. value_of (seen_upper w (next_state s c))) (λ (r : Reading). value_of r.word) f.action.choices f.readings
      (zip_weaker Between (λ c r. value_of (seen_upper w (next_state s c)) ≤ value_of r.word) f.action.choices f.readings
      (λ c r h. value_rises (seen_upper w (next_state s c)) r.word h.upper_until) is.readings)

  upper_since : sum_of s (λ r. value_of r.word) f ≤ own_action_value (λ t. value_of (seen_upper v t)) f.action s
  upper_since = sum_below (λ (c : Choice). c.weight) (cost_of (has_bit s)) (λ c. value_of (seen_upper v (next_state s c))) (λ (r : Reading). value_of r.word) f.action.choices f.readings
      (zip_weaker Between (λ c r. value_of r.word ≤ value_of (seen_upper v (next_state s c))) f.action.choices f.readings
      (λ c r h. value_rises r.word (seen_upper v (next_state s c)) h.upper_since) is.readings)

-- ---- all actions

module _ (g : Ground) (problem : IsGroundProblem g) (v w : View) (s : State) (off : (ground_process g).goal s ≡ false) (found : List Found)
    (enough : AreEnough g s (map (λ (f : Found). f.code) found)) (each : All (IsFound g v w s) found) where
  abbrev codes : List ℕ
  codes = map (λ (f : Found). f.code) found

  found_of : (a : ℕ) → Contains codes a → (f : Found) × Contains found f × (f.code ≡ a)
  found_of a there = Contains-map_cases (λ (f : Found). f.code) found a there

  found_is_open : (f : Found) → Contains found f → Contains ((ground_process g).choices s) f.code
  found_is_open f there = enough.are_open f.code (Contains-map (λ (e : Found). e.code) found f there)

  is_found : (f : Found) → Contains found f → IsFound g v w s f
  is_found f there = All-contains (IsFound g v w s) found f each there

  positive : (f : Found) → Contains found f → 0 < f.action.den
  positive f there = let above = (action_is g problem f.code f.action (is_found f there).here).weights.den_above in omega arith

  low_covers : (f : Found) (n : ℕ) → Contains found f → n ≤ low s f → n * f.action.den ≤ sum_of s (λ r. r.lower) f
  low_covers f n there below = (floor_is_greatest n (sum_of s (λ r. r.lower) f) f.action.den (positive f there)).0 below

  low_follows : (f : Found) (n : ℕ) → Contains found f → n ≤ low s f → n ≤ lower_candidate (ground_process g) (seen_lower w) f.code s
  low_follows f n there below =
      let own = low_covers f n there below in
      let until = lower_until g v w s f (is_found f there) in
      let step : n * (ground_process g).den ≤ action_value (ground_process g) (seen_lower w) f.code s
      = (lower_by_own_den g problem (seen_lower w) f.code f.action s n (is_found f there).here).1 (omega arith) in
      (floor_is_greatest n (action_value (ground_process g) (seen_lower w) f.code s) (ground_process g).den (den_positive g problem)).1 step

  -- actions that are enough have the least candidate of all
  within_backup : LowerByEnough → least_low g.penalty s found ≤ lower_backup (ground_process g) (seen_lower w) s
  within_backup law =
      let n : ℕ = least_low g.penalty s found in let least = min_with_is_least g.penalty (low s) found in
      subst (λ m. n ≤ m) (law g s codes enough off (seen_lower w))
      (⊎_elim
      (λ is. let top = least.within_top in omega arith)
      (λ t. let at = found_of t.0 t.1 in
      let own : n ≤ lower_candidate (ground_process g) (seen_lower w) t.0 s
      = subst (λ k. n ≤ lower_candidate (ground_process g) (seen_lower w) k s) at.2 (low_follows at.0 n at.1 (least.within_each at.0 at.1)) in
      let is = t.2 in omega arith)
      (min_with_is_least g.penalty (λ k. lower_candidate (ground_process g) (seen_lower w) k s) codes).one_of_them)

  pub lower_follows : LowerByEnough → IsLowerFrom (ground_process g) (seen_lower w) s (least_low g.penalty s found)
  lower_follows law =
      let follows = lower_backup_follows (ground_process g) (seen_lower w) s in let within = within_backup law in record {
        at_goal = λ on. absurd (both_ways ((ground_process g).goal s) off on);
        within_quit = λ _. (min_with_is_least g.penalty (low s) found).within_top;
        within_step = λ a _ there.
            let step = follows.within_step a off there in
            let scaled : least_low g.penalty s found * (ground_process g).den ≤ lower_backup (ground_process g) (seen_lower w) s * (ground_process g).den
            = mul-le-mul_right (ground_process g).den within in omega arith;
      }

  quit_follows : IsUpperFrom (ground_process g) (λ t. value_of (seen_upper w t)) s (act_of (quit_word g.penalty)) (value_of (quit_word g.penalty))
  quit_follows = record {
    covers_quit = λ _ _. (let is = value_is g.penalty GIVE_UP (omega arith) in omega arith);
    is_open = λ a _ act. absurd (none_is_not_some a (sym (quits g.penalty) ∙ act));
    covers_step = λ a _ act. absurd (none_is_not_some a (sym (quits g.penalty) ∙ act));
  }

  act_follows : (f : Found) → Contains found f
      → IsUpperFrom (ground_process g) (λ t. value_of (seen_upper w t)) s (act_of (act_word s f)) (value_of (act_word s f))
  act_follows f there =
      let small = code_within g problem f.code f.action (is_found f there).here in
      let act = acts (high s f) f.code (omega arith) in
      let value = value_is (high s f) f.code (omega arith) in
      let sum : sum_of s (λ r. value_of r.word) f ≤ high s f * f.action.den =
      (ceiling_is_least (high s f) (sum_of s (λ r. value_of r.word) f) f.action.den (positive f there)).0 (omega arith) in
      let until = upper_until g v w s f (is_found f there) in
      let here : action_value (ground_process g) (λ t. value_of (seen_upper w t)) f.code s ≤ high s f * (ground_process g).den =
      (upper_by_own_den g problem (λ t. value_of (seen_upper w t)) f.code f.action s (high s f) (is_found f there).here).1 (omega arith) in record {
        covers_quit = λ _ none. absurd (none_is_not_some f.code (sym none ∙ act));
        is_open = λ a _ is. subst (λ k. Contains ((ground_process g).choices s) k) (some_is f.code a (sym act ∙ is)) (found_is_open f there);
        covers_step = λ a _ is. subst (λ k. action_value (ground_process g) (λ t. value_of (seen_upper w t)) k s ≤ value_of (act_word s f) * (ground_process g).den)
            (some_is f.code a (sym act ∙ is))
            (subst (λ n. action_value (ground_process g) (λ t. value_of (seen_upper w t)) f.code s ≤ n * (ground_process g).den) (sym value) here);
      }

  pub upper_follows : IsSupported g (seen_upper w) s (least_word g.penalty s found)
  upper_follows = record {
    at_goal = λ on. absurd (both_ways ((ground_process g).goal s) off on);
    follows = ⊎_elim
        (λ quit. subst (λ x. IsUpperFrom (ground_process g) (λ t. value_of (seen_upper w t)) s (act_of x) (value_of x)) (sym quit) quit_follows)
        (λ t. subst (λ x. IsUpperFrom (ground_process g) (λ t. value_of (seen_upper w t)) s (act_of x) (value_of x)) (sym t.2) (act_follows t.0 t.1))
        (min_with_is_least (quit_word g.penalty) (act_word s) found).one_of_them;
  }

  pub can_raise : LowerByEnough → (id : ℕ) → w.problem ≡ g → knows w id → IsTrue (has_state w id s) → CanRaise w id (least_low g.penalty s found)
  can_raise law id same known has =
      (known, (s, has, subst (λ (p : Ground). IsLowerFrom (ground_process p) (seen_lower w) s (least_low g.penalty s found)) (sym same) (lower_follows law)))

  -- ---- no number that follows from what was seen before is better

  above_each : (n : ℕ) → n ≤ g.penalty → ((f : Found) → Contains found f → n ≤ low s f) → n ≤ least_low g.penalty s found
  above_each n top all = ⊎_elim
      (λ is. omega arith)
      (λ t. let here = all t.0 t.1 in let is = t.2 in omega arith)
      (min_with_is_least g.penalty (low s) found).one_of_them

  pub lower_is_backed : lower_backup (ground_process g) (seen_lower v) s ≤ least_low g.penalty s found
  lower_is_backed =
      let n : ℕ = lower_backup (ground_process g) (seen_lower v) s in
      let follows = lower_backup_follows (ground_process g) (seen_lower v) s in
      above_each n (follows.within_quit off) (λ f there.
      let step = follows.within_step f.code off (found_is_open f there) in
      let own = (lower_by_own_den g problem (seen_lower v) f.code f.action s n (is_found f there).here).0 step in
      let since = lower_since g v w s f (is_found f there) in
      (floor_is_greatest n (sum_of s (λ r. r.lower) f) f.action.den (positive f there)).1 (omega arith))

  by_quit : value_of (least_word g.penalty s found) ≤ g.penalty
  by_quit =
      let top = value_rises (least_word g.penalty s found) (quit_word g.penalty) (min_with_is_least (quit_word g.penalty) (act_word s) found).within_top in
      let is = value_is g.penalty GIVE_UP (omega arith) in omega arith

  by_act : (f : Found) → Contains found f
      → value_of (least_word g.penalty s found) ≤ upper_candidate (ground_process g) (λ t. value_of (seen_upper v t)) f.code s
  by_act f there =
      let x : ℕ = action_value (ground_process g) (λ t. value_of (seen_upper v t)) f.code s in
      let n : ℕ = upper_candidate (ground_process g) (λ t. value_of (seen_upper v t)) f.code s in
      let step : x ≤ n * (ground_process g).den = (ceiling_is_least n x (ground_process g).den (den_positive g problem)).0 (omega arith) in
      let own = (upper_by_own_den g problem (λ t. value_of (seen_upper v t)) f.code f.action s n (is_found f there).here).0 step in
      let since = upper_since g v w s f (is_found f there) in
      let within : high s f ≤ n = (ceiling_is_least n (sum_of s (λ r. value_of r.word) f) f.action.den (positive f there)).1 (omega arith) in
      let small = code_within g problem f.code f.action (is_found f there).here in
      let value = value_is (high s f) f.code (omega arith) in
      let under = value_rises (least_word g.penalty s found) (act_word s f) ((min_with_is_least (quit_word g.penalty) (act_word s) found).within_each f there) in omega arith

  pub upper_is_backed : UpperByEnough → value_of (least_word g.penalty s found) ≤ upper_backup (ground_process g) (λ t. value_of (seen_upper v t)) s
  upper_is_backed law =
      let n : ℕ = value_of (least_word g.penalty s found) in
      subst (λ m. n ≤ m) (law g s codes enough off (λ t. value_of (seen_upper v t)))
      (⊎_elim
      (λ is. let quit = by_quit in omega arith)
      (λ t. let at = found_of t.0 t.1 in
      let own : n ≤ upper_candidate (ground_process g) (λ t. value_of (seen_upper v t)) t.0 s
      = subst (λ k. n ≤ upper_candidate (ground_process g) (λ t. value_of (seen_upper v t)) k s) at.2 (by_act at.0 at.1) in
      let is = t.2 in omega arith)
      (min_with_is_least g.penalty (λ k. upper_candidate (ground_process g) (λ t. value_of (seen_upper v t)) k s) codes).one_of_them)

-- ---- at a goal nothing is left to narrow

pub goal_is_backed : (g : Ground) (v w : View) (s : State) → w.problem ≡ g → (ground_process g).goal s ≡ true → IsBackedUp g v w s
goal_is_backed g v w s same on =
    let lower : lower_backup (ground_process g) (seen_lower v) s ≡ 0
    = ap (λ b. cond b 0 (min_with g.penalty (λ a. lower_candidate (ground_process g) (seen_lower v) a s) ((ground_process g).choices s))) on in
    let first : seen_upper w s ≤ first_word g s = subst (λ (p : Ground). seen_upper w s ≤ first_word p s) same (seen_within_first w s) in
    let is = first_at_goal g s on in record { lower = omega arith; upper = omega arith }

-- ---- a backup of what was seen later is one of what was seen before

pub narrows_earlier : (g : Ground) (u v w : View) (id : ℕ) → IsLater u v → Narrows g v w id → Narrows g u w id
narrows_earlier g u v w id later narrows s had =
    let is = narrows s (later.states id s had) in
    let low = lower_backup_rises (ground_process g) (seen_lower u) (seen_lower v) s (λ _ a _ o _. later.lower o.next) in
    let high = upper_backup_rises (ground_process g) (λ t. value_of (seen_upper v t)) (λ t. value_of (seen_upper u t)) s
    (λ _ a _ o _. value_rises (seen_upper v o.next) (seen_upper u o.next) (later.upper o.next)) in
    let lower = is.lower in let upper = is.upper in record { lower = omega arith; upper = omega arith }
