-- From what was loaded to all open actions: one that was left out does the same as one with a lower code, and has its readings. So the least numbers are
-- the same, and so is the answer.
use Rattle.std.proofs.Common.{◌≡◌, ℕ, ◌<◌, ◌≤◌, List, [], ◌∷◌, ◌++◌, map, refl, sym, ap, ◌∙◌, subst, inl, inr, ◌⊎◌, ⊎_elim, arith}
use Rattle.std.specs.Prelude.{All, AllPairs, Contains}
use Rattle.std.specs.List.{slice_get, AllZip}
use Rattle.std.proofs.lemmas.Option.{same_Some}
use Rattle.std.proofs.lemmas.List.Elements.{All-nil, All-cons, All-weaker, All-contains, All-contains_itself, Contains-append_left, Contains-append_right}
use mathlib.Core.Logic.{dite}
use native.Mathlib.Decide.{ℕ_discrete}
use Rattle.plain_list.proofs.Members.{Contains-first, Contains-later, Contains-cons_cases, Contains-nil, Contains-map, Contains-map_cases}
use Rattle.plain_list.proofs.Related.{AllPairs-head, AllPairs-tail}
use Rattle.fixed_round.specs.Means.{weighted}
use Rattle.fixed_round.specs.Words.{value_of}
use Rattle.decision_process.specs.Process.{min_with}
use Rattle.decision_process.specs.Backup.{floor, ceiling}
use Rattle.decision_process.proofs.Choice.{min_with_cases, min_with_is_least}
use Rattle.ground_model.specs.declared.action.Choice.{Choice}
use Rattle.ground_model.specs.declared.action.GroundAction.{GroundAction}
use Rattle.ground_model.specs.Packed.{State}
use Rattle.ground_model.specs.Choices.{next_state}
use Rattle.ground_model.specs.Ground.{Ground}
use Rattle.ground_model.specs.Steps.{ground_process}
use Rattle.applicable_actions.specs.distinct.Enough.{HasOneLike, AreEnough}
use Rattle.applicable_actions.proofs.lemmas.distinct.Opens.{opens_rise}
use Rattle.bound_core.specs.Numbers.{quit_word}
use Rattle.word_table.specs.declared.view.View.{View}
use Rattle.brtdp_trial.specs.Meaning.{Last}
use Rattle.bellman_backup.specs.Readings.{Reading, IsReading, loads_in}
use Rattle.bellman_backup.specs.Candidates.{Found, StandsFor, HasOneFor, codes_of, readings_of, choice_weights, costs_in, sum_of, low, high, act_word}
use Rattle.bellman_backup.specs.Candidates.{least_low, least_word, IsFirstBest, IsAnswer}
use Rattle.bellman_backup.specs.Backups.{IsFound, AreFound}

-- ---- in rising order of codes

abbrev Rise : List Found → Type 0
Rise found = AllPairs (λ (j k : ℕ). j < k) (codes_of found)

rise_head : (x : Found) (found : List Found) → Rise (x ∷ found) → (f : Found) → Contains found f → x.code < f.code
rise_head x found rise f there =
    AllPairs-head (λ (j k : ℕ). j < k) x.code (codes_of found) rise f.code (Contains-map (λ (e : Found). e.code) found f there)

rise_tail : (x : Found) (found : List Found) → Rise (x ∷ found) → Rise found
rise_tail x found rise = AllPairs-tail (λ (j k : ℕ). j < k) x.code (codes_of found) rise

-- two of one code are one
one_of_code : (found : List Found) → Rise found → (e f : Found) → Contains found e → Contains found f → e.code ≡ f.code → e ≡ f
one_of_code [] rise e f here there same = absurd (Contains-nil e here)
one_of_code (x ∷ found) rise e f here there same = elim (Contains-cons_cases x found e here) [
  | inl first ↦ elim (Contains-cons_cases x found f there) [
    | inl second ↦ sym first ∙ second
    | inr later ↦
        let above = rise_head x found rise f later in let is = ap (λ (d : Found). d.code) first in
        absurd (omega arith)
  ]
  | inr earlier ↦ elim (Contains-cons_cases x found f there) [
    | inl second ↦
        let above = rise_head x found rise e earlier in let is = ap (λ (d : Found). d.code) second in
        absurd (omega arith)
    | inr later ↦ one_of_code found (rise_tail x found rise) e f earlier later same
  ]
]

module _ (b : Found) (behind : List Found) where
  stands_lower : (before : List Found) → Rise (before ++ b ∷ behind) → (f : Found) → Contains before f → f.code < b.code
  stands_lower [] rise f there = absurd (Contains-nil f there)
  stands_lower (x ∷ before) rise f there = elim (Contains-cons_cases x before f there) [
    | inl here ↦
        let above = rise_head x (before ++ b ∷ behind) rise b (Contains-append_right before (b ∷ behind) b (Contains-first b behind)) in
        let is = ap (λ (e : Found). e.code) here in omega arith
    | inr later ↦ stands_lower before (rise_tail x (before ++ b ∷ behind) rise) f later
  ]

  stands_before : (before : List Found) → Rise (before ++ b ∷ behind) → (f : Found) → Contains (before ++ b ∷ behind) f → f.code < b.code
      → Contains before f
  stands_before [] rise f there under = elim (Contains-cons_cases b behind f there) [
    | inl here ↦ let is = ap (λ (e : Found). e.code) here in absurd (omega arith)
    | inr later ↦ let above = rise_head b behind rise f later in absurd (omega arith)
  ]
  stands_before (x ∷ before) rise f there under = elim (Contains-cons_cases x (before ++ b ∷ behind) f there) [
    | inl here ↦ subst (λ e. Contains (x ∷ before) e) here (Contains-first x before)
    | inr later ↦ Contains-later x before f (stands_before before (rise_tail x (before ++ b ∷ behind) rise) f later under)
  ]

split_at : (found : List Found) (f : Found) → Contains found f → (before : List Found) × (behind : List Found) × (found ≡ before ++ f ∷ behind)
split_at [] f there = absurd (Contains-nil f there)
split_at (x ∷ found) f there = elim (Contains-cons_cases x found f there) [
  | inl here ↦ ([], found, ap (λ e. e ∷ found) here)
  | inr later ↦
      let rest : (before : List Found) × (behind : List Found) × (found ≡ before ++ f ∷ behind) = split_at found f later in
      (x ∷ rest.0, rest.1, ap (λ es. x ∷ es) rest.2)
]

-- ---- one reading that stands for another

stands_for_itself : (f : Found) → StandsFor f f
stands_for_itself f = record { action = record { condition = refl; choices = refl; den = refl }; readings = refl; not_above = omega arith }

module _ (s : State) (e f : Found) (is : StandsFor e f) where
  same_sum : (number : Reading → ℕ) → sum_of s number e ≡ sum_of s number f
  same_sum number =
      ap (λ (cs : List Choice). weighted (choice_weights cs) (costs_in s cs) (map number e.readings)) is.action.choices
      ∙ ap (λ (rs : List Reading). weighted (choice_weights f.action.choices) (costs_in s f.action.choices) (map number rs)) is.readings

  same_low : low s e ≡ low s f
  same_low = ap (λ n. floor n e.action.den) (same_sum (λ r. r.lower)) ∙ ap (floor (sum_of s (λ r. r.lower) f)) is.action.den

  same_high : high s e ≡ high s f
  same_high = ap (λ n. ceiling n e.action.den) (same_sum (λ r. value_of r.word)) ∙ ap (ceiling (sum_of s (λ r. value_of r.word) f)) is.action.den

  word_not_above : act_word s e ≤ act_word s f
  word_not_above = let same = same_high in let under = is.not_above in omega arith

-- ---- the least over a part that stands for all

module _ (found loaded : List Found) (part : All (Contains found) loaded) (all : All (HasOneFor loaded) found) where
  least_by_part : (top : ℕ) (number : Found → ℕ) → ((e f : Found) → StandsFor e f → number e ≤ number f)
      → min_with top number loaded ≡ min_with top number found
  least_by_part top number falls =
      let of_part = min_with_is_least top number loaded in let of_all = min_with_is_least top number found in
      let over : min_with top number loaded ≤ min_with top number found =
      min_with_cases (λ n. min_with top number loaded ≤ n) top number found of_part.within_top (λ f there.
      let by = All-contains (HasOneFor loaded) found f all there in
      let under = of_part.within_each by.0 by.1 in let is = falls by.0 f by.2 in omega arith) in
      let under : min_with top number found ≤ min_with top number loaded =
      min_with_cases (λ n. min_with top number found ≤ n) top number loaded of_all.within_top (λ e there.
      of_all.within_each e (All-contains (Contains found) loaded e part there)) in
      omega arith

  module _ (penalty : ℕ) (s : State) where
    pub same_least_low : least_low penalty s loaded ≡ least_low penalty s found
    same_least_low = least_by_part penalty (low s) (λ e f is. let same = same_low s e f is in omega arith)

    pub same_least_word : least_word penalty s loaded ≡ least_word penalty s found
    same_least_word = least_by_part (quit_word penalty) (act_word s) (word_not_above s)

    module _ (rise : Rise found) (rising : Rise loaded) (last : Last) where
      first_of_all : IsFirstBest penalty s loaded last → IsFirstBest penalty s found last
      first_of_all best =
          let b : Found = best.best in
          let inside : Contains loaded b = subst (λ es. Contains es b) (sym best.split)
          (Contains-append_right best.before (b ∷ best.behind) b (Contains-first b best.behind)) in
          let at = split_at found b (All-contains (Contains found) loaded b part inside) in record {
            before = at.0;
            best = b;
            behind = at.1;
            split = at.2;
            least = best.least ∙ same_least_low;
            below = best.below;
            first = All-weaker (Contains at.0) (λ f. low s b < low s f) (λ f there.
                let lower = stands_lower b at.1 at.0 (subst Rise at.2 rise) f there in
                let by = All-contains (HasOneFor loaded) found f all
                (subst (λ es. Contains es f) (sym at.2) (Contains-append_left at.0 (b ∷ at.1) f there)) in
                let under = by.2.not_above in
                let early = stands_before b best.behind best.before (subst Rise best.split rising) by.0
                (subst (λ es. Contains es by.0) best.split by.1) (omega arith) in
                let over = All-contains (λ e. low s b < low s e) best.before by.0 best.first early in
                let same = same_low s by.0 f by.2 in
                omega arith) at.0 (All-contains_itself at.0);
            answer = best.answer;
          }

      pub same_answer : IsAnswer penalty s loaded last → IsAnswer penalty s found last
      same_answer is = ⊎_elim (λ quits. inl (sym same_least_low ∙ quits.0, quits.1)) (λ best. inr (first_of_all best)) is

-- ---- what was read of each open action

abbrev OfCode : List Found → ℕ → Type 0
OfCode loaded k = (e : Found) × Contains loaded e × (e.code ≡ k)

of_code_or_none : (loaded : List Found) (k : ℕ) → OfCode loaded k ⊎ (OfCode loaded k → ⊥)
of_code_or_none [] k = inr (λ own. Contains-nil own.0 own.1)
of_code_or_none (x ∷ loaded) k = dite (ℕ_discrete x.code k)
    (λ same. inl (x, Contains-first x loaded, same))
    (λ other. ⊎_elim
    (λ own. inl (own.0, Contains-later x loaded own.0 own.1, own.2))
    (λ none. inr (λ own. ⊎_elim
    (λ here. other (ap (λ (f : Found). f.code) here ∙ own.2))
    (λ later. none (own.0, later, own.2))
    (Contains-cons_cases x loaded own.0 own.1)))
    (of_code_or_none loaded k))

-- one for each code
one_of_each : (P : Found → Type 0) (ks : List ℕ) → ((k : ℕ) → Contains ks k → (f : Found) × (f.code ≡ k) × P f)
    → (found : List Found) × (codes_of found ≡ ks) × All P found
one_of_each P [] each = ([], refl, All-nil P)
one_of_each P (k ∷ ks) each =
    let first = each k (Contains-first k ks) in
    let rest : (found : List Found) × (codes_of found ≡ ks) × All P found = one_of_each P ks (λ j there. each j (Contains-later k ks j there)) in (
      first.0 ∷ rest.0,
      ap (λ j. j ∷ codes_of rest.0) first.1 ∙ ap (λ js. k ∷ js) rest.1,
      All-cons P first.0 rest.0 first.2 rest.2,
    )

module _ (g : Ground) (v w : View) (s : State) (loaded : List Found) (enough : AreEnough g s (codes_of loaded))
    (each : All (IsFound g v w s) loaded) where
  -- it was loaded, where anything was by this code, or one that was loaded stands for it
  record IsKnown (f : Found) : Type 0 where
    pub is : IsFound g v w s f
    pub by : HasOneFor loaded f
    pub own : (e : Found) → Contains loaded e → e.code ≡ f.code → e ≡ f

  loaded_is_known : (f : Found) → Contains loaded f → IsKnown f
  loaded_is_known f there = record {
    is = All-contains (IsFound g v w s) loaded f each there;
    by = (f, there, stands_for_itself f);
    own = λ e inside same. one_of_code loaded enough.rising e f inside there same;
  }

  left_out_is_known : (k : ℕ) → HasOneLike g (codes_of loaded) k → (OfCode loaded k → ⊥) → (f : Found) × (f.code ≡ k) × IsKnown f
  left_out_is_known k has none =
      let at = Contains-map_cases (λ (f : Found). f.code) loaded has.code has.listed in
      let e : Found = at.0 in
      let f : Found = record { code = k; action = has.like.other; readings = e.readings } in
      let is = All-contains (IsFound g v w s) loaded e each at.1 in
      let same : e.action ≡ has.like.one =
      same_Some e.action has.like.one (sym is.here ∙ ap (slice_get g.actions) at.2 ∙ has.like.one_here) in
      let choices : e.action.choices ≡ f.action.choices = ap (λ (a : GroundAction). a.choices) same ∙ has.like.same.choices in (
        f,
        refl,
        record {
          is = record {
            here = has.like.other_here;
            readings = subst (λ (cs : List Choice). AllZip (λ c r. IsReading g v w (next_state s c) r) cs e.readings) choices is.readings;
          };
          by = (
            e,
            at.1,
            record {
              action = record {
                condition = ap (λ (a : GroundAction). a.condition) same ∙ has.like.same.condition;
                choices = choices;
                den = ap (λ (a : GroundAction). a.den) same ∙ has.like.same.den;
              };
              readings = refl;
              not_above = (let code = at.2 in let under = has.not_above in omega arith);
            },
          );
          own = λ d inside code. absurd (none (d, inside, code));
        },
      )

  open_is_known : (k : ℕ) → Contains ((ground_process g).choices s) k → (f : Found) × (f.code ≡ k) × IsKnown f
  open_is_known k inside = ⊎_elim
      (λ own. (own.0, own.2, loaded_is_known own.0 own.1))
      (λ none. left_out_is_known k (enough.each k inside) none)
      (of_code_or_none loaded k)

  loaded_is_part : (found : List Found) → codes_of found ≡ (ground_process g).choices s → All IsKnown found → All (Contains found) loaded
  loaded_is_part found codes known = All-weaker (Contains loaded) (Contains found) (λ e there.
      let inside = subst (λ ks. Contains ks e.code) (sym codes) (enough.are_open e.code (Contains-map (λ (f : Found). f.code) loaded e there)) in
      let at = Contains-map_cases (λ (f : Found). f.code) found e.code inside in
      let is = All-contains IsKnown found at.0 known at.1 in
      subst (λ f. Contains found f) (sym (is.own e there (sym at.2))) at.1) loaded (All-contains_itself loaded)

  pub record SpeakOfAll (penalty : ℕ) (last : Last) : Type 0 where
    pub found : List Found
    pub are : AreFound g v w s found
    pub lower : least_low penalty s loaded ≡ least_low penalty s found
    pub upper : least_word penalty s loaded ≡ least_word penalty s found
    pub answer : IsAnswer penalty s found last

  pub speak_of_all : (penalty : ℕ) (last : Last) → w.loads ≡ loads_in (readings_of loaded) ++ v.loads → IsAnswer penalty s loaded last
      → SpeakOfAll penalty last
  speak_of_all penalty last loads answer =
      let read = one_of_each IsKnown ((ground_process g).choices s) open_is_known in
      let found : List Found = read.0 in
      let part = loaded_is_part found read.1 read.2 in
      let all = All-weaker IsKnown (HasOneFor loaded) (λ f is. is.by) found read.2 in record {
        found = found;
        are = record {
          codes = read.1;
          each = All-weaker IsKnown (IsFound g v w s) (λ f is. is.is) found read.2;
          loaded = loaded;
          part = part;
          rising = enough.rising;
          all = all;
          loads = loads;
        };
        lower = same_least_low found loaded part all penalty s;
        upper = same_least_word found loaded part all penalty s;
        answer = same_answer found loaded part all penalty s
            (subst (AllPairs (λ (j k : ℕ). j < k)) (sym read.1) (opens_rise g s)) enough.rising last answer;
      }
