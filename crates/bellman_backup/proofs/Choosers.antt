-- The best of the actions that were read so far.
use Rattle.std.proofs.Common.{◌≡◌, ℕ, ◌<◌, ◌≤◌, min, List, [], ◌∷◌, ◌++◌, refl, sym, ap, ◌∙◌, inl, inr, ⊎_elim, append_assoc, arith}
use Rattle.std.specs.Prelude.{All, Contains, flat_map}
use Rattle.std.proofs.lemmas.List.{map-append}
use Rattle.std.proofs.lemmas.List.Elements.{All-nil, All-push, All-weaker, All-contains_itself}
use Rattle.std.proofs.lemmas.Grind.{flat_map-append}
use mathlib.Core.Logic.{dite}
use native.Mathlib.Decide.{dec_le}
use Rattle.std.proofs.lemmas.List.{append-nil}
use Rattle.decision_process.specs.Process.{min_with}
use Rattle.decision_process.proofs.Choice.{min_with_is_least}
use Rattle.ground_model.specs.Packed.{State}
use Rattle.ground_model.specs.Ground.{Ground}
use Rattle.bound_core.specs.Numbers.{quit_word}
use Rattle.word_table.specs.declared.view.View.{View}
use Rattle.word_table.specs.view.Laws.{IsLater}
use Rattle.word_table.specs.rule.Told.{HasOneEach}
use Rattle.brtdp_trial.specs.declared.step.Step.{Step}
use Rattle.brtdp_trial.specs.declared.step.TheConstants.{GIVE_UP}
use Rattle.brtdp_trial.specs.Meaning.{Last}
use Rattle.brtdp_trial.specs.Listed.{no_action, last_in}
use Rattle.bellman_backup.specs.declared.best.Best.{Best}
use Rattle.bellman_backup.specs.Readings.{IsReading, IsRead, loads_in}
use Rattle.bellman_backup.specs.Candidates.{Found, low, act_word, answer_of, least_low, least_word, IsAnswer}
use Rattle.bellman_backup.specs.Backups.{IsFound}
use Rattle.bellman_backup.specs.Choosing.{IsReadAction, HasChosen}
use Rattle.bellman_backup.proofs.NextRead.{Grows, grows_all, read_stays, reading_is}
use Rattle.bellman_backup.proofs.Summing.{zip_weaker, loads_joined}
use Rattle.ground_model.specs.Choices.{next_state}

min_swap : (a b c : ℕ) → min a (min b c) ≡ min b (min a c)
min_swap a b c = omega arith

pub least_more : {A : Type 0} (top : ℕ) (f : A → ℕ) (xs : List A) (x : A) → min_with top f (xs ++ x ∷ []) ≡ min (f x) (min_with top f xs)
least_more top f [] x = refl
least_more top f (y ∷ ys) x = ap (min (f y)) (least_more top f ys x) ∙ min_swap (f y) (f x) (min_with top f ys)

pub least_within_each : {A : Type 0} (top : ℕ) (f : A → ℕ) (xs : List A) (x : A) → Contains xs x → min_with top f xs ≤ f x
least_within_each top f xs x there = (min_with_is_least top f xs).within_each x there

-- ---- the answer

module _ (p : ℕ) (s : State) (found : List Found) (f : Found) (last last' : Last) (is : IsAnswer p s found last) where
  stays : least_low p s found ≤ low s f → last' ≡ last → IsAnswer p s (found ++ f ∷ []) last'
  stays over same =
      let more = least_more p (low s) found f in
      let least : least_low p s (found ++ f ∷ []) ≡ least_low p s found = omega arith in
      ⊎_elim
      (λ quits. inl (least ∙ quits.0, same ∙ quits.1))
      (λ best. inr (record {
        before = best.before;
        best = best.best;
        behind = best.behind ++ f ∷ [];
        split = ap (λ xs. xs ++ f ∷ []) best.split ∙ append_assoc best.before (best.best ∷ best.behind) (f ∷ []);
        least = best.least ∙ sym least;
        below = best.below;
        first = best.first;
        answer = same ∙ best.answer;
      }))
      is

  improves : low s f < least_low p s found → last' ≡ answer_of f → IsAnswer p s (found ++ f ∷ []) last'
  improves under same =
      let more = least_more p (low s) found f in
      let top = (min_with_is_least p (low s) found).within_top in inr (record {
        before = found;
        best = f;
        behind = [];
        split = refl;
        least = omega arith;
        below = omega arith;
        first = All-weaker (Contains found) (λ e. low s f < low s e)
            (λ e there. let within = least_within_each p (low s) found e there in omega arith) found (All-contains_itself found);
        answer = same;
      })

  pub answer_goes_on : (low s f < least_low p s found → last' ≡ answer_of f) → (least_low p s found ≤ low s f → last' ≡ last)
      → IsAnswer p s (found ++ f ∷ []) last'
  answer_goes_on better same = dite (dec_le (least_low p s found) (low s f))
      (λ over. stays over (same over))
      (λ under. let below : low s f < least_low p s found = omega arith in improves below (better below))

-- ---- one action more

pub found_stays : (g : Ground) (u v w x : View) (s : State) (f : Found) → Grows u v → Grows w x → IsReadAction g v w s f → IsReadAction g u x s f
found_stays g u v w x s f before after is = record {
  here = is.here;
  readings = zip_weaker (λ c r. IsRead g v w (next_state s c) r) (λ c r. IsRead g u x (next_state s c) r) f.action.choices f.readings
      (λ c r h. read_stays g u v w x (next_state s c) r before after h) is.readings;
}

pub none_chosen : (g : Ground) (v : View) (s : State) (b : Best) (chosen : List Step) → b.lower ≡ g.penalty → b.word ≡ least_word g.penalty s []
    → last_in b.code b.den chosen ≡ no_action GIVE_UP → HasChosen g v v s [] chosen b
none_chosen g v s b chosen lower word answer = record {
  found = [];
  codes_are = refl;
  each = All-nil (IsReadAction g v v s);
  loads = refl;
  lower = lower;
  word = word;
  answer = inl (refl, answer);
}

module _ (g : Ground) (u v w : View) (s : State) (before : Grows u v) (after : Grows v w) where
  pub chosen_more : (codes : List ℕ) (chosen chosen' : List Step) (b b' : Best) (f : Found) → HasChosen g u v s codes chosen b
      → IsReadAction g v w s f → w.loads ≡ loads_in f.readings ++ v.loads
      → b'.lower ≡ min (low s f) b.lower → b'.word ≡ min (act_word s f) b.word
      → (b'.lower < b.lower → last_in b'.code b'.den chosen' ≡ answer_of f)
      → (b.lower ≤ b'.lower → last_in b'.code b'.den chosen' ≡ last_in b.code b.den chosen)
      → HasChosen g u w s (codes ++ f.code ∷ []) chosen' b'
  chosen_more codes chosen chosen' b b' f has is loads lower word better same =
      let all : List Found = has.found in record {
        found = all ++ f ∷ [];
        codes_are = map-append (λ (e : Found). e.code) all (f ∷ []) ∙ ap (λ xs. xs ++ f.code ∷ []) has.codes_are;
        each = All-push (IsReadAction g u w s) all f
            (All-weaker (IsReadAction g u v s) (IsReadAction g u w s) (λ e. found_stays g u u v w s e (grows_all u) after) all has.each)
            (found_stays g u v w w s f before (grows_all w) is);
        loads = loads ∙ ap (λ ls. loads_in f.readings ++ ls) has.loads
            ∙ sym (append_assoc (loads_in f.readings) (loads_in (flat_map (λ (e : Found). e.readings) all)) u.loads)
            ∙ ap (λ ls. ls ++ u.loads) (sym (loads_joined (flat_map (λ (e : Found). e.readings) all) f.readings))
            ∙ ap (λ rs. loads_in rs ++ u.loads) (sym (flat_map-append (λ (e : Found). e.readings) all (f ∷ [])
            ∙ ap (λ rs. flat_map (λ (e : Found). e.readings) all ++ rs) (append-nil f.readings)));
        lower = lower ∙ ap (min (low s f)) has.lower ∙ sym (least_more g.penalty (low s) all f);
        word = word ∙ ap (min (act_word s f)) has.word ∙ sym (least_more (quit_word g.penalty) (act_word s) all f);
        answer = answer_goes_on g.penalty s all f (last_in b.code b.den chosen) (last_in b'.code b'.den chosen') has.answer
            (λ under. better (omega arith)) (λ over. same (omega arith));
      }

-- ---- by states

pub are_found : (g : Ground) (v w : View) (s : State) → v.problem ≡ g → IsLater v w → HasOneEach w → (found : List Found) → All (IsReadAction g v w s) found
    → All (IsFound g v w s) found
are_found g v w s same later one found each = All-weaker (IsReadAction g v w s) (IsFound g v w s) (λ f is. record {
  here = is.here;
  readings = zip_weaker (λ c r. IsRead g v w (next_state s c) r) (λ c r. IsReading g v w (next_state s c) r) f.action.choices f.readings
      (λ c r h. reading_is g v w same later one (next_state s c) r h) is.readings;
}) found each
