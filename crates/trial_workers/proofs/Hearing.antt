-- Meetings, one worker after another.
use Rattle.std.proofs.Common.{◌≡◌, ℕ, zero, suc, ◌+◌, ◌<◌, ◌≤◌, List, [], ◌∷◌, length, get_or, slice_set, refl, sym, ap, ◌∙◌, subst, arith}
use Rattle.std.proofs.lemmas.List.{length-set, get_or-set_same, get_or-set_other, set-get_or}
use mathlib.Core.Logic.{dite}
use native.Mathlib.Decide.{ℕ_discrete}
use Rattle.word_table.specs.declared.view.View.{View}
use Rattle.word_table.specs.view.Laws.{HasMore}
use Rattle.word_table.specs.Seen.{Board, Knowledge, IsOf}
use Rattle.bellman_backup.specs.Races.{has_more_again}
use Rattle.trial_workers.specs.declared.parts.Division.{Division}
use Rattle.trial_workers.specs.declared.worker.Worker.{Worker}
use Rattle.trial_workers.specs.Workers.{Stays}
use Rattle.trial_workers.specs.Rounds.{with_pass, IsPrepared, HaveMet}

pub any_default : {X : Type 0} (l : List X) (i : ℕ) (d e : X) → i < length l → get_or l i d ≡ get_or l i e
any_default [] i d e below = absurd (omega arith)
any_default (x ∷ l) zero d e below = refl
any_default (x ∷ l) (suc i) d e below = any_default l i d e (omega arith)

-- ---- before the parts

pub record Preparing (b : Board) (d : Division) (v : View) (os ns : List Worker) (i : ℕ) (news : Knowledge) : Type 0 where
  pub long : length ns ≡ length os
  pub done : (k : ℕ) (e : Worker) → k < i → IsPrepared b d v k (get_or os k e) (get_or ns k e)
  pub left : (k : ℕ) (e : Worker) → i ≤ k → k < length os → get_or ns k e ≡ get_or os k e
  pub here : IsOf b news
  pub noted : HasMore v news.view

pub one_prepared : (b : Board) (d : Division) (v : View) (os ns : List Worker) (i : ℕ) (news : Knowledge) (w n : Worker) → i < length os → Preparing b d v os ns i news
    → IsPrepared b d news.view i (get_or ns i w) n → Preparing b d v os (slice_set ns i n) (i + 1) news
one_prepared b d v os ns i news w n below so p = record {
  long = length-set ns i n ∙ so.long;
  done = λ k e before. dite (ℕ_discrete k i)
      (λ here.
      let new : get_or (slice_set ns i n) i e ≡ n = get_or-set_same ns i n e (let l = so.long in omega arith) in
      let old : get_or ns i w ≡ get_or os i e = any_default ns i w e (let l = so.long in omega arith) ∙ so.left i e (omega arith) below in
      let is : IsPrepared b d v i (get_or os i e) (get_or (slice_set ns i n) i e) =
      subst (λ x. IsPrepared b d v i (get_or os i e) x) (sym new) (subst (λ x. IsPrepared b d v i x n) old
      (record { stays = p.stays; heard = has_more_again v news.view n.pass.view so.noted p.heard; part = p.part })) in
      subst (λ j. IsPrepared b d v j (get_or os j e) (get_or (slice_set ns i n) j e)) (sym here) is)
      (λ other. subst (λ x. IsPrepared b d v k (get_or os k e) x) (sym (get_or-set_other ns i k n e other)) (so.done k e (omega arith)));
  left = λ k e from inside. get_or-set_other ns i k n e (λ same. absurd (omega arith)) ∙ so.left k e (omega arith) inside;
  here = so.here;
  noted = so.noted;
}

-- ---- behind the parts

pub record Gathering (b : Board) (os ns : List Worker) (i : ℕ) (news : Knowledge) : Type 0 where
  pub same : ns ≡ os
  pub here : IsOf b news
  pub heard : (k : ℕ) (e : Worker) → k < i → HasMore (get_or os k e).pass.view news.view

pub one_heard : (b : Board) (os ns : List Worker) (i : ℕ) (news more : Knowledge) (w : Worker) (p : Knowledge) → i < length os → Gathering b os ns i news
    → Stays b news more → HasMore (get_or ns i w).pass.view more.view → p ≡ (get_or ns i w).pass
    → Gathering b os (slice_set ns i (with_pass p (get_or ns i w))) (i + 1) more
one_heard b os ns i news more w p below so stays heard kept = record {
  same =
      (let put : with_pass p (get_or ns i w) ≡ get_or ns i w = (λ t. with_pass (kept t) (get_or ns i w)) in
      ap (slice_set ns i) put ∙ set-get_or ns i w ∙ so.same);
  here = stays.here;
  heard = λ k e before. dite (ℕ_discrete k i)
      (λ here.
      let old : get_or ns i w ≡ get_or os i e = any_default ns i w e (let l = ap (λ (x : List Worker). length x) so.same in omega arith) ∙ ap (λ (x : List Worker). get_or x i e) so.same in
      subst (λ j. HasMore (get_or os j e).pass.view more.view) (sym here) (subst (λ (x : Worker). HasMore x.pass.view more.view) old heard))
      (λ other. has_more_again (get_or os k e).pass.view news.view more.view (so.heard k e (omega arith)) stays.noted);
}

met_first : (b : Board) (os : List Worker) (news k : Knowledge) (w : Worker) → 0 < length os → Stays b (get_or os 0 w).pass k → HasMore news.view k.view
    → ((j : ℕ) (e : Worker) → j < length os → HasMore (get_or os j e).pass.view news.view) → HaveMet b os (slice_set os 0 (with_pass k (get_or os 0 w)))
met_first b [] news k w some stays more heard = absurd (omega arith)
met_first b (o ∷ os) news k w some stays more heard =
    (stays, refl, refl, λ j e below. has_more_again (get_or (o ∷ os) j e).pass.view news.view k.view (heard j e below) more)

pub gathering_ends : (b : Board) (os ns : List Worker) (i : ℕ) (news k : Knowledge) (w : Worker) → 0 < length os → length os ≤ i → Gathering b os ns i news
    → Stays b (get_or ns 0 w).pass k → HasMore news.view k.view → HaveMet b os (slice_set ns 0 (with_pass k (get_or ns 0 w)))
gathering_ends b os ns i news k w some past so stays more =
    subst (λ l. HaveMet b os (slice_set l 0 (with_pass k (get_or l 0 w)))) (sym so.same)
    (met_first b os news k w some (subst (λ l. Stays b (get_or l 0 w).pass k) so.same stays) more (λ j e below. so.heard j e (omega arith)))
