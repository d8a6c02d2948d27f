-- Levels in a list that grows.
use Rattle.std.proofs.Common.{◌≡◌, ◌≢◌, ℕ, zero, suc, ◌+◌, ◌≤◌, ◌<◌, inl, inr, ⊎_elim, List, [], ◌∷◌, ◌++◌, length, take, Some, None, slice_index_or, sym, ap, ◌∙◌, subst, arith, append_assoc}
use Rattle.std.specs.Prelude.{Contains, ◌↔◌}
use Rattle.std.proofs.lemmas.List.{length-append, take-append-le, append-nil as append_nil, get_or-take, take_more, length-take-le}
use Rattle.std.proofs.lemmas.List.Elements.{Contains-append_left, Contains-append_cases}
use Rattle.std.proofs.Math.Seq.{take-length}
use mathlib.Core.Logic.{dite}
use native.Mathlib.Decide.{dec_le, ℕ_discrete}
use Rattle.plain_list.proofs.Members.{Contains-cons_cases, Contains-nil}
use Rattle.decision_process.specs.Process.{Process, Start}
use Rattle.decision_process.specs.Levels.{near, successors}
use Rattle.decision_process.specs.sweeps.Laws.{states_of}
use Rattle.decision_process.proofs.lemmas.sweeps.Near.{start_is_near, successor_is_near, near_is_start_or_successor, near_grows}
use Rattle.trial_workers.specs.explorer.Found.{Grows}
use Rattle.trial_workers.specs.explorer.Explored.{AreLevels}
use Rattle.trial_workers.specs.explorer.Exploring.{Exploring}
use Rattle.trial_workers.proofs.lemmas.explorer.Distinct.{AreDistinct, distinct_within}

not_past : (e d : ℕ) → (suc d ≤ e → ⊥) → e ≤ d
not_past e d h = dite (dec_le e d) (λ k. k) (λ k. absurd (h (omega arith)))

module _ {S : Type 0} where
  take_within : (n : ℕ) (l : List S) → n ≤ length l → length (take n l) ≡ n
  take_within n l h = length-take-le n l h

  -- the item behind the first ones
  taken_next : (l : List S) (next : ℕ) (s : S) → next < length l → slice_index_or l next s ≡ s → take (next + 1) l ≡ take next l ++ s ∷ []
  taken_next l next s within at = take_more l next s within ∙ ap (λ u. take next l ++ u ∷ []) at

  taken_later : (l : List S) (next level : ℕ) (s : S) → next < level → level ≤ length l → slice_index_or l next s ≡ s → Contains (take level l) s
  taken_later l next level s early within at = (next, omega (arith, take_within level l within), get_or-take level l next s early ∙ at)

module _ {S A : Type 0} (p : Process S A) (starts : List (Start S)) (most : ℕ) where
  pub begins : (l : List S) → AreDistinct l → l ≡ states_of starts → length l ≤ most → Exploring p starts most 0 (length l) 1 l
  begins l differ is few = record {
    differ = differ;
    first = ([], is ∙ sym (append_nil (states_of starts)));
    next_within = omega arith;
    level_within = omega arith;
    few = few;
    positive = omega arith;
    done = λ s. (
      (λ h. start_is_near p starts s (subst (λ k. Contains k s) (take-length l ∙ is) h)),
      (λ h. subst (λ k. Contains k s) (sym (take-length l ∙ is ∙ sym (append_nil (states_of starts)))) h),
    );
    within = λ s h. near_grows p starts 1 2 (omega arith) s (start_is_near p starts s (subst (λ k. Contains k s) is h));
    expanded = λ s h. absurd (Contains-nil s h);
  }

  module _ (next level depth : ℕ) (l : List S) (e : Exploring p starts most next level depth l) where
    -- a state of near depth + 1 is a start, or follows one of near depth, which was gone through
    all_listed : next ≡ level → (t : S) → Contains (near p starts (suc depth)) t → Contains l t
    all_listed complete t inside = elim (near_is_start_or_successor p starts depth t inside) [
      | inl start ↦ subst (λ k. Contains k t) (sym e.first.1) (Contains-append_left (states_of starts) e.first.0 t start)
      | inr later ↦ e.expanded later.0 (subst (λ n. Contains (take n l) later.0) (sym complete) ((e.done later.0).1 later.1)) t later.2
    ]

    level_up : next ≡ level → Exploring p starts most next (length l) (suc depth) l
    level_up complete = record {
      differ = e.differ;
      first = e.first;
      next_within = let h = e.level_within in omega arith;
      level_within = omega arith;
      few = e.few;
      positive = omega arith;
      done = λ s. (
        (λ h. e.within s (subst (λ k. Contains k s) (take-length l) h)),
        (λ h. subst (λ k. Contains k s) (sym (take-length l)) (all_listed complete s h)),
      );
      within = λ s h. near_grows p starts (suc depth) (suc (suc depth)) (omega arith) s (e.within s h);
      expanded = e.expanded;
    }

    -- where the next state is the first behind the level, the level behind is complete
    pub reaches : (level' depth' : ℕ) → next < length l → (next ≡ level → (level' ≡ length l) × (depth' ≡ suc depth))
        → (next ≢ level → (level' ≡ level) × (depth' ≡ depth)) → Exploring p starts most next level' depth' l × (next < level')
    reaches level' depth' more up same = dite (ℕ_discrete next level)
        (λ h. let r = up h in (
          subst (λ n. Exploring p starts most next n depth' l) (sym r.0) (subst (λ n. Exploring p starts most next (length l) n l) (sym r.1) (level_up h)),
          omega (arith, r.0),
        ))
        (λ h. let r = same h in (
          subst (λ n. Exploring p starts most next n depth' l) (sym r.0) (subst (λ n. Exploring p starts most next level n l) (sym r.1) e),
          (let w = e.next_within in let q = r.0 in omega arith),
        ))

    module _ (l' : List S) (s : S) (early : next < level) (at : slice_index_or l next s ≡ s) (g : Grows most (successors p s) l l') where
      -- what is listed for a state of near depth is in near depth + 1
      near_more : (t : S) → Contains l' t → Contains (near p starts (suc depth)) t
      near_more t inside =
          let here : Contains (near p starts depth) s = (e.done s).0 (taken_later l next level s early e.level_within at) in
          ⊎_elim (e.within t) (λ i. successor_is_near p starts depth s t here (g.within t i))
          (Contains-append_cases l g.more t (subst (λ k. Contains k t) g.is inside))

      still_first : (n : ℕ) → n ≤ length l → take n l' ≡ take n l
      still_first n within = ap (take n) g.is ∙ take-append-le n l g.more within

      first_more : (more : List S) × (l' ≡ states_of starts ++ more)
      first_more = (e.first.0 ++ g.more, g.is ∙ (ap (λ k. k ++ g.more) e.first.1 ∙ append_assoc (states_of starts) e.first.0 g.more))

      done_more : (t : S) → Contains (take level l') t ↔ Contains (near p starts depth) t
      done_more t = subst (λ k. Contains k t ↔ Contains (near p starts depth) t) (sym (still_first level e.level_within)) (e.done t)

      long_more : length l' ≡ length l + length g.more
      long_more = ap length g.is ∙ length-append l g.more

      pub goes_on : AreDistinct l' → length l' ≤ most → Exploring p starts most (next + 1) level depth l'
      goes_on differ few = record {
        differ = differ;
        first = first_more;
        next_within = omega arith;
        level_within = let h = e.level_within in let k = long_more in omega arith;
        few = few;
        positive = e.positive;
        done = done_more;
        within = near_more;
        expanded = λ r inside t follows.
            let within : next < length l = let h = e.level_within in omega arith in
            let taken : take (next + 1) l' ≡ take next l ++ s ∷ [] = still_first (next + 1) (omega arith) ∙ taken_next l next s within at in
            ⊎_elim (λ before. subst (λ k. Contains k t) (sym g.is) (Contains-append_left l g.more t (e.expanded r before t follows)))
            (λ last. ⊎_elim (λ same. g.all few t (subst (λ u. Contains (successors p u) t) (sym same) follows)) (λ none. absurd (Contains-nil r none))
            (Contains-cons_cases s [] r last))
            (Contains-append_cases (take next l) (s ∷ []) r (subst (λ k. Contains k r) taken inside));
      }

      -- with more than most, the level before is the last that fits
      pub stops : AreDistinct l' → most < length l' → AreLevels p starts most l' level (Some depth)
      stops differ past = record {
        differ = differ;
        reached = λ t h. (suc depth, near_more t h);
        first = first_more;
        few = g.few (let h = e.few in omega arith);
        within = let h = e.level_within in let k = long_more in omega arith;
        fits = (
          (take level l, (let h = e.few in let k = e.level_within in let w = take_within level l e.level_within in omega arith), λ t h. (e.done t).1 h),
          (λ f at_most. not_past f depth (λ deeper.
              let n : length l' ≤ length at_most.0 = distinct_within l' at_most.0 differ (λ t h. at_most.2 t (near_grows p starts (suc depth) f deeper t (near_more t h))) in
              let m = at_most.1 in omega arith)),
        );
        deep = let h = e.positive in omega arith;
        are = done_more;
      }

  module _ (level depth : ℕ) (l : List S) (e : Exploring p starts most (length l) level depth l) where
    all_reached : (d : ℕ) (t : S) → Contains (near p starts d) t → Contains l t
    all_reached zero t inside = absurd (Contains-nil t inside)
    all_reached (suc d) t inside = elim (near_is_start_or_successor p starts d t inside) [
      | inl start ↦ subst (λ k. Contains k t) (sym e.first.1) (Contains-append_left (states_of starts) e.first.0 t start)
      | inr later ↦ e.expanded later.0 (subst (λ k. Contains k later.0) (sym (take-length l)) (all_reached d later.0 later.1)) t later.2
    ]

    -- where all listed states are gone through, they are all that can be reached
    pub ends : AreLevels p starts most l (length l) None
    ends = record {
      differ = e.differ;
      reached = λ t h. (suc depth, e.within t h);
      first = e.first;
      few = let h = e.few in omega arith;
      within = omega arith;
      fits = (l, e.few, λ t h. all_reached h.0 t h.1);
      deep = tt;
      are = λ t. (
        (λ h. (suc depth, e.within t (subst (λ k. Contains k t) (take-length l) h))),
        (λ h. subst (λ k. Contains k t) (sym (take-length l)) (all_reached h.0 t h.1)),
      );
    }

-- each level has a state of its own
pub deeper : (next level depth listed level' depth' : ℕ) → next < listed → depth ≤ level + 1
    → (next ≡ level → (level' ≡ listed) × (depth' ≡ suc depth)) → (next ≢ level → (level' ≡ level) × (depth' ≡ depth)) → depth' ≤ level' + 1
deeper next level depth listed level' depth' more h up same =
    dite (ℕ_discrete next level) (λ e. let r = up e in omega (arith, r.0, r.1)) (λ n. let r = same n in omega (arith, r.0, r.1))
