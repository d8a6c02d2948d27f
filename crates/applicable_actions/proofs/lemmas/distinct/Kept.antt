-- The open actions that do not repeat the one before are enough.
use Rattle.std.proofs.Common.{inl, inr, ℕ, suc, zero, ◌<◌, Bool, not, List, ap, subst, arith, IsTrue}
use Rattle.std.specs.Prelude.{Contains}
use Rattle.std.proofs.lemmas.Bool.{cases_Bool}
use Rattle.std.proofs.lemmas.List.Kept.{AllPairs-filter}
use Rattle.ground_model.specs.Packed.{State}
use Rattle.ground_model.specs.Ground.{Ground}
use Rattle.ground_model.specs.Steps.{ground_process}
use Rattle.applicable_actions.specs.LeftOut.{index_of, is_left_out, is_kept, kept_choices}
use Rattle.applicable_actions.specs.distinct.Enough.{AreLike, HasOneLike, AreEnough}
use Rattle.applicable_actions.specs.distinct.Repeats.{AreRepeats}
use Rattle.applicable_actions.proofs.lemmas.distinct.Members.{Contains-filter, Contains-filter_cases}
use Rattle.applicable_actions.proofs.lemmas.distinct.Opens.{like_itself, like_through, opens_rise, open_action, like_is_open}

module _ (g : Ground) (s : State) (left_out : List Bool) (are : AreRepeats g.actions left_out) where
  abbrev opens : List ℕ
  opens = (ground_process g).choices s

  abbrev kept : List ℕ
  kept = kept_choices (index_of g left_out) s

  kept_or : (k : ℕ) → Contains opens k → (IsTrue (is_left_out left_out k) → HasOneLike g kept k) → HasOneLike g kept k
  kept_or k inside otherwise = elim (cases_Bool (is_left_out left_out k)) [
    | inl gone ↦ otherwise gone
    | inr stays ↦
        let found = open_action g s k inside in
        record {
          code = k;
          listed = Contains-filter (is_kept left_out) opens k inside (ap not stays);
          not_above = omega arith;
          like = like_itself g.actions k found.0 found.1;
        }
  ]

  -- the action before one that is left out is open too
  one_like : (k : ℕ) → Contains opens k → HasOneLike g kept k
  one_like zero inside = kept_or zero inside (λ gone. let before = (are zero gone).before in absurd (omega arith))
  one_like (suc last) inside = kept_or (suc last) inside (λ gone.
      let repeats = are (suc last) gone in
      let before = repeats.before in
      let like : AreLike g.actions last (suc last)
      = subst (λ j. AreLike g.actions j (suc last)) (omega arith) repeats.like in
      let found = one_like last (like_is_open g s last (suc last) like inside) in
      record {
        code = found.code;
        listed = found.listed;
        not_above = (let under = found.not_above in omega arith);
        like = like_through g.actions found.code last (suc last) found.like like;
      })

  pub kept_are_enough : AreEnough g s kept
  kept_are_enough = record {
    rising = AllPairs-filter (λ (j k : ℕ). j < k) (is_kept left_out) opens (opens_rise g s);
    are_open = λ k inside. (Contains-filter_cases (is_kept left_out) opens k inside).0;
    each = one_like;
  }
