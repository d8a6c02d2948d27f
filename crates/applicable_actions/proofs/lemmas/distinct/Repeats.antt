-- Marks that are put one behind another.
use Rattle.std.proofs.Common.{◌≡◌, inl, inr, ℕ, ◌-◌, ◌<◌, Bool, true, false, List, [], ◌∷◌, ◌++◌, length, get_or, refl, sym, subst, ◌∙◌, arith}
use Rattle.std.proofs.lemmas.Bool.{cases_lt, false≢true}
use Rattle.std.proofs.lemmas.List.{length_push, get_or_push, get_or_past, get_or_append_left}
use Rattle.std.proofs.lemmas.Option.{slice_get_read}
use Rattle.ground_model.specs.declared.action.GroundAction.{GroundAction}
use Rattle.applicable_actions.specs.distinct.Enough.{DoTheSame, RepeatsLast}
use Rattle.applicable_actions.specs.distinct.Repeats.{AreRepeats}

pub repeats_more : (actions : List GroundAction) (marks : List Bool) (mark : Bool) → AreRepeats actions marks
    → (mark ≡ true → RepeatsLast actions (length marks)) → AreRepeats actions (marks ++ mark ∷ [])
repeats_more actions marks mark are one k marked = elim (cases_lt k (length marks)) [
  | inl before ↦ are k (sym (get_or_append_left marks (mark ∷ []) false k before) ∙ marked)
  | inr not_before ↦ elim (cases_lt (length marks) k) [
    | inl past ↦
        absurd (false≢true (sym (get_or_past (marks ++ mark ∷ []) k false (omega (arith, past, length_push marks mark))) ∙ marked))
    | inr not_past ↦
        let last : length marks ≡ k = omega (arith, not_before, not_past) in
        subst (RepeatsLast actions) last (one (sym (get_or_push marks mark false k last) ∙ marked))
  ]
]

pub repeats_last : (actions : List GroundAction) (code : ℕ) (one other : GroundAction) → 0 < code → code < length actions
    → one ≡ get_or actions (code - 1) one → other ≡ get_or actions code other → DoTheSame one other → RepeatsLast actions code
repeats_last actions code one other behind within one_is other_is same = record {
  last = code - 1;
  before = omega arith;
  like = record {
    one = one;
    other = other;
    one_here = slice_get_read actions (length actions) (code - 1) one refl (omega arith) one_is;
    other_here = slice_get_read actions (length actions) code other refl within other_is;
    same = same;
  };
}
