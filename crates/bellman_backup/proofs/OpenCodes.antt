-- The action of an open code, as it is read.
use Rattle.std.proofs.Common.{◌≡◌, ℕ, ◌<◌, Some, List, length, get_or, refl, sym, ap, ◌∙◌, subst}
use Rattle.std.specs.List.{slice_get}
use Rattle.std.proofs.lemmas.Option.{slice_get_read}
use Rattle.ground_model.specs.declared.action.Choice.{Choice}
use Rattle.ground_model.specs.declared.action.GroundAction.{GroundAction}
use Rattle.ground_model.specs.Packed.{State}
use Rattle.ground_model.specs.Ground.{Ground}
use Rattle.ground_model.specs.Invariant.{IsGroundProblem}
use Rattle.ground_step.specs.Steps.{choices_at, choices_of}
use Rattle.applicable_actions.specs.distinct.Enough.{AreEnough}
use Rattle.applicable_actions.proofs.lemmas.distinct.Opens.{open_action}
use Rattle.word_table.specs.declared.view.View.{View}
use Rattle.word_table.specs.view.Laws.{HasMore}
use Rattle.word_table.specs.Seen.{Board, Knowledge}
use Rattle.bellman_backup.specs.Backups.{Keeps}
use Rattle.bellman_backup.specs.Choosing.{IsOpenState}
use Rattle.bellman_backup.specs.Totals.{IsUsable, IsUsableAt}
use Rattle.bellman_backup.proofs.Stepping.{problem_of, action_is_usable, open_later, open_code_is_inside, code_is_open}

module _ (b : Board) (s : State) (codes : List ℕ) (enough : AreEnough b.problem s codes) (i : ℕ) (within : i < length codes)
    (p : Ground) (same : p ≡ b.problem) (all : List GroundAction) (are : all ≡ p.actions) where
  abbrev code : ℕ
  code = get_or codes i 0

  actions_are : all ≡ b.problem.actions
  actions_are = are ∙ ap (λ (q : Ground). q.actions) same

  pub code_is_inside : code < length all
  code_is_inside = subst (λ (xs : List GroundAction). code < length xs) (sym actions_are)
      (open_code_is_inside b.problem s code (code_is_open b.problem s codes i enough within))

  module _ (a : GroundAction) (read : a ≡ get_or all code a) where
    pub action_of_code : slice_get b.problem.actions code ≡ Some a
    action_of_code = subst (λ (xs : List GroundAction). slice_get xs code ≡ Some a) actions_are (slice_get_read all (length all) code a refl code_is_inside read)

    pub open_action_is_usable : (k l : Knowledge) → IsGroundProblem p → IsOpenState b.problem k.view s → Keeps b k l → IsUsable b.problem l.view s a
    open_action_is_usable k l valid is keeps =
        action_is_usable b.problem (subst IsGroundProblem same valid) l.view s code a (problem_of b l keeps.here)
        (open_later b.problem k.view l.view s keeps.noted is) (code_is_open b.problem s codes i enough within) action_of_code

-- ---- the choices of an open code

module _ (g : Ground) (s : State) (codes : List ℕ) (enough : AreEnough g s codes) (i : ℕ) (within : i < length codes) where
  pub open_code_within : get_or codes i 0 < length g.actions
  open_code_within = open_code_is_inside g s (get_or codes i 0) (code_is_open g s codes i enough within)

  pub choices_are_usable : (v w : View) (cs : List Choice) → IsGroundProblem g → w.problem ≡ g → HasMore v w → IsOpenState g v s
      → cs ≡ choices_of g (get_or codes i 0) → IsUsableAt g w s (get_or codes i 0) cs
  choices_are_usable v w cs valid same more is are =
      let opens = code_is_open g s codes i enough within in
      let found = open_action g s (get_or codes i 0) opens in record {
        action = found.0;
        here = found.1;
        choices = are ∙ ap choices_at found.1;
        usable = action_is_usable g valid w s (get_or codes i 0) found.0 same (open_later g v w s more is) opens found.1;
      }
