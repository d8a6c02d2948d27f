-- Kept transitions stay kept, once more is noted and more is kept.
use Rattle.std.proofs.Common.{◌≡◌, ℕ, true, false, Some, List, [], refl, sym, ◌∙◌, subst, arith}
use Rattle.std.specs.Prelude.{Bool, IsTrue, Option, None}
use Rattle.std.proofs.lemmas.List.{append-nil}
use Rattle.ground_model.specs.declared.action.GroundAction.{GroundAction}
use Rattle.ground_model.specs.Packed.{State}
use Rattle.ground_model.specs.Ground.{Ground}
use Rattle.ground_model.specs.Steps.{ground_process}
use Rattle.word_table.specs.declared.view.View.{View}
use Rattle.word_table.specs.view.Views.{knows, has_state}
use Rattle.word_table.specs.view.Laws.{HasMore}
use Rattle.word_table.proofs.lemmas.view.Seen.{more_is_later, has_state_more}
use Rattle.word_table.specs.Seen.{Knowledge}
use Rattle.state_interner.specs.Interned.{IsIdOf}
use Rattle.kept_transitions.specs.declared.kept_action.KeptAction.{KeptAction}
use Rattle.kept_transitions.specs.declared.kept_row.KeptRow.{KeptRow}
use Rattle.kept_transitions.specs.Rows.{Transitions, IsKept, new_kept, row_of, with_row}
use Rattle.kept_transitions.specs.Meaning.{HasGrown}
use Rattle.kept_transitions.proofs.Growth.{grown_all}
use Rattle.kept_transitions.proofs.Still.{new_keeps_nothing, action_still, state_still, kept_still}
use Rattle.kept_transitions.proofs.Rows.{kept_more}
use Rattle.bellman_backup.specs.Races.{has_all}
use Rattle.bellman_backup.specs.Kept.{IsKeptAction, IsKeptState, KeepsStates, IsKeeping}

-- ---- at first

pub new_is_keeping : (g : Ground) (witness : Option Knowledge) (n : ℕ) (t : Transitions) → t ≡ new_kept n → IsKeeping g witness t
new_is_keeping g witness n t is id kept =
    absurd (new_keeps_nothing (λ s i. ⊥) g n id (subst (λ (u : Transitions). IsKept (row_of u id)) is kept)).is

-- ---- later views

module _ (v w : View) (more : HasMore v w) where
  pub id_later : (t : State) (id : ℕ) → IsIdOf v t id → IsIdOf w t id
  id_later t id is = record {
    known = more.known id is.known;
    state = has_state_more v w more id t is.state;
    at_goal = λ on.
        let small = is.at_goal (subst (λ (p : Ground). (ground_process p).goal t ≡ true) more.problem on) in
        let later = (more_is_later v w more).noted_upper id in omega arith;
  }

  pub action_later : (s : State) (own : ℕ) (ids : List ℕ) (a : GroundAction) (k : KeptAction) → IsKeptAction v s own ids a k
      → IsKeptAction w s own ids a k
  action_later s own ids a k is =
      subst (λ xs. IsKeptAction w s own xs a k) (append-nil ids) (action_still (IsIdOf v) (IsIdOf w) id_later s own ids [] a k is)

  pub state_later : (g : Ground) (id : ℕ) (t u : Transitions) (row : KeptRow) → HasGrown t u → IsKeptState g v id t row → IsKeptState g w id u row
  state_later = state_still (IsIdOf v) (IsIdOf w) id_later

pub kept_is_kept_later : (g : Ground) (t : Transitions) (v w : View) → HasMore v w → KeepsStates g v t → KeepsStates g w t
kept_is_kept_later g t v w more = kept_still (IsIdOf v) (IsIdOf w) (id_later v w more) g t t (grown_all t)

-- ---- the id of a state that is no goal

not_both : (b : Bool) → b ≡ true → b ≡ false → ⊥
not_both b on off = cc

pub is_id_off_goal : (v : View) (g : Ground) (s : State) (id : ℕ) → v.problem ≡ g → (ground_process g).goal s ≡ false → knows v id → IsTrue (has_state v id s)
    → IsIdOf v s id
is_id_off_goal v g s id same off known has = record {
  known = known;
  state = has;
  at_goal = λ on. absurd (not_both ((ground_process g).goal s) (subst (λ (p : Ground). (ground_process p).goal s ≡ true) same on) off);
}

-- ---- a row more

pub keeps_more : (g : Ground) (v w : View) (t u : Transitions) (id : ℕ) (row : KeptRow) → HasMore v w → HasGrown t u → KeepsStates g v t
    → (IsKept row → IsKeptState g w id u row) → KeepsStates g w (with_row u id row)
keeps_more g v w t u id row more grown keeps new =
    kept_more (IsIdOf w) g u id row (kept_still (IsIdOf v) (IsIdOf w) (id_later v w more) g t u grown keeps) new

-- ---- a later witness

pub keeps_is_keeping : (g : Ground) (w : Knowledge) (t : Transitions) → KeepsStates g w.view t → IsKeeping g (Some w) t
keeps_is_keeping g w t keeps id kept = (w, refl, keeps id kept)

keeps_later : (g : Ground) (old : Option Knowledge) (w : Knowledge) (t : Transitions) → ((o : Knowledge) → old ≡ Some o → HasMore o.view w.view)
    → IsKeeping g old t → KeepsStates g w.view t
keeps_later g old w t stays keeping id kept =
    let own = keeping id kept in state_later own.0.view w.view (stays own.0 own.1) g id t t (row_of t id) (grown_all t) own.2

pub keeping_later : (g : Ground) (old : Option Knowledge) (w : Knowledge) (t : Transitions) → ((o : Knowledge) → old ≡ Some o → HasMore o.view w.view)
    → IsKeeping g old t → IsKeeping g (Some w) t
keeping_later g old w t stays keeping = keeps_is_keeping g w t (keeps_later g old w t stays keeping)

no_witness : (k : Knowledge) → None ≡ Some k → ⊥
no_witness k is = cc

-- without a witness nothing was kept
pub keeping_first : (g : Ground) (old : Option Knowledge) (w : Knowledge) (t : Transitions) → old ≡ None → IsKeeping g old t → IsKeeping g (Some w) t
keeping_first g old w t fresh keeping = keeping_later g old w t (λ o is. absurd (no_witness o (sym fresh ∙ is))) keeping

-- and a row more
pub keeping_more : (g : Ground) (old : Option Knowledge) (k w : Knowledge) (t u : Transitions) (id : ℕ) (row : KeptRow) → HasGrown t u → IsKeeping g old t
    → ((o : Knowledge) → old ≡ Some o → HasMore o.view w.view) → HasMore k.view w.view → (IsKept row → IsKeptState g k.view id u row)
    → IsKeeping g (Some w) (with_row u id row)
keeping_more g old k w t u id row grown keeping stays heard new =
    keeps_is_keeping g w (with_row u id row)
    (keeps_more g w.view w.view t u id row (has_all w.view) grown (keeps_later g old w t stays keeping)
    (λ kept. state_later k.view w.view heard g id u u row (grown_all u) (new kept)))
