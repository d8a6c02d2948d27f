-- What is kept stays so.
use Rattle.std.proofs.Common.{◌≡◌, ℕ, zero, suc, ◌+◌, true, false, cond, Some, List, ◌++◌, take, get_or, ap, subst, sym, arith}
use Rattle.std.specs.Prelude.{Bool, replicate}
use Rattle.std.specs.List.{slice_get}
use Rattle.ground_model.specs.declared.action.Choice.{Choice}
use Rattle.ground_model.specs.declared.action.GroundAction.{GroundAction}
use Rattle.ground_model.specs.Packed.{State}
use Rattle.ground_model.specs.Choices.{next_state}
use Rattle.ground_model.specs.Ground.{Ground}
use Rattle.kept_transitions.specs.declared.kept_action.KeptAction.{KeptAction}
use Rattle.kept_transitions.specs.declared.kept_row.KeptRow.{KeptRow}
use Rattle.kept_transitions.specs.Idle.{is_idle, moving}
use Rattle.kept_transitions.specs.Rows.{Transitions, IsKept, untried, never, new_kept, row_of}
use Rattle.kept_transitions.specs.Meaning.{LeadsTo, IsKeptAction, IsKeptAt, AreKept, IsKeptState, AreKeptStates, HasGrown}
use Rattle.kept_transitions.proofs.Growth.{slice_get_more}

none_of : (n id : ℕ) → IsKept (get_or (replicate n untried) id never) → ⊥
none_of zero id kept = omega arith
none_of (suc n) zero kept = omega arith
none_of (suc n) (suc id) kept = none_of n id kept

pub new_keeps_nothing : (R : State → ℕ → Type 0) (g : Ground) (ids : ℕ) → AreKeptStates R g (new_kept ids)
new_keeps_nothing R g ids id kept = absurd (none_of ids id kept)

kept_id_still : (own : ℕ) (ids later : List ℕ) (place id : ℕ) (idle : Bool) → cond idle (Some own) (slice_get ids place) ≡ Some id
    → cond idle (Some own) (slice_get (ids ++ later) place) ≡ Some id
kept_id_still own ids later place id true is = is
kept_id_still own ids later place id false is = slice_get_more ids later place id is

module _ (R T : State → ℕ → Type 0) (same : (s : State) (id : ℕ) → R s id → T s id) where
  module _ (s : State) (own : ℕ) (ids later : List ℕ) where
    pub leads_still : (place : ℕ) (c : Choice) → LeadsTo R s own ids place c → LeadsTo T s own (ids ++ later) place c
    leads_still place c leads = (leads.0, kept_id_still own ids later place leads.0 (is_idle c) leads.1, same (next_state s c) leads.0 leads.2)

    pub action_still : (a : GroundAction) (k : KeptAction) → IsKeptAction R s own ids a k → IsKeptAction T s own (ids ++ later) a k
    action_still a k is = record { cost = is.cost; next = λ i c here. leads_still (k.first + moving (take i a.choices)) c (is.next i c here) }

    pub at_still : (g : Ground) (code : ℕ) (k : KeptAction) → IsKeptAt R s own g ids code k → IsKeptAt T s own g (ids ++ later) code k
    at_still g code k is = record { code_is = is.code_is; action = is.action; here = is.here; kept = action_still is.action k is.kept }

  pub are_kept_still : (g : Ground) (t u : Transitions) (row : KeptRow) → HasGrown t u → (s : State) (own : ℕ) → AreKept R s own g t row
      → AreKept T s own g u row
  are_kept_still g t u row grown s own is = record {
    codes = is.codes;
    enough = is.enough;
    count = is.count;
    each = λ i below. let e = is.each i below in (
      e.0,
      subst (λ (xs : List KeptAction). slice_get xs (row.first + i) ≡ Some e.0) (sym grown.actions)
          (slice_get_more t.actions grown.more_actions (row.first + i) e.0 e.1),
      subst (λ (xs : List ℕ). IsKeptAt T s own g xs (get_or is.codes i 0) e.0) (sym grown.ids)
          (at_still s own t.ids grown.more_ids g (get_or is.codes i 0) e.0 e.2),
    );
  }

  pub state_still : (g : Ground) (id : ℕ) (t u : Transitions) (row : KeptRow) → HasGrown t u → IsKeptState R g id t row → IsKeptState T g id u row
  state_still g id t u row grown is = record {
    state = is.state;
    is = same is.state id is.is;
    off_goal = is.off_goal;
    actions = are_kept_still g t u row grown is.state id is.actions;
  }

  pub kept_still : (g : Ground) (t u : Transitions) → HasGrown t u → AreKeptStates R g t → AreKeptStates T g u
  kept_still g t u grown are id kept =
      let is : row_of u id ≡ row_of t id = ap (λ (rs : List KeptRow). get_or rs id never) grown.rows in
      subst (IsKeptState T g id u) (sym is) (state_still g id t u (row_of t id) grown (are id (subst IsKept is kept)))
