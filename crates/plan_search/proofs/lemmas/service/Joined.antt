-- The server's pass, split from the first one and joined into worker 0's.
use Rattle.std.proofs.Common.{◌≡◌, ◌-◌, List, sym, ◌∙◌, subst}
use Rattle.ground_model.specs.Packed.{State}
use Rattle.ground_model.specs.Ground.{Ground}
use Rattle.word_table.specs.view.Laws.{HasMore}
use Rattle.word_table.specs.view.Steps.{united, without_rights}
use Rattle.word_table.proofs.lemmas.view.Noting.{united_is_more}
use Rattle.word_table.specs.Seen.{Board, Knowledge, knowledge, IsOf, with_rights}
use Rattle.kept_transitions.specs.Rows.{Transitions}
use Rattle.bellman_backup.specs.Kept.{KeepsStates}
use Rattle.trial_workers.specs.Workers.{HasListed}
use Rattle.trial_workers.proofs.Passes.{same_rights}

pub still_listed : (states : List State) (k l : Knowledge) → l ≡ knowledge k.table (with_rights (k.view.rights - 0) k.view) → HasListed states k.view
    → HasListed states l.view
still_listed states k l is has = subst (λ (m : Knowledge). HasListed states m.view) (sym (is ∙ same_rights k)) has

-- the pass that is split off has them too
pub split_listed : (states : List State) (k l : Knowledge) → l ≡ knowledge k.table (with_rights 0 (without_rights k.view)) → HasListed states k.view
    → HasListed states l.view
split_listed states k l is has = subst (λ (m : Knowledge). HasListed states m.view) (sym is) has

pub still_kept : (g : Ground) (t : Transitions) (k l : Knowledge) → l ≡ knowledge k.table (with_rights (k.view.rights - 0) k.view) → KeepsStates g k.view t
    → KeepsStates g l.view t
still_kept g t k l is keeps = subst (λ (m : Knowledge). KeepsStates g m.view t) (sym (is ∙ same_rights k)) keeps

module _ (b : Board) (k s l : Knowledge) (here : IsOf b k) (there : IsOf b s) (is : l ≡ knowledge k.table (united k.view s.view)) where
  pub joined_is_here : IsOf b l
  joined_is_here = subst (IsOf b) (sym is)
      (record { table = here.table; view = record { live = here.view.live; problem = here.view.problem; layout = here.view.layout } })

  pub joined_has_both : HasMore k.view l.view × HasMore s.view l.view
  joined_has_both = subst (λ (m : Knowledge). HasMore k.view m.view × HasMore s.view m.view) (sym is)
      (united_is_more k.view s.view (there.view.problem ∙ sym here.view.problem) (there.view.layout ∙ sym here.view.layout))
