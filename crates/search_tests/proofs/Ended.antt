-- The image of a table that was opened and closed.
use Rattle.std.proofs.Common.{◌≡◌, Some, sym, subst}
use Rattle.std.specs.List.{slice_get}
use Rattle.ground_model.specs.Ground.{Ground}
use Rattle.bound_core.specs.declared.image.Image.{Image}
use Rattle.bound_core.specs.ends.Closing.{IsClosing, HasStartsFirst}
use Rattle.trial_workers.proofs.Counting.{starts_first}
use Rattle.plan_search.specs.declared.solver.opening.Opening.{Opening}
use Rattle.plan_search.specs.declared.solver.sizes.Sizes.{Sizes}
use Rattle.plan_search.specs.solver.Opened.{IsOpened}
use Rattle.plan_search.specs.solver.Ended.{IsEnded}

module _ (g : Ground) (sizes : Sizes) (o : Opening) (opened : IsOpened g sizes o) (image : Image) (ended : IsEnded o.words o.pass.view image) where
  pub opened_is_closing : IsClosing g image.rows
  opened_is_closing = subst (λ (q : Ground). IsClosing q image.rows) opened.problem ended.closing

  pub opened_has_starts : HasStartsFirst g image.rows
  opened_has_starts place x there =
      ended.first opened.states opened.has place x.state
      (subst (λ l. slice_get l place ≡ Some x.state) (sym opened.listed.first.1) (starts_first g.starts opened.listed.first.0 place x there))
