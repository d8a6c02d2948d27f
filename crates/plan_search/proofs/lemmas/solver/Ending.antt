-- What a table hands out is what is known of all states.
use Rattle.std.proofs.Common.{◌≡◌, ℕ, Some, List, length, get_or, ap, arith}
use Rattle.std.specs.Prelude.{is_some}
use Rattle.std.specs.List.{slice_get}
use Rattle.std.proofs.lemmas.Option.{slice_get-get_or, slice_get_within}
use Rattle.ground_model.specs.Packed.{State}
use Rattle.bound_core.specs.declared.image.Image.{Image}
use Rattle.bound_core.proofs.Numbers.{value_rises}
use Rattle.word_table.specs.declared.view.View.{View}
use Rattle.word_table.specs.view.Views.{seen_upper}
use Rattle.word_table.specs.Seen.{Board}
use Rattle.word_table.specs.Closed.{IsImage}
use Rattle.trial_workers.specs.Workers.{HasListed}
use Rattle.plan_search.specs.solver.Ended.{HasFirstRows, IsEnded}
use Rattle.plan_search.proofs.lemmas.solver.Rows.{row_here, rising_first}
use Rattle.plan_search.proofs.lemmas.solver.Reading.{low_is, high_is, rows_are_closing}

module _ (b : Board) (v : View) (image : Image) (is : IsImage b v image) where
  -- states that the pass has with their places as ids have the first rows
  first_rows : (states : List State) → HasListed states v → HasFirstRows image.rows states
  first_rows states has k s there =
      let state_of : (id : ℕ) (t : State) → slice_get states id ≡ Some t → is.core.state_of id ≡ Some t
      = λ id t at. let had = has id t at in is.known id t had.0 had.1 in
      let within = slice_get_within states k s there in
      let first : slice_get is.ids k ≡ Some k = rising_first (length states) is.ids is.rows.rise
      (λ id below. is.rows.all id (ap is_some (state_of id (get_or states id s) (slice_get-get_or states id s below)))) k within in
      row_here is.core is.ids image.rows is.rows k k s first (state_of k s there)

  pub image_is_ended : IsEnded b v image
  image_is_ended = record {
    closing = rows_are_closing b.problem is.problem is.core is.sound is.ids image.rows is.rows is.others;
    lower = λ s.
        let low = low_is b.problem is.problem is.core is.sound is.ids image.rows is.rows is.others s in let seen = is.lower s in omega arith;
    upper = λ s.
        let high = high_is b.problem is.problem is.core is.sound is.ids image.rows is.rows is.others s in
        let seen = value_rises (is.core.upper s) (seen_upper v s) (is.upper s) in omega arith;
    first = first_rows;
    few = (let same = is.given in let few = is.few in omega arith);
    given = (let same = is.given in let within = is.within.0 in omega arith);
    spares = (let same = is.given in let published = is.published in omega arith);
  }
