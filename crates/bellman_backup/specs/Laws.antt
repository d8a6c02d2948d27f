-- What a view keeps, as a statement.
--     KeptIsKeptLater            what a view keeps is kept by a view that has noted more
use Rattle.ground_model.specs.Ground.{Ground}
use Rattle.word_table.specs.declared.view.View.{View}
use Rattle.word_table.specs.view.Laws.{HasMore}
use Rattle.kept_transitions.specs.Rows.{Transitions}
use Rattle.bellman_backup.specs.Kept.{KeepsStates}

abbrev pub KeptIsKeptLater : Type 0
KeptIsKeptLater = (g : Ground) (t : Transitions) (v w : View) → HasMore v w → KeepsStates g v t
    → KeepsStates g w t
