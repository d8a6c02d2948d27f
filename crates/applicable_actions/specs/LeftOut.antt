-- Actions of a problem but some that are left out.
--     Indexed                    a problem, and of each code whether its action is left out; codes behind the
--                                list are not
--     index_of g left_out        the problem g but those
--     is_left_out, is_kept       whether the action with a code is left out, and whether it is not
--     is_kept_open index k s     action k is open in s, and is not left out
--     kept_choices index s       the codes of the open actions that are not left out, in rising order
use Rattle.std.specs.Prelude.{ℕ, Bool, false, not, ◌&&◌, List, filter, slice_index_or}
use Rattle.ground_model.specs.Packed.{State}
use Rattle.ground_model.specs.Ground.{Ground}
use Rattle.ground_model.specs.Steps.{is_open, ground_process}

pub record Indexed : Type 0 where
  pub problem : Ground
  pub left_out : List Bool

abbrev pub index_of : Ground → List Bool → Indexed
index_of g left_out = record { problem = g; left_out = left_out }

abbrev pub is_left_out : List Bool → ℕ → Bool
is_left_out left_out k = slice_index_or left_out k false

abbrev pub is_kept : List Bool → ℕ → Bool
is_kept left_out k = not (is_left_out left_out k)

abbrev pub is_kept_open : Indexed → ℕ → State → Bool
is_kept_open index k s = is_open index.problem k s && is_kept index.left_out k

abbrev pub kept_choices : Indexed → State → List ℕ
kept_choices index s = filter (is_kept index.left_out) ((ground_process index.problem).choices s)
