-- What the server leaves beside the rounds.
--     HasRun b k l old new served
--                                a run of the server, and the sink's count of faults
use Rattle.std.specs.Prelude.{◌≡◌, cond}
use Rattle.shelf_io.specs.Causes.{one_more}
use Rattle.word_table.specs.Seen.{Board, Knowledge}
use Rattle.policy_server.specs.declared.served.Served.{Served}
use Rattle.policy_server.specs.Serving.{is_write_fault, IsRun}
use Rattle.plan_search.specs.service.Served.{Streams}

pub record HasRun (b : Board) (k l : Knowledge) (old new : Streams) (served : Served) : Type 0 where
  pub run : IsRun b k l old.source new.source old.taken new.taken served
  pub faults : new.faults ≡ cond (is_write_fault served.end) (one_more old.faults) old.faults
