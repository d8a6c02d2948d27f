-- What is said of walks under a certificate.
--     walk_numbered w g c i       the walk with this number that a request asks for: of the ground problem, under the policy of the
--                                 certificate, by draws of the request's seed
--     walks_by g policy w         those of a policy, numbered from 0
--     walks_under w g c           those of the certificate's
--     walked_text w g c           their report
use Rattle.std.specs.Prelude.{ℕ, List, map}
use Rattle.std.specs.List.{range_with_len}
use Rattle.brtdp_trial.specs.Draws.{draw_of}
use Rattle.certificate.specs.Content.{Content}
use Rattle.ground_model.specs.Ground.{Ground}
use Rattle.plan_request.specs.Asked.{Walking}
use Rattle.policy_walk.specs.declared.ends.Walk.{Walk}
use Rattle.policy_walk.specs.Policies.{Policy, act_in}
use Rattle.policy_walk.specs.Walks.{walk}
use Rattle.policy_walk.specs.Reports.{walks_text}

abbrev pub walks_by : Ground → Policy → Walking → List Walk
walks_by g policy w = map (λ i. walk g policy (draw_of w.seed i) w.steps) (range_with_len 0 w.walks)

module _ (w : Walking) (g : Ground) (c : Content) where
  abbrev pub walk_numbered : ℕ → Walk
  walk_numbered i = walk g (act_in g c) (draw_of w.seed i) w.steps

  abbrev pub walks_under : List Walk
  walks_under = walks_by g (act_in g c) w

  abbrev pub walked_text : List ℕ
  walked_text = walks_text walks_under
