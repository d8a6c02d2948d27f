-- What is answered of a search beside which a server answers queries.
--     stop_of end                   what stops a run where a server ends by a fault of its source or of its sink
--     KeepsEach g c replies         the certificate is no wider at a state than any reply that tells of it
--     IsServiceOf g effort sizes replies a
--                                   a search found this certificate and tells this, and no reply is narrower than the certificate
--     MayAnswer g effort sizes replies r
--                                   the same, or such a certificate has a text above its greatest length
--     AnswersBehind g effort sizes stop replies r
--                                   how a search ends behind these replies, by the fault that stopped its server, if one did
--     EndsServing g effort sizes old new r
--                                   a server has answered, and the search ends so, or for want of memory
-- Source: sub- and super-solutions of the Bellman equation (decision_process).
use Rattle.std.specs.Prelude.{◌≡◌, ◌⊎◌, List, Option, Some, None, Result, Err, MatchResult}
use Rattle.std.specs.List.{AllByRecursion}
use Rattle.certificate.specs.Content.{Content}
use Rattle.certificate_check.specs.Claims.{ground_certificate}
use Rattle.ground_model.specs.Ground.{Ground}
use Rattle.plan_request.specs.declared.effort.Effort.{Effort}
use Rattle.plan_request.specs.declared.sizes.Sizes.{Sizes}
use Rattle.plan_request.specs.declared.stop.Stop.{Stop}
use Rattle.plan_request.specs.declared.stop.Stop.TheVariants.{NoMemory, ReadFailed, WriteFailed}
use Rattle.policy_server.specs.declared.serve_end.ServeEnd.{ServeEnd}
use Rattle.policy_server.specs.declared.serve_end.ServeEnd.TheVariants as ends
use Rattle.policy_server.specs.declared.served.Served.{Served}
use Rattle.policy_server.specs.Replies.{Reply}
use Rattle.plan_search.specs.service.Served.{Streams, HasServed, IsKept}
use Rattle.plan_search.specs.declared.answer.Answer.{Answer}
use Rattle.plan_search.specs.Answers.{IsAnswerOf, IsTooLong}

abbrev pub stop_of : ServeEnd → Option Stop
stop_of ends.Input = None
stop_of ends.Queries = None
stop_of ends.LongLine = None
stop_of ends.ReadFault = Some ReadFailed
stop_of ends.WriteFault = Some WriteFailed

-- no reply tells of a narrower interval than the certificate does
abbrev pub KeepsEach : Ground → Content → List Reply → Type 0
KeepsEach g c replies = AllByRecursion (IsKept g (ground_certificate g c).rows) replies

module _ (g : Ground) (effort : Effort) (sizes : Sizes) where
  pub record IsServiceOf (replies : List Reply) (a : Answer) : Type 0 where
    pub is_answer : IsAnswerOf g effort sizes a
    pub kept : KeepsEach g is_answer.content replies

  abbrev pub MayAnswer : List Reply → Result Answer Stop → Type 0
  MayAnswer replies r = MatchResult r (IsServiceOf replies) (IsTooLong g effort sizes)

  abbrev pub AnswersBehind : Option Stop → List Reply → Result Answer Stop → Type 0
  AnswersBehind None replies r = MayAnswer replies r
  AnswersBehind (Some stop) replies r = r ≡ Err stop

  pub record EndsServing (old new : Streams) (r : Result Answer Stop) : Type 0 where
    pub served : Served
    pub replies : List Reply
    pub has : HasServed g sizes.sweep_states old new served replies
    pub ends : (r ≡ Err NoMemory) ⊎ AnswersBehind (stop_of served.end) replies r
