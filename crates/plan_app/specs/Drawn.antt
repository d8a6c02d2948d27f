-- What is so of the graph that was written.
--     AreReachedInTask g task charges c states
--                              each of these packed states stands for a state of the task that the acts of the certificate reach from a
--                              start
--     PutsDrawn d t f now old new
--                              the text of the graph of the policy of the certificate of these bytes is held now, and its report was put:
--                              the certificate is balanced for the ground problem of the texts, which stands for their task, encloses
--                              the cost of the task, and its policy ends; and what is drawn are such states
use Rattle.std.specs.Prelude.{◌≡◌, ℕ, Contains, List, Option, Ok}
use Rattle.std.specs.Io.KnownBytes.{Appends}
use Rattle.shelf_io.specs.Shelf.{Told, Holds}
use Rattle.certificate.specs.Content.{Content}
use Rattle.certificate_check.specs.Claims.{IsBalancedFor}
use Rattle.decision_process.specs.Enclosing.{Encloses}
use Rattle.decision_process.specs.Readings.{act}
use Rattle.ppddl_model.specs.declared.tree.Task.{Task}
use Rattle.ppddl_model.specs.State.{same_state}
use Rattle.ppddl_model.specs.Steps.{Charges, process, starts, start_den}
use Rattle.ground_model.specs.Ground.{Ground}
use Rattle.ground_model.specs.Packed as packed
use Rattle.ground_meaning.specs.stands.Stands.{state_of}
use Rattle.policy_graph.specs.declared.graph.PolicyGraph.{PolicyGraph}
use Rattle.policy_graph.specs.Graph.{IsGraphOf, states_in}
use Rattle.policy_graph.specs.Reached.{IsReached}
use Rattle.policy_graph.specs.Text.{graph_report, graph_text}
use Rattle.plan_request.specs.Asked.{Drawing}
use Rattle.plan_sources.specs.declared.texts.Texts.{Texts}
use Rattle.plan_sources.specs.Problems.{problem_of}
use Rattle.plan_sources.specs.Laws.{StandsForTexts}
use Rattle.plan_app.specs.certificates.Named.{names_certificate}
use Rattle.plan_app.specs.Verdicts.{IsDecoded, PolicyEnds}

abbrev pub AreReachedInTask : Ground → Task → Charges → Content → List packed.State → Type 0
AreReachedInTask g task charges c states = (s : packed.State) → Contains states s
    → IsReached (process task charges) (act same_state (names_certificate task c).rows) (starts task) (state_of g task s)

pub record PutsDrawn (d : Drawing) (t : Texts) (f : List ℕ) (now : Told) (old new : Option (List ℕ)) : Type 0 where
  pub g : Ground
  pub c : Content
  pub problem : problem_of d.sources t ≡ Ok g
  pub decoded : IsDecoded f c
  pub balanced_for : IsBalancedFor g c
  pub graph : PolicyGraph
  pub is_graph : IsGraphOf g c d.states graph
  pub holds : now ≡ Holds (graph_text g graph)
  pub put : Appends old new (graph_report g graph)
  -- of the task
  pub of_task : StandsForTexts d.sources t g
  pub encloses : Encloses (process of_task.task of_task.charges) (starts of_task.task) (start_den of_task.task)
      c.lower c.upper (act same_state (names_certificate of_task.task c).rows)
  pub ends : PolicyEnds of_task.task of_task.charges c
  pub reached : AreReachedInTask g of_task.task of_task.charges c (states_in graph.nodes)
