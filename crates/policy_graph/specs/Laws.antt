-- The laws of graphs, as statements.
--     AllAreDrawn            a graph of which nothing is cut off has all states that the policy reaches
--     ReachIsCarried         what a policy reaches stands for what its counterpart reaches, in the process for which the policy's stands
use Rattle.std.specs.Prelude.{◌≡◌, ℕ, Bool, false, Option, List, Contains}
use Rattle.plain_list.specs.weighted.Chances.{IsExact}
use Rattle.decision_process.specs.Process.{Process, Start}
use Rattle.decision_process.specs.homomorphism.Homomorphism.{Mapping, IsHomomorphism, AreStartsOf, IsPolicyOf}
use Rattle.certificate.specs.Content.{Content}
use Rattle.certificate_check.specs.Laws.{act_in}
use Rattle.ground_model.specs.Packed as packed
use Rattle.ground_model.specs.Ground.{Ground}
use Rattle.ground_model.specs.Steps.{ground_process, ground_starts}
use Rattle.policy_graph.specs.declared.graph.PolicyGraph.{PolicyGraph}
use Rattle.policy_graph.specs.Graph.{states_in, IsGraphOf}
use Rattle.policy_graph.specs.Reached.{IsReached}
use Rattle.policy_graph.specs.Text.{is_cut}

abbrev pub AllAreDrawn : Type 0
AllAreDrawn = (g : Ground) (c : Content) (most : ℕ) (graph : PolicyGraph)
    → IsGraphOf g c most graph → is_cut g graph ≡ false
    → (s : packed.State) → IsReached (ground_process g) (act_in g c) (ground_starts g) s → Contains (states_in graph.nodes) s

module _ (S T A B : Type 0) where
  abbrev pub ReachIsCarried : Type 0
  ReachIsCarried = (p : Process S A) (q : Process T B) (m : Mapping S T A B)
      → IsHomomorphism p q m
      → (same : T → T → Bool) → IsExact same
      → (policy : S → Option A) (policy' : T → Option B) → IsPolicyOf p m policy policy'
      → (starts : List (Start S)) (den : ℕ) (starts' : List (Start T)) (den' : ℕ)
      → AreStartsOf m starts den starts' den'
      → (s : S) → IsReached p policy starts s → IsReached q policy' starts' (m.state s)
