-- What is written and put of the graph of a certificate's policy.
use Rattle.std.proofs.Common.{◌≡◌, ℕ, inl, inr, List, sym, ap, ◌∙◌, subst, arith, Option, Result, Ok, Err}
use Rattle.std.specs.Borrow.{Bor}
use Rattle.std.specs.Io.KnownBytes.{Appends}
use Rattle.shelf_io.specs.Shelf.{Told, Holds}
use Rattle.certificate.specs.Content.{Content}
use Rattle.certificate.specs.Laws.{TextsAreRead}
use Rattle.certificate_check.specs.Claims.{IsBalancedFor}
use Rattle.certificate_check.specs.Laws.{AcceptedIsBalanced, act_in}
use Rattle.decision_process.specs.Readings.{Certificate, act}
use Rattle.ppddl_model.specs.Laws.{WellFormedSums}
use Rattle.ppddl_model.specs.declared.tree.Task.{Task}
use Rattle.ppddl_model.specs.State.{State, same_state}
use Rattle.ppddl_model.specs.Steps.{Instance, Charges, process, starts, start_den}
use Rattle.ground_model.specs.Ground.{Ground}
use Rattle.ground_model.specs.Steps.{ground_process, ground_starts}
use Rattle.ground_meaning.specs.stands.Laws as stands
use Rattle.ground_meaning.specs.stands.Stands.{by_atoms, state_of, IsGroundOf}
use Rattle.policy_graph.specs.declared.graph.PolicyGraph.{PolicyGraph}
use Rattle.policy_graph.specs.Graph.{IsGraphOf, states_in}
use Rattle.policy_graph.specs.Reached.{IsReached}
use Rattle.policy_graph.specs.Text.{graph_report}
use Rattle.plan_request.specs.Asked.{Sources, Drawing, to_draw}
use Rattle.plan_request.specs.Laws.{AreTerms}
use Rattle.plan_request.specs.declared.stop.Stop.{Stop}
use Rattle.plan_request.specs.declared.stop.Stop.TheVariants.{BadWords, ReadFailed, WriteFailed, NoMemory, Refused, NotAccepted, SecondNotAccepted, Limit}
use Rattle.plan_request.specs.stop.Stop.{Ending, ending_status, ending_text, status_of}
use Rattle.policy_server.specs.Serving.{Input}
use Rattle.plan_sources.specs.declared.texts.Texts.{Texts}
use Rattle.plan_sources.specs.Problems.{problem_of}
use Rattle.plan_sources.specs.Laws.{HoldsTexts, OneProblemIsTold, TextsStopSo, ProblemStands}
use Rattle.plan_app.specs.certificates.Carried.{task_certificate}
use Rattle.plan_app.specs.certificates.Laws.{IsCarried, NamesAreCarried, TaskIsEnclosed, TaskPolicyEnds}
use Rattle.plan_app.specs.Drawing.{IsDrawAnswer}
use Rattle.plan_app.specs.Drawn.{AreReachedInTask, PutsDrawn}
use Rattle.plan_app.specs.Endings.{IsWritten, AnswersGraph, AnswersDraw, MayEndAs}
use Rattle.plan_app.specs.Verdicts.{IsDecoded, TellsDraw}
use Rattle.plan_app.proofs.Judged.{IsSoOf, judged_so}
use Rattle.plan_app.proofs.Named.{names_enclose, names_end}
use Rattle.plan_app.proofs.Solved.{said_text, told_written}
use Rattle.plan_app.proofs.Statuses.{answers_of, zero_is_a_verdict}
use Rattle.plan_app.proofs.Verdict.{stop_is_not_zero}
use Rattle.policy_graph.proofs.Reaching.{reached_there}
use Rattle.plan_app.proofs.Walked.{policy_of_task, states_are_exact}

module _ (held : List ℕ → Told) (told : OneProblemIsTold) (stops : TextsStopSo) (s : Sources) (t : Texts) (texts : HoldsTexts held s t)
    (law : TextsAreRead) (balance : AcceptedIsBalanced) (f : List ℕ) where
  -- what stops a run at a certificate has another status than 0
  stop_is_not_done : (g : Ground) (stop : Stop) → IsSoOf law f g (Err stop) → status_of stop ≡ 0 → ⊥
  stop_is_not_done g (NotAccepted code row) so zero = omega (arith, zero)
  stop_is_not_done g (SecondNotAccepted code row) so zero = omega (arith, zero)
  stop_is_not_done g NoMemory so zero = omega (arith, zero)
  stop_is_not_done g (Refused code file line) so zero = absurd so
  stop_is_not_done g (Limit code most) so zero = absurd so
  stop_is_not_done g BadWords so zero = absurd so
  stop_is_not_done g ReadFailed so zero = absurd so
  stop_is_not_done g WriteFailed so zero = absurd so

  module _ {S : Type 0} (held_of : S → List ℕ → Told) (writes : S → ℕ) (old new : S) (d : Drawing)
      (also : held_of old d.certificate ≡ Holds f) where
    -- the text of the graph was written
    pub record HasDrawn (e : Ending) : Type 0 where
      pub g : Ground
      pub is : problem_of s t ≡ Ok g
      pub c : Content
      pub decoded : IsDecoded f c
      pub balanced : IsBalancedFor g c
      pub wrote : IsWritten held_of writes old new d.into (IsDrawAnswer g c d.states) e

    graph_drawn : (g : Ground) → problem_of s t ≡ Ok g → (r : Result Content Stop) → IsSoOf law f g r → (e : Ending)
        → AnswersGraph held_of writes old new d g r e → ending_status e ≡ 0 → HasDrawn e
    graph_drawn g is (Ok c) so e (inl wrote) zero =
        record { g = g; is = is; c = c; decoded = so.0; balanced = so.1; wrote = wrote }
    graph_drawn g is (Ok c) so e (inr (inl (stop, none, says))) zero = absurd none
    graph_drawn g is (Ok c) so e (inr (inr (says, rose))) zero = absurd (omega (arith, zero, ap ending_status says))
    graph_drawn g is (Err stop) so e says zero = absurd (stop_is_not_done g stop so (ap ending_status says ∙ zero))

    pub drawn_so : (r : Result Ground Stop) → problem_of s t ≡ r → (e : Ending) → AnswersDraw held_of writes old new d r e
        → ending_status e ≡ 0 → HasDrawn e
    drawn_so (Ok g) is e (r, judged, answers) zero =
        graph_drawn g is r (judged_so law f g balance (held_of old d.certificate) also r judged) e answers zero
    drawn_so (Err stop) is e says zero =
        absurd ((stop_is_not_zero held told stops s t texts stop (stops s t stop is)).0 (ap ending_status says ∙ zero))

-- ---- at a ground problem and its task

module _ (carried : stands.IsCarried) (started : stands.StartsAreCarried) (back : stands.StatesAreFound) (rows : IsCarried) (names : NamesAreCarried)
    (g : Ground) (task : Task) (charges : Charges) (is : IsGroundOf g task charges) (c : Content) (balanced : IsBalancedFor g c) where
  reached_of_task : (most : ℕ) (graph : PolicyGraph) → IsGraphOf g c most graph → AreReachedInTask g task charges c (states_in graph.nodes)
  reached_of_task most graph is_graph = λ s within.
      subst (λ (x : Certificate State Instance). IsReached (process task charges) (act same_state x.rows) (starts task) (state_of g task s))
      (names g task charges is c balanced)
      (reached_there (ground_process g) (process task charges) (by_atoms g task) (carried g task charges is) same_state states_are_exact
      (act_in g c) (act same_state (task_certificate g task c).rows) (policy_of_task carried started back rows names g task charges is c balanced)
      (ground_starts g) g.start_den (starts task) (start_den task) (started g task charges is) s (is_graph.drawn.reached s within))

-- ---- the clause of the top call

module _ {S : Type 0} {held : S → List ℕ → Told} {reads writes : S → ℕ} {words : List (Bor (List ℕ))} {old new : S} {from to : Input}
    {status : ℕ} {text : List ℕ} (ends : MayEndAs held reads writes words old new from to status text)
    (told : OneProblemIsTold) (stops : TextsStopSo) (law : TextsAreRead) (balance : AcceptedIsBalanced)
    (d : Drawing) (t : Texts) (f : List ℕ) (tells : TellsDraw words (held old) d t f) where
  pub draw_put : ProblemStands → AreTerms d.sources → stands.IsCarried → stands.StartsAreCarried → stands.StatesAreFound → IsCarried
      → NamesAreCarried → TaskIsEnclosed → TaskPolicyEnds → ((task : Task) → WellFormedSums task)
      → (before now : Option (List ℕ)) → status ≡ 0 → Appends before now text → PutsDrawn d t f (held new d.into) before now
  draw_put standing terms carried started back rows names enclosed ending sums before now zero put =
      let answers = answers_of ends (to_draw d) tells.asks (λ none. none) (zero_is_a_verdict ends zero) in
      let has = drawn_so (held old) told stops d.sources t tells.texts law balance f held writes old new d tells.certificate answers.1.0
      (told (held old) d.sources t tells.texts answers.1.0 answers.1.1) ends.ending answers.1.2 (sym ends.status_is ∙ zero) in
      let a = has.wrote.answer in
      let its = has.wrote.is_answer in
      let of_task = standing d.sources t has.g terms has.is in
      let says : text ≡ graph_report has.g its.graph
      = answers.0 ∙ sym (ap ending_text has.wrote.says) ∙ said_text a.converged a.report ∙ its.report in
      record {
        g = has.g;
        c = has.c;
        problem = has.is;
        decoded = has.decoded;
        balanced_for = has.balanced;
        graph = its.graph;
        is_graph = its.is_graph;
        holds = has.wrote.holds ∙ told_written (held old d.into) a.certificate tells.into ∙ ap Holds its.text;
        put = subst (Appends before now) says put;
        of_task = of_task;
        encloses = names_enclose names has.g of_task.task of_task.charges of_task.stands has.c has.balanced enclosed;
        ends = names_end names has.g of_task.task of_task.charges of_task.stands has.c has.balanced ending (sums of_task.task of_task.well_formed);
        reached = reached_of_task carried started back rows names has.g of_task.task of_task.charges of_task.stands has.c has.balanced
            d.states its.graph its.is_graph;
      }
