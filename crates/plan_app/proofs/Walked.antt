-- Each walk of a ground problem is a run of its task, and what is put of walks.
use Rattle.std.proofs.Common.{◌≡◌, ℕ, List, refl, subst, Option}
use Rattle.std.specs.Borrow.{Bor}
use Rattle.std.specs.Io.KnownBytes.{Appends}
use Rattle.std.specs.Cmp.Lexicographic.{bytes_decides}
use Rattle.brtdp_trial.specs.Draws.{draw_of}
use Rattle.shelf_io.specs.Shelf.{Told}
use Rattle.certificate.specs.Content.{Content}
use Rattle.certificate.specs.Laws.{TextsAreRead}
use Rattle.certificate_check.specs.Claims.{ground_certificate, IsBalancedFor}
use Rattle.certificate_check.specs.Laws.{AcceptedIsBalanced}
use Rattle.decision_process.specs.Policies.{IsPolicy}
use Rattle.decision_process.specs.Readings.{Certificate, act}
use Rattle.decision_process.specs.homomorphism.Homomorphism.{IsPolicyOf}
use Rattle.plain_list.specs.weighted.Chances.{IsExact}
use Rattle.ppddl_model.specs.declared.tree.Task.{Task}
use Rattle.ppddl_model.specs.State.{State, same_state}
use Rattle.ppddl_model.specs.Steps.{Instance, Charges, process, starts, start_den}
use Rattle.ppddl_model.proofs.States.{same_state-Decides}
use Rattle.ground_model.specs.Packed as packed
use Rattle.ground_model.specs.Ground.{Ground}
use Rattle.ground_model.specs.Steps.{ground_process, ground_starts}
use Rattle.ground_meaning.specs.stands.Laws as stands
use Rattle.ground_meaning.specs.stands.Stands.{by_atoms, packed_of, IsGroundOf}
use Rattle.plan_request.specs.Asked.{Walking}
use Rattle.plan_request.specs.Laws.{AreTerms}
use Rattle.plan_sources.specs.declared.texts.Texts.{Texts}
use Rattle.plan_sources.specs.Laws.{OneProblemIsTold, TextsStopSo, ProblemStands}
use Rattle.policy_server.specs.Serving.{Input}
use Rattle.policy_walk.specs.Policies.{act_in}
use Rattle.policy_walk.specs.Runs.{IsRunOf}
use Rattle.policy_walk.specs.Walks.{walk}
use Rattle.policy_walk.proofs.Runs.{walks_are_runs}
use Rattle.policy_walk.proofs.Carrying.{runs_are_carried, acts_are_carried}
use Rattle.plan_app.specs.certificates.Carried.{task_certificate}
use Rattle.plan_app.specs.certificates.Laws.{IsCarried, NamesAreCarried}
use Rattle.plan_app.specs.Endings.{MayEndAs}
use Rattle.plan_app.specs.Verdicts.{TellsWalk}
use Rattle.plan_app.specs.Walks.{IsRunOfTask, PutsWalks}
use Rattle.plan_app.proofs.Statuses.{walks_put}

pub states_are_exact : IsExact same_state
states_are_exact x y = same_state-Decides x y

packed_states_are_exact : IsExact packed.same_state
packed_states_are_exact x y = bytes_decides x y

-- ---- at a ground problem and its task

module _ (carried : stands.IsCarried) (started : stands.StartsAreCarried) (back : stands.StatesAreFound) (rows : IsCarried) (names : NamesAreCarried)
    (g : Ground) (task : Task) (charges : Charges) (is : IsGroundOf g task charges) (c : Content) (balanced : IsBalancedFor g c) where
  is_policy : IsPolicy (ground_process g) (act_in g c)
  is_policy s a off acts = (balanced.balanced.balanced s).high_follows.is_open a off acts

  pub policy_of_task : IsPolicyOf (ground_process g) (by_atoms g task) (act_in g c) (act same_state (task_certificate g task c).rows)
  policy_of_task = record {
    is_open = λ a s valid off acts. is_policy s a off acts;
    acts = λ s valid off.
        acts_are_carried (by_atoms g task) packed.same_state packed_states_are_exact same_state states_are_exact (packed_of g task)
        (back g task charges is) (ground_certificate g c) (task_certificate g task c) (rows g task charges is c) s valid;
  }

  pub walk_of_task : (draw : ℕ → ℕ) (most : ℕ) → IsRunOfTask task charges c most (walk g (act_in g c) draw most)
  walk_of_task draw most =
      subst (λ (m : Certificate State Instance). IsRunOf (process task charges) (starts task) (act same_state m.rows) most (walk g (act_in g c) draw most))
      (names g task charges is c balanced)
      (runs_are_carried (ground_process g) (process task charges) (by_atoms g task) (carried g task charges is) same_state states_are_exact
      (ground_starts g) g.start_den (starts task) (start_den task) (started g task charges is) (act_in g c)
      (act same_state (task_certificate g task c).rows) policy_of_task most (walk g (act_in g c) draw most)
      (walks_are_runs g is.is_problem (act_in g c) is_policy draw most))

-- ---- the clause of the top call

module _ {S : Type 0} {held : S → List ℕ → Told} {reads writes : S → ℕ} {words : List (Bor (List ℕ))} {old new : S} {from to : Input}
    {status : ℕ} {text : List ℕ} (ends : MayEndAs held reads writes words old new from to status text)
    (told : OneProblemIsTold) (stops : TextsStopSo) (law : TextsAreRead) (balance : AcceptedIsBalanced)
    (w : Walking) (t : Texts) (f : List ℕ) (tells : TellsWalk words (held old) w t f) where
  pub walks_told : ProblemStands → AreTerms w.sources → stands.IsCarried → stands.StartsAreCarried → stands.StatesAreFound → IsCarried
      → NamesAreCarried → (before now : Option (List ℕ)) → status ≡ 0 → Appends before now text → PutsWalks w t f before now
  walks_told standing terms carried started back rows names before now zero put =
      let found = walks_put ends told stops w.sources t law balance f w refl tells before now zero put in
      let of_task = standing w.sources t found.0 terms found.2 in
      record {
        g = found.0;
        c = found.1;
        problem = found.2;
        decoded = found.3;
        balanced_for = found.4;
        put = found.5;
        of_task = of_task;
        runs = λ i.
            walk_of_task carried started back rows names found.0 of_task.task of_task.charges of_task.stands found.1 found.4
            (draw_of w.seed i) w.steps;
      }
