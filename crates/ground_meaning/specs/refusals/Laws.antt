-- That the ground problem of a well-formed task stands for it, as statements.
--     AreInRange terms       a penalty that is asked for is 1 to the limit, and the step cost is within its limit
--     GroundedStands         what is grounded is the ground problem of the task, and stands for it
--     IsListOf form text     the text is a list of one name or more, each of a form
--     AreListsOf form g      so are the atoms and the names of actions of a problem
--     NamesKeepTheirForm     they are where the objects, the predicates and the actions of the task have names of the form
use Rattle.std.specs.Prelude.{◌≡◌, ℕ, ◌<◌, ◌≤◌, Bool, IsTrue, List, ◌++◌, length, Contains, Some, Ok, IfSome}
use Rattle.std.specs.List.{list_all}
use Rattle.plain_list.specs.Texts.{list_text}
use Rattle.ppddl_model.specs.declared.limits.TheConstants.{MOST_COST, MOST_PENALTY}
use Rattle.ppddl_model.specs.declared.tree.Action.{Action}
use Rattle.ppddl_model.specs.declared.tree.ObjectDecl.{ObjectDecl}
use Rattle.ppddl_model.specs.declared.tree.PredicateDecl.{PredicateDecl}
use Rattle.ppddl_model.specs.declared.tree.Task.{Task}
use Rattle.ppddl_model.specs.Steps.{Charges, Terms, charges_of}
use Rattle.ppddl_model.specs.WellFormed.{IsWellFormed}
use Rattle.ground_model.specs.declared.action.GroundAction.{GroundAction}
use Rattle.ground_model.specs.Ground.{Ground}
use Rattle.ground_meaning.specs.stands.Stands.{IsGroundOf}
use Rattle.ground_meaning.specs.refusals.Problem.{ground_problem}
use Rattle.ground_meaning.specs.refusals.Limits.{grounded}

abbrev pub IsPenalty : ℕ → Type 0
IsPenalty penalty = (1 ≤ penalty) × (penalty ≤ MOST_PENALTY)

pub record AreInRange (terms : Terms) : Type 0 where
  pub penalty : IfSome terms.penalty IsPenalty
  pub step_cost : terms.step_cost ≤ MOST_COST

abbrev pub GroundedStands : Type 0
GroundedStands = (task : Task) (terms : Terms) (g : Ground) → IsWellFormed task → AreInRange terms → grounded task terms ≡ Ok g
    → (charges : Charges) × (charges_of terms task ≡ Some charges) × (g ≡ ground_problem task charges) × IsGroundOf g task charges

-- ---- names

module _ (form : List ℕ → Bool) where
  pub record IsListOf (text : List ℕ) : Type 0 where
    pub names : List (List ℕ)
    pub some : 0 < length names
    pub each : IsTrue (list_all form names)
    pub spelled : text ≡ list_text names

  pub record AreListsOf (g : Ground) : Type 0 where
    pub atoms : (text : List ℕ) → Contains g.atoms text → IsListOf text
    pub actions : (a : GroundAction) → Contains g.actions a → IsListOf a.name

  pub record HaveForm (task : Task) : Type 0 where
    pub objects : IsTrue (list_all (λ (o : ObjectDecl). form o.name) (task.domain.constants ++ task.problem.objects))
    pub predicates : IsTrue (list_all (λ (d : PredicateDecl). form d.name) task.domain.predicates)
    pub actions : IsTrue (list_all (λ (a : Action). form a.name) task.domain.actions)

abbrev pub NamesKeepTheirForm : Type 0
NamesKeepTheirForm = (form : List ℕ → Bool) (task : Task) (charges : Charges) → IsWellFormed task → HaveForm form task
    → AreListsOf form (ground_problem task charges)
