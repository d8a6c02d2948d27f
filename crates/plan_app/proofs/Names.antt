-- The ground problem of texts has the names that its certificates spell.
use Rattle.std.proofs.Common.{◌≡◌, ℕ, List, Ok}
use Rattle.std.proofs.lemmas.List.Elements.{All-contains_itself}
use Rattle.shelf_io.specs.Shelf.{Told}
use Rattle.certificate.specs.Names.{is_lower_name, IsNameList}
use Rattle.plan_report.specs.certificates.Certificates.{HasNameLists}
use Rattle.ground_model.specs.Ground.{Ground}
use Rattle.ground_meaning.specs.refusals.Laws.{IsListOf, AreListsOf}
use Rattle.plan_request.specs.Asked.{Sources}
use Rattle.plan_request.specs.Laws.{AreTerms}
use Rattle.plan_sources.specs.declared.texts.Texts.{Texts}
use Rattle.plan_sources.specs.Problems.{problem_of}
use Rattle.plan_sources.specs.Sources.{MayGiveProblem}
use Rattle.plan_sources.specs.Laws.{ProblemStands}

name_list : (text : List ℕ) → IsListOf is_lower_name text → IsNameList text
name_list text is = record { names = is.names; some = is.some; each = is.each; spelled = is.spelled }

name_lists : (g : Ground) → AreListsOf is_lower_name g → HasNameLists g
name_lists g are = record {
  atoms = λ k d below. name_list _ (are.atoms _ (All-contains_itself g.atoms k d below));
  actions = λ k d below. name_list _ (are.actions _ (All-contains_itself g.actions k d below));
}

pub problem_names : ProblemStands → (s : Sources) (t : Texts) (g : Ground) → AreTerms s → problem_of s t ≡ Ok g → HasNameLists g
problem_names stands s t g are is = name_lists g (stands s t g are is).names

pub given_names : ProblemStands → (held : List ℕ → Told) (s : Sources) (g : Ground) → AreTerms s → MayGiveProblem held s (Ok g) → HasNameLists g
given_names stands held s g are (t, may, is) = problem_names stands s t g are is
