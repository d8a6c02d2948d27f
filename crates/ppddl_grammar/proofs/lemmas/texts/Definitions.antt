-- Definitions: what is read is what is spelled.
--     task-derived       definitions that are a task are a domain and a problem of it
--     task-accepted      and such are a task
use Rattle.std.proofs.Common.{◌≡◌, ℕ, List, Option, Some, None, Ok, refl, sym, ap, subst, ◌∙◌}
use Rattle.plain_list.specs.Results.{◌>>=◌}
use Rattle.plain_list.proofs.Results.{bind_ok}
use Rattle.ppddl_lex.specs.declared.keywords.TheConstants.{DEFINE, DOMAIN, PROBLEM}
use Rattle.ppddl_model.specs.declared.tree.Domain.{Domain}
use Rattle.ppddl_model.specs.declared.tree.Problem.{Problem}
use Rattle.ppddl_model.specs.declared.tree.Task.{Task}
use Rattle.ppddl_forms.specs.names.Declarations.{Declared, nothing}
use Rattle.ppddl_cursor.specs.declared.place.Place.{Place}
use Rattle.ppddl_cursor.specs.Ahead.{same}
use Rattle.ppddl_cursor.specs.Forms.{Form, Forms, lone, group, none, more, lowered_form, lowered_forms}
use Rattle.ppddl_cursor.specs.Sequences.{of_word, in_group, group_with, one_then, last, giving, each, keyword}
use Rattle.ppddl_forms.specs.declared.name.Name.{Name}
use Rattle.ppddl_forms.specs.Sequences.{refused}
use Rattle.ppddl_forms.specs.Words.{name}
use Rattle.ppddl_reader.specs.domains.Domains.{domain}
use Rattle.ppddl_reader.specs.problems.Problems.{problem}
use Rattle.ppddl_reader.specs.declared.tasks.definition.Definition.{Definition}
use Rattle.ppddl_reader.specs.declared.tasks.definition.Definition.TheVariants as defined
use Rattle.ppddl_reader.specs.declared.tasks.task_draft.TaskDraft.{TaskDraft}
use Rattle.ppddl_reader.specs.declared.tasks.task_draft.TaskDraft.TheVariants.{Empty, OfDomain, Whole}
use Rattle.ppddl_reader.specs.tasks.Texts.{definition_of, new_definition, heading_word, heading, with_domain, with_problem, body, definition}
use Rattle.ppddl_form_grammar.specs.forms.Words.{headed}
use Rattle.ppddl_form_grammar.proofs.lemmas.forms.Parts.{same_word, branch, then_ok, group_ok, keyword_ok, last_ok, giving_ok, name_is}
use Rattle.ppddl_grammar.specs.definitions.Domains.{IsDomain}
use Rattle.ppddl_grammar.specs.definitions.Problems.{IsProblem}
use Rattle.ppddl_grammar.proofs.lemmas.definitions.Domains.{domain-derived, domain-accepted}
use Rattle.ppddl_grammar.proofs.lemmas.definitions.Problems.{problem-derived, problem-accepted}
use Rattle.ppddl_grammar.specs.texts.Texts as by
use Rattle.ppddl_grammar.specs.texts.Texts.{IsHeading, IsDefinition, IsTask}

-- ---- what may stand

module _ (a : Place) (u : Unit {0}) (P : Type 0) where
  no_kind : (s : TaskDraft) → new_definition s None a ≡ Ok u → P
  no_kind s is = absurd cc

  problem_first : new_definition Empty (Some defined.Problem) a ≡ Ok u → P
  problem_first is = absurd cc

  domain_twice : (m : Domain) (file : ℕ) (d : Declared) → new_definition (OfDomain m file d) (Some defined.Domain) a ≡ Ok u → P
  domain_twice m file d is = absurd cc

  behind_both : (t : Task) (k : Definition) → new_definition (Whole t) (Some k) a ≡ Ok u → P
  behind_both t k is = absurd cc

abbrev IsKind : TaskDraft → List ℕ → Type 0
IsKind s kind = (w : List ℕ) (a : Place) (u : Unit {0}) → new_definition s (definition_of w) a ≡ Ok u → w ≡ kind

first_kind : IsKind Empty DOMAIN.now
first_kind w a u =
    let Q : Option Definition → Type 0 = λ k. new_definition Empty k a ≡ Ok u → w ≡ DOMAIN.now in
    branch Q (same w DOMAIN.now) (Some defined.Domain) _ (λ one is. same_word w DOMAIN.now one)
    (λ other. branch Q (same w PROBLEM.now) (Some defined.Problem) None (λ one. problem_first a u (w ≡ DOMAIN.now)) (λ neither. no_kind a u (w ≡ DOMAIN.now) Empty))

second_kind : (m : Domain) (file : ℕ) (d : Declared) → IsKind (OfDomain m file d) PROBLEM.now
second_kind m file d w a u =
    let Q : Option Definition → Type 0 = λ k. new_definition (OfDomain m file d) k a ≡ Ok u → w ≡ PROBLEM.now in
    branch Q (same w DOMAIN.now) (Some defined.Domain) _ (λ one. domain_twice a u (w ≡ PROBLEM.now) m file d)
    (λ other. branch Q (same w PROBLEM.now) (Some defined.Problem) None (λ one is. same_word w PROBLEM.now one) (λ neither. no_kind a u (w ≡ PROBLEM.now) (OfDomain m file d)))

third_kind : (t : Task) → IsKind (Whole t) DOMAIN.now
third_kind t w a u =
    let Q : Option Definition → Type 0 = λ k. new_definition (Whole t) k a ≡ Ok u → w ≡ DOMAIN.now in
    branch Q (same w DOMAIN.now) (Some defined.Domain) _ (λ one. behind_both a u (w ≡ DOMAIN.now) t defined.Domain)
    (λ other. branch Q (same w PROBLEM.now) (Some defined.Problem) None (λ one. behind_both a u (w ≡ DOMAIN.now) t defined.Problem)
    (λ neither. no_kind a u (w ≡ DOMAIN.now) (Whole t)))

-- ---- what is read

module _ (s : TaskDraft) (kind : List ℕ) (is_kind : IsKind s kind) where
  word-derived : (P : Form → Type 0) → ((c : Place) → P (lone kind c)) → (f : Form) (u : Unit {0}) → heading_word s f ≡ Ok u → P f
  unfolding heading_word of_word
  word-derived P at (lone w c) u is = subst (λ z. P (lone z c)) (sym (is_kind w c u is)) (at c)
  word-derived P at (group a fs b) u is = absurd cc

  name-derived : (a c b : Place) (f : Form) (x : Name) → name f ≡ Ok x → (fs : Forms) (n : Name) → last x fs b ≡ Ok n → IsHeading kind (headed a c kind (more f fs) b) n
  name-derived a c b f x named fs n ended =
      let l = last_ok x n fs b ended in
      let read : IsHeading kind (headed a c kind (more f none) b) x =
      name_is (λ g m. IsHeading kind (headed a c kind (more g none) b) m) (λ w e is. by.heading is) f x named in
      subst (λ gs. IsHeading kind (headed a c kind (more f gs) b) n) (sym l.0) (subst (λ m. IsHeading kind (headed a c kind (more f none) b) m) l.1 read)

  behind-derived : (a c b : Place) (fs : Forms) (n : Name) → one_then name last fs b ≡ Ok n → IsHeading kind (headed a c kind fs b) n
  behind-derived a c b fs n is = then_ok name last b (λ gs m. IsHeading kind (headed a c kind gs b) m) (name-derived a c b) fs n is

  inside-derived : (a b : Place) (fs : Forms) (n : Name) → one_then (heading_word s) (λ u. one_then name last) fs b ≡ Ok n → IsHeading kind (group a fs b) n
  inside-derived a b fs n is =
      then_ok (heading_word s) (λ u. one_then name last) b (λ gs m. IsHeading kind (group a gs b) m)
      (λ f u stood gs m rest. word-derived (λ g. IsHeading kind (group a (more g gs) b) m) (λ c. behind-derived a c b gs m rest) f u stood) fs n is

  heading-derived : (f : Form) (n : Name) → heading s f ≡ Ok n → IsHeading kind f n
  unfolding heading
  heading-derived f n is = group_ok (one_then (heading_word s) (λ u. one_then name last)) (IsHeading kind) inside-derived f n is

  record Parts (f : Form) (t : TaskDraft) : Type 0 where
    called : Name
    forms : Forms
    end : Place
    spelled : IsDefinition kind f called forms
    gives : body s called forms end ≡ Ok t

  headed-derived : (a c b : Place) (fs : Forms) (t : TaskDraft) → one_then (heading s) (body s) fs b ≡ Ok t → Parts (headed a c DEFINE.now fs b) t
  headed-derived a c b fs t is =
      then_ok (heading s) (body s) b (λ gs y. Parts (headed a c DEFINE.now gs b) y)
      (λ f n stood gs y gives. record { called = n; forms = gs; end = b; spelled = by.definition (heading-derived f n stood); gives = gives }) fs t is

  group-derived : (a b : Place) (fs : Forms) (t : TaskDraft) → one_then (keyword DEFINE.now) (λ u. one_then (heading s) (body s)) fs b ≡ Ok t → Parts (group a fs b) t
  group-derived a b fs t is =
      then_ok (keyword DEFINE.now) (λ u. one_then (heading s) (body s)) b (λ gs y. Parts (group a gs b) y)
      (λ f u stood gs y rest. keyword_ok DEFINE.now (λ g. Parts (group a (more g gs) b) y) (λ c. headed-derived a c b gs y rest) f u stood) fs t is

  definition-derived : (f : Form) (t : TaskDraft) → definition s f ≡ Ok t → Parts f t
  unfolding definition group_with
  definition-derived f t is = group_ok (one_then (keyword DEFINE.now) (λ u. one_then (heading s) (body s))) Parts group-derived f t is

record DomainIs (f : Form) (t : TaskDraft) : Type 0 where
  called : Name
  forms : Forms
  result : Domain
  declared : Declared
  spelled : IsDefinition DOMAIN.now f called forms
  sections : IsDomain called.text forms result declared
  draft : t ≡ OfDomain result called.place.file declared

domain-is : (f : Form) (t : TaskDraft) → definition Empty f ≡ Ok t → DomainIs f t
domain-is f t is =
    let p = definition-derived Empty DOMAIN.now first_kind f t is in
    let r = giving_ok (with_domain p.called.place.file) (domain p.called.text nothing) p.forms p.end t p.gives in
    record {
      called = p.called;
      forms = p.forms;
      result = r.0.0;
      declared = r.0.1;
      spelled = p.spelled;
      sections = domain-derived p.called.text p.forms p.end r.0.0 r.0.1 r.1;
      draft = sym r.2;
    }

abbrev with_both : Domain → ℕ → Problem → Task
with_both m file p = record { domain = m; domain_file = file; problem = p }

record ProblemIs (m : Domain) (file : ℕ) (d : Declared) (f : Form) (t : TaskDraft) : Type 0 where
  called : Name
  forms : Forms
  result : Problem
  declared : Declared
  spelled : IsDefinition PROBLEM.now f called forms
  sections : IsProblem called m.name d forms result declared
  draft : t ≡ Whole (with_both m file result)

problem-is : (m : Domain) (file : ℕ) (d : Declared) (f : Form) (t : TaskDraft) → definition (OfDomain m file d) f ≡ Ok t → ProblemIs m file d f t
problem-is m file d f t is =
    let p = definition-derived (OfDomain m file d) PROBLEM.now (second_kind m file d) f t is in
    let r = giving_ok (with_problem m file) (problem p.called m.name d) p.forms p.end t p.gives in
    record {
      called = p.called;
      forms = p.forms;
      result = r.0.0;
      declared = r.0.1;
      spelled = p.spelled;
      sections = problem-derived p.called m.name d p.forms p.end r.0.0 r.0.1 r.1;
      draft = sym r.2;
    }

none-behind : (task : Task) (f : Form) (t : TaskDraft) → definition (Whole task) f ≡ Ok t → ⊥
unfolding refused
none-behind task f t is = let gives = (definition-derived (Whole task) DOMAIN.now (third_kind task) f t is).gives in cc

-- ---- a domain and a problem of it

pub record TaskIs (fs : Forms) (task : Task) : Type 0 where
  pub first : Form
  pub second : Form
  pub forms : more first (more second none) ≡ fs
  pub spelled : IsTask (lowered_form first) (lowered_form second) task

abbrev Reads : TaskDraft → Forms → Place → Task → Type 0
Reads s fs e task = each definition s (lowered_forms fs) e ≡ Ok (Whole task)

end-derived : (t : Task) (fs : Forms) (e : Place) (task : Task) → Reads (Whole t) fs e task → (fs ≡ none) × (t ≡ task)
unfolding each
end-derived t none e task is = (refl, cc)
end-derived t (more f fs) e task is =
    let r = bind_ok (definition (Whole t) (lowered_form f)) (λ s. each definition s (lowered_forms fs) e) (Whole task) is in
    absurd (none-behind t (lowered_form f) r.0 r.1)

module _ (f : Form) (n : Name) (fs : Forms) (m : Domain) (d : Declared) (heads : IsDefinition DOMAIN.now (lowered_form f) n fs) (of : IsDomain n.text fs m d) where
  problem-behind : (gs : Forms) (e : Place) (task : Task) → Reads (OfDomain m n.place.file d) gs e task → TaskIs (more f gs) task
  unfolding each
  problem-behind none e task is = absurd cc
  problem-behind (more g gs) e task is =
      let r = bind_ok (definition (OfDomain m n.place.file d) (lowered_form g)) (λ s. each definition s (lowered_forms gs) e) (Whole task) is in
      let p = problem-is m n.place.file d (lowered_form g) r.0 r.1 in
      let end = end-derived (with_both m n.place.file p.result) gs e task (subst (λ s. Reads s gs e task) p.draft r.2) in
      record {
        first = f;
        second = g;
        forms = ap (λ hs. more f (more g hs)) (sym end.0);
        spelled = subst (IsTask (lowered_form f) (lowered_form g)) end.1 (by.task heads of p.spelled p.sections);
      }

pub task-derived : (fs : Forms) (e : Place) (task : Task) → Reads Empty fs e task → TaskIs fs task
unfolding each
task-derived none e task is = absurd cc
task-derived (more f fs) e task is =
    let r = bind_ok (definition Empty (lowered_form f)) (λ s. each definition s (lowered_forms fs) e) (Whole task) is in
    let m = domain-is (lowered_form f) r.0 r.1 in
    problem-behind f m.called m.forms m.result m.declared m.spelled m.sections fs e task (subst (λ s. Reads s fs e task) m.draft r.2)

-- ---- what is spelled

abbrev MayStand : TaskDraft → List ℕ → Type 0
MayStand s kind = (a : Place) → new_definition s (definition_of kind) a ≡ Ok tt

module _ (s : TaskDraft) (kind : List ℕ) (may : MayStand s kind) where
  heading-accepted : (f : Form) (n : Name) → IsHeading kind f n → heading s f ≡ Ok n
  unfolding heading in_group one_then heading_word of_word name last
  heading-accepted f n (by.heading {c = c} {b = b} {e = e} {w = w} named) =
      ap (λ r. r >>= λ u. one_then name last (more (lone w e) none) b) (may c) ∙ rw named refl

  definition-accepted : (f : Form) (n : Name) (fs : Forms) (t : TaskDraft) → IsDefinition kind f n fs → ((b : Place) → body s n fs b ≡ Ok t) → definition s f ≡ Ok t
  unfolding definition group_with in_group one_then keyword
  definition-accepted f n fs t (by.definition {b = b} {f = g} heads) gives = ap (λ r. r >>= λ x. body s x fs b) (heading-accepted g n heads) ∙ gives b

domain-read : (f : Form) (n : Name) (fs : Forms) (m : Domain) (d : Declared) → IsDefinition DOMAIN.now f n fs → IsDomain n.text fs m d → definition Empty f ≡ Ok (OfDomain m n.place.file d)
unfolding giving
domain-read f n fs m d heads of =
    definition-accepted Empty DOMAIN.now (λ a. refl) f n fs (OfDomain m n.place.file d) heads
    (λ b. ap (λ r. r >>= λ x. Ok (with_domain n.place.file x)) (domain-accepted n.text fs b m d of))

problem-read : (m : Domain) (file : ℕ) (d : Declared) (f : Form) (n : Name) (fs : Forms) (p : Problem) (e : Declared)
    → IsDefinition PROBLEM.now f n fs → IsProblem n m.name d fs p e → definition (OfDomain m file d) f ≡ Ok (Whole (with_both m file p))
unfolding giving
problem-read m file d f n fs p e heads of =
    definition-accepted (OfDomain m file d) PROBLEM.now (λ a. refl) f n fs (Whole (with_both m file p)) heads
    (λ b. ap (λ r. r >>= λ x. Ok (with_problem m file x)) (problem-accepted n m.name d fs b p e of))

pub task-accepted : (f g : Form) (e : Place) (task : Task) → IsTask f g task → each definition Empty (more f (more g none)) e ≡ Ok (Whole task)
unfolding each
task-accepted f g e task (by.task {n = n} {o = o} {fs = fs} {gs = gs} {m = m} {p = p} {d = d} {e = all} heads of other_heads of_it) =
    ap (λ r. r >>= λ s. each definition s (more g none) e) (domain-read f n fs m d heads of)
    ∙ ap (λ r. r >>= λ s. each definition s none e) (problem-read m n.place.file d g o gs p all other_heads of_it)
