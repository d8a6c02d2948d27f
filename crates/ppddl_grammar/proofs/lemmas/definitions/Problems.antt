-- Problems: what is read is what is spelled.
--     section-cases      what holds of a flag that may stand
use Rattle.std.proofs.Common.{◌≡◌, ℕ, Bool, true, false, not, ◌&&◌, cond, List, Option, Some, None, is_some, Result, Ok, Err, refl, sym, ap, subst, ◌∙◌}
use Rattle.plain_list.specs.Results.{◌>>=◌}
use Rattle.plain_list.proofs.Results.{bind_ok, ok_is, test_passes, test_fails}
use Rattle.ppddl_lex.specs.declared.keywords.TheConstants.{DOMAIN_FLAG, GOAL_FLAG, GOAL_REWARD_FLAG, INIT_FLAG, METRIC_FLAG, REQUIREMENTS_FLAG, MAXIMIZE}
use Rattle.ppddl_lex.specs.Words.{is_flag, is_name}
use Rattle.ppddl_model.specs.declared.refusal.TextCode.{TextCode}
use Rattle.ppddl_model.specs.declared.refusal.TextCode.TheVariants.{Expected, Unsupported, Twice}
use Rattle.ppddl_model.specs.declared.tree.Condition.{Condition}
use Rattle.ppddl_model.specs.declared.tree.Problem.{Problem}
use Rattle.ppddl_forms.specs.names.Declarations.{Declared, with_objects}
use Rattle.ppddl_cursor.specs.declared.place.Place.{Place}
use Rattle.ppddl_cursor.specs.Ahead.{same}
use Rattle.ppddl_cursor.specs.Forms.{Form, Forms, lone, group, none, more, begin_of}
use Rattle.ppddl_cursor.specs.Reading.{Fault, fails}
use Rattle.ppddl_cursor.specs.Sequences.{of_word, in_group, one_then, last, giving, checking}
use Rattle.ppddl_forms.specs.declared.name.Name.{Name}
use Rattle.ppddl_forms.specs.Words.{name, reward}
use Rattle.ppddl_forms.specs.objects.Objects.{objects}
use Rattle.ppddl_reader.specs.declared.sections.symbols.TheConstants.{OBJECTS_FLAG, MINIMIZE}
use Rattle.ppddl_reader.specs.sections.Goals as goal_by
use Rattle.ppddl_reader.specs.sections.Goals.{flags, known_domain, domain_name, sense, metric_value, metric}
use Rattle.ppddl_reader.specs.sections.Sequences.{or_refused, whole_or}
use Rattle.ppddl_reader.specs.sections.Starts as start_by
use Rattle.ppddl_reader.specs.declared.problems.problem_draft.ProblemDraft.{ProblemDraft}
use Rattle.ppddl_reader.specs.declared.problems.section.Section.{Section}
use Rattle.ppddl_reader.specs.declared.problems.section.Section.TheVariants as section_named
use Rattle.ppddl_reader.specs.problems.Problems.{is_domain_flag, section_of, has_section, new_section, section_flag, no_sections, section_rest, section, problem_of, with_goal, ended, ended_with, sections}
use Rattle.ppddl_form_grammar.specs.forms.Words.{headed, IsReward}
use Rattle.ppddl_form_grammar.proofs.lemmas.forms.Parts.{by_test, same_word, is_same, on_false, branch, giving_ok, last_ok, name_is}
use Rattle.ppddl_form_grammar.proofs.lemmas.forms.Costs.{reward_derived, reward_accepted}
use Rattle.ppddl_form_grammar.proofs.lemmas.lists.Objects.{objects_derived, objects_accepted}
use Rattle.ppddl_grammar.proofs.lemmas.sections.Problems.{start-derived, start-accepted, goal-derived, goal-accepted, reward-derived, reward-accepted}
use Rattle.ppddl_grammar.specs.definitions.Problems as by
use Rattle.ppddl_grammar.specs.definitions.Problems.{IsMetric, IsSection, IsProblem}
use Rattle.ppddl_grammar.specs.definitions.Laws.{ProblemIsDerived, ProblemIsAccepted}
use Rattle.ppddl_grammar.proofs.lemmas.definitions.Folds.{each_to-derived, each_to-accepted, flags-derived, flags-accepted}

none_is : {A : Type 0} (o : Option A) → is_some o ≡ false → o ≡ None
none_is None is = refl
none_is (Some x) is = absurd cc

-- ---- flags

module _ (s : ProblemDraft) (P : Form → Section → Type 0) where
  abbrev Given : List ℕ → Section → Type 0
  Given flag k = (a : Place) → has_section s k ≡ false → P (lone flag a) k

  taken : (flag : List ℕ) (j : Section) → Given flag j → (w : List ℕ) (a : Place) (k : Section) → same w flag ≡ true → new_section s (Ok j) a ≡ Ok k → P (lone w a) k
  taken flag j given w a k alike is =
      let t = test_fails (has_section s j) _ (Ok j) k is in
      subst (P (lone w a)) (ok_is {E = Fault} j k t.1) (subst (λ v. P (lone v a) j) (sym (same_word w flag alike)) (given a t.0))

  refused : (b : Bool) (w : List ℕ) (a : Place) (k : Section) → new_section s (cond b (Err Unsupported) (Err Expected)) a ≡ Ok k → P (lone w a) k
  refused true w a k is = absurd cc
  refused false w a k is = absurd cc

  module _ (domain : Given DOMAIN_FLAG.now section_named.Domain) (requirements : Given REQUIREMENTS_FLAG.now section_named.Requirements)
      (objects : Given OBJECTS_FLAG.now section_named.Objects) (init : Given INIT_FLAG.now section_named.Init) (goal : Given GOAL_FLAG.now section_named.Goal)
      (reward : Given GOAL_REWARD_FLAG.now section_named.GoalReward) (metric : Given METRIC_FLAG.now section_named.Metric) where
    word-cases : (w : List ℕ) (a : Place) (k : Section) → new_section s (section_of w) a ≡ Ok k → P (lone w a) k
    word-cases w a k =
        let Q : Result Section TextCode → Type 0 = λ r. new_section s r a ≡ Ok k → P (lone w a) k in
        branch Q (same w DOMAIN_FLAG.now) (Ok section_named.Domain) _ (taken DOMAIN_FLAG.now section_named.Domain domain w a k)
        (λ one. branch Q (same w REQUIREMENTS_FLAG.now) (Ok section_named.Requirements) _ (taken REQUIREMENTS_FLAG.now section_named.Requirements requirements w a k)
        (λ two. branch Q (same w OBJECTS_FLAG.now) (Ok section_named.Objects) _ (taken OBJECTS_FLAG.now section_named.Objects objects w a k)
        (λ three. branch Q (same w INIT_FLAG.now) (Ok section_named.Init) _ (taken INIT_FLAG.now section_named.Init init w a k)
        (λ four. branch Q (same w GOAL_FLAG.now) (Ok section_named.Goal) _ (taken GOAL_FLAG.now section_named.Goal goal w a k)
        (λ five. branch Q (same w GOAL_REWARD_FLAG.now) (Ok section_named.GoalReward) _ (taken GOAL_REWARD_FLAG.now section_named.GoalReward reward w a k)
        (λ six. branch Q (same w METRIC_FLAG.now) (Ok section_named.Metric) _ (taken METRIC_FLAG.now section_named.Metric metric w a k)
        (λ seven. refused (is_flag w && not (is_domain_flag w)) w a k)))))))

    section-cases : (f : Form) (k : Section) → section_flag s f ≡ Ok k → P f k
    unfolding section_flag of_word
    section-cases (lone w a) k is = word-cases w a k is
    section-cases (group a fs b) k is = absurd cc

-- ---- the name of the domain, and the metric

abbrev Names : List ℕ → Forms → Type 0
Names known fs = (e : Place) × (fs ≡ more (lone known e) none) × (is_name known ≡ true)

named-derived : (known : List ℕ) (fs : Forms) (b : Place) (u : Unit {0}) → domain_name known fs b ≡ Ok u → Names known fs
unfolding domain_name one_then checking
named-derived known none b u is = absurd cc
named-derived known (more f fs) b u is =
    let r = bind_ok (name f >>= known_domain known) (λ v. last v fs b) u is in
    let n = bind_ok (name f) (known_domain known) r.0 r.1 in
    let t = test_passes (same n.0.text known) tt _ r.0 n.2 in
    let end = last_ok r.0 u fs b r.2 in
    let own = name_is (λ g (m : Name). m.text ≡ known → (e : Place) × (g ≡ lone known e) × (is_name known ≡ true))
    (λ w e named is_known. (e, ap (λ v. lone v e) is_known, subst (λ v. is_name v ≡ true) is_known named)) f n.0 n.1 (same_word n.0.text known t.0) in
    (own.0, ap (λ g. more g fs) own.1 ∙ ap (λ gs. more (lone known own.0) gs) end.0, own.2)

named-accepted : (known : List ℕ) (e : Place) (b : Place) → is_name known ≡ true → domain_name known (more (lone known e) none) b ≡ Ok tt
unfolding domain_name one_then checking name of_word last
named-accepted known e b named = rw (named, is_same known) refl

sense-derived : (f : Form) (u : Unit {0}) → sense f ≡ Ok u → (a : Place) × (f ≡ lone MAXIMIZE.now a)
unfolding sense of_word
sense-derived (lone w a) u is = by_test (same w MAXIMIZE.now)
    (λ yes. (a, ap (λ v. lone v a) (same_word w MAXIMIZE.now yes)))
    (λ no. absurd (neither (same w MINIMIZE.now) a u (on_false (same w MAXIMIZE.now) (Ok tt) _ (Ok u) no is)))
  where
    neither : (b : Bool) (a : Place) (u : Unit {0}) → (let given : Result (Unit {0}) Fault = cond b (fails Unsupported a) (fails Expected a) in given ≡ Ok u) → ⊥
    neither true a u is = cc
    neither false a u is = cc
sense-derived (group a fs b) u is = absurd cc

value-derived : (f : Form) (u : Unit {0}) → metric_value f ≡ Ok u → IsReward f
unfolding metric_value whole_or
value-derived f u is = reward_derived f u (given (reward f) (begin_of f) u is)
  where
    given : (r : Result (Unit {0}) Fault) (a : Place) (u : Unit {0}) → or_refused Unsupported a r ≡ Ok u → r ≡ Ok u
    given (Ok v) a u is = is
    given (Err e) a u is = absurd cc

metric-derived : (fs : Forms) (b : Place) (u : Unit {0}) → metric fs b ≡ Ok u → IsMetric fs
unfolding metric one_then
metric-derived none b u is = absurd cc
metric-derived (more f none) b u is = let r = bind_ok (sense f) (λ v. fails Expected b) u is in absurd (no_value b u r.2)
  where
    no_value : (b : Place) (u : Unit {0}) → (let none_given : Result (Unit {0}) Fault = fails Expected b in none_given ≡ Ok u) → ⊥
    no_value b u is = cc
metric-derived (more f (more g gs)) b u is =
    let r = bind_ok (sense f) (λ v. metric_value g >>= λ x. last x gs b) u is in
    let q = bind_ok (metric_value g) (λ x. last x gs b) u r.2 in
    let end = last_ok q.0 u gs b q.2 in
    let own = sense-derived f r.0 r.1 in
    subst IsMetric (sym (ap (λ h. more h (more g gs)) own.1 ∙ ap (λ hs. more (lone MAXIMIZE.now own.0) (more g hs)) end.0)) (by.metric (value-derived g q.0 q.1))

metric-accepted : (fs : Forms) → IsMetric fs → (b : Place) → metric fs b ≡ Ok tt
unfolding metric one_then sense of_word metric_value whole_or last
metric-accepted fs (by.metric {f = f} rewarded) b = ap (λ r. or_refused Unsupported (begin_of f) r >>= λ x. Ok x) (reward_accepted f rewarded)

-- ---- what is read

module _ (known : List ℕ) (s : ProblemDraft) (d : Declared) where
  abbrev Behind : Form → Section → Type 0
  Behind f k = (a : Place) (fs : Forms) (b : Place) (y : ProblemDraft × Declared) → section_rest known s d k fs b ≡ Ok y → IsSection known (s, d) (group a (more f fs) b) y

  abbrev To : Place → Place → List ℕ → Forms → Place → ProblemDraft × Declared → Type 0
  To a c flag fs b = IsSection known (s, d) (headed a c flag fs b)

  domain-read : (c : Place) → s.domain ≡ false → Behind (lone DOMAIN_FLAG.now c) section_named.Domain
  domain-read c new a fs b y is =
      let r = giving_ok (λ u. (record s { domain = true }, d)) (domain_name known) fs b y is in
      let n = named-derived known fs b r.0 r.1 in
      subst (To a c DOMAIN_FLAG.now fs b) r.2 (subst (λ gs. To a c DOMAIN_FLAG.now gs b (record s { domain = true }, d)) (sym n.1) (by.domain new n.2))

  requirements-read : (c : Place) → s.requirements ≡ false → Behind (lone REQUIREMENTS_FLAG.now c) section_named.Requirements
  requirements-read c new a fs b y is =
      let r = giving_ok (λ u. (record s { requirements = true }, d)) flags fs b y is in
      subst (To a c REQUIREMENTS_FLAG.now fs b) r.2 (by.requirements new (flags-derived fs b r.0 r.1))

  objects-read : (c : Place) → is_some s.objects ≡ false → Behind (lone OBJECTS_FLAG.now c) section_named.Objects
  objects-read c new a fs b y is =
      let r = giving_ok (λ os. (record s { objects = Some os }, with_objects d os)) (objects d) fs b y is in
      subst (To a c OBJECTS_FLAG.now fs b) r.2 (by.objects (none_is s.objects new) (objects_derived d fs b r.0 r.1))

  start-read : (c : Place) → is_some s.start ≡ false → Behind (lone INIT_FLAG.now c) section_named.Init
  start-read c new a fs b y is =
      let r = giving_ok (λ x. (record s { start = Some x }, d)) (start_by.start d) fs b y is in
      subst (To a c INIT_FLAG.now fs b) r.2 (by.start (none_is s.start new) (start-derived d fs b r.0 r.1))

  goal-read : (c : Place) → is_some s.goal ≡ false → Behind (lone GOAL_FLAG.now c) section_named.Goal
  goal-read c new a fs b y is =
      let r = giving_ok (λ x. (record s { goal = Some x }, d)) (goal_by.goal d) fs b y is in
      subst (To a c GOAL_FLAG.now fs b) r.2 (by.goal (none_is s.goal new) (goal-derived d fs b r.0 r.1))

  reward-read : (c : Place) → is_some s.goal_reward ≡ false → Behind (lone GOAL_REWARD_FLAG.now c) section_named.GoalReward
  reward-read c new a fs b y is =
      let r = giving_ok (λ n. (record s { goal_reward = Some n }, d)) goal_by.goal_reward fs b y is in
      subst (To a c GOAL_REWARD_FLAG.now fs b) r.2 (by.reward (none_is s.goal_reward new) (reward-derived fs b r.0 r.1))

  metric-read : (c : Place) → s.metric ≡ false → Behind (lone METRIC_FLAG.now c) section_named.Metric
  metric-read c new a fs b y is =
      let r = giving_ok (λ u. (record s { metric = true }, d)) metric fs b y is in
      subst (To a c METRIC_FLAG.now fs b) r.2 (by.metric new (metric-derived fs b r.0 r.1))

section-derived : (known : List ℕ) (x : ProblemDraft × Declared) (f : Form) (y : ProblemDraft × Declared) → section known x f ≡ Ok y → IsSection known x f y
unfolding section in_group one_then
section-derived known x (lone w a) y is = absurd cc
section-derived known x (group a none b) y is = absurd cc
section-derived known x (group a (more f fs) b) y is =
    let r = bind_ok (section_flag x.0 f) (λ k. section_rest known x.0 x.1 k fs b) y is in
    section-cases x.0 (Behind known x.0 x.1) (domain-read known x.0 x.1) (requirements-read known x.0 x.1) (objects-read known x.0 x.1) (start-read known x.0 x.1)
    (goal-read known x.0 x.1) (reward-read known x.0 x.1) (metric-read known x.0 x.1) f r.0 r.1 a fs b y r.2

goal-given : (n : Name) (s : ProblemDraft) (o : Option Condition) (b : Place) (p : Problem) → with_goal n s o b ≡ Ok p
    → (c : Condition) × (o ≡ Some c) × (s.domain ≡ true) × (problem_of n s c ≡ p)
goal-given n s None b p is = absurd cc
goal-given n s (Some c) b p is = let t = test_passes s.domain (problem_of n s c) _ p is in (c, refl, t.0, t.1)

pub problem-derived : ProblemIsDerived
unfolding sections
problem-derived n known d fs b p e is =
    let r = each_to-derived (section known) (IsSection known) (section-derived known) (ended_with n) (no_sections, d) fs b (p, e) is in
    let q = bind_ok (ended n r.0.0 b) (λ x. Ok (x, r.0.1)) (p, e) r.2 in
    let g = goal-given n r.0.0 r.0.0.goal b q.0 q.1 in
    let whole : (q.0, r.0.1) ≡ (p, e) = ok_is {E = Fault} (q.0, r.0.1) (p, e) q.2 in
    subst (λ y. IsProblem n known d fs y.0 y.1) whole (subst (λ x. IsProblem n known d fs x r.0.1) g.3 (by.problem r.1 g.2 g.1))

-- ---- what is spelled

accepted : (known : List ℕ) (s : ProblemDraft) (d : Declared) (k : Section) (c : Place) (fs : Forms) (b : Place) (y : ProblemDraft × Declared) → has_section s k ≡ false
    → section_rest known s d k fs b ≡ Ok y → (new_section s (Ok k) c >>= λ j. section_rest known s d j fs b) ≡ Ok y
accepted known s d k c fs b y new rest = ap (λ t. cond t (fails Twice c) (Ok k) >>= λ j. section_rest known s d j fs b) new ∙ rest

section-accepted : (known : List ℕ) (x : ProblemDraft × Declared) (f : Form) (y : ProblemDraft × Declared) → IsSection known x f y → section known x f ≡ Ok y
unfolding section in_group one_then section_flag of_word giving
section-accepted known x f y (by.domain {s = s} {d = d} {c = c} {b = b} {e = e} new named) =
    accepted known s d section_named.Domain c (more (lone known e) none) b y new (ap (λ r. r >>= λ u. Ok (record s { domain = true }, d)) (named-accepted known e b named))
section-accepted known x f y (by.requirements {s = s} {d = d} {c = c} {b = b} {fs = fs} new spelled) =
    accepted known s d section_named.Requirements c fs b y new (ap (λ r. r >>= λ u. Ok (record s { requirements = true }, d)) (flags-accepted fs spelled b))
section-accepted known x f y (by.objects {s = s} {d = d} {c = c} {b = b} {fs = fs} {os = os} new spelled) =
    accepted known s d section_named.Objects c fs b y (ap is_some new) (ap (λ r. r >>= λ l. Ok (record s { objects = Some l }, with_objects d l)) (objects_accepted d fs b os spelled))
section-accepted known x f y (by.start {s = s} {d = d} {c = c} {b = b} {fs = fs} {x = one} new spelled) =
    accepted known s d section_named.Init c fs b y (ap is_some new) (ap (λ r. r >>= λ v. Ok (record s { start = Some v }, d)) (start-accepted d fs b one spelled))
section-accepted known x f y (by.goal {s = s} {d = d} {c = c} {b = b} {fs = fs} {x = one} new spelled) =
    accepted known s d section_named.Goal c fs b y (ap is_some new) (ap (λ r. r >>= λ v. Ok (record s { goal = Some v }, d)) (goal-accepted d fs b one spelled))
section-accepted known x f y (by.reward {s = s} {d = d} {c = c} {b = b} {fs = fs} {n = n} new spelled) =
    accepted known s d section_named.GoalReward c fs b y (ap is_some new) (ap (λ r. r >>= λ v. Ok (record s { goal_reward = Some v }, d)) (reward-accepted fs b n spelled))
section-accepted known x f y (by.metric {s = s} {d = d} {c = c} {b = b} {fs = fs} new spelled) =
    accepted known s d section_named.Metric c fs b y new (ap (λ r. r >>= λ u. Ok (record s { metric = true }, d)) (metric-accepted fs spelled b))

pub problem-accepted : ProblemIsAccepted
unfolding sections
problem-accepted n known d fs b p e (by.problem {s = s} {c = c} spelled domain_stood goal_stood) =
    each_to-accepted (section known) (IsSection known) (section-accepted known) (ended_with n) (no_sections, d) fs (s, e) spelled b
    ∙ ap (λ o. with_goal n s o b >>= λ x. Ok (x, e)) goal_stood
    ∙ ap (λ t. cond t (Ok (problem_of n s c)) (fails Expected b) >>= λ x. Ok (x, e)) domain_stood
