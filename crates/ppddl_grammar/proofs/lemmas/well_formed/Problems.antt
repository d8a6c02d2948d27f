-- Problems that are read fit, behind a domain that does.
--     SoFar d s e       what is known of a problem while its sections are read, where d was declared before it
--     IsRead d p        what is known of the whole problem
use Rattle.std.proofs.Common.{◌≡◌, ℕ, true, false, All, List, [], Option, Some, None, is_some, Result, Ok, Err, refl, sym, ap, subst, ◌∙◌, append-nil, append_assoc}
use Rattle.std.specs.List.{list_all}
use Rattle.std.proofs.lemmas.List.Elements.{All-nil}
use Rattle.plain_list.proofs.Results.{bind_ok, ok_is, test_passes, test_fails}
use Rattle.ppddl_model.specs.declared.refusal.TextCode.{TextCode}
use Rattle.ppddl_model.specs.declared.tree.Condition.{Condition}
use Rattle.ppddl_model.specs.declared.tree.Domain.{Domain}
use Rattle.ppddl_model.specs.declared.tree.ObjectDecl.{ObjectDecl}
use Rattle.ppddl_model.specs.declared.tree.Problem.{Problem}
use Rattle.ppddl_model.specs.Draws.{EachItemDraw}
use Rattle.ppddl_model.specs.Objects.{World}
use Rattle.ppddl_model.specs.WellFormed.{condition_fits, item_fits, values_fit, reward_fits, AreProbabilities}
use Rattle.ppddl_forms.specs.names.Declarations.{Declared, with_objects}
use Rattle.ppddl_cursor.specs.declared.place.Place.{Place}
use Rattle.ppddl_cursor.specs.Forms.{Form, Forms, lone, group}
use Rattle.ppddl_cursor.specs.Reading.{Fault}
use Rattle.ppddl_cursor.specs.Sequences.{of_word, one_then}
use Rattle.ppddl_forms.specs.declared.name.Name.{Name}
use Rattle.ppddl_forms.specs.objects.Objects.{objects}
use Rattle.ppddl_reader.specs.declared.sections.start.Start.{Start}
use Rattle.ppddl_reader.specs.sections.Goals.{flags, domain_name, goal, goal_reward, metric}
use Rattle.ppddl_reader.specs.sections.Starts.{start}
use Rattle.ppddl_reader.specs.declared.problems.problem_draft.ProblemDraft.{ProblemDraft}
use Rattle.ppddl_reader.specs.declared.problems.section.Section.{Section}
use Rattle.ppddl_reader.specs.declared.problems.section.Section.TheVariants as section_named
use Rattle.ppddl_reader.specs.problems.Problems.{section_of, has_section, new_section, section_flag, no_sections, section_rest, section, objects_given, start_given, problem_of, with_goal, ended, ended_with, sections, problem}
use Rattle.ppddl_form_grammar.specs.fits.Growth.{AreDeclaredIn}
use Rattle.ppddl_form_grammar.proofs.lemmas.fits.Growth.{kept, kept-objects}
use Rattle.ppddl_grammar.specs.fits.Fitting.{IsFit}
use Rattle.ppddl_grammar.specs.fits.Names.{IsLower, AreLower, HaveLowerNames}
use Rattle.ppddl_grammar.proofs.lemmas.fits.Lower.{lower-each}
use Rattle.ppddl_grammar.proofs.lemmas.fits.Objects.{objects-keep_fit, objects-have_names}
use Rattle.ppddl_grammar.proofs.lemmas.fits.Problems.{start-fits, values-fit, start-draws, goal-fits, goal_reward-fits}
use Rattle.ppddl_grammar.proofs.lemmas.well_formed.Parts.{then-split, group-split, giving-split, lower-inside, lower-rest, each_to-gives}

-- ---- flags

fresh_by : (s : ProblemDraft) (r : Result Section TextCode) (a : Place) (k : Section) → new_section s r a ≡ Ok k → has_section s k ≡ false
fresh_by s (Err code) a k is = absurd cc
fresh_by s (Ok j) a k is = let t = test_fails (has_section s j) _ (Ok j) k is in subst (λ i. has_section s i ≡ false) (ok_is {E = Fault} j k t.1) t.0

-- a section that did not stand yet
fresh : (s : ProblemDraft) (f : Form) (k : Section) → section_flag s f ≡ Ok k → has_section s k ≡ false
unfolding section_flag of_word
fresh s (lone w a) k is = fresh_by s (section_of w) a k is
fresh s (group a fs b) k is = absurd cc

none_given : (os : Option (List ObjectDecl)) → is_some os ≡ false → objects_given os ≡ []
none_given None is = refl
none_given (Some os) is = absurd cc

-- ---- sections

-- in every world and domain in which what was declared so far is declared
abbrev pub StartFits : Declared → Start → Type 0
StartFits d x = (w : World) (m : Domain) → AreDeclaredIn d w m → (list_all (item_fits w m) x.items ≡ true) × (values_fit w m x.values ≡ true)

abbrev pub GoalFits : Declared → Condition → Type 0
GoalFits d c = (w : World) (m : Domain) → AreDeclaredIn d w m → condition_fits w m c [] ≡ true

abbrev EachGoalFits : Declared → Option Condition → Type 0
EachGoalFits d None = Unit {0}
EachGoalFits d (Some c) = GoalFits d c

pub record SoFar (d : Declared) (s : ProblemDraft) (e : Declared) : Type 0 where
  pub fit : IsFit e
  pub objects : e ≡ with_objects d (objects_given s.objects)
  pub start : StartFits e (start_given s.start)
  pub draw : All (EachItemDraw AreProbabilities) (start_given s.start).items
  pub goal : EachGoalFits e s.goal
  pub reward : reward_fits s.goal_reward ≡ true
  pub names : HaveLowerNames e

nothing_read : (d : Declared) → IsFit d → HaveLowerNames d → SoFar d no_sections d
nothing_read d fit names = record {
  fit = fit;
  objects = ap (λ l. record d { objects = l }) (sym (append-nil d.objects));
  start = λ w m declared. (refl, refl);
  draw = All-nil (EachItemDraw AreProbabilities);
  goal = tt;
  reward = refl;
  names = names;
}

goal-grows : (e : Declared) (os : List ObjectDecl) (o : Option Condition) → EachGoalFits e o → EachGoalFits (with_objects e os) o
goal-grows e os None fits = tt
goal-grows e os (Some c) fits = λ w m declared. fits w m (kept e (with_objects e os) (kept-objects e os) w m declared)

module _ (known : List ℕ) (d : Declared) where
  abbrev Holds : ProblemDraft × Declared → Type 0
  Holds x = SoFar d x.0 x.1

  module _ (s : ProblemDraft) (e : Declared) (before : SoFar d s e) (fs : Forms) (b : Place) (lower : AreLower fs) where
    objects-read : (os : List ObjectDecl) → objects e fs b ≡ Ok os → is_some s.objects ≡ false → Holds (record s { objects = Some os }, with_objects e os)
    objects-read os is new =
        let first : e ≡ with_objects d [] = before.objects ∙ ap (with_objects d) (none_given s.objects new) in
        record {
          fit = objects-keep_fit e fs b os is before.fit;
          objects = ap (λ x. with_objects x os) first ∙ ap (λ l. record d { objects = l }) (append_assoc d.objects [] os);
          start = λ w m declared. before.start w m (kept e (with_objects e os) (kept-objects e os) w m declared);
          draw = before.draw;
          goal = goal-grows e os s.goal before.goal;
          reward = before.reward;
          names = objects-have_names e fs b os is lower before.names;
        }

    start-read : (x : Start) → start e fs b ≡ Ok x → Holds (record s { start = Some x }, e)
    start-read x is = record {
      fit = before.fit;
      objects = before.objects;
      start = λ w m declared. (start-fits e fs b x is w m declared, values-fit e fs b x is w m declared);
      draw = start-draws e fs b x is;
      goal = before.goal;
      reward = before.reward;
      names = before.names;
    }

    goal-read : (c : Condition) → goal e fs b ≡ Ok c → Holds (record s { goal = Some c }, e)
    goal-read c is = record {
      fit = before.fit;
      objects = before.objects;
      start = before.start;
      draw = before.draw;
      goal = goal-fits e fs b c is;
      reward = before.reward;
      names = before.names;
    }

    reward-read : (n : ℕ) → goal_reward fs b ≡ Ok n → Holds (record s { goal_reward = Some n }, e)
    reward-read n is = record {
      fit = before.fit;
      objects = before.objects;
      start = before.start;
      draw = before.draw;
      goal = before.goal;
      reward = goal_reward-fits fs b n is;
      names = before.names;
    }

    rest-read : (k : Section) (t : ProblemDraft × Declared) → has_section s k ≡ false → section_rest known s e k fs b ≡ Ok t → Holds t
    rest-read section_named.Domain t new is =
        let r = giving-split (λ u. (record s { domain = true }, e)) (domain_name known) fs b t is in
        subst Holds r.2 (record { fit = before.fit; objects = before.objects; start = before.start; draw = before.draw; goal = before.goal; reward = before.reward; names = before.names })
    rest-read section_named.Requirements t new is =
        let r = giving-split (λ u. (record s { requirements = true }, e)) flags fs b t is in
        subst Holds r.2 (record { fit = before.fit; objects = before.objects; start = before.start; draw = before.draw; goal = before.goal; reward = before.reward; names = before.names })
    rest-read section_named.Objects t new is =
        let r = giving-split (λ os. (record s { objects = Some os }, with_objects e os)) (objects e) fs b t is in subst Holds r.2 (objects-read r.0 r.1 new)
    rest-read section_named.Init t new is =
        let r = giving-split (λ x. (record s { start = Some x }, e)) (start e) fs b t is in subst Holds r.2 (start-read r.0 r.1)
    rest-read section_named.Goal t new is =
        let r = giving-split (λ c. (record s { goal = Some c }, e)) (goal e) fs b t is in subst Holds r.2 (goal-read r.0 r.1)
    rest-read section_named.GoalReward t new is =
        let r = giving-split (λ n. (record s { goal_reward = Some n }, e)) goal_reward fs b t is in subst Holds r.2 (reward-read r.0 r.1)
    rest-read section_named.Metric t new is =
        let r = giving-split (λ u. (record s { metric = true }, e)) metric fs b t is in
        subst Holds r.2 (record { fit = before.fit; objects = before.objects; start = before.start; draw = before.draw; goal = before.goal; reward = before.reward; names = before.names })

  section-read : (x : ProblemDraft × Declared) (f : Form) (y : ProblemDraft × Declared) → Holds x → IsLower f → section known x f ≡ Ok y → Holds y
  unfolding section
  section-read x f y before lower is =
      let g = group-split (one_then (section_flag x.0) (section_rest known x.0 x.1)) f y is in
      let r = then-split (section_flag x.0) (section_rest known x.0 x.1) g.forms g.end y g.gives in
      let behind = lower-rest g.forms r.rest r.form r.forms (lower-inside f g.start g.end g.forms g.whole lower) in
      rest-read x.0 x.1 before r.rest g.end behind r.value y (fresh x.0 r.form r.value r.one) r.behind

-- ---- the problem

-- what is known of a problem behind what was declared
pub record IsRead (d : Declared) (p : Problem) : Type 0 where
  pub fit : IsFit (with_objects d p.objects)
  pub start : StartFits (with_objects d p.objects) (record { items = p.init; values = p.values })
  pub draw : All (EachItemDraw AreProbabilities) p.init
  pub goal : GoalFits (with_objects d p.objects) p.goal
  pub reward : reward_fits p.goal_reward ≡ true
  pub names : HaveLowerNames (with_objects d p.objects)

module _ (n : Name) (d : Declared) where
  goal_given : (s : ProblemDraft) (o : Option Condition) (b : Place) (p : Problem) → with_goal n s o b ≡ Ok p → (c : Condition) × (o ≡ Some c) × (problem_of n s c ≡ p)
  goal_given s None b p is = absurd cc
  goal_given s (Some c) b p is = let t = test_passes s.domain (problem_of n s c) _ p is in (c, refl, t.1)

  ended-read : (x : ProblemDraft × Declared) (b : Place) (y : Problem × Declared) → SoFar d x.0 x.1 → ended_with n x b ≡ Ok y → IsRead d y.0
  ended-read x b y held is =
      let r = bind_ok (ended n x.0 b) (λ p. Ok (p, x.1)) y is in
      let g = goal_given x.0 x.0.goal b r.0 r.1 in
      subst (λ z. IsRead d z.0) (ok_is {E = Fault} (r.0, x.1) y r.2)
      (subst (IsRead d) g.2 (record {
        fit = subst IsFit held.objects held.fit;
        start = subst (λ e. StartFits e (start_given x.0.start)) held.objects held.start;
        draw = held.draw;
        goal = subst (λ e. GoalFits e g.0) held.objects (subst (EachGoalFits x.1) g.1 held.goal);
        reward = held.reward;
        names = subst HaveLowerNames held.objects held.names;
      }))

pub problem-read : (n : Name) (known : List ℕ) (d : Declared) (fs : Forms) (b : Place) (y : Problem × Declared)
    → IsFit d → HaveLowerNames d → AreLower fs → problem n known d fs b ≡ Ok y → IsRead d y.0
unfolding sections
problem-read n known d fs b y fit names lower is =
    each_to-gives (section known) (ended_with n) (λ x. SoFar d x.0 x.1) IsLower (λ z. IsRead d z.0) (section-read known d) (ended-read n d)
    (no_sections, d) fs b y (nothing_read d fit names) (lower-each fs lower) is
