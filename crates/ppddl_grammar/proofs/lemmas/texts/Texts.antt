-- Whole texts: what is read is what is spelled.
use Rattle.std.proofs.Common.{◌≡◌, ℕ, List, ◌++◌, Option, Some, None, Ok, refl, sym, ap, subst, ◌∙◌}
use Rattle.plain_list.specs.Results.{◌>>=◌}
use Rattle.plain_list.proofs.Results.{bind_ok, ok_is}
use Rattle.ppddl_model.specs.declared.tree.Task.{Task}
use Rattle.ppddl_cursor.specs.declared.place.Place.{Place}
use Rattle.ppddl_cursor.specs.Ahead.{Ahead, top}
use Rattle.ppddl_cursor.specs.Forms.{Piece, Form, Forms, none, more, spell_all, lowered_form, lowered_forms}
use Rattle.ppddl_cursor.specs.Pieces.{pieces, end_of_text}
use Rattle.ppddl_cursor.specs.Reading.{Fault, all_at}
use Rattle.ppddl_cursor.specs.Sequences.{each}
use Rattle.ppddl_reader.specs.declared.tasks.task_draft.TaskDraft.{TaskDraft}
use Rattle.ppddl_reader.specs.declared.tasks.task_draft.TaskDraft.TheVariants.{Empty, OfDomain, Whole}
use Rattle.ppddl_reader.specs.tasks.Texts.{definition, definitions, lexed, finished, task_of}
use Rattle.ppddl_grammar.specs.texts.Texts as by
use Rattle.ppddl_grammar.specs.texts.Texts.{AreTokens, IsTask, Reads}
use Rattle.ppddl_grammar.specs.texts.Laws.{TaskIsDerived, TaskIsAccepted, OneTaskIsRead}
use Rattle.ppddl_grammar.proofs.lemmas.texts.Forms.{joined, spell-joined, lowered-joined, each-joined, each-apart, spelled-once}
use Rattle.ppddl_grammar.proofs.lemmas.texts.Tokens.{text-by, text-is}
use Rattle.ppddl_grammar.proofs.lemmas.texts.Definitions.{task-derived, task-accepted}

-- ---- what is read

read-at : (s t : TaskDraft) (h : Ahead) (fs : Forms) (e : Place) → h ≡ top fs e → all_at (definitions s) h ≡ Ok t → each definition s (lowered_forms fs) e ≡ Ok t
unfolding definitions all_at
read-at s t h fs e ahead is = ap (all_at (definitions s)) (sym ahead) ∙ is

finished-is : (s : TaskDraft) (e : Place) (task : Task) → finished s e ≡ Ok task → s ≡ Whole task
finished-is Empty e task is = absurd cc
finished-is (OfDomain m file d) e task is = absurd cc
finished-is (Whole t) e task is = cc

module _ (first : List ℕ) (task : Task) where
  one-derived : task_of first None ≡ Ok task → Reads first None task
  unfolding task_of
  one-derived is =
      let h = bind_ok (lexed 1 first) (λ h. all_at (definitions Empty) h >>= λ s. finished s (end_of_text first 1)) task is in
      let s = bind_ok (all_at (definitions Empty) h.0) (λ s. finished s (end_of_text first 1)) task h.2 in
      let t = text-is 1 first h.0 h.1 in
      let whole = finished-is s.0 (end_of_text first 1) task s.2 in
      let r = task-derived t.forms t.end task (read-at Empty s.0 h.0 t.forms t.end t.ahead s.1 ∙ ap (λ x. Ok x) whole) in
      record {
        domain = r.first;
        problem = r.second;
        tokens = by.of_one t.given (ap spell_all r.forms ∙ t.spelled);
        spelled = r.spelled;
      }

  two-derived : (second : List ℕ) → task_of first (Some second) ≡ Ok task → Reads first (Some second) task
  unfolding task_of
  two-derived second is =
      let h = bind_ok (lexed 1 first) (λ h. lexed 2 second >>= λ k. all_at (definitions Empty) h >>= λ s. all_at (definitions s) k >>= λ t. finished t (end_of_text second 2)) task is in
      let k = bind_ok (lexed 2 second) (λ k. all_at (definitions Empty) h.0 >>= λ s. all_at (definitions s) k >>= λ t. finished t (end_of_text second 2)) task h.2 in
      let s = bind_ok (all_at (definitions Empty) h.0) (λ s. all_at (definitions s) k.0 >>= λ t. finished t (end_of_text second 2)) task k.2 in
      let u = bind_ok (all_at (definitions s.0) k.0) (λ t. finished t (end_of_text second 2)) task s.2 in
      let one = text-is 1 first h.0 h.1 in
      let two = text-is 2 second k.0 k.1 in
      let whole = finished-is u.0 (end_of_text second 2) task u.2 in
      let behind = read-at s.0 u.0 k.0 two.forms two.end two.ahead u.1 ∙ ap (λ x. Ok x) whole in
      let both = each-joined definition Empty (lowered_forms one.forms) (lowered_forms two.forms) one.end two.end s.0 (Whole task)
      (read-at Empty s.0 h.0 one.forms one.end one.ahead s.1) behind in
      let all = joined one.forms two.forms in
      let r = task-derived all two.end task (ap (λ fs. each definition Empty fs two.end) (lowered-joined one.forms two.forms) ∙ both) in
      record {
        domain = r.first;
        problem = r.second;
        tokens = by.of_two one.given two.given
            (ap spell_all r.forms ∙ spell-joined one.forms two.forms ∙ ap (λ ps. ps ++ spell_all two.forms) one.spelled
            ∙ ap (λ ps. pieces first 1 one.tokens ++ ps) two.spelled);
        spelled = r.spelled;
      }

pub derived : TaskIsDerived
derived first None task is = one-derived first task is
derived first (Some second) task is = two-derived first task second is

-- ---- what is spelled

module _ (f g : Form) (task : Task) (is : IsTask (lowered_form f) (lowered_form g) task) where
  abbrev both : Forms
  both = more f (more g none)

  read-of : (fs : Forms) (e : Place) → both ≡ fs → each definition Empty (lowered_forms fs) e ≡ Ok (Whole task)
  read-of fs e same = subst (λ hs. each definition Empty (lowered_forms hs) e ≡ Ok (Whole task)) same (task-accepted (lowered_form f) (lowered_form g) e task is)

  tokens-accepted : (first : List ℕ) (second : Option (List ℕ)) (ps : List Piece) → spell_all both ≡ ps → AreTokens first second ps → task_of first second ≡ Ok task
  unfolding task_of definitions all_at
  tokens-accepted first second ps spelled (by.of_one {ts = ts} given same) =
      let t = text-by 1 first ts given in
      let forms = spelled-once both t.forms (spelled ∙ same ∙ sym t.spelled) in
      ap (λ r. r >>= λ h. all_at (definitions Empty) h >>= λ s. finished s (end_of_text first 1)) t.ahead
      ∙ ap (λ r. r >>= λ s. finished s (end_of_text first 1)) (read-of t.forms t.end forms)
  tokens-accepted first second ps spelled (by.of_two {second = other} {ts = ts} {us = us} given later same) =
      let t = text-by 1 first ts given in
      let u = text-by 2 other us later in
      let parts = ap (λ qs. qs ++ pieces other 2 us) (sym t.spelled) ∙ ap (λ qs. spell_all t.forms ++ qs) (sym u.spelled) ∙ sym (spell-joined t.forms u.forms) in
      let forms = spelled-once both (joined t.forms u.forms) (spelled ∙ same ∙ parts) in
      let read = ap (λ fs. each definition Empty fs u.end) (sym (lowered-joined t.forms u.forms)) ∙ read-of (joined t.forms u.forms) u.end forms in
      let q = each-apart definition Empty (lowered_forms t.forms) (lowered_forms u.forms) t.end u.end (Whole task) read in
      ap (λ r. r >>= λ h. lexed 2 other >>= λ k. all_at (definitions Empty) h >>= λ s. all_at (definitions s) k >>= λ x. finished x (end_of_text other 2)) t.ahead
      ∙ ap (λ r. r >>= λ k. all_at (definitions Empty) (top t.forms t.end) >>= λ s. all_at (definitions s) k >>= λ x. finished x (end_of_text other 2)) u.ahead
      ∙ ap (λ r. r >>= λ s. all_at (definitions s) (top u.forms u.end) >>= λ x. finished x (end_of_text other 2)) q.1
      ∙ ap (λ r. r >>= λ x. finished x (end_of_text other 2)) q.2

pub accepted : TaskIsAccepted
accepted first second task r = tokens-accepted r.domain r.problem task r.spelled first second (spell_all (more r.domain (more r.problem none))) refl r.tokens

-- ---- at most one

pub one-task : OneTaskIsRead
one-task first second s t reads_s reads_t = ok_is {E = Fault} s t (sym (accepted first second s reads_s) ∙ accepted first second t reads_t)
