-- The line's text spells the line's task.
--     line_is_read
use Rattle.std.proofs.Common.{◌≡◌, ℕ, suc, ◌+◌, ◌-◌, ◌^◌, ◌<◌, ◌≤◌, List, [], ◌∷◌, None, refl, sym, subst, arith}
use Rattle.ppddl_model.specs.declared.tree.Task.{Task}
use Rattle.ppddl_cursor.specs.Forms.{Form, Piece, spell_all, lowered_form}
use Rattle.ppddl_form_grammar.specs.forms.Words.{forms}
use Rattle.ppddl_grammar.specs.texts.Texts.{AreTokens, IsTask, Reads}
use Rattle.plan_report.specs.Line.{line_text}
use Rattle.bench_line.specs.LineTask.{line_task}
use Rattle.bench_line.specs.Laws.{LineIsRead}
use Rattle.bench_line.proofs.lemmas.reading.Bits.{text_of, are_tokens}
use Rattle.bench_line.proofs.lemmas.reading.Spelling.{line_bits, end_line, domain_form, problem_form, line_spelled, line_pieces, line_good, line_depth}
use Rattle.bench_line.proofs.lemmas.reading.Derivation.{the_task, spelled}
use Rattle.bench_line.proofs.lemmas.reading.Lower.{same_form, domain_lower, problem_lower}

abbrev line_forms : ℕ → ℕ → ℕ → List Form
line_forms n m seed = domain_form n m seed ∷ problem_form n m ∷ []

tokens_are : (n m seed : ℕ) → n - 1 ≡ m → n < 2 ^ 64 → m < 2 ^ 64 → AreTokens (line_text n seed) None (spell_all (forms (line_forms n m seed)))
tokens_are n m seed e few other =
    subst (λ (text : List ℕ). AreTokens text None (spell_all (forms (line_forms n m seed)))) (line_spelled n m seed e)
    (subst (λ (ps : List Piece). AreTokens (text_of (line_bits n m seed)) None ps) (line_pieces n m seed)
    (are_tokens (line_bits n m seed) (line_good n m seed few other) (line_depth n m seed)))

task_is : (n m seed : ℕ) → n - 1 ≡ m → 1 ≤ n → n < 2 ^ 64 → IsTask (domain_form n m seed) (problem_form n m) (line_task n seed)
task_is n m seed e some few =
    let actions : 0 + m ≡ n - 1 = omega arith in
    let line : suc (end_line m) ≡ n + 3 = omega arith in
    let Spelled : Task → Type 0 = λ t. IsTask (domain_form n m seed) (problem_form n m) t in
    subst (λ k. Spelled (the_task n seed (n - 1) (n + 3) k)) (sym e)
    (subst (λ l. Spelled (the_task n seed (n - 1) l m)) line
    (subst (λ k. Spelled (the_task n seed k (suc (end_line m)) m)) actions (spelled n m seed few (omega arith))))

lowered_so : (f g : Form) (task : Task) → lowered_form f ≡ f → lowered_form g ≡ g → IsTask f g task → IsTask (lowered_form f) (lowered_form g) task
lowered_so f g task same_f same_g is = subst (λ h. IsTask h (lowered_form g) task) (sym same_f) (subst (λ h. IsTask f h task) (sym same_g) is)

reads : (n m seed : ℕ) → n - 1 ≡ m → 1 ≤ n → n < 2 ^ 64 → Reads (line_text n seed) None (line_task n seed)
reads n m seed e some few = record {
  domain = domain_form n m seed;
  problem = problem_form n m;
  tokens = tokens_are n m seed e few (omega arith);
  spelled = lowered_so (domain_form n m seed) (problem_form n m) (line_task n seed)
      (same_form (domain_form n m seed) (domain_lower n m seed few (omega arith)))
      (same_form (problem_form n m) (problem_lower (suc (end_line m)) n m few (omega arith)))
      (task_is n m seed e some few);
}

pub line_is_read : LineIsRead
line_is_read n seed least most = reads n (n - 1) seed refl (omega arith) (omega arith)
