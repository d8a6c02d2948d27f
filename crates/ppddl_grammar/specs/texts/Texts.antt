-- Which texts spell which tasks.
-- Sources: PDDL 1.2 (McDermott et al. 1998), PPDDL 1.0. The tokens of two texts are one sequence, so that each definition may stand in
-- either text.
--     AreTokens first second ps      ps are the tokens of the first text, and behind them those of the second, if there is one
--     IsHeading kind f n             `( KIND NAME )`
--     IsDefinition kind f n fs       `( define ( KIND NAME ) .. )`: its name, and what stands behind its heading
--     IsTask f g task                f defines a domain and g a problem of it: the task of both
--     Reads first second task        the tokens of the texts are a domain and, behind it, a problem of it, in letters of either case
use Rattle.std.specs.Prelude.{◌≡◌, ℕ, true, List, [], ◌∷◌, ◌++◌, Option, Some, None, Ok}
use Rattle.ppddl_lex.specs.declared.keywords.TheConstants.{DEFINE, DOMAIN, PROBLEM}
use Rattle.ppddl_lex.specs.declared.token.Token.{Token}
use Rattle.ppddl_lex.specs.Lexemes.{tokens_of}
use Rattle.ppddl_lex.specs.Words.{is_name}
use Rattle.ppddl_model.specs.declared.tree.Domain.{Domain}
use Rattle.ppddl_model.specs.declared.tree.Problem.{Problem}
use Rattle.ppddl_model.specs.declared.tree.Task.{Task}
use Rattle.ppddl_forms.specs.names.Declarations.{Declared}
use Rattle.ppddl_cursor.specs.declared.place.Place.{Place}
use Rattle.ppddl_cursor.specs.Forms.{Piece, Form, Forms, lone, none, more, spell_all, lowered_form}
use Rattle.ppddl_cursor.specs.Pieces.{pieces}
use Rattle.ppddl_forms.specs.declared.name.Name.{Name}
use Rattle.ppddl_form_grammar.specs.forms.Words.{forms, headed}
use Rattle.ppddl_grammar.specs.sections.Actions.{named_at}
use Rattle.ppddl_grammar.specs.definitions.Domains.{IsDomain}
use Rattle.ppddl_grammar.specs.definitions.Problems.{IsProblem}

pub data AreTokens : List ℕ → Option (List ℕ) → List Piece → Type 0 where
  of_one : {first : List ℕ} {ts : List Token} {ps : List Piece} → tokens_of first ≡ Ok ts → ps ≡ pieces first 1 ts → AreTokens first None ps
  of_two : {first second : List ℕ} {ts us : List Token} {ps : List Piece}
      → tokens_of first ≡ Ok ts → tokens_of second ≡ Ok us → ps ≡ pieces first 1 ts ++ pieces second 2 us → AreTokens first (Some second) ps

pub data IsHeading (kind : List ℕ) : Form → Name → Type 0 where
  heading : {a c b e : Place} {w : List ℕ} → is_name w ≡ true → IsHeading kind (headed a c kind (more (lone w e) none) b) (named_at w e)

pub data IsDefinition (kind : List ℕ) : Form → Name → Forms → Type 0 where
  definition : {a c b : Place} {f : Form} {n : Name} {fs : Forms} → IsHeading kind f n → IsDefinition kind (headed a c DEFINE.now (more f fs) b) n fs

pub data IsTask : Form → Form → Task → Type 0 where
  task : {f g : Form} {n o : Name} {fs gs : Forms} {m : Domain} {p : Problem} {d e : Declared}
      → IsDefinition DOMAIN.now f n fs → IsDomain n.text fs m d → IsDefinition PROBLEM.now g o gs → IsProblem o m.name d gs p e
      → IsTask f g (record { domain = m; domain_file = n.place.file; problem = p })

pub record Reads (first : List ℕ) (second : Option (List ℕ)) (task : Task) : Type 0 where
  pub domain : Form
  pub problem : Form
  pub tokens : AreTokens first second (spell_all (forms (domain ∷ problem ∷ [])))
  pub spelled : IsTask (lowered_form domain) (lowered_form problem) task
