-- What refuses a part of a reading refuses the whole.
--     refused_on             what goes on from it
--     giving_refuses         what is made of it
--     definition_step        a definition, by its opening
--     lexed_refuses          a text without tokens
use Rattle.std.proofs.Common.{◌≡◌, ℕ, List, Result, Err, refl, sym, ap, ◌∙◌}
use Rattle.plain_list.specs.Results.{◌>>=◌}
use Rattle.plain_list.proofs.Results.{bind_assoc, bind_cong}
use Rattle.ppddl_lex.specs.declared.keywords.TheConstants.{DEFINE}
use Rattle.ppddl_lex.specs.declared.refusal.LexRefusal.{LexRefusal}
use Rattle.ppddl_lex.specs.declared.refusal.LexRefusal.TheVariants as lex
use Rattle.ppddl_lex.specs.declared.token.Token.{Token}
use Rattle.ppddl_lex.specs.Lexemes.{GivesTokens}
use Rattle.ppddl_model.specs.declared.refusal.TextRefusal.{TextRefusal}
use Rattle.ppddl_model.specs.declared.refusal.TextRefusal.TheVariants as refusal
use Rattle.ppddl_cursor.specs.declared.place.Place.{Place}
use Rattle.ppddl_cursor.specs.Ahead.{Ahead}
use Rattle.ppddl_cursor.specs.Forms.{Forms}
use Rattle.ppddl_cursor.specs.Reading.{Fault, Fails, read_to, one_at, rest_at}
use Rattle.ppddl_cursor.specs.Sequences.{giving, one_then, begun}
use Rattle.ppddl_cursor.proofs.Steps.{giving_step, with_step, then_step}
use Rattle.ppddl_reader.specs.declared.tasks.task_draft.TaskDraft.{TaskDraft}
use Rattle.ppddl_reader.specs.tasks.Texts.{heading, opening, body, definition, lex_refusal, lexed_so}

pub refused_on : {A B : Type 0} (e : TextRefusal) (r : Result A Fault) (on : A → Result B Fault) → Fails e r → Fails e (r >>= on)
refused_on refusal.Memory r on refuses = tt
refused_on (refusal.At code file line) r on refuses = rw refuses refl

pub giving_refuses : {A B : Type 0} (make : A → B) (read : Forms → Place → Result A Fault) (e : TextRefusal) (h : Ahead) → Fails e (rest_at read h) → Fails e (rest_at (giving make read) h)
giving_refuses make read e h refuses = rw (giving_step make read h) (refused_on e (rest_at read h) (λ y. read_to (make y.0) y.1) refuses)

pub definition_step : (s : TaskDraft) (h : Ahead) → one_at (definition s) h ≡ (opening s h >>= λ y. rest_at (body s y.0) y.1)
unfolding definition
definition_step s h =
    with_step DEFINE.now (one_then (heading s) (body s)) h
    ∙ bind_cong (begun DEFINE.now h) (λ k. rest_at (one_then (heading s) (body s)) k) (λ k. one_at (heading s) k >>= λ y. rest_at (body s y.0) y.1) (λ k. then_step (heading s) (body s) k)
    ∙ sym (bind_assoc (begun DEFINE.now h) (λ k. one_at (heading s) k) (λ y. rest_at (body s y.0) y.1))

pub lexed_refuses : (text : List ℕ) (n : ℕ) (e : LexRefusal) (ts : Result (List Token) LexRefusal) → GivesTokens (Err e) ts → Fails (lex_refusal n e) (lexed_so text n ts)
lexed_refuses text n lex.Memory ts given = tt
lexed_refuses text n (lex.BadByte line) ts given = ap (lexed_so text n) given
lexed_refuses text n (lex.Unbalanced line) ts given = ap (lexed_so text n) given
lexed_refuses text n (lex.TooDeep line) ts given = ap (lexed_so text n) given
