-- The tokens of a text are spelled by its forms.
--     tokens-closed      they close what they open
--     text-by            the forms of a text with these tokens
--     text-is            the tokens and the forms of a text that has what lies ahead
use Rattle.std.proofs.Common.{◌≡◌, ℕ, ◌==◌, true, false, cond, if◌then◌else◌, List, [], ◌∷◌, Option, Some, None, Result, Ok, Err, refl, ap, sym, ◌∙◌, nat_lt}
use Rattle.std.proofs.lemmas.Bool.{eqb-true}
use Rattle.plain_list.proofs.Results.{ok_is}
use Rattle.ppddl_lex.specs.declared.token.Token.{Token}
use Rattle.ppddl_lex.specs.declared.refusal.LexRefusal.{LexRefusal}
use Rattle.ppddl_lex.specs.declared.refusal.LexRefusal.TheVariants.{Unbalanced, TooDeep}
use Rattle.ppddl_lex.specs.Lexemes.{Lexeme, tokens_at, nested, depth_behind, with_front, last_line, tokens_of}
use Rattle.ppddl_lex.specs.Tokens.{open_behind, open_after, IsClosed}
use Rattle.ppddl_cursor.specs.declared.place.Place.{Place}
use Rattle.ppddl_cursor.specs.Ahead.{Ahead, top, inner, pieces_of, is_top}
use Rattle.ppddl_cursor.specs.Forms.{Forms, spell_all}
use Rattle.ppddl_cursor.specs.Pieces.{pieces, text_ahead}
use Rattle.ppddl_cursor.specs.Reading.{Fault}
use Rattle.ppddl_cursor.proofs.Closed.{text_spelled, text_top}
use Rattle.ppddl_reader.specs.tasks.Texts.{lexed_so, lexed}

-- ---- what is open closes

record FirstIs (last n : ℕ) (t : Token) (ls : List Lexeme) (ts : List Token) : Type 0 where
  depth : ℕ
  leads : open_behind n t.kind ≡ Some depth
  rest : List Token
  answered : nested last depth ls ≡ Ok rest
  whole : t ∷ rest ≡ ts

front_is : (t : Token) (r : Result (List Token) LexRefusal) (ts : List Token) → with_front (t ∷ []) r ≡ Ok ts → (rest : List Token) × (r ≡ Ok rest) × (t ∷ rest ≡ ts)
front_is t (Ok rest) ts e = (rest, refl, (cc))
front_is t (Err x) ts e = absurd (cc)

depth_is : (line m : ℕ) (o : Option ℕ) → ◌≡◌ {A = Result ℕ LexRefusal} (elim o [ None ↦ Err (Unbalanced line) | Some k ↦ if nat_lt 100 k then Err (TooDeep line) else Ok k ]) (Ok m) → o ≡ Some m
depth_is line m None e = absurd (cc)
depth_is line m (Some k) e =
    (elim (nat_lt 100 k) as (λ v. ◌≡◌ {A = Result ℕ LexRefusal} (cond v (Err (TooDeep line)) (Ok k)) (Ok m) → Some k ≡ Some m) [
      | true ↦ λ h. absurd (cc)
      | false ↦ λ h. cc
    ]) e

behind_depth : (last n : ℕ) (t : Token) (ls : List Lexeme) (ts : List Token) (r : Result ℕ LexRefusal)
    → depth_behind n t ≡ r
    → ◌≡◌ {A = Result (List Token) LexRefusal} (elim r [ Err e ↦ Err e | Ok m ↦ with_front (t ∷ []) (nested last m ls) ]) (Ok ts) → FirstIs last n t ls ts
behind_depth last n t ls ts (Err x) d e = absurd (cc)
behind_depth last n t ls ts (Ok m) d e =
    let rest = front_is t (nested last m ls) ts e in
    record { depth = m; leads = depth_is t.line m (open_behind n t.kind) d; rest = rest.0; answered = rest.1; whole = rest.2 }

none_open : (last n : ℕ) (ts : List Token) → nested last n [] ≡ Ok ts → (n ≡ 0) × (ts ≡ [])
none_open last n ts e =
    (elim (n == 0) as (λ v. (n == 0) ≡ v → ◌≡◌ {A = Result (List Token) LexRefusal} (cond v (Ok []) (Err (Unbalanced last))) (Ok ts) → (n ≡ 0) × (ts ≡ [])) [
      | true ↦ λ zero_open h. (eqb-true n 0 zero_open, (cc))
      | false ↦ λ _ h. absurd (cc)
    ]) refl e

all_close : (last n : ℕ) (ls : List Lexeme) (ts : List Token) → nested last n ls ≡ Ok ts → open_after n ts ≡ Some 0
all_close last n [] ts e = let none = none_open last n ts e in rw (none.1) (ap Some none.0)
all_close last n (Err x ∷ ls) ts e = absurd (cc)
all_close last n (Ok t ∷ ls) ts e =
    let first = behind_depth last n t ls ts (depth_behind n t) refl e in
    rw (sym first.whole, open_after, first.leads) (all_close last first.depth ls first.rest first.answered)

tokens-closed : (text : List ℕ) (ts : List Token) → tokens_of text ≡ Ok ts → IsClosed ts
tokens-closed text ts is = all_close (last_line text) 0 (tokens_at text 0 1) ts is

-- ---- forms

top-is : (h : Ahead) → is_top h ≡ true → (fs : Forms) × (e : Place) × (h ≡ top fs e)
top-is (top fs e) is = (fs, e, refl)
top-is (inner fs b out) is = absurd cc

pub record TextBy (n : ℕ) (text : List ℕ) (ts : List Token) : Type 0 where
  pub forms : Forms
  pub end : Place
  pub ahead : lexed n text ≡ Ok (top forms end)
  pub spelled : spell_all forms ≡ pieces text n ts

pub text-by : (n : ℕ) (text : List ℕ) (ts : List Token) → tokens_of text ≡ Ok ts → TextBy n text ts
text-by n text ts is =
    let closed = tokens-closed text ts is in
    let t = top-is (text_ahead text n ts) (text_top text n ts closed) in
    record {
      forms = t.0;
      end = t.1;
      ahead = ap (lexed_so text n) is ∙ ap (λ h. Ok h) t.2;
      spelled = ap pieces_of (sym t.2) ∙ text_spelled text n ts closed;
    }

tokens-given : (n : ℕ) (text : List ℕ) (r : Result (List Token) LexRefusal) (h : Ahead) → lexed_so text n r ≡ Ok h → (ts : List Token) × (r ≡ Ok ts)
tokens-given n text (Ok ts) h is = (ts, refl)
tokens-given n text (Err e) h is = absurd cc

pub record TextIs (n : ℕ) (text : List ℕ) (h : Ahead) : Type 0 where
  pub tokens : List Token
  pub given : tokens_of text ≡ Ok tokens
  pub forms : Forms
  pub end : Place
  pub ahead : h ≡ top forms end
  pub spelled : spell_all forms ≡ pieces text n tokens

pub text-is : (n : ℕ) (text : List ℕ) (h : Ahead) → lexed n text ≡ Ok h → TextIs n text h
text-is n text h is =
    let t = tokens-given n text (tokens_of text) h is in
    let s = text-by n text t.0 t.1 in
    record {
      tokens = t.0;
      given = t.1;
      forms = s.forms;
      end = s.end;
      ahead = ok_is {E = Fault} h (top s.forms s.end) (sym is ∙ s.ahead);
      spelled = s.spelled;
    }
