-- The tokens of a whole text, by what comes next again and again.
use Rattle.std.proofs.Common.{◌≡◌, ℕ, ◌==◌, true, false, cond, if◌then◌else◌, List, [], ◌∷◌, Option, Some, None, Result, Ok, Err, ◌<◌, refl, ap, sym, subst, arith, nat_lt}
use Rattle.std.proofs.lemmas.List.{append-nil}
use Rattle.std.proofs.lemmas.Bool.{eqb-true, eq-eqb, ne_eqb}
use Rattle.ppddl_lex.specs.declared.token.Token.{Token}
use Rattle.ppddl_lex.specs.declared.refusal.LexRefusal.{LexRefusal}
use Rattle.ppddl_lex.specs.declared.refusal.LexRefusal.TheVariants.{BadByte, Unbalanced, TooDeep, Memory}
use Rattle.ppddl_lex.specs.Tokens.{open_behind, open_after}
use Rattle.ppddl_lex.specs.Lexemes.{Lexeme, tokens_from, nested, depth_behind, with_front, GivesTokens}
use Rattle.ppddl_lex.specs.Gaps.{IsGap, Spells}
use Rattle.ppddl_lex.proofs.Next.{Begin, begins}

-- tokens are answered: the first leads to a depth, and the rest is answered from there
record FirstIs (last n : ℕ) (t : Token) (ls : List Lexeme) (ts : List Token) : Type 0 where
  depth : ℕ
  leads : open_behind n t.kind ≡ Some depth
  rest : List Token
  answered : nested last depth ls ≡ Ok rest
  whole : t ∷ rest ≡ ts

front_is : (t : Token) (r : Result (List Token) LexRefusal) (ts : List Token) → with_front (t ∷ []) r ≡ Ok ts → (rest : List Token) × (r ≡ Ok rest) × (t ∷ rest ≡ ts)
front_is t (Ok rest) ts e = (rest, refl, (cc))
front_is t (Err x) ts e = absurd (cc)

depth_is : (line m : ℕ) (o : Option ℕ) → ◌≡◌ {A = Result ℕ LexRefusal} (elim o [ None ↦ Err (Unbalanced line) | Some k ↦ if nat_lt 100 k then Err (TooDeep line) else Ok k ]) (Ok m) → o ≡ Some m
depth_is line m None e = absurd (cc)
depth_is line m (Some k) e =
    (elim (nat_lt 100 k) as (λ v. ◌≡◌ {A = Result ℕ LexRefusal} (cond v (Err (TooDeep line)) (Ok k)) (Ok m) → Some k ≡ Some m) [
      | true ↦ λ h. absurd (cc)
      | false ↦ λ h. cc
    ]) e

behind_depth : (last n : ℕ) (t : Token) (ls : List Lexeme) (ts : List Token) (r : Result ℕ LexRefusal)
    → depth_behind n t ≡ r
    → ◌≡◌ {A = Result (List Token) LexRefusal} (elim r [ Err e ↦ Err e | Ok m ↦ with_front (t ∷ []) (nested last m ls) ]) (Ok ts) → FirstIs last n t ls ts
behind_depth last n t ls ts (Err x) d e = absurd (cc)
behind_depth last n t ls ts (Ok m) d e =
    let rest = front_is t (nested last m ls) ts e in
    record { depth = m; leads = depth_is t.line m (open_behind n t.kind) d; rest = rest.0; answered = rest.1; whole = rest.2 }

first_is : (last n : ℕ) (t : Token) (ls : List Lexeme) (ts : List Token) → nested last n (Ok t ∷ ls) ≡ Ok ts → FirstIs last n t ls ts
first_is last n t ls ts e = behind_depth last n t ls ts (depth_behind n t) refl e

none_open : (last n : ℕ) (ts : List Token) → nested last n [] ≡ Ok ts → (n ≡ 0) × (ts ≡ [])
none_open last n ts e =
    (elim (n == 0) as (λ v. (n == 0) ≡ v → ◌≡◌ {A = Result (List Token) LexRefusal} (cond v (Ok []) (Err (Unbalanced last))) (Ok ts) → (n ≡ 0) × (ts ≡ [])) [
      | true ↦ λ zero_open h. (eqb-true n 0 zero_open, (cc))
      | false ↦ λ _ h. absurd (cc)
    ]) refl e

-- tokens that are answered close what is open
pub all_close : (last n : ℕ) (ls : List Lexeme) (ts : List Token) → nested last n ls ≡ Ok ts → open_after n ts ≡ Some 0
all_close last n [] ts e = let none = none_open last n ts e in rw (none.1) (ap Some none.0)
all_close last n (Err x ∷ ls) ts e = absurd (cc)
all_close last n (Ok t ∷ ls) ts e =
    let first = first_is last n t ls ts e in
    rw (sym first.whole, open_after, first.leads) (all_close last first.depth ls first.rest first.answered)

-- and with the gaps between them they spell the text
all_spelled : (last n offset line : ℕ) (bs : List ℕ) (ls : List Lexeme) (ts : List Token) → tokens_from offset line bs ≡ ls → Begin IsGap offset line bs ls → nested last n ls ≡ Ok ts → Spells offset line bs ts
all_spelled last n offset line bs [] ts same h e = rw (none_open last n ts e).1 h
all_spelled last n offset line bs (Err x ∷ ls) ts same h e = absurd (cc)
all_spelled last n offset line bs (Ok t ∷ ls) ts same (gap, spelling, rest, is_gap, stands, ahead) e =
    let first = first_is last n t ls ts e in
    rw (sym first.whole) (
      gap,
      spelling,
      rest,
      is_gap,
      stands,
      all_spelled last first.depth t.to t.line rest ls first.rest (sym ahead) (subst (λ xs. Begin IsGap t.to t.line rest xs) (sym ahead) (begins t.to t.line rest)) first.answered,
    )

pub spells : (last n offset line : ℕ) (bs : List ℕ) (ts : List Token) → nested last n (tokens_from offset line bs) ≡ Ok ts → Spells offset line bs ts
spells last n offset line bs ts e = all_spelled last n offset line bs (tokens_from offset line bs) ts refl (begins offset line bs) e

-- an answered refusal is the expected one, or it is want of memory
pub gives_refusal : (e : LexRefusal) (expected : Result (List Token) LexRefusal) → Err e ≡ expected → GivesTokens (Err e) expected
gives_refusal (BadByte line) expected same = sym same
gives_refusal (Unbalanced line) expected same = sym same
gives_refusal (TooDeep line) expected same = sym same
gives_refusal Memory expected same = tt

-- at the end nothing is open, or the text's end is refused
pub ends_closed : (front : List Token) (last n : ℕ) → n ≡ 0 → with_front front (nested last n []) ≡ Ok front
ends_closed front last n e = let none : (n == 0) ≡ true = eq-eqb n 0 e in rw (none, nested) (ap Ok (append-nil front))

pub ends_open : (front : List Token) (last n : ℕ) → 0 < n → with_front front (nested last n []) ≡ Err (Unbalanced last)
ends_open front last n some = let open_ones : (n == 0) ≡ false = ne_eqb n 0 (λ e. omega arith) in rw (open_ones, nested) refl
