-- Tokens within a text.
--     Lies length t        the token t lies within a text of this length
--     open_after n ts      the number of open parentheses behind the tokens, where n are open before them; None where a `)` closes nothing
--     IsClosed ts          every parenthesis that opens also closes, and none closes that did not open
use Rattle.std.specs.Prelude.{◌≡◌, ℕ, zero, suc, ◌≤◌, List, [], ◌∷◌, Option, Some, None}
use Rattle.ppddl_lex.specs.declared.token.Token.{Token}
use Rattle.ppddl_lex.specs.declared.token_kind.TokenKind.{TokenKind}
use Rattle.ppddl_lex.specs.declared.token_kind.TokenKind.TheVariants.{Left, Right, Word}

pub record Lies (length : ℕ) (t : Token) : Type 0 where
  pub ordered : t.from ≤ t.to
  pub within : t.to ≤ length

abbrev pub open_behind : ℕ → TokenKind → Option ℕ
open_behind n Left = Some (suc n)
open_behind zero Right = None
open_behind (suc n) Right = Some n
open_behind n Word = Some n

abbrev pub open_after : ℕ → List Token → Option ℕ
open_after n [] = Some n
open_after n (t ∷ ts) = elim (open_behind n t.kind) [ None ↦ None | Some m ↦ open_after m ts ]

abbrev pub IsClosed : List Token → Type 0
IsClosed ts = open_after 0 ts ≡ Some 0
