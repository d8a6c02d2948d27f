-- What one byte makes of the tokens behind it.
use Rattle.std.proofs.Common.{◌≡◌, ℕ, suc, ◌==◌, Bool, true, false, cond, List, [], ◌∷◌, Ok, Err, refl, rules, tests}
use Rattle.ppddl_lex.specs.declared.token_kind.TokenKind.TheVariants as kind
use Rattle.ppddl_lex.specs.declared.bytes.ByteClass.{ByteClass}
use Rattle.ppddl_lex.specs.declared.bytes.ByteClass.TheVariants as byte
use Rattle.ppddl_lex.specs.declared.refusal.LexRefusal.TheVariants.{BadByte}
use Rattle.ppddl_lex.specs.Bytes.{class_of}
use Rattle.ppddl_lex.specs.Lexemes.{tokens_from, comment_from, put_word_byte, single}

pub after_feed : (offset line b : ℕ) (bs : List ℕ) → class_of b ≡ byte.LineFeed → tokens_from offset line (b ∷ bs) ≡ tokens_from (suc offset) (suc line) bs
after_feed offset line b bs e = rw (e, tokens_from) refl

pub after_blank : (offset line b : ℕ) (bs : List ℕ) → class_of b ≡ byte.Blank → tokens_from offset line (b ∷ bs) ≡ tokens_from (suc offset) line bs
after_blank offset line b bs e = rw (e, tokens_from) refl

pub after_semicolon : (offset line b : ℕ) (bs : List ℕ) → class_of b ≡ byte.Semicolon → tokens_from offset line (b ∷ bs) ≡ comment_from (suc offset) line bs
after_semicolon offset line b bs e = rw (e, tokens_from) refl

pub at_left : (offset line b : ℕ) (bs : List ℕ) → class_of b ≡ byte.Left → tokens_from offset line (b ∷ bs) ≡ Ok (single kind.Left offset line) ∷ tokens_from (suc offset) line bs
at_left offset line b bs e = rw (e, tokens_from) refl

pub at_right : (offset line b : ℕ) (bs : List ℕ) → class_of b ≡ byte.Right → tokens_from offset line (b ∷ bs) ≡ Ok (single kind.Right offset line) ∷ tokens_from (suc offset) line bs
at_right offset line b bs e = rw (e, tokens_from) refl

pub at_word_byte : (offset line b : ℕ) (bs : List ℕ) → class_of b ≡ byte.Word → tokens_from offset line (b ∷ bs) ≡ put_word_byte offset line (tokens_from (suc offset) line bs)
at_word_byte offset line b bs e = rw (e, tokens_from) refl

pub at_bad : (offset line b : ℕ) (bs : List ℕ) → class_of b ≡ byte.Bad → tokens_from offset line (b ∷ bs) ≡ Err (BadByte line) ∷ []
at_bad offset line b bs e = rw (e, tokens_from) refl

pub comment_ends : (offset line b : ℕ) (bs : List ℕ) → (b == 10) ≡ true → comment_from offset line (b ∷ bs) ≡ tokens_from (suc offset) (suc line) bs
comment_ends offset line b bs e = rw (e, comment_from) refl

pub comment_goes_on : (offset line b : ℕ) (bs : List ℕ) → (b == 10) ≡ false → comment_from offset line (b ∷ bs) ≡ comment_from (suc offset) line bs
comment_goes_on offset line b bs e = rw (e, comment_from) refl

-- the class that the answers to the tests of class_of make
abbrev class_by : Bool → Bool → Bool → Bool → Bool → Bool → ByteClass
class_by feed blank semicolon left right word =
    cond feed byte.LineFeed (cond blank byte.Blank (cond semicolon byte.Semicolon (cond left byte.Left (cond right byte.Right (cond word byte.Word byte.Bad)))))

abbrev pub feed_class : ByteClass → Bool
feed_class k = elim k [ byte.LineFeed ↦ true | byte.Blank ↦ false | byte.Semicolon ↦ false | byte.Left ↦ false | byte.Right ↦ false | byte.Word ↦ false | byte.Bad ↦ false ]

by_feed : (feed blank semicolon left right word : Bool) → feed ≡ feed_class (class_by feed blank semicolon left right word)
by_feed true _ _ _ _ _ = refl
by_feed false true _ _ _ _ = refl
by_feed false false true _ _ _ = refl
by_feed false false false true _ _ = refl
by_feed false false false false true _ = refl
by_feed false false false false false true = refl
by_feed false false false false false false = refl

-- whether a byte is a line feed, by its class
pub feed-class : (b : ℕ) → (b == 10) ≡ feed_class (class_of b)
feed-class b = by_feed (b == 10) _ _ _ _ _

pub class-feed : (b : ℕ) → (b == 10) ≡ true → class_of b ≡ byte.LineFeed
class-feed b e = rw e refl

pub left_byte : (b : ℕ) → class_of b ≡ byte.Left → b ≡ 40
left_byte b e = search (tests, rules)

pub right_byte : (b : ℕ) → class_of b ≡ byte.Right → b ≡ 41
right_byte b e = search (tests, rules)
