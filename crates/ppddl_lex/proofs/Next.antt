-- What comes next in a text, as a gap and what stands behind it.
use Rattle.std.proofs.Common.{◌≡◌, ℕ, suc, ◌+◌, ◌==◌, true, false, cond, List, [], ◌∷◌, ◌++◌, length, take, drop, Option, Some, None, Ok, Err, refl, ap, sym, ◌∙◌, subst, arith, slice_get}
use Rattle.std.specs.List.{AllByRecursion}
use Rattle.std.proofs.lemmas.List.Sums.{sum_by-cons}
use Rattle.std.proofs.lemmas.List.{length-take-le, take-append-drop}
use Rattle.ppddl_lex.specs.declared.token_kind.TokenKind.TheVariants as kind
use Rattle.ppddl_lex.specs.declared.bytes.ByteClass.{ByteClass}
use Rattle.ppddl_lex.specs.declared.bytes.ByteClass.TheVariants as byte
use Rattle.ppddl_lex.specs.declared.refusal.LexRefusal.TheVariants.{BadByte}
use Rattle.ppddl_lex.specs.Bytes.{class_of, is_word_byte, line_feeds}
use Rattle.ppddl_lex.specs.Lexemes.{Lexeme, tokens_from, comment_from, tokens_at, token_of, Continues}
use Rattle.ppddl_lex.specs.Gaps.{IsGap, IsCommentAndGap, EndsWord, Stands, IsBad, IsNext}
use Rattle.ppddl_lex.proofs.Steps.{after_feed, after_blank, after_semicolon, at_left, at_right, at_bad, comment_ends, comment_goes_on, feed_class, feed-class, left_byte, right_byte}
use Rattle.ppddl_lex.proofs.Runs.{front_len, front_len-le, word_run, class-word_byte, is_word_byte-true}

-- These lexemes, which the bytes bs spell, begin with what comes next: a gap of this sort, and behind it a token
-- with the lexemes of the rest, a bad byte, or nothing.
abbrev pub Begin : (List ℕ → Type 0) → ℕ → ℕ → List ℕ → List Lexeme → Type 0
Begin G offset line bs [] = G (bs ++ 10 ∷ [])
Begin G offset line bs (Ok t ∷ ls) = (gap : List ℕ) × (spelling : List ℕ) × (rest : List ℕ) × G gap × Stands offset line bs t gap spelling rest × (ls ≡ tokens_from t.to t.line rest)
Begin G offset line bs (Err e ∷ ls) = (gap : List ℕ) × (b : ℕ) × (rest : List ℕ) × G gap × IsBad line bs e gap b rest × (ls ≡ [])

pub line_feeds-cons : (b : ℕ) (bs : List ℕ) → line_feeds (b ∷ bs) ≡ cond (b == 10) 1 0 + line_feeds bs
line_feeds-cons b bs = sum_by-cons (λ x. cond (x == 10) 1 0) b bs

-- one more byte before a gap
one_more : (G H : List ℕ → Type 0) (offset line next b : ℕ) (bs : List ℕ) (ls : List Lexeme) → ((gap : List ℕ) → G gap → H (b ∷ gap)) → next ≡ line + cond (b == 10) 1 0
    → Begin G (suc offset) next bs ls → Begin H offset line (b ∷ bs) ls
one_more G H offset line next b bs [] more on h = more (bs ++ 10 ∷ []) h
one_more G H offset line next b bs (Ok t ∷ ls) more on (gap, spelling, rest, is_gap, stands, ahead) =
    let feeds = line_feeds-cons b gap in (
      b ∷ gap,
      spelling,
      rest,
      more gap is_gap,
      record {
        whole = ap (λ xs. b ∷ xs) stands.whole;
        spelled = stands.spelled;
        from = omega (arith, stands.from);
        to = stands.to;
        line = omega (arith, stands.line, on, feeds);
      },
      ahead,
    )
one_more G H offset line next b bs (Err e ∷ ls) more on (gap, bad, rest, is_gap, is_bad, ahead) =
    let feeds = line_feeds-cons b gap in
    let lines : next + line_feeds gap ≡ line + line_feeds (b ∷ gap) = omega (arith, on, feeds) in (
      b ∷ gap,
      bad,
      rest,
      more gap is_gap,
      record {
        whole = ap (λ xs. b ∷ xs) is_bad.whole;
        bad = is_bad.bad;
        refusal = subst (λ n. e ≡ BadByte n) lines is_bad.refusal;
      },
      ahead,
    )

all_word_bytes : (bs : List ℕ) → AllByRecursion (λ b. class_of b ≡ byte.Word) (take (front_len is_word_byte bs) bs)
all_word_bytes [] = tt
all_word_bytes (b ∷ bs) =
    (elim (is_word_byte b) as (λ v. is_word_byte b ≡ v → AllByRecursion (λ x. class_of x ≡ byte.Word) (take (cond v (suc (front_len is_word_byte bs)) 0) (b ∷ bs))) [
      | true ↦ λ e. (class-word_byte b e, all_word_bytes bs)
      | false ↦ λ e. tt
    ]) refl

no_word_byte_behind : (bs : List ℕ) → EndsWord (drop (front_len is_word_byte bs) bs)
no_word_byte_behind [] = tt
no_word_byte_behind (b ∷ bs) =
    (elim (is_word_byte b) as (λ v. is_word_byte b ≡ v → EndsWord (drop (cond v (suc (front_len is_word_byte bs)) 0) (b ∷ bs))) [
      | true ↦ λ e. no_word_byte_behind bs
      | false ↦ λ e is. let passes = is_word_byte-true b is in cc
    ]) refl

-- a word with no gap before it
word_stands : (offset line b : ℕ) (bs : List ℕ) → class_of b ≡ byte.Word → let n = front_len is_word_byte (b ∷ bs) in
    Stands offset line (b ∷ bs) (token_of kind.Word offset (offset + n) line) [] (take n (b ∷ bs)) (drop n (b ∷ bs))
word_stands offset line b bs e =
    let n = front_len is_word_byte (b ∷ bs) in
    let long : length (take n (b ∷ bs)) ≡ n = length-take-le n (b ∷ bs) (front_len-le is_word_byte (b ∷ bs)) in
    let some : n ≡ suc (front_len is_word_byte bs) = rw (is_word_byte-true b e) refl in
    record {
      whole = sym (take-append-drop n (b ∷ bs));
      spelled = (omega (arith, long, some), all_word_bytes (b ∷ bs), no_word_byte_behind (b ∷ bs));
      from = omega arith;
      to = omega (arith, long);
      line = omega arith;
    }

pub one_line_more : (line b : ℕ) → (b == 10) ≡ true → suc line ≡ line + cond (b == 10) 1 0
one_line_more line b e = rw e (omega arith)

pub same_line : (line b : ℕ) → (b == 10) ≡ false → line ≡ line + cond (b == 10) 1 0
same_line line b e = rw e (omega arith)

pub no_feed : (b : ℕ) (k : ByteClass) → class_of b ≡ k → feed_class k ≡ false → (b == 10) ≡ false
no_feed b k e h = feed-class b ∙ ap feed_class e ∙ h

mutual
  pub begins : (offset line : ℕ) (bs : List ℕ) → Begin IsGap offset line bs (tokens_from offset line bs)
  begins offset line [] = tt
  begins offset line (b ∷ bs) = (elim (class_of b) as (λ k. class_of b ≡ k → Begin IsGap offset line (b ∷ bs) (tokens_from offset line (b ∷ bs))) [
    | byte.LineFeed ↦ λ e. rw (after_feed offset line b bs e)
        (one_more IsGap IsGap offset line (suc line) b bs _ (λ gap h. rw (e, IsGap) h) (one_line_more line b (feed-class b ∙ ap feed_class e)) (begins (suc offset) (suc line) bs))
    | byte.Blank ↦ λ e. rw (after_blank offset line b bs e)
        (one_more IsGap IsGap offset line line b bs _ (λ gap h. rw (e, IsGap) h) (same_line line b (no_feed b byte.Blank e refl)) (begins (suc offset) line bs))
    | byte.Semicolon ↦ λ e. rw (after_semicolon offset line b bs e)
        (one_more IsCommentAndGap IsGap offset line line b bs _ (λ gap h. rw (e, IsGap) h) (same_line line b (no_feed b byte.Semicolon e refl)) (begins_in_comment (suc offset) line bs))
    | byte.Left ↦ λ e. rw (at_left offset line b bs e)
        ([], 40 ∷ [], bs, tt, record { whole = ap (λ x. x ∷ bs) (left_byte b e); spelled = refl; from = omega arith; to = omega arith; line = omega arith }, refl)
    | byte.Right ↦ λ e. rw (at_right offset line b bs e)
        ([], 41 ∷ [], bs, tt, record { whole = ap (λ x. x ∷ bs) (right_byte b e); spelled = refl; from = omega arith; to = omega arith; line = omega arith }, refl)
    | byte.Word ↦ λ e. rw (word_run offset line b bs e)
        ([], take (front_len is_word_byte (b ∷ bs)) (b ∷ bs), drop (front_len is_word_byte (b ∷ bs)) (b ∷ bs), tt, word_stands offset line b bs e, refl)
    | byte.Bad ↦ λ e. rw (at_bad offset line b bs e)
        ([], b, bs, tt, record { whole = refl; bad = e; refusal = ap BadByte (let h : line ≡ line + 0 = omega arith in h) }, refl)
  ]) refl

  pub begins_in_comment : (offset line : ℕ) (bs : List ℕ) → Begin IsCommentAndGap offset line bs (comment_from offset line bs)
  begins_in_comment offset line [] = tt
  begins_in_comment offset line (b ∷ bs) = (elim (b == 10) as (λ v. (b == 10) ≡ v → Begin IsCommentAndGap offset line (b ∷ bs) (comment_from offset line (b ∷ bs))) [
    | true ↦ λ e. rw (comment_ends offset line b bs e)
        (one_more IsGap IsCommentAndGap offset line (suc line) b bs _ (λ gap h. rw (e, IsCommentAndGap) h) (one_line_more line b e) (begins (suc offset) (suc line) bs))
    | false ↦ λ e. rw (comment_goes_on offset line b bs e)
        (one_more IsCommentAndGap IsCommentAndGap offset line line b bs _ (λ gap h. rw (e, IsCommentAndGap) h) (same_line line b e) (begins_in_comment (suc offset) line bs))
  ]) refl

of_begin : (offset line : ℕ) (bs : List ℕ) (ls : List Lexeme) → Begin IsGap offset line bs ls → IsNext offset line bs (slice_get ls 0)
of_begin offset line bs [] h = h
of_begin offset line bs (Ok t ∷ ls) (gap, spelling, rest, is_gap, stands, ahead) = (gap, spelling, rest, is_gap, stands)
of_begin offset line bs (Err e ∷ ls) (gap, b, rest, is_gap, is_bad, ahead) = (gap, b, rest, is_gap, is_bad)

first_of : (text : List ℕ) (offset line : ℕ) (next : Option Lexeme) → Continues text offset line next → slice_get (tokens_at text offset line) 0 ≡ next
first_of text offset line None e = ap (λ ls. slice_get ls 0) e
first_of text offset line (Some (Ok t)) e = ap (λ ls. slice_get ls 0) e
first_of text offset line (Some (Err x)) e = ap (λ ls. slice_get ls 0) e

-- what continues a text is what comes next in it
pub next_stands : (text : List ℕ) (offset line : ℕ) (next : Option Lexeme) → Continues text offset line next → IsNext offset line (drop offset text) next
next_stands text offset line next e =
    let bs = drop offset text in
    subst (IsNext offset line bs) (first_of text offset line next e) (of_begin offset line bs (tokens_from offset line bs) (begins offset line bs))
