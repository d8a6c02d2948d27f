-- A text is spelled by its own tokens alone, and lines are counted by its line feeds.
use Rattle.std.proofs.Common.{◌≡◌, ℕ, suc, ◌+◌, ◌<◌, ◌==◌, true, false, cond, List, [], ◌∷◌, ◌++◌, map, length, drop, ◌↔◌, IsNone, Option, Some, None, Ok, Err, refl, ap, sym, ◌∙◌, arith}
use Rattle.std.specs.List.{AllByRecursion}
use Rattle.std.proofs.Math.Seq.{drop-append_seam}
use Rattle.std.proofs.lemmas.List.{drop-drop, append_assoc, length-append}
use Rattle.std.proofs.lemmas.List.Sums.{sum_by-append}
use Rattle.ppddl_lex.specs.declared.token.Token.{Token}
use Rattle.ppddl_lex.specs.declared.token_kind.TokenKind.{TokenKind}
use Rattle.ppddl_lex.specs.declared.token_kind.TokenKind.TheVariants as kind
use Rattle.ppddl_lex.specs.declared.bytes.ByteClass.TheVariants as byte
use Rattle.ppddl_lex.specs.Bytes.{class_of, is_word_byte, line_feeds}
use Rattle.ppddl_lex.specs.Lexemes.{Lexeme, tokens_from, comment_from, token_of, Continues}
use Rattle.ppddl_lex.specs.Gaps.{IsGap, IsCommentAndGap, IsLastGap, EndsWord, IsSpelling, Stands, IsNext, Spells}
use Rattle.ppddl_lex.proofs.Steps.{after_feed, after_blank, after_semicolon, at_left, at_right, comment_ends, comment_goes_on, feed_class, feed-class}
use Rattle.ppddl_lex.proofs.Runs.{front_len, word_run, is_word_byte-true, class-word_byte}
use Rattle.ppddl_lex.proofs.Next.{line_feeds-cons, one_line_more, same_line, no_feed, next_stands}

moved : (rest : List ℕ) (offset line offset' line' : ℕ) → offset ≡ offset' → line ≡ line' → tokens_from offset line rest ≡ tokens_from offset' line' rest
moved rest offset line offset' line' p l = cc

-- behind a gap with one more byte before it
behind : (offset line next b : ℕ) (gap rest : List ℕ) → next ≡ line + cond (b == 10) 1 0
    → tokens_from (suc offset + length gap) (next + line_feeds gap) rest ≡ tokens_from (offset + length (b ∷ gap)) (line + line_feeds (b ∷ gap)) rest
behind offset line next b gap rest e =
    moved rest (suc offset + length gap) (next + line_feeds gap) (offset + length (b ∷ gap)) (line + line_feeds (b ∷ gap)) (omega arith) (omega (arith, e, line_feeds-cons b gap))

mutual
  -- a gap is passed
  gap_passes : (offset line : ℕ) (gap rest : List ℕ) → IsGap gap → tokens_from offset line (gap ++ rest) ≡ tokens_from (offset + length gap) (line + line_feeds gap) rest
  gap_passes offset line [] rest h = moved rest offset line (offset + 0) (line + 0) (omega arith) (omega arith)
  gap_passes offset line (b ∷ gap) rest h =
      (elim (class_of b) as (λ k. class_of b ≡ k → tokens_from offset line (b ∷ gap ++ rest) ≡ tokens_from (offset + length (b ∷ gap)) (line + line_feeds (b ∷ gap)) rest) [
        | byte.LineFeed ↦ λ e.
            after_feed offset line b (gap ++ rest) e ∙ gap_passes (suc offset) (suc line) gap rest (rw (e, IsGap) at h)
            ∙ behind offset line (suc line) b gap rest (one_line_more line b (feed-class b ∙ ap feed_class e))
        | byte.Blank ↦ λ e.
            after_blank offset line b (gap ++ rest) e ∙ gap_passes (suc offset) line gap rest (rw (e, IsGap) at h)
            ∙ behind offset line line b gap rest (same_line line b (no_feed b byte.Blank e refl))
        | byte.Semicolon ↦ λ e.
            after_semicolon offset line b (gap ++ rest) e ∙ comment_passes (suc offset) line gap rest (rw (e, IsGap) at h)
            ∙ behind offset line line b gap rest (same_line line b (no_feed b byte.Semicolon e refl))
        | byte.Left ↦ λ e. absurd (rw (e, IsGap) at h)
        | byte.Right ↦ λ e. absurd (rw (e, IsGap) at h)
        | byte.Word ↦ λ e. absurd (rw (e, IsGap) at h)
        | byte.Bad ↦ λ e. absurd (rw (e, IsGap) at h)
      ]) refl

  comment_passes : (offset line : ℕ) (gap rest : List ℕ) → IsCommentAndGap gap → comment_from offset line (gap ++ rest) ≡ tokens_from (offset + length gap) (line + line_feeds gap) rest
  comment_passes offset line [] rest h = absurd h
  comment_passes offset line (b ∷ gap) rest h =
      (elim (b == 10) as (λ v. (b == 10) ≡ v → comment_from offset line (b ∷ gap ++ rest) ≡ tokens_from (offset + length (b ∷ gap)) (line + line_feeds (b ∷ gap)) rest) [
        | true ↦ λ e.
            comment_ends offset line b (gap ++ rest) e ∙ gap_passes (suc offset) (suc line) gap rest (rw (e, IsCommentAndGap) at h)
            ∙ behind offset line (suc line) b gap rest (one_line_more line b e)
        | false ↦ λ e.
            comment_goes_on offset line b (gap ++ rest) e ∙ comment_passes (suc offset) line gap rest (rw (e, IsCommentAndGap) at h)
            ∙ behind offset line line b gap rest (same_line line b e)
      ]) refl

mutual
  -- nothing is behind a last gap
  pub last_passes : (offset line : ℕ) (bs : List ℕ) → IsLastGap bs → tokens_from offset line bs ≡ []
  last_passes offset line [] h = refl
  last_passes offset line (b ∷ bs) h =
      (elim (class_of b) as (λ k. class_of b ≡ k → tokens_from offset line (b ∷ bs) ≡ []) [
        | byte.LineFeed ↦ λ e. after_feed offset line b bs e ∙ last_passes (suc offset) (suc line) bs (rw (e, IsGap) at h)
        | byte.Blank ↦ λ e. after_blank offset line b bs e ∙ last_passes (suc offset) line bs (rw (e, IsGap) at h)
        | byte.Semicolon ↦ λ e. after_semicolon offset line b bs e ∙ last_comment_passes (suc offset) line bs (rw (e, IsGap) at h)
        | byte.Left ↦ λ e. absurd (rw (e, IsGap) at h)
        | byte.Right ↦ λ e. absurd (rw (e, IsGap) at h)
        | byte.Word ↦ λ e. absurd (rw (e, IsGap) at h)
        | byte.Bad ↦ λ e. absurd (rw (e, IsGap) at h)
      ]) refl

  last_comment_passes : (offset line : ℕ) (bs : List ℕ) → IsCommentAndGap (bs ++ 10 ∷ []) → comment_from offset line bs ≡ []
  last_comment_passes offset line [] h = refl
  last_comment_passes offset line (b ∷ bs) h =
      (elim (b == 10) as (λ v. (b == 10) ≡ v → comment_from offset line (b ∷ bs) ≡ []) [
        | true ↦ λ e. comment_ends offset line b bs e ∙ last_passes (suc offset) (suc line) bs (rw (e, IsCommentAndGap) at h)
        | false ↦ λ e. comment_goes_on offset line b bs e ∙ last_comment_passes (suc offset) line bs (rw (e, IsCommentAndGap) at h)
      ]) refl

-- None comes exactly where a last gap is left
pub next_ends : (text : List ℕ) (offset line : ℕ) (next : Option Lexeme) → Continues text offset line next → IsNone next ↔ IsLastGap (drop offset text)
next_ends text offset line None e = (λ _. next_stands text offset line None e, λ _. refl)
next_ends text offset line (Some (Ok t)) e = (λ none. absurd (cc), λ gap. absurd (let nothing = last_passes offset line (drop offset text) gap in cc))
next_ends text offset line (Some (Err x)) e = (λ none. absurd (cc), λ gap. absurd (let nothing = last_passes offset line (drop offset text) gap in cc))

front_all : (word rest : List ℕ) → AllByRecursion (λ b. class_of b ≡ byte.Word) word → EndsWord rest → front_len is_word_byte (word ++ rest) ≡ length word
front_all [] [] all ends = refl
front_all [] (b ∷ rest) all ends =
    (elim (is_word_byte b) as (λ v. is_word_byte b ≡ v → cond v (suc (front_len is_word_byte rest)) 0 ≡ 0) [
      | true ↦ λ e. absurd (ends (class-word_byte b e))
      | false ↦ λ _. refl
    ]) refl
front_all (b ∷ word) rest all ends = rw (is_word_byte-true b all.0) (ap suc (front_all word rest all.1 ends))

-- what spells a token is that token
spelling_passes : (offset line : ℕ) (k : TokenKind) (spelling rest : List ℕ) → IsSpelling k spelling rest
    → tokens_from offset line (spelling ++ rest) ≡ Ok (token_of k offset (offset + length spelling) line) ∷ tokens_from (offset + length spelling) line rest
spelling_passes offset line kind.Left spelling rest e =
    rw e (at_left offset line 40 rest refl ∙ ap (λ n. Ok (token_of kind.Left offset n line) ∷ tokens_from n line rest) (let h : suc offset ≡ offset + 1 = omega arith in h))
spelling_passes offset line kind.Right spelling rest e =
    rw e (at_right offset line 41 rest refl ∙ ap (λ n. Ok (token_of kind.Right offset n line) ∷ tokens_from n line rest) (let h : suc offset ≡ offset + 1 = omega arith in h))
spelling_passes offset line kind.Word [] rest h = absurd (let none : 0 < 0 = h.0 in omega arith)
spelling_passes offset line kind.Word (b ∷ word) rest h =
    let long = front_all (b ∷ word) rest h.1 h.2 in
    word_run offset line b (word ++ rest) h.1.0
    ∙ ap (λ n. Ok (token_of kind.Word offset (offset + n) line) ∷ tokens_from (offset + n) line (drop n (b ∷ word ++ rest))) long
    ∙ ap (λ bs. Ok (token_of kind.Word offset (offset + length (b ∷ word)) line) ∷ tokens_from (offset + length (b ∷ word)) line bs) (drop-append_seam (b ∷ word) rest)

-- a token that stands in a text is the first of it, and the rest follows
stands_first : (offset line : ℕ) (bs : List ℕ) (t : Token) (gap spelling rest : List ℕ) → IsGap gap → Stands offset line bs t gap spelling rest
    → tokens_from offset line bs ≡ Ok t ∷ tokens_from t.to t.line rest
stands_first offset line bs t gap spelling rest is_gap stands =
    let here : t.from + length spelling ≡ t.to = sym stands.to in
    ap (tokens_from offset line) stands.whole ∙ gap_passes offset line gap (spelling ++ rest) is_gap
    ∙ moved (spelling ++ rest) (offset + length gap) (line + line_feeds gap) t.from t.line (sym stands.from) (sym stands.line)
    ∙ spelling_passes t.from t.line t.kind spelling rest stands.spelled
    ∙ ap (λ n. Ok (token_of t.kind t.from n t.line) ∷ tokens_from n t.line rest) here

-- what a text is spelled by are its tokens
pub only : (offset line : ℕ) (bs : List ℕ) (ts : List Token) → Spells offset line bs ts → tokens_from offset line bs ≡ map (λ t. Ok t) ts
only offset line bs [] h = last_passes offset line bs h
only offset line bs (t ∷ ts) (gap, spelling, rest, is_gap, stands, others) =
    stands_first offset line bs t gap spelling rest is_gap stands ∙ ap (λ ls. Ok t ∷ ls) (only t.to t.line rest ts others)

all_ok : (ts us : List Token) → ◌≡◌ {A = List Lexeme} (map (λ t. Ok t) ts) (map (λ t. Ok t) us) → ts ≡ us
all_ok [] [] e = refl
all_ok [] (u ∷ us) e = absurd (cc)
all_ok (t ∷ ts) [] e = absurd (cc)
all_ok (t ∷ ts) (u ∷ us) e =
    let first : t ≡ u = cc in
    let rest : ◌≡◌ {A = List Lexeme} (map (λ x. Ok x) ts) (map (λ x. Ok x) us) = cc in
    let same = all_ok ts us rest in
    cc

-- no other tokens spell a text
pub one_spelling : (offset line : ℕ) (bs : List ℕ) (ts us : List Token) → Spells offset line bs ts → Spells offset line bs us → ts ≡ us
one_spelling offset line bs ts us h k = all_ok ts us (sym (only offset line bs ts h) ∙ only offset line bs us k)

word_line : (word : List ℕ) → AllByRecursion (λ b. class_of b ≡ byte.Word) word → line_feeds word ≡ 0
word_line [] all = refl
word_line (b ∷ word) all =
    let own = no_feed b byte.Word all.0 refl in
    line_feeds-cons b word ∙ rw (own, word_line word all.1) refl

spelling_line : (k : TokenKind) (spelling rest : List ℕ) → IsSpelling k spelling rest → line_feeds spelling ≡ 0
spelling_line kind.Left spelling rest e = rw e refl
spelling_line kind.Right spelling rest e = rw e refl
spelling_line kind.Word spelling rest h = word_line spelling h.1

line_feeds-append : (xs ys : List ℕ) → line_feeds (xs ++ ys) ≡ line_feeds xs + line_feeds ys
line_feeds-append xs ys = sum_by-append (λ b. cond (b == 10) 1 0) xs ys

-- the last line is the same from behind a token as from before it
pub lines_go_on : (text : List ℕ) (offset line : ℕ) (t : Token) → IsNext offset line (drop offset text) (Some (Ok t))
    → t.line + line_feeds (drop t.to text) ≡ line + line_feeds (drop offset text)
lines_go_on text offset line t (gap, spelling, rest, is_gap, stands) =
    let n = length gap + length spelling in
    let long : length (gap ++ spelling) ≡ n = length-append gap spelling in
    let whole : drop offset text ≡ gap ++ spelling ++ rest = stands.whole ∙ sym (append_assoc gap spelling rest) in
    let behind_it : drop t.to text ≡ rest =
    ap (λ k. drop k text) (let h : t.to ≡ offset + n = omega (arith, stands.to, stands.from) in h)
    ∙ sym (drop-drop n offset text) ∙ ap (λ k. drop k (drop offset text)) (sym long) ∙ ap (drop (length (gap ++ spelling))) whole ∙ drop-append_seam (gap ++ spelling) rest in
    rw (behind_it, whole) (omega (arith, stands.line, line_feeds-append (gap ++ spelling) rest, line_feeds-append gap spelling, spelling_line t.kind spelling rest stands.spelled))
