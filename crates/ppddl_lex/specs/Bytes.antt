-- Bytes outside comments.
--     class_of b       what the byte b is
--     line_feeds bs    how many lines end among the bytes bs
use Rattle.std.specs.Prelude.{ℕ, List, Bool, true, false, not, if◌then◌else◌, ◌==◌, ◌&&◌, ◌||◌, nat_le, count_by}
use Rattle.ppddl_lex.specs.declared.bytes.ByteClass.{ByteClass}
use Rattle.ppddl_lex.specs.declared.bytes.ByteClass.TheVariants.{LineFeed, Blank, Semicolon, Left, Right, Word, Bad}

-- Lines end with a line feed, 10. Blanks are the tab 9, the carriage return 13 and the blank 32. A comment
-- begins with `;`, 59. Parentheses are 40 and 41. The rest of 33 to 126 makes words, and no other byte may stand.
abbrev pub class_of : ℕ → ByteClass
class_of b =
    if b == 10 then LineFeed
    else (if b == 9 || b == 13 || b == 32 then Blank
    else (if b == 59 then Semicolon
    else (if b == 40 then Left
    else (if b == 41 then Right
    else (if nat_le 33 b && nat_le b 126 then Word
    else Bad)))))

abbrev pub line_feeds : List ℕ → ℕ
line_feeds bs = count_by (λ b. b == 10) bs

abbrev pub is_word_class : ByteClass → Bool
is_word_class Word = true
is_word_class _ = false

-- a byte of words
abbrev pub is_word_byte : ℕ → Bool
is_word_byte b = is_word_class (class_of b)

-- a byte that does not end a comment
abbrev pub continues_comment : ℕ → Bool
continues_comment b = not (b == 10)
