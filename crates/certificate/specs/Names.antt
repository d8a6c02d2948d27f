-- Names in lower case, and lists of them.
--     is_lower_name w     a name of PPDDL that has no letter in upper case
--     IsNameList text     the text is `(NAME NAME ..)` for one such name or more
use Rattle.std.specs.Prelude.{◌≡◌, ℕ, ◌<◌, Bool, ◌&&◌, List, length, IsTrue}
use Rattle.std.specs.List.{list_all}
use Rattle.plain_list.specs.Texts.{list_text}
use Rattle.ppddl_lex.specs.Words.{is_name, is_same_word}

-- a name that is the same word once its letters are lowered
abbrev pub is_lower_name : List ℕ → Bool
is_lower_name w = is_name w && is_same_word w w

pub record IsNameList (text : List ℕ) : Type 0 where
  pub names : List (List ℕ)
  pub some : 0 < length names
  pub each : IsTrue (list_all is_lower_name names)
  pub spelled : text ≡ list_text names
