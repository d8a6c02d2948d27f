-- What contracts see of the values of the code.
use Rattle.std.specs.Prelude.{List, map}
use Rattle.std.specs.Borrow.{Bor}
use Rattle.plan_request.specs.words.Words.{Text, Word, value, opens, gives, other}
use Rattle.plan_request.specs.words.Table as table
use Rattle.plan_request.specs.declared.words.lexing.Word.{Word as CodeWord}
use Rattle.plan_request.specs.declared.words.lexing.Word.TheVariants as code
use Rattle.plan_request.specs.declared.words.forms.Form.{Form}

abbrev pub shown_word : CodeWord → Word
shown_word code.Value = value
shown_word (code.Opens n) = opens n.now
shown_word (code.Gives n v) = gives n.now v.now
shown_word code.Other = other

abbrev pub texts_of : List (Bor Text) → List Text
texts_of = map (λ s. s.now)

abbrev pub shown_form : Form → table.Form
shown_form f = record { name = f.name.now; options = texts_of f.options.now; words = texts_of f.words.now }
