-- Forms one behind the other, each with what is known before it and behind it.
--     Fold R s fs t       from s to t
--     AreFlags fs         each form is a flag
use Rattle.std.specs.Prelude.{◌≡◌, ℕ, List, true}
use Rattle.ppddl_lex.specs.Words.{is_flag}
use Rattle.ppddl_cursor.specs.declared.place.Place.{Place}
use Rattle.ppddl_cursor.specs.Forms.{Form, Forms, lone, none, more}

pub data Fold {S : Type 0} (R : S → Form → S → Type 0) : S → Forms → S → Type 0 where
  ended : {s : S} → Fold R s none s
  one_more : {s t u : S} {f : Form} {fs : Forms} → R s f t → Fold R t fs u → Fold R s (more f fs) u

pub data AreFlags : Forms → Type 0 where
  no_flag : AreFlags none
  flag : {w : List ℕ} {a : Place} {fs : Forms} → is_flag w ≡ true → AreFlags fs → AreFlags (more (lone w a) fs)
