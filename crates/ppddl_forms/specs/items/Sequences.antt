-- Readings that are put together, beside those of `ppddl_cursor` and of forms.
--     skipped                   any word
--     unsupported               nothing is read; what stands there is not accepted
--     by_head head read         the forms of a group by the first word, which is still to be read
--     pairs first second s      two forms at a time, by what is known before them, up to the end of the group
use Rattle.std.specs.Prelude.{ℕ, List, Result, Ok}
use Rattle.plain_list.specs.Results.{◌>>=◌}
use Rattle.ppddl_model.specs.declared.refusal.TextCode.TheVariants.{Expected, Unsupported}
use Rattle.ppddl_cursor.specs.declared.place.Place.{Place}
use Rattle.ppddl_cursor.specs.Forms.{Form, Forms, lone, group, none, more, begin_of}
use Rattle.ppddl_cursor.specs.Reading.{Fault, fails}
use Rattle.ppddl_cursor.specs.Sequences.{of_word}

unfoldable pub skipped : Form → Result (Unit {0}) Fault
skipped = of_word (λ w a. Ok tt)

unfoldable pub unsupported : {A : Type 0} → Form → Result A Fault
unsupported f = fails Unsupported (begin_of f)

unfoldable pub by_head : {K A : Type 0} → (List ℕ → K) → (K → Forms → Place → Result A Fault) → Forms → Place → Result A Fault
by_head head read none b = fails Expected b
by_head head read (more (group a gs c) fs) b = fails Expected a
by_head head read (more (lone w a) fs) b = read (head w) (more (lone w a) fs) b

unfoldable mutual
  pub pairs : {S A : Type 0} → (S → Form → Result A Fault) → (S → A → Form → Result S Fault) → S → Forms → Place → Result S Fault
  pairs first second s none b = Ok s
  pairs first second s (more f fs) b = first s f >>= λ x. second_of first second s x fs b

  -- where the second form is missing, the end of the group is at fault
  pub second_of : {S A : Type 0} → (S → Form → Result A Fault) → (S → A → Form → Result S Fault) → S → A → Forms → Place → Result S Fault
  second_of first second s x none b = fails Expected b
  second_of first second s x (more f fs) b = second s x f >>= λ t. pairs first second t fs b
