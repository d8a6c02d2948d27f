-- Readings that are put together, beside those of `ppddl_cursor`.
--     by_word test x y        a word, as x reads it where it passes the test, and else as y does
--     or_word w at other      this word, or what the other reads
--     many_behind read seen   the list of what each form gives, behind what was read before
--     refused code a          nothing is read; what stands at a is at fault
--     each_to one finish s    each form by what is known before it, and what finish makes of that at the end of the group
use Rattle.std.specs.Prelude.{ℕ, List, Bool, if◌then◌else◌, Result}
use Rattle.plain_list.specs.Results.{◌>>=◌}
use Rattle.ppddl_model.specs.declared.refusal.TextCode.{TextCode}
use Rattle.ppddl_model.specs.declared.refusal.TextCode.TheVariants.{Expected}
use Rattle.ppddl_cursor.specs.declared.place.Place.{Place}
use Rattle.ppddl_cursor.specs.Ahead.{same}
use Rattle.ppddl_cursor.specs.Forms.{Form, Forms, lone, group, none, more}
use Rattle.ppddl_cursor.specs.Reading.{Fault, fails}
use Rattle.ppddl_cursor.specs.Sequences.{each, adding}

unfoldable pub by_word : {A : Type 0} → (List ℕ → Bool) → (Form → Result A Fault) → (Form → Result A Fault) → Form → Result A Fault
by_word test x y (lone w a) = if test w then x (lone w a) else y (lone w a)
by_word test x y (group a fs b) = fails Expected a

unfoldable pub or_word : {A : Type 0} → List ℕ → (Place → Result A Fault) → (Form → Result A Fault) → Form → Result A Fault
or_word w at other (lone v a) = if same v w then at a else other (lone v a)
or_word w at other (group a fs b) = other (group a fs b)

unfoldable pub many_behind : {A : Type 0} → (Form → Result A Fault) → List A → Forms → Place → Result (List A) Fault
many_behind read = each (adding (λ seen. read))

unfoldable pub refused : {A : Type 0} → TextCode → Place → Forms → Place → Result A Fault
refused code a fs b = fails code a

unfoldable pub each_to : {S A : Type 0} → (S → Form → Result S Fault) → (S → Place → Result A Fault) → S → Forms → Place → Result A Fault
each_to one finish s none b = finish s b
each_to one finish s (more f fs) b = one s f >>= λ t. each_to one finish t fs b
