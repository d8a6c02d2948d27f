-- Readings that are put together, beside those of `ppddl_cursor` and `ppddl_forms`.
--     typed_list item dash kind finish s    items, and behind a `-` what the items before it are; each by what is known before it
--     is_dash f                             the word `-`
--     typing_behind ..                      the same from behind a `-` on
--     whole_or code read                    what is read; any other form is refused with the code where it begins
use Rattle.std.specs.Prelude.{Bool, false, if◌then◌else◌, Result, Ok, Err}
use Rattle.plain_list.specs.Results.{◌>>=◌}
use Rattle.ppddl_model.specs.declared.refusal.TextCode.{TextCode}
use Rattle.ppddl_model.specs.declared.refusal.TextCode.TheVariants.{Expected}
use Rattle.ppddl_cursor.specs.declared.place.Place.{Place}
use Rattle.ppddl_cursor.specs.Ahead.{same}
use Rattle.ppddl_cursor.specs.Forms.{Form, Forms, lone, group, none, more, begin_of}
use Rattle.ppddl_cursor.specs.Reading.{Fault, fails}
use Rattle.ppddl_forms.specs.declared.symbols.TheConstants.{DASH}

abbrev pub is_dash : Form → Bool
is_dash (lone w a) = same w DASH.now
is_dash (group a fs b) = false

module _ {S A : Type 0} (item : S → Form → Result S Fault) (dash : S → Place → Result (Unit {0}) Fault) (kind : S → Form → Result S Fault) (finish : S → Place → Result A Fault) where
  unfoldable mutual
    pub typed_list : S → Forms → Place → Result A Fault
    typed_list s none b = finish s b
    typed_list s (more f fs) b =
        if is_dash f then (dash s (begin_of f) >>= λ u. typing_behind s fs b)
        else (item s f >>= λ t. typed_list t fs b)

    pub typing_behind : S → Forms → Place → Result A Fault
    typing_behind s none b = fails Expected b
    typing_behind s (more f fs) b = kind s f >>= λ t. typed_list t fs b

abbrev pub or_refused : {A : Type 0} → TextCode → Place → Result A Fault → Result A Fault
or_refused code a (Ok x) = Ok x
or_refused code a (Err e) = fails code a

unfoldable pub whole_or : {A : Type 0} → TextCode → (Form → Result A Fault) → Form → Result A Fault
whole_or code read f = or_refused code (begin_of f) (read f)
