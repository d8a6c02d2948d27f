-- What tells of a certificate that is not accepted, for people: the state of the row at fault and both sides of the comparison that
-- fails, in units.
--     atoms_up_to atoms left ns  the texts of atoms, each behind a blank, up to so many bytes; ` ..` in place of those that are left
--     state_text c r             the true atoms of a row's state
--     sides_text left how right why
--                                one value, how it stands to another one, and what that is
--     upper_sides upper least    an upper value below the least that follows, or else above it, as at a goal
--     lower_text, upper_text g c r
--                                a row's lower value above the greatest that follows, and its upper value beside the least that does
--     placed g c text place      a text and the state of the row in this place
--     HasRightAct g c place      the act of this row is right
--     penalty_text, ends_text g c
--                                the penalty beside that of the problem, and the interval beside that of the initial states
--     account g c v              what tells of a verdict; nothing of what is accepted
use Rattle.std.specs.Prelude.{◌≡◌, ℕ, ◌-◌, ◌+◌, nat_lt, cond, List, [], ◌∷◌, ◌++◌, length, codes, Some, None}
use Rattle.std.specs.List.{slice_get}
use Rattle.certificate.specs.Rows.{Row}
use Rattle.certificate.specs.Content.{Content, name_at}
use Rattle.ground_model.specs.Ground.{Ground}
use Rattle.certificate_check.specs.declared.verdict.Verdict.{Verdict}
use Rattle.certificate_check.specs.declared.verdict.Verdict.TheVariants.{Accepted, Penalty, UnknownAtom, Act, Lower, Upper, Ends}
use Rattle.certificate_check.specs.Claims.{low_in, high_in}
use Rattle.certificate_check.specs.Verdicts.{ActIsRight}
use Rattle.certificate_check.specs.Sides.{greatest_lower, least_upper, lower_mean, upper_mean}
use Rattle.plan_report.specs.declared.accounts.TheConstants.{MOST_STATE_BYTES}
use Rattle.plan_report.specs.Units.{units}

abbrev pub atoms_up_to : List (List ℕ) → ℕ → List ℕ → List ℕ
atoms_up_to atoms left [] = []
atoms_up_to atoms left (n ∷ ns) =
    cond (nat_lt (length (name_at atoms n)) left)
    (32 ∷ name_at atoms n ++ atoms_up_to atoms (left - (length (name_at atoms n) + 1)) ns)
    (codes " ..")

abbrev pub state_text : Content → Row → List ℕ
state_text c r = codes "state :" ++ atoms_up_to c.atoms MOST_STATE_BYTES r.atoms

abbrev pub sides_text : List ℕ → ℕ → List ℕ → ℕ → List ℕ → List ℕ
sides_text what left how right why = what ++ units left ++ how ++ units right ++ why

abbrev pub upper_sides : ℕ → ℕ → List ℕ
upper_sides upper least =
    cond (nat_lt upper least)
    (sides_text (codes "upper value ") upper (codes " is below ") least (codes ", the least that its act allows; "))
    (sides_text (codes "upper value ") upper (codes " is above ") least (codes ", which it is at a goal; "))

module _ (g : Ground) (c : Content) where
  abbrev pub lower_text : Row → List ℕ
  lower_text r =
      sides_text (codes "lower value ") r.lower (codes " is above ") (greatest_lower g c r)
      (codes ", the most that its acts allow; ")

  abbrev pub upper_text : Row → List ℕ
  upper_text r = upper_sides r.upper (least_upper g c r)

  abbrev pub placed : (Row → List ℕ) → ℕ → List ℕ
  placed text place = elim (slice_get c.rows place) [ None ↦ [] | Some r ↦ text r ++ state_text c r ]

  abbrev pub HasRightAct : ℕ → Type 0
  HasRightAct place = (r : Row) → slice_get c.rows place ≡ Some r → ActIsRight g c (low_in g c) (high_in g c) r

  abbrev pub penalty_text : List ℕ
  penalty_text =
      sides_text (codes "penalty ") c.penalty (codes " is not ") g.penalty (codes ", that of the problem")

  abbrev pub ends_text : List ℕ
  ends_text =
      sides_text (codes "interval ") c.lower (codes " ") c.upper (codes " is not ")
      ++ sides_text [] (lower_mean g c) (codes " ") (upper_mean g c) (codes ", that of the initial states")

  abbrev pub account : Verdict → List ℕ
  account Accepted = []
  account Penalty = penalty_text
  account Ends = ends_text
  account (UnknownAtom k) = placed (λ r. []) (k - 1)
  account (Act k) = placed (λ r. []) (k - 1)
  account (Lower k) = placed lower_text (k - 1)
  account (Upper k) = placed upper_text (k - 1)
