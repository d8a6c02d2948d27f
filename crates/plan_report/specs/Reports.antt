-- The reports of commands. Each line ends with a line feed.
--     line text              a text with its line feed
--     counted_line word n    a word and a number
--     fraction_text n d      `n/d`
--     interval_line l u      an interval in units
--     under_line l           what is known from below, in units
--     balanced_text word c   a word of one line, and what is said of a balanced certificate: its interval and the number of its rows
--     accepted_text c, merged_text c
--                            the report of an accepted certificate, and of one that two were merged to
--     atom_text atoms n      the text of atom n behind a blank; nothing where there is no such atom
--     atoms_text atoms ns    those of some atoms
--     start_line g x         an initial state: its probability and its true atoms
--     choice_line atoms den c
--                            a joint choice: its probability, its cost without guarded parts, what it adds and
--                            deletes, and how many guarded parts it has
--     action_lines atoms a   an action with its choices
--     ground_text g          the report of a ground problem
use Rattle.std.specs.Prelude.{ℕ, List, [], ◌∷◌, ◌++◌, length, codes, decimal, slice_get, Some, None}
use Rattle.std.specs.List.{flat_map}
use Rattle.certificate.specs.Content.{Content}
use Rattle.ground_model.specs.declared.action.Choice.{Choice}
use Rattle.ground_model.specs.declared.action.GroundAction.{GroundAction}
use Rattle.ground_model.specs.declared.start.Start.{Start}
use Rattle.ground_model.specs.Ground.{Ground}
use Rattle.ground_step.specs.Atoms.{true_atoms}
use Rattle.plan_report.specs.Units.{units}

abbrev pub line : List ℕ → List ℕ
line text = text ++ codes "\n"

abbrev pub counted_line : List ℕ → ℕ → List ℕ
counted_line word n = line (word ++ decimal n)

abbrev pub fraction_text : ℕ → ℕ → List ℕ
fraction_text n d = decimal n ++ codes "/" ++ decimal d

abbrev pub interval_line : ℕ → ℕ → List ℕ
interval_line lower upper = line (codes "interval " ++ units lower ++ codes " " ++ units upper)

abbrev pub under_line : ℕ → List ℕ
under_line l = line (codes "under " ++ units l)

abbrev pub balanced_text : List ℕ → Content → List ℕ
balanced_text word c =
    line word ++ interval_line c.lower c.upper ++ counted_line (codes "states ") (length c.rows)

abbrev pub accepted_text : Content → List ℕ
accepted_text = balanced_text (codes "accepted")

abbrev pub merged_text : Content → List ℕ
merged_text = balanced_text (codes "merged")

module _ (atoms : List (List ℕ)) where
  abbrev pub atom_text : ℕ → List ℕ
  atom_text n = elim (slice_get atoms n) [ Some text ↦ 32 ∷ text | None ↦ [] ]

  abbrev pub atoms_text : List ℕ → List ℕ
  atoms_text numbers = flat_map atom_text numbers

  abbrev pub start_line : ℕ → Start → List ℕ
  start_line den x =
      line (codes "start " ++ fraction_text x.weight den ++ codes " :" ++ atoms_text (true_atoms x.state))

  abbrev pub choice_line : ℕ → Choice → List ℕ
  choice_line den c =
      line (codes "choice " ++ fraction_text c.weight den ++ codes " " ++ units c.cost
      ++ codes " +" ++ atoms_text c.adds ++ codes " -" ++ atoms_text c.deletes
      ++ codes " when " ++ decimal (length c.guarded))

  abbrev pub action_lines : GroundAction → List ℕ
  action_lines a =
      line (codes "action " ++ a.name ++ codes " " ++ decimal (length a.choices))
      ++ flat_map (choice_line a.den) a.choices

abbrev pub ground_text : Ground → List ℕ
ground_text g =
    line (codes "penalty " ++ units g.penalty)
    ++ counted_line (codes "atoms ") (length g.atoms) ++ flat_map line g.atoms
    ++ counted_line (codes "starts ") (length g.starts) ++ flat_map (start_line g.atoms g.start_den) g.starts
    ++ counted_line (codes "actions ") (length g.actions) ++ flat_map (action_lines g.atoms) g.actions
