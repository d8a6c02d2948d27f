-- How the lines of a certificate are spelled. Numbers are in decimal without leading zeros.
--     spaced front rest      two parts with one blank between them
--     atoms_text atoms       `:`, and each atom behind a blank
--     named_row_line r       `L U ACT : ATOM ATOM`, a row of version 1
--     row_line r             `L U A : I I`, a row of version 2
use Rattle.std.specs.Prelude.{ℕ, eqb, cond, List, ◌∷◌, ◌++◌, codes, decimal}
use Rattle.std.specs.List.{flat_map}
use Rattle.certificate.specs.declared.act.Act.{Act}
use Rattle.certificate.specs.declared.act.Act.TheVariants.{GiveUp, Goal, Do}
use Rattle.certificate.specs.declared.named.NamedAct.{NamedAct}
use Rattle.certificate.specs.declared.named.NamedAct.TheVariants as named
use Rattle.certificate.specs.declared.named.NamedRow.{NamedRow}
use Rattle.certificate.specs.Rows.{Row}

abbrev pub spaced : List ℕ → List ℕ → List ℕ
spaced front rest = front ++ 32 ∷ rest

-- ---- the lines before the rows

abbrev pub version_line : ℕ → List ℕ
version_line version = cond (eqb version 1) (codes "cert 1") (codes "cert 2")

abbrev pub penalty_line : ℕ → List ℕ
penalty_line v = spaced (codes "penalty") (decimal v)

abbrev pub interval_line : ℕ → ℕ → List ℕ
interval_line lower upper = spaced (codes "interval") (spaced (decimal lower) (decimal upper))

abbrev pub atoms_line : ℕ → List ℕ
atoms_line n = codes "atoms " ++ decimal n

abbrev pub acts_line : ℕ → List ℕ
acts_line n = codes "acts " ++ decimal n

abbrev pub states_line : ℕ → List ℕ
states_line n = codes "states " ++ decimal n

-- ---- rows of version 1

abbrev pub named_act_text : NamedAct → List ℕ
named_act_text named.GiveUp = codes "give-up"
named_act_text named.Goal = codes "goal"
named_act_text (named.Do name) = name

abbrev pub atoms_text : List (List ℕ) → List ℕ
atoms_text atoms = codes ":" ++ flat_map (λ atom. 32 ∷ atom) atoms

abbrev pub named_row_line : NamedRow → List ℕ
named_row_line r =
    spaced (decimal r.lower) (spaced (decimal r.upper) (
    spaced (named_act_text r.act) (atoms_text r.atoms)
    ))

-- ---- rows of version 2

abbrev pub act_text : Act → List ℕ
act_text GiveUp = codes "give-up"
act_text Goal = codes "goal"
act_text (Do n) = decimal n

abbrev pub numbers_text : List ℕ → List ℕ
numbers_text numbers = codes ":" ++ flat_map (λ n. 32 ∷ decimal n) numbers

abbrev pub row_line : Row → List ℕ
row_line r =
    spaced (decimal r.lower) (spaced (decimal r.upper) (
    spaced (act_text r.act) (numbers_text r.atoms)
    ))
