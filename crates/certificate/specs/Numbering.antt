-- Tables of names, and rows of names as rows of numbers.
--     table_of texts             the texts in rising order, each once
--     place_of table text        the place of a text in a table that has it
--     Among texts text           the text is one of these
--     numbered_row atoms acts r  the row with places in these tables in place of names
--     numbered ..                the certificate of version 1 that has these rows of names
use Rattle.std.specs.Prelude.{◌≡◌, ◌⊎◌, ℕ, zero, suc, cond, List, [], ◌∷◌, map}
use Rattle.std.specs.List.{flat_map}
use Rattle.std.specs.Str.{bytes_eq}
use Rattle.std.specs.BTreeSet.{insert_key}
use Rattle.plain_list.specs.Texts.{compare_texts}
use Rattle.certificate.specs.declared.act.Act.{Act}
use Rattle.certificate.specs.declared.act.Act.TheVariants.{GiveUp, Goal, Do}
use Rattle.certificate.specs.declared.named.NamedAct.{NamedAct}
use Rattle.certificate.specs.declared.named.NamedAct.TheVariants as named
use Rattle.certificate.specs.declared.named.NamedRow.{NamedRow}
use Rattle.certificate.specs.Rows.{Row}
use Rattle.certificate.specs.Content.{Content, content_of}

-- the entries and these texts, each in its place and once
abbrev pub filled : List (List ℕ) → List (List ℕ) → List (List ℕ)
filled table [] = table
filled table (text ∷ texts) = filled (insert_key compare_texts table text) texts

abbrev pub table_of : List (List ℕ) → List (List ℕ)
table_of texts = filled [] texts

abbrev pub place_of : List (List ℕ) → List ℕ → ℕ
place_of [] text = zero
place_of (first ∷ more) text = cond (bytes_eq first text) zero (suc (place_of more text))

-- the text is one of these
abbrev pub Among : List (List ℕ) → List ℕ → Type 0
Among [] text = ⊥
Among (first ∷ more) text = (first ≡ text) ⊎ Among more text

abbrev pub act_names : NamedAct → List (List ℕ)
act_names named.GiveUp = []
act_names named.Goal = []
act_names (named.Do name) = name ∷ []

abbrev pub atoms_table : List NamedRow → List (List ℕ)
atoms_table rows = table_of (flat_map (λ (r : NamedRow). r.atoms) rows)

abbrev pub acts_table : List NamedRow → List (List ℕ)
acts_table rows = table_of (flat_map (λ (r : NamedRow). act_names r.act) rows)

abbrev pub numbered_act : List (List ℕ) → NamedAct → Act
numbered_act acts named.GiveUp = GiveUp
numbered_act acts named.Goal = Goal
numbered_act acts (named.Do name) = Do (place_of acts name)

abbrev pub numbered_row : List (List ℕ) → List (List ℕ) → NamedRow → Row
numbered_row atoms acts r = record {
  lower = r.lower;
  upper = r.upper;
  act = numbered_act acts r.act;
  atoms = map (place_of atoms) r.atoms;
}

abbrev pub numbered : ℕ → ℕ → ℕ → List NamedRow → Content
numbered penalty lower upper rows =
    content_of 1 penalty lower upper (atoms_table rows) (acts_table rows) (
    map (numbered_row (atoms_table rows) (acts_table rows)) rows
    )
