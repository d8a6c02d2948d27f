-- The row by the places of its atoms and its act is the row by its names.
use Rattle.std.proofs.Common.{◌≡◌, inl, inr, ℕ, ◌<◌, List, [], ◌∷◌, length, map, get_or, Some, refl, sym, ap, subst, ◌∙◌, arith}
use Rattle.std.specs.Prelude.{Contains}
use Rattle.std.specs.List.{slice_get, AllByRecursion}
use Rattle.std.proofs.lemmas.Option.{slice_get-get_or, get_or_from_slice_get}
use Rattle.plain_list.proofs.Members.{Contains-map}
use Rattle.certificate.specs.declared.act.Act.TheVariants as deeds
use Rattle.certificate.specs.declared.named.NamedAct.{NamedAct}
use Rattle.certificate.specs.declared.named.NamedRow.{NamedRow}
use Rattle.certificate.specs.Rows.{Row}
use Rattle.certificate.specs.Content.{Content, name_at, named_rows}
use Rattle.certificate.specs.Numbering.{Among, place_of, act_names, acts_table, atoms_table, numbered_act, numbered_row}
use Rattle.certificate.proofs.Numbered.{HasNames, have_own_names}
use Rattle.cert_merge.specs.declared.claim.Claim.{Claim}
use Rattle.cert_merge.specs.declared.joint_act.JointAct.{JointAct}
use Rattle.cert_merge.specs.declared.joint_act.JointAct.TheVariants.{GiveUp, Goal, First, Second}
use Rattle.cert_merge.specs.declared.origin.Origin.{Origin}
use Rattle.cert_merge.specs.declared.origin.Origin.TheVariants as origin
use Rattle.cert_merge.specs.declared.places.Places.{Places}
use Rattle.cert_merge.specs.Tables.{place_in, named_joint, ArePlaces, IsJoint}
use Rattle.cert_merge.specs.Claims.{IsClaimOf}
use Rattle.cert_merge.specs.Pairs.{merged_of, row_of, row_in, AreOrigins, IsOriginOf}
use Rattle.cert_merge.specs.Placing.{placed_act, placed_atoms, atoms_at, ArePlacesOf, HasPlaceFor}
use Rattle.cert_merge.proofs.Members.{all_member}
use Rattle.cert_merge.proofs.NextRow.{named_at, row_form}

-- the row in a place, whatever stands past the end
pub read_at : (rows : List Row) (i : ℕ) (r : Row) → slice_get rows i ≡ Some r → atoms_at rows i ≡ r.atoms
read_at rows i r at =
    ap (λ (x : Row). x.atoms) (get_or_from_slice_get rows i r (record { lower = 0; upper = 0; act = deeds.GiveUp; atoms = [] }) at)

some_row : (rows : List Row) (i : ℕ) → i < length rows → (r : Row) × (slice_get rows i ≡ Some r)
some_row rows i within =
    let d : Row = record { lower = 0; upper = 0; act = deeds.GiveUp; atoms = [] } in (get_or rows i d, slice_get-get_or rows i d within)

module _ (table texts : List (List ℕ)) (places : List ℕ) (are : ArePlaces table texts places) where
  map_places : (numbers : List ℕ) → AllByRecursion (λ n. n < length texts) numbers
      → ((x : List ℕ) → Among (map (name_at texts) numbers) x → Among table x)
      → map (place_in places) numbers ≡ map (place_of table) (map (name_at texts) numbers)
  map_places [] within has = refl
  map_places (n ∷ numbers) within has =
      ap (λ (k : ℕ). k ∷ map (place_in places) numbers) (are.placed n within.0 (has (name_at texts n) (inl refl)))
      ∙ ap (λ (l : List ℕ). place_of table (name_at texts n) ∷ l) (map_places numbers within.1 (λ x among. has x (inr among)))

module _ (atoms acts : List (List ℕ)) (c d : Content) (places : Places) (are : ArePlacesOf atoms acts c d places) where
  first_atoms : (i : ℕ) → i < length c.rows → ((x : List ℕ) → Among (row_in (named_rows c) i).atoms x → Among atoms x)
      → map (place_in places.atoms.items) (atoms_at c.rows i) ≡ map (place_of atoms) (row_in (named_rows c) i).atoms
  first_atoms i within has =
      let r = some_row c.rows i within in
      let named = named_at c i r.0 r.1 in
      ap (map (place_in places.atoms.items)) (read_at c.rows i r.0 r.1)
      ∙ map_places atoms c.atoms places.atoms.items are.atoms r.0.atoms (row_form c are.valid i r.0 r.1).atoms
      (λ x among. has x (subst (λ (s : NamedRow). Among s.atoms x) (sym named) among))
      ∙ ap (λ (s : NamedRow). map (place_of atoms) s.atoms) (sym named)

  second_atoms : (j : ℕ) → j < length d.rows → ((x : List ℕ) → Among (row_in (named_rows d) j).atoms x → Among atoms x)
      → map (place_in places.atoms_too.items) (atoms_at d.rows j) ≡ map (place_of atoms) (row_in (named_rows d) j).atoms
  second_atoms j within has =
      let r = some_row d.rows j within in
      let named = named_at d j r.0 r.1 in
      ap (map (place_in places.atoms_too.items)) (read_at d.rows j r.0 r.1)
      ∙ map_places atoms d.atoms places.atoms_too.items are.atoms_too r.0.atoms (row_form d are.valid_too j r.0 r.1).atoms
      (λ x among. has x (subst (λ (s : NamedRow). Among s.atoms x) (sym named) among))
      ∙ ap (λ (s : NamedRow). map (place_of atoms) s.atoms) (sym named)

  atoms_placed : (o : Origin) → IsOriginOf c d o → ((x : List ℕ) → Among (row_of c d o).atoms x → Among atoms x)
      → placed_atoms places c d o ≡ map (place_of atoms) (row_of c d o).atoms
  atoms_placed (origin.First i) within has = first_atoms i within has
  atoms_placed (origin.Second j) within has = second_atoms j within has
  atoms_placed (origin.Both i j) within has = first_atoms i within.0 has

  act_placed : (act : JointAct) → IsJoint c d act → ((x : List ℕ) → Among (act_names (named_joint c d act)) x → Among acts x)
      → placed_act places act ≡ numbered_act acts (named_joint c d act)
  act_placed GiveUp is has = refl
  act_placed Goal is has = refl
  act_placed (First n) is has = ap deeds.Do (are.acts.placed n is (has (name_at c.acts n) (inl refl)))
  act_placed (Second n) is has = ap deeds.Do (are.acts_too.placed n is (has (name_at d.acts n) (inl refl)))

  pub place_for : (act : JointAct) → IsJoint c d act → HasPlaceFor places act
  place_for GiveUp is = tt
  place_for Goal is = tt
  place_for (First n) is = (let long = are.acts.long in omega (arith, is, long))
  place_for (Second n) is = (let long = are.acts_too.long in omega (arith, is, long))

  -- the row that is pushed
  abbrev pub pushed : Origin → Claim → Row
  pushed o claim = record { lower = claim.lower; upper = claim.upper; act = placed_act places claim.act; atoms = placed_atoms places c d o }

  pub row_placed : (o : Origin) → IsOriginOf c d o → HasNames atoms acts (row_of c d o) → (claim : Claim) → IsClaimOf c d o claim
      → pushed o claim ≡ numbered_row atoms acts (row_of c d o)
  row_placed o within has claim is =
      let act : placed_act places claim.act ≡ numbered_act acts (row_of c d o).act
      = act_placed claim.act is.joint (λ x among. has.1 x (subst (λ (a : NamedAct). Among (act_names a) x) is.act among))
      ∙ ap (numbered_act acts) is.act in
      let numbers = atoms_placed o within has.0 in
      λ j. record { lower = is.lower j; upper = is.upper j; act = act j; atoms = numbers j }

pub has_names : (c d : Content) (origins : List Origin) → AreOrigins c d origins → (o : Origin) → Contains origins o
    → HasNames (atoms_table (merged_of c d)) (acts_table (merged_of c d)) (row_of c d o)
has_names c d origins are o inside =
    all_member (HasNames (atoms_table (merged_of c d)) (acts_table (merged_of c d))) (merged_of c d) (row_of c d o) (have_own_names (merged_of c d))
    (subst (λ (l : List NamedRow). Contains l (row_of c d o)) are.rows (Contains-map (row_of c d) origins o inside))
