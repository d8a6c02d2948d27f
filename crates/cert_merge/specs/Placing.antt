-- The rows of two certificates together, by places in the tables of one.
--     ArePlacesOf atoms acts c d places
--                                of each entry of the tables of c and d that these tables have, its place there
--     placed_act places act      the act by its place
--     HasPlaceFor places act     there is a place for it
--     atoms_at rows i            the numbers of the atoms of a row
--     placed_atoms places c d o  the atoms of the row that is made of these, by their places
use Rattle.std.specs.Prelude.{ℕ, ◌<◌, List, [], length, map, get_or}
use Rattle.certificate.specs.declared.act.Act.{Act}
use Rattle.certificate.specs.declared.act.Act.TheVariants as acts
use Rattle.certificate.specs.Rows.{Row}
use Rattle.certificate.specs.Content.{Content, IsCertificate}
use Rattle.cert_merge.specs.declared.joint_act.JointAct.{JointAct}
use Rattle.cert_merge.specs.declared.joint_act.JointAct.TheVariants.{GiveUp, Goal, First, Second}
use Rattle.cert_merge.specs.declared.origin.Origin.{Origin}
use Rattle.cert_merge.specs.declared.origin.Origin.TheVariants as origin
use Rattle.cert_merge.specs.declared.places.Places.{Places}
use Rattle.cert_merge.specs.Tables.{place_in, ArePlaces}

pub record ArePlacesOf (table table_of_acts : List (List ℕ)) (c d : Content) (places : Places) : Type 0 where
  pub atoms : ArePlaces table c.atoms places.atoms.items
  pub acts : ArePlaces table_of_acts c.acts places.acts.items
  pub atoms_too : ArePlaces table d.atoms places.atoms_too.items
  pub acts_too : ArePlaces table_of_acts d.acts places.acts_too.items
  pub valid : IsCertificate c
  pub valid_too : IsCertificate d

module _ (places : Places) where
  abbrev pub placed_act : JointAct → Act
  placed_act GiveUp = acts.GiveUp
  placed_act Goal = acts.Goal
  placed_act (First place) = acts.Do (place_in places.acts.items place)
  placed_act (Second place) = acts.Do (place_in places.acts_too.items place)

  abbrev pub HasPlaceFor : JointAct → Type 0
  HasPlaceFor GiveUp = Unit {0}
  HasPlaceFor Goal = Unit {0}
  HasPlaceFor (First place) = place < length places.acts.items
  HasPlaceFor (Second place) = place < length places.acts_too.items

abbrev pub atoms_at : List Row → ℕ → List ℕ
atoms_at rows i = (get_or rows i (record { lower = 0; upper = 0; act = acts.GiveUp; atoms = [] })).atoms

abbrev pub placed_atoms : Places → Content → Content → Origin → List ℕ
placed_atoms places c d (origin.First i) = map (place_in places.atoms.items) (atoms_at c.rows i)
placed_atoms places c d (origin.Second j) = map (place_in places.atoms_too.items) (atoms_at d.rows j)
placed_atoms places c d (origin.Both i j) = map (place_in places.atoms.items) (atoms_at c.rows i)
