-- Places of texts in a table, and acts of two certificates.
--     place_in places i        the place of the text of this number
--     ArePlaces table texts places
--                              of each text that the table has, its place there
--     joined c d               the atoms of two certificates, each once, in rising order
--     Of (of code)             an act by its certificate's table
--     from_first, from_second act
--                              an act of the first certificate, or of the second
--     named_joint c d act      the act by its name
--     IsJoint c d act          the act's place is in its table
--     AreTaken table taken names
--                              the names rise, and have each entry of the table that is marked as taken
use Rattle.std.specs.Prelude.{◌≡◌, ℕ, ◌<◌, Bool, true, false, List, ◌++◌, length, get_or}
use Rattle.std.specs.List.Sorted.{IsStrictlySortedBy}
use Rattle.plain_list.specs.Texts.{compare_texts}
use Rattle.certificate.specs.declared.act.Act.{Act}
use Rattle.certificate.specs.declared.act.Act.TheVariants as acts
use Rattle.certificate.specs.declared.named.NamedAct.{NamedAct}
use Rattle.certificate.specs.declared.named.NamedAct.TheVariants as named
use Rattle.certificate.specs.Content.{Content, name_at}
use Rattle.certificate.specs.Numbering.{Among, table_of, place_of}
use Rattle.cert_merge.specs.declared.joint_act.JointAct.{JointAct}
use Rattle.cert_merge.specs.declared.joint_act.JointAct.TheVariants.{GiveUp, Goal, First, Second}

abbrev pub place_in : List ℕ → ℕ → ℕ
place_in places i = get_or places i 0

pub record ArePlaces (table texts : List (List ℕ)) (places : List ℕ) : Type 0 where
  pub long : length places ≡ length texts
  pub placed : (i : ℕ) → i < length texts → Among table (name_at texts i)
      → place_in places i ≡ place_of table (name_at texts i)

abbrev pub joined : Content → Content → List (List ℕ)
joined c d = table_of (c.atoms ++ d.atoms)

abbrev pub from_first : Act → JointAct
from_first acts.GiveUp = GiveUp
from_first acts.Goal = Goal
from_first (acts.Do place) = First place

abbrev pub from_second : Act → JointAct
from_second acts.GiveUp = GiveUp
from_second acts.Goal = Goal
from_second (acts.Do place) = Second place

module _ (c d : Content) where
  abbrev pub named_joint : JointAct → NamedAct
  named_joint GiveUp = named.GiveUp
  named_joint Goal = named.Goal
  named_joint (First place) = named.Do (name_at c.acts place)
  named_joint (Second place) = named.Do (name_at d.acts place)

  abbrev pub IsJoint : JointAct → Type 0
  IsJoint GiveUp = Unit {0}
  IsJoint Goal = Unit {0}
  IsJoint (First place) = place < length c.acts
  IsJoint (Second place) = place < length d.acts

pub record AreTaken (table : List (List ℕ)) (taken : List Bool) (names : List (List ℕ)) : Type 0 where
  pub long : length taken ≡ length table
  pub sorted : IsStrictlySortedBy compare_texts names
  pub had : (i : ℕ) → get_or taken i false ≡ true → Among names (name_at table i)
