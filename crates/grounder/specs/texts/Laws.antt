-- The texts of atoms in order, as statements.
--     TextsAreInOrder    texts that are put in one after another are those of the atoms in bytewise order, each once
--     SameTextsPutIn     texts that pass the same tests are put in alike, whatever their order and however often each comes
use Rattle.std.specs.Prelude.{◌≡◌, ℕ, Bool, List, [], map}
use Rattle.std.specs.List.{list_all}
use Rattle.plain_list.specs.Texts.{list_text}
use Rattle.ppddl_model.specs.State.{GroundAtom}
use Rattle.ground_meaning.specs.refusals.Atoms.{texts_of}
use Rattle.grounder.specs.texts.Texts.{with_texts}

abbrev pub TextsAreInOrder : Type 0
TextsAreInOrder = (atoms : List GroundAtom) → with_texts [] (map list_text atoms) ≡ texts_of atoms

abbrev pub SameTextsPutIn : Type 0
SameTextsPutIn =
    (texts xs ys : List (List ℕ)) → ((g : List ℕ → Bool) → list_all g xs ≡ list_all g ys) → with_texts texts xs ≡ with_texts texts ys
