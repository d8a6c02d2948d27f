-- The grammar and the relation are one language, as statements.
--     ObjectsAreDerived, ObjectsAreAccepted    of lists of objects
--     ItemIsDerived, ItemIsAccepted            of items of `:init`
use Rattle.std.specs.Prelude.{◌≡◌, List, Ok}
use Rattle.ppddl_model.specs.declared.tree.InitItem.{InitItem}
use Rattle.ppddl_model.specs.declared.tree.ObjectDecl.{ObjectDecl}
use Rattle.ppddl_model.specs.declared.tree.ValueItem.{ValueItem}
use Rattle.ppddl_forms.specs.names.Declarations.{Declared}
use Rattle.ppddl_cursor.specs.declared.place.Place.{Place}
use Rattle.ppddl_cursor.specs.Forms.{Form, Forms}
use Rattle.ppddl_forms.specs.items.Items.{item}
use Rattle.ppddl_forms.specs.objects.Objects.{objects}
use Rattle.ppddl_form_grammar.specs.lists.Objects.{IsObjectList}
use Rattle.ppddl_form_grammar.specs.lists.Items.{IsItem}

abbrev pub ObjectsAreDerived : Type 0
ObjectsAreDerived = (d : Declared) (fs : Forms) (b : Place) (os : List ObjectDecl) → objects d fs b ≡ Ok os → IsObjectList d fs os

abbrev pub ObjectsAreAccepted : Type 0
ObjectsAreAccepted = (d : Declared) (fs : Forms) (b : Place) (os : List ObjectDecl) → IsObjectList d fs os → objects d fs b ≡ Ok os

abbrev pub ItemIsDerived : Type 0
ItemIsDerived = (d : Declared) (values : List ValueItem) (f : Form) (i : InitItem) → item d values f ≡ Ok i → IsItem d values f i

abbrev pub ItemIsAccepted : Type 0
ItemIsAccepted = (d : Declared) (values : List ValueItem) (f : Form) (i : InitItem) → IsItem d values f i → item d values f ≡ Ok i
