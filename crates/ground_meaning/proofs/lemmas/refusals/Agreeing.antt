-- In a well-formed task the atoms that stand in conditions and effects are told by their texts, so that a packed state says of each what
-- the state says for which it stands.
use Rattle.std.proofs.Common.{◌≡◌, inl, inr, ℕ, ◌<◌, true, false, ◌&&◌, List, [], ◌++◌, map, length, None, Some, refl, sym, ap, subst, ◌∙◌, arith}
use Rattle.std.specs.Prelude.{◌≢◌, All, AllPairs, Contains, get_or}
use Rattle.std.specs.List.{list_any, list_all}
use Rattle.std.proofs.lemmas.Bool.{and_parts, cases_Bool, false_from_ne_true}
use Rattle.std.specs.Cmp.{both_ways}
use Rattle.std.proofs.lemmas.List.{length-map, get_or_default, get_or-map}
use Rattle.std.proofs.lemmas.List.Elements.{Contains-get_or, All-contains}
use Rattle.plain_list.specs.Texts.{list_text}
use Rattle.plain_list.proofs.Members.{Contains-map, Contains-map_cases}
use Rattle.ppddl_model.specs.declared.tree.Atom.{Atom}
use Rattle.ppddl_model.specs.declared.tree.ObjectDecl.{ObjectDecl}
use Rattle.ppddl_model.specs.declared.tree.PredicateDecl.{PredicateDecl}
use Rattle.ppddl_model.specs.declared.tree.Task.{Task}
use Rattle.ppddl_model.specs.State.{same_name, GroundAtom, same_atom, State, has}
use Rattle.ppddl_model.specs.Objects.{ground_atom}
use Rattle.ppddl_model.specs.Changing.{changing_atoms, facts, is_changing, is_fact, has_text}
use Rattle.ppddl_model.specs.Steps.{Instance, Charges, instances, world}
use Rattle.ppddl_model.specs.WellFormed.{is_plain, is_type, has_one_type, params_fit, are_distinct, atom_fits, IsWellFormed}
use Rattle.ppddl_model.proofs.States.{same_name-Decides, same_atom-Decides}
use Rattle.ground_model.specs.Packed as packed
use Rattle.ground_model.specs.Packed.{has_bit}
use Rattle.ground_model.proofs.Rising.{texts_differ}
use Rattle.ground_meaning.specs.stands.Stands.{state_of}
use Rattle.ground_meaning.proofs.lemmas.stands.Texts.{any_from, any_finds, changing_by_bits, others_by_facts}
use Rattle.ground_meaning.specs.choices.Numbering.{number_of, is_true}
use Rattle.ground_meaning.specs.choices.Change.{name_of, condition_atoms, tested_atoms, IsNumbered, AgreesOn, IsView}
use Rattle.ground_meaning.specs.refusals.Atoms.{texts_of, order_of, numbering_of}
use Rattle.ground_meaning.specs.refusals.Problem.{ground_problem}
use Rattle.ground_meaning.proofs.lemmas.refusals.Texts.{text_tells_names}
use Rattle.ground_meaning.proofs.lemmas.refusals.Formed.{all_at, has_names, IsFormed, Covers, has_formed_name, declares_formed}
use Rattle.ground_meaning.proofs.lemmas.refusals.Instances.{all_from, test_all, binding_is_formed, tested_formed, condition_formed, goal_formed, init_atom_formed, changing_formed, facts_formed}
use Rattle.ground_meaning.proofs.lemmas.refusals.Order.{texts_rise, by_texts_member, text_is_there, text_is_ones, number_at, no_number}

abbrev pub IsPlain : GroundAtom → Type 0
IsPlain = IsFormed is_plain

module _ (task : Task) (fit : IsWellFormed task) where
  -- ---- names

  object_is_plain : (o : ObjectDecl) → Contains (task.domain.constants ++ task.problem.objects) o → is_plain o.name ≡ true
  object_is_plain o inside =
      let whole = all_at (λ (x : ObjectDecl). is_plain x.name && is_type task.domain.types x.kind && has_one_type (task.domain.constants ++ task.problem.objects) x)
      (task.domain.constants ++ task.problem.objects) o fit.objects inside in
      (and_parts (is_plain o.name) (is_type task.domain.types o.kind)
      (and_parts (is_plain o.name && is_type task.domain.types o.kind) (has_one_type (task.domain.constants ++ task.problem.objects) o) whole).0).0

  objects_are_plain : list_all (has_formed_name is_plain) (task.domain.constants ++ task.problem.objects) ≡ true
  objects_are_plain = test_all (has_formed_name is_plain) (task.domain.constants ++ task.problem.objects) object_is_plain

  predicates_are_plain : list_all (declares_formed is_plain) task.domain.predicates ≡ true
  predicates_are_plain =
      test_all (declares_formed is_plain) task.domain.predicates (λ d inside.
      (and_parts (is_plain d.name) (params_fit task.domain.types d.params)
      (all_at (λ (x : PredicateDecl). is_plain x.name && params_fit task.domain.types x.params) task.domain.predicates d
      (and_parts (are_distinct (map (λ (x : PredicateDecl). x.name) task.domain.predicates))
      (list_all (λ (x : PredicateDecl). is_plain x.name && params_fit task.domain.types x.params) task.domain.predicates) fit.predicates).1
      inside)).0)

  pub covers : (i : Instance) → Contains (instances task) i → Covers is_plain i.action.params i.binding
  covers = binding_is_formed is_plain task objects_are_plain

  tested_plain : (i : Instance) → Contains (instances task) i → All IsPlain (tested_atoms (world task) i.action.effect i.binding)
  tested_plain = tested_formed is_plain task objects_are_plain predicates_are_plain fit

  condition_plain : (i : Instance) → Contains (instances task) i → All IsPlain (condition_atoms (world task) i.action.condition i.binding)
  condition_plain = condition_formed is_plain task objects_are_plain predicates_are_plain fit

  goal_plain : All IsPlain (condition_atoms (world task) task.problem.goal [])
  goal_plain = goal_formed is_plain task objects_are_plain predicates_are_plain fit

  pub init_atom_plain : (a : Atom) → atom_fits (world task) [] task.domain.predicates a ≡ true → IsPlain (ground_atom [] a)
  init_atom_plain = init_atom_formed is_plain task objects_are_plain predicates_are_plain

  pub changing_plain : (q : GroundAtom) → Contains (changing_atoms task) q → IsPlain q
  changing_plain = changing_formed is_plain task objects_are_plain predicates_are_plain fit

  facts_plain : (q : GroundAtom) → Contains (facts task) q → IsPlain q
  facts_plain = facts_formed is_plain task objects_are_plain predicates_are_plain fit

  -- ---- an atom is told by its text

  pub told_by_text : (q a : GroundAtom) → IsPlain q → IsPlain a → list_text q ≡ list_text a → q ≡ a
  told_by_text q a plain plain' same =
      text_tells_names q a (and_parts (has_names q) (list_all is_plain q) plain).1
      (and_parts (has_names a) (list_all is_plain a) plain').1 same

  abbrev pub texts : List (List ℕ)
  texts = texts_of (changing_atoms task)

  texts_are_distinct : AllPairs (λ x y. x ≢ y) texts
  texts_are_distinct = texts_differ texts (texts_rise (changing_atoms task))

  pub member_of : (q : GroundAtom) → is_changing task q ≡ true → Contains (changing_atoms task) q
  member_of q changing =
      let found = any_finds (same_atom q) (changing_atoms task) changing in
      subst (Contains (changing_atoms task)) (sym ((same_atom-Decides q found.0).0 found.2)) found.1

  pub is_changing_member : (q : GroundAtom) → Contains (changing_atoms task) q → is_changing task q ≡ true
  is_changing_member q inside = any_from (same_atom q) (changing_atoms task) q inside ((same_atom-Decides q q).1 refl)

  -- the place of a changing atom
  pub place_of : (q : GroundAtom) → Contains (changing_atoms task) q → (k : ℕ) × (k < length texts) × (get_or texts k [] ≡ list_text q)
  place_of q inside =
      let (k, within, here) = text_is_there (changing_atoms task) (list_text q) (Contains-map list_text (changing_atoms task) q inside) in
      (k, within, get_or_default texts k [] (list_text q) within ∙ here)

  pub has_number : (q : GroundAtom) (k : ℕ) → k < length texts → get_or texts k [] ≡ list_text q → number_of (numbering_of task) q ≡ Some k
  has_number q k within here = number_at (list_text q) texts texts_are_distinct k within here

  pub other_has_none : (q : GroundAtom) → IsPlain q → is_changing task q ≡ false → number_of (numbering_of task) q ≡ None
  other_has_none q plain still =
      no_number (list_text q) texts (λ inside.
      let found = Contains-map_cases list_text (changing_atoms task) (list_text q) (text_is_ones (changing_atoms task) (list_text q) inside) in
      let same : q ≡ found.0 = told_by_text q found.0 plain (changing_plain found.0 found.1) (sym found.2) in
      let changing : is_changing task q ≡ true = is_changing_member q (subst (Contains (changing_atoms task)) (sym same) found.1) in
      absurd cc)

  same_fact : (q : GroundAtom) → IsPlain q → is_fact task q ≡ has_text (numbering_of task).facts q
  same_fact q plain =
      both_ways (is_fact task q) (has_text (texts_of (facts task)) q)
      (λ fact.
      let found = any_finds (same_atom q) (facts task) fact in
      let same : q ≡ found.0 = (same_atom-Decides q found.0).0 found.2 in
      any_from (same_name (list_text q)) (texts_of (facts task)) (list_text found.0)
      (text_is_there (facts task) (list_text found.0) (Contains-map list_text (facts task) found.0 found.1))
      ((same_name-Decides (list_text q) (list_text found.0)).1 (ap list_text same)))
      (λ told.
      let found = any_finds (same_name (list_text q)) (texts_of (facts task)) told in
      let text : list_text q ≡ found.0 = (same_name-Decides (list_text q) found.0).0 found.2 in
      let fact = Contains-map_cases list_text (facts task) found.0 (text_is_ones (facts task) found.0 found.1) in
      let same : q ≡ fact.0 = told_by_text q fact.0 plain (facts_plain fact.0 fact.1) (text ∙ sym fact.2) in
      any_from (same_atom q) (facts task) fact.0 fact.1 ((same_atom-Decides q fact.0).1 same))

  module _ (charges : Charges) (s : packed.State) where
    abbrev t : State
    t = state_of (ground_problem task charges) task s

    pub same_bit : (q : GroundAtom) → Contains (changing_atoms task) q → (k : ℕ) → k < length texts → get_or texts k [] ≡ list_text q
        → has t q ≡ has_bit s k
    same_bit q inside k within here =
        both_ways (has t q) (has_bit s k)
        (λ told.
        let place = (changing_by_bits (ground_problem task charges) task s q inside).0 told in
        let one : Some place.0 ≡ Some k = sym (has_number q place.0 place.1 place.3) ∙ has_number q k within here in
        let same : place.0 ≡ k = cc in
        subst (λ j. has_bit s j ≡ true) same place.2)
        (λ set. (changing_by_bits (ground_problem task charges) task s q inside).1 (k, within, set, here))

    pub is_told : (q : GroundAtom) → IsPlain q → has t q ≡ is_true (numbering_of task) (has_bit s) q
    is_told q plain = elim (cases_Bool (is_changing task q)) [
      | inl changing ↦
          let inside = member_of q changing in
          let place = place_of q inside in
          same_bit q inside place.0 place.1 place.2
          ∙ ap (λ found. elim found [ Some k ↦ has_bit s k | None ↦ has_text (numbering_of task).facts q ]) (sym (has_number q place.0 place.1 place.2))
      | inr still ↦
          others_by_facts (ground_problem task charges) task s q still ∙ same_fact q plain
          ∙ ap (λ found. elim found [ Some k ↦ has_bit s k | None ↦ has_text (numbering_of task).facts q ]) (sym (other_has_none q plain still))
    ]

    agrees : (atoms : List GroundAtom) → All IsPlain atoms → AgreesOn (numbering_of task) (has_bit s) t atoms
    agrees atoms plain = all_from (λ q. has t q ≡ is_true (numbering_of task) (has_bit s) q) atoms (λ q inside. is_told q (All-contains IsPlain atoms q plain inside))

    pub condition_agrees : (i : Instance) → Contains (instances task) i
        → AgreesOn (numbering_of task) (has_bit s) t (condition_atoms (world task) i.action.condition i.binding)
    condition_agrees i inside = agrees (condition_atoms (world task) i.action.condition i.binding) (condition_plain i inside)

    pub tested_agrees : (i : Instance) → Contains (instances task) i
        → AgreesOn (numbering_of task) (has_bit s) t (tested_atoms (world task) i.action.effect i.binding)
    tested_agrees i inside = agrees (tested_atoms (world task) i.action.effect i.binding) (tested_plain i inside)

    pub goal_agrees : AgreesOn (numbering_of task) (has_bit s) t (condition_atoms (world task) task.problem.goal [])
    goal_agrees = agrees (condition_atoms (world task) task.problem.goal []) goal_plain

  -- ---- the order of the changing atoms

  abbrev pub order : List GroundAtom
  order = order_of task

  order_text : (k : ℕ) → k < length order → get_or texts k [] ≡ list_text (name_of order k)
  order_text k within = get_or-map list_text order k [] [] within

  in_place : (q : GroundAtom) (k : ℕ) → Contains (changing_atoms task) q → k < length texts → get_or texts k [] ≡ list_text q
      → (k < length order) × (name_of order k ≡ q)
  in_place q k inside within here =
      let there : k < length order = omega (arith, within, length-map order list_text) in
      let member = by_texts_member (changing_atoms task) (name_of order k) (Contains-get_or order k [] there) in (
        there,
        sym (told_by_text q (name_of order k) (changing_plain q inside) (changing_plain (name_of order k) member)
            (sym here ∙ order_text k there)),
      )

  pub is_numbered : (q : GroundAtom) → Contains (changing_atoms task) q → IsNumbered (numbering_of task) order q
  is_numbered q inside =
      let place = place_of q inside in
      record {
        number = place.0;
        known = has_number q place.0 place.1 place.2;
        stands = (in_place q place.0 inside place.1 place.2).1;
      }

  in_order : (q : GroundAtom) → Contains (changing_atoms task) q → Contains order q
  in_order q inside =
      let place = place_of q inside in
      let there = in_place q place.0 inside place.1 place.2 in
      subst (Contains order) there.1 (Contains-get_or order place.0 [] there.0)

  pub is_view : (charges : Charges) → IsView order (state_of (ground_problem task charges) task)
  is_view charges = record {
    numbered = λ s k within.
        let inside = by_texts_member (changing_atoms task) (name_of order k) (Contains-get_or order k [] within) in
        same_bit charges s (name_of order k) inside k (omega (arith, within, length-map order list_text)) (order_text k within);
    others = λ s u q none.
        let still : is_changing task q ≡ false
        = false_from_ne_true (is_changing task q) (λ changing.
        let there : list_any (same_atom q) order ≡ true
        = any_from (same_atom q) order q (in_order q (member_of q changing)) ((same_atom-Decides q q).1 refl) in
        absurd cc) in
        others_by_facts (ground_problem task charges) task s q still ∙ sym (others_by_facts (ground_problem task charges) task u q still);
  }

  pub order_differs : AllPairs (λ x y. x ≢ y) order
  order_differs = λ i j d before within same.
      texts_are_distinct i j (list_text d) before (omega (arith, within, length-map order list_text))
      (get_or-map list_text order i d (list_text d) (omega (arith, before, within)) ∙ ap list_text same ∙ sym (get_or-map list_text order j d (list_text d) within))
