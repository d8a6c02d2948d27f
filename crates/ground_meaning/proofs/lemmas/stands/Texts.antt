-- Which texts are true in a packed state, and that it is found again from the state for which it stands.
use Rattle.std.proofs.Common.{◌≡◌, ◌≢◌, ℕ, suc, zero, ◌<◌, Bool, true, false, cond, not, ◌&&◌, ◌||◌, List, [], ◌∷◌, ◌++◌, length, refl, sym, ap, subst, inl, inr, ◌⊎◌, ◌∙◌, arith}
use Rattle.std.specs.Prelude.{Contains, AllPairs, get_or, nat_lt}
use Rattle.std.specs.List.{list_any}
use Rattle.std.proofs.lemmas.Bool.{cases_Bool, and_parts, and_from, le-ltb, cases_lt}
use Rattle.std.proofs.lemmas.List.Elements.{Contains-get_or}
use Rattle.std.proofs.lemmas.List.Folds.{list_any_at}
use Rattle.plain_list.specs.Texts.{list_text}
use Rattle.plain_list.proofs.Members.{Contains-first, Contains-later, Contains-cons_cases, Contains-nil, Contains-map_cases}
use Rattle.ppddl_model.specs.declared.tree.Task.{Task}
use Rattle.ppddl_model.specs.State.{same_name, GroundAtom, same_atom, has}
use Rattle.ppddl_model.specs.Changing.{changing_atoms, has_text, is_changing, is_fact}
use Rattle.ppddl_model.specs.Steps.{Charges}
use Rattle.ppddl_model.proofs.States.{same_name-Decides, same_atom-Decides}
use Rattle.ppddl_model.proofs.Fixed.{has-state_of_texts, state_of_texts_agrees}
use Rattle.ground_model.specs.Packed as packed
use Rattle.ground_model.specs.Packed.{has_bit, words_for}
use Rattle.ground_model.specs.Ground.{Ground}
use Rattle.ground_model.proofs.Packed.{same_packed, inside_is_its_bits}
use Rattle.ground_model.proofs.Rising.{texts_differ}
use Rattle.ground_meaning.specs.stands.Laws as laws
use Rattle.ground_meaning.specs.stands.Stands.{true_texts, has_text_true, IsInside, state_of, packed_of, IsGroundOf}

-- ---- lists

pub any_from : {X : Type 0} (p : X → Bool) (xs : List X) (x : X) → Contains xs x → p x ≡ true → list_any p xs ≡ true
any_from p xs x (k, within, here) holds = list_any_at p xs k x within (ap p here ∙ holds)

pub any_finds : {X : Type 0} (p : X → Bool) (xs : List X) → list_any p xs ≡ true → (x : X) × Contains xs x × (p x ≡ true)
any_finds {X = X} p [] found = absurd cc
any_finds {X = X} p (x ∷ xs) found = elim (cases_Bool (p x)) [
  | inl here ↦ (x, Contains-first x xs, here)
  | inr other ↦
      let rest : (y : X) × Contains xs y × (p y ≡ true) = any_finds p xs (ap (λ b. b || list_any p xs) (sym other) ∙ found) in
      (rest.0, Contains-later x xs rest.0 rest.1, rest.2)
]

one_place : {X : Type 0} (xs : List X) (i j : ℕ) (d : X) → AllPairs (λ x y. x ≢ y) xs → i < length xs → j < length xs
    → get_or xs i d ≡ get_or xs j d → i ≡ j
one_place xs i j d differ within within' same = elim (cases_lt i j) [
  | inl before ↦ absurd (differ i j d before within' same)
  | inr rest ↦ elim (cases_lt j i) [
    | inl behind ↦ absurd (differ j i d behind within (sym same))
    | inr none ↦ omega arith
  ]
]

-- ---- the texts that are true

true_first : (b : Bool) (text : List ℕ) (rest : List (List ℕ)) → b ≡ true → Contains (cond b (text ∷ []) [] ++ rest) text
true_first true text rest set = Contains-first text rest
true_first false text rest set = absurd cc

true_later : (b : Bool) (text : List ℕ) (rest : List (List ℕ)) (y : List ℕ) → Contains rest y → Contains (cond b (text ∷ []) [] ++ rest) y
true_later true text rest y inside = Contains-later text rest y inside
true_later false text rest y inside = inside

true_cases : (b : Bool) (text : List ℕ) (rest : List (List ℕ)) (y : List ℕ) → Contains (cond b (text ∷ []) [] ++ rest) y
    → ((b ≡ true) × (text ≡ y)) ⊎ Contains rest y
true_cases true text rest y inside = elim (Contains-cons_cases text rest y inside) [
  | inl here ↦ inl (refl, here)
  | inr later ↦ inr later
]
true_cases false text rest y inside = inr inside

pub true_text : (bit : ℕ → Bool) (texts : List (List ℕ)) (q : ℕ) → q < length texts → bit q ≡ true
    → Contains (true_texts bit texts) (get_or texts q [])
true_text bit [] q within set = absurd (omega arith)
true_text bit (text ∷ texts) zero within set = true_first (bit 0) text (true_texts (λ q. bit (suc q)) texts) set
true_text bit (text ∷ texts) (suc q) within set =
    true_later (bit 0) text (true_texts (λ q. bit (suc q)) texts) (get_or texts q [])
    (true_text (λ q. bit (suc q)) texts q (omega arith) set)

pub true_text_place : (bit : ℕ → Bool) (texts : List (List ℕ)) (text : List ℕ) → Contains (true_texts bit texts) text
    → (q : ℕ) × (q < length texts) × (bit q ≡ true) × (get_or texts q [] ≡ text)
true_text_place bit [] text inside = absurd (Contains-nil text inside)
true_text_place bit (first ∷ texts) text inside = elim (true_cases (bit 0) first (true_texts (λ q. bit (suc q)) texts) text inside) [
  | inl here ↦ (0, omega arith, here.0, here.1)
  | inr later ↦
      let found = true_text_place (λ q. bit (suc q)) texts text later in
      (suc found.0, omega (arith, found.1), found.2, found.3)
]

-- ---- the packed state is found again

first_alone : (c t f : Bool) → c ≡ true → ((c && t) || (f && not c)) ≡ t
first_alone true true f e = refl
first_alone true false true e = refl
first_alone true false false e = refl
first_alone false t f e = absurd cc

same_truth : (a b : Bool) → (a ≡ true → b ≡ true) → (b ≡ true → a ≡ true) → a ≡ b
same_truth true b there back = sym (there refl)
same_truth false true there back = back refl
same_truth false false there back = refl

below_alone : (n q : ℕ) (a b : Bool) → (q < n → a ≡ b) → (nat_lt q n && a) ≡ (nat_lt q n && b)
below_alone n q a b same = elim (cases_lt q n) [
  | inl below ↦ ap (λ z. nat_lt q n && z) (same below)
  | inr above ↦ ap (λ z. z && a) (le-ltb q n above) ∙ sym (ap (λ z. z && b) (le-ltb q n above))
]

module _ (g : Ground) (task : Task) (s : packed.State) where
  abbrev here : List (List ℕ)
  here = true_texts (has_bit s) g.atoms

  -- a changing atom is true where its text is
  has_changing : (a : GroundAtom) → Contains (changing_atoms task) a → has (state_of g task s) a ≡ has_text here a
  has_changing a inside =
      has-state_of_texts task here a
      ∙ first_alone (is_changing task a) (has_text here a) (is_fact task a)
      (any_from (same_atom a) (changing_atoms task) a inside ((same_atom-Decides a a).1 refl))

  place_there : (a : GroundAtom) → Contains (changing_atoms task) a → has (state_of g task s) a ≡ true
      → (q : ℕ) × (q < length g.atoms) × (has_bit s q ≡ true) × (get_or g.atoms q [] ≡ list_text a)
  place_there a inside told =
      let shown = any_finds (same_name (list_text a)) here (sym (has_changing a inside) ∙ told) in
      let place = true_text_place (has_bit s) g.atoms shown.0 shown.1 in
      (place.0, place.1, place.2, place.3 ∙ sym ((same_name-Decides (list_text a) shown.0).0 shown.2))

  place_back : (a : GroundAtom) → Contains (changing_atoms task) a → (q : ℕ) → q < length g.atoms → has_bit s q ≡ true
      → get_or g.atoms q [] ≡ list_text a → has (state_of g task s) a ≡ true
  place_back a inside q within set its_text =
      has_changing a inside
      ∙ any_from (same_name (list_text a)) here (get_or g.atoms q []) (true_text (has_bit s) g.atoms q within set)
      ((same_name-Decides (list_text a) (get_or g.atoms q [])).1 (sym its_text))

pub changing_by_bits : laws.ChangingByBits
changing_by_bits g task s a inside =
    (place_there g task s a inside, λ place. place_back g task s a inside place.0 place.1 place.2 place.3)

pub others_by_facts : laws.OthersByFacts
others_by_facts g task s a still =
    (state_of_texts_agrees task (true_texts (has_bit s) g.atoms)).fixed a still

module _ (g : Ground) (task : Task) (charges : Charges) (is : IsGroundOf g task charges) (s : packed.State) where
  abbrev at : ℕ → List ℕ
  at q = get_or g.atoms q []

  bit_there : (q : ℕ) → q < length g.atoms → has_bit s q ≡ true → has_text_true task (state_of g task s) (at q) ≡ true
  bit_there q within set =
      let found = Contains-map_cases list_text (changing_atoms task) (at q) ((is.stands.atoms (at q)).0 (Contains-get_or g.atoms q [] within)) in
      let a : GroundAtom = found.0 in
      let its_text : list_text a ≡ at q = found.2 in
      any_from (λ b. same_name (at q) (list_text b) && has (state_of g task s) b) (changing_atoms task) a found.1
      (and_from (same_name (at q) (list_text a)) (has (state_of g task s) a)
      ((same_name-Decides (at q) (list_text a)).1 (sym its_text))
      (place_back g task s a found.1 q within set (sym its_text)))

  bit_back : (q : ℕ) → q < length g.atoms → has_text_true task (state_of g task s) (at q) ≡ true → has_bit s q ≡ true
  bit_back q within told =
      let found = any_finds (λ b. same_name (at q) (list_text b) && has (state_of g task s) b) (changing_atoms task) told in
      let a : GroundAtom = found.0 in
      let parts = and_parts (same_name (at q) (list_text a)) (has (state_of g task s) a) found.2 in
      let its_text : at q ≡ list_text a = (same_name-Decides (at q) (list_text a)).0 parts.0 in
      let place = place_there g task s a found.1 parts.1 in
      let same : at q ≡ at place.0 = its_text ∙ sym place.3 in
      let one : place.0 ≡ q
      = sym (one_place g.atoms q place.0 [] (texts_differ g.atoms is.is_problem.atoms_rise) within place.1 same) in
      subst (λ k. has_bit s k ≡ true) one place.2

  pub is_found_again : IsInside g task s → packed_of g task (state_of g task s) ≡ s
  is_found_again inside =
      same_packed (λ q. nat_lt q (length g.atoms) && has_text_true task (state_of g task s) (at q))
      (λ q. nat_lt q (length g.atoms) && has_bit s q) (words_for (length g.atoms))
      (λ q _. below_alone (length g.atoms) q (has_text_true task (state_of g task s) (at q)) (has_bit s q)
      (λ within. same_truth (has_text_true task (state_of g task s) (at q)) (has_bit s q) (bit_back q within) (bit_there q within)))
      ∙ sym (inside_is_its_bits (length g.atoms) s inside)
