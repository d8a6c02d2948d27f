-- Texts that are put in one after another, and the texts of effects and items that are built from their parts.
use Rattle.std.proofs.Common.{◌≡◌, ℕ, zero, suc, ◌-◌, ◌≤◌, List, [], ◌∷◌, ◌++◌, map, length, take, drop, get_or, refl, sym, ap, ◌∙◌, arith}
use Rattle.std.specs.Prelude.{flat_map}
use Rattle.std.specs.Borrow.{Bor}
use Rattle.std.specs.BTreeSet.{insert_key}
use Rattle.std.proofs.lemmas.List.{map-append}
use Rattle.plain_list.specs.Texts.{list_text, compare_texts}
use Rattle.ppddl_model.specs.declared.tree.Atom.{Atom}
use Rattle.ppddl_model.specs.declared.tree.InitBranch.{InitBranch}
use Rattle.ppddl_model.specs.declared.tree.InitItem.TheVariants as item
use Rattle.ppddl_model.specs.declared.tree.Param.{Param}
use Rattle.ppddl_model.specs.Objects.{World, Binding, ground_atom, objects_of}
use Rattle.type_table.specs.Types.{object_at}
use Rattle.task_instances.specs.quantified_atoms.Needed.{params_of}
use Rattle.task_instances.proofs.lemmas.quantified_atoms.Alike.{grounds, opened}
use Rattle.grounder.specs.texts.Texts.{with_texts, ground_texts, atom_text, init_branch_texts, chance_texts}

pub texts-append : (texts xs ys : List (List ℕ)) → with_texts texts (xs ++ ys) ≡ with_texts (with_texts texts xs) ys
texts-append texts [] ys = refl
texts-append texts (x ∷ xs) ys = texts-append (insert_key compare_texts texts x) xs ys

map-flat : {X Y Z : Type 0} (g : Y → Z) (f : X → List Y) (xs : List X) → flat_map (λ x. map g (f x)) xs ≡ map g (flat_map f xs)
map-flat g f [] = refl
map-flat g f (x ∷ xs) = ap (λ l. map g (f x) ++ l) (map-flat g f xs) ∙ sym (map-append g (f x) (flat_map f xs))

-- ---- variables bound one by one

-- what is put in where the first variable is an object of this number
abbrev pub object_texts : World → World → Binding → List Param → Param → Atom → ℕ → List (List ℕ)
object_texts w table b rest p a o = ground_texts w a rest ((p.name, object_at table o) ∷ b)

flat-map : {X Y Z : Type 0} (g : Y → List Z) (f : X → Y) (xs : List X) → flat_map (λ x. g (f x)) xs ≡ flat_map g (map f xs)
flat-map g f [] = refl
flat-map g f (x ∷ xs) = ap (λ l. g (f x) ++ l) (flat-map g f xs)

pub first_ways : (w table : World) (b : Binding) (vars : List (Bor Param)) (p : Bor Param) (a : Atom) (objects : List ℕ) → (length vars ≡ 0 → ⊥)
    → p ≡ get_or vars 0 p → map (object_at table) objects ≡ objects_of w p.now
    → flat_map (object_texts w table b (params_of (drop 1 vars)) p.now a) objects ≡ ground_texts w a (params_of vars) b
first_ways w table b [] p a objects some is are = absurd (some refl)
first_ways w table b (q ∷ vars) p a objects some is are =
    flat-map (λ o. ground_texts w a (params_of vars) ((p.now.name, o) ∷ b)) (object_at table) objects
    ∙ ap (flat_map (λ o. ground_texts w a (params_of vars) ((p.now.name, o) ∷ b))) are
    ∙ map-flat list_text (λ o. grounds w a (params_of vars) ((p.now.name, o) ∷ b)) (objects_of w p.now)
    ∙ ap (map list_text) (sym (opened w a p.now (params_of vars) b))
    ∙ ap (λ (r : Bor Param). ground_texts w a (r.now ∷ params_of vars) b) is

take_all : {X : Type 0} (i : ℕ) (xs : List X) → length xs ≤ i → take i xs ≡ xs
take_all zero [] short = refl
take_all (suc i) [] short = refl
take_all zero (x ∷ xs) short = absurd (omega arith)
take_all (suc i) (x ∷ xs) short = ap (λ l. x ∷ l) (take_all i xs (omega arith))

pub tail_is : {X : Type 0} (xs : List X) → take (length xs - 1) (drop 1 xs) ≡ drop 1 xs
tail_is [] = refl
tail_is (x ∷ xs) = take_all (length (x ∷ xs) - 1) xs (omega arith)

-- ---- items of `:init`

pub of_branches : (branches : List InitBranch) → flat_map init_branch_texts branches ≡ chance_texts (item.Chance branches)
of_branches [] = refl
of_branches (x ∷ branches) =
    ap (λ l. init_branch_texts x ++ l) (of_branches branches)
    ∙ ap (λ l. l ++ map list_text (map (ground_atom []) (flat_map (λ (y : InitBranch). y.atoms) branches))) (map-twice x.atoms)
    ∙ sym (ap (map list_text) (map-append (ground_atom []) x.atoms (flat_map (λ (y : InitBranch). y.atoms) branches))
    ∙ map-append list_text (map (ground_atom []) x.atoms) (map (ground_atom []) (flat_map (λ (y : InitBranch). y.atoms) branches)))
  where
    map-twice : (atoms : List Atom) → map atom_text atoms ≡ map list_text (map (ground_atom []) atoms)
    map-twice [] = refl
    map-twice (a ∷ atoms) = ap (λ l. atom_text a ∷ l) (map-twice atoms)
