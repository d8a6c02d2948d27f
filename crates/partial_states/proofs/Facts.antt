-- What is known of a condition and after a choice is true.
use Rattle.std.proofs.Common.{◌≡◌, ℕ, ◌+◌, Bool, true, false, cond, not, ◌&&◌, ◌||◌, List, [], ◌∷◌, ◌++◌, map, Option, None, Some, refl, sym, ap, subst, ◌∙◌}
use Rattle.std.specs.Prelude.{Contains}
use Rattle.std.proofs.lemmas.List.Elements.{Contains-append_left, Contains-append_right}
use Rattle.plain_list.proofs.Members.{Contains-first, Contains-map}
use Rattle.ground_model.specs.declared.action.Guarded.{Guarded}
use Rattle.ground_model.specs.declared.action.Choice.{Choice}
use Rattle.ground_model.specs.declared.condition.GroundCondition.{GroundCondition, Row_of-GroundCondition, end_of-GroundCondition, more_of-GroundCondition}
use Rattle.ground_model.specs.declared.condition.GroundCondition.TheVariants.{True, False, Atom, Not', All', Any'}
use Rattle.ground_model.specs.Truth.{truth, all_true, any_true}
use Rattle.ground_model.specs.Choices.{is_member, active_adds, active_deletes, active_cost, after}
use Rattle.ppddl_model.specs.Known.{known_not, known_and, known_or, known_all, known_any}
use Rattle.partial_states.specs.Known.{kleene, kleene_each, Admits, AdmitsEach}
use Rattle.partial_states.specs.Steps.{picked_adds, picked_deletes, picked_cost, touched, step_known, held, picks, Decides}
use Rattle.partial_states.specs.Laws as laws

admits_not : (x : Option Bool) (a : Bool) → Admits x a → Admits (known_not x) (not a)
admits_not None a admits = admits
admits_not (Some b) a admits = ap not admits

admits_and : (x y : Option Bool) (a b : Bool) → Admits x a → Admits y b → Admits (known_and x y) (a && b)
admits_and (Some false) y a b first later = ap (λ z. z && b) first
admits_and (Some true) None a b first later = later
admits_and (Some true) (Some c) a b first later = ap (λ z. z && b) first ∙ later
admits_and None (Some false) true b first later = later
admits_and None (Some false) false b first later = refl
admits_and None (Some true) a b first later = first
admits_and None None a b first later = first

admits_or : (x y : Option Bool) (a b : Bool) → Admits x a → Admits y b → Admits (known_or x y) (a || b)
admits_or (Some true) y a b first later = ap (λ z. z || b) first
admits_or (Some false) None a b first later = later
admits_or (Some false) (Some c) a b first later = ap (λ z. z || b) first ∙ later
admits_or None (Some true) true b first later = refl
admits_or None (Some true) false b first later = later
admits_or None (Some false) a b first later = first
admits_or None None a b first later = first

-- deletes act before adds
admits_touched : (x : Option Bool) (added deleted b : Bool) → Admits x b
    → Admits (cond added (Some true) (cond deleted (Some false) x)) (added || (b && not deleted))
admits_touched x true deleted b admits = refl
admits_touched x false true true admits = refl
admits_touched x false true false admits = refl
admits_touched x false false true admits = admits
admits_touched x false false false admits = admits

module _ (bit : ℕ → Bool) (known : ℕ → Option Bool) (admitted : AdmitsEach known bit) where
  mutual
    pub known_holds : (c : GroundCondition) → Admits (kleene known c) (truth bit c)
    known_holds True = refl
    known_holds False = refl
    known_holds (Atom q) = admitted q
    known_holds (Not' u (more_of-GroundCondition c end_of-GroundCondition)) = admits_not (kleene known c) (truth bit c) (known_holds c)
    known_holds (All' shape cs) = known_all_holds cs
    known_holds (Any' shape cs) = known_any_holds cs

    known_all_holds : {n : _} (cs : Row_of-GroundCondition n) → Admits (known_all (kleene_each known cs)) (all_true bit cs)
    known_all_holds end_of-GroundCondition = refl
    known_all_holds (more_of-GroundCondition c cs) =
        admits_and (kleene known c) (known_all (kleene_each known cs)) (truth bit c) (all_true bit cs) (known_holds c) (known_all_holds cs)

    known_any_holds : {n : _} (cs : Row_of-GroundCondition n) → Admits (known_any (kleene_each known cs)) (any_true bit cs)
    known_any_holds end_of-GroundCondition = refl
    known_any_holds (more_of-GroundCondition c cs) =
        admits_or (kleene known c) (known_any (kleene_each known cs)) (truth bit c) (any_true bit cs) (known_holds c) (known_any_holds cs)

  -- a condition that is known
  pub is_known : (c : GroundCondition) (b : Bool) → kleene known c ≡ Some b → truth bit c ≡ b
  is_known c b e = subst (λ x. Admits x (truth bit c)) e (known_holds c)

  pub held_is_decided : (parts : List Guarded) (picked : List Bool) → Decides known parts picked → held bit parts ≡ picked
  held_is_decided [] [] decides = refl
  held_is_decided [] (b ∷ picked) decides = absurd decides
  held_is_decided (x ∷ parts) [] decides = absurd decides
  held_is_decided (x ∷ parts) (b ∷ picked) decides =
      ap (λ z. z ∷ held bit parts) (is_known x.condition b decides.0) ∙ ap (λ zs. b ∷ zs) (held_is_decided parts picked decides.1)

  -- the flags of the first part, by what is known of it
  first_picked : (value : Option Bool) (b : Bool) → Admits value b → (flags : List Bool) (rest : List (List Bool)) → Contains rest flags
      → Contains
      (elim value [
        | None ↦ map (λ more. true ∷ more) rest ++ map (λ more. false ∷ more) rest
        | Some a ↦ map (λ more. a ∷ more) rest
      ]) (b ∷ flags)
  first_picked None true admits flags rest inside =
      Contains-append_left (map (λ more. true ∷ more) rest) (map (λ more. false ∷ more) rest) (true ∷ flags)
      (Contains-map (λ more. true ∷ more) rest flags inside)
  first_picked None false admits flags rest inside =
      Contains-append_right (map (λ more. true ∷ more) rest) (map (λ more. false ∷ more) rest) (false ∷ flags)
      (Contains-map (λ more. false ∷ more) rest flags inside)
  first_picked (Some a) b admits flags rest inside =
      subst (λ z. Contains (map (λ more. a ∷ more) rest) (z ∷ flags)) (sym admits) (Contains-map (λ more. a ∷ more) rest flags inside)

  pub held_is_picked : (parts : List Guarded) → Contains (picks known parts) (held bit parts)
  held_is_picked [] = Contains-first [] []
  held_is_picked (x ∷ parts) =
      first_picked (kleene known x.condition) (truth bit x.condition) (known_holds x.condition) (held bit parts) (picks known parts)
      (held_is_picked parts)

module _ (bit : ℕ → Bool) where
  adds_are_picked : (parts : List Guarded) → picked_adds (held bit parts) parts ≡ active_adds bit parts
  adds_are_picked [] = refl
  adds_are_picked (x ∷ parts) = ap (λ more. cond (truth bit x.condition) x.adds [] ++ more) (adds_are_picked parts)

  deletes_are_picked : (parts : List Guarded) → picked_deletes (held bit parts) parts ≡ active_deletes bit parts
  deletes_are_picked [] = refl
  deletes_are_picked (x ∷ parts) = ap (λ more. cond (truth bit x.condition) x.deletes [] ++ more) (deletes_are_picked parts)

  pub cost_is_picked : (parts : List Guarded) → active_cost bit parts ≡ picked_cost (held bit parts) parts
  cost_is_picked [] = refl
  cost_is_picked (x ∷ parts) = ap (λ more. cond (truth bit x.condition) x.cost 0 + more) (cost_is_picked parts)

  pub next_is_admitted : (known : ℕ → Option Bool) → AdmitsEach known bit → (c : Choice)
      → AdmitsEach (step_known known c (held bit c.guarded)) (after bit c)
  next_is_admitted known admitted c q =
      let adds : c.adds ++ picked_adds (held bit c.guarded) c.guarded ≡ c.adds ++ active_adds bit c.guarded
      = ap (λ more. c.adds ++ more) (adds_are_picked c.guarded) in
      let deletes : c.deletes ++ picked_deletes (held bit c.guarded) c.guarded ≡ c.deletes ++ active_deletes bit c.guarded
      = ap (λ more. c.deletes ++ more) (deletes_are_picked c.guarded) in
      let here : Admits (touched (c.adds ++ active_adds bit c.guarded) (c.deletes ++ active_deletes bit c.guarded) (known q) q) (after bit c q)
      = admits_touched (known q) (is_member (c.adds ++ active_adds bit c.guarded) q)
      (is_member (c.deletes ++ active_deletes bit c.guarded) q) (bit q) (admitted q) in
      subst (λ xs. Admits (touched xs (c.deletes ++ picked_deletes (held bit c.guarded) c.guarded) (known q) q) (after bit c q)) (sym adds)
      (subst (λ xs. Admits (touched (c.adds ++ active_adds bit c.guarded) xs (known q) q) (after bit c q)) (sym deletes) here)

pub every_known_holds : laws.KnownHolds
every_known_holds bit known admitted c = known_holds bit known admitted c

pub every_next_is_admitted : laws.NextIsAdmitted
every_next_is_admitted bit known admitted c = next_is_admitted bit known admitted c

pub every_held_is_picked : laws.HeldIsPicked
every_held_is_picked bit known admitted parts = held_is_picked bit known admitted parts

pub every_held_is_decided : laws.HeldIsDecided
every_held_is_decided bit known admitted parts picked decides = held_is_decided bit known admitted parts picked decides

pub every_cost_is_picked : laws.CostIsPicked
every_cost_is_picked bit c = ap (λ n. c.cost + n) (cost_is_picked bit c.guarded)
