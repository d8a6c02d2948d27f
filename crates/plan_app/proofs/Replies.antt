-- What a server answered of states of the ground problem it answered of those of the task.
use Rattle.std.proofs.Common.{◌≡◌, ℕ, ◌^◌, ◌<◌, List, [], ◌∷◌, ◌++◌, Option, Some, None, option_map, length, refl, sym, ap, ◌∙◌, subst, inl, inr}
use Rattle.std.specs.Prelude.{Contains, IsTrue, nat_eq}
use Rattle.std.specs.List.{AllByRecursion}
use Rattle.std.specs.Cmp.Lexicographic.{pointwise}
use Rattle.std.specs.Fmt.{option_append}
use Rattle.std.proofs.Math.Nat.{one-le-pow}
use Rattle.std.proofs.lemmas.Bool.{eqb-true}
use Rattle.std.proofs.lemmas.List.Elements.{Contains-append_cases}
use Rattle.std.proofs.lemmas.List.Quantifiers.{position-Some}
use Rattle.std.proofs.lemmas.Map.Views.{Contains-from_any}
use Rattle.plain_list.specs.Texts.{list_text}
use Rattle.plain_list.proofs.Members.{Contains-cons_cases, Contains-nil}
use Rattle.decision_process.specs.Least.{least, Covers}
use Rattle.decision_process.specs.Levels.{near}
use Rattle.decision_process.specs.sweeps.Sweeps.{IsNear}
use Rattle.decision_process.proofs.lemmas.homomorphism.Ratios.{below_same, above_same}
use Rattle.ppddl_model.specs.declared.tree.Task.{Task}
use Rattle.ppddl_model.specs.Steps.{Charges, process, starts, step_den}
use Rattle.ground_model.specs.Packed.{State, words_for, is_inside}
use Rattle.ground_model.specs.Choices.{is_member}
use Rattle.ground_model.specs.Ground.{Ground}
use Rattle.ground_model.specs.Steps.{den_of, ground_process, ground_starts}
use Rattle.ground_model.proofs.Packed.{packed_inside}
use Rattle.ground_step.specs.Atoms as atoms
use Rattle.ground_step.specs.Names.{place_of}
use Rattle.ground_meaning.specs.stands.Laws.{IsCarried, StatesAreFound, NearIsCarried, NearIsFound, SameLeast, SameDepth}
use Rattle.ground_meaning.specs.stands.Stands.{IsInside, state_of, packed_of, IsGroundOf}
use Rattle.plan_search.specs.service.Served.{IsFar, IsSound}
use Rattle.policy_server.specs.Queries.{Piece, Names, Query, number_of, numbers_of, asked_in, query_for, query_behind, query_in, query_of, pieces_of}
use Rattle.policy_server.specs.Queries as query
use Rattle.policy_server.specs.Replies.{Reply, NoQuery, NoAtom, Unvisited, Found, Fits, FitEach}
use Rattle.plan_app.specs.Solutions.{TellsOfTask}

-- ---- the states that are asked for

both_some : (a b : Option (List ℕ)) (l : List ℕ) → option_append a b ≡ Some l
    → (x : List ℕ) × (y : List ℕ) × (a ≡ Some x) × (b ≡ Some y) × (x ++ y ≡ l)
both_some None b l is = absurd (cc is)
both_some (Some x) None l is = absurd (cc is)
both_some (Some x) (Some y) l is = let same : x ++ y ≡ l = cc is in (x, y, refl, refl, same)

one_below : (n : ℕ) (o : Option ℕ) → ((k : ℕ) → o ≡ Some k → k < n) → (l : List ℕ) → option_map (λ k. k ∷ []) o ≡ Some l
    → (q : ℕ) → Contains l q → q < n
one_below n None below l is q inside = absurd (cc is)
one_below n (Some k) below l is q inside =
    let same : k ∷ [] ≡ l = cc is in
    elim (Contains-cons_cases k [] q (subst (λ m. Contains m q) (sym same) inside)) [
      | inl here ↦ subst (λ m. m < n) here (below k refl)
      | inr later ↦ absurd (Contains-nil q later)
    ]

numbers_below : (texts : List (List ℕ)) (asked : List Names) (l : List ℕ) → numbers_of texts asked ≡ Some l
    → (q : ℕ) → Contains l q → q < length texts
numbers_below texts [] l is q inside =
    let none : [] ≡ l = cc is in
    absurd (Contains-nil q (subst (λ m. Contains m q) (sym none) inside))
numbers_below texts (names ∷ more) l is q inside =
    let (x, y, first, rest, whole) = both_some (number_of texts names) (numbers_of texts more) l is in
    elim (Contains-append_cases x y q (subst (λ m. Contains m q) (sym whole) inside)) [
      | inl here ↦
          one_below (length texts) (place_of texts (list_text names))
          (λ k at. (position-Some (pointwise nat_eq (list_text names)) texts k [] at).0) x first q here
      | inr later ↦ numbers_below texts more y rest q later
    ]

module _ (g : Ground) where
  numbers_inside : (l : List ℕ) → ((q : ℕ) → Contains l q → q < length g.atoms) → IsTrue (is_inside (length g.atoms) (atoms.state_of l (words_for (length g.atoms))))
  numbers_inside l below =
      packed_inside (length g.atoms) (is_member l) (λ q on. below q (Contains-from_any (λ x y same. eqb-true x y same) q l on))

  found_inside : (o : Option (List ℕ)) → ((l : List ℕ) → o ≡ Some l → (q : ℕ) → Contains l q → q < length g.atoms)
      → (s : State) → query_for g (option_append (Some []) o) ≡ query.Asks s → IsTrue (is_inside (length g.atoms) s)
  found_inside None below s is = absurd (cc is)
  found_inside (Some l) below s is =
      let same : atoms.state_of l (words_for (length g.atoms)) ≡ s = cc is in
      subst (λ t. IsTrue (is_inside (length g.atoms) t)) same (numbers_inside l (below l refl))

  behind_inside : (asked : Option (List Names)) (s : State) → query_behind g (Some []) asked ≡ query.Asks s → IsTrue (is_inside (length g.atoms) s)
  behind_inside None s is = absurd (cc is)
  behind_inside (Some asked) s is = found_inside (numbers_of g.atoms asked) (numbers_below g.atoms asked) s is

  pieces_inside : (o : Option (List Piece)) (s : State) → query_in g o ≡ query.Asks s → IsTrue (is_inside (length g.atoms) s)
  pieces_inside None s is = absurd (cc is)
  pieces_inside (Some ps) s is = behind_inside (asked_in ps) s is

  asked_inside : (line : List ℕ) (s : State) → query_of g line ≡ query.Asks s → IsTrue (is_inside (length g.atoms) s)
  asked_inside line s is = pieces_inside (pieces_of line) s is

-- ---- what is answered

module _ (carried : IsCarried) (same : SameLeast) (back : StatesAreFound) (near_carried : NearIsCarried) (near_found : NearIsFound)
    (depths : SameDepth) (g : Ground) (task : Task) (charges : Charges) (stands : IsGroundOf g task charges) where
  covers_there : (lower upper : ℕ) (s : State) → IsInside g task s → Covers (ground_process g) lower upper s
      → Covers (process task charges) lower upper (state_of g task s)
  covers_there lower upper s inside covers =
      let positive : 0 < den_of g.actions = (carried g task charges stands).den_positive in
      let n : ℕ = covers.0.0 in (
        (
          n,
          below_same lower (least (ground_process g) n s) (den_of g.actions ^ n)
              (least (process task charges) n (state_of g task s)) (step_den task ^ n)
              (one-le-pow n (den_of g.actions) positive) (same g task charges stands n s inside) covers.0.1,
        ),
        λ m. above_same upper (least (ground_process g) m s) (den_of g.actions ^ m)
            (least (process task charges) m (state_of g task s)) (step_den task ^ m)
            (one-le-pow m (den_of g.actions) positive) (same g task charges stands m s inside) (covers.1 m),
      )

  -- a state near the task's starts is one that stands for a state near the problem's
  near_here : (d : ℕ) (s : State) → IsInside g task s → Contains (near (process task charges) (starts task) d) (state_of g task s)
      → Contains (near (ground_process g) (ground_starts g) d) s
  near_here d s inside near_there =
      let found = near_found g task charges stands d (state_of g task s) near_there in
      let within : IsInside g task found.0 = (near_carried g task charges stands d found.0 found.1).0 in
      let one : found.0 ≡ s = sym (back g task charges stands found.0 within) ∙ ap (packed_of g task) found.2 ∙ back g task charges stands s inside in
      subst (Contains (near (ground_process g) (ground_starts g) d)) one found.1

  is_near_here : (depth : Option ℕ) (s : State) → IsInside g task s → IsNear (process task charges) (starts task) depth (state_of g task s)
      → IsNear (ground_process g) (ground_starts g) depth s
  is_near_here None s inside (d, near_there) = (d, near_here d s inside near_there)
  is_near_here (Some d) s inside near_there = near_here d s inside near_there

  far_there : (swept : ℕ) (s : State) → IsInside g task s → IsFar (ground_process g) (ground_starts g) swept s
      → IsFar (process task charges) (starts task) swept (state_of g task s)
  far_there swept s inside is = record {
    depth = is.depth;
    fits = (depths g task charges stands swept is.depth).0 is.fits;
    far = λ near_there. is.far (is_near_here is.depth s inside near_there);
  }

  module _ (swept : ℕ) where
    reply_tells : (q : Query) → ((s : State) → q ≡ query.Asks s → IsInside g task s) → (r : Reply) → Fits q r → IsSound g swept r
        → TellsOfTask g task charges swept r
    reply_tells q inside NoQuery fits sound = tt
    reply_tells q inside NoAtom fits sound = tt
    reply_tells (query.Asks s) inside (Unvisited t) fits sound = far_there swept t (subst (IsInside g task) (sym fits) (inside s refl)) sound
    reply_tells query.NoQuery inside (Unvisited t) fits sound = absurd fits
    reply_tells query.NoAtom inside (Unvisited t) fits sound = absurd fits
    reply_tells (query.Asks s) inside (Found t id i) fits sound =
        covers_there i.lower i.upper t (subst (IsInside g task) (sym fits) (inside s refl)) sound.covers
    reply_tells query.NoQuery inside (Found t id i) fits sound = absurd fits
    reply_tells query.NoAtom inside (Found t id i) fits sound = absurd fits

    pub replies_tell : (lines : List (List ℕ)) (replies : List Reply) → FitEach g lines replies → AllByRecursion (IsSound g swept) replies
        → AllByRecursion (TellsOfTask g task charges swept) replies
    replies_tell [] [] fit sound = tt
    replies_tell [] (r ∷ rs) fit sound = absurd fit
    replies_tell (line ∷ lines) [] fit sound = absurd fit
    replies_tell (line ∷ lines) (r ∷ rs) fit sound =
        (reply_tells (query_of g line) (asked_inside g line) r fit.0 sound.0, replies_tell lines rs fit.1 sound.1)
