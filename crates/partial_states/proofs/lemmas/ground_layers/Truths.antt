-- What the truths of some atoms say of the others, and which truths may come.
use Rattle.std.proofs.Common.{◌≡◌, ℕ, Bool, true, false, cond, not, ◌&&◌, ◌||◌, List, [], ◌∷◌, ◌++◌, flat_map, Option, None, Some, refl, sym, ap, subst, inl, inr, ◌∙◌}
use Rattle.std.specs.Prelude.{Contains, nat_eq, is_some}
use Rattle.std.proofs.lemmas.Bool.{cases_Bool, eqb-true}
use Rattle.plain_list.proofs.Members.{Contains-map}
use Rattle.ground_model.specs.declared.action.Guarded.{Guarded}
use Rattle.ground_model.specs.declared.action.Choice.{Choice}
use Rattle.ground_model.specs.Truth.{truth}
use Rattle.ground_model.specs.Choices.{is_member, active_adds, active_deletes, after}
use Rattle.ppddl_model.specs.Known.{is_not_false}
use Rattle.partial_states.specs.Known.{Admits, AdmitsEach}
use Rattle.partial_states.specs.Steps.{step_known, held, picks, picked_adds, picked_deletes}
use Rattle.partial_states.specs.ground_layers.GroundLayers.{truths_of, known_by, is_known_true, literals_of, truths_after, next_truths, touches_by}
use Rattle.partial_states.proofs.Facts.{held_is_picked, next_is_admitted}
use Rattle.partial_states.proofs.lemmas.ground_layers.Members.{member_append_left, member_append_right, member_append_cases, off_or_on, none_touched, same_truths_of, and_true}

pub may_be : (x : Option Bool) (b : Bool) → Admits x b → b ≡ true → is_not_false x ≡ true
may_be None b admits on = refl
may_be (Some a) b admits on = sym admits ∙ on

first_admits : (atoms : List ℕ) (bit : ℕ → Bool) (q a : ℕ) (same : Bool) → (same ≡ true → q ≡ a)
    → Admits (known_by atoms (truths_of atoms bit) q) (bit q)
    → Admits (cond same (Some (bit a)) (known_by atoms (truths_of atoms bit) q)) (bit q)
first_admits atoms bit q a true is rest = ap bit (is refl)
first_admits atoms bit q a false is rest = rest

pub truths_admit : (atoms : List ℕ) (bit : ℕ → Bool) → AdmitsEach (known_by atoms (truths_of atoms bit)) bit
truths_admit [] bit q = tt
truths_admit (a ∷ atoms) bit q = first_admits atoms bit q a (nat_eq q a) (eqb-true q a) (truths_admit atoms bit q)

sure_known : (x : Option Bool) (b : Bool) → Admits x b → is_some x ≡ true → is_known_true x ≡ b
sure_known None b admits known = absurd cc
sure_known (Some a) b admits known = sym admits

touched_known : (added deleted : Bool) (x : Option Bool) → is_some x ≡ true
    → is_some (cond added (Some true) (cond deleted (Some false) x)) ≡ true
touched_known true deleted x known = refl
touched_known false true x known = refl
touched_known false false x known = known

known_cases : (same b : Bool) (x : Option Bool) (later : Bool) → (same || later) ≡ true → (later ≡ true → is_some x ≡ true)
    → is_some (cond same (Some b) x) ≡ true
known_cases true b x later inside rest = refl
known_cases false b x later inside rest = rest inside

all_truths_known : (atoms : List ℕ) (bit : ℕ → Bool) (q : ℕ) → is_member atoms q ≡ true → is_some (known_by atoms (truths_of atoms bit) q) ≡ true
all_truths_known [] bit q inside = absurd cc
all_truths_known (a ∷ atoms) bit q inside = known_cases (nat_eq q a) (bit a) (known_by atoms (truths_of atoms bit) q)
    (is_member atoms q) inside (all_truths_known atoms bit q)

-- ---- steps of the projection

chosen_member : (b : Bool) (atoms : List ℕ) (q : ℕ) → is_member (cond b atoms []) q ≡ true → is_member atoms q ≡ true
chosen_member true atoms q inside = inside
chosen_member false atoms q inside = absurd cc

module _ (bit : ℕ → Bool) where
  active_add_stands : (parts : List Guarded) (q : ℕ) → is_member (active_adds bit parts) q ≡ true
      → is_member (flat_map (λ (x : Guarded). x.adds ++ x.deletes) parts) q ≡ true
  active_add_stands [] q inside = absurd cc
  active_add_stands (x ∷ parts) q inside =
      elim (member_append_cases (cond (truth bit x.condition) x.adds []) (active_adds bit parts) q inside) [
        | inl here ↦
            member_append_left (x.adds ++ x.deletes) (flat_map (λ (y : Guarded). y.adds ++ y.deletes) parts) q
            (member_append_left x.adds x.deletes q (chosen_member (truth bit x.condition) x.adds q here))
        | inr later ↦
            member_append_right (x.adds ++ x.deletes) (flat_map (λ (y : Guarded). y.adds ++ y.deletes) parts) q
            (active_add_stands parts q later)
      ]

  active_delete_stands : (parts : List Guarded) (q : ℕ) → is_member (active_deletes bit parts) q ≡ true
      → is_member (flat_map (λ (x : Guarded). x.adds ++ x.deletes) parts) q ≡ true
  active_delete_stands [] q inside = absurd cc
  active_delete_stands (x ∷ parts) q inside =
      elim (member_append_cases (cond (truth bit x.condition) x.deletes []) (active_deletes bit parts) q inside) [
        | inl here ↦
            member_append_left (x.adds ++ x.deletes) (flat_map (λ (y : Guarded). y.adds ++ y.deletes) parts) q
            (member_append_right x.adds x.deletes q (chosen_member (truth bit x.condition) x.deletes q here))
        | inr later ↦
            member_append_right (x.adds ++ x.deletes) (flat_map (λ (y : Guarded). y.adds ++ y.deletes) parts) q
            (active_delete_stands parts q later)
      ]

  add_stands : (c : Choice) (q : ℕ) → is_member (c.adds ++ active_adds bit c.guarded) q ≡ true → is_member (literals_of c) q ≡ true
  add_stands c q inside = elim (member_append_cases c.adds (active_adds bit c.guarded) q inside) [
    | inl own ↦
        member_append_left (c.adds ++ c.deletes) (flat_map (λ (x : Guarded). x.adds ++ x.deletes) c.guarded) q
        (member_append_left c.adds c.deletes q own)
    | inr part ↦
        member_append_right (c.adds ++ c.deletes) (flat_map (λ (x : Guarded). x.adds ++ x.deletes) c.guarded) q
        (active_add_stands c.guarded q part)
  ]

  delete_stands : (c : Choice) (q : ℕ) → is_member (c.deletes ++ active_deletes bit c.guarded) q ≡ true
      → is_member (literals_of c) q ≡ true
  delete_stands c q inside = elim (member_append_cases c.deletes (active_deletes bit c.guarded) q inside) [
    | inl own ↦
        member_append_left (c.adds ++ c.deletes) (flat_map (λ (x : Guarded). x.adds ++ x.deletes) c.guarded) q
        (member_append_right c.adds c.deletes q own)
    | inr part ↦
        member_append_right (c.adds ++ c.deletes) (flat_map (λ (x : Guarded). x.adds ++ x.deletes) c.guarded) q
        (active_delete_stands c.guarded q part)
  ]

  untouched_stays : (c : Choice) (q : ℕ) → is_member (literals_of c) q ≡ false → after bit c q ≡ bit q
  untouched_stays c q apart =
      let no_add : is_member (c.adds ++ active_adds bit c.guarded) q ≡ false
      = elim (cases_Bool (is_member (c.adds ++ active_adds bit c.guarded) q)) [
        | inl on ↦ off_or_on (is_member (literals_of c) q) (add_stands c q on) apart
        | inr off ↦ off
      ] in
      let no_delete : is_member (c.deletes ++ active_deletes bit c.guarded) q ≡ false
      = elim (cases_Bool (is_member (c.deletes ++ active_deletes bit c.guarded) q)) [
        | inl on ↦ off_or_on (is_member (literals_of c) q) (delete_stands c q on) apart
        | inr off ↦ off
      ] in
      ap (λ a. a || (bit q && not (is_member (c.deletes ++ active_deletes bit c.guarded) q))) no_add
      ∙ ap (λ d. bit q && not d) no_delete ∙ and_true (bit q)

  -- an untouched choice leaves the truths, and each choice leads to truths that may come
  pub truths_stay : (atoms : List ℕ) (c : Choice) → touches_by atoms c ≡ false → truths_of atoms (after bit c) ≡ truths_of atoms bit
  truths_stay atoms c apart =
      same_truths_of (after bit c) bit atoms (λ q inside. untouched_stays c q (none_touched atoms (literals_of c) q apart inside))

  pub truths_come : (atoms : List ℕ) (c : Choice) → Contains (next_truths atoms (truths_of atoms bit) c) (truths_of atoms (after bit c))
  truths_come atoms c =
      let known : ℕ → Option Bool = known_by atoms (truths_of atoms bit) in
      let admitted : AdmitsEach known bit = truths_admit atoms bit in
      let same : truths_after atoms (truths_of atoms bit) c (held bit c.guarded) ≡ truths_of atoms (after bit c)
      = same_truths_of (λ q. is_known_true (step_known known c (held bit c.guarded) q)) (after bit c) atoms
      (λ q inside. sure_known (step_known known c (held bit c.guarded) q) (after bit c q)
      (next_is_admitted bit known admitted c q)
      (touched_known (is_member (c.adds ++ picked_adds (held bit c.guarded) c.guarded) q)
      (is_member (c.deletes ++ picked_deletes (held bit c.guarded) c.guarded) q) (known q) (all_truths_known atoms bit q inside))) in
      subst (λ w. Contains (next_truths atoms (truths_of atoms bit) c) w) same
      (Contains-map (truths_after atoms (truths_of atoms bit) c) (picks known c.guarded) (held bit c.guarded)
      (held_is_picked bit known admitted c.guarded))
