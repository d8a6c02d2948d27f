-- Where a trial goes on, and backups behind backups.
use Rattle.std.proofs.Common.{◌≡◌, refl, sym, ap, subst, ◌∙◌, ℕ, ◌+◌, ◌-◌, ◌<◌, List, [], ◌∷◌, ◌++◌, length, take, arith}
use Rattle.std.proofs.Common.{inl, inr}
use Rattle.std.specs.Prelude.{reverse, All, Option, Some, None, slice_get, true, false, cond, Bool, ◌==◌, ◌&&◌}
use Rattle.std.proofs.lemmas.Bool.{eq-eqb}
use Rattle.std.proofs.lemmas.List.{take_more, map-append, reverse-append, append_assoc}
use Rattle.std.proofs.lemmas.List.Elements.{All-get_or}
use Rattle.std.proofs.lemmas.Option.{slice_get_within, get_or_from_slice_get, slice_get_cases}
use Rattle.brtdp_trial.specs.Meaning.{Last, LeadsToKnown, Told}
use Rattle.brtdp_trial.specs.Endings.{stops_at_new}
use Rattle.brtdp_trial.specs.Paths.{ids_of}
use Rattle.brtdp_trial.specs.Turns.{AreTurns, IsTurn, Leads, is_narrow, onward, onward_by, onward_from, onward_to, stop_at}
use Rattle.brtdp_trial.specs.Trials.{AreBackedUp}
use Rattle.brtdp_trial.specs.declared.aim.Aim.{Aim}
use Rattle.brtdp_trial.specs.declared.step.TheConstants.{GIVE_UP}
use Rattle.brtdp_trial.specs.declared.step.Step.{Step}
use Rattle.brtdp_trial.specs.declared.turn.Turn.{Turn}
use Rattle.brtdp_trial.specs.declared.turn.Drawn.{Drawn}
use Rattle.brtdp_trial.specs.declared.ends.TrialEnd.{TrialEnd}
use Rattle.brtdp_trial.specs.declared.ends.TrialEnd.TheVariants.{Dead, Narrow, New, Depth}
use Rattle.brtdp_trial.specs.declared.ends.Onward.TheVariants.{Goes}

module _ {X : Type 0} where
  pub All_at : (P : X → Type 0) (xs : List X) (i : ℕ) (x : X) → All P xs → slice_get xs i ≡ Some x → P x
  All_at P xs i x all e =
      subst P (get_or_from_slice_get xs i x x e) (All-get_or P xs i x (slice_get_within xs i x e) all)

  pub at_some : (xs : List X) (i : ℕ) → i < length xs → (x : X) × (slice_get xs i ≡ Some x)
  at_some xs i h = elim ((slice_get_cases xs i).1) [
    | inl p ↦ (p.0, p.2)
    | inr q ↦ absurd (let l = q.0 in omega arith)
  ]

onward_to_some : (new : Bool) (o : Option ℕ) (id : ℕ) (is : Bool) → onward_to new o ≡ Goes id is → o ≡ Some id
onward_to_some new None id is e = absurd (cc)
onward_to_some new (Some m) id is e = cc

-- a trial goes on at the state that the drawn choice leads to
pub goes_to : (a : Aim) (n : ℕ) (new : Bool) (t : Turn) (d : Drawn) (id : ℕ) (is : Bool) → stop_at a n new t.code t.den t.total ≡ None
    → t.drawn ≡ Some d → onward a n new t ≡ Goes id is → d.id ≡ Some id
goes_to a n new t d id is stop drawn goes =
    onward_to_some d.new d.id id is (sym (ap (λ o. onward_from o t.drawn) stop ∙ ap onward_by drawn) ∙ goes)

not_at : (b c x d : Bool) (o : Option Drawn) (id : ℕ) (is : Bool)
    → onward_from (cond b (Some Dead) (cond c (Some Narrow) (cond x (Some New) (cond d (Some Depth) None)))) o ≡ Goes id is → d ≡ false
not_at true c x d o id is e = absurd cc
not_at false true x d o id is e = absurd cc
not_at false false true d o id is e = absurd cc
not_at false false false true o id is e = absurd cc
not_at false false false false o id is e = refl

-- a trial that goes on is not at its depth
pub goes_before : (a : Aim) (n : ℕ) (new : Bool) (t : Turn) (id : ℕ) (is : Bool) → onward a n new t ≡ Goes id is → n ≡ a.depth → ⊥
goes_before a n new t id is goes deep =
    is_both (n == a.depth) (eq-eqb n a.depth deep)
    (not_at (t.code == GIVE_UP) (is_narrow a t.den t.total) (stops_at_new a.ends && new) (n == a.depth) t.drawn id is goes) where
      is_both : (b : Bool) → b ≡ true → b ≡ false → ⊥
      is_both b on off = cc

module _ {S : Type 0} (later full : S → S → Type 0) (last : S → Last) (told : Told S) (draw : ℕ → ℕ) (a : Aim) where
  -- one turn more, behind turns that led to it
  pub turns_more : (turns : List Turn) (t : Turn) (n first id next : ℕ) (new is : Bool) (s u v : S)
      → ((ts : List Turn) (e : TrialEnd) (z : S) → AreTurns later full last told draw a ts n id new u e z
      → AreTurns later full last told draw a (turns ++ ts) 0 first false s e z)
      → t.id ≡ id → IsTurn later full last told draw a (n + 1) new u v t → onward a (n + 1) new t ≡ Goes next is
      → (ts : List Turn) (e : TrialEnd) (z : S) → AreTurns later full last told draw a ts (n + 1) next is v e z
      → AreTurns later full last told draw a ((turns ++ t ∷ []) ++ ts) 0 first false s e z
  turns_more turns t n first id next new is s u v rest at turn goes ts e z are =
      let led : Leads (onward a (n + 1) new t) (λ e'. (ts ≡ []) × (e ≡ e') × (z ≡ v))
      (λ id' new'. AreTurns later full last told draw a ts (n + 1) id' new' v e z) =
      subst (λ o. Leads o (λ e'. (ts ≡ []) × (e ≡ e') × (z ≡ v))
      (λ id' new'. AreTurns later full last told draw a ts (n + 1) id' new' v e z)) (sym goes) are in
      subst (λ l. AreTurns later full last told draw a l 0 first false s e z) (sym (append_assoc turns (t ∷ []) ts))
      (rest (t ∷ ts) e z (v, at, turn, led))

-- the state that a known choice leads to
pub known_to : (knows : ℕ → Type 0) (steps : List Step) (i : ℕ) (s : Step) (to : Option ℕ) (id : ℕ)
    → All (LeadsToKnown knows) steps → slice_get steps i ≡ Some s → to ≡ s.id → to ≡ Some id → knows id
known_to knows steps i s to id all e is some =
    All_at (LeadsToKnown knows) steps i s all e id (sym is ∙ some)

module _ {S : Type 0} (later : S → S → Type 0) (told : Told S) where
  -- one backup more, of the last of the turns that are left
  pub back_more : (turns : List Turn) (left : ℕ) (t : Turn) (s u v : S) → 0 < left
      → slice_get turns (left - 1) ≡ Some t
      → ((z : S) → AreBackedUp later told (reverse (ids_of (take left turns))) u z
      → AreBackedUp later told (reverse (ids_of turns)) s z)
      → later u v → (told.tells u ≡ true → v ≡ told.after u t.id)
      → (z : S) → AreBackedUp later told (reverse (ids_of (take (left - 1) turns))) v z
      → AreBackedUp later told (reverse (ids_of turns)) s z
  back_more turns left t s u v some at rest follows exact z h =
      let within = slice_get_within turns (left - 1) t at in
      let got = get_or_from_slice_get turns (left - 1) t t at in
      let whole : (left - 1) + 1 ≡ left = omega arith in
      let parts : take left turns ≡ take (left - 1) turns ++ t ∷ [] =
      ap (λ n. take n turns) (sym whole) ∙ take_more turns (left - 1) t within
      ∙ ap (λ x. take (left - 1) turns ++ x ∷ []) got in
      let back : reverse (ids_of (take left turns)) ≡ t.id ∷ reverse (ids_of (take (left - 1) turns)) =
      ap (λ l. reverse (ids_of l)) parts
      ∙ ap reverse (map-append (λ (t : Turn). t.id) (take (left - 1) turns) (t ∷ []))
      ∙ reverse-append (ids_of (take (left - 1) turns)) (t.id ∷ []) in
      rest z (subst (λ l. AreBackedUp later told l u z) (sym back) (v, follows, exact, h))
