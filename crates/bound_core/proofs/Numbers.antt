-- Numbers that are raised or sunk at one state, and what they keep.
use Rattle.std.proofs.Common.{◌≡◌, ℕ, ◌*◌, ◌^◌, ◌≤◌, min, max, cond, true, false, None, Some, refl, sym, ap, subst, inl, inr, ◌∙◌, arith}
use Rattle.std.specs.Prelude.{nat_eq}
use Rattle.std.specs.Cmp.Lexicographic.{bytes_decides}
use Rattle.std.proofs.Math.Nat.{mul-le-mul_right}
use Rattle.std.proofs.lemmas.Bool.{cases_lt, cases_Bool}
use Rattle.fixed_round.specs.Words.{value_of, code_of}
use Rattle.decision_process.specs.Least.{CoversFromBelow, CoversFromAbove}
use Rattle.decision_process.specs.Following.{IsLowerFrom}
use Rattle.decision_process.proofs.Backups.{lower_still_follows, upper_still_follows}
use Rattle.decision_process.proofs.Covering.{raised_covers}
use Rattle.ground_model.specs.Packed.{State, same_state}
use Rattle.ground_model.specs.Ground.{Ground}
use Rattle.ground_model.specs.Steps.{ground_process}
use Rattle.bound_core.specs.declared.codes.TheConstants.{GIVE_UP}
use Rattle.bound_core.specs.Numbers.{act_of, goal_word, quit_word, first_word, raised_at, sunk_at, IsSupported}
use Rattle.bound_core.specs.Sound.{LowerIsSound, UpperIsSound}

pub value_rises : (a b : ℕ) → a ≤ b → value_of a ≤ value_of b
value_rises a b below = omega arith

greater_is : (P : ℕ → Type 0) (a b : ℕ) → P a → P b → P (max a b)
greater_is P a b first second = elim (cases_lt a b) [
  | inl below ↦ subst P (omega arith) second
  | inr above ↦ subst P (omega arith) first
]

smaller_is : (P : ℕ → Type 0) (a b : ℕ) → P a → P b → P (min a b)
smaller_is P a b first second = elim (cases_lt a b) [
  | inl below ↦ subst P (omega arith) first
  | inr above ↦ subst P (omega arith) second
]

pub same_state_itself : (s : State) → same_state s s ≡ true
same_state_itself s = (bytes_decides s s).1 refl

-- a number that is one thing at the state s and another elsewhere
pub at_state_cases : (P : ℕ → Type 0) (s t : State) (x y : ℕ) → (t ≡ s → P x) → P y → P (cond (same_state t s) x y)
at_state_cases P s t x y here elsewhere = elim (cases_Bool (same_state t s)) [
  | inl on ↦ subst (λ b. P (cond b x y)) (sym on) (here ((bytes_decides t s).0 on))
  | inr off ↦ subst (λ b. P (cond b x y)) (sym off) elsewhere
]

pub raised_more : (s : State) (x : ℕ) (f : State → ℕ) (t : State) → f t ≤ raised_at s x f t
raised_more s x f t = at_state_cases (λ n. f t ≤ n) s t (max (f t) x) (f t) (λ same. omega arith) (omega arith)

pub sunk_less : (s : State) (x : ℕ) (f : State → ℕ) (t : State) → sunk_at s x f t ≤ f t
sunk_less s x f t = at_state_cases (λ n. n ≤ f t) s t (min (f t) x) (f t) (λ same. omega arith) (omega arith)

pub raised_here : (s : State) (x : ℕ) (f : State → ℕ) → raised_at s x f s ≡ max (f s) x
raised_here s x f = ap (λ b. cond b (max (f s) x) (f s)) (same_state_itself s)

pub sunk_here : (s : State) (x : ℕ) (f : State → ℕ) → sunk_at s x f s ≡ min (f s) x
sunk_here s x f = ap (λ b. cond b (min (f s) x) (f s)) (same_state_itself s)

pub raised_within : (s : State) (x : ℕ) (f h : State → ℕ) → ((t : State) → f t ≤ h t) → x ≤ h s
    → (t : State) → raised_at s x f t ≤ h t
raised_within s x f h below here t =
    let first : f t ≤ h t = below t in
    at_state_cases (λ n. n ≤ h t) s t (max (f t) x) (f t)
    (λ same. let there : x ≤ h t = subst (λ u. x ≤ h u) (sym same) here in omega arith) first

pub sunk_within : (s : State) (x : ℕ) (f h : State → ℕ) → ((t : State) → h t ≤ f t) → h s ≤ x
    → (t : State) → h t ≤ sunk_at s x f t
sunk_within s x f h above here t =
    let first : h t ≤ f t = above t in
    at_state_cases (λ n. h t ≤ n) s t (min (f t) x) (f t)
    (λ same. let there : h t ≤ x = subst (λ u. h u ≤ x) (sym same) here in omega arith) first

module _ (g : Ground) where
  pub covers_less : (low high : ℕ) (s : State) → low ≤ high → CoversFromBelow (ground_process g) high s
      → CoversFromBelow (ground_process g) low s
  covers_less low high s below covers =
      let scaled : low * (ground_process g).den ^ covers.0 ≤ high * (ground_process g).den ^ covers.0
      = mul-le-mul_right ((ground_process g).den ^ covers.0) below in
      (covers.0, omega (arith, scaled, covers.1))

  pub covers_more : (low high : ℕ) (s : State) → low ≤ high → CoversFromAbove (ground_process g) low s
      → CoversFromAbove (ground_process g) high s
  covers_more low high s below covers n =
      let scaled : low * (ground_process g).den ^ n ≤ high * (ground_process g).den ^ n
      = mul-le-mul_right ((ground_process g).den ^ n) below in
      omega (arith, scaled, covers n)

  -- a raise that what was seen allows
  pub lower_raised : (lower seen : State → ℕ) (s : State) (x : ℕ) → LowerIsSound g lower
      → ((t : State) → seen t ≤ lower t) → IsLowerFrom (ground_process g) seen s x
      → LowerIsSound g (raised_at s x lower)
  lower_raised lower seen s x sound below from =
      let fits : IsLowerFrom (ground_process g) lower s x
      = lower_still_follows (ground_process g) seen lower s x from (λ off a is_open o inside. below o.next) in
      let covers : CoversFromBelow (ground_process g) x s
      = raised_covers (ground_process g) seen s x from
      (λ off a is_open o inside. covers_less (seen o.next) (lower o.next) o.next (below o.next) (sound.covers o.next)) in
      record {
        follows = λ t. lower_still_follows (ground_process g) lower (raised_at s x lower) t (raised_at s x lower t)
            (at_state_cases (IsLowerFrom (ground_process g) lower t) s t (max (lower t) x) (lower t)
            (λ same. greater_is (IsLowerFrom (ground_process g) lower t) (lower t) x (sound.follows t)
            (subst (λ u. IsLowerFrom (ground_process g) lower u x) (sym same) fits))
            (sound.follows t))
            (λ off a is_open o inside. raised_more s x lower o.next);
        covers = λ t. at_state_cases (λ n. CoversFromBelow (ground_process g) n t) s t (max (lower t) x) (lower t)
            (λ same. greater_is (λ n. CoversFromBelow (ground_process g) n t) (lower t) x (sound.covers t)
            (subst (CoversFromBelow (ground_process g) x) (sym same) covers))
            (sound.covers t);
      }

  pub supported_by_less : (upper upper' : State → ℕ) (s : State) (word : ℕ) → ((t : State) → upper' t ≤ upper t)
      → IsSupported g upper s word → IsSupported g upper' s word
  supported_by_less upper upper' s word less supported = record {
    at_goal = supported.at_goal;
    follows = upper_still_follows (ground_process g) (λ t. value_of (upper t)) (λ t. value_of (upper' t)) s (act_of word) (value_of word)
        supported.follows (λ off a some o inside. value_rises (upper' o.next) (upper o.next) (less o.next));
  }

  -- a sink that what was seen allows
  pub upper_sunk : (upper seen : State → ℕ) (s : State) (word : ℕ) → UpperIsSound g upper
      → ((t : State) → upper t ≤ seen t) → IsSupported g seen s word → UpperIsSound g (sunk_at s word upper)
  upper_sunk upper seen s word sound above supported =
      let fits : IsSupported g upper s word = supported_by_less seen upper s word above supported in
      record {
        within_first = λ t.
            let less : sunk_at s word upper t ≤ upper t = sunk_less s word upper t in
            omega (arith, less, sound.within_first t);
        follows = λ t. supported_by_less upper (sunk_at s word upper) t (sunk_at s word upper t) (sunk_less s word upper)
            (at_state_cases (IsSupported g upper t) s t (min (upper t) word) (upper t)
            (λ same. smaller_is (IsSupported g upper t) (upper t) word (sound.follows t)
            (subst (λ u. IsSupported g upper u word) (sym same) fits))
            (sound.follows t));
      }

  pub first_lower_is_sound : LowerIsSound g (λ s. 0)
  first_lower_is_sound = record {
    follows = λ s. record {
      at_goal = λ on. refl;
      within_quit = λ off. omega arith;
      within_step = λ a off is_open. omega arith;
    };
    covers = λ s. (0, omega arith);
  }

quit_word_quits : (penalty : ℕ) → act_of (quit_word penalty) ≡ None
quit_word_quits penalty =
    let code : code_of (quit_word penalty) ≡ 65535 = omega arith in
    ap (λ k. cond (nat_eq k GIVE_UP) None (Some k)) code

quit_word_value : (penalty : ℕ) → value_of (quit_word penalty) ≡ penalty
quit_word_value penalty = omega arith

pub none_is_not_some : {A : Type 0} (a : A) → None ≡ Some a → ⊥
none_is_not_some a same = cc

module _ (g : Ground) where
  pub first_word_at_goal : (s : State) → (ground_process g).goal s ≡ true → first_word g s ≡ goal_word
  first_word_at_goal s on = ap (λ b. cond b goal_word (quit_word g.penalty)) on

  pub first_word_elsewhere : (s : State) → (ground_process g).goal s ≡ false → first_word g s ≡ quit_word g.penalty
  first_word_elsewhere s off = ap (λ b. cond b goal_word (quit_word g.penalty)) off

  pub first_value_elsewhere : (s : State) → (ground_process g).goal s ≡ false → value_of (first_word g s) ≡ g.penalty
  first_value_elsewhere s off = ap value_of (first_word_elsewhere s off) ∙ quit_word_value g.penalty

  first_word_quits : (s : State) → (ground_process g).goal s ≡ false → act_of (first_word g s) ≡ None
  first_word_quits s off = ap act_of (first_word_elsewhere s off) ∙ quit_word_quits g.penalty

  pub first_upper_is_sound : UpperIsSound g (first_word g)
  first_upper_is_sound = record {
    within_first = λ s. omega arith;
    follows = λ s. record {
      at_goal = first_word_at_goal s;
      follows = record {
        covers_quit = λ off quits. omega (arith, first_value_elsewhere s off);
        is_open = λ a off some. absurd (none_is_not_some a (sym (first_word_quits s off) ∙ some));
        covers_step = λ a off some. absurd (none_is_not_some a (sym (first_word_quits s off) ∙ some));
      };
    };
  }
