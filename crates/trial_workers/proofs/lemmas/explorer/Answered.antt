-- What the answer says of the levels.
use Rattle.std.proofs.Common.{◌≡◌, ◌≢◌, ℕ, suc, ◌+◌, ◌≤◌, ◌<◌, List, length, Result, Ok, Err, Option, slice_index_or, sym, ap, ◌∙◌, subst, arith}
use Rattle.std.specs.Prelude.{IfOk}
use Rattle.ground_model.specs.Packed.{State, words_for}
use Rattle.ground_model.specs.Ground.{Ground}
use Rattle.ground_model.specs.Invariant.{IsGroundProblem}
use Rattle.ground_model.specs.Steps.{ground_process, ground_starts}
use Rattle.trial_workers.specs.declared.explorer.explored.Explored.{Explored}
use Rattle.trial_workers.specs.declared.explorer.front.Front.{Front}
use Rattle.trial_workers.specs.explorer.Explored.{AreLevels, IsExplored, IsAnswer}
use Rattle.trial_workers.proofs.lemmas.explorer.Insides.{near_has_length, near_is_short}
use Rattle.trial_workers.specs.explorer.Exploring.{Exploring}
use Rattle.trial_workers.proofs.lemmas.explorer.ListedLevels.{reaches, deeper}

pub if_ok : {A E : Type 0} (r : Result A E) (P Q : A → Type 0) → ((x : A) → P x → Q x) → IfOk r P → IfOk r Q
if_ok (Ok x) P Q f h = f x h
if_ok (Err e) P Q f h = h

module _ (g : Ground) (most : ℕ) where
  pub answered : (l : List State) (swept : ℕ) (depth : Option ℕ) → AreLevels (ground_process g) (ground_starts g) most l swept depth
      → (e : Explored) → IsAnswer l swept depth e → IsExplored g most e
  answered l swept depth are e is =
      subst (λ s. AreLevels (ground_process g) (ground_starts g) most s e.swept e.depth) (sym is.states)
      (subst (λ n. AreLevels (ground_process g) (ground_starts g) most l n e.depth) (sym is.swept)
      (subst (λ d. AreLevels (ground_process g) (ground_starts g) most l swept d) (sym is.depth) are))

  module _ (next listed : ℕ) (front reached : Front) (l : List State)
      (e : Exploring (ground_process g) (ground_starts g) most next front.level front.depth l) (more : next < listed) (count : listed ≡ length l)
      (up : next ≡ front.level → (reached.level ≡ listed) × (reached.depth ≡ suc front.depth)) (same : next ≢ front.level → reached ≡ front) where
    pub front_reached : Exploring (ground_process g) (ground_starts g) most next reached.level reached.depth l × (next < reached.level)
    front_reached = reaches (ground_process g) (ground_starts g) most next front.level front.depth l e reached.level reached.depth (omega arith)
        (λ h. let r = up h in (r.0 ∙ count, r.1)) (λ h. (ap (λ (f : Front). f.level) (same h), ap (λ (f : Front). f.depth) (same h)))

    pub still_shallow : front.depth ≤ front.level + 1 → reached.depth ≤ reached.level + 1
    still_shallow shallow = deeper next front.level front.depth listed reached.level reached.depth more shallow up
        (λ h. (ap (λ (f : Front). f.level) (same h), ap (λ (f : Front). f.depth) (same h)))

  -- a listed state has the problem's length
  pub listed_has_length : IsGroundProblem g → (next level depth : ℕ) (l : List State) → Exploring (ground_process g) (ground_starts g) most next level depth l
      → (s : State) → next < length l → slice_index_or l next s ≡ s → length s ≡ words_for (length g.atoms)
  listed_has_length is next level depth l e s within at = near_has_length g is (suc depth) s (e.within s (next, within, at))

  pub listed_is_short : IsGroundProblem g → (next level depth : ℕ) (l : List State) → Exploring (ground_process g) (ground_starts g) most next level depth l
      → (s : State) → next < length l → slice_index_or l next s ≡ s → length s ≤ 16
  listed_is_short is next level depth l e s within at = near_is_short g is (suc depth) s (e.within s (next, within, at))
