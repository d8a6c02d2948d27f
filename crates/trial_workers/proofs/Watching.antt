-- What a watcher is told of, one reading after another.
use Rattle.std.proofs.Common.{◌≡◌, ◌∙◌, ℕ, zero, suc, ◌+◌, ◌<◌, ◌≤◌, Option, List, [], ◌∷◌, ◌++◌, get_or, refl, sym, subst, arith, inl, inr}
use Rattle.std.specs.Prelude.{All, AllPairs}
use Rattle.std.proofs.lemmas.Bool.{cases_lt}
use Rattle.std.proofs.lemmas.List.Elements.{All-append, Contains-append_right}
use Rattle.std.proofs.lemmas.List.Quantifiers.{all_pairs_push}
use Rattle.ground_model.specs.Ground.{Ground}
use Rattle.trial_workers.specs.declared.effort.Effort.{Effort}
use Rattle.trial_workers.specs.declared.effort.Solved.{Solved}
use Rattle.trial_workers.specs.declared.reading.Reading.{Reading}
use Rattle.trial_workers.specs.Effort.{IsWithinPlain}
use Rattle.trial_workers.specs.Watching.{IsEnd, MayTell, HasBeenTold, Encloses, IsBefore, IsToldOf, OneIsOf, AreTold}

told_again : {W : Type 0} (tells : W → Reading → W → Type 0) (rs : List Reading) (r : Reading) (a b c : W) → HasBeenTold tells rs a b → tells b r c
    → HasBeenTold tells (rs ++ r ∷ []) a c
told_again tells [] r a b c been told = (c, subst (λ w. tells w r c) been told, refl)
told_again tells (s ∷ rs) r a b c been told = (been.0, been.1, told_again tells rs r been.0 b c been.2 told)

encloses_again : (s t u : Solved) → Encloses s t → Encloses t u → Encloses s u
encloses_again s t u first second = record {
  lower = (let a = first.lower in let b = second.lower in omega arith);
  upper = (let a = first.upper in let b = second.upper in omega arith);
}

one_has : {X : Type 0} (P : X → Type 0) (x : X) → P x → All P (x ∷ [])
one_has P x has zero e below = has
one_has P x has (suc k) e below = absurd (omega arith)

-- after some rounds
pub record Telling (g : Ground) (ids : ℕ) (depth : Option ℕ) (e : Effort) (s : Solved) (rs : List Reading) : Type 0 where
  pub rising : AllPairs IsBefore rs
  pub each : All (IsToldOf g ids depth s) rs
  pub last : 0 < s.rounds → IsEnd e s → OneIsOf s.rounds rs

module _ (g : Ground) (ids : ℕ) (depth : Option ℕ) where
  still_told_of : (s t : Solved) → s.rounds ≤ t.rounds → Encloses s t → (r : Reading) → IsToldOf g ids depth s r → IsToldOf g ids depth t r
  still_told_of s t later encloses r told = record {
    some = told.some;
    made = (let made = told.made in omega arith);
    encloses = encloses_again r.solved s t told.encloses encloses;
    plain = told.plain;
    few = told.few;
  }

  still_each : (s t : Solved) → s.rounds ≤ t.rounds → Encloses s t → (rs : List Reading) → All (IsToldOf g ids depth s) rs → All (IsToldOf g ids depth t) rs
  still_each s t later encloses rs each = λ k e below. still_told_of s t later encloses (get_or rs k e) (each k e below)

  -- what was told of an answer was told of a narrower one with as many rounds, where there are more ids
  pub still_told : (more : ℕ) → ids ≤ more → (s t : Solved) → t.rounds ≡ s.rounds → Encloses s t → (rs : List Reading) → AreTold g ids depth s rs
      → AreTold g more depth t rs
  still_told more within s t same encloses rs told = record {
    rising = told.rising;
    each = λ k e below.
        let one = still_each s t (let e = same in omega arith) encloses rs told.each k e below in record {
          some = one.some;
          made = one.made;
          encloses = one.encloses;
          plain = one.plain;
          few = (let few = one.few in omega arith);
        };
    last = λ some. let one = told.last (let e = same in omega arith) in (one.0, one.1, one.2 ∙ sym same);
  }

  pub none_told : (e : Effort) (s : Solved) → s.rounds ≡ 0 → Telling g ids depth e s []
  none_told e s none = record {
    rising = λ i j d before below. absurd (omega arith);
    each = λ k d below. absurd (omega arith);
    last = λ some. absurd (omega arith);
  }

  pub ended_telling : (e : Effort) (s : Solved) (rs : List Reading) → IsEnd e s → Telling g ids depth e s rs → AreTold g ids depth s rs
  ended_telling e s rs end so = record { rising = so.rising; each = so.each; last = λ some. so.last some end }

  module _ {W : Type 0} (tells : W → Reading → W → Type 0) (e : Effort) (s : Solved) (r : Reading) (next : r.solved.rounds ≡ s.rounds + 1) (encloses : Encloses s r.solved)
      (plain : IsWithinPlain g depth r.solved) (few : r.states ≤ ids) where
    own : IsToldOf g ids depth r.solved r
    own = record { some = omega arith; made = omega arith; encloses = record { lower = omega arith; upper = omega arith }; plain = plain; few = few }

    pub telling_goes_on : (a b c : W) (rs : List Reading) → HasBeenTold tells rs a b → Telling g ids depth e s rs → MayTell tells e r b c
        → (ts : List Reading) × HasBeenTold tells ts a c × Telling g ids depth e r.solved ts
    telling_goes_on a b c rs been so may = elim may [
      | inl told ↦ (
        rs ++ r ∷ [],
        told_again tells rs r a b c been told,
        record {
          rising = all_pairs_push IsBefore rs r so.rising (λ k d below. let t = so.each k d below in record {
            rounds = (let made = t.made in omega arith);
            encloses = encloses_again (get_or rs k d).solved s r.solved t.encloses encloses;
          });
          each = All-append (IsToldOf g ids depth r.solved) rs (r ∷ []) (still_each s r.solved (omega arith) encloses rs so.each) (one_has (IsToldOf g ids depth r.solved) r own);
          last = λ some end. (r, Contains-append_right rs (r ∷ []) r (0, omega arith, refl), refl);
        },
      )
      | inr kept ↦ (
        rs,
        subst (λ w. HasBeenTold tells rs a w) (sym kept.0) been,
        record {
          rising = so.rising;
          each = still_each s r.solved (omega arith) encloses rs so.each;
          last = λ some end. absurd (kept.1 end);
        },
      )
    ]

-- where rounds do not end there are some left
pub rounds_left : (e : Effort) (s : Solved) → (IsEnd e s → ⊥) → s.rounds < e.rounds
rounds_left e s goes_on = elim (cases_lt s.rounds e.rounds) [
  | inl left ↦ left
  | inr all ↦ absurd (goes_on (inl all))
]
