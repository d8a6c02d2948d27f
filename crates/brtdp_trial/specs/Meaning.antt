-- What contracts see of bounds: steps with the intervals that were read of them, what a backup answered, and where the
-- bounds tell them beforehand, their numbers. Trials are those of BRTDP (McMahan, Likhachev and Gordon 2005).
--     width s, spread s        upper less lower number of a step; weight times width
--     weights_of, spreads      of several steps
--     IsInterval s             the lower number is at most the upper one, and that at most 10^14
--     is_new s                 the lower number is 0 and the upper one is not: no backup of the state that the step leads to has
--                              raised the lower number yet
--     HasId s                  the step leads to a state that has an id
--     UnplacedOnlyWhere p s    that state has none only where p holds
--     LeadsToKnown knows s     the id that the step leads to, if any, is known
--     Last                     what the last backup answered, with the choices as they were read
--     IsAnswerOf l b           b is the answer
--     AreChoices l             the choices have intervals and positive weights, which sum to the denominator
--     Told S                   numbers told beforehand by bounds of type S: whether they tell them, the starts, what a
--                              backup of an id answers, and the bounds after it
use Rattle.std.specs.Prelude.{◌≡◌, ℕ, ◌-◌, ◌*◌, ◌^◌, ◌<◌, ◌≤◌, ◌==◌, nat_lt, Bool, ◌&&◌}
use Rattle.std.specs.Prelude.{Some, None, List, length, sum, map, All}
use Rattle.brtdp_trial.specs.declared.step.Step.{Step}
use Rattle.brtdp_trial.specs.declared.step.Backed.{Backed}

abbrev pub width : Step → ℕ
width s = s.upper - s.lower

abbrev pub spread : Step → ℕ
spread s = s.weight * width s

abbrev pub spreads : List Step → List ℕ
spreads = map spread

abbrev pub weights_of : List Step → List ℕ
weights_of = map (λ s. s.weight)

pub record IsInterval (s : Step) : Type 0 where
  pub ordered : s.lower ≤ s.upper
  pub bounded : s.upper ≤ 10 ^ 14

abbrev pub is_new : Step → Bool
is_new s = (s.lower == 0) && nat_lt 0 s.upper

abbrev pub HasId : Step → Type 0
HasId s = (id : ℕ) × (s.id ≡ Some id)

abbrev pub UnplacedOnlyWhere : Type 0 → Step → Type 0
UnplacedOnlyWhere p s = s.id ≡ None → p

abbrev pub LeadsToKnown : (ℕ → Type 0) → Step → Type 0
LeadsToKnown knows s = (id : ℕ) → s.id ≡ Some id → knows id

pub record Last : Type 0 where
  pub code : ℕ
  pub den : ℕ
  pub steps : List Step

pub record IsAnswerOf (l : Last) (b : Backed) : Type 0 where
  pub code : b.code ≡ l.code
  pub den : b.den ≡ l.den
  pub count : b.count ≡ length l.steps

pub record AreChoices (l : Last) : Type 0 where
  pub positive : All (λ w. 0 < w) (weights_of l.steps)
  pub whole : 0 < length l.steps → sum (weights_of l.steps) ≡ l.den
  pub den_bounded : l.den ≤ 10 ^ 18
  pub intervals : All IsInterval l.steps

pub record Told (S : Type 0) : Type 0 where
  pub tells : S → Bool
  pub starts : S → List Step
  pub backed : S → ℕ → Last
  pub after : S → ℕ → S
