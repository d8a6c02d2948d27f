-- What a shelf may hold of a request.
--     MayBeSecond, LacksSecond held name
--                               this is the second text, if any; it is missing
--     MayBeTexts held s t       these are the texts; of the second one nothing is said behind a first one that is too long
--     LacksText held s          a text is missing where it is asked for, the second one behind a short first one
--     MayGiveSecond, MayGiveTexts, MayGiveProblem held .. result
--                               the result is what these texts give
--     certificate_in bytes      the certificate of these bytes, or what stops a run
use Rattle.std.specs.Prelude.{◌≡◌, ◌≤◌, ◌⊎◌, ℕ, List, length, Option, Some, None, Result}
use Rattle.shelf_io.specs.Shelf.{Told, Missing, MayHold}
use Rattle.certificate.specs.Content.{Content}
use Rattle.certificate.specs.Reading.{read_of}
use Rattle.ppddl_lex.specs.declared.lexer.TheConstants.{MOST_TEXT}
use Rattle.ground_model.specs.Ground.{Ground}
use Rattle.plan_request.specs.Asked.{Sources}
use Rattle.plan_request.specs.declared.stop.Stop.{Stop}
use Rattle.plan_request.specs.stop.Stop.{stop_of_certificate}
use Rattle.plan_sources.specs.declared.texts.Texts.{Texts}
use Rattle.plan_sources.specs.Problems.{stopped, second_within, texts_within, problem_of}

module _ (held : List ℕ → Told) where
  -- ---- the second text, if a request names one

  abbrev pub MayBeSecond : Option (List ℕ) → Option (List ℕ) → Type 0
  MayBeSecond None second = second ≡ None
  MayBeSecond (Some name) second = (text : List ℕ) × MayHold (held name) text × (second ≡ Some text)

  abbrev pub LacksSecond : Option (List ℕ) → Type 0
  LacksSecond None = ⊥
  LacksSecond (Some name) = held name ≡ Missing

  abbrev pub MayGiveSecond : Option (List ℕ) → Result (Option (List ℕ)) Stop → Type 0
  MayGiveSecond name result = (second : Option (List ℕ)) × MayBeSecond name second × (second_within second ≡ result)

  -- ---- all texts

  pub record MayBeTexts (s : Sources) (t : Texts) : Type 0 where
    pub first : MayHold (held s.domain) t.first
    pub second : length t.first ≤ MOST_TEXT → MayBeSecond s.problem t.second

  abbrev pub IsShortAt : List ℕ → Type 0
  IsShortAt name = (text : List ℕ) × MayHold (held name) text × (length text ≤ MOST_TEXT)

  abbrev pub LacksText : Sources → Type 0
  LacksText s = (held s.domain ≡ Missing) ⊎ (IsShortAt s.domain × LacksSecond s.problem)

  abbrev pub MayGiveTexts : Sources → Result Texts Stop → Type 0
  MayGiveTexts s result = (t : Texts) × MayBeTexts s t × (texts_within t ≡ result)

  abbrev pub MayGiveProblem : Sources → Result Ground Stop → Type 0
  MayGiveProblem s result = (t : Texts) × MayBeTexts s t × (problem_of s t ≡ result)

abbrev pub certificate_in : List ℕ → Result Content Stop
certificate_in bytes = stopped stop_of_certificate (read_of bytes)
