-- What `merge` says of two certificates, where a shelf tells what it holds.
--     TellsMerge words held m t f f'
--                              the words ask to merge the certificates of these bytes over the texts t, all of which the shelf tells; and
--                              something is told of the name under which the merged one goes
--     AreMerged s t f f'       the bytes are the texts of certificates that are balanced for the ground problem of the texts, and the text
--                              of the merged one is within its limit
--     IsMerged s t f f'        so they are, and at most MOST_COUNT states have a row in either
--     IsUnmerged s t f f'      the first is not accepted; or it is, and the second is not
--     PutsMerged s t f f' now old new
--                              the merged certificate is held now, where it is accepted, and its report was put: it encloses the cost
--                              of the task, its policy ends, and its interval lies in both
-- Source: sub- and super-solutions of the Bellman equation (decision_process, cert_merge).
use Rattle.std.specs.Prelude.{◌≡◌, ◌≢◌, ◌⊎◌, ℕ, List, Option, Ok}
use Rattle.std.specs.Borrow.{Bor}
use Rattle.std.specs.Io.KnownBytes.{Appends}
use Rattle.shelf_io.specs.Shelf.{Told, Untold, Holds}
use Rattle.certificate.specs.declared.limits.TheConstants.{MOST_COUNT}
use Rattle.certificate.specs.Content.{Content, text_of}
use Rattle.certificate_check.specs.Claims.{IsBalancedFor}
use Rattle.decision_process.specs.Enclosing.{Encloses}
use Rattle.decision_process.specs.Readings.{act, IsBalancedCertificate}
use Rattle.ppddl_model.specs.State.{same_state}
use Rattle.ppddl_model.specs.Steps.{process, starts, start_den}
use Rattle.ground_model.specs.Ground.{Ground}
use Rattle.cert_merge.specs.Laws.{LiesIn}
use Rattle.cert_merge.specs.Merged.{HasMoreStates, IsMergeOf}
use Rattle.plan_request.specs.Asked.{Sources, Merging, to_merge}
use Rattle.plan_report.specs.Reports.{merged_text}
use Rattle.plan_sources.specs.declared.texts.Texts.{Texts}
use Rattle.plan_sources.specs.Problems.{problem_of}
use Rattle.plan_sources.specs.Laws.{HoldsTexts, StandsForTexts}
use Rattle.plan_app.specs.certificates.Named.{names_certificate}
use Rattle.plan_app.specs.Asking.{Asks}
use Rattle.plan_app.specs.Verdicts.{IsDecoded, IsAccepted, IsRejected, PolicyEnds}

pub record TellsMerge (words : List (Bor (List ℕ))) (held : List ℕ → Told) (m : Merging) (t : Texts) (f f' : List ℕ) : Type 0 where
  pub asks : Asks words (to_merge m)
  pub texts : HoldsTexts held m.sources t
  pub first : held m.first ≡ Holds f
  pub second : held m.second ≡ Holds f'
  pub into : held m.into ≢ Untold

module _ (s : Sources) (t : Texts) (f f' : List ℕ) where
  -- two certificates of the ground problem of the texts, and the merged one
  pub record AreMerged : Type 0 where
    pub g : Ground
    pub first : Content
    pub second : Content
    pub merged : Content
    pub problem : problem_of s t ≡ Ok g
    pub first_decoded : IsDecoded f first
    pub second_decoded : IsDecoded f' second
    pub first_balanced : IsBalancedFor g first
    pub second_balanced : IsBalancedFor g second
    pub is_merge : IsMergeOf g first second merged
    pub merged_decoded : IsDecoded (text_of merged) merged

  pub record IsMerged : Type 0 where
    pub are : AreMerged
    pub few : HasMoreStates MOST_COUNT are.g are.first are.second → ⊥

  abbrev pub IsUnmerged : Type 0
  IsUnmerged = IsRejected s t f ⊎ (IsAccepted s t f × IsRejected s t f')

  pub record PutsMerged (now : Told) (old new : Option (List ℕ)) : Type 0 where
    pub are : AreMerged
    pub holds : now ≡ Holds (text_of are.merged)
    pub accepted : IsAccepted s t (text_of are.merged)
    pub put : Appends old new (merged_text are.merged)
    pub in_first : LiesIn are.merged.lower are.merged.upper are.first.lower are.first.upper
    pub in_second : LiesIn are.merged.lower are.merged.upper are.second.lower are.second.upper
    -- of the task
    pub of_task : StandsForTexts s t are.g
    pub balanced : IsBalancedCertificate (process of_task.task of_task.charges) same_state
        (starts of_task.task) (start_den of_task.task) (names_certificate of_task.task are.merged)
    pub encloses : Encloses (process of_task.task of_task.charges) (starts of_task.task) (start_den of_task.task)
        are.merged.lower are.merged.upper (act same_state (names_certificate of_task.task are.merged).rows)
    pub ends : PolicyEnds of_task.task of_task.charges are.merged
