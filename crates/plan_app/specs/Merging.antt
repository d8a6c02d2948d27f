-- Two certificates of one ground problem, and what is said of them as one.
--     second_stop stop            what stops a run at the second certificate
--     IsPair g told told' r       the certificates under two names, both balanced for the problem, or what stops the run; the second
--                                 name is looked at behind a first one that is accepted
--     LacksOne g told told'       a name of these is missing where it is looked at
--     IsLongMerge g c d           the text of the merged certificate is above its greatest length
--     IsAboveLimit g c d stop     the merged one has more than MOST_COUNT rows; or it has not, and its text is above its limit
--     IsMergeAnswer g c d a       what is written and put of the merged certificate
-- Source: sub- and super-solutions of the Bellman equation (decision_process, cert_merge).
use Rattle.std.specs.Prelude.{◌≡◌, ◌⊎◌, ◌<◌, ◌≤◌, length, true, Result, Ok, Err}
use Rattle.shelf_io.specs.Shelf.{Told, Missing}
use Rattle.certificate.specs.declared.limits.TheConstants.{MOST_COUNT}
use Rattle.certificate.specs.Content.{Content, text_of, most_bytes}
use Rattle.ground_model.specs.Ground.{Ground}
use Rattle.cert_merge.specs.Merged.{HasMoreStates, IsMergeOf}
use Rattle.plan_request.specs.declared.stop.Stop.{Stop}
use Rattle.plan_request.specs.declared.stop.Stop.TheVariants.{BadWords, ReadFailed, WriteFailed, NoMemory, Refused, NotAccepted, SecondNotAccepted, Limit}
use Rattle.plan_report.specs.Reports.{merged_text}
use Rattle.plan_search.specs.declared.answer.Answer.{Answer}
use Rattle.plan_app.specs.declared.pair.Pair.{Pair}
use Rattle.plan_app.specs.Judging.{IsJudged}

-- ---- both certificates

abbrev pub second_stop : Stop → Stop
second_stop (NotAccepted code row) = SecondNotAccepted code row
second_stop (SecondNotAccepted code row) = SecondNotAccepted code row
second_stop (Refused code file line) = Refused code file line
second_stop (Limit code most) = Limit code most
second_stop BadWords = BadWords
second_stop ReadFailed = ReadFailed
second_stop WriteFailed = WriteFailed
second_stop NoMemory = NoMemory

abbrev pub pair : Content → Content → Pair
pair c d = record { first = c; second = d }

abbrev pub paired : Content → Result Content Stop → Result Pair Stop
paired c (Ok d) = Ok (pair c d)
paired c (Err stop) = Err (second_stop stop)

module _ (g : Ground) (told told' : Told) where
  abbrev pub IsPairBehind : Result Content Stop → Result Pair Stop → Type 0
  IsPairBehind (Ok c) r = (second : Result Content Stop) × IsJudged g told' second × (paired c second ≡ r)
  IsPairBehind (Err stop) r = Err stop ≡ r

  abbrev pub IsPair : Result Pair Stop → Type 0
  IsPair r = (first : Result Content Stop) × IsJudged g told first × IsPairBehind first r

  abbrev pub LacksOne : Type 0
  LacksOne = (told ≡ Missing) ⊎ ((c : Content) × IsJudged g told (Ok c) × (told' ≡ Missing))

-- ---- the merged one

module _ (g : Ground) (c d : Content) where
  pub record IsLongMerge : Type 0 where
    pub content : Content
    pub merged : IsMergeOf g c d content
    pub long : most_bytes 2 < length (text_of content)

  abbrev pub IsAboveLimit : Stop → Type 0
  IsAboveLimit stop = ((stop ≡ Limit 41 1000000) × HasMoreStates MOST_COUNT g c d) ⊎ ((stop ≡ Limit 33 268435456) × IsLongMerge)

  pub record IsMergeAnswer (a : Answer) : Type 0 where
    pub content : Content
    pub merged : IsMergeOf g c d content
    pub few : HasMoreStates MOST_COUNT g c d → ⊥
    pub text : a.certificate ≡ text_of content
    pub short : length a.certificate ≤ most_bytes 2
    pub report : a.report ≡ merged_text content
    pub converged : a.converged ≡ true
