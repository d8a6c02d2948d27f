-- From two certificates, each judged, to the pair of them, or to what stops the run at either; and back.
use Rattle.std.proofs.Common.{◌≡◌, ℕ, ◌≤◌, inl, inr, List, refl, subst, arith, Result, Ok, Err}
use Rattle.shelf_io.specs.Shelf.{Told, Missing}
use Rattle.certificate.specs.Content.{Content}
use Rattle.ground_model.specs.Ground.{Ground}
use Rattle.plan_request.specs.declared.stop.Stop.{Stop}
use Rattle.plan_request.specs.declared.stop.Stop.TheVariants.{BadWords, ReadFailed, WriteFailed, NoMemory, Refused, NotAccepted, SecondNotAccepted, Limit}
use Rattle.plan_sources.specs.Endings.{MayEnd, IsFault}
use Rattle.plan_sources.proofs.Taking.{stops_whole, fault_since, fault_before}
use Rattle.plan_app.specs.declared.pair.Pair.{Pair}
use Rattle.plan_app.specs.Judging.{IsJudged}
use Rattle.plan_app.specs.Merging.{second_stop, pair, paired, IsPairBehind, IsPair, LacksOne}
use Rattle.plan_app.proofs.Judged.{IsOfCertificate, judged_stops}

module _ {S : Type 0} (held : S → List ℕ → Told) (reads : S → ℕ) (old mid : S) (g : Ground) (first second : List ℕ) where
  abbrev Lacks : Type 0
  Lacks = LacksOne g (held old first) (held old second)

  abbrev Pairs : Result Pair Stop → Type 0
  Pairs = IsPair g (held old first) (held old second)

  pub first_stops : (e : Stop) → MayEnd (IsFault reads old mid (held old first ≡ Missing)) (IsJudged g (held old first)) (Err e)
      → MayEnd (IsFault reads old mid Lacks) Pairs (Err e)
  first_stops e ends =
      stops_whole (IsFault reads old mid (held old first ≡ Missing)) (IsFault reads old mid Lacks) (IsJudged g (held old first)) Pairs
      (fault_before reads old mid mid (held old first ≡ Missing) Lacks (omega arith) inl) (λ stop judged. (Err stop, judged, refl)) e ends

  module _ (same : held mid ≡ held old) (c : Content) (judged : IsJudged g (held old first) (Ok c)) where
    pub behind_first : (r : Result Content Stop) → IsJudged g (held mid second) r → Pairs (paired c r)
    behind_first r also = (Ok c, judged, (r, subst (λ (h : List ℕ → Told). IsJudged g (h second) r) same also, refl))

    lacks_second : held mid second ≡ Missing → Lacks
    lacks_second missing = inr (c, judged, subst (λ (h : List ℕ → Told). h second ≡ Missing) same missing)

    pub second_stops : (new : S) → reads old ≤ reads mid → (e : Stop)
        → MayEnd (IsFault reads mid new (held mid second ≡ Missing)) (IsJudged g (held mid second)) (Err e)
        → MayEnd (IsFault reads old new Lacks) Pairs (Err (second_stop e))
    second_stops new later NoMemory ends = tt
    second_stops new later ReadFailed ends = fault_since reads old mid new (held mid second ≡ Missing) Lacks later lacks_second ends
    second_stops new later BadWords ends = behind_first (Err BadWords) ends
    second_stops new later WriteFailed ends = behind_first (Err WriteFailed) ends
    second_stops new later (Refused code file line) ends = behind_first (Err (Refused code file line)) ends
    second_stops new later (NotAccepted code row) ends = behind_first (Err (NotAccepted code row)) ends
    second_stops new later (SecondNotAccepted code row) ends = behind_first (Err (SecondNotAccepted code row)) ends
    second_stops new later (Limit code most) ends = behind_first (Err (Limit code most)) ends

-- ---- back

second_of_certificate : (stop : Stop) → IsOfCertificate stop → IsOfCertificate (second_stop stop)
second_of_certificate (NotAccepted code row) is = tt
second_of_certificate (SecondNotAccepted code row) is = tt
second_of_certificate NoMemory is = tt
second_of_certificate (Refused code file line) is = absurd is
second_of_certificate (Limit code most) is = absurd is
second_of_certificate BadWords is = absurd is
second_of_certificate ReadFailed is = absurd is
second_of_certificate WriteFailed is = absurd is

module _ (g : Ground) (told told' : Told) where
  abbrev Judged : Content → Content → Type 0
  Judged c d = IsJudged g told (Ok c) × IsJudged g told' (Ok d)

  behind_judged : (c : Content) → IsJudged g told (Ok c) → (second : Result Content Stop) → IsJudged g told' second → (p : Pair)
      → paired c second ≡ Ok p → Judged p.first p.second
  behind_judged c judged (Ok d) also p is =
      let same : pair c d ≡ p = cc is in
      subst (λ (x : Pair). Judged x.first x.second) same (judged, also)
  behind_judged c judged (Err stop) also p is = absurd (cc is)

  pair_judged_by : (first : Result Content Stop) → IsJudged g told first → (p : Pair) → IsPairBehind g told told' first (Ok p) → Judged p.first p.second
  pair_judged_by (Ok c) judged p (second, also, is) = behind_judged c judged second also p is
  pair_judged_by (Err stop) judged p is = absurd (cc is)

  pub pair_judged : (p : Pair) → IsPair g told told' (Ok p) → Judged p.first p.second
  pair_judged p (first, judged, behind) = pair_judged_by first judged p behind

  behind_stops : (c : Content) (second : Result Content Stop) → IsJudged g told' second → (stop : Stop) → paired c second ≡ Err stop
      → IsOfCertificate stop
  behind_stops c (Ok d) also stop is = absurd (cc is)
  behind_stops c (Err e) also stop is =
      let same : second_stop e ≡ stop = cc is in
      subst IsOfCertificate same (second_of_certificate e (judged_stops g told' e also))

  pair_stops_by : (first : Result Content Stop) → IsJudged g told first → (stop : Stop) → IsPairBehind g told told' first (Err stop)
      → IsOfCertificate stop
  pair_stops_by (Ok c) judged stop (second, also, is) = behind_stops c second also stop is
  pair_stops_by (Err e) judged stop is =
      let same : e ≡ stop = cc is in
      subst IsOfCertificate same (judged_stops g told e judged)

  pub pair_stops : (stop : Stop) → IsPair g told told' (Err stop) → IsOfCertificate stop
  pair_stops stop (first, judged, behind) = pair_stops_by first judged stop behind
