-- What is said of a certificate that a name holds: that it is balanced, or what stops the run.
use Rattle.std.proofs.Common.{◌≡◌, ℕ, ◌⊎◌, inl, inr, List, refl, sym, ap, ◌∙◌, subst, Option, Some, None, Result, Ok, Err}
use Rattle.shelf_io.specs.Shelf.{Told, Holds}
use Rattle.certificate.specs.Content.{Content}
use Rattle.certificate.specs.Laws.{TextsAreRead}
use Rattle.certificate.specs.Reading.{read_of}
use Rattle.certificate.specs.declared.refusal.CertRefusal.{CertRefusal}
use Rattle.certificate.specs.declared.refusal.CertRefusal.TheVariants as refusal
use Rattle.certificate_check.specs.declared.verdict.Verdict.{Verdict}
use Rattle.certificate_check.specs.declared.verdict.Verdict.TheVariants.{Accepted, Penalty, UnknownAtom, Act, Lower, Upper, Ends}
use Rattle.certificate_check.specs.Codes.{number_of, row_of}
use Rattle.certificate_check.specs.Claims.{IsBalancedFor}
use Rattle.certificate_check.specs.Laws.{AcceptedIsBalanced}
use Rattle.certificate_check.specs.Verdicts.{IsVerdict}
use Rattle.ground_model.specs.Ground.{Ground}
use Rattle.plan_request.specs.declared.stop.Stop.{Stop}
use Rattle.plan_request.specs.declared.stop.Stop.TheVariants.{BadWords, ReadFailed, WriteFailed, NoMemory, Refused, NotAccepted, SecondNotAccepted, Limit}
use Rattle.plan_request.specs.stop.Stop.{status_of, stop_of_certificate}
use Rattle.plan_sources.specs.Problems.{stopped}
use Rattle.plan_sources.specs.Sources.{certificate_in}
use Rattle.plan_sources.proofs.Telling.{told_held}
use Rattle.plan_app.specs.Judging.{accepted_by, IsJudgedAs, IsJudged}
use Rattle.plan_app.specs.Verdicts.{IsDecoded}

-- ---- what stops a run at a certificate, or at the second of two

abbrev pub IsOfCertificate : Stop → Type 0
IsOfCertificate (NotAccepted code row) = Unit {0}
IsOfCertificate (SecondNotAccepted code row) = Unit {0}
IsOfCertificate NoMemory = Unit {0}
IsOfCertificate (Refused code file line) = ⊥
IsOfCertificate (Limit code most) = ⊥
IsOfCertificate BadWords = ⊥
IsOfCertificate ReadFailed = ⊥
IsOfCertificate WriteFailed = ⊥

refusal_stops : (e : CertRefusal) → IsOfCertificate (stop_of_certificate e)
refusal_stops (refusal.Syntax line) = tt
refusal_stops (refusal.Order line) = tt
refusal_stops (refusal.Count line) = tt
refusal_stops refusal.TooLong = tt
refusal_stops (refusal.Unused line) = tt
refusal_stops refusal.Memory = tt

read_stops : (r : Result Content CertRefusal) (stop : Stop) → stopped stop_of_certificate r ≡ Err stop → IsOfCertificate stop
read_stops (Ok c) stop is = absurd (cc is)
read_stops (Err e) stop is = let same : stop_of_certificate e ≡ stop = cc is in subst IsOfCertificate same (refusal_stops e)

verdict_stops : (c : Content) (row : ℕ) (o : Option ℕ) (stop : Stop) → accepted_by c row o ≡ Err stop → IsOfCertificate stop
verdict_stops c row None stop is = absurd (cc is)
verdict_stops c row (Some code) stop is = let same : NotAccepted code row ≡ stop = cc is in subst IsOfCertificate same tt

judged_as_stops : (g : Ground) (read : Result Content Stop) (bytes : List ℕ) → certificate_in bytes ≡ read → (stop : Stop)
    → IsJudgedAs g read (Err stop) → IsOfCertificate stop
judged_as_stops g (Ok c) bytes is stop (v, so, says) = verdict_stops c (row_of v) (number_of v) stop says
judged_as_stops g (Err e) bytes is stop says = read_stops (read_of bytes) stop (is ∙ says)

pub judged_stops : (g : Ground) (told : Told) (stop : Stop) → IsJudged g told (Err stop) → IsOfCertificate stop
judged_stops g told stop (read, (bytes, holds, is), judged) = judged_as_stops g read bytes is stop judged

-- ---- what is so of the bytes

read_so : (r : Result Content CertRefusal) (c : Content) → stopped stop_of_certificate r ≡ Ok c → r ≡ Ok c
read_so (Ok d) c is = let same : d ≡ c = cc is in ap Ok same
read_so (Err e) c is = absurd (cc is)

accepted_number : (v : Verdict) → number_of v ≡ None → v ≡ Accepted
accepted_number Accepted is = refl
accepted_number Penalty is = absurd (cc is)
accepted_number Ends is = absurd (cc is)
accepted_number (UnknownAtom row) is = absurd (cc is)
accepted_number (Act row) is = absurd (cc is)
accepted_number (Lower row) is = absurd (cc is)
accepted_number (Upper row) is = absurd (cc is)

module _ (law : TextsAreRead) (f : List ℕ) where
  decoded_read : (c : Content) → IsDecoded f c → read_of f ≡ Ok c
  decoded_read c is = (law f c).1 (is.text, is.within)

  read_decoded : (c : Content) → read_of f ≡ Ok c → IsDecoded f c
  read_decoded c read = record { text = ((law f c).0 read).0; within = ((law f c).0 read).1 }

  -- bytes are the text of one certificate
  pub one_decoded : (c d : Content) → IsDecoded f c → IsDecoded f d → c ≡ d
  one_decoded c d is other = cc (decoded_read c is, decoded_read d other)

  module _ (g : Ground) where
    abbrev pub IsNone : Type 0
    IsNone = (c : Content) → IsDecoded f c → IsBalancedFor g c → ⊥

    -- what is so of bytes of which this is said
    abbrev pub IsSoOf : Result Content Stop → Type 0
    IsSoOf (Ok c) = IsDecoded f c × IsBalancedFor g c
    IsSoOf (Err (NotAccepted code row)) = IsNone
    IsSoOf (Err (SecondNotAccepted code row)) = IsNone
    IsSoOf (Err NoMemory) = Unit {0}
    IsSoOf (Err (Refused code file line)) = ⊥
    IsSoOf (Err (Limit code most)) = ⊥
    IsSoOf (Err BadWords) = ⊥
    IsSoOf (Err ReadFailed) = ⊥
    IsSoOf (Err WriteFailed) = ⊥

    unread_so : (stop : Stop) → certificate_in f ≡ Err stop → IsOfCertificate stop → IsSoOf (Err stop)
    unread_so (NotAccepted code row) unread so = λ d other balanced. cc (unread, ap (stopped stop_of_certificate) (decoded_read d other))
    unread_so (SecondNotAccepted code row) unread so = λ d other balanced. cc (unread, ap (stopped stop_of_certificate) (decoded_read d other))
    unread_so NoMemory unread so = tt
    unread_so (Refused code file line) unread so = absurd so
    unread_so (Limit code most) unread so = absurd so
    unread_so BadWords unread so = absurd so
    unread_so ReadFailed unread so = absurd so
    unread_so WriteFailed unread so = absurd so

    module _ (balance : AcceptedIsBalanced) where
      verdict_so : (c : Content) → read_of f ≡ Ok c → (v : Verdict) → IsVerdict g c v → (o : Option ℕ) → number_of v ≡ o
          → IsSoOf (accepted_by c (row_of v) o)
      verdict_so c read v is None none =
          let decoded : IsDecoded f c = read_decoded c read in
          (decoded, (balance g c decoded.text.0 v is).0 (accepted_number v none))
      verdict_so c read v is (Some code) some = λ d other balanced.
          let decoded : IsDecoded f c = read_decoded c read in
          let balanced_too : IsBalancedFor g c = subst (λ (x : Content). IsBalancedFor g x) (one_decoded d c other decoded) balanced in
          cc (some, ap number_of ((balance g c decoded.text.0 v is).1 balanced_too))

      judged_as_so : (read : Result Content Stop) → certificate_in f ≡ read → (r : Result Content Stop) → IsJudgedAs g read r → IsSoOf r
      judged_as_so (Ok c) is r (v, so, says) = subst IsSoOf says (verdict_so c (read_so (read_of f) c is) v so (number_of v) refl)
      judged_as_so (Err stop) is r says = subst IsSoOf says (unread_so stop is (read_stops (read_of f) stop is))

      pub judged_so : (told : Told) → told ≡ Holds f → (r : Result Content Stop) → IsJudged g told r → IsSoOf r
      judged_so told also r (read, (bytes, holds, is), judged) =
          judged_as_so read (ap certificate_in (sym (told_held told f bytes also holds)) ∙ is) r judged

pub judged_balanced : TextsAreRead → AcceptedIsBalanced → (g : Ground) (told : Told) (c : Content) → IsJudged g told (Ok c) → IsBalancedFor g c
judged_balanced law balance g told c (read, (bytes, holds, is), judged) = (judged_as_so law bytes g balance read is (Ok c) judged).1

pub certificate_status : (stop : Stop) → IsOfCertificate stop → (status_of stop ≡ 7) ⊎ (status_of stop ≡ 5)
certificate_status (NotAccepted code row) is = inl refl
certificate_status (SecondNotAccepted code row) is = inl refl
certificate_status NoMemory is = inr refl
certificate_status (Refused code file line) is = absurd is
certificate_status (Limit code most) is = absurd is
certificate_status BadWords is = absurd is
certificate_status ReadFailed is = absurd is
certificate_status WriteFailed is = absurd is
