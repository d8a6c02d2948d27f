-- The stop of an ending whose status has a reason.
use Rattle.std.proofs.Common.{◌≡◌, ◌≢◌, ℕ, List, Option, Some, Ok, Err, inl, inr, refl, sym, ap, ◌∙◌, Bool, false, true≢false, IsTrue, Result, arith, subst}
use Rattle.std.specs.Prelude.{OnOk, OnErr}
use Rattle.shelf_io.specs.Causes.{Rose, HasCause, one_more}
use Rattle.shelf_io.specs.Streams.{PutsPrefix}
use Rattle.std.specs.Io.KnownBytes.{Appends}
use Rattle.plan_request.specs.stop.Stop.{Ending, ending_status, ending_text, status_of, line_of}
use Rattle.plan_request.specs.declared.stop.Stop.{Stop}
use Rattle.plan_request.specs.declared.stop.report.Report.TheVariants.{Done, GapLeft}
use Rattle.plan_request.specs.declared.stop.status.TheConstants.{WRITE_FAILED}
use Rattle.plan_app.specs.Putting.{IsSaid, SaysPut}
use Rattle.plan_app.specs.Reasons.{HasReason, PutsAtMost, stop_in}

pub record HasStop (ending : Ending) (status : ℕ) (old new : Option (List ℕ)) : Type 0 where
  pub stop : Stop
  pub is : stop_in ending ≡ Some stop
  pub status_is : status ≡ status_of stop
  pub put : Appends old new (line_of stop)

has_at : (status n : ℕ) → HasReason status → status ≡ n → HasReason n
has_at status n has e = subst HasReason e has

stop_said : (ending : Ending) (status : ℕ) (old new : Option (List ℕ)) → HasReason status → status ≡ ending_status ending → Appends old new (ending_text ending)
    → HasStop ending status old new
stop_said (Ok (Done text)) status old new has e put = absurd (true≢false (sym (has_at status 0 has e)))
stop_said (Ok (GapLeft text)) status old new has e put = absurd (true≢false (sym (has_at status 1 has e)))
stop_said (Err stop) status old new has e put = record { stop = stop; is = refl; status_is = e; put = put }

said_stop : (ending said : Ending) (status : ℕ) (old new : Option (List ℕ)) → HasReason status → IsSaid ending said → status ≡ ending_status said
    → Appends old new (ending_text said) → HasStop ending status old new
said_stop ending said status old new has (inl same) e put =
    subst (λ (x : Ending). HasStop x status old new) same (stop_said said status old new has e put)
said_stop ending said status old new has (inr none) e put =
    absurd (true≢false (sym (has_at status 5 has (e ∙ ap ending_status none))))

pub has_stop : (ending : Ending) (status : ℕ) (old new : Option (List ℕ)) → HasReason status → SaysPut ending status old new → HasStop ending status old new
has_stop ending status old new has p = said_stop ending p.said status old new has p.is_said p.status_is p.put

pub put_whole_at : (status : ℕ) → HasReason status → status ≢ WRITE_FAILED
put_whole_at status has four = true≢false (sym (has_at status 4 has four))

pub has_none : (b c : Bool) → IsTrue b → c ≡ b → c ≡ false → ⊥
has_none b c has same fails = true≢false (sym has ∙ sym same ∙ fails)

-- what a sink took of a text, by whether it was put whole
pub at_most : {T E : Type 0} (faults faults' : ℕ) (old new : Option (List ℕ)) (text : List ℕ) (r : Result T E)
    → OnOk r (Appends old new text) → OnErr r (PutsPrefix old new text) → HasCause faults faults' r → PutsAtMost faults faults' old new text
at_most faults faults' old new text (Ok x) all prefix cause = inl all
at_most faults faults' old new text (Err e) all prefix cause =
    let rose : Rose faults faults' = (let later : faults' ≡ one_more faults = cause.failed in omega arith) in inr (inl (rose, prefix))
