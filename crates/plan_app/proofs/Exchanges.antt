-- What a server put, as a text; and which count rose where a fault stopped it.
use Rattle.std.proofs.Common.{◌≡◌, ℕ, ◌+◌, ◌≤◌, Bool, true, false, cond, List, [], ◌++◌, length, take, Option, Some, refl, sym, subst, arith, length-append, ◌⊎◌, inl, inr}
use Rattle.std.specs.Io.KnownBytes.{Appends}
use Rattle.std.proofs.Math.Seq.{take-append-add}
use Rattle.std.proofs.KnownBytes.{Appends-trans}
use Rattle.shelf_io.specs.Causes.{one_more, Rose}
use Rattle.shelf_io.specs.Streams.{PutsPrefix}
use Rattle.ground_model.specs.Ground.{Ground}
use Rattle.plan_request.specs.declared.stop.Stop.{Stop}
use Rattle.plan_request.specs.declared.stop.Stop.TheVariants.{ReadFailed, WriteFailed}
use Rattle.plan_search.specs.Serving.{stop_of}
use Rattle.policy_server.specs.declared.serve_end.ServeEnd.{ServeEnd}
use Rattle.policy_server.specs.declared.serve_end.ServeEnd.TheVariants as ends
use Rattle.policy_server.specs.declared.served.Served.{Served}
use Rattle.policy_server.specs.Lines.{cut_of}
use Rattle.policy_server.specs.Replies.{Reply, texts}
use Rattle.policy_server.specs.Serving.{Input, due, is_read_fault, is_write_fault, IsFault}
use Rattle.plan_search.specs.service.Served.{Streams, HasServed}
use Rattle.plan_app.specs.Endings.{exchange, Answered}
use Rattle.plan_app.specs.Putting.{CountsOn}

-- ---- texts

-- a first part of a text behind another text is a first part of both
pub prefix_behind : (a b c : Option (List ℕ)) (xs ys : List ℕ) → Appends a b xs → PutsPrefix b c ys → PutsPrefix a c (xs ++ ys)
prefix_behind a b c xs ys put (n, few, part) = (
  length xs + n,
  omega (arith, few, length-append xs ys),
  subst (Appends a c) (sym (take-append-add xs ys n)) (Appends-trans a b c xs (take n ys) put part),
)

-- ---- what a server put

module _ (g : Ground) (rest : List ℕ) (rs : List Reply) (n : ℕ) where
  abbrev PutsBy : Option (List ℕ) → Option (List ℕ) → Bool → Type 0
  PutsBy old new fault = elim fault [
    | true ↦ IsFault g old new rest rs n
    | false ↦ Appends old new (due g rest rs) × (n ≡ length rs)
  ]

  -- a sink that held nothing holds then what this one took
  text_by : (old new : Option (List ℕ)) (fault : Bool) → PutsBy old new fault
      → (text : List ℕ) × Appends old new text × PutsBy (Some []) (Some text) fault
  text_by old new false puts = (due g rest rs, puts.0, (refl, puts.1))
  text_by old new true fault = (
    texts g (take n rs) ++ take fault.short.count fault.last,
    fault.short.put,
    record {
      last = fault.last;
      whole = fault.whole;
      short = record { count = fault.short.count; fewer = fault.short.fewer; put = refl };
      replied = fault.replied;
    },
  )

-- what a server answered, and the text that it put
pub record HasPut (g : Ground) (swept : ℕ) (from to : Input) (old new : Option (List ℕ)) (served : Served) (replies : List Reply) : Type 0 where
  pub answers : List ℕ
  pub put : Appends old new answers
  pub answered : Answered g swept (exchange from to answers) served replies

pub has_put : (g : Ground) (swept : ℕ) (old new : Streams) (served : Served) (replies : List Reply) → HasServed g swept old new served replies
    → HasPut g swept old.source new.source old.taken new.taken served replies
has_put g swept old new served replies has =
    let a = has.answered in
    let (text, put, puts) = text_by g (cut_of a.bytes).rest replies served.queries old.taken new.taken (is_write_fault served.end) a.puts in
    record {
      answers = text;
      put = put;
      answered = record {
        answered = record {
          bytes = a.bytes;
          ended = a.ended;
          took = a.took;
          short = a.short;
          fit = a.fit;
          puts = puts;
          end = a.end;
        };
        sound = has.sound;
        in_turn = has.in_turn;
      };
    }

-- ---- faults

rose_so : (before now : ℕ) → now ≡ one_more before → Rose before now
rose_so before now is = subst (λ n. one_more before ≤ n) (sym is) (omega arith)

source_failed : (e : ServeEnd) → stop_of e ≡ Some ReadFailed → is_read_fault e ≡ true
source_failed ends.Input is = absurd (cc is)
source_failed ends.Queries is = absurd (cc is)
source_failed ends.LongLine is = absurd (cc is)
source_failed ends.ReadFault is = refl
source_failed ends.WriteFault is = absurd (cc is)

sink_failed : (e : ServeEnd) → stop_of e ≡ Some WriteFailed → is_write_fault e ≡ true
sink_failed ends.Input is = absurd (cc is)
sink_failed ends.Queries is = absurd (cc is)
sink_failed ends.LongLine is = absurd (cc is)
sink_failed ends.ReadFault is = absurd (cc is)
sink_failed ends.WriteFault is = refl

-- what stops a run behind a server
pub stops_by_fault : (e : ServeEnd) (stop : Stop) → stop_of e ≡ Some stop → (stop ≡ ReadFailed) ⊎ (stop ≡ WriteFailed)
stops_by_fault ends.Input stop is = absurd (cc is)
stops_by_fault ends.Queries stop is = absurd (cc is)
stops_by_fault ends.LongLine stop is = absurd (cc is)
stops_by_fault ends.ReadFault stop is = inl (cc is)
stops_by_fault ends.WriteFault stop is = inr (cc is)

module _ {g : Ground} {swept : ℕ} {served : Served} {replies : List Reply} where
  pub take_rose : {from to : Input} {answers : List ℕ} → Answered g swept (exchange from to answers) served replies
      → stop_of served.end ≡ Some ReadFailed → Rose from.faults to.faults
  take_rose {from} {to} a is =
      rose_so from.faults to.faults
      (subst (λ failed. to.faults ≡ cond failed (one_more from.faults) from.faults) (source_failed served.end is) a.answered.took.faults)

  pub put_rose : {old new : Streams} → HasServed g swept old new served replies → stop_of served.end ≡ Some WriteFailed → Rose old.faults new.faults
  put_rose {old} {new} has is =
      rose_so old.faults new.faults
      (subst (λ failed. new.faults ≡ cond failed (one_more old.faults) old.faults) (sink_failed served.end is) has.faults)

-- what rises behind a server has risen since before it
on_by : (fault : Bool) (before now : ℕ) → now ≡ cond fault (one_more before) before → CountsOn before now
on_by true before now is = omega (arith, is)
on_by false before now is = omega (arith, is)

pub counts_on : (g : Ground) (swept : ℕ) (old new : Streams) (served : Served) (replies : List Reply) → HasServed g swept old new served replies
    → CountsOn old.faults new.faults
counts_on g swept old new served replies has = on_by (is_write_fault served.end) old.faults new.faults has.faults

pub rose_on : (before mid now : ℕ) → CountsOn before mid → Rose mid now → Rose before now
rose_on before mid now on rose = omega (arith, on, rose)

-- a sink that was left alone
pub counts_same : {O : Type 0} (faults : O → ℕ) {before now : O} → now ≡ before → CountsOn (faults before) (faults now)
counts_same faults {before} {now} is = subst (λ o. CountsOn (faults before) (faults o)) (sym is) (omega arith)
