-- What answers and turns tell, by what their parts told.
use Rattle.std.proofs.Common.{◌≡◌, ℕ, ◌<◌, true, false, List, length, Option, Result, Ok, Err, inl, inr, refl, sym, ◌∙◌, subst}
use Rattle.std.specs.Prelude.{OnOk, OnErr}
use Rattle.std.specs.Io.KnownBytes.{Appends}
use Rattle.shelf_io.specs.Causes.{HasCause}
use Rattle.shelf_io.specs.Streams.{PutsPrefix}
use Rattle.ground_model.specs.Packed.{State}
use Rattle.word_table.specs.Seen.{Board, Knowledge, IsOf}
use Rattle.policy_server.specs.declared.answer.Answer.{Answer}
use Rattle.policy_server.specs.declared.answer.Answer.TheVariants as answer
use Rattle.policy_server.specs.declared.ending.Turn.{Turn}
use Rattle.policy_server.specs.declared.ending.Turn.TheVariants as turn
use Rattle.policy_server.specs.declared.serve_end.ServeEnd.TheVariants as stop
use Rattle.policy_server.specs.Lines.{fed}
use Rattle.policy_server.specs.Queries.{Query, query_of}
use Rattle.policy_server.specs.Queries as query
use Rattle.policy_server.specs.Replies.{Fits}
use Rattle.policy_server.specs.Replies as reply
use Rattle.policy_server.specs.Serving.{Input, Took, long_line}
use Rattle.policy_server.specs.Parts.{IsLine, IsLong, answer_text, TellsState, TellsAnswer, IsPut, TellsReply, turn_after, TellsTurn, TurnFaults}
use Rattle.policy_server.proofs.Looked.{no_query_serves, no_atom_serves}

-- ---- answers

pub no_query_told : (b : Board) (k : Knowledge) (q : Query) → IsOf b k → q ≡ query.NoQuery → TellsAnswer b k k q answer.NoQuery
no_query_told b k q here is = record {
  told = reply.NoQuery;
  fits = subst (λ (x : Query). Fits x reply.NoQuery) (sym is) tt;
  text = refl;
  serves = no_query_serves b k here;
}

pub no_atom_told : (b : Board) (k : Knowledge) (q : Query) → IsOf b k → q ≡ query.NoAtom → TellsAnswer b k k q answer.NoAtom
no_atom_told b k q here is = record {
  told = reply.NoAtom;
  fits = subst (λ (x : Query). Fits x reply.NoAtom) (sym is) tt;
  text = refl;
  serves = no_atom_serves b k here;
}

pub state_told : (b : Board) (k l : Knowledge) (s : State) (q : Query) (a : Answer) → q ≡ query.Asks s → TellsState b k l s a → TellsAnswer b k l q a
state_told b k l s q answer.NoQuery is told = absurd told
state_told b k l s q answer.NoAtom is told = absurd told
state_told b k l s q answer.Unvisited is told = record {
  told = reply.Unvisited s;
  fits = subst (λ (x : Query). Fits x (reply.Unvisited s)) (sym is) refl;
  text = refl;
  serves = told;
}
state_told b k l s q (answer.Found i) is told = record {
  told = reply.Found s told.0 i;
  fits = subst (λ (x : Query). Fits x (reply.Found s told.0 i)) (sym is) refl;
  text = refl;
  serves = told.1;
}

pub is_put : {E : Type 0} (bytes : List ℕ) (old new : Option (List ℕ)) (r : Result (Unit {0}) E) → OnOk r (Appends old new bytes) → OnErr r (PutsPrefix old new bytes)
    → IsPut bytes old new r
is_put bytes old new (Ok done) all part = all
is_put bytes old new (Err e) all part = record { count = part.0; fewer = part.1; put = part.2 }

pub reply_told : {E : Type 0} (b : Board) (k l : Knowledge) (line bytes : List ℕ) (old new : Option (List ℕ)) (r : Result (Unit {0}) E) (q : Query) (a : Answer)
    → q ≡ query_of b.problem line → TellsAnswer b k l q a → bytes ≡ answer_text b.problem a → OnOk r (Appends old new bytes) → OnErr r (PutsPrefix old new bytes)
    → TellsReply b k l line old new r
reply_told b k l line bytes old new r q a is told text all part = record {
  told = told.told;
  fits = subst (λ (x : Query). Fits x told.told) is told.fits;
  serves = told.serves;
  put = subst (λ x. IsPut x old new r) (text ∙ sym told.text) (is_put bytes old new r all part);
}

-- ---- turns

module _ {E : Type 0} (b : Board) (k l : Knowledge) (i j : Input) (line : List ℕ) (old new : Option (List ℕ)) where
  pub answered_turn : (r : Result (Unit {0}) E) → IsLine line → Took i j (fed line) false false → TellsReply b k l line old new r
      → TellsTurn b k l i j old new (turn_after r turn.Answered)
  answered_turn (Ok done) is_line took told = record {
    line = line;
    told = told.told;
    answered = record { is_line = is_line; took = took; some = λ e. absurd cc; fits = told.fits; serves = told.serves };
    put = told.put;
  }
  answered_turn (Err e) is_line took told = inl (record {
    line = line;
    ended = false;
    told = told.told;
    answered = record { is_line = is_line; took = took; some = λ e. absurd cc; fits = told.fits; serves = told.serves };
    put = told.put;
  })

  pub last_turn : (r : Result (Unit {0}) E) → IsLine line → Took i j line true false → 0 < length line → TellsReply b k l line old new r
      → TellsTurn b k l i j old new (turn_after r turn.AnsweredLast)
  last_turn (Ok done) is_line took some told = record {
    line = line;
    told = told.told;
    answered = record { is_line = is_line; took = took; some = λ e. some; fits = told.fits; serves = told.serves };
    put = told.put;
  }
  last_turn (Err e) is_line took some told = inl (record {
    line = line;
    ended = true;
    told = told.told;
    answered = record { is_line = is_line; took = took; some = λ e. some; fits = told.fits; serves = told.serves };
    put = told.put;
  })

  pub long_turn : (r : Result (Unit {0}) E) → l ≡ k → IsLong line → Took i j line false false → IsPut long_line old new r
      → TellsTurn b k l i j old new (turn_after r (turn.Stopped stop.LongLine))
  long_turn (Ok done) same is_long took put = (record { line = line; is_long = is_long; took = took; same = same }, put)
  long_turn (Err e) same is_long took put = inr (record { line = line; is_long = is_long; took = took; same = same }, put)

pub faults_after : {E : Type 0} (old new : ℕ) (r : Result (Unit {0}) E) (t : Turn) → (new ≡ old → TurnFaults old new t) → HasCause old new r
    → TurnFaults old new (turn_after r t)
faults_after old new (Ok done) t steady cause = steady cause.steady
faults_after old new (Err e) t steady cause = cause.failed
