-- What is done before and behind the workers' parts of a round.
--     CanMeet b k                a pass of these words that may hold a spare
--     with_pass k w              w with another pass
--     IsPrepared b d v i o n     the worker o has become n: it has heard what v has noted, and got the part of worker i
--     ArePrepared b d v os ns    so have all of these, each with the part of its place
--     AllPrepared b d os ns      so have all of a crew, by what worker 0 had noted
--     HasHeard k w               the pass has noted all that the worker has
--     HaveMet b os ns            worker 0 has heard what each has noted; the others are as they were
use Rattle.std.specs.Prelude.{◌≡◌, ℕ, ◌<◌, List, [], ◌∷◌, length, get_or, All}
use Rattle.word_table.specs.declared.view.View.{View}
use Rattle.word_table.specs.view.Laws.{HasMore}
use Rattle.word_table.specs.Seen.{Board, Knowledge, IsOf}
use Rattle.trial_workers.specs.declared.parts.Division.{Division}
use Rattle.trial_workers.specs.declared.worker.Worker.{Worker}
use Rattle.trial_workers.specs.Parts.{with_part}
use Rattle.trial_workers.specs.Workers.{Stays}

pub record CanMeet (b : Board) (k : Knowledge) : Type 0 where
  pub here : IsOf b k
  pub right : 0 < k.view.rights

abbrev pub with_pass : Knowledge → Worker → Worker
with_pass k w = record w { pass = k }

pub record IsPrepared (b : Board) (d : Division) (v : View) (i : ℕ) (o n : Worker) : Type 0 where
  pub stays : Stays b o.pass n.pass
  pub heard : HasMore v n.pass.view
  pub part : n ≡ with_part d i (with_pass n.pass o)

pub record ArePrepared (b : Board) (d : Division) (v : View) (os ns : List Worker) : Type 0 where
  pub long : length ns ≡ length os
  pub each : (k : ℕ) (e : Worker) → k < length os
      → IsPrepared b d v k (get_or os k e) (get_or ns k e)

abbrev pub AllPrepared : Board → Division → List Worker → List Worker → Type 0
AllPrepared b d [] news = ⊥
AllPrepared b d (o ∷ os) news = ArePrepared b d o.pass.view (o ∷ os) news

abbrev pub HasHeard : Knowledge → Worker → Type 0
HasHeard k w = HasMore w.pass.view k.view

abbrev pub HaveMet : Board → List Worker → List Worker → Type 0
HaveMet b [] news = ⊥
HaveMet b (o ∷ os) [] = ⊥
HaveMet b (o ∷ os) (n ∷ ns) = Stays b o.pass n.pass × (n ≡ with_pass n.pass o) × (ns ≡ os)
    × All (HasHeard n.pass) (o ∷ os)
