-- The loop of rounds, with a reading of the means behind each.
use Rattle.std.proofs.Common.{◌≡◌, ℕ, ◌+◌, ◌-◌, ◌<◌, ◌≤◌, Option, List, [], ◌∷◌, length, get_or, slice_set, refl, subst, arith, inl, inr}
use Rattle.std.proofs.lemmas.Bool.{cases_lt}
use Rattle.decision_process.proofs.lemmas.sweeps.Rounds.{means_have_rounds}
use Rattle.ground_model.specs.Packed.{State}
use Rattle.ground_model.specs.Ground.{Ground}
use Rattle.ground_model.specs.Steps.{ground_process, ground_starts}
use Rattle.word_table.specs.view.Views.{seen_lower}
use Rattle.word_table.proofs.lemmas.view.Seen.{has_state_more, more_is_later}
use Rattle.word_table.specs.Seen.{Board, Knowledge}
use Rattle.bellman_backup.specs.declared.means.Means.{Means}
use Rattle.bellman_backup.specs.means.Means.{seen_value}
use Rattle.trial_workers.specs.declared.effort.Effort.{Effort}
use Rattle.trial_workers.specs.declared.effort.Solved.{Solved}
use Rattle.trial_workers.specs.declared.extent.Extent.{Extent}
use Rattle.trial_workers.specs.declared.worker.Worker.{Worker}
use Rattle.trial_workers.specs.Workers.{Stays, HasListed}
use Rattle.trial_workers.specs.Crews.{IsCrewOf, FirstHas, IsListed, HaveStayed, HaveTrials, HasReadMeans, FirstReads}
use Rattle.trial_workers.specs.Rounds.{with_pass}
use Rattle.trial_workers.specs.Effort.{HaveRounds, IsWithinPlain, IsPlainWide, FirstHasSeen, FirstIsWithin}
use Rattle.trial_workers.proofs.Rounding.{first_stays, first_is_crew, first_trials, stayed_again}
use Rattle.trial_workers.specs.Watching.{Encloses}
use Rattle.trial_workers.proofs.Passes.{seen_value_falls}
use Rattle.trial_workers.proofs.Counting.{rounds_stay, no_rounds}
use Rattle.trial_workers.proofs.Means.{floors_rise, ceilings_rise}

-- ---- a reading

module _ (b : Board) (m : Means) where
  pub reads_is_crew : (depth : ℕ) (os ns : List Worker) → IsCrewOf b depth os → FirstReads b os ns m → IsCrewOf b depth ns
  reads_is_crew depth [] ns crew r = absurd r
  reads_is_crew depth (o ∷ os) [] crew r = absurd r
  reads_is_crew depth (o ∷ os) (n ∷ ns) crew r = first_is_crew b depth o n os ns crew r.0 r.1 r.2

  pub reads_stay : (depth : ℕ) (os ns : List Worker) → IsCrewOf b depth os → FirstReads b os ns m → HaveStayed b os ns
  reads_stay depth [] ns crew r = absurd r
  reads_stay depth (o ∷ os) [] crew r = absurd r
  reads_stay depth (o ∷ os) (n ∷ ns) crew r = first_stays b depth o n os ns crew.each r.0 r.2

  pub reads_have_trials : (e : Effort) (number : ℕ) (os ns : List Worker) → FirstReads b os ns m → HaveTrials b e number os → HaveTrials b e number ns
  reads_have_trials e number [] ns r trials = absurd r
  reads_have_trials e number (o ∷ os) [] r trials = absurd r
  reads_have_trials e number (o ∷ os) (n ∷ ns) r trials = first_trials e number b o n os ns r.0 r.1 r.2 trials

pub first_has_more : (b : Board) (states : List State) (os ns : List Worker) → HaveStayed b os ns → FirstHas states os → FirstHas states ns
first_has_more b states [] ns stayed has = absurd has
first_has_more b states (o ∷ os) [] stayed has = absurd stayed
first_has_more b states (o ∷ os) (n ∷ ns) stayed has = λ id s at.
    let h = has id s at in (stayed.0.noted.known id h.0, has_state_more o.pass.view n.pass.view stayed.0.noted id s h.1)

rounds_have_stayed : (b : Board) (g : Ground) (depth : Option ℕ) (r : ℕ) (os ns : List Worker) → HaveStayed b os ns → HaveRounds g depth r os → HaveRounds g depth r ns
rounds_have_stayed b g depth r [] ns stayed has = absurd has
rounds_have_stayed b g depth r (o ∷ os) [] stayed has = absurd stayed
rounds_have_stayed b g depth r (o ∷ os) (n ∷ ns) stayed has = rounds_stay g depth r o.pass.view n.pass.view stayed.0.noted has

begins_without : (b : Board) (depth : ℕ) (level : Option ℕ) (ws : List Worker) → IsCrewOf b depth ws → HaveRounds b.problem level 0 ws
begins_without b depth level [] crew = absurd (let s = crew.some in omega arith)
begins_without b depth level (w ∷ ws) crew = no_rounds b.problem level w.pass.view (crew.each 0 w (omega arith)).fit.here.view.problem

-- the reading is no wider than plain iteration of the rounds before it, and no narrower than what was then seen
abbrev answer : ℕ → Means → Solved
answer r m = record { rounds = r; lower = m.lower; upper = m.upper }

module _ (b : Board) (states : List State) (x : Extent) (listed : IsListed b.problem states x) (r : ℕ) (m : Means) where
  reads_within : (os ns : List Worker) → FirstReads b os ns m → HaveRounds b.problem x.depth r os → IsWithinPlain b.problem x.depth (answer r m)
  reads_within [] ns read rounds = absurd read
  reads_within (o ∷ os) [] read rounds = absurd read
  reads_within (o ∷ os) (n ∷ ns) read rounds =
      let plain = means_have_rounds (ground_process b.problem) (ground_starts b.problem) x.depth r b.problem.start_den (seen_lower o.pass.view) (seen_value o.pass.view)
      listed.2.deep (let a = read.3.problem.starts_weights.den_above in omega arith) rounds in
      let means = read.3 in record {
        lower = (let a = plain.0 in let c = means.means.lower_since in omega arith);
        upper = (let a = plain.1 in let c = means.means.upper_since in omega arith);
      }

  reads_seen : (os ns : List Worker) → FirstReads b os ns m → FirstHasSeen b.problem (answer r m) ns
  reads_seen [] ns read = absurd read
  reads_seen (o ∷ os) [] read = absurd read
  reads_seen (o ∷ os) (n ∷ ns) read = (read.3.means.lower_until, read.3.means.upper_until)

reads_idle : (b : Board) (gap : ℕ) (m : Means) (os ns : List Worker) → FirstReads b os ns m → FirstIsWithin b.problem gap os → m.upper ≤ m.lower + gap
reads_idle b gap m [] ns read within = absurd read
reads_idle b gap m (o ∷ os) [] read within = absurd read
reads_idle b gap m (o ∷ os) (n ∷ ns) read within = omega (arith, within, read.3.means.lower_since, read.3.means.upper_since)

-- a reading is no wider than one that was seen before
seen_stays : (b : Board) (s : Solved) (os ns : List Worker) → HaveStayed b os ns → FirstHasSeen b.problem s os → FirstHasSeen b.problem s ns
seen_stays b s [] ns stayed seen = absurd seen
seen_stays b s (o ∷ os) [] stayed seen = absurd stayed
seen_stays b s (o ∷ os) (n ∷ ns) stayed seen =
    let later = more_is_later o.pass.view n.pass.view stayed.0.noted in
    let rises = floors_rise b.problem (seen_lower o.pass.view) (seen_lower n.pass.view) later.lower in
    let falls = ceilings_rise b.problem (seen_value n.pass.view) (seen_value o.pass.view) (seen_value_falls o.pass.view n.pass.view later) in
    ((let was = seen.0 in omega arith), (let was = seen.1 in omega arith))

reads_narrower : (b : Board) (s : Solved) (r : ℕ) (m : Means) (os ns : List Worker) → FirstReads b os ns m → FirstHasSeen b.problem s os → Encloses s (answer r m)
reads_narrower b s r m [] ns read seen = absurd read
reads_narrower b s r m (o ∷ os) [] read seen = absurd read
reads_narrower b s r m (o ∷ os) (n ∷ ns) read seen = record {
  lower = (let was = seen.0 in let since = read.3.means.lower_since in omega arith);
  upper = (let was = seen.1 in let since = read.3.means.upper_since in omega arith);
}

pub read_again : (b : Board) (s : Solved) (r : ℕ) (m : Means) (os mid ns : List Worker) → FirstHasSeen b.problem s os → HaveStayed b os mid → FirstReads b mid ns m
    → Encloses s (answer r m)
read_again b s r m os mid ns seen stayed read = reads_narrower b s r m mid ns read (seen_stays b s os mid stayed seen)

-- a reading that is too wide is no wider than plain iteration
plain_is_wide : (b : Board) (x : Extent) (gap r : ℕ) (m : Means) → IsWithinPlain b.problem x.depth (answer r m)
    → (m.upper ≤ m.lower + gap → ⊥) → IsPlainWide b.problem x.depth gap r
plain_is_wide b x gap r m plain wide = elim (cases_lt (m.lower + gap) m.upper) [
  | inl apart ↦ omega (arith, apart, plain.lower, plain.upper)
  | inr near ↦ absurd (wide near)
]

-- ---- after some rounds, and a reading behind them

pub record Solving (b : Board) (e : Effort) (states : List State) (x : Extent) (old now : List Worker) (r : ℕ) (m : Means) : Type 0 where
  pub crew : IsCrewOf b e.depth now
  pub has : FirstHas states now
  pub stayed : HaveStayed b old now
  pub trials : 0 < r → HaveTrials b e (r - 1) now
  pub rounds : HaveRounds b.problem x.depth r now
  pub plain : IsWithinPlain b.problem x.depth (answer r m)
  pub early : 0 < r → IsPlainWide b.problem x.depth e.gap (r - 1)
  pub seen : FirstHasSeen b.problem (answer r m) now
  pub idle : FirstIsWithin b.problem e.gap old → (r ≡ 0) × (m.upper ≤ m.lower + e.gap)

module _ (b : Board) (e : Effort) (states : List State) (x : Extent) (listed : IsListed b.problem states x) where
  pub solving_begins : (os ns : List Worker) (m : Means) → IsCrewOf b e.depth os → FirstHas states os → FirstReads b os ns m → Solving b e states x os ns 0 m
  solving_begins os ns m crew has read =
      let stayed = reads_stay b m e.depth os ns crew read in
      let none = begins_without b e.depth x.depth os crew in record {
        crew = reads_is_crew b m e.depth os ns crew read;
        has = first_has_more b states os ns stayed has;
        stayed = stayed;
        trials = λ some. absurd (omega arith);
        rounds = rounds_have_stayed b b.problem x.depth 0 os ns stayed none;
        plain = reads_within b states x listed 0 m os ns read none;
        early = λ some. absurd (omega arith);
        seen = reads_seen b states x listed 0 m os ns read;
        idle = λ within. (refl, reads_idle b e.gap m os ns read within);
      }

  pub solving_goes_on : (old now mid new : List Worker) (r : ℕ) (m m' : Means) → Solving b e states x old now r m → (m.upper ≤ m.lower + e.gap → ⊥) → IsCrewOf b e.depth mid → HaveStayed b now mid
      → HaveTrials b e r mid → ((n : ℕ) → HaveRounds b.problem x.depth n now → HaveRounds b.problem x.depth (n + 1) mid) → FirstReads b mid new m'
      → Solving b e states x old new (r + 1) m'
  solving_goes_on old now mid new r m m' so wide crew stayed trials rounds read =
      let read_stayed = reads_stay b m' e.depth mid new crew read in
      let more = rounds r so.rounds in
      let last : r ≡ r + 1 - 1 = omega arith in record {
        crew = reads_is_crew b m' e.depth mid new crew read;
        has = first_has_more b states mid new read_stayed (first_has_more b states now mid stayed so.has);
        stayed = stayed_again b old mid new (stayed_again b old now mid so.stayed stayed) read_stayed;
        trials = λ some. subst (λ n. HaveTrials b e n new) last (reads_have_trials b m' e r mid new read trials);
        rounds = rounds_have_stayed b b.problem x.depth (r + 1) mid new read_stayed more;
        plain = reads_within b states x listed (r + 1) m' mid new read more;
        early = λ some. subst (IsPlainWide b.problem x.depth e.gap) last (plain_is_wide b x e.gap r m so.plain wide);
        seen = reads_seen b states x listed (r + 1) m' mid new read;
        idle = λ within. absurd (wide (so.idle within).1);
      }

-- ---- reading by the first of a list

pub first_reads : (b : Board) (os : List Worker) (d : Worker) (k : Knowledge) (m : Means) → 0 < length os → Stays b (get_or os 0 d).pass k
    → HasReadMeans b (get_or os 0 d).pass.view k.view m → FirstReads b os (slice_set os 0 (with_pass k (get_or os 0 d))) m
first_reads b [] d k m some stays means = absurd (omega arith)
first_reads b (o ∷ os) d k m some stays means = (stays, refl, refl, means)

pub first_had : (states : List State) (os : List Worker) (d : Worker) → 0 < length os → FirstHas states os → HasListed states (get_or os 0 d).pass.view
first_had states [] d some has = absurd (omega arith)
first_had states (o ∷ os) d some has = has
