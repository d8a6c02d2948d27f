-- How a round is divided among workers.
--     share_of items workers i   where the share of worker i begins
--     IsDivision d               there are 1 to 16 workers, and the numbers of trials have 64 bits
--     with_part d i w            w with the part of worker i
use Rattle.std.specs.Prelude.{ℕ, ◌+◌, ◌*◌, ◌/◌, ◌<◌, ◌≤◌, ◌^◌}
use Rattle.trial_workers.specs.declared.parts.Division.{Division}
use Rattle.trial_workers.specs.declared.worker.Worker.{Worker}

abbrev pub share_of : ℕ → ℕ → ℕ → ℕ
share_of items workers i = i * items / workers

pub record IsDivision (d : Division) : Type 0 where
  pub some : 0 < d.workers
  pub few : d.workers ≤ 16
  pub fits : d.first_trial + d.trials < 2 ^ 64

abbrev pub with_part : Division → ℕ → Worker → Worker
with_part d i w = record w {
  first_id = share_of d.swept d.workers i;
  past_id = share_of d.swept d.workers (i + 1);
  first_trial = d.first_trial + share_of d.trials d.workers i;
  past_trial = d.first_trial + share_of d.trials d.workers (i + 1);
}
