-- A look at the count behind the means leaves what was seen.
use Rattle.std.proofs.Common.{sym, ◌≤◌, subst}
use Rattle.word_table.specs.Seen.{Knowledge}
use Rattle.bellman_backup.specs.means.Means.{AreMeans}
use Rattle.bellman_backup.proofs.Keeping.{keeps_again, keeps_count}
use Rattle.trial_workers.proofs.solving.read_pass.Goals as goal

pub returns-clause-keeps : goal.returns-clause-keeps
returns-clause-keeps c =
    let b = c.args.words.now in let k = c.args.pass.now in let l = c.read_means-means.new.pass in let keeps = c.read_means-means.ensures.keeps in
    keeps_again b k l c.load_count-states.new.pass keeps (keeps_count b l c.load_count-states.new.pass c.load_count-states.result keeps.here c.load_count-states.ensures.seen)

pub returns-clause-means : goal.returns-clause-means
returns-clause-means c =
    let g = c.args.words.now.problem in let v = c.args.pass.now.view in let means = c.read_means-means.ensures.means in record {
      problem = c.read_means-means.ensures.problem;
      means = subst (λ (k : Knowledge). AreMeans g v k.view c.read_means-means.result) (sym c.load_count-states.ensures.seen) (record {
        lower_since = means.lower_since;
        lower_until = means.lower_until;
        upper_since = means.upper_since;
        upper_until = means.upper_until;
      });
    }

pub returns-clause-few : goal.returns-clause-few
returns-clause-few c =
    subst (λ l. c.load_count-states.result ≤ l.ids) c.read_means-means.ensures.keeps.here.view.layout c.load_count-states.ensures.told.within
