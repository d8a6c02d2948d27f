use Rattle.std.proofs.Common.{◌≡◌, ◌≤◌, ◌/◌, sym, ap, ◌∙◌, subst, rules}
use Rattle.std.specs.Int.{div_ceil}
use Rattle.word_table.specs.Seen.{Knowledge}
use Rattle.word_table.proofs.lemmas.view.Seen.{more_is_later}
use Rattle.bellman_backup.proofs.Keeping.{keeps_again, keeps_count}
use Rattle.ground_model.specs.Invariant.{IsGroundProblem}
use Rattle.bellman_backup.specs.means.Means.{lower_mean, upper_mean}
use Rattle.bellman_backup.specs.means.Sums.{AreSums}
use Rattle.bellman_backup.proofs.lemmas.means.Adding.{starts_later, counted_sums, are_means}
use Rattle.bellman_backup.proofs.means.reading.read_means.Goals as goal

pub add_up-sums-requires-clause-known : goal.add_up-sums-requires-clause-known
add_up-sums-requires-clause-known c =
    let k = c.args.pass.now in let l = c.load_count.new.pass in
    starts_later c.args.words.now.problem k.view l.view (more_is_later k.view l.view (keeps_count c.args.words.now k l c.load_count.result c.requires.here c.load_count.ensures.seen).noted) c.requires.starts

pub returns-clause-keeps : goal.returns-clause-keeps
returns-clause-keeps c =
    let b = c.args.words.now in let k = c.args.pass.now in let l = c.load_count.new.pass in
    keeps_again b k l c.add_up-sums.new.pass (keeps_count b k l c.load_count.result c.requires.here c.load_count.ensures.seen) c.add_up-sums.ensures.keeps

pub returns-clause-means : goal.returns-clause-means
returns-clause-means c =
    let g = c.args.words.now.problem in let v = c.args.pass.now.view in let w = c.add_up-sums.new.pass.view in let sums = c.add_up-sums.result in
    let xs = c.starts.result.now in
    let all : xs ≡ g.starts = search rules in
    let den : c.from-den.result ≡ g.start_den = search rules in
    let are : AreSums g v w xs sums = counted_sums g v w c.load_count.result xs sums
    (subst (λ (k : Knowledge). AreSums g k.view w xs sums) c.load_count.ensures.seen c.add_up-sums.ensures.sums) in
    let m = are_means g v w xs all sums are in
    let up : c.div_ceil.result ≡ div_ceil sums.upper g.start_den = c.div_ceil.ensures ∙ ap (div_ceil sums.upper) den in
    let down : sums.lower / c.from-den.result ≡ sums.lower / g.start_den = ap (λ d. sums.lower / d) den in record {
      lower_since = subst (λ n. lower_mean g v ≤ n) (sym down) m.0;
      lower_until = subst (λ n. n ≤ lower_mean g w) (sym down) m.1;
      upper_since = subst (λ n. n ≤ upper_mean g v) (sym up) m.2;
      upper_until = subst (λ n. upper_mean g w ≤ n) (sym up) m.3;
    }

pub returns-clause-problem : goal.returns-clause-problem
returns-clause-problem c = subst IsGroundProblem c.problem-problem.ensures c.start_den.ensures.valid
