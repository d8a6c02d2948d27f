use Rattle.std.proofs.Common.{◌≡◌, ◌<◌, Some, length, refl, subst, rules}
use Rattle.std.specs.List.{slice_get}
use Rattle.std.proofs.lemmas.Option.{slice_get_read}
use Rattle.word_table.proofs.lemmas.view.Seen.{more_is_later}
use Rattle.bellman_backup.proofs.Keeping.{keeps_again}
use Rattle.bellman_backup.proofs.lemmas.means.Adding.{starts_later, fits, one_more}
use Rattle.bellman_backup.proofs.means.reading.add_up.Goals as goal

pub read_start-bounds-requires-clause-known : goal.read_start-bounds-requires-clause-known
read_start-bounds-requires-clause-known c =
    let g = c.args.words.now.problem in let xs = c.args.starts.now in let i = c.loop-id.id in let x = c.index-starts-id.result in
    let there : slice_get xs i ≡ Some x = slice_get_read xs (length xs) i x refl (search rules) c.index-starts-id.is in
    let later = more_is_later c.args.pass.now.view c.loop-id.pass.view c.loop-id.invariant.keeps.noted in
    (starts_later g c.args.pass.now.view c.loop-id.pass.view later c.requires.known i x (subst (λ l. slice_get l i ≡ Some x) c.requires.all there)).0

pub read_start-bounds-requires-clause-has : goal.read_start-bounds-requires-clause-has
read_start-bounds-requires-clause-has c =
    let g = c.args.words.now.problem in let xs = c.args.starts.now in let i = c.loop-id.id in let x = c.index-starts-id.result in
    let there : slice_get xs i ≡ Some x = slice_get_read xs (length xs) i x refl (search rules) c.index-starts-id.is in
    let later = more_is_later c.args.pass.now.view c.loop-id.pass.view c.loop-id.invariant.keeps.noted in
    (starts_later g c.args.pass.now.view c.loop-id.pass.view later c.requires.known i x (subst (λ l. slice_get l i ≡ Some x) c.requires.all there)).1

pub with-sums-requires-clause-lower : goal.with-sums-requires-clause-lower
with-sums-requires-clause-lower c =
    let g = c.args.words.now.problem in let xs = c.args.starts.now in let i = c.loop-id.id in let x = c.index-starts-id.result in
    let u = c.args.pass.now.view in let v = c.loop-id.pass.view in let w = c.read_start-bounds.new.pass.view in
    let within : i < length xs = search rules in
    let there : slice_get xs i ≡ Some x = slice_get_read xs (length xs) i x refl within c.index-starts-id.is in
    let has = (c.requires.known i x (subst (λ l. slice_get l i ≡ Some x) c.requires.all there)).1 in
    (fits g u v w xs i x within c.index-starts-id.is has c.requires.one c.requires.here.view.problem (more_is_later u v c.loop-id.invariant.keeps.noted)
    (more_is_later v w c.read_start-bounds.ensures.keeps.noted) c.loop-id.sums c.loop-id.invariant.sums c.read_start-bounds.result c.read_start-bounds.ensures.read c.requires.valid c.requires.all).0

pub with-sums-requires-clause-upper : goal.with-sums-requires-clause-upper
with-sums-requires-clause-upper c =
    let g = c.args.words.now.problem in let xs = c.args.starts.now in let i = c.loop-id.id in let x = c.index-starts-id.result in
    let u = c.args.pass.now.view in let v = c.loop-id.pass.view in let w = c.read_start-bounds.new.pass.view in
    let within : i < length xs = search rules in
    let there : slice_get xs i ≡ Some x = slice_get_read xs (length xs) i x refl within c.index-starts-id.is in
    let has = (c.requires.known i x (subst (λ l. slice_get l i ≡ Some x) c.requires.all there)).1 in
    (fits g u v w xs i x within c.index-starts-id.is has c.requires.one c.requires.here.view.problem (more_is_later u v c.loop-id.invariant.keeps.noted)
    (more_is_later v w c.read_start-bounds.ensures.keeps.noted) c.loop-id.sums c.loop-id.invariant.sums c.read_start-bounds.result c.read_start-bounds.ensures.read c.requires.valid c.requires.all).1

pub loop-id-preserved : goal.loop-id-preserved
loop-id-preserved c =
    let b = c.args.words.now in let g = b.problem in let xs = c.args.starts.now in let i = c.loop-id.id in let x = c.index-starts-id.result in
    let k = c.args.pass.now in let l = c.loop-id.pass in let m = c.read_start-bounds.new.pass in
    let within : i < length xs = search rules in
    let there : slice_get xs i ≡ Some x = slice_get_read xs (length xs) i x refl within c.index-starts-id.is in
    let has = (c.requires.known i x (subst (λ l. slice_get l i ≡ Some x) c.requires.all there)).1 in record {
      keeps = keeps_again b k l m c.loop-id.invariant.keeps c.read_start-bounds.ensures.keeps;
      sums = one_more g k.view l.view m.view xs i x within c.index-starts-id.is has c.requires.one c.requires.here.view.problem (more_is_later k.view l.view c.loop-id.invariant.keeps.noted)
          (more_is_later l.view m.view c.read_start-bounds.ensures.keeps.noted) c.loop-id.sums c.loop-id.invariant.sums c.read_start-bounds.result c.read_start-bounds.ensures.read
          c.with-sums.result c.with-sums.ensures.lower c.with-sums.ensures.upper;
    }
