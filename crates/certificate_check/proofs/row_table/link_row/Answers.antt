-- The row goes into the bucket of its state.
use Rattle.std.proofs.Common.{◌≡◌, ◌+◌, Some, List, length, vec_len, slice_set, rules, refl, sym, ap, subst, ◌∙◌, arith}
use Rattle.std.specs.List.{slice_get}
use Rattle.std.proofs.lemmas.Grind.{get_or_default_zero}
use Rattle.certificate.specs.Rows.{Row}
use Rattle.certificate_check.specs.Buckets.{scaled, buckets_of, HasLinks}
use Rattle.certificate_check.proofs.Arena.{item_there}
use Rattle.certificate_check.proofs.Buckets.{links_put}
use Rattle.certificate_check.proofs.Places.{state_length}
use Rattle.certificate_check.proofs.row_table.link_row.Goals as goal

pub copy_words-requires : goal.copy_words-requires
copy_words-requires c =
    let x = c.args.rows.now in
    let there : (r : Row) × (slice_get x.certificate.rows c.args.place ≡ Some r) = item_there x.certificate.rows c.args.place c.requires.place in
    c.requires.state ∙ sym (state_length x there.0 c.state.result.now (c.state.ensures there.0 there.1))

pub returns-in_err-push-2-clause-state : goal.returns-in_err-push-2-clause-state
returns-in_err-push-2-clause-state c =
    let x = c.args.rows.now in
    let there : (r : Row) × (slice_get x.certificate.rows c.args.place ≡ Some r) = item_there x.certificate.rows c.args.place c.requires.place in
    ap length c.copy_words.ensures ∙ state_length x there.0 c.state.result.now (c.state.ensures there.0 there.1) ∙ sym c.requires.state

pub returns-clause-state : goal.returns-clause-state
returns-clause-state c =
    let x = c.args.rows.now in
    let there : (r : Row) × (slice_get x.certificate.rows c.args.place ≡ Some r) = item_there x.certificate.rows c.args.place c.requires.place in
    ap length c.copy_words.ensures ∙ state_length x there.0 c.state.result.now (c.state.ensures there.0 there.1) ∙ sym c.requires.state

pub returns-clause-links : goal.returns-clause-links
returns-clause-links c =
    let x = c.args.rows.now in
    let lasts = c.args.lasts.now.items in
    let befores = c.args.befores.now.items in
    let has = c.requires.links in
    let there : (r : Row) × (slice_get x.certificate.rows c.args.place ≡ Some r) = item_there x.certificate.rows c.args.place c.requires.place in
    let long : vec_len c.args.lasts.now ≡ length lasts = search rules in
    let many : c.len.result ≡ buckets_of x = c.len.ensures ∙ long ∙ has.buckets in
    let bucket = c.bucket_of-bucket.ensures.bucket ∙ (λ j. scaled (many j) ((c.copy_words.ensures ∙ c.state.ensures there.0 there.1) j)) in
    subst (λ (bs : List _). HasLinks x (c.args.place + 1) (slice_set lasts c.bucket_of-bucket.result (c.args.place + 1)) bs) (sym c.in_ok-push-2.ensures.items)
    (links_put x c.args.place lasts befores has there.0 there.1 c.bucket_of-bucket.result
    (sym (c.knows.ensures there.0 there.1) ∙ c.if-not-knows.false) bucket (omega (arith, c.bucket_of-bucket.ensures.within, many)) c.index.result.now (c.args.place + 1)
    (c.index.ensures ∙ get_or_default_zero lasts c.bucket_of-bucket.result c.index.result.now
    (omega (arith, c.bucket_of-bucket.ensures.within, many, has.buckets))) refl)
