use Rattle.std.proofs.Common.{◌<◌, ◌-◌, sym, ap, subst, arith, rules}
use Rattle.word_table.specs.declared.layout.Layout.{Layout}
use Rattle.word_table.specs.view.Steps.{with_empty}
use Rattle.word_table.specs.rule.Told.{TellsNone}
use Rattle.word_table.specs.Plays.{Mine}
use Rattle.word_table.specs.Seen.{Board, Knowledge}
use Rattle.word_table.proofs.Allowed.{look_allowed}
use Rattle.word_table.proofs.Calls.{same_table, view_of_key, seen_after, kept_after, bucket_is_a_word, holds_id, id_fits, looked_within}
use Rattle.word_table.proofs.ids.load_bucket.Goals as goal

pub load-found-requires : goal.load-found-requires
load-found-requires c =
    let i = c.words.invariant in
    let small = subst (λ (m : Layout). c.args.bucket < m.buckets) (sym (ap (λ (b : Board). b.layout) c.words.view_is)) c.requires.bucket in
    let view = view_of_key _ _ _ _ _ _ _ _ c.words.view_is c.pass.view_is c.requires.here _ _ i.3 i.4 in
    let small_key = subst (λ (m : Layout). c.args.bucket < m.buckets) (sym i.4) small in (
      same_table _ _ _ _ _ _ _ _ c.words.view_is c.pass.view_is c.requires.here,
      bucket_is_a_word c.words.inside.layout _ c.args.bucket _ c.bucket.ensures small i.1,
      look_allowed _ _ _ _ _ _ view _ c.args.bucket c.bucket.ensures small_key,
    )

pub invariant_of-pass : goal.invariant_of-pass
invariant_of-pass c =
    let i = c.pass.invariant in
    let told = c.load-found.ensures.2 c.args.bucket c.bucket.ensures in
    kept_after c.pass.inside.seat.me c.load-found.new.seat.me _ _ (told.0 c.if-found-eq0.true).0 i.0 i.1 record { known = i.2.known; spare = i.2.spare }

pub returns-then-found-eq0-clause-none : goal.returns-then-found-eq0-clause-none
returns-then-found-eq0-clause-none c =
    let told = c.load-found.ensures.2 c.args.bucket c.bucket.ensures in
    seen_after _ _ _ _ _ (λ u. with_empty u c.args.bucket) c.pass.view_is c.load-found.ensures.0 (ap (λ (m : Mine). m.0) (told.0 c.if-found-eq0.true).0)

pub returns-then-found-eq0-clause-told : goal.returns-then-found-eq0-clause-told
returns-then-found-eq0-clause-told c =
    let told = c.load-found.ensures.2 c.args.bucket c.bucket.ensures in
    subst (λ (k : Knowledge). TellsNone k.view c.args.bucket) c.pass.view_is (told.0 c.if-found-eq0.true).1

pub returns-then-found-eq0-clause-room : goal.returns-then-found-eq0-clause-room
returns-then-found-eq0-clause-room c = (c.load-found.ensures.2 c.args.bucket c.bucket.ensures).2

pub invariant_of-pass-2 : goal.invariant_of-pass-2
invariant_of-pass-2 c =
    let i = c.pass.invariant in
    let full = c.if-found-eq0.false in
    let told = (c.load-found.ensures.2 c.args.bucket c.bucket.ensures).1 (c.load-found.result - 1) (omega arith) in
    kept_after c.pass.inside.seat.me c.load-found.new.seat.me _ _ told.0 i.0 i.1 (looked_within c.pass.inside.seat.me.0 c.args.bucket (c.load-found.result - 1) i.2 told.1)

pub overflow_cast-result : goal.overflow_cast-result
overflow_cast-result c =
    let full = c.if-found-eq0.false in
    let told = (c.load-found.ensures.2 c.args.bucket c.bucket.ensures).1 (c.load-found.result - 1) (omega arith) in
    let below = id_fits _ _ _ _ _ _ _ _ c.words.view_is c.pass.view_is c.requires.here c.words.invariant.0.layout (c.load-found.result - 1) told.1 in
    search (rules, below)

pub returns-clause-some : goal.returns-clause-some
returns-clause-some c =
    let full = c.if-found-eq0.false in
    let told = (c.load-found.ensures.2 c.args.bucket c.bucket.ensures).1 (c.load-found.result - 1) (omega arith) in
    holds_id _ _ _ _ _ _ _ _ c.words.view_is c.pass.view_is c.requires.here _ _ c.args.bucket (c.load-found.result - 1) c.load-found.ensures.0 (ap (λ (m : Mine). m.0) told.0) told.1

pub returns-clause-room : goal.returns-clause-room
returns-clause-room c = (c.load-found.ensures.2 c.args.bucket c.bucket.ensures).2
