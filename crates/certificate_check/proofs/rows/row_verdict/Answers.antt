-- The row that is read is the one in its place, and its first fault is its verdict.
use Rattle.std.proofs.Common.{◌≡◌, ◌+◌, Some, None, sym, ap, subst, ◌∙◌}
use Rattle.std.specs.List.{slice_get}
use Rattle.certificate.specs.Rows.{Row, shown}
use Rattle.certificate.specs.Content.{IsCertificate}
use Rattle.certificate_check.specs.Claims.{knows, row_state, act_of}
use Rattle.certificate_check.specs.GroundRows.{Claimed}
use Rattle.certificate_check.specs.Pass.{low_of, high_of}
use Rattle.certificate_check.specs.Verdicts.{IsRowVerdict}
use Rattle.certificate_check.proofs.Places.{read_at, state_length}
use Rattle.certificate_check.proofs.RowVerdict.{row_answer, row_is_read, room_after, room_before}
use Rattle.certificate_check.proofs.rows.row_verdict.Goals as goal

pub copy_words-requires : goal.copy_words-requires
copy_words-requires c =
    let x = c.args.table.now in
    let kept = c.rows-rows.result.now in
    let mine : Row = shown c.row-claimed.result in
    let there = read_at kept c.certificate.result.now c.rows.result.now c.args.place mine c.certificate.ensures c.rows.ensures.value c.row-claimed.ensures in
    let state : c.state.result.now ≡ row_state x.problem x.certificate mine
    = c.state.ensures mine there ∙ ap (λ (y : Claimed). row_state y.problem y.certificate mine) c.rows-rows.ensures in
    c.requires.room.state ∙ sym (state_length x mine c.state.result.now state)

pub row_fault-requires : goal.row_fault-requires
row_fault-requires c =
    let x = c.args.table.now in
    let kept = c.rows-rows.result.now in
    let mine : Row = shown c.row-claimed.result in
    let there = read_at kept c.certificate.result.now c.rows.result.now c.args.place mine c.certificate.ensures c.rows.ensures.value c.row-claimed.ensures in
    let state : c.state.result.now ≡ row_state x.problem x.certificate mine
    = c.state.ensures mine there ∙ ap (λ (y : Claimed). row_state y.problem y.certificate mine) c.rows-rows.ensures in
    let at = subst (λ (y : Claimed). slice_get y.certificate.rows c.args.place ≡ Some mine) c.rows-rows.ensures there in
    let known : c.knows.result ≡ knows x.problem x.certificate mine
    = c.knows.ensures mine there ∙ ap (λ (y : Claimed). knows y.problem y.certificate mine) c.rows-rows.ensures in
    let is : IsCertificate x.certificate
    = subst IsCertificate (c.certificate.ensures ∙ ap (λ (y : Claimed). y.certificate) c.rows-rows.ensures) c.rows.ensures.valid in
    record {
      read = row_is_read c.args.index.now x.problem x.certificate is mine c.args.place c.in-Some.act c.copy_words.new.into c.requires.problem at
          (sym known ∙ c.if-not-knows.false) (c.copy_words.ensures ∙ state);
      room = room_before c.args.index.now x.problem c.copy_words.new.into c.args.room.now c.requires.problem
          (state_length x mine c.copy_words.new.into (c.copy_words.ensures ∙ state)) c.requires.room;
    }

pub returns-in_err-fault-clause-verdict : goal.returns-in_err-fault-clause-verdict
returns-in_err-fault-clause-verdict c = λ r at'.
    let x = c.args.table.now in
    let kept = c.rows-rows.result.now in
    let mine : Row = shown c.row-claimed.result in
    let there = read_at kept c.certificate.result.now c.rows.result.now c.args.place mine c.certificate.ensures c.rows.ensures.value c.row-claimed.ensures in
    let state : c.state.result.now ≡ row_state x.problem x.certificate mine
    = c.state.ensures mine there ∙ ap (λ (y : Claimed). row_state y.problem y.certificate mine) c.rows-rows.ensures in
    let at = subst (λ (y : Claimed). slice_get y.certificate.rows c.args.place ≡ Some mine) c.rows-rows.ensures there in
    let known : c.knows.result ≡ knows x.problem x.certificate mine
    = c.knows.ensures mine there ∙ ap (λ (y : Claimed). knows y.problem y.certificate mine) c.rows-rows.ensures in
    let act : Some c.in-Some.act ≡ act_of x.problem x.certificate mine.act
    = c.in-Some.ensures ∙ ap (λ (y : Claimed). act_of y.problem y.certificate mine.act) c.rows-rows.ensures in
    subst (IsRowVerdict x.problem x.certificate (low_of x) (high_of x) r (c.args.place + 1)) (sym c.from_residual.ensures)
    (row_answer c.args.index.now x.problem x.certificate (low_of x) (high_of x) mine r c.args.place c.in-Some.act c.copy_words.new.into
    c.knows.result None c.requires.problem at at' act known c.if-not-knows.false (c.copy_words.ensures ∙ state) c.in_err-fault.ensures.fault)

pub returns-in_err-fault-clause-room : goal.returns-in_err-fault-clause-room
returns-in_err-fault-clause-room c =
    let x = c.args.table.now in
    let kept = c.rows-rows.result.now in
    let mine : Row = shown c.row-claimed.result in
    let there = read_at kept c.certificate.result.now c.rows.result.now c.args.place mine c.certificate.ensures c.rows.ensures.value c.row-claimed.ensures in
    let state : c.state.result.now ≡ row_state x.problem x.certificate mine
    = c.state.ensures mine there ∙ ap (λ (y : Claimed). row_state y.problem y.certificate mine) c.rows-rows.ensures in
    room_after c.args.index.now x.problem c.copy_words.new.into c.row_fault.new.scratch c.requires.problem
    (state_length x mine c.copy_words.new.into (c.copy_words.ensures ∙ state)) c.requires.room.few c.row_fault.ensures.room

pub returns-clause-verdict : goal.returns-clause-verdict
returns-clause-verdict c = λ r at'.
    let x = c.args.table.now in
    let kept = c.rows-rows.result.now in
    let mine : Row = shown c.row-claimed.result in
    let there = read_at kept c.certificate.result.now c.rows.result.now c.args.place mine c.certificate.ensures c.rows.ensures.value c.row-claimed.ensures in
    let state : c.state.result.now ≡ row_state x.problem x.certificate mine
    = c.state.ensures mine there ∙ ap (λ (y : Claimed). row_state y.problem y.certificate mine) c.rows-rows.ensures in
    let at = subst (λ (y : Claimed). slice_get y.certificate.rows c.args.place ≡ Some mine) c.rows-rows.ensures there in
    let known : c.knows.result ≡ knows x.problem x.certificate mine
    = c.knows.ensures mine there ∙ ap (λ (y : Claimed). knows y.problem y.certificate mine) c.rows-rows.ensures in
    let act : Some c.in-Some.act ≡ act_of x.problem x.certificate mine.act
    = c.in-Some.ensures ∙ ap (λ (y : Claimed). act_of y.problem y.certificate mine.act) c.rows-rows.ensures in
    subst (λ v. IsRowVerdict x.problem x.certificate (low_of x) (high_of x) r (c.args.place + 1) (Some v)) (sym c.verdict_of.ensures)
    (row_answer c.args.index.now x.problem x.certificate (low_of x) (high_of x) mine r c.args.place c.in-Some.act c.copy_words.new.into
    c.knows.result (Some c.in_ok-fault.fault) c.requires.problem at at' act known c.if-not-knows.false (c.copy_words.ensures ∙ state)
    c.in_ok-fault.ensures.fault)

pub returns-clause-room : goal.returns-clause-room
returns-clause-room c =
    let x = c.args.table.now in
    let kept = c.rows-rows.result.now in
    let mine : Row = shown c.row-claimed.result in
    let there = read_at kept c.certificate.result.now c.rows.result.now c.args.place mine c.certificate.ensures c.rows.ensures.value c.row-claimed.ensures in
    let state : c.state.result.now ≡ row_state x.problem x.certificate mine
    = c.state.ensures mine there ∙ ap (λ (y : Claimed). row_state y.problem y.certificate mine) c.rows-rows.ensures in
    room_after c.args.index.now x.problem c.copy_words.new.into c.row_fault.new.scratch c.requires.problem
    (state_length x mine c.copy_words.new.into (c.copy_words.ensures ∙ state)) c.requires.room.few c.row_fault.ensures.room
