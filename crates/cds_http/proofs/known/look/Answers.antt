-- What the lines and the head say of the front.
use Rattle.std.proofs.Common.{◌≡◌, ◌∙◌, ap, subst, length, List, ℕ, take, arith}
use Rattle.std.proofs.lemmas.List.{take_all}
use Rattle.cds_http.specs.Scan.{IsScanned}
use Rattle.cds_http.proofs.KnownLemmas.{front_waits, front_large, front_crowded, front_head, front_fails}
use Rattle.cds_http.proofs.known.look.Goals as goal

pub returns-then-bytes-lt-MOST_HEAD_BYTES : goal.returns-then-bytes-lt-MOST_HEAD_BYTES
returns-then-bytes-lt-MOST_HEAD_BYTES c =
    let all : take c.min.result c.args.bytes.now ≡ c.args.bytes.now = take_all c.min.result c.args.bytes.now (omega (arith, c.min.ensures)) in (
      subst (λ (b : List ℕ). IsScanned b c.in-Open.scan) all c.in-Open.ensures.0,
      c.in-Open.ensures.1 ∙ ap length all,
      front_waits c.args.place c.args.bytes.now c.min.result c.min.ensures c.if-bytes-lt-MOST_HEAD_BYTES.true c.in-Open.ensures.2,
    )

pub returns-else-bytes-lt-MOST_HEAD_BYTES : goal.returns-else-bytes-lt-MOST_HEAD_BYTES
returns-else-bytes-lt-MOST_HEAD_BYTES c =
    front_large c.args.place c.args.bytes.now c.min.result c.min.ensures c.if-bytes-lt-MOST_HEAD_BYTES.false c.in-Open.ensures.2

pub returns-in-Crowded : goal.returns-in-Crowded
returns-in-Crowded c = front_crowded c.args.place c.args.bytes.now c.min.result c.min.ensures c.in-Crowded.ensures

pub returns-in-Ok : goal.returns-in-Ok
returns-in-Ok c = front_head c.args.place c.args.bytes.now c.min.result c.min.ensures c.in-Ended.size c.in-Ok.head c.in-Ended.ensures.0 c.in-Ended.ensures.1 c.in-Ok.ensures

pub returns-in-Err : goal.returns-in-Err
returns-in-Err c = front_fails c.args.place c.args.bytes.now c.min.result c.min.ensures c.in-Ended.size c.in-Err.fault c.in-Ended.ensures.0 c.in-Ended.ensures.1 c.in-Err.ensures
