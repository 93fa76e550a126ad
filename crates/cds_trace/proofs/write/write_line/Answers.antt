use Rattle.std.proofs.Common.{arith}
use Rattle.std.proofs.lemmas.Fmt.{length-decimal-le}
use Rattle.cds_trace.proofs.write.write_line.Goals as goal

pub write_digits-requires : goal.write_digits-requires
write_digits-requires c =
    let short = length-decimal-le 11 c.args.time (omega arith) (omega arith) (omega arith) in
    (omega arith, omega arith)
