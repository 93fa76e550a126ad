use Rattle.std.proofs.Common.{arith}
use Rattle.std.proofs.lemmas.Result.{IfOk-weaker}
use Rattle.cds_codec.proofs.ChangeLaws.{reads}
use Rattle.cds_codec.proofs.reading.read.Goals as goal

pub returns : goal.returns
returns c = IfOk-weaker c.change_of.result _ _
    (λ stated e. reads c.args.bytes.now stated (λ i. omega (arith, c.type_inv.bytes i)) e) c.change_of.ensures
