use Rattle.std.proofs.Common.{rules, append_assoc}
use Rattle.std.proofs.lemmas.Result.{IfOk-equal}
use Rattle.cds_codec.specs.Record.{bytes_of_32}
use Rattle.cds_codec.proofs.pushing.RowField.push.Goals as goal

pub returns : goal.returns
unfolding bytes_of_32
returns c = search (rules, IfOk-equal, append_assoc)
