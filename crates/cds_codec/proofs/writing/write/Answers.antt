use Rattle.std.proofs.Common.{◌≡◌, rules}
use Rattle.cds_codec.specs.Record.{record_of}
use Rattle.cds_codec.proofs.Lengths.{record-length}
use Rattle.cds_codec.proofs.writing.write.Goals as goal

pub returns-clause-short : goal.returns-clause-short
returns-clause-short c =
    let h = record-length c.args.change.now c.requires in
    let same : c.from_vec.result ≡ record_of c.args.change.now = search rules in
    rw same h
