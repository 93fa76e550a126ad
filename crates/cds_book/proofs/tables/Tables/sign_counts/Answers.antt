use Rattle.cds_book.proofs.SequenceLaws.{counts-sign}
use Rattle.cds_book.proofs.tables.Tables.sign_counts.Goals as goal

pub returns : goal.returns
returns c number basis moment name meaning =
    counts-sign _ c.rules.ensures c.args.sequence number basis moment name meaning c.args.text.now _ _ _ c.requires.there c.signatures.ensures.value c.signed_bytes_in_all.ensures.value c.len.ensures
