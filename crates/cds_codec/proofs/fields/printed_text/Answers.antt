use Rattle.std.proofs.Common.{◌≡◌, true, false}
use Rattle.std.specs.Str.{IsUtf8}
use Rattle.cds_codec.proofs.PrintedLaws.{printed-utf8}
use Rattle.cds_codec.proofs.fields.printed_text.Goals as goal

pub unreachable-requires : goal.unreachable-requires
unreachable-requires c =
    let utf8 = printed-utf8 c.args.text.now c.requires in
    let whole : IsUtf8 c.in_ok-from_slice.field-0.items = rw c.in_ok-from_slice.ensures.items utf8 in
    let fails : false ≡ true = c.in-Err.ensures.succeeds whole in
    absurd cc
