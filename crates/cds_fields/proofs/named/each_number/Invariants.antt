use Rattle.std.proofs.Common.{◌≡◌, ◌+◌, [], length, string_bytes}
use Rattle.cds_fields.specs.Section.{each_named}
use Rattle.cds_fields.specs.Seen.{fields_seen}
use Rattle.cds_fields.specs.Values.{signed_in}
use Rattle.cds_fields.proofs.named.each_number.Given as goal

abbrev pub invariant-loop-key : goal.invariant-loop-key
invariant-loop-key g l =
    let shown = g.V.TextValue.shown in
    let told = g.E.Refusal.told in
    record {
      left : each_named (signed_in l.least l.most) (string_bytes l.section.front) told l.numbers.items (fields_seen shown l.key-iterator)
          ≡ each_named (signed_in l.least l.most) (string_bytes l.section.front) told [] (fields_seen shown l.section.fields.now.entries);
      count : length l.numbers.items + length l.key-iterator ≡ length l.section.fields.now.entries;
    }
