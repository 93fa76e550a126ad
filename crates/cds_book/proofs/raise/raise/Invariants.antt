use Rattle.std.proofs.Common.{◌≡◌, map, take, vec_len, vec_capacity}
use Rattle.cds_book.specs.Held.{sequence_shown}
use Rattle.cds_book.specs.Raising.{raised_by}
use Rattle.cds_book.proofs.raise.raise.Given as goal

abbrev pub invariant-loop-place : goal.invariant-loop-place
invariant-loop-place l = record {
  shown : map sequence_shown l.list.entries.items ≡ raised_by (take l.place l.rises) (map sequence_shown l.initial.list.entries.items);
  len : vec_len l.list.entries ≡ vec_len l.initial.list.entries;
  capacity : vec_capacity l.list.entries ≡ vec_capacity l.initial.list.entries;
}
