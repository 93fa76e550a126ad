use Rattle.std.proofs.Common.{◌≡◌, ◌+◌, drop}
use Rattle.std.specs.List.{prefix_len}
use Rattle.httparse.specs.Pieces.{is_newline}
use Rattle.cds_http.proofs.head.blank_len.Given as goal

-- every byte before `at` is of a line end
abbrev pub invariant-loop-at : goal.invariant-loop-at
invariant-loop-at l = prefix_len is_newline l.bytes ≡ l.at + prefix_len is_newline (drop l.at l.bytes)
