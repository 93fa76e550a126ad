use Rattle.std.proofs.Common.{rules}
use Rattle.cds_fields.proofs.Utf8.{toml_fields-utf8, toml_fields-none}
use Rattle.cds_fields.proofs.text.read_toml.Goals as goal

pub returns-in-Ok : goal.returns-in-Ok
returns-in-Ok c = let read = c.in-Ok.ensures.ok in toml_fields-utf8 c.args.text.now _ read.0 read.1

pub returns-else-is_memory : goal.returns-else-is_memory
returns-else-is_memory c = toml_fields-none c.args.text.now (c.in-Err.ensures.refused (search rules))
