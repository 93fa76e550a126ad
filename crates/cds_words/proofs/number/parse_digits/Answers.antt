use Rattle.std.proofs.Common.{◌∙◌}
use Rattle.cds_words.proofs.Numbers.{parsed_digits}
use Rattle.cds_words.proofs.number.parse_digits.Goals as goal

pub returns : goal.returns
returns c = c.ok.ensures.value ∙ parsed_digits c.args.digits.now c.parse.result c.parse.ensures.value.0 c.requires
