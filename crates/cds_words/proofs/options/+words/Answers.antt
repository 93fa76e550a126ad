use Rattle.std.proofs.Common.{rules, ◌∙◌, sym}
use Rattle.cds_words.proofs.OptionLaws.{joined_words, pair_words}
use Rattle.cds_words.proofs.options.+words.Goals as goal

pub given_from-returns-in-Some-with_option : goal.given_from-returns-in-Some-with_option
given_from-returns-in-Some-with_option t c = c.given_from.ensures ∙ sym (joined_words c.args.words.now c.args.given c.in-Some-with_option.more c.word-item.result c.in-len1-up.len_at_least c.word-item.is (search rules) (search rules))

pub given_from_pair-returns-in-Some : goal.given_from_pair-returns-in-Some
given_from_pair-returns-in-Some t c = c.given_from.ensures ∙ sym (pair_words c.args.words.now c.args.given c.in-Some.more c.args.name.now c.value-item.result c.in-len1-up.len_at_least c.value-item.is (search rules) (search rules))
