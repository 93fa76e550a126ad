-- The JSON of the replies: compact, with the keys in byte order. Their forms are this project's own.
use Rattle.std.specs.Prelude.{ℕ, List, Bool, codes}
use Rattle.std.specs.Char.{is_ascii_lowercase}
use Rattle.std.specs.List.{list_all}
use Rattle.serde_json.specs.Data.{Data, number, unsigned, boolean, string, object, Members, member, no_members}
use Rattle.serde_json.specs.Written.{compact_text}
use Rattle.cds_wire.specs.declared.answer.Answer.{Answer}
use Rattle.cds_wire.specs.declared.answer.Answer.TheVariants.{Trace, Draft, Freeze, Sequence, Sign, Refusal}
use Rattle.cds_wire.specs.declared.answer.Shown.{Shown}
use Rattle.cds_wire.specs.declared.answer.Shown.TheVariants.{Number, Word}

-- a whole number
abbrev pub count : ℕ → Data
count n = number (unsigned n)

-- what a refusal shows: a number or a word
abbrev pub shown_value : Shown → Data
shown_value (Number n) = count n
shown_value (Word text) = string text

-- the fields of a reply
abbrev pub fields_of : Answer → Members
fields_of (Trace samples unchanged version) =
    member (codes "samples") (count samples)
    (member (codes "unchanged") (boolean unchanged) (member (codes "version") (count version) no_members))
fields_of (Draft unchanged) = member (codes "unchanged") (boolean unchanged) no_members
fields_of (Freeze unchanged version) =
    member (codes "unchanged") (boolean unchanged) (member (codes "version") (count version) no_members)
fields_of (Sequence basis edition unchanged) =
    member (codes "basis") (count basis)
    (member (codes "edition") (count edition) (member (codes "unchanged") (boolean unchanged) no_members))
fields_of (Sign basis n signed unchanged) =
    member (codes "basis") (count basis)
    (member (codes "number") (count n)
    (member (codes "signed") (string signed) (member (codes "unchanged") (boolean unchanged) no_members)))
fields_of (Refusal error n value) =
    member (codes "error") (string error)
    (member (codes "number") (count n) (member (codes "value") (shown_value value) no_members))

-- the text of a reply: its object, compact as `serde_json` writes it
abbrev pub reply_text : Answer → List ℕ
reply_text answer = compact_text (object (fields_of answer))

-- a word of small ASCII letters, which JSON writes as it is
abbrev pub is_plain_word : List ℕ → Bool
is_plain_word word = list_all is_ascii_lowercase word
