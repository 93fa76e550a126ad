-- A request that is answered as unchanged.
use Rattle.std.specs.Prelude.{◌≡◌, Bool, true, false, None}
use Rattle.cds_wire.specs.declared.answer.Answer.{Answer}
use Rattle.cds_wire.specs.declared.answer.Answer.TheVariants as answer
use Rattle.cds_respond.specs.Replies.{answered}
use Rattle.cds_desk.specs.Judged.{reply_of, change_of}
use Rattle.cds_desk.specs.declared.judged.Judged.{Judged}

-- the answer says `"unchanged":true`
abbrev pub says_unchanged : Answer → Bool
says_unchanged (answer.Trace samples unchanged version) = unchanged
says_unchanged (answer.Draft unchanged) = unchanged
says_unchanged (answer.Freeze unchanged version) = unchanged
says_unchanged (answer.Sequence basis edition unchanged) = unchanged
says_unchanged (answer.Sign basis number signed unchanged) = unchanged
says_unchanged (answer.Refusal error number value) = false

-- nothing is changed, and the reply is 200 with `"unchanged":true`
abbrev pub IsUnchanged : Judged → Type 0
IsUnchanged j = (change_of j ≡ None) × (a : Answer) × (reply_of j ≡ answered 200 a) × (says_unchanged a ≡ true)
