-- Which commands a request makes, and which change they come to.
use Rattle.std.proofs.Common.{◌≡◌, ℕ, ◌≤◌, Bool, true, false, List, length, Result, Err, cond, is_ok, refl, sym, subst}
use Rattle.std.specs.Prelude.{nat_le}
use Rattle.std.proofs.lemmas.Bool.{leb-true}
use Rattle.cds_rules.specs.Stated.{stated}
use Rattle.cds_rules.specs.declared.error.MethodError.{MethodError}
use Rattle.cds_rules.specs.declared.error.MethodError.TheVariants.{TooLong}
use Rattle.cds_rules.specs.declared.limits.TheConstants.{MOST_METHOD_BYTES}
use Rattle.cds_book.specs.Kept.{IsMethod}
use Rattle.cds_book.specs.Plan.{command_of}
use Rattle.cds_sign.specs.declared.command.Change.{Change}
use Rattle.cds_sign.specs.declared.command.Command.{Command}
use Rattle.cds_desk.specs.Commands.{IsBrief}

-- the record of a change can be kept where that of what asked for it can
pub brief : (asked : Command) (c : Change) → command_of c ≡ asked → IsBrief asked → IsBrief (command_of c)
brief asked c is may = subst IsBrief (sym is) may

-- ---- methods

bounded : {A : Type 0} (b : Bool) (r : Result A MethodError) → is_ok (cond b r (Err TooLong)) ≡ true → b ≡ true
bounded true r h = refl
bounded false r h = h

-- a method has at most 65,536 bytes
pub method_length : (text : List ℕ) → IsMethod text → length text ≤ MOST_METHOD_BYTES
unfolding stated
method_length text h = leb-true (length text) MOST_METHOD_BYTES (bounded (nat_le (length text) MOST_METHOD_BYTES) _ h)
