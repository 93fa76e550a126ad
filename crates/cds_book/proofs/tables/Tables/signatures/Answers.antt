use Rattle.std.proofs.Common.{◌∙◌, ◌≤◌, length, sym, subst, List}
use Rattle.cds_sign.specs.declared.limits.TheConstants.{MOST_SIGNATURES}
use Rattle.cds_sign.specs.declared.signed.Signed.{Signed}
use Rattle.cds_book.proofs.LookLaws.{rising_sequences, sequence_named-none, sequence_named-some, signatures_of-found, IsSequenceEntry-found}
use Rattle.cds_book.proofs.tables.Tables.signatures.Goals as goal

-- the names rise
pub find-requires : goal.find-requires
find-requires c = rising_sequences c.self.inside c.self.invariant

-- the sequence isn't there
pub returns-in_default-clause-value : goal.returns-in_default-clause-value
returns-in_default-clause-value c = sym (signatures_of-found _ _ _ (sequence_named-none c.self.inside _ c.self.view_is _ c.in_default.ensures))

-- its signatures are those that were found
pub returns-clause-value : goal.returns-clause-value
returns-clause-value c =
    let found = sequence_named-some c.self.inside _ c.self.view_is _ c.in-Some.kept.now c.in-Some.ensures in
    c.deref.ensures.value ∙ sym (signatures_of-found _ _ _ found.1)

-- there are few of them
pub returns-clause-few : goal.returns-clause-few
returns-clause-few c =
    let found = sequence_named-some c.self.inside _ c.self.view_is _ c.in-Some.kept.now c.in-Some.ensures in
    subst (λ (xs : List Signed). length xs ≤ MOST_SIGNATURES) (sym c.deref.ensures.value) (IsSequenceEntry-found c.self.inside _ c.self.view_is _ c.self.invariant _ found.1).few_signed
