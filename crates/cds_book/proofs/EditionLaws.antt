-- The numbers of the sequence of a change once the change is carried out.
use Rattle.std.proofs.Common.{◌≡◌, ℕ, ◌+◌, ◌≤◌, List, Some, option_map, refl, ap, ◌∙◌, subst}
use Rattle.std.specs.Prelude.{if◌then◌else◌}
use Rattle.cds_sign.specs.declared.command.Change.{Change}
use Rattle.cds_sign.specs.declared.command.Change.TheVariants as change
use Rattle.cds_sign.specs.declared.limits.TheConstants.{MOST_BASIS}
use Rattle.cds_book.specs.Judged.{edition_of}
use Rattle.cds_book.specs.Kept.{IsTables}
use Rattle.cds_book.specs.Numbers.{numbers_of}
use Rattle.cds_book.specs.Plan.{applied, basis_of, carried, inputs_differ, sequence_changed, Accepts}
use Rattle.cds_book.specs.Raising.{Makes}
use Rattle.cds_book.specs.Tables.{TablesState, sequence_of, signatures_of}
use Rattle.cds_book.proofs.AcceptedLaws.{MakesSequence, MakesSequence-accepted}
use Rattle.cds_book.proofs.AgainLaws.{sequence_of-made}
use Rattle.cds_book.proofs.KeptLaws.{few-made}

-- a change of a sequence makes one
Makes-changed : (c : Change) (own : List ℕ) → sequence_changed c ≡ Some own → Makes own c
Makes-changed (change.Trace name signal) own is = absurd cc
Makes-changed (change.Draft name text) own is = absurd cc
Makes-changed (change.Freeze name version) own is = absurd cc
Makes-changed (change.Sequence name edition method version standards rows) own is = cc
Makes-changed (change.Events name edition row events) own is = cc
Makes-changed (change.Rebind name edition version) own is = cc
Makes-changed (change.Sign sequence number basis moment name meaning text) own is = absurd cc

module _ (t : TablesState) (c : Change) (own : List ℕ) (kept : IsTables t) (accepts : Accepts t c) (is : sequence_changed c ≡ Some own) where
  m : MakesSequence t c own
  m = MakesSequence-accepted t kept c own (Makes-changed c own is) accepts

  -- the basis before can rise
  pub few-before : basis_of t own ≤ MOST_BASIS
  few-before = subst (λ n. n ≤ MOST_BASIS) m.basis (few-made t kept c m.made m.made_is)

  -- the next edition, and the basis with what it rises by
  pub numbers-after : option_map numbers_of (sequence_of (applied t c) own) ≡ Some (record {
    edition = edition_of t own + 1;
    basis = basis_of t own + (if inputs_differ t (carried t c) own then 1 else 0);
  })
  numbers-after =
      ap (option_map numbers_of) (sequence_of-made t c own m.made (signatures_of t own) m.carried_is)
      ∙ rw (m.edition, m.basis) refl
