-- How bases are raised, one sequence after the other. No public clause names this.
use Rattle.std.specs.Prelude.{◌≡◌, ℕ, Bool, List, [], ◌∷◌}
use Rattle.cds_sign.specs.declared.command.Change.{Change}
use Rattle.cds_sign.specs.declared.command.Change.TheVariants as change
use Rattle.cds_book.specs.Plan.{raised}
use Rattle.cds_book.specs.Tables.{NamedSequence}

-- the sequences, of which the first ones have their bases raised as told
abbrev pub raised_by : List Bool → List NamedSequence → List NamedSequence
raised_by [] es = es
raised_by (b ∷ bs) [] = []
raised_by (b ∷ bs) (e ∷ es) = raised b e ∷ raised_by bs es

-- a change of the sequence of this name itself, which makes one
abbrev pub Makes : List ℕ → Change → Type 0
Makes own (change.Trace name signal) = ⊥
Makes own (change.Draft name text) = ⊥
Makes own (change.Freeze name version) = ⊥
Makes own (change.Sequence name edition method version standards rows) = name ≡ own
Makes own (change.Events name edition row events) = name ≡ own
Makes own (change.Rebind name edition version) = name ≡ own
Makes own (change.Sign sequence number basis moment name meaning text) = ⊥

-- a signature of the sequence of this name
abbrev pub Signs : List ℕ → Change → Type 0
Signs own (change.Trace name signal) = ⊥
Signs own (change.Draft name text) = ⊥
Signs own (change.Freeze name version) = ⊥
Signs own (change.Sequence name edition method version standards rows) = ⊥
Signs own (change.Events name edition row events) = ⊥
Signs own (change.Rebind name edition version) = ⊥
Signs own (change.Sign sequence number basis moment name meaning text) = sequence ≡ own
