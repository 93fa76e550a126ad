-- What all tables keep, whatever was done to them. This project's own.
use Rattle.std.specs.Prelude.{◌≡◌, ◌≢◌, ◌⊎◌, ℕ, ◌+◌, ◌<◌, ◌≤◌, true, List, [], All, IfSome, IsSome, IsTrue, is_ok, length, map, sum_by}
use Rattle.std.specs.List.{AllAdjacentBelow, IsDistinct}
use Rattle.std.specs.Str.{bytes_eq}
use Rattle.cds_rules.specs.Stated.{stated}
use Rattle.cds_base.specs.NameText.{IsName}
use Rattle.cds_base.specs.Named.{AreRising}
use Rattle.cds_base.specs.declared.clock.TheConstants.{MOMENT_LIMIT}
use Rattle.cds_trace.specs.Signal.{IsTrace}
use Rattle.cds_sign.specs.Printed.{is_printed}
use Rattle.cds_sign.specs.Ranges.{AreRows, AreStandards, IsRow}
use Rattle.cds_sign.specs.declared.limits.TheConstants.{MOST_EDITION, MOST_VERSIONS, MOST_SIGNATURES}
use Rattle.cds_sign.specs.declared.row.Row.{Row}
use Rattle.cds_sign.specs.declared.sequence.Sequence.{Sequence}
use Rattle.cds_sign.specs.declared.signed.Signed.{Signed}
use Rattle.cds_book.specs.Inputs.{is_standard}
use Rattle.cds_book.specs.Tables.{NamedTraces, NamedMethod, NamedSequence, TablesState, numbered, sequence_of, signals_of, texts_of}
use Rattle.cds_book.specs.declared.limits.TheConstants.{MOST_TRACE_NAMES, MOST_TRACE_VERSIONS, MOST_SAMPLES_IN_ALL, MOST_METHODS, MOST_METHOD_VERSIONS, MOST_SEQUENCES, MOST_ROWS_IN_ALL, MOST_SIGNED_BYTES}

-- a version is never equal to the one before it
abbrev pub AreChanges : {X : Type 0} → List X → Type 0
AreChanges versions = AllAdjacentBelow (λ before after. before ≢ after) versions (length versions)

-- a text that the reader of methods accepts
abbrev pub IsMethod : List ℕ → Type 0
IsMethod text = IsTrue (is_ok (stated text))

-- how many versions all trace names have together
abbrev pub trace_versions_in_all : List NamedTraces → ℕ
trace_versions_in_all traces = sum_by (λ entry. length entry.versions) traces

-- how many samples all versions of all trace names have together
abbrev pub samples_in_all : List NamedTraces → ℕ
samples_in_all traces = sum_by (λ entry. sum_by (λ signal. length signal.samples) entry.versions) traces

-- how many versions all methods have together
abbrev pub method_versions_in_all : List NamedMethod → ℕ
method_versions_in_all methods = sum_by (λ entry. length entry.versions) methods

-- how many rows all sequences have together
abbrev pub rows_in_all : List NamedSequence → ℕ
rows_in_all sequences = sum_by (λ entry. length entry.sequence.rows) sequences

-- how many bytes all signed texts have together
abbrev pub signed_bytes_in_all : List NamedSequence → ℕ
signed_bytes_in_all sequences = sum_by (λ entry. sum_by (λ signed. length signed.text) entry.signed) sequences

-- what is kept of a trace name: it is a name, it has a version, at most 1,000, each is a trace, and each differs from
-- the one before it
pub record IsTraceEntry (entry : NamedTraces) : Type 0 where
  pub name : IsName entry.name
  pub traces : All IsTrace entry.versions
  pub some : 1 ≤ length entry.versions
  pub few : length entry.versions ≤ MOST_VERSIONS
  pub changes : AreChanges entry.versions

-- what is kept of a method: it stands under a name, its draft and its versions are methods, it has at most 1,000
-- versions, and each differs from the one before it
pub record IsMethodEntry (entry : NamedMethod) : Type 0 where
  pub name : IsName entry.name
  pub draft : IsMethod entry.draft
  pub versions : All IsMethod entry.versions
  pub few : length entry.versions ≤ MOST_VERSIONS
  pub changes : AreChanges entry.versions

-- what is kept of all traces: names rise in byte order, each keeps its rules, and no count passes its limit
pub record IsTraces (traces : List NamedTraces) : Type 0 where
  pub names : AreRising (map (λ entry. entry.name) traces)
  pub each : All IsTraceEntry traces
  pub few : length traces ≤ MOST_TRACE_NAMES
  pub few_versions : trace_versions_in_all traces ≤ MOST_TRACE_VERSIONS
  pub few_samples : samples_in_all traces ≤ MOST_SAMPLES_IN_ALL

-- and of all methods
pub record IsMethods (methods : List NamedMethod) : Type 0 where
  pub names : AreRising (map (λ entry. entry.name) methods)
  pub each : All IsMethodEntry methods
  pub few : length methods ≤ MOST_METHODS
  pub few_versions : method_versions_in_all methods ≤ MOST_METHOD_VERSIONS

-- how often sequences were changed, and how many versions there are: no basis can have risen more often
abbrev pub changes_in_all : TablesState → ℕ
changes_in_all tables =
    sum_by (λ (entry : NamedSequence). entry.sequence.edition) tables.sequences
    + (trace_versions_in_all tables.traces + method_versions_in_all tables.methods)

-- a version that is bound is there: there is one at all, and the one that is named is no later than the latest
abbrev pub Resolves : ℕ → ℕ → Type 0
Resolves count version = (1 ≤ count) × (version ≤ count)

-- what a sequence binds is there: the version of its method, and that of the trace of each row
pub record IsBound (tables : TablesState) (sequence : Sequence) : Type 0 where
  pub method : Resolves (length (texts_of tables sequence.method)) sequence.version
  pub rows : All (λ (row : Row). Resolves (length (signals_of tables row.trace)) row.version) sequence.rows

-- what each sequence of the tables binds is there
abbrev pub AreBound : TablesState → Type 0
AreBound tables = All (λ (entry : NamedSequence). IsBound tables entry.sequence) tables.sequences

-- the sequences of these names are there
abbrev pub AreThere : TablesState → List (List ℕ) → Type 0
AreThere tables names = All (λ (name : List ℕ). IsSome (sequence_of tables name)) names

-- the sequences that each sequence of the tables lists are there
abbrev pub AreListed : TablesState → Type 0
AreListed tables = All (λ (entry : NamedSequence). AreThere tables entry.sequence.standards) tables.sequences

-- a row states amounts only if it is a standard
abbrev pub HasOwnAmounts : Row → Type 0
HasOwnAmounts row = (row.amounts ≡ []) ⊎ IsTrue (is_standard row.kind)

-- what is kept of the rows of a sequence: there are 1 to 200, each of whose parts is in its range, no two have one
-- label, and standards alone state amounts
pub record AreKeptRows (rows : List Row) : Type 0 where
  pub ranges : AreRows IsRow rows
  pub labels : IsDistinct bytes_eq (map (λ (row : Row). row.label) rows)
  pub amounts : All HasOwnAmounts rows

-- signatures are numbered in their order, from 1
abbrev pub AreNumbered : List Signed → Type 0
AreNumbered signed = (number : ℕ) → IfSome (numbered signed number) (λ s. s.number ≡ number)

-- what is kept of a signature: it is over a basis, counted from 1, its moment is before the year 10000, and
-- the name and the meaning are 1 to 64 printed ASCII characters or spaces
pub record IsSignature (signed : Signed) : Type 0 where
  pub basis : 1 ≤ signed.basis
  pub moment : signed.moment < MOMENT_LIMIT
  pub name : is_printed signed.name ≡ true
  pub meaning : is_printed signed.meaning ≡ true

-- what is kept of a sequence: it stands under a name, its edition and its basis are counted from 1, its edition is at
-- most 2^32, its method has a name, its rows are kept, it lists 1 to 8 sequences, none of them twice, and it has at
-- most 100 signatures, which are numbered and whose parts are kept
pub record IsSequenceEntry (entry : NamedSequence) : Type 0 where
  pub name : IsName entry.name
  pub first_edition : 1 ≤ entry.sequence.edition
  pub edition : entry.sequence.edition ≤ MOST_EDITION + 1
  pub first_basis : 1 ≤ entry.sequence.basis
  pub method : IsName entry.sequence.method
  pub rows : AreKeptRows entry.sequence.rows
  pub standards : AreStandards entry.sequence.standards
  pub few_signed : length entry.signed ≤ MOST_SIGNATURES
  pub signed : All IsSignature entry.signed
  pub numbers : AreNumbered entry.signed

-- and of all sequences
pub record IsSequences (sequences : List NamedSequence) : Type 0 where
  pub names : AreRising (map (λ entry. entry.name) sequences)
  pub each : All IsSequenceEntry sequences
  pub few : length sequences ≤ MOST_SEQUENCES
  pub few_rows : rows_in_all sequences ≤ MOST_ROWS_IN_ALL
  pub few_bytes : signed_bytes_in_all sequences ≤ MOST_SIGNED_BYTES

-- what all tables keep: what sequences bind and list is there, and the number of a basis is at most the number of all
-- changes
pub record IsTables (tables : TablesState) : Type 0 where
  pub traces : IsTraces tables.traces
  pub methods : IsMethods tables.methods
  pub sequences : IsSequences tables.sequences
  pub bases : All (λ (entry : NamedSequence). entry.sequence.basis ≤ changes_in_all tables) tables.sequences
  pub bound : AreBound tables
  pub listed : AreListed tables
