-- What is put together out of kept nodes is the sequence as its rows are found.
use Rattle.std.proofs.Common.{◌≡◌, ◌∙◌, ℕ, Bool, true, false, cond, List, [], ◌∷◌, map, Option, Some, None, Result}
use Rattle.std.proofs.Common.{Ok, Err}
use Rattle.std.proofs.Common.{option_map, find, is_some, is_none, ok_or, refl, sym, ap, ap₂}
use Rattle.std.specs.Option.{option_and_then}
use Rattle.cds_base.specs.Answers.{◌>>=◌}
use Rattle.cds_base.specs.declared.peak.Missing.{Missing}
use Rattle.cds_base.specs.declared.peak.Missing.TheVariants.{NoBlank, NoNoise}
use Rattle.cds_figures.specs.Noise.{noise_of}
use Rattle.cds_integrate.specs.Seen.{seen}
use Rattle.cds_rules.specs.Fields.{Fields}
use Rattle.cds_sign.specs.declared.inputs.Inputs.{Inputs}
use Rattle.cds_sign.specs.declared.inputs.Listed.{Listed}
use Rattle.cds_sign.specs.declared.inputs.ListedRow.{ListedRow}
use Rattle.cds_sign.specs.declared.row.Row.{Row}
use Rattle.cds_book.specs.Tables.{TablesState}
use Rattle.cds_graph.specs.declared.found.RowNode.{RowNode}
use Rattle.cds_graph.specs.declared.key.RowKey.{RowKey}
use Rattle.cds_graph.specs.Building.{listed_key}
use Rattle.cds_graph.specs.Found.{FoundRow, FoundStandard, FoundListed, FoundSequence, found_of, listed_found}
use Rattle.cds_graph.specs.Found.{row_found, standard_found}
use Rattle.cds_graph.specs.HeldGraph.{row_node_shown}
use Rattle.cds_graph.specs.Kept.{KeptRow, row_under, noise_under}
use Rattle.cds_graph.specs.Keys.{NoiseKey, noise_key, noise_key_by, row_key}
use Rattle.cds_graph.specs.Noise.{NoiseWindow, noise_in, window_of}
use Rattle.cds_graph.specs.Recorded.{RecordedRow, fields_in, listed_in, recorded_in, recorded_of, standard_in}
use Rattle.cds_graph.specs.Rows.{is_blank}

-- two maps one after the other
map-both : {X Y Z : Type 0} (g : Y → Z) (f : X → Y) (xs : List X) → map (λ x. g (f x)) xs ≡ map g (map f xs)
map-both g f [] = refl
map-both g f (x ∷ xs) = ap (λ l. g (f x) ∷ l) (map-both g f xs)

-- a row with its node
pub row-gathered : (t : TablesState) (inputs : Inputs) (row copy : Row) (key : RowKey) (node : RowNode) →
    key ≡ row_key inputs row → row_node_shown node ≡ row_under t key → copy ≡ row →
    record { row = copy; period = node.period; found = seen node.part }
    ≡ row_found (fields_in t inputs.method inputs.version) (recorded_in t row)
unfolding row_under
row-gathered t inputs row copy key node keyed is same =
    let under : row_node_shown node ≡ row_under t (row_key inputs row) = is ∙ ap (row_under t) keyed in
    rw same (ap₂ (λ p f. record { row = row; period = p; found = f }) (ap (λ (r : KeptRow). r.period) under)
    (ap (λ (r : KeptRow). r.found) under))

-- a standard row with its node
pub standard-gathered : (t : TablesState) (listed : Listed) (row copy : ListedRow) (key : RowKey) (node : RowNode) →
    key ≡ listed_key listed row → row_node_shown node ≡ row_under t key → copy ≡ row →
    record { row = copy; found = seen node.part }
    ≡ standard_found (fields_in t listed.method listed.version) (standard_in t row)
unfolding row_under
standard-gathered t listed row copy key node keyed is same =
    let under : row_node_shown node ≡ row_under t (listed_key listed row) = is ∙ ap (row_under t) keyed in
    rw same (ap (λ f. record { row = row; found = f }) (ap (λ (r : KeptRow). r.found) under))

-- a listed sequence
pub listed-gathered : (t : TablesState) (listed : Listed) (fields : Fields) (rows : List FoundStandard) →
    fields ≡ fields_in t listed.method listed.version →
    rows ≡ map (λ (row : ListedRow). standard_found (fields_in t listed.method listed.version) (standard_in t row))
    listed.rows → record { fields = fields; rows = rows } ≡ listed_found (listed_in t listed)
listed-gathered t listed fields rows stated are =
    rw (stated, are, map-both (standard_found (fields_in t listed.method listed.version)) (standard_in t) listed.rows)
    refl

-- a sequence
pub sequence-gathered : (t : TablesState) (inputs : Inputs) (fields : Fields) (rows : List FoundRow)
    (standards : List FoundListed) (noise : Result ℕ Missing) → fields ≡ fields_in t inputs.method inputs.version →
    rows ≡ map (λ (row : Row). row_found (fields_in t inputs.method inputs.version) (recorded_in t row)) inputs.rows →
    standards ≡ map (λ (listed : Listed). listed_found (listed_in t listed)) inputs.standards →
    noise ≡ noise_in (recorded_of t inputs) →
    record { fields = fields; rows = rows; standards = standards; noise = noise } ≡ found_of (recorded_of t inputs)
sequence-gathered t inputs fields rows standards noise stated are listed found =
    rw (
      stated,
      are,
      listed,
      found,
      map-both (row_found (fields_in t inputs.method inputs.version)) (recorded_in t) inputs.rows,
      map-both listed_found (listed_in t) inputs.standards,
    ) refl

-- the first blank row with its signal
find-recorded : (t : TablesState) (rows : List Row) →
    find (λ (r : RecordedRow). is_blank r.row.kind) (map (recorded_in t) rows)
    ≡ option_map (recorded_in t) (find (λ (r : Row). is_blank r.kind) rows)
find-recorded t [] = refl
find-recorded t (row ∷ rows) = by_test (is_blank row.kind) (find-recorded t rows)
  where
    by_test : (b : Bool) → find (λ (r : RecordedRow). is_blank r.row.kind) (map (recorded_in t) rows)
        ≡ option_map (recorded_in t) (find (λ (r : Row). is_blank r.kind) rows) →
        cond b (Some (recorded_in t row)) (find (λ (r : RecordedRow). is_blank r.row.kind) (map (recorded_in t) rows))
        ≡ option_map (recorded_in t) (cond b (Some row) (find (λ (r : Row). is_blank r.kind) rows))
    by_test true later = refl
    by_test false later = later

-- the noise of the first blank row in a window, or why there is none
by_blank : TablesState → Option Row → Option NoiseWindow → Result ℕ Missing
by_blank t blank window =
    ok_or (option_map (recorded_in t) blank) NoBlank >>= λ recorded.
    ok_or window NoNoise >>= λ w. ok_or (noise_of recorded.signal w.from_ms w.to_ms) NoNoise

noise_in-blank : (t : TablesState) (inputs : Inputs) → noise_in (recorded_of t inputs)
    ≡ by_blank t (find (λ (r : Row). is_blank r.kind) inputs.rows)
    (window_of (fields_in t inputs.method inputs.version))
unfolding noise_in by_blank
noise_in-blank t inputs = rw (find-recorded t inputs.rows) refl

-- there is no blank row
pub noise-no_blank : (t : TablesState) (inputs : Inputs) (first : Option Row) →
    first ≡ find (λ (r : Row). is_blank r.kind) inputs.rows → is_none first ≡ true →
    Err NoBlank ≡ noise_in (recorded_of t inputs)
unfolding by_blank
noise-no_blank t inputs None is none = rw (noise_in-blank t inputs, ← is) refl
noise-no_blank t inputs (Some row) is none = cc

-- there is no window
pub noise-no_window : (t : TablesState) (inputs : Inputs) (first : Option Row) →
    first ≡ find (λ (r : Row). is_blank r.kind) inputs.rows → is_none first ≡ false →
    None ≡ noise_key_by (fields_in t inputs.method inputs.version) inputs →
    Err NoNoise ≡ noise_in (recorded_of t inputs)
unfolding by_blank
noise-no_window t inputs None is some none = cc
noise-no_window t inputs (Some row) is some none =
    rw (noise_in-blank t inputs, ← is)
    (by_window (window_of (fields_in t inputs.method inputs.version)) (rw (← is) at none))
  where
    by_window : (w : Option NoiseWindow) → None ≡ option_map (noise_key row) w →
        Err NoNoise ≡ by_blank t (Some row) w
    by_window None none = refl
    by_window (Some w) none = cc

-- there is a key
pub noise-keyed : (t : TablesState) (inputs : Inputs) (key : NoiseKey) →
    Some key ≡ noise_key_by (fields_in t inputs.method inputs.version) inputs →
    ok_or (noise_under t key).noise NoNoise ≡ noise_in (recorded_of t inputs)
unfolding by_blank noise_under
noise-keyed t inputs key keyed =
    rw (noise_in-blank t inputs) (by_row (find (λ (r : Row). is_blank r.kind) inputs.rows)
    (window_of (fields_in t inputs.method inputs.version)) keyed)
  where
    by_row : (first : Option Row) (w : Option NoiseWindow) →
        Some key ≡ option_and_then (λ (r : Row). option_map (noise_key r) w) first →
        ok_or (noise_under t key).noise NoNoise ≡ by_blank t first w
    by_row None w is = cc
    by_row (Some row) None is = cc
    by_row (Some row) (Some w) is =
        let one : key ≡ noise_key row w = cc in
        rw one refl
