-- The commands of the command line: which lists of words are a command, and what they set. This project's own.
use Rattle.std.specs.Prelude.{⊤, ℕ, ◌||◌, ◌≤◌, List, [], ◌∷◌, codes, Option, Some, None}
use Rattle.std.specs.Prelude.{option_map, is_some, unwrap_or, if◌then◌else◌}
use Rattle.std.specs.Option.{option_and_then}
use Rattle.std.specs.Str.{bytes_eq}
use Rattle.cds_base.specs.declared.event.TheConstants.{MOST_SLOPE}
use Rattle.cds_rules.specs.declared.limits.TheConstants.{MOST_BUNCH, MOST_PLATEAU}
use Rattle.cds_rules.specs.Ranges.{SlopeRanges}
use Rattle.cds_words.specs.Numbers.{number_in, number_of}
use Rattle.cds_words.specs.Options.{Given, nothing_given, given_from, has_detection, has_serving, has_demo}
use Rattle.cds_words.specs.declared.command.CommandLine.{CommandLine}
use Rattle.cds_words.specs.declared.command.CommandLine.TheVariants.{Peaks, Session, Serve, Demo, Migrate}
use Rattle.cds_words.specs.declared.command.PeaksOptions.{PeaksOptions}
use Rattle.cds_words.specs.declared.limits.TheConstants.{MOST_PORT, MOST_CONNECTIONS, MOST_SAMPLE_ROWS}

-- a number in its range, where the option was given
abbrev pub number_given : ℕ → ℕ → Option (List ℕ) → Option ℕ
number_given low high value = option_and_then (number_in low high) value

-- four numbers as options of `peaks`, where each is there
abbrev pub options_from : Option ℕ → Option ℕ → Option ℕ → Option ℕ → Option PeaksOptions
options_from (Some bunch) (Some on) (Some off) (Some plateau) =
    Some (record { bunch = bunch; slope_on = on; slope_off = off; plateau = plateau })
options_from _ _ _ _ = None

-- a command, as its words set it
pub data TopCommand : Type 0 where
  -- `peaks` with its options
  peaks : PeaksOptions → TopCommand
  -- `session` over the store of this name
  session : List ℕ → TopCommand
  -- `serve` at this port, for this number of connections, over the store of this name
  serve : ℕ → ℕ → List ℕ → TopCommand
  -- `demo` with this seed and this number of sample rows
  demo : ℕ → ℕ → TopCommand
  -- `migrate` of the store of this name
  migrate : List ℕ → TopCommand

-- `peaks --bunch B --on T --off T --plateau P`, all four required
abbrev pub peaks_of : Given → Option TopCommand
peaks_of g = if (is_some g.store || has_serving g) || has_demo g then None
    else option_map peaks (options_from (number_given 1 MOST_BUNCH g.bunch) (number_given 1 MOST_SLOPE g.slope_on)
    (number_given 1 MOST_SLOPE g.slope_off) (number_given 0 MOST_PLATEAU g.plateau))

-- `session --store NAME`, and the store of the empty name where none is named
abbrev pub session_of : Given → Option TopCommand
session_of g = if (has_detection g || has_serving g) || has_demo g then None else Some (session (unwrap_or g.store []))

-- a port and a number of connections as `serve`, where both are there
abbrev pub serve_from : Option ℕ → Option ℕ → List ℕ → Option TopCommand
serve_from (Some port) (Some connections) store = Some (serve port connections store)
serve_from _ _ store = None

-- `serve --port P --connections N --store NAME`, and the store of the empty name where none is named
abbrev pub serve_of : Given → Option TopCommand
serve_of g = if has_detection g || has_demo g then None
    else serve_from (number_given 1 MOST_PORT g.port) (number_given 1 MOST_CONNECTIONS g.connections)
    (unwrap_or g.store [])

-- a seed and a number of rows as `demo`, where both are there
abbrev pub demo_from : Option ℕ → Option ℕ → Option TopCommand
demo_from (Some seed) (Some rows) = Some (demo seed rows)
demo_from _ _ = None

-- `demo --seed S --rows R`, both required; any number below 2^64 is a seed
abbrev pub demo_of : Given → Option TopCommand
demo_of g = if (has_detection g || has_serving g) || is_some g.store then None
    else demo_from (option_and_then number_of g.seed) (number_given 1 MOST_SAMPLE_ROWS g.rows)

-- `migrate --store NAME`, which is required
abbrev pub migrate_of : Given → Option TopCommand
migrate_of g = if (has_detection g || has_serving g) || has_demo g then None else option_map migrate g.store

-- the command of a name with these options; there is none of another name
abbrev pub command_named : List ℕ → Given → Option TopCommand
command_named name g =
    if bytes_eq name (codes "peaks") then peaks_of g
    else if bytes_eq name (codes "session") then session_of g
    else if bytes_eq name (codes "serve") then serve_of g
    else if bytes_eq name (codes "demo") then demo_of g
    else if bytes_eq name (codes "migrate") then migrate_of g
    else None

-- the command that the words state, if they state one: its name, and then its options
unfoldable pub command_of : List (List ℕ) → Option TopCommand
command_of [] = None
command_of (name ∷ words) = option_and_then (command_named name) (given_from nothing_given words)

-- what a command of the program is
abbrev pub command_is : CommandLine → TopCommand
command_is (Peaks options) = peaks options
command_is (Session store) = session store.now
command_is (Serve port connections store) = serve port connections store.now
command_is (Demo seed rows) = demo seed rows
command_is (Migrate store) = migrate store.now

-- the options of a command lie in their ranges
abbrev pub HasRanges : CommandLine → Type 0
HasRanges (Peaks o) = SlopeRanges o.bunch o.slope_on o.slope_off o.plateau
HasRanges (Session store) = ⊤
HasRanges (Serve port connections store) = (1 ≤ port) × ((1 ≤ connections) × (connections ≤ MOST_CONNECTIONS))
HasRanges (Demo seed rows) = (1 ≤ rows) × (rows ≤ MOST_SAMPLE_ROWS)
HasRanges (Migrate store) = ⊤
