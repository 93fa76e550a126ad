-- The commands that the program has: which of those that words state, and over which stores.
use Rattle.std.specs.Prelude.{ℕ, ◌-◌, ◌&&◌, ◌||◌, ◌==◌, Bool, List, length, drop, codes, Option, Some, None, nat_le}
use Rattle.std.specs.Prelude.{if◌then◌else◌}
use Rattle.std.specs.Option.{option_and_then}
use Rattle.std.specs.Str.{bytes_eq}
use Rattle.cds_words.specs.Commands.{TopCommand, peaks, session, serve, demo, migrate, command_of}

-- a file that SQLite reads: its name ends in `.db`
abbrev pub is_sql_file : List ℕ → Bool
is_sql_file name = nat_le 3 (length name) && bytes_eq (drop (length name - 3) name) (codes ".db")

-- a store that the program has: the one in memory, which has the empty name, and each file that SQLite reads
abbrev pub is_store : List ℕ → Bool
is_store name = (length name == 0) || is_sql_file name

-- the command, where the program has it; it has no demo and no migration yet
abbrev pub known : TopCommand → Option TopCommand
known (peaks options) = Some (peaks options)
known (session store) = if is_store store then Some (session store) else None
known (serve port number store) = if is_store store then Some (serve port number store) else None
known (demo seed rows) = None
known (migrate store) = None

-- the command that the words state, where the program has it
abbrev pub command_in : List (List ℕ) → Option TopCommand
command_in words = option_and_then known (command_of words)
