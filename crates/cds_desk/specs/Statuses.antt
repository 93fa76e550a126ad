-- How a command ends.
use Rattle.std.specs.Prelude.{ℕ, Bool, true, false}
use Rattle.cds_desk.specs.declared.status.Status.{Status}
use Rattle.cds_desk.specs.declared.status.Status.TheVariants.{Done, Refused, NoCommand, SourceFailed, SinkFailed}
use Rattle.cds_desk.specs.declared.status.Status.TheVariants.{KeeperFailed, NoMemory, DoorFailed, Damaged}

-- the number with which the program ends
abbrev pub exit_number : Status → ℕ
exit_number Done = 0
exit_number Refused = 1
exit_number NoCommand = 2
exit_number SourceFailed = 3
exit_number SinkFailed = 4
exit_number KeeperFailed = 5
exit_number NoMemory = 6
exit_number DoorFailed = 7
exit_number Damaged = 8

-- a session was served: to its end, to a fault of the stream, or until the source or the sink failed
abbrev pub is_served : Status → Bool
is_served Done = true
is_served Refused = true
is_served NoCommand = false
is_served SourceFailed = true
is_served SinkFailed = true
is_served KeeperFailed = false
is_served NoMemory = false
is_served DoorFailed = false
is_served Damaged = false

-- a session ended before anything was served: the keeper failed, memory was wanting, or the store is damaged
abbrev pub ends_unserved : Status → Bool
ends_unserved Done = false
ends_unserved Refused = false
ends_unserved NoCommand = false
ends_unserved SourceFailed = false
ends_unserved SinkFailed = false
ends_unserved KeeperFailed = true
ends_unserved NoMemory = true
ends_unserved DoorFailed = false
ends_unserved Damaged = true

-- the ways in which `peaks` ends
abbrev pub ends_peaks : Status → Bool
ends_peaks Done = true
ends_peaks Refused = true
ends_peaks NoCommand = false
ends_peaks SourceFailed = true
ends_peaks SinkFailed = true
ends_peaks KeeperFailed = false
ends_peaks NoMemory = true
ends_peaks DoorFailed = false
ends_peaks Damaged = false

-- the ways in which `serve` ends
abbrev pub ends_serve : Status → Bool
ends_serve Done = true
ends_serve Refused = false
ends_serve NoCommand = false
ends_serve SourceFailed = false
ends_serve SinkFailed = false
ends_serve KeeperFailed = true
ends_serve NoMemory = true
ends_serve DoorFailed = true
ends_serve Damaged = true
