-- The lines of a message's head (RFC 9112, section 2). A line ends at its line feed; what comes after the last
-- line feed is no line yet.
use Rattle.std.specs.Prelude.{ℕ, ◌+◌, Bool, true, false, not, ◌==◌, nat_lt, nat_le, if◌then◌else◌, List, [], ◌∷◌, length, take, drop}
use Rattle.std.specs.List.{prefix_len}
use Rattle.httparse.specs.Ascii.{line_feed, carriage_return}
use Rattle.cds_http.specs.declared.limits.TheConstants.{MOST_HEAD_BYTES, MOST_FIELDS}

-- the first line with one more byte before it; where no line has ended, none has
abbrev pub onto_line : ℕ → List (List ℕ) → List (List ℕ)
onto_line b [] = []
onto_line b (line ∷ lines) = (b ∷ line) ∷ lines

-- the lines that have ended, each without its line feed
abbrev pub lines_of : List ℕ → List (List ℕ)
lines_of [] = []
lines_of (b ∷ bytes) = if b == line_feed then [] ∷ lines_of bytes else onto_line b (lines_of bytes)

-- how many bytes the lines take, with their line feeds
abbrev pub size_of : List (List ℕ) → ℕ
size_of [] = 0
size_of (line ∷ lines) = length line + 1 + size_of lines

-- nothing stands before the line feed, or a carriage return alone
abbrev pub is_empty_line : List ℕ → Bool
is_empty_line [] = true
is_empty_line (b ∷ []) = b == carriage_return
is_empty_line (b ∷ c ∷ line) = false

-- a line with something in it
abbrev pub is_full_line : List ℕ → Bool
is_full_line line = not (is_empty_line line)

-- What the lines so far say of a head. It may still be open. It may have more lines than a request line and the
-- most fields. It may have ended with its empty line, after so many bytes. Or it may be open where it is as long
-- as a head can be.
pub data HeadState : Type 0 where
  open_head crowded large : HeadState
  ended : ℕ → HeadState

-- the empty lines at the front are passed over, the head's lines are those from there up to the next empty line,
-- and that empty line ends the head
unfoldable pub state_of_lines : List (List ℕ) → HeadState
state_of_lines lines =
    let before = prefix_len is_empty_line lines in
    let count = prefix_len is_full_line (drop before lines) in
    if nat_lt (MOST_FIELDS + 1) count then crowded
    else (if nat_lt (before + count) (length lines) then ended (size_of (take (before + count + 1) lines))
    else open_head)

-- a head that is open with all the bytes that a head can have is too large
abbrev pub unless_open : HeadState → HeadState → HeadState
unless_open other open_head = other
unless_open other crowded = crowded
unless_open other large = large
unless_open other (ended size) = ended size

-- the state of the head at the front of the bytes: what its first bytes decide comes before its size does
unfoldable pub head_state : List ℕ → HeadState
head_state bytes =
    unless_open (if nat_le MOST_HEAD_BYTES (length bytes) then large else open_head)
    (state_of_lines (lines_of (take MOST_HEAD_BYTES bytes)))
