-- What a part of the crate knows when it has looked at a part of the bytes.
use Rattle.std.specs.Prelude.{◌≡◌, ◌≢◌, ℕ, ◌+◌, ◌<◌, ◌≤◌, ◌==◌, if◌then◌else◌, List, [], ◌∷◌, ◌++◌, length, take, Option, None, Some, Result, Ok, Err, slice_index}
use Rattle.std.specs.List.{list_all}
use Rattle.httparse.specs.Ascii.{line_feed}
use Rattle.httparse.specs.Grammar.{RequestHead, ReadsRequest}
use Rattle.httparse.specs.Spans.{IsRequestWithin, IsRequestOf}
use Rattle.httparse.specs.declared.spans.HeaderSpan.{HeaderSpan}
use Rattle.httparse.specs.declared.spans.RequestSpans.{RequestSpans}
use Rattle.cds_http.specs.declared.limits.TheConstants.{MOST_HEAD_BYTES, MOST_FIELDS}
use Rattle.cds_http.specs.declared.lines.Scan.{Scan}
use Rattle.cds_http.specs.declared.lines.Seen.{Seen}
use Rattle.cds_http.specs.declared.lines.Seen.TheVariants.{Open, Crowded, Ended}
use Rattle.cds_http.specs.declared.lines.Step.{Step}
use Rattle.cds_http.specs.declared.lines.Step.TheVariants as step
use Rattle.cds_http.specs.declared.head.Head.{Head}
use Rattle.cds_http.specs.declared.fields.Values.{Values}
use Rattle.cds_http.specs.declared.fields.Values.TheVariants.{Absent, One, Several}
use Rattle.cds_http.specs.declared.next.Fault.{Fault}
use Rattle.cds_http.specs.Lines.{lines_of, size_of, is_empty_line, HeadState, open_head, crowded, ended, state_of_lines}
use Rattle.cds_http.specs.Fields.{fields_of, expects_continue}
use Rattle.cds_http.specs.Stream.{request_of}
use Rattle.cds_http.specs.Front.{Front, fails, heads, ReadsHead, judged}

-- The state of the head by the lines to come, where `count` of its lines have ended, and they and the empty lines
-- before them take `at` bytes.
abbrev pub state_on : ℕ → ℕ → List (List ℕ) → HeadState
state_on count at [] = open_head
state_on count at (line ∷ lines) =
    if is_empty_line line
    then (if count == 0 then state_on 0 (at + (length line + 1)) lines else ended (at + (length line + 1)))
    else (if count == MOST_FIELDS + 1 then crowded else state_on (count + 1) (at + (length line + 1)) lines)

-- what one more line makes of the count of the head's lines
abbrev pub step_of : ℕ → List ℕ → Step
step_of count line =
    if is_empty_line line then (if count == 0 then step.Passed 0 else step.Ends)
    else (if count == MOST_FIELDS + 1 then step.Crowds else step.Passed (count + 1))

-- The lines of a head were looked at up to a place.
pub record IsScanned (bytes : List ℕ) (scan : Scan) : Type 0 where
  -- where the line that is still open begins
  pub ordered : scan.line ≤ scan.looked
  pub in_range : scan.looked ≤ length bytes
  pub in_head : scan.looked ≤ MOST_HEAD_BYTES
  -- what stands before it are whole lines
  pub whole : size_of (lines_of (take scan.line bytes)) ≡ scan.line
  -- which leave this state to the lines to come
  pub state : (lines : List (List ℕ))
      → state_on 0 0 (lines_of (take scan.line bytes) ++ lines) ≡ state_on scan.count scan.line lines
  -- and are all empty exactly where none of them is of the head
  pub empty : list_all is_empty_line (lines_of (take scan.line bytes)) ≡ (scan.count == 0)
  pub count : scan.count ≤ MOST_FIELDS + 1
  -- the open line has no line feed where it was looked at
  pub no_feed : (k : ℕ) → scan.line ≤ k → k < scan.looked → slice_index bytes k ≢ line_feed

-- what was found in the first bytes of a head
abbrev pub Finds : List ℕ → Seen → Type 0
Finds bytes (Open scan) = IsScanned bytes scan × (scan.looked ≡ length bytes)
    × (state_of_lines (lines_of bytes) ≡ open_head)
Finds bytes Crowded = state_of_lines (lines_of bytes) ≡ crowded
Finds bytes (Ended size) =
    (size ≤ length bytes) × (state_of_lines (lines_of bytes) ≡ ended size)
    × (state_of_lines (lines_of (take size bytes)) ≡ ended size)

-- what the code keeps of a head
abbrev pub head_of : ℕ → RequestHead → ℕ → Head
head_of size h body = record {
  request = request_of size h body;
  expects = expects_continue h.minor (fields_of h) body;
}

-- the code's answer stands for what the head comes to
abbrev pub StandsFor : Result Head Fault → Front → Type 0
StandsFor (Err f) front = front ≡ fails f
StandsFor (Ok head) front = (size : ℕ) × (h : RequestHead) × (body : ℕ) × (front ≡ heads size h body)
    × (head ≡ head_of size h body)

-- the parser found the head of the grammar, or there is none with so few fields
abbrev pub ParsesHead : List ℕ → List HeaderSpan → Option RequestSpans → Type 0
ParsesHead bytes headers None = (h : RequestHead) → ReadsRequest bytes h [] → MOST_FIELDS < length h.fields
ParsesHead bytes headers (Some spans) = IsRequestWithin bytes headers spans × IsRequestOf bytes headers spans

-- the bytes are judged as a head that has ended
abbrev pub JudgesHead : ℕ → List ℕ → Result Head Fault → Type 0
JudgesHead place bytes result =
    (read : Option RequestHead) × ReadsHead bytes read × StandsFor result (judged place (length bytes) read)

-- as many of the values as the length of a body asks for
abbrev pub AreValues : Values → List (List ℕ) → Type 0
AreValues Absent values = values ≡ []
AreValues (One value) values = values ≡ value.now ∷ []
AreValues Several values = 1 < length values
