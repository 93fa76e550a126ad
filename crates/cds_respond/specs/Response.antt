-- Responses as bytes (RFC 9112). Each line of a head ends in CR LF.
use denote.Ref.{Bor}
use Rattle.std.specs.Prelude.{ℕ, ◌+◌, ◌==◌, Bool, true, false, List, [], ◌∷◌, ◌++◌, length, codes, decimal, Option, Some, None, if◌then◌else◌}
use Rattle.cds_respond.specs.declared.fixed.TheConstants.{FRAME_BYTES}
use Rattle.cds_respond.specs.declared.reply.Content.{Content}
use Rattle.cds_respond.specs.declared.reply.Content.TheVariants as content
use Rattle.cds_respond.specs.declared.reply.Reply.{Reply}

-- the phrase of a status; none for one that is never answered
unfoldable pub phrase : ℕ → List ℕ
phrase status =
    if status == 200 then codes "OK"
    else if status == 201 then codes "Created"
    else if status == 400 then codes "Bad Request"
    else if status == 404 then codes "Not Found"
    else if status == 405 then codes "Method Not Allowed"
    else if status == 409 then codes "Conflict"
    else if status == 411 then codes "Length Required"
    else if status == 413 then codes "Content Too Large"
    else if status == 422 then codes "Unprocessable Content"
    else if status == 431 then codes "Request Header Fields Too Large"
    else if status == 503 then codes "Service Unavailable"
    else if status == 507 then codes "Insufficient Storage"
    else []

-- the media type of a body
abbrev pub media_type : Content → List ℕ
media_type content.Json = codes "application/json"
media_type content.Csv = codes "text/csv"
media_type content.Toml = codes "application/toml"
media_type content.Plain = codes "text/plain"

-- a field of a head
unfoldable pub field_line : List ℕ → List ℕ → List ℕ
field_line name value = name ++ codes ": " ++ value ++ codes "\r\n"

-- the field with the method that a path takes, where another was asked
abbrev pub allow_field : Option (List ℕ) → List ℕ
allow_field (Some method) = field_line (codes "Allow") method
allow_field None = []

-- the field that says that the connection closes
abbrev pub close_field : Bool → List ℕ
close_field true = codes "Connection: close\r\n"
close_field false = []

-- the status line
unfoldable pub status_line : ℕ → List ℕ
status_line status = codes "HTTP/1.1 " ++ decimal status ++ codes " " ++ phrase status ++ codes "\r\n"

-- the fields on the body: its media type and how many bytes it has
abbrev pub body_fields : List ℕ → ℕ → List ℕ
body_fields media count = field_line (codes "Content-Type") media ++ field_line (codes "Content-Length") (decimal count)

-- the head of a response whose body has so many bytes, with the empty line at its end
unfoldable pub head_text : ℕ → List ℕ → ℕ → Option (List ℕ) → Bool → List ℕ
head_text status media count allow close =
    status_line status ++ body_fields media count ++ allow_field allow ++ close_field close ++ codes "\r\n"

-- a response; to a whole request with the method HEAD the body is left out, and its length stays
unfoldable pub response_text : Reply → Bool → Bool → List ℕ
response_text reply close without_body =
    head_text reply.status (media_type reply.content) (length reply.body) reply.allow close
    ++ (if without_body then [] else reply.body)

-- what asks the sender of a head for the body
abbrev pub continue_text : List ℕ
continue_text = codes "HTTP/1.1 100 Continue\r\n\r\n"

-- the parts of a text, one after the other
abbrev pub all_parts : List (Bor (List ℕ)) → List ℕ
all_parts [] = []
all_parts (part ∷ parts) = part.now ++ all_parts parts

-- the body of a refusal that shows a number, as JSON: its word is one of small letters, and its own number is 0
abbrev pub refusal_body : List ℕ → List ℕ → List ℕ
refusal_body word digits = codes "{\"error\":\"" ++ word ++ codes "\",\"number\":0,\"value\":" ++ digits ++ codes "}"

-- the response of such a refusal
abbrev pub refusal_text : ℕ → List ℕ → ℕ → Bool → Bool → List ℕ
refusal_text status word value close without_body =
    head_text status (codes "application/json") (FRAME_BYTES + length word + length (decimal value)) None close
    ++ (if without_body then [] else refusal_body word (decimal value))
