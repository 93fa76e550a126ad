-- What the fields of a request's head say of its body and of the connection (RFC 9110 and RFC 9112). A field is
-- its name and its value without the white space around it. Names are compared without regard to ASCII case.
use Rattle.std.specs.Prelude.{ℕ, Bool, ◌&&◌, ◌||◌, ◌==◌, nat_lt, nat_le, if◌then◌else◌, List, [], ◌∷◌, length, map, Result, Ok, Err, codes}
use Rattle.std.specs.List.{list_all, list_any}
use Rattle.std.specs.Char.{is_ascii_digit}
use Rattle.std.specs.Str.Parse.{digits_value}
use Rattle.httparse.specs.Grammar.{RequestHead}
use Rattle.httparse.specs.Spans.{name_and_value}
use Rattle.http1.specs.Text.{eq_ignore_case}
use Rattle.http1.specs.Fields.{Header, is_named, values_named, elements_named, has_option}
use Rattle.cds_http.specs.declared.limits.TheConstants.{MOST_BODY_BYTES, MOST_LENGTH_DIGITS}
use Rattle.cds_http.specs.declared.next.Fault.{Fault}
use Rattle.cds_http.specs.declared.next.Fault.TheVariants.{Head, LengthRequired, BodyTooLarge}

-- the names and the values of the head's fields, in order
abbrev pub fields_of : RequestHead → List Header
fields_of h = map name_and_value h.fields

-- a length is 1 to 19 digits
abbrev pub is_length : List ℕ → Bool
is_length value = nat_lt 0 (length value) && (nat_le (length value) MOST_LENGTH_DIGITS && list_all is_ascii_digit value)

-- the length of the body by the values of all fields `Content-Length`: none is 0, and two are a fault, equal or not
abbrev pub stated_length : ℕ → List (List ℕ) → Result ℕ Fault
stated_length place [] = Ok 0
stated_length place (value ∷ []) =
    if is_length value
    then (if nat_le (digits_value 10 value) MOST_BODY_BYTES then Ok (digits_value 10 value) else Err BodyTooLarge)
    else Err (Head place)
stated_length place (value ∷ other ∷ values) = Err (Head place)

-- the length of the body of the message at the place: a field `Transfer-Encoding` is refused before any other
abbrev pub body_length : ℕ → List Header → Result ℕ Fault
body_length place fields =
    if list_any (is_named (codes "transfer-encoding")) fields then Err (LengthRequired place)
    else stated_length place (values_named (codes "content-length") fields)

-- the sender waits for `100 Continue`: in version 1.1, where a body is to come, and a field `Expect` has that value
abbrev pub expects_continue : ℕ → List Header → ℕ → Bool
expects_continue minor fields body =
    (minor == 1) && (nat_lt 0 body && list_any (λ value. eq_ignore_case value (codes "100-continue")) (values_named (codes "expect") fields))

-- the connection closes after the response: in version 1.0, and where a field `Connection` holds the token `close`
abbrev pub closes : ℕ → List Header → Bool
closes minor fields = (minor == 0) || has_option (codes "close") (elements_named (codes "connection") fields)
