-- A change is known from the command that asks for it, and may be asked for.
use Rattle.std.proofs.Common.{◌≡◌, ◌∙◌, ℕ, ℤ, pos, negsuc, ◌+◌, ◌≤◌, List, [], ◌∷◌, length, map, refl, sym, ap, subst, arith}
use Rattle.std.specs.Prelude.{All}
use Rattle.std.proofs.lemmas.List.{length-map}
use Rattle.std.proofs.lemmas.List.Elements.{All-nil, All-cons, All-head, All-tail}
use Rattle.std.proofs.lemmas.Simd.{map-map}
use Rattle.cds_book.specs.Plan.{IsCommand, asked_of, command_of}
use Rattle.cds_sign.specs.Ranges.{AreAmountNames, AreRows, IsAskedRow, IsChange, IsRow, IsWithin}
use Rattle.cds_sign.specs.declared.asked.AskedRow.{AskedRow}
use Rattle.cds_sign.specs.declared.command.Change.{Change}
use Rattle.cds_sign.specs.declared.command.Change.TheVariants as change
use Rattle.cds_sign.specs.declared.command.Command.{Command}
use Rattle.cds_sign.specs.declared.command.Command.TheVariants as command
use Rattle.cds_sign.specs.declared.limits.TheConstants.{MOST_ROWS, MOST_SIGNATURES}
use Rattle.cds_sign.specs.declared.row.Row.{Row}
use Rattle.cds_desk.specs.Opening.{TextStands}
use Rattle.cds_desk.specs.State.{State}

-- ---- back from the command

-- an amount from what was asked
abbrev amount_of : List ℕ × ℤ → List ℕ × ℕ
amount_of (name, pos n) = (name, n)
amount_of (name, negsuc n) = (name, 0)

amounts_back : (amounts : List (List ℕ × ℕ)) → map amount_of (map (λ (a : List ℕ × ℕ). (a.0, pos a.1)) amounts) ≡ amounts
amounts_back [] = refl
amounts_back (a ∷ more) = ap (λ (rest : List (List ℕ × ℕ)). a ∷ rest) (amounts_back more)

-- a row from what was asked
abbrev row_of : AskedRow → Row
row_of r = record {
  label = r.label;
  kind = r.kind;
  trace = r.trace;
  version = r.version;
  used = r.used;
  u = r.u;
  v = r.v;
  amounts = map amount_of r.amounts;
  events = r.events;
}

row_back : (r : Row) → row_of (asked_of r) ≡ r
row_back r = ap (λ (amounts : List (List ℕ × ℕ)). record r { amounts = amounts }) (amounts_back r.amounts)

rows_back : (rows : List Row) → map row_of (map asked_of rows) ≡ rows
rows_back [] = refl
rows_back (r ∷ rs) = ap (λ (x : Row). x ∷ map row_of (map asked_of rs)) (row_back r) ∙ ap (λ (rest : List Row). r ∷ rest) (rows_back rs)

-- a change from the command that asks for it
abbrev change_of : Command → Change
change_of (command.Trace name signal) = change.Trace name signal
change_of (command.Draft name text) = change.Draft name text
change_of (command.Freeze name version) = change.Freeze name version
change_of (command.Sequence name edition method version standards rows) =
    change.Sequence name edition method version standards (map row_of rows)
change_of (command.Events name edition row events) = change.Events name edition row events
change_of (command.Rebind name edition version) = change.Rebind name edition version
change_of (command.Sign sequence number basis moment name meaning text) =
    change.Sign sequence number basis moment name meaning text

change_back : (c : Change) → change_of (command_of c) ≡ c
change_back (change.Trace name signal) = refl
change_back (change.Draft name text) = refl
change_back (change.Freeze name version) = refl
change_back (change.Sequence name edition method version standards rows) =
    ap (λ (r : List Row). change.Sequence name edition method version standards r) (rows_back rows)
change_back (change.Events name edition row events) = refl
change_back (change.Rebind name edition version) = refl
change_back (change.Sign sequence number basis moment name meaning text) = refl

-- two changes for which the same command asks are one
pub same_change : (a b : Change) → command_of a ≡ command_of b → a ≡ b
same_change a b is = sym (change_back a) ∙ (ap change_of is ∙ change_back b)

-- ---- may be asked for

asked_row : (r : Row) → IsRow r → IsAskedRow (asked_of r)
asked_row r is = record {
  label = is.label;
  trace = is.trace;
  version = is.version;
  u = is.u;
  v = is.v;
  amounts = subst AreAmountNames (sym (map-map (λ a. a.0) (λ (a : List ℕ × ℕ). (a.0, pos a.1)) r.amounts)) is.amounts;
  events = is.events;
}

asked_rows : (rows : List Row) → All IsRow rows → All IsAskedRow (map asked_of rows)
asked_rows [] each = All-nil IsAskedRow
asked_rows (r ∷ rs) each =
    All-cons IsAskedRow (asked_of r) (map asked_of rs) (asked_row r (All-head IsRow r rs each)) (asked_rows rs (All-tail IsRow r rs each))

are_asked : (rows : List Row) → AreRows IsRow rows → AreRows IsAskedRow (map asked_of rows)
are_asked rows are = record {
  count = subst (IsWithin 1 MOST_ROWS) (sym (length-map rows asked_of)) are.count;
  each = asked_rows rows are.each;
}

one_more : (n : ℕ) → IsWithin 1 MOST_SIGNATURES n → IsWithin 1 (MOST_SIGNATURES + 1) n
one_more n is = record { enough = is.enough; few = omega (arith, is.few) }

-- a change that may be may be asked for, where its text stands
pub may_be_asked : (state : State) (c : Change) → IsChange c → TextStands state c → IsCommand (command_of c)
may_be_asked state (change.Trace name signal) is stands = (is, tt)
may_be_asked state (change.Draft name text) is stands = (is, stands)
may_be_asked state (change.Freeze name version) is stands = (is.0, tt)
may_be_asked state (change.Sequence name edition method version standards rows) is stands = ((is.0, are_asked rows is.1), tt)
may_be_asked state (change.Events name edition row events) is stands = (is.0, tt)
may_be_asked state (change.Rebind name edition version) is stands = (is, tt)
may_be_asked state (change.Sign sequence number basis moment name meaning text) is stands = (
  record {
    sequence = is.sequence;
    number = one_more number is.number;
    basis = is.basis;
    moment = is.moment;
    name = is.name;
    meaning = is.meaning;
    text = is.text;
  },
  tt,
)
