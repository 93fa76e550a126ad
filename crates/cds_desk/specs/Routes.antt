-- The routes, which one a request target fits, and what its path names. This project's own routes.
use Rattle.std.specs.Prelude.{ℕ, zero, suc, Bool, ◌==◌, List, [], ◌∷◌, ◌++◌, codes, get_or, is_some, Option, Some, None}
use Rattle.std.specs.Prelude.{Result, Ok, Err, if◌then◌else◌}
use Rattle.std.specs.List.{before_first, after_first}
use Rattle.matchit.specs.Rows.{RowsOf}
use Rattle.matchit.specs.Router.{RouteOf, route_from}
use Rattle.matchit.specs.Order.{placed}
use Rattle.matchit.specs.Route.{Scan, parse_route}
use Rattle.matchit.specs.Seek.{first}
use Rattle.matchit.specs.declared.error.InsertError.{InsertError}
use Rattle.cds_base.specs.NameText.{name_of}
use Rattle.cds_words.specs.Numbers.{number_in}
use Rattle.cds_desk.specs.declared.target.TheConstants.{MOST_PATH_NUMBER}
use Rattle.cds_desk.specs.declared.routes.Route.{Route}
use Rattle.cds_desk.specs.declared.routes.Route.TheVariants as route
use Rattle.cds_desk.specs.declared.target.Target.{Target}

-- ---- the table of the routes

-- the pattern of a route
abbrev pub pattern_of : Route → List ℕ
pattern_of route.PutTrace = codes "/traces/{name}"
pattern_of route.GetTrace = codes "/traces/{name}/{version}"
pattern_of route.PutDraft = codes "/methods/{name}/draft"
pattern_of route.PostVersion = codes "/methods/{name}/versions"
pattern_of route.GetMethod = codes "/methods/{name}/versions/{version}"
pattern_of route.PutSequence = codes "/sequences/{name}"
pattern_of route.PutEvents = codes "/sequences/{name}/rows/{number}/events"
pattern_of route.PostReprocess = codes "/sequences/{name}/reprocess"
pattern_of route.PostSignature = codes "/sequences/{name}/signatures"
pattern_of route.GetResults = codes "/sequences/{name}/results"
pattern_of route.GetRow = codes "/sequences/{name}/results/{number}"
pattern_of route.GetSuitability = codes "/sequences/{name}/suitability"
pattern_of route.GetSignature = codes "/sequences/{name}/signatures/{number}"

-- the one method of a route
abbrev pub method_of : Route → List ℕ
method_of route.PutTrace = codes "PUT"
method_of route.GetTrace = codes "GET"
method_of route.PutDraft = codes "PUT"
method_of route.PostVersion = codes "POST"
method_of route.GetMethod = codes "GET"
method_of route.PutSequence = codes "PUT"
method_of route.PutEvents = codes "PUT"
method_of route.PostReprocess = codes "POST"
method_of route.PostSignature = codes "POST"
method_of route.GetResults = codes "GET"
method_of route.GetRow = codes "GET"
method_of route.GetSuitability = codes "GET"
method_of route.GetSignature = codes "GET"

-- the place of the number among the segments of its paths, if they have one; the name stands at place 2
abbrev pub number_at : Route → Option ℕ
number_at route.PutTrace = None
number_at route.GetTrace = Some 3
number_at route.PutDraft = None
number_at route.PostVersion = None
number_at route.GetMethod = Some 4
number_at route.PutSequence = None
number_at route.PutEvents = Some 4
number_at route.PostReprocess = None
number_at route.PostSignature = None
number_at route.GetResults = None
number_at route.GetRow = Some 4
number_at route.GetSuitability = None
number_at route.GetSignature = Some 4

-- all routes
abbrev pub all_routes : List Route
all_routes =
    route.PutTrace ∷ route.GetTrace ∷ route.PutDraft ∷ route.PostVersion ∷ route.GetMethod ∷ route.PutSequence
    ∷ route.PutEvents ∷ route.PostReprocess ∷ route.PostSignature ∷ route.GetResults ∷ route.GetRow
    ∷ route.GetSuitability ∷ route.GetSignature ∷ []

-- the rows of `matchit` with one more, for a route whose pattern was read
abbrev pub with_scan : Result Scan InsertError → Route → RowsOf (RouteOf Route) → RowsOf (RouteOf Route)
with_scan (Ok scan) r rows = placed (scan.pattern, route_from scan r) rows
with_scan (Err e) r rows = rows

-- the rows of `matchit` with the row of this route
abbrev pub with_route : Route → RowsOf (RouteOf Route) → RowsOf (RouteOf Route)
with_route r rows = with_scan (parse_route (pattern_of r)) r rows

-- the rows of `matchit` with the rows of these routes
abbrev pub with_routes : List Route → RowsOf (RouteOf Route) → RowsOf (RouteOf Route)
with_routes [] rows = rows
with_routes (r ∷ rest) rows = with_routes rest (with_route r rows)

-- the routes, as rows of `matchit`
abbrev pub route_table : RowsOf (RouteOf Route)
route_table = with_routes all_routes []

-- ---- what a path names

abbrev pub is_slash : ℕ → Bool
is_slash b = b == 47

abbrev pub is_question_mark : ℕ → Bool
is_question_mark b = b == 63

-- the path of a request target: what stands before its first `?`
abbrev pub path_of : List ℕ → List ℕ
path_of t = before_first is_question_mark t

-- the segment of a path at a place, as `flat` at 2 in `/traces/flat/3`; at 0 stands what is before the first slash
abbrev pub segment : List ℕ → ℕ → List ℕ
segment path zero = before_first is_slash path
segment path (suc place) = segment (after_first is_slash path) place

-- a number of a path: 1 to 4,294,967,295 in decimal digits, without leading zeros
abbrev pub path_number : List ℕ → Option ℕ
path_number part = if get_or part 0 48 == 48 then None else number_in 1 MOST_PATH_NUMBER part

-- the number that a path has at this place, and 0 where it has no place for one
abbrev pub number_in_path : List ℕ → Option ℕ → Option ℕ
number_in_path path (Some place) = path_number (segment path place)
number_in_path path None = Some 0

-- what is named on a route, where both the name and the number are there
abbrev pub target_with : Route → Option (List ℕ) → Option ℕ → Option Target
target_with r (Some name) (Some number) = Some (record { route = r; name = name; number = number })
target_with r _ _ = None

-- what the path names on this route
abbrev pub named_on : Route → List ℕ → Option Target
named_on r path = target_with r (name_of (segment path 2)) (number_in_path path (number_at r))

-- what the path names, where `matchit` found this route for it
abbrev pub named_by : Option (RouteOf Route) → List ℕ → Option Target
named_by (Some found) path = named_on found.value path
named_by None path = None

-- What the request target names. None where its path fits no pattern, or a part of it isn't such a name or number.
abbrev pub target_of : List ℕ → Option Target
target_of t = named_by (first route_table (path_of t)) (path_of t)

-- ---- the way back

-- the path of a route that is written with a name and the digits of a number
abbrev pub path_with : Route → List ℕ → List ℕ → List ℕ
path_with route.PutTrace name digits = codes "/traces/" ++ name
path_with route.GetTrace name digits = codes "/traces/" ++ (name ++ (codes "/" ++ digits))
path_with route.PutDraft name digits = codes "/methods/" ++ (name ++ codes "/draft")
path_with route.PostVersion name digits = codes "/methods/" ++ (name ++ codes "/versions")
path_with route.GetMethod name digits = codes "/methods/" ++ (name ++ (codes "/versions/" ++ digits))
path_with route.PutSequence name digits = codes "/sequences/" ++ name
path_with route.PutEvents name digits =
    codes "/sequences/" ++ (name ++ (codes "/rows/" ++ (digits ++ codes "/events")))
path_with route.PostReprocess name digits = codes "/sequences/" ++ (name ++ codes "/reprocess")
path_with route.PostSignature name digits = codes "/sequences/" ++ (name ++ codes "/signatures")
path_with route.GetResults name digits = codes "/sequences/" ++ (name ++ codes "/results")
path_with route.GetRow name digits = codes "/sequences/" ++ (name ++ (codes "/results/" ++ digits))
path_with route.GetSuitability name digits = codes "/sequences/" ++ (name ++ codes "/suitability")
path_with route.GetSignature name digits = codes "/sequences/" ++ (name ++ (codes "/signatures/" ++ digits))

-- the number in the paths of a route that are written with this one: 0 where they have none
abbrev pub number_of_path : Route → ℕ → ℕ
number_of_path r number = if is_some (number_at r) then number else 0
