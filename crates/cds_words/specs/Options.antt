-- The options behind the name of a command: what the words give that state them. This project's own.
use Rattle.std.specs.Prelude.{ℕ, ◌||◌, ◌==◌, Bool, not, List, [], ◌∷◌, length, codes, get_or, Option, Some, None}
use Rattle.std.specs.Prelude.{option_map, is_some, nat_lt, if◌then◌else◌}
use Rattle.std.specs.Option.{option_and_then}
use Rattle.std.specs.Str.{bytes_eq}
use Rattle.std.specs.List.{position_or_len, before_first, after_first}

-- the values that options give: of each option the value that was stated, if it was
pub record Given : Type 0 where
  pub bunch : Option (List ℕ)
  pub slope_on : Option (List ℕ)
  pub slope_off : Option (List ℕ)
  pub plateau : Option (List ℕ)
  pub store : Option (List ℕ)
  pub port : Option (List ℕ)
  pub connections : Option (List ℕ)
  pub seed : Option (List ℕ)
  pub rows : Option (List ℕ)

-- no option
abbrev pub nothing_given : Given
nothing_given = record {
  bunch = None;
  slope_on = None;
  slope_off = None;
  plateau = None;
  store = None;
  port = None;
  connections = None;
  seed = None;
  rows = None;
}

-- a value isn't empty and doesn't begin with `-`
abbrev pub is_value : List ℕ → Bool
is_value value = not (get_or value 0 45 == 45)

-- the value of an option that has none yet: an option is stated at most once
abbrev pub once : Option (List ℕ) → List ℕ → Option (List ℕ)
once None value = if is_value value then Some value else None
once (Some kept) value = None

-- what is given with one more option of a demo; none where its name is unknown, it was stated before, or its value is
-- none
unfoldable pub with_demo : Given → List ℕ → List ℕ → Option Given
with_demo given name value =
    if bytes_eq name (codes "--seed") then option_map (λ v. record given { seed = Some v }) (once given.seed value)
    else if bytes_eq name (codes "--rows") then option_map (λ v. record given { rows = Some v }) (once given.rows value)
    else None

-- what is given with one more option of a store, a server or a demo
unfoldable pub with_service : Given → List ℕ → List ℕ → Option Given
with_service given name value =
    if bytes_eq name (codes "--store") then option_map (λ v. record given { store = Some v }) (once given.store value)
    else if bytes_eq name (codes "--port") then option_map (λ v. record given { port = Some v }) (once given.port value)
    else if bytes_eq name (codes "--connections")
    then option_map (λ v. record given { connections = Some v }) (once given.connections value)
    else with_demo given name value

-- what is given with one more option
unfoldable pub with_option : Given → List ℕ → List ℕ → Option Given
with_option given name value =
    if bytes_eq name (codes "--bunch") then option_map (λ v. record given { bunch = Some v }) (once given.bunch value)
    else if bytes_eq name (codes "--on")
    then option_map (λ v. record given { slope_on = Some v }) (once given.slope_on value)
    else if bytes_eq name (codes "--off")
    then option_map (λ v. record given { slope_off = Some v }) (once given.slope_off value)
    else if bytes_eq name (codes "--plateau")
    then option_map (λ v. record given { plateau = Some v }) (once given.plateau value)
    else with_service given name value

-- the byte `=`
abbrev pub is_equals : ℕ → Bool
is_equals byte = byte == 61

-- a word has an `=`: it states an option in one word
abbrev pub is_joined : List ℕ → Bool
is_joined word = nat_lt (position_or_len is_equals word) (length word)

-- what is given with an option that is stated in one word, its name before the first `=` and its value behind it
abbrev pub with_joined : Given → List ℕ → Option Given
with_joined given word = with_option given (before_first is_equals word) (after_first is_equals word)

-- what words give behind what was given before: options in any order, each as two words, a name and a value, or as one
-- word in which `=` joins them
unfoldable pub given_from : Given → List (List ℕ) → Option Given
given_from given [] = Some given
given_from given (word ∷ []) = if is_joined word then with_joined given word else None
given_from given (word ∷ next ∷ words) =
    if is_joined word then option_and_then (λ more. given_from more (next ∷ words)) (with_joined given word)
    else option_and_then (λ more. given_from more words) (with_option given word next)

-- an option of `peaks` was given
abbrev pub has_detection : Given → Bool
has_detection g = ((is_some g.bunch || is_some g.slope_on) || is_some g.slope_off) || is_some g.plateau

-- an option of `serve` alone was given
abbrev pub has_serving : Given → Bool
has_serving g = is_some g.port || is_some g.connections

-- an option of `demo` was given
abbrev pub has_demo : Given → Bool
has_demo g = is_some g.seed || is_some g.rows
