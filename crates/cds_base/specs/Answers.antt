-- What a call answers: its value, the first refusal, or want of memory.
use Rattle.std.specs.Prelude.{◌≡◌, ◌⊎◌, Option, Some, None, Result, Ok, Err, MatchResult}

-- the result is what is stated: its value, as it is shown, or its refusal; or it is want of memory
abbrev pub Gives : {A B E : Type 0} → E → (A → B) → Result B E → Result A E → Type 0
Gives wanting shown stated r = MatchResult r (λ x. stated ≡ Ok (shown x)) (λ e. (stated ≡ Err e) ⊎ (e ≡ wanting))

-- a refusal is the one that is stated, or want of memory for its text
abbrev pub Refuses : {E : Type 0} → E → E → E → Type 0
Refuses wanting stated e = (stated ≡ e) ⊎ (e ≡ wanting)

-- what is judged first, and then what follows with its value; the first refusal decides
infixl 10 ◌>>=◌
abbrev pub ◌>>=◌ : {A B E : Type 0} → Result A E → (A → Result B E) → Result B E
Ok x >>= f = f x
Err e >>= f = Err e

-- nothing is refused, or this
abbrev pub unless : {E : Type 0} → Option E → Result (Unit {0}) E
unless None = Ok tt
unless (Some e) = Err e
