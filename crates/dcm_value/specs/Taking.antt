-- What a reader of a value's text comes to.
use Rattle.std.specs.Prelude.{◌≡◌, ℕ, ◌<◌, ◌≤◌, List, [], ◌∷◌, ◌++◌, length, Option, Some, None, Result, MatchResult}
use Rattle.std.specs.Prelude.{◌⊎◌}
use Rattle.dcm_base.specs.Lines.ReadValue.{◌>>=◌, bracketed_value, within_limit, VALUE_LIMIT}

-- what is read with bytes in front
abbrev pub behind : List ℕ → Option (List ℕ) → Option (List ℕ)
behind front o = o >>= λ more. Some (front ++ more)

-- a text in brackets is this byte and what is after it
abbrev pub Begins : List ℕ → ℕ → List ℕ → Type 0
Begins text byte after = bracketed_value text ≡ behind (byte ∷ []) (bracketed_value after)

-- it took the value that was meant, or none is meant within the limit
abbrev pub Reads : {T E : Type 0} → Option (List ℕ) → List ℕ → Result T E → Type 0
Reads meant value r = MatchResult r (λ _. (meant ≡ Some value) × (length value ≤ VALUE_LIMIT))
    (λ _. (meant >>= within_limit) ≡ None)

-- it took a part after what it had, or there is none, or too much
abbrev pub TakesPart : {T E : Type 0} → Option (List ℕ) → List ℕ → List ℕ → Result T E → Type 0
TakesPart part old new r = MatchResult r (λ _. (bytes : List ℕ) × (part ≡ Some bytes) × (new ≡ old ++ bytes)
    × (length new ≤ VALUE_LIMIT)) (λ _. (part ≡ None)
    ⊎ ((bytes : List ℕ) × (part ≡ Some bytes) × (VALUE_LIMIT < length (old ++ bytes))))
