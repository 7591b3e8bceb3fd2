-- What a function made of the first words.
use Rattle.std.specs.Prelude.{◌≡◌, ◌≤◌, ℕ, ◌+◌, List, [], ◌∷◌, map, length, drop, Option, Some, None}
use Rattle.std.specs.Borrow.{Bor}
use Rattle.dcm_table_words.specs.declared.saying.Saying.{Saying}
use Rattle.dcm_table_words.specs.declared.saying.Tool.{Tool}
use Rattle.dcm_table_words.specs.declared.saying.Saying.TheVariants as says
use Rattle.dcm_table_words.specs.Table as spec

abbrev pub texts : List (Bor (List ℕ)) → List (List ℕ)
texts words = map (λ w. w.now) words

abbrev pub sayings_of : Tool → List (Bor (List ℕ)) → List spec.Saying
sayings_of tool words = spec.sayings tool (texts words)

abbrev pub said_as : Saying → spec.Saying
said_as (says.Column w) = spec.column w.now
said_as says.NoColumn = spec.no_column
said_as says.NoHeader = spec.no_header
said_as says.AsIs = spec.as_is
said_as says.Decoded = spec.decoded
said_as (says.File path) = spec.name (spec.file path.now)
said_as (says.List path) = spec.name (spec.list path.now)
said_as says.Unknown = spec.unknown

-- the words from a place on say this first, and then what those from another place on say
pub record Says (tool : Tool) (s : spec.Saying) (next at : ℕ) (words : List (Bor (List ℕ))) : Type 0 where
  pub said : sayings_of tool (drop at words) ≡ s ∷ sayings_of tool (drop next words)
  pub place : next ≡ at + spec.width s
  pub within : next ≤ length words

abbrev pub SaidAt : Tool → Option (Saying × ℕ) → (at : ℕ) → List (Bor (List ℕ)) → Type 0
SaidAt tool None at words = sayings_of tool (drop at words) ≡ []
SaidAt tool (Some s) at words = Says tool (said_as s.0) s.1 at words
