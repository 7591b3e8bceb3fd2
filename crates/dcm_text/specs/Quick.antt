-- What is known of a text's beginning without the whole table.
use Rattle.std.specs.Prelude.{◌≡◌, ℕ, List, Option, Some}
use Rattle.dcm_text.specs.declared.set.Halves.{Halves}
use Rattle.dcm_text.specs.declared.set.Left.{Left}
use Rattle.dcm_text.specs.declared.set.TextKind.{TextKind}
use Rattle.dcm_text.specs.declared.sets.Sets.{Sets}
use Rattle.dcm_text.specs.declared.first.Found.{Found}
use Rattle.dcm_text.specs.declared.first.Meaning.TheVariants as meaning
use Rattle.dcm_text.specs.First.{meaning_of, designations, designated, first_of}

-- a text begins with this, whatever is in force
abbrev pub IsFirst : Halves → List ℕ → Found → Type 0
IsFirst halves text f = (sets : Sets) (kind : TextKind) → first_of sets kind halves text ≡ Some f

-- bytes behind ESC are this designation
abbrev pub Designates : Sets → Halves → List ℕ → Found → Type 0
Designates sets halves bytes f = designated sets designations halves bytes ≡ Some f

-- so many bytes that are a character, or have none
abbrev pub read : ℕ → Option ℕ → Halves → Found
read size character halves = record { size = size; meaning = meaning_of character; halves = halves }

-- the designation of three bytes that changes what G0 is
abbrev pub designated_left : Halves → Left → Found
designated_left halves l = record { size = 3; meaning = meaning.Designation; halves = record { left = l; right = halves.right } }
