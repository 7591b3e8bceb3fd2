-- What a text begins with (PS3.5 6.1.2.5.3).
use Rattle.std.specs.Prelude.{ℕ, ◌+◌, Bool, ◌&&◌, ◌||◌, ◌==◌, nat_lt, List, [], ◌∷◌, map, length, take, Option, Some, None, if◌then◌else◌}
use Rattle.dcm_text.specs.declared.set.Set.{Set}
use Rattle.dcm_text.specs.declared.set.Left.TheVariants as left
use Rattle.dcm_text.specs.declared.set.Halves.{Halves}
use Rattle.dcm_text.specs.declared.set.Effect.{Effect}
use Rattle.dcm_text.specs.declared.set.Effect.TheVariants as effect
use Rattle.dcm_text.specs.declared.set.TextKind.{TextKind}
use Rattle.dcm_text.specs.declared.set.TextKind.TheVariants.{OneValue, Values, Names}
use Rattle.dcm_text.specs.declared.sets.Sets.{Sets}
use Rattle.dcm_text.specs.declared.form.Fit.{Fit}
use Rattle.dcm_text.specs.declared.form.Fit.TheVariants.{Whole, Part, Not}
use Rattle.dcm_text.specs.declared.form.Form.{Form}
use Rattle.dcm_text.specs.declared.form.Opening.{Opening}
use Rattle.dcm_text.specs.declared.form.Opening.TheVariants as opening
use Rattle.dcm_text.specs.declared.first.Meaning.{Meaning}
use Rattle.dcm_text.specs.declared.first.Meaning.TheVariants as meaning
use Rattle.dcm_text.specs.declared.first.Found.{Found}
use Rattle.dcm_text.specs.declared.first.TheConstants.{DESIGNATIONS}
use Rattle.dcm_text.specs.Sets.{has}
use Rattle.dcm_text.specs.Forms.{Range, fit_of, starts, left_opening, right_opening, forms, character_of}

-- what a character means, where there is one
abbrev pub meaning_of : Option ℕ → Meaning
meaning_of None = meaning.Unknown
meaning_of (Some c) = meaning.Character c

-- one byte without a character
abbrev pub one_unknown : Halves → Found
one_unknown halves = record { size = 1; meaning = meaning.Unknown; halves = halves }

-- what bytes are that fit something whole, or are a part of it, or do not fit
abbrev pub by_fit : Fit → (whole other : Option Found) → Option Found
by_fit Whole whole other = whole
by_fit Part whole other = None
by_fit Not whole other = other

-- ---- designations

-- its bytes behind ESC, the set that has to be named for it, and what it changes
abbrev pub Designation : Type 0
Designation = List ℕ × Set × Effect

unfoldable pub designations : List Designation
designations = map (λ d. (d.0.now, d.1, d.2)) DESIGNATIONS

abbrev pub changed : Halves → Effect → Halves
changed halves (effect.Left l) = record { left = l; right = halves.right }
changed halves (effect.Right r) = record { left = halves.left; right = r }

abbrev pub fits : Sets → Designation → List ℕ → Fit
fits sets d bytes = if has sets d.1 then starts d.0 bytes else Not

abbrev pub as_designation : Halves → Designation → Option Found
as_designation halves d =
    Some (record { size = 1 + length d.0; meaning = meaning.Designation; halves = changed halves d.2 })

-- bytes behind ESC, by the first designation that they fit: ESC has no character, where there is none
abbrev pub designated : Sets → List Designation → Halves → List ℕ → Option Found
designated sets [] halves bytes = Some (one_unknown halves)
designated sets (d ∷ ds) halves bytes =
    by_fit (fits sets d bytes) (as_designation halves d) (designated sets ds halves bytes)

-- ---- forms

-- so many bytes that are a form
abbrev pub formed : Form → Halves → List ℕ → (size : ℕ) → Found
formed form halves bytes size =
    record { size = size; meaning = meaning_of (character_of form (take size bytes)); halves = halves }

-- bytes by the first of these forms that those behind the first fit; the first has no character, where there is none
abbrev pub of_forms : Form → Halves → List ℕ → (rest : List ℕ) → List (List Range) → Option Found
of_forms form halves bytes rest [] = Some (one_unknown halves)
of_forms form halves bytes rest (ranges ∷ others) =
    by_fit (fit_of ranges rest) (Some (formed form halves bytes (1 + length ranges))) (of_forms form halves bytes rest others)

abbrev pub of_form : Form → Halves → List ℕ → Option Found
of_form form halves [] = None
of_form form halves (b ∷ rest) = of_forms form halves (b ∷ rest) rest (forms form b)

-- ---- bytes that stand for themselves

-- a text begins with ASCII below 80
abbrev pub start_of : Sets → Halves
start_of sets = record { left = left.Ascii; right = sets.start }

-- behind which bytes a text goes on as it began
abbrev pub resets : TextKind → ℕ → Bool
resets OneValue b = nat_lt b 0x20
resets Values b = nat_lt b 0x20 || (b == 0x5C)
resets Names b = nat_lt b 0x20 || (b == 0x5C) || (b == 0x5E) || (b == 0x3D)

abbrev pub behind : Sets → TextKind → Halves → ℕ → Halves
behind sets kind halves b = if resets kind b then start_of sets else halves

-- ---- the first of a text

-- what a byte begins
abbrev pub opening_of : Halves → ℕ → Opening
opening_of halves b = if nat_lt b 0x80 then left_opening halves.left b else right_opening halves.right b

abbrev pub opened : Opening → Sets → TextKind → Halves → List ℕ → Option Found
opened (opening.Byte c) sets kind halves [] = None
opened (opening.Byte c) sets kind halves (b ∷ rest) =
    Some (record { size = 1; meaning = meaning_of c; halves = behind sets kind halves b })
opened (opening.Form f) sets kind halves text = of_form f halves text

-- ESC, with code extensions in use
abbrev pub is_escape : Sets → ℕ → Bool
is_escape sets b = (b == 0x1B) && sets.extended

-- what a text begins with: how many bytes, what they are, and what all bytes mean behind them; nothing, where all of it
-- may be a part of something. A designation begins with ESC.
unfoldable pub first_of : Sets → TextKind → Halves → List ℕ → Option Found
first_of sets kind halves [] = None
first_of sets kind halves (b ∷ rest) =
    if is_escape sets b then designated sets designations halves rest
    else opened (opening_of halves b) sets kind halves (b ∷ rest)
