-- That a display keeps its text: what undoes it.
use Rattle.std.specs.Prelude.{◌≡◌, ℕ, suc, Bool, true, false, List, [], ◌∷◌, ◌++◌, flat_map, Option, Some, None, encode_utf8}
use Rattle.dcm_text.specs.declared.set.Halves.{Halves}
use Rattle.dcm_text.specs.declared.set.TextKind.{TextKind}
use Rattle.dcm_text.specs.declared.sets.Sets.{Sets}
use Rattle.dcm_text.specs.declared.form.Opening.{Opening}
use Rattle.dcm_text.specs.declared.form.Opening.TheVariants as opening
use Rattle.dcm_text.specs.First.{Designation, behind, changed, designations, is_escape, opening_of, start_of}
use Rattle.dcm_text.specs.Forms.{character_of}
use Rattle.dcm_text.specs.Sets.{has}
use Rattle.dcm_text.specs.Shown.{dumped, percent}

-- the character of bytes, by what the first of them begins: by itself, or together with the others
abbrev pub coded : Opening → (bytes : List ℕ) → Option ℕ
coded (opening.Byte c) (b ∷ []) = c
coded (opening.Byte c) bytes = None
coded (opening.Form f) bytes = character_of f bytes

-- what all bytes mean behind those: only one that stands by itself may switch back
abbrev pub behind_it : Sets → TextKind → Halves → Opening → (b : ℕ) → Halves
behind_it sets kind halves (opening.Byte c) b = behind sets kind halves b
behind_it sets kind halves (opening.Form f) b = halves

-- what is displayed where all bytes mean this, with its %XX undone, its characters coded by what is in force, and the
-- designations that were dropped, is the text
pub data Undoes (sets : Sets) (kind : TextKind) : Halves → (shown text : List ℕ) → Type 0 where
  nothing : (halves : Halves) → Undoes sets kind halves [] []
  -- one byte that has no character, and switches nothing
  a_byte : (halves : Halves) (b : ℕ) (later rest : List ℕ) → Undoes sets kind halves later rest
      → Undoes sets kind halves (percent b ++ later) (b ∷ rest)
  -- the bytes of what is no designation, each as %XX
  all_bytes : (halves : Halves) (b : ℕ) (bytes later rest : List ℕ) → is_escape sets b ≡ false
      → Undoes sets kind (behind_it sets kind halves (opening_of halves b) b) later rest
      → Undoes sets kind halves (flat_map percent (b ∷ bytes) ++ later) ((b ∷ bytes) ++ rest)
  -- a character
  a_character : (halves : Halves) (c b : ℕ) (bytes later rest : List ℕ) → is_escape sets b ≡ false
      → coded (opening_of halves b) (b ∷ bytes) ≡ Some c
      → Undoes sets kind (behind_it sets kind halves (opening_of halves b) b) later rest
      → Undoes sets kind halves (encode_utf8 c ++ later) ((b ∷ bytes) ++ rest)
  -- a designation of a set that is named
  a_designation : (halves : Halves) (d : Designation) (before after : List Designation) (b : ℕ) (shown rest : List ℕ)
      → is_escape sets b ≡ true → designations ≡ before ++ d ∷ after → has sets d.1 ≡ true
      → Undoes sets kind (changed halves d.2) shown rest → Undoes sets kind halves shown (b ∷ (d.0 ++ rest))

-- nothing of a text vanishes in its display
abbrev pub NothingVanishes : Type 0
NothingVanishes =
    (sets : Sets) (kind : TextKind) (text : List ℕ) → Undoes sets kind (start_of sets) (dumped sets kind text) text
