-- A display that is shown piece by piece, and padded to 40 bytes.
use Rattle.std.specs.Prelude.{ℕ, ◌+◌, ◌-◌, min, nat_lt, Bool, true, false, ◌&&◌, if◌then◌else◌, List, [], ◌++◌, length}
use Rattle.std.specs.Prelude.{take, replicate, codes}
use Rattle.dcm_base.specs.declared.mode.Mode.{Mode}
use Rattle.dcm_base.specs.declared.mode.Mode.TheVariants.{Short, Full}
use Rattle.dcm_base.specs.Dump.ValueText.{padded}

pub record Display : Type 0 where
  pub mode : Mode
  -- how many bytes were shown, where 67 is more too
  pub shown : ℕ
  -- in Short the first 66
  pub front : List ℕ

abbrev pub blank : Mode → Display
blank mode = record { mode = mode; shown = 0; front = [] }

abbrev pub front_after : Mode → List ℕ → List ℕ → List ℕ
front_after Short front bytes = take 66 (front ++ bytes)
front_after Full front bytes = front

-- how many bytes the front has
abbrev pub front_size : Mode → ℕ → ℕ
front_size Short shown = min 66 shown
front_size Full shown = 0

-- what more is shown is not seen
abbrev pub is_short : Mode → Bool
is_short Short = true
is_short Full = false

abbrev pub is_cut : Display → Bool
is_cut d = is_short d.mode && nat_lt 66 d.shown

-- these bytes are shown next
unfoldable pub emit : Display → List ℕ → Display
emit d bytes = record {
  mode = d.mode;
  shown = min 67 (d.shown + length bytes);
  front = front_after d.mode d.front bytes;
}

-- what is written at once of bytes that are shown
abbrev pub at_once : Mode → List ℕ → List ℕ
at_once Short bytes = []
at_once Full bytes = bytes

-- what is written in the end
abbrev pub ending_of : Mode → ℕ → List ℕ → List ℕ
ending_of Full shown front = replicate (40 - shown) 32
ending_of Short shown front = if nat_lt 66 shown then take 63 front ++ codes "..." else padded front

abbrev pub ending : Display → List ℕ
ending d = ending_of d.mode d.shown d.front
