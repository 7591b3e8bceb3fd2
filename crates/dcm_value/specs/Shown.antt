-- A `Shown` in the definitions.
use Rattle.dcm_value.specs.declared.display.Shown.{Shown}
use Rattle.dcm_value.specs.Display.{Display}

abbrev pub display_of : Shown → Display
display_of s = record { mode = s.mode; shown = s.count; front = s.front.items }
