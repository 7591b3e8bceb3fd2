-- A `Copier` in the definitions.
use Rattle.std.specs.Prelude.{ℕ, List, Result, option_to_list}
use Rattle.dcm_base.specs.Steps.Outputs.{Went, Writer}
use Rattle.dcm_base.specs.Tables.Representation.{unit}
use Rattle.dcm_sinks.specs.declared.encode.copier.Copier.{Copier}
use Rattle.dcm_sinks.specs.EncodeSink.{Copying, copies, copy_writes}

abbrev pub copying : Copier → Copying
copying c = record {
  unit = unit c.vr;
  is_turned = c.is_turned;
  held = c.held.bytes.items;
  padding = option_to_list c.pad;
}

-- it read these bytes, and the writer has failed exactly where the call did
abbrev pub Copied : {W T E : Type 0} → Writer W → (held holds : W) → (old new : Copier) → List ℕ → Result T E → Type 0
Copied w held holds old new bytes r = Went copies copy_writes w held holds (copying old) (copying new) bytes r
