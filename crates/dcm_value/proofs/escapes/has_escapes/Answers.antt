use Rattle.std.proofs.Common.{◌∙◌}
use Rattle.dcm_value.proofs.Displays.TextLanes.{escapes_any, or_alike}
use Rattle.dcm_value.proofs.escapes.has_escapes.Goals as goal

pub returns : goal.returns
returns g c = or_alike c.has_control.ensures c.has_byte.ensures c.has_byte-2.ensures c.has_byte-3.ensures ∙ escapes_any c.args.bytes
