use Rattle.std.proofs.Common.{ltb, w8}
use Rattle.std.proofs.lemmas.Simd.{bitmask_splat}
use Rattle.dcm_value.proofs.Displays.TextLanes.{mask_any}
use Rattle.dcm_value.proofs.escapes.has_control.Goals as goal

pub returns : goal.returns
returns g c = mask_any ltb c.args.bytes _ 32 (bitmask_splat w8 ltb c.args.bytes g.row.LANES 32 c.fits-bytes.0 c.requires)
