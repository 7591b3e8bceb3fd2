use Rattle.std.proofs.Common.{eqb, w8}
use Rattle.std.proofs.lemmas.Simd.{bitmask_splat}
use Rattle.dcm_value.proofs.Displays.TextLanes.{mask_any}
use Rattle.dcm_value.proofs.escapes.has_byte.Goals as goal

pub returns : goal.returns
returns g c = mask_any eqb c.args.bytes _ c.args.byte (bitmask_splat w8 eqb c.args.bytes g.row.LANES c.args.byte c.fits-bytes.0 c.requires)
