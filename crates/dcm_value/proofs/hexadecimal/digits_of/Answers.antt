use Rattle.dcm_value.proofs.UnitOrder.Woven.{high_within, low_within, digits_shown}
use Rattle.dcm_value.proofs.hexadecimal.digits_of.Goals as goal

pub swizzle-high : goal.swizzle-high
swizzle-high c = high_within c.args.bytes c.fits-bytes

pub swizzle-low : goal.swizzle-low
swizzle-low c = low_within c.args.bytes c.fits-bytes

pub returns : goal.returns
returns c = digits_shown c.args.bytes c.fits-bytes
