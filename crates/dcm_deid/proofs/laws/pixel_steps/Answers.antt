use Rattle.dcm_deid.proofs.PixelsTold as pixels
use Rattle.dcm_deid.proofs.laws.pixel_steps.Goals as goal

pub returns : goal.returns
returns c = pixels.pixel_steps
