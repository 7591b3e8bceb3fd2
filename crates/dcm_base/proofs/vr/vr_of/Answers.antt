use Rattle.dcm_base.proofs.Letters.{named_by}
use Rattle.dcm_base.proofs.vr.vr_of.Goals as goal

pub returns-in-Some : goal.returns-in-Some
returns-in-Some c = named_by c.in-Some.vr c.args.letters.now c.in-Some.ensures
