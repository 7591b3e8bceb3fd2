use Rattle.dcm_uid.specs.Hmac.{IsKey, hmac_sha256, pad}
use Rattle.dcm_uid.proofs.hmac.Key.code_of.Goals as goal

pub returns : goal.returns
unfolding IsKey hmac_sha256
returns c key message held hashed =
    let digest = c.finalize-digest.ensures _ hashed in
    let whole = c.finalize.ensures _ (c.update.ensures (pad 0x5C key) (rw c.copied-outer.ensures held.1)) in
    rw digest at whole
