use Rattle.std.proofs.Common.{◌++◌, append_assoc}
use Rattle.dcm_uid.specs.Hmac.{IsKey, pad}
use Rattle.dcm_uid.proofs.hmac.Key.hmac_of_three.Goals as goal

pub returns : goal.returns
unfolding IsKey
returns c key held =
    let inner = c.update-3.ensures _ (c.update-2.ensures _ (c.update.ensures (pad 0x36 key) (rw c.copied-inner.ensures held.0))) in
    c.code_of.ensures key (c.args.first.now ++ (c.args.second.now ++ c.args.third.now)) held (simp append_assoc at inner)
