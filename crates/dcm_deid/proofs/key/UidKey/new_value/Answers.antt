use Rattle.std.proofs.Math.Logic.{∥∥₁_elim}
use Rattle.std.proofs.Props.{props}
use Rattle.dcm_deid.proofs.key.UidKey.new_value.Goals as goal

pub returns : goal.returns
returns c = ∥∥₁_elim c.args.self.now.is_key (Prim.hlevel props) (λ is. c.new_value.ensures c.args.self.now.bytes.now is)
