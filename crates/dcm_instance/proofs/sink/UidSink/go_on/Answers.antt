use Rattle.std.proofs.Common.{◌∙◌, sym}
use Rattle.dcm_instance.proofs.Steps.{decided_atoms, undecided_token}
use Rattle.dcm_stream.specs.Tokens.{atoms_of}
use Rattle.dcm_instance.proofs.sink.UidSink.go_on.Goals as goal

pub returns-then-not-is_decided : goal.returns-then-not-is_decided
returns-then-not-is_decided c =
    c.step.ensures ∙ sym (undecided_token c.args.token c.args.self.now (sym c.is_decided.ensures ∙ c.if-not-is_decided.true))

pub returns-else-not-is_decided : goal.returns-else-not-is_decided
returns-else-not-is_decided c =
    sym (decided_atoms (atoms_of c.args.token) c.args.self.now (sym c.is_decided.ensures ∙ c.if-not-is_decided.false))
