use Rattle.std.proofs.Common.{◌∙◌, ap}
use Rattle.dcm_names.specs.Names.{can_be_opened}
use Rattle.dcm_names.proofs.Kept.{opens_as}
use Rattle.dcm_names.proofs.list.OpenLine.is_openable.Goals as goal

pub returns-then-not-self : goal.returns-then-not-self
returns-then-not-self c = λ line held.
    c.can_be_opened.ensures ∙ ap can_be_opened c.as_slice.ensures.value ∙ opens_as c.args.self.now.kept.items line c.args.self.now.is_longer held.kept held.longer c.if-not-self.true
