use Rattle.dcm_sinks.proofs.Dumps.ShortLines.{one_digit, two_digits}
use Rattle.dcm_sinks.proofs.dump.layout.two_places.Goals as goal

pub returns-then-number-lt10 : goal.returns-then-number-lt10
returns-then-number-lt10 c = one_digit c.args.number c.if-number-lt10.true

pub returns-else-number-lt10 : goal.returns-else-number-lt10
returns-else-number-lt10 c = two_digits c.args.number c.if-number-lt10.false c.requires
