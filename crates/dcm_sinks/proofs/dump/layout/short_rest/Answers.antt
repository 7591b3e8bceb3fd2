use Rattle.dcm_sinks.proofs.Dumps.ShortLines.{short_start}
use Rattle.dcm_sinks.proofs.dump.layout.short_rest.Goals as goal

pub returns-then-count-lt10 : goal.returns-then-count-lt10
returns-then-count-lt10 c = short_start c.args.length _ _ _ c.args.count c.in_ok-a.ensures c.if-count-lt10.true
