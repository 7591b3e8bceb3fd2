use Rattle.std.proofs.Common.{sym, ◌∙◌}
use Rattle.dcm_json.proofs.PlainFronts.{size_found, size_none}
use Rattle.dcm_json.proofs.escaped.plain_front_singly.Goals as goal

pub returns-in-Some-clause-value : goal.returns-in-Some-clause-value
returns-in-Some-clause-value c = size_found c.args.bytes.now c.in-Some.at (sym c.escaped_byte.ensures ∙ c.in-Some.is)

pub returns-in-None-clause-value : goal.returns-in-None-clause-value
returns-in-None-clause-value c = size_none c.args.bytes.now (sym c.escaped_byte.ensures ∙ c.in-None.is)
