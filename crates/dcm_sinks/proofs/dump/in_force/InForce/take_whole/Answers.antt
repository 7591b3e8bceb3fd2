use Rattle.std.proofs.Common.{◌∙◌, sym}
use Rattle.dcm_sinks.proofs.DecodedDumps.Forces.{passes_whole}
use Rattle.dcm_sinks.proofs.dump.in_force.InForce.take_whole.Goals as goal

pub returns-else-is_character_set : goal.returns-else-is_character_set
returns-else-is_character_set c =
    let a = c.args in
    c.pass.ensures ∙ passes_whole a.self.now a.head a.syntax a.value.now (sym c.is_character_set.ensures ∙ c.if-is_character_set.false)
