use Rattle.std.proofs.Common.{◌∙◌, ap, sym}
use Rattle.dcm_base.specs.Lines.Line.{meaning_of}
use Rattle.dcm_build.proofs.Lines.Spaces.{line_means}
use Rattle.dcm_build.proofs.line.means.Goals as goal

pub returns-in-Some : goal.returns-in-Some
returns-in-Some c =
    c.parts_meaning.ensures ∙ ap meaning_of c.in-Some.ensures ∙ sym (line_means c.args.line.now c.without_spaces-text.result.now c.without_spaces-text.ensures (sym c.if-is_end.ensures))
