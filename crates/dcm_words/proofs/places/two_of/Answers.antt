use Rattle.std.proofs.Common.{sym, ◌∙◌, subst}
use Rattle.dcm_words.specs.Plans.{PathsAre}
use Rattle.dcm_words.specs.declared.words.Paths.{Paths}
use Rattle.dcm_words.proofs.PathsApart.{AreNot, empty_first, empty_second, not_two}
use Rattle.dcm_words.proofs.places.two_of.Goals as goal
use Rattle.dcm_words.proofs.places.two_of.Goals.{in_default-via-in-Two+then-not-is_empty+else-not-is_empty-2, in_default-via-in-Two+else-not-is_empty, in_default-via-in_default}

pub returns-in_default : goal.returns-in_default
returns-in_default c = λ ps are. elim c.in_default.branch [
  | in_default-via-in-Two+then-not-is_empty+else-not-is_empty-2 w ↦ (
      let two = subst (λ (p : Paths). PathsAre p ps) w.in-Two.is are in
      subst (AreNot c.args.overwrites) (sym two) (empty_second c.args.overwrites w.in-Two.input.now w.in-Two.output.now (sym w.is_empty-then-not-is_empty.ensures ∙ w.if-not-is_empty-2.false)))
  | in_default-via-in-Two+else-not-is_empty w ↦ (
      let two = subst (λ (p : Paths). PathsAre p ps) w.in-Two.is are in
      subst (AreNot c.args.overwrites) (sym two) (empty_first c.args.overwrites w.in-Two.input.now w.in-Two.output.now (sym w.is_empty.ensures ∙ w.if-not-is_empty.false)))
  | in_default-via-in_default w ↦ not_two c.args.overwrites c.args.paths ps w.in_default.not-Two are
]
