use Rattle.std.proofs.Common.{◌∙◌, ap, sym, subst, rules, arith, refl, ℕ, List}
use Rattle.std.specs.Io.KnownBytes.{append_known}
use Rattle.dcm_lemmas.proofs.Options.{known_nothing}
use Rattle.dcm_devices.specs.Device.{Puts}
use Rattle.dcm_devices.proofs.Writes.Puts.{puts_behind}
use Rattle.dcm_table.proofs.Texts.{two_failed}
use Rattle.dcm_trees.proofs.Ends.{lines_none, lines_more}
use Rattle.dcm_trees.proofs.lines.+put_edits.Goals as goal

pub returns-then-count-eq0 : goal.returns-then-count-eq0
returns-then-count-eq0 g t c = record {
  bytes = sym (known_nothing _) ∙ ap (append_known (g.E.DeviceOut.contents c.args.errors.now)) (sym (lines_none c.args.name.now c.args.count c.args.edit c.args.mask (omega (arith, c.if-count-eq0.true))));
  failed = refl;
}

pub returns-in_err-put_edit : goal.returns-in_err-put_edit
returns-in_err-put_edit g t c = record {
  bytes = subst (λ (text : List ℕ). Puts (g.E.DeviceOut.contents c.args.errors.now) (g.E.DeviceOut.contents c.put_edit.new.errors) text c.from_residual.result)
      (sym (lines_more c.args.name.now c.args.count c.args.edit c.args.mask (omega (arith, c.if-count-eq0.false))))
      (two_failed _ _ _ _ c.from_residual.result c.from_residual.ensures.0 c.in_err-put_edit.ensures.bytes);
  failed = search rules;
}

pub returns : goal.returns
returns g t c = record {
  bytes = subst (λ (text : List ℕ). Puts (g.E.DeviceOut.contents c.args.errors.now) (g.E.DeviceOut.contents c.put_edits.new.errors) text c.put_edits.result)
      (sym (lines_more c.args.name.now c.args.count c.args.edit c.args.mask (omega (arith, c.if-count-eq0.false))))
      (puts_behind _ _ _ _ _ c.put_edits.result c.in_ok-put_edit.ensures.bytes c.put_edits.ensures.bytes);
  failed = search rules;
}
