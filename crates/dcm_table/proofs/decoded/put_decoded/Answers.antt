use Rattle.std.proofs.Common.{subst, sym, List, ℕ}
use Rattle.dcm_devices.specs.Device.{Puts}
use Rattle.std.proofs.Common.{rules, [], ◌∷◌}
use Rattle.dcm_text.specs.Shown.{cell}
use Rattle.dcm_table.specs.Quoted as spec
use Rattle.dcm_table.proofs.DecodedTexts.{printable_cell}
use Rattle.dcm_table.proofs.Texts.{three_failed_first, three_failed_second, three_went}
use Rattle.dcm_table.proofs.decoded.put_decoded.Goals as goal

pub returns-in_err-put_all : goal.returns-in_err-put_all
returns-in_err-put_all g c = record {
  bytes = three_failed_first _ _ (34 ∷ []) (spec.doubled (cell c.args.sets c.args.kind c.args.text.now)) (34 ∷ []) _ c.from_residual.ensures.0 c.in_err-put_all.ensures.wrote.bytes;
  failed = search rules;
}

pub returns-in_err-put_characters : goal.returns-in_err-put_characters
returns-in_err-put_characters g c = record {
  bytes = three_failed_second _ _ _ (34 ∷ []) _ (34 ∷ []) _ c.from_residual-in_err-put_characters.ensures.0 c.in_ok-put_all.ensures.wrote.bytes c.in_err-put_characters.ensures.bytes;
  failed = search rules;
}

pub returns : goal.returns
returns g c = record {
  bytes = three_went _ _ _ _ (34 ∷ []) _ (34 ∷ []) _ c.in_ok-put_all.ensures.wrote.bytes c.in_ok-put_characters.ensures.bytes c.put_all-2.ensures.wrote.bytes;
  failed = search rules;
}

pub returns-then-is_printable : goal.returns-then-is_printable
returns-then-is_printable g c = record {
  bytes = subst (λ (x : List ℕ). Puts (g.W.DeviceOut.contents c.args.out.now) (g.W.DeviceOut.contents c.put_quoted.new.out) (spec.quoted x) c.put_quoted.result)
      (printable_cell c.args.sets c.args.kind c.args.text.now (sym c.if-is_printable.ensures)) c.put_quoted.ensures.bytes;
  failed = c.put_quoted.ensures.failed;
}
