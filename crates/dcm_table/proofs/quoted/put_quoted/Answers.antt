use Rattle.std.proofs.Common.{rules, [], ◌∷◌}
use Rattle.dcm_table.specs.Quoted as spec
use Rattle.dcm_table.proofs.Texts.{three_failed_first, three_failed_second, three_went}
use Rattle.dcm_table.proofs.quoted.put_quoted.Goals as goal

pub returns-in_err-put_all : goal.returns-in_err-put_all
returns-in_err-put_all g c = record {
  bytes = three_failed_first _ _ (34 ∷ []) (spec.doubled (spec.text_in c.args.form c.args.bytes.now)) (34 ∷ []) _ c.from_residual.ensures.0 c.in_err-put_all.ensures.wrote.bytes;
  failed = search rules;
}

pub returns-in_err-put_text : goal.returns-in_err-put_text
returns-in_err-put_text g c = record {
  bytes = three_failed_second _ _ _ (34 ∷ []) _ (34 ∷ []) _ c.from_residual-in_err-put_text.ensures.0 c.in_ok-put_all.ensures.wrote.bytes c.in_err-put_text.ensures.bytes;
  failed = search rules;
}

pub returns : goal.returns
returns g c = record {
  bytes = three_went _ _ _ _ (34 ∷ []) _ (34 ∷ []) _ c.in_ok-put_all.ensures.wrote.bytes c.in_ok-put_text.ensures.bytes c.put_all-2.ensures.wrote.bytes;
  failed = search rules;
}
