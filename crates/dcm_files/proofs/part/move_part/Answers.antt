use Rattle.std.proofs.Common.{rules, refl, ◌∙◌}
use Rattle.dcm_files.specs.Part.{no_text, too_long, no_path, not_kept, moved}
use Rattle.dcm_files.proofs.Parts.{not_text_part}
use Rattle.dcm_files.proofs.part.move_part.Goals as goal

pub returns-in_err-part : goal.returns-in_err-part
returns-in_err-part g c = no_path c.in_err-part.field-0.0 (too_long c.in_err-part.ensures.err.0 c.in_err-part.ensures.err.1) (search rules) refl

pub returns-in_err-part-2 : goal.returns-in_err-part-2
returns-in_err-part-2 g c =
    no_path c.in_err-part-2.field-0.0
    (no_text (not_text_part c.args.output.now _ (c.as_slice.ensures.value ∙ c.in_ok-part.ensures.ok) c.in_err-part-2.ensures.err.0) c.in_err-part-2.ensures.err.1)
    (search rules) refl

pub returns-in_err-output : goal.returns-in_err-output
returns-in_err-output g c = no_path c.in_err-output.field-0.0 (no_text c.in_err-output.ensures.err.0 c.in_err-output.ensures.err.1) (search rules) refl

pub returns-in_err-keep_mode : goal.returns-in_err-keep_mode
returns-in_err-keep_mode g c = not_kept c.in_err-keep_mode.field-0.0 (search rules) (search rules)

pub returns : goal.returns
returns g c = moved c.keep_mode.new.self (search rules) (search rules)
