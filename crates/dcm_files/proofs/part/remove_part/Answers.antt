use Rattle.std.proofs.Common.{rules, refl, ◌∙◌}
use Rattle.dcm_files.specs.Part.{no_text, too_long, no_path}
use Rattle.dcm_files.proofs.Parts.{not_text_part}
use Rattle.dcm_files.proofs.part.remove_part.Goals as goal

pub returns-in_err-part : goal.returns-in_err-part
returns-in_err-part g c = no_path c.in_err-part.field-0.0 (too_long c.in_err-part.ensures.err.0 c.in_err-part.ensures.err.1) (search rules) refl

pub returns-in_err-path : goal.returns-in_err-path
returns-in_err-path g c =
    no_path c.in_err-path.field-0.0
    (no_text (not_text_part c.args.output.now _ (c.as_slice.ensures.value ∙ c.in_ok-part.ensures.ok) c.in_err-path.ensures.err.0) c.in_err-path.ensures.err.1)
    (search rules) refl
