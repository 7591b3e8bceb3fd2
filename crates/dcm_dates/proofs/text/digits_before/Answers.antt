use Rattle.std.proofs.Common.{sym}
use Rattle.std.specs.Prelude.{not}
use Rattle.dcm_dates.specs.DateText.{is_digit}
use Rattle.dcm_dates.proofs.Places.{found, not_found}
use Rattle.dcm_dates.proofs.text.digits_before.Goals as goal

pub returns-in-Some-clause-value : goal.returns-in-Some-clause-value
returns-in-Some-clause-value c = sym (found (λ b. not (is_digit b)) c.args.text.now c.in-Some.at (sym c.in-Some.ensures)).0

pub returns-in-None-clause-value : goal.returns-in-None-clause-value
returns-in-None-clause-value c = sym (not_found (λ b. not (is_digit b)) c.args.text.now (sym c.in-None.ensures))
