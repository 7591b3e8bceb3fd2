use Rattle.std.proofs.Common.{◌++◌}
use Rattle.std.specs.Prelude.{codes}
use Rattle.dcm_deid.specs.DeidentifySink as spec
use Rattle.dcm_deid.proofs.Taking.{on, failed}
use Rattle.dcm_deid.specs.Fate.{are_left}
use Rattle.dcm_deid.specs.Saying.{dates_code, dates_meaning}
use Rattle.dcm_deid.proofs.said.put_codes.Goals as goal

pub returns-in_err-put_code : goal.returns-in_err-put_code
returns-in_err-put_code g c = (failed g.S.Sink (c.args.sink.now) (c.put_code.new.sink) (spec.code_atoms (codes "113100") (codes "Basic Application Confidentiality Profile")) ((spec.code_atoms_if (are_left c.args.options.now.dates) (dates_code c.args.options.now.dates) (dates_meaning c.args.options.now.dates)) ++ ((spec.code_atoms_if c.args.options.now.patient (codes "113108") (codes "Retain Patient Characteristics Option")) ++ ((spec.code_atoms_if c.args.options.now.device (codes "113109") (codes "Retain Device Identity Option")) ++ ((spec.code_atoms_if c.args.options.now.uids (codes "113110") (codes "Retain UIDs Option")) ++ (spec.code_atoms_if c.args.options.now.institution (codes "113112") (codes "Retain Institution Identity Option")))))) c.from_residual.result c.from_residual.ensures.0 c.in_err-put_code.ensures)

pub returns-in_err-put_dates_code : goal.returns-in_err-put_dates_code
returns-in_err-put_dates_code g c = (on g.S.Sink (c.args.sink.now) (c.put_code.new.sink) (c.put_dates_code.new.sink) (spec.code_atoms (codes "113100") (codes "Basic Application Confidentiality Profile")) ((spec.code_atoms_if (are_left c.args.options.now.dates) (dates_code c.args.options.now.dates) (dates_meaning c.args.options.now.dates)) ++ ((spec.code_atoms_if c.args.options.now.patient (codes "113108") (codes "Retain Patient Characteristics Option")) ++ ((spec.code_atoms_if c.args.options.now.device (codes "113109") (codes "Retain Device Identity Option")) ++ ((spec.code_atoms_if c.args.options.now.uids (codes "113110") (codes "Retain UIDs Option")) ++ (spec.code_atoms_if c.args.options.now.institution (codes "113112") (codes "Retain Institution Identity Option")))))) c.in_ok-put_code.ensures (failed g.S.Sink (c.put_code.new.sink) (c.put_dates_code.new.sink) (spec.code_atoms_if (are_left c.args.options.now.dates) (dates_code c.args.options.now.dates) (dates_meaning c.args.options.now.dates)) ((spec.code_atoms_if c.args.options.now.patient (codes "113108") (codes "Retain Patient Characteristics Option")) ++ ((spec.code_atoms_if c.args.options.now.device (codes "113109") (codes "Retain Device Identity Option")) ++ ((spec.code_atoms_if c.args.options.now.uids (codes "113110") (codes "Retain UIDs Option")) ++ (spec.code_atoms_if c.args.options.now.institution (codes "113112") (codes "Retain Institution Identity Option"))))) c.from_residual-in_err-put_dates_code.result c.from_residual-in_err-put_dates_code.ensures.0 c.in_err-put_dates_code.ensures))

pub returns-in_err-put_code_if : goal.returns-in_err-put_code_if
returns-in_err-put_code_if g c = (on g.S.Sink (c.args.sink.now) (c.put_code.new.sink) (c.put_code_if.new.sink) (spec.code_atoms (codes "113100") (codes "Basic Application Confidentiality Profile")) ((spec.code_atoms_if (are_left c.args.options.now.dates) (dates_code c.args.options.now.dates) (dates_meaning c.args.options.now.dates)) ++ ((spec.code_atoms_if c.args.options.now.patient (codes "113108") (codes "Retain Patient Characteristics Option")) ++ ((spec.code_atoms_if c.args.options.now.device (codes "113109") (codes "Retain Device Identity Option")) ++ ((spec.code_atoms_if c.args.options.now.uids (codes "113110") (codes "Retain UIDs Option")) ++ (spec.code_atoms_if c.args.options.now.institution (codes "113112") (codes "Retain Institution Identity Option")))))) c.in_ok-put_code.ensures (on g.S.Sink (c.put_code.new.sink) (c.put_dates_code.new.sink) (c.put_code_if.new.sink) (spec.code_atoms_if (are_left c.args.options.now.dates) (dates_code c.args.options.now.dates) (dates_meaning c.args.options.now.dates)) ((spec.code_atoms_if c.args.options.now.patient (codes "113108") (codes "Retain Patient Characteristics Option")) ++ ((spec.code_atoms_if c.args.options.now.device (codes "113109") (codes "Retain Device Identity Option")) ++ ((spec.code_atoms_if c.args.options.now.uids (codes "113110") (codes "Retain UIDs Option")) ++ (spec.code_atoms_if c.args.options.now.institution (codes "113112") (codes "Retain Institution Identity Option"))))) c.in_ok-put_dates_code.ensures (failed g.S.Sink (c.put_dates_code.new.sink) (c.put_code_if.new.sink) (spec.code_atoms_if c.args.options.now.patient (codes "113108") (codes "Retain Patient Characteristics Option")) ((spec.code_atoms_if c.args.options.now.device (codes "113109") (codes "Retain Device Identity Option")) ++ ((spec.code_atoms_if c.args.options.now.uids (codes "113110") (codes "Retain UIDs Option")) ++ (spec.code_atoms_if c.args.options.now.institution (codes "113112") (codes "Retain Institution Identity Option")))) c.from_residual-in_err-put_code_if.result c.from_residual-in_err-put_code_if.ensures.0 c.in_err-put_code_if.ensures)))

pub returns-in_err-put_code_if-2 : goal.returns-in_err-put_code_if-2
returns-in_err-put_code_if-2 g c = (on g.S.Sink (c.args.sink.now) (c.put_code.new.sink) (c.put_code_if-2.new.sink) (spec.code_atoms (codes "113100") (codes "Basic Application Confidentiality Profile")) ((spec.code_atoms_if (are_left c.args.options.now.dates) (dates_code c.args.options.now.dates) (dates_meaning c.args.options.now.dates)) ++ ((spec.code_atoms_if c.args.options.now.patient (codes "113108") (codes "Retain Patient Characteristics Option")) ++ ((spec.code_atoms_if c.args.options.now.device (codes "113109") (codes "Retain Device Identity Option")) ++ ((spec.code_atoms_if c.args.options.now.uids (codes "113110") (codes "Retain UIDs Option")) ++ (spec.code_atoms_if c.args.options.now.institution (codes "113112") (codes "Retain Institution Identity Option")))))) c.in_ok-put_code.ensures (on g.S.Sink (c.put_code.new.sink) (c.put_dates_code.new.sink) (c.put_code_if-2.new.sink) (spec.code_atoms_if (are_left c.args.options.now.dates) (dates_code c.args.options.now.dates) (dates_meaning c.args.options.now.dates)) ((spec.code_atoms_if c.args.options.now.patient (codes "113108") (codes "Retain Patient Characteristics Option")) ++ ((spec.code_atoms_if c.args.options.now.device (codes "113109") (codes "Retain Device Identity Option")) ++ ((spec.code_atoms_if c.args.options.now.uids (codes "113110") (codes "Retain UIDs Option")) ++ (spec.code_atoms_if c.args.options.now.institution (codes "113112") (codes "Retain Institution Identity Option"))))) c.in_ok-put_dates_code.ensures (on g.S.Sink (c.put_dates_code.new.sink) (c.put_code_if.new.sink) (c.put_code_if-2.new.sink) (spec.code_atoms_if c.args.options.now.patient (codes "113108") (codes "Retain Patient Characteristics Option")) ((spec.code_atoms_if c.args.options.now.device (codes "113109") (codes "Retain Device Identity Option")) ++ ((spec.code_atoms_if c.args.options.now.uids (codes "113110") (codes "Retain UIDs Option")) ++ (spec.code_atoms_if c.args.options.now.institution (codes "113112") (codes "Retain Institution Identity Option")))) c.in_ok-put_code_if.ensures (failed g.S.Sink (c.put_code_if.new.sink) (c.put_code_if-2.new.sink) (spec.code_atoms_if c.args.options.now.device (codes "113109") (codes "Retain Device Identity Option")) ((spec.code_atoms_if c.args.options.now.uids (codes "113110") (codes "Retain UIDs Option")) ++ (spec.code_atoms_if c.args.options.now.institution (codes "113112") (codes "Retain Institution Identity Option"))) c.from_residual-in_err-put_code_if-2.result c.from_residual-in_err-put_code_if-2.ensures.0 c.in_err-put_code_if-2.ensures))))

pub returns-in_err-put_code_if-3 : goal.returns-in_err-put_code_if-3
returns-in_err-put_code_if-3 g c = (on g.S.Sink (c.args.sink.now) (c.put_code.new.sink) (c.put_code_if-3.new.sink) (spec.code_atoms (codes "113100") (codes "Basic Application Confidentiality Profile")) ((spec.code_atoms_if (are_left c.args.options.now.dates) (dates_code c.args.options.now.dates) (dates_meaning c.args.options.now.dates)) ++ ((spec.code_atoms_if c.args.options.now.patient (codes "113108") (codes "Retain Patient Characteristics Option")) ++ ((spec.code_atoms_if c.args.options.now.device (codes "113109") (codes "Retain Device Identity Option")) ++ ((spec.code_atoms_if c.args.options.now.uids (codes "113110") (codes "Retain UIDs Option")) ++ (spec.code_atoms_if c.args.options.now.institution (codes "113112") (codes "Retain Institution Identity Option")))))) c.in_ok-put_code.ensures (on g.S.Sink (c.put_code.new.sink) (c.put_dates_code.new.sink) (c.put_code_if-3.new.sink) (spec.code_atoms_if (are_left c.args.options.now.dates) (dates_code c.args.options.now.dates) (dates_meaning c.args.options.now.dates)) ((spec.code_atoms_if c.args.options.now.patient (codes "113108") (codes "Retain Patient Characteristics Option")) ++ ((spec.code_atoms_if c.args.options.now.device (codes "113109") (codes "Retain Device Identity Option")) ++ ((spec.code_atoms_if c.args.options.now.uids (codes "113110") (codes "Retain UIDs Option")) ++ (spec.code_atoms_if c.args.options.now.institution (codes "113112") (codes "Retain Institution Identity Option"))))) c.in_ok-put_dates_code.ensures (on g.S.Sink (c.put_dates_code.new.sink) (c.put_code_if.new.sink) (c.put_code_if-3.new.sink) (spec.code_atoms_if c.args.options.now.patient (codes "113108") (codes "Retain Patient Characteristics Option")) ((spec.code_atoms_if c.args.options.now.device (codes "113109") (codes "Retain Device Identity Option")) ++ ((spec.code_atoms_if c.args.options.now.uids (codes "113110") (codes "Retain UIDs Option")) ++ (spec.code_atoms_if c.args.options.now.institution (codes "113112") (codes "Retain Institution Identity Option")))) c.in_ok-put_code_if.ensures (on g.S.Sink (c.put_code_if.new.sink) (c.put_code_if-2.new.sink) (c.put_code_if-3.new.sink) (spec.code_atoms_if c.args.options.now.device (codes "113109") (codes "Retain Device Identity Option")) ((spec.code_atoms_if c.args.options.now.uids (codes "113110") (codes "Retain UIDs Option")) ++ (spec.code_atoms_if c.args.options.now.institution (codes "113112") (codes "Retain Institution Identity Option"))) c.in_ok-put_code_if-2.ensures (failed g.S.Sink (c.put_code_if-2.new.sink) (c.put_code_if-3.new.sink) (spec.code_atoms_if c.args.options.now.uids (codes "113110") (codes "Retain UIDs Option")) (spec.code_atoms_if c.args.options.now.institution (codes "113112") (codes "Retain Institution Identity Option")) c.from_residual-in_err-put_code_if-3.result c.from_residual-in_err-put_code_if-3.ensures.0 c.in_err-put_code_if-3.ensures)))))

pub returns : goal.returns
returns g c = (on g.S.Sink (c.args.sink.now) (c.put_code.new.sink) (c.put_code_if-4.new.sink) (spec.code_atoms (codes "113100") (codes "Basic Application Confidentiality Profile")) ((spec.code_atoms_if (are_left c.args.options.now.dates) (dates_code c.args.options.now.dates) (dates_meaning c.args.options.now.dates)) ++ ((spec.code_atoms_if c.args.options.now.patient (codes "113108") (codes "Retain Patient Characteristics Option")) ++ ((spec.code_atoms_if c.args.options.now.device (codes "113109") (codes "Retain Device Identity Option")) ++ ((spec.code_atoms_if c.args.options.now.uids (codes "113110") (codes "Retain UIDs Option")) ++ (spec.code_atoms_if c.args.options.now.institution (codes "113112") (codes "Retain Institution Identity Option")))))) c.in_ok-put_code.ensures (on g.S.Sink (c.put_code.new.sink) (c.put_dates_code.new.sink) (c.put_code_if-4.new.sink) (spec.code_atoms_if (are_left c.args.options.now.dates) (dates_code c.args.options.now.dates) (dates_meaning c.args.options.now.dates)) ((spec.code_atoms_if c.args.options.now.patient (codes "113108") (codes "Retain Patient Characteristics Option")) ++ ((spec.code_atoms_if c.args.options.now.device (codes "113109") (codes "Retain Device Identity Option")) ++ ((spec.code_atoms_if c.args.options.now.uids (codes "113110") (codes "Retain UIDs Option")) ++ (spec.code_atoms_if c.args.options.now.institution (codes "113112") (codes "Retain Institution Identity Option"))))) c.in_ok-put_dates_code.ensures (on g.S.Sink (c.put_dates_code.new.sink) (c.put_code_if.new.sink) (c.put_code_if-4.new.sink) (spec.code_atoms_if c.args.options.now.patient (codes "113108") (codes "Retain Patient Characteristics Option")) ((spec.code_atoms_if c.args.options.now.device (codes "113109") (codes "Retain Device Identity Option")) ++ ((spec.code_atoms_if c.args.options.now.uids (codes "113110") (codes "Retain UIDs Option")) ++ (spec.code_atoms_if c.args.options.now.institution (codes "113112") (codes "Retain Institution Identity Option")))) c.in_ok-put_code_if.ensures (on g.S.Sink (c.put_code_if.new.sink) (c.put_code_if-2.new.sink) (c.put_code_if-4.new.sink) (spec.code_atoms_if c.args.options.now.device (codes "113109") (codes "Retain Device Identity Option")) ((spec.code_atoms_if c.args.options.now.uids (codes "113110") (codes "Retain UIDs Option")) ++ (spec.code_atoms_if c.args.options.now.institution (codes "113112") (codes "Retain Institution Identity Option"))) c.in_ok-put_code_if-2.ensures (on g.S.Sink (c.put_code_if-2.new.sink) (c.put_code_if-3.new.sink) (c.put_code_if-4.new.sink) (spec.code_atoms_if c.args.options.now.uids (codes "113110") (codes "Retain UIDs Option")) (spec.code_atoms_if c.args.options.now.institution (codes "113112") (codes "Retain Institution Identity Option")) c.in_ok-put_code_if-3.ensures c.put_code_if-4.ensures)))))
