use Rattle.std.proofs.Common.{[], ◌∷◌, ◌++◌, Ok}
use Rattle.dcm_base.specs.Steps.Atoms.{opens, closes_sequence}
use Rattle.dcm_base.specs.declared.length.Length.TheVariants.{Undefined}
use Rattle.dcm_base.specs.declared.vr.Vr.TheVariants.{SQ}
use Rattle.dcm_base.specs.Tables.Syntax.{Little}
use Rattle.dcm_deid.specs.Saying.{tag_at}
use Rattle.dcm_deid.specs.DeidentifySink as spec
use Rattle.dcm_deid.proofs.Taking.{token, on, failed}
use Rattle.dcm_deid.proofs.said.put_methods.Goals as goal

pub returns-in_err-put_codes : goal.returns-in_err-put_codes
returns-in_err-put_codes g c = (on g.S.Sink (c.args.sink.now) (c.take.new.self) (c.put_codes.new.sink) (opens (tag_at 0x0012 0x0064) SQ Undefined Little ∷ []) ((spec.method_atoms c.args.options.now) ++ (closes_sequence ∷ [])) (token g.S.Sink (c.args.sink.now) (c.take.new.self) (opens (tag_at 0x0012 0x0064) SQ Undefined Little ∷ []) (Ok tt) c.in_ok-take.ensures.state c.in_ok-take.ensures.bytes c.in_ok-take.ensures.failed c.in_ok-take.ensures.kept) (failed g.S.Sink (c.take.new.self) (c.put_codes.new.sink) (spec.method_atoms c.args.options.now) (closes_sequence ∷ []) c.from_residual-in_err-put_codes.result c.from_residual-in_err-put_codes.ensures.0 c.in_err-put_codes.ensures))

pub returns : goal.returns
returns g c = (on g.S.Sink (c.args.sink.now) (c.take.new.self) (c.take-2.new.self) (opens (tag_at 0x0012 0x0064) SQ Undefined Little ∷ []) ((spec.method_atoms c.args.options.now) ++ (closes_sequence ∷ [])) (token g.S.Sink (c.args.sink.now) (c.take.new.self) (opens (tag_at 0x0012 0x0064) SQ Undefined Little ∷ []) (Ok tt) c.in_ok-take.ensures.state c.in_ok-take.ensures.bytes c.in_ok-take.ensures.failed c.in_ok-take.ensures.kept) (on g.S.Sink (c.take.new.self) (c.put_codes.new.sink) (c.take-2.new.self) (spec.method_atoms c.args.options.now) (closes_sequence ∷ []) c.in_ok-put_codes.ensures (token g.S.Sink (c.put_codes.new.sink) (c.take-2.new.self) (closes_sequence ∷ []) c.take-2.result c.take-2.ensures.state c.take-2.ensures.bytes c.take-2.ensures.failed c.take-2.ensures.kept)))
