use Rattle.std.proofs.Common.{[], ◌∷◌, ◌++◌, Ok}
use Rattle.std.specs.Prelude.{codes}
use Rattle.dcm_base.specs.Steps.Atoms.{opens_item, closes_item}
use Rattle.dcm_base.specs.declared.length.Length.TheVariants.{Undefined}
use Rattle.dcm_base.specs.declared.vr.Vr.TheVariants.{LO, SH}
use Rattle.dcm_stream.specs.Tokens.{leaf_atoms}
use Rattle.dcm_deid.specs.Saying.{tag_at}
use Rattle.dcm_deid.proofs.Taking.{token, on, failed}
use Rattle.dcm_deid.proofs.said.put_code.Goals as goal

pub returns-in_err-put_leaf : goal.returns-in_err-put_leaf
returns-in_err-put_leaf g c = (on g.S.Sink (c.args.sink.now) (c.take.new.self) (c.put_leaf.new.sink) (opens_item Undefined ∷ []) ((leaf_atoms (tag_at 0x0008 0x0100) SH c.args.code.now) ++ ((leaf_atoms (tag_at 0x0008 0x0102) SH (codes "DCM")) ++ ((leaf_atoms (tag_at 0x0008 0x0104) LO c.args.meaning.now) ++ (closes_item ∷ [])))) (token g.S.Sink (c.args.sink.now) (c.take.new.self) (opens_item Undefined ∷ []) (Ok tt) c.in_ok-take.ensures.state c.in_ok-take.ensures.bytes c.in_ok-take.ensures.failed c.in_ok-take.ensures.kept) (failed g.S.Sink (c.take.new.self) (c.put_leaf.new.sink) (leaf_atoms (tag_at 0x0008 0x0100) SH c.args.code.now) ((leaf_atoms (tag_at 0x0008 0x0102) SH (codes "DCM")) ++ ((leaf_atoms (tag_at 0x0008 0x0104) LO c.args.meaning.now) ++ (closes_item ∷ []))) c.from_residual-in_err-put_leaf.result c.from_residual-in_err-put_leaf.ensures.0 c.in_err-put_leaf.ensures))

pub returns-in_err-put_leaf-2 : goal.returns-in_err-put_leaf-2
returns-in_err-put_leaf-2 g c = (on g.S.Sink (c.args.sink.now) (c.take.new.self) (c.put_leaf-2.new.sink) (opens_item Undefined ∷ []) ((leaf_atoms (tag_at 0x0008 0x0100) SH c.args.code.now) ++ ((leaf_atoms (tag_at 0x0008 0x0102) SH (codes "DCM")) ++ ((leaf_atoms (tag_at 0x0008 0x0104) LO c.args.meaning.now) ++ (closes_item ∷ [])))) (token g.S.Sink (c.args.sink.now) (c.take.new.self) (opens_item Undefined ∷ []) (Ok tt) c.in_ok-take.ensures.state c.in_ok-take.ensures.bytes c.in_ok-take.ensures.failed c.in_ok-take.ensures.kept) (on g.S.Sink (c.take.new.self) (c.put_leaf.new.sink) (c.put_leaf-2.new.sink) (leaf_atoms (tag_at 0x0008 0x0100) SH c.args.code.now) ((leaf_atoms (tag_at 0x0008 0x0102) SH (codes "DCM")) ++ ((leaf_atoms (tag_at 0x0008 0x0104) LO c.args.meaning.now) ++ (closes_item ∷ []))) c.in_ok-put_leaf.ensures (failed g.S.Sink (c.put_leaf.new.sink) (c.put_leaf-2.new.sink) (leaf_atoms (tag_at 0x0008 0x0102) SH (codes "DCM")) ((leaf_atoms (tag_at 0x0008 0x0104) LO c.args.meaning.now) ++ (closes_item ∷ [])) c.from_residual-in_err-put_leaf-2.result c.from_residual-in_err-put_leaf-2.ensures.0 c.in_err-put_leaf-2.ensures)))

pub returns-in_err-put_leaf-3 : goal.returns-in_err-put_leaf-3
returns-in_err-put_leaf-3 g c = (on g.S.Sink (c.args.sink.now) (c.take.new.self) (c.put_leaf-3.new.sink) (opens_item Undefined ∷ []) ((leaf_atoms (tag_at 0x0008 0x0100) SH c.args.code.now) ++ ((leaf_atoms (tag_at 0x0008 0x0102) SH (codes "DCM")) ++ ((leaf_atoms (tag_at 0x0008 0x0104) LO c.args.meaning.now) ++ (closes_item ∷ [])))) (token g.S.Sink (c.args.sink.now) (c.take.new.self) (opens_item Undefined ∷ []) (Ok tt) c.in_ok-take.ensures.state c.in_ok-take.ensures.bytes c.in_ok-take.ensures.failed c.in_ok-take.ensures.kept) (on g.S.Sink (c.take.new.self) (c.put_leaf.new.sink) (c.put_leaf-3.new.sink) (leaf_atoms (tag_at 0x0008 0x0100) SH c.args.code.now) ((leaf_atoms (tag_at 0x0008 0x0102) SH (codes "DCM")) ++ ((leaf_atoms (tag_at 0x0008 0x0104) LO c.args.meaning.now) ++ (closes_item ∷ []))) c.in_ok-put_leaf.ensures (on g.S.Sink (c.put_leaf.new.sink) (c.put_leaf-2.new.sink) (c.put_leaf-3.new.sink) (leaf_atoms (tag_at 0x0008 0x0102) SH (codes "DCM")) ((leaf_atoms (tag_at 0x0008 0x0104) LO c.args.meaning.now) ++ (closes_item ∷ [])) c.in_ok-put_leaf-2.ensures (failed g.S.Sink (c.put_leaf-2.new.sink) (c.put_leaf-3.new.sink) (leaf_atoms (tag_at 0x0008 0x0104) LO c.args.meaning.now) (closes_item ∷ []) c.from_residual-in_err-put_leaf-3.result c.from_residual-in_err-put_leaf-3.ensures.0 c.in_err-put_leaf-3.ensures))))

pub returns : goal.returns
returns g c = (on g.S.Sink (c.args.sink.now) (c.take.new.self) (c.take-2.new.self) (opens_item Undefined ∷ []) ((leaf_atoms (tag_at 0x0008 0x0100) SH c.args.code.now) ++ ((leaf_atoms (tag_at 0x0008 0x0102) SH (codes "DCM")) ++ ((leaf_atoms (tag_at 0x0008 0x0104) LO c.args.meaning.now) ++ (closes_item ∷ [])))) (token g.S.Sink (c.args.sink.now) (c.take.new.self) (opens_item Undefined ∷ []) (Ok tt) c.in_ok-take.ensures.state c.in_ok-take.ensures.bytes c.in_ok-take.ensures.failed c.in_ok-take.ensures.kept) (on g.S.Sink (c.take.new.self) (c.put_leaf.new.sink) (c.take-2.new.self) (leaf_atoms (tag_at 0x0008 0x0100) SH c.args.code.now) ((leaf_atoms (tag_at 0x0008 0x0102) SH (codes "DCM")) ++ ((leaf_atoms (tag_at 0x0008 0x0104) LO c.args.meaning.now) ++ (closes_item ∷ []))) c.in_ok-put_leaf.ensures (on g.S.Sink (c.put_leaf.new.sink) (c.put_leaf-2.new.sink) (c.take-2.new.self) (leaf_atoms (tag_at 0x0008 0x0102) SH (codes "DCM")) ((leaf_atoms (tag_at 0x0008 0x0104) LO c.args.meaning.now) ++ (closes_item ∷ [])) c.in_ok-put_leaf-2.ensures (on g.S.Sink (c.put_leaf-2.new.sink) (c.put_leaf-3.new.sink) (c.take-2.new.self) (leaf_atoms (tag_at 0x0008 0x0104) LO c.args.meaning.now) (closes_item ∷ []) c.in_ok-put_leaf-3.ensures (token g.S.Sink (c.put_leaf-3.new.sink) (c.take-2.new.self) (closes_item ∷ []) c.take-2.result c.take-2.ensures.state c.take-2.ensures.bytes c.take-2.ensures.failed c.take-2.ensures.kept)))))
