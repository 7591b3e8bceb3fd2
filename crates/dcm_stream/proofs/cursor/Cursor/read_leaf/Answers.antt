use Rattle.std.proofs.Common.{rules, ◌≡◌, ◌∙◌, ◌+◌, ap, None, length}
use Rattle.dcm_stream.specs.declared.cursor.Cursor.{Cursor}
use Rattle.dcm_stream.specs.Machine.{reading, held_sign}
use Rattle.dcm_stream.proofs.Heads.WholeLeaves.{leaf_came, leaf_failed, no_sign_opened}
use Rattle.dcm_stream.proofs.cursor.Cursor.read_leaf.Goals as goal

pub returns-in_err-take_whole : goal.returns-in_err-take_whole
returns-in_err-take_whole g c =
    let cursor = c.args.self.now in
    record {
      comes = leaf_failed g.S.Sink.step g.S.Sink.writes cursor c.args.leaf (g.S.Sink.state c.args.sink.now) (g.S.Sink.contents c.args.sink.now) (g.S.Sink.state c.take_whole.new.self) (g.S.Sink.contents c.take_whole.new.self) (reading cursor) c.from_residual.result c.from_residual.ensures.1 c.in_err-take_whole.ensures.bytes;
      failed = search rules;
      kept = search rules;
    }

pub returns : goal.returns
returns g c =
    let cursor = c.args.self.now in
    let p : Cursor = c.begin_sign.new.self in
    let rest = c.begin_sign.ensures.rest in
    let none : held_sign p ≡ None = c.begin_sign.ensures.sign ∙ no_sign_opened c.args.opening c.args.leaf c.requires.leaf in
    let at : p.position ≡ cursor.position + length c.args.leaf.value.now = ap (λ (q : Cursor). q.position) rest in
    let levels : p.levels ≡ cursor.levels = ap (λ (q : Cursor). q.levels) rest in
    record {
      comes = leaf_came g.S.Sink.step g.S.Sink.writes cursor p c.args.leaf (g.S.Sink.state c.args.sink.now) (g.S.Sink.contents c.args.sink.now) (g.S.Sink.state c.take_whole.new.self) (g.S.Sink.contents c.take_whole.new.self)
          (g.S.Sink.state c.settle.new.sink) (g.S.Sink.contents c.settle.new.sink) (reading c.settle.new.self) c.settle.result none at levels c.in_ok-take_whole.ensures.state c.in_ok-take_whole.ensures.bytes c.settle.ensures.comes;
      failed = search rules;
      kept = search rules;
    }
