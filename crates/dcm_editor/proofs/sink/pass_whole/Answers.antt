use Rattle.std.proofs.Common.{rules}
use Rattle.dcm_stream.specs.Tokens.{head_atoms, value_atoms}
use Rattle.dcm_stream.proofs.Runs.Wholes.{whole_failed}
use Rattle.dcm_editor.proofs.sink.pass_whole.Goals as goal

pub returns-in-Err-InValue-clause-took : goal.returns-in-Err-InValue-clause-took
returns-in-Err-InValue-clause-took g c =
    let a = c.args in
    record {
      takes = whole_failed (Unit {0}) g.S.Sink.step g.S.Sink.writes (g.S.Sink.state a.sink.now) (g.S.Sink.contents a.sink.now) (g.S.Sink.contents c.take_whole_telling.new.self) (head_atoms a.head a.syntax) (value_atoms a.value.now) c.in-Err-InValue.field-0 c.in-Err-InValue.ensures.bytes;
      failed = search rules;
      kept = search rules;
    }
