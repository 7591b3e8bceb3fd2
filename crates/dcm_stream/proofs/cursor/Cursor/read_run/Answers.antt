use Rattle.std.proofs.Common.{rules}
use Rattle.dcm_stream.proofs.Heads.PlainLeaves.{within_run}
use Rattle.dcm_stream.proofs.cursor.Cursor.read_run.Goals as goal

pub returns-clause-fed : goal.returns-clause-fed
returns-clause-fed g c =
    record {
      feeds = within_run g.S.Sink.bar g.S.Sink.step g.S.Sink.writes c.args.self.now (g.S.Sink.state c.args.sink.now) (g.S.Sink.contents c.args.sink.now) (g.S.Sink.state c.read_leaves.new.sink) (g.S.Sink.contents c.read_leaves.new.sink)
          c.read_leaves.new.self c.split_at.result.0.now c.args.bytes.now _ c.read_leaves.result c.split_at.ensures.front c.read_leaves.ensures.some c.read_leaves.ensures.fed.feeds;
      failed = search rules;
      kept = search rules;
    }
