use Rattle.std.proofs.Common.{rules, ◌∙◌, sym, ap}
use Rattle.dcm_base.specs.Reading.Place.{passes}
use Rattle.dcm_stream.proofs.Containers.Unfilled.{stays_settled}
use Rattle.dcm_stream.proofs.cursor.Cursor.settle.Goals as goal

pub returns : goal.returns
returns g c =
    record {
      comes = stays_settled g.S.Sink.step g.S.Sink.writes c.args.self.now (g.S.Sink.state c.args.sink.now) (g.S.Sink.contents c.args.sink.now) (tt {0}) c.requires.head c.requires.left (ap (passes 8) (sym c.room.ensures) ∙ sym c.passes.ensures ∙ c.if-passes.false);
      failed = search rules;
      kept = search rules;
    }
