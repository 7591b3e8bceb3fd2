use Rattle.std.proofs.Common.{rules, ◌≡◌, sym, subst}
use Rattle.dcm_base.specs.Steps.Steps.{Goes}
use Rattle.dcm_stream.specs.declared.machine.Machine.TheInside.{Inside}
use Rattle.dcm_stream.specs.Reading.{finish, end_shows}
use Rattle.dcm_stream.specs.Machine.{reading, stop_of, is_output, well, ended}
use Rattle.dcm_stream.proofs.Runs.Calls.{none_of, ended_goes, still_goes, ended_reading, still_reading}
use Rattle.dcm_stream.proofs.machine.Machine.finish.Goals as goal
use Rattle.dcm_stream.proofs.machine.Machine.finish.Goals.{then-is_none, else-is_none}

pub returns-clause-finished : goal.returns-clause-finished
returns-clause-finished g c = record {
  takes = λ fine.
      let s = g.S.Sink.state c.args.sink.now in
      let held = g.S.Sink.contents c.args.sink.now in
      let shows = end_shows (finish c.args.self.now.reading) in
      elim c.if-is_none.branch [
        | then-is_none w ↦
            let none = none_of c.self.inside.halt w.if-is_none.ensures in
            subst (λ (x : g.row.S.Denot). Goes g.S.Sink.step g.S.Sink.writes s held (g.S.Sink.state x) (g.S.Sink.contents x) shows (well (is_output c.if-is_none.self-inside.halt))) (sym w.sink-is)
            (subst (λ (i : Inside). Goes g.S.Sink.step g.S.Sink.writes s held (g.S.Sink.state w.end.new.sink) (g.S.Sink.contents w.end.new.sink) shows (well (is_output i.halt))) (sym w.self-inside-is)
            (ended_goes g.S.Sink.step g.S.Sink.writes c.self.inside.cursor c.self.inside.halt w.err-self-inside.result c.args.self.now w.end.result s held (g.S.Sink.state w.end.new.sink) (g.S.Sink.contents w.end.new.sink) c.self.view_is none w.err-self-inside.ensures.value w.end.ensures.takes))
        | else-is_none w ↦
            subst (λ (x : g.row.S.Denot). Goes g.S.Sink.step g.S.Sink.writes s held (g.S.Sink.state x) (g.S.Sink.contents x) shows (well (is_output c.if-is_none.self-inside.halt))) (sym w.sink-is)
            (subst (λ (i : Inside). Goes g.S.Sink.step g.S.Sink.writes s held s held shows (well (is_output i.halt))) (sym w.self-inside-is)
            (still_goes g.S.Sink.step g.S.Sink.writes c.self.inside.cursor c.self.inside.halt c.args.self.now s held c.self.view_is w.if-is_none.ensures fine))
      ];
  failed = search rules;
  kept = search rules;
}

pub returns-clause-reading : goal.returns-clause-reading
returns-clause-reading g c = λ whole.
    elim c.if-is_none.branch [
      | then-is_none w ↦
          let none = none_of c.self.inside.halt w.if-is_none.ensures in
          subst (λ (i : Inside). reading i.cursor (stop_of i.halt) ≡ ended (finish c.args.self.now.reading) c.args.self.now.reading) (sym w.self-inside-is)
          (ended_reading c.self.inside.cursor c.self.inside.halt w.err-self-inside.result c.args.self.now w.end.result c.self.view_is none w.err-self-inside.ensures.value w.end.ensures.answer)
      | else-is_none w ↦
          subst (λ (i : Inside). reading i.cursor (stop_of i.halt) ≡ ended (finish c.args.self.now.reading) c.args.self.now.reading) (sym w.self-inside-is)
          (still_reading c.self.inside.cursor c.self.inside.halt c.args.self.now c.self.view_is w.if-is_none.ensures whole)
    ]
