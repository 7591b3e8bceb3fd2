use Rattle.std.proofs.Common.{rules, ◌≡◌, ◌∙◌, ◌+◌, ap, sym, ℕ, true, false}
use Rattle.dcm_stream.specs.Machine.{may_end}
use Rattle.dcm_stream.proofs.Steps.Finishes.{early_answer, early_goes, ends_answer, ends_goes, whole_answer, whole_goes}
use Rattle.dcm_stream.proofs.cursor.Cursor.end.Goals as goal

pub returns-then-not-may_end : goal.returns-then-not-may_end
returns-then-not-may_end g c =
    let cursor = c.args.self.now in
    let no : may_end cursor ≡ false = sym c.may_end.ensures ∙ c.if-not-may_end.true in
    record {
      answer = early_answer g.S.Sink.step g.S.Sink.writes (Unit {0}) cursor (cursor.position + c.len.result) c.refused.result no c.refused.ensures (ap (λ (n : ℕ). cursor.position + n) c.len.ensures.value);
      takes = early_goes g.S.Sink.step g.S.Sink.writes (Unit {0}) cursor (cursor.position + c.len.result) c.refused.result (g.S.Sink.state c.args.sink.now) (g.S.Sink.contents c.args.sink.now) no c.refused.ensures;
      failed = search rules;
      kept = search rules;
    }

pub returns-in_err-take : goal.returns-in_err-take
returns-in_err-take g c =
    let cursor = c.args.self.now in
    let yes : may_end cursor ≡ true = sym c.may_end.ensures ∙ c.if-not-may_end.false in
    record {
      answer = ends_answer g.S.Sink.step g.S.Sink.writes (Unit {0}) cursor c.from_residual.result yes c.from_residual.ensures.1;
      takes = ends_goes g.S.Sink.step g.S.Sink.writes (Unit {0}) cursor c.from_residual.result (g.S.Sink.state c.args.sink.now) (g.S.Sink.contents c.args.sink.now) (g.S.Sink.state c.take.new.self) (g.S.Sink.contents c.take.new.self) yes
          c.from_residual.ensures.1 c.in_err-take.ensures.bytes;
      failed = search rules;
      kept = search rules;
    }

pub returns : goal.returns
returns g c =
    let cursor = c.args.self.now in
    let yes : may_end cursor ≡ true = sym c.may_end.ensures ∙ c.if-not-may_end.false in
    record {
      answer = whole_answer g.S.Sink.step g.S.Sink.writes (Unit {0}) cursor (tt {0}) yes;
      takes = whole_goes g.S.Sink.step g.S.Sink.writes cursor (g.S.Sink.state c.args.sink.now) (g.S.Sink.contents c.args.sink.now) (g.S.Sink.state c.take.new.self) (g.S.Sink.contents c.take.new.self) yes c.in_ok-take.ensures.state c.in_ok-take.ensures.bytes;
      failed = search rules;
      kept = search rules;
    }
