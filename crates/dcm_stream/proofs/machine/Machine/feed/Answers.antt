use Rattle.std.proofs.Common.{rules, ◌≡◌, ◌∙◌, ◌+◌, ◌≤◌, ap, sym, subst, length, None}
use Rattle.dcm_base.specs.Reading.Reads.{INPUT_LIMIT}
use Rattle.dcm_stream.specs.declared.machine.Machine.TheInside.{Inside}
use Rattle.dcm_stream.specs.Machine.{Stands, next_offset, reading, stop_of, is_output}
use Rattle.dcm_stream.proofs.Runs.Calls.{Gone, none_of, no_some, going_none, gone_fed, gone_already, fed_place, fed_stands}
use Rattle.dcm_stream.proofs.machine.Machine.feed.Goals as goal
use Rattle.dcm_stream.proofs.machine.Machine.feed.Goals.{then-is_none, else-is_none}

pub invariant_of-self : goal.invariant_of-self
invariant_of-self g c = λ none.
    elim c.if-is_none.branch [
      | then-is_none w ↦
          let halt : w.err-self-inside.result ≡ None = ap (λ (i : Inside). i.halt) (sym w.self-inside-is) ∙ none in
          subst (λ (i : Inside). Stands (reading i.cursor None)) (sym w.self-inside-is)
          (fed_stands g.S.Sink.bar g.S.Sink.step g.S.Sink.writes c.self.inside.cursor w.err-self-inside.result (g.S.Sink.state c.args.sink.now) (g.S.Sink.contents c.args.sink.now) w.read_all.new.self (g.S.Sink.state w.read_all.new.sink) (g.S.Sink.contents w.read_all.new.sink) c.args.piece.now w.read_all.result
          w.err-self-inside.ensures.value halt (c.self.invariant (none_of c.self.inside.halt w.if-is_none.ensures)) w.read_all.ensures.fed.feeds)
      | else-is_none w ↦ subst (λ (i : Inside). Stands (reading i.cursor None)) (sym w.self-inside-is) (c.self.invariant (ap (λ (i : Inside). i.halt) (sym w.self-inside-is) ∙ none))
    ]

pub returns-clause-advanced : goal.returns-clause-advanced
returns-clause-advanced g c = record {
  goes_over = λ fine.
      let s = g.S.Sink.state c.args.sink.now in
      let held = g.S.Sink.contents c.args.sink.now in
      elim c.if-is_none.branch [
        | then-is_none w ↦
            subst (λ (x : g.row.S.Denot). Gone g.S.Sink.bar g.S.Sink.step g.S.Sink.writes c.args.self.now.reading s held (reading c.if-is_none.self-inside.cursor (stop_of c.if-is_none.self-inside.halt)) (g.S.Sink.state x) (g.S.Sink.contents x) c.args.piece.now (is_output c.if-is_none.self-inside.halt)) (sym w.sink-is)
            (subst (λ (i : Inside). Gone g.S.Sink.bar g.S.Sink.step g.S.Sink.writes c.args.self.now.reading s held (reading i.cursor (stop_of i.halt)) (g.S.Sink.state w.read_all.new.sink) (g.S.Sink.contents w.read_all.new.sink) c.args.piece.now (is_output i.halt)) (sym w.self-inside-is)
            (gone_fed g.S.Sink.bar g.S.Sink.step g.S.Sink.writes c.self.inside.cursor c.self.inside.halt w.err-self-inside.result c.args.self.now s held w.read_all.new.self (g.S.Sink.state w.read_all.new.sink) (g.S.Sink.contents w.read_all.new.sink) c.args.piece.now w.read_all.result
            c.self.view_is (none_of c.self.inside.halt w.if-is_none.ensures) w.err-self-inside.ensures.value w.read_all.ensures.fed.feeds))
        | else-is_none w ↦
            subst (λ (x : g.row.S.Denot). Gone g.S.Sink.bar g.S.Sink.step g.S.Sink.writes c.args.self.now.reading s held (reading c.if-is_none.self-inside.cursor (stop_of c.if-is_none.self-inside.halt)) (g.S.Sink.state x) (g.S.Sink.contents x) c.args.piece.now (is_output c.if-is_none.self-inside.halt)) (sym w.sink-is)
            (subst (λ (i : Inside). Gone g.S.Sink.bar g.S.Sink.step g.S.Sink.writes c.args.self.now.reading s held (reading i.cursor (stop_of i.halt)) s held c.args.piece.now (is_output i.halt)) (sym w.self-inside-is)
            (gone_already g.S.Sink.bar g.S.Sink.step g.S.Sink.writes c.self.inside.cursor c.self.inside.halt c.args.self.now s held c.args.piece.now c.self.view_is fine w.if-is_none.ensures))
      ];
  failed = search rules;
  kept = search rules;
}

pub returns-clause-place : goal.returns-clause-place
returns-clause-place g c = λ going.
    let none : c.if-is_none.self-inside.halt ≡ None = going_none c.if-is_none.self-inside.halt going in
    elim c.if-is_none.branch [
      | then-is_none w ↦
          let halt : w.err-self-inside.result ≡ None = ap (λ (i : Inside). i.halt) (sym w.self-inside-is) ∙ none in
          subst (λ (i : Inside). next_offset (reading i.cursor (stop_of i.halt)) ≡ next_offset c.args.self.now.reading + length c.args.piece.now) (sym w.self-inside-is)
          (fed_place g.S.Sink.bar g.S.Sink.step g.S.Sink.writes c.self.inside.cursor c.self.inside.halt w.err-self-inside.result c.args.self.now (g.S.Sink.state c.args.sink.now) (g.S.Sink.contents c.args.sink.now) w.read_all.new.self (g.S.Sink.state w.read_all.new.sink) (g.S.Sink.contents w.read_all.new.sink) c.args.piece.now w.read_all.result
          c.self.view_is (none_of c.self.inside.halt w.if-is_none.ensures) w.err-self-inside.ensures.value halt (c.self.invariant (none_of c.self.inside.halt w.if-is_none.ensures)) w.read_all.ensures.fed.feeds)
      | else-is_none w ↦ absurd (no_some c.self.inside.halt (ap (λ (i : Inside). i.halt) (sym w.self-inside-is) ∙ none) w.if-is_none.ensures)
    ]

pub returns-clause-within : goal.returns-clause-within
returns-clause-within g c = λ going.
    let none : c.if-is_none.self-inside.halt ≡ None = going_none c.if-is_none.self-inside.halt going in
    elim c.if-is_none.branch [
      | then-is_none w ↦
          let halt : w.err-self-inside.result ≡ None = ap (λ (i : Inside). i.halt) (sym w.self-inside-is) ∙ none in
          subst (λ (i : Inside). next_offset (reading i.cursor (stop_of i.halt)) ≤ INPUT_LIMIT) (sym w.self-inside-is)
          (fed_stands g.S.Sink.bar g.S.Sink.step g.S.Sink.writes c.self.inside.cursor w.err-self-inside.result (g.S.Sink.state c.args.sink.now) (g.S.Sink.contents c.args.sink.now) w.read_all.new.self (g.S.Sink.state w.read_all.new.sink) (g.S.Sink.contents w.read_all.new.sink) c.args.piece.now w.read_all.result
          w.err-self-inside.ensures.value halt (c.self.invariant (none_of c.self.inside.halt w.if-is_none.ensures)) w.read_all.ensures.fed.feeds).within
      | else-is_none w ↦ absurd (no_some c.self.inside.halt (ap (λ (i : Inside). i.halt) (sym w.self-inside-is) ∙ none) w.if-is_none.ensures)
    ]
