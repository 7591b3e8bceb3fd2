use Rattle.std.proofs.Common.{rules, ◌∙◌, ◌++◌, ap, sym, List}
use Rattle.std.proofs.lemmas.List.{append-nil}
use Rattle.dcm_base.specs.Steps.Atoms.{Atom}
use Rattle.dcm_base.specs.declared.level.Level.{Level}
use Rattle.dcm_stream.specs.Tokens.{atoms_of}
use Rattle.dcm_stream.specs.Reading.{full_closed}
use Rattle.dcm_stream.proofs.Containers.Closes.{closes_one, closes_none, closes_first, closes_next, taken_more, failed_more}
use Rattle.dcm_stream.proofs.close.close_full.Goals as goal

pub returns-in_err-take-clause-took : goal.returns-in_err-take-clause-took
returns-in_err-take-clause-took g c =
    let levels = c.loop-container.levels in
    let one = closes_one c.args.position levels c.in-Some.container c.in-Some.ensures in
    let takes = failed_more g.S.Sink.step g.S.Sink.writes (g.S.Sink.state c.args.sink.now) (g.S.Sink.contents c.args.sink.now) (g.S.Sink.state c.loop-container.sink) (g.S.Sink.contents c.loop-container.sink) _ _
    c.loop-container.invariant.front (atoms_of c.closing_token.result) _ _ _ c.loop-container.invariant.state c.loop-container.invariant.bytes c.from_residual.ensures.0
    (closes_first c.args.position levels c.in-Some.container (atoms_of c.closing_token.result) _ c.loop-container.invariant.front c.closing_token.ensures.atoms one c.loop-container.invariant.atoms)
    c.in_err-take.ensures.bytes in
    record { takes = takes; failed = search rules; kept = search rules }

pub loop-container-preserved : goal.loop-container-preserved
loop-container-preserved g c =
    let levels = c.loop-container.levels in
    let one = closes_one c.args.position levels c.in-Some.container c.in-Some.ensures in
    let token = atoms_of c.closing_token.result in
    let front = c.loop-container.invariant.front in
    let taken = taken_more g.S.Sink.step g.S.Sink.writes (g.S.Sink.state c.args.sink.now) (g.S.Sink.contents c.args.sink.now) (g.S.Sink.state c.loop-container.sink) (g.S.Sink.contents c.loop-container.sink)
    (g.S.Sink.state c.take.new.self) (g.S.Sink.contents c.take.new.self) front token c.loop-container.invariant.state c.loop-container.invariant.bytes c.in_ok-take.ensures.state c.in_ok-take.ensures.bytes in
    record {
      front = front ++ token;
      levels = c.loop-container.invariant.levels ∙ one.levels ∙ ap (λ (ls : List Level). (full_closed c.args.position ls).0) (sym c.pop.ensures);
      atoms = closes_next c.args.position levels _ c.in-Some.container token _ front c.closing_token.ensures.atoms one c.pop.ensures c.loop-container.invariant.atoms;
      state = taken.0;
      bytes = taken.1;
      failed = c.in_ok-take.ensures.failed ∙ c.loop-container.invariant.failed;
      kept = c.in_ok-take.ensures.kept ∙ c.loop-container.invariant.kept;
    }

pub returns-clause-levels : goal.returns-clause-levels
returns-clause-levels g c =
    let none = closes_none c.args.position c.loop-container.levels c.in_default.ensures in
    sym (c.loop-container.invariant.levels ∙ ap (λ (p : List Level × List Atom). p.0) none)

pub returns-clause-took : goal.returns-clause-took
returns-clause-took g c =
    let none = closes_none c.args.position c.loop-container.levels c.in_default.ensures in
    let all = c.loop-container.invariant.atoms ∙ ap (λ (p : List Level × List Atom). c.loop-container.invariant.front ++ p.1) none ∙ append-nil c.loop-container.invariant.front in
    record { takes = rw all (c.loop-container.invariant.state, c.loop-container.invariant.bytes); failed = search rules; kept = search rules }
