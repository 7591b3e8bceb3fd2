use Rattle.std.proofs.Common.{◌∙◌, ap, List, ℕ, ◌++◌, flat_map}
use Rattle.std.specs.Prelude.{fold}
use Rattle.dcm_base.specs.Steps.Steps.{outputs}
use Rattle.dcm_devices.specs.declared.device.WriteFailed.{WriteFailed}
use Rattle.dcm_stream.specs.Tokens.{atoms_of}
use Rattle.dcm_named.specs.Filter.{next}
use Rattle.dcm_named.specs.Naming as naming
use Rattle.dcm_named.proofs.Filtering.{token_shown, token_put, shown_goes, shown_fails, text_fails}
use Rattle.dcm_named.proofs.Putting.{tells_err}
use Rattle.dcm_named.proofs.sink.show_token.Goals as goal

pub returns-in_err-put_way : goal.returns-in_err-put_way
returns-in_err-put_way g c =
    let s = g.S.LineSink in
    let p = naming.place c.args.filter.now in
    let old = s.state c.args.lines.now in
    let atoms = atoms_of c.args.token in
    let e = c.in_err-put_way.ensures in
    record {
      goes = text_fails s.step s.over s.writes p p old (s.state c.put_way.new.lines) (s.contents c.args.lines.now) (s.contents c.put_way.new.lines) (flat_map naming.outside_text c.way_before.result.now) atoms c.from_residual.result c.from_residual.ensures.0
          (token_put s.step s.over s.writes p old c.args.token c.requires.shown ∙ ap (λ (z : List ℕ). z ++ outputs s.step s.writes old atoms) c.way_before.ensures)
          e.bytes;
      failed = tells_err (Unit {0}) WriteFailed (s.has_failed c.args.lines.now) (s.has_failed c.put_way.new.lines) _ c.from_residual.result c.from_residual.ensures.0 e.failed;
      kept = e.kept;
    }

pub returns-in_err-show : goal.returns-in_err-show
returns-in_err-show g c =
    let s = g.S.LineSink in
    let p = naming.place c.args.filter.now in
    let old = s.state c.args.lines.now in
    let atoms = atoms_of c.args.token in
    let w = c.in_ok-put_way.ensures in
    let e = c.in_err-show.ensures in
    let r = c.from_residual-in_err-show in
    record {
      goes = shown_fails s.step s.over s.writes p p old (s.state c.put_way.new.lines) (s.state c.show.new.self) (s.contents c.args.lines.now) (s.contents c.put_way.new.lines) (s.contents c.show.new.self) (flat_map naming.outside_text c.way_before.result.now) atoms r.result r.ensures.0
          (token_put s.step s.over s.writes p old c.args.token c.requires.shown ∙ ap (λ (z : List ℕ). z ++ outputs s.step s.writes old atoms) c.way_before.ensures)
          w.state w.bytes e.bytes;
      failed = tells_err (Unit {0}) WriteFailed (s.has_failed c.args.lines.now) (s.has_failed c.show.new.self) _ r.result r.ensures.0 e.failed;
      kept = e.kept ∙ w.kept;
    }

pub returns : goal.returns
returns g c =
    let s = g.S.LineSink in
    let p = naming.place c.args.filter.now in
    let old = s.state c.args.lines.now in
    let atoms = atoms_of c.args.token in
    let w = c.in_ok-put_way.ensures in
    let e = c.in_ok-show.ensures in
    record {
      goes = shown_goes s.step s.over s.writes WriteFailed p (naming.place c.go_on.new.self) old (s.state c.put_way.new.lines) (s.state c.show.new.self) (s.contents c.args.lines.now) (s.contents c.put_way.new.lines) (s.contents c.show.new.self) (flat_map naming.outside_text c.way_before.result.now) atoms (fold next p atoms) (tt {0})
          (token_shown s.step s.over s.writes p old c.args.token c.requires.shown)
          (token_put s.step s.over s.writes p old c.args.token c.requires.shown ∙ ap (λ (z : List ℕ). z ++ outputs s.step s.writes old atoms) c.way_before.ensures)
          w.state w.bytes c.go_on.ensures e.state e.bytes;
      failed = e.failed ∙ w.failed;
      kept = e.kept ∙ w.kept;
    }
