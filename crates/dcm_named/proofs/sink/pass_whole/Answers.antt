use Rattle.std.proofs.Common.{sym, refl, true, []}
use Rattle.dcm_lemmas.proofs.Options.{known_nothing}
use Rattle.dcm_devices.specs.declared.device.WriteFailed.{WriteFailed}
use Rattle.dcm_stream.specs.Skip.{closed, opened}
use Rattle.dcm_stream.specs.Tokens.{whole_atoms}
use Rattle.dcm_named.specs.Named.{is_named}
use Rattle.dcm_named.specs.Naming as naming
use Rattle.dcm_named.proofs.Filtering.{whole_on, whole_put, shown_goes, shown_fails}
use Rattle.dcm_named.proofs.Putting.{tells_err}
use Rattle.dcm_named.proofs.sink.pass_whole.Goals as goal

pub returns-in_err-show_whole : goal.returns-in_err-show_whole
returns-in_err-show_whole g c =
    let s = g.S.LineSink in
    let p = naming.place c.args.filter.now in
    let old = s.state c.args.lines.now in
    let h = c.args.head in
    let v = c.args.value.now in
    let held = s.contents c.args.lines.now in
    let e = c.in_err-show_whole.ensures in
    record {
      goes = shown_fails s.step s.over s.writes p p old old (s.state c.show_whole.new.self) held held (s.contents c.show_whole.new.self) [] (whole_atoms h c.args.syntax v) c.from_residual.result c.from_residual.ensures.0
          (whole_put s.step s.over s.writes p.tags p.ways p.mode p.way h c.args.syntax v p.shown (is_named p.tags h.tag) old refl c.requires.shown c.requires.no_way)
          refl (sym (known_nothing held)) e.bytes;
      failed = tells_err (Unit {0}) WriteFailed (s.has_failed c.args.lines.now) (s.has_failed c.show_whole.new.self) _ c.from_residual.result c.from_residual.ensures.0 e.failed;
      kept = e.kept;
    }

pub returns : goal.returns
returns g c =
    let s = g.S.LineSink in
    let p = naming.place c.args.filter.now in
    let old = s.state c.args.lines.now in
    let h = c.args.head in
    let v = c.args.value.now in
    let held = s.contents c.args.lines.now in
    let e = c.in_ok-show_whole.ensures in
    record {
      goes = shown_goes s.step s.over s.writes WriteFailed p (naming.place c.go_on_whole.new.self) old old (s.state c.show_whole.new.self) held held (s.contents c.show_whole.new.self) [] (whole_atoms h c.args.syntax v) (record p { shown = closed (opened p.shown true) }) (tt {0})
          (whole_on s.step s.over s.writes p.tags p.ways p.mode p.way h c.args.syntax v p.shown (is_named p.tags h.tag) old refl c.requires.shown)
          (whole_put s.step s.over s.writes p.tags p.ways p.mode p.way h c.args.syntax v p.shown (is_named p.tags h.tag) old refl c.requires.shown c.requires.no_way)
          refl (sym (known_nothing held)) c.go_on_whole.ensures e.state e.bytes;
      failed = e.failed;
      kept = e.kept;
    }
