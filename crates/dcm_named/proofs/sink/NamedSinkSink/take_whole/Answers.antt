use Rattle.std.proofs.Common.{◌∙◌, ap, sym, refl}
use Rattle.std.specs.Prelude.{fold}
use Rattle.std.specs.Io.KnownBytes.{append_known}
use Rattle.dcm_lemmas.proofs.Options.{known_nothing}
use Rattle.dcm_stream.specs.Tokens.{whole_atoms}
use Rattle.dcm_named.specs.Naming as naming
use Rattle.dcm_named.proofs.Filtering.{same_pair, whole_over, whole_none}
use Rattle.dcm_named.proofs.sink.NamedSinkSink.take_whole.Goals as goal

pub returns-clause-state : goal.returns-clause-state
returns-clause-state g c =
    let s = g.S.LineSink in
    let p = naming.place c.args.self.now.filter in
    let old = s.state c.args.self.now.lines.now in
    let h = c.args.head in
    let v = c.args.value.now in
    same_pair s.step s.over s.writes p p (s.state c.pass_over_whole.new.self) (fold s.over old (whole_atoms h c.args.syntax v)) refl c.pass_over_whole.ensures.state
    ∙ sym (whole_over s.step s.over s.writes p.tags p.ways p.mode p.way h c.args.syntax v p.shown old c.requires.form_is (sym c.if-shows_tag.ensures))

pub returns-clause-bytes : goal.returns-clause-bytes
returns-clause-bytes g c =
    let s = g.S.LineSink in
    let p = naming.place c.args.self.now.filter in
    let held = s.contents c.args.self.now.lines.now in
    c.pass_over_whole.ensures.contents
    ∙ sym (known_nothing held)
    ∙ ap (append_known held) (sym (whole_none s.step s.over s.writes p.tags p.ways p.mode p.way c.args.head c.args.syntax c.args.value.now p.shown (s.state c.args.self.now.lines.now) c.requires.form_is (sym c.if-shows_tag.ensures)))
