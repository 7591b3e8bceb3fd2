use Rattle.std.proofs.Common.{◌≤◌, ◌∙◌, ap, sym, refl, length, arith}
use Rattle.dcm_base.specs.declared.tag.Tag.{Tag}
use Rattle.dcm_base.specs.Reading.Place.{passes}
use Rattle.dcm_head.specs.HeadRead.{tag_read}
use Rattle.dcm_stream.specs.Judging.{bars_head}
use Rattle.dcm_stream.proofs.Heads.Elements.{may_come, bad_stops, more_stops, whole_head, opens_judged, fault_judged}
use Rattle.dcm_stream.proofs.judge.judge.Goals as goal

pub returns-in-BadVr-clause-judges : goal.returns-in-BadVr-clause-judges
returns-in-BadVr-clause-judges g c =
    let bar = bars_head g.S.Sink.bar (g.S.Sink.state c.args.sink.now) in
    let m = may_come bar c.args.inner c.args.levels.now c.args.position c.args.bytes.now c.read_tag-tag.result c.is_allowed.result c.requires.room c.requires.eight c.read_tag-tag.ensures c.is_allowed.ensures c.if-not-is_allowed.false in
    let e = c.in-BadVr.ensures ∙ ap (λ (t : Tag). tag_read c.args.inner.syntax c.args.bytes.now t) c.read_tag-tag.ensures in
    (bad_stops bar c.args.inner c.args.levels.now c.args.position c.args.bytes.now m e, refl)

pub returns-in-More-clause-judges : goal.returns-in-More-clause-judges
returns-in-More-clause-judges g c =
    let bar = bars_head g.S.Sink.bar (g.S.Sink.state c.args.sink.now) in
    let m = may_come bar c.args.inner c.args.levels.now c.args.position c.args.bytes.now c.read_tag-tag.result c.is_allowed.result c.requires.room c.requires.eight c.read_tag-tag.ensures c.is_allowed.ensures c.if-not-is_allowed.false in
    let e = c.in-More.ensures ∙ ap (λ (t : Tag). tag_read c.args.inner.syntax c.args.bytes.now t) c.read_tag-tag.ensures in
    let full = ap (passes c.in-More.size) (sym c.room.ensures) ∙ sym c.passes.ensures ∙ c.if-passes.true in
    (more_stops bar c.args.inner c.args.levels.now c.args.position c.args.bytes.now m c.in-More.size _ e full, refl)

pub returns-in-More-2-clause-judges : goal.returns-in-More-2-clause-judges
returns-in-More-2-clause-judges g c =
    let bar = bars_head g.S.Sink.bar (g.S.Sink.state c.args.sink.now) in
    let m = may_come bar c.args.inner c.args.levels.now c.args.position c.args.bytes.now c.read_tag-tag.result c.is_allowed.result c.requires.room c.requires.eight c.read_tag-tag.ensures c.is_allowed.ensures c.if-not-is_allowed.false in
    let e = c.in-More.ensures ∙ ap (λ (t : Tag). tag_read c.args.inner.syntax c.args.bytes.now t) c.read_tag-tag.ensures in
    let fits = ap (passes c.in-More.size) (sym c.room.ensures) ∙ sym c.passes.ensures ∙ c.if-passes.false in
    more_stops bar c.args.inner c.args.levels.now c.args.position c.args.bytes.now m c.in-More.size _ e fits

pub judge_head-requires : goal.judge_head-requires
judge_head-requires g c =
    let bar = bars_head g.S.Sink.bar (g.S.Sink.state c.args.sink.now) in
    let m = may_come bar c.args.inner c.args.levels.now c.args.position c.args.bytes.now c.read_tag-tag.result c.is_allowed.result c.requires.room c.requires.eight c.read_tag-tag.ensures c.is_allowed.ensures c.if-not-is_allowed.false in
    let e = c.in-Done.ensures ∙ ap (λ (t : Tag). tag_read c.args.inner.syntax c.args.bytes.now t) c.read_tag-tag.ensures in
    let fits : c.in-Done.size ≤ length c.args.bytes.now = (whole_head bar c.args.inner c.args.levels.now c.args.position c.args.bytes.now m c.in-Done.head c.in-Done.size e).fits in
    omega (arith, fits, c.requires.within)

pub returns-in-Ok-clause-judges : goal.returns-in-Ok-clause-judges
returns-in-Ok-clause-judges g c =
    let bar = bars_head g.S.Sink.bar (g.S.Sink.state c.args.sink.now) in
    let m = may_come bar c.args.inner c.args.levels.now c.args.position c.args.bytes.now c.read_tag-tag.result c.is_allowed.result c.requires.room c.requires.eight c.read_tag-tag.ensures c.is_allowed.ensures c.if-not-is_allowed.false in
    let e = c.in-Done.ensures ∙ ap (λ (t : Tag). tag_read c.args.inner.syntax c.args.bytes.now t) c.read_tag-tag.ensures in
    opens_judged bar c.args.inner c.args.levels.now c.args.position c.args.bytes.now m c.in-Done.head c.in-Done.size c.judge_head.result c.in-Ok.opening c.requires.inner e c.judge_head.ensures.judges c.in-Ok.is

pub returns-in-Err-clause-judges : goal.returns-in-Err-clause-judges
returns-in-Err-clause-judges g c =
    let bar = bars_head g.S.Sink.bar (g.S.Sink.state c.args.sink.now) in
    let m = may_come bar c.args.inner c.args.levels.now c.args.position c.args.bytes.now c.read_tag-tag.result c.is_allowed.result c.requires.room c.requires.eight c.read_tag-tag.ensures c.is_allowed.ensures c.if-not-is_allowed.false in
    let e = c.in-Done.ensures ∙ ap (λ (t : Tag). tag_read c.args.inner.syntax c.args.bytes.now t) c.read_tag-tag.ensures in
    fault_judged bar c.args.inner c.args.levels.now c.args.position c.args.bytes.now m c.in-Done.head c.in-Done.size c.judge_head.result c.in-Err.fault e c.judge_head.ensures.judges c.in-Err.is
