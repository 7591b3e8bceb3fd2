use Rattle.std.proofs.Common.{◌≡◌, ◌∙◌, ap, sym, subst, ℕ, Bool, false}
use Rattle.std.specs.Prelude.{◌&&◌, nat_le}
use Rattle.dcm_base.specs.declared.form.Form.{Form}
use Rattle.dcm_base.specs.Reading.Place.{passes, room, depth}
use Rattle.dcm_base.specs.Reading.Stop.{opens_list}
use Rattle.dcm_base.specs.Bytes.Spelling.{read_as}
use Rattle.dcm_stream.specs.Reading.{element_opens}
use Rattle.dcm_stream.specs.Judging.{shape_fault, OpensAs}
use Rattle.dcm_stream.proofs.Heads.Elements.{formed_as, has_form, without_form, shape_passes, shape_unformed, shape_fits, not_deep}
use Rattle.dcm_stream.proofs.judge.judge_shape.Goals as goal
use Rattle.dcm_stream.proofs.judge.judge_shape.Goals.{else-opens_list-via-then-opens_list+else-depth-ge-MOST_LISTS, else-opens_list-via-else-opens_list}

pub returns-in_default-clause-judges : goal.returns-in_default-clause-judges
returns-in_default-clause-judges c =
    let f = c.form_of-form.result in
    let is = formed_as c.args.syntax c.args.head c.form_of-form.result c.read_as.result c.form_of-form.ensures c.read_as.ensures in
    let r = c.room-room.ensures in
    let around = room c.args.position c.args.levels.now in
    let deep = depth c.args.levels.now in
    ap (λ (x : Form). shape_fault x c.args.size c.args.head.length around deep) (sym is)
    ∙ shape_unformed f c.args.syntax c.args.head c.args.size around deep (ap (passes c.args.size) (sym r) ∙ sym c.passes.ensures ∙ c.if-passes.false)
    (without_form c.args.syntax (read_as c.args.syntax c.args.head.tag c.args.head.vr) c.args.head.length f is c.in_default.ensures.opens)

pub returns-then-passes-2-clause-judges : goal.returns-then-passes-2-clause-judges
returns-then-passes-2-clause-judges c =
    let f = c.form_of-form.result in
    let r = c.room-room.ensures in
    let around = room c.args.position c.args.levels.now in
    let deep = depth c.args.levels.now in
    let formed = has_form f c.args.syntax c.args.head c.element_opening.result c.in-Some.opening c.element_opening.ensures.opens c.in-Some.is in
    ap (λ (x : Form). shape_fault x c.args.size c.args.head.length around deep) (sym (formed_as c.args.syntax c.args.head c.form_of-form.result c.read_as.result c.form_of-form.ensures c.read_as.ensures))
    ∙ shape_passes f c.args.syntax c.args.head c.args.size around deep (ap (passes c.args.size) (sym r) ∙ sym c.passes.ensures ∙ c.if-passes.false) formed.0
    (ap (λ (n : ℕ). passes n around) (sym c.with_length.ensures) ∙ ap (passes c.with_length.result) (sym r) ∙ sym c.passes-2.ensures ∙ c.if-passes-2.true)

pub returns-clause-judges : goal.returns-clause-judges
returns-clause-judges c =
    let f = c.form_of-form.result in
    let r = c.room-room.ensures in
    let around = room c.args.position c.args.levels.now in
    let deep = depth c.args.levels.now in
    let formed = has_form f c.args.syntax c.args.head c.element_opening.result c.in-Some.opening c.element_opening.ensures.opens c.in-Some.is in
    let shallow : (opens_list f && nat_le 64 deep) ≡ false =
    elim c.else-opens_list.branch [
      | else-opens_list-via-then-opens_list+else-depth-ge-MOST_LISTS w ↦ not_deep (opens_list f) w.depth.result deep w.depth.ensures w.if-depth-ge-MOST_LISTS.false
      | else-opens_list-via-else-opens_list w ↦ ap (λ (x : Bool). x && nat_le 64 deep) (sym c.opens_list.ensures ∙ w.if-opens_list.false)
    ] in (
      ap (λ (x : Form). shape_fault x c.args.size c.args.head.length around deep) (sym (formed_as c.args.syntax c.args.head c.form_of-form.result c.read_as.result c.form_of-form.ensures c.read_as.ensures))
          ∙ shape_fits f c.args.syntax c.args.head c.args.size around deep
          (ap (passes c.args.size) (sym r) ∙ sym c.passes.ensures ∙ c.if-passes.false) formed.0
          (ap (λ (n : ℕ). passes n around) (sym c.with_length.ensures) ∙ ap (passes c.with_length.result) (sym r) ∙ sym c.passes-2.ensures ∙ c.if-passes-2.false) shallow,
      subst (λ (x : Form). OpensAs (element_opens x c.args.syntax c.args.head.tag c.args.head.vr c.args.head.length) c.in-Some.opening) (formed_as c.args.syntax c.args.head c.form_of-form.result c.read_as.result c.form_of-form.ensures c.read_as.ensures) formed.1,
    )
