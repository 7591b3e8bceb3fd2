use Rattle.std.proofs.Common.{◌∙◌, ◌++◌, ap, arith, length, length-append, append_assoc, List, ℕ}
use Rattle.dcm_base.specs.Tables.Number.{IsTag}
use Rattle.dcm_build.proofs.Files.Meta.{fits, grows}
use Rattle.dcm_build.proofs.group.NewGroup.push.Goals as goal

pub extend-requires : goal.extend-requires
extend-requires c =
    let named : IsTag c.args.tag = (omega arith, omega arith) in
    let room = fits c.self.inside.spelled.items c.element_head-head.result.items c.args.self.now c.args.tag c.args.vr (length c.args.value.now) c.self.invariant c.self.view_is named c.requires.group c.requires.room c.element_head-head.ensures in
    let same = ap length c.as_slice.ensures.value in
    omega (arith, room, same)

pub extend-requires-2 : goal.extend-requires-2
extend-requires-2 c =
    let named : IsTag c.args.tag = (omega arith, omega arith) in
    let room = fits c.self.inside.spelled.items c.element_head-head.result.items c.args.self.now c.args.tag c.args.vr (length c.args.value.now) c.self.invariant c.self.view_is named c.requires.group c.requires.room c.element_head-head.ensures in
    let same = ap length c.as_slice.ensures.value in
    let longer = ap length c.extend.ensures in
    let both = length-append c.self.inside.spelled.items c.as_slice.result.now in
    omega (arith, room, same, longer, both)

pub invariant_of-self : goal.invariant_of-self
invariant_of-self c =
    let named : IsTag c.args.tag = (omega arith, omega arith) in
    (grows c.self.inside.spelled.items c.extend-2.new.spelled.items c.args.self.now c.args.tag c.args.vr c.args.value.now c.self.invariant c.self.view_is named c.requires.group c.requires.form c.requires.room
    (c.extend-2.ensures
    ∙ ap (λ (x : List ℕ). x ++ c.args.value.now) c.extend.ensures
    ∙ append_assoc c.self.inside.spelled.items c.as_slice.result.now c.args.value.now
    ∙ ap (λ (x : List ℕ). c.self.inside.spelled.items ++ (x ++ c.args.value.now)) (c.as_slice.ensures.value ∙ c.element_head-head.ensures))).is_group

pub returns : goal.returns
returns c =
    let named : IsTag c.args.tag = (omega arith, omega arith) in
    (grows c.self.inside.spelled.items c.extend-2.new.spelled.items c.args.self.now c.args.tag c.args.vr c.args.value.now c.self.invariant c.self.view_is named c.requires.group c.requires.form c.requires.room
    (c.extend-2.ensures
    ∙ ap (λ (x : List ℕ). x ++ c.args.value.now) c.extend.ensures
    ∙ append_assoc c.self.inside.spelled.items c.as_slice.result.now c.args.value.now
    ∙ ap (λ (x : List ℕ). c.self.inside.spelled.items ++ (x ++ c.args.value.now)) (c.as_slice.ensures.value ∙ c.element_head-head.ensures))).elements
