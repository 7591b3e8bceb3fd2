use Rattle.std.proofs.Common.{rules, ◌≡◌, ◌≤◌, ◌<◌, ◌∙◌, ◌++◌, ap, sym, cond, true, length}
use Rattle.dcm_base.specs.Dump.ValueText.{shape, padded, unpadded}
use Rattle.dcm_value.specs.Way.{way_of}
use Rattle.dcm_value.specs.Whole.{is_known_as, shown_as}
use Rattle.dcm_value.proofs.Displays.Wholes.{known_shown, none_shown, none_counted}
use Rattle.dcm_value.proofs.Displays.WholesInModes.{known_in, none_in, none_counted_in}
use Rattle.dcm_value.proofs.whole.append_whole.Goals as goal

pub returns-then-is_empty-clause-items : goal.returns-then-is_empty-clause-items
returns-then-is_empty-clause-items g c =
    let none : length c.args.value.now ≡ 0 = search rules in (
      c.append_no_value.ensures.items ∙ ap (λ t. c.args.line.now.items ++ t) (sym (none_shown c.args.vr c.args.syntax c.args.value.now none)),
      sym (none_counted c.args.vr c.args.syntax c.args.value.now none),
    )

pub returns-then-append_shown-clause-items : goal.returns-then-append_shown-clause-items
returns-then-append_shown-clause-items g c =
    let vr = c.args.vr in
    let v = c.args.value.now in
    let before = c.args.line.now.items in
    let some : 0 < length v = search rules in
    let few : length v ≤ 64 = search rules in
    let known : is_known_as (way_of (shape vr) (length v)) (unpadded vr v) ≡ true = sym c.append_shown.ensures.known ∙ c.if-append_shown.true in
    let is = known_shown vr c.args.syntax v some few known in (
      c.append_shown.ensures.items
          ∙ ap (λ b. cond b (before ++ padded (shown_as (way_of (shape vr) (length v)) (unpadded vr v))) before) c.if-append_shown.true
          ∙ ap (λ t. before ++ t) (sym is.text),
      c.count.ensures ∙ sym is.count,
    )

pub returns-then-is_empty-clause-modes : goal.returns-then-is_empty-clause-modes
returns-then-is_empty-clause-modes g c =
    let none : length c.args.value.now ≡ 0 = search rules in
    λ mode. (
      c.append_no_value.ensures.items ∙ ap (λ t. c.args.line.now.items ++ t) (sym (none_in mode c.args.vr c.args.syntax c.args.value.now none)),
      sym (none_counted_in mode c.args.vr c.args.syntax c.args.value.now none),
    )

pub returns-then-append_shown-clause-modes : goal.returns-then-append_shown-clause-modes
returns-then-append_shown-clause-modes g c =
    let vr = c.args.vr in
    let v = c.args.value.now in
    let before = c.args.line.now.items in
    let some : 0 < length v = search rules in
    let few : length v ≤ 64 = search rules in
    let known : is_known_as (way_of (shape vr) (length v)) (unpadded vr v) ≡ true = sym c.append_shown.ensures.known ∙ c.if-append_shown.true in
    λ mode.
    let is = known_in mode vr c.args.syntax v some few known in (
      c.append_shown.ensures.items
          ∙ ap (λ b. cond b (before ++ padded (shown_as (way_of (shape vr) (length v)) (unpadded vr v))) before) c.if-append_shown.true
          ∙ ap (λ t. before ++ t) (sym is.text),
      c.count.ensures ∙ sym is.count,
    )
