use Rattle.std.proofs.Common.{rules, ◌≡◌, ◌≤◌, ◌∙◌, ◌++◌, ◌-◌, List, ℕ, ap, sym, length, drop, replicate, append_assoc}
use Rattle.dcm_base.specs.Dump.ValueText.{shown_unit}
use Rattle.dcm_base.specs.Tree.Value.{units}
use Rattle.dcm_value.specs.Units.{one_text, separated}
use Rattle.dcm_value.proofs.Displays.FewUnits.{few_text, few_count}
use Rattle.dcm_value.proofs.few.append_shown.Goals as goal

pub returns-clause-modes : goal.returns-clause-modes
returns-clause-modes g c = λ mode.
    let a = c.args in
    let before = a.line.now.items in
    let text : List ℕ = separated (one_text a.vr a.syntax) (units (shown_unit a.vr) a.value.now) in
    let shown : List ℕ = c.split_at.result.1.now in
    let all : c.as_slice.result.now ≡ text = c.as_slice.ensures.value ∙ c.append_units.ensures.text ∙ ap (λ (z : List ℕ). z ++ text) c.new-text.ensures in
    let is : shown ≡ drop 1 text = c.split_at.ensures.back ∙ ap (drop 1) all in
    let few : length shown ≤ 66 = search rules in
    let extended : c.try_extend_from_slice.new.self.items ≡ before ++ shown = search rules in (
      c.append_spaces.ensures.items
          ∙ ap (λ (z : List ℕ). z ++ replicate (40 - length shown) 32) extended
          ∙ append_assoc before shown (replicate (40 - length shown) 32)
          ∙ ap (λ (z : List ℕ). before ++ z) (sym (few_text mode a.vr a.syntax a.value.now c.requires.some c.requires.way shown is few)),
      c.count.ensures ∙ sym (few_count mode a.vr a.syntax a.value.now c.requires.some c.requires.way),
    )
