use Rattle.std.proofs.Common.{rules, ◌≡◌, ℕ, not, List}
use Rattle.dcm_base.specs.Dump.ValueText.{shape}
use Rattle.dcm_base.specs.Tables.Representation.{unit}
use Rattle.dcm_base.specs.Tables.Syntax.{is_big}
use Rattle.dcm_value.specs.declared.units.Kind.TheVariants.{Hexadecimal}
use Rattle.dcm_value.specs.Shown.{display_of}
use Rattle.dcm_value.specs.Units.{kind_of, separated_units}
use Rattle.dcm_value.specs.Swap.{IsUnit}
use Rattle.dcm_value.specs.Woven.{woven}
use Rattle.dcm_value.proofs.UnitOrder.InBlocks.{units_in_lanes}
use Rattle.dcm_value.proofs.Displays.Emits.{part_starts, part_more, part_failed, part_last, settled_of}
use Rattle.dcm_value.proofs.display.Shown.emit_hexadecimal.Goals as goal

pub returns-in_err-emit_blocks : goal.returns-in_err-emit_blocks
returns-in_err-emit_blocks g c =
    let now = c.args.self.now in
    let vr = c.args.vr in
    let syntax = c.args.syntax in
    let front : List ℕ = c.split_at.result.0.now in
    let back : List ℕ = c.split_at.result.1.now in
    let size : ℕ = c.unit-size.result in
    let same : size ≡ unit vr = search rules in
    let is : IsUnit size = search rules in
    let big : c.is_big.result ≡ is_big syntax = search rules in
    let kind : kind_of (shape vr) ≡ Hexadecimal = search rules in
    let parts = units_in_lanes syntax vr size c.is_big.result c.args.units.now front back is same big kind c.split_at.ensures.front c.split_at.ensures.back in
    let starts = part_starts (display_of now) _ _ (settled_of now.mode now.count now.front.items now.capped now.filled) in
    record { state = search rules; bytes = part_failed _ (woven size (not c.is_big.result) front) _ _ _ starts parts c.from_residual.ensures.0 c.in_err-emit_blocks.ensures.bytes; failed = search rules }

pub returns : goal.returns
returns g c =
    let now = c.args.self.now in
    let vr = c.args.vr in
    let syntax = c.args.syntax in
    let front : List ℕ = c.split_at.result.0.now in
    let back : List ℕ = c.split_at.result.1.now in
    let size : ℕ = c.unit-size.result in
    let same : size ≡ unit vr = search rules in
    let is : IsUnit size = search rules in
    let big : c.is_big.result ≡ is_big syntax = search rules in
    let kind : kind_of (shape vr) ≡ Hexadecimal = search rules in
    let parts = units_in_lanes syntax vr size c.is_big.result c.args.units.now front back is same big kind c.split_at.ensures.front c.split_at.ensures.back in
    let starts = part_starts (display_of now) _ _ (settled_of now.mode now.count now.front.items now.capped now.filled) in
    let next = part_more _ _ (woven size (not c.is_big.result) front) (separated_units vr syntax back) _ starts parts c.in_ok-emit_blocks.ensures.state c.in_ok-emit_blocks.ensures.bytes in
    let last = part_last _ _ _ _ next c.emit_singly-2.ensures.state c.emit_singly-2.ensures.bytes in
    record { state = last.0; bytes = last.1; failed = search rules }
