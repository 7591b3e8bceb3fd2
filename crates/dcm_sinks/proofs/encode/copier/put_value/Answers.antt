use Rattle.std.proofs.Common.{rules, refl, ap, sym, subst, ◌≡◌, ◌∙◌, ◌%◌, List, ℕ, Bool, cond, length, Ok, Err, option_to_list}
use Rattle.std.specs.Prelude.{fold}
use Rattle.std.specs.Io.KnownBytes.{append_known}
use Rattle.dcm_base.specs.Steps.Steps.{outputs}
use Rattle.dcm_base.specs.Tables.Representation.{unit}
use Rattle.dcm_base.specs.Tree.Value.{turned}
use Rattle.dcm_base.proofs.Conversions.Order.{unit_some}
use Rattle.dcm_devices.specs.Device.{AppendsFront}
use Rattle.dcm_devices.proofs.Writes.PartsOut.{part_failed, parts_put}
use Rattle.dcm_sinks.specs.EncodeSink.{Copying, leaf_copy, copies, copy_writes, copy_ends, padding}
use Rattle.dcm_sinks.proofs.Conversions.Copies.{whole_goes}
use Rattle.dcm_sinks.proofs.encode.copier.put_value.Goals as goal

pub returns-in_err-put_ordered : goal.returns-in_err-put_ordered
returns-in_err-put_ordered g c =
    let v : List ℕ = c.args.value.now in
    let k : ℕ = unit c.args.vr in
    let copy : Copying = leaf_copy c.args.source c.args.target c.args.vr c.args.size in
    let whole : length v % k ≡ 0 = search rules in
    let old = g.W.DeviceOut.contents c.args.out.now in
    let new = g.W.DeviceOut.contents c.put_ordered.new.out in
    let front = subst (λ (t : Bool). AppendsFront old new (cond t (turned k v) v)) c.is_turned.ensures c.in_err-put_ordered.ensures.bytes in
    record {
      bytes = part_failed _ _ (outputs copies copy_writes copy v) _ (copy_ends (fold copies copy v)) _ c.from_residual.result c.from_residual.ensures.0 refl refl
          (whole_goes {T = Unit {0}} {E = Unit {0}} copy (unit_some c.args.vr) v refl whole old new (Err tt) front);
      failed = search rules;
    }

pub returns : goal.returns
returns g c =
    let v : List ℕ = c.args.value.now in
    let k : ℕ = unit c.args.vr in
    let copy : Copying = leaf_copy c.args.source c.args.target c.args.vr c.args.size in
    let whole : length v % k ≡ 0 = search rules in
    let old = g.W.DeviceOut.contents c.args.out.now in
    let mid = g.W.DeviceOut.contents c.put_ordered.new.out in
    let went : mid ≡ append_known old (cond copy.is_turned (turned k v) v) = c.in_ok-put_ordered.ensures.bytes ∙ ap (λ (t : Bool). append_known old (cond t (turned k v) v)) c.is_turned.ensures in
    let goes = whole_goes {T = Unit {0}} {E = Unit {0}} copy (unit_some c.args.vr) v refl whole old mid (Ok tt) went in
    let pads : option_to_list c.padding.result ≡ copy_ends copy = sym c.padding.ensures ∙ ap (padding c.args.size) c.pad.ensures in
    record {
      bytes = parts_put _ _ _ (outputs copies copy_writes copy v) _ (copy_ends (fold copies copy v)) _ _ c.put_padding.result refl (pads ∙ ap copy_ends goes.0) refl goes.1 c.put_padding.ensures.bytes;
      failed = search rules;
    }
