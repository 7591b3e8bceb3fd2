use Rattle.std.proofs.Common.{rules, ◌≡◌, ◌∙◌, ◌<◌, ap, subst, length, take, drop, List, ℕ}
use Rattle.std.proofs.lemmas.List.{take-append-drop}
use Rattle.std.specs.Io.KnownBytes.{append_known}
use Rattle.dcm_devices.specs.Device.{Puts}
use Rattle.dcm_devices.proofs.Writes.Puts.{part_out_none, part_out_stopped, puts_err, puts_behind}
use Rattle.dcm_devices.proofs.calls.put_array.Goals as goal

pub returns-in_err-n-clause-wrote : goal.returns-in_err-n-clause-wrote
returns-in_err-n-clause-wrote g c =
    let some : 0 < length c.args.bytes.now = search rules in
    record {
      bytes = subst (λ (w : g.row.W.Denot). Puts (g.W.DeviceOut.contents w) (g.W.DeviceOut.contents c.put.new.self) c.args.bytes.now c.from_residual.result) c.out.view_is
          (puts_err _ _ _ c.from_residual.result c.from_residual.ensures.0 (part_out_stopped c.args.bytes.now _ (part_out_none _ (g.W.DeviceOut.room c.out.inside.device) _) some c.in_err-n.ensures.err));
      failed = search rules;
    }

pub returns-clause-wrote : goal.returns-clause-wrote
returns-clause-wrote g c =
    let bytes = c.args.bytes.now in
    let n : ℕ = c.in_ok-n.n in
    let went : g.W.DeviceOut.contents c.put.new.self ≡ append_known (g.W.DeviceOut.contents c.args.out.now) (take n bytes) =
    c.in_ok-n.ensures.bytes ∙ ap (λ (w : g.row.W.Denot). append_known (g.W.DeviceOut.contents w) (take n bytes)) c.out.view_is in
    let rest : Puts (g.W.DeviceOut.contents c.put.new.self) (g.W.DeviceOut.contents c.put_all.new.out) (drop n bytes) c.put_all.result =
    subst (λ (xs : List ℕ). Puts (g.W.DeviceOut.contents c.put.new.self) (g.W.DeviceOut.contents c.put_all.new.out) xs c.put_all.result) c.split_at.ensures.back c.put_all.ensures.wrote.bytes in
    record {
      bytes = subst (λ (xs : List ℕ). Puts (g.W.DeviceOut.contents c.args.out.now) (g.W.DeviceOut.contents c.put_all.new.out) xs c.put_all.result) (take-append-drop n bytes)
          (puts_behind (g.W.DeviceOut.contents c.args.out.now) (g.W.DeviceOut.contents c.put.new.self) (g.W.DeviceOut.contents c.put_all.new.out) (take n bytes) (drop n bytes) c.put_all.result went rest);
      failed = search rules;
    }
