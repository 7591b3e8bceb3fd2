use Rattle.std.proofs.Common.{rules, ◌≡◌, ◌∙◌, sym, ap, subst, List, ℕ, ◌++◌, append_assoc}
use Rattle.dcm_devices.specs.Device.{Puts}
use Rattle.dcm_base.specs.Dump.ValueText.{padded}
use Rattle.dcm_base.specs.Dump.Dump.{line, line_start}
use Rattle.dcm_sinks.specs.Layout.{line_rest}
use Rattle.dcm_sinks.proofs.Dumps.LineParts.{line_in_parts}
use Rattle.dcm_sinks.proofs.dump.layout.put_line.Goals as goal

pub returns : goal.returns
returns g c =
    let a = c.args in
    let start : List ℕ = line_start a.level a.tag a.letters in
    let shown : List ℕ = padded a.display.now in
    let rest : List ℕ = line_rest a.dictionary a.tag a.declared a.count in
    let front : c.append_display.new.line.items ≡ start ++ shown = c.append_display.ensures.items ∙ ap (λ xs. xs ++ shown) c.begin_line.ensures.items in
    let whole : (start ++ shown) ++ rest ≡ line a.dictionary a.level a.tag a.letters a.display.now a.declared a.count =
    append_assoc start shown rest ∙ sym (line_in_parts a.dictionary a.level a.tag a.letters a.display.now a.declared a.count)
    in
    record { bytes = subst (λ bytes. Puts (g.W.DeviceOut.contents a.out.now) (g.W.DeviceOut.contents c.put_rest.new.out) bytes c.put_rest.result) (ap (λ xs. xs ++ rest) front ∙ whole) c.put_rest.ensures.bytes; failed = search rules }
