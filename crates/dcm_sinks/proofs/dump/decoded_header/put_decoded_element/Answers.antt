use Rattle.std.proofs.Common.{List, ℕ, Option, ap, subst, ◌∙◌, rules}
use Rattle.std.specs.Prelude.{flat_map}
use Rattle.dcm_devices.specs.Device.{Puts}
use Rattle.dcm_sinks.specs.DecodedDump.{decoded_line}
use Rattle.dcm_sinks.specs.InForce.{EMPTY}
use Rattle.dcm_stream.specs.Tokens.{atoms_of}
use Rattle.dcm_sinks.specs.DecodedLines.{state_of}
use Rattle.dcm_sinks.specs.MetaLines.{IsValue}
use Rattle.dcm_sinks.proofs.DecodedDumps.MetaLines.{line_put}
use Rattle.dcm_sinks.proofs.dump.decoded_header.put_decoded_element.Goals as goal

pub returns : goal.returns
returns g c =
    let element = c.args.element in
    let line : List ℕ = decoded_line c.args.dictionary c.args.mode EMPTY 0 element.tag element.vr element.value.now in
    let last : Option (List ℕ) = g.W.DeviceOut.contents c.take_all.new.sink.out.now in
    let begun = ap (λ (x : g.row.W.Denot). g.W.DeviceOut.contents x) c.new-sink.ensures.out in
    let went = λ (is : IsValue element). line_put c.args.dictionary c.args.mode element.tag element.vr element.value.now (state_of c.new-sink.result.lines c.new-sink.result.in_force) (state_of c.take_all.new.sink.lines c.take_all.new.sink.in_force) (g.W.DeviceOut.contents c.new-sink.result.out.now) last
    (flat_map atoms_of c.as_slice.result.now) c.take_all.result is c.new-sink.ensures.state (ap (flat_map atoms_of) c.as_slice.ensures.value ∙ c.leaf-tokens.ensures.atoms) c.take_all.ensures.takes in
    let k = c.take_all.ensures.kept in
    let n = c.new-sink.ensures.same_reference in
    record {
      bytes = λ is. subst (λ (holds : Option (List ℕ)). Puts (g.W.DeviceOut.contents c.args.out.now) holds line c.take_all.result) (search (rules, k, n)) (subst (λ (held : Option (List ℕ)). Puts held last line c.take_all.result) begun (went is));
      failed = search rules;
    }
