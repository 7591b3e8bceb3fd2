use Rattle.std.proofs.Common.{List, ℕ, Option, ap, subst, ◌∙◌, rules}
use Rattle.std.specs.Prelude.{flat_map}
use Rattle.dcm_devices.specs.Device.{Puts}
use Rattle.dcm_base.specs.Dump.Dump.{leaf_line}
use Rattle.dcm_stream.specs.Tokens.{atoms_of}
use Rattle.dcm_sinks.specs.Lines.{state}
use Rattle.dcm_sinks.specs.MetaLines.{IsValue}
use Rattle.dcm_sinks.proofs.Dumps.MetaLines.{line_put}
use Rattle.dcm_sinks.proofs.dump.header.put_element.Goals as goal

pub returns : goal.returns
returns g c =
    let element = c.args.element in
    let line : List ℕ = leaf_line c.args.dictionary c.args.mode 0 element.tag element.vr element.value.now in
    let last : Option (List ℕ) = g.W.DeviceOut.contents c.take_all.new.sink.out.now in
    let begun = ap (λ (x : g.row.W.Denot). g.W.DeviceOut.contents x) c.with_dictionary-sink.ensures.out in
    let went = λ (is : IsValue element). line_put c.args.dictionary c.args.mode element.tag element.vr element.value.now (state c.with_dictionary-sink.result.lines) (state c.take_all.new.sink.lines) (g.W.DeviceOut.contents c.with_dictionary-sink.result.out.now) last
    (flat_map atoms_of c.as_slice.result.now) c.take_all.result is c.with_dictionary-sink.ensures.state (ap (flat_map atoms_of) c.as_slice.ensures.value ∙ c.leaf-tokens.ensures.atoms) c.take_all.ensures.takes in
    let k = c.take_all.ensures.kept in
    let n = c.with_dictionary-sink.ensures.same_reference in
    record {
      bytes = λ is. subst (λ (holds : Option (List ℕ)). Puts (g.W.DeviceOut.contents c.args.out.now) holds line c.take_all.result) (search (rules, k, n)) (subst (λ (held : Option (List ℕ)). Puts held last line c.take_all.result) begun (went is));
      failed = search rules;
    }
