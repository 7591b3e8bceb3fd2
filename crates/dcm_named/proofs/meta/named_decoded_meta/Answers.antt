use Rattle.std.proofs.Common.{List, ℕ, [], Option, ap, sym, subst, rules}
use Rattle.dcm_base.specs.Bytes.Spelling.{Spells}
use Rattle.dcm_base.specs.Tables.Syntax.{Little}
use Rattle.dcm_devices.specs.Device.{Puts}
use Rattle.dcm_sinks.specs.DecodedLines.{state_of}
use Rattle.dcm_sinks.specs.InForce.{EMPTY}
use Rattle.dcm_named.specs.Laws.{asked}
use Rattle.dcm_named.specs.Named.{by_characters, named_set}
use Rattle.dcm_named.proofs.MetaLines.{decoded_put}
use Rattle.dcm_named.proofs.meta.named_decoded_meta.Goals as goal

pub returns : goal.returns
returns g c =
    let lines = c.new-lines.result in
    let last : Option (List ℕ) = g.W.DeviceOut.contents c.show_elements.new.lines.out.now in
    let begun = ap (λ (x : g.row.W.Denot). g.W.DeviceOut.contents x) c.new-lines.ensures.out in
    let k = c.show_elements.ensures.kept in
    let n = c.new-lines.ensures.same_reference in
    record {
      bytes = λ elements s m.
          let spelled = subst (Spells Little elements) (sym c.bytes.ensures.group) s in
          let text : List ℕ = named_set (asked by_characters c.args.tags.now c.args.ways c.args.dictionary c.args.mode) EMPTY [] elements in
          let went = decoded_put c.args.tags.now c.args.ways c.args.dictionary c.args.mode elements c.bytes.result.now (state_of lines.lines lines.in_force) (g.W.DeviceOut.contents lines.out.now) last c.show_elements.result spelled m c.new-lines.ensures.state
          (c.show_elements.ensures.bytes elements spelled m) in
          subst (λ (holds : Option (List ℕ)). Puts (g.W.DeviceOut.contents c.args.out.now) holds text c.show_elements.result) (search (rules, k, n)) (subst (λ (held : Option (List ℕ)). Puts held last text c.show_elements.result) begun went);
      failed = search rules;
    }
