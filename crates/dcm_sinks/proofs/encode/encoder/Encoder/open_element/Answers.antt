use Rattle.std.proofs.Common.{rules, ◌≡◌}
use Rattle.dcm_base.specs.Bytes.Spelling.{form, read_as}
use Rattle.dcm_base.specs.declared.form.Form.TheVariants.{FragmentList as a_fragment_list}
use Rattle.dcm_sinks.proofs.Conversions.EvenLengths.{read_long}
use Rattle.dcm_sinks.proofs.encode.encoder.Encoder.open_element.Goals as goal

pub put_list_head-requires-in-FragmentList-default : goal.put_list_head-requires-in-FragmentList-default
put_list_head-requires-in-FragmentList-default g c =
    let read = read_as c.args.syntax c.args.head.tag c.args.head.vr in
    let is : form c.args.syntax read c.args.head.length ≡ a_fragment_list = search rules in
    read_long c.args.syntax c.args.head.tag c.args.head.vr c.args.head.length is
