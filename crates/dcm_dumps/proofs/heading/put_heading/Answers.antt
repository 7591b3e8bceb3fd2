use Rattle.std.proofs.Common.{subst, ◌∙◌, ℕ, List}
use Rattle.dcm_devices.specs.Writing.{Wrote}
use Rattle.dcm_cli.proofs.Passes.Readers.{writer}
use Rattle.dcm_dumps.proofs.Headings.{heading_is}
use Rattle.dcm_dumps.proofs.heading.put_heading.Goals as goal

pub returns : goal.returns
returns g c =
    subst (λ (text : List ℕ). Wrote (writer g.W.Device g.W.DeviceOut) c.args.out.now c.put_parts.new.out text c.put_parts.result)
    (heading_is c.args.is_first c.args.number c.args.total c.args.name.now _ _ _ _ _ _ _ _ c.before_heading.ensures c.as_slice.ensures (c.as_bytes.ensures.value ∙ c.format.ensures.text) c.of_total.ensures c.as_slice-2.ensures (c.as_slice-3.ensures.value ∙ c.shown_name-shown.ensures.value) c.as_slice-4.ensures)
    c.put_parts.ensures.wrote
