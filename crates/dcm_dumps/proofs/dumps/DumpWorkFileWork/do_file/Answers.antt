use Rattle.std.proofs.Common.{refl, ap, sym, subst, ◌∙◌, ℕ, Bool}
use Rattle.dcm_files.specs.Devices.{clash}
use Rattle.dcm_cli.specs.Change.{change_of}
use Rattle.dcm_cli.proofs.Passes.Readers.{members, writer}
use Rattle.dcm_each.proofs.Names.{told}
use Rattle.dcm_dumps.specs.Dumps.{Manner, ShowsFile, is_output, headed, next_number}
use Rattle.dcm_words.specs.Plans.{dump_job}
use Rattle.dcm_dumps.specs.Heading.{heading}
use Rattle.dcm_dumps.proofs.dumps.DumpWorkFileWork.do_file.Goals as goal

pub returns-in-Some-clause-does : goal.returns-in-Some-clause-does
returns-in-Some-clause-does g c = (
  is_output c.in-Some.cause (sym (ap (λ (m : Manner). clash c.args.kind m.output) c.count.ensures.manner) ∙ sym c.in-Some.ensures)
      (told (writer g.E.Device g.E.DeviceOut) c.args.errors.now c.put_clash.new.errors _ c.put_clash.result c.put_clash.ensures)
      (λ i. record { out = c.args.out.now; number = c.count.ensures.number i; is_first = c.count.ensures.first i }) refl refl,
  c.count.ensures.manner,
)

pub returns-in-None-clause-does : goal.returns-in-None-clause-does
returns-in-None-clause-does g c =
    let r = members g.I.Device g.I.DeviceIn in
    let w = writer g.W.Device g.W.DeviceOut in
    let from = c.args.self.now in
    let counted = c.count.new.self in
    let errors = change_of (writer g.E.Device g.E.DeviceOut) c.args.errors.now c.show.new.errors in (
      headed (sym (ap (λ (m : Manner). clash c.args.kind m.output) c.count.ensures.manner) ∙ sym c.in-None.ensures)
          (subst (λ (m : Manner). ShowsFile r w m.job (heading from.is_first (next_number from.number) m.total c.args.name.now) c.args.name.now errors c.args.out.now c.show.new.out c.args.input.now c.show.result c.show.new.input) c.count.ensures.manner
          (subst (λ (n : ℕ). ShowsFile r w (dump_job counted.dump) (heading from.is_first n counted.total c.args.name.now) c.args.name.now errors c.args.out.now c.show.new.out c.args.input.now c.show.result c.show.new.input) c.count.ensures.number
          (subst (λ (b : Bool). ShowsFile r w (dump_job counted.dump) (heading b counted.number counted.total c.args.name.now) c.args.name.now errors c.args.out.now c.show.new.out c.args.input.now c.show.result c.show.new.input) c.count.ensures.first c.show.ensures.shows)))
          (c.show.ensures.number ∙ c.count.ensures.number) c.show.ensures.first,
      c.show.ensures.manner ∙ c.count.ensures.manner,
    )
