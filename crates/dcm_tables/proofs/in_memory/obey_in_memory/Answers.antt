use Rattle.std.proofs.Common.{◌≡◌, ◌∙◌, ap, sym, map}
use Rattle.dcm_devices.specs.declared.memory.Measured.{Measured}
use Rattle.dcm_cli.specs.InMemory.{ObeysInMemory}
use Rattle.dcm_dumps.specs.DumpsInMemory.{DumpsInMemory}
use Rattle.dcm_tables.specs.TableInMemory.{TablesInMemory}
use Rattle.dcm_tables.proofs.MemoryObeyed.{tabled_of, dumped_of, others_of, moved}
use Rattle.dcm_tables.proofs.in_memory.obey_in_memory.Goals as goal

pub returns-clause-tables : goal.returns-clause-tables
returns-clause-tables c = λ asks lists.
    let words = map (λ w. w.now) c.args.words.now in
    let old_errors : c.new-errors.result.out ≡ c.args.errors = ap (λ (m : Measured). m.out) c.new-errors.ensures ∙ c.new.ensures in
    let new_errors : c.obey-status.new.errors.out ≡ c.into_inner.result = sym (c.into_inner.ensures ∙ ap (λ (m : Measured). m.out) c.into_device.ensures) in
    moved (λ before output after. TablesInMemory words c.args.system before output after c.obey-status.result) old_errors (sym c.into_written.ensures) new_errors
    (tabled_of _ c.args.system c.obey-status.new.system c.new-errors.result.out c.obey-status.new.errors.out c.obey-status.result words asks lists c.obey-status.ensures.obeys)

pub returns-clause-others : goal.returns-clause-others
returns-clause-others c = λ asks shows alone.
    let words = map (λ w. w.now) c.args.words.now in
    let old_errors : c.new-errors.result.out ≡ c.args.errors = ap (λ (m : Measured). m.out) c.new-errors.ensures ∙ c.new.ensures in
    let new_errors : c.obey-status.new.errors.out ≡ c.into_inner.result = sym (c.into_inner.ensures ∙ ap (λ (m : Measured). m.out) c.into_device.ensures) in
    moved (λ before output after. ObeysInMemory words c.args.system before output after c.obey-status.result) old_errors (sym c.into_written.ensures) new_errors
    (others_of _ c.args.system c.obey-status.new.system c.new-errors.result.out c.obey-status.new.errors.out c.obey-status.result words asks shows alone c.obey-status.ensures.obeys)

pub returns-clause-dumps : goal.returns-clause-dumps
returns-clause-dumps c = λ asks lists.
    let words = map (λ w. w.now) c.args.words.now in
    let old_errors : c.new-errors.result.out ≡ c.args.errors = ap (λ (m : Measured). m.out) c.new-errors.ensures ∙ c.new.ensures in
    let new_errors : c.obey-status.new.errors.out ≡ c.into_inner.result = sym (c.into_inner.ensures ∙ ap (λ (m : Measured). m.out) c.into_device.ensures) in
    moved (λ before output after. DumpsInMemory words c.args.system before output after c.obey-status.result) old_errors (sym c.into_written.ensures) new_errors
    (dumped_of _ c.args.system c.obey-status.new.system c.new-errors.result.out c.obey-status.new.errors.out c.obey-status.result words asks lists c.obey-status.ensures.obeys)
