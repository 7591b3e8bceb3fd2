use Rattle.std.proofs.Common.{◌∙◌, subst, refl, Err}
use Rattle.dcm_cli.specs.Pass.{HeadReads}
use Rattle.dcm_cli.specs.declared.ending.HeadEnding.{HeadEnding}
use Rattle.dcm_cli.proofs.Passes.Readers.{members}
use Rattle.dcm_tables.specs.Files.{no_set, not_read, set_read}
use Rattle.dcm_tables.proofs.FileReads.{takes_emptied, kept_emptied}
use Rattle.dcm_tables.proofs.file.read_file_with.Goals as goal

pub returns-in-Ok-clause-reads : goal.returns-in-Ok-clause-reads
returns-in-Ok-clause-reads g c =
    set_read c.read_head_of.new.meta _ c.read_head_of.new.buffer c.in-Ok.beginning c.read_head_of.new.input c.take_meta.new.cells c.in-Ok.ensures
    (takes_emptied c.args.cells.now c.clear.new.self c.take_meta.new.cells c.read_head_of.new.meta c.elements.result.now c.elements.ensures.group c.clear.ensures c.take_meta.ensures.takes)
    c.read_data_set.ensures.reads

pub returns-in-Ok-clause-kept : goal.returns-in-Ok-clause-kept
returns-in-Ok-clause-kept g c =
    c.read_data_set.ensures.kept ∙ kept_emptied c.args.cells.now c.clear.new.self c.take_meta.new.cells c.clear.ensures c.take_meta.ensures.kept

pub returns-in-Err-Refused-clause-reads : goal.returns-in-Err-Refused-clause-reads
returns-in-Err-Refused-clause-reads g c =
    no_set c.read_head_of.new.meta c.args.buffer.now c.read_head_of.new.buffer c.in-Err-Refused.stop
    (subst (λ (e : HeadEnding). HeadReads (members g.R.Device g.R.DeviceIn) c.args.input.now c.read_head_of.new.input c.read_head_of.new.meta c.args.buffer.now c.read_head_of.new.buffer (Err e)) c.in-Err-Refused.field-0-is c.in-Err-Refused.ensures)
    (takes_emptied c.args.cells.now c.clear.new.self c.take_meta-in-Err-Refused.new.cells c.read_head_of.new.meta c.elements-in-Err-Refused.result.now c.elements-in-Err-Refused.ensures.group c.clear.ensures c.take_meta-in-Err-Refused.ensures.takes)
    refl

pub returns-in-Err-Refused-clause-kept : goal.returns-in-Err-Refused-clause-kept
returns-in-Err-Refused-clause-kept g c = kept_emptied c.args.cells.now c.clear.new.self c.take_meta-in-Err-Refused.new.cells c.clear.ensures c.take_meta-in-Err-Refused.ensures.kept

pub returns-in-Err-Unread-clause-reads : goal.returns-in-Err-Unread-clause-reads
returns-in-Err-Unread-clause-reads g c =
    not_read c.read_head_of.new.meta c.args.buffer.now c.read_head_of.new.buffer c.in-Err-Unread.read
    (subst (λ (e : HeadEnding). HeadReads (members g.R.Device g.R.DeviceIn) c.args.input.now c.read_head_of.new.input c.read_head_of.new.meta c.args.buffer.now c.read_head_of.new.buffer (Err e)) c.in-Err-Unread.field-0-is c.in-Err-Unread.ensures)
    c.clear.ensures refl

pub returns-in-Err-Unread-clause-kept : goal.returns-in-Err-Unread-clause-kept
returns-in-Err-Unread-clause-kept g c = kept_emptied c.args.cells.now c.clear.new.self c.clear.new.self c.clear.ensures refl
