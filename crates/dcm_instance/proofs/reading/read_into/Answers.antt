use Rattle.std.proofs.Common.{ℕ, subst}
use Rattle.dcm_base.specs.declared.dictionary.Dictionary.TheVariants.{Standard}
use Rattle.dcm_base.specs.declared.syntax.Coding.{Coding}
use Rattle.dcm_base.specs.Tables.Syntax.{coding_by}
use Rattle.dcm_cli.specs.Pass.{set_bytes}
use Rattle.dcm_cli.proofs.Passes.Readers.{members}
use Rattle.dcm_instance.specs.Searching.{Searches, no_head, set_searched}
use Rattle.dcm_instance.specs.Uids.{told}
use Rattle.dcm_instance.proofs.Files.{instance_comes}
use Rattle.dcm_instance.proofs.reading.read_into.Goals as goal

pub returns : goal.returns
returns g c =
    instance_comes (members g.R.Device g.R.DeviceIn) c.args.input.now c.search_set.new.input (told c.search_set.result)
    (set_searched c.read_head_of.new.meta _ c.read_head_of.new.buffer c.in-Ok.beginning c.read_head_of.new.input c.coding.result c.in-Ok.ensures c.coding.ensures
    (subst (λ (place : ℕ). Searches (members g.R.Device g.R.DeviceIn) c.read_head_of.new.input c.search_set.new.input (coding_by Standard c.coding.result).syntax place c.in-Ok.beginning.is_over (set_bytes c.in-Ok.beginning c.read_head_of.new.buffer) (told c.search_set.result)) c.set_start-start.ensures.place
    (subst (λ (coding : Coding). Searches (members g.R.Device g.R.DeviceIn) c.read_head_of.new.input c.search_set.new.input coding.syntax c.set_start-start.result c.in-Ok.beginning.is_over (set_bytes c.in-Ok.beginning c.read_head_of.new.buffer) (told c.search_set.result)) c.read_by-coding.ensures c.search_set.ensures)))

pub returns-in-Err : goal.returns-in-Err
returns-in-Err g c =
    instance_comes (members g.R.Device g.R.DeviceIn) c.args.input.now c.read_head_of.new.input (told c.end_of_head.result)
    (no_head c.read_head_of.new.meta c.args.buffer.now c.read_head_of.new.buffer c.in-Err.ending c.in-Err.ensures c.end_of_head.ensures)
