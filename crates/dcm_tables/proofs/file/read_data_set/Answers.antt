use Rattle.std.proofs.Common.{subst, ℕ, None}
use Rattle.dcm_base.specs.declared.syntax.Coding.{Coding}
use Rattle.dcm_base.specs.declared.dictionary.Dictionary.TheVariants.{Standard}
use Rattle.dcm_base.specs.Tables.Syntax.{coding_by}
use Rattle.dcm_stream.specs.Reading.{Reading, start_of}
use Rattle.dcm_table.specs.TableSink.{next, writes, table_bar_of}
use Rattle.dcm_cli.specs.Pass.{ReadsSet, set_bytes}
use Rattle.dcm_cli.proofs.Passes.Readers.{members}
use Rattle.dcm_tables.proofs.file.read_data_set.Goals as goal

pub returns-clause-reads : goal.returns-clause-reads
returns-clause-reads g c =
    let Reads : Reading → Type 0 = λ first. ReadsSet table_bar_of next writes (members g.R.Device g.R.DeviceIn) c.args.input.now c.read_set.new.input c.args.beginning.is_over (set_bytes c.args.beginning c.args.buffer.now) first
    c.args.cells.now None c.read_set.new.sink None c.read_set.result
    in
    record {
      coding = c.coding.result;
      named = c.coding.ensures;
      ending = c.read_set.result;
      reads = subst (λ (place : ℕ). Reads (start_of (coding_by Standard c.coding.result).syntax place)) c.set_start-start.ensures.place
          (subst (λ (coding : Coding). Reads (start_of coding.syntax c.set_start-start.result)) c.read_by-coding.ensures c.read_set.ensures.ends);
      unread = c.read_set.ensures.unread;
      ends = c.set_end.ensures;
    }

pub returns-clause-kept : goal.returns-clause-kept
returns-clause-kept g c = c.read_set.ensures.kept
