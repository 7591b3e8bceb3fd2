use Rattle.std.proofs.Common.{rules, sym, refl}
use Rattle.dcm_cli.specs.Opening.{no_set, no_change, no_head}
use Rattle.dcm_cli.proofs.Passes.Alone.{put_failed, put_whole}
use Rattle.dcm_cli.proofs.rewrite.open_file.Goals as goal

pub returns-in-Err-clause-opens : goal.returns-in-Err-clause-opens
returns-in-Err-clause-opens g c =
    let head = c.in-Err.ensures in
    record {
      read = head.read;
      how = head.how;
      reads = head.reads;
      opens = no_set c.read_head_of.new.meta c.in-Err.ending head.outcome refl c.ending_of_head.ensures;
      unread = search rules;
      failed = search rules;
      kept = search rules;
    }

pub returns-then-refuses_change-clause-opens : goal.returns-then-refuses_change-clause-opens
returns-then-refuses_change-clause-opens g c =
    let head = c.in-Ok.ensures in
    record {
      read = head.read;
      how = head.how;
      reads = head.reads;
      opens = no_change c.read_head_of.new.buffer c.read_head_of.new.meta c.in-Ok.beginning c.read_by-coding.result c.set_start-start.result
          (record { begins = head.outcome; named = c.coding.result; end_is = c.coding.ensures; coding_is = c.read_by-coding.ensures; start_is = c.set_start-start.ensures.place })
          (sym (c.if-refuses_change.ensures c.args.dictionary)) refl refl;
      unread = search rules;
      failed = search rules;
      kept = search rules;
    }

pub returns-then-is_err-clause-opens : goal.returns-then-is_err-clause-opens
returns-then-is_err-clause-opens g c =
    let head = c.in-Ok.ensures in
    record {
      read = head.read;
      how = head.how;
      reads = head.reads;
      opens = no_head c.read_head_of.new.buffer c.read_head_of.new.meta c.in-Ok.beginning c.read_by-coding.result c.set_start-start.result c.target_uid-uid.result
          (record { begins = head.outcome; named = c.coding.result; end_is = c.coding.ensures; coding_is = c.read_by-coding.ensures; start_is = c.set_start-start.ensures.place })
          (sym (c.if-refuses_change.ensures c.args.dictionary)) c.target_uid-uid.ensures
          (λ elements spelled are. put_failed _ _ _ c.write_head.result (sym c.if-is_err.ensures.value) (c.write_head.ensures.bytes elements spelled are)) refl;
      unread = search rules;
      failed = search rules;
      kept = search rules;
    }

pub returns-clause-opens : goal.returns-clause-opens
returns-clause-opens g c =
    let head = c.in-Ok.ensures in
    record {
      read = head.read;
      how = head.how;
      reads = head.reads;
      opens = record {
        reading = c.read_head_of.new.meta;
        uid = c.target_uid-uid.result;
        head = record { begins = head.outcome; named = c.coding.result; end_is = c.coding.ensures; coding_is = c.read_by-coding.ensures; start_is = c.set_start-start.ensures.place };
        keeps = sym (c.if-refuses_change.ensures c.args.dictionary);
        uid_is = c.target_uid-uid.ensures;
        written = λ elements spelled are. put_whole _ _ _ c.write_head.result (sym c.if-is_err.ensures.value) (c.write_head.ensures.bytes elements spelled are);
      };
      unread = search rules;
      failed = search rules;
      kept = search rules;
    }
