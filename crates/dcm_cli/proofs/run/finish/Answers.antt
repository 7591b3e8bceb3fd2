use Rattle.dcm_cli.proofs.run.finish.Goals as goal

pub returns : goal.returns
returns g c =
    let w = c.work-ended.ensures.worked in
    record {
      finishes = record {
        written = c.work-ended.new.out;
        worked = c.work-ended.result.ending;
        works = w.works;
        meant = c.work-ended.ensures.meant;
        contents = c.flushed.ensures.contents;
        flushed = c.flushed.ensures.flushed;
        drained = c.flushed.ensures.drained;
      };
      remarked = w.remarked;
    }
