use Rattle.std.proofs.Common.{rules}
use Rattle.dcm_cli.proofs.Passes.Fed.{going_fine}
use Rattle.dcm_cli.proofs.pass.feed.Goals as goal

pub returns : goal.returns
returns g c =
    record {
      fed = record {
        goes = c.feed.ensures.advanced.goes_over (going_fine c.args.machine.now c.requires);
        answer_is = c.feed.ensures.answer;
        going = c.feed.ensures.going;
        failed = c.feed.ensures.advanced.failed c.requires;
        place = c.feed.ensures.place;
        within = c.feed.ensures.within;
      };
      kept = search rules;
    }
