use Rattle.dcm_editor.proofs.Masks.IndexGrows.{steps_on, steps_end}
use Rattle.dcm_editor.proofs.index.TagMasks.add_steps.Goals as goal

pub loop-step-init : goal.loop-step-init
loop-step-init c = record { grown = λ k t h. h; so_far = λ final grows h. h }

pub loop-step-preserved : goal.loop-step-preserved
loop-step-preserved c =
    let l = c.loop-step in
    record {
      grown = λ k t h. c.add_step.ensures.others k t (l.invariant.grown k t h);
      so_far = steps_on c.args.steps.now l.self c.add_step.new.self c.args.place l.rest.now c.in-Some.step.now c.in-Some.after.now c.in-Some.ensures.cases.0 l.invariant.so_far c.add_step.ensures.others c.add_step.ensures.here;
    }

pub returns-clause-here : goal.returns-clause-here
returns-clause-here c = steps_end c.args.steps.now c.loop-step.self c.args.place c.loop-step.rest.now c.in_default.ensures.cases c.loop-step.invariant.so_far

pub returns-clause-others : goal.returns-clause-others
returns-clause-others c = c.loop-step.invariant.grown
