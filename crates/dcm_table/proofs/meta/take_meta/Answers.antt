use Rattle.std.proofs.Common.{arith}
use Rattle.dcm_table.proofs.MetaTaken.{meta_none, meta_more}
use Rattle.dcm_table.proofs.meta.take_meta.Goals as goal

pub loop-element-init : goal.loop-element-init
loop-element-init c = record { taken = meta_none _ _; within = c.requires }

pub loop-element-preserved : goal.loop-element-preserved
loop-element-preserved c =
    let loop = c.loop-element in
    let e = c.in-Some.element in
    let is = c.in-Some.ensures.some in
    record {
      taken = meta_more c.args.cells.now loop.cells c.take_element.new.cells c.args.group.now loop.rest.now e.after.now e.value.now e.tag e.vr loop.invariant.taken is c.take_element.ensures;
      within = omega (arith, loop.invariant.within, is.0);
    }

pub returns-clause-kept : goal.returns-clause-kept
returns-clause-kept c = c.loop-element.invariant.taken.columns
