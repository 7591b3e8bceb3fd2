use Rattle.std.proofs.Common.{refl}
use Rattle.dcm_trees.proofs.Names.{begins_work, ends_as}
use Rattle.dcm_trees.proofs.tree.visit_all.Goals as goal

pub returns-clause-visits : goal.returns-clause-visits
returns-clause-visits g c = record {
  start = c.new-work.result;
  last = c.walk_folder-walked.new.visitor;
  walked = c.walk_folder-walked.result;
  told = c.walk_folder-walked.new.errors;
  begins = begins_work c.new-work.ensures.progress c.new-work.ensures.shared c.as_slice.ensures.value (record { manner = c.shared_of.ensures.manner; part_is = c.shared_of.ensures.part_is; counts_are = c.shared_of.ensures.counts_are });
  walks = c.walk_folder-walked.ensures;
  ends = ends_as c.as_list.ensures refl c.as_slice-2.ensures.value c.part_name-part.ensures c.end_run.ensures.ends;
  left_is = c.end_run.ensures.manifest;
}
