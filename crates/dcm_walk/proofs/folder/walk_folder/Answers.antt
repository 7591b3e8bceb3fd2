use Rattle.std.proofs.Common.{refl}
use Rattle.dcm_walk.specs.Folder.{stopped}
use Rattle.dcm_walk.proofs.Folders.{opened_at, all_done, not_all}
use Rattle.dcm_walk.proofs.folder.walk_folder.Goals as goal

pub returns-in-Ok-true : goal.returns-in-Ok-true
returns-in-Ok-true g c =
    all_done _ _ _ _ _ _ _ _ _ _ c.in-Ok-true.field-0-test
    (opened_at _ _ _ _ _ _ _ _ _ _ _ _ c.at-trail.ensures c.in-Ok-true.ensures.does)

pub returns-in-Ok-false : goal.returns-in-Ok-false
returns-in-Ok-false g c =
    not_all _ _ _ _ _ _ _ _ _ _ _ _ _ c.in-Ok-false.field-0-test
    (opened_at _ _ _ _ _ _ _ _ _ _ _ _ c.at-trail.ensures c.in-Ok-false.ensures.does) c.visit.ensures

pub returns : goal.returns
returns g c =
    let done = opened_at _ _ _ _ _ _ _ _ _ _ _ _ c.at-trail.ensures c.in-Err.ensures.does in
    stopped c.in-Err.stopped done.left done.listed done.names done.closes refl
