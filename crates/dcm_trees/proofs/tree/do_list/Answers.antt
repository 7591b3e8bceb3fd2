use Rattle.std.proofs.Common.{refl, subst}
use Rattle.dcm_trees.proofs.Rows.{told}
use Rattle.dcm_trees.proofs.Names.{names_of}
use Rattle.dcm_trees.specs.Tree as spec
use Rattle.dcm_trees.proofs.tree.do_list.Goals as goal

pub returns-in-Ok-clause-does : goal.returns-in-Ok-clause-does
returns-in-Ok-clause-does g c = spec.was_opened c.in-Ok.opened c.do_names-done.new.input c.open_input.new.system c.do_names-done.new.system c.in-Ok.ensures (names_of c.new-input.ensures c.do_names-done.ensures.does) (subst (λ (input : _). g.S.System.may_do.releases c.do_names-done.new.system input c.release.new.self) c.into_device.ensures c.release.ensures)

pub returns-in-Err-clause-does : goal.returns-in-Err-clause-does
returns-in-Err-clause-does g c = spec.not_opened c.in-Err.field-0 c.in-Err.ensures (told (record { has_failed = g.E.Device.has_failed; contents = g.E.DeviceOut.contents; room = g.E.DeviceOut.room; is_flushed = g.E.DeviceOut.is_flushed }) _ _ _ _ c.put_unopened.ensures) refl refl
