use Rattle.std.proofs.Common.{refl, rules, arith, ◌++◌, ◌∷◌, []}
use Rattle.dcm_table_words.specs.Table.{Name}
use Rattle.dcm_table_words.specs.Plans.{name_as}
use Rattle.dcm_cli.specs.Change.{change_of}
use Rattle.dcm_cli.proofs.Passes.Readers.{members, writer}
use Rattle.dcm_cli.proofs.Runs.Obeying.{nothing_told}
use Rattle.dcm_each.specs.Each.{DoesName, none_done}
use Rattle.dcm_each.proofs.Names.{done_more, done_failed, all_done_of, front_more, whole_next}
use Rattle.dcm_each.proofs.each.do_all.Goals as goal

pub loop-name-init : goal.loop-name-init
loop-name-init g c = record {
  front = [];
  whole = refl;
  done = none_done (nothing_told (writer g.E.Device g.E.DeviceOut) c.args.errors.now) refl refl refl refl;
  within = omega arith;
}

pub loop-name-preserved : goal.loop-name-preserved
loop-name-preserved g c =
    let loop = c.loop-name in
    let name : Name = name_as c.in-Some.name in
    record {
      front = loop.invariant.front ++ name ∷ [];
      whole = front_more _ loop.invariant.front _ _ name loop.invariant.whole c.in-Some.ensures.names;
      done = done_more (writer g.E.Device g.E.DeviceOut) (DoesName g.S.System.may_do (members g.S.Input.Device g.S.Input.DeviceIn) g.K.FileWork.work)
          c.args.errors.now loop.errors c.do_name.new.errors (c.args.work.now, c.args.out.now) (loop.work, loop.out) (c.do_name.new.work, c.do_name.new.out) c.args.system.now loop.system c.do_name.new.system loop.invariant.front loop.status loop.invariant.done name c.in_ok-ended.ended _ (search rules)
          c.in_ok-ended.ensures.does;
      within = search rules;
    }

pub returns-in_err-ended-clause-does : goal.returns-in_err-ended-clause-does
returns-in_err-ended-clause-does g c =
    let loop = c.loop-name in
    let name : Name = name_as c.in-Some.name in
    done_failed (writer g.E.Device g.E.DeviceOut) (DoesName g.S.System.may_do (members g.S.Input.Device g.S.Input.DeviceIn) g.K.FileWork.work)
    c.args.errors.now loop.errors c.do_name.new.errors (c.args.work.now, c.args.out.now) (loop.work, loop.out) (c.do_name.new.work, c.do_name.new.out) c.args.system.now loop.system c.do_name.new.system loop.invariant.front loop.status loop.invariant.done _ _ name c.in_err-ended.field-0.0 _ (search rules)
    (whole_next _ loop.invariant.front _ _ name loop.invariant.whole c.in-Some.ensures.names)
    c.in_err-ended.ensures.does

pub returns-clause-does : goal.returns-clause-does
returns-clause-does g c =
    let loop = c.loop-name in
    all_done_of (DoesName g.S.System.may_do (members g.S.Input.Device g.S.Input.DeviceIn) g.K.FileWork.work)
    (change_of (writer g.E.Device g.E.DeviceOut) c.args.errors.now loop.errors) (c.args.work.now, c.args.out.now) (loop.work, loop.out) c.args.system.now loop.system _ loop.invariant.front _ loop.status loop.invariant.done loop.invariant.whole c.in_default.ensures
