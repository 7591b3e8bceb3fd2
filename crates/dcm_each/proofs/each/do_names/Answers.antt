use Rattle.std.proofs.Common.{Bool, subst, refl, rules, arith, ◌++◌, ◌∷◌, []}
use Rattle.dcm_cli.specs.Change.{change_of}
use Rattle.dcm_cli.proofs.Passes.Readers.{members, writer}
use Rattle.dcm_cli.proofs.Runs.Obeying.{nothing_told}
use Rattle.dcm_names.specs.Reader.{AnswersUnread}
use Rattle.dcm_each.specs.Each.{Listed, DoesListed, none_listed, all_done, not_read}
use Rattle.dcm_each.proofs.Names.{told}
use Rattle.dcm_each.proofs.Names.{follows, listed_more, listed_failed}
use Rattle.dcm_each.proofs.each.do_names.Goals as goal

pub loop-names-init : goal.loop-names-init
loop-names-init g c = record {
  given = [];
  front = [];
  read = c.new-names.ensures.read;
  done = none_listed (nothing_told (writer g.E.Device g.E.DeviceOut) c.args.errors.now) refl refl refl c.new-names.ensures.going refl refl refl;
  within = omega arith;
}

pub loop-names-preserved : goal.loop-names-preserved
loop-names-preserved g c =
    let loop = c.loop-names in
    let a = c.in-Name.ensures.answers loop.invariant.given loop.invariant.front loop.invariant.read in
    record {
      given = loop.invariant.given ++ a.more;
      front = loop.invariant.front ++ a.name ∷ [];
      read = a.has_read;
      done = listed_more (writer g.E.Device g.E.DeviceOut) (members g.S.Input.Device g.S.Input.DeviceIn) (DoesListed g.S.System.may_do g.K.FileWork.work)
          c.args.errors.now loop.errors c.do_listed.new.errors (c.args.work.now, c.args.out.now) (loop.work, loop.out) (c.do_listed.new.work, c.do_listed.new.out) c.args.input.now loop.input c.next.new.input c.args.system.now loop.system c.do_listed.new.system loop.invariant.given loop.names.is_over loop.invariant.front loop.status loop.invariant.done c.next.new.self a c.in_ok-ended-in-Name.ended _ (search rules)
          (c.in_ok-ended-in-Name.ensures.does a.name a.held);
      within = search rules;
    }

pub returns-in_err-ended-in-Name-clause-does : goal.returns-in_err-ended-in-Name-clause-does
returns-in_err-ended-in-Name-clause-does g c =
    let loop = c.loop-names in
    let a = c.in-Name.ensures.answers loop.invariant.given loop.invariant.front loop.invariant.read in
    listed_failed (writer g.E.Device g.E.DeviceOut) (members g.S.Input.Device g.S.Input.DeviceIn) (DoesListed g.S.System.may_do g.K.FileWork.work)
    c.args.errors.now loop.errors c.do_listed.new.errors (c.args.work.now, c.args.out.now) (loop.work, loop.out) (c.do_listed.new.work, c.do_listed.new.out) c.args.input.now loop.input c.next.new.input c.args.system.now loop.system c.do_listed.new.system loop.invariant.given loop.names.is_over loop.invariant.front loop.status loop.invariant.done c.next.new.self c.args.list.now a c.in_err-ended-in-Name.field-0.0 _ (search rules)
    (c.in_err-ended-in-Name.ensures.does a.name a.held)

pub returns-in-End-clause-does : goal.returns-in-End-clause-does
returns-in-End-clause-does g c =
    let loop = c.loop-names in
    all_done loop.invariant.given loop.names.is_over loop.invariant.front loop.status loop.input loop.invariant.done
    (c.in-End.ensures.answers loop.invariant.given loop.invariant.front loop.invariant.read) refl

pub returns-in-Unread-clause-does : goal.returns-in-Unread-clause-does
returns-in-Unread-clause-does g c =
    let loop = c.loop-names in
    let unread = c.in-Unread.ensures.answers loop.invariant.given loop.invariant.front loop.invariant.read in
    not_read loop.invariant.given loop.invariant.front loop.status c.in-Unread.read loop.input _ _
    (subst (λ (b : Bool). Listed g.S.Input.DeviceIn.gets (DoesListed g.S.System.may_do g.K.FileWork.work)
    (c.args.work.now, c.args.out.now) c.args.input.now c.args.system.now (change_of (writer g.E.Device g.E.DeviceOut) c.args.errors.now loop.errors) (loop.work, loop.out) loop.invariant.given loop.input b loop.invariant.front loop.status loop.system) unread.going loop.invariant.done)
    (subst (λ (b : Bool). AnswersUnread g.S.Input.DeviceIn.gets b loop.input c.next.new.input loop.invariant.given loop.invariant.front c.in-Unread.read) unread.going unread)
    c.in-Unread.ensures.failed
    (told (writer g.E.Device g.E.DeviceOut) loop.errors c.put_unread.new.errors _ c.put_unread.result c.put_unread.ensures)
    (follows (writer g.E.Device g.E.DeviceOut) c.args.errors.now loop.errors c.put_unread.new.errors) refl
