use Rattle.std.proofs.Common.{◌∙◌, append_assoc, refl, [], ◌++◌, ◌∷◌, Ok, Err, subst, List, ℕ, Bool, rules}
use Rattle.dcm_walk.specs.List.{none_listed, and_line, all_done, not_read, was_stopped, DoesLine, Listed}
use Rattle.dcm_walk.proofs.ListNames.{first_names}
use Rattle.dcm_walk.proofs.list.walk_list.Goals as goal

pub loop-names-init : goal.loop-names-init
loop-names-init g c = record {
  given = [];
  front = [];
  read = c.new-names.ensures.read;
  done = none_listed refl refl refl refl c.new-names.ensures.going refl;
}

pub loop-names-preserved : goal.loop-names-preserved
loop-names-preserved g c =
    let loop = c.loop-names in
    let a = c.in-Name.ensures.answers loop.invariant.given loop.invariant.front loop.invariant.read in
    record {
      given = loop.invariant.given ++ a.more;
      front = loop.invariant.front ++ a.name ∷ [];
      read = a.has_read;
      done = and_line loop.invariant.given a.more loop.invariant.front a.name (loop.visitor, loop.errors) loop.system loop.input
          (subst (λ (b : Bool). Listed g.S.Input.DeviceIn.gets (DoesLine g.S.Folders.folders_do g.V.Visitor.visits c.args.output) (c.args.visitor.now, c.args.errors.now) c.args.system.now c.args.input.now
          (loop.visitor, loop.errors) loop.system loop.invariant.given loop.input b loop.invariant.front) a.going loop.invariant.done)
          a.calls
          (subst (λ (line : List ℕ). DoesLine g.S.Folders.folders_do g.V.Visitor.visits c.args.output line (loop.visitor, loop.errors) loop.system (Ok _) (c.do_line.new.visitor, c.do_line.new.errors) c.do_line.new.system)
          (c.name.ensures a.name a.held) c.in_ok-do_line-in-Name.ensures)
          refl refl;
    }

pub returns-in_err-do_line-in-Name : goal.returns-in_err-do_line-in-Name
returns-in_err-do_line-in-Name g c =
    let loop = c.loop-names in
    let a = c.in-Name.ensures.answers loop.invariant.given loop.invariant.front loop.invariant.read in
    let f = first_names c.next.new.self c.next.new.self.is_over (loop.invariant.given ++ a.more) (loop.invariant.front ++ a.name ∷ []) refl a.has_read in
    was_stopped loop.invariant.given a.more c.next.new.self.is_over loop.invariant.front f.0 a.name c.in_err-do_line-in-Name.field-0.0 (loop.visitor, loop.errors) loop.system loop.input
    (subst (λ (b : Bool). Listed g.S.Input.DeviceIn.gets (DoesLine g.S.Folders.folders_do g.V.Visitor.visits c.args.output) (c.args.visitor.now, c.args.errors.now) c.args.system.now c.args.input.now
    (loop.visitor, loop.errors) loop.system loop.invariant.given loop.input b loop.invariant.front) a.going loop.invariant.done)
    a.calls (f.1 ∙ append_assoc loop.invariant.front (a.name ∷ []) f.0)
    (subst (λ (line : List ℕ). DoesLine g.S.Folders.folders_do g.V.Visitor.visits c.args.output line (loop.visitor, loop.errors) loop.system (Err c.in_err-do_line-in-Name.field-0.0) (c.do_line.new.visitor, c.do_line.new.errors) c.do_line.new.system)
    (c.name.ensures a.name a.held) c.in_err-do_line-in-Name.ensures)
    (search rules)

pub returns-in-End : goal.returns-in-End
returns-in-End g c =
    let loop = c.loop-names in
    all_done loop.invariant.given loop.names.is_over loop.invariant.front loop.input loop.invariant.done
    (c.in-End.ensures.answers loop.invariant.given loop.invariant.front loop.invariant.read) refl

pub returns-in-Unread : goal.returns-in-Unread
returns-in-Unread g c =
    let loop = c.loop-names in
    not_read loop.invariant.given loop.names.is_over loop.invariant.front c.in-Unread.read loop.input loop.invariant.done
    (c.in-Unread.ensures.answers loop.invariant.given loop.invariant.front loop.invariant.read) refl
