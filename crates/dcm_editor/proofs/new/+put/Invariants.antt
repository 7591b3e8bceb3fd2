use Rattle.std.proofs.Common.{◌≡◌, ◌+◌, ◌*◌, ◌++◌, List, map}
use Rattle.std.specs.Prelude.{◌-◌, fold}
use Rattle.std.specs.Io.KnownBytes.{append_known}
use Rattle.dcm_base.specs.Steps.Atoms.{Atom}
use Rattle.dcm_base.specs.Steps.Steps.{outputs}
use Rattle.dcm_editor.specs.Asking.{in_gap}
use Rattle.dcm_editor.specs.Masks.{asked}
use Rattle.dcm_edits.specs.Meaning.{edit_of}
use Rattle.dcm_editor.proofs.Trees.NewRows.{row, new_count}
use Rattle.dcm_editor.proofs.new.+put.Given as goal

-- each sequence that is made is one item deeper
abbrev pub decreases-put_new : goal.decreases-put_new
decreases-put_new g l = 3 * (64 - l.asked.now.depth) + 2

abbrev pub decreases-put_one : goal.decreases-put_one
decreases-put_one g l = 3 * (64 - l.asked.now.depth) + 1

abbrev pub decreases-put_sequence : goal.decreases-put_sequence
decreases-put_sequence g l = 3 * (64 - l.asked.now.depth)

-- the atoms so far, and those to come
abbrev pub invariant-put_new-loop-new : goal.invariant-put_new-loop-new
invariant-put_new-loop-new g l =
    let es = asked l.fn.asked.depth l.fn.asked.mask 0 (map edit_of l.fn.asked.edits.now) in
    record {
      front : List Atom;
      atoms : row l.fn.gap es ≡ front ++ row l.left es;
      state : g.S.Sink.state l.sink ≡ fold g.S.Sink.step (g.S.Sink.state l.fn.sink) front;
      bytes : g.S.Sink.contents l.sink ≡ append_known (g.S.Sink.contents l.fn.sink) (outputs g.S.Sink.step g.S.Sink.writes (g.S.Sink.state l.fn.sink) front);
      failed : g.S.Sink.has_failed l.sink ≡ g.S.Sink.has_failed l.fn.sink;
      kept : g.S.Sink.kept l.sink ≡ g.S.Sink.kept l.fn.sink;
    }

abbrev pub decreases-put_new-loop-new : goal.decreases-put_new-loop-new
decreases-put_new-loop-new g l = new_count (in_gap l.left) (asked l.fn.asked.depth l.fn.asked.mask 0 (map edit_of l.fn.asked.edits.now))
