-- The law of the edit sink.
use Rattle.std.proofs.Common.{◌≡◌, List, ◌∙◌, ap, subst, sym, arith}
use Rattle.std.specs.Prelude.{fold, map}
use Rattle.dcm_base.specs.Tree.Front.{Front}
use Rattle.dcm_base.specs.Lines.Ascending.{FrontAscends}
use Rattle.dcm_base.specs.Steps.Atoms.{Atom, Shows}
use Rattle.dcm_base.specs.Steps.Steps.{outputs}
use Rattle.dcm_sinks.specs.Laws.{StaysShallow}
use Rattle.dcm_edits.specs.Edit.{Edit, edited, found}
use Rattle.dcm_edits.specs.Overlap.{AreApart, ArePublic}
use Rattle.dcm_base.specs.Steps.Anew.{reached_anew}
use Rattle.dcm_editor.specs.EditSink.{State, begun, next, passed}
use Rattle.dcm_edits.specs.Bounds.{HaveValues, HaveShortIndexes}
use Rattle.dcm_editor.proofs.EditSinks.Bounds.{Fits, HasRoom, same_output, same_state}
use Rattle.dcm_editor.proofs.EditSinks.Rooms.{front_room}
use Rattle.dcm_editor.proofs.Masks.Found.{edit_unbounded}

pub begun_fits : (es : List Edit) → HaveShortIndexes es → Fits 0 0 (begun es)
begun_fits es h = record { few = omega arith; dropped = omega arith; short = h; all_short = tt }

pub edit_steps : (es : List Edit) (f : Front) (atoms : List Atom) → AreApart es → ArePublic es → HaveValues es → HaveShortIndexes es → FrontAscends f → StaysShallow 0 atoms → Shows f atoms
    → Shows (reached_anew (edited es f)) (outputs next passed (begun es) atoms) × ((fold next (begun es) atoms).found ≡ map (λ e. found e f) es)
edit_steps es f atoms p b v x a h shown =
    let all = edit_unbounded es f atoms p b v a shown in
    let room : HasRoom 0 0 atoms = front_room f 0 0 0 atoms shown h (record { lists = omega arith; things = omega arith }) in (
      subst (λ (y : List Atom). Shows (reached_anew (edited es f)) y) (sym (same_output atoms (begun es) 0 0 (begun_fits es x) room)) all.0,
      ap (λ (s : State). s.found) (same_state atoms (begun es) 0 0 (begun_fits es x) room) ∙ all.1,
    )
