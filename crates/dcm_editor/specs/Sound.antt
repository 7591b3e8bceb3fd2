-- What the edits ask of the open data sets, all along an input.
use Rattle.std.specs.Prelude.{List, [], ◌∷◌, ⊤}
use Rattle.std.specs.Coded.{×_prop, Unit-prop}
use Rattle.std.proofs.Math.Bool.{Bool-set}
use Rattle.dcm_edits.specs.Edit.{Edit}
use Rattle.dcm_editor.specs.declared.editor.Editor.{Editor}
use Rattle.dcm_editor.specs.EditSink.{Level, State}
use Rattle.dcm_editor.specs.Editing as editing
use Rattle.dcm_editor.specs.Masks as masks
use Rattle.dcm_edits.specs.Overlap.{ApartFrom, AreApart, ArePublic}

-- it is apart in each of them, and names no tag of an odd group
abbrev pub AreSound : List Level → Type 0
AreSound [] = ⊤
AreSound (level ∷ outer) = (AreApart level.edits × ArePublic level.edits) × AreSound outer

abbrev pub IsSound : State → Type 0
IsSound s = AreSound (s.level ∷ s.outer)

-- the same of the edits of a command line, as an editor holds their state
abbrev pub IsSoundAt : List Edit → Editor → Type 0
IsSoundAt edits e = IsSound (masks.meant edits (editing.state e))

-- each of these facts has one proof
apart_from_prop : (e : Edit) (es : List Edit) → IsProp (ApartFrom e es)
apart_from_prop e [] = Unit-prop
apart_from_prop e (later ∷ es) = ×_prop (Bool-set _ _) (apart_from_prop e es)

apart_prop : (es : List Edit) → IsProp (AreApart es)
apart_prop [] = Unit-prop
apart_prop (e ∷ es) = ×_prop (apart_from_prop e es) (apart_prop es)

public_prop : (es : List Edit) → IsProp (ArePublic es)
public_prop [] = Unit-prop
public_prop (e ∷ es) = ×_prop (Bool-set _ _) (public_prop es)

sound_prop : (levels : List Level) → IsProp (AreSound levels)
sound_prop [] = Unit-prop
sound_prop (level ∷ outer) = ×_prop (×_prop (apart_prop level.edits) (public_prop level.edits)) (sound_prop outer)

pub IsSound-prop : (s : State) → IsProp (IsSound s)
IsSound-prop s = sound_prop (s.level ∷ s.outer)

pub IsSoundAt-prop : (edits : List Edit) (e : Editor) → IsProp (IsSoundAt edits e)
IsSoundAt-prop edits e = IsSound-prop (masks.meant edits (editing.state e))
