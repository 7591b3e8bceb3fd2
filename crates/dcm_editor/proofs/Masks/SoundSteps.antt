-- What the edits ask stays sound at each step.
use Rattle.std.proofs.Common.{List, [], ◌∷◌, length, fold, Option, Some, None, Bool, true, false}
use Rattle.std.specs.Prelude.{nat_lt, if◌then◌else◌}
use Rattle.dcm_base.specs.declared.tag.Tag.{Tag}
use Rattle.dcm_base.specs.Steps.Atoms.{Atom, opens, value_byte, closes_leaf, opens_item, closes_item, closes_sequence, opens_fragment, ends}
use Rattle.dcm_edits.specs.Edit.{Edit}
use Rattle.dcm_editor.specs.EditSink.{Level, State, MOST_AROUND, begun, next, in_item, item_in, after_item}
use Rattle.dcm_edits.specs.Overlap.{AreApart, ArePublic}
use Rattle.dcm_editor.specs.Sound.{AreSound, IsSound}
use Rattle.dcm_edits.proofs.Overlapping.Items.{all_within_all_apart, all_within_public}

pub sound_begun : (es : List Edit) → AreApart es → ArePublic es → IsSound (begun es)
sound_begun es a p = ((a, p), tt)

entered : (s : State) (tag : Tag) → IsSound s → IsSound (in_item s tag)
entered s tag h = ((all_within_all_apart s.level.edits tag s.level.count h.0.0, all_within_public s.level.edits tag s.level.count h.0.1), (h.0, h.1))

in_or_not : (b : Bool) (s : State) (tag : Tag) → IsSound s → IsSound (if b then in_item s tag else s)
in_or_not true s tag h = entered s tag h
in_or_not false s tag h = h

item : (s : State) (last : Option Tag) → IsSound s → IsSound (item_in s last)
item s None h = h
item s (Some tag) h = in_or_not (nat_lt (length s.outer) MOST_AROUND) s tag h

left : (s : State) (outer : List Level) → AreApart s.level.edits × ArePublic s.level.edits → AreSound outer → IsSound (after_item s outer)
left s [] here h = (here, tt)
left s (level ∷ outer) here h = h

pub sound_next : (s : State) (a : Atom) → IsSound s → IsSound (next s a)
sound_next s (opens tag vr declared syntax) h = h
sound_next s (value_byte byte) h = h
sound_next s closes_leaf h = h
sound_next s (opens_item declared) h = item s s.level.last h
sound_next s closes_item h = left s s.outer h.0 h.1
sound_next s closes_sequence h = h
sound_next s (opens_fragment size) h = h
sound_next s ends h = h

pub sound_fold : (s : State) (atoms : List Atom) → IsSound s → IsSound (fold next s atoms)
sound_fold s [] h = h
sound_fold s (a ∷ atoms) h = sound_fold (next s a) atoms (sound_next s a h)
