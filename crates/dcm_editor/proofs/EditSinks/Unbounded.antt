-- The sink's steps without bounds: any number of levels, and counts of any size.
use Rattle.std.specs.Prelude.{ℕ, zero, suc, Option, Some, None, Bool, false, ◌||◌, map, if◌then◌else◌, ◌∷◌}
use Rattle.dcm_base.specs.declared.tag.Tag.{Tag}
use Rattle.dcm_base.specs.Steps.Atoms.{Atom, opens, value_byte, closes_leaf, opens_item, closes_item, closes_sequence, opens_fragment, ends}
use Rattle.dcm_edits.specs.Edit.{fate, acts, element_of}
use Rattle.dcm_edits.specs.Together.{first_fate, any_erases, all_within}
use Rattle.dcm_edits.specs.NewOnes.{is_between}
use Rattle.dcm_editor.specs.EditSink.{Level, State, new_level, makes, dropped_after_end, either, at_head, found_by_item, found_at_end, after_item}

abbrev pub dropped_unbounded : ℕ → Bool → ℕ
dropped_unbounded zero is_dropped = if is_dropped then 1 else 0
dropped_unbounded (suc n) is_dropped = suc (suc n)

abbrev pub one_more_unbounded : Level → Level
one_more_unbounded level = record { edits = level.edits; last = level.last; count = suc level.count }

abbrev pub item_unbounded : State → Option Tag → State
item_unbounded s None = s
item_unbounded s (Some tag) = record {
  level = new_level (all_within s.level.edits tag s.level.count);
  outer = one_more_unbounded s.level ∷ s.outer;
  dropped = dropped_unbounded s.dropped (any_erases s.level.edits tag s.level.count);
  found = either s.found (found_by_item s.level tag);
}

abbrev pub head_unbounded : State → Tag → State
head_unbounded s tag = record {
  level = at_head tag s.level;
  outer = s.outer;
  dropped = dropped_unbounded s.dropped (acts (first_fate s.level.edits tag));
  found = either s.found (map (λ e. acts (fate e tag) || makes (is_between s.level.last tag) (element_of e)) s.level.edits);
}

abbrev pub next_unbounded : State → Atom → State
next_unbounded s (opens tag vr declared syntax) = head_unbounded s tag
next_unbounded s (value_byte byte) = s
next_unbounded s closes_leaf = record { level = s.level; outer = s.outer; dropped = dropped_after_end s.dropped; found = s.found }
next_unbounded s (opens_item declared) = item_unbounded s s.level.last
next_unbounded s closes_item = after_item s s.outer
next_unbounded s closes_sequence = record { level = s.level; outer = s.outer; dropped = dropped_after_end s.dropped; found = s.found }
next_unbounded s (opens_fragment size) = record { level = s.level; outer = s.outer; dropped = dropped_unbounded s.dropped false; found = s.found }
next_unbounded s ends = record { level = s.level; outer = s.outer; dropped = s.dropped; found = found_at_end s }
