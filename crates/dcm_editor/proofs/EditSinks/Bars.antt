-- The sink knows the last tag of the innermost open data set.
use Rattle.std.proofs.Common.{◌≡◌, ℕ, suc, List, [], ◌∷◌, Option, Some, None, Bool, true, false, refl, sym, ◌∙◌, ap, arith, cond}
use Rattle.std.specs.Prelude.{map, fold, option_map}
use Rattle.dcm_base.specs.declared.tag.Tag.{Tag}
use Rattle.dcm_base.specs.declared.vr.Vr.{Vr}
use Rattle.dcm_base.specs.declared.length.Length.{Length}
use Rattle.dcm_base.specs.declared.fault.Fault.{Fault}
use Rattle.dcm_base.specs.declared.fault.Fault.TheVariants.{NotAscending}
use Rattle.dcm_base.specs.Tree.Front.{Front, front, OpenTree, nothing_open, open_leaf, open_sequence, open_fragments, OpenItem, no_open_item, open_item}
use Rattle.dcm_base.specs.Tree.Tree.{Trees}
use Rattle.dcm_base.specs.Tables.Tag.{is_above}
use Rattle.dcm_base.specs.Reading.Bars.{innermost_reached, reached_in_tree, reached_in_item, ascending_bar}
use Rattle.dcm_base.specs.Bytes.Spelling.{last_tag, reached_tag}
use Rattle.dcm_base.specs.Tree.Value.{order}
use Rattle.dcm_base.specs.Steps.Atoms.{Atom, value_byte, open_fragment_atoms, end_atoms, Shows, ShowsOpen, ShowsOpenItem}
use Rattle.dcm_stream.specs.Judging.{fault_of}
use Rattle.dcm_stream.specs.declared.token.Bar.{Bar as SinkBar}
use Rattle.dcm_stream.specs.declared.token.Bar.TheVariants.{Order}
use Rattle.dcm_stream.specs.Driven.{bars_by}
use Rattle.dcm_sinks.specs.Laws.{StaysShallow}
use Rattle.dcm_edits.specs.Edit.{Edit, element_of}
use Rattle.dcm_edits.specs.Together.{all_within}
use Rattle.dcm_editor.specs.EditSink.{Level, State, has_place, begun, next, edit_bar}
use Rattle.dcm_edits.specs.Bounds.{HaveShortIndexes}
use Rattle.dcm_editor.proofs.EditSinks.Unbounded.{next_unbounded}
use Rattle.dcm_editor.proofs.EditSinks.Runs.{at, level, fold_fragments, fold_trees, fold_items}
use Rattle.dcm_editor.proofs.EditSinks.Bounds.{HasRoom, same_state}
use Rattle.dcm_editor.proofs.EditSinks.Rooms.{front_room}
use Rattle.dcm_editor.proofs.EditSinks.Law.{begun_fits}

abbrev last_of : State → Option Tag
last_of s = s.level.last

value_keeps : (u : List ℕ) (t : State) → last_of (fold next_unbounded t (map value_byte u)) ≡ last_of t
value_keeps [] t = refl
value_keeps (b ∷ u) t = value_keeps u t

fragment_keeps : (l : Option (ℕ × List ℕ)) (t : State) → last_of (fold next_unbounded t (open_fragment_atoms l)) ≡ last_of t
fragment_keeps None t = refl
fragment_keeps (Some f) t = value_keeps f.1 _

mutual
  unfolding Shows innermost_reached

  last_front : (f : Front) (es : List Edit) (up : List Level) (d : ℕ) (bs : List Bool) (atoms : List Atom) → Shows f atoms
      → last_of (fold next_unbounded (at es None 0 up d bs) atoms) ≡ innermost_reached f
  last_front (front whole o r c) es up d bs atoms (others, shown, more, may, re) =
      ap last_of (fold_trees whole es None 0 up d bs atoms others shown)
      ∙ last_open o es whole _ up d _ c others more
      ∙ ap (λ (x : Option Tag). reached_in_tree x o) (sym re)

  last_open : (o : OpenTree) (es : List Edit) (whole : Trees) (n : ℕ) (up : List Level) (d : ℕ) (bs : List Bool) (c : Bool) (atoms : List Atom) → ShowsOpen o (end_atoms c) atoms
      → last_of (fold next_unbounded (at es (last_tag None whole) n up d bs) atoms) ≡ reached_in_tree (reached_tag whole o) o
  last_open nothing_open es whole n up d bs false atoms p = ap (λ (x : List Atom). last_of (fold next_unbounded (at es (last_tag None whole) n up d bs) x)) p
  last_open nothing_open es whole n up d bs true atoms p = ap (λ (x : List Atom). last_of (fold next_unbounded (at es (last_tag None whole) n up d bs) x)) p
  last_open (open_leaf tag vr size value) es whole n up d bs c atoms (s, fo, le, is) =
      ap (λ (x : List Atom). last_of (fold next_unbounded (at es (last_tag None whole) n up d bs) x)) is ∙ value_keeps (order s vr value) _
  last_open (open_sequence tag vr declared items last') es whole n up d bs c atoms (s, contents, others, fo, is, inner, more) =
      ap (λ (x : List Atom). last_of (fold next_unbounded (at es (last_tag None whole) n up d bs) x)) is
      ∙ ap last_of (fold_items items es tag 0 up _ _ contents others inner)
      ∙ last_item last' es tag _ up _ _ others more
  last_open (open_fragments tag vr values last') es whole n up d bs c atoms (s, fo, mi, is) =
      ap (λ (x : List Atom). last_of (fold next_unbounded (at es (last_tag None whole) n up d bs) x)) is
      ∙ ap last_of (fold_fragments values es (Some tag) 0 up _ _ (open_fragment_atoms last'))
      ∙ fragment_keeps last' _

  last_item : (o : OpenItem) (es : List Edit) (tag : Tag) (n : ℕ) (up : List Level) (d : ℕ) (bs : List Bool) (atoms : List Atom) → ShowsOpenItem o atoms
      → last_of (fold next_unbounded (at es (Some tag) n up d bs) atoms) ≡ reached_in_item (Some tag) o
  last_item no_open_item es tag n up d bs atoms p = ap (λ (x : List Atom). last_of (fold next_unbounded (at es (Some tag) n up d bs) x)) p
  last_item (open_item declared set) es tag n up d bs atoms (contents, is, still, more) =
      ap (λ (x : List Atom). last_of (fold next_unbounded (at es (Some tag) n up d bs) x)) is
      ∙ last_front set (all_within es tag n) (level es (Some tag) (suc n) ∷ up) _ _ contents more

pub last_is : (es : List Edit) (f : Front) (atoms : List Atom) → HaveShortIndexes es → StaysShallow 0 atoms → Shows f atoms → (fold next (begun es) atoms).level.last ≡ innermost_reached f
last_is es f atoms x h shown =
    let room : HasRoom 0 0 atoms = front_room f 0 0 0 atoms shown h (record { lists = omega arith; things = omega arith }) in
    ap last_of (same_state atoms (begun es) 0 0 (begun_fits es x) room)
    ∙ last_front f es [] 0 (map (λ e. has_place (element_of e)) es) atoms shown

by_test : (b : Bool) → option_map fault_of (cond {A = Option SinkBar} b None (Some Order)) ≡ cond {A = Option Fault} b None (Some NotAscending)
by_test true = refl
by_test false = refl

-- the law
pub bar_steps : (es : List Edit) (f : Front) (atoms : List Atom) (tag : Tag) (vr : Vr) (declared : Length) → HaveShortIndexes es → StaysShallow 0 atoms → Shows f atoms
    → bars_by edit_bar next (begun es) atoms tag vr declared ≡ ascending_bar f tag vr declared
bar_steps es f atoms tag vr declared x h shown =
    by_test (is_above tag (fold next (begun es) atoms).level.last)
    ∙ ap (λ (l : Option Tag). cond {A = Option Fault} (is_above tag l) None (Some NotAscending)) (last_is es f atoms x h shown)
