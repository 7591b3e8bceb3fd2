-- Whether a value of Specific Character Set named what is not known, over the atoms of a data set.
use Rattle.std.proofs.Common.{◌≡◌, ◌∙◌, ap, sym, subst, refl, ℕ, ◌≤◌, List, [], ◌∷◌, ◌++◌, append_assoc, map, length, Bool, true, false, Option, Some, None}
use Rattle.std.specs.Prelude.{fold, ◌||◌}
use Rattle.std.proofs.lemmas.List.Sums.{fold-append}
use Rattle.dcm_lemmas.proofs.Truth.{or_false}
use Rattle.dcm_base.specs.declared.tag.Tag.{Tag}
use Rattle.dcm_base.specs.declared.vr.Vr.{Vr}
use Rattle.dcm_base.specs.declared.dictionary.Dictionary.{Dictionary}
use Rattle.dcm_base.specs.declared.mode.Mode.{Mode}
use Rattle.dcm_base.specs.declared.length.Length.{Length}
use Rattle.dcm_base.specs.declared.length.Length.TheVariants.{Known, Undefined}
use Rattle.dcm_base.specs.declared.form.Form.{Form}
use Rattle.dcm_base.specs.declared.form.Form.TheVariants.{Value as a_value, Sequence as a_sequence, FragmentList as a_fragment_list}
use Rattle.dcm_base.specs.declared.syntax.Syntax.{Syntax}
use Rattle.dcm_base.specs.Bytes.Spelling.{form, read_as}
use Rattle.dcm_base.specs.Tree.Tree.{Trees, no_tree, leaf, sequence, fragments, Items, no_item, item}
use Rattle.dcm_base.specs.Tree.Front.{Front, front, OpenTree, nothing_open, open_leaf, open_sequence, open_fragments, OpenItem, no_open_item, open_item}
use Rattle.dcm_base.specs.Tree.Value.{order}
use Rattle.dcm_base.specs.Steps.Atoms.{Atom, opens, value_byte, closes_leaf, opens_item, closes_item, closes_sequence, opens_fragment, fragments_then, ShowTrees, ShowItems, Shows, ShowsOpen, ShowsOpenItem, open_fragment_atoms, end_atoms}
use Rattle.dcm_text.specs.declared.sets.Sets.{Sets}
use Rattle.dcm_sinks.specs.DecodedSink.{DecodedState, decoded_start, decoded_step}
use Rattle.dcm_sinks.specs.InForce.{set_by}
use Rattle.dcm_sinks.specs.SettingValue.{ForceState, force_start, force_step, opens_setting, setting_opened, entered, sets_left, around_left, with_setting}
use Rattle.dcm_sinks.specs.Unknown.{sets_unknown, unknown_in_trees, unknown_in_items, has_unknown, unknown_in_open, unknown_in_open_item}
use Rattle.dcm_sinks.proofs.DecodedDumps.Forces.{adds, kept}
use Rattle.dcm_sinks.proofs.DecodedDumps.Settings.{force_with, leaf_force, bytes_force}

-- ---- tests

one_more : (a b c : Bool) → (b || (a || c)) ≡ ((a || b) || c)
one_more true true c = refl
one_more true false c = refl
one_more false b c = refl

-- ---- states

-- from one place to another of a data set
abbrev Passes : (unknown : Bool) → Sets → List Sets → (atoms : List Atom) → (named : Bool) → (after : List Atom) → Type 0
Passes unknown sets around atoms named after =
    (next : Sets) × (outside : List Sets) × (fold force_step (force_with unknown sets around) atoms ≡ fold force_step (force_with (named || unknown) next outside) after)

-- an element that opens a list
list_opened : (unknown : Bool) (sets : Sets) (around : List Sets) (tag : Tag) (vr : Vr) (declared : Length) (s : Syntax) (f : Form) → form s (read_as s tag vr) declared ≡ f → opens_setting f tag vr ≡ false
    → force_step (force_with unknown sets around) (opens tag vr declared s) ≡ force_with unknown sets around
list_opened unknown sets around tag vr declared s f e none =
    ap (λ (x : Form). with_setting (force_with unknown sets around) (setting_opened (opens_setting x tag vr))) e
    ∙ ap (λ (t : Bool). with_setting (force_with unknown sets around) (setting_opened t)) none

one_fragment : (unknown : Bool) (sets : Sets) (around : List Sets) (v : List ℕ) (others : List Atom)
    → fold force_step (force_with unknown sets around) (opens_fragment (length v) ∷ (map value_byte v ++ closes_leaf ∷ others)) ≡ fold force_step (force_with unknown sets around) others
one_fragment unknown sets around v others =
    ap (fold force_step (force_with unknown sets around)) (sym (append_assoc (map value_byte v) (closes_leaf ∷ []) others))
    ∙ fold-append force_step (force_with unknown sets around) (map value_byte v ++ closes_leaf ∷ []) others
    ∙ ap (λ (f : ForceState). fold force_step f others) (bytes_force unknown sets around v)

fragments_passed : (unknown : Bool) (sets : Sets) (around : List Sets) (values : List (List ℕ)) (others : List Atom)
    → fold force_step (force_with unknown sets around) (fragments_then values others) ≡ fold force_step (force_with unknown sets around) others
unfolding fragments_then
fragments_passed unknown sets around [] others = refl
fragments_passed unknown sets around (value ∷ rest) others = one_fragment unknown sets around value (fragments_then rest others) ∙ fragments_passed unknown sets around rest others

one_leaf : (unknown : Bool) (sets : Sets) (around : List Sets) (tag : Tag) (vr : Vr) (value : List ℕ) (s : Syntax) (others : List Atom) → form s (read_as s tag vr) (Known (length value)) ≡ a_value
    → fold force_step (force_with unknown sets around) (opens tag vr (Known (length value)) s ∷ (map value_byte (order s vr value) ++ closes_leaf ∷ others))
    ≡ fold force_step (force_with (sets_unknown tag vr value || unknown) (set_by tag vr value sets) around) others
one_leaf unknown sets around tag vr value s others e =
    let head : Atom = opens tag vr (Known (length value)) s in
    let bytes : List Atom = map value_byte (order s vr value) in
    ap (λ (xs : List Atom). fold force_step (force_with unknown sets around) (head ∷ xs)) (sym (append_assoc bytes (closes_leaf ∷ []) others))
    ∙ fold-append force_step (force_with unknown sets around) (head ∷ (bytes ++ closes_leaf ∷ [])) others
    ∙ ap (λ (f : ForceState). fold force_step f others) (leaf_force unknown sets around tag vr value s e)

-- ---- a data set

-- one part and another
then_passes : (unknown : Bool) (sets : Sets) (around : List Sets) (first second : Bool) (atoms after : List Atom) (next : Sets) (outside : List Sets) (others : List Atom)
    → fold force_step (force_with unknown sets around) atoms ≡ fold force_step (force_with (first || unknown) next outside) others
    → Passes (first || unknown) next outside others second after → Passes unknown sets around atoms (first || second) after
then_passes unknown sets around first second atoms after next outside others e more =
    (more.0, more.1, e ∙ more.2 ∙ ap (λ (t : Bool). fold force_step (force_with t more.0 more.1) after) (one_more first second unknown))

mutual
  unfolding ShowTrees unknown_in_trees

  trees_passed : (unknown : Bool) (sets : Sets) (around : List Sets) (x : Trees) (atoms after : List Atom) → ShowTrees x atoms after → Passes unknown sets around atoms (unknown_in_trees x) after
  trees_passed unknown sets around no_tree atoms after w = (sets, around, ap (fold force_step (force_with unknown sets around)) w)
  trees_passed unknown sets around (leaf tag vr value rest) atoms after w =
      then_passes unknown sets around (sets_unknown tag vr value) (unknown_in_trees rest) atoms after (set_by tag vr value sets) around w.1
      (ap (fold force_step (force_with unknown sets around)) w.3 ∙ one_leaf unknown sets around tag vr value w.0 w.1 w.2)
      (trees_passed (sets_unknown tag vr value || unknown) (set_by tag vr value sets) around rest w.1 after w.4)
  trees_passed unknown sets around (sequence tag vr declared items rest) atoms after w =
      let within = items_passed unknown sets around items w.1 (closes_sequence ∷ w.2) w.5 in
      then_passes unknown sets around (unknown_in_items items) (unknown_in_trees rest) atoms after within.0 within.1 w.2
      (ap (fold force_step (force_with unknown sets around)) w.4
      ∙ ap (λ (f : ForceState). fold force_step f w.1) (list_opened unknown sets around tag vr declared w.0 a_sequence w.3 refl)
      ∙ within.2)
      (trees_passed (unknown_in_items items || unknown) within.0 within.1 rest w.2 after w.6)
  trees_passed unknown sets around (fragments tag vr values rest) atoms after w =
      let contents : List Atom = fragments_then values (closes_sequence ∷ w.1) in
      let more = trees_passed unknown sets around rest w.1 after w.4 in (
        more.0,
        more.1,
        ap (fold force_step (force_with unknown sets around)) w.3
            ∙ ap (λ (f : ForceState). fold force_step f contents) (list_opened unknown sets around tag vr Undefined w.0 a_fragment_list w.2 refl)
            ∙ fragments_passed unknown sets around values (closes_sequence ∷ w.1)
            ∙ more.2,
      )

  items_passed : (unknown : Bool) (sets : Sets) (around : List Sets) (x : Items) (atoms after : List Atom) → ShowItems x atoms after → Passes unknown sets around atoms (unknown_in_items x) after
  items_passed unknown sets around no_item atoms after w = (sets, around, ap (fold force_step (force_with unknown sets around)) w)
  items_passed unknown sets around (item declared set rest) atoms after w =
      let within = trees_passed unknown sets (entered sets around) set w.0 (closes_item ∷ w.1) w.3 in
      let outside : List Sets = around_left within.1 in
      let next : Sets = sets_left within.0 within.1 in
      then_passes unknown sets around (unknown_in_trees set) (unknown_in_items rest) atoms after next outside w.1
      (ap (fold force_step (force_with unknown sets around)) w.2 ∙ within.2)
      (items_passed (unknown_in_trees set || unknown) next outside rest w.1 after w.4)

-- ---- what stands open

-- bytes of a value that is not whole
bytes_passed : (f : ForceState) (v : List ℕ) → (fold force_step f (map value_byte v)).unknown ≡ f.unknown
bytes_passed f v = sym (ap (λ (x : ForceState). x.unknown) (adds f v))

ends_passed : (f : ForceState) (closed : Bool) → (fold force_step f (end_atoms closed)).unknown ≡ f.unknown
ends_passed f true = refl
ends_passed f false = refl

open_fragment_passed : (f : ForceState) (last : Option (ℕ × List ℕ)) → (fold force_step f (open_fragment_atoms last)).unknown ≡ f.unknown
open_fragment_passed f None = refl
open_fragment_passed f (Some fragment) = bytes_passed f fragment.1

mutual
  unfolding Shows has_unknown

  front_passed : (unknown : Bool) (sets : Sets) (around : List Sets) (f : Front) (atoms : List Atom) → Shows f atoms → (fold force_step (force_with unknown sets around) atoms).unknown ≡ (has_unknown f || unknown)
  front_passed unknown sets around (front whole open_tree reached closed) atoms w =
      let first = trees_passed unknown sets around whole atoms w.0 w.1 in
      ap (λ (x : ForceState). x.unknown) first.2
      ∙ open_passed (unknown_in_trees whole || unknown) first.0 first.1 open_tree closed w.0 w.2
      ∙ one_more (unknown_in_trees whole) (unknown_in_open open_tree) unknown

  open_passed : (unknown : Bool) (sets : Sets) (around : List Sets) (o : OpenTree) (closed : Bool) (atoms : List Atom) → ShowsOpen o (end_atoms closed) atoms → (fold force_step (force_with unknown sets around) atoms).unknown ≡ (unknown_in_open o || unknown)
  open_passed unknown sets around nothing_open closed atoms w =
      ap (λ (xs : List Atom). (fold force_step (force_with unknown sets around) xs).unknown) w ∙ ends_passed (force_with unknown sets around) closed
  open_passed unknown sets around (open_leaf tag vr size value) closed atoms w =
      ap (λ (xs : List Atom). (fold force_step (force_with unknown sets around) xs).unknown) w.3
      ∙ bytes_passed (force_step (force_with unknown sets around) (opens tag vr (Known size) w.0)) (order w.0 vr value)
  open_passed unknown sets around (open_sequence tag vr declared items last) closed atoms w =
      let within = items_passed unknown sets around items w.1 w.2 w.5 in
      ap (λ (xs : List Atom). (fold force_step (force_with unknown sets around) xs).unknown) w.4
      ∙ ap (λ (f : ForceState). (fold force_step f w.1).unknown) (list_opened unknown sets around tag vr declared w.0 a_sequence w.3 refl)
      ∙ ap (λ (x : ForceState). x.unknown) within.2
      ∙ open_item_passed (unknown_in_items items || unknown) within.0 within.1 last w.2 w.6
      ∙ one_more (unknown_in_items items) (unknown_in_open_item last) unknown
  open_passed unknown sets around (open_fragments tag vr values last) closed atoms w =
      let contents : List Atom = fragments_then values (open_fragment_atoms last) in
      ap (λ (xs : List Atom). (fold force_step (force_with unknown sets around) xs).unknown) w.3
      ∙ ap (λ (f : ForceState). (fold force_step f contents).unknown) (list_opened unknown sets around tag vr Undefined w.0 a_fragment_list w.1 refl)
      ∙ ap (λ (x : ForceState). x.unknown) (fragments_passed unknown sets around values (open_fragment_atoms last))
      ∙ open_fragment_passed (force_with unknown sets around) last

  open_item_passed : (unknown : Bool) (sets : Sets) (around : List Sets) (o : OpenItem) (atoms : List Atom) → ShowsOpenItem o atoms → (fold force_step (force_with unknown sets around) atoms).unknown ≡ (unknown_in_open_item o || unknown)
  open_item_passed unknown sets around no_open_item atoms w = ap (λ (xs : List Atom). (fold force_step (force_with unknown sets around) xs).unknown) w
  open_item_passed unknown sets around (open_item declared set) atoms w =
      ap (λ (xs : List Atom). (fold force_step (force_with unknown sets around) xs).unknown) w.1
      ∙ front_passed unknown sets (entered sets around) set w.0 w.3

-- ---- a dump

force_apart : (s : DecodedState) (atoms : List Atom) → (fold decoded_step s atoms).force ≡ fold force_step s.force atoms
force_apart s [] = refl
force_apart s (a ∷ atoms) = force_apart (decoded_step s a) atoms

pub unknown_told : (d : Dictionary) (mode : Mode) (f : Front) (atoms : List Atom) → Shows f atoms → (fold decoded_step (decoded_start d mode) atoms).force.unknown ≡ has_unknown f
unknown_told d mode f atoms w =
    ap (λ (x : ForceState). x.unknown) (force_apart (decoded_start d mode) atoms)
    ∙ front_passed false force_start.sets [] f atoms w
    ∙ or_false (has_unknown f)

-- by its parts
pub unknown_parts : (d : Dictionary) (mode : Mode) (whole : Trees) (o : OpenTree) (closed : Bool) (atoms others : List Atom) → ShowTrees whole atoms others → ShowsOpen o (end_atoms closed) others
    → (fold decoded_step (decoded_start d mode) atoms).force.unknown ≡ (unknown_in_trees whole || unknown_in_open o)
unknown_parts d mode whole o closed atoms others trees open_part =
    let first = trees_passed false force_start.sets [] whole atoms others trees in
    ap (λ (x : ForceState). x.unknown) (force_apart (decoded_start d mode) atoms)
    ∙ ap (λ (x : ForceState). x.unknown) first.2
    ∙ open_passed (unknown_in_trees whole || false) first.0 first.1 o closed others open_part
    ∙ one_more (unknown_in_trees whole) (unknown_in_open o) false
    ∙ or_false (unknown_in_trees whole || unknown_in_open o)
