-- All that is named is found, and nothing else.
use Rattle.std.proofs.Common.{◌≡◌, ◌∙◌, refl, ap, sym, subst, ℕ, ◌+◌, List, [], ◌∷◌, ◌++◌, flat_map, get_or, Bool, true, false, append_assoc, arith}
use Rattle.std.specs.Prelude.{Option, not, ◌&&◌, ◌||◌, if◌then◌else◌}
use Rattle.std.specs.List.{All, list_any}
use Rattle.std.proofs.lemmas.List.{append-nil}
use Rattle.std.proofs.lemmas.List.Elements.{All-append, All-cons, All-nil}
use Rattle.std.proofs.lemmas.Grind.{flat_map-append}
use Rattle.dcm_base.specs.declared.tag.Tag.{Tag}
use Rattle.dcm_base.specs.declared.vr.Vr.{Vr}
use Rattle.dcm_base.specs.declared.length.Length.{Length}
use Rattle.dcm_base.specs.declared.length.Length.TheVariants.{Undefined}
use Rattle.dcm_base.specs.declared.dictionary.Dictionary.{Dictionary}
use Rattle.dcm_base.specs.declared.mode.Mode.{Mode}
use Rattle.dcm_base.specs.declared.mode.Mode.TheVariants.{Short, Full}
use Rattle.dcm_base.specs.Tree.Tree.{Trees, no_tree, leaf, sequence, fragments, Items, no_item, item}
use Rattle.dcm_base.specs.Tree.Front.{Front, front, OpenTree, nothing_open, open_leaf, open_sequence, open_fragments, OpenItem, no_open_item, open_item}
use Rattle.dcm_base.specs.Dump.Dump.{dump_set, dump_items, dump_front, dump_open_item, open_line, leaf_line, fragment_lines, sequence_line, sequence_end_line, item_line, item_end_line}
use Rattle.dcm_text.specs.declared.sets.Sets.{Sets}
use Rattle.dcm_sinks.specs.DecodedDump.{decoded_set, decoded_items, decoded_line, decoded_front, decoded_open_item}
use Rattle.dcm_sinks.specs.InForce.{EMPTY, set_by, sets_after}
use Rattle.dcm_sinks.specs.DecodedHeader.{decoded_set_header}
use Rattle.dcm_base.specs.Dump.Header.{set_header}
use Rattle.dcm_named.specs.Named.{Asked, Texts, by_bytes, by_characters, is_named, way_text, way_by, lines_of, lines_by, piece, named_set, named_items}
use Rattle.dcm_named.specs.Named.{open_lines_by, open_lines_of, open_piece, named_front, named_open, named_open_item}
use Rattle.dcm_named.specs.Found.{Spot, spot, open_spot, spots, spots_of_items, front_spots, open_spots, open_item_spots, own_lines, own_piece, IsPart}
use Rattle.dcm_named.specs.Found.{file_dump, header_before, header_between, IsWithoutHeader}
use Rattle.dcm_named.specs.Found.{lines_at_by, open_lines_at_by, front_lines_at_by, IsFound, IsDumped, all_named, open_named, front_named}

-- ---- parts

part_of_all : (x : List ℕ) → IsPart x x
part_of_all x = record { front = []; behind = []; split = sym (append-nil x) }

part_within : (x y a b : List ℕ) → IsPart x y → IsPart x (a ++ (y ++ b))
part_within x y a b p = record {
  front = a ++ p.front;
  behind = p.behind ++ b;
  split = ap (λ (z : List ℕ). a ++ (z ++ b)) p.split ∙ regroup a p.front x p.behind b;
}
  where
    regroup : (a f x k b : List ℕ) → a ++ ((f ++ (x ++ k)) ++ b) ≡ (a ++ f) ++ (x ++ (k ++ b))
    regroup a f x k b = simp append_assoc

part_then : (x y b : List ℕ) → IsPart x y → IsPart x (y ++ b)
part_then x y b p = part_within x y [] b p

part_behind : (x y a : List ℕ) → IsPart x y → IsPart x (a ++ y)
part_behind x y a p = subst (λ (z : List ℕ). IsPart x (a ++ z)) (append-nil y) (part_within x y a [] p)

part_as : (x y z : List ℕ) → y ≡ z → IsPart x y → IsPart x z
part_as x y z e p = subst (IsPart x) e p

all_also : {X : Type 0} (P Q : X → Type 0) (xs : List X) → ((x : X) → P x → Q x) → All P xs → All Q xs
all_also P Q xs f h = λ k d le. f (get_or xs k d) (h k d le)

-- ---- the lines of a data set in parts

abbrev items_at_by : Texts → Dictionary → Mode → Sets → ℕ → Items → List ℕ
items_at_by by_bytes d mode sets level x = dump_items d mode level x
items_at_by by_characters d mode sets level x = decoded_items d mode sets level x

leaf_lines : (texts : Texts) (d : Dictionary) (mode : Mode) (sets : Sets) (level : ℕ) (tag : Tag) (vr : Vr) (value : List ℕ) (rest : Trees)
    → lines_at_by texts d mode sets level (leaf tag vr value rest) ≡ lines_at_by texts d mode sets level (leaf tag vr value no_tree) ++ lines_at_by texts d mode (set_by tag vr value sets) level rest
unfolding dump_set decoded_set
leaf_lines by_bytes d mode sets level tag vr value rest = ap (λ (z : List ℕ). z ++ dump_set d mode level rest) (sym (append-nil (leaf_line d mode level tag vr value)))
leaf_lines by_characters d mode sets level tag vr value rest = ap (λ (z : List ℕ). z ++ decoded_set d mode (set_by tag vr value sets) level rest) (sym (append-nil (decoded_line d mode sets level tag vr value)))

sequence_lines : (texts : Texts) (d : Dictionary) (mode : Mode) (sets : Sets) (level : ℕ) (tag : Tag) (vr : Vr) (size : Length) (items : Items) (rest : Trees)
    → lines_at_by texts d mode sets level (sequence tag vr size items rest) ≡ lines_at_by texts d mode sets level (sequence tag vr size items no_tree) ++ lines_at_by texts d mode sets level rest
unfolding dump_set decoded_set
sequence_lines by_bytes d mode sets level tag vr size items rest = ap (λ (z : List ℕ). z ++ dump_set d mode level rest) (sym (append-nil ((sequence_line d level tag vr size ++ dump_items d mode (level + 1) items) ++ sequence_end_line d level size)))
sequence_lines by_characters d mode sets level tag vr size items rest = ap (λ (z : List ℕ). z ++ decoded_set d mode sets level rest) (sym (append-nil ((sequence_line d level tag vr size ++ decoded_items d mode sets (level + 1) items) ++ sequence_end_line d level size)))

fragments_lines : (texts : Texts) (d : Dictionary) (mode : Mode) (sets : Sets) (level : ℕ) (tag : Tag) (vr : Vr) (values : List (List ℕ)) (rest : Trees)
    → lines_at_by texts d mode sets level (fragments tag vr values rest) ≡ lines_at_by texts d mode sets level (fragments tag vr values no_tree) ++ lines_at_by texts d mode sets level rest
unfolding dump_set decoded_set
fragments_lines by_bytes d mode sets level tag vr values rest = ap (λ (z : List ℕ). z ++ dump_set d mode level rest) (sym (append-nil (fragment_lines d mode level tag vr values ++ sequence_end_line d level Undefined)))
fragments_lines by_characters d mode sets level tag vr values rest = ap (λ (z : List ℕ). z ++ decoded_set d mode sets level rest) (sym (append-nil (fragment_lines d mode level tag vr values ++ sequence_end_line d level Undefined)))

part_second : (x a y b c : List ℕ) → IsPart x y → IsPart x (((a ++ y) ++ b) ++ c)
part_second x a y b c p = part_as x _ _ (regroup a y b c) (part_within x y a (b ++ c) p)
  where
    regroup : (a y b c : List ℕ) → a ++ (y ++ (b ++ c)) ≡ ((a ++ y) ++ b) ++ c
    regroup a y b c = simp append_assoc

-- what lies in a sequence
items_in_sequence : (texts : Texts) (d : Dictionary) (mode : Mode) (sets : Sets) (level : ℕ) (tag : Tag) (vr : Vr) (size : Length) (items : Items) (x : List ℕ)
    → IsPart x (items_at_by texts d mode sets (level + 1) items) → IsPart x (lines_at_by texts d mode sets level (sequence tag vr size items no_tree))
unfolding dump_set decoded_set
items_in_sequence by_bytes d mode sets level tag vr size items x p = part_second x (sequence_line d level tag vr size) (dump_items d mode (level + 1) items) (sequence_end_line d level size) [] p
items_in_sequence by_characters d mode sets level tag vr size items x p = part_second x (sequence_line d level tag vr size) (decoded_items d mode sets (level + 1) items) (sequence_end_line d level size) [] p

-- and in an item
set_in_items : (texts : Texts) (d : Dictionary) (mode : Mode) (sets : Sets) (level : ℕ) (size : Length) (set : Trees) (rest : Items) (x : List ℕ)
    → IsPart x (lines_at_by texts d mode sets (level + 1) set) → IsPart x (items_at_by texts d mode sets level (item size set rest))
unfolding dump_set decoded_set
set_in_items by_bytes d mode sets level size set rest x p = part_second x (item_line d level size) (dump_set d mode (level + 1) set) (item_end_line d level size) (dump_items d mode level rest) p
set_in_items by_characters d mode sets level size set rest x p = part_second x (item_line d level size) (decoded_set d mode sets (level + 1) set) (item_end_line d level size) (decoded_items d mode sets level rest) p

rest_in_items : (texts : Texts) (d : Dictionary) (mode : Mode) (sets : Sets) (level : ℕ) (size : Length) (set : Trees) (rest : Items) (x : List ℕ)
    → IsPart x (items_at_by texts d mode sets level rest) → IsPart x (items_at_by texts d mode sets level (item size set rest))
unfolding dump_set decoded_set
rest_in_items by_bytes d mode sets level size set rest x p = part_behind x (dump_items d mode level rest) ((item_line d level size ++ dump_set d mode (level + 1) set) ++ item_end_line d level size) p
rest_in_items by_characters d mode sets level size set rest x p = part_behind x (decoded_items d mode sets level rest) ((item_line d level size ++ decoded_set d mode sets (level + 1) set) ++ item_end_line d level size) p

lines_are : (texts : Texts) (d : Dictionary) (mode : Mode) (sets : Sets) (x : Trees) → lines_at_by texts d mode sets 0 x ≡ lines_by texts d mode sets x
lines_are by_bytes d mode sets x = refl
lines_are by_characters d mode sets x = refl

lines_none : (texts : Texts) (d : Dictionary) (mode : Mode) (sets : Sets) → [] ≡ lines_by texts d mode sets no_tree
unfolding dump_set decoded_set
lines_none by_bytes d mode sets = refl
lines_none by_characters d mode sets = refl

-- ---- and of one that was read so far

abbrev open_item_at_by : Texts → Dictionary → Mode → Sets → ℕ → OpenItem → List ℕ
open_item_at_by by_bytes d mode sets level x = dump_open_item d mode level x
open_item_at_by by_characters d mode sets level x = decoded_open_item d mode sets level x

front_lines : (texts : Texts) (d : Dictionary) (mode : Mode) (sets : Sets) (level : ℕ) (read : Trees) (last : OpenTree) (reached : Option Tag) (closed : Bool)
    → front_lines_at_by texts d mode sets level (front read last reached closed) ≡ lines_at_by texts d mode sets level read ++ open_lines_at_by texts d mode (sets_after sets read) level last
unfolding dump_front decoded_front
front_lines by_bytes d mode sets level read last reached closed = refl
front_lines by_characters d mode sets level read last reached closed = refl

items_in_open : (texts : Texts) (d : Dictionary) (mode : Mode) (sets : Sets) (level : ℕ) (tag : Tag) (vr : Vr) (size : Length) (items : Items) (last : OpenItem) (x : List ℕ)
    → IsPart x (items_at_by texts d mode sets (level + 1) items) → IsPart x (open_lines_at_by texts d mode sets level (open_sequence tag vr size items last))
unfolding dump_front decoded_front
items_in_open by_bytes d mode sets level tag vr size items last x p = part_then x (sequence_line d level tag vr size ++ dump_items d mode (level + 1) items) (dump_open_item d mode (level + 1) last) (part_behind x (dump_items d mode (level + 1) items) (sequence_line d level tag vr size) p)
items_in_open by_characters d mode sets level tag vr size items last x p = part_then x (sequence_line d level tag vr size ++ decoded_items d mode sets (level + 1) items) (decoded_open_item d mode sets (level + 1) last) (part_behind x (decoded_items d mode sets (level + 1) items) (sequence_line d level tag vr size) p)

last_in_open : (texts : Texts) (d : Dictionary) (mode : Mode) (sets : Sets) (level : ℕ) (tag : Tag) (vr : Vr) (size : Length) (items : Items) (last : OpenItem) (x : List ℕ)
    → IsPart x (open_item_at_by texts d mode sets (level + 1) last) → IsPart x (open_lines_at_by texts d mode sets level (open_sequence tag vr size items last))
unfolding dump_front decoded_front
last_in_open by_bytes d mode sets level tag vr size items last x p = part_behind x (dump_open_item d mode (level + 1) last) (sequence_line d level tag vr size ++ dump_items d mode (level + 1) items) p
last_in_open by_characters d mode sets level tag vr size items last x p = part_behind x (decoded_open_item d mode sets (level + 1) last) (sequence_line d level tag vr size ++ decoded_items d mode sets (level + 1) items) p

front_in_item : (texts : Texts) (d : Dictionary) (mode : Mode) (sets : Sets) (level : ℕ) (size : Length) (f : Front) (x : List ℕ)
    → IsPart x (front_lines_at_by texts d mode sets (level + 1) f) → IsPart x (open_item_at_by texts d mode sets level (open_item size f))
unfolding dump_front decoded_front
front_in_item by_bytes d mode sets level size f x p = part_behind x (dump_front d mode (level + 1) f) (item_line d level size) p
front_in_item by_characters d mode sets level size f x p = part_behind x (decoded_front d mode sets (level + 1) f) (item_line d level size) p

open_lines_are : (texts : Texts) (d : Dictionary) (mode : Mode) (sets : Sets) (x : OpenTree) → open_lines_at_by texts d mode sets 0 x ≡ open_lines_by texts d mode sets x
open_lines_are by_bytes d mode sets x = refl
open_lines_are by_characters d mode sets x = refl

open_none : (texts : Texts) (d : Dictionary) (mode : Mode) (sets : Sets) → [] ≡ open_lines_by texts d mode sets nothing_open
unfolding dump_front decoded_front
open_none by_bytes d mode sets = refl
open_none by_characters d mode sets = refl

-- the line of a value that is cut, after a way or after none
cut_after : (texts : Texts) (d : Dictionary) (mode : Mode) (sets : Sets) (tag : Tag) (vr : Vr) (size : ℕ) (value way : List ℕ)
    → IsPart (open_lines_at_by texts d mode sets 0 (open_leaf tag vr size value)) (open_line mode way (open_lines_by texts d mode sets (open_leaf tag vr size value)))
unfolding dump_front decoded_front
cut_after by_bytes d Short sets tag vr size value way = part_of_all []
cut_after by_characters d Short sets tag vr size value way = part_of_all []
cut_after by_bytes d Full sets tag vr size value way = part_behind _ (open_lines_by by_bytes d Full sets (open_leaf tag vr size value)) way (part_of_all _)
cut_after by_characters d Full sets tag vr size value way = part_behind _ (open_lines_by by_characters d Full sets (open_leaf tag vr size value)) way (part_of_all _)

cut_alone : (texts : Texts) (d : Dictionary) (mode : Mode) (sets : Sets) (tag : Tag) (vr : Vr) (size : ℕ) (value way : List ℕ)
    → way ≡ [] → open_line mode way (open_lines_by texts d mode sets (open_leaf tag vr size value)) ≡ open_lines_by texts d mode sets (open_leaf tag vr size value)
unfolding dump_front decoded_front
cut_alone by_bytes d Short sets tag vr size value way e = refl
cut_alone by_characters d Short sets tag vr size value way e = refl
cut_alone by_bytes d Full sets tag vr size value way e = ap (λ (z : List ℕ). z ++ open_lines_by by_bytes d Full sets (open_leaf tag vr size value)) e
cut_alone by_characters d Full sets tag vr size value way e = ap (λ (z : List ℕ). z ++ open_lines_by by_characters d Full sets (open_leaf tag vr size value)) e

-- the dump of a file in parts
in_parts : (h s k f : List ℕ) → (((h ++ s) ++ (10 ∷ [])) ++ k) ++ f ≡ ((h ++ s) ++ (10 ∷ k)) ++ f
in_parts h s k f = simp append_assoc

file_in_parts : (texts : Texts) (d : Dictionary) (mode : Mode) (elements : Trees) (uid : List ℕ) (f : Front)
    → file_dump texts d mode elements uid f ≡ header_before texts ++ lines_by texts d mode EMPTY elements ++ header_between texts uid ++ front_lines_at_by texts d mode EMPTY 0 f
file_in_parts by_bytes d mode elements uid f = in_parts (header_before by_bytes) (dump_set d mode 0 elements) (set_header uid) (dump_front d mode 0 f)
file_in_parts by_characters d mode elements uid f = in_parts (header_before by_characters) (decoded_set d mode EMPTY 0 elements) (decoded_set_header uid) (decoded_front d mode EMPTY 0 f)

module _ (q : Asked) where
  abbrev set_lines : Sets → ℕ → Trees → List ℕ
  set_lines sets level x = lines_at_by q.texts q.dictionary q.mode sets level x

  abbrev item_lines : Sets → ℕ → Items → List ℕ
  item_lines sets level x = items_at_by q.texts q.dictionary q.mode sets level x

  -- ---- as in the dump

  abbrev Dumped : List Tag → ℕ → List ℕ → Spot → Type 0
  Dumped way level dump a = IsDumped q way level a dump

  dumped_in : (way : List Tag) (level : ℕ) (y z : List ℕ) (a : Spot) → ((x : List ℕ) → IsPart x y → IsPart x z) → Dumped way level y a → Dumped way level z a
  dumped_in way level y z a more p = record { at = p.at; deeper = p.deeper; lies = more _ p.lies }

  dumped_here : (sets : Sets) (way : List Tag) (level : ℕ) (tag : Tag) (x : Trees) (z : List ℕ) → IsPart (set_lines sets level x) z → Dumped way level z (spot sets way tag x)
  dumped_here sets way level tag x z p = record { at = level; deeper = refl; lies = p }

  deeper_way : (tag : Tag) (way : List Tag) (level : ℕ) (y z : List ℕ) (a : Spot) → ((x : List ℕ) → IsPart x y → IsPart x z) → Dumped (tag ∷ way) (level + 1 + 1) y a → Dumped way level z a
  deeper_way tag way level y z a more p = record { at = p.at; deeper = let e = p.deeper in omega (arith, e); lies = more _ p.lies }

  mutual
    unfolding spots

    pub set_dumped : (x : Trees) (sets : Sets) (way : List Tag) (level : ℕ) → All (λ a. IsDumped q way level a (set_lines sets level x)) (spots sets way x)
    set_dumped no_tree sets way level = All-nil (Dumped way level (set_lines sets level no_tree))
    set_dumped (leaf tag vr value rest) sets way level =
        let e = leaf_lines q.texts q.dictionary q.mode sets level tag vr value rest in
        let one : List ℕ = set_lines sets level (leaf tag vr value no_tree) in
        let others : List ℕ = set_lines (set_by tag vr value sets) level rest in
        All-cons (Dumped way level (set_lines sets level (leaf tag vr value rest))) _ _
        (dumped_here sets way level tag (leaf tag vr value no_tree) _ (part_as one _ _ (sym e) (part_then one one others (part_of_all one))))
        (all_also (Dumped way level others) (Dumped way level (set_lines sets level (leaf tag vr value rest))) (spots (set_by tag vr value sets) way rest)
        (λ a p. dumped_in way level others _ a (λ x p. part_as x _ _ (sym e) (part_behind x others one p)) p)
        (set_dumped rest (set_by tag vr value sets) way level))
    set_dumped (sequence tag vr size items rest) sets way level =
        let e = sequence_lines q.texts q.dictionary q.mode sets level tag vr size items rest in
        let one : List ℕ = set_lines sets level (sequence tag vr size items no_tree) in
        let others : List ℕ = set_lines sets level rest in
        let whole : List ℕ = set_lines sets level (sequence tag vr size items rest) in
        All-cons (Dumped way level whole) _ _
        (dumped_here sets way level tag (sequence tag vr size items no_tree) _ (part_as one _ _ (sym e) (part_then one one others (part_of_all one))))
        (All-append (Dumped way level whole) (spots_of_items sets (tag ∷ way) items) (spots sets way rest)
        (all_also (Dumped (tag ∷ way) (level + 1 + 1) (item_lines sets (level + 1) items)) (Dumped way level whole) (spots_of_items sets (tag ∷ way) items)
        (λ a p. deeper_way tag way level (item_lines sets (level + 1) items) whole a
        (λ x p. part_as x _ _ (sym e) (part_then x one others (items_in_sequence q.texts q.dictionary q.mode sets level tag vr size items x p))) p)
        (items_dumped items sets (tag ∷ way) (level + 1)))
        (all_also (Dumped way level others) (Dumped way level whole) (spots sets way rest)
        (λ a p. dumped_in way level others whole a (λ x p. part_as x _ _ (sym e) (part_behind x others one p)) p)
        (set_dumped rest sets way level)))
    set_dumped (fragments tag vr values rest) sets way level =
        let e = fragments_lines q.texts q.dictionary q.mode sets level tag vr values rest in
        let one : List ℕ = set_lines sets level (fragments tag vr values no_tree) in
        let others : List ℕ = set_lines sets level rest in
        All-cons (Dumped way level (set_lines sets level (fragments tag vr values rest))) _ _
        (dumped_here sets way level tag (fragments tag vr values no_tree) _ (part_as one _ _ (sym e) (part_then one one others (part_of_all one))))
        (all_also (Dumped way level others) (Dumped way level (set_lines sets level (fragments tag vr values rest))) (spots sets way rest)
        (λ a p. dumped_in way level others _ a (λ x p. part_as x _ _ (sym e) (part_behind x others one p)) p)
        (set_dumped rest sets way level))

    -- the sets of items stand a level deeper than the items
    items_dumped : (x : Items) (sets : Sets) (way : List Tag) (level : ℕ) → All (λ a. IsDumped q way (level + 1) a (items_at_by q.texts q.dictionary q.mode sets level x)) (spots_of_items sets way x)
    items_dumped no_item sets way level = All-nil (Dumped way (level + 1) (item_lines sets level no_item))
    items_dumped (item size set rest) sets way level =
        let whole : List ℕ = item_lines sets level (item size set rest) in
        All-append (Dumped way (level + 1) whole) (spots sets way set) (spots_of_items sets way rest)
        (all_also (Dumped way (level + 1) (set_lines sets (level + 1) set)) (Dumped way (level + 1) whole) (spots sets way set)
        (λ a p. dumped_in way (level + 1) _ whole a (λ x p. set_in_items q.texts q.dictionary q.mode sets level size set rest x p) p)
        (set_dumped set sets way (level + 1)))
        (all_also (Dumped way (level + 1) (item_lines sets level rest)) (Dumped way (level + 1) whole) (spots_of_items sets way rest)
        (λ a p. dumped_in way (level + 1) _ whole a (λ x p. rest_in_items q.texts q.dictionary q.mode sets level size set rest x p) p)
        (items_dumped rest sets way level))

  -- ---- no other line

  -- in a sequence that is named nothing has lines of its own
  own_none : (a : Spot) → list_any (is_named q.tags) a.way ≡ true → own_lines q a ≡ []
  own_none a e = ap (λ (b : Bool). if (is_named q.tags a.tag && not b) then own_piece q a.sets a.way a.element else []) e ∙ never (is_named q.tags a.tag)
    where
      never : (b : Bool) → (if (b && false) then own_piece q a.sets a.way a.element else []) ≡ []
      never true = refl
      never false = refl

  own_first : (a : Spot) → list_any (is_named q.tags) a.way ≡ false → own_lines q a ≡ (if is_named q.tags a.tag then own_piece q a.sets a.way a.element else [])
  own_first a e = ap (λ (b : Bool). if (is_named q.tags a.tag && not b) then own_piece q a.sets a.way a.element else []) e ∙ always (is_named q.tags a.tag)
    where
      always : (b : Bool) → (if (b && true) then own_piece q a.sets a.way a.element else []) ≡ (if b then own_piece q a.sets a.way a.element else [])
      always true = refl
      always false = refl

  way_named : (tag : Tag) (way : List Tag) (b : Bool) → is_named q.tags tag ≡ b → list_any (is_named q.tags) way ≡ false → list_any (is_named q.tags) (tag ∷ way) ≡ b
  way_named tag way true e f = ap (λ (c : Bool). c || list_any (is_named q.tags) way) e
  way_named tag way false e f = ap (λ (c : Bool). c || list_any (is_named q.tags) way) e ∙ f

  inside_named : (tag : Tag) (way : List Tag) → list_any (is_named q.tags) way ≡ true → list_any (is_named q.tags) (tag ∷ way) ≡ true
  inside_named tag way e = ap (λ (c : Bool). is_named q.tags tag || c) e ∙ either (is_named q.tags tag)
    where
      either : (b : Bool) → (b || true) ≡ true
      either true = refl
      either false = refl

  nothing_both : (x y : List ℕ) → x ≡ [] → y ≡ [] → x ++ y ≡ []
  nothing_both x y e f = ap (λ (z : List ℕ). z ++ y) e ∙ f

  mutual
    unfolding spots

    set_none : (x : Trees) (sets : Sets) (way : List Tag) → list_any (is_named q.tags) way ≡ true → flat_map (own_lines q) (spots sets way x) ≡ []
    set_none no_tree sets way e = refl
    set_none (leaf tag vr value rest) sets way e = nothing_both _ _ (own_none (spot sets way tag (leaf tag vr value no_tree)) e) (set_none rest (set_by tag vr value sets) way e)
    set_none (sequence tag vr size items rest) sets way e =
        nothing_both _ _ (own_none (spot sets way tag (sequence tag vr size items no_tree)) e)
        (flat_map-append (own_lines q) (spots_of_items sets (tag ∷ way) items) (spots sets way rest) ∙ nothing_both _ _ (items_none items sets (tag ∷ way) (inside_named tag way e)) (set_none rest sets way e))
    set_none (fragments tag vr values rest) sets way e = nothing_both _ _ (own_none (spot sets way tag (fragments tag vr values no_tree)) e) (set_none rest sets way e)

    items_none : (x : Items) (sets : Sets) (way : List Tag) → list_any (is_named q.tags) way ≡ true → flat_map (own_lines q) (spots_of_items sets way x) ≡ []
    items_none no_item sets way e = refl
    items_none (item size set rest) sets way e =
        flat_map-append (own_lines q) (spots sets way set) (spots_of_items sets way rest) ∙ nothing_both _ _ (set_none set sets way e) (items_none rest sets way e)

  joined : (x y u v : List ℕ) → x ≡ u → y ≡ v → x ++ y ≡ u ++ v
  joined x y u v e f = ap (λ (z : List ℕ). z ++ y) e ∙ ap (λ (z : List ℕ). u ++ z) f

  -- a sequence that is named, or that is not
  sequence_own : (b : Bool) (one inside others mine : List ℕ) → (b ≡ true → inside ≡ []) → (b ≡ false → inside ≡ mine) → (if b then one else mine) ++ others ≡ (if b then one else []) ++ (inside ++ others)
  sequence_own true one inside others mine none same = ap (λ (z : List ℕ). one ++ (z ++ others)) (sym (none refl))
  sequence_own false one inside others mine none same = ap (λ (z : List ℕ). z ++ others) (sym (same refl))

  mutual
    unfolding spots named_set

    pub set_own : (x : Trees) (sets : Sets) (way : List Tag) → list_any (is_named q.tags) way ≡ false → named_set q sets way x ≡ flat_map (own_lines q) (spots sets way x)
    set_own no_tree sets way e = refl
    set_own (leaf tag vr value rest) sets way e = joined _ _ _ _ (sym (own_first (spot sets way tag (leaf tag vr value no_tree)) e)) (set_own rest (set_by tag vr value sets) way e)
    set_own (sequence tag vr size items rest) sets way e =
        let within : List ℕ = flat_map (own_lines q) (spots_of_items sets (tag ∷ way) items) in
        ap (λ (z : List ℕ). (if is_named q.tags tag then piece q sets way (sequence tag vr size items no_tree) else named_items q sets (tag ∷ way) items) ++ z) (set_own rest sets way e)
        ∙ sequence_own (is_named q.tags tag) (piece q sets way (sequence tag vr size items no_tree)) within (flat_map (own_lines q) (spots sets way rest)) (named_items q sets (tag ∷ way) items)
        (λ b. items_none items sets (tag ∷ way) (way_named tag way true b e))
        (λ b. sym (items_own items sets (tag ∷ way) (way_named tag way false b e)))
        ∙ joined _ _ _ _ (sym (own_first (spot sets way tag (sequence tag vr size items no_tree)) e)) (sym (flat_map-append (own_lines q) (spots_of_items sets (tag ∷ way) items) (spots sets way rest)))
    set_own (fragments tag vr values rest) sets way e = joined _ _ _ _ (sym (own_first (spot sets way tag (fragments tag vr values no_tree)) e)) (set_own rest sets way e)

    pub items_own : (x : Items) (sets : Sets) (way : List Tag) → list_any (is_named q.tags) way ≡ false → named_items q sets way x ≡ flat_map (own_lines q) (spots_of_items sets way x)
    items_own no_item sets way e = refl
    items_own (item size set rest) sets way e =
        joined _ _ _ _ (set_own set sets way e) (items_own rest sets way e) ∙ sym (flat_map-append (own_lines q) (spots sets way set) (spots_of_items sets way rest))

  -- ---- all that is named is found

  abbrev Found : List ℕ → Spot → Type 0
  Found written a = is_named q.tags a.tag ≡ true → IsFound q a written

  found_in : (y z : List ℕ) (a : Spot) → ((x : List ℕ) → IsPart x y → IsPart x z) → Found y a → Found z a
  found_in y z a more f e = let p = f e in record { level = p.level; lies = more _ p.lies }

  found_here : (b : Bool) (sets : Sets) (way : List Tag) (tag : Tag) (x : Trees) (other others : List ℕ) → is_named q.tags tag ≡ b → Found ((if b then piece q sets way x else other) ++ others) (spot sets way tag x)
  found_here true sets way tag x other others is e = record { level = 0; lies = part_then _ (piece q sets way x) others (part_behind _ (lines_of q sets x) (way_by q.ways way) (part_as _ _ _ (lines_are q.texts q.dictionary q.mode sets x) (part_of_all (set_lines sets 0 x)))) }
  found_here false sets way tag x other others is e = absurd (cc)

  -- what lies in a sequence is found in its lines where it is named, and else where its items are gone over
  found_within : (b : Bool) (a : Spot) (inner one mine others : List ℕ) → IsFound q a inner → ((x : List ℕ) → IsPart x inner → IsPart x one) → Found mine a → Found ((if b then one else mine) ++ others) a
  found_within true a inner one mine others p more f e = record { level = p.level; lies = part_then _ one others (more _ p.lies) }
  found_within false a inner one mine others p more f e = let g = f e in record { level = g.level; lies = part_then _ mine others g.lies }

  both_all : {X : Type 0} (P Q R : X → Type 0) (xs : List X) → ((x : X) → P x → Q x → R x) → All P xs → All Q xs → All R xs
  both_all P Q R xs f g h = λ k d le. f (get_or xs k d) (g k d le) (h k d le)

  lines_inside : (sets : Sets) (way : List Tag) (tag : Tag) (vr : Vr) (size : Length) (items : Items) (x : List ℕ) → IsPart x (item_lines sets 1 items) → IsPart x (piece q sets way (sequence tag vr size items no_tree))
  lines_inside sets way tag vr size items x p =
      part_behind x (lines_of q sets (sequence tag vr size items no_tree)) (way_by q.ways way)
      (part_as x _ _ (lines_are q.texts q.dictionary q.mode sets (sequence tag vr size items no_tree)) (items_in_sequence q.texts q.dictionary q.mode sets 0 tag vr size items x p))

  mutual
    unfolding spots named_set

    pub set_found : (x : Trees) (sets : Sets) (way : List Tag) → All (λ a. is_named q.tags a.tag ≡ true → IsFound q a (named_set q sets way x)) (spots sets way x)
    set_found no_tree sets way = All-nil (Found (named_set q sets way no_tree))
    set_found (leaf tag vr value rest) sets way =
        let others : List ℕ = named_set q (set_by tag vr value sets) way rest in
        let one : List ℕ = if is_named q.tags tag then piece q sets way (leaf tag vr value no_tree) else [] in
        All-cons (Found (one ++ others)) _ _
        (found_here (is_named q.tags tag) sets way tag (leaf tag vr value no_tree) [] others refl)
        (all_also (Found others) (Found (one ++ others)) (spots (set_by tag vr value sets) way rest) (λ a f. found_in others (one ++ others) a (λ x p. part_behind x others one p) f) (set_found rest (set_by tag vr value sets) way))
    set_found (sequence tag vr size items rest) sets way =
        let others : List ℕ = named_set q sets way rest in
        let mine : List ℕ = named_items q sets (tag ∷ way) items in
        let whole : List ℕ = piece q sets way (sequence tag vr size items no_tree) in
        let one : List ℕ = if is_named q.tags tag then whole else mine in
        All-cons (Found (one ++ others)) _ _
        (found_here (is_named q.tags tag) sets way tag (sequence tag vr size items no_tree) mine others refl)
        (All-append (Found (one ++ others)) (spots_of_items sets (tag ∷ way) items) (spots sets way rest)
        (both_all (Dumped (tag ∷ way) (1 + 1) (item_lines sets 1 items)) (Found mine) (Found (one ++ others)) (spots_of_items sets (tag ∷ way) items)
        (λ a p f. found_within (is_named q.tags tag) a (item_lines sets 1 items) whole mine others (record { level = p.at; lies = p.lies }) (λ x l. lines_inside sets way tag vr size items x l) f)
        (items_dumped items sets (tag ∷ way) 1) (items_found items sets (tag ∷ way)))
        (all_also (Found others) (Found (one ++ others)) (spots sets way rest) (λ a f. found_in others (one ++ others) a (λ x p. part_behind x others one p) f) (set_found rest sets way)))
    set_found (fragments tag vr values rest) sets way =
        let others : List ℕ = named_set q sets way rest in
        let one : List ℕ = if is_named q.tags tag then piece q sets way (fragments tag vr values no_tree) else [] in
        All-cons (Found (one ++ others)) _ _
        (found_here (is_named q.tags tag) sets way tag (fragments tag vr values no_tree) [] others refl)
        (all_also (Found others) (Found (one ++ others)) (spots sets way rest) (λ a f. found_in others (one ++ others) a (λ x p. part_behind x others one p) f) (set_found rest sets way))

    items_found : (x : Items) (sets : Sets) (way : List Tag) → All (λ a. is_named q.tags a.tag ≡ true → IsFound q a (named_items q sets way x)) (spots_of_items sets way x)
    items_found no_item sets way = All-nil (Found (named_items q sets way no_item))
    items_found (item size set rest) sets way =
        let one : List ℕ = named_set q sets way set in
        let others : List ℕ = named_items q sets way rest in
        All-append (Found (one ++ others)) (spots sets way set) (spots_of_items sets way rest)
        (all_also (Found one) (Found (one ++ others)) (spots sets way set) (λ a f. found_in one (one ++ others) a (λ x p. part_then x one others p) f) (set_found set sets way))
        (all_also (Found others) (Found (one ++ others)) (spots_of_items sets way rest) (λ a f. found_in others (one ++ others) a (λ x p. part_behind x others one p) f) (items_found rest sets way))

  -- ---- all of the dump

  named_first : (b : Bool) (sets : Sets) (way : List Tag) (x : Trees) (other : List ℕ) → b ≡ true → q.ways ≡ false → (if b then piece q sets way x else other) ≡ lines_of q sets x
  named_first true sets way x other is w = ap (λ (t : Bool). (if t then way_text way else []) ++ lines_of q sets x) w
  named_first false sets way x other is w = absurd (cc)

  both_true : (a b : Bool) → (a && b) ≡ true → (a ≡ true) × (b ≡ true)
  both_true true b e = (refl, e)
  both_true false b e = absurd (cc)

  all_of : (sets : Sets) (one : List ℕ) (x rest : Trees) (after : Sets) (y : List ℕ) → one ≡ lines_of q sets x → y ≡ lines_of q after rest → one ++ y ≡ lines_of q sets x ++ lines_of q after rest
  all_of sets one x rest after y e f = joined one y _ _ e f

  pub set_all : (x : Trees) (sets : Sets) (way : List Tag) → q.ways ≡ false → all_named q.tags x ≡ true → named_set q sets way x ≡ lines_of q sets x
  unfolding named_set all_named
  set_all no_tree sets way w e = lines_none q.texts q.dictionary q.mode sets
  set_all (leaf tag vr value rest) sets way w e =
      let is = both_true (is_named q.tags tag) (all_named q.tags rest) e in
      joined _ _ _ _ (named_first (is_named q.tags tag) sets way (leaf tag vr value no_tree) [] is.0 w) (set_all rest (set_by tag vr value sets) way w is.1)
      ∙ sym (sym (lines_are q.texts q.dictionary q.mode sets (leaf tag vr value rest)) ∙ leaf_lines q.texts q.dictionary q.mode sets 0 tag vr value rest ∙ joined _ _ _ _ (lines_are q.texts q.dictionary q.mode sets (leaf tag vr value no_tree)) (lines_are q.texts q.dictionary q.mode (set_by tag vr value sets) rest))
  set_all (sequence tag vr size items rest) sets way w e =
      let is = both_true (is_named q.tags tag) (all_named q.tags rest) e in
      joined _ _ _ _ (named_first (is_named q.tags tag) sets way (sequence tag vr size items no_tree) (named_items q sets (tag ∷ way) items) is.0 w) (set_all rest sets way w is.1)
      ∙ sym (sym (lines_are q.texts q.dictionary q.mode sets (sequence tag vr size items rest)) ∙ sequence_lines q.texts q.dictionary q.mode sets 0 tag vr size items rest ∙ joined _ _ _ _ (lines_are q.texts q.dictionary q.mode sets (sequence tag vr size items no_tree)) (lines_are q.texts q.dictionary q.mode sets rest))
  set_all (fragments tag vr values rest) sets way w e =
      let is = both_true (is_named q.tags tag) (all_named q.tags rest) e in
      joined _ _ _ _ (named_first (is_named q.tags tag) sets way (fragments tag vr values no_tree) [] is.0 w) (set_all rest sets way w is.1)
      ∙ sym (sym (lines_are q.texts q.dictionary q.mode sets (fragments tag vr values rest)) ∙ fragments_lines q.texts q.dictionary q.mode sets 0 tag vr values rest ∙ joined _ _ _ _ (lines_are q.texts q.dictionary q.mode sets (fragments tag vr values no_tree)) (lines_are q.texts q.dictionary q.mode sets rest))

  -- ---- as far as a data set was read

  abbrev lines_in_front : Sets → ℕ → Front → List ℕ
  lines_in_front sets level f = front_lines_at_by q.texts q.dictionary q.mode sets level f

  abbrev open_lines : Sets → ℕ → OpenTree → List ℕ
  open_lines sets level x = open_lines_at_by q.texts q.dictionary q.mode sets level x

  abbrev open_item_lines : Sets → ℕ → OpenItem → List ℕ
  open_item_lines sets level x = open_item_at_by q.texts q.dictionary q.mode sets level x

  open_dumped_here : (sets : Sets) (way : List Tag) (level : ℕ) (tag : Tag) (x : OpenTree) → Dumped way level (open_lines sets level x) (open_spot sets way tag x)
  open_dumped_here sets way level tag x = record { at = level; deeper = refl; lies = part_of_all (open_lines sets level x) }

  mutual
    unfolding front_spots

    pub front_dumped : (f : Front) (sets : Sets) (way : List Tag) (level : ℕ) → All (λ a. IsDumped q way level a (lines_in_front sets level f)) (front_spots sets way f)
    front_dumped (front read last reached closed) sets way level =
        let e = front_lines q.texts q.dictionary q.mode sets level read last reached closed in
        let after : Sets = sets_after sets read in
        let one : List ℕ = set_lines sets level read in
        let others : List ℕ = open_lines after level last in
        let all : List ℕ = lines_in_front sets level (front read last reached closed) in
        All-append (Dumped way level all) (spots sets way read) (open_spots after way last)
        (all_also (Dumped way level one) (Dumped way level all) (spots sets way read) (λ a p. dumped_in way level one all a (λ x p. part_as x _ _ (sym e) (part_then x one others p)) p) (set_dumped read sets way level))
        (all_also (Dumped way level others) (Dumped way level all) (open_spots after way last) (λ a p. dumped_in way level others all a (λ x p. part_as x _ _ (sym e) (part_behind x others one p)) p) (open_dumped last after way level))

    pub open_dumped : (x : OpenTree) (sets : Sets) (way : List Tag) (level : ℕ) → All (λ a. IsDumped q way level a (open_lines sets level x)) (open_spots sets way x)
    open_dumped nothing_open sets way level = All-nil (Dumped way level (open_lines sets level nothing_open))
    open_dumped (open_leaf tag vr size value) sets way level =
        let all : List ℕ = open_lines sets level (open_leaf tag vr size value) in
        All-cons (Dumped way level all) _ [] (open_dumped_here sets way level tag (open_leaf tag vr size value)) (All-nil (Dumped way level all))
    open_dumped (open_sequence tag vr size items last) sets way level =
        let all : List ℕ = open_lines sets level (open_sequence tag vr size items last) in
        All-cons (Dumped way level all) _ _ (open_dumped_here sets way level tag (open_sequence tag vr size items last))
        (All-append (Dumped way level all) (spots_of_items sets (tag ∷ way) items) (open_item_spots sets (tag ∷ way) last)
        (all_also (Dumped (tag ∷ way) (level + 1 + 1) (item_lines sets (level + 1) items)) (Dumped way level all) (spots_of_items sets (tag ∷ way) items)
        (λ a p. deeper_way tag way level (item_lines sets (level + 1) items) all a (λ x p. items_in_open q.texts q.dictionary q.mode sets level tag vr size items last x p) p)
        (items_dumped items sets (tag ∷ way) (level + 1)))
        (all_also (Dumped (tag ∷ way) (level + 1 + 1) (open_item_lines sets (level + 1) last)) (Dumped way level all) (open_item_spots sets (tag ∷ way) last)
        (λ a p. deeper_way tag way level (open_item_lines sets (level + 1) last) all a (λ x p. last_in_open q.texts q.dictionary q.mode sets level tag vr size items last x p) p)
        (open_item_dumped last sets (tag ∷ way) (level + 1))))
    open_dumped (open_fragments tag vr values last) sets way level =
        let all : List ℕ = open_lines sets level (open_fragments tag vr values last) in
        All-cons (Dumped way level all) _ [] (open_dumped_here sets way level tag (open_fragments tag vr values last)) (All-nil (Dumped way level all))

    open_item_dumped : (x : OpenItem) (sets : Sets) (way : List Tag) (level : ℕ) → All (λ a. IsDumped q way (level + 1) a (open_item_at_by q.texts q.dictionary q.mode sets level x)) (open_item_spots sets way x)
    open_item_dumped no_open_item sets way level = All-nil (Dumped way (level + 1) (open_item_lines sets level no_open_item))
    open_item_dumped (open_item size f) sets way level =
        all_also (Dumped way (level + 1) (lines_in_front sets (level + 1) f)) (Dumped way (level + 1) (open_item_lines sets level (open_item size f))) (front_spots sets way f)
        (λ a p. dumped_in way (level + 1) _ _ a (λ x p. front_in_item q.texts q.dictionary q.mode sets level size f x p) p)
        (front_dumped f sets way (level + 1))

  mutual
    unfolding front_spots

    front_none : (f : Front) (sets : Sets) (way : List Tag) → list_any (is_named q.tags) way ≡ true → flat_map (own_lines q) (front_spots sets way f) ≡ []
    front_none (front read last reached closed) sets way e =
        flat_map-append (own_lines q) (spots sets way read) (open_spots (sets_after sets read) way last) ∙ nothing_both _ _ (set_none read sets way e) (last_none last (sets_after sets read) way e)

    last_none : (x : OpenTree) (sets : Sets) (way : List Tag) → list_any (is_named q.tags) way ≡ true → flat_map (own_lines q) (open_spots sets way x) ≡ []
    last_none nothing_open sets way e = refl
    last_none (open_leaf tag vr size value) sets way e = nothing_both _ _ (own_none (open_spot sets way tag (open_leaf tag vr size value)) e) refl
    last_none (open_sequence tag vr size items last) sets way e =
        nothing_both _ _ (own_none (open_spot sets way tag (open_sequence tag vr size items last)) e)
        (flat_map-append (own_lines q) (spots_of_items sets (tag ∷ way) items) (open_item_spots sets (tag ∷ way) last) ∙ nothing_both _ _ (items_none items sets (tag ∷ way) (inside_named tag way e)) (open_item_none last sets (tag ∷ way) (inside_named tag way e)))
    last_none (open_fragments tag vr values last) sets way e = nothing_both _ _ (own_none (open_spot sets way tag (open_fragments tag vr values last)) e) refl

    open_item_none : (x : OpenItem) (sets : Sets) (way : List Tag) → list_any (is_named q.tags) way ≡ true → flat_map (own_lines q) (open_item_spots sets way x) ≡ []
    open_item_none no_open_item sets way e = refl
    open_item_none (open_item size f) sets way e = front_none f sets way e

  -- a sequence that is cut, and named or not
  cut_own : (b : Bool) (one inside mine : List ℕ) → (b ≡ true → inside ≡ []) → (b ≡ false → inside ≡ mine) → (if b then one else mine) ≡ (if b then one else []) ++ inside
  cut_own true one inside mine none same = sym (append-nil one) ∙ ap (λ (z : List ℕ). one ++ z) (sym (none refl))
  cut_own false one inside mine none same = sym (same refl)

  alone : (a : Spot) → list_any (is_named q.tags) a.way ≡ false → (if is_named q.tags a.tag then own_piece q a.sets a.way a.element else []) ≡ own_lines q a ++ []
  alone a e = sym (own_first a e) ∙ sym (append-nil (own_lines q a))

  mutual
    unfolding front_spots named_front

    pub front_own : (f : Front) (sets : Sets) (way : List Tag) → list_any (is_named q.tags) way ≡ false → named_front q sets way f ≡ flat_map (own_lines q) (front_spots sets way f)
    front_own (front read last reached closed) sets way e =
        joined _ _ _ _ (set_own read sets way e) (open_own last (sets_after sets read) way e)
        ∙ sym (flat_map-append (own_lines q) (spots sets way read) (open_spots (sets_after sets read) way last))

    open_own : (x : OpenTree) (sets : Sets) (way : List Tag) → list_any (is_named q.tags) way ≡ false → named_open q sets way x ≡ flat_map (own_lines q) (open_spots sets way x)
    open_own nothing_open sets way e = refl
    open_own (open_leaf tag vr size value) sets way e = alone (open_spot sets way tag (open_leaf tag vr size value)) e
    open_own (open_sequence tag vr size items last) sets way e =
        let inside : List ℕ = flat_map (own_lines q) (spots_of_items sets (tag ∷ way) items ++ open_item_spots sets (tag ∷ way) last) in
        let parts = flat_map-append (own_lines q) (spots_of_items sets (tag ∷ way) items) (open_item_spots sets (tag ∷ way) last) in
        cut_own (is_named q.tags tag) (open_piece q sets way (open_sequence tag vr size items last)) inside (named_items q sets (tag ∷ way) items ++ named_open_item q sets (tag ∷ way) last)
        (λ b. parts ∙ nothing_both _ _ (items_none items sets (tag ∷ way) (way_named tag way true b e)) (open_item_none last sets (tag ∷ way) (way_named tag way true b e)))
        (λ b. parts ∙ joined _ _ _ _ (sym (items_own items sets (tag ∷ way) (way_named tag way false b e))) (sym (open_item_own last sets (tag ∷ way) (way_named tag way false b e))))
        ∙ ap (λ (z : List ℕ). z ++ inside) (sym (own_first (open_spot sets way tag (open_sequence tag vr size items last)) e))
    open_own (open_fragments tag vr values last) sets way e = alone (open_spot sets way tag (open_fragments tag vr values last)) e

    open_item_own : (x : OpenItem) (sets : Sets) (way : List Tag) → list_any (is_named q.tags) way ≡ false → named_open_item q sets way x ≡ flat_map (own_lines q) (open_item_spots sets way x)
    open_item_own no_open_item sets way e = refl
    open_item_own (open_item size f) sets way e = front_own f sets way e

  cut_here : (b : Bool) (sets : Sets) (way : List Tag) (tag : Tag) (x : OpenTree) (one other : List ℕ) → is_named q.tags tag ≡ b → IsPart (open_lines sets 0 x) one → Found (if b then one else other) (open_spot sets way tag x)
  cut_here true sets way tag x one other is p e = record { level = 0; lies = p }
  cut_here false sets way tag x one other is p e = absurd (cc)

  -- what lies in a sequence that is cut
  cut_within : (b : Bool) (a : Spot) (inner one mine part : List ℕ) → IsFound q a inner → ((x : List ℕ) → IsPart x inner → IsPart x one) → ((x : List ℕ) → IsPart x part → IsPart x mine) → Found part a → Found (if b then one else mine) a
  cut_within true a inner one mine part p more among f e = record { level = p.level; lies = more _ p.lies }
  cut_within false a inner one mine part p more among f e = let g = f e in record { level = g.level; lies = among _ g.lies }

  after_way : (sets : Sets) (way : List Tag) (x : OpenTree) (part : List ℕ) → IsPart part (open_lines sets 0 x) → IsPart part (way_by q.ways way ++ open_lines_of q sets x)
  after_way sets way x part p = part_behind part (open_lines_of q sets x) (way_by q.ways way) (part_as part _ _ (open_lines_are q.texts q.dictionary q.mode sets x) p)

  mutual
    unfolding front_spots named_front

    pub front_found : (f : Front) (sets : Sets) (way : List Tag) → All (λ a. is_named q.tags a.tag ≡ true → IsFound q a (named_front q sets way f)) (front_spots sets way f)
    front_found (front read last reached closed) sets way =
        let after : Sets = sets_after sets read in
        let one : List ℕ = named_set q sets way read in
        let others : List ℕ = named_open q after way last in
        All-append (Found (one ++ others)) (spots sets way read) (open_spots after way last)
        (all_also (Found one) (Found (one ++ others)) (spots sets way read) (λ a f. found_in one (one ++ others) a (λ x p. part_then x one others p) f) (set_found read sets way))
        (all_also (Found others) (Found (one ++ others)) (open_spots after way last) (λ a f. found_in others (one ++ others) a (λ x p. part_behind x others one p) f) (open_found last after way))

    open_found : (x : OpenTree) (sets : Sets) (way : List Tag) → All (λ a. is_named q.tags a.tag ≡ true → IsFound q a (named_open q sets way x)) (open_spots sets way x)
    open_found nothing_open sets way = All-nil (Found (named_open q sets way nothing_open))
    open_found (open_leaf tag vr size value) sets way =
        let all : List ℕ = named_open q sets way (open_leaf tag vr size value) in
        All-cons (Found all) _ []
        (cut_here (is_named q.tags tag) sets way tag (open_leaf tag vr size value) (open_piece q sets way (open_leaf tag vr size value)) [] refl (cut_after q.texts q.dictionary q.mode sets tag vr size value (way_by q.ways way)))
        (All-nil (Found all))
    open_found (open_sequence tag vr size items last) sets way =
        let x : OpenTree = open_sequence tag vr size items last in
        let whole_one : List ℕ = open_piece q sets way x in
        let of_items : List ℕ = named_items q sets (tag ∷ way) items in
        let of_last : List ℕ = named_open_item q sets (tag ∷ way) last in
        let all : List ℕ = if is_named q.tags tag then whole_one else of_items ++ of_last in
        All-cons (Found all) _ _
        (cut_here (is_named q.tags tag) sets way tag x whole_one (of_items ++ of_last) refl (after_way sets way x _ (part_of_all (open_lines sets 0 x))))
        (All-append (Found all) (spots_of_items sets (tag ∷ way) items) (open_item_spots sets (tag ∷ way) last)
        (both_all (Dumped (tag ∷ way) (1 + 1) (item_lines sets 1 items)) (Found of_items) (Found all) (spots_of_items sets (tag ∷ way) items)
        (λ a p f. cut_within (is_named q.tags tag) a (item_lines sets 1 items) whole_one (of_items ++ of_last) of_items (record { level = p.at; lies = p.lies })
        (λ y l. after_way sets way x y (items_in_open q.texts q.dictionary q.mode sets 0 tag vr size items last y l)) (λ y l. part_then y of_items of_last l) f)
        (items_dumped items sets (tag ∷ way) 1) (items_found items sets (tag ∷ way)))
        (both_all (Dumped (tag ∷ way) (1 + 1) (open_item_lines sets 1 last)) (Found of_last) (Found all) (open_item_spots sets (tag ∷ way) last)
        (λ a p f. cut_within (is_named q.tags tag) a (open_item_lines sets 1 last) whole_one (of_items ++ of_last) of_last (record { level = p.at; lies = p.lies })
        (λ y l. after_way sets way x y (last_in_open q.texts q.dictionary q.mode sets 0 tag vr size items last y l)) (λ y l. part_behind y of_last of_items l) f)
        (open_item_dumped last sets (tag ∷ way) 1) (open_item_found last sets (tag ∷ way))))
    open_found (open_fragments tag vr values last) sets way =
        let x : OpenTree = open_fragments tag vr values last in
        let all : List ℕ = named_open q sets way x in
        All-cons (Found all) _ []
        (cut_here (is_named q.tags tag) sets way tag x (open_piece q sets way x) [] refl (after_way sets way x _ (part_of_all (open_lines sets 0 x))))
        (All-nil (Found all))

    open_item_found : (x : OpenItem) (sets : Sets) (way : List Tag) → All (λ a. is_named q.tags a.tag ≡ true → IsFound q a (named_open_item q sets way x)) (open_item_spots sets way x)
    open_item_found no_open_item sets way = All-nil (Found (named_open_item q sets way no_open_item))
    open_item_found (open_item size f) sets way = front_found f sets way

  cut_first : (b : Bool) (one other lines : List ℕ) → b ≡ true → one ≡ lines → (if b then one else other) ≡ lines
  cut_first true one other lines is e = e
  cut_first false one other lines is e = absurd (cc)

  no_way : (way : List Tag) → q.ways ≡ false → way_by q.ways way ≡ []
  no_way way w = ap (λ (t : Bool). if t then way_text way else []) w

  no_way_before : (way : List Tag) (lines : List ℕ) → q.ways ≡ false → way_by q.ways way ++ lines ≡ lines
  no_way_before way lines w = ap (λ (z : List ℕ). z ++ lines) (no_way way w)

  open_all : (x : OpenTree) (sets : Sets) (way : List Tag) → q.ways ≡ false → open_named q.tags x ≡ true → named_open q sets way x ≡ open_lines_of q sets x
  unfolding named_front
  open_all nothing_open sets way w e = open_none q.texts q.dictionary q.mode sets
  open_all (open_leaf tag vr size value) sets way w e =
      cut_first (is_named q.tags tag) _ [] _ e (cut_alone q.texts q.dictionary q.mode sets tag vr size value (way_by q.ways way) (no_way way w))
  open_all (open_sequence tag vr size items last) sets way w e =
      cut_first (is_named q.tags tag) _ (named_items q sets (tag ∷ way) items ++ named_open_item q sets (tag ∷ way) last) _ e (no_way_before way (open_lines_of q sets (open_sequence tag vr size items last)) w)
  open_all (open_fragments tag vr values last) sets way w e =
      cut_first (is_named q.tags tag) _ [] _ e (no_way_before way (open_lines_of q sets (open_fragments tag vr values last)) w)

  pub front_all : (f : Front) (sets : Sets) (way : List Tag) → q.ways ≡ false → front_named q.tags f ≡ true → named_front q sets way f ≡ lines_in_front sets 0 f
  unfolding named_front
  front_all (front read last reached closed) sets way w e =
      let is = both_true (all_named q.tags read) (open_named q.tags last) e in
      let after : Sets = sets_after sets read in
      joined _ _ _ _ (set_all read sets way w is.0 ∙ sym (lines_are q.texts q.dictionary q.mode sets read)) (open_all last after way w is.1 ∙ sym (open_lines_are q.texts q.dictionary q.mode after last))
      ∙ sym (front_lines q.texts q.dictionary q.mode sets 0 read last reached closed)

  pub file_all : (elements : Trees) (uid : List ℕ) (f : Front) → q.ways ≡ false → all_named q.tags elements ≡ true → front_named q.tags f ≡ true → IsWithoutHeader q elements uid f
  file_all elements uid f w e g = record {
    dumped = file_in_parts q.texts q.dictionary q.mode elements uid f;
    written = joined _ _ _ _ (set_all elements EMPTY [] w e) (front_all f EMPTY [] w g);
  }
