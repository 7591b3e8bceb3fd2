-- What the filter and its lines write of the atoms of a data set: the lines of its named elements.
use Rattle.std.proofs.Common.{◌≡◌, ◌∙◌, refl, ap, sym, subst, ℕ, suc, ◌+◌, ◌≤◌, ◌<◌, length, List, [], ◌∷◌, ◌++◌, map, Bool, true, false, append_assoc, arith, Option, Some, None}
use Rattle.std.specs.Prelude.{fold, not, ◌&&◌, if◌then◌else◌, nat_lt}
use Rattle.std.proofs.lemmas.Bool.{lt-ltb}
use Rattle.std.proofs.lemmas.List.{append-nil, append_cancel_right}
use Rattle.std.proofs.lemmas.List.Sums.{fold-append}
use Rattle.dcm_lemmas.proofs.Choice.{if_true}
use Rattle.dcm_base.specs.declared.tag.Tag.{Tag}
use Rattle.dcm_base.specs.declared.vr.Vr.{Vr}
use Rattle.dcm_base.specs.declared.mode.Mode.{Mode}
use Rattle.dcm_base.specs.declared.mode.Mode.TheVariants.{Short, Full}
use Rattle.dcm_base.specs.declared.length.Length.{Length}
use Rattle.dcm_base.specs.declared.length.Length.TheVariants.{Known, Undefined}
use Rattle.dcm_base.specs.declared.form.Form.{Form}
use Rattle.dcm_base.specs.declared.form.Form.TheVariants.{Value as a_value, Sequence as a_sequence, FragmentList as a_fragment_list}
use Rattle.dcm_base.specs.declared.syntax.Syntax.{Syntax}
use Rattle.dcm_base.specs.Bytes.Spelling.{form, read_as}
use Rattle.dcm_base.specs.Reading.Stop.{opens_list}
use Rattle.dcm_base.specs.Tree.Value.{order}
use Rattle.dcm_base.specs.Tree.Tree.{Trees, no_tree, leaf, sequence, fragments, Items, no_item, item}
use Rattle.dcm_base.specs.Tree.Front.{Front, front, OpenTree, nothing_open, open_leaf, open_sequence, open_fragments, OpenItem, no_open_item, open_item}
use Rattle.dcm_base.specs.Dump.Dump.{open_line}
use Rattle.dcm_base.specs.Steps.Atoms.{Atom, opens, value_byte, closes_leaf, opens_item, closes_item, closes_sequence, opens_fragment, fragments_then, ShowTrees, ShowItems, Shows, ShowsOpen, ShowsOpenItem, end_atoms, open_fragment_atoms}
use Rattle.dcm_base.specs.Steps.Steps.{outputs}
use Rattle.dcm_base.proofs.Writes.Runs.{outputs-append}
use Rattle.dcm_text.specs.declared.sets.Sets.{Sets}
use Rattle.dcm_sinks.specs.InForce.{set_by, sets_after}
use Rattle.dcm_sinks.specs.Laws.{StaysShallow}
use Rattle.dcm_sinks.proofs.Dumps.OpenLists.{stays_on, stays_opened, stays_bytes, stays_fragments, stays_same, stays_trees, stays_items}
use Rattle.dcm_named.specs.Named.{Asked, is_named, way_by, lines_of, open_lines_of, piece, named_set, named_items, named_front, named_open, named_open_item, open_piece}
use Rattle.dcm_named.specs.Filter.{Place, next, before, way_if, entered, head_place, begins_at_end, begins_at_head}
use Rattle.dcm_named.specs.NamedSink.{named_step, named_writes}
use Rattle.dcm_named.proofs.Filtering.{then_shown, then_over, bytes_put, bytes_none}
use Rattle.dcm_named.proofs.Walks.{AllShown, all_then, with_shown, Meets, Walk, through, trees_walk, items_walk, fragments_walk, few_open, room_around, more_open}

-- ---- lists

stays_front : (n : ℕ) (xs ys : List Atom) → StaysShallow n (xs ++ ys) → StaysShallow n xs
stays_front n xs ys h = λ first rest e. h first (rest ++ ys) (ap (λ (z : List Atom). z ++ ys) e ∙ append_assoc first rest ys)

regroup : (x y z r : List ℕ) → (x ++ y) ++ (z ++ r) ≡ x ++ ((y ++ z) ++ r)
regroup x y z r = simp append_assoc

-- a way before the whole line, or before its end where nothing went out before that
line_placed : (late ways : Bool) (way : List Tag) (x y z r : List ℕ) → (late ≡ true → x ++ y ≡ [])
    → (way_if (not late && ways) way ++ x) ++ (y ++ ((way_if (late && ways) way ++ z) ++ r)) ≡ (way_by ways way ++ (x ++ (y ++ z))) ++ r
line_placed true ways way x y z r none =
    sym (append_assoc x y ((way_if ways way ++ z) ++ r))
    ∙ ap (λ (k : List ℕ). k ++ ((way_if ways way ++ z) ++ r)) (none refl)
    ∙ ap (λ (k : List ℕ). (way_if ways way ++ (k ++ z)) ++ r) (sym (none refl))
    ∙ ap (λ (k : List ℕ). (way_if ways way ++ k) ++ r) (append_assoc x y z)
line_placed false ways way x y z r none = simp append_assoc

open_placed : (mode : Mode) (ways : Bool) (way : List Tag) (x y : List ℕ) → (begins_at_end mode ≡ true → x ++ y ≡ [])
    → (way_if (not (begins_at_end mode) && ways) way ++ x) ++ y ≡ open_line mode (way_by ways way) (x ++ y)
open_placed Short ways way x y none = none refl
open_placed Full ways way x y none = append_assoc (way_if ways way) x y

is_short : (mode : Mode) → begins_at_end mode ≡ true → mode ≡ Short
is_short Short e = refl
is_short Full e = absurd (cc)

-- what laws of a dump say of what its sink writes, outermost
pub record Writes {T : Type 0} (step : T → Atom → T) (writes : T → Atom → List ℕ) (q : Asked) (at : List Sets → Sets → T) : Type 0 where
  pub lines : (m : ℕ) (around : List Sets) (sets : Sets) (x : Trees) (atoms after : List Atom) → length around ≤ m → StaysShallow m atoms → ShowTrees x atoms after
      → outputs step writes (at around sets) atoms ≡ lines_of q sets x ++ outputs step writes (at around (sets_after sets x)) after
  pub open_lines : (m : ℕ) (around : List Sets) (sets : Sets) (o : OpenTree) (closed : Bool) (atoms : List Atom) → length around ≤ m → StaysShallow m atoms → ShowsOpen o (end_atoms closed) atoms
      → outputs step writes (at around sets) atoms ≡ open_lines_of q sets o
  -- in Short nothing goes out of a value before its end
  pub silent : q.mode ≡ Short → (around : List Sets) (sets : Sets) (tag : Tag) (vr : Vr) (size : ℕ) (value : List ℕ) (s : Syntax) → form s (read_as s tag vr) (Known size) ≡ a_value → length value ≤ size
      → outputs step writes (at around sets) (opens tag vr (Known size) s ∷ map value_byte (order s vr value)) ≡ []

-- ---- all atoms of what is open and shown

module _ {T : Type 0} (step over : T → Atom → T) (at : List Length → List Sets → Sets → T) (meets : Meets step over at) (p : Place) where
  abbrev deep : ℕ → Place
  deep n = with_shown p n

  bytes_all : (n : ℕ) (v : List ℕ) → AllShown (deep (suc n)) (map value_byte v)
  bytes_all n [] = tt
  bytes_all n (b ∷ v) = (refl, refl, bytes_all n v)

  walked_on : {t u : T} (n : ℕ) (atoms after : List Atom) → Walk step (deep (suc n)) t u atoms after → AllShown (deep (suc n)) after → AllShown (deep (suc n)) atoms
  walked_on n atoms after w k = subst (AllShown (deep (suc n))) (sym w.split) (all_then (deep (suc n)) w.first after w.shown (subst (λ (q : Place). AllShown q after) (sym w.place) k))

  row_shown : (q : Place) (x y : List Atom) → x ≡ y → AllShown q y → AllShown q x
  row_shown q x y e k = subst (AllShown q) (sym e) k

  end_shown : (n : ℕ) (closed : Bool) → AllShown (deep (suc n)) (end_atoms closed)
  end_shown n true = (refl, refl, tt)
  end_shown n false = tt

  pub fragment_shown : (n : ℕ) (last : Option (ℕ × List ℕ)) → n ≤ 1000 → AllShown (deep (suc n)) (open_fragment_atoms last)
  fragment_shown n None small = tt
  fragment_shown n (Some f) small = (refl, refl, subst (λ (k : ℕ). AllShown (deep k) (map value_byte f.1)) (sym (more_open n false small)) (bytes_all (suc n) f.1))

  few_lists : (m : ℕ) (atoms : List Atom) → StaysShallow m atoms → m ≤ 64
  few_lists m atoms h = h [] atoms refl

  mutual
    unfolding Shows

    front_shown : (f : Front) (m k : ℕ) (ls : List Length) (around : List Sets) (sets : Sets) (atoms : List Atom) → length ls ≤ m + m → length around ≤ m → k ≤ m + m → StaysShallow m atoms → Shows f atoms → AllShown (deep (suc k)) atoms
    front_shown (front whole o reached closed) m k ls around sets atoms el ea ek h w =
        walked_on k atoms w.0 (trees_walk step over at meets p whole m k ls around sets atoms w.0 el ea ek h w.1)
        (open_shown o closed m k ls around (sets_after sets whole) w.0 el ea ek (stays_trees m whole atoms w.0 w.1 h) w.2)

    open_shown : (o : OpenTree) (closed : Bool) (m k : ℕ) (ls : List Length) (around : List Sets) (sets : Sets) (atoms : List Atom) → length ls ≤ m + m → length around ≤ m → k ≤ m + m → StaysShallow m atoms → ShowsOpen o (end_atoms closed) atoms
        → AllShown (deep (suc k)) atoms
    open_shown nothing_open closed m k ls around sets atoms el ea ek h w = row_shown (deep (suc k)) atoms (end_atoms closed) w (end_shown k closed)
    open_shown (open_leaf tag vr size value) closed m k ls around sets atoms el ea ek h w =
        row_shown (deep (suc k)) atoms _ w.3
        (refl, refl, subst (λ (n : ℕ). AllShown (deep n) (map value_byte (order w.0 vr value))) (sym (more_open k (is_named p.tags tag) (few_open step over at meets p m k atoms h ek))) (bytes_all (suc k) (order w.0 vr value)))
    open_shown (open_sequence tag vr declared items last) closed m k ls around sets atoms el ea ek h w =
        let in_h : StaysShallow (suc m) w.1 = stays_opened m a_sequence tag vr declared w.0 w.1 w.3 (stays_same m atoms _ w.4 h) in
        row_shown (deep (suc k)) atoms _ w.4 (
          refl,
          refl,
          subst (λ (n : ℕ). AllShown (deep n) w.1) (sym (more_open k (is_named p.tags tag) (few_open step over at meets p m k atoms h ek)))
              (walked_on (suc k) w.1 w.2 (items_walk step over at meets p items (suc m) (suc k) (declared ∷ ls) around sets w.1 w.2 (omega (arith, el)) (omega (arith, ea)) (omega (arith, ek)) in_h w.5)
              (open_item_shown last (suc m) (suc k) (declared ∷ ls) around sets w.2 (omega (arith, el)) (omega (arith, ea)) (omega (arith, ek)) (stays_items (suc m) items w.1 w.2 w.5 in_h) w.6)),
        )
    open_shown (open_fragments tag vr values last) closed m k ls around sets atoms el ea ek h w =
        let contents : List Atom = fragments_then values (open_fragment_atoms last) in
        let small : k ≤ 1000 = few_open step over at meets p m k atoms h ek in
        let less : suc k ≤ 1000 = omega (arith, ek, few_lists m atoms h) in
        row_shown (deep (suc k)) atoms _ w.3 (
          refl,
          refl,
          subst (λ (n : ℕ). AllShown (deep n) contents) (sym (more_open k (is_named p.tags tag) small))
              (walked_on (suc k) contents (open_fragment_atoms last) (fragments_walk step over at meets p (suc k) ls around sets values (open_fragment_atoms last) less) (fragment_shown (suc k) last less)),
        )

    open_item_shown : (o : OpenItem) (m k : ℕ) (ls : List Length) (around : List Sets) (sets : Sets) (atoms : List Atom) → length ls + 1 ≤ m + m → length around + 1 ≤ m → k + 1 ≤ m + m → StaysShallow m atoms → ShowsOpenItem o atoms
        → AllShown (deep (suc k)) atoms
    open_item_shown no_open_item m k ls around sets atoms el ea ek h w = row_shown (deep (suc k)) atoms [] w tt
    open_item_shown (open_item declared set) m k ls around sets atoms el ea ek h w =
        let in_h : StaysShallow m w.0 = stays_on m (opens_item declared) w.0 (stays_same m atoms _ w.1 h) in
        row_shown (deep (suc k)) atoms _ w.1 (
          refl,
          refl,
          subst (λ (n : ℕ). AllShown (deep n) w.0) (sym (more_open k false (few_open step over at meets p m k atoms h (omega (arith, ek)))))
              (front_shown set m (suc k) (declared ∷ ls) (sets ∷ around) sets w.0 (omega (arith, el)) (omega (arith, ea)) (omega (arith, ek)) in_h w.3),
        )

  -- whole items, and an open one
  pub contents_shown : (items : Items) (last : OpenItem) (m k : ℕ) (ls : List Length) (around : List Sets) (sets : Sets) (atoms after : List Atom) → length ls + 1 ≤ m + m → length around + 1 ≤ m → k + 1 ≤ m + m → StaysShallow m atoms
      → ShowItems items atoms after → ShowsOpenItem last after → AllShown (deep (suc k)) atoms
  contents_shown items last m k ls around sets atoms after el ea ek h w o =
      walked_on k atoms after (items_walk step over at meets p items m k ls around sets atoms after el ea ek h w)
      (open_item_shown last m k ls around sets after el ea ek (stays_items m items atoms after w h) o)

-- ---- a data set

module _ {T : Type 0} (step over : T → Atom → T) (writes : T → Atom → List ℕ) (at : List Length → List Sets → Sets → T) (q : Asked) (meets : Meets step over at) (wr : Writes step writes q (at [])) where
  abbrev pl : List Tag → ℕ → Place
  pl way n = record { tags = q.tags; ways = q.ways; mode = q.mode; way = way; shown = n }

  abbrev puts : Place → T → List Atom → List ℕ
  puts p t atoms = outputs (named_step step over) (named_writes writes) (p, t) atoms

  abbrev now : List Sets → Sets → T
  now around sets = at [] around sets

  same_place : (p r : Place) (t u : T) (atoms : List Atom) → p ≡ r → t ≡ u → puts p t atoms ≡ puts r u atoms
  same_place p r t u atoms e f = ap (λ (x : Place). puts x t atoms) e ∙ ap (λ (x : T). puts r x atoms) f

  -- the place behind a head
  head_at : (way : List Tag) (tag : Tag) (vr : Vr) (declared : Length) (s : Syntax) (f : Form) (named : Bool) → is_named q.tags tag ≡ named → form s (read_as s tag vr) declared ≡ f
      → next (pl way 0) (opens tag vr declared s) ≡ head_place named f (pl way 0) tag
  head_at way tag vr declared s f named e g =
      ap (λ (b : Bool). head_place b (form s (read_as s tag vr) declared) (pl way 0) tag) e ∙ ap (λ (x : Form). head_place named x (pl way 0) tag) g

  head_before : (way : List Tag) (tag : Tag) (vr : Vr) (declared : Length) (s : Syntax) (f : Form) → is_named q.tags tag ≡ true → form s (read_as s tag vr) declared ≡ f
      → before (pl way 0) (opens tag vr declared s) ≡ way_if (begins_at_head f q.mode && q.ways) way
  head_before way tag vr declared s f e g =
      ap (λ (b : Bool). way_if ((b && begins_at_head (form s (read_as s tag vr) declared) q.mode) && q.ways) way) e ∙ ap (λ (x : Form). way_if (begins_at_head x q.mode && q.ways) way) g

  -- ---- a leaf

  module _ (way : List Tag) (around : List Sets) (sets : Sets) (tag : Tag) (vr : Vr) (size : ℕ) (value : List ℕ) (s : Syntax) (g : form s (read_as s tag vr) (Known size) ≡ a_value) where
    abbrev a : Atom
    a = opens tag vr (Known size) s

    abbrev raw : List ℕ
    raw = order s vr value

    abbrev t0 : T
    t0 = now around sets

    abbrev head_writes : List ℕ
    head_writes = writes t0 a

    abbrev byte_writes : List ℕ
    byte_writes = outputs step writes (step t0 a) (map value_byte raw)

    -- up to its end
    opened_named : (others : List Atom) → is_named q.tags tag ≡ true
        → puts (pl way 0) t0 (a ∷ (map value_byte raw ++ others)) ≡ (way_if (not (begins_at_end q.mode) && q.ways) way ++ head_writes) ++ (byte_writes ++ puts (pl way 1) (fold step (step t0 a) (map value_byte raw)) others)
    opened_named others e =
        then_shown step over writes (pl way 0) t0 a (map value_byte raw ++ others) e
        ∙ ap (λ (z : List ℕ). (z ++ head_writes) ++ puts (next (pl way 0) a) (step t0 a) (map value_byte raw ++ others)) (head_before way tag vr (Known size) s a_value e g)
        ∙ ap (λ (x : Place). (way_if (not (begins_at_end q.mode) && q.ways) way ++ head_writes) ++ puts x (step t0 a) (map value_byte raw ++ others)) (head_at way tag vr (Known size) s a_value true e g)
        ∙ ap (λ (z : List ℕ). (way_if (not (begins_at_end q.mode) && q.ways) way ++ head_writes) ++ z) (bytes_put step over writes (pl way 1) (step t0 a) raw others refl)

    opened_over : (others : List Atom) → is_named q.tags tag ≡ false → puts (pl way 0) t0 (a ∷ (map value_byte raw ++ others)) ≡ puts (pl way 0) (fold over (over t0 a) (map value_byte raw)) others
    opened_over others e =
        then_over step over writes (pl way 0) t0 a (map value_byte raw ++ others) e
        ∙ ap (λ (x : Place). puts x (over t0 a) (map value_byte raw ++ others)) (head_at way tag vr (Known size) s a_value false e g)
        ∙ bytes_none step over writes (pl way 0) (over t0 a) raw others refl

    nothing_before : length value ≤ size → begins_at_end q.mode ≡ true → head_writes ++ byte_writes ≡ []
    nothing_before le late = wr.silent (is_short q.mode late) around sets tag vr size value s g le

  leaf_case : (named : Bool) (m : ℕ) (way : List Tag) (around : List Sets) (sets : Sets) (tag : Tag) (vr : Vr) (value : List ℕ) (s : Syntax) (others : List Atom) → is_named q.tags tag ≡ named → form s (read_as s tag vr) (Known (length value)) ≡ a_value
      → length around ≤ m → StaysShallow m (opens tag vr (Known (length value)) s ∷ (map value_byte (order s vr value) ++ closes_leaf ∷ others))
      → puts (pl way 0) (now around sets) (opens tag vr (Known (length value)) s ∷ (map value_byte (order s vr value) ++ closes_leaf ∷ others))
      ≡ (if named then piece q sets way (leaf tag vr value no_tree) else []) ++ puts (pl way 0) (now around (set_by tag vr value sets)) others
  unfolding ShowTrees sets_after
  leaf_case false m way around sets tag vr value s others e g ea h =
      let n : ℕ = length value in
      let u : T = fold over (over (now around sets) (opens tag vr (Known n) s)) (map value_byte (order s vr value)) in
      opened_over way around sets tag vr n value s g (closes_leaf ∷ others) e
      ∙ then_over step over writes (pl way 0) u closes_leaf others refl
      ∙ ap (λ (x : T). puts (pl way 0) x others) (sym (fold-append over (over (now around sets) (opens tag vr (Known n) s)) (map value_byte (order s vr value)) (closes_leaf ∷ [])) ∙ meets.leaf_over around sets tag vr value s g)
  leaf_case true m way around sets tag vr value s others e g ea h =
      let n : ℕ = length value in
      let a : Atom = opens tag vr (Known n) s in
      let raw : List ℕ = order s vr value in
      let t : T = now around sets in
      let u : T = fold step (step t a) (map value_byte raw) in
      let x : List ℕ = writes t a in
      let y : List ℕ = outputs step writes (step t a) (map value_byte raw) in
      let z : List ℕ = writes u closes_leaf in
      let whole : List Atom = a ∷ (map value_byte raw ++ closes_leaf ∷ []) in
      let short : StaysShallow m whole = stays_front m whole others (subst (StaysShallow m) (ap (λ (xs : List Atom). a ∷ xs) (sym (append_assoc (map value_byte raw) (closes_leaf ∷ []) others))) h) in
      let made : x ++ (y ++ z) ≡ lines_of q sets (leaf tag vr value no_tree) =
      ap (λ (k : List ℕ). x ++ (y ++ k)) (sym (append-nil z))
      ∙ ap (λ (k : List ℕ). x ++ k) (sym (outputs-append step writes (step t a) (map value_byte raw) (closes_leaf ∷ [])))
      ∙ wr.lines m around sets (leaf tag vr value no_tree) whole [] ea short (s, [], g, refl, refl)
      ∙ append-nil (lines_of q sets (leaf tag vr value no_tree)) in
      let left : step u closes_leaf ≡ now around (set_by tag vr value sets) = sym (fold-append step (step t a) (map value_byte raw) (closes_leaf ∷ [])) ∙ meets.leaf_left [] around sets tag vr value s g in
      let before_line : List ℕ = way_if (not (begins_at_end q.mode) && q.ways) way ++ x in
      opened_named way around sets tag vr n value s g (closes_leaf ∷ others) e
      ∙ ap (λ (k : List ℕ). before_line ++ (y ++ k)) (then_shown step over writes (pl way 1) u closes_leaf others refl)
      ∙ line_placed (begins_at_end q.mode) q.ways way x y z (puts (pl way 0) (step u closes_leaf) others) (nothing_before way around sets tag vr n value s g (omega arith))
      ∙ ap (λ (k : List ℕ). (way_by q.ways way ++ k) ++ puts (pl way 0) (step u closes_leaf) others) made
      ∙ ap (λ (k : T). piece q sets way (leaf tag vr value no_tree) ++ puts (pl way 0) k others) left

  -- ---- a sequence or fragment list that is named

  module _ (way : List Tag) (around : List Sets) (sets : Sets) (tag : Tag) (vr : Vr) (declared : Length) (s : Syntax) (f : Form) (g : form s (read_as s tag vr) declared ≡ f) (is_list : (mode : Mode) → begins_at_head f mode ≡ true) (e : is_named q.tags tag ≡ true) where
    abbrev opening : Atom
    opening = opens tag vr declared s

    abbrev outer : T
    outer = now around sets

    list_named : (contents : List Atom) → puts (pl way 0) outer (opening ∷ contents) ≡ (way_by q.ways way ++ writes outer opening) ++ puts (pl way 1) (step outer opening) contents
    list_named contents =
        then_shown step over writes (pl way 0) outer opening contents e
        ∙ ap (λ (z : List ℕ). (z ++ writes outer opening) ++ puts (next (pl way 0) opening) (step outer opening) contents) (head_before way tag vr declared s f e g ∙ ap (λ (b : Bool). way_if (b && q.ways) way) (is_list q.mode))
        ∙ ap (λ (x : Place). (way_by q.ways way ++ writes outer opening) ++ puts x (step outer opening) contents) (head_at way tag vr declared s f true e g)

    -- a whole one, whose contents are all shown
    pub list_whole : (m : ℕ) (x : Trees) (t1 : T) (contents others : List Atom) → step outer opening ≡ t1 → Walk step (pl way 1) t1 t1 contents (closes_sequence ∷ others) → step t1 closes_sequence ≡ outer
        → length around ≤ m → StaysShallow m (opening ∷ contents) → ShowTrees x (opening ∷ contents) others → sets_after sets x ≡ sets
        → puts (pl way 0) outer (opening ∷ contents) ≡ piece q sets way x ++ puts (pl way 0) outer others
    list_whole m x t1 contents others opens_to w ends_at ea h shown_as same =
        let first : List Atom = w.first in
        let rest : List ℕ = outputs step writes outer others in
        let within : List ℕ = outputs step writes t1 first in
        let last : List ℕ = writes t1 closes_sequence in
        let split_out : outputs step writes outer (opening ∷ contents) ≡ (writes outer opening ++ (within ++ last)) ++ rest =
        ap (λ (u : T). writes outer opening ++ outputs step writes u contents) opens_to
        ∙ ap (λ (xs : List Atom). writes outer opening ++ outputs step writes t1 xs) w.split
        ∙ ap (λ (z : List ℕ). writes outer opening ++ z) (outputs-append step writes t1 first (closes_sequence ∷ others))
        ∙ ap (λ (u : T). writes outer opening ++ (within ++ (writes u closes_sequence ++ outputs step writes (step u closes_sequence) others))) w.state
        ∙ ap (λ (u : T). writes outer opening ++ (within ++ (last ++ outputs step writes u others))) ends_at
        ∙ ap (λ (z : List ℕ). writes outer opening ++ z) (sym (append_assoc within last rest))
        ∙ sym (append_assoc (writes outer opening) (within ++ last) rest) in
        let lined : outputs step writes outer (opening ∷ contents) ≡ lines_of q sets x ++ rest = wr.lines m around sets x (opening ∷ contents) others ea h shown_as ∙ ap (λ (k : Sets). lines_of q sets x ++ outputs step writes (now around k) others) same in
        let made : writes outer opening ++ (within ++ last) ≡ lines_of q sets x = append_cancel_right _ _ rest (sym split_out ∙ lined) in
        let behind : List ℕ = puts (pl way 0) outer others in
        list_named contents
        ∙ ap (λ (u : T). (way_by q.ways way ++ writes outer opening) ++ puts (pl way 1) u contents) opens_to
        ∙ ap (λ (xs : List Atom). (way_by q.ways way ++ writes outer opening) ++ puts (pl way 1) t1 xs) w.split
        ∙ ap (λ (z : List ℕ). (way_by q.ways way ++ writes outer opening) ++ z) (through step over writes (pl way 1) t1 first (closes_sequence ∷ others) w.shown)
        ∙ ap (λ (r : Place). (way_by q.ways way ++ writes outer opening) ++ (within ++ puts r (fold step t1 first) (closes_sequence ∷ others))) w.place
        ∙ ap (λ (u : T). (way_by q.ways way ++ writes outer opening) ++ (within ++ puts (pl way 1) u (closes_sequence ∷ others))) w.state
        ∙ ap (λ (z : List ℕ). (way_by q.ways way ++ writes outer opening) ++ (within ++ z)) (then_shown step over writes (pl way 1) t1 closes_sequence others refl)
        ∙ ap (λ (u : T). (way_by q.ways way ++ writes outer opening) ++ (within ++ (last ++ puts (pl way 0) u others))) ends_at
        ∙ ap (λ (z : List ℕ). (way_by q.ways way ++ writes outer opening) ++ z) (sym (append_assoc within last behind))
        ∙ sym (append_assoc (way_by q.ways way ++ writes outer opening) (within ++ last) behind)
        ∙ ap (λ (z : List ℕ). z ++ behind) (append_assoc (way_by q.ways way) (writes outer opening) (within ++ last))
        ∙ ap (λ (z : List ℕ). (way_by q.ways way ++ z) ++ behind) made

    -- one that stays open
    pub list_open : (m : ℕ) (o : OpenTree) (closed : Bool) (contents : List Atom) → AllShown (pl way 1) contents → length around ≤ m → StaysShallow m (opening ∷ contents) → ShowsOpen o (end_atoms closed) (opening ∷ contents)
        → puts (pl way 0) outer (opening ∷ contents) ≡ way_by q.ways way ++ open_lines_of q sets o
    list_open m o closed contents k ea h shown_as =
        list_named contents
        ∙ ap (λ (xs : List Atom). (way_by q.ways way ++ writes outer opening) ++ puts (pl way 1) (step outer opening) xs) (sym (append-nil contents))
        ∙ ap (λ (z : List ℕ). (way_by q.ways way ++ writes outer opening) ++ z) (through step over writes (pl way 1) (step outer opening) contents [] k ∙ append-nil (outputs step writes (step outer opening) contents))
        ∙ append_assoc (way_by q.ways way) (writes outer opening) (outputs step writes (step outer opening) contents)
        ∙ ap (λ (z : List ℕ). way_by q.ways way ++ z) (wr.open_lines m around sets o closed (opening ∷ contents) ea h shown_as)

  -- ---- one that is not named

  enters : (m : ℕ) (way : List Tag) (tag : Tag) (contents : List Atom) → StaysShallow m contents → length way ≤ m → entered tag way ≡ tag ∷ way
  enters m way tag contents h ew =
      let most : m ≤ 64 = h [] contents refl in
      if_true (nat_lt (length way) 128) (tag ∷ way) way (lt-ltb (length way) 128 (omega (arith, ew, most)))

  list_passed : (m : ℕ) (way : List Tag) (around : List Sets) (sets : Sets) (tag : Tag) (vr : Vr) (declared : Length) (s : Syntax) (f : Form) (contents : List Atom) → form s (read_as s tag vr) declared ≡ f → opens_list f ≡ true → is_named q.tags tag ≡ false
      → length way ≤ m → StaysShallow m contents → puts (pl way 0) (now around sets) (opens tag vr declared s ∷ contents) ≡ puts (pl (tag ∷ way) 0) (now around sets) contents
  list_passed m way around sets tag vr declared s f contents g is_list e ew h =
      then_over step over writes (pl way 0) (now around sets) (opens tag vr declared s) contents e
      ∙ same_place _ (pl (tag ∷ way) 0) _ (now around sets) contents
      (head_at way tag vr declared s f false e g ∙ ap (λ (b : Bool). pl (if b then entered tag way else way) 0) is_list ∙ ap (λ (w : List Tag). pl w 0) (enters m way tag contents h ew))
      (meets.list_over around sets tag vr declared s f g is_list)

  list_left : (way : List Tag) (around : List Sets) (sets : Sets) (tag : Tag) (others : List Atom) → puts (pl (tag ∷ way) 0) (now around sets) (closes_sequence ∷ others) ≡ puts (pl way 0) (now around sets) others
  list_left way around sets tag others =
      then_over step over writes (pl (tag ∷ way) 0) (now around sets) closes_sequence others refl ∙ ap (λ (u : T). puts (pl way 0) u others) (meets.list_ends around sets)

  fragment_passed : (way : List Tag) (around : List Sets) (sets : Sets) (v : List ℕ) (others : List Atom) → puts (pl way 0) (now around sets) (opens_fragment (length v) ∷ (map value_byte v ++ closes_leaf ∷ others)) ≡ puts (pl way 0) (now around sets) others
  fragment_passed way around sets v others =
      let a : Atom = opens_fragment (length v) in
      let u : T = fold over (over (now around sets) a) (map value_byte v) in
      then_over step over writes (pl way 0) (now around sets) a (map value_byte v ++ closes_leaf ∷ others) refl
      ∙ bytes_none step over writes (pl way 0) (over (now around sets) a) v (closes_leaf ∷ others) refl
      ∙ then_over step over writes (pl way 0) u closes_leaf others refl
      ∙ ap (λ (x : T). puts (pl way 0) x others) (sym (fold-append over (over (now around sets) a) (map value_byte v) (closes_leaf ∷ [])) ∙ meets.fragment_over around sets v)

  fragments_passed : (way : List Tag) (around : List Sets) (sets : Sets) (values : List (List ℕ)) (others : List Atom) → puts (pl way 0) (now around sets) (fragments_then values others) ≡ puts (pl way 0) (now around sets) others
  unfolding fragments_then
  fragments_passed way around sets [] others = refl
  fragments_passed way around sets (v ∷ values) others = fragment_passed way around sets v (fragments_then values others) ∙ fragments_passed way around sets values others

  open_fragment_passed : (way : List Tag) (around : List Sets) (sets : Sets) (last : Option (ℕ × List ℕ)) → puts (pl way 0) (now around sets) (open_fragment_atoms last) ≡ []
  open_fragment_passed way around sets None = refl
  open_fragment_passed way around sets (Some f) =
      let a : Atom = opens_fragment f.0 in
      then_over step over writes (pl way 0) (now around sets) a (map value_byte f.1) refl
      ∙ ap (puts (pl way 0) (over (now around sets) a)) (sym (append-nil (map value_byte f.1)))
      ∙ bytes_none step over writes (pl way 0) (over (now around sets) a) f.1 [] refl

  item_passed : (m : ℕ) (way : List Tag) (around : List Sets) (sets : Sets) (declared : Length) (contents : List Atom) → StaysShallow m contents → length around + 1 ≤ m
      → puts (pl way 0) (now around sets) (opens_item declared ∷ contents) ≡ puts (pl way 0) (now (sets ∷ around) sets) contents
  item_passed m way around sets declared contents h ea =
      then_over step over writes (pl way 0) (now around sets) (opens_item declared) contents refl
      ∙ ap (λ (u : T). puts (pl way 0) u contents) (meets.item_over around sets declared (room_around step over at meets (pl way 0) m around contents h ea))

  item_left : (way : List Tag) (around : List Sets) (outside sets : Sets) (others : List Atom) → puts (pl way 0) (now (outside ∷ around) sets) (closes_item ∷ others) ≡ puts (pl way 0) (now around outside) others
  item_left way around outside sets others =
      then_over step over writes (pl way 0) (now (outside ∷ around) sets) closes_item others refl ∙ ap (λ (u : T). puts (pl way 0) u others) (meets.item_ends around outside sets)

  -- ---- all elements

  then_rest : (x y z : List ℕ) (rest : List ℕ) → y ≡ z ++ rest → x ++ y ≡ (x ++ z) ++ rest
  then_rest x y z rest e = ap (λ (k : List ℕ). x ++ k) e ∙ sym (append_assoc x z rest)

  sequence_case : (named : Bool) (m : ℕ) (way : List Tag) (around : List Sets) (sets : Sets) (tag : Tag) (vr : Vr) (declared : Length) (items : Items) (s : Syntax) (contents others : List Atom)
      → is_named q.tags tag ≡ named → form s (read_as s tag vr) declared ≡ a_sequence → length way ≤ m → length around ≤ m → StaysShallow m (opens tag vr declared s ∷ contents) → StaysShallow (suc m) contents → ShowItems items contents (closes_sequence ∷ others)
      → puts (pl (tag ∷ way) 0) (now around sets) contents ≡ named_items q sets (tag ∷ way) items ++ puts (pl (tag ∷ way) 0) (now around sets) (closes_sequence ∷ others)
      → puts (pl way 0) (now around sets) (opens tag vr declared s ∷ contents) ≡ (if named then piece q sets way (sequence tag vr declared items no_tree) else named_items q sets (tag ∷ way) items) ++ puts (pl way 0) (now around sets) others
  unfolding ShowTrees sets_after
  sequence_case true m way around sets tag vr declared items s contents others e g ew ea h in_h shown inner =
      list_whole way around sets tag vr declared s a_sequence g (λ mode. refl) e m (sequence tag vr declared items no_tree) (at (declared ∷ []) around sets) contents others
      (meets.list_entered [] around sets tag vr declared s a_sequence g refl (omega arith))
      (items_walk step over at meets (pl way 0) items (suc m) 0 (declared ∷ []) around sets contents (closes_sequence ∷ others) (omega arith) (omega (arith, ea)) (omega arith) in_h shown)
      (meets.list_left [] around sets declared) ea h (s, contents, others, g, refl, shown, refl) refl
  sequence_case false m way around sets tag vr declared items s contents others e g ew ea h in_h shown inner =
      list_passed (suc m) way around sets tag vr declared s a_sequence contents g refl e (omega (arith, ew)) in_h
      ∙ inner
      ∙ ap (λ (k : List ℕ). named_items q sets (tag ∷ way) items ++ k) (list_left way around sets tag others)

  fragments_case : (named : Bool) (m : ℕ) (way : List Tag) (around : List Sets) (sets : Sets) (tag : Tag) (vr : Vr) (values : List (List ℕ)) (s : Syntax) (others : List Atom)
      → is_named q.tags tag ≡ named → form s (read_as s tag vr) Undefined ≡ a_fragment_list → length way ≤ m → length around ≤ m → StaysShallow m (opens tag vr Undefined s ∷ fragments_then values (closes_sequence ∷ others)) → StaysShallow (suc m) (fragments_then values (closes_sequence ∷ others))
      → puts (pl way 0) (now around sets) (opens tag vr Undefined s ∷ fragments_then values (closes_sequence ∷ others)) ≡ (if named then piece q sets way (fragments tag vr values no_tree) else []) ++ puts (pl way 0) (now around sets) others
  unfolding ShowTrees sets_after
  fragments_case true m way around sets tag vr values s others e g ew ea h in_h =
      list_whole way around sets tag vr Undefined s a_fragment_list g (λ mode. refl) e m (fragments tag vr values no_tree) (at (Undefined ∷ []) around sets) (fragments_then values (closes_sequence ∷ others)) others
      (meets.list_entered [] around sets tag vr Undefined s a_fragment_list g refl (omega arith))
      (fragments_walk step over at meets (pl way 0) 0 (Undefined ∷ []) around sets values (closes_sequence ∷ others) (omega arith))
      (meets.list_left [] around sets Undefined) ea h (s, others, g, refl, refl) refl
  fragments_case false m way around sets tag vr values s others e g ew ea h in_h =
      list_passed (suc m) way around sets tag vr Undefined s a_fragment_list (fragments_then values (closes_sequence ∷ others)) g refl e (omega (arith, ew)) in_h
      ∙ fragments_passed (tag ∷ way) around sets values (closes_sequence ∷ others)
      ∙ list_left way around sets tag others

  mutual
    unfolding ShowTrees named_set sets_after

    pub trees_named : (x : Trees) (m : ℕ) (way : List Tag) (around : List Sets) (sets : Sets) (atoms after : List Atom) → length way ≤ m → length around ≤ m → StaysShallow m atoms → ShowTrees x atoms after
        → puts (pl way 0) (now around sets) atoms ≡ named_set q sets way x ++ puts (pl way 0) (now around (sets_after sets x)) after
    trees_named no_tree m way around sets atoms after ew ea h w = ap (puts (pl way 0) (now around sets)) w
    trees_named (leaf tag vr value rest) m way around sets atoms after ew ea h w =
        let here_h = stays_same m atoms _ w.3 h in
        let opened_h = stays_opened m a_value tag vr (Known (length value)) w.0 (map value_byte (order w.0 vr value) ++ closes_leaf ∷ w.1) w.2 here_h in
        let rest_h : StaysShallow m w.1 = stays_on m closes_leaf w.1 (stays_bytes m (order w.0 vr value) (closes_leaf ∷ w.1) opened_h) in
        ap (puts (pl way 0) (now around sets)) w.3
        ∙ leaf_case (is_named q.tags tag) m way around sets tag vr value w.0 w.1 refl w.2 ea here_h
        ∙ then_rest (if is_named q.tags tag then piece q sets way (leaf tag vr value no_tree) else []) _ _ _ (trees_named rest m way around (set_by tag vr value sets) w.1 after ew ea rest_h w.4)
    trees_named (sequence tag vr declared items rest) m way around sets atoms after ew ea h w =
        let here_h = stays_same m atoms _ w.4 h in
        let in_h : StaysShallow (suc m) w.1 = stays_opened m a_sequence tag vr declared w.0 w.1 w.3 here_h in
        let rest_h : StaysShallow m w.2 = stays_on (suc m) closes_sequence w.2 (stays_items (suc m) items w.1 (closes_sequence ∷ w.2) w.5 in_h) in
        ap (puts (pl way 0) (now around sets)) w.4
        ∙ sequence_case (is_named q.tags tag) m way around sets tag vr declared items w.0 w.1 w.2 refl w.3 ew ea here_h in_h w.5
        (items_named items (suc m) (tag ∷ way) around sets w.1 (closes_sequence ∷ w.2) (omega (arith, ew)) (omega (arith, ea)) in_h w.5)
        ∙ then_rest (if is_named q.tags tag then piece q sets way (sequence tag vr declared items no_tree) else named_items q sets (tag ∷ way) items) _ _ _ (trees_named rest m way around sets w.2 after ew ea rest_h w.6)
    trees_named (fragments tag vr values rest) m way around sets atoms after ew ea h w =
        let here_h = stays_same m atoms _ w.3 h in
        let contents : List Atom = fragments_then values (closes_sequence ∷ w.1) in
        let in_h : StaysShallow (suc m) contents = stays_opened m a_fragment_list tag vr Undefined w.0 contents w.2 here_h in
        let rest_h : StaysShallow m w.1 = stays_on (suc m) closes_sequence w.1 (stays_fragments (suc m) values (closes_sequence ∷ w.1) in_h) in
        ap (puts (pl way 0) (now around sets)) w.3
        ∙ fragments_case (is_named q.tags tag) m way around sets tag vr values w.0 w.1 refl w.2 ew ea here_h in_h
        ∙ then_rest (if is_named q.tags tag then piece q sets way (fragments tag vr values no_tree) else []) _ _ _ (trees_named rest m way around sets w.1 after ew ea rest_h w.4)

    pub items_named : (x : Items) (m : ℕ) (way : List Tag) (around : List Sets) (sets : Sets) (atoms after : List Atom) → length way ≤ m → length around + 1 ≤ m → StaysShallow m atoms → ShowItems x atoms after
        → puts (pl way 0) (now around sets) atoms ≡ named_items q sets way x ++ puts (pl way 0) (now around sets) after
    items_named no_item m way around sets atoms after ew ea h w = ap (puts (pl way 0) (now around sets)) w
    items_named (item declared set rest) m way around sets atoms after ew ea h w =
        let in_h : StaysShallow m w.0 = stays_on m (opens_item declared) w.0 (stays_same m atoms _ w.2 h) in
        let rest_h : StaysShallow m w.1 = stays_on m closes_item w.1 (stays_trees m set w.0 (closes_item ∷ w.1) w.3 in_h) in
        ap (puts (pl way 0) (now around sets)) w.2
        ∙ item_passed m way around sets declared w.0 in_h ea
        ∙ trees_named set m way (sets ∷ around) sets w.0 (closes_item ∷ w.1) ew (omega (arith, ea)) in_h w.3
        ∙ ap (λ (k : List ℕ). named_set q sets way set ++ k) (item_left way around sets (sets_after sets set) w.1)
        ∙ then_rest (named_set q sets way set) _ _ _ (items_named rest m way around sets w.1 after ew ea rest_h w.4)

  -- ---- what stands open

  leaf_open_case : (named : Bool) (m : ℕ) (way : List Tag) (around : List Sets) (sets : Sets) (tag : Tag) (vr : Vr) (size : ℕ) (value : List ℕ) (s : Syntax) (closed : Bool) → is_named q.tags tag ≡ named → form s (read_as s tag vr) (Known size) ≡ a_value → length value < size
      → length around ≤ m → StaysShallow m (opens tag vr (Known size) s ∷ map value_byte (order s vr value))
      → puts (pl way 0) (now around sets) (opens tag vr (Known size) s ∷ map value_byte (order s vr value)) ≡ (if named then open_piece q sets way (open_leaf tag vr size value) else [])
  unfolding Shows
  leaf_open_case false m way around sets tag vr size value s closed e g less ea h =
      ap (λ (xs : List Atom). puts (pl way 0) (now around sets) (opens tag vr (Known size) s ∷ xs)) (sym (append-nil (map value_byte (order s vr value))))
      ∙ opened_over way around sets tag vr size value s g [] e
  leaf_open_case true m way around sets tag vr size value s closed e g less ea h =
      let a : Atom = opens tag vr (Known size) s in
      let t : T = now around sets in
      let x : List ℕ = writes t a in
      let y : List ℕ = outputs step writes (step t a) (map value_byte (order s vr value)) in
      ap (λ (xs : List Atom). puts (pl way 0) (now around sets) (a ∷ xs)) (sym (append-nil (map value_byte (order s vr value))))
      ∙ opened_named way around sets tag vr size value s g [] e
      ∙ ap (λ (k : List ℕ). (way_if (not (begins_at_end q.mode) && q.ways) way ++ x) ++ k) (append-nil y)
      ∙ open_placed q.mode q.ways way x y (nothing_before way around sets tag vr size value s g (omega (arith, less)))
      ∙ ap (open_line q.mode (way_by q.ways way)) (wr.open_lines m around sets (open_leaf tag vr size value) closed (a ∷ map value_byte (order s vr value)) ea h (s, g, less, refl))

  nothing_named : (way : List Tag) (around : List Sets) (sets : Sets) (closed : Bool) → puts (pl way 0) (now around sets) (end_atoms closed) ≡ []
  nothing_named way around sets true = refl
  nothing_named way around sets false = refl

  sequence_open_case : (named closed : Bool) (m : ℕ) (way : List Tag) (around : List Sets) (sets : Sets) (tag : Tag) (vr : Vr) (declared : Length) (items : Items) (last : OpenItem) (s : Syntax) (contents others : List Atom)
      → is_named q.tags tag ≡ named → form s (read_as s tag vr) declared ≡ a_sequence → length way ≤ m → length around ≤ m → StaysShallow m (opens tag vr declared s ∷ contents) → StaysShallow (suc m) contents → ShowItems items contents others → ShowsOpenItem last others
      → puts (pl (tag ∷ way) 0) (now around sets) contents ≡ named_items q sets (tag ∷ way) items ++ named_open_item q sets (tag ∷ way) last
      → puts (pl way 0) (now around sets) (opens tag vr declared s ∷ contents)
      ≡ (if named then open_piece q sets way (open_sequence tag vr declared items last) else named_items q sets (tag ∷ way) items ++ named_open_item q sets (tag ∷ way) last)
  unfolding Shows
  sequence_open_case true closed m way around sets tag vr declared items last s contents others e g ew ea h in_h shown last_shown inner =
      list_open way around sets tag vr declared s a_sequence g (λ mode. refl) e m (open_sequence tag vr declared items last) closed contents
      (contents_shown step over at meets (pl way 0) items last (suc m) 0 (declared ∷ []) around sets contents others (omega arith) (omega (arith, ea)) (omega arith) in_h shown last_shown)
      ea h (s, contents, others, g, refl, shown, last_shown)
  sequence_open_case false closed m way around sets tag vr declared items last s contents others e g ew ea h in_h shown last_shown inner =
      list_passed (suc m) way around sets tag vr declared s a_sequence contents g refl e (omega (arith, ew)) in_h
      ∙ inner

  fragments_open_case : (named closed : Bool) (m : ℕ) (way : List Tag) (around : List Sets) (sets : Sets) (tag : Tag) (vr : Vr) (values : List (List ℕ)) (last : Option (ℕ × List ℕ)) (s : Syntax)
      → is_named q.tags tag ≡ named → form s (read_as s tag vr) Undefined ≡ a_fragment_list → length way ≤ m → length around ≤ m → StaysShallow m (opens tag vr Undefined s ∷ fragments_then values (open_fragment_atoms last)) → StaysShallow (suc m) (fragments_then values (open_fragment_atoms last))
      → ShowsOpen (open_fragments tag vr values last) (end_atoms closed) (opens tag vr Undefined s ∷ fragments_then values (open_fragment_atoms last))
      → puts (pl way 0) (now around sets) (opens tag vr Undefined s ∷ fragments_then values (open_fragment_atoms last)) ≡ (if named then open_piece q sets way (open_fragments tag vr values last) else [])
  unfolding Shows
  fragments_open_case true closed m way around sets tag vr values last s e g ew ea h in_h shown =
      let w = fragments_walk step over at meets (pl way 0) 0 (Undefined ∷ []) around sets values (open_fragment_atoms last) (omega arith) in
      list_open way around sets tag vr Undefined s a_fragment_list g (λ mode. refl) e m (open_fragments tag vr values last) closed (fragments_then values (open_fragment_atoms last))
      (subst (AllShown (pl way 1)) (sym w.split) (all_then (pl way 1) w.first (open_fragment_atoms last) w.shown (subst (λ (r : Place). AllShown r (open_fragment_atoms last)) (sym w.place) (fragment_shown step over at meets (pl way 0) 0 last (omega arith)))))
      ea h shown
  fragments_open_case false closed m way around sets tag vr values last s e g ew ea h in_h shown =
      list_passed (suc m) way around sets tag vr Undefined s a_fragment_list (fragments_then values (open_fragment_atoms last)) g refl e (omega (arith, ew)) in_h
      ∙ fragments_passed (tag ∷ way) around sets values (open_fragment_atoms last)
      ∙ open_fragment_passed (tag ∷ way) around sets last

  mutual
    unfolding Shows named_front

    pub front_named : (f : Front) (m : ℕ) (way : List Tag) (around : List Sets) (sets : Sets) (atoms : List Atom) → length way ≤ m → length around ≤ m → StaysShallow m atoms → Shows f atoms
        → puts (pl way 0) (now around sets) atoms ≡ named_front q sets way f
    front_named (front whole o reached closed) m way around sets atoms ew ea h w =
        trees_named whole m way around sets atoms w.0 ew ea h w.1
        ∙ ap (λ (k : List ℕ). named_set q sets way whole ++ k) (open_named o closed m way around (sets_after sets whole) w.0 ew ea (stays_trees m whole atoms w.0 w.1 h) w.2)

    pub open_named : (o : OpenTree) (closed : Bool) (m : ℕ) (way : List Tag) (around : List Sets) (sets : Sets) (atoms : List Atom) → length way ≤ m → length around ≤ m → StaysShallow m atoms → ShowsOpen o (end_atoms closed) atoms
        → puts (pl way 0) (now around sets) atoms ≡ named_open q sets way o
    open_named nothing_open closed m way around sets atoms ew ea h w = ap (puts (pl way 0) (now around sets)) w ∙ nothing_named way around sets closed
    open_named (open_leaf tag vr size value) closed m way around sets atoms ew ea h w =
        ap (puts (pl way 0) (now around sets)) w.3
        ∙ leaf_open_case (is_named q.tags tag) m way around sets tag vr size value w.0 closed refl w.1 w.2 ea (stays_same m atoms _ w.3 h)
    open_named (open_sequence tag vr declared items last) closed m way around sets atoms ew ea h w =
        let here_h = stays_same m atoms _ w.4 h in
        let in_h : StaysShallow (suc m) w.1 = stays_opened m a_sequence tag vr declared w.0 w.1 w.3 here_h in
        ap (puts (pl way 0) (now around sets)) w.4
        ∙ sequence_open_case (is_named q.tags tag) closed m way around sets tag vr declared items last w.0 w.1 w.2 refl w.3 ew ea here_h in_h w.5 w.6
        (items_named items (suc m) (tag ∷ way) around sets w.1 w.2 (omega (arith, ew)) (omega (arith, ea)) in_h w.5
        ∙ ap (λ (k : List ℕ). named_items q sets (tag ∷ way) items ++ k) (open_item_named last (suc m) (tag ∷ way) around sets w.2 (omega (arith, ew)) (omega (arith, ea)) (stays_items (suc m) items w.1 w.2 w.5 in_h) w.6))
    open_named (open_fragments tag vr values last) closed m way around sets atoms ew ea h w =
        let here_h = stays_same m atoms _ w.3 h in
        let contents : List Atom = fragments_then values (open_fragment_atoms last) in
        let in_h : StaysShallow (suc m) contents = stays_opened m a_fragment_list tag vr Undefined w.0 contents w.1 here_h in
        ap (puts (pl way 0) (now around sets)) w.3
        ∙ fragments_open_case (is_named q.tags tag) closed m way around sets tag vr values last w.0 refl w.1 ew ea here_h in_h (w.0, w.1, w.2, refl)

    pub open_item_named : (o : OpenItem) (m : ℕ) (way : List Tag) (around : List Sets) (sets : Sets) (atoms : List Atom) → length way ≤ m → length around + 1 ≤ m → StaysShallow m atoms → ShowsOpenItem o atoms
        → puts (pl way 0) (now around sets) atoms ≡ named_open_item q sets way o
    open_item_named no_open_item m way around sets atoms ew ea h w = ap (puts (pl way 0) (now around sets)) w
    open_item_named (open_item declared set) m way around sets atoms ew ea h w =
        let in_h : StaysShallow m w.0 = stays_on m (opens_item declared) w.0 (stays_same m atoms _ w.1 h) in
        ap (puts (pl way 0) (now around sets)) w.1
        ∙ item_passed m way around sets declared w.0 in_h ea
        ∙ front_named set m way (sets ∷ around) sets w.0 ew (omega (arith, ea)) in_h w.3
