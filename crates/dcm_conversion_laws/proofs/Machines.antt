-- A machine goes as one with the extract, where each element that this one shows says what it holds.
use Rattle.std.proofs.Common.{◌≡◌, ◌∙◌, ap, sym, refl, subst, ℕ, zero, suc, ◌+◌, List, [], ◌∷◌, ◌++◌, length, drop, Option, Some, None, Bool, true, false, cond, not, append-nil, append_assoc, inl, inr, ◌⊎◌}
use Rattle.std.specs.Prelude.{◌==◌, ◌&&◌, fold, nat_lt, if◌then◌else◌}
use Rattle.dcm_base.specs.declared.dictionary.Dictionary.{Dictionary}
use Rattle.dcm_base.specs.declared.fault.Fault.{Fault}
use Rattle.dcm_base.specs.declared.form.Form.{Form}
use Rattle.dcm_base.specs.declared.form.Form.TheVariants.{Value as a_value, Sequence as a_sequence, FragmentList as a_fragment_list, Nothing as no_form}
use Rattle.dcm_base.specs.declared.length.Length.{Length}
use Rattle.dcm_base.specs.declared.level.Container.{Container}
use Rattle.dcm_base.specs.declared.level.Container.TheVariants.{DataSet as the_data_set, Item as an_item, Sequence as sequence_container, FragmentList as fragment_container}
use Rattle.dcm_base.specs.declared.level.Level.{Level}
use Rattle.dcm_base.specs.declared.syntax.Syntax.{Syntax}
use Rattle.dcm_base.specs.declared.syntax.Syntax.TheVariants.{Implicit as implicit_in, Little as little_in, Big as big_in}
use Rattle.dcm_base.specs.declared.tag.Tag.{Tag}
use Rattle.dcm_base.specs.declared.vr.Vr.{Vr}
use Rattle.dcm_base.specs.declared.vr.Vr.TheVariants.{SQ}
use Rattle.dcm_base.specs.Bytes.Head.{length_at, long_length, tag_at, vr_at}
use Rattle.dcm_base.specs.Bytes.Spelling.{form, inside, is_one, read_as, read_in, sign_after}
use Rattle.dcm_base.specs.Conversion.Recode.{is_explicit}
use Rattle.dcm_base.specs.Reading.Place.{level, passes, room}
use Rattle.dcm_base.specs.Reading.Reads.{INPUT_LIMIT}
use Rattle.dcm_base.specs.Reading.Stop.{HeadBar, Stop, complete, innermost_stop, is_early, is_empty, is_undecided, refused}
use Rattle.dcm_base.specs.declared.fault.Fault.TheVariants.{EndsEarly, PassesEnd, TooDeep}
use Rattle.dcm_base.specs.Steps.Atoms.{Atom, closes_leaf, opens, opens_fragment, value_byte}
use Rattle.dcm_base.specs.Tables.Dictionary.{if_signed}
use Rattle.dcm_base.specs.Tables.Number.{number}
use Rattle.dcm_base.specs.Tables.Syntax.{dictionary_of}
use Rattle.dcm_base.specs.Tables.Tag.{is_item}
use Rattle.dcm_base.specs.Tree.Value.{order}
use Rattle.dcm_base.proofs.DataSets.Alike.{Alike, alike_then, read_by_dictionary, sign_alike}
use Rattle.dcm_conversion_laws.proofs.Kept.{explicit_by}
use Rattle.dcm_stream.specs.Reading.{Opened, Reading, Sign, byte_read, closes, element_opens, ends_at, finish, full_closed, halted, head_opens, head_read, in_syntax, is_top, item_opens, plain_opens, read_byte, reads_byte, settled, sign_ends, sign_of, sign_reads, signed_by, size_of, stop_at_end, value_left, without_value}
use Rattle.dcm_conversion_laws.proofs.Plain.{plain}
use Rattle.dcm_conversion_laws.proofs.Shown.{AllAlike, AllSay, AtomAlike, AtomSays, both_all, first_all, later_all, plain_atom, plain_atoms, plain_both}
use Rattle.dcm_conversion_laws.proofs.Stops.{BarsLate, Deeper, Forms, KnownLevels, Near, differ, forms, length_plain, never_list, number_plain, place_alike, plain_levels, room_plain, same, tag_plain, vr_plain}

-- ---- levels

full_plain : (p : ℕ) (ls : List Level) → full_closed p (plain_levels ls) ≡ (plain_levels (full_closed p ls).0, (full_closed p ls).1)
unfolding full_closed
full_plain p [] = refl
full_plain p (l ∷ ls) = by_end (ends_at p l.end_offset) (full_plain p ls)
  where
    by_end : (t : Bool) → full_closed p (plain_levels ls) ≡ (plain_levels (full_closed p ls).0, (full_closed p ls).1)
        → cond {A = List Level × List Atom} t ((full_closed p (plain_levels ls)).0, closes l.container ∷ (full_closed p (plain_levels ls)).1) (in_syntax (plain l.syntax) l ∷ plain_levels ls, [])
        ≡ (plain_levels (cond {A = List Level × List Atom} t ((full_closed p ls).0, closes l.container ∷ (full_closed p ls).1) (l ∷ ls, [])).0, (cond {A = List Level × List Atom} t ((full_closed p ls).0, closes l.container ∷ (full_closed p ls).1) (l ∷ ls, [])).1)
    by_end true h = ap (λ (x : List Level × List Atom). (x.0, closes l.container ∷ x.1)) h
    by_end false h = refl

closes_plain : (c : Container) → plain_atom (closes c) ≡ closes c
closes_plain the_data_set = refl
closes_plain an_item = refl
closes_plain sequence_container = refl
closes_plain fragment_container = refl

closes_alike : (c : Container) → AtomAlike (closes c)
closes_alike the_data_set = tt
closes_alike an_item = tt
closes_alike sequence_container = tt
closes_alike fragment_container = tt

full_shows : (p : ℕ) (ls : List Level) → ((full_closed p ls).1 ≡ plain_atoms (full_closed p ls).1) × AllAlike (full_closed p ls).1
unfolding full_closed
full_shows p [] = (refl, tt)
full_shows p (l ∷ ls) = by_end (ends_at p l.end_offset) (full_shows p ls)
  where
    by_end : (t : Bool) → ((full_closed p ls).1 ≡ plain_atoms (full_closed p ls).1) × AllAlike (full_closed p ls).1
        → ((cond {A = List Level × List Atom} t ((full_closed p ls).0, closes l.container ∷ (full_closed p ls).1) (l ∷ ls, [])).1 ≡ plain_atoms (cond {A = List Level × List Atom} t ((full_closed p ls).0, closes l.container ∷ (full_closed p ls).1) (l ∷ ls, [])).1)
        × AllAlike (cond {A = List Level × List Atom} t ((full_closed p ls).0, closes l.container ∷ (full_closed p ls).1) (l ∷ ls, [])).1
    by_end true h = (ap (λ (x : List Atom). closes l.container ∷ x) h.0 ∙ ap (λ (x : Atom). x ∷ plain_atoms (full_closed p ls).1) (sym (closes_plain l.container)), (closes_alike l.container, h.1))
    by_end false h = (refl, tt)

full_known : (e : Dictionary) (p : ℕ) (ls : List Level) → KnownLevels e ls → KnownLevels e (full_closed p ls).0
unfolding full_closed
full_known e p [] h = tt
full_known e p (l ∷ ls) h = by_end (ends_at p l.end_offset) (full_known e p ls h.2)
  where
    by_end : (t : Bool) → KnownLevels e (full_closed p ls).0 → KnownLevels e (cond {A = List Level × List Atom} t ((full_closed p ls).0, closes l.container ∷ (full_closed p ls).1) (l ∷ ls, [])).0
    by_end true k = k
    by_end false k = h

signed_plain : (sign : Sign) (s : Syntax) → signed_by sign (plain s) ≡ plain (signed_by sign s)
signed_plain sign (implicit_in d) = refl
signed_plain sign (little_in d) = refl
signed_plain sign (big_in d) = refl

sign_plain : (sign : Option Sign) (ls : List Level) → sign_ends sign (plain_levels ls) ≡ plain_levels (sign_ends sign ls)
sign_plain None ls = refl
sign_plain (Some sign) [] = refl
sign_plain (Some sign) (l ∷ ls) = ap (λ (s : Syntax). in_syntax s l ∷ plain_levels ls) (signed_plain sign l.syntax)

either_sign : (vr : Vr) (v : List ℕ) (d : Dictionary) → Alike (if_signed (is_one vr v) d) d
unfolding sign_after
either_sign vr v d = sign_alike d (record { group = 0x28; element = 0x103 }) vr v

sign_known : (e : Dictionary) (sign : Option Sign) (ls : List Level) → KnownLevels e ls → KnownLevels e (sign_ends sign ls)
sign_known e None ls h = h
sign_known e (Some sign) [] h = h
sign_known e (Some sign) (l ∷ ls) h =
    let s : Syntax = l.syntax in
    let v : List ℕ = order s sign.vr sign.first in
    let d : Dictionary = if_signed (is_one sign.vr v) (dictionary_of s) in (
      explicit_by d s ∙ h.0,
      subst (λ (k : Dictionary). Alike k e) (sym (read_by_dictionary d s)) (alike_then d (dictionary_of s) e (either_sign sign.vr v (dictionary_of s)) h.1),
      h.2,
    )

-- ---- what is opened

pub record SameOpened (e : Dictionary) (x o : Opened) : Type 0 where
  pub levels_are : x.levels ≡ plain_levels o.levels
  pub left_is : x.left ≡ o.left
  pub sign_is : x.sign ≡ o.sign
  pub known : KnownLevels e o.levels
  pub atoms_are : x.atoms ≡ plain_atoms o.atoms
  pub alike : AllAlike o.atoms

value_same : (e : Dictionary) (left : ℕ) (sign : Option Sign) (ls : List Level) (a : List Atom) → KnownLevels e ls → AllAlike a → SameOpened e (value_left left sign (plain_levels ls) (plain_atoms a)) (value_left left sign ls a)
value_same e zero sign ls a h alike = record {
  levels_are = sign_plain sign ls;
  left_is = refl;
  sign_is = refl;
  known = sign_known e sign ls h;
  atoms_are = sym (plain_both a (closes_leaf ∷ []));
  alike = both_all AtomAlike a (closes_leaf ∷ []) alike (tt, tt);
}
value_same e (suc n) sign ls a h alike = record {
  levels_are = refl;
  left_is = refl;
  sign_is = refl;
  known = h;
  atoms_are = sym (plain_both a []);
  alike = both_all AtomAlike a [] alike tt;
}

inside_is : (s : Syntax) → inside s SQ ≡ s
unfolding inside
inside_is s = refl

element_same : (e : Dictionary) (k : Form) (s : Syntax) (tag : Tag) (vr : Vr) (declared : Length) (begin : ℕ) (around : List Level) → is_explicit s ≡ true → Alike (dictionary_of s) e → KnownLevels e around → (k ≡ a_sequence → vr ≡ SQ) → AtomAlike (opens tag vr declared s)
    → SameOpened e (element_opens k (plain s) tag vr declared begin (plain_levels around)) (element_opens k s tag vr declared begin around)
element_same e a_value s tag vr declared begin around explicit alike known list formed = value_same e (size_of declared) (sign_of tag vr) around (opens tag vr declared s ∷ []) known (formed, tt)
element_same e a_sequence s tag vr declared begin around explicit alike known list formed =
    let own : inside s vr ≡ s = ap (inside s) (list refl) ∙ inside_is s in
    let first : inside (plain s) vr ≡ plain s = ap (inside (plain s)) (list refl) ∙ inside_is (plain s) in
    record {
      levels_are = ap (λ (z : Syntax). level sequence_container z declared begin ∷ plain_levels around) (first ∙ ap plain (sym own));
      left_is = refl;
      sign_is = refl;
      known = (subst (λ (z : Syntax). is_explicit z ≡ true) (sym own) explicit, subst (λ (z : Syntax). Alike (dictionary_of z) e) (sym own) alike, known);
      atoms_are = refl;
      alike = (formed, tt);
    }
element_same e a_fragment_list s tag vr declared begin around explicit alike known list formed = record { levels_are = refl; left_is = refl; sign_is = refl; known = (explicit, alike, known); atoms_are = refl; alike = (formed, tt) }
element_same e no_form s tag vr declared begin around explicit alike known list formed = record { levels_are = refl; left_is = refl; sign_is = refl; known = known; atoms_are = refl; alike = tt }

item_same : (e : Dictionary) (c : Container) (s : Syntax) (declared : Length) (begin : ℕ) (around : List Level) → is_explicit s ≡ true → Alike (dictionary_of s) e → KnownLevels e around
    → SameOpened e (item_opens c (plain s) declared begin (plain_levels around)) (item_opens c s declared begin around)
item_same e fragment_container s declared begin around explicit alike known = value_same e (size_of declared) None around (opens_fragment (size_of declared) ∷ []) known (tt, tt)
item_same e the_data_set s declared begin around explicit alike known = record { levels_are = refl; left_is = refl; sign_is = refl; known = (explicit, alike, known); atoms_are = refl; alike = (tt, tt) }
item_same e an_item s declared begin around explicit alike known = record { levels_are = refl; left_is = refl; sign_is = refl; known = (explicit, alike, known); atoms_are = refl; alike = (tt, tt) }
item_same e sequence_container s declared begin around explicit alike known = record { levels_are = refl; left_is = refl; sign_is = refl; known = (explicit, alike, known); atoms_are = refl; alike = (tt, tt) }

value_says : (e : Dictionary) (k : Form) (s : Syntax) (tag : Tag) (vr : Vr) (declared : Length) (begin : ℕ) (around : List Level) → (k ≡ no_form → ⊥) → AllSay e (element_opens k s tag vr declared begin around).atoms → AtomSays e (opens tag vr declared s)
value_says e a_value s tag vr declared begin around some h = h.0
value_says e a_sequence s tag vr declared begin around some h = h.0
value_says e a_fragment_list s tag vr declared begin around some h = h.0
value_says e no_form s tag vr declared begin around some h = absurd (some refl)

value_is_some : (k : Form) → k ≡ a_value → k ≡ no_form → ⊥
value_is_some k v n = cc

list_is_some : (k : Form) → k ≡ a_sequence → k ≡ no_form → ⊥
list_is_some k v n = cc

-- ---- a whole head

module _ (e : Dictionary) (begin : ℕ) (head : List ℕ) (l : Level) (outer : List Level) (known : KnownLevels e (l ∷ outer)) where
  abbrev s : Syntax
  s = l.syntax

  abbrev t : Tag
  t = tag_at s head

  abbrev around : List Level
  around = l ∷ outer

  abbrev kind : Vr → Form
  kind vr = form (plain s) (read_as (plain s) t vr) (length_at s vr head)

  element_parts : (vr : Vr) → plain_opens (Some vr) (plain s) begin head (plain_levels around) ≡ element_opens (kind vr) (plain s) t vr (length_at s vr head) begin (plain_levels around)
  element_parts vr =
      ap (λ (x : Tag). element_opens (form (plain s) (read_as (plain s) x vr) (length_at (plain s) vr head)) (plain s) x vr (length_at (plain s) vr head) begin (plain_levels around)) (tag_plain s head)
      ∙ ap (λ (n : Length). element_opens (form (plain s) (read_as (plain s) t vr) n) (plain s) t vr n begin (plain_levels around)) (length_plain s vr head)

  abbrev first_items : Opened
  first_items = item_opens l.container (plain s) (long_length (number (plain s) 4 (drop 4 head))) begin (plain_levels around)

  abbrev first_closes : Opened
  first_closes = without_value (plain_levels outer) (closes l.container)

  abbrev first_opens : Option Vr → Opened
  first_opens o = plain_opens o (plain s) begin head (plain_levels around)

  abbrev choose : Bool → Bool → Opened → Opened → Opened → Opened
  choose a b i c x = if a then (if b then i else c) else x

  parts : head_opens begin head (plain_levels around) ≡ choose (t.group == 0xFFFE) (is_item t) first_items first_closes (first_opens (vr_at s head))
  parts =
      ap (λ (x : Tag). choose (x.group == 0xFFFE) (is_item x) first_items first_closes (first_opens (vr_at (plain s) head))) (tag_plain s head)
      ∙ ap (λ (o : Option Vr). choose (t.group == 0xFFFE) (is_item t) first_items first_closes (first_opens o)) (vr_plain s head known.0)

  chosen : (a b : Bool) (i c x : Opened) → a ≡ false → AllSay e (choose a b i c x).atoms → AllSay e x.atoms
  chosen true b i c x f h = absurd (cc)
  chosen false b i c x f h = h

  is_false : (a : Bool) → not a ≡ true → a ≡ false
  is_false true h = absurd (cc)
  is_false false h = refl

  pub says_value : AllSay e (head_opens begin head (plain_levels around)).atoms → (vr : Vr) → vr_at s head ≡ Some vr → not (t.group == 0xFFFE) ≡ true → kind vr ≡ a_value → read_in e t vr ≡ vr
  says_value h vr is element value =
      let all : AllSay e (first_opens (vr_at s head)).atoms = chosen (t.group == 0xFFFE) (is_item t) first_items first_closes (first_opens (vr_at s head)) (is_false (t.group == 0xFFFE) element) (subst (λ (o : Opened). AllSay e o.atoms) parts h) in
      let own : AllSay e (first_opens (Some vr)).atoms = subst (λ (o : Option Vr). AllSay e (first_opens o).atoms) is all in
      (value_says e (kind vr) (plain s) t vr (length_at s vr head) begin (plain_levels around) (value_is_some (kind vr) value) (subst (λ (o : Opened). AllSay e o.atoms) (element_parts vr) own)).0

  vr_same_by : (vr : Vr) → Forms s t vr (length_at s vr head) → AllSay e (element_opens (kind vr) (plain s) t vr (length_at s vr head) begin (plain_levels around)).atoms
      → SameOpened e (element_opens (kind vr) (plain s) t vr (length_at s vr head) begin (plain_levels around)) (element_opens (form s (read_as s t vr) (length_at s vr head)) s t vr (length_at s vr head) begin around)
  vr_same_by vr (same is) h =
      subst (λ (k : Form). SameOpened e (element_opens (kind vr) (plain s) t vr (length_at s vr head) begin (plain_levels around)) (element_opens k s t vr (length_at s vr head) begin around)) is
      (element_same e (kind vr) s t vr (length_at s vr head) begin around known.0 known.1 known (λ list. (value_says e (kind vr) (plain s) t vr (length_at s vr head) begin (plain_levels around) (list_is_some (kind vr) list) h).1 list) is)
  vr_same_by vr (differ un list value sequence) h =
      absurd (never_list e (dictionary_of s) t vr known.1 un list (value_says e (kind vr) (plain s) t vr (length_at s vr head) begin (plain_levels around) (value_is_some (kind vr) value) h).0)

  vr_same : (o : Option Vr) → AllSay e (first_opens o).atoms → SameOpened e (first_opens o) (plain_opens o s begin head around)
  vr_same None h = record { levels_are = refl; left_is = refl; sign_is = refl; known = known; atoms_are = refl; alike = tt }
  vr_same (Some vr) h =
      subst (λ (x : Opened). SameOpened e x (plain_opens (Some vr) s begin head around)) (sym (element_parts vr)) (vr_same_by vr (forms s t vr (length_at s vr head) known.0) (subst (λ (x : Opened). AllSay e x.atoms) (element_parts vr) h))

  choose_same : (a b : Bool) (i j c d x y : Opened) → SameOpened e i j → SameOpened e c d → (AllSay e x.atoms → SameOpened e x y) → AllSay e (choose a b i c x).atoms → SameOpened e (choose a b i c x) (choose a b j d y)
  choose_same true true i j c d x y p q r h = p
  choose_same true false i j c d x y p q r h = q
  choose_same false b i j c d x y p q r h = r h

  items_same : SameOpened e first_items (item_opens l.container s (long_length (number s 4 (drop 4 head))) begin around)
  items_same =
      subst (λ (n : ℕ). SameOpened e (item_opens l.container (plain s) (long_length n) begin (plain_levels around)) (item_opens l.container s (long_length (number s 4 (drop 4 head))) begin around)) (sym (number_plain s 4 (drop 4 head)))
      (item_same e l.container s (long_length (number s 4 (drop 4 head))) begin around known.0 known.1 known)

  closes_same : SameOpened e first_closes (without_value outer (closes l.container))
  closes_same = record {
    levels_are = refl;
    left_is = refl;
    sign_is = refl;
    known = known.2;
    atoms_are = ap (λ (x : Atom). x ∷ []) (sym (closes_plain l.container));
    alike = (closes_alike l.container, tt);
  }

  pub head_same : AllSay e (head_opens begin head (plain_levels around)).atoms → SameOpened e (head_opens begin head (plain_levels around)) (head_opens begin head around)
  head_same h =
      subst (λ (x : Opened). SameOpened e x (head_opens begin head around)) (sym parts)
      (choose_same (t.group == 0xFFFE) (is_item t) first_items (item_opens l.container s (long_length (number s 4 (drop 4 head))) begin around) first_closes (without_value outer (closes l.container)) (first_opens (vr_at s head)) (plain_opens (vr_at s head) s begin head around)
      items_same closes_same (vr_same (vr_at s head)) (subst (λ (x : Opened). AllSay e x.atoms) parts h))

-- ---- a byte

abbrev pub plain_reading : Reading → Reading
plain_reading r = record { position = r.position; head = r.head; left = r.left; sign = r.sign; levels = plain_levels r.levels; halt = r.halt }

-- the machine with the extract comes to the same, and shows the same
pub record Follows (e : Dictionary) (x r : Reading × List Atom) : Type 0 where
  pub reading_is : x.0 ≡ plain_reading r.0
  pub known : KnownLevels e r.0.levels
  pub atoms_are : x.1 ≡ plain_atoms r.1
  pub alike : AllAlike r.1

-- it was halted by a late fault where the other one was as a head was too deep
pub record Parted (Late : Fault → Type 0) (x r : Reading × List Atom) : Type 0 where
  pub fault : Fault
  pub offset : ℕ
  pub late : Late fault
  pub first_halts : x.0.halt ≡ Some (refused fault offset)
  pub other_halts : r.0.halt ≡ Some (refused TooDeep offset)
  pub atoms_are : x.1 ≡ plain_atoms r.1
  pub alike : AllAlike r.1

abbrev pub Comes : (Fault → Type 0) → Dictionary → Reading × List Atom → Reading × List Atom → Type 0
Comes Late e x r = Follows e x r ⊎ Parted Late x r

settled_atoms : (e : Dictionary) (p : ℕ) (x o : Opened) → SameOpened e x o → x.atoms ++ (full_closed p x.levels).1 ≡ plain_atoms (o.atoms ++ (full_closed p o.levels).1)
settled_atoms e p x o h =
    ap (λ (ls : List Level). x.atoms ++ (full_closed p ls).1) h.levels_are
    ∙ ap (λ (c : List Level × List Atom). x.atoms ++ c.1) (full_plain p o.levels)
    ∙ ap (λ (a : List Atom). a ++ (full_closed p o.levels).1) h.atoms_are
    ∙ ap (λ (a : List Atom). plain_atoms o.atoms ++ a) (full_shows p o.levels).0
    ∙ sym (plain_both o.atoms (full_closed p o.levels).1)

settled_follows : (e : Dictionary) (p : ℕ) (x o : Opened) (left : ℕ) → SameOpened e x o → Follows e (settled p x left) (settled p o left)
settled_follows e p x o zero h =
    let closed : List Level × List Atom = full_closed p o.levels in
    record {
      reading_is =
          ap (λ (ls : List Level). made x.sign (full_closed p ls)) h.levels_are
          ∙ ap (made x.sign) (full_plain p o.levels)
          ∙ ap (λ (sign : Option Sign). made sign (plain_levels closed.0, closed.1)) h.sign_is
          ∙ ap (λ (r : Option ℕ). reading (plain_levels closed.0) r) (room_plain p closed.0);
      known = full_known e p o.levels h.known;
      atoms_are = settled_atoms e p x o h;
      alike = both_all AtomAlike o.atoms closed.1 h.alike (full_shows p o.levels).1;
    }
  where
    made : Option Sign → List Level × List Atom → Reading
    made sign closed = record { position = p; head = []; left = 0; sign = sign; levels = closed.0; halt = if passes 8 (room p closed.0) then Some (refused PassesEnd p) else None }

    reading : List Level → Option ℕ → Reading
    reading ls r = record { position = p; head = []; left = 0; sign = o.sign; levels = ls; halt = if passes 8 r then Some (refused PassesEnd p) else None }
settled_follows e p x o (suc n) h =
    record { reading_is = ap (λ (sign : Option Sign). within sign x.levels) h.sign_is ∙ ap (within o.sign) h.levels_are; known = h.known; atoms_are = h.atoms_are; alike = h.alike }
  where
    within : Option Sign → List Level → Reading
    within sign ls = record { position = p; head = []; left = suc n; sign = sign; levels = ls; halt = None }

-- late faults are decided
abbrev pub Decided : (Fault → Type 0) → Type 0
Decided Late = (fault : Fault) → Late fault → is_early fault ≡ false

module _ (Late : Fault → Type 0) (decided : Decided Late) (e : Dictionary) (bar : HeadBar) (bars_late : BarsLate Late bar) where
  stops_alike : (begin p : ℕ) (head : List ℕ) (ls : List Level) → KnownLevels e ls → (innermost_stop bar (plain_levels ls) p head ≡ None → AllSay e (head_opens begin head (plain_levels ls)).atoms)
      → Near Late p (innermost_stop bar (plain_levels ls) p head) (innermost_stop bar ls p head)
  stops_alike begin p head [] known says = inl refl
  stops_alike begin p head (l ∷ outer) known says =
      place_alike Late e bar bars_late l known.0 known.1 (l ∷ outer) p head (λ none vr is element value. says_value e begin head l outer known (says none) vr is element value)

  opens_same : (begin : ℕ) (head : List ℕ) (ls : List Level) → KnownLevels e ls → AllSay e (head_opens begin head (plain_levels ls)).atoms → SameOpened e (head_opens begin head (plain_levels ls)) (head_opens begin head ls)
  opens_same begin head [] known h = record { levels_are = refl; left_is = refl; sign_is = refl; known = tt; atoms_are = refl; alike = tt }
  opens_same begin head (l ∷ outer) known h = head_same e begin head l outer known h

  module _ (r : Reading) (known : KnownLevels e r.levels) where
    abbrev begin : List ℕ → ℕ
    begin head = r.position + length head

    opened_say : (p : ℕ) (o : Opened) (left : ℕ) → AllSay e (settled p o left).1 → AllSay e o.atoms
    opened_say p o zero h = first_all (AtomSays e) o.atoms (full_closed p o.levels).1 h
    opened_say p o (suc n) h = h

    halts : (r : Reading) (head : List ℕ) (fault : Fault) → is_early fault ≡ false → head_read r head (Some (refused fault r.position)) ≡ (halted r (refused fault r.position), [])
    halts r head fault late = ap (λ (c : Bool). cond {A = Reading × List Atom} c (record r { head = head }, []) (halted r (refused fault r.position), [])) late

    deeper_parted : (head : List ℕ) (x y : Option Stop) → Deeper Late r.position x y → Parted Late (head_read (plain_reading r) head x) (head_read r head y)
    deeper_parted head x y d =
        let first : head_read (plain_reading r) head x ≡ (halted (plain_reading r) (refused d.fault r.position), []) = ap (head_read (plain_reading r) head) d.first_is ∙ halts (plain_reading r) head d.fault (decided d.fault d.late) in
        let other : head_read r head y ≡ (halted r (refused TooDeep r.position), []) = ap (head_read r head) d.other_is ∙ halts r head TooDeep refl in
        record {
          fault = d.fault;
          offset = r.position;
          late = d.late;
          first_halts = ap (λ (z : Reading × List Atom). z.0.halt) first;
          other_halts = ap (λ (z : Reading × List Atom). z.0.halt) other;
          atoms_are = ap (λ (z : Reading × List Atom). z.1) first ∙ ap plain_atoms (sym (ap (λ (z : Reading × List Atom). z.1) other));
          alike = subst (λ (z : Reading × List Atom). AllAlike z.1) (sym other) tt;
        }

    same_halt : (c : Bool) (head : List ℕ) (stop : Stop)
        → Follows e (cond {A = Reading × List Atom} c (record (plain_reading r) { head = head }, []) (halted (plain_reading r) stop, [])) (cond {A = Reading × List Atom} c (record r { head = head }, []) (halted r stop, []))
    same_halt true head stop = record { reading_is = refl; known = known; atoms_are = refl; alike = tt }
    same_halt false head stop = record { reading_is = refl; known = known; atoms_are = refl; alike = tt }

    by_stop : (head : List ℕ) (x y : Option Stop) → Near Late r.position x y → (y ≡ None → SameOpened e (head_opens (begin head) head (plain_levels r.levels)) (head_opens (begin head) head r.levels)) → Comes Late e (head_read (plain_reading r) head x) (head_read r head y)
    by_stop head x y (inr d) h = inr (deeper_parted head x y d)
    by_stop head x None (inl is) h =
        let o = h refl in
        let first : Opened = head_opens (begin head) head (plain_levels r.levels) in
        let own : Opened = head_opens (begin head) head r.levels in
        inl
        (subst (λ (z : Reading × List Atom). Follows e z (settled (begin head) own own.left)) (sym (ap (head_read (plain_reading r) head) is ∙ ap (settled (begin head) first) o.left_is))
        (settled_follows e (begin head) first own own.left o))
    by_stop head x (Some stop) (inl is) h = inl (subst (λ (z : Reading × List Atom). Follows e z (head_read r head (Some stop))) (sym (ap (head_read (plain_reading r) head) is)) (same_halt (is_undecided (Some stop)) head stop))

    head_says : (head : List ℕ) (x : Option Stop) → x ≡ None → AllSay e (head_read (plain_reading r) head x).1 → AllSay e (head_opens (begin head) head (plain_levels r.levels)).atoms
    head_says head x is h =
        let o : Opened = head_opens (begin head) head (plain_levels r.levels) in
        opened_say (begin head) o o.left (subst (λ (z : Option Stop). AllSay e (head_read (plain_reading r) head z).1) is h)

    near_none : (p : ℕ) (x y : Option Stop) → Near Late p x y → y ≡ None → x ≡ None
    near_none p x y (inl is) none = is ∙ none
    near_none p x y (inr d) none = absurd (let never : Some (refused TooDeep p) ≡ None = sym d.other_is ∙ none in cc)

    byte_follows : (b : ℕ) (halt : Option Stop) (within : Bool) (left : ℕ) → AllSay e (byte_read bar (plain_reading r) b halt within left).1 → Comes Late e (byte_read bar (plain_reading r) b halt within left) (byte_read bar r b halt within left)
    byte_follows b (Some stop) within left h = inl (record { reading_is = refl; known = known; atoms_are = refl; alike = tt })
    byte_follows b None false left h = inl (record { reading_is = refl; known = known; atoms_are = refl; alike = tt })
    byte_follows b None true (suc n) h =
        inl
        (settled_follows e (r.position + 1) (value_left n (sign_reads (b ∷ []) r.sign) (plain_levels r.levels) (value_byte b ∷ [])) (value_left n (sign_reads (b ∷ []) r.sign) r.levels (value_byte b ∷ [])) n
        (value_same e n (sign_reads (b ∷ []) r.sign) r.levels (value_byte b ∷ []) known (tt, tt)))
    byte_follows b None true zero h =
        let head : List ℕ = r.head ++ b ∷ [] in
        let x : Option Stop = innermost_stop bar (plain_levels r.levels) r.position head in
        let y : Option Stop = innermost_stop bar r.levels r.position head in
        let says : x ≡ None → AllSay e (head_opens (begin head) head (plain_levels r.levels)).atoms = λ none. head_says head x none h in
        let near : Near Late r.position x y = stops_alike (begin head) r.position head r.levels known says in
        by_stop head x y near (λ none. opens_same (begin head) head r.levels known (says (near_none r.position x y near none)))

  step_follows : (r : Reading) (b : ℕ) → KnownLevels e r.levels → AllSay e (read_byte bar (plain_reading r) b).1 → Comes Late e (read_byte bar (plain_reading r) b) (read_byte bar r b)
  unfolding read_byte
  step_follows r b known h = byte_follows r known b r.halt (nat_lt (r.position + length r.head) INPUT_LIMIT) r.left h

-- ---- bytes

stays : (bar : HeadBar) (r : Reading) (b : ℕ) (stop : Stop) → r.halt ≡ Some stop → read_byte bar r b ≡ (r, [])
unfolding read_byte
stays bar r b stop is = ap (λ (h : Option Stop). byte_read bar r b h (nat_lt (r.position + length r.head) INPUT_LIMIT) r.left) is

joins : (xs ys as' bs : List Atom) → xs ≡ plain_atoms as' → ys ≡ plain_atoms bs → xs ++ ys ≡ plain_atoms (as' ++ bs)
joins xs ys as' bs e f = ap (λ (z : List Atom). z ++ ys) e ∙ ap (λ (z : List Atom). plain_atoms as' ++ z) f ∙ sym (plain_both as' bs)

-- atoms from before are before those that come
comes_after : (Late : Fault → Type 0) (e : Dictionary) (xs ys : List Atom) (x r : Reading × List Atom) → xs ≡ plain_atoms ys → AllAlike ys → Comes Late e x r → Comes Late e (x.0, xs ++ x.1) (r.0, ys ++ r.1)
comes_after Late e xs ys x r are alike (inl f) = inl (record {
  reading_is = f.reading_is;
  known = f.known;
  atoms_are = joins xs x.1 ys r.1 are f.atoms_are;
  alike = both_all AtomAlike ys r.1 alike f.alike;
})
comes_after Late e xs ys x r are alike (inr h) = inr (record {
  fault = h.fault;
  offset = h.offset;
  late = h.late;
  first_halts = h.first_halts;
  other_halts = h.other_halts;
  atoms_are = joins xs x.1 ys r.1 are h.atoms_are;
  alike = both_all AtomAlike ys r.1 alike h.alike;
})

-- heads are barred by the atoms so far, whatever the dictionary
abbrev pub BarsBoth : (List Atom → HeadBar) → Type 0
BarsBoth bars = (atoms : List Atom) → bars (plain_atoms atoms) ≡ bars atoms

module _ (Late : Fault → Type 0) (decided : Decided Late) (e : Dictionary) (bars : List Atom → HeadBar) (both : BarsBoth bars) (bars_late : (atoms : List Atom) → BarsLate Late (bars atoms)) where
  more_atoms : (q : Reading × List Atom) (bytes : List ℕ) → (more : List Atom) × ((fold (reads_byte bars) q bytes).1 ≡ q.1 ++ more)
  more_atoms q [] = ([], sym (append-nil q.1))
  more_atoms q (b ∷ bytes) =
      let shown : List Atom = (read_byte (bars q.1) q.0 b).1 in
      let rest = more_atoms (reads_byte bars q b) bytes in
      (shown ++ rest.0, rest.1 ∙ append_assoc q.1 shown rest.0)

  byte_comes : (q w : Reading × List Atom) (b : ℕ) → Comes Late e q w → AllSay e (reads_byte bars q b).1 → Comes Late e (reads_byte bars q b) (reads_byte bars w b)
  byte_comes q w b (inl f) h =
      let bar : HeadBar = bars w.1 in
      let alike : read_byte (bars q.1) q.0 b ≡ read_byte bar (plain_reading w.0) b =
      ap (λ (z : HeadBar). read_byte z q.0 b) (ap bars f.atoms_are ∙ both w.1) ∙ ap (λ (z : Reading). read_byte bar z b) f.reading_is in
      let shown : AllSay e (read_byte bar (plain_reading w.0) b).1 = subst (λ (z : Reading × List Atom). AllSay e z.1) alike (later_all (AtomSays e) q.1 (read_byte (bars q.1) q.0 b).1 h) in
      comes_after Late e q.1 w.1 (read_byte (bars q.1) q.0 b) (read_byte bar w.0 b) f.atoms_are f.alike
      (subst (λ (z : Reading × List Atom). Comes Late e z (read_byte bar w.0 b)) (sym alike) (step_follows Late decided e bar (bars_late w.1) w.0 b f.known shown))
  byte_comes q w b (inr h) says =
      let first : read_byte (bars q.1) q.0 b ≡ (q.0, []) = stays (bars q.1) q.0 b (refused h.fault h.offset) h.first_halts in
      let other : read_byte (bars w.1) w.0 b ≡ (w.0, []) = stays (bars w.1) w.0 b (refused TooDeep h.offset) h.other_halts in
      let still : Comes Late e (q.0, []) (w.0, []) = inr (record { fault = h.fault; offset = h.offset; late = h.late; first_halts = h.first_halts; other_halts = h.other_halts; atoms_are = refl; alike = tt }) in
      comes_after Late e q.1 w.1 (read_byte (bars q.1) q.0 b) (read_byte (bars w.1) w.0 b) h.atoms_are h.alike
      (subst (λ (z : Reading × List Atom). Comes Late e z (read_byte (bars w.1) w.0 b)) (sym first) (subst (λ (z : Reading × List Atom). Comes Late e (q.0, []) z) (sym other) still))

  pub bytes_come : (q w : Reading × List Atom) (bytes : List ℕ) → Comes Late e q w → AllSay e (fold (reads_byte bars) q bytes).1 → Comes Late e (fold (reads_byte bars) q bytes) (fold (reads_byte bars) w bytes)
  bytes_come q w [] f h = f
  bytes_come q w (b ∷ bytes) f h =
      let more = more_atoms (reads_byte bars q b) bytes in
      let first : AllSay e (reads_byte bars q b).1 = first_all (AtomSays e) (reads_byte bars q b).1 more.0 (subst (AllSay e) more.1 h) in
      bytes_come (reads_byte bars q b) (reads_byte bars w b) bytes (byte_comes q w b f first) h

top_plain : (ls : List Level) → is_top (plain_levels ls) ≡ is_top ls
top_plain [] = refl
top_plain (l ∷ ls) = refl

pub finish_plain : (r : Reading) → finish (plain_reading r) ≡ finish r
unfolding finish
finish_plain r = by_halt r.halt
  where
    by_halt : (h : Option Stop) → stop_at_end h (plain_reading r) ≡ stop_at_end h r
    by_halt (Some stop) = refl
    by_halt None = ap (λ (t : Bool). if (r.left == 0) && t && is_empty r.head then complete else refused EndsEarly (r.position + length r.head)) (top_plain r.levels)
