-- A worked row: a sequence of known length that the standard opens, and the extract does not.
use Rattle.std.proofs.Common.{◌≡◌, ◌∙◌, ap, sym, refl, ℕ, List, [], ◌∷◌, ◌++◌, map, Bool, true, false, Some, Option, arith, lit≤}
use Rattle.std.specs.Prelude.{if◌then◌else◌, ◌==◌, find, option_map}
use Rattle.std.specs.Option.{option_map_or}
use Rattle.dcm_base.specs.declared.length.Length.TheVariants.{Known}
use Rattle.dcm_base.specs.declared.dictionary.Dictionary.TheVariants.{Extract, Standard}
use Rattle.dcm_base.specs.declared.syntax.Syntax.TheVariants.{Implicit as implicit_in}
use Rattle.dcm_base.specs.declared.tag.Tag.{Tag}
use Rattle.dcm_base.specs.declared.vr.Vr.{Vr}
use Rattle.dcm_base.specs.declared.vr.Vr.TheVariants.{PN, SQ, UN}
use Rattle.dcm_base.specs.Tables.Dictionary.{Element, Entry, elements, elements_in, element_in, element_of, entries, keywords, numbered, vr_in, ambiguous}
use Rattle.dcm_base.specs.Bytes.Head.{length_at, vr_at}
use Rattle.dcm_base.specs.Conversion.Normal.{FitsTarget, whole_front}
use Rattle.dcm_base.specs.Bytes.Spelling.{TreesAt, form, inside}
use Rattle.dcm_base.specs.Tree.Tree.{Trees, no_tree, leaf, sequence, no_item, item}
use Rattle.dcm_editor_laws.specs.Everywhere.{Everywhere, IsOther}
use Rattle.dcm_editor_laws.specs.Readers.{HidesNothing, OpensAlike}

-- LanguageCodeSequence
abbrev pub languages : Tag
languages = record { group = 0x0008; element = 0x0006 }

abbrev pub patient_name : Tag
patient_name = record { group = 0x0010; element = 0x0010 }

abbrev pub name : List ℕ
name = 0x41 ∷ 0x42 ∷ 0x5E ∷ 0x43 ∷ 0x44 ∷ 0x20 ∷ []

-- an item of 14 bytes that holds a name
abbrev pub name_bytes : List ℕ
name_bytes = (0x10 ∷ 0x00 ∷ 0x10 ∷ 0x00 ∷ 0x06 ∷ 0x00 ∷ 0x00 ∷ 0x00 ∷ []) ++ name

abbrev pub item_bytes : List ℕ
item_bytes = (0xFE ∷ 0xFF ∷ 0x00 ∷ 0xE0 ∷ 0x0E ∷ 0x00 ∷ 0x00 ∷ 0x00 ∷ []) ++ name_bytes

abbrev pub bytes : List ℕ
bytes = (0x08 ∷ 0x00 ∷ 0x06 ∷ 0x00 ∷ 0x16 ∷ 0x00 ∷ 0x00 ∷ 0x00 ∷ []) ++ item_bytes

-- what the extract reads of them, and the standard
abbrev pub one_value : Trees
one_value = leaf languages UN item_bytes no_tree

abbrev pub held : Trees
held = leaf patient_name PN name no_tree

abbrev pub opened : Trees
opened = sequence languages SQ (Known 22) (item (Known 14) held no_item) no_tree

-- ---- the representations

first_or_more : (text : List ℕ) (b : Bool) (e : Entry) (es : List Entry) (n : ℕ) (w : Vr)
    → option_map_or (λ (x : Vr × List ℕ). x.0) (numbered (map (element_of text) es) n) w ≡ option_map_or (λ (x : Entry). x.1) (find (λ (x : Entry). x.0 == n) es) w
    → option_map_or (λ (x : Vr × List ℕ). x.0) (option_map (λ (x : Element). (x.1, x.2)) (if b then Some (element_of text e) else find (λ (x : Element). x.0 == n) (map (element_of text) es))) w
    ≡ option_map_or (λ (x : Entry). x.1) (if b then Some e else find (λ (x : Entry). x.0 == n) es) w
first_or_more text true e es n w more = refl
first_or_more text false e es n w more = more

by_number : (text : List ℕ) (es : List Entry) (n : ℕ) (w : Vr) → option_map_or (λ (x : Vr × List ℕ). x.0) (numbered (map (element_of text) es) n) w ≡ option_map_or (λ (x : Entry). x.1) (find (λ (x : Entry). x.0 == n) es) w
by_number text [] n w = refl
by_number text (e ∷ es) n w = first_or_more text (e.0 == n) e es n w (by_number text es n w)

found_languages : option_map_or (λ (x : Entry). x.1) (find (λ (x : Entry). x.0 == 0x00080006) entries) UN ≡ SQ
unfolding entries
found_languages = refl

found_name : option_map_or (λ (x : Entry). x.1) (find (λ (x : Entry). x.0 == 0x00100010) entries) UN ≡ PN
unfolding entries
found_name = refl

standard_languages : vr_in Standard languages ≡ SQ
unfolding vr_in element_in elements_in ambiguous
standard_languages = by_number keywords entries 0x00080006 UN ∙ found_languages

standard_name : vr_in Standard patient_name ≡ PN
unfolding vr_in element_in elements_in ambiguous
standard_name = by_number keywords entries 0x00100010 UN ∙ found_name

extract_languages : vr_in Extract languages ≡ UN
unfolding vr_in element_in elements_in elements
extract_languages = refl

-- ---- one spelling, read in two ways

pub read_by_extract : TreesAt (implicit_in Extract) one_value bytes []
unfolding TreesAt vr_at length_at form
read_by_extract = (
  [],
  refl,
  record { no_item = λ e. omega (arith, e); head = record { tag_is = refl; vr_is = ap (λ (v : Vr). let o : Option Vr = Some v in o) (sym extract_languages); whole = lit≤ tt; length_is = refl; after_is = refl } },
  refl,
)

held_spelled : TreesAt (implicit_in Standard) held name_bytes []
unfolding TreesAt vr_at length_at form
held_spelled = (
  [],
  refl,
  record { no_item = λ e. omega (arith, e); head = record { tag_is = refl; vr_is = ap (λ (v : Vr). let o : Option Vr = Some v in o) (sym standard_name); whole = lit≤ tt; length_is = refl; after_is = refl } },
  refl,
)

pub read_by_standard : TreesAt (implicit_in Standard) opened bytes []
unfolding TreesAt vr_at length_at form inside
read_by_standard = (
  item_bytes,
  [],
  refl,
  record { no_item = λ e. omega (arith, e); head = record { tag_is = refl; vr_is = ap (λ (v : Vr). let o : Option Vr = Some v in o) (sym standard_languages); whole = lit≤ tt; length_is = refl; after_is = refl } },
  (item_bytes, refl, refl, (name_bytes, [], record { tag_is = refl; whole = lit≤ tt; length_is = refl; after_is = refl }, (name_bytes, refl, refl, held_spelled), refl)),
  refl,
)

-- to the extract no element is a patient's name, to the standard one is
pub none_to_extract : Everywhere (IsOther patient_name) one_value
none_to_extract = (refl, tt)

pub one_to_standard : Everywhere (IsOther patient_name) opened → ⊥
one_to_standard h = let other : true ≡ false = h.1.0.0 in cc

-- and that is the exception: the standard does not open it as the extract does
pub not_alike : OpensAlike Standard (implicit_in Extract) (whole_front one_value) → ⊥
unfolding FitsTarget
not_alike h = h.0 refl standard_languages

-- what the value hides from it
pub hides : HidesNothing Standard (implicit_in Extract) (whole_front one_value) → ⊥
hides h = let none : item_bytes ≡ [] = h.0 standard_languages in cc

-- an empty one hides nothing
pub empty_hides_nothing : HidesNothing Standard (implicit_in Extract) (whole_front (leaf languages UN [] no_tree))
empty_hides_nothing = (λ is. refl, tt)
