-- The bytes that a data set is converted to spell its normal form.
use Rattle.std.proofs.Common.{◌≡◌, ℕ, suc, ◌<◌, ◌≤◌, List, [], ◌∷◌, ◌++◌, length, map, flat_map, Bool, true, false, not, refl, sym, ap, ◌∙◌, subst, arith, append_assoc}
use Rattle.std.specs.Prelude.{◌==◌, ◌&&◌, if◌then◌else◌, nat_lt}
use Rattle.std.proofs.lemmas.Bool.{eqb-false, ltb-false}
use Rattle.dcm_lemmas.proofs.Lists.{four_joined}
use Rattle.dcm_base.specs.declared.tag.Tag.{Tag}
use Rattle.dcm_base.specs.declared.vr.Vr.{Vr}
use Rattle.dcm_base.specs.declared.vr.Vr.TheVariants.{SQ, UN, OB, OW}
use Rattle.dcm_base.specs.declared.syntax.Syntax.{Syntax}
use Rattle.dcm_base.specs.declared.syntax.Syntax.TheVariants.{Implicit as implicit_in, Little as little_in, Big as big_in}
use Rattle.dcm_base.specs.declared.length.Length.TheVariants.{Known, Undefined}
use Rattle.dcm_base.specs.Tree.Tree.{Trees, no_tree, leaf, sequence, fragments, Items, no_item, item}
use Rattle.dcm_base.specs.Tables.Number.{IsTag}
use Rattle.dcm_base.specs.Tables.Tag.{item_tag, item_end_tag, sequence_end_tag}
use Rattle.dcm_base.specs.Tables.Dictionary.{vr_in}
use Rattle.dcm_base.specs.Tables.Representation.{is_long, pad}
use Rattle.dcm_base.specs.Tree.Value.{order, evened}
use Rattle.dcm_base.specs.Bytes.Head.{PlainHead, ElementHead, ItemHead, Delimiter}
use Rattle.dcm_base.specs.declared.form.Form.TheVariants.{Value as a_value, Sequence as a_sequence, FragmentList as a_fragment_list}
use Rattle.dcm_base.specs.Bytes.Spelling.{form, inside, FragmentsAt, TreesAt, ItemsAt, read_as, after, dictionary_after}
use Rattle.dcm_base.specs.Conversion.Recode.{head, even, too_long, leaf_head, leaf_bytes, item_head, item_delimiter, sequence_delimiter, recoded_leaf, recoded_fragment, recode_set, recode_items, is_explicit}
use Rattle.dcm_base.specs.Conversion.Normal.{normal_vr, normal_sequence_vr, normal_value, UnlessGroupLength, normal, normal_items}
use Rattle.dcm_base.proofs.Conversions.Order.{order_twice}
use Rattle.dcm_base.proofs.DataSets.Extend.{element_extends, item_extends, delimiter_extends}
use Rattle.dcm_head.proofs.Heads.Written.{element_spelled, item_spelled, delimiter_spelled}
use Rattle.dcm_base.proofs.Conversions.NormalForm.{recode_by, dropped_own, evened_size, normal_size}
use Rattle.dcm_base.specs.declared.dictionary.Dictionary.{Dictionary}
use Rattle.dcm_base.specs.Reading.Bars.{holds_fragments}
use Rattle.dcm_sinks.proofs.ReadBack.HasRoom.{ready_after, IsElement, AreShort, Ready, ReadyItems}
use Rattle.dcm_base.proofs.DataSets.Alike.{undefined_same}
use Rattle.dcm_base.specs.Tables.Syntax.{dictionary_of}
use Rattle.dcm_stream.proofs.Heads.PlainLeaves.{no_item as no_special}

-- ---- tags

data_group : (a b : Bool) → (not a && b) ≡ true → a ≡ false
data_group false b h = refl
data_group true b h = absurd (cc)

-- ---- heads

fits_even : (n : ℕ) → n < 0xFFFFFFFF → even n < 0xFFFFFFFF
fits_even n h = omega arith

-- not too long for two bytes
short_by : (long : Bool) (n : ℕ) → (not long && nat_lt 65534 (even n)) ≡ false → not long ≡ true → even n < 65536
short_by true n e h = absurd (cc)
short_by false n e h = let le : even n ≤ 65534 = ltb-false 65534 (even n) e in omega arith

no_long : not true ≡ true → ⊥
no_long e = cc

leaf_by_test : (s : Syntax) (t : Tag) (vr : Vr) (n : ℕ) (c : Bool) → is_explicit s ≡ true → IsTag t → n < 0xFFFFFFFF → (not (is_long vr) && nat_lt 65534 (even n)) ≡ c
    → PlainHead s t (if c then UN else vr) (Known (even n)) (head s t (if c then UN else vr) (Known (even n))) []
leaf_by_test (implicit_in d) t vr n c i h fits e = absurd (cc)
leaf_by_test (little_in d) t vr n true i h fits e = element_spelled (little_in d) t UN (Known (even n)) h tt (λ k. absurd (no_long k)) (λ k. fits_even n fits)
leaf_by_test (little_in d) t vr n false i h fits e = element_spelled (little_in d) t vr (Known (even n)) h tt (λ k. short_by (is_long vr) n e k) (λ k. fits_even n fits)
leaf_by_test (big_in d) t vr n true i h fits e = element_spelled (big_in d) t UN (Known (even n)) h tt (λ k. absurd (no_long k)) (λ k. fits_even n fits)
leaf_by_test (big_in d) t vr n false i h fits e = element_spelled (big_in d) t vr (Known (even n)) h tt (λ k. short_by (is_long vr) n e k) (λ k. fits_even n fits)

pub leaf_plain : (s : Syntax) (t : Tag) (vr : Vr) (n : ℕ) → IsTag t → n < 0xFFFFFFFF → PlainHead s t (normal_vr s t vr n) (Known (even n)) (leaf_head s t vr n) []
leaf_plain (implicit_in d) t vr n h fits = element_spelled (implicit_in d) t (vr_in d t) (Known (even n)) h refl (λ k. absurd (cc)) (λ k. fits_even n fits)
leaf_plain (little_in d) t vr n h fits = leaf_by_test (little_in d) t vr n (too_long (little_in d) vr n) refl h fits refl
leaf_plain (big_in d) t vr n h fits = leaf_by_test (big_in d) t vr n (too_long (big_in d) vr n) refl h fits refl

pub leaf_told : (s : Syntax) (t : Tag) (vr : Vr) (n : ℕ) → IsElement t → n < 0xFFFFFFFF → ElementHead s t (normal_vr s t vr n) (Known (even n)) (leaf_head s t vr n) []
leaf_told s t vr n h fits = record { no_item = eqb-false _ _ (no_special t h.1); head = leaf_plain s t vr n h.0 fits }

sequence_plain : (s : Syntax) (t : Tag) → IsTag t → PlainHead s t (normal_sequence_vr s t) Undefined (head s t SQ Undefined) []
sequence_plain (implicit_in d) t h = element_spelled (implicit_in d) t (vr_in d t) Undefined h refl (λ k. absurd (cc)) (λ k. tt)
sequence_plain (little_in d) t h = element_spelled (little_in d) t SQ Undefined h tt (λ k. absurd (no_long k)) (λ k. tt)
sequence_plain (big_in d) t h = element_spelled (big_in d) t SQ Undefined h tt (λ k. absurd (no_long k)) (λ k. tt)

pub sequence_told : (s : Syntax) (t : Tag) → IsElement t → ElementHead s t (normal_sequence_vr s t) Undefined (head s t SQ Undefined) []
sequence_told s t h = record { no_item = eqb-false _ _ (no_special t h.1); head = sequence_plain s t h.0 }

fragments_long : (d : Dictionary) (vr : Vr) → form (little_in d) vr Undefined ≡ a_fragment_list → is_long vr ≡ true
unfolding form
fragments_long d OB e = refl
fragments_long d OW e = refl
fragments_long d SQ e = refl
fragments_long d UN e = refl
fragments_long d vr e = absurd (cc)

pub fragments_told : (s : Syntax) (t : Tag) (vr : Vr) → holds_fragments s ≡ true → IsElement t → form s vr Undefined ≡ a_fragment_list → ElementHead s t vr Undefined (head s t vr Undefined) []
fragments_told (implicit_in d) t vr l h f = absurd cc
fragments_told (big_in d) t vr l h f = absurd cc
fragments_told (little_in d) t vr l h f =
    record {
      no_item = eqb-false _ _ (no_special t h.1);
      head = element_spelled (little_in d) t vr Undefined h.0 tt (λ k. let long = fragments_long d vr f in absurd (no_long (sym (ap not long) ∙ k))) (λ k. tt);
    }

item_is_tag : IsTag item_tag
item_is_tag = (omega arith, omega arith)

item_end_is_tag : IsTag item_end_tag
item_end_is_tag = (omega arith, omega arith)

sequence_end_is_tag : IsTag sequence_end_tag
sequence_end_is_tag = (omega arith, omega arith)

pub item_told : (s : Syntax) → ItemHead s Undefined (item_head s Undefined) []
item_told s = item_spelled s item_tag Undefined item_is_tag refl tt

pub fragment_told : (s : Syntax) (n : ℕ) → n < 0xFFFFFFFF → ItemHead s (Known (even n)) (item_head s (Known (even n))) []
fragment_told s n h = item_spelled s item_tag (Known (even n)) item_is_tag refl (fits_even n h)

pub item_end_told : (s : Syntax) → Delimiter s item_end_tag (item_delimiter s) []
item_end_told s = delimiter_spelled s item_end_tag (Known 0) item_end_is_tag

pub sequence_end_told : (s : Syntax) → Delimiter s sequence_end_tag (sequence_delimiter s) []
sequence_end_told s = delimiter_spelled s sequence_end_tag (Known 0) sequence_end_is_tag

-- ---- trees

implicit_inside : (d : Dictionary) (vr : Vr) → inside (implicit_in d) vr ≡ implicit_in d
unfolding inside
implicit_inside d UN = refl
implicit_inside d vr = refl

pub inside_target : (s : Syntax) (t : Tag) → inside s (normal_sequence_vr s t) ≡ s
unfolding inside
inside_target (implicit_in d) t = implicit_inside d (vr_in d t)
inside_target (little_in d) t = refl
inside_target (big_in d) t = refl

three_parts : (a b c r z : List ℕ) → (((a ++ b) ++ c) ++ r) ++ z ≡ a ++ (b ++ (c ++ (r ++ z)))
three_parts a b c r z = append_assoc ((a ++ b) ++ c) r z ∙ append_assoc (a ++ b) c (r ++ z) ∙ append_assoc a b (c ++ (r ++ z))

pub leaf_at : (s : Syntax) (t : Tag) (vr : Vr) (size : ℕ) (value h u r z : List ℕ) (more : Trees) → length value ≡ size → form s (read_as s t vr) (Known size) ≡ a_value → ElementHead s t vr (Known size) h [] → order s vr value ≡ u
    → TreesAt (after s t vr value) more (r ++ z) z → TreesAt s (leaf t vr value more) (((h ++ u) ++ r) ++ z) z
unfolding TreesAt
leaf_at s t vr size value h u r z more l fo head o rest = (
  r ++ z,
  ap (λ (k : ℕ). form s (read_as s t vr) (Known k)) l ∙ fo,
  subst (λ (k : ℕ). ElementHead s t vr (Known k) (((h ++ u) ++ r) ++ z) (order s vr value ++ (r ++ z))) (sym l)
      (subst (λ (x : List ℕ). ElementHead s t vr (Known size) x (order s vr value ++ (r ++ z))) (sym (four_joined h u r z))
      (subst (λ (x : List ℕ). ElementHead s t vr (Known size) (h ++ (u ++ (r ++ z))) (x ++ (r ++ z))) (sym o) (element_extends s t vr (Known size) h [] (u ++ (r ++ z)) head))),
  rest,
)

sequence_at : (s : Syntax) (t : Tag) (vr : Vr) (items : Items) (h c d r z : List ℕ) (more : Trees) → inside s vr ≡ s → form s vr Undefined ≡ a_sequence → ElementHead s t vr Undefined h [] → Delimiter s sequence_end_tag d []
    → ((y : List ℕ) → ItemsAt s items (c ++ y) y) → TreesAt s more (r ++ z) z → TreesAt s (sequence t vr Undefined items more) ((((h ++ c) ++ d) ++ r) ++ z) z
unfolding TreesAt
sequence_at s t vr items h c d r z more i fo head end inner rest = (
  c ++ (d ++ (r ++ z)),
  r ++ z,
  undefined_same s t vr ∙ fo,
  subst (λ (x : List ℕ). ElementHead s t vr Undefined x (c ++ (d ++ (r ++ z)))) (sym (three_parts h c d r z)) (element_extends s t vr Undefined h [] (c ++ (d ++ (r ++ z))) head),
  (
    d ++ (r ++ z),
    subst (λ (x : Syntax). ItemsAt x items (c ++ (d ++ (r ++ z))) (d ++ (r ++ z))) (sym i) (inner (d ++ (r ++ z))),
    subst (λ (x : Syntax). Delimiter x sequence_end_tag (d ++ (r ++ z)) (r ++ z)) (sym i) (delimiter_extends s sequence_end_tag d [] (r ++ z) end),
  ),
  rest,
)

fragments_at : (s : Syntax) (t : Tag) (vr : Vr) (values : List (List ℕ)) (h c d r z : List ℕ) (more : Trees) → form s vr Undefined ≡ a_fragment_list → ElementHead s t vr Undefined h [] → Delimiter s sequence_end_tag d []
    → ((y : List ℕ) → FragmentsAt s values (c ++ y) y) → TreesAt s more (r ++ z) z → TreesAt s (fragments t vr values more) ((((h ++ c) ++ d) ++ r) ++ z) z
unfolding TreesAt
fragments_at s t vr values h c d r z more fo head end inner rest = (
  c ++ (d ++ (r ++ z)),
  r ++ z,
  undefined_same s t vr ∙ fo,
  subst (λ (x : List ℕ). ElementHead s t vr Undefined x (c ++ (d ++ (r ++ z)))) (sym (three_parts h c d r z)) (element_extends s t vr Undefined h [] (c ++ (d ++ (r ++ z))) head),
  (d ++ (r ++ z), inner (d ++ (r ++ z)), delimiter_extends s sequence_end_tag d [] (r ++ z) end),
  rest,
)

item_at : (s : Syntax) (set : Trees) (h c d r z : List ℕ) (more : Items) → ItemHead s Undefined h [] → Delimiter s item_end_tag d []
    → ((y : List ℕ) → TreesAt s set (c ++ y) y) → ItemsAt s more (r ++ z) z → ItemsAt s (item Undefined set more) ((((h ++ c) ++ d) ++ r) ++ z) z
unfolding ItemsAt
item_at s set h c d r z more head end inner rest = (
  c ++ (d ++ (r ++ z)),
  r ++ z,
  subst (λ (x : List ℕ). ItemHead s Undefined x (c ++ (d ++ (r ++ z)))) (sym (three_parts h c d r z)) (item_extends s Undefined h [] (c ++ (d ++ (r ++ z))) head),
  (d ++ (r ++ z), inner (d ++ (r ++ z)), delimiter_extends s item_end_tag d [] (r ++ z) end),
  rest,
)

-- ---- fragments

fragment_at : (s : Syntax) (size : ℕ) (value h r z : List ℕ) (values : List (List ℕ)) → length value ≡ size → ItemHead s (Known size) h [] → FragmentsAt s values (r ++ z) z → FragmentsAt s (value ∷ values) (((h ++ value) ++ r) ++ z) z
unfolding FragmentsAt
fragment_at s size value h r z values l head rest = (
  r ++ z,
  subst (λ (k : ℕ). ItemHead s (Known k) (((h ++ value) ++ r) ++ z) (value ++ (r ++ z))) (sym l)
      (subst (λ (x : List ℕ). ItemHead s (Known size) x (value ++ (r ++ z))) (sym (four_joined h value r z)) (item_extends s (Known size) h [] (value ++ (r ++ z)) head)),
  rest,
)

fragments_written : (s : Syntax) (values : List (List ℕ)) (z : List ℕ) → AreShort values → FragmentsAt s (map (evened 0) values) (flat_map (recoded_fragment s) values ++ z) z
unfolding FragmentsAt
fragments_written s [] z h = refl
fragments_written s (v ∷ values) z h =
    fragment_at s (even (length v)) (evened 0 v) (item_head s (Known (even (length v)))) (flat_map (recoded_fragment s) values) z (map (evened 0) values) (evened_size 0 v) (fragment_told s (length v) h.0) (fragments_written s values z h.1)

-- ---- data sets

leaf_written : (s : Syntax) (t : Tag) (vr : Vr) (v : List ℕ) (more : Trees) (r z : List ℕ) (c : Bool) → (t.element == 0) ≡ c
    → UnlessGroupLength t (IsElement t × (length v < 0xFFFFFFFF) × (form s (read_as s t (normal_vr s t vr (length v))) (Known (even (length v))) ≡ a_value))
    → TreesAt (after s t (normal_vr s t vr (length v)) (normal_value s t vr v)) more (r ++ z) z → TreesAt s (if c then more else leaf t (normal_vr s t vr (length v)) (normal_value s t vr v) more) (((if c then [] else recoded_leaf s t vr v) ++ r) ++ z) z
leaf_written s t vr v more r z true e h rest = subst (λ (k : Syntax). TreesAt k more (r ++ z) z) (dropped_own s t (normal_vr s t vr (length v)) (normal_value s t vr v) e) rest
leaf_written s t vr v more r z false e h rest =
    let k = h e in
    let u : List ℕ = evened (pad vr) (leaf_bytes s vr (length v) v) in
    leaf_at s t (normal_vr s t vr (length v)) (even (length v)) (normal_value s t vr v) (leaf_head s t vr (length v)) u r z more (normal_size s t vr v) k.2 (leaf_told s t vr (length v) k.0 k.1) (order_twice s (normal_vr s t vr (length v)) u) rest

sequence_written : (s : Syntax) (t : Tag) (items : Items) (more : Trees) (n : ℕ) (inner r z : List ℕ) (P : Type 0) (c : Bool) → (t.element == 0) ≡ c
    → UnlessGroupLength t (IsElement t × (n < 64) × (form s (normal_sequence_vr s t) Undefined ≡ a_sequence) × P) → ((t.element == 0) ≡ false → (y : List ℕ) → ItemsAt s items (inner ++ y) y)
    → TreesAt s more (r ++ z) z → TreesAt s (if c then more else sequence t (normal_sequence_vr s t) Undefined items more) (((if c then [] else head s t SQ Undefined ++ inner ++ sequence_delimiter s) ++ r) ++ z) z
sequence_written s t items more n inner r z P true e h contents rest = rest
sequence_written s t items more n inner r z P false e h contents rest =
    let k = h e in
    sequence_at s t (normal_sequence_vr s t) items (head s t SQ Undefined) inner (sequence_delimiter s) r z more (inside_target s t) k.2 (sequence_told s t k.0) (sequence_end_told s) (contents e) rest

fragment_list_written : (s : Syntax) (t : Tag) (vr : Vr) (values : List (List ℕ)) (more : Trees) (n : ℕ) (r z : List ℕ) (c : Bool) → (t.element == 0) ≡ c
    → UnlessGroupLength t (IsElement t × (n < 64) × (holds_fragments s ≡ true) × (form s vr Undefined ≡ a_fragment_list) × AreShort values)
    → TreesAt s more (r ++ z) z → TreesAt s (if c then more else fragments t vr (map (evened 0) values) more) (((if c then [] else head s t vr Undefined ++ flat_map (recoded_fragment s) values ++ sequence_delimiter s) ++ r) ++ z) z
fragment_list_written s t vr values more n r z true e h rest = rest
fragment_list_written s t vr values more n r z false e h rest =
    let k = h e in
    fragments_at s t vr (map (evened 0) values) (head s t vr Undefined) (flat_map (recoded_fragment s) values) (sequence_delimiter s) r z more k.3
    (fragments_told s t vr k.2 k.0 k.3) (sequence_end_told s) (λ y. fragments_written s values y k.4) rest

mutual
  unfolding normal recode_set TreesAt Ready

  pub trees_written : (s : Syntax) (n : ℕ) (x : Trees) (z : List ℕ) → Ready s n x → TreesAt s (normal s x) (recode_set s x ++ z) z
  trees_written s n no_tree z h = refl
  trees_written s n (leaf t vr v rest) z h =
      let w : Vr = normal_vr s t vr (length v) in
      let x : List ℕ = normal_value s t vr v in
      leaf_written s t vr v (normal (after s t w x) rest) (recode_set s rest) z (t.element == 0) refl h.0
      (subst (λ (r : List ℕ). TreesAt (after s t w x) (normal (after s t w x) rest) (r ++ z) z) (recode_by (dictionary_after (dictionary_of s) t w x) s rest) (trees_written (after s t w x) n rest z (ready_after s t w x n rest h.1)))
  trees_written s n (sequence t vr declared items rest) z h =
      sequence_written s t (normal_items s items) (normal s rest) n (recode_items s items) (recode_set s rest) z (ReadyItems s (suc n) items) (t.element == 0) refl h.0
      (λ e y. items_written s (suc n) items y (h.0 e).3) (trees_written s n rest z h.1)
  trees_written s n (fragments t vr values rest) z h = fragment_list_written s t vr values (normal s rest) n (recode_set s rest) z (t.element == 0) refl h.0 (trees_written s n rest z h.1)

  pub items_written : (s : Syntax) (n : ℕ) (x : Items) (z : List ℕ) → ReadyItems s n x → ItemsAt s (normal_items s x) (recode_items s x ++ z) z
  items_written s n no_item z h = refl
  items_written s n (item declared set rest) z h =
      item_at s (normal s set) (item_head s Undefined) (recode_set s set) (item_delimiter s) (recode_items s rest) z (normal_items s rest) (item_told s) (item_end_told s)
      (λ y. trees_written s n set y h.0) (items_written s n rest z h.1)
