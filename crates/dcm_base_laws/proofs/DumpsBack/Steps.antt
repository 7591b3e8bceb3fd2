-- Each line of a dump means the step of what it shows.
use Rattle.std.proofs.Common.{◌≡◌, ◌≢◌, ℕ, ◌≤◌, ◌<◌, ◌%◌, ◌^◌, List, [], ◌∷◌, ◌++◌, length, Some, Bool, true, false, ◌&&◌, refl, sym, ◌∙◌, ap, subst, arith, codes}
use Rattle.std.specs.Prelude.{if◌then◌else◌, ◌==◌, nat_eq, slice_index, count_by}
use Rattle.std.proofs.lemmas.List.Sums.{count_by-le-length}
use Rattle.std.proofs.Math.Nat.{div-le_self}
use Rattle.std.specs.List.{starts_with}
use Rattle.std.proofs.lemmas.Bool.Decides.{nat_tests}
use Rattle.dcm_lemmas.proofs.Choice.{if_false, if_true}
use Rattle.dcm_lemmas.proofs.Truth.{and_first_false}
use Rattle.dcm_base.specs.declared.tag.Tag.{Tag}
use Rattle.dcm_base.specs.declared.vr.Vr.{Vr}
use Rattle.dcm_base.specs.declared.vr.Vr.TheVariants.{AE, SQ, UN, OB, OW}
use Rattle.dcm_base.specs.declared.mode.Mode.TheVariants.{Full}
use Rattle.dcm_base.specs.declared.length.Length.{Length}
use Rattle.dcm_base.specs.declared.length.Length.TheVariants.{Known, Undefined}
use Rattle.dcm_base.specs.Tables.Number.{IsTag}
use Rattle.dcm_base.specs.Tables.Representation.{letters, vr_of, is_sequence}
use Rattle.dcm_base.specs.Dump.ValueText.{Shape, text, identifier, unsigned, signed, tags, hexadecimal, shape, is_single, counted, shown_unit, count, display}
use Rattle.dcm_base.specs.Dump.Dump.{line, leaf_line, fragment_line, sequence_line, item_line, item_end_line, sequence_end_line}
use Rattle.dcm_base.specs.Lines.ReadValue.{value_of_text, value_shown}
use Rattle.dcm_base.specs.Lines.Line.{Step, show_leaf, begin_sequence, begin_fragments, begin_item, show_fragment, end_item, end_sequence, Meaning, one, no_line, begins, is_skipped, with_value, may_be_sequence, may_be_fragments, element_meaning, meaning_of, LineMeans}
use Rattle.dcm_base.proofs.DumpsBack.Texts.{Bytes}
use Rattle.dcm_base.proofs.DumpsBack.Values.{value_back}
use Rattle.dcm_base_laws.proofs.DumpsBack.Fields.{Shows, Bytewise, IsPrinted, printed_text, all_printed}
use Rattle.dcm_base_laws.proofs.DumpsBack.Displays.{display_shows, hex_begins_plain, BeginsPlain}
use Rattle.dcm_base_laws.proofs.DumpsBack.LineMeanings.{Meant, line_meant, IsSmall}
use Rattle.dcm_base.specs.declared.dictionary.Dictionary.{Dictionary}

-- ---- letters

letters_two : (vr : Vr) → letters vr ≡ slice_index (letters vr) 0 ∷ slice_index (letters vr) 1 ∷ []
unfolding letters
letters_two AE = refl
letters_two _ = refl

is_letter : (vr : Vr) → (slice_index (letters vr) 0 == 32) ≡ false
unfolding letters
is_letter AE = refl
is_letter _ = refl

letters_are_printed : (vr : Vr) → IsPrinted (slice_index (letters vr) 0) × IsPrinted (slice_index (letters vr) 1)
unfolding letters
letters_are_printed AE = (omega arith, omega arith)
letters_are_printed _ = (omega arith, omega arith)

vr_back : (vr : Vr) → vr_of (slice_index (letters vr) 0 ∷ slice_index (letters vr) 1 ∷ []) ≡ Some vr
unfolding letters vr_of
vr_back AE = refl
vr_back _ = refl

-- ---- numbers

within : {A : Type 0} (f : A → Bool) (v : List A) → count_by f v ≤ length v
within f v = count_by-le-length f v

counted_small : (s : Shape) (vr : Vr) (v : List ℕ) → length v < 2 ^ 32 → counted s vr v < 2 ^ 64
counted_small text vr v l = omega (arith, l, within (λ b. b == 92) v)
counted_small identifier vr v l = omega (arith, l, within (λ b. b == 92) v)
counted_small unsigned vr v l = omega (arith, l, div-le_self (length v) (shown_unit vr))
counted_small signed vr v l = omega (arith, l, div-le_self (length v) (shown_unit vr))
counted_small tags vr v l = omega (arith, l, div-le_self (length v) (shown_unit vr))
counted_small hexadecimal vr v l = omega (arith, l, div-le_self (length v) (shown_unit vr))

count_small : (vr : Vr) (v : List ℕ) → length v < 2 ^ 32 → count vr v < 2 ^ 64
count_small vr [] l = omega arith
count_small vr (b ∷ v) l = by_test (is_single vr)
  where
    by_test : (t : Bool) → (if t then 1 else counted (shape vr) vr (b ∷ v)) < 2 ^ 64
    by_test true = omega arith
    by_test false = counted_small (shape vr) vr (b ∷ v) l

-- ---- values

-- what a value field shows
field_means : (show : List ℕ → Step) (d tail : List ℕ) → Shows d → is_skipped (32 ∷ tail) ≡ true → with_value show (d ++ 32 ∷ tail) ≡ one (show d)
field_means show d tail s skipped =
    ap (λ f. if is_skipped f.rest then one (show f.value) else no_line) (s.field_is tail) ∙ if_true (is_skipped (32 ∷ tail)) (one (show d)) no_line skipped

-- a display of bytes is no opening
pub record NoOpening (vr : Vr) (cs : List ℕ) : Type 0 where
  pub no_sequence : (may_be_sequence vr && begins (codes "(Sequence with") cs) ≡ false
  pub no_fragments : (may_be_fragments vr && begins (codes "(PixelSequence") cs) ≡ false

plain_opens_not : (vr : Vr) (d tail : List ℕ) → BeginsPlain d → NoOpening vr (d ++ 32 ∷ tail)
plain_opens_not vr d tail b =
    subst (λ t. NoOpening vr (t ++ 32 ∷ tail)) (sym b.is) (record { no_sequence = other (may_be_sequence vr) _ (apart_one b.first (b.more ++ 32 ∷ tail) b.plain.no_parenthesis); no_fragments = other (may_be_fragments vr) _ (apart_two b.first (b.more ++ 32 ∷ tail) b.plain.no_parenthesis) })
  where
    other : (a c : Bool) → c ≡ false → (a && c) ≡ false
    other true c p = p
    other false c p = refl

    turned : (c : ℕ) → (c == 40) ≡ false → (40 == c) ≡ false
    turned c p = grind (arith, nat_tests, p)

    apart_one : (c : ℕ) (cs : List ℕ) → (c == 40) ≡ false → begins (codes "(Sequence with") (c ∷ cs) ≡ false
    apart_one c cs p = and_first_false (40 == c) (starts_with nat_eq cs (codes "Sequence with")) (turned c p)

    apart_two : (c : ℕ) (cs : List ℕ) → (c == 40) ≡ false → begins (codes "(PixelSequence") (c ∷ cs) ≡ false
    apart_two c cs p = and_first_false (40 == c) (starts_with nat_eq cs (codes "PixelSequence")) (turned c p)

opens_not : (vr : Vr) (v tail : List ℕ) → is_sequence vr ≡ false → Bytes v → length v % shown_unit vr ≡ 0 → NoOpening vr (display vr v ++ 32 ∷ tail)
opens_not SQ v tail s h e = cc
opens_not UN [] tail s h e = record { no_sequence = refl; no_fragments = refl }
opens_not UN (b ∷ v) tail s h e = plain_opens_not UN _ tail (hex_begins_plain 1 b v (omega arith) h e)
opens_not OB [] tail s h e = record { no_sequence = refl; no_fragments = refl }
opens_not OB (b ∷ v) tail s h e = plain_opens_not OB _ tail (hex_begins_plain 1 b v (omega arith) h e)
opens_not OW [] tail s h e = record { no_sequence = refl; no_fragments = refl }
opens_not OW (b ∷ v) tail s h e = plain_opens_not OW _ tail (hex_begins_plain 2 b v (omega arith) h e)
opens_not _ v tail s h e = record { no_sequence = refl; no_fragments = refl }

leaf_means : (t : Tag) (vr : Vr) (v tail : List ℕ) → is_sequence vr ≡ false → Bytes v → length v % shown_unit vr ≡ 0 → is_skipped (32 ∷ tail) ≡ true
    → element_meaning t (Some vr) (display vr v ++ 32 ∷ tail) ≡ one (show_leaf t vr (value_of_text vr (display vr v)))
leaf_means t vr v tail s h e skipped =
    let o = opens_not vr v tail s h e in
    if_false (may_be_sequence vr && begins (codes "(Sequence with") (display vr v ++ 32 ∷ tail)) _ _ o.no_sequence
    ∙ if_false (may_be_fragments vr && begins (codes "(PixelSequence") (display vr v ++ 32 ∷ tail)) _ _ o.no_fragments
    ∙ field_means (λ x. show_leaf t vr (value_of_text vr x)) (display vr v) tail (display_shows vr v s h e) skipped

-- ---- lines

-- what a line means whose parts mean this
line_reads : (l : List ℕ) (g e x y : ℕ) (d : List ℕ) (m : Meaning) → Meant l g e x y d
    → ((tail : List ℕ) → is_skipped (32 ∷ tail) ≡ true → meaning_of (Some (record { tag = record { group = g; element = e }; letters = x ∷ y ∷ []; rest = d ++ 32 ∷ tail })) ≡ m) → LineMeans l m
line_reads l g e x y d m h f = record { body = h.body; is = h.is; printed = all_printed h.body h.printed; means_is = h.means_is ∙ f h.tail h.skipped }

-- an element's line, whose display begins with no space and no comment
element_reads : (k : Dictionary) (level : ℕ) (t : Tag) (vr : Vr) (c : ℕ) (more : List ℕ) (size : Length) (n : ℕ) (m : Meaning) → IsTag t → t.group ≢ 0xFFFE → (c == 32) ≡ false → (c == 35) ≡ false → Bytewise IsPrinted (c ∷ more) → IsSmall size → n < 2 ^ 64
    → ((tail : List ℕ) → is_skipped (32 ∷ tail) ≡ true → element_meaning t (Some vr) ((c ∷ more) ++ 32 ∷ tail) ≡ m) → LineMeans (line k level t (letters vr) (c ∷ more) size n) m
element_reads k level t vr c more size n m is other space comment printed small few f =
    let x : ℕ = slice_index (letters vr) 0 in
    let y : ℕ = slice_index (letters vr) 1 in
    let p = letters_are_printed vr in
    subst (λ l. LineMeans (line k level t l (c ∷ more) size n) m) (sym (letters_two vr))
    (line_reads _ t.group t.element x y (c ∷ more) m (line_meant k level t.group t.element x y c more is.0 is.1 (is_letter vr) space comment p.0 p.1 printed size n small few)
    (λ tail skipped. if_false (t.group == 0xFFFE) _ _ (apart t.group other) ∙ ap (λ o. element_meaning t o ((c ∷ more) ++ 32 ∷ tail)) (vr_back vr) ∙ f tail skipped))
  where
    apart : (g : ℕ) → g ≢ 0xFFFE → (g == 0xFFFE) ≡ false
    apart g h = grind (arith, nat_tests, h)

-- a line means its step, whatever value its text is read as
pub leaf_shows : (k : Dictionary) (level : ℕ) (t : Tag) (vr : Vr) (v : List ℕ) → IsTag t → t.group ≢ 0xFFFE → is_sequence vr ≡ false → Bytes v → length v < 2 ^ 32 → length v % shown_unit vr ≡ 0
    → LineMeans (leaf_line k Full level t vr v) (one (show_leaf t vr (value_of_text vr (display vr v))))
leaf_shows k level t vr v is other s h few e =
    let d = display_shows vr v s h e in
    let m : Meaning = one (show_leaf t vr (value_of_text vr (display vr v))) in
    subst (λ x. LineMeans (line k level t (letters vr) x (Known (length v)) (count vr v)) m) (sym d.is)
    (element_reads k level t vr d.first d.more (Known (length v)) (count vr v) m is other d.no_space d.no_comment (subst (Bytewise IsPrinted) d.is d.printed) (omega (arith, few)) (count_small vr v few)
    (λ tail skipped. subst (λ x. element_meaning t (Some vr) (x ++ 32 ∷ tail) ≡ m) d.is (leaf_means t vr v tail s h e skipped)))

pub fragment_shows : (k : Dictionary) (level : ℕ) (v : List ℕ) → Bytes v → length v < 2 ^ 32 → LineMeans (fragment_line k Full level v) (one (show_fragment (value_of_text OB (display OB v))))
fragment_shows k level v h few =
    let whole : length v % 1 ≡ 0 = omega arith in
    let d = display_shows OB v refl h whole in
    let m : Meaning = one (show_fragment (value_of_text OB (display OB v))) in
    subst (λ x. LineMeans (line k level (record { group = 0xFFFE; element = 0xE000 }) (codes "pi") x (Known (length v)) 1) m) (sym d.is)
    (line_reads _ 0xFFFE 0xE000 112 105 (d.first ∷ d.more) m (line_meant k level 0xFFFE 0xE000 112 105 d.first d.more (omega arith) (omega arith) refl d.no_space d.no_comment (omega arith) (omega arith) (subst (Bytewise IsPrinted) d.is d.printed) (Known (length v)) 1 (omega (arith, few)) (omega arith))
    (λ tail skipped. subst (λ x. with_value (λ z. show_fragment (value_of_text OB z)) (x ++ 32 ∷ tail) ≡ m) d.is
    (field_means (λ z. show_fragment (value_of_text OB z)) (display OB v) tail d skipped)))

-- and where the text is not too long, that is the value
pub leaf_reads : (k : Dictionary) (level : ℕ) (t : Tag) (vr : Vr) (v : List ℕ) → IsTag t → t.group ≢ 0xFFFE → is_sequence vr ≡ false → Bytes v → length v < 2 ^ 32 → length v % shown_unit vr ≡ 0 → length (display vr v) ≤ 16384
    → LineMeans (leaf_line k Full level t vr v) (one (show_leaf t vr (Some (value_shown vr v))))
leaf_reads k level t vr v is other s h few e long = subst (λ o. LineMeans (leaf_line k Full level t vr v) (one (show_leaf t vr o))) (value_back vr v s h e long) (leaf_shows k level t vr v is other s h few e)

pub fragment_reads : (k : Dictionary) (level : ℕ) (v : List ℕ) → Bytes v → length v < 2 ^ 32 → length (display OB v) ≤ 16384 → LineMeans (fragment_line k Full level v) (one (show_fragment (Some v)))
fragment_reads k level v h few long =
    let whole : length v % 1 ≡ 0 = omega arith in
    subst (λ o. LineMeans (fragment_line k Full level v) (one (show_fragment o))) (value_back OB v refl h whole long) (fragment_shows k level v h few)

-- ---- openings and ends, behind whose beginning the rest of the line has no meaning

pub sequence_reads : (k : Dictionary) (level : ℕ) (t : Tag) (vr : Vr) (size : Length) → IsSmall size → IsTag t → t.group ≢ 0xFFFE → may_be_sequence vr ≡ true → LineMeans (sequence_line k level t vr size) (one (begin_sequence t vr))
sequence_reads k level t SQ (Known n) small is other s = element_reads k level t SQ 40 (codes "Sequence with explicit length)") (Known n) 1 _ is other refl refl (printed_text (codes "(Sequence with explicit length)") refl) small (omega arith) (λ tail skipped. refl)
sequence_reads k level t SQ Undefined small is other s = element_reads k level t SQ 40 (codes "Sequence with undefined length)") Undefined 1 _ is other refl refl (printed_text (codes "(Sequence with undefined length)") refl) small (omega arith) (λ tail skipped. refl)
sequence_reads k level t UN (Known n) small is other s = element_reads k level t UN 40 (codes "Sequence with explicit length)") (Known n) 1 _ is other refl refl (printed_text (codes "(Sequence with explicit length)") refl) small (omega arith) (λ tail skipped. refl)
sequence_reads k level t UN Undefined small is other s = element_reads k level t UN 40 (codes "Sequence with undefined length)") Undefined 1 _ is other refl refl (printed_text (codes "(Sequence with undefined length)") refl) small (omega arith) (λ tail skipped. refl)
sequence_reads k level t _ size small is other s = cc

pub fragments_read : (k : Dictionary) (level : ℕ) (t : Tag) (vr : Vr) → IsTag t → t.group ≢ 0xFFFE → may_be_fragments vr ≡ true → LineMeans (line k level t (letters vr) (codes "(PixelSequence)") Undefined 1) (one (begin_fragments t vr))
fragments_read k level t OB is other s = element_reads k level t OB 40 (codes "PixelSequence)") Undefined 1 _ is other refl refl (printed_text (codes "(PixelSequence)") refl) tt (omega arith) (λ tail skipped. refl)
fragments_read k level t OW is other s = element_reads k level t OW 40 (codes "PixelSequence)") Undefined 1 _ is other refl refl (printed_text (codes "(PixelSequence)") refl) tt (omega arith) (λ tail skipped. refl)
fragments_read k level t _ is other s = cc

pub item_reads : (k : Dictionary) (level : ℕ) (size : Length) → IsSmall size → LineMeans (item_line k level size) (one begin_item)
item_reads k level (Known n) small = line_reads _ 0xFFFE 0xE000 110 97 (codes "(Item with explicit length)") _ (line_meant k level 0xFFFE 0xE000 110 97 40 (codes "Item with explicit length)") (omega arith) (omega arith) refl refl refl (omega arith) (omega arith) (printed_text (codes "(Item with explicit length)") refl) (Known n) 1 small (omega arith)) (λ tail skipped. refl)
item_reads k level Undefined small = line_reads _ 0xFFFE 0xE000 110 97 (codes "(Item with undefined length)") _ (line_meant k level 0xFFFE 0xE000 110 97 40 (codes "Item with undefined length)") (omega arith) (omega arith) refl refl refl (omega arith) (omega arith) (printed_text (codes "(Item with undefined length)") refl) Undefined 1 tt (omega arith)) (λ tail skipped. refl)

pub item_end_reads : (k : Dictionary) (level : ℕ) (size : Length) → LineMeans (item_end_line k level size) (one end_item)
item_end_reads k level (Known n) = line_reads _ 0xFFFE 0xE00D 110 97 (codes "(ItemDelimitationItem for re-encoding)") _ (line_meant k level 0xFFFE 0xE00D 110 97 40 (codes "ItemDelimitationItem for re-encoding)") (omega arith) (omega arith) refl refl refl (omega arith) (omega arith) (printed_text (codes "(ItemDelimitationItem for re-encoding)") refl) (Known 0) 0 (omega arith) (omega arith)) (λ tail skipped. refl)
item_end_reads k level Undefined = line_reads _ 0xFFFE 0xE00D 110 97 (codes "(ItemDelimitationItem)") _ (line_meant k level 0xFFFE 0xE00D 110 97 40 (codes "ItemDelimitationItem)") (omega arith) (omega arith) refl refl refl (omega arith) (omega arith) (printed_text (codes "(ItemDelimitationItem)") refl) (Known 0) 0 (omega arith) (omega arith)) (λ tail skipped. refl)

pub sequence_end_reads : (k : Dictionary) (level : ℕ) (size : Length) → LineMeans (sequence_end_line k level size) (one end_sequence)
sequence_end_reads k level (Known n) = line_reads _ 0xFFFE 0xE0DD 110 97 (codes "(SequenceDelimitationItem for re-encod.)") _ (line_meant k level 0xFFFE 0xE0DD 110 97 40 (codes "SequenceDelimitationItem for re-encod.)") (omega arith) (omega arith) refl refl refl (omega arith) (omega arith) (printed_text (codes "(SequenceDelimitationItem for re-encod.)") refl) (Known 0) 0 (omega arith) (omega arith)) (λ tail skipped. refl)
sequence_end_reads k level Undefined = line_reads _ 0xFFFE 0xE0DD 110 97 (codes "(SequenceDelimitationItem)") _ (line_meant k level 0xFFFE 0xE0DD 110 97 40 (codes "SequenceDelimitationItem)") (omega arith) (omega arith) refl refl refl (omega arith) (omega arith) (printed_text (codes "(SequenceDelimitationItem)") refl) (Known 0) 0 (omega arith) (omega arith)) (λ tail skipped. refl)
