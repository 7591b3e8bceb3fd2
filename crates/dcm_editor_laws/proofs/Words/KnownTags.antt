-- The tags that words name are of elements that a data set may have, with the representations of the dictionary.
use Rattle.std.proofs.Common.{◌≡◌, ℕ, ◌<◌, map, List, [], ◌∷◌, Option, Some, None, Result, Ok, Err, Bool, true, false, not, ◌&&◌, ◌==◌, refl, sym, ◌∙◌, ap, subst, arith}
use Rattle.std.specs.Prelude.{if◌then◌else◌, nat_lt, find}
use Rattle.std.specs.List.{list_all}
use Rattle.std.specs.Option.{option_map_or}
use Rattle.std.proofs.lemmas.Bool.{eqb-true, ltb-true}
use Rattle.dcm_lemmas.proofs.Options.{mapped}
use Rattle.dcm_lemmas.proofs.Truth.{and_first, and_second}
use Rattle.dcm_base.specs.declared.dictionary.Dictionary.{Dictionary}
use Rattle.dcm_base.specs.declared.tag.Tag.{Tag}
use Rattle.dcm_base.specs.declared.vr.Vr.{Vr}
use Rattle.dcm_base.specs.declared.vr.Vr.TheVariants.{UL, LO, UN}
use Rattle.dcm_base.specs.declared.fault.EditRefusal.{EditRefusal}
use Rattle.dcm_base.specs.declared.fault.EditRefusal.TheVariants.{UnknownTag, MetaGroup}
use Rattle.dcm_base.specs.Tables.Tag.{tag_number, tag_of_number}
use Rattle.dcm_base.specs.declared.dictionary.Dictionary.TheVariants.{Extract, Standard, Signed}
use Rattle.dcm_base.specs.Tables.Dictionary.{Element, Entry, elements, entries, keywords, element_of, elements_in, element_in, called, tag_in, vr_in, is_group_length, is_private_creator, ambiguous_in, unlisted_vr}
use Rattle.dcm_sinks.proofs.ReadBack.HasRoom.{IsElement}
use Rattle.dcm_edits.specs.Edit.{Index}
use Rattle.dcm_edits.specs.EditWords.{◌>>=◌, or_refuse, PathPart, TagName, by_number, by_keyword, Known, known_tag, known_part, known_parts}
use Rattle.dcm_edits.proofs.Words.EditWordLemmas.{bind_ok, ok_is, if_err, or_refused, found_passes, same_group, Within, AllWithin}
use Rattle.dcm_editor_laws.proofs.ReadBack.StaysReady.{Steady}
use Rattle.dcm_base.proofs.Dictionaries.Parts.{extract_is_part}

abbrev pub IsListed : Dictionary → Known → Type 0
IsListed d k = IsElement k.tag × (vr_in d k.tag ≡ k.vr) × Steady k.tag

abbrev pub AllListed : Dictionary → List Known → Type 0
AllListed d [] = Unit {0}
AllListed d (k ∷ ks) = IsListed d k × AllListed d ks

-- ---- the dictionaries

-- the number of a tag of four bytes, and of no item or delimiter
abbrev is_of_element : ℕ → Bool
is_of_element n = nat_lt n 4294967296 && not ((tag_of_number n).group == 0xFFFE)

extract_is_of_elements : list_all (λ (e : Element). is_of_element e.0) elements ≡ true
unfolding elements
extract_is_of_elements = refl

entries_are_of_elements : list_all (λ (e : Entry). is_of_element e.0) entries ≡ true
unfolding entries
entries_are_of_elements = refl

same_test : (text : List ℕ) (es : List Entry) → list_all (λ (e : Entry). is_of_element e.0) es ≡ list_all (λ (e : Element). is_of_element e.0) (map (element_of text) es)
same_test text [] = refl
same_test text (e ∷ es) = ap (λ b. is_of_element e.0 && b) (same_test text es)

are_of_elements : (d : Dictionary) → list_all (λ (e : Element). is_of_element e.0) (elements_in d) ≡ true
unfolding elements_in
are_of_elements Extract = extract_is_of_elements
are_of_elements Standard = sym (same_test keywords entries) ∙ entries_are_of_elements
are_of_elements Signed = sym (same_test keywords entries) ∙ entries_are_of_elements

both_not : (a b : Bool) → not a ≡ true → b ≡ false → (not a && not b) ≡ true
both_not a true p q = absurd cc
both_not true false p q = absurd cc
both_not false false p q = refl

group_within : (tag : Tag) (n : ℕ) → n ≡ tag_number tag → n < 4294967296 → tag.group < 65536
group_within tag n e h = omega (arith, e, h)

element_is : (d : Dictionary) (tag : Tag) (x : Vr × List ℕ) → tag.element < 65536 → (tag.group == 2) ≡ false → element_in d tag ≡ Some x → IsElement tag
unfolding element_in
element_is d tag x h data_set p =
    let m = mapped (λ (e : Element). (e.1, e.2)) (find (λ (e : Element). e.0 == tag_number tag) (elements_in d)) x p in
    let q = found_passes (λ e. e.0 == tag_number tag) (λ e. is_of_element e.0) (elements_in d) m.0 (are_of_elements d) m.1 in
    let same : m.0.0 ≡ tag_number tag = eqb-true m.0.0 (tag_number tag) q.1 in
    let below : m.0.0 < 4294967296 = ltb-true m.0.0 4294967296 (and_first _ _ q.0) in
    let other : not (tag.group == 0xFFFE) ≡ true = subst (λ (g : ℕ). not (g == 0xFFFE) ≡ true) (same_group tag m.0.0 h q.1) (and_second (nat_lt m.0.0 4294967296) _ q.0) in
    ((group_within tag m.0.0 same below, h), both_not (tag.group == 0xFFFE) (tag.group == 2) other data_set)

entry_vr : (o : Option (Vr × List ℕ)) (x : Vr × List ℕ) (otherwise : Vr) → o ≡ Some x → option_map_or (λ e. e.0) o otherwise ≡ x.0
entry_vr None x otherwise p = absurd cc
entry_vr (Some y) x otherwise p = let same : y ≡ x = cc in ap (λ (e : Vr × List ℕ). e.0) same

vr_is : (d : Dictionary) (tag : Tag) (x : Vr × List ℕ) → element_in d tag ≡ Some x → vr_in d tag ≡ x.0
unfolding vr_in
vr_is d tag x p = entry_vr (element_in d tag) x (option_map_or (λ e. e.0) (ambiguous_in d tag) (unlisted_vr tag)) p

-- an element that has one representation
in_standard : (d : Dictionary) (tag : Tag) (x : Vr × List ℕ) → element_in d tag ≡ Some x → element_in Standard tag ≡ Some x
unfolding element_in elements_in
in_standard Extract tag x p = extract_is_part tag x p
in_standard Standard tag x p = p
in_standard Signed tag x p = p

in_signed : (tag : Tag) (x : Vr × List ℕ) → element_in Standard tag ≡ Some x → element_in Signed tag ≡ Some x
unfolding element_in elements_in
in_signed tag x p = p

steady : (d : Dictionary) (tag : Tag) (x : Vr × List ℕ) → element_in d tag ≡ Some x → Steady tag
steady d tag x p =
    let q = in_standard d tag x p in
    vr_is Signed tag x (in_signed tag x q) ∙ sym (vr_is Standard tag x q)

-- ---- known parts

if_not : {A : Type 0} (c : Bool) (u : EditRefusal) (r : Result A EditRefusal) (y : A) → (if c then Err u else r) ≡ Ok y → c ≡ false
if_not true u r y p = absurd cc
if_not false u r y p = refl

record_listed : (d : Dictionary) (tag : Tag) (vr : Vr) (index : Option Index) (k : Known) → IsElement tag → vr_in d tag ≡ vr → Steady tag → (let l : Known = record { tag = tag; vr = vr; index = index } in l ≡ k) → IsListed d k
record_listed d tag vr index k h g st p = let P : Known → Type 0 = λ x. IsListed d x in subst P p (h, g, st)

tag_listed : (d : Dictionary) (index : Option Index) (tag : Tag) (k : Known) → tag.element < 65536 → known_tag d index tag ≡ Ok k → IsListed d k
tag_listed d index tag k h p =
    let data_set = if_not (tag.group == 2) MetaGroup (or_refuse UnknownTag (element_in d tag) >>= λ e. Ok (record { tag = tag; vr = e.0; index = index })) k p in
    let q = if_err (tag.group == 2) MetaGroup (or_refuse UnknownTag (element_in d tag) >>= λ e. Ok (record { tag = tag; vr = e.0; index = index })) k p in
    let r = bind_ok (or_refuse UnknownTag (element_in d tag)) (λ e. Ok (record { tag = tag; vr = e.0; index = index })) k q in
    let is : element_in d tag ≡ Some r.0 = or_refused UnknownTag (element_in d tag) r.0 r.1 in
    record_listed d tag r.0.0 index k (element_is d tag r.0 h data_set is) (vr_is d tag r.0 is) (steady d tag r.0 is) (ok_is _ _ r.2)

number_within : (n : ℕ) → (tag_of_number n).element < 65536
number_within n = omega arith

keyword_within : (d : Dictionary) (word : List ℕ) (tag : Tag) → tag_in d word ≡ Some tag → tag.element < 65536
unfolding tag_in
keyword_within d word tag p =
    let m = mapped tag_of_number (called (elements_in d) word) tag p in
    subst (λ (t : Tag). t.element < 65536) m.2 (number_within m.0)

part_listed : (d : Dictionary) (s : TagName) (index : Option Index) (k : Known) → Within s → known_part d s index ≡ Ok k → IsListed d k
unfolding Within
part_listed d (by_number tag) index k h p = tag_listed d index tag k h p
part_listed d (by_keyword word) index k h p =
    let r = bind_ok (or_refuse UnknownTag (tag_in d word)) (known_tag d index) k p in
    tag_listed d index r.0 k (keyword_within d word r.0 (or_refused UnknownTag (tag_in d word) r.0 r.1)) r.2

pub parts_listed : (d : Dictionary) (ms : List PathPart) (ks : List Known) → AllWithin ms → known_parts d ms ≡ Ok ks → AllListed d ks
unfolding AllWithin
parts_listed d [] ks w p = subst (λ (l : List Known). AllListed d l) (ok_is [] ks p) tt
parts_listed d (m ∷ ms) ks w p =
    let first = bind_ok (known_part d m.name m.index) (λ k. known_parts d ms >>= λ more. Ok (k ∷ more)) ks p in
    let rest = bind_ok (known_parts d ms) (λ more. Ok (first.0 ∷ more)) ks first.2 in
    subst (λ (l : List Known). AllListed d l) (ok_is _ _ rest.2) (part_listed d m.name m.index first.0 w.0 first.1, parts_listed d ms rest.0 w.1 rest.1)
