-- Keywords and the letters of representations are ASCII.
use Rattle.std.proofs.Common.{◌≡◌, refl, sym, subst, Bool, true, false, List, ℕ, Option, Some, None}
use Rattle.std.specs.Prelude.{option_map, find, ◌==◌, if◌then◌else◌, codes}
use Rattle.std.specs.List.{list_all}
use Rattle.std.specs.Option.{option_map_or}
use Rattle.dcm_base.specs.declared.tag.Tag.{Tag}
use Rattle.dcm_base.specs.declared.vr.Vr.{Vr}
use Rattle.dcm_base.specs.declared.vr.Vr.TheVariants.{AE, AS, AT, CS, DA, DS, DT, FD, FL, IS, LO, LT, OB, OD, OF, OL, OV, OW, PN, SH, SL, SQ, SS, ST, SV, TM, UC, UI, UL, UN, UR, US, UT, UV}
use Rattle.dcm_base.specs.Tables.Tag.{tag_number, is_item, is_item_end, is_sequence_end}
use Rattle.dcm_base.specs.Tables.Representation.{letters}
use Rattle.dcm_base.specs.Tables.Dictionary.{Element, elements, elements_in, element_in, entries, keywords, ambiguous, ambiguous_in, signed_vr, numbered, keyword_in, unlisted_keyword, is_group_length, is_private_creator}
use Rattle.dcm_base.specs.declared.dictionary.Dictionary.{Dictionary}
use Rattle.dcm_base.specs.declared.dictionary.Dictionary.TheVariants.{Extract, Standard, Signed}
use Rattle.dcm_base.proofs.Dictionaries.Lines.{standard_keywords, standard_has}
use Rattle.dcm_base.proofs.Dictionaries.KeywordLengths.{found_has}
use Rattle.dcm_value.proofs.Displays.DecodedAsBefore.{low}

is_low : List ℕ → Bool
is_low bytes = list_all low bytes

extract_low : list_all (λ (e : Element). is_low e.2) elements ≡ true
unfolding elements is_low
extract_low = refl

standard_low : list_all is_low standard_keywords ≡ true
unfolding entries keywords is_low
standard_low = refl

all_low : (d : Dictionary) → list_all (λ (e : Element). is_low e.2) (elements_in d) ≡ true
unfolding elements_in
all_low Extract = extract_low
all_low Standard = standard_has is_low standard_low
all_low Signed = standard_has is_low standard_low

ambiguous_all_low : list_all (λ (e : Element). is_low e.2) ambiguous ≡ true
unfolding ambiguous is_low
ambiguous_all_low = refl

-- of a row that is found
row_low : (es : List Element) → list_all (λ (e : Element). is_low e.2) es ≡ true → (n : ℕ) (entry : Vr × List ℕ) → Some entry ≡ numbered es n → is_low entry.1 ≡ true
row_low es all n entry is = by_row (find (λ (e : Element). e.0 == n) es) refl is
  where
    by_row : (o : Option Element) → find (λ (e : Element). e.0 == n) es ≡ o → Some entry ≡ option_map (λ (e : Element). (e.1, e.2)) o → is_low entry.1 ≡ true
    by_row (Some e) p is =
        let here : is_low e.2 ≡ true = found_has (λ x. x.0 == n) (λ x. is_low x.2) es e all p in
        let same : entry ≡ (e.1, e.2) = cc in
        subst (λ (x : Vr × List ℕ). is_low x.1 ≡ true) (sym same) here
    by_row None p is = cc

element_low : (d : Dictionary) (t : Tag) (entry : Vr × List ℕ) → Some entry ≡ element_in d t → is_low entry.1 ≡ true
unfolding element_in
element_low d t entry is = row_low (elements_in d) (all_low d) (tag_number t) entry is

ambiguous_low : (d : Dictionary) (t : Tag) (entry : Vr × List ℕ) → Some entry ≡ ambiguous_in d t → is_low entry.1 ≡ true
ambiguous_low Extract t entry is = cc
ambiguous_low Standard t entry is = row_low ambiguous ambiguous_all_low (tag_number t) entry is
ambiguous_low Signed t entry is = by_row (numbered ambiguous (tag_number t)) refl is
  where
    by_row : (o : Option (Vr × List ℕ)) → o ≡ numbered ambiguous (tag_number t) → Some entry ≡ option_map (λ (e : Vr × List ℕ). (signed_vr e.0, e.1)) o → is_low entry.1 ≡ true
    by_row (Some e) p is =
        let same : entry ≡ (signed_vr e.0, e.1) = cc in
        subst (λ (x : Vr × List ℕ). is_low x.1 ≡ true) (sym same) (row_low ambiguous ambiguous_all_low (tag_number t) e p)
    by_row None p is = cc

unlisted_low : (t : Tag) → is_low (unlisted_keyword t) ≡ true
unfolding is_low
unlisted_low t = go (is_group_length t) (is_private_creator t) (is_item t) (is_item_end t) (is_sequence_end t)
  where
    go : (a b c d e : Bool)
        → list_all low (if a then codes "GenericGroupLength" else if b then codes "PrivateCreator" else if c then codes "Item" else if d then codes "ItemDelimitationItem" else if e then codes "SequenceDelimitationItem" else codes "Unknown Tag & Data") ≡ true
    go true b c d e = refl
    go false true c d e = refl
    go false false true d e = refl
    go false false false true e = refl
    go false false false false true = refl
    go false false false false false = refl

found_low : (d : Dictionary) (t : Tag) → is_low (keyword_in d t) ≡ true
unfolding keyword_in
found_low d t = first (element_in d t) refl
  where
    second : (o : Option (Vr × List ℕ)) → o ≡ ambiguous_in d t → is_low (option_map_or (λ e. e.1) o (unlisted_keyword t)) ≡ true
    second (Some e) p = ambiguous_low d t e p
    second None p = unlisted_low t

    first : (o : Option (Vr × List ℕ)) → o ≡ element_in d t → is_low (option_map_or (λ e. e.1) o (option_map_or (λ e. e.1) (ambiguous_in d t) (unlisted_keyword t))) ≡ true
    first (Some e) p = element_low d t e p
    first None p = second (ambiguous_in d t) refl

pub keyword_low : (d : Dictionary) (t : Tag) → list_all low (keyword_in d t) ≡ true
unfolding is_low
keyword_low d t = found_low d t

pub letters_low : (vr : Vr) → list_all low (letters vr) ≡ true
unfolding letters
letters_low AE = refl
letters_low AS = refl
letters_low AT = refl
letters_low CS = refl
letters_low DA = refl
letters_low DS = refl
letters_low DT = refl
letters_low FD = refl
letters_low FL = refl
letters_low IS = refl
letters_low LO = refl
letters_low LT = refl
letters_low OB = refl
letters_low OD = refl
letters_low OF = refl
letters_low OL = refl
letters_low OV = refl
letters_low OW = refl
letters_low PN = refl
letters_low SH = refl
letters_low SL = refl
letters_low SQ = refl
letters_low SS = refl
letters_low ST = refl
letters_low SV = refl
letters_low TM = refl
letters_low UC = refl
letters_low UI = refl
letters_low UL = refl
letters_low UN = refl
letters_low UR = refl
letters_low US = refl
letters_low UT = refl
letters_low UV = refl
