-- Items and delimiters are in no dictionary.
use Rattle.std.proofs.Common.{◌≡◌, ℕ, ◌<◌, ◌≤◌, Bool, true, false, ◌&&◌, ◌==◌, ◌%◌, if◌then◌else◌, nat_lt, nat_le, List, [], ◌∷◌, map, Option, Some, None, refl, ◌∙◌, sym, ap, arith}
use Rattle.std.specs.Prelude.{find, option_map}
use Rattle.std.specs.List.{list_all}
use Rattle.std.specs.Option.{option_map_or}
use Rattle.std.proofs.lemmas.Bool.Decides.{nat_tests}
use Rattle.dcm_lemmas.proofs.Truth.{and_first, and_second}
use Rattle.dcm_base.specs.declared.tag.Tag.{Tag}
use Rattle.dcm_base.specs.declared.vr.Vr.{Vr}
use Rattle.dcm_base.specs.declared.dictionary.Dictionary.{Dictionary}
use Rattle.dcm_base.specs.declared.dictionary.Dictionary.TheVariants.{Extract, Standard, Signed}
use Rattle.dcm_base.specs.Tables.Tag.{tag_number}
use Rattle.dcm_base.specs.Tables.Dictionary.{Element, Entry, elements, entries, keywords, ambiguous, ambiguous_in, signed_vr, elements_in, element_of, element_in, numbered, keyword_in, is_private_creator, other_keyword}

-- the least number of the group of items
items : ℕ
items = 0xFFFE0000

is_below : ℕ → Bool
is_below n = nat_lt n items

extract_below : list_all (λ (e : Element). is_below e.0) elements ≡ true
unfolding elements items is_below
extract_below = refl

entries_below : list_all (λ (e : Entry). is_below e.0) entries ≡ true
unfolding entries items is_below
entries_below = refl

each_below : (text : List ℕ) (es : List Entry) → list_all (λ (e : Entry). is_below e.0) es ≡ list_all (λ (e : Element). is_below e.0) (map (element_of text) es)
each_below text [] = refl
each_below text (e ∷ es) = ap (λ b. is_below e.0 && b) (each_below text es)

all_below : (d : Dictionary) → list_all (λ (e : Element). is_below e.0) (elements_in d) ≡ true
unfolding elements_in
all_below Extract = extract_below
all_below Standard = sym (each_below keywords entries) ∙ entries_below
all_below Signed = sym (each_below keywords entries) ∙ entries_below

ambiguous_below : list_all (λ (e : Element). is_below e.0) ambiguous ≡ true
unfolding ambiguous items is_below
ambiguous_below = refl

not_this : (n m : ℕ) → is_below n ≡ true → items ≤ m → (n == m) ≡ false
unfolding is_below
not_this n m below above = grind (arith, nat_tests)

none_here : (b : Bool) (e : Element) (rest : Option Element) → b ≡ false → option_map {U = Vr × List ℕ} (λ (e : Element). (e.1, e.2)) rest ≡ None → option_map {U = Vr × List ℕ} (λ (e : Element). (e.1, e.2)) (if b then Some e else rest) ≡ None
none_here true e rest p q = cc
none_here false e rest p q = q

none_of : (n : ℕ) → items ≤ n → (es : List Element) → list_all (λ (e : Element). is_below e.0) es ≡ true → numbered es n ≡ None
none_of n above [] all = refl
none_of n above (e ∷ es) all = none_here (e.0 == n) e (find (λ e. e.0 == n) es) (not_this e.0 n (and_first _ _ all) above) (none_of n above es (and_second _ _ all))

none_ambiguous : (d : Dictionary) (t : Tag) → items ≤ tag_number t → ambiguous_in d t ≡ None
none_ambiguous Extract t above = refl
none_ambiguous Standard t above = none_of (tag_number t) above ambiguous ambiguous_below
none_ambiguous Signed t above = ap (option_map (λ (e : Vr × List ℕ). (signed_vr e.0, e.1))) (none_of (tag_number t) above ambiguous ambiguous_below)

chosen : (found other : Option (Vr × List ℕ)) (length creator : Bool) (a b c : List ℕ) → found ≡ None → other ≡ None → length ≡ false → creator ≡ false
    → option_map_or (λ e. e.1) found (option_map_or (λ e. e.1) other (if length then a else if creator then b else c)) ≡ c
chosen found other length creator a b c p o q r =
    ap (λ (f : Option (Vr × List ℕ)). option_map_or (λ e. e.1) f (option_map_or (λ e. e.1) other (if length then a else if creator then b else c))) p
    ∙ ap (λ (f : Option (Vr × List ℕ)). option_map_or (λ e. e.1) f (if length then a else if creator then b else c)) o
    ∙ ap (λ (x : Bool). if x then a else if creator then b else c) q
    ∙ ap (λ (x : Bool). if x then b else c) r

-- so they are called by their tags
pub item_called : (d : Dictionary) (t : Tag) → t.group ≡ 0xFFFE → 0 < t.element → keyword_in d t ≡ other_keyword t
unfolding keyword_in element_in items
item_called d t group some =
    let above : items ≤ tag_number t = omega (arith, group) in
    let length : (t.element == 0) ≡ false = grind (arith, nat_tests, some) in
    let creator : is_private_creator t ≡ false = ap (λ (g : ℕ). (g % 2 == 1) && (nat_le 16 t.element && nat_le t.element 255)) group in
    chosen _ _ _ _ _ _ (other_keyword t) (none_of (tag_number t) above (elements_in d) (all_below d)) (none_ambiguous d t above) length creator
