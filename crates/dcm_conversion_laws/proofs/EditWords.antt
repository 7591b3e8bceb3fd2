-- What words of edits mean by the extract, they mean by each dictionary.
use Rattle.std.proofs.Common.{◌≡◌, ◌∙◌, ap, subst, refl, ℕ, suc, List, [], ◌∷◌, map, Option, None, Some, Bool, true, false, Result, Ok, Err}
use Rattle.std.specs.Prelude.{bytes_eq, find, if◌then◌else◌, nat_lt, option_map, unwrap_or, ◌==◌}
use Rattle.std.proofs.lemmas.Slice.Eq.{bytes_eq-Decides}
use Rattle.std.specs.List.{slice_split}
use Rattle.std.specs.Str.{byte}
use Rattle.dcm_lemmas.proofs.Lists.{heads_alike, tails_alike}
use Rattle.dcm_base.specs.declared.dictionary.Dictionary.{Dictionary}
use Rattle.dcm_base.specs.declared.dictionary.Dictionary.TheVariants.{Extract, Standard, Signed}
use Rattle.dcm_base.specs.declared.fault.EditRefusal.{EditRefusal}
use Rattle.dcm_base.specs.declared.fault.EditRefusal.TheVariants.{BadOption, MetaGroup, TooMany, UnknownTag}
use Rattle.dcm_base.specs.declared.tag.Tag.{Tag}
use Rattle.dcm_base.specs.declared.tag.TheConstants.{META_GROUP}
use Rattle.dcm_base.specs.declared.vr.Vr.{Vr}
use Rattle.dcm_base.specs.Tables.Dictionary.{Element, called, element_in, elements, elements_in, tag_in}
use Rattle.dcm_base.specs.Tables.Tag.{tag_number, tag_of_number}
use Rattle.dcm_base.proofs.Dictionaries.Parts.{extract_is_part}
use Rattle.dcm_base_laws.proofs.Dictionaries.Unique.{called_back}
use Rattle.dcm_edits.specs.Edit.{Edit, Index, erase_private}
use Rattle.dcm_edits.specs.EditWords.{EDIT_LIMIT, InEdit, Kind, Known, OptionWord, PathPart, TagName, and_then, apart, at_edit, by_keyword, by_number, cut_at, edit_of_known, edit_of_parts, has_form, in_edit, known_part, known_parts, known_tag, meant_edit, meant_edits_in, meant_from, meant_word, option_word, or_refuse, parts_of, private_word, takes_value, takes_word, unknown_word, without_settings, ◌>>=◌}

-- ---- tables

abbrev said : Element → Option (Vr × List ℕ)
said x = Some (x.1, x.2)

abbrev own_tag : Element → Tag
own_tag x = tag_of_number x.0

own_elements : map (λ x. element_in Extract (own_tag x)) elements ≡ map said elements
unfolding element_in elements_in elements
own_elements = refl

own_numbers : map (λ x. tag_number (own_tag x)) elements ≡ map (λ x. x.0) elements
unfolding elements
own_numbers = refl

-- an element of the extract is called as in the standard
called_so : (x : Element) → element_in Extract (own_tag x) ≡ said x → tag_number (own_tag x) ≡ x.0 → called (elements_in Standard) x.2 ≡ Some x.0
unfolding element_in
called_so x is number =
    subst (λ (n : ℕ). called (elements_in Standard) x.2 ≡ Some n) number (called_back Standard (tag_number (own_tag x)) (x.1, x.2) (extract_is_part (own_tag x) (x.1, x.2) is))

module _ (k : List ℕ) (n : ℕ) where
  called_step : (b : Bool) (x : Element) (es : List Element) → (b ≡ true → x.2 ≡ k) → called (elements_in Standard) x.2 ≡ Some x.0 → (called es k ≡ Some n → called (elements_in Standard) k ≡ Some n)
      → option_map (λ e. e.0) (if b then Some x else find (λ e. bytes_eq e.2 k) es) ≡ Some n → called (elements_in Standard) k ≡ Some n
  called_step true x es same here later p = subst (λ (word : List ℕ). called (elements_in Standard) word ≡ Some n) (same refl) (here ∙ p)
  called_step false x es same here later p = later p

  called_part : (es : List Element) → map (λ x. element_in Extract (own_tag x)) es ≡ map said es → map (λ x. tag_number (own_tag x)) es ≡ map (λ x. x.0) es → called es k ≡ Some n → called (elements_in Standard) k ≡ Some n
  called_part [] all numbers p = absurd cc
  called_part (x ∷ es) all numbers p =
      called_step (bytes_eq x.2 k) x es (bytes_eq-Decides x.2 k).0 (called_so x (heads_alike _ _ _ _ all) (heads_alike _ _ _ _ numbers)) (called_part es (tails_alike _ _ _ _ all) (tails_alike _ _ _ _ numbers)) p

called_alike : (k : List ℕ) (t : Tag) (o : Option ℕ) → called (elements_in Extract) k ≡ o → option_map tag_of_number o ≡ Some t → option_map tag_of_number (called (elements_in Standard) k) ≡ Some t
unfolding elements_in
called_alike k t None is p = absurd (cc)
called_alike k t (Some n) is p = ap (option_map tag_of_number) (called_part k n elements own_elements own_numbers is) ∙ p

-- what the extract says of a tag or a keyword, each dictionary says
elements_so : (e : Dictionary) (t : Tag) (x : Vr × List ℕ) → element_in Extract t ≡ Some x → element_in e t ≡ Some x
unfolding element_in elements_in
elements_so Extract t x h = h
elements_so Standard t x h = extract_is_part t x h
elements_so Signed t x h = extract_is_part t x h

tags_so : (e : Dictionary) (k : List ℕ) (t : Tag) → tag_in Extract k ≡ Some t → tag_in e k ≡ Some t
unfolding tag_in elements_in
tags_so Extract k t h = h
tags_so Standard k t h = called_alike k t (called (elements_in Extract) k) refl h
tags_so Signed k t h = called_alike k t (called (elements_in Extract) k) refl h

-- ---- words

-- what is known by the first is so by the other, and so is what follows of it
then_so : {A B : Type 0} (x y : Result A EditRefusal) (f g : A → Result B EditRefusal) (b : B) → ((a : A) → x ≡ Ok a → y ≡ Ok a) → ((a : A) → f a ≡ Ok b → g a ≡ Ok b) → (x >>= f) ≡ Ok b → (y >>= g) ≡ Ok b
then_so (Ok a) y f g b first later h = ap (λ z. z >>= g) (first a refl) ∙ later a h
then_so (Err u) y f g b first later h = absurd (cc)

or_refuse_so : {A : Type 0} (u : EditRefusal) (x y : Option A) (a : A) → ((b : A) → x ≡ Some b → y ≡ Some b) → or_refuse u x ≡ Ok a → or_refuse u y ≡ Ok a
or_refuse_so u None y a h is = absurd (cc)
or_refuse_so u (Some b) y a h is = ap (or_refuse u) (h b refl) ∙ is

unless_so : {A : Type 0} (c : Bool) (u : EditRefusal) (x y : Result A EditRefusal) (a : A) → (x ≡ Ok a → y ≡ Ok a) → (if c then Err u else x) ≡ Ok a → (if c then Err u else y) ≡ Ok a
unless_so true u x y a h is = is
unless_so false u x y a h is = h is

if_so : {A : Type 0} (c : Bool) (u : EditRefusal) (x y : Result A EditRefusal) (a : A) → (x ≡ Ok a → y ≡ Ok a) → (if c then x else Err u) ≡ Ok a → (if c then y else Err u) ≡ Ok a
if_so true u x y a h is = h is
if_so false u x y a h is = is

module _ (e : Dictionary) where
  tag_so : (index : Option Index) (tag : Tag) (k : Known) → known_tag Extract index tag ≡ Ok k → known_tag e index tag ≡ Ok k
  tag_so index tag k =
      let rest : Vr × List ℕ → Result Known EditRefusal = λ x. Ok (record { tag = tag; vr = x.0; index = index }) in
      unless_so (tag.group == META_GROUP) MetaGroup (or_refuse UnknownTag (element_in Extract tag) >>= rest) (or_refuse UnknownTag (element_in e tag) >>= rest) k
      (then_so (or_refuse UnknownTag (element_in Extract tag)) (or_refuse UnknownTag (element_in e tag)) rest rest k (λ x. or_refuse_so UnknownTag (element_in Extract tag) (element_in e tag) x (elements_so e tag)) (λ x is. is))

  part_so : (name : TagName) (index : Option Index) (k : Known) → known_part Extract name index ≡ Ok k → known_part e name index ≡ Ok k
  part_so (by_number tag) index k = tag_so index tag k
  part_so (by_keyword word) index k =
      then_so (or_refuse UnknownTag (tag_in Extract word)) (or_refuse UnknownTag (tag_in e word)) (known_tag Extract index) (known_tag e index) k (λ t. or_refuse_so UnknownTag (tag_in Extract word) (tag_in e word) t (tags_so e word)) (λ t. tag_so index t k)

  parts_so : (parts : List PathPart) (ks : List Known) → known_parts Extract parts ≡ Ok ks → known_parts e parts ≡ Ok ks
  parts_so [] ks h = h
  parts_so (m ∷ ms) ks h =
      then_so (known_part Extract m.name m.index) (known_part e m.name m.index) (λ k. known_parts Extract ms >>= λ more. Ok (k ∷ more)) (λ k. known_parts e ms >>= λ more. Ok (k ∷ more)) ks (λ k. part_so m.name m.index k)
      (λ k. then_so (known_parts Extract ms) (known_parts e ms) (λ more. Ok (k ∷ more)) (λ more. Ok (k ∷ more)) ks (λ more. parts_so ms more) (λ more is. is)) h

  edit_so : (kind : Kind) (path value : List ℕ) (x : Edit) → meant_edit Extract kind path value ≡ Ok x → meant_edit e kind path value ≡ Ok x
  edit_so kind path value x =
      let parts = or_refuse BadOption (parts_of (slice_split (λ c. c == byte ".") path)) in
      then_so parts parts (edit_of_parts Extract kind value) (edit_of_parts e kind value) x (λ ms is. is)
      (λ ms. if_so (has_form kind ms) BadOption (known_parts Extract ms >>= edit_of_known kind value) (known_parts e ms >>= edit_of_known kind value) x
      (then_so (known_parts Extract ms) (known_parts e ms) (edit_of_known kind value) (edit_of_known kind value) x (λ ks. parts_so ms ks) (λ ks is. is)))

  word_by : (c : Bool) (kind : Kind) (word : List ℕ) (x : Edit) → (if c then (let k = cut_at (byte "=") word in meant_edit Extract kind k.before (unwrap_or k.after [])) else meant_edit Extract kind word []) ≡ Ok x
      → (if c then (let k = cut_at (byte "=") word in meant_edit e kind k.before (unwrap_or k.after [])) else meant_edit e kind word []) ≡ Ok x
  word_by true kind word x = let k = cut_at (byte "=") word in edit_so kind k.before (unwrap_or k.after []) x
  word_by false kind word x = edit_so kind word [] x

  word_so : (kind : Kind) (word : List ℕ) (x : Edit) → meant_word Extract kind word ≡ Ok x → meant_word e kind word ≡ Ok x
  word_so kind word x = word_by (takes_value kind) kind word x

  -- ---- a row of edits

  abbrev InOrder : Type 0
  InOrder = Result (List Edit) InEdit

  and_so : (x : Edit) (o p : InOrder) (es : List Edit) → ((fs : List Edit) → o ≡ Ok fs → p ≡ Ok fs) → and_then x o ≡ Ok es → and_then x p ≡ Ok es
  and_so x (Ok fs) p es h is = ap (and_then x) (h fs refl) ∙ is
  and_so x (Err u) p es h is = absurd (cc)

  abbrev goes_on : InOrder → Result Edit InEdit → InOrder
  goes_on more o = elim o [ Ok x ↦ and_then x more | Err u ↦ Err u ]

  go_so : (n : ℕ) (o p : Result Edit EditRefusal) (more rest : InOrder) (es : List Edit) → ((x : Edit) → o ≡ Ok x → p ≡ Ok x) → ((fs : List Edit) → more ≡ Ok fs → rest ≡ Ok fs) → goes_on more (at_edit n o) ≡ Ok es → goes_on rest (at_edit n p) ≡ Ok es
  go_so n (Ok x) p more rest es first later is = ap (λ z. goes_on rest (at_edit n z)) (first x refl) ∙ and_so x more rest es later is
  go_so n (Err u) p more rest es first later is = absurd (cc)

  abbrev by_word : Dictionary → ℕ → List ℕ → InOrder → InOrder → OptionWord → InOrder
  by_word d n v alone_rest rest o = elim o [
    | private_word ↦ and_then erase_private alone_rest
    | takes_word kind ↦ goes_on rest (at_edit n (meant_word d kind v))
    | unknown_word ↦ Err (in_edit BadOption n)
  ]

  option_so : (n : ℕ) (v : List ℕ) (o : OptionWord) (a b c f : InOrder) (es : List Edit) → ((fs : List Edit) → a ≡ Ok fs → b ≡ Ok fs) → ((fs : List Edit) → c ≡ Ok fs → f ≡ Ok fs) → by_word Extract n v a c o ≡ Ok es → by_word e n v b f o ≡ Ok es
  option_so n v private_word a b c f es one two is = and_so erase_private a b es one is
  option_so n v (takes_word kind) a b c f es one two is = go_so n (meant_word Extract kind v) (meant_word e kind v) c f es (word_so kind v) two is
  option_so n v unknown_word a b c f es one two is = absurd (cc)

  few_so : (c : Bool) (n : ℕ) (x y : InOrder) (es : List Edit) → (x ≡ Ok es → y ≡ Ok es) → (if c then Err (in_edit TooMany n) else x) ≡ Ok es → (if c then Err (in_edit TooMany n) else y) ≡ Ok es
  few_so true n x y es h is = is
  few_so false n x y es h is = h is

  row_so : (n : ℕ) (words : List (List ℕ)) (es : List Edit) → meant_from Extract n words ≡ Ok es → meant_from e n words ≡ Ok es
  row_so n [] es is = is
  row_so n (w ∷ []) es is = is
  row_so n (w ∷ v ∷ words) es is =
      few_so (nat_lt EDIT_LIMIT n) n (by_word Extract n v (meant_from Extract (suc n) (v ∷ words)) (meant_from Extract (suc n) words) (option_word w)) (by_word e n v (meant_from e (suc n) (v ∷ words)) (meant_from e (suc n) words) (option_word w)) es
      (option_so n v (option_word w) (meant_from Extract (suc n) (v ∷ words)) (meant_from e (suc n) (v ∷ words)) (meant_from Extract (suc n) words) (meant_from e (suc n) words) es (row_so (suc n) (v ∷ words)) (row_so (suc n) words)) is

  abbrev set_apart : InOrder → InOrder
  set_apart o = elim o [ Ok es ↦ apart es | Err u ↦ Err u ]

  apart_so : (o p : InOrder) (es : List Edit) → ((fs : List Edit) → o ≡ Ok fs → p ≡ Ok fs) → set_apart o ≡ Ok es → set_apart p ≡ Ok es
  apart_so (Ok fs) p es h is = ap set_apart (h fs refl) ∙ is
  apart_so (Err u) p es h is = absurd (cc)

pub words_agree : (e : Dictionary) (words : List (List ℕ)) (edits : List Edit) → meant_edits_in Extract words ≡ Ok edits → meant_edits_in e words ≡ Ok edits
words_agree e words edits is = apart_so e (meant_from Extract 1 (without_settings words)) (meant_from e 1 (without_settings words)) edits (row_so e 1 (without_settings words)) is
