-- The edits that words mean do not overlap, and name public tags alone.
use Rattle.std.proofs.Common.{◌≡◌, ℕ, suc, ◌<◌, ◌%◌, List, [], ◌∷◌, Option, Some, None, Result, Ok, Err, Bool, true, false, cond, not, ◌==◌, refl, sym, ap, subst, arith, eqb-true}
use Rattle.std.specs.Prelude.{if◌then◌else◌, nat_lt, find, bytes_eq, option_map, unwrap_or}
use Rattle.std.specs.List.{list_all, slice_split}
use Rattle.std.specs.Str.{byte}
use Rattle.dcm_lemmas.proofs.Options.{mapped}
use Rattle.dcm_lemmas.proofs.Truth.{and_both, and_first, and_second, or_first_false, or_second_false}
use Rattle.dcm_base.specs.declared.dictionary.Dictionary.{Dictionary}
use Rattle.dcm_base.specs.declared.tag.Tag.{Tag}
use Rattle.dcm_base.specs.declared.vr.Vr.{Vr}
use Rattle.dcm_base.specs.declared.fault.EditRefusal.{EditRefusal}
use Rattle.dcm_base.specs.declared.fault.EditRefusal.TheVariants.{BadOption, UnknownTag, SequenceMisused, MetaGroup, Overlap, TooMany}
use Rattle.dcm_base.specs.Tables.Tag.{tag_number, tag_of_number, is_private}
use Rattle.dcm_base.specs.Tables.Dictionary.{Element, elements_in, element_in, called, tag_in}
use Rattle.dcm_base.specs.Laws.{is_even}
use Rattle.dcm_base.proofs.Dictionaries.Parts.{groups_are_even}
use Rattle.dcm_edits.specs.Edit.{Index, PathEdit, Edit, erase_private}
use Rattle.dcm_edits.specs.Overlap.{path, overlaps, overlaps_one, first_overlap, ApartFrom, AreApart, is_public_path, is_public, ArePublic}
use Rattle.dcm_edits.specs.EditWords.{InEdit, ◌>>=◌, PathPart, TagName, by_number, by_keyword, tag_name, Known, known_tag, known_part, known_parts, Kind, inserts, modifies, erases, modifies_all, erases_all, last_vr, on_steps, step_to, item_or_element, edit_on, value_for, edit_of_known, edit_of_parts, uses_sequences, has_form, cut, cut_at, with_index, index_of, part_of, part_of_cut, prepended, or_refuse, parts_of, meant_edit, meant_word, meant_from, meant_edits_in, without_settings, apart, and_then, at_edit, option_word, OptionWord, private_word, takes_word, unknown_word, in_edit, takes_value, EDIT_LIMIT}
use Rattle.dcm_base.proofs.DumpsBack.DigitNumbers.{tag_within}
use Rattle.std.proofs.lemmas.Bool.Decides.{nat_tests}

-- no overlap found
EachApart : List Edit → List Edit → Type 0
EachApart [] es = Unit {0}
EachApart (e ∷ earlier) es = ApartFrom e es × EachApart earlier es

each_none : (earlier : List Edit) → EachApart earlier []
unfolding EachApart
each_none [] = tt
each_none (e ∷ earlier) = (tt, each_none earlier)

each_more : (earlier : List Edit) (b : Edit) (bs : List Edit) → overlaps_one earlier b ≡ false → EachApart earlier bs → EachApart earlier (b ∷ bs)
unfolding EachApart
each_more [] b bs p a = tt
each_more (e ∷ earlier) b bs p a = ((or_first_false _ _ p, a.0), each_more earlier b bs (or_second_false (overlaps e b) _ p) a.1)

if_none : {A : Type 0} (c : Bool) (n : A) (r : Option A) → (if c then Some n else r) ≡ None → (c ≡ false) × (r ≡ None)
if_none true n r p = cc
if_none false n r p = (refl, p)

first_overlap_none : (n : ℕ) (earlier es : List Edit) → first_overlap n earlier es ≡ None → AreApart es × EachApart earlier es
unfolding EachApart
first_overlap_none n earlier [] p = (tt, each_none earlier)
first_overlap_none n earlier (b ∷ bs) p =
    let q : (overlaps_one earlier b ≡ false) × (first_overlap (suc n) (b ∷ earlier) bs ≡ None) = if_none (overlaps_one earlier b) n _ p in
    let more : AreApart bs × EachApart (b ∷ earlier) bs = first_overlap_none (suc n) (b ∷ earlier) bs q.1 in
    ((more.1.0, more.0), each_more earlier b bs q.0 more.1.1)

found_step : (p q : Element → Bool) (x e : Element) (r : Option Element) → q x ≡ true → (r ≡ Some e → (q e ≡ true) × (p e ≡ true))
    → (c : Bool) → c ≡ p x → cond c (Some x) r ≡ Some e → (q e ≡ true) × (p e ≡ true)
found_step p q x e r h g true t f = let same : x ≡ e = cc in let P : Element → Type 0 = λ y. (q y ≡ true) × (p y ≡ true) in subst P same (h, sym t)
found_step p q x e r h g false t f = g f

pub found_passes : (p q : Element → Bool) (l : List Element) (e : Element) → list_all q l ≡ true → find p l ≡ Some e → (q e ≡ true) × (p e ≡ true)
found_passes p q [] e a f = cc
found_passes p q (x ∷ l) e a f = found_step p q x e (find p l) (and_first _ _ a) (found_passes p q l e (and_second (q x) _ a)) (p x) refl f

-- a tag of an even group is public
even_public : (n : ℕ) → is_even n ≡ true → not (is_private (tag_of_number n)) ≡ true
even_public n p = grind (arith, nat_tests)

pub same_group : (tag : Tag) (n : ℕ) → tag.element < 65536 → (n == tag_number tag) ≡ true → (tag_of_number n).group ≡ tag.group
same_group tag n h p = let e : n ≡ tag_number tag = eqb-true n (tag_number tag) p in omega (arith, e, h)

element_public : (d : Dictionary) (tag : Tag) (x : Vr × List ℕ) → tag.element < 65536 → element_in d tag ≡ Some x → not (is_private tag) ≡ true
unfolding element_in
element_public d tag x h p =
    let m = mapped (λ (e : Element). (e.1, e.2)) (find (λ (e : Element). e.0 == tag_number tag) (elements_in d)) x p in
    let q = found_passes (λ e. e.0 == tag_number tag) (λ e. is_even e.0) (elements_in d) m.0 (groups_are_even d) m.1 in
    subst (λ g. not (g % 2 == 1) ≡ true) (same_group tag m.0.0 h q.1) (even_public m.0.0 q.0)

keyword_public : (d : Dictionary) (word : List ℕ) (tag : Tag) → tag_in d word ≡ Some tag → not (is_private tag) ≡ true
unfolding tag_in
keyword_public d word tag p =
    let m = mapped tag_of_number (called (elements_in d) word) tag p in
    let k = mapped (λ (e : Element). e.0) (find (λ (e : Element). bytes_eq e.2 word) (elements_in d)) m.0 m.1 in
    let q = found_passes (λ e. bytes_eq e.2 word) (λ e. is_even e.0) (elements_in d) k.0 (groups_are_even d) k.1 in
    subst (λ (t : Tag). not (is_private t) ≡ true) m.2 (subst (λ n. not (is_private (tag_of_number n)) ≡ true) k.2 (even_public k.0.0 q.0))

-- a chain that succeeds
pub bind_ok : {A B : Type 0} (r : Result A EditRefusal) (f : A → Result B EditRefusal) (y : B) → (r >>= f) ≡ Ok y → (x : A) × (r ≡ Ok x) × (f x ≡ Ok y)
bind_ok (Ok x) f y p = (x, refl, p)
bind_ok (Err u) f y p = cc

pub if_err : {A : Type 0} (c : Bool) (u : EditRefusal) (r : Result A EditRefusal) (y : A) → (if c then Err u else r) ≡ Ok y → r ≡ Ok y
if_err true u r y p = cc
if_err false u r y p = p

value_or : {A E : Type 0} → A → Result A E → A
value_or d (Ok x) = x
value_or d (Err u) = d

pub ok_is : {A E : Type 0} (x y : A) → (let r : Result A E = Ok x in let s : Result A E = Ok y in r ≡ s) → x ≡ y
unfolding value_or
ok_is x y p = ap (λ r. value_or x r) p

pub or_refused : {A : Type 0} (u : EditRefusal) (o : Option A) (x : A) → or_refuse u o ≡ Ok x → o ≡ Some x
or_refused u None x p = cc
or_refused u (Some y) x p = ap Some (ok_is y x p)

-- a tag by its number has no greater element than a number of two bytes
unfoldable pub Within : TagName → Type 0
Within (by_number tag) = tag.element < 65536
Within (by_keyword word) = Unit {0}

name_by_test : (b c : Bool) (o : Option Tag) (word : List ℕ) (name : TagName) → ((t : Tag) → o ≡ Some t → t.element < 65536)
    → (if b then option_map by_number o else (if c then Some (by_keyword word) else None)) ≡ Some name → Within name
unfolding Within
name_by_test true c None word name h p = cc
name_by_test true c (Some t) word name h p = let e : by_number t ≡ name = cc in let P : TagName → Type 0 = Within in subst P e (h t refl)
name_by_test false true o word name h p = let e : by_keyword word ≡ name = cc in let P : TagName → Type 0 = Within in subst P e tt
name_by_test false false o word name h p = cc

name_within : (cs : List ℕ) (name : TagName) → tag_name cs ≡ Some name → Within name
name_within [] name p = cc
name_within (c ∷ cs) name p = name_by_test _ _ _ _ name (tag_within (c ∷ cs)) p

abbrev named : TagName → Option Index → PathPart
named name index = record { name = name; index = index }

part_is : (name : TagName) (index : Option Index) (m : PathPart) → Within name → named name index ≡ m → Within m.name
part_is name index m h p = let P : PathPart → Type 0 = λ x. Within x.name in subst P p h

named_within : {A : Type 0} (f : A → Option Index) (name : TagName) (o : Option A) (m : PathPart) → Within name → option_map (λ x. named name (f x)) o ≡ Some m → Within m.name
named_within f name o m h p = let q = mapped (λ x. named name (f x)) o m p in part_is name (f q.0) m h q.2

plain_within : (o : Option TagName) (m : PathPart) → ((n : TagName) → o ≡ Some n → Within n) → option_map (λ s. named s None) o ≡ Some m → Within m.name
plain_within o m h p = let q = mapped (λ s. named s None) o m p in part_is q.0 None m (h q.0 q.1) q.2

index_if : (c : Bool) (name : TagName) (o : Option Index) (m : PathPart) → Within name → (if c then option_map (λ i. named name (Some i)) o else None) ≡ Some m → Within m.name
index_if true name o m h p = named_within Some name o m h p
index_if false name o m h p = cc

index_within : (o : Option TagName) (before : List ℕ) (after : Option (List ℕ)) (m : PathPart) → ((n : TagName) → o ≡ Some n → Within n) → with_index o (cut before after) ≡ Some m → Within m.name
index_within None before after m h p = cc
index_within (Some s) before None m h p = cc
index_within (Some s) before (Some rest) m h p = index_if (bytes_eq rest []) s (index_of before) m (h s refl) p

cut_within : (before : List ℕ) (after : Option (List ℕ)) (m : PathPart) → part_of_cut (cut before after) ≡ Some m → Within m.name
cut_within before None m p = plain_within (tag_name before) m (name_within before) p
cut_within before (Some inside) m p = index_within (tag_name before) (cut_at (byte "]") inside).before (cut_at (byte "]") inside).after m (name_within before) p

unfoldable pub AllWithin : List PathPart → Type 0
AllWithin [] = Unit {0}
AllWithin (m ∷ ms) = Within m.name × AllWithin ms

one_more : (o : Option PathPart) (r : Option (List PathPart)) (ps : List PathPart) → ((m : PathPart) → o ≡ Some m → Within m.name) → ((l : List PathPart) → r ≡ Some l → AllWithin l)
    → (let s : Option (List PathPart) = elim o [ None ↦ None | Some m ↦ prepended m r ] in s ≡ Some ps) → AllWithin ps
unfolding AllWithin
one_more None r ps h g p = cc
one_more (Some m) r ps h g p =
    let q = mapped (λ l. m ∷ l) r ps p in
    let P : List PathPart → Type 0 = AllWithin in
    subst P q.2 (h m refl, g q.0 q.1)

pub parts_within : (texts : List (List ℕ)) (ps : List PathPart) → parts_of texts ≡ Some ps → AllWithin ps
unfolding AllWithin
parts_within [] ps p = let e : [] ≡ ps = cc in let P : List PathPart → Type 0 = AllWithin in subst P e tt
parts_within (text ∷ texts) ps p =
    let k = cut_at (byte "[") text in
    one_more (part_of text) (parts_of texts) ps (cut_within k.before k.after) (parts_within texts) p

-- known parts are public
record_public : (tag : Tag) (vr : Vr) (index : Option Index) (k : Known) → not (is_private tag) ≡ true → (let l : Known = record { tag = tag; vr = vr; index = index } in l ≡ k) → not (is_private k.tag) ≡ true
record_public tag vr index k h p = let P : Known → Type 0 = λ x. not (is_private x.tag) ≡ true in subst P p h

tag_public : (d : Dictionary) (index : Option Index) (tag : Tag) (k : Known) → ((x : Vr × List ℕ) → element_in d tag ≡ Some x → not (is_private tag) ≡ true) → known_tag d index tag ≡ Ok k → not (is_private k.tag) ≡ true
tag_public d index tag k h p =
    let q = if_err (tag.group == 2) MetaGroup (or_refuse UnknownTag (element_in d tag) >>= λ e. Ok (record { tag = tag; vr = e.0; index = index })) k p in
    let r = bind_ok (or_refuse UnknownTag (element_in d tag)) (λ e. Ok (record { tag = tag; vr = e.0; index = index })) k q in
    record_public tag r.0.0 index k (h r.0 (or_refused UnknownTag (element_in d tag) r.0 r.1)) (ok_is _ _ r.2)

part_public : (d : Dictionary) (s : TagName) (index : Option Index) (k : Known) → Within s → known_part d s index ≡ Ok k → not (is_private k.tag) ≡ true
unfolding Within
part_public d (by_number tag) index k h p = tag_public d index tag k (λ x q. element_public d tag x h q) p
part_public d (by_keyword word) index k h p =
    let r = bind_ok (or_refuse UnknownTag (tag_in d word)) (known_tag d index) k p in
    tag_public d index r.0 k (λ x q. keyword_public d word r.0 (or_refused UnknownTag (tag_in d word) r.0 r.1)) r.2

AllPublic : List Known → Type 0
AllPublic [] = Unit {0}
AllPublic (k ∷ ks) = (not (is_private k.tag) ≡ true) × AllPublic ks

parts_public : (d : Dictionary) (ms : List PathPart) (ks : List Known) → AllWithin ms → known_parts d ms ≡ Ok ks → AllPublic ks
unfolding AllPublic AllWithin
parts_public d [] ks w p = let q : ks ≡ [] = cc in rw q tt
parts_public d (m ∷ ms) ks w p =
    let first = bind_ok (known_part d m.name m.index) (λ k. known_parts d ms >>= λ more. Ok (k ∷ more)) ks p in
    let rest = bind_ok (known_parts d ms) (λ more. Ok (first.0 ∷ more)) ks first.2 in
    let P : List Known → Type 0 = λ l. AllPublic l in
    let e : first.0 ∷ rest.0 ≡ ks = ok_is _ _ rest.2 in
    subst P e (part_public d m.name m.index first.0 w.0 first.1, parts_public d ms rest.0 w.1 rest.1)

step_public : (tag : Tag) (o : Option Index) (edit : PathEdit) → not (is_private tag) ≡ true → is_public_path (path edit) ≡ true → is_public_path (path (step_to tag o edit)) ≡ true
step_public tag None edit p q = q
step_public tag (Some index) edit p q = and_both _ _ p q

steps_public : (at_end : Known → PathEdit) (k : Known) (ks : List Known) → ((x : Known) → not (is_private x.tag) ≡ true → is_public_path (path (at_end x)) ≡ true) → AllPublic (k ∷ ks)
    → is_public_path (path (on_steps at_end k ks)) ≡ true
unfolding AllPublic
steps_public at_end k [] h a = h k a.0
steps_public at_end k (l ∷ ks) h a = step_public k.tag k.index (on_steps at_end l ks) a.0 (steps_public at_end l ks h a.1)

end_public : (tag : Tag) (o : Option Index) → not (is_private tag) ≡ true → is_public_path (path (item_or_element tag o)) ≡ true
end_public tag None p = and_both _ _ p refl
end_public tag (Some index) p = and_both _ _ p refl

edit_public : (kind : Kind) (k : Known) (ks : List Known) (value : List ℕ) → AllPublic (k ∷ ks) → is_public (edit_on kind k ks value) ≡ true
unfolding AllPublic
edit_public inserts k ks value a = steps_public _ k ks (λ x p. and_both _ _ p refl) a
edit_public modifies k ks value a = steps_public _ k ks (λ x p. and_both _ _ p refl) a
edit_public erases k ks value a = steps_public _ k ks (λ x p. end_public x.tag x.index p) a
edit_public modifies_all k ks value a = a.0
edit_public erases_all k ks value a = a.0

pub if_ok : {A : Type 0} (c : Bool) (u : EditRefusal) (r : Result A EditRefusal) (y : A) → (if c then r else Err u) ≡ Ok y → r ≡ Ok y
if_ok true u r y p = p
if_ok false u r y p = cc

known_public : (kind : Kind) (text : List ℕ) (ks : List Known) (e : Edit) → AllPublic ks → edit_of_known kind text ks ≡ Ok e → is_public e ≡ true
known_public kind text [] e a h = absurd cc
known_public kind text (k ∷ ks) e a h =
    let r = bind_ok (value_for kind (last_vr k ks) text) (λ value. Ok (edit_on kind k ks value)) e (if_ok (uses_sequences (takes_value kind) (k ∷ ks)) SequenceMisused _ e h) in
    let P : Edit → Type 0 = λ x. is_public x ≡ true in
    subst P (ok_is _ _ r.2) (edit_public kind k ks r.0 a)

meant_edit_public : (d : Dictionary) (kind : Kind) (p v : List ℕ) (e : Edit) → meant_edit d kind p v ≡ Ok e → is_public e ≡ true
meant_edit_public d kind p v e h =
    let a = bind_ok (or_refuse BadOption (parts_of (slice_split (λ c. c == byte ".") p))) (edit_of_parts d kind v) e h in
    let b = bind_ok (known_parts d a.0) (edit_of_known kind v) e (if_ok (has_form kind a.0) BadOption _ e a.2) in
    known_public kind v b.0 e (parts_public d a.0 b.0 (parts_within (slice_split (λ c. c == byte ".") p) a.0 (or_refused BadOption _ a.0 a.1)) b.1) b.2

meant_word_public : (d : Dictionary) (kind : Kind) (w : List ℕ) (e : Edit) → meant_word d kind w ≡ Ok e → is_public e ≡ true
meant_word_public d kind w e h = by_test (takes_value kind) _ _ h (λ g. meant_edit_public d kind (cut_at (byte "=") w).before (unwrap_or (cut_at (byte "=") w).after []) e g) (λ g. meant_edit_public d kind w [] e g)
  where
    by_test : (c : Bool) (r q : Result Edit EditRefusal) → (if c then r else q) ≡ Ok e → (r ≡ Ok e → is_public e ≡ true) → (q ≡ Ok e → is_public e ≡ true) → is_public e ≡ true
    by_test true r q k f g = f k
    by_test false r q k f g = g k

pub then_public : (e : Edit) (r : Result (List Edit) InEdit) (es : List Edit) → is_public e ≡ true → ((fs : List Edit) → r ≡ Ok fs → ArePublic fs) → and_then e r ≡ Ok es → ArePublic es
then_public e (Ok fs) es p h q = let P : List Edit → Type 0 = λ l. ArePublic l in subst P (ok_is _ _ q) (p, h fs refl)
then_public e (Err u) es p h q = cc

word_then : (n : ℕ) (r : Result Edit EditRefusal) (more : Result (List Edit) InEdit) (es : List Edit) → ((e : Edit) → r ≡ Ok e → is_public e ≡ true)
    → ((fs : List Edit) → more ≡ Ok fs → ArePublic fs) → (let s : Result (List Edit) InEdit = elim (at_edit n r) [ Ok e ↦ and_then e more | Err u ↦ Err u ] in s ≡ Ok es) → ArePublic es
word_then n (Ok e) more es p h q = then_public e more es (p e refl) h q
word_then n (Err u) more es p h q = cc

one_word : (o : OptionWord) (n : ℕ) (es : List Edit)
    → (let s : Result (List Edit) InEdit = elim o [ private_word ↦ Ok (erase_private ∷ []) | takes_word kind ↦ Err (in_edit BadOption n) | unknown_word ↦ Err (in_edit BadOption n) ] in s ≡ Ok es) → ArePublic es
one_word private_word n es q = let P : List Edit → Type 0 = λ l. ArePublic l in subst P (ok_is _ _ q) (refl, tt)
one_word (takes_word kind) n es q = cc
one_word unknown_word n es q = cc

two_words : (d : Dictionary) (o : OptionWord) (n : ℕ) (v : List ℕ) (skip more : Result (List Edit) InEdit) (es : List Edit)
    → ((fs : List Edit) → skip ≡ Ok fs → ArePublic fs) → ((fs : List Edit) → more ≡ Ok fs → ArePublic fs)
    → (let s : Result (List Edit) InEdit = elim o [
      | private_word ↦ and_then erase_private skip
      | takes_word kind ↦ elim (at_edit n (meant_word d kind v)) [ Ok e ↦ and_then e more | Err u ↦ Err u ]
      | unknown_word ↦ Err (in_edit BadOption n)
    ] in s ≡ Ok es) → ArePublic es
two_words d private_word n v skip more es g h q = then_public erase_private skip es refl g q
two_words d (takes_word kind) n v skip more es g h q = word_then n (meant_word d kind v) more es (λ e r. meant_word_public d kind v e r) h q
two_words d unknown_word n v skip more es g h q = cc

pub in_turn : (c : Bool) (u : InEdit) (r : Result (List Edit) InEdit) (es : List Edit) → (if c then Err u else r) ≡ Ok es → r ≡ Ok es
in_turn true u r es p = cc
in_turn false u r es p = p

meant_public : (d : Dictionary) (n : ℕ) (words : List (List ℕ)) (es : List Edit) → meant_from d n words ≡ Ok es → ArePublic es
meant_public d n [] es q = let P : List Edit → Type 0 = λ l. ArePublic l in subst P (ok_is _ _ q) tt
meant_public d n (w ∷ []) es q = one_word (option_word w) n es (in_turn (nat_lt EDIT_LIMIT n) (in_edit TooMany n) _ es q)
meant_public d n (w ∷ v ∷ words) es q =
    two_words d (option_word w) n v _ _ es (meant_public d (suc n) (v ∷ words)) (meant_public d (suc n) words) (in_turn (nat_lt EDIT_LIMIT n) (in_edit TooMany n) _ es q)

apart_from_words : (r : Result (List Edit) InEdit) (es : List Edit) → (let s : Result (List Edit) InEdit = elim r [ Ok fs ↦ apart fs | Err u ↦ Err u ] in s ≡ Ok es)
    → ((fs : List Edit) → r ≡ Ok fs → ArePublic fs) → AreApart es × ArePublic es
apart_from_words (Ok fs) es q h = by_overlap (first_overlap 1 [] fs) refl q
  where
    by_overlap : (o : Option ℕ) → first_overlap 1 [] fs ≡ o → (let s : Result (List Edit) InEdit = elim o [ None ↦ Ok fs | Some n ↦ Err (in_edit Overlap n) ] in s ≡ Ok es)
        → AreApart es × ArePublic es
    by_overlap None e g = let P : List Edit → Type 0 = λ l. AreApart l × ArePublic l in subst P (ok_is _ _ g) ((first_overlap_none 1 [] fs e).0, h fs refl)
    by_overlap (Some n) e g = cc
apart_from_words (Err u) es q h = cc

-- the law
pub edits_are_apart : (d : Dictionary) (words : List (List ℕ)) (es : List Edit) → meant_edits_in d words ≡ Ok es → AreApart es × ArePublic es
edits_are_apart d words es q = apart_from_words (meant_from d 1 (without_settings words)) es q (meant_public d 1 (without_settings words))
