-- What is read at the front of bytes is the head that stands there.
use Rattle.std.proofs.Common.{◌≡◌, ℕ, ◌≤◌, ◌<◌, ◌⊎◌, inl, inr, List, [], ◌∷◌, length, drop, length-drop, unwrap_or, get_or, Option, Some, None, Bool, true, false, cond, nat_lt, ◌&&◌, refl, sym, ap, ◌∙◌, subst, arith}
use Rattle.std.specs.Bool.{MatchBool}
use Rattle.std.proofs.lemmas.Bool.{ltb-true, ltb-false}
use Rattle.dcm_base.specs.declared.tag.Tag.{Tag}
use Rattle.dcm_base.specs.declared.vr.Vr.{Vr}
use Rattle.dcm_base.specs.declared.vr.Vr.TheVariants.{UN}
use Rattle.dcm_base.specs.declared.syntax.Syntax.{Syntax}
use Rattle.dcm_base.specs.declared.syntax.Syntax.TheVariants.{Implicit as implicit_in, Little as little_in, Big as big_in}
use Rattle.dcm_base.specs.declared.length.Length.{Length}
use Rattle.dcm_base.specs.declared.length.Length.TheVariants.{Known}
use Rattle.dcm_base.specs.Tables.Number.{number}
use Rattle.dcm_base.specs.Tables.Representation.{is_capital, vr_of, vr_read, is_long}
use Rattle.dcm_base.specs.Tables.Tag.{is_item}
use Rattle.dcm_base.specs.Bytes.Head.{HeadAt, PlainHead, ItemHead, Delimiter, tag_at, vr_at, head_size, length_at, long_length}
use Rattle.dcm_base.proofs.DataSets.Heads.{is_tag_true, head_tag, eight_le_head_size}
use Rattle.dcm_base.specs.Conversion.Recode.{is_explicit}
use Rattle.dcm_head.specs.declared.head.Head.{Head}
use Rattle.dcm_head.specs.declared.head.HeadRead.{HeadRead}
use Rattle.dcm_head.specs.declared.head.HeadRead.TheVariants.{Done, More, BadVr}
use Rattle.dcm_head.specs.HeadRead.{is_delimiter, element_done, element_read, head_read, BeginsElement, IsShort, HasBadVr, Begins}
use Rattle.dcm_head.proofs.Heads.Reads.{element_missing, element_short, element_whole, head_short, head_item, head_delimiter, head_element, head_long, by_tests, done_by_test}

-- ---- from what stands there to what is read

size_same : (k n : ℕ) (b : List ℕ) → drop n b ≡ drop k b → n ≤ length b → k ≤ length b → k ≡ n
size_same k n b e le ke =
    let same = ap length e in
    let left = length-drop n b in
    let right = length-drop k b in
    omega (arith, same, left, right)

done_by_cases : (x y : Bool) (s : Syntax) (t : Tag) (v : Vr) (l : Length) (b : List ℕ) (n : ℕ) → is_item t ≡ x → is_delimiter t ≡ y → t ≡ tag_at s b → n ≤ length b
    → MatchBool x ((v ≡ UN) × ItemHead s l b (drop n b)) (MatchBool y ((v ≡ UN) × (l ≡ Known 0) × Delimiter s t b (drop n b)) (PlainHead s t v l b (drop n b)))
    → head_read s b ≡ Done (record { tag = t; vr = v; length = l }) n
done_by_cases true y s t v l b n e f at le h =
    let size = size_same 8 n b h.1.after_is le h.1.whole in
    head_item s b t h.1.whole at e ∙ (λ i. Done (record { tag = t; vr = sym h.0 i; length = sym h.1.length_is i }) (size i))
done_by_cases false true s t v l b n e f at le h =
    let size = size_same 8 n b h.2.after_is le h.2.whole in
    head_delimiter s b t h.2.whole at e f ∙ (λ i. Done (record { tag = t; vr = sym h.0 i; length = sym h.1 i }) (size i))
done_by_cases false false s t v l b n e f at le h =
    let size = size_same (head_size s v) n b h.after_is le h.whole in
    let least = eight_le_head_size s v in
    head_element s b t (omega (arith, least, h.whole)) at e f ∙ element_whole s b (vr_at s b) t v l n (sym h.vr_is) size le at h.length_is

pub begins_read : (s : Syntax) (b : List ℕ) (head : Head) (n : ℕ) → Begins s b head n → head_read s b ≡ Done head n
begins_read s b head n h =
    done_by_cases (is_item head.tag) (is_delimiter head.tag) s head.tag head.vr head.length b n refl refl (head_tag s head.tag head.vr head.length b (drop n b) h.1) h.0 h.1

pub short_read : (s : Syntax) (b : List ℕ) (n : ℕ) → IsShort s b n → head_read s b ≡ More n
short_read s b n (inl h) = head_short s b h.1 ∙ ap More (sym h.0)
short_read s b n (inr h) =
    let e = h.2.0 in
    head_element s b (tag_at s b) e.eight refl e.no_item e.no_delimiter
    ∙ element_short s b (vr_at s b) h.2.1 12 h.2.2 h.2.3 h.1 ∙ ap More (sym h.0)

read_none : (a c : ℕ) → (is_capital a && is_capital c) ≡ false → vr_read a c ≡ None
read_none a c e = ap (λ (x : Bool). cond x (Some (unwrap_or (vr_of (a ∷ c ∷ [])) UN)) None) e

bad_vr : (s : Syntax) (b : List ℕ) → is_explicit s ≡ true → (is_capital (get_or b 4 0) && is_capital (get_or b 5 0)) ≡ false → vr_at s b ≡ None
unfolding vr_at
bad_vr (implicit_in d) b h e = absurd (cc)
bad_vr (little_in d) b h e = read_none (get_or b 4 0) (get_or b 5 0) e
bad_vr (big_in d) b h e = read_none (get_or b 4 0) (get_or b 5 0) e

pub bad_read : (s : Syntax) (b : List ℕ) → HasBadVr s b → head_read s b ≡ BadVr
bad_read s b h =
    head_element s b (tag_at s b) h.0.eight refl h.0.no_item h.0.no_delimiter ∙ element_missing s b (vr_at s b) (bad_vr s b h.1 h.2)

-- ---- from what is read to what stands there

abbrev pub IsRead : Syntax → List ℕ → HeadRead → Type 0
IsRead s b (Done head n) = Begins s b head n
IsRead s b (More n) = IsShort s b n
IsRead s b BadVr = HasBadVr s b

pub head_at : (x y : Bool) (s : Syntax) (t : Tag) (v : Vr) (l : Length) (b after : List ℕ) → is_item t ≡ x → is_delimiter t ≡ y
    → MatchBool x ((v ≡ UN) × ItemHead s l b after) (MatchBool y ((v ≡ UN) × (l ≡ Known 0) × Delimiter s t b after) (PlainHead s t v l b after))
    → HeadAt s t v l b after
head_at x y s t v l b after e f h =
    subst (λ (z : Bool). MatchBool z ((v ≡ UN) × ItemHead s l b after) (MatchBool (is_delimiter t) ((v ≡ UN) × (l ≡ Known 0) × Delimiter s t b after) (PlainHead s t v l b after))) (sym e)
    (subst (λ (z : Bool). MatchBool x ((v ≡ UN) × ItemHead s l b after) (MatchBool z ((v ≡ UN) × (l ≡ Known 0) × Delimiter s t b after) (PlainHead s t v l b after))) (sym f) h)

either_size : (long : Bool) → (cond {A = ℕ} long 12 8 ≡ 8) ⊎ (cond {A = ℕ} long 12 8 ≡ 12)
either_size true = inr refl
either_size false = inl refl

eight_or_twelve : (s : Syntax) (v : Vr) → (head_size s v ≡ 8) ⊎ (head_size s v ≡ 12)
eight_or_twelve (implicit_in d) v = inl refl
eight_or_twelve (little_in d) v = either_size (is_long v)
eight_or_twelve (big_in d) v = either_size (is_long v)

misses : (s : Syntax) (b : List ℕ) (v : Vr) (n : ℕ) → BeginsElement s b → vr_at s b ≡ Some v → head_size s v ≡ n → length b < n → (n ≡ 8) ⊎ (n ≡ 12) → IsShort s b n
misses s b v n begins e size less (inl h) = absurd (omega (arith, begins.eight))
misses s b v n begins e size less (inr h) = inr (h, subst (λ (k : ℕ). length b < k) h less, (begins, v, e, size ∙ h))

told_done : (s : Syntax) (b : List ℕ) (v : Vr) (short : Bool) → BeginsElement s b → vr_at s b ≡ Some v → nat_lt (length b) (head_size s v) ≡ short → IsRead s b (element_done s b v)
told_done s b v true begins e test =
    subst (IsRead s b) (sym (done_by_test s b v true test)) (misses s b v (head_size s v) begins e refl (ltb-true (length b) (head_size s v) test) (eight_or_twelve s v))
told_done s b v false begins e test =
    let whole = ltb-false (length b) (head_size s v) test in
    subst (IsRead s b) (sym (done_by_test s b v false test)) (
      whole,
      head_at false false s (tag_at s b) v (length_at s v b) b (drop (head_size s v) b) begins.no_item begins.no_delimiter
          (record { tag_is = refl; vr_is = sym e; whole = whole; length_is = refl; after_is = refl }),
    )

no_value : (x : Bool) (v : Vr) → cond {A = Option Vr} x (Some v) None ≡ None → x ≡ false
no_value true v e = absurd cc
no_value false v e = refl

none_capitals : (a c : ℕ) → vr_read a c ≡ None → (is_capital a && is_capital c) ≡ false
none_capitals a c e = no_value (is_capital a && is_capital c) (unwrap_or (vr_of (a ∷ c ∷ [])) UN) e

bad_letters : (s : Syntax) (b : List ℕ) → vr_at s b ≡ None → (is_explicit s ≡ true) × ((is_capital (get_or b 4 0) && is_capital (get_or b 5 0)) ≡ false)
unfolding vr_at
bad_letters (implicit_in d) b e = absurd cc
bad_letters (little_in d) b e = (refl, none_capitals (get_or b 4 0) (get_or b 5 0) e)
bad_letters (big_in d) b e = (refl, none_capitals (get_or b 4 0) (get_or b 5 0) e)

told_element : (s : Syntax) (b : List ℕ) (o : Option Vr) → BeginsElement s b → vr_at s b ≡ o → IsRead s b (element_read s b o)
told_element s b None begins e = let bad = bad_letters s b e in (begins, bad.0, bad.1)
told_element s b (Some v) begins e = told_done s b v (nat_lt (length b) (head_size s v)) begins e refl

told_tag : (s : Syntax) (b : List ℕ) (item delimiter : Bool) → 8 ≤ length b → is_item (tag_at s b) ≡ item → is_delimiter (tag_at s b) ≡ delimiter
    → IsRead s b (cond item (Done (record { tag = tag_at s b; vr = UN; length = long_length (number s 4 (drop 4 b)) }) 8)
    (cond delimiter (Done (record { tag = tag_at s b; vr = UN; length = Known 0 }) 8) (element_read s b (vr_at s b))))
told_tag s b true delimiter le e f = (
  le,
  head_at true delimiter s (tag_at s b) UN (long_length (number s 4 (drop 4 b))) b (drop 8 b) e f
      (refl, record { tag_is = sym (is_tag_true 0xFFFE 0xE000 (tag_at s b) e); whole = le; length_is = refl; after_is = refl }),
)
told_tag s b false true le e f =
    (le, head_at false true s (tag_at s b) UN (Known 0) b (drop 8 b) e f (refl, refl, record { tag_is = refl; whole = le; after_is = refl }))
told_tag s b false false le e f = told_element s b (vr_at s b) (record { eight = le; no_item = e; no_delimiter = f }) refl

told_by_size : (s : Syntax) (b : List ℕ) (short : Bool) → nat_lt (length b) 8 ≡ short → IsRead s b (head_read s b)
told_by_size s b true e =
    let less = ltb-true (length b) 8 e in
    subst (IsRead s b) (sym (head_short s b less)) (inl (refl, less))
told_by_size s b false e =
    let le = ltb-false (length b) 8 e in
    subst (IsRead s b) (sym (head_long s b le ∙ by_tests s b (tag_at s b) (is_item (tag_at s b)) (is_delimiter (tag_at s b)) refl refl))
    (told_tag s b (is_item (tag_at s b)) (is_delimiter (tag_at s b)) le refl refl)

pub told : (s : Syntax) (b : List ℕ) (r : HeadRead) → head_read s b ≡ r → IsRead s b r
told s b r e = subst (IsRead s b) e (told_by_size s b (nat_lt (length b) 8) refl)
