-- What the front of bytes is read as, by what is known of them.
use Rattle.std.proofs.Common.{◌≡◌, ℕ, ◌≤◌, ◌<◌, List, length, drop, Option, Some, None, Bool, true, false, cond, nat_lt, refl, sym, ap, ◌∙◌, subst}
use Rattle.std.proofs.lemmas.Bool.{lt-ltb, le-ltb, ltb-true, ltb-false}
use Rattle.dcm_base.specs.declared.tag.Tag.{Tag}
use Rattle.dcm_base.specs.declared.vr.Vr.{Vr}
use Rattle.dcm_base.specs.declared.vr.Vr.TheVariants.{UN}
use Rattle.dcm_base.specs.declared.syntax.Syntax.{Syntax}
use Rattle.dcm_base.specs.declared.length.Length.{Length}
use Rattle.dcm_base.specs.declared.length.Length.TheVariants.{Known}
use Rattle.dcm_base.specs.Tables.Number.{number}
use Rattle.dcm_base.specs.Tables.Tag.{is_item}
use Rattle.dcm_base.specs.Bytes.Head.{PlainHead, tag_at, vr_at, head_size, length_at, long_length}
use Rattle.dcm_head.specs.declared.head.HeadRead.{HeadRead}
use Rattle.dcm_head.specs.declared.head.HeadRead.TheVariants.{Done, More, BadVr}
use Rattle.dcm_head.specs.HeadRead.{is_delimiter, element_done, element_read, tag_read, head_read}

-- ---- the head of an element

pub element_missing : (s : Syntax) (b : List ℕ) (o : Option Vr) → o ≡ None → element_read s b o ≡ BadVr
element_missing s b o e = ap (element_read s b) e

pub done_by_test : (s : Syntax) (b : List ℕ) (vr : Vr) (short : Bool) → nat_lt (length b) (head_size s vr) ≡ short
    → element_done s b vr ≡ cond short (More (head_size s vr)) (Done (record { tag = tag_at s b; vr = vr; length = length_at s vr b }) (head_size s vr))
done_by_test s b vr short e = ap (λ (x : Bool). cond x (More (head_size s vr)) (Done (record { tag = tag_at s b; vr = vr; length = length_at s vr b }) (head_size s vr))) e

pub element_short : (s : Syntax) (b : List ℕ) (o : Option Vr) (vr : Vr) (n : ℕ) → o ≡ Some vr → head_size s vr ≡ n → length b < n → element_read s b o ≡ More n
element_short s b o vr n e size less =
    ap (element_read s b) e ∙ done_by_test s b vr true (lt-ltb (length b) (head_size s vr) (subst (λ (k : ℕ). length b < k) (sym size) less)) ∙ ap More size

pub element_whole : (s : Syntax) (b : List ℕ) (o : Option Vr) (tag : Tag) (vr : Vr) (l : Length) (n : ℕ) → o ≡ Some vr → head_size s vr ≡ n → n ≤ length b
    → tag ≡ tag_at s b → l ≡ length_at s vr b → element_read s b o ≡ Done (record { tag = tag; vr = vr; length = l }) n
element_whole s b o tag vr l n e size le t m =
    ap (element_read s b) e ∙ done_by_test s b vr false (le-ltb (length b) (head_size s vr) (subst (λ (k : ℕ). k ≤ length b) (sym size) le))
    ∙ (λ i. Done (record { tag = sym t i; vr = vr; length = sym m i }) (size i))

-- ---- any head

pub head_short : (s : Syntax) (b : List ℕ) → length b < 8 → head_read s b ≡ More 8
unfolding head_read
head_short s b less = ap (λ (x : Bool). cond x (More 8) (tag_read s b (tag_at s b))) (lt-ltb (length b) 8 less)

pub head_long : (s : Syntax) (b : List ℕ) → 8 ≤ length b → head_read s b ≡ tag_read s b (tag_at s b)
unfolding head_read
head_long s b le = ap (λ (x : Bool). cond x (More 8) (tag_read s b (tag_at s b))) (le-ltb (length b) 8 le)

pub by_tests : (s : Syntax) (b : List ℕ) (tag : Tag) (item delimiter : Bool) → is_item tag ≡ item → is_delimiter tag ≡ delimiter
    → tag_read s b tag ≡ cond item (Done (record { tag = tag; vr = UN; length = long_length (number s 4 (drop 4 b)) }) 8)
    (cond delimiter (Done (record { tag = tag; vr = UN; length = Known 0 }) 8) (element_read s b (vr_at s b)))
by_tests s b tag item delimiter e f = λ i. cond (e i) (Done (record { tag = tag; vr = UN; length = long_length (number s 4 (drop 4 b)) }) 8)
    (cond (f i) (Done (record { tag = tag; vr = UN; length = Known 0 }) 8) (element_read s b (vr_at s b)))

pub head_item : (s : Syntax) (b : List ℕ) (tag : Tag) → 8 ≤ length b → tag ≡ tag_at s b → is_item tag ≡ true
    → head_read s b ≡ Done (record { tag = tag; vr = UN; length = long_length (number s 4 (drop 4 b)) }) 8
head_item s b tag le t e = head_long s b le ∙ ap (tag_read s b) (sym t) ∙ by_tests s b tag true (is_delimiter tag) e refl

pub head_delimiter : (s : Syntax) (b : List ℕ) (tag : Tag) → 8 ≤ length b → tag ≡ tag_at s b → is_item tag ≡ false → is_delimiter tag ≡ true
    → head_read s b ≡ Done (record { tag = tag; vr = UN; length = Known 0 }) 8
head_delimiter s b tag le t e f = head_long s b le ∙ ap (tag_read s b) (sym t) ∙ by_tests s b tag false true e f

pub head_element : (s : Syntax) (b : List ℕ) (tag : Tag) → 8 ≤ length b → tag ≡ tag_at s b → is_item tag ≡ false → is_delimiter tag ≡ false
    → head_read s b ≡ element_read s b (vr_at s b)
head_element s b tag le t e f = head_long s b le ∙ ap (tag_read s b) (sym t) ∙ by_tests s b tag false false e f

-- ---- what the answer for an element tells

abbrev pub ElementTold : Syntax → List ℕ → HeadRead → Type 0
ElementTold s b (Done head n) = PlainHead s head.tag head.vr head.length b (drop n b) × (n ≡ head_size s head.vr)
ElementTold s b (More n) = (vr : Vr) × (vr_at s b ≡ Some vr) × (length b < head_size s vr)
ElementTold s b BadVr = vr_at s b ≡ None

done_told : (s : Syntax) (b : List ℕ) (vr : Vr) (short : Bool) → vr_at s b ≡ Some vr → nat_lt (length b) (head_size s vr) ≡ short → ElementTold s b (element_done s b vr)
done_told s b vr true e test = subst (ElementTold s b) (sym (done_by_test s b vr true test)) (vr, e, ltb-true (length b) (head_size s vr) test)
done_told s b vr false e test =
    subst (ElementTold s b) (sym (done_by_test s b vr false test))
    (record { tag_is = refl; vr_is = sym e; whole = ltb-false (length b) (head_size s vr) test; length_is = refl; after_is = refl }, refl)

read_told : (s : Syntax) (b : List ℕ) (o : Option Vr) → vr_at s b ≡ o → ElementTold s b (element_read s b o)
read_told s b None e = e
read_told s b (Some vr) e = done_told s b vr (nat_lt (length b) (head_size s vr)) e refl

pub element_told : (s : Syntax) (b : List ℕ) (r : HeadRead) → r ≡ element_read s b (vr_at s b) → ElementTold s b r
element_told s b r e = subst (ElementTold s b) (sym e) (read_told s b (vr_at s b) refl)
