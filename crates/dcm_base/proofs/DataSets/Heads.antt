-- What stands at the front of bytes is one head.
use Rattle.std.proofs.Common.{◌≡◌, ◌≢◌, ℕ, ◌≤◌, List, length, drop, Bool, true, false, cond, ◌||◌, eqb, refl, sym, ap, ◌∙◌, subst, arith}
use Rattle.std.specs.Bool.{MatchBool}
use Rattle.std.proofs.lemmas.Bool.{eqb-true}
use Rattle.dcm_lemmas.proofs.Options.{some_same}
use Rattle.dcm_lemmas.proofs.Truth.{and_parts}
use Rattle.dcm_base.specs.declared.tag.Tag.{Tag}
use Rattle.dcm_base.specs.declared.vr.Vr.{Vr}
use Rattle.dcm_base.specs.declared.vr.Vr.TheVariants.{UN}
use Rattle.dcm_base.specs.declared.syntax.Syntax.{Syntax}
use Rattle.dcm_base.specs.declared.syntax.Syntax.TheVariants.{Implicit as implicit_in, Little as little_in, Big as big_in}
use Rattle.dcm_base.specs.Tables.Representation.{is_long}
use Rattle.dcm_base.specs.Tables.Tag.{is_tag}
use Rattle.dcm_base.specs.declared.length.Length.{Length}
use Rattle.dcm_base.specs.declared.length.Length.TheVariants.{Known}
use Rattle.dcm_base.specs.Bytes.Head.{HeadAt, PlainHead, ElementHead, ItemHead, Delimiter, tag_at, length_at, head_size}
use Rattle.dcm_base.specs.Tables.Tag.{is_item, is_item_end, is_sequence_end, item_tag}

-- the size of a known length
pub known_same : (m n : ℕ) → Known m ≡ Known n → m ≡ n
known_same m n e = cc

pub record SameHead (t u : Tag) (v w : Vr) (l m : Length) (c d : List ℕ) : Type 0 where
  pub tags : t ≡ u
  pub vrs : v ≡ w
  pub lengths : l ≡ m
  pub contents : c ≡ d

pub plain_same : (s : Syntax) (t u : Tag) (v w : Vr) (l m : Length) (b c d : List ℕ) → PlainHead s t v l b c → PlainHead s u w m b d → SameHead t u v w l m c d
plain_same s t u v w l m b c d p q =
    let vrs : v ≡ w = some_same v w (p.vr_is ∙ sym q.vr_is) in
    record {
      tags = p.tag_is ∙ sym q.tag_is;
      vrs = vrs;
      lengths = p.length_is ∙ ap (λ (x : Vr). length_at s x b) vrs ∙ sym q.length_is;
      contents = p.after_is ∙ ap (λ (x : Vr). drop (head_size s x) b) vrs ∙ sym q.after_is;
    }

pub element_same : (s : Syntax) (t u : Tag) (v w : Vr) (l m : Length) (b c d : List ℕ) → ElementHead s t v l b c → ElementHead s u w m b d → SameHead t u v w l m c d
element_same s t u v w l m b c d p q = plain_same s t u v w l m b c d p.head q.head

pub item_same : (s : Syntax) (l m : Length) (b c d : List ℕ) → ItemHead s l b c → ItemHead s m b d → (l ≡ m) × (c ≡ d)
item_same s l m b c d p q = (p.length_is ∙ sym q.length_is, p.after_is ∙ sym q.after_is)

pub delimiter_same : (s : Syntax) (t : Tag) (b c d : List ℕ) → Delimiter s t b c → Delimiter s t b d → c ≡ d
delimiter_same s t b c d p q = p.after_is ∙ sym q.after_is

-- no element begins here
abbrev pub NoElement : Syntax → List ℕ → Type 0
NoElement s b = 8 ≤ length b → (tag_at s b).group ≡ 0xFFFE

-- no item begins here
abbrev pub NoItem : Syntax → List ℕ → Type 0
NoItem s b = 8 ≤ length b → tag_at s b ≢ item_tag

eight_le : (b : Bool) → 8 ≤ cond b 12 8
eight_le true = omega arith
eight_le false = omega arith

pub eight_le_head_size : (s : Syntax) (v : Vr) → 8 ≤ head_size s v
eight_le_head_size (implicit_in d) v = omega arith
eight_le_head_size (little_in d) v = eight_le (is_long v)
eight_le_head_size (big_in d) v = eight_le (is_long v)

pub element_begins : (s : Syntax) (t : Tag) (v : Vr) (l : Length) (b c : List ℕ) → ElementHead s t v l b c → NoElement s b → ⊥
element_begins s t v l b c p none =
    let le = eight_le_head_size s v in
    let whole : 8 ≤ length b = omega (arith, le, p.whole) in
    p.no_item (ap (λ (x : Tag). x.group) p.tag_is ∙ none whole)

pub item_begins : (s : Syntax) (l : Length) (b c : List ℕ) → ItemHead s l b c → NoItem s b → ⊥
item_begins s l b c p none = none p.whole (sym p.tag_is)

-- ---- heads of any tag

pub is_tag_true : (g e : ℕ) (t : Tag) → is_tag g e t ≡ true → t ≡ record { group = g; element = e }
is_tag_true g e t h =
    let both = and_parts (eqb t.group g) (eqb t.element e) h in
    let group = eqb-true t.group g both.0 in
    let element = eqb-true t.element e both.1 in
    λ i. record { group = group i; element = element i }

tag_by_cases : (x y : Bool) (s : Syntax) (t : Tag) (v : Vr) (l : Length) (b c : List ℕ) → (x ≡ true → t ≡ item_tag)
    → MatchBool x ((v ≡ UN) × ItemHead s l b c) (MatchBool y ((v ≡ UN) × (l ≡ Known 0) × Delimiter s t b c) (PlainHead s t v l b c)) → t ≡ tag_at s b
tag_by_cases true y s t v l b c is h = is refl ∙ h.1.tag_is
tag_by_cases false true s t v l b c is h = h.2.tag_is
tag_by_cases false false s t v l b c is h = h.tag_is

pub head_tag : (s : Syntax) (t : Tag) (v : Vr) (l : Length) (b c : List ℕ) → HeadAt s t v l b c → t ≡ tag_at s b
head_tag s t v l b c h = tag_by_cases (is_item t) (is_item_end t || is_sequence_end t) s t v l b c (is_tag_true 0xFFFE 0xE000 t) h

same_by_cases : (x y : Bool) (s : Syntax) (t : Tag) (v w : Vr) (l m : Length) (b c d : List ℕ)
    → MatchBool x ((v ≡ UN) × ItemHead s l b c) (MatchBool y ((v ≡ UN) × (l ≡ Known 0) × Delimiter s t b c) (PlainHead s t v l b c))
    → MatchBool x ((w ≡ UN) × ItemHead s m b d) (MatchBool y ((w ≡ UN) × (m ≡ Known 0) × Delimiter s t b d) (PlainHead s t w m b d))
    → SameHead t t v w l m c d
same_by_cases true y s t v w l m b c d p q =
    let h = item_same s l m b c d p.1 q.1 in
    record { tags = refl; vrs = p.0 ∙ sym q.0; lengths = h.0; contents = h.1 }
same_by_cases false true s t v w l m b c d p q =
    record { tags = refl; vrs = p.0 ∙ sym q.0; lengths = p.1 ∙ sym q.1; contents = delimiter_same s t b c d p.2 q.2 }
same_by_cases false false s t v w l m b c d p q = plain_same s t t v w l m b c d p q

pub head_same : (s : Syntax) (t u : Tag) (v w : Vr) (l m : Length) (b c d : List ℕ) → HeadAt s t v l b c → HeadAt s u w m b d → SameHead t u v w l m c d
head_same s t u v w l m b c d p q =
    let tags : t ≡ u = head_tag s t v l b c p ∙ sym (head_tag s u w m b d q) in
    let h = same_by_cases (is_item t) (is_item_end t || is_sequence_end t) s t v w l m b c d p (subst (λ (x : Tag). HeadAt s x w m b d) (sym tags) q) in
    record { tags = tags; vrs = h.vrs; lengths = h.lengths; contents = h.contents }
