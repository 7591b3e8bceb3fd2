-- Heads of elements in an explicit syntax.
use Rattle.std.proofs.Common.{◌≡◌, true, ℕ, ◌≤◌, List, length, get_or, drop, Option, Some, None, Bool, cond, refl, sym, ap, ◌∙◌, subst, ◌-◌}
use Rattle.dcm_base.specs.declared.tag.Tag.{Tag}
use Rattle.dcm_base.specs.declared.vr.Vr.{Vr}
use Rattle.dcm_base.specs.declared.syntax.Syntax.{Syntax}
use Rattle.dcm_base.specs.declared.syntax.Syntax.TheVariants.{Implicit as implicit_in, Little as little_in, Big as big_in}
use Rattle.dcm_base.specs.declared.length.Length.{Length}
use Rattle.dcm_base.specs.declared.length.Length.TheVariants.{Known}
use Rattle.dcm_base.specs.Tables.Number.{number}
use Rattle.dcm_base.specs.Tables.Representation.{vr_read, is_long}
use Rattle.dcm_base.specs.Bytes.Head.{PlainHead, tag_at, vr_at, head_size, length_at, long_length}
use Rattle.dcm_base.specs.Conversion.Recode.{is_explicit}

pub vr_is : (s : Syntax) (b : List ℕ) (r : Option Vr) → is_explicit s ≡ true → r ≡ vr_read (get_or b 4 0) (get_or b 5 0) → r ≡ vr_at s b
unfolding vr_at
vr_is (implicit_in d) b r h e = absurd (cc)
vr_is (little_in d) b r h e = e
vr_is (big_in d) b r h e = e

pub size_is : (s : Syntax) (vr : Vr) (long : Bool) → is_explicit s ≡ true → is_long vr ≡ long → head_size s vr ≡ cond long 12 8
size_is (implicit_in d) vr long h e = absurd (cc)
size_is (little_in d) vr long h e = ap (λ (x : Bool). cond x 12 8) e
size_is (big_in d) vr long h e = ap (λ (x : Bool). cond x 12 8) e

pub length_is : (s : Syntax) (vr : Vr) (long : Bool) (b : List ℕ) → is_explicit s ≡ true → is_long vr ≡ long → length_at s vr b ≡ cond long (long_length (number s 4 (drop 8 b))) (Known (number s 2 (drop 6 b)))
unfolding length_at
length_is (implicit_in d) vr long b h e = absurd (cc)
length_is (little_in d) vr long b h e = ap (λ (x : Bool). cond x (long_length (number (little_in d) 4 (drop 8 b))) (Known (number (little_in d) 2 (drop 6 b)))) e
length_is (big_in d) vr long b h e = ap (λ (x : Bool). cond x (long_length (number (big_in d) 4 (drop 8 b))) (Known (number (big_in d) 2 (drop 6 b)))) e

pub head_is : (s : Syntax) (tag : Tag) (vr : Vr) (declared : Length) (long : Bool) (b : List ℕ) → is_explicit s ≡ true → is_long vr ≡ long → tag ≡ tag_at s b
    → Some vr ≡ vr_read (get_or b 4 0) (get_or b 5 0) → cond long 12 8 ≤ length b
    → declared ≡ cond long (long_length (number s 4 (drop 8 b))) (Known (number s 2 (drop 6 b)))
    → PlainHead s tag vr declared b (drop (cond long 12 8) b)
head_is s tag vr declared long b h e t v le d =
    record {
      tag_is = t;
      vr_is = vr_is s b (Some vr) h v;
      whole = subst (λ (n : ℕ). n ≤ length b) (sym (size_is s vr long h e)) le;
      length_is = d ∙ sym (length_is s vr long b h e);
      after_is = ap (λ (n : ℕ). drop n b) (sym (size_is s vr long h e));
    }

pub none_from : (o : Option Vr) → ((x : Vr) → o ≡ Some x → ⊥) → o ≡ None
none_from None h = refl
none_from (Some x) h = absurd (h x refl)
