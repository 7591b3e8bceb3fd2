-- Laws of the order of tags.
use Rattle.std.proofs.Common.{◌≡◌, ℕ, Option, Some, None, true, false, refl, ap, arith}
use Rattle.std.specs.Prelude.{nat_eq}
use Rattle.std.proofs.lemmas.Bool.Decides.{nat_tests}
use Rattle.dcm_base.specs.declared.tag.Tag.{Tag}
use Rattle.dcm_base.specs.Tables.Tag.{same_tag, below, is_above}

pub below_trans : (a b c : Tag) → below a b ≡ true → below b c ≡ true → below a c ≡ true
below_trans a b c p q = grind (arith, nat_tests)

pub below_other : (a b : Tag) → below a b ≡ false → same_tag a b ≡ false → below b a ≡ true
below_other a b p q = grind (arith, nat_tests)

pub same_tag_self : (a : Tag) → same_tag a a ≡ true
same_tag_self a = grind (arith, nat_tests)

group_of : (a b : Tag) → same_tag a b ≡ true → a.group ≡ b.group
group_of a b p = grind (arith, nat_tests)

element_of : (a b : Tag) → same_tag a b ≡ true → a.element ≡ b.element
element_of a b p = grind (arith, nat_tests)

abbrev tag_from : ℕ → ℕ → Tag
tag_from g e = record { group = g; element = e }

tag_alike : (g h e f : ℕ) → g ≡ h → e ≡ f → tag_from g e ≡ tag_from h f
tag_alike g h e f p q = cc

pub tag_is : (a b : Tag) → same_tag a b ≡ true → a ≡ b
tag_is a b p = tag_alike a.group b.group a.element b.element (group_of a b p) (element_of a b p)

pub same_tag_below : (a b c : Tag) → same_tag a b ≡ true → below a c ≡ below b c
same_tag_below a b c p = ap (λ (t : Tag). below t c) (tag_is a b p)

pub same_tag_sym : (a b : Tag) → same_tag a b ≡ true → same_tag b a ≡ true
same_tag_sym a b p = grind (arith, nat_tests)

pub same_tag_trans : (a b c : Tag) → same_tag a b ≡ true → same_tag b c ≡ true → same_tag a c ≡ true
same_tag_trans a b c p q = grind (arith, nat_tests)

pub same_tag_both : (a b c : Tag) → same_tag a c ≡ true → same_tag b c ≡ true → same_tag a b ≡ true
same_tag_both a b c p q = same_tag_trans a c b p (same_tag_sym b c q)

pub below_other_way : (a b : Tag) → below a b ≡ true → same_tag a b ≡ false
below_other_way a b p = grind (arith, nat_tests)

pub is_above_below : (last : Option Tag) (a b : Tag) → is_above a last ≡ true → below a b ≡ true → is_above b last ≡ true
is_above_below None a b p q = refl
is_above_below (Some t) a b p q = below_trans t a b p q

pub number_is : (m n : ℕ) → nat_eq m n ≡ true → m ≡ n
number_is m n p = grind (arith, nat_tests)

pub number_self : (n : ℕ) → nat_eq n n ≡ true
number_self n = grind (arith, nat_tests)
