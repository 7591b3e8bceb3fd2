-- Which ways lose nothing.
use Rattle.std.proofs.Common.{◌≡◌, ◌∙◌, ap, refl, ℕ, ◌%◌, length, Bool, true, false, not, inl, inr, ◌⊎◌}
use Rattle.std.specs.Prelude.{◌==◌, ◌&&◌, if◌then◌else◌, nat_lt}
use Rattle.dcm_deid_laws.proofs.Instance.{big_by}
use Rattle.dcm_lemmas.proofs.Truth.{and_false}
use Rattle.dcm_base.specs.declared.dictionary.Dictionary.{Dictionary}
use Rattle.dcm_base.specs.declared.syntax.Syntax.{Syntax}
use Rattle.dcm_base.specs.declared.syntax.Syntax.TheVariants.{Implicit as implicit_in, Little as little_in, Big as big_in}
use Rattle.dcm_base.specs.declared.tag.Tag.{Tag}
use Rattle.dcm_base.specs.declared.vr.Vr.{Vr}
use Rattle.dcm_base.specs.declared.vr.Vr.TheVariants.{UN}
use Rattle.dcm_base.specs.Bytes.Spelling.{after}
use Rattle.dcm_base.specs.Conversion.Normal.{normal_value, normal_vr}
use Rattle.dcm_base.specs.Conversion.Recode.{even, is_explicit}
use Rattle.dcm_base.specs.Tables.Representation.{is_long, unit}
use Rattle.dcm_base.specs.Tables.Syntax.{is_big, read_by}
use Rattle.dcm_base.specs.Tree.Tree.{Trees, no_tree, leaf, sequence, fragments, Items, no_item, item}
use Rattle.dcm_conversion_laws.specs.Detour.{AreEven, ItemsEven, ItemsKeep, KeepsForms, KeepsPad, KeepsVr, pad_completes}

-- what is too long for the short form is UN, and stays so
unknown_again : (vr : Vr) (n : ℕ) (c : Bool) → (not (is_long vr) && nat_lt 65534 (even n)) ≡ c
    → (if (not (is_long (if c then UN else vr)) && nat_lt 65534 (even n)) then UN else (if c then UN else vr)) ≡ (if c then UN else vr)
unknown_again vr n true e = refl
unknown_again vr n false e = ap (λ (b : Bool). if b then UN else vr) e

vr_kept : (way target : Syntax) (t : Tag) (vr : Vr) (n : ℕ) → is_explicit way ≡ true → KeepsVr way target t vr n
vr_kept (implicit_in d) target t vr n e = absurd (cc)
vr_kept (little_in d) (implicit_in x) t vr n e = refl
vr_kept (big_in d) (implicit_in x) t vr n e = refl
vr_kept (little_in d) (little_in x) t vr n e = unknown_again vr n (not (is_long vr) && nat_lt 65534 (even n)) refl
vr_kept (little_in d) (big_in x) t vr n e = unknown_again vr n (not (is_long vr) && nat_lt 65534 (even n)) refl
vr_kept (big_in d) (little_in x) t vr n e = unknown_again vr n (not (is_long vr) && nat_lt 65534 (even n)) refl
vr_kept (big_in d) (big_in x) t vr n e = unknown_again vr n (not (is_long vr) && nat_lt 65534 (even n)) refl

nothing_completed : (vr : Vr) (n : ℕ) → (n % 2 == 0) ≡ true → pad_completes vr n ≡ false
nothing_completed vr n e = ap (λ (c : Bool). both_hold (not (unit vr == 1)) (both_hold (not c) (even n % unit vr == 0))) e ∙ and_false (not (unit vr == 1))
  where
    both_hold : Bool → Bool → Bool
    both_hold a b = a && b

pub explicit_by : (d : Dictionary) (s : Syntax) → is_explicit (read_by d s) ≡ is_explicit s
explicit_by d (implicit_in e) = refl
explicit_by d (little_in e) = refl
explicit_by d (big_in e) = refl

-- the same order of bytes, or only whole pairs of them
abbrev SameOr : (way target : Syntax) → Type 0 → Type 0
SameOr way target P = (is_big way ≡ is_big target) ⊎ P

first_of : (way target : Syntax) (P Q : Type 0) → SameOr way target (P × Q) → SameOr way target P
first_of way target P Q (inl same) = inl same
first_of way target P Q (inr h) = inr h.0

rest_of : (way target : Syntax) (P Q : Type 0) → SameOr way target (P × Q) → SameOr way target Q
rest_of way target P Q (inl same) = inl same
rest_of way target P Q (inr h) = inr h.1

pad_kept : (way target : Syntax) (vr : Vr) (n : ℕ) → SameOr way target ((n % 2 == 0) ≡ true) → KeepsPad way target vr n
pad_kept way target vr n (inl same) = inl same
pad_kept way target vr n (inr two) = inr (nothing_completed vr n two)

same_behind : (d : Dictionary) (way target : Syntax) (P : Type 0) → SameOr way target P → SameOr (read_by d way) target P
same_behind d way target P (inl same) = inl (big_by d way ∙ same)
same_behind d way target P (inr h) = inr h

mutual
  unfolding KeepsForms AreEven

  pub kept : (way target : Syntax) (set : Trees) → is_explicit way ≡ true → SameOr way target (AreEven set) → KeepsForms way target set
  kept way target no_tree e h = tt
  kept way target (leaf t vr v rest) e h = (
    λ stays. (vr_kept way target t vr (length v) e, pad_kept way target vr (length v) (first_of way target ((length v % 2 == 0) ≡ true) (AreEven rest) h)),
    kept (after way t (normal_vr way t vr (length v)) (normal_value way t vr v)) target rest (explicit_by _ way ∙ e) (same_behind _ way target (AreEven rest) (rest_of way target ((length v % 2 == 0) ≡ true) (AreEven rest) h)),
  )
  kept way target (sequence t vr declared items rest) e h = (
    λ stays. items_kept way target items e (first_of way target (ItemsEven items) (AreEven rest) h),
    kept way target rest e (rest_of way target (ItemsEven items) (AreEven rest) h),
  )
  kept way target (fragments t vr values rest) e h = kept way target rest e h

  items_kept : (way target : Syntax) (items : Items) → is_explicit way ≡ true → SameOr way target (ItemsEven items) → ItemsKeep way target items
  items_kept way target no_item e h = tt
  items_kept way target (item declared set rest) e h = (
    kept way target set e (first_of way target (AreEven set) (ItemsEven rest) h),
    items_kept way target rest e (rest_of way target (AreEven set) (ItemsEven rest) h),
  )
