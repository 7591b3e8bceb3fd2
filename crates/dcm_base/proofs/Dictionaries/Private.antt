-- No element of the standard is of an odd group.
use Rattle.std.proofs.Common.{◌≡◌, ℕ, ◌+◌, ◌*◌, ◌/◌, ◌%◌, ◌<◌, Bool, true, false, ◌==◌, if◌then◌else◌, List, [], ◌∷◌, map, Option, Some, None, option_map, refl, ◌∙◌, sym, ap, subst}
use mathlib.Core.Bool.{false≢true}
use Rattle.std.specs.List.{find, list_all}
use Rattle.std.proofs.lemmas.Bool.{eqb-true}
use Rattle.std.proofs.lemmas.Nat.{div-mul-add}
use Rattle.dcm_lemmas.proofs.Truth.{and_first, and_second}
use Rattle.dcm_base.specs.declared.tag.Tag.{Tag}
use Rattle.dcm_base.specs.declared.vr.Vr.{Vr}
use Rattle.dcm_base.specs.declared.dictionary.Dictionary.TheVariants.{Standard}
use Rattle.dcm_base.specs.Tables.Tag.{tag_number, is_private}
use Rattle.dcm_base.specs.Tables.Dictionary.{Element, Entry, entries, keywords, elements_in, element_in, ambiguous, ambiguous_in, entry_of, numbered}
use Rattle.dcm_base.proofs.Dictionaries.Entries.{element_is}

-- the number is of an even group
is_public : ℕ → Bool
is_public n = n / 65536 % 2 == 0

entries_public : list_all (λ (e : Entry). is_public e.0) entries ≡ true
unfolding entries is_public
entries_public = refl

ambiguous_public : list_all (λ (e : Element). is_public e.0) ambiguous ≡ true
unfolding ambiguous is_public
ambiguous_public = refl

odd_not_even : (m : ℕ) → (m % 2 == 1) ≡ true → (m % 2 == 0) ≡ false
odd_not_even m odd = ap (λ (k : ℕ). k == 0) (eqb-true (m % 2) 1 odd)

private_not_public : (t : Tag) → t.element < 65536 → is_private t ≡ true → is_public (tag_number t) ≡ false
unfolding is_public
private_not_public t small odd = ap (λ (k : ℕ). k % 2 == 0) (div-mul-add t.group 65536 t.element small) ∙ odd_not_even t.group odd

differ_by : (c : Bool) (m n : ℕ) → (m == n) ≡ c → is_public m ≡ true → is_public n ≡ false → (m == n) ≡ false
differ_by true m n same even odd = absurd (false≢true (sym odd ∙ ap is_public (sym (eqb-true m n same)) ∙ even))
differ_by false m n same even odd = same

module _ {A : Type 0} (number : A → ℕ) (n : ℕ) (odd : is_public n ≡ false) where
  passed_by : (c : Bool) (x : A) (rest : Option A) → c ≡ false → rest ≡ None → (if c then Some x else rest) ≡ None
  passed_by false x rest p q = q
  passed_by true x rest p q = absurd (false≢true (sym p))

  none_found : (xs : List A) → list_all (λ x. is_public (number x)) xs ≡ true → find (λ x. number x == n) xs ≡ None
  none_found [] all = refl
  none_found (x ∷ xs) all = passed_by (number x == n) x (find (λ y. number y == n) xs) (differ_by (number x == n) (number x) n refl (and_first _ _ all) odd) (none_found xs (and_second _ _ all))

-- a private tag is in no table
pub private_unlisted : (t : Tag) → t.element < 65536 → is_private t ≡ true → None ≡ element_in Standard t
unfolding element_in
private_unlisted t small odd =
    let none : entry_of entries (tag_number t) ≡ None = none_found (λ (e : Entry). e.0) (tag_number t) (private_not_public t small odd) entries entries_public in
    element_is keywords entries (tag_number t) None refl refl (sym none)

pub private_unambiguous : (t : Tag) → t.element < 65536 → is_private t ≡ true → None ≡ ambiguous_in Standard t
private_unambiguous t small odd =
    sym (ap (option_map (λ (e : Element). (e.1, e.2))) (none_found (λ (e : Element). e.0) (tag_number t) (private_not_public t small odd) ambiguous ambiguous_public))
