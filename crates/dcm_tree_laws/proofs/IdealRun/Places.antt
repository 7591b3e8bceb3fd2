-- Places in the folder of the outputs, and what a new file there changes.
use Rattle.std.proofs.Common.{◌≡◌, ◌≢◌, ◌∙◌, refl, sym, ap, subst, inl, inr, ◌⊎◌, ℕ, ◌==◌, List, [], ◌∷◌, Bool, true, false, ◌&&◌, if◌then◌else◌, Option, Some, None, bytes_eq}
use Rattle.std.proofs.lemmas.Bool.{eqb-true, eq-eqb}
use Rattle.std.proofs.lemmas.Slice.Eq.{bytes_eq-Decides}
use Rattle.dcm_lemmas.proofs.Truth.{true_false, and_first, and_second, and_both}
use Rattle.dcm_walk.specs.Names.{is_slash}
use Rattle.dcm_tree_laws.specs.Ideal.{Thing, a_file, a_folder, no_file, Outputs, is_on_way, is_passed, has_way, free, held, place_in, place_at, with_file}
use Rattle.dcm_tree_laws.specs.IdealLaws.{Keeps, AreApart, SameOutputs}

-- ---- names

pub same_or_not : (a b : List ℕ) → ((bytes_eq a b ≡ true) × (a ≡ b)) ⊎ ((bytes_eq a b ≡ false) × (a ≢ b))
same_or_not a b = by (bytes_eq a b) refl
  where
    by : (t : Bool) → bytes_eq a b ≡ t → ((bytes_eq a b ≡ true) × (a ≡ b)) ⊎ ((bytes_eq a b ≡ false) × (a ≢ b))
    by true e = inl (e, (bytes_eq-Decides a b).0 e)
    by false e = inr (e, λ is. true_false (bytes_eq a b) ((bytes_eq-Decides a b).1 is) e)

pub same_name : (a : List ℕ) → bytes_eq a a ≡ true
same_name a = (bytes_eq-Decides a a).1 refl

pub other_name : (a b : List ℕ) → a ≢ b → bytes_eq a b ≡ false
other_name a b differ = by (same_or_not a b)
  where
    by : ((bytes_eq a b ≡ true) × (a ≡ b)) ⊎ ((bytes_eq a b ≡ false) × (a ≢ b)) → bytes_eq a b ≡ false
    by (inl e) = absurd (differ e.1)
    by (inr e) = e.0

-- each test is one or the other
pub yes_or_no : (t : Bool) → (t ≡ true) ⊎ (t ≡ false)
yes_or_no true = inl refl
yes_or_no false = inr refl

pub same_test : (a b : Bool) → (a ≡ true → b ≡ true) → (b ≡ true → a ≡ true) → a ≡ b
same_test true b e f = sym (e refl)
same_test false true e f = f refl
same_test false false e f = refl

-- ---- folders on a way

pub way_behind : (a b c : List ℕ) → is_on_way a b ≡ true → is_on_way b c ≡ true → is_on_way a c ≡ true
way_behind [] [] c e f = absurd (cc)
way_behind [] (x ∷ b) [] e f = absurd (cc)
way_behind [] (x ∷ b) (y ∷ c) e f = subst (λ n. is_slash n ≡ true) (eqb-true x y (and_first (x == y) (is_on_way b c) f)) e
way_behind (z ∷ a) [] c e f = absurd (cc)
way_behind (z ∷ a) (x ∷ b) [] e f = absurd (cc)
way_behind (z ∷ a) (x ∷ b) (y ∷ c) e f =
    and_both (z == y) (is_on_way a c) (subst (λ n. (z == n) ≡ true) (eqb-true x y (and_first (x == y) (is_on_way b c) f)) (and_first (z == x) (is_on_way a b) e))
    (way_behind a b c (and_second (z == x) (is_on_way a b) e) (and_second (x == y) (is_on_way b c) f))

first_if : (s p rest : Bool) → s ≡ true → ((if s then p else true) && rest) ≡ true → p ≡ true
first_if true p rest is e = and_first p rest e
first_if false p rest is e = absurd (cc)

if_first : (s p : Bool) → (s ≡ true → p ≡ true) → (if s then p else true) ≡ true
if_first true p e = e refl
if_first false p e = refl

pub passes_at : (r : List ℕ) (o : Outputs) (p : List ℕ) → has_way o r ≡ true → is_on_way p r ≡ true → is_passed (o p) ≡ true
passes_at [] o [] w e = absurd (cc)
passes_at [] o (c ∷ cs) w e = absurd (cc)
passes_at (b ∷ bs) o [] w e = first_if (is_slash b) (is_passed (o [])) (has_way (λ rest. o (b ∷ rest)) bs) e w
passes_at (b ∷ bs) o (c ∷ cs) w e =
    subst (λ n. is_passed (o (n ∷ cs)) ≡ true) (sym (eqb-true c b (and_first (c == b) (is_on_way cs bs) e)))
    (passes_at bs (λ rest. o (b ∷ rest)) cs (and_second (if is_slash b then is_passed (o []) else true) (has_way (λ rest. o (b ∷ rest)) bs) w) (and_second (c == b) (is_on_way cs bs) e))

pub passes_by : (r : List ℕ) (o : Outputs) → ((p : List ℕ) → is_on_way p r ≡ true → is_passed (o p) ≡ true) → has_way o r ≡ true
passes_by [] o each = refl
passes_by (b ∷ bs) o each =
    and_both (if is_slash b then is_passed (o []) else true) (has_way (λ rest. o (b ∷ rest)) bs) (if_first (is_slash b) (is_passed (o [])) (λ e. each [] e))
    (passes_by bs (λ rest. o (b ∷ rest)) (λ p e. each (b ∷ p) (and_both (b == b) (is_on_way p bs) (eq-eqb b b refl) e)))

-- two folders of outputs have the same way where each folder on it is passed in both or in none
pub same_way : (r : List ℕ) (o u : Outputs) → ((p : List ℕ) → is_on_way p r ≡ true → is_passed (o p) ≡ is_passed (u p)) → has_way o r ≡ has_way u r
same_way r o u alike = same_test (has_way o r) (has_way u r)
    (λ w. passes_by r u (λ p e. sym (alike p e) ∙ passes_at r o p w e))
    (λ w. passes_by r o (λ p e. alike p e ∙ passes_at r u p w e))

-- ---- places

pub free_is : (w : Bool) (t : Option Thing) → place_in w t ≡ free → (w ≡ true) × (t ≡ None)
free_is true None e = (refl, refl)
free_is false None e = absurd (cc)
free_is true (Some (a_file mode bytes)) e = absurd (cc)
free_is false (Some (a_file mode bytes)) e = absurd (cc)
free_is true (Some a_folder) e = absurd (cc)
free_is false (Some a_folder) e = absurd (cc)
free_is true (Some no_file) e = absurd (cc)
free_is false (Some no_file) e = absurd (cc)

pub held_by : (w : Bool) (mode : ℕ) (bytes : List ℕ) → place_in w (Some (a_file mode bytes)) ≡ held bytes
held_by true mode bytes = refl
held_by false mode bytes = refl

some_place : (w v : Bool) (t : Thing) → place_in w (Some t) ≡ place_in v (Some t)
some_place true true t = refl
some_place false false t = refl
some_place true false (a_file mode bytes) = refl
some_place true false a_folder = refl
some_place true false no_file = refl
some_place false true (a_file mode bytes) = refl
some_place false true a_folder = refl
some_place false true no_file = refl

pub same_place : (w v : Bool) (t u : Option Thing) → w ≡ v → t ≡ u → place_in w t ≡ place_in v u
same_place w v t u e f = ap (λ x. place_in x t) e ∙ ap (place_in v) f

pub alike_place : (r : List ℕ) (o u : Outputs) → SameOutputs o u → place_at o r ≡ place_at u r
alike_place r o u same = same_place (has_way o r) (has_way u r) (o r) (u r) (same_way r o u (λ p e. ap is_passed (same p))) (same r)

-- ---- a new file

module _ (s : List ℕ) (file : Thing) (o : Outputs) where
  pub new_at : with_file s file o s ≡ Some file
  new_at = ap (λ t. if t then Some file else (if is_on_way s s then Some a_folder else o s)) (same_name s)

  pub new_on_way : (p : List ℕ) → p ≢ s → is_on_way p s ≡ true → with_file s file o p ≡ Some a_folder
  new_on_way p differ on =
      ap (λ t. if t then Some file else (if is_on_way p s then Some a_folder else o p)) (other_name p s differ)
      ∙ ap (λ t. if t then Some a_folder else o p) on

  pub new_elsewhere : (p : List ℕ) → p ≢ s → is_on_way p s ≡ false → with_file s file o p ≡ o p
  new_elsewhere p differ off =
      ap (λ t. if t then Some file else (if is_on_way p s then Some a_folder else o p)) (other_name p s differ)
      ∙ ap (λ t. if t then Some a_folder else o p) off

-- what a place was, and became
pub data NewOr (s : List ℕ) (file : Thing) (o : Outputs) (p : List ℕ) : Type 0 where
  is_new : p ≡ s → with_file s file o p ≡ Some file → NewOr s file o p
  is_way : p ≢ s → is_on_way p s ≡ true → with_file s file o p ≡ Some a_folder → NewOr s file o p
  is_other : p ≢ s → is_on_way p s ≡ false → with_file s file o p ≡ o p → NewOr s file o p

pub new_or : (s : List ℕ) (file : Thing) (o : Outputs) (p : List ℕ) → NewOr s file o p
new_or s file o p = by (same_or_not p s) (yes_or_no (is_on_way p s))
  where
    by : ((bytes_eq p s ≡ true) × (p ≡ s)) ⊎ ((bytes_eq p s ≡ false) × (p ≢ s)) → (is_on_way p s ≡ true) ⊎ (is_on_way p s ≡ false) → NewOr s file o p
    by (inl e) w = is_new e.1 (subst (λ q. with_file s file o q ≡ Some file) (sym e.1) (new_at s file o))
    by (inr e) (inl w) = is_way e.1 w (new_on_way s file o p e.1 w)
    by (inr e) (inr w) = is_other e.1 w (new_elsewhere s file o p e.1 w)

passed_folder : (t : Option Thing) (thing : Thing) → is_passed t ≡ true → t ≡ Some thing → Some a_folder ≡ t
passed_folder None thing e is = absurd (cc)
passed_folder (Some (a_file mode bytes)) thing e is = absurd (cc)
passed_folder (Some a_folder) thing e is = refl
passed_folder (Some no_file) thing e is = absurd (cc)

no_thing : {A : Type 0} (t : Option Thing) (thing : Thing) → t ≡ None → t ≡ Some thing → A
no_thing t thing e f = absurd (cc)

-- at a free place: what was there stays
pub new_keeps : (s : List ℕ) (file : Thing) (o : Outputs) → place_at o s ≡ free → Keeps o (with_file s file o)
new_keeps s file o at p thing is = by (new_or s file o p)
  where
    by : NewOr s file o p → with_file s file o p ≡ Some thing
    by (is_new same new) = no_thing (o p) thing (ap o same ∙ (free_is (has_way o s) (o s) at).1) is
    by (is_way differ on new) = new ∙ passed_folder (o p) thing (passes_at s o p (free_is (has_way o s) (o s) at).0 on) is ∙ is
    by (is_other differ off new) = new ∙ is

passed_before : (t : Option Thing) (u : Option Thing) → ((thing : Thing) → t ≡ Some thing → u ≡ Some thing) → is_passed u ≡ true → is_passed t ≡ true
passed_before None u keeps e = refl
passed_before (Some thing) u keeps e = subst (λ x. is_passed x ≡ true) (keeps thing refl) e

pub way_before : (r : List ℕ) (o u : Outputs) → Keeps o u → has_way u r ≡ true → has_way o r ≡ true
way_before r o u keeps w = passes_by r o (λ p e. passed_before (o p) (u p) (keeps p) (passes_at r u p w e))

-- a place that is not free stays as it is
pub place_stays : (r s : List ℕ) (file : Thing) (o : Outputs) → place_at o s ≡ free → place_at o r ≢ free → place_at (with_file s file o) r ≡ place_at o r
place_stays r s file o at taken = by (o r) refl (yes_or_no (has_way o r))
  where
    keeps : Keeps o (with_file s file o)
    keeps = new_keeps s file o at

    nothing : has_way o r ≡ false → o r ≡ None → NewOr s file o r → with_file s file o r ≡ None
    nothing bars is (is_new same new) = true_false (has_way o r) (ap (has_way o) same ∙ (free_is (has_way o s) (o s) at).0) bars
    nothing bars is (is_way differ on new) =
        true_false (has_way o r) (passes_by r o (λ p e. passes_at s o p (free_is (has_way o s) (o s) at).0 (way_behind p r s e on))) bars
    nothing bars is (is_other differ off new) = new ∙ is

    no_way : has_way o r ≡ false → (has_way (with_file s file o) r ≡ true) ⊎ (has_way (with_file s file o) r ≡ false) → has_way (with_file s file o) r ≡ has_way o r
    no_way bars (inl passes) = true_false (has_way o r) (way_before r o (with_file s file o) keeps passes) bars
    no_way bars (inr now) = now ∙ sym bars

    by : (t : Option Thing) → o r ≡ t → (has_way o r ≡ true) ⊎ (has_way o r ≡ false) → place_at (with_file s file o) r ≡ place_at o r
    by None is (inl passes) = absurd (taken (same_place (has_way o r) true (o r) None passes is))
    by None is (inr bars) = same_place (has_way (with_file s file o) r) (has_way o r) (with_file s file o r) (o r) (no_way bars (yes_or_no (has_way (with_file s file o) r))) (nothing bars is (new_or s file o r) ∙ sym is)
    by (Some thing) is w =
        ap (place_in (has_way (with_file s file o) r)) (keeps r thing is) ∙ some_place (has_way (with_file s file o) r) (has_way o r) thing ∙ ap (place_in (has_way o r)) (sym is)

-- and so does one apart from the new file
pub place_apart : (r s : List ℕ) (file : Thing) (o : Outputs) → place_at o s ≡ free → AreApart r s → place_at (with_file s file o) r ≡ place_at o r
place_apart r s file o at apart = same_place (has_way (with_file s file o) r) (has_way o r) (with_file s file o r) (o r) (same_way r (with_file s file o) o alike) (new_elsewhere s file o r apart.differ apart.before)
  where
    alike_by : (p : List ℕ) → is_on_way p r ≡ true → NewOr s file o p → is_passed (with_file s file o p) ≡ is_passed (o p)
    alike_by p e (is_new same new) = true_false (is_on_way s r) (subst (λ q. is_on_way q r ≡ true) same e) apart.behind
    alike_by p e (is_way differ on new) = ap is_passed new ∙ sym (passes_at s o p (free_is (has_way o s) (o s) at).0 on)
    alike_by p e (is_other differ off new) = ap is_passed new

    alike : (p : List ℕ) → is_on_way p r ≡ true → is_passed (with_file s file o p) ≡ is_passed (o p)
    alike p e = alike_by p e (new_or s file o p)
