-- Names in another order, whose outputs are apart or come to the same.
use Rattle.std.proofs.Common.{◌≡◌, ◌∙◌, refl, sym, ap, subst, ℕ, List, [], ◌∷◌, map, Bool, true, Some, bytes_eq, IsPermutation, if◌then◌else◌}
use Rattle.std.proofs.lemmas.List.Sorted.{IsPermutation-refl, IsPermutation-trans, IsPermutation-cons, IsPermutation-middle}
use Rattle.dcm_lemmas.proofs.Lists.{cons_alike}
use Rattle.dcm_lemmas.proofs.Truth.{true_false}
use Rattle.dcm_tree_laws.specs.Ideal.{Thing, a_file, a_folder, Outputs, is_on_way, place_at, free, with_file, nothing, an_output, Comes, without, kept, named, Name, Became, ended, met, wrote, become_kept, become_named, become, put, Row, outputs_after, rows_of}
use Rattle.dcm_tree_laws.specs.IdealLaws.{Each, EachTwo, AreApart, may_write, its_output, GoBeside, alike, aside, SameOutputs}
use Rattle.dcm_tree_laws.proofs.IdealRun.Places.{NewOr, is_new, is_way, is_other, new_or, new_at, new_on_way, new_elsewhere, alike_place, place_apart}
use Rattle.dcm_tree_laws.proofs.IdealRun.Steps.{writes}

-- ---- lists in another order

pub data Turned {A : Type 0} : List A → List A → Type 0 where
  no_more : Turned [] []
  first_stays : {a : A} {xs ys : List A} → Turned xs ys → Turned (a ∷ xs) (a ∷ ys)
  two_turn : {a b : A} {xs : List A} → Turned (a ∷ b ∷ xs) (b ∷ a ∷ xs)
  and_then : {xs ys zs : List A} → Turned xs ys → Turned ys zs → Turned xs zs

each_turned : {A : Type 0} (P : A → Type 0) {xs ys : List A} → Turned xs ys → Each P xs → Each P ys
each_turned P no_more each = tt
each_turned P (first_stays t) each = (each.0, each_turned P t each.1)
each_turned P two_turn each = (each.1.0, (each.0, each.1.1))
each_turned P (and_then t u) each = each_turned P u (each_turned P t each)

two_turned : {A : Type 0} (R : A → A → Type 0) → ((a b : A) → R a b → R b a) → {xs ys : List A} → Turned xs ys → EachTwo R xs → EachTwo R ys
two_turned R back no_more two = tt
two_turned R back (first_stays {a = a} t) two = (each_turned (R a) t two.0, two_turned R back t two.1)
two_turned R back (two_turn {a = a} {b = b}) two = ((back a b two.0.0, two.1.0), (two.0.1, two.1.1))
two_turned R back (and_then t u) two = two_turned R back u (two_turned R back t two)

-- ---- one run upon the same outputs

pub become_alike : (continues : Bool) (o u : Outputs) (comes : Comes) → SameOutputs o u → become continues o comes ≡ become continues u comes
become_alike continues o u (without why) same = refl
become_alike continues o u (kept r made) same = ap (become_kept continues r made) (alike_place r o u same)
become_alike continues o u (named r out) same = ap (become_named r out) (alike_place r o u same)

put_alike : (b : Became) (o u : Outputs) → SameOutputs o u → SameOutputs (put b o) (put b u)
put_alike (ended why) o u same = same
put_alike (met relative fate) o u same = same
put_alike (wrote r out) o u same =
    λ p. ap (λ t. if bytes_eq p r then Some (a_file out.mode out.bytes) else (if is_on_way p r then Some a_folder else t)) (same p)

put_both : (b c : Became) (o u : Outputs) → b ≡ c → SameOutputs o u → SameOutputs (put b o) (put c u)
put_both b c o u is same = subst (λ x. SameOutputs (put b o) (put x u)) is (put_alike b o u same)

abbrev pub became_of : List Row → List Became
became_of rows = map (λ row. row.became) rows

pub record RunsAlike (continues : Bool) (names : List Name) (o u : Outputs) : Type 0 where
  pub outputs : SameOutputs (outputs_after continues o names) (outputs_after continues u names)
  pub rows : became_of (rows_of continues o names) ≡ became_of (rows_of continues u names)

run_alike : (continues : Bool) (names : List Name) (o u : Outputs) → SameOutputs o u → RunsAlike continues names o u
run_alike continues [] o u same = record { outputs = same; rows = refl }
run_alike continues (n ∷ names) o u same =
    let first : become continues o n.comes ≡ become continues u n.comes = become_alike continues o u n.comes same in
    let more : RunsAlike continues names (put (become continues o n.comes) o) (put (become continues u n.comes) u) =
    run_alike continues names (put (become continues o n.comes) o) (put (become continues u n.comes) u) (put_both (become continues o n.comes) (become continues u n.comes) o u first same) in
    record {
      outputs = more.outputs;
      rows = cons_alike (become continues o n.comes) (become continues u n.comes) (became_of (rows_of continues (put (become continues o n.comes) o) names)) (became_of (rows_of continues (put (become continues u n.comes) u) names)) first more.rows;
    }

-- ---- two names apart

pub apart_back : (a b : List ℕ) → AreApart a b → AreApart b a
apart_back a b apart = record { differ = λ e. apart.differ (sym e); before = apart.behind; behind = apart.before }

-- two new files, in one order or the other
two_new : (r s : List ℕ) (f g : Thing) (o : Outputs) → AreApart r s → SameOutputs (with_file s g (with_file r f o)) (with_file r f (with_file s g o))
two_new r s f g o apart p = by (new_or r f o p) (new_or s g o p)
  where
    by : NewOr r f o p → NewOr s g o p → with_file s g (with_file r f o) p ≡ with_file r f (with_file s g o) p
    by (is_new e x) (is_new a y) = absurd (apart.differ (sym e ∙ a))
    by (is_new e x) (is_way d a y) = true_false (is_on_way r s) (subst (λ q. is_on_way q s ≡ true) e a) apart.before
    by (is_new e x) (is_other d a y) = new_elsewhere s g (with_file r f o) p d a ∙ x ∙ sym (subst (λ q. with_file r f (with_file s g o) q ≡ Some f) (sym e) (new_at r f (with_file s g o)))
    by (is_way c e x) (is_new a y) = true_false (is_on_way s r) (subst (λ q. is_on_way q r ≡ true) a e) apart.behind
    by (is_way c e x) (is_way d a y) = new_on_way s g (with_file r f o) p d a ∙ sym (new_on_way r f (with_file s g o) p c e)
    by (is_way c e x) (is_other d a y) = new_elsewhere s g (with_file r f o) p d a ∙ x ∙ sym (new_on_way r f (with_file s g o) p c e)
    by (is_other c e x) (is_new a y) = subst (λ q. with_file s g (with_file r f o) q ≡ Some g) (sym a) (new_at s g (with_file r f o)) ∙ sym y ∙ sym (new_elsewhere r f (with_file s g o) p c e)
    by (is_other c e x) (is_way d a y) = new_on_way s g (with_file r f o) p d a ∙ sym y ∙ sym (new_elsewhere r f (with_file s g o) p c e)
    by (is_other c e x) (is_other d a y) = new_elsewhere s g (with_file r f o) p d a ∙ x ∙ sym y ∙ sym (new_elsewhere r f (with_file s g o) p c e)

-- outputs are apart, where both have one
abbrev pub OutputsApart : Comes → Comes → Type 0
OutputsApart one other = (r s : List ℕ) → its_output one ≡ Some r → its_output other ≡ Some s → AreApart r s

may_its : (comes : Comes) (r : List ℕ) → may_write comes ≡ Some r → its_output comes ≡ Some r
may_its (without why) r e = e
may_its (kept s (nothing why)) r e = absurd (cc)
may_its (kept s (an_output out)) r e = e
may_its (named s out) r e = e

-- what becomes of a name is the same behind a name apart from it
file_before : (continues : Bool) (o : Outputs) (comes : Comes) (s : List ℕ) (file : Thing) → place_at o s ≡ free → ((r : List ℕ) → its_output comes ≡ Some r → AreApart r s) → become continues (with_file s file o) comes ≡ become continues o comes
file_before continues o (without why) s file at apart = refl
file_before continues o (kept r made) s file at apart = ap (become_kept continues r made) (place_apart r s file o at (apart r refl))
file_before continues o (named r out) s file at apart = ap (become_named r out) (place_apart r s file o at (apart r refl))

pub name_before : (continues : Bool) (o : Outputs) (one other : Comes) → OutputsApart one other → become continues (put (become continues o other) o) one ≡ become continues o one
name_before continues o one other apart = by (become continues o other) refl
  where
    by : (b : Became) → become continues o other ≡ b → become continues (put b o) one ≡ become continues o one
    by (ended why) e = refl
    by (met relative fate) e = refl
    by (wrote s out) e =
        let at = writes continues o other s out e in
        file_before continues o one s (a_file out.mode out.bytes) at.at (λ r is. apart r s is (may_its other s at.may))

two_puts : (continues : Bool) (o : Outputs) (one other : Comes) → OutputsApart one other → SameOutputs (put (become continues o other) (put (become continues o one) o)) (put (become continues o one) (put (become continues o other) o))
two_puts continues o one other apart = by (become continues o one) (become continues o other) refl refl
  where
    by : (a b : Became) → become continues o one ≡ a → become continues o other ≡ b → SameOutputs (put b (put a o)) (put a (put b o))
    by (ended why) b e f = λ p. refl
    by (met relative fate) b e f = λ p. refl
    by (wrote r out) (ended why) e f = λ p. refl
    by (wrote r out) (met relative fate) e f = λ p. refl
    by (wrote r out) (wrote s its) e f =
        let first = writes continues o one r out e in
        let second = writes continues o other s its f in
        two_new r s (a_file out.mode out.bytes) (a_file its.mode its.bytes) o (apart r s (may_its one r first.may) (may_its other s second.may))

-- ---- two names in a run

-- upon one and the other order the outputs are the same, and so is what becomes of both
pub record TwoAlike (continues : Bool) (o : Outputs) (one other : Comes) : Type 0 where
  pub outputs : SameOutputs (put (become continues (put (become continues o one) o) other) (put (become continues o one) o)) (put (become continues (put (become continues o other) o) one) (put (become continues o other) o))
  pub rows : (rest : List Became) → IsPermutation (become continues o one ∷ become continues (put (become continues o one) o) other ∷ rest) (become continues o other ∷ become continues (put (become continues o other) o) one ∷ rest)

as_first : (a b c d : Became) (rest : List Became) → a ≡ d → b ≡ c → IsPermutation (a ∷ b ∷ rest) (c ∷ d ∷ rest)
as_first a b c d rest e f = subst (λ x. IsPermutation (a ∷ b ∷ rest) (c ∷ x ∷ rest)) e (subst (λ x. IsPermutation (a ∷ b ∷ rest) (x ∷ a ∷ rest)) f (IsPermutation-middle (a ∷ []) b rest))

two_alike : (continues : Bool) (o : Outputs) (one other : Comes) → one ≡ other → TwoAlike continues o one other
two_alike continues o one other same = subst (TwoAlike continues o one) same (record { outputs = λ p. refl; rows = λ rest. IsPermutation-refl (become continues o one ∷ become continues (put (become continues o one) o) one ∷ rest) })

two_apart : (continues : Bool) (o : Outputs) (one other : Comes) → OutputsApart one other → TwoAlike continues o one other
two_apart continues o one other apart =
    let first : become continues (put (become continues o other) o) one ≡ become continues o one = name_before continues o one other apart in
    let second : become continues (put (become continues o one) o) other ≡ become continues o other = name_before continues o other one (λ s r f e. apart_back r s (apart r s e f)) in
    record {
      outputs = λ p. ap (λ b. put b (put (become continues o one) o) p) second ∙ two_puts continues o one other apart p ∙ ap (λ b. put b (put (become continues o other) o) p) (sym first);
      rows = λ rest. as_first (become continues o one) (become continues (put (become continues o one) o) other) (become continues o other) (become continues (put (become continues o other) o) one) rest (sym first) second;
    }

two_names : (continues : Bool) (o : Outputs) (one other : Name) → GoBeside one other → TwoAlike continues o one.comes other.comes
two_names continues o one other (alike same) = two_alike continues o one.comes other.comes same
two_names continues o one other (aside apart) = two_apart continues o one.comes other.comes apart

beside_back : (one other : Name) → GoBeside one other → GoBeside other one
beside_back one other (alike same) = alike (sym same)
beside_back one other (aside apart) = aside (λ s r f e. apart_back r s (apart r s e f))

-- ---- runs

pub record RunsTurned (continues : Bool) (xs ys : List Name) (o u : Outputs) : Type 0 where
  pub outputs : SameOutputs (outputs_after continues o xs) (outputs_after continues u ys)
  pub rows : IsPermutation (became_of (rows_of continues o xs)) (became_of (rows_of continues u ys))

turned_by : (continues : Bool) (names : List Name) (o u : Outputs) → RunsAlike continues names o u → RunsTurned continues names names o u
turned_by continues names o u x = record {
  outputs = x.outputs;
  rows = subst (IsPermutation (became_of (rows_of continues o names))) x.rows (IsPermutation-refl (became_of (rows_of continues o names)));
}

two_runs : (continues : Bool) (one other : Name) (names : List Name) (o u : Outputs) → GoBeside one other → SameOutputs o u → RunsTurned continues (one ∷ other ∷ names) (other ∷ one ∷ names) o u
two_runs continues one other names o u beside same =
    let here : RunsAlike continues (one ∷ other ∷ names) o u = run_alike continues (one ∷ other ∷ names) o u same in
    let two : TwoAlike continues u one.comes other.comes = two_names continues u one other beside in
    let left : Outputs = put (become continues (put (become continues u one.comes) u) other.comes) (put (become continues u one.comes) u) in
    let right : Outputs = put (become continues (put (become continues u other.comes) u) one.comes) (put (become continues u other.comes) u) in
    let rest : RunsAlike continues names left right = run_alike continues names left right two.outputs in
    record {
      outputs = λ p. here.outputs p ∙ rest.outputs p;
      rows = subst (λ x. IsPermutation x (became_of (rows_of continues u (other ∷ one ∷ names)))) (sym here.rows)
          (subst (λ x. IsPermutation (became_of (rows_of continues u (one ∷ other ∷ names))) (become continues u other.comes ∷ become continues (put (become continues u other.comes) u) one.comes ∷ x)) rest.rows (two.rows (became_of (rows_of continues left names))));
    }

pub run_turned : (continues : Bool) {xs ys : List Name} → Turned xs ys → EachTwo GoBeside xs → (o u : Outputs) → SameOutputs o u → RunsTurned continues xs ys o u
run_turned continues no_more two o u same = turned_by continues [] o u (run_alike continues [] o u same)
run_turned continues (first_stays {a = n} {xs = xs} {ys = ys} t) two o u same =
    let first : become continues o n.comes ≡ become continues u n.comes = become_alike continues o u n.comes same in
    let more : RunsTurned continues xs ys (put (become continues o n.comes) o) (put (become continues u n.comes) u) =
    run_turned continues t two.1 (put (become continues o n.comes) o) (put (become continues u n.comes) u) (put_both (become continues o n.comes) (become continues u n.comes) o u first same) in
    record {
      outputs = more.outputs;
      rows = subst (λ x. IsPermutation (become continues o n.comes ∷ became_of (rows_of continues (put (become continues o n.comes) o) xs)) (x ∷ became_of (rows_of continues (put (become continues u n.comes) u) ys))) first
          (IsPermutation-cons (become continues o n.comes) (became_of (rows_of continues (put (become continues o n.comes) o) xs)) (became_of (rows_of continues (put (become continues u n.comes) u) ys)) more.rows);
    }
run_turned continues (two_turn {a = one} {b = other} {xs = names}) two o u same = two_runs continues one other names o u two.0.0 same
run_turned continues (and_then {xs = xs} {ys = ys} {zs = zs} t v) two o u same =
    let first : RunsTurned continues xs ys o u = run_turned continues t two o u same in
    let second : RunsTurned continues ys zs u u = run_turned continues v (two_turned GoBeside beside_back t two) u u (λ p. refl) in
    record {
      outputs = λ p. first.outputs p ∙ second.outputs p;
      rows = IsPermutation-trans (became_of (rows_of continues o xs)) (became_of (rows_of continues u ys)) (became_of (rows_of continues u zs)) first.rows second.rows;
    }
