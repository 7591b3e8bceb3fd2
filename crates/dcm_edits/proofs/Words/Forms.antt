-- Paths that have the form of an edit's.
use Rattle.std.proofs.Common.{◌≡◌, ℕ, suc, ◌<◌, ◌≤◌, List, [], ◌∷◌, length, map, Option, Some, None, Result, Ok, Err, Bool, true, false, cond, ◌&&◌, ◌==◌, refl, sym, ◌∙◌, ap, arith, eqb-true}
use Rattle.std.specs.Prelude.{nat_le, if◌then◌else◌}
use Rattle.std.proofs.lemmas.Bool.Decides.{nat_tests}
use Rattle.dcm_lemmas.proofs.Numbers.{above_not_within}
use Rattle.dcm_lemmas.proofs.Truth.{and_first, and_first_false, and_second}
use Rattle.dcm_base.specs.declared.dictionary.Dictionary.{Dictionary}
use Rattle.dcm_base.specs.declared.fault.EditRefusal.{EditRefusal}
use Rattle.dcm_base.specs.declared.fault.EditRefusal.TheVariants.{BadOption}
use Rattle.dcm_edits.specs.declared.form.Kind as declared
use Rattle.dcm_edits.specs.declared.form.Kind.TheVariants as kinds
use Rattle.dcm_edits.specs.declared.known.Known as declared_known
use Rattle.dcm_edits.specs.EditWords.{◌>>=◌, PathPart, Known, known_part, known_parts, Kind, inserts, modifies, erases, modifies_all, erases_all, has_index, leads, ends_in_tag, index_count, has_form, DEPTH_LIMIT, or_refuse, edit_of_known, edit_of_parts, meant_edit}
use Rattle.dcm_edits.specs.Making.{kind_as, known_as, is_of_all, Fit}
use Rattle.dcm_edits.specs.Parts.{few, path_parts, PART_LIMIT}
use Rattle.dcm_edits.proofs.Words.EditWordLemmas.{bind_ok, ok_is}
use Rattle.dcm_edits.proofs.Words.ManyParts.{map_length}

-- ---- tests

not_within : (n limit : ℕ) → nat_le n limit ≡ false → limit < n
not_within n limit h = grind (arith, nat_tests)

not_one : (n : ℕ) → 1 < n → (n == 1) ≡ false
not_one n h = grind (arith, nat_tests)

-- ---- many parts have no form

counted_by : (b : Bool) (n : ℕ) → b ≡ true → (if b then suc n else n) ≡ suc n
counted_by true n p = refl
counted_by false n p = cc

leads_count : (ms : List PathPart) → leads ms ≡ true → length ms ≤ suc (index_count ms)
leads_count [] p = omega arith
leads_count (m ∷ []) p = omega arith
leads_count (m ∷ n ∷ ms) p =
    let more = leads_count (n ∷ ms) (and_second (has_index m) (leads (n ∷ ms)) p) in
    let one = counted_by (has_index m) (index_count (n ∷ ms)) (and_first (has_index m) (leads (n ∷ ms)) p) in
    step (length ms) (index_count (n ∷ ms)) _ more one
  where
    step : (k i j : ℕ) → suc k ≤ suc i → j ≡ suc i → suc (suc k) ≤ suc j
    step k i j h e = omega arith

too_deep_by : (t : Bool) (ms : List PathPart) → leads ms ≡ t → PART_LIMIT < length ms → (t && nat_le (index_count ms) DEPTH_LIMIT) ≡ false
too_deep_by true ms e h = above_not_within (index_count ms) DEPTH_LIMIT (let l = leads_count ms e in omega arith)
too_deep_by false ms e h = refl

too_deep : (ms : List PathPart) → PART_LIMIT < length ms → (leads ms && nat_le (index_count ms) DEPTH_LIMIT) ≡ false
too_deep ms h = too_deep_by (leads ms) ms refl h

between : (a b c : Bool) → (a && c) ≡ false → (a && b && c) ≡ false
between true true c p = p
between true false c p = refl
between false b c p = refl

long_form : (kind : Kind) (ms : List PathPart) → PART_LIMIT < length ms → has_form kind ms ≡ false
long_form inserts ms h = between (leads ms) (ends_in_tag ms) (nat_le (index_count ms) DEPTH_LIMIT) (too_deep ms h)
long_form modifies ms h = between (leads ms) (ends_in_tag ms) (nat_le (index_count ms) DEPTH_LIMIT) (too_deep ms h)
long_form erases ms h = too_deep ms h
long_form modifies_all ms h = and_first_false (length ms == 1) (ends_in_tag ms) (not_one (length ms) (omega arith))
long_form erases_all ms h = and_first_false (length ms == 1) (ends_in_tag ms) (not_one (length ms) (omega arith))

-- ---- edits on paths without a form, and with one

refused_by : {A : Type 0} (t : Bool) (u : EditRefusal) (r : Result A EditRefusal) → t ≡ false → (if t then r else Err u) ≡ Err u
refused_by true u r p = cc
refused_by false u r p = refl

taken_by : {A : Type 0} (t : Bool) (u : EditRefusal) (r : Result A EditRefusal) → t ≡ true → (if t then r else Err u) ≡ r
taken_by true u r p = refl
taken_by false u r p = cc

formless : (d : Dictionary) (kind : Kind) (text : List ℕ) (ms : List PathPart) → has_form kind ms ≡ false → edit_of_parts d kind text ms ≡ Err BadOption
formless d kind text ms p = refused_by (has_form kind ms) BadOption _ p

many_by : (t : Bool) (ms : List PathPart) → cond t (Some ms) None ≡ None → t ≡ false
many_by true ms p = cc
many_by false ms p = refl

some_by : (t : Bool) (ms ns : List PathPart) → cond t (Some ms) None ≡ Some ns → Some ms ≡ Some ns
some_by true ms ns p = p
some_by false ms ns p = cc

few_some : (o : Option (List PathPart)) (ms : List PathPart) → few o ≡ Some ms → o ≡ Some ms
few_some None ms p = cc
few_some (Some ns) ms p = some_by (nat_le (length ns) PART_LIMIT) ns ms p

none_meant : (d : Dictionary) (kind : Kind) (text : List ℕ) (o : Option (List PathPart)) → few o ≡ None → (or_refuse BadOption o >>= edit_of_parts d kind text) ≡ Err BadOption
none_meant d kind text None p = refl
none_meant d kind text (Some ms) p = formless d kind text ms (long_form kind ms (not_within (length ms) PART_LIMIT (many_by (nat_le (length ms) PART_LIMIT) ms p)))

pub no_path : (d : Dictionary) (kind : Kind) (text path : List ℕ) → few (path_parts path) ≡ None → meant_edit d kind path text ≡ Err BadOption
no_path d kind text path p = none_meant d kind text (path_parts path) p

some_meant : (d : Dictionary) (kind : Kind) (text path : List ℕ) (ms : List PathPart) → few (path_parts path) ≡ Some ms → meant_edit d kind path text ≡ edit_of_parts d kind text ms
some_meant d kind text path ms p = ap (λ o. or_refuse BadOption o >>= edit_of_parts d kind text) (few_some (path_parts path) ms p)

pub no_form : (d : Dictionary) (kind : Kind) (text path : List ℕ) (ms : List PathPart) → few (path_parts path) ≡ Some ms → has_form kind ms ≡ false → meant_edit d kind path text ≡ Err BadOption
no_form d kind text path ms p q = some_meant d kind text path ms p ∙ formless d kind text ms q

pub known_meant : (d : Dictionary) (kind : Kind) (text path : List ℕ) (ms : List PathPart) (r : Result (List Known) EditRefusal) → few (path_parts path) ≡ Some ms → has_form kind ms ≡ true → known_parts d ms ≡ r
    → meant_edit d kind path text ≡ (r >>= edit_of_known kind text)
known_meant d kind text path ms r p q e = some_meant d kind text path ms p ∙ taken_by (has_form kind ms) BadOption _ q ∙ ap (λ x. x >>= edit_of_known kind text) e

-- ---- how many parts there are

pub known_count : (d : Dictionary) (ms : List PathPart) (ks : List Known) → known_parts d ms ≡ Ok ks → length ks ≡ length ms
known_count d [] ks p = let is : [] ≡ ks = ok_is _ _ p in ap length (sym is)
known_count d (m ∷ ms) ks p =
    let first = bind_ok (known_part d m.name m.index) (λ k. known_parts d ms >>= λ more. Ok (k ∷ more)) ks p in
    let rest = bind_ok (known_parts d ms) (λ more. Ok (first.0 ∷ more)) ks first.2 in
    let is : first.0 ∷ rest.0 ≡ ks = ok_is _ _ rest.2 in
    ap length (sym is) ∙ ap suc (known_count d ms rest.0 rest.1)

leads_some : (ms : List PathPart) → leads ms ≡ true → 0 < length ms
leads_some [] p = cc
leads_some (m ∷ ms) p = omega arith

one_some : (n : ℕ) → (n == 1) ≡ true → 0 < n
one_some n p = let e = eqb-true n 1 p in omega arith

form_some : (kind : Kind) (ms : List PathPart) → has_form kind ms ≡ true → 0 < length ms
form_some inserts ms p = leads_some ms (and_first (leads ms) (ends_in_tag ms) (and_first (leads ms && ends_in_tag ms) _ p))
form_some modifies ms p = leads_some ms (and_first (leads ms) (ends_in_tag ms) (and_first (leads ms && ends_in_tag ms) _ p))
form_some erases ms p = leads_some ms (and_first (leads ms) _ p)
form_some modifies_all ms p = one_some (length ms) (and_first (length ms == 1) _ p)
form_some erases_all ms p = one_some (length ms) (and_first (length ms == 1) _ p)

form_alone : (kind : declared.Kind) (ms : List PathPart) → has_form (kind_as kind) ms ≡ true → is_of_all kind ≡ true → length ms ≡ 1
form_alone kinds.Inserts ms p q = cc
form_alone kinds.Modifies ms p q = cc
form_alone kinds.Erases ms p q = cc
form_alone kinds.ModifiesAll ms p q = eqb-true (length ms) 1 (and_first (length ms == 1) _ p)
form_alone kinds.ErasesAll ms p q = eqb-true (length ms) 1 (and_first (length ms == 1) _ p)

pub fit : (d : Dictionary) (kind : declared.Kind) (ms : List PathPart) (ks : List declared_known.Known) → has_form (kind_as kind) ms ≡ true → known_parts d ms ≡ Ok (map known_as ks) → Fit kind ks
fit d kind ms ks p q =
    let count : length ks ≡ length ms = sym (map_length known_as ks) ∙ known_count d ms (map known_as ks) q in
    let some = form_some (kind_as kind) ms p in
    record { some = omega arith; alone = λ e. count ∙ form_alone kind ms p e }
