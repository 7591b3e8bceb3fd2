-- A second run.
use Rattle.std.proofs.Common.{◌≡◌, ◌≢◌, ◌∙◌, refl, sym, ap, ℕ, List, [], ◌∷◌, map, true}
use Rattle.dcm_lemmas.proofs.Lists.{cons_alike}
use Rattle.dcm_trees.specs.declared.fate.Fate.{Fate}
use Rattle.dcm_trees.specs.Lines.{there_fate}
use Rattle.dcm_tree_laws.specs.Ideal.{Thing, a_file, Outputs, Place, free, held, barred, place_in, place_at, has_way, with_file, Output, Made, nothing, an_output, Comes, without, kept, named, Name, Became, ended, met, wrote, become_kept, become_named, become, put, Row, outputs_after, rows_of}
use Rattle.dcm_tree_laws.specs.IdealLaws.{Each, EachTwo, AreApart, LeavesFree, again, row_again, SecondIsFirst}
use Rattle.dcm_tree_laws.proofs.IdealRun.Places.{same_name, held_by, new_at, place_stays, place_apart}
use Rattle.dcm_tree_laws.proofs.IdealRun.Steps.{writes}

-- ---- behind itself

-- where a file was written it is there
new_held : (r : List ℕ) (out : Output) (o : Outputs) → place_at (with_file r (a_file out.mode out.bytes) o) r ≡ held out.bytes
new_held r out o = ap (place_in (has_way (with_file r (a_file out.mode out.bytes) o) r)) (new_at r (a_file out.mode out.bytes) o) ∙ held_by (has_way (with_file r (a_file out.mode out.bytes) o) r) out.mode out.bytes

kept_again : (o : Outputs) (r : List ℕ) (made : Made) (p : Place) → place_at o r ≡ p → become_kept true r made (place_at (put (become_kept true r made p) o) r) ≡ again (become_kept true r made p)
kept_again o r made barred e = ap (become_kept true r made) e
kept_again o r made (held bytes) e = ap (become_kept true r made) e
kept_again o r (nothing why) free e = ap (become_kept true r (nothing why)) e
kept_again o r (an_output out) free e = ap (become_kept true r (an_output out)) (new_held r out o)

named_again : (o : Outputs) (r : List ℕ) (out : Output) (p : Place) → place_at o r ≡ p → become_named r out (place_at (put (become_named r out p) o) r) ≡ again (become_named r out p)
named_again o r out barred e = ap (become_named r out) e
named_again o r out (held bytes) e = ap (become_named r out) e
named_again o r out free e = ap (become_named r out) (new_held r out o) ∙ ap (λ t. met r (there_fate t)) (same_name out.bytes)

comes_again : (o : Outputs) (comes : Comes) → become true (put (become true o comes) o) comes ≡ again (become true o comes)
comes_again o (without why) = refl
comes_again o (kept r made) = kept_again o r made (place_at o r) refl
comes_again o (named r out) = named_again o r out (place_at o r) refl

-- ---- behind another one

not_written : {A : Type 0} (b : Became) (r : List ℕ) (out : Output) → wrote r out ≡ again b → A
not_written (ended why) r out e = absurd (cc)
not_written (met relative fate) r out e = absurd (cc)
not_written (wrote relative output) r out e = absurd (cc)

held_taken : (o : Outputs) (r bytes : List ℕ) → place_at o r ≡ held bytes → place_at o r ≢ free
held_taken o r bytes e f = absurd (cc)

barred_taken : (o : Outputs) (r : List ℕ) → place_at o r ≡ barred → place_at o r ≢ free
barred_taken o r e f = absurd (cc)

-- what a name settled to stays where another one is written
module _ (o : Outputs) (s : List ℕ) (file : Thing) (at : place_at o s ≡ free) (b : Became) where
  kept_still : (r : List ℕ) (made : Made) (p : Place) → place_at o r ≡ p → ((why : Fate) → made ≡ nothing why → AreApart r s) → become_kept true r made (place_at o r) ≡ again b → become_kept true r made (place_at (with_file s file o) r) ≡ again b
  kept_still r made barred e apart is = ap (become_kept true r made) (place_stays r s file o at (barred_taken o r e)) ∙ is
  kept_still r made (held bytes) e apart is = ap (become_kept true r made) (place_stays r s file o at (held_taken o r bytes e)) ∙ is
  kept_still r (nothing why) free e apart is = ap (become_kept true r (nothing why)) (place_apart r s file o at (apart why refl)) ∙ is
  kept_still r (an_output out) free e apart is = not_written b r out (sym (ap (become_kept true r (an_output out)) e) ∙ is)

  named_still : (r : List ℕ) (out : Output) (p : Place) → place_at o r ≡ p → become_named r out (place_at o r) ≡ again b → become_named r out (place_at (with_file s file o) r) ≡ again b
  named_still r out barred e is = ap (become_named r out) (place_stays r s file o at (barred_taken o r e)) ∙ is
  named_still r out (held bytes) e is = ap (become_named r out) (place_stays r s file o at (held_taken o r bytes e)) ∙ is
  named_still r out free e is = not_written b r out (sym (ap (become_named r out) e) ∙ is)

  comes_still : (comes : Comes) → ((r : List ℕ) (why : Fate) → comes ≡ kept r (nothing why) → AreApart r s) → become true o comes ≡ again b → become true (with_file s file o) comes ≡ again b
  comes_still (without why) apart is = is
  comes_still (kept r made) apart is = kept_still r made (place_at o r) refl (λ why e. apart r why (ap (kept r) e)) is
  comes_still (named r out) apart is = named_still r out (place_at o r) refl is

name_still : (o : Outputs) (one other : Name) (b : Became) → LeavesFree one other → become true o one.comes ≡ again b → become true (put (become true o other.comes) o) one.comes ≡ again b
name_still o one other b leaves is = by (become true o other.comes) refl
  where
    by : (a : Became) → become true o other.comes ≡ a → become true (put a o) one.comes ≡ again b
    by (ended why) e = is
    by (met relative fate) e = is
    by (wrote s out) e =
        let at = writes true o other.comes s out e in
        comes_still o s (a_file out.mode out.bytes) at.at b one.comes (λ r why same. leaves r s why same at.may) is

all_still : (names : List Name) (o : Outputs) (one : Name) (b : Became) → Each (LeavesFree one) names → become true o one.comes ≡ again b → become true (outputs_after true o names) one.comes ≡ again b
all_still [] o one b leaves is = is
all_still (n ∷ names) o one b leaves is = all_still names (put (become true o n.comes) o) one b leaves.1 (name_still o one n b leaves.0 is)

-- ---- all of them

-- what each name becomes at the end is told by its row
abbrev pub Settled : Outputs → List Name → List Row → Type 0
Settled now [] [] = Unit {0}
Settled now (n ∷ names) (row ∷ rows) = (row.name ≡ n.name) × (become true now n.comes ≡ again row.became) × Settled now names rows
Settled now [] (row ∷ rows) = ⊥
Settled now (n ∷ names) [] = ⊥

settled : (names : List Name) (o : Outputs) → EachTwo LeavesFree names → Settled (outputs_after true o names) names (rows_of true o names)
settled [] o leaves = tt
settled (n ∷ names) o leaves =
    (refl, all_still names (put (become true o n.comes) o) n (become true o n.comes) leaves.0 (comes_again o n.comes), settled names (put (become true o n.comes) o) leaves.1)

put_again : (b : Became) (o : Outputs) → put (again b) o ≡ o
put_again (ended why) o = refl
put_again (met relative fate) o = refl
put_again (wrote relative output) o = refl

again_as : (name other : List ℕ) (b a : Became) → name ≡ other → b ≡ again a → record { name = other; became = b } ≡ row_again (record { name = name; became = a })
again_as name other b a e f = ap (λ n. record { name = n; became = b }) (sym e) ∙ ap (λ x. record { name = name; became = x }) f

-- so nothing is changed
quiet : (now : Outputs) (names : List Name) (rows : List Row) → Settled now names rows → (outputs_after true now names ≡ now) × (rows_of true now names ≡ map row_again rows)
quiet now [] [] s = (refl, refl)
quiet now [] (row ∷ rows) s = absurd s
quiet now (n ∷ names) [] s = absurd s
quiet now (n ∷ names) (row ∷ rows) s =
    let more = quiet now names rows s.2 in
    let still : put (become true now n.comes) now ≡ now = ap (λ b. put b now) s.1 ∙ put_again row.became now in (
      ap (λ u. outputs_after true u names) still ∙ more.0,
      ap (λ u. record { name = n.name; became = become true now n.comes } ∷ rows_of true u names) still
          ∙ cons_alike (record { name = n.name; became = become true now n.comes }) (row_again row) (rows_of true now names) (map row_again rows) (again_as row.name n.name (become true now n.comes) row.became s.0 s.1) more.1,
    )

pub second_is_first : SecondIsFirst
second_is_first o names leaves = quiet (outputs_after true o names) names (rows_of true o names) (settled names o leaves)
