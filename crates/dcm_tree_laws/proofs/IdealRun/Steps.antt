-- One name after another: what was there stays, what is written is there, at a name of its own.
use Rattle.std.proofs.Common.{◌≡◌, ◌≢◌, ◌∙◌, refl, sym, ap, subst, ℕ, List, [], ◌∷◌, ◌++◌, map, Bool, Option, Some, None}
use Rattle.dcm_lemmas.proofs.Lists.{heads_alike, tails_alike}
use Rattle.dcm_tree_laws.specs.Ideal.{Thing, a_file, Outputs, Place, free, held, barred, place_at, has_way, Output, Made, nothing, an_output, Comes, without, kept, named, Became, ended, met, wrote, become_kept, become_named, become, put, outputs_after, rows_of}
use Rattle.dcm_tree_laws.specs.IdealLaws.{Each, EachTwo, Keeps, OutputsStay, IsThereAt, WrittenIsThere, written_as, written, OutputsAreDistinct, OneRow, may_write, NoNameFlows}
use Rattle.dcm_tree_laws.proofs.IdealRun.Places.{free_is, new_at, new_keeps}

-- ---- one step

-- what is written is written at a free place
pub record Writes (o : Outputs) (comes : Comes) (r : List ℕ) : Type 0 where
  pub at : place_at o r ≡ free
  pub may : may_write comes ≡ Some r

kept_writes : (continues : Bool) (s : List ℕ) (made : Made) (p : Place) (o : Outputs) (r : List ℕ) (out : Output) → place_at o s ≡ p → become_kept continues s made p ≡ wrote r out → Writes o (kept s made) r
kept_writes continues s made barred o r out at e = absurd (cc)
kept_writes continues s made (held bytes) o r out at e = absurd (cc)
kept_writes continues s (nothing why) free o r out at e = absurd (cc)
kept_writes continues s (an_output its) free o r out at e =
    let same : s ≡ r = cc in
    record { at = subst (λ n. place_at o n ≡ free) same at; may = ap (λ n. Some n) same }

named_writes : (s : List ℕ) (its : Output) (p : Place) (o : Outputs) (r : List ℕ) (out : Output) → place_at o s ≡ p → become_named s its p ≡ wrote r out → Writes o (named s its) r
named_writes s its barred o r out at e = absurd (cc)
named_writes s its (held bytes) o r out at e = absurd (cc)
named_writes s its free o r out at e =
    let same : s ≡ r = cc in
    record { at = subst (λ n. place_at o n ≡ free) same at; may = ap (λ n. Some n) same }

pub writes : (continues : Bool) (o : Outputs) (comes : Comes) (r : List ℕ) (out : Output) → become continues o comes ≡ wrote r out → Writes o comes r
writes continues o (without why) r out e = absurd (cc)
writes continues o (kept s made) r out e = kept_writes continues s made (place_at o s) o r out refl e
writes continues o (named s its) r out e = named_writes s its (place_at o s) o r out refl e

pub put_keeps : (continues : Bool) (o : Outputs) (comes : Comes) → Keeps o (put (become continues o comes) o)
put_keeps continues o comes = by (become continues o comes) refl
  where
    by : (b : Became) → become continues o comes ≡ b → Keeps o (put b o)
    by (ended why) e = λ r thing is. is
    by (met relative fate) e = λ r thing is. is
    by (wrote r out) e = new_keeps r (a_file out.mode out.bytes) o (writes continues o comes r out e).at

-- ---- all of them

pub keeps_on : (o u w : Outputs) → Keeps o u → Keeps u w → Keeps o w
keeps_on o u w first second = λ r thing is. second r thing (first r thing is)

pub run_keeps : OutputsStay
run_keeps continues o [] = λ r thing is. is
run_keeps continues o (n ∷ names) =
    keeps_on o (put (become continues o n.comes) o) (outputs_after continues (put (become continues o n.comes) o) names) (put_keeps continues o n.comes) (run_keeps continues (put (become continues o n.comes) o) names)

there_at : (b : Became) (o after : Outputs) → Keeps (put b o) after → IsThereAt after b
there_at (ended why) o after keeps = tt
there_at (met relative fate) o after keeps = tt
there_at (wrote r out) o after keeps = keeps r (a_file out.mode out.bytes) (new_at r (a_file out.mode out.bytes) o)

pub written_is_there : WrittenIsThere
written_is_there continues o [] = tt
written_is_there continues o (n ∷ names) =
    (there_at (become continues o n.comes) o (outputs_after continues (put (become continues o n.comes) o) names) (run_keeps continues (put (become continues o n.comes) o) names), written_is_there continues (put (become continues o n.comes) o) names)

pub one_row : OneRow
one_row continues o [] = refl
one_row continues o (n ∷ names) = ap (λ more. n.name ∷ more) (one_row continues (put (become continues o n.comes) o) names)

-- ---- outputs of their own

pub each_as : {A : Type 0} (P Q : A → Type 0) → ((a : A) → P a → Q a) → (many : List A) → Each P many → Each Q many
each_as P Q so [] each = tt
each_as P Q so (a ∷ many) each = (so a each.0, each_as P Q so many each.1)

no_some : {A : Type 0} (o : Option Thing) (thing : Thing) → o ≡ None → o ≡ Some thing → A
no_some o thing e f = absurd (cc)

none_before : (o u : Outputs) (r : List ℕ) → Keeps o u → u r ≡ None → o r ≡ None
none_before o u r keeps none = by (o r) refl
  where
    by : (t : Option Thing) → o r ≡ t → o r ≡ None
    by None e = e
    by (Some thing) e = no_some (u r) thing none (keeps r thing e)

-- with one more in front
more_written : (b : Became) (o : Outputs) (rest : List (List ℕ)) → ((r : List ℕ) (out : Output) → b ≡ wrote r out → place_at o r ≡ free) → Keeps o (put b o) → Each (λ r. put b o r ≡ None) rest → EachTwo ◌≢◌ rest
    → Each (λ r. o r ≡ None) (written_as b ++ rest) × EachTwo ◌≢◌ (written_as b ++ rest)
more_written (ended why) o rest at keeps each two = (each, two)
more_written (met relative fate) o rest at keeps each two = (each, two)
more_written (wrote r out) o rest at keeps each two =
    let new : put (wrote r out) o r ≡ Some (a_file out.mode out.bytes) = new_at r (a_file out.mode out.bytes) o in
    let none : Each (λ s. o s ≡ None) rest = each_as (λ s. put (wrote r out) o s ≡ None) (λ s. o s ≡ None) (λ s is. none_before o (put (wrote r out) o) s keeps is) rest each in
    let others : Each (λ s. r ≢ s) rest = each_as (λ s. put (wrote r out) o s ≡ None) (λ s. r ≢ s) (λ s is same. no_some (put (wrote r out) o s) (a_file out.mode out.bytes) is (subst (λ n. put (wrote r out) o n ≡ Some (a_file out.mode out.bytes)) same new)) rest each in
    (((free_is (has_way o r) (o r) (at r out refl)).1, none), (others, two))

pub distinct : OutputsAreDistinct
distinct continues o [] = (tt, tt)
distinct continues o (n ∷ names) =
    let more = distinct continues (put (become continues o n.comes) o) names in
    more_written (become continues o n.comes) o (written (rows_of continues (put (become continues o n.comes) o) names)) (λ r out e. (writes continues o n.comes r out e).at) (put_keeps continues o n.comes) more.0 more.1

-- ---- names that come to the same

no_cons : {A B : Type 0} (a : A) (many : List A) → [] ≡ a ∷ many → B
no_cons a many e = absurd (cc)

pub no_name_flows : NoNameFlows
no_name_flows continues o [] [] same = (refl, refl)
no_name_flows continues o [] (m ∷ others) same = no_cons m.comes (map (λ n. n.comes) others) same
no_name_flows continues o (n ∷ names) [] same = no_cons n.comes (map (λ n. n.comes) names) (sym same)
no_name_flows continues o (n ∷ names) (m ∷ others) same =
    let first : n.comes ≡ m.comes = heads_alike n.comes m.comes (map (λ n. n.comes) names) (map (λ n. n.comes) others) same in
    let more = no_name_flows continues (put (become continues o n.comes) o) names others (tails_alike n.comes m.comes (map (λ n. n.comes) names) (map (λ n. n.comes) others) same) in (
      more.0 ∙ ap (λ x. outputs_after continues (put (become continues o x) o) others) first,
      ap (λ rest. become continues o n.comes ∷ rest) more.1 ∙ ap (λ x. become continues o x ∷ map (λ row. row.became) (rows_of continues (put (become continues o x) o) others)) first,
    )
