-- What is done of a name, and that it is there at the end.
use Rattle.std.proofs.Common.{◌≡◌, ◌≢◌, ◌∙◌, refl, sym, ap, subst, inl, inr, ℕ, List, [], ◌∷◌, Bool, true, false, Option, Some, None, bytes_eq, arith}
use Rattle.std.proofs.lemmas.Slice.Eq.{bytes_eq-Decides}
use Rattle.dcm_cli.specs.Status.{DONE}
use Rattle.dcm_trees.specs.declared.fate.Fate.TheVariants as fates
use Rattle.dcm_trees.specs.Fate.{status}
use Rattle.dcm_trees.specs.Lines.{there_fate}
use Rattle.dcm_tree_laws.specs.Ideal.{Thing, a_file, Outputs, Place, free, held, barred, place_in, place_at, a_folder, has_way, Output, Made, nothing, an_output, Comes, without, kept, named, Name, Became, ended, met, wrote, become_kept, become_named, become, put, outputs_after, rows_of, fate_of}
use Rattle.dcm_tree_laws.specs.IdealLaws.{Each, EachTwo, Keeps, may_write, its_output, IsMadeOf, of_kept, of_named, FreeIsWritten, WrittenIsMade, HasBytes, IsDone, StatusSays, HaveOtherOutputs, NewIsContinued}
use Rattle.dcm_tree_laws.proofs.IdealRun.Places.{NewOr, is_new, is_way, is_other, new_or, held_by, new_at}
use Rattle.dcm_tree_laws.proofs.IdealRun.Steps.{run_keeps}

-- ---- written at a free place

kept_some : (s r : List ℕ) (made : Made) → may_write (kept s made) ≡ Some r → (output : Output) × (made ≡ an_output output) × (s ≡ r)
kept_some s r (nothing why) e = absurd (cc)
kept_some s r (an_output output) e = (output, refl, (let same : Some s ≡ Some r = e in cc))

some_name : (s r : List ℕ) → Some s ≡ Some r → s ≡ r
some_name s r e = cc

pub free_is_written : FreeIsWritten
free_is_written continues o (without why) r may at = absurd (cc)
free_is_written continues o (kept s (nothing why)) r may at = absurd (cc)
free_is_written continues o (kept s (an_output output)) r may at =
    let same : s ≡ r = some_name s r may in
    let here : place_at o s ≡ free = subst (λ n. place_at o n ≡ free) (sym same) at in
    (output, of_kept (ap (λ n. kept n (an_output output)) same), ap (become_kept continues s (an_output output)) here ∙ ap (λ n. wrote n output) same)
free_is_written continues o (named s output) r may at =
    let same : s ≡ r = some_name s r may in
    let here : place_at o s ≡ free = subst (λ n. place_at o n ≡ free) (sym same) at in
    (output, of_named (ap (λ n. named n output) same), ap (become_named s output) here ∙ ap (λ n. wrote n output) same)

kept_made : (continues : Bool) (o : Outputs) (s : List ℕ) (made : Made) (p : Place) (r : List ℕ) (out : Output) → place_at o s ≡ p → become_kept continues s made p ≡ wrote r out → IsMadeOf (kept s made) r out × (place_at o r ≡ free)
kept_made continues o s made barred r out at e = absurd (cc)
kept_made continues o s made (held bytes) r out at e = absurd (cc)
kept_made continues o s (nothing why) free r out at e = absurd (cc)
kept_made continues o s (an_output its) free r out at e =
    let same : s ≡ r = cc in
    let one : its ≡ out = cc in
    (of_kept (ap (λ n. kept n (an_output its)) same ∙ ap (λ x. kept r (an_output x)) one), subst (λ n. place_at o n ≡ free) same at)

named_made : (o : Outputs) (s : List ℕ) (its : Output) (p : Place) (r : List ℕ) (out : Output) → place_at o s ≡ p → become_named s its p ≡ wrote r out → IsMadeOf (named s its) r out × (place_at o r ≡ free)
named_made o s its barred r out at e = absurd (cc)
named_made o s its (held bytes) r out at e = absurd (cc)
named_made o s its free r out at e =
    let same : s ≡ r = cc in
    let one : its ≡ out = cc in
    (of_named (ap (λ n. named n its) same ∙ ap (λ x. named r x) one), subst (λ n. place_at o n ≡ free) same at)

pub written_is_made : WrittenIsMade
written_is_made continues o (without why) r out e = absurd (cc)
written_is_made continues o (kept s made) r out e = kept_made continues o s made (place_at o s) r out refl e
written_is_made continues o (named s its) r out e = named_made o s its (place_at o s) r out refl e

-- ---- the status 0

-- a file that is there stays
pub held_some : (w : Bool) (t : Option Thing) (bytes : List ℕ) → place_in w t ≡ held bytes → (mode : ℕ) × (t ≡ Some (a_file mode bytes))
held_some w None bytes e = absurd (held_none w bytes e)
  where
    held_none : (v : Bool) (b : List ℕ) → place_in v None ≡ held b → ⊥
    held_none true b is = absurd (cc)
    held_none false b is = absurd (cc)
held_some true (Some (a_file mode its)) bytes e = (mode, ap (λ b. Some (a_file mode b)) (let same : its ≡ bytes = cc in same))
held_some false (Some (a_file mode its)) bytes e = (mode, ap (λ b. Some (a_file mode b)) (let same : its ≡ bytes = cc in same))
held_some true (Some thing) bytes e = absurd (cc)
held_some false (Some thing) bytes e = absurd (cc)

pub held_stays : (o u : Outputs) (r bytes : List ℕ) → Keeps o u → place_at o r ≡ held bytes → place_at u r ≡ held bytes
held_stays o u r bytes keeps e =
    let it = held_some (has_way o r) (o r) bytes e in
    ap (place_in (has_way u r)) (keeps r (a_file it.0 bytes) it.1) ∙ held_by (has_way u r) it.0 bytes

new_held : (o after : Outputs) (r : List ℕ) (out : Output) → Keeps (put (wrote r out) o) after → place_at after r ≡ held out.bytes
new_held o after r out keeps =
    ap (place_in (has_way after r)) (keeps r (a_file out.mode out.bytes) (new_at r (a_file out.mode out.bytes) o)) ∙ held_by (has_way after r) out.mode out.bytes

there_means : (t : Bool) → status (there_fate t) ≡ DONE → t ≡ true
there_means true e = refl
there_means false e = absurd (omega (arith, e))

unwritten_not : {A : Type 0} → status fates.Unwritten ≡ DONE → A
unwritten_not e = absurd (omega (arith, e))

kept_done : (continues : Bool) (o after : Outputs) (r : List ℕ) (made : Made) (p : Place) → place_at o r ≡ p → Keeps (put (become_kept continues r made p) o) after → status (fate_of (become_kept continues r made p)) ≡ DONE → IsDone continues after (kept r made)
kept_done continues o after r made barred at keeps e = unwritten_not e
kept_done continues o after r (nothing why) (held bytes) at keeps e = inr (there_means continues e, bytes, held_stays o after r bytes keeps at)
kept_done continues o after r (an_output out) (held bytes) at keeps e = inr (there_means continues e, bytes, held_stays o after r bytes keeps at)
kept_done continues o after r (nothing why) free at keeps e = inl e
kept_done continues o after r (an_output out) free at keeps e = inl (new_held o after r out keeps)

named_done : (o after : Outputs) (r : List ℕ) (out : Output) (p : Place) → place_at o r ≡ p → Keeps (put (become_named r out p) o) after → status (fate_of (become_named r out p)) ≡ DONE → HasBytes after r out.bytes
named_done o after r out barred at keeps e = unwritten_not e
named_done o after r out (held bytes) at keeps e =
    let same : bytes ≡ out.bytes = (bytes_eq-Decides bytes out.bytes).0 (there_means (bytes_eq bytes out.bytes) e) in
    held_stays o after r bytes keeps at ∙ ap held same
named_done o after r out free at keeps e = new_held o after r out keeps

name_done : (continues : Bool) (o after : Outputs) (comes : Comes) → Keeps (put (become continues o comes) o) after → status (fate_of (become continues o comes)) ≡ DONE → IsDone continues after comes
name_done continues o after (without why) keeps e = e
name_done continues o after (kept r made) keeps e = kept_done continues o after r made (place_at o r) refl keeps e
name_done continues o after (named r out) keeps e = named_done o after r out (place_at o r) refl keeps e

pub status_says : StatusSays
status_says continues o [] later n e = name_done continues o (outputs_after continues (put (become continues o n.comes) o) later) n.comes (run_keeps continues (put (become continues o n.comes) o) later) e
status_says continues o (m ∷ earlier) later n e = status_says continues (put (become continues o m.comes) o) earlier later n e

-- ---- a run that does not go on

-- no file is at the output of a name
abbrev pub IsUnheld : Outputs → Name → Type 0
IsUnheld o n = (r bytes : List ℕ) → its_output n.comes ≡ Some r → place_at o r ≢ held bytes

kept_alike : (r : List ℕ) (made : Made) (p : Place) → ((bytes : List ℕ) → p ≢ held bytes) → become_kept false r made p ≡ become_kept true r made p
kept_alike r made barred not = refl
kept_alike r made (held bytes) not = absurd (not bytes refl)
kept_alike r (nothing why) free not = refl
kept_alike r (an_output out) free not = refl

new_alike : (o : Outputs) (comes : Comes) → ((r bytes : List ℕ) → its_output comes ≡ Some r → place_at o r ≢ held bytes) → become false o comes ≡ become true o comes
new_alike o (without why) not = refl
new_alike o (kept r made) not = kept_alike r made (place_at o r) (λ bytes. not r bytes refl)
new_alike o (named r out) not = refl

still_unheld : (b : Became) (o : Outputs) (m : Name) → ((r : List ℕ) (out : Output) → b ≡ wrote r out → (s : List ℕ) → its_output m.comes ≡ Some s → r ≢ s) → IsUnheld o m → IsUnheld (put b o) m
still_unheld (ended why) o m apart not = not
still_unheld (met relative fate) o m apart not = not
still_unheld (wrote r out) o m apart not = λ s bytes e is. by s bytes e (held_some (has_way (put (wrote r out) o) s) (put (wrote r out) o s) bytes is) (new_or r (a_file out.mode out.bytes) o s)
  where
    no_way : {A : Type 0} (t : Option Thing) (mode : ℕ) (bytes : List ℕ) → t ≡ Some (a_file mode bytes) → t ≡ Some a_folder → A
    no_way t mode bytes e f = absurd (cc)

    by : (s bytes : List ℕ) → its_output m.comes ≡ Some s → ((mode : ℕ) × (put (wrote r out) o s ≡ Some (a_file mode bytes))) → NewOr r (a_file out.mode out.bytes) o s → ⊥
    by s bytes e it (is_new same new) = apart r out refl s e (sym same)
    by s bytes e it (is_way differ on new) = no_way (put (wrote r out) o s) it.0 bytes it.1 new
    by s bytes e it (is_other differ off new) = not s bytes e (ap (place_in (has_way o s)) (sym new ∙ it.1) ∙ held_by (has_way o s) it.0 bytes)

its_may : (comes : Comes) (r : List ℕ) (out : Output) → IsMadeOf comes r out → its_output comes ≡ Some r
its_may comes r out (of_kept e) = ap its_output e
its_may comes r out (of_named e) = ap its_output e

new_run : (names : List Name) (o : Outputs) → Each (IsUnheld o) names → EachTwo HaveOtherOutputs names → (outputs_after false o names ≡ outputs_after true o names) × (rows_of false o names ≡ rows_of true o names)
new_run [] o none apart = (refl, refl)
new_run (n ∷ names) o none apart =
    let same : become false o n.comes ≡ become true o n.comes = new_alike o n.comes none.0 in
    let still : Each (IsUnheld (put (become false o n.comes) o)) names =
    each_both (become false o n.comes) o n names (λ r out e. its_may n.comes r out (written_is_made false o n.comes r out e).0) none.1 apart.0 in
    let more = new_run names (put (become false o n.comes) o) still apart.1 in (
      more.0 ∙ ap (λ b. outputs_after true (put b o) names) same,
      ap (λ rest. record { name = n.name; became = become false o n.comes } ∷ rest) more.1 ∙ ap (λ b. record { name = n.name; became = b } ∷ rows_of true (put b o) names) same,
    )
  where
    each_both : (b : Became) (u : Outputs) (m : Name) (rest : List Name) → ((r : List ℕ) (out : Output) → b ≡ wrote r out → its_output m.comes ≡ Some r) → Each (IsUnheld u) rest → Each (HaveOtherOutputs m) rest → Each (IsUnheld (put b u)) rest
    each_both b u m [] its unheld others = tt
    each_both b u m (x ∷ rest) its unheld others = (still_unheld b u x (λ r out e s is. others.0 r s (its r out e) is) unheld.0, each_both b u m rest its unheld.1 others.1)

none_held : (o : Outputs) → ((r : List ℕ) → o r ≡ None) → (names : List Name) → Each (IsUnheld o) names
none_held o none [] = tt
none_held o none (n ∷ names) = (λ r bytes e is. no_thing (o r) bytes (none r) (held_some (has_way o r) (o r) bytes is), none_held o none names)
  where
    no_thing : (t : Option Thing) (bytes : List ℕ) → t ≡ None → ((mode : ℕ) × (t ≡ Some (a_file mode bytes))) → ⊥
    no_thing t bytes e it = let f = it.1 in absurd (cc)

pub new_is_continued : NewIsContinued
new_is_continued o names none apart = new_run names o (none_held o none names) apart
