-- How far an element came whose value nobody has to know.
use Rattle.std.proofs.Common.{◌≡◌, ℕ, List, ◌++◌, Option, refl, sym, ◌∙◌, ap, subst}
use Rattle.std.specs.Prelude.{fold, Result, Ok, Err, OnOk, OnErr, ⊤}
use Rattle.std.proofs.lemmas.List.Sums.{fold-append}
use Rattle.std.specs.Io.KnownBytes.{append_known}
use Rattle.dcm_lemmas.proofs.Options.{known_twice}
use Rattle.dcm_base.specs.Steps.Atoms.{Atom}
use Rattle.dcm_base.specs.Steps.Steps.{outputs}
use Rattle.dcm_base.proofs.Writes.Runs.{outputs-append, goes_on, goes_failed}
use Rattle.dcm_base.specs.declared.syntax.Syntax.{Syntax}
use Rattle.dcm_devices.specs.Device.{AppendsFront, Tells}
use Rattle.dcm_head.specs.declared.head.Head.{Head}
use Rattle.dcm_stream.specs.Sinks.{Took, Keeps}
use Rattle.dcm_stream.specs.Tokens.{head_atoms, value_atoms, whole_atoms}
use Rattle.dcm_stream.proofs.Runs.Wholes.{whole_failed}
use Rattle.dcm_stream.specs.Telling.{PutsWhole}
use Rattle.dcm_stream.specs.declared.sink.Sink.{Ghosts}
use Rattle.dcm_stream.specs.declared.token.WholeFailed.{WholeFailed}
use Rattle.dcm_stream.specs.declared.token.WholeFailed.TheVariants.{AtHead, InValue}

module _ {S : Type 0} (step : S → Atom → S) (writes : S → Atom → List ℕ) (s : S) (held : Option (List ℕ)) (m : S) (mid holds : Option (List ℕ)) (first head value : List Atom) (state : m ≡ fold step s first) (bytes : mid ≡ append_known held (outputs step writes s first)) where
  both_bytes : append_known mid (outputs step writes m head) ≡ append_known held (outputs step writes s (first ++ head))
  both_bytes =
      ap (λ (k : Option (List ℕ)). append_known k (outputs step writes m head)) bytes
      ∙ known_twice held (outputs step writes s first) (outputs step writes m head)
      ∙ ap (λ (t : S). append_known held (outputs step writes s first ++ outputs step writes t head)) state
      ∙ ap (append_known held) (sym (outputs-append step writes s first head))

  both_state : fold step m head ≡ fold step s (first ++ head)
  both_state = ap (λ (t : S). fold step t head) state ∙ sym (fold-append step s first head)

  after : (place : WholeFailed) → PutsWhole {T = ⊤} step writes m mid holds head value (Err place) → PutsWhole {T = ⊤} step writes s held holds (first ++ head) value (Err place)
  after AtHead front = goes_on step writes {T = Unit {0}} {E = Unit {0}} s held m mid m holds first head (Err tt) state bytes front
  after InValue front =
      subst (λ (k : Option (List ℕ)). AppendsFront k holds (outputs step writes (fold step s (first ++ head)) value)) both_bytes
      (subst (λ (t : S). AppendsFront (append_known mid (outputs step writes m head)) holds (outputs step writes t value)) both_state front)

  told_at : (T : Type 0) (failed place : WholeFailed) → failed ≡ place → PutsWhole {T = T} step writes m mid holds head value (Err failed) → PutsWhole {T = ⊤} step writes m mid holds head value (Err place)
  told_at T failed AtHead is told = subst (λ (f : WholeFailed). PutsWhole {T = T} step writes m mid holds head value (Err f)) is told
  told_at T failed InValue is told = subst (λ (f : WholeFailed). PutsWhole {T = T} step writes m mid holds head value (Err f)) is told

  -- after what comes before its head
  pub told_after : (T : Type 0) (failed place : WholeFailed) → failed ≡ place → PutsWhole {T = T} step writes m mid holds head value (Err failed) → PutsWhole {T = ⊤} step writes s held holds (first ++ head) value (Err place)
  told_after T failed place is told = after place (told_at T failed place is told)

-- before its head
pub told_before : {S : Type 0} (step : S → Atom → S) (writes : S → Atom → List ℕ) (s : S) (held holds : Option (List ℕ)) (first head value : List Atom)
    → AppendsFront held holds (outputs step writes s first) → PutsWhole {T = ⊤} step writes s held holds (first ++ head) value (Err AtHead)
told_before step writes s held holds first head value front = goes_failed step writes {T = Unit {0}} {E = Unit {0}} s held s holds first head (Err tt) refl front

-- a failure told in another word
pub failed_as : {X A B : Type 0} (sink : Ghosts X) (old new : X) (atoms : List Atom) (a : A) (b : B) → Took {T = Unit {0}} {E = A} sink old new atoms (Err a) → Took {T = Unit {0}} {E = B} sink old new atoms (Err b)
failed_as sink old new atoms a b h = record { takes = h.takes; failed = h.failed; kept = h.kept }

pub on_err : {T E : Type 0} (P : Type 0) (r : Result T E) → P → OnErr r P
on_err P (Ok x) p = tt
on_err P (Err e) p = p

-- what a sink tells of a whole element, as of its atoms
pub whole_taken : {X : Type 0} (sink : Ghosts X) (old new : X) (head : Head) (syntax : Syntax) (value : List ℕ) (r : Result (Unit {0}) WholeFailed) → OnOk r (sink.state new ≡ fold sink.step (sink.state old) (whole_atoms head syntax value))
    → PutsWhole sink.step sink.writes (sink.state old) (sink.contents old) (sink.contents new) (head_atoms head syntax) (value_atoms value) r → Tells (sink.has_failed old) (sink.has_failed new) r → Keeps sink old new
    → Took {T = Unit {0}} {E = WholeFailed} sink old new (whole_atoms head syntax value) r
whole_taken sink old new head syntax value (Ok x) state bytes failed kept = record { takes = (state, bytes); failed = failed; kept = kept }
whole_taken sink old new head syntax value (Err f) state bytes failed kept =
    record { takes = whole_failed (Unit {0}) sink.step sink.writes (sink.state old) (sink.contents old) (sink.contents new) (head_atoms head syntax) (value_atoms value) f bytes; failed = failed; kept = kept }
