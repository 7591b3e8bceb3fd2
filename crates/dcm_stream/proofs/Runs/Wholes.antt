-- An element with its whole value, token by token.
use Rattle.std.proofs.Common.{◌≡◌, ◌∙◌, sym, ap, subst, refl, ℕ, List, [], ◌∷◌, ◌++◌, Option, Result, Err}
use Rattle.std.specs.Prelude.{fold, IsErr}
use Rattle.std.specs.Io.KnownBytes.{append_known}
use Rattle.dcm_base.specs.Steps.Atoms.{Atom}
use Rattle.dcm_base.specs.Steps.Steps.{outputs}
use Rattle.dcm_base.proofs.Writes.Runs.{outputs-append}
use Rattle.dcm_devices.specs.Device.{Puts, AppendsFront}
use Rattle.dcm_devices.proofs.Writes.Puts.{puts_behind, puts_err, front_longer}
use Rattle.dcm_stream.specs.Telling.{PutsWhole}
use Rattle.dcm_stream.specs.declared.token.WholeFailed.{WholeFailed}
use Rattle.dcm_stream.specs.declared.token.WholeFailed.TheVariants.{AtHead, InValue}

module _ {S : Type 0} (step : S → Atom → S) (writes : S → Atom → List ℕ) where
  -- some atoms and then others
  puts_on : {T E : Type 0} (s : S) (held : Option (List ℕ)) (m : S) (mid holds : Option (List ℕ)) (xs ys : List Atom) (r : Result T E)
      → m ≡ fold step s xs → mid ≡ append_known held (outputs step writes s xs) → Puts mid holds (outputs step writes m ys) r → Puts held holds (outputs step writes s (xs ++ ys)) r
  puts_on s held m mid holds xs ys r state bytes h =
      let both = ap (λ (z : S). outputs step writes s xs ++ outputs step writes z ys) state ∙ sym (outputs-append step writes s xs ys) in
      subst (λ (bs : List ℕ). Puts held holds bs r) both (puts_behind held mid holds (outputs step writes s xs) (outputs step writes m ys) r bytes h)

  -- the writer failed at the first of them
  puts_not_on : {T E : Type 0} (s : S) (held holds : Option (List ℕ)) (xs ys : List Atom) (r : Result T E) → IsErr r → AppendsFront held holds (outputs step writes s xs) → Puts held holds (outputs step writes s (xs ++ ys)) r
  puts_not_on s held holds xs ys r failed front =
      subst (λ (bs : List ℕ). Puts held holds bs r) (sym (outputs-append step writes s xs ys))
      (puts_err held holds (outputs step writes s xs ++ outputs step writes (fold step s xs) ys) r failed (front_longer (outputs step writes (fold step s xs) ys) front))

  -- its head went out, and a beginning of its value
  pub whole_fails : {T E : Type 0} (s : S) (held : Option (List ℕ)) (m : S) (mid holds : Option (List ℕ)) (head : Atom) (value : List Atom) (end : Atom) (r : Result T E)
      → m ≡ fold step s (head ∷ []) → mid ≡ append_known held (outputs step writes s (head ∷ [])) → IsErr r → AppendsFront mid holds (outputs step writes m value)
      → Puts held holds (outputs step writes s (head ∷ (value ++ end ∷ []))) r
  whole_fails s held m mid holds head value end r state bytes failed front =
      puts_on s held m mid holds (head ∷ []) (value ++ end ∷ []) r state bytes (puts_not_on m mid holds value (end ∷ []) r failed front)

  -- its head and its value went out, and then what its end makes
  pub whole_goes : {T E : Type 0} (s : S) (held : Option (List ℕ)) (m : S) (mid : Option (List ℕ)) (n : S) (near holds : Option (List ℕ)) (head : Atom) (value : List Atom) (end : Atom) (r : Result T E)
      → m ≡ fold step s (head ∷ []) → mid ≡ append_known held (outputs step writes s (head ∷ [])) → n ≡ fold step m value → near ≡ append_known mid (outputs step writes m value)
      → Puts near holds (outputs step writes n (end ∷ [])) r → Puts held holds (outputs step writes s (head ∷ (value ++ end ∷ []))) r
  whole_goes s held m mid n near holds head value end r state bytes after out h =
      puts_on s held m mid holds (head ∷ []) (value ++ end ∷ []) r state bytes (puts_on m mid n near holds value (end ∷ []) r after out h)

  -- the same without a value
  pub empty_goes : {T E : Type 0} (s : S) (held : Option (List ℕ)) (m : S) (mid holds : Option (List ℕ)) (head : Atom) (end : Atom) (r : Result T E)
      → m ≡ fold step s (head ∷ []) → mid ≡ append_known held (outputs step writes s (head ∷ [])) → Puts mid holds (outputs step writes m (end ∷ [])) r → Puts held holds (outputs step writes s (head ∷ end ∷ [])) r
  empty_goes s held m mid holds head end r state bytes h = puts_on s held m mid holds (head ∷ []) (end ∷ []) r state bytes h

  -- behind its head, which went out: the writer failed at its value
  pub value_fails : (s : S) (held : Option (List ℕ)) (m : S) (mid holds : Option (List ℕ)) (head : Atom) (value : List Atom) (end : Atom)
      → m ≡ fold step s (head ∷ []) → mid ≡ append_known held (outputs step writes s (head ∷ [])) → AppendsFront mid holds (outputs step writes m value)
      → AppendsFront (append_known held (outputs step writes s (head ∷ []))) holds (outputs step writes (fold step s (head ∷ [])) (value ++ end ∷ []))
  value_fails s held m mid holds head value end state bytes front =
      let longer : AppendsFront mid holds (outputs step writes m (value ++ end ∷ [])) = puts_not_on {T = Unit {0}} {E = Unit {0}} m mid holds value (end ∷ []) (Err tt) refl front in
      subst (λ (known : Option (List ℕ)). AppendsFront known holds (outputs step writes (fold step s (head ∷ [])) (value ++ end ∷ []))) bytes
      (subst (λ (z : S). AppendsFront mid holds (outputs step writes z (value ++ end ∷ []))) state longer)

  -- the same at its end
  pub end_fails : (s : S) (held : Option (List ℕ)) (m : S) (mid : Option (List ℕ)) (n : S) (near holds : Option (List ℕ)) (head : Atom) (value : List Atom) (end : Atom)
      → m ≡ fold step s (head ∷ []) → mid ≡ append_known held (outputs step writes s (head ∷ [])) → n ≡ fold step m value → near ≡ append_known mid (outputs step writes m value)
      → AppendsFront near holds (outputs step writes n (end ∷ [])) → AppendsFront (append_known held (outputs step writes s (head ∷ []))) holds (outputs step writes (fold step s (head ∷ [])) (value ++ end ∷ []))
  end_fails s held m mid n near holds head value end state bytes after out front =
      let longer : AppendsFront mid holds (outputs step writes m (value ++ end ∷ [])) = puts_on {T = Unit {0}} {E = Unit {0}} m mid n near holds value (end ∷ []) (Err tt) after out front in
      subst (λ (known : Option (List ℕ)). AppendsFront known holds (outputs step writes (fold step s (head ∷ [])) (value ++ end ∷ []))) bytes
      (subst (λ (z : S). AppendsFront mid holds (outputs step writes z (value ++ end ∷ []))) state longer)

  -- and where it has no bytes
  pub empty_fails : (s : S) (held : Option (List ℕ)) (m : S) (mid holds : Option (List ℕ)) (head : Atom) (end : Atom)
      → m ≡ fold step s (head ∷ []) → mid ≡ append_known held (outputs step writes s (head ∷ [])) → AppendsFront mid holds (outputs step writes m (end ∷ []))
      → AppendsFront (append_known held (outputs step writes s (head ∷ []))) holds (outputs step writes (fold step s (head ∷ [])) (end ∷ []))
  empty_fails s held m mid holds head end state bytes front =
      subst (λ (known : Option (List ℕ)). AppendsFront known holds (outputs step writes (fold step s (head ∷ [])) (end ∷ []))) bytes
      (subst (λ (z : S). AppendsFront mid holds (outputs step writes z (end ∷ []))) state front)

-- how far it came says what went out in all
pub whole_failed : {S : Type 0} (T : Type 0) (step : S → Atom → S) (writes : S → Atom → List ℕ) (s : S) (held holds : Option (List ℕ)) (head value : List Atom) (f : WholeFailed)
    → PutsWhole {T = T} step writes s held holds head value (Err f) → AppendsFront held holds (outputs step writes s (head ++ value))
whole_failed T step writes s held holds head value AtHead front = puts_not_on step writes {T = Unit {0}} {E = Unit {0}} s held holds head value (Err tt) refl front
whole_failed T step writes s held holds head value InValue front =
    puts_on step writes {T = Unit {0}} {E = Unit {0}} s held (fold step s head) (append_known held (outputs step writes s head)) holds head value (Err tt) refl refl front
