-- Tokens that a sink takes one after another.
use Rattle.std.proofs.Common.{◌≡◌, ◌∙◌, ap, sym, ℕ, suc, ◌+◌, ◌<◌, List, [], ◌∷◌, ◌++◌, length, take, drop, get_or, Option, Result, drop-cons}
use Rattle.std.specs.Prelude.{fold, flat_map, IsErr}
use Rattle.std.specs.Io.KnownBytes.{append_known}
use Rattle.std.proofs.lemmas.Grind.{flat_map-append}
use Rattle.std.proofs.lemmas.List.{append-nil, take_more, take-append-drop}
use Rattle.dcm_base.specs.Steps.Atoms.{Atom}
use Rattle.dcm_devices.specs.Device.{AppendsFront}
use Rattle.dcm_base.specs.Steps.Steps.{outputs, Goes}
use Rattle.dcm_stream.specs.declared.token.Token.{Token}
use Rattle.dcm_stream.specs.Tokens.{atoms_of}
use Rattle.dcm_stream.proofs.Containers.Closes.{taken_more, failed_more}

-- the atoms of one token more
one_more : (xs : List Token) (i : ℕ) (d : Token) → i < length xs → flat_map atoms_of (take (i + 1) xs) ≡ flat_map atoms_of (take i xs) ++ atoms_of (get_or xs i d)
one_more xs i d h =
    ap (flat_map atoms_of) (take_more xs i d h)
    ∙ flat_map-append atoms_of (take i xs) (get_or xs i d ∷ [])
    ∙ ap (λ (z : List Atom). flat_map atoms_of (take i xs) ++ z) (append-nil (atoms_of (get_or xs i d)))

-- the atoms of all, with one token apart
one_apart : (xs : List Token) (i : ℕ) (d : Token) → i < length xs → flat_map atoms_of xs ≡ flat_map atoms_of (take i xs) ++ (atoms_of (get_or xs i d) ++ flat_map atoms_of (drop (suc i) xs))
one_apart xs i d h =
    ap (flat_map atoms_of) (sym (ap (λ (ys : List Token). take i xs ++ ys) (sym (drop-cons xs i d h)) ∙ take-append-drop i xs))
    ∙ flat_map-append atoms_of (take i xs) (get_or xs i d ∷ drop (suc i) xs)

module _ {S : Type 0} (step : S → Atom → S) (writes : S → Atom → List ℕ) where
  pub handed_more : (s : S) (held : Option (List ℕ)) (m : S) (mid : Option (List ℕ)) (t : S) (holds : Option (List ℕ)) (xs : List Token) (i : ℕ) (d : Token) → i < length xs
      → m ≡ fold step s (flat_map atoms_of (take i xs)) → mid ≡ append_known held (outputs step writes s (flat_map atoms_of (take i xs)))
      → t ≡ fold step m (atoms_of (get_or xs i d)) → holds ≡ append_known mid (outputs step writes m (atoms_of (get_or xs i d)))
      → (t ≡ fold step s (flat_map atoms_of (take (i + 1) xs))) × (holds ≡ append_known held (outputs step writes s (flat_map atoms_of (take (i + 1) xs))))
  handed_more s held m mid t holds xs i d h state bytes next out =
      let all = taken_more step writes s held m mid t holds (flat_map atoms_of (take i xs)) (atoms_of (get_or xs i d)) state bytes next out in
      let more = sym (one_more xs i d h) in
      (all.0 ∙ ap (λ (atoms : List Atom). fold step s atoms) more, all.1 ∙ ap (λ (atoms : List Atom). append_known held (outputs step writes s atoms)) more)

  -- a failure at one of them
  pub handed_failed : {T E : Type 0} (s : S) (held : Option (List ℕ)) (m : S) (mid : Option (List ℕ)) (t : S) (holds : Option (List ℕ)) (xs : List Token) (i : ℕ) (d : Token) (r : Result T E) → i < length xs
      → m ≡ fold step s (flat_map atoms_of (take i xs)) → mid ≡ append_known held (outputs step writes s (flat_map atoms_of (take i xs)))
      → IsErr r → AppendsFront mid holds (outputs step writes m (atoms_of (get_or xs i d))) → Goes step writes s held t holds (flat_map atoms_of xs) r
  handed_failed s held m mid t holds xs i d r h state bytes failed front =
      failed_more step writes s held m mid t holds (flat_map atoms_of (take i xs)) (atoms_of (get_or xs i d)) (flat_map atoms_of (drop (suc i) xs)) (flat_map atoms_of xs) r state bytes failed (one_apart xs i d h) front
