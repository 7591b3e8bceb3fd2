-- Steps over lists, in parts.
use Rattle.std.proofs.Common.{◌≡◌, ◌∙◌, sym, ap, subst, refl, ℕ, List, [], ◌∷◌, ◌++◌, append_assoc}
use Rattle.std.specs.Prelude.{fold, Option, Result, Ok, Err, OnOk, IsErr}
use Rattle.std.specs.Io.KnownBytes.{append_known}
use Rattle.dcm_lemmas.proofs.Options.{known_nothing, known_twice}
use Rattle.dcm_devices.specs.Device.{Puts, AppendsFront}
use Rattle.dcm_devices.proofs.Writes.Puts.{front_longer, puts_behind}
use Rattle.std.proofs.lemmas.List.Sums.{fold-append}
use Rattle.std.proofs.lemmas.List.{append-nil, take_all, take_more, take-append-drop, take-append-le}
use Rattle.std.proofs.Common.{suc, ◌+◌, ◌<◌, length, take, drop, get_or, drop-cons, arith}
use Rattle.std.specs.List.{refill}
use Rattle.dcm_base.specs.Steps.Steps.{outputs, Goes}

-- what is written over one list and then another
pub outputs-append : {S A B : Type 0} (step : S → A → S) (writes : S → A → List B) (s : S) (xs ys : List A) → outputs step writes s (xs ++ ys) ≡ outputs step writes s xs ++ outputs step writes (fold step s xs) ys
outputs-append step writes s [] ys = refl
outputs-append step writes s (x ∷ xs) ys = ap (λ bs. writes s x ++ bs) (outputs-append step writes (step s x) xs ys) ∙ sym (append_assoc (writes s x) (outputs step writes (step s x) xs) (outputs step writes (fold step (step s x) xs) ys))

-- atoms that are stored one by one
pub fold_push : {A : Type 0} (all xs : List A) → fold (λ (ys : List A) (y : A). ys ++ y ∷ []) all xs ≡ all ++ xs
fold_push all [] = sym (append-nil all)
fold_push all (x ∷ xs) = fold_push (all ++ x ∷ []) xs ∙ append_assoc all (x ∷ []) xs

module _ {S A : Type 0} (step : S → A → S) (writes : S → A → List ℕ) where
  -- a state and its output, as a sink tells them
  pub goes_of : {T E : Type 0} (s : S) (held : Option (List ℕ)) (t : S) (holds : Option (List ℕ)) (xs : List A) (r : Result T E) → OnOk r (t ≡ fold step s xs) → Puts held holds (outputs step writes s xs) r → Goes step writes s held t holds xs r
  goes_of s held t holds xs (Ok x) a b = (a, b)
  goes_of s held t holds xs (Err x) a b = b

  -- nothing
  pub goes_nowhere : (E : Type 0) {T : Type 0} (s : S) (held : Option (List ℕ)) (x : T) → Goes {T = T} {E = E} step writes s held s held [] (Ok x)
  goes_nowhere E s held x = (refl, sym (known_nothing held))

  -- one part and then another
  pub goes_on : {T E : Type 0} (s : S) (held : Option (List ℕ)) (m : S) (mid : Option (List ℕ)) (t : S) (holds : Option (List ℕ)) (xs ys : List A) (r : Result T E) → m ≡ fold step s xs → mid ≡ append_known held (outputs step writes s xs) → Goes step writes m mid t holds ys r → Goes step writes s held t holds (xs ++ ys) r
  goes_on {T} {E} s held m mid t holds xs ys (Ok y) state bytes b =
      let outs : outputs step writes s xs ++ outputs step writes m ys ≡ outputs step writes s (xs ++ ys) = ap (λ z. outputs step writes s xs ++ outputs step writes z ys) state ∙ sym (outputs-append step writes s xs ys) in
      (b.0 ∙ ap (λ z. fold step z ys) state ∙ sym (fold-append step s xs ys), puts_behind {T = T} {E = E} held mid holds (outputs step writes s xs) (outputs step writes m ys) (Ok y) bytes b.1 ∙ ap (append_known held) outs)
  goes_on {T} {E} s held m mid t holds xs ys (Err y) state bytes b =
      let outs : outputs step writes s xs ++ outputs step writes m ys ≡ outputs step writes s (xs ++ ys) = ap (λ z. outputs step writes s xs ++ outputs step writes z ys) state ∙ sym (outputs-append step writes s xs ys) in
      subst (AppendsFront held holds) outs (puts_behind {T = T} {E = E} held mid holds (outputs step writes s xs) (outputs step writes m ys) (Err y) bytes b)

  -- a failure in the first part
  pub goes_failed : {T E : Type 0} (s : S) (held : Option (List ℕ)) (t : S) (holds : Option (List ℕ)) (xs ys : List A) (r : Result T E) → IsErr r → AppendsFront held holds (outputs step writes s xs) → Goes step writes s held t holds (xs ++ ys) r
  goes_failed s held t holds xs ys (Ok y) e a = cc
  goes_failed s held t holds xs ys (Err y) e a = subst (AppendsFront held holds) (sym (outputs-append step writes s xs ys)) (front_longer (outputs step writes (fold step s xs) ys) a)

  -- a state and its output behind one more
  pub fold_more : (s : S) (xs : List A) (i : ℕ) (d : A) → i < length xs → fold step s (take (i + 1) xs) ≡ step (fold step s (take i xs)) (get_or xs i d)
  fold_more s xs i d h = ap (fold step s) (take_more xs i d h) ∙ fold-append step s (take i xs) (get_or xs i d ∷ [])

  pub outputs_more : (s : S) (xs : List A) (i : ℕ) (d : A) → i < length xs → outputs step writes s (take (i + 1) xs) ≡ outputs step writes s (take i xs) ++ writes (fold step s (take i xs)) (get_or xs i d)
  outputs_more s xs i d h =
      ap (outputs step writes s) (take_more xs i d h)
      ∙ outputs-append step writes s (take i xs) (get_or xs i d ∷ [])
      ∙ ap (λ z. outputs step writes s (take i xs) ++ z) (append-nil (writes (fold step s (take i xs)) (get_or xs i d)))

  pub goes_more : (s : S) (held : Option (List ℕ)) (m : S) (mid new : Option (List ℕ)) (xs : List A) (i : ℕ) (d : A) → i < length xs → m ≡ fold step s (take i xs)
      → mid ≡ append_known held (outputs step writes s (take i xs)) → new ≡ append_known mid (writes m (get_or xs i d)) → new ≡ append_known held (outputs step writes s (take (i + 1) xs))
  goes_more s held m mid new xs i d h state went one =
      one
      ∙ ap (λ known. append_known known (writes m (get_or xs i d))) went
      ∙ known_twice held (outputs step writes s (take i xs)) (writes m (get_or xs i d))
      ∙ ap (λ z. append_known held (outputs step writes s (take i xs) ++ writes z (get_or xs i d))) state
      ∙ ap (append_known held) (sym (outputs_more s xs i d h))

  -- a failure at one of them
  pub goes_failed_at : {T E : Type 0} (s : S) (held : Option (List ℕ)) (m : S) (mid : Option (List ℕ)) (t : S) (holds : Option (List ℕ)) (xs : List A) (i : ℕ) (d : A) (r : Result T E) → i < length xs → m ≡ fold step s (take i xs)
      → mid ≡ append_known held (outputs step writes s (take i xs)) → IsErr r → AppendsFront mid holds (writes m (get_or xs i d)) → Goes step writes s held t holds xs r
  goes_failed_at {T} {E} s held m mid t holds xs i d r h state went failed front =
      let whole : take i xs ++ (get_or xs i d ∷ drop (suc i) xs) ≡ xs = ap (λ ys. take i xs ++ ys) (sym (drop-cons xs i d h)) ∙ take-append-drop i xs in
      subst (λ ys. Goes {T = T} {E = E} step writes s held t holds ys r) whole
      (goes_on s held m mid t holds (take i xs) (get_or xs i d ∷ drop (suc i) xs) r state went
      (goes_failed m mid t holds (get_or xs i d ∷ []) (drop (suc i) xs) r failed (subst (AppendsFront mid holds) (sym (append-nil (writes m (get_or xs i d)))) front)))

-- a slice that is written whole
pub refill_whole : (xs ws : List ℕ) → length ws ≡ length xs → refill (length xs) xs ws ≡ ws
refill_whole xs ws e = take-append-le (length xs) ws (drop (length ws) xs) (omega arith) ∙ take_all (length xs) ws (omega arith)
