-- The text of a value stands for the value: units between backslashes.
use Rattle.std.proofs.Common.{◌≡◌, ℕ, zero, suc, ◌≤◌, ◌<◌, ◌+◌, ◌*◌, List, [], ◌∷◌, ◌++◌, length, map, take, drop, Option, Some, Bool, false, refl, ◌∙◌, ap, arith, length-append}
use Rattle.std.specs.Prelude.{◌==◌}
use Rattle.std.specs.List.{join_with_byte, slice_split, onto_first}
use Rattle.std.proofs.lemmas.List.Splits.{slice_split-cons_yes, slice_split-cons_no}
use Rattle.std.proofs.lemmas.List.{length-take-le, length-drop, take-append-drop}
use Rattle.dcm_base.specs.Lines.ReadValue.{◌>>=◌, each_part, joined}
use Rattle.dcm_base.specs.Tree.Value.{pieces}
use Rattle.dcm_base.proofs.DumpsBack.Texts.{Bytes}

-- no byte is a backslash
abbrev pub Apart : List ℕ → Type 0
Apart [] = Unit {0}
Apart (c ∷ cs) = ((c == 92) ≡ false) × Apart cs

pub Apart-append : (p q : List ℕ) → Apart p → Apart q → Apart (p ++ q)
Apart-append [] q h k = k
Apart-append (c ∷ p) q h k = (h.0, Apart-append p q h.1 k)

abbrev is_backslash : ℕ → Bool
is_backslash c = c == 92

split_part : (p rest : List ℕ) → Apart p → slice_split is_backslash (p ++ 92 ∷ rest) ≡ p ∷ slice_split is_backslash rest
split_part [] rest h = slice_split-cons_yes is_backslash 92 rest refl
split_part (c ∷ p) rest h = slice_split-cons_no is_backslash c (p ++ 92 ∷ rest) h.0 ∙ ap (onto_first c) (split_part p rest h.1)

split_last : (p : List ℕ) → Apart p → slice_split is_backslash p ≡ p ∷ []
split_last [] h = refl
split_last (c ∷ p) h = slice_split-cons_no is_backslash c p h.0 ∙ ap (onto_first c) (split_last p h.1)

-- each of a list of lists
abbrev pub Each : (List ℕ → Type 0) → List (List ℕ) → Type 0
Each P [] = Unit {0}
Each P (u ∷ us) = P u × Each P us

-- the text of a unit is read back, has a byte and no backslash
pub record IsPart (read : List ℕ → Option (List ℕ)) (write : List ℕ → List ℕ) (u : List ℕ) : Type 0 where
  pub back : read (write u) ≡ Some u
  pub some : 0 < length (write u)
  pub apart : Apart (write u)

module _ (read : List ℕ → Option (List ℕ)) (write : List ℕ → List ℕ) where
  split_joined : (u : List ℕ) (us : List (List ℕ)) → Each (IsPart read write) (u ∷ us) → slice_split is_backslash (join_with_byte 92 (map write (u ∷ us))) ≡ map write (u ∷ us)
  split_joined u [] h = split_last (write u) h.0.apart
  split_joined u (w ∷ us) h = split_part (write u) (join_with_byte 92 (map write (w ∷ us))) h.0.apart ∙ ap (λ ps. write u ∷ ps) (split_joined w us h.1)

  abbrev pub flat : List (List ℕ) → List ℕ
  flat [] = []
  flat (u ∷ us) = u ++ flat us

  each_back : (us : List (List ℕ)) → Each (IsPart read write) us → each_part read (map write us) ≡ Some (flat us)
  each_back [] h = refl
  each_back (u ∷ us) h =
      ap (λ o. o >>= λ bytes. each_part read (map write us) >>= λ more. Some (bytes ++ more)) h.0.back
      ∙ ap (λ o. o >>= λ more. Some (u ++ more)) (each_back us h.1)

  length-joined : (u : List ℕ) (us : List (List ℕ)) → Each (IsPart read write) (u ∷ us) → 2 * length (u ∷ us) ≤ length (join_with_byte 92 (map write (u ∷ us))) + 1
  length-joined u [] h = let s : 0 < length (write u) = h.0.some in omega (arith, s)
  length-joined u (w ∷ us) h =
      let s : 0 < length (write u) = h.0.some in
      let r : List ℕ = join_with_byte 92 (map write (w ∷ us)) in
      let i : 2 * length (w ∷ us) ≤ length r + 1 = length-joined w us h.1 in
      let e : length (write u ++ 92 ∷ r) ≡ length (write u) + length (92 ∷ r) = length-append (write u) (92 ∷ r) in
      omega (arith, s, i, e)

  flat_pieces : (m k : ℕ) (v : List ℕ) → length v ≡ m * k → flat (pieces m k v) ≡ v
  flat_pieces zero k [] l = refl
  flat_pieces zero k (b ∷ v) l = absurd (omega (arith, l))
  flat_pieces (suc m) k v l =
      ap (λ x. take k v ++ x) (flat_pieces m k (drop k v) (dropped m k v l)) ∙ take-append-drop k v
    where
      dropped : (m k : ℕ) (v : List ℕ) → length v ≡ suc m * k → length (drop k v) ≡ m * k
      dropped m k v l = let p : suc m * k ≡ m * k + k = omega arith in omega (arith, l, p, length-drop k v)

  pub parts_back : (m k : ℕ) (v : List ℕ) → length v ≡ suc m * k → Each (IsPart read write) (pieces (suc m) k v)
      → joined read (join_with_byte 92 (map write (pieces (suc m) k v))) ≡ Some v
  parts_back m k v l h =
      ap (each_part read) (split_joined (take k v) (pieces m k (drop k v)) h)
      ∙ each_back (pieces (suc m) k v) h
      ∙ ap Some (flat_pieces (suc m) k v l)

  length-pieces : (m k : ℕ) (v : List ℕ) → length (pieces m k v) ≡ m
  length-pieces zero k v = refl
  length-pieces (suc m) k v = ap (λ n. suc n) (length-pieces m k (drop k v))

  pub parts_within : (m k : ℕ) (v : List ℕ) → Each (IsPart read write) (pieces (suc m) k v) → 2 * suc m ≤ length (join_with_byte 92 (map write (pieces (suc m) k v))) + 1
  parts_within m k v h =
      let e : length (pieces m k (drop k v)) ≡ m = length-pieces m k (drop k v) in
      let i : 2 * length (pieces (suc m) k v) ≤ length (join_with_byte 92 (map write (pieces (suc m) k v))) + 1 = length-joined (take k v) (pieces m k (drop k v)) h in
      omega (arith, e, i)

-- ---- whole units

pub Bytes-take : (k : ℕ) (v : List ℕ) → Bytes v → Bytes (take k v)
Bytes-take zero v h = tt
Bytes-take (suc k) [] h = tt
Bytes-take (suc k) (b ∷ v) h = (h.0, Bytes-take k v h.1)

pub Bytes-drop : (k : ℕ) (v : List ℕ) → Bytes v → Bytes (drop k v)
Bytes-drop zero v h = h
Bytes-drop (suc k) [] h = tt
Bytes-drop (suc k) (b ∷ v) h = Bytes-drop k v h.1

pub each_piece : (P : List ℕ → Type 0) (m k : ℕ) (v : List ℕ) → ((u : List ℕ) → length u ≡ k → Bytes u → P u) → length v ≡ m * k → Bytes v → Each P (pieces m k v)
each_piece P zero k v f l h = tt
each_piece P (suc m) k v f l h =
    (f (take k v) (length-take-le k v (enough m k v l)) (Bytes-take k v h), each_piece P m k (drop k v) f (dropped m k v l) (Bytes-drop k v h))
  where
    enough : (m k : ℕ) (v : List ℕ) → length v ≡ suc m * k → k ≤ length v
    enough m k v l = let p : suc m * k ≡ m * k + k = omega arith in omega (arith, l, p)

    dropped : (m k : ℕ) (v : List ℕ) → length v ≡ suc m * k → length (drop k v) ≡ m * k
    dropped m k v l = let p : suc m * k ≡ m * k + k = omega arith in omega (arith, l, p, length-drop k v)
