-- The end of a field, found byte by byte.
use Rattle.std.proofs.Common.{◌≡◌, ◌∙◌, ap, sym, refl, ℕ, ◌+◌, List, [], ◌∷◌, ◌++◌, append_assoc, length, take, drop}
use Rattle.std.proofs.lemmas.List.{append-nil, length-append}
use Rattle.std.proofs.Math.Seq.{take-append_seam, drop-append_seam}
use Rattle.dcm_base.specs.Lines.Line.{Field, field, with_front}

-- these bytes were passed, and the field goes on behind them
pub record Passed (f : List ℕ → Field) (bytes : List ℕ) (end : ℕ) (rest : List ℕ) : Type 0 where
  pub front : List ℕ
  pub whole : bytes ≡ front ++ rest
  pub size : length front ≡ end
  pub so_far : f bytes ≡ field (front ++ (f rest).value) (f rest).rest

pub nothing_passed : (f : List ℕ → Field) (bytes : List ℕ) → Passed f bytes 0 bytes
nothing_passed f bytes = record { front = []; whole = refl; size = refl; so_far = refl }

module _ (f : List ℕ → Field) (bytes : List ℕ) (end : ℕ) (rest : List ℕ) (p : Passed f bytes end rest) where
  -- a byte that doesn't end it
  pub one_passed : (c : ℕ) (after : List ℕ) → rest ≡ c ∷ after → f (c ∷ after) ≡ with_front c (f after) → Passed f bytes (end + 1) after
  one_passed c after e g = record {
    front = p.front ++ c ∷ [];
    whole = p.whole ∙ ap (λ r. p.front ++ r) e ∙ sym (append_assoc p.front (c ∷ []) after);
    size = length-append p.front (c ∷ []) ∙ ap (λ n. n + 1) p.size;
    so_far =
        p.so_far
        ∙ ap (λ r. field (p.front ++ (f r).value) (f r).rest) e
        ∙ ap (λ (x : Field). field (p.front ++ x.value) x.rest) g
        ∙ ap (λ v. field v (f after).rest) (sym (append_assoc p.front (c ∷ []) (f after).value));
  }

  cut_at : (front after : List ℕ) (n : ℕ) → bytes ≡ front ++ after → length front ≡ n → field front after ≡ field (take n bytes) (drop n bytes)
  cut_at front after n e size =
      let taken : take n bytes ≡ front = ap (λ k. take k bytes) (sym size) ∙ ap (take (length front)) e ∙ take-append_seam front after in
      let left : drop n bytes ≡ after = ap (λ k. drop k bytes) (sym size) ∙ ap (drop (length front)) e ∙ drop-append_seam front after in
      ap (λ v. field v after) (sym taken) ∙ ap (λ r. field (take n bytes) r) (sym left)

  -- one that ends it, and stands in it
  pub ends_with : (c : ℕ) (after : List ℕ) → rest ≡ c ∷ after → f (c ∷ after) ≡ field (c ∷ []) after → f bytes ≡ field (take (end + 1) bytes) (drop (end + 1) bytes)
  ends_with c after e g =
      p.so_far
      ∙ ap (λ r. field (p.front ++ (f r).value) (f r).rest) e
      ∙ ap (λ (x : Field). field (p.front ++ x.value) x.rest) g
      ∙ cut_at (p.front ++ c ∷ []) after (end + 1) (p.whole ∙ ap (λ r. p.front ++ r) e ∙ sym (append_assoc p.front (c ∷ []) after)) (length-append p.front (c ∷ []) ∙ ap (λ n. n + 1) p.size)

  -- one that ends it, or the end of the bytes
  pub ends_before : f rest ≡ field [] rest → f bytes ≡ field (take end bytes) (drop end bytes)
  ends_before g =
      p.so_far
      ∙ ap (λ (x : Field). field (p.front ++ x.value) x.rest) g
      ∙ ap (λ v. field v rest) (append-nil p.front)
      ∙ cut_at p.front rest end p.whole p.size
