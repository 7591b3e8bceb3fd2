-- The closing parenthesis of a field, found byte by byte.
use Rattle.std.proofs.Common.{◌≡◌, ◌∙◌, ap, sym, ℕ, ◌+◌, ◌-◌, ◌<◌, List, [], ◌∷◌, length, take, drop, get_or, true, false}
use Rattle.std.proofs.lemmas.List.{drop_more, take_rest}
use Rattle.dcm_lemmas.proofs.Choice.{if_false, if_true}
use Rattle.dcm_base.specs.Lines.Line.{field, with_front, through_parenthesis}
use Rattle.dcm_build.specs.LineShown.{is_closed}
use Rattle.dcm_build.proofs.Lines.Fields.{Passed, one_passed, ends_with}

module _ (bytes : List ℕ) (i : ℕ) (h : i < length bytes) (p : Passed through_parenthesis bytes i (drop i bytes)) where
  abbrev c : ℕ
  c = get_or bytes i 0

  abbrev after : List ℕ
  after = drop (i + 1) bytes

  here : drop i bytes ≡ c ∷ after
  here = drop_more bytes i 0 h

  -- as the slice from i on is told
  sliced : take (length bytes - i) (drop i bytes) ≡ c ∷ after
  sliced = take_rest bytes i ∙ here

  pub past_one : is_closed (take (length bytes - i) (drop i bytes)) ≡ false → Passed through_parenthesis bytes (i + 1) after
  past_one t = one_passed through_parenthesis bytes i (drop i bytes) p c after here (if_false (is_closed (c ∷ after)) (field (c ∷ []) after) (with_front c (through_parenthesis after)) (sym (ap is_closed sliced) ∙ t))

  pub at_closing : is_closed (take (length bytes - i) (drop i bytes)) ≡ true → through_parenthesis bytes ≡ field (take (i + 1) bytes) (drop (i + 1) bytes)
  at_closing t = ends_with through_parenthesis bytes i (drop i bytes) p c after here (if_true (is_closed (c ∷ after)) (field (c ∷ []) after) (with_front c (through_parenthesis after)) (sym (ap is_closed sliced) ∙ t))
