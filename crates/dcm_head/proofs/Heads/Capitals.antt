-- The letters of a value representation are capitals.
use Rattle.std.proofs.Common.{◌≡◌, ◌∙◌, ap, sym, refl, ℕ, List, [], ◌∷◌, Bool, true, false, cond, Option, Some, None}
use Rattle.std.specs.Prelude.{◌&&◌, find, option_map, bytes_eq, unwrap_or}
use Rattle.std.specs.List.{list_all}
use Rattle.std.proofs.lemmas.Slice.Eq.{bytes_eq-Decides}
use Rattle.dcm_lemmas.proofs.Truth.{and_first, and_second}
use Rattle.dcm_base.specs.declared.vr.Vr.{Vr}
use Rattle.dcm_base.specs.declared.vr.Vr.TheVariants.{UN}
use Rattle.dcm_base.specs.declared.vr.TheConstants.{LETTERS}
use Rattle.dcm_base.specs.Tables.Representation.{is_capital, vr_of, vr_read}

abbrev Row : Type 0
Row = Vr × List ℕ

abbrev are_capitals : List ℕ → Bool
are_capitals (a ∷ b ∷ []) = is_capital a && is_capital b
are_capitals _ = false

abbrev has_capitals : Row → Bool
has_capitals r = are_capitals r.1

here_or_there : (t : Bool) (l : List ℕ) (r : Row) (there : Option Row) (vr : Vr) → (t ≡ true → are_capitals l ≡ true) → (Some vr ≡ option_map (λ (x : Row). x.0) there → are_capitals l ≡ true)
    → Some vr ≡ option_map (λ (x : Row). x.0) (cond t (Some r) there) → are_capitals l ≡ true
here_or_there true l r there vr here more e = here refl
here_or_there false l r there vr here more e = more e

found : (l : List ℕ) (rows : List Row) (vr : Vr) → list_all has_capitals rows ≡ true → Some vr ≡ option_map (λ (x : Row). x.0) (find (λ (x : Row). bytes_eq x.1 l) rows) → are_capitals l ≡ true
found l [] vr all e = absurd (cc)
found l (r ∷ rows) vr all e =
    here_or_there (bytes_eq r.1 l) l r (find (λ (x : Row). bytes_eq x.1 l) rows) vr
    (λ t. ap are_capitals (sym ((bytes_eq-Decides r.1 l).0 t)) ∙ and_first _ _ all) (found l rows vr (and_second _ _ all)) e

all_capitals : list_all has_capitals LETTERS ≡ true
all_capitals = refl

capitals : (l : List ℕ) (vr : Vr) → Some vr ≡ vr_of l → are_capitals l ≡ true
unfolding vr_of
capitals l vr e = found l LETTERS vr all_capitals e

read_by : (t : Bool) (a b : ℕ) (o : Option Vr) → (is_capital a && is_capital b) ≡ t → vr_of (a ∷ b ∷ []) ≡ o → vr_read a b ≡ cond t (Some (unwrap_or o UN)) None
read_by t a b o e f =
    ap (λ (x : Bool). cond {A = Option Vr} x (Some (unwrap_or (vr_of (a ∷ b ∷ [])) UN)) None) e ∙ ap (λ (x : Option Vr). cond {A = Option Vr} t (Some (unwrap_or x UN)) None) f

-- letters that name a representation
pub named_read : (a b : ℕ) (vr : Vr) → Some vr ≡ vr_of (a ∷ b ∷ []) → Some vr ≡ vr_read a b
named_read a b vr e = sym (read_by true a b (Some vr) (capitals (a ∷ b ∷ []) vr e) (sym e))

-- letters that name none
pub unnamed_read : (a b : ℕ) (t : Bool) → (is_capital a && is_capital b) ≡ t → vr_of (a ∷ b ∷ []) ≡ None → vr_read a b ≡ cond t (Some UN) None
unnamed_read a b t e f = read_by t a b None e f
