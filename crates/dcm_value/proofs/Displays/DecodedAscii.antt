-- A text by the default sets: each byte is a character of ASCII, or has none.
use Rattle.std.proofs.Common.{◌≡◌, ℕ, ◌+◌, ◌==◌, ◌&&◌, Bool, true, false, cond, List, [], ◌∷◌, Option, Some, None, map, ap, sym, ◌∙◌, refl, arith}
use Rattle.std.specs.Prelude.{nat_lt, nat_le, count_by}
use Rattle.std.proofs.lemmas.Bool.{false≢true, cases_Bool}
use Rattle.std.proofs.lemmas.Bool.Decides.{nat_tests}
use Rattle.std.proofs.lemmas.List.Sums.{sum_by-cons}
use mathlib.Core.Logic.{⊎_elim}
use Rattle.dcm_lemmas.proofs.Truth.{and_second_false}
use Rattle.dcm_base.specs.declared.vr.Vr.{Vr}
use Rattle.dcm_base.specs.declared.vr.Vr.TheVariants.{AE, AS, AT, CS, DA, DS, DT, FD, FL, IS, LO, LT, OB, OD, OF, OL, OV, OW, PN, SH, SL, SQ, SS, ST, SV, TM, UC, UI, UL, UN, UR, US, UT, UV}
use Rattle.dcm_base.specs.Dump.ValueText.{Shape, identifier, shape}
use Rattle.dcm_text.proofs.Whole.{same_behind}
use Rattle.dcm_text.specs.declared.set.Halves.{Halves}
use Rattle.dcm_text.specs.declared.set.Right.TheVariants as right
use Rattle.dcm_text.specs.declared.set.TextKind.{TextKind}
use Rattle.dcm_text.specs.declared.sets.Sets.{Sets}
use Rattle.dcm_text.specs.declared.first.Found.{Found}
use Rattle.dcm_text.specs.declared.form.Opening.{Opening}
use Rattle.dcm_text.specs.declared.form.Opening.TheVariants as opening
use Rattle.dcm_text.specs.Forms.{right_opening}
use Rattle.dcm_text.specs.First.{first_of, start_of, opening_of, opened, designated, designations, meaning_of}
use Rattle.dcm_text.specs.Sets.{sets_of, terms}
use Rattle.dcm_text.specs.Decoding.{Piece, decoded_from, decoded}
use Rattle.dcm_text.proofs.Pieces.{one_piece, found_some}
use Rattle.dcm_value.specs.Decoded.{is_backslash, backslashes}
use Rattle.dcm_value.specs.DecodedProgress.{is_named}

-- the sets of one that may have a name
pub named_is : (vr : Vr) (size : ℕ) → is_named vr size ≡ true → vr ≡ UI
named_is AE size e = absurd (false≢true e)
named_is AS size e = absurd (false≢true e)
named_is AT size e = absurd (false≢true e)
named_is CS size e = absurd (false≢true e)
named_is DA size e = absurd (false≢true e)
named_is DS size e = absurd (false≢true e)
named_is DT size e = absurd (false≢true e)
named_is FD size e = absurd (false≢true e)
named_is FL size e = absurd (false≢true e)
named_is IS size e = absurd (false≢true e)
named_is LO size e = absurd (false≢true e)
named_is LT size e = absurd (false≢true e)
named_is OB size e = absurd (false≢true e)
named_is OD size e = absurd (false≢true e)
named_is OF size e = absurd (false≢true e)
named_is OL size e = absurd (false≢true e)
named_is OV size e = absurd (false≢true e)
named_is OW size e = absurd (false≢true e)
named_is PN size e = absurd (false≢true e)
named_is SH size e = absurd (false≢true e)
named_is SL size e = absurd (false≢true e)
named_is SQ size e = absurd (false≢true e)
named_is SS size e = absurd (false≢true e)
named_is ST size e = absurd (false≢true e)
named_is SV size e = absurd (false≢true e)
named_is TM size e = absurd (false≢true e)
named_is UC size e = absurd (false≢true e)
named_is UI size e = refl
named_is UL size e = absurd (false≢true e)
named_is UN size e = absurd (false≢true e)
named_is UR size e = absurd (false≢true e)
named_is US size e = absurd (false≢true e)
named_is UT size e = absurd (false≢true e)
named_is UV size e = absurd (false≢true e)

-- by the form in which it is shown
abbrev pub is_identifier : Shape → Bool
is_identifier identifier = true
is_identifier _ = false

pub named_shape : (vr : Vr) (size : ℕ) → is_named vr size ≡ (is_identifier (shape vr) && nat_le size 64)
named_shape AE size = refl
named_shape AS size = refl
named_shape AT size = refl
named_shape CS size = refl
named_shape DA size = refl
named_shape DS size = refl
named_shape DT size = refl
named_shape FD size = refl
named_shape FL size = refl
named_shape IS size = refl
named_shape LO size = refl
named_shape LT size = refl
named_shape OB size = refl
named_shape OD size = refl
named_shape OF size = refl
named_shape OL size = refl
named_shape OV size = refl
named_shape OW size = refl
named_shape PN size = refl
named_shape SH size = refl
named_shape SL size = refl
named_shape SQ size = refl
named_shape SS size = refl
named_shape ST size = refl
named_shape SV size = refl
named_shape TM size = refl
named_shape UC size = refl
named_shape UI size = refl
named_shape UL size = refl
named_shape UN size = refl
named_shape UR size = refl
named_shape US size = refl
named_shape UT size = refl
named_shape UV size = refl

-- sets by which bytes from 80 on have no character, and nothing is designated
pub record IsDefault (sets : Sets) : Type 0 where
  pub start : sets.start ≡ right.Nothing
  pub alone : sets.extended ≡ false

pub default_none : IsDefault (sets_of [])
unfolding sets_of terms
default_none = record { start = refl; alone = refl }

-- the character of a byte
abbrev pub ascii : ℕ → Option ℕ
ascii b = cond (nat_lt b 0x80) (Some b) None

abbrev pub ascii_piece : ℕ → Piece
ascii_piece b = (b ∷ [], meaning_of (ascii b))

default_opening : (sets : Sets) (b : ℕ) → IsDefault sets → opening_of (start_of sets) b ≡ opening.Byte (ascii b)
default_opening sets b d = ap (λ r. cond (nat_lt b 0x80) (opening.Byte (Some b)) (right_opening r b)) d.start ∙ go (nat_lt b 0x80)
  where
    go : (t : Bool) → cond t (opening.Byte (Some b)) (opening.Byte None) ≡ opening.Byte (cond t (Some b) None)
    go true = refl
    go false = refl

abbrev default_found : Sets → ℕ → Found
default_found sets b = record { size = 1; meaning = meaning_of (ascii b); halves = start_of sets }

default_first : (sets : Sets) (kind : TextKind) (b : ℕ) (rest : List ℕ) → IsDefault sets
    → first_of sets kind (start_of sets) (b ∷ rest) ≡ Some (default_found sets b)
unfolding first_of
default_first sets kind b rest d =
    ap (λ (t : Bool). cond t (designated sets designations (start_of sets) rest) (opened (opening_of (start_of sets) b) sets kind (start_of sets) (b ∷ rest))) (and_second_false (b == 0x1B) sets.extended d.alone)
    ∙ ap (λ (o : Opening). opened o sets kind (start_of sets) (b ∷ rest)) (default_opening sets b d)
    ∙ ap (λ (h : Halves). let f : Found = record { size = 1; meaning = meaning_of (ascii b); halves = h } in Some f) (same_behind sets kind b)

default_from : (sets : Sets) (kind : TextKind) (text : List ℕ) → IsDefault sets → decoded_from sets kind (start_of sets) text ≡ map ascii_piece text
unfolding decoded_from
default_from sets kind [] d = refl
default_from sets kind (b ∷ rest) d =
    one_piece sets kind (start_of sets) (b ∷ rest) (default_found sets b)
    (found_some true sets kind (start_of sets) (b ∷ rest) (default_found sets b) (default_first sets kind b rest d))
    ∙ ap (λ (ps : List Piece). ascii_piece b ∷ ps) (default_from sets kind rest d)

pub default_decoded : (sets : Sets) (kind : TextKind) (text : List ℕ) → IsDefault sets → decoded sets kind text ≡ map ascii_piece text
unfolding decoded
default_decoded sets kind text d = default_from sets kind text d

-- a backslash is a byte 5C
ascii_backslash : (b : ℕ) → is_backslash (meaning_of (ascii b)) ≡ (b == 92)
ascii_backslash b = ⊎_elim below above (cases_Bool (nat_lt b 0x80))
  where
    below : nat_lt b 0x80 ≡ true → is_backslash (meaning_of (ascii b)) ≡ (b == 92)
    below e = ap (λ t. is_backslash (meaning_of (cond t (Some b) None))) e

    above : nat_lt b 0x80 ≡ false → is_backslash (meaning_of (ascii b)) ≡ (b == 92)
    above e = ap (λ t. is_backslash (meaning_of (cond t (Some b) None))) e ∙ sym (not_above e)
      where
        not_above : nat_lt b 0x80 ≡ false → (b == 92) ≡ false
        not_above e = grind (arith, nat_tests)

pub ascii_backslashes : (text : List ℕ) → backslashes (map ascii_piece text) ≡ count_by (λ b. b == 92) text
ascii_backslashes [] = refl
ascii_backslashes (b ∷ rest) =
    sum_by-cons (λ (p : Piece). cond (is_backslash p.1) 1 0) (ascii_piece b) (map ascii_piece rest)
    ∙ ap (λ t. cond t 1 0 + backslashes (map ascii_piece rest)) (ascii_backslash b)
    ∙ ap (λ n. cond (b == 92) 1 0 + n) (ascii_backslashes rest)
    ∙ sym (sum_by-cons (λ (x : ℕ). cond (x == 92) 1 0) b rest)

pub default_backslashes : (sets : Sets) (kind : TextKind) (text : List ℕ) → IsDefault sets → backslashes (decoded sets kind text) ≡ count_by (λ b. b == 92) text
default_backslashes sets kind text d = ap backslashes (default_decoded sets kind text d) ∙ ascii_backslashes text
