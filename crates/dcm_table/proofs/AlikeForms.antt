-- Texts that are written alike in each form.
use Rattle.std.proofs.Common.{◌≡◌, ◌∙◌, sym, ap, refl, ℕ, ◌<◌, List, [], ◌∷◌, length, Bool, true, false, arith, Option, Some, None}
use Rattle.std.specs.Prelude.{nat_lt, ◌==◌, not, encode_utf8_all, IsUtf8, IsAscii}
use Rattle.std.specs.List.{list_all}
use Rattle.std.specs.Str.{all_scalars}
use Rattle.std.specs.Str.Lossy.{utf8_valid_len}
use Rattle.std.proofs.lemmas.Bool.Decides.{nat_tests}
use Rattle.std.proofs.lemmas.Str.{IsUtf8-from_ascii, utf8_valid_len-IsUtf8}
use Rattle.std.proofs.lemmas.Str.Ascii.{IsAscii-nil, IsAscii-cons}
use Rattle.dcm_lemmas.proofs.Numbers.{equal_is_true}
use Rattle.dcm_lemmas.proofs.Choice.{if_true}
use Rattle.dcm_lemmas.proofs.Truth.{and_first, and_second}
use Rattle.dcm_base.specs.declared.vr.Vr.{Vr}
use Rattle.dcm_base.specs.Tables.Transfer.{without_pads}
use Rattle.dcm_text.specs.declared.set.TextKind.{TextKind}
use Rattle.dcm_text.specs.declared.sets.Sets.{Sets}
use Rattle.dcm_text.specs.First.{is_escape}
use Rattle.dcm_text.specs.Laws.{IsUtf8InForce, is_plain}
use Rattle.dcm_text.specs.Shown.{cell}
use Rattle.dcm_text.proofs.Displays.{ascii_cell, utf8_cell}
use Rattle.dcm_table.specs.declared.quoted.TextForm.{TextForm}
use Rattle.dcm_table.specs.declared.quoted.TextForm.TheVariants.{ValidUtf8, AsItIs, Decoded}
use Rattle.dcm_table.specs.Cell.{whole}
use Rattle.dcm_table.specs.Parts.{some_bytes}
use Rattle.dcm_table.specs.Quoted.{quoted, valid_utf8}
use Rattle.dcm_table.specs.Row.{cell_parts, decoded_kind, is_quoted_text, text_by, value_parts}

-- ---- valid UTF-8 has no byte that is escaped

pub valid_stays : (text : List ℕ) → IsUtf8 text → valid_utf8 text ≡ text
unfolding valid_utf8
valid_stays [] h = refl
valid_stays (b ∷ text) h =
    if_true (utf8_valid_len (b ∷ text) == length (b ∷ text)) (b ∷ text) _ (equal_is_true (utf8_valid_len (b ∷ text)) (length (b ∷ text)) (utf8_valid_len-IsUtf8 (b ∷ text) h))

-- ---- texts

abbrev CellIsSame : Sets → List ℕ → Type 0
CellIsSame sets text = (kind : TextKind) → cell sets kind text ≡ text

by_kind : (kind : Option TextKind) (form : TextForm) (sets : Sets) (text : List ℕ) → IsUtf8 text → CellIsSame sets text → text_by kind form sets text ≡ text
by_kind (Some kind) form sets text h same = same kind
by_kind None ValidUtf8 sets text h same = valid_stays text h
by_kind None AsItIs sets text h same = refl
by_kind None Decoded sets text h same = valid_stays text h

by_quotes : (t : Bool) (form other : TextForm) (sets : Sets) (vr : Vr) (value : List ℕ) → IsUtf8 (without_pads value) → CellIsSame sets (without_pads value) → value_parts t form sets vr value ≡ value_parts t other sets vr value
by_quotes true form other sets vr value h same =
    let text : List ℕ = without_pads value in
    ap (λ (x : List ℕ). some_bytes (quoted x) ∷ [])
    (by_kind (decoded_kind form vr) form sets text h same ∙ sym (by_kind (decoded_kind other vr) other sets text h same))
by_quotes false form other sets vr value h same = refl

-- ---- ASCII

below : (n m : ℕ) → nat_lt n m ≡ true → n < m
below n m e = grind (arith, nat_tests)

plain_ascii : (sets : Sets) (text : List ℕ) → list_all (is_plain sets) text ≡ true → IsAscii text
plain_ascii sets [] e = IsAscii-nil
plain_ascii sets (b ∷ text) e =
    IsAscii-cons b text (below b 0x80 (and_first (nat_lt b 0x80) (not (is_escape sets b)) (and_first (is_plain sets b) (list_all (is_plain sets) text) e)))
    (plain_ascii sets text (and_second (is_plain sets b) (list_all (is_plain sets) text) e))

pub ascii_alike : (form other : TextForm) (sets : Sets) (shown : Vr) (value : List ℕ) → list_all (is_plain sets) (without_pads value) ≡ true → cell_parts form sets (whole shown value) ≡ cell_parts other sets (whole shown value)
ascii_alike form other sets shown value e =
    by_quotes (is_quoted_text shown) form other sets shown value (IsUtf8-from_ascii (without_pads value) (plain_ascii sets (without_pads value) e))
    (λ kind. ascii_cell sets kind (without_pads value) e)

-- ---- UTF-8

pub utf8_alike : (form other : TextForm) (sets : Sets) (shown : Vr) (value text : List ℕ) → IsUtf8InForce sets → all_scalars text ≡ true → without_pads value ≡ encode_utf8_all text
    → cell_parts form sets (whole shown value) ≡ cell_parts other sets (whole shown value)
utf8_alike form other sets shown value text force scalar is =
    by_quotes (is_quoted_text shown) form other sets shown value (text, (scalar, sym is))
    (λ kind. ap (cell sets kind) is ∙ utf8_cell sets kind text force scalar ∙ sym is)
