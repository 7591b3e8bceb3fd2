-- The pieces of a whole value by Specific Character Set.
use Rattle.std.proofs.Common.{◌≡◌, ◌≤◌, ◌==◌, ◌+◌, ◌++◌, sym, ap, refl, ◌∙◌, Bool, List, [], ◌∷◌, ℕ, codes, cond, true, false, length, arith}
use Rattle.std.specs.Prelude.{count_by, nat_le}
use Rattle.std.specs.List.{list_all}
use Rattle.std.specs.Option.{option_map_or}
use Rattle.std.proofs.lemmas.Bool.{false≢true}
use Rattle.dcm_base.specs.declared.mode.Mode.{Mode}
use Rattle.dcm_base.specs.declared.vr.Vr.{Vr}
use Rattle.dcm_base.specs.Dump.ValueText.{is_single, padded, unpadded}
use Rattle.dcm_base.specs.Tables.Uid.{uid_name}
use Rattle.dcm_text.specs.declared.set.TextKind.{TextKind}
use Rattle.dcm_text.specs.declared.set.TextKind.TheVariants.{OneValue}
use Rattle.dcm_text.specs.Sets.{sets_of}
use Rattle.dcm_text.specs.declared.sets.Sets.{Sets}
use Rattle.dcm_text.specs.Decoding.{Piece, decoded}
use Rattle.dcm_text.specs.Shown.{dumped}
use Rattle.dcm_value.specs.Decoded.{backslashes}
use Rattle.dcm_value.specs.DecodedDisplay.{bracketed_pieces, decoded_display, decoded_count, decoded_text_of}
use Rattle.dcm_value.specs.DecodedProgress.{sets_for, kind_of, is_named, decoded_identified}
use Rattle.dcm_value.specs.Plain.{is_ascii_byte}
use Rattle.dcm_value.specs.WholeAscii.{ascii_shown}
use Rattle.dcm_value.proofs.Displays.DecodedAsBefore.{text_itself, text_counted, unpadded_counted}
use Rattle.dcm_value.proofs.Displays.DecodedShort.{shown_display, shown_count, same_text, same_count, not_cut, fits_in}

-- in brackets they are its display
pub pieces_display : (vr : Vr) (sets : Sets) (v : List ℕ) (pieces : List Piece) (s : Sets) (k : TextKind) (t : List ℕ)
    → (length v == 0) ≡ false → is_named vr (length v) ≡ false → pieces ≡ decoded s k t → s ≡ sets_for vr sets → k ≡ kind_of vr
    → t ≡ unpadded vr v → bracketed_pieces pieces ≡ decoded_display vr sets v
unfolding dumped
pieces_display vr sets v pieces s k t some text p e f g =
    ap bracketed_pieces p ∙ same_text s (sets_for vr sets) k (kind_of vr) t (unpadded vr v) e f g
    ∙ sym (shown_display vr sets v some text)

pub pieces_count : (vr : Vr) (sets : Sets) (v : List ℕ) (pieces : List Piece) (s : Sets) (k : TextKind) (t : List ℕ)
    → (length v == 0) ≡ false → pieces ≡ decoded s k t → s ≡ sets_for vr sets → k ≡ kind_of vr → t ≡ unpadded vr v
    → cond (is_single vr) 1 (1 + backslashes pieces) ≡ decoded_count vr sets v
pieces_count vr sets v pieces s k t some p e f g =
    ap (λ (n : ℕ). cond (is_single vr) 1 (1 + n))
    (ap backslashes p ∙ same_count s (sets_for vr sets) k (kind_of vr) t (unpadded vr v) e f g)
    ∙ sym (shown_count vr sets v some)

-- ---- a short value of plain ASCII is shown by its name or as it is

named_display : (vr : Vr) (sets : Sets) (v : List ℕ) → (length v == 0) ≡ false → is_named vr (length v) ≡ true → decoded_display vr sets v ≡ decoded_identified (unpadded vr v)
named_display vr sets [] some name = absurd (false≢true (sym some))
named_display vr sets (b ∷ bs) some name =
    let v : List ℕ = b ∷ bs in
    ap (λ t. cond t (decoded_identified (unpadded vr v)) (codes "[" ++ dumped (sets_for vr sets) (kind_of vr) (unpadded vr v) ++ codes "]")) name

module _ (vr : Vr) (sets : Sets) (v : List ℕ) (some : (length v == 0) ≡ false) (plain : list_all is_ascii_byte (unpadded vr v) ≡ true) where
  abbrev t : List ℕ
  t = unpadded vr v

  display : decoded_display vr sets v ≡ ascii_shown (is_named vr (length v)) (unpadded vr v)
  display = by_test (is_named vr (length v)) refl
    where
      by_test : (name : Bool) → is_named vr (length v) ≡ name → decoded_display vr sets v ≡ ascii_shown name (unpadded vr v)
      by_test true e =
          named_display vr sets v some e
          ∙ ap (λ (x : List ℕ). option_map_or (λ name. codes "=" ++ name) (uid_name t) (codes "[" ++ (x ++ codes "]"))) (text_itself (sets_of []) OneValue t plain)
      by_test false e =
          shown_display vr sets v some e
          ∙ ap (λ (x : List ℕ). codes "[" ++ (x ++ codes "]")) (text_itself (sets_for vr sets) (kind_of vr) t plain)

  pub ascii_text : (mode : Mode) → nat_le (length (ascii_shown (is_named vr (length v)) (unpadded vr v))) 66 ≡ true
      → padded (ascii_shown (is_named vr (length v)) (unpadded vr v)) ≡ decoded_text_of mode vr sets v
  ascii_text mode short =
      let few : length (decoded_display vr sets v) ≤ 66 = omega (arith, ap length display, fits_in (length (ascii_shown (is_named vr (length v)) t)) short) in
      ap padded (sym (not_cut mode (decoded_display vr sets v) few ∙ display))

  pub ascii_count : cond (is_single vr) 1 (1 + count_by (λ b. b == 92) v) ≡ decoded_count vr sets v
  ascii_count =
      sym (shown_count vr sets v some
      ∙ ap (λ (n : ℕ). cond (is_single vr) 1 (1 + n)) (text_counted (sets_for vr sets) (kind_of vr) t plain ∙ unpadded_counted vr v))

-- one without bytes
pub none_text : (mode : Mode) (vr : Vr) (sets : Sets) (v : List ℕ) → length v ≡ 0 → padded (codes "(no value available)") ≡ decoded_text_of mode vr sets v
none_text mode vr sets [] e = ap padded (sym (not_cut mode (codes "(no value available)") (omega arith)))
none_text mode vr sets (b ∷ bs) e = absurd (omega (arith, e))

pub none_count : (vr : Vr) (sets : Sets) (v : List ℕ) → length v ≡ 0 → 0 ≡ decoded_count vr sets v
none_count vr sets [] e = refl
none_count vr sets (b ∷ bs) e = absurd (omega (arith, e))
