-- The text of a cell is what a dump shows of its value.
use Rattle.std.proofs.Common.{◌≡◌, ◌∙◌, ap, sym, refl, ℕ, ◌-◌, ◌%◌, ◌≤◌, List, [], ◌∷◌, length, take, Bool, true, false, get_or, Some, None, arith, codes}
use Rattle.std.specs.Prelude.{◌==◌, ◌&&◌, nat_le, slice_index, if◌then◌else◌}
use Rattle.std.proofs.lemmas.Bool.Decides.{nat_tests}
use Rattle.std.proofs.lemmas.List.{take_all}
use Rattle.std.proofs.lemmas.Slice.Eq.{bytes_eq-Decides}
use Rattle.dcm_deid.proofs.Trees.Instances.{text_pads}
use Rattle.dcm_lemmas.proofs.Numbers.{equal_numbers}
use Rattle.dcm_lemmas.proofs.Truth.{and_second}
use Rattle.dcm_base.specs.declared.syntax.Syntax.{Syntax}
use Rattle.dcm_base.specs.declared.tag.Tag.{Tag}
use Rattle.dcm_base.specs.declared.vr.Vr.{Vr}
use Rattle.dcm_base.specs.declared.vr.Vr.TheVariants.{AE, AS, CS, DA, DS, DT, IS, LO, LT, PN, SH, ST, TM, UC, UI, UR, UT}
use Rattle.dcm_base.specs.Dump.ValueText.{bracketed, display, identified, unpadded}
use Rattle.dcm_base.specs.Lines.ReadValue.{◌>>=◌, is_no_value, text_value, uid_value, value_of_text, within_limit}
use Rattle.dcm_base.specs.Tables.Number.{AreBytes}
use Rattle.dcm_base.specs.Tables.Representation.{is_text, pad}
use Rattle.dcm_base.specs.Tables.Transfer.{is_pad, without_pads}
use Rattle.dcm_head.proofs.MetaGroups.Transfers.{pads_taken}
use Rattle.dcm_value.proofs.Displays.Wholes.{unpadded_within}
use Rattle.dcm_value.proofs.ReadBack.Texts.{text_back, uid_back}
use Rattle.dcm_text.specs.declared.sets.Sets.{Sets}
use Rattle.dcm_table.specs.declared.quoted.TextForm.TheVariants.{AsItIs}
use Rattle.dcm_table.specs.Cell.{too_long, whole}
use Rattle.dcm_table.specs.Parts.{some_bytes}
use Rattle.dcm_table.specs.Quoted.{quoted}
use Rattle.dcm_table.specs.Row.{cell_parts, is_quoted_text, value_parts}
use Rattle.dcm_table.specs.Shown.{leaf_cell}
use Rattle.dcm_value.proofs.ReadBack.Values.{unpadded_bytes}

-- ---- pads

abbrev drops_pad : Vr → List ℕ → Bool
drops_pad vr v = length v % 2 == 0 && slice_index v (length v - 1) == pad vr

-- the pad byte that a dump leaves out is left out of a cell
pads_same : (vr : Vr) (b : ℕ) (v : List ℕ) → without_pads (unpadded vr (b ∷ v)) ≡ without_pads (b ∷ v)
pads_same vr b v = by_test (drops_pad vr (b ∷ v)) refl
  where
    by_test : (t : Bool) → drops_pad vr (b ∷ v) ≡ t → without_pads (if t then take (length (b ∷ v) - 1) (b ∷ v) else (b ∷ v)) ≡ without_pads (b ∷ v)
    by_test false e = refl
    by_test true e =
        let same : slice_index (b ∷ v) (length (b ∷ v) - 1) ≡ pad vr = equal_numbers _ _ (and_second (length (b ∷ v) % 2 == 0) (slice_index (b ∷ v) (length (b ∷ v) - 1) == pad vr) e) in
        let padded : is_pad (get_or (b ∷ v) (length (b ∷ v) - 1) 0) ≡ true = ap is_pad same ∙ text_pads (is_text vr) in
        sym (pads_taken (b ∷ v) (length (b ∷ v)) (omega arith) (omega arith) padded) ∙ ap without_pads (take_all (length (b ∷ v)) (b ∷ v) (omega arith))

-- ---- what a text reads as

fits : (v : List ℕ) → length v ≤ 16384 → within_limit v ≡ Some v
fits v short = by_test (nat_le (length v) 65536) (grind (arith, nat_tests, short))
  where
    by_test : (t : Bool) → t ≡ true → (if t then Some v else None) ≡ Some v
    by_test true e = refl
    by_test false e = absurd (cc)

text_read : (v : List ℕ) → AreBytes v → length v ≤ 16384 → (if is_no_value (bracketed v) then Some [] else (text_value (bracketed v) >>= within_limit)) ≡ Some v
text_read v bytes short = ap (λ o. o >>= within_limit) (text_back v bytes) ∙ fits v short

uid_read : (v : List ℕ) → AreBytes v → length v ≤ 16384 → (if is_no_value (identified v) then Some [] else (uid_value (identified v) >>= within_limit)) ≡ Some v
uid_read v bytes short = by_test (is_no_value (identified v)) refl
  where
    by_test : (t : Bool) → is_no_value (identified v) ≡ t → (if t then Some [] else (uid_value (identified v) >>= within_limit)) ≡ Some v
    by_test true e =
        let same : identified v ≡ codes "(no value available)" = (bytes_eq-Decides (identified v) (codes "(no value available)")).0 e in
        let no : Some v ≡ None = sym (uid_back v bytes) ∙ ap uid_value same in
        absurd (cc)
    by_test false e = ap (λ o. o >>= within_limit) (uid_back v bytes) ∙ fits v short

abbrev Reads : Vr → List ℕ → Type 0
Reads vr v = value_of_text vr (display vr v) ≡ Some (unpadded vr v)

module _ (vr : Vr) (b : ℕ) (v : List ℕ) (bytes : AreBytes (b ∷ v)) (short : length (b ∷ v) ≤ 16384) where
  abbrev kept : List ℕ
  kept = unpadded vr (b ∷ v)

  kept_short : length kept ≤ 16384
  kept_short = let less = unpadded_within vr (b ∷ v) in omega (arith, less, short)

  of_text : (if is_no_value (bracketed kept) then Some [] else (text_value (bracketed kept) >>= within_limit)) ≡ Some kept
  of_text = text_read kept (unpadded_bytes vr (b ∷ v) bytes) kept_short

  of_uid : (if is_no_value (identified kept) then Some [] else (uid_value (identified kept) >>= within_limit)) ≡ Some kept
  of_uid = uid_read kept (unpadded_bytes vr (b ∷ v) bytes) kept_short

some_read : (vr : Vr) (b : ℕ) (v : List ℕ) → is_quoted_text vr ≡ true → AreBytes (b ∷ v) → length (b ∷ v) ≤ 16384 → Reads vr (b ∷ v)
some_read UI b v q bytes short = of_uid UI b v bytes short
some_read AE b v q bytes short = of_text AE b v bytes short
some_read AS b v q bytes short = of_text AS b v bytes short
some_read CS b v q bytes short = of_text CS b v bytes short
some_read DA b v q bytes short = of_text DA b v bytes short
some_read DS b v q bytes short = of_text DS b v bytes short
some_read DT b v q bytes short = of_text DT b v bytes short
some_read IS b v q bytes short = of_text IS b v bytes short
some_read LO b v q bytes short = of_text LO b v bytes short
some_read LT b v q bytes short = of_text LT b v bytes short
some_read PN b v q bytes short = of_text PN b v bytes short
some_read SH b v q bytes short = of_text SH b v bytes short
some_read ST b v q bytes short = of_text ST b v bytes short
some_read TM b v q bytes short = of_text TM b v bytes short
some_read UC b v q bytes short = of_text UC b v bytes short
some_read UR b v q bytes short = of_text UR b v bytes short
some_read UT b v q bytes short = of_text UT b v bytes short
some_read _ b v q bytes short = absurd (cc)

none_read : (vr : Vr) → is_quoted_text vr ≡ true → value_of_text vr (display vr []) ≡ Some []
none_read UI q = refl
none_read AE q = refl
none_read AS q = refl
none_read CS q = refl
none_read DA q = refl
none_read DS q = refl
none_read DT q = refl
none_read IS q = refl
none_read LO q = refl
none_read LT q = refl
none_read PN q = refl
none_read SH q = refl
none_read ST q = refl
none_read TM q = refl
none_read UC q = refl
none_read UR q = refl
none_read UT q = refl
none_read _ q = absurd (cc)

-- ---- cells

quoted_cell : (sets : Sets) (vr : Vr) (value kept : List ℕ) (t : Bool) → t ≡ true → without_pads kept ≡ without_pads value → value_parts t AsItIs sets vr value ≡ some_bytes (quoted (without_pads kept)) ∷ []
quoted_cell sets vr value kept true e same = ap (λ (bytes : List ℕ). some_bytes (quoted bytes) ∷ []) (sym same)
quoted_cell sets vr value kept false e same = absurd (cc)

-- the cell of a leaf that is a text is that text
short_cell : (vr : Vr) (value : List ℕ) → length value ≤ 16384 → (if nat_le (length value) 16384 then whole vr value else too_long) ≡ whole vr value
short_cell vr value short = by_test (nat_le (length value) 16384) (grind (arith, nat_tests, short))
  where
    by_test : (t : Bool) → t ≡ true → (if t then whole vr value else too_long) ≡ whole vr value
    by_test true e = refl
    by_test false e = absurd (cc)

leaf_is : (s : Syntax) (tag : Tag) (vr : Vr) (value : List ℕ) → is_quoted_text vr ≡ true → length value ≤ 16384 → leaf_cell s tag vr value ≡ whole vr value
leaf_is s tag UI value q short = short_cell UI value short
leaf_is s tag AE value q short = short_cell AE value short
leaf_is s tag AS value q short = short_cell AS value short
leaf_is s tag CS value q short = short_cell CS value short
leaf_is s tag DA value q short = short_cell DA value short
leaf_is s tag DS value q short = short_cell DS value short
leaf_is s tag DT value q short = short_cell DT value short
leaf_is s tag IS value q short = short_cell IS value short
leaf_is s tag LO value q short = short_cell LO value short
leaf_is s tag LT value q short = short_cell LT value short
leaf_is s tag PN value q short = short_cell PN value short
leaf_is s tag SH value q short = short_cell SH value short
leaf_is s tag ST value q short = short_cell ST value short
leaf_is s tag TM value q short = short_cell TM value short
leaf_is s tag UC value q short = short_cell UC value short
leaf_is s tag UR value q short = short_cell UR value short
leaf_is s tag UT value q short = short_cell UT value short
leaf_is s tag _ value q short = absurd (cc)

value_shown : (vr : Vr) (value : List ℕ) (sets : Sets) → is_quoted_text vr ≡ true → AreBytes value → length value ≤ 16384
    → (read : List ℕ) × (value_of_text vr (display vr value) ≡ Some read) × (cell_parts AsItIs sets (whole vr value) ≡ some_bytes (quoted (without_pads read)) ∷ [])
value_shown vr [] sets q bytes short = ([], none_read vr q, quoted_cell sets vr [] [] (is_quoted_text vr) q refl)
value_shown vr (b ∷ v) sets q bytes short = (unpadded vr (b ∷ v), some_read vr b v q bytes short, quoted_cell sets vr (b ∷ v) (unpadded vr (b ∷ v)) (is_quoted_text vr) q (pads_same vr b v))

pub cell_shown : (s : Syntax) (tag : Tag) (vr : Vr) (value : List ℕ) (sets : Sets) → is_quoted_text vr ≡ true → AreBytes value → length value ≤ 16384
    → (read : List ℕ) × (value_of_text vr (display vr value) ≡ Some read) × (cell_parts AsItIs sets (leaf_cell s tag vr value) ≡ some_bytes (quoted (without_pads read)) ∷ [])
cell_shown s tag vr value sets q bytes short =
    let x = value_shown vr value sets q bytes short in
    (x.0, x.1, ap (cell_parts AsItIs sets) (leaf_is s tag vr value q short) ∙ x.2)
