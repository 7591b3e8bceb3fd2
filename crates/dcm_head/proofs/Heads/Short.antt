-- A head with a length of two bytes.
use Rattle.std.proofs.Common.{◌≡◌, ◌∙◌, ap, sym, refl, ℕ, ◌≤◌, List, length, drop, get_or, Bool, false, Some}
use Rattle.std.specs.Prelude.{◌==◌, ◌&&◌, ◌||◌, not}
use Rattle.dcm_base.specs.declared.tag.Tag.{Tag}
use Rattle.dcm_base.specs.declared.vr.Vr.{Vr}
use Rattle.dcm_base.specs.declared.syntax.Syntax.TheVariants.{Little as little_in}
use Rattle.dcm_base.specs.declared.dictionary.Dictionary.{Dictionary}
use Rattle.dcm_base.specs.declared.length.Length.TheVariants.{Known}
use Rattle.dcm_base.specs.Tables.Number.{number}
use Rattle.dcm_base.specs.Tables.Tag.{is_item}
use Rattle.dcm_base.specs.Tables.Representation.{vr_read, is_long}
use Rattle.dcm_base.specs.Bytes.Head.{tag_at}
use Rattle.dcm_head.specs.HeadRead.{is_delimiter, tag_read, BeginsShort}
use Rattle.dcm_head.proofs.Heads.Explicit.{vr_is, size_is, length_is}
use Rattle.dcm_head.proofs.Heads.Reads.{by_tests, element_whole}

pub no_item : (tag : Tag) → (tag.group == 0xFFFE) ≡ false → is_item tag ≡ false
no_item tag g = ap (λ (x : Bool). x && (tag.element == 0xE000)) g

pub no_delimiter : (tag : Tag) → (tag.group == 0xFFFE) ≡ false → is_delimiter tag ≡ false
no_delimiter tag g = ap (λ (x : Bool). (x && (tag.element == 0xE00D)) || (x && (tag.element == 0xE0DD))) g

-- what is read where the groups are others, and the letters are those of a short representation
pub begins_short : (d : Dictionary) (b : List ℕ) (tag : Tag) (vr : Vr) (n : ℕ) → 8 ≤ length b → tag ≡ tag_at (little_in d) b → (tag.group == 0xFFFE) ≡ false → (tag.group == 2) ≡ false
    → Some vr ≡ vr_read (get_or b 4 0) (get_or b 5 0) → is_long vr ≡ false → n ≡ number (little_in d) 2 (drop 6 b) → BeginsShort (little_in d) b (record { tag = tag; vr = vr; length = Known n })
begins_short d b tag vr n eight at item meta letters short size =
    let s = little_in d in
    let others = by_tests s b tag false false (no_item tag item) (no_delimiter tag item) in
    let whole = element_whole s b _ tag vr (Known n) 8 (sym (vr_is s b (Some vr) refl letters)) (size_is s vr false refl short) eight at (ap Known size ∙ sym (length_is s vr false b refl short)) in
    record {
      read = sym whole ∙ sym others ∙ ap (tag_read s b) at;
      tag_is = at;
      of_data = ap (λ (x : Bool). not x && not (tag.group == 2)) item ∙ ap (λ (x : Bool). not x) meta;
      short = short;
      known = (n, refl);
    }
