-- What the line of a text shows in a dump by characters.
use Rattle.std.proofs.Common.{◌≡◌, ◌∙◌, ap, sym, refl, ℕ, ◌+◌, List, [], ◌∷◌, ◌++◌, append_assoc, length, Bool, true, false, if◌then◌else◌}
use Rattle.std.specs.Prelude.{codes}
use Rattle.dcm_base.specs.declared.tag.Tag.{Tag}
use Rattle.dcm_base.specs.declared.vr.Vr.{Vr}
use Rattle.dcm_base.specs.declared.vr.Vr.TheVariants.{LO, LT, PN, SH, ST, UC, UT}
use Rattle.dcm_base.specs.declared.mode.Mode.{Mode}
use Rattle.dcm_base.specs.declared.mode.Mode.TheVariants.{Full}
use Rattle.dcm_base.specs.declared.length.Length.TheVariants.{Known, Undefined}
use Rattle.dcm_base.specs.declared.dictionary.Dictionary.{Dictionary}
use Rattle.dcm_base.specs.Tables.Representation.{letters}
use Rattle.dcm_base.specs.Tree.Tree.{Trees, no_tree, leaf, sequence, fragments, then_trees}
use Rattle.dcm_base.specs.Dump.Dump.{line, leaf_line, fragment_lines, sequence_line, sequence_end_line}
use Rattle.dcm_base.specs.Dump.ValueText.{unpadded}
use Rattle.dcm_sinks.proofs.DecodedDumps.PlainTexts.{line_of_ascii as text_of_ascii}
use Rattle.dcm_text.specs.declared.sets.Sets.{Sets}
use Rattle.dcm_text.specs.Shown.{dumped}
use Rattle.dcm_text.proofs.Displays.{utf8_dump}
use Rattle.dcm_value.specs.DecodedDisplay.{decoded_count}
use Rattle.dcm_value.specs.DecodedProgress.{decoded_identified, is_concerned, is_named, kind_of, sets_for}
use Rattle.dcm_sinks.specs.InForce.{set_by, sets_after}
use Rattle.dcm_sinks.specs.DecodedDump.{is_decoded, text_line, decoded_line, decoded_set, decoded_items}
use Rattle.dcm_text_laws.specs.ShownLines.{DisplayOfUtf8, IsShownAsItIs, LineOfAscii, LineOfAsciiAmongOthers, LineOfUtf8}

-- ---- ASCII

pub line_of_ascii : LineOfAscii
line_of_ascii d mode sets level tag vr v plain = by_test (is_decoded vr) refl
  where
    by_test : (t : Bool) → is_decoded vr ≡ t → (if t then text_line d mode sets level tag vr v else leaf_line d mode level tag vr v) ≡ leaf_line d mode level tag vr v
    by_test true is = text_of_ascii d mode sets level tag vr v is plain
    by_test false is = refl

-- elements and then others
module _ (d : Dictionary) (mode : Mode) (level : ℕ) (others : Trees) where
  behind : (a b : List ℕ) (now : Sets) (whole : List ℕ) → whole ≡ b ++ decoded_set d mode now level others → a ++ whole ≡ (a ++ b) ++ decoded_set d mode now level others
  behind a b now whole e = ap (λ (z : List ℕ). a ++ z) e ∙ sym (append_assoc a b (decoded_set d mode now level others))

  set_then : (sets : Sets) (x : Trees) → decoded_set d mode sets level (then_trees x others) ≡ decoded_set d mode sets level x ++ decoded_set d mode (sets_after sets x) level others
  unfolding decoded_set sets_after
  set_then sets no_tree = refl
  set_then sets (leaf tag vr v rest) =
      behind (decoded_line d mode sets level tag vr v) (decoded_set d mode (set_by tag vr v sets) level rest) (sets_after (set_by tag vr v sets) rest) _ (set_then (set_by tag vr v sets) rest)
  set_then sets (sequence tag vr declared items rest) =
      behind ((sequence_line d level tag vr declared ++ decoded_items d mode sets (level + 1) items) ++ sequence_end_line d level declared) (decoded_set d mode sets level rest) (sets_after sets rest) _ (set_then sets rest)
  set_then sets (fragments tag vr values rest) =
      behind (fragment_lines d mode level tag vr values ++ sequence_end_line d level Undefined) (decoded_set d mode sets level rest) (sets_after sets rest) _ (set_then sets rest)

leaf_first : (d : Dictionary) (mode : Mode) (sets : Sets) (level : ℕ) (tag : Tag) (vr : Vr) (v : List ℕ) (rest : Trees)
    → decoded_set d mode sets level (leaf tag vr v rest) ≡ decoded_line d mode sets level tag vr v ++ decoded_set d mode (set_by tag vr v sets) level rest
unfolding decoded_set
leaf_first d mode sets level tag vr v rest = refl

pub line_among_others : LineOfAsciiAmongOthers
line_among_others d mode sets level before rest tag vr v plain =
    let now : Sets = sets_after sets before in
    let last : List ℕ = decoded_set d mode (set_by tag vr v now) level rest in
    let first : List ℕ = decoded_set d mode sets level before in
    set_then d mode level (leaf tag vr v rest) sets before
    ∙ ap (λ (z : List ℕ). first ++ z) (leaf_first d mode now level tag vr v rest)
    ∙ ap (λ (z : List ℕ). first ++ (z ++ last)) (line_of_ascii d mode now level tag vr v plain)
    ∙ sym (append_assoc first (leaf_line d mode level tag vr v) last)

-- ---- UTF-8

concerned_unnamed : (vr : Vr) (size : ℕ) → is_concerned vr ≡ true → is_named vr size ≡ false
concerned_unnamed LO size e = refl
concerned_unnamed LT size e = refl
concerned_unnamed PN size e = refl
concerned_unnamed SH size e = refl
concerned_unnamed ST size e = refl
concerned_unnamed UC size e = refl
concerned_unnamed UT size e = refl
concerned_unnamed _ size e = absurd (cc)

concerned_decoded : (vr : Vr) → is_concerned vr ≡ true → is_decoded vr ≡ true
concerned_decoded LO e = refl
concerned_decoded LT e = refl
concerned_decoded PN e = refl
concerned_decoded SH e = refl
concerned_decoded ST e = refl
concerned_decoded UC e = refl
concerned_decoded UT e = refl
concerned_decoded _ e = absurd (cc)

concerned_sets : (vr : Vr) (sets : Sets) → is_concerned vr ≡ true → sets_for vr sets ≡ sets
concerned_sets LO sets e = refl
concerned_sets LT sets e = refl
concerned_sets PN sets e = refl
concerned_sets SH sets e = refl
concerned_sets ST sets e = refl
concerned_sets UC sets e = refl
concerned_sets UT sets e = refl
concerned_sets _ sets e = absurd (cc)

-- the text of a value that is shown in brackets
brackets : (vr : Vr) (sets : Sets) (v characters : List ℕ) → IsShownAsItIs sets vr v characters
    → (if is_named vr (length v) then decoded_identified (unpadded vr v) else codes "[" ++ dumped (sets_for vr sets) (kind_of vr) (unpadded vr v) ++ codes "]") ≡ codes "[" ++ unpadded vr v ++ codes "]"
brackets vr sets v characters (in_force, concerned, some, is, scalars, shown) =
    let t : List ℕ = unpadded vr v in
    ap (λ (b : Bool). if b then decoded_identified t else codes "[" ++ dumped (sets_for vr sets) (kind_of vr) t ++ codes "]") (concerned_unnamed vr (length v) concerned)
    ∙ ap (λ (s : Sets). codes "[" ++ dumped s (kind_of vr) t ++ codes "]") (concerned_sets vr sets concerned)
    ∙ ap (λ (x : List ℕ). codes "[" ++ dumped sets (kind_of vr) x ++ codes "]") is
    ∙ ap (λ (x : List ℕ). codes "[" ++ x ++ codes "]") (utf8_dump sets (kind_of vr) characters in_force scalars shown)
    ∙ ap (λ (x : List ℕ). codes "[" ++ x ++ codes "]") (sym is)

pub display_of_utf8 : DisplayOfUtf8
display_of_utf8 sets vr [] characters (in_force, concerned, some, is, scalars, shown) = absurd (some refl)
display_of_utf8 sets vr (b ∷ bs) characters h = brackets vr sets (b ∷ bs) characters h

pub line_of_utf8 : LineOfUtf8
line_of_utf8 d sets level tag vr v characters h =
    ap (λ (b : Bool). if b then text_line d Full sets level tag vr v else leaf_line d Full level tag vr v) (concerned_decoded vr h.1)
    ∙ ap (λ (x : List ℕ). line d level tag (letters vr) x (Known (length v)) (decoded_count vr sets v)) (display_of_utf8 sets vr v characters h)
