-- The first element of a group's bytes.
use Rattle.std.proofs.Common.{◌≡◌, ◌∙◌, ◌+◌, ◌≤◌, List, [], ◌++◌, length, take, drop, ℕ, refl, ap, sym, subst, arith, length-drop}
use Rattle.std.proofs.lemmas.List.{take_at, drop_at, drop-drop, drop-take, length-take}
use Rattle.dcm_base.specs.declared.tag.Tag.{Tag}
use Rattle.dcm_base.specs.declared.vr.Vr.{Vr}
use Rattle.dcm_base.specs.Tables.Syntax.{Little}
use Rattle.dcm_base.specs.Tree.Tree.{Trees, no_tree, leaf, sequence, fragments}
use Rattle.dcm_base.specs.Bytes.Head.{head_size}
use Rattle.dcm_base.specs.Bytes.Spelling.{Spells}
use Rattle.dcm_base.proofs.DataSets.Heads.{eight_le_head_size}
use Rattle.dcm_base.specs.File.MetaGroup.{an_element, the_end}
use Rattle.dcm_base.specs.File.MetaGroup.{group_place, AreMeta}
use Rattle.dcm_head.specs.Rewriting.{FirstIs, NoneIs}
use Rattle.dcm_head.proofs.MetaGroups.Places.{at_empty}
use Rattle.dcm_head.proofs.MetaGroups.Elements.{element_tells, element_is}
use Rattle.dcm_head.proofs.MetaGroups.OneGroup.{first_leaf, leaf_is, leaf_size, empty_spelled, meta_first, not_meta_sequence, not_meta_fragments}

-- a first leaf is told as an element
first_told : (tag : Tag) (vr : Vr) (value : List ℕ) (rest : Trees) (bytes : List ℕ) → length bytes ≤ 16384 → Spells Little (leaf tag vr value rest) bytes → AreMeta (leaf tag vr value rest)
    → group_place 0 bytes ≡ an_element tag vr (head_size Little vr) (length value)
first_told tag vr value rest bytes le s m =
    let f = first_leaf tag vr value rest bytes [] s in
    let size = leaf_size tag vr value bytes f.0 f.1 in
    element_is 0 bytes tag vr (head_size Little vr) (length value) (leaf_is 0 tag vr value bytes f.0 f.1 (meta_first tag vr value rest m).0 (omega arith))

pub none_is : (bytes : List ℕ) → length bytes ≤ 16384 → ((tag : Tag) (vr : Vr) (head size : ℕ) → group_place 0 bytes ≡ an_element tag vr head size → ⊥) → NoneIs bytes
none_is bytes le never no_tree s m = refl
none_is bytes le never (leaf tag vr value rest) s m = absurd (never tag vr (head_size Little vr) (length value) (first_told tag vr value rest bytes le s m))
none_is bytes le never (sequence tag vr declared items rest) s m = absurd (not_meta_sequence tag vr declared items rest m)
none_is bytes le never (fragments tag vr values rest) s m = absurd (not_meta_fragments tag vr values rest m)

next_is : (bytes : List ℕ) (tag : Tag) (vr : Vr) (head size : ℕ) (elements : Trees) → length bytes ≤ 16384 → group_place 0 bytes ≡ an_element tag vr head size → Spells Little elements bytes → AreMeta elements
    → (rest : Trees) × (elements ≡ leaf tag vr (drop head (take (head + size) bytes)) rest) × Spells Little rest (drop (head + size) bytes) × AreMeta rest
next_is bytes tag vr head size no_tree le h s m =
    absurd (let no : the_end ≡ an_element tag vr head size = sym (at_empty 0 bytes (ap length (empty_spelled bytes [] s))) ∙ h in cc)
next_is bytes tag vr head size (leaf t v value rest) le h s m =
    let f = first_leaf t v value rest bytes [] s in
    let same : an_element t v (head_size Little v) (length value) ≡ an_element tag vr head size = sym (first_told t v value rest bytes le s m) ∙ h in
    let tags : t ≡ tag = cc in
    let vrs : v ≡ vr = cc in
    let heads : head_size Little v ≡ head = cc in
    let sizes : length value ≡ size = cc in
    let behind : drop (head_size Little v) bytes ≡ value ++ f.0 = sym f.1.head.after_is in
    let value_is : drop head (take (head + size) bytes) ≡ value =
    drop-take head size bytes ∙ (λ i. take (sym sizes i) (drop (sym heads i) bytes)) ∙ ap (take (length value)) behind ∙ take_at value f.0 (length value) refl in
    let after_is : drop (head + size) bytes ≡ f.0 =
    (λ i. drop (sym heads i + sym sizes i) bytes) ∙ sym (drop-drop (length value) (head_size Little v) bytes) ∙ ap (drop (length value)) behind ∙ drop_at value f.0 (length value) refl in
    (rest, λ i. leaf (tags i) (vrs i) (sym value_is i) rest, subst (Spells Little rest) (sym after_is) f.2, (meta_first t v value rest m).1)
next_is bytes tag vr head size (sequence t v declared items rest) le h s m = absurd (not_meta_sequence t v declared items rest m)
next_is bytes tag vr head size (fragments t v values rest) le h s m = absurd (not_meta_fragments t v values rest m)

pub first_is : (bytes : List ℕ) (tag : Tag) (vr : Vr) (head size : ℕ) → length bytes ≤ 16384 → group_place 0 bytes ≡ an_element tag vr head size → FirstIs bytes tag vr (drop head (take (head + size) bytes)) (drop (head + size) bytes)
first_is bytes tag vr head size le h =
    let is = element_tells 0 bytes tag vr head size h in
    let eight = eight_le_head_size Little vr in
    let head_is = is.head_is in
    let whole = is.whole in
    let left = length-drop (head + size) bytes in
    let front = length-take (head + size) bytes in
    let value = length-drop head (take (head + size) bytes) in
    (omega arith, omega arith, λ elements s m. next_is bytes tag vr head size elements le h s m)

pub whole_of : (bytes : List ℕ) (tag : Tag) (vr : Vr) (head size : ℕ) → group_place 0 bytes ≡ an_element tag vr head size → head + size ≤ length bytes
whole_of bytes tag vr head size h = let is = element_tells 0 bytes tag vr head size h in is.whole
