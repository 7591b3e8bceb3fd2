-- Paths that meet.
use Rattle.std.proofs.Common.{◌≡◌, List, ◌∷◌, Bool, true, false, not, ◌||◌, cond, refl, sym, ◌∙◌, ap}
use Rattle.dcm_base.specs.Tables.Tag.{same_tag}
use Rattle.dcm_edits.specs.declared.edit.Step as declared
use Rattle.dcm_edits.specs.Edit.{PathEdit, step, insert, modify, erase, erase_item}
use Rattle.dcm_edits.specs.Meaning.{index_of, along}
use Rattle.dcm_edits.specs.Overlap.{path, meets, same_index, is_every, ends}

goes_on : (e : PathEdit) → ends (path e) ≡ false
goes_on (step tag index edit) = refl
goes_on (insert tag vr value) = refl
goes_on (modify tag vr value) = refl
goes_on (erase tag) = refl
goes_on (erase_item tag index) = refl

or_none : (a b c d : Bool) → c ≡ false → d ≡ false → (a || b || c || d) ≡ (a || b)
or_none a b true d p q = cc
or_none a b false true p q = cc
or_none true b false false p q = refl
or_none false true false false p q = refl
or_none false false false false p q = refl

both_by : (t u : Bool) (whole rest other : Bool) → t ≡ true → u ≡ false → cond t (cond u rest other) whole ≡ other
both_by true true w r o p q = cc
both_by true false w r o p q = refl
both_by false u w r o p q = cc

part : (s t : declared.Step) (xs ys : List declared.Step) (a b : PathEdit) → same_tag s.tag t.tag ≡ true → same_index (index_of s.index) (index_of t.index) ≡ false
    → meets (path (along (s ∷ xs) a)) (path (along (t ∷ ys) b)) ≡ (is_every (index_of s.index) || is_every (index_of t.index))
part s t xs ys a b p q =
    both_by (same_tag s.tag t.tag) (same_index (index_of s.index) (index_of t.index)) _ _ _ p q
    ∙ or_none (is_every (index_of s.index)) (is_every (index_of t.index)) _ _ (goes_on (along xs a)) (goes_on (along ys b))

not_not : (t : Bool) → false ≡ not t → t ≡ true
not_not true p = refl
not_not false p = cc

pub parted : (s t : declared.Step) (all xs all2 ys : List declared.Step) (a b : PathEdit) → all ≡ s ∷ xs → all2 ≡ t ∷ ys → false ≡ not (same_tag s.tag t.tag)
    → false ≡ same_index (index_of s.index) (index_of t.index)
    → meets (path (along all a)) (path (along all2 b)) ≡ (is_every (index_of s.index) || is_every (index_of t.index))
parted s t all xs all2 ys a b e f p q =
    ap (λ (l : List declared.Step). meets (path (along l a)) (path (along all2 b))) e
    ∙ ap (λ (l : List declared.Step). meets (path (along (s ∷ xs) a)) (path (along l b))) f
    ∙ part s t xs ys a b (not_not (same_tag s.tag t.tag) p) (sym q)
