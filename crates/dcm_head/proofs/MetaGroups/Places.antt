-- What stands at an element's place, by what is known of the bytes there.
use Rattle.std.proofs.Common.{◌≡◌, ℕ, ◌≤◌, ◌<◌, List, [], ◌∷◌, length, drop, Some, None, Bool, true, false, not, cond, refl, sym, ap, ◌∙◌, arith, length-drop, nat_lt, nat_eq}
use Rattle.std.proofs.lemmas.Bool.{lt-ltb, le-ltb}
use Rattle.dcm_base.specs.declared.tag.Tag.{Tag}
use Rattle.dcm_base.specs.declared.vr.Vr.{Vr}
use Rattle.dcm_base.specs.Tables.Syntax.{Little}
use Rattle.dcm_base.specs.declared.fault.Fault.TheVariants.{BadMeta}
use Rattle.dcm_base.specs.declared.length.Length.{Length}
use Rattle.dcm_base.specs.Tables.Number.{number}
use Rattle.dcm_base.specs.Bytes.Head.{PlainHead, tag_at, vr_at, head_size, length_at}
use Rattle.dcm_base.specs.File.MetaGroup.{the_end, too_few, a_fault}
use Rattle.dcm_base.specs.File.MetaGroup.{group_place, group_place_of_vr, group_place_of_head}

pub at_empty : (taken : ℕ) (rest : List ℕ) → length rest ≡ 0 → group_place taken rest ≡ the_end
unfolding group_place
at_empty taken [] h = refl
at_empty taken (b ∷ bs) h = absurd (omega arith)

pub at_one : (taken : ℕ) (rest : List ℕ) → 0 < length rest → length rest < 2 → group_place taken rest ≡ too_few
unfolding group_place
at_one taken [] h g = absurd (omega arith)
at_one taken (b ∷ []) h g = refl
at_one taken (b ∷ c ∷ bs) h g = absurd (omega arith)

pub at_two : (taken : ℕ) (rest : List ℕ) (is_meta short : Bool) → 2 ≤ length rest → nat_eq (number Little 2 rest) 2 ≡ is_meta → nat_lt (length rest) 8 ≡ short
    → group_place taken rest ≡ cond (not is_meta) the_end (cond short too_few (group_place_of_vr taken rest (vr_at Little rest)))
unfolding group_place
at_two taken [] m s h e g = absurd (omega arith)
at_two taken (b ∷ []) m s h e g = absurd (omega arith)
at_two taken (b ∷ c ∷ bs) m s h e g = λ i. cond (not (e i)) the_end (cond (g i) too_few (group_place_of_vr taken (b ∷ c ∷ bs) (vr_at Little (b ∷ c ∷ bs))))

pub at_other : (taken : ℕ) (rest : List ℕ) → 2 ≤ length rest → nat_eq (number Little 2 rest) 2 ≡ false → group_place taken rest ≡ the_end
at_other taken rest h e = at_two taken rest false _ h e refl

pub at_short : (taken : ℕ) (rest : List ℕ) → 2 ≤ length rest → nat_eq (number Little 2 rest) 2 ≡ true → length rest < 8 → group_place taken rest ≡ too_few
at_short taken rest h e l = at_two taken rest true true h e (lt-ltb (length rest) 8 l)

pub at_eight : (taken : ℕ) (rest : List ℕ) → 8 ≤ length rest → nat_eq (number Little 2 rest) 2 ≡ true → group_place taken rest ≡ group_place_of_vr taken rest (vr_at Little rest)
at_eight taken rest h e = at_two taken rest true false (omega arith) e (le-ltb (length rest) 8 h)

pub at_bad : (taken : ℕ) (rest : List ℕ) → 8 ≤ length rest → nat_eq (number Little 2 rest) 2 ≡ true → vr_at Little rest ≡ None → group_place taken rest ≡ a_fault BadMeta
at_bad taken rest h e n = at_eight taken rest h e ∙ ap (group_place_of_vr taken rest) n

pub at_long : (taken : ℕ) (rest : List ℕ) (vr : Vr) → 8 ≤ length rest → nat_eq (number Little 2 rest) 2 ≡ true → vr_at Little rest ≡ Some vr → length rest < head_size Little vr → group_place taken rest ≡ too_few
at_long taken rest vr h e v l =
    at_eight taken rest h e ∙ ap (group_place_of_vr taken rest) v
    ∙ ap (λ (x : Bool). cond x too_few (group_place_of_head taken (length rest) (tag_at Little rest) vr (length_at Little vr rest))) (lt-ltb (length rest) (head_size Little vr) l)

pub at_head : (taken : ℕ) (rest : List ℕ) (tag : Tag) (vr : Vr) (declared : Length) (after : List ℕ) → 8 ≤ length rest → nat_eq (number Little 2 rest) 2 ≡ true
    → PlainHead Little tag vr declared rest after → group_place taken rest ≡ group_place_of_head taken (length rest) tag vr declared
at_head taken rest tag vr declared after h e head =
    at_eight taken rest h e ∙ ap (group_place_of_vr taken rest) (sym head.vr_is)
    ∙ ap (λ (x : Bool). cond x too_few (group_place_of_head taken (length rest) (tag_at Little rest) vr (length_at Little vr rest))) (le-ltb (length rest) (head_size Little vr) head.whole)
    ∙ (λ i. group_place_of_head taken (length rest) (sym head.tag_is i) vr (sym head.length_is i))

-- as many bytes were used as the head has
pub used_is : (tag : Tag) (vr : Vr) (declared : Length) (rest : List ℕ) (used : ℕ) → PlainHead Little tag vr declared rest (drop used rest) → used ≤ length rest → used ≡ head_size Little vr
used_is tag vr declared rest used head le =
    let same = ap length head.after_is in
    let a = length-drop used rest in
    let b = length-drop (head_size Little vr) rest in
    let whole = head.whole in
    omega (arith, same, a, b, whole)
