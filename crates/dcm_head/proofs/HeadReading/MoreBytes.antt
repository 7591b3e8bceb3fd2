-- What is told of an element's place by enough bytes is told by more.
use Rattle.std.proofs.Common.{◌≡◌, ◌∙◌, inl, inr, ◌+◌, ◌≤◌, List, [], ◌∷◌, ◌++◌, length, ℕ, Bool, true, false, not, cond, nat_lt, nat_eq, Option, Some, None, refl, ap, sym, arith, length-append, eq-eqb}
use Rattle.std.proofs.lemmas.Bool.{lt-ltb, le-ltb, ltb-false, ne_eqb}
use Rattle.std.proofs.lemmas.Bool.Decides.{leb_tells, eqb_tells}
use Rattle.dcm_base.specs.declared.tag.Tag.{Tag}
use Rattle.dcm_base.specs.declared.vr.Vr.{Vr}
use Rattle.dcm_base.specs.Tables.Syntax.{Little}
use Rattle.dcm_base.specs.declared.fault.Fault.TheVariants.{BadMeta, MetaTooLarge}
use Rattle.dcm_base.specs.declared.length.Length.{Length}
use Rattle.dcm_base.specs.declared.length.Length.TheVariants.{Known, Undefined}
use Rattle.dcm_base.specs.Tables.Number.{number}
use Rattle.dcm_base.specs.Bytes.Head.{tag_at, vr_at, head_size, length_at}
use Rattle.dcm_base.proofs.DataSets.Extend.{number_extends, tag_at_extends, vr_at_extends, length_at_extends}
use Rattle.dcm_base.specs.File.MetaGroup.{GroupPlace}
use Rattle.dcm_base.specs.File.MetaGroup.{an_element, the_end, too_few, a_fault}
use Rattle.dcm_base.specs.File.MetaGroup.{group_place, group_place_of_vr, group_place_of_head, is_sequence}
use Rattle.dcm_base.specs.File.MetaReads.{is_at}
use Rattle.dcm_head.proofs.MetaGroups.Places.{at_other, at_short, at_eight}

chosen : (p q s t : Bool) (bad large whole : GroupPlace) → (cond p bad (cond q large (cond s too_few whole)) ≡ too_few → ⊥) → (s ≡ false → t ≡ false) → cond p bad (cond q large (cond t too_few whole)) ≡ cond p bad (cond q large (cond s too_few whole))
chosen true q s t bad large whole n h = refl
chosen false true s t bad large whole n h = refl
chosen false false true t bad large whole n h = absurd (n refl)
chosen false false false t bad large whole n h = ap (λ (x : Bool). cond x too_few whole) (h refl)

head_settles : (taken left more : ℕ) (tag : Tag) (vr : Vr) (declared : Length) → left ≤ more → (group_place_of_head taken left tag vr declared ≡ too_few → ⊥) → group_place_of_head taken more tag vr declared ≡ group_place_of_head taken left tag vr declared
head_settles taken left more tag vr Undefined le n = refl
head_settles taken left more tag vr (Known size) le n =
    chosen (is_sequence vr) (nat_lt 16384 (taken + (head_size Little vr + size))) (nat_lt left (head_size Little vr + size)) (nat_lt more (head_size Little vr + size)) _ _ _ n
    (λ h. let fits = ltb-false left (head_size Little vr + size) h in le-ltb more (head_size Little vr + size) (omega arith))

vr_settles : (taken : ℕ) (rest z : List ℕ) (found : Option Vr) → 8 ≤ length rest → (group_place_of_vr taken rest found ≡ too_few → ⊥) → group_place_of_vr taken (rest ++ z) found ≡ group_place_of_vr taken rest found
vr_settles taken rest z None e n = refl
vr_settles taken rest z (Some vr) e n =
    let all = length-append rest z in
    elim (leb_tells (head_size Little vr) (length rest)) [
      | inl p ↦
          let here : group_place_of_vr taken rest (Some vr) ≡ group_place_of_head taken (length rest) (tag_at Little rest) vr (length_at Little vr rest) =
          ap (λ (x : Bool). cond x too_few (group_place_of_head taken (length rest) (tag_at Little rest) vr (length_at Little vr rest))) (le-ltb (length rest) (head_size Little vr) p.1) in
          let le : head_size Little vr ≤ length (rest ++ z) = let q = p.1 in omega arith in
          let there : group_place_of_vr taken (rest ++ z) (Some vr) ≡ group_place_of_head taken (length (rest ++ z)) (tag_at Little (rest ++ z)) vr (length_at Little vr (rest ++ z)) =
          ap (λ (x : Bool). cond x too_few (group_place_of_head taken (length (rest ++ z)) (tag_at Little (rest ++ z)) vr (length_at Little vr (rest ++ z)))) (le-ltb (length (rest ++ z)) (head_size Little vr) le) in
          let tags = tag_at_extends Little rest z (omega arith) in
          let lengths = length_at_extends Little vr rest z p.1 in
          there ∙ (λ i. group_place_of_head taken (length (rest ++ z)) (tags i) vr (lengths i))
          ∙ head_settles taken (length rest) (length (rest ++ z)) (tag_at Little rest) vr (length_at Little vr rest) (omega arith) (λ h. n (here ∙ h)) ∙ sym here
      | inr p ↦ absurd (n (ap (λ (x : Bool). cond x too_few (group_place_of_head taken (length rest) (tag_at Little rest) vr (length_at Little vr rest))) (lt-ltb (length rest) (head_size Little vr) p.1)))
    ]

pub place_settles : (taken : ℕ) (rest z : List ℕ) → 2 ≤ length rest → (group_place taken rest ≡ too_few → ⊥) → group_place taken (rest ++ z) ≡ group_place taken rest
place_settles taken rest z two n =
    let all = length-append rest z in
    let long : 2 ≤ length (rest ++ z) = omega arith in
    let numbers = number_extends Little 2 rest z two in
    elim (eqb_tells (number Little 2 rest) 2) [
      | inl same ↦ elim (leb_tells 8 (length rest)) [
        | inl p ↦
            let eight : 8 ≤ length (rest ++ z) = let q = p.1 in omega arith in
            let here = at_eight taken rest p.1 same.0 in
            at_eight taken (rest ++ z) eight (eq-eqb _ 2 (numbers ∙ same.1)) ∙ ap (group_place_of_vr taken (rest ++ z)) (vr_at_extends Little rest z p.1)
            ∙ vr_settles taken rest z (vr_at Little rest) p.1 (λ h. n (here ∙ h)) ∙ sym here
        | inr p ↦ absurd (n (at_short taken rest two same.0 p.1))
      ]
      | inr other ↦ at_other taken (rest ++ z) long (ne_eqb _ 2 (λ h. other.1 (sym numbers ∙ h))) ∙ sym (at_other taken rest two other.0)
    ]

-- a fault at an element's place is never one of the input's end
abbrev pub Sure : GroupPlace → Type 0
Sure (a_fault fault) = (size offset : ℕ) → is_at size fault offset ≡ false
Sure (an_element tag vr head size) = Unit {0}
Sure the_end = Unit {0}
Sure too_few = Unit {0}

sure_cond : (b : Bool) (x y : GroupPlace) → Sure x → Sure y → Sure (cond b x y)
sure_cond true x y h g = h
sure_cond false x y h g = g

head_sure : (taken left : ℕ) (tag : Tag) (vr : Vr) (declared : Length) → Sure (group_place_of_head taken left tag vr declared)
head_sure taken left tag vr Undefined = λ size offset. refl
head_sure taken left tag vr (Known n) =
    sure_cond (is_sequence vr) (a_fault BadMeta) (cond (nat_lt 16384 (taken + (head_size Little vr + n))) (a_fault MetaTooLarge) (cond (nat_lt left (head_size Little vr + n)) too_few (an_element tag vr (head_size Little vr) n))) (λ size offset. refl)
    (sure_cond (nat_lt 16384 (taken + (head_size Little vr + n))) (a_fault MetaTooLarge) (cond (nat_lt left (head_size Little vr + n)) too_few (an_element tag vr (head_size Little vr) n)) (λ size offset. refl)
    (sure_cond (nat_lt left (head_size Little vr + n)) too_few (an_element tag vr (head_size Little vr) n) tt tt))

vr_sure : (taken : ℕ) (rest : List ℕ) (found : Option Vr) → Sure (group_place_of_vr taken rest found)
vr_sure taken rest None = λ size offset. refl
vr_sure taken rest (Some vr) =
    sure_cond (nat_lt (length rest) (head_size Little vr)) too_few (group_place_of_head taken (length rest) (tag_at Little rest) vr (length_at Little vr rest)) tt
    (head_sure taken (length rest) (tag_at Little rest) vr (length_at Little vr rest))

pub place_sure : (taken : ℕ) (rest : List ℕ) → Sure (group_place taken rest)
unfolding group_place
place_sure taken [] = tt
place_sure taken (b ∷ []) = tt
place_sure taken (b ∷ c ∷ bs) =
    sure_cond (not (nat_eq (number Little 2 (b ∷ c ∷ bs)) 2)) the_end (cond (nat_lt (length (b ∷ c ∷ bs)) 8) too_few (group_place_of_vr taken (b ∷ c ∷ bs) (vr_at Little (b ∷ c ∷ bs)))) tt
    (sure_cond (nat_lt (length (b ∷ c ∷ bs)) 8) too_few (group_place_of_vr taken (b ∷ c ∷ bs) (vr_at Little (b ∷ c ∷ bs))) tt (vr_sure taken (b ∷ c ∷ bs) (vr_at Little (b ∷ c ∷ bs))))
