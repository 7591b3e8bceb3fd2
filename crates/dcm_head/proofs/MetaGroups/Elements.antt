-- What an answer at an element's place tells of the bytes there.
use Rattle.std.proofs.Common.{◌≡◌, ◌⊎◌, inl, inr, ℕ, ◌+◌, ◌≤◌, ◌<◌, List, [], ◌∷◌, ◌++◌, length, Option, Some, None, Bool, true, false, not, cond, refl, sym, ap, ◌∙◌, arith, length-append, nat_lt, nat_eq, eq-eqb}
use Rattle.std.proofs.lemmas.Bool.{le-ltb, eqb-true, ltb-false}
use Rattle.std.proofs.lemmas.Bool.Decides.{leb_tells, eqb_tells}
use Rattle.dcm_base.specs.declared.tag.Tag.{Tag}
use Rattle.dcm_base.specs.declared.vr.Vr.{Vr}
use Rattle.dcm_base.specs.Tables.Syntax.{Little}
use Rattle.dcm_base.specs.declared.fault.Fault.TheVariants.{BadMeta, MetaTooLarge}
use Rattle.dcm_base.specs.declared.length.Length.{Length}
use Rattle.dcm_base.specs.declared.length.Length.TheVariants.{Known, Undefined}
use Rattle.dcm_base.specs.Tables.Number.{number}
use Rattle.dcm_base.specs.Tables.Representation.{is_long}
use Rattle.dcm_base.specs.Bytes.Head.{tag_at, vr_at, head_size, length_at}
use Rattle.dcm_base.proofs.DataSets.Heads.{eight_le_head_size}
use Rattle.dcm_base.proofs.DataSets.Extend.{number_extends, tag_at_extends, vr_at_extends, length_at_extends}
use Rattle.dcm_base.specs.File.MetaGroup.{an_element, the_end, too_few, a_fault}
use Rattle.dcm_base.specs.File.MetaGroup.{group_place, group_place_of_vr, group_place_of_head, is_sequence}
use Rattle.dcm_head.proofs.MetaGroups.Places.{at_two, at_eight, at_other}

pub record IsElement (taken : ℕ) (rest : List ℕ) (tag : Tag) (vr : Vr) (head size : ℕ) : Type 0 where
  pub eight : 8 ≤ length rest
  pub meta : number Little 2 rest ≡ 2
  pub vr_is : vr_at Little rest ≡ Some vr
  pub tag_is : tag_at Little rest ≡ tag
  pub head_is : head_size Little vr ≡ head
  pub length_is : length_at Little vr rest ≡ Known size
  pub plain : is_sequence vr ≡ false
  pub fits : taken + (head + size) ≤ 16384
  pub whole : head + size ≤ length rest

second : {A : Type 0} (b : Bool) (x y z : A) → cond b x y ≡ z → (x ≡ z → ⊥) → (b ≡ false) × (y ≡ z)
second true x y z h ne = absurd (ne h)
second false x y z h ne = (refl, h)

first_not : {A : Type 0} (b : Bool) (x y z : A) → cond (not b) x y ≡ z → (x ≡ z → ⊥) → (b ≡ true) × (y ≡ z)
first_not true x y z h ne = (refl, h)
first_not false x y z h ne = absurd (ne h)

record HeadTells (taken left : ℕ) (tag : Tag) (vr : Vr) (declared : Length) (tag' : Tag) (vr' : Vr) (head size : ℕ) : Type 0 where
  plain : is_sequence vr ≡ false
  known : declared ≡ Known size
  fits : taken + (head + size) ≤ 16384
  whole : head + size ≤ left
  same_tag : tag ≡ tag'
  same_vr : vr ≡ vr'
  same_head : head_size Little vr ≡ head

head_tells : (taken left : ℕ) (tag : Tag) (vr : Vr) (declared : Length) (tag' : Tag) (vr' : Vr) (head size : ℕ)
    → group_place_of_head taken left tag vr declared ≡ an_element tag' vr' head size → HeadTells taken left tag vr declared tag' vr' head size
head_tells taken left tag vr Undefined t v head size h = absurd (let no : a_fault BadMeta ≡ an_element t v head size = h in cc)
head_tells taken left tag vr (Known n) t v head size h =
    let a = second (is_sequence vr) (a_fault BadMeta) _ (an_element t v head size) h (λ e. cc) in
    let b = second (nat_lt 16384 (taken + (head_size Little vr + n))) (a_fault MetaTooLarge) _ (an_element t v head size) a.1 (λ e. cc) in
    let d = second (nat_lt left (head_size Little vr + n)) too_few _ (an_element t v head size) b.1 (λ e. cc) in
    let e : an_element tag vr (head_size Little vr) n ≡ an_element t v head size = d.1 in
    let tag_is : tag ≡ t = cc in
    let vr_is : vr ≡ v = cc in
    let head_is : head_size Little vr ≡ head = cc in
    let size_is : n ≡ size = cc in
    let fits = ltb-false _ _ b.0 in
    let whole = ltb-false _ _ d.0 in
    record {
      plain = a.0;
      known = ap Known size_is;
      fits = omega (arith, fits, head_is, size_is);
      whole = omega (arith, whole, head_is, size_is);
      same_tag = tag_is;
      same_vr = vr_is;
      same_head = head_is;
    }

vr_tells : (taken : ℕ) (rest : List ℕ) (found : Option Vr) (t : Tag) (v : Vr) (head size : ℕ) → group_place_of_vr taken rest found ≡ an_element t v head size
    → (vr : Vr) × (found ≡ Some vr) × HeadTells taken (length rest) (tag_at Little rest) vr (length_at Little vr rest) t v head size
vr_tells taken rest None t v head size h = absurd (let no : a_fault BadMeta ≡ an_element t v head size = h in cc)
vr_tells taken rest (Some vr) t v head size h =
    let a = second (nat_lt (length rest) (head_size Little vr)) too_few _ (an_element t v head size) h (λ e. cc) in
    (vr, refl, head_tells taken (length rest) (tag_at Little rest) vr (length_at Little vr rest) t v head size a.1)

pub head_not_end : (taken left : ℕ) (tag : Tag) (vr : Vr) (declared : Length) → group_place_of_head taken left tag vr declared ≡ the_end → ⊥
head_not_end taken left tag vr Undefined h = let no : a_fault BadMeta ≡ the_end = h in cc
head_not_end taken left tag vr (Known n) h =
    let a = second (is_sequence vr) (a_fault BadMeta) _ the_end h (λ e. cc) in
    let b = second (nat_lt 16384 (taken + (head_size Little vr + n))) (a_fault MetaTooLarge) _ the_end a.1 (λ e. cc) in
    let d = second (nat_lt left (head_size Little vr + n)) too_few _ the_end b.1 (λ e. cc) in
    let no : an_element tag vr (head_size Little vr) n ≡ the_end = d.1 in cc

pub vr_not_end : (taken : ℕ) (rest : List ℕ) (found : Option Vr) → group_place_of_vr taken rest found ≡ the_end → ⊥
vr_not_end taken rest None h = let no : a_fault BadMeta ≡ the_end = h in cc
vr_not_end taken rest (Some vr) h =
    let a = second (nat_lt (length rest) (head_size Little vr)) too_few _ the_end h (λ e. cc) in
    head_not_end taken (length rest) (tag_at Little rest) vr (length_at Little vr rest) a.1

pub not_end : (taken : ℕ) (rest : List ℕ) → 2 ≤ length rest → nat_eq (number Little 2 rest) 2 ≡ true → group_place taken rest ≡ the_end → ⊥
not_end taken rest le meta h =
    let e : cond (nat_lt (length rest) 8) too_few (group_place_of_vr taken rest (vr_at Little rest)) ≡ the_end = sym (at_two taken rest true (nat_lt (length rest) 8) le meta refl) ∙ h in
    let a = second (nat_lt (length rest) 8) too_few _ the_end e (λ e. cc) in
    vr_not_end taken rest (vr_at Little rest) a.1

pub element_tells : (taken : ℕ) (rest : List ℕ) (tag : Tag) (vr : Vr) (head size : ℕ) → group_place taken rest ≡ an_element tag vr head size → IsElement taken rest tag vr head size
unfolding group_place
element_tells taken [] tag vr head size h = absurd (let no : the_end ≡ an_element tag vr head size = h in cc)
element_tells taken (a ∷ []) tag vr head size h = absurd (let no : too_few ≡ an_element tag vr head size = h in cc)
element_tells taken (a ∷ b ∷ bs) tag vr head size h =
    let rest = a ∷ b ∷ bs in
    let one = first_not (nat_eq (number Little 2 rest) 2) the_end _ (an_element tag vr head size) h (λ e. cc) in
    let two = second (nat_lt (length rest) 8) too_few _ (an_element tag vr head size) one.1 (λ e. cc) in
    let d = vr_tells taken rest (vr_at Little rest) tag vr head size two.1 in
    let same : d.0 ≡ vr = d.2.same_vr in
    record {
      eight = ltb-false (length rest) 8 two.0;
      meta = eqb-true (number Little 2 rest) 2 one.0;
      vr_is = d.1 ∙ ap Some same;
      tag_is = d.2.same_tag;
      head_is = sym (ap (head_size Little) same) ∙ d.2.same_head;
      length_is = sym (ap (λ (x : Vr). length_at Little x rest) same) ∙ d.2.known;
      plain = sym (ap is_sequence same) ∙ d.2.plain;
      fits = d.2.fits;
      whole = d.2.whole;
    }

pub element_is : (taken : ℕ) (rest : List ℕ) (tag : Tag) (vr : Vr) (head size : ℕ) → IsElement taken rest tag vr head size → group_place taken rest ≡ an_element tag vr head size
element_is taken rest tag vr head size h =
    let eight = h.eight in
    let fits = h.fits in
    let whole = h.whole in
    let head_is = h.head_is in
    let le : head_size Little vr ≤ length rest = omega arith in
    let fits_is : nat_lt 16384 (taken + (head_size Little vr + size)) ≡ false = le-ltb 16384 (taken + (head_size Little vr + size)) (omega arith) in
    let whole_is : nat_lt (length rest) (head_size Little vr + size) ≡ false = le-ltb (length rest) (head_size Little vr + size) (omega arith) in
    at_eight taken rest h.eight (eq-eqb (number Little 2 rest) 2 h.meta) ∙ ap (group_place_of_vr taken rest) h.vr_is
    ∙ ap (λ (x : Bool). cond x too_few (group_place_of_head taken (length rest) (tag_at Little rest) vr (length_at Little vr rest))) (le-ltb (length rest) (head_size Little vr) le)
    ∙ (λ i. group_place_of_head taken (length rest) (h.tag_is i) vr (h.length_is i))
    ∙ ap (λ (x : Bool). cond x (a_fault BadMeta) (cond (nat_lt 16384 (taken + (head_size Little vr + size))) (a_fault MetaTooLarge) (cond (nat_lt (length rest) (head_size Little vr + size)) too_few (an_element tag vr (head_size Little vr) size)))) h.plain
    ∙ ap (λ (x : Bool). cond x (a_fault MetaTooLarge) (cond (nat_lt (length rest) (head_size Little vr + size)) too_few (an_element tag vr (head_size Little vr) size))) fits_is
    ∙ ap (λ (x : Bool). cond x too_few (an_element tag vr (head_size Little vr) size)) whole_is
    ∙ ap (λ (n : ℕ). an_element tag vr n size) h.head_is

-- an element is one in longer and in shorter bytes, where it is whole
pub element_shorter : (taken : ℕ) (rest more : List ℕ) (tag : Tag) (vr : Vr) (head size : ℕ) → IsElement taken (rest ++ more) tag vr head size → head + size ≤ length rest → IsElement taken rest tag vr head size
element_shorter taken rest more tag vr head size h whole =
    let hs = eight_le_head_size Little vr in
    let head_is = h.head_is in
    let eight : 8 ≤ length rest = omega arith in
    let le : head_size Little vr ≤ length rest = omega arith in
    record {
      eight = eight;
      meta = sym (number_extends Little 2 rest more (omega arith)) ∙ h.meta;
      vr_is = sym (vr_at_extends Little rest more eight) ∙ h.vr_is;
      tag_is = sym (tag_at_extends Little rest more (omega arith)) ∙ h.tag_is;
      head_is = h.head_is;
      length_is = sym (length_at_extends Little vr rest more le) ∙ h.length_is;
      plain = h.plain;
      fits = h.fits;
      whole = whole;
    }

pub element_longer : (taken : ℕ) (rest more : List ℕ) (tag : Tag) (vr : Vr) (head size : ℕ) → IsElement taken rest tag vr head size → IsElement taken (rest ++ more) tag vr head size
element_longer taken rest more tag vr head size h =
    let eight = h.eight in
    let whole = h.whole in
    let head_is = h.head_is in
    let all = length-append rest more in
    let le : head_size Little vr ≤ length rest = omega arith in
    record {
      eight = omega arith;
      meta = number_extends Little 2 rest more (omega arith) ∙ h.meta;
      vr_is = vr_at_extends Little rest more eight ∙ h.vr_is;
      tag_is = tag_at_extends Little rest more (omega arith) ∙ h.tag_is;
      head_is = h.head_is;
      length_is = length_at_extends Little vr rest more le ∙ h.length_is;
      plain = h.plain;
      fits = h.fits;
      whole = omega arith;
    }

-- an element that was cut one byte before is whole with that byte
pub element_exact : (taken : ℕ) (rest : List ℕ) (byte : ℕ) (tag : Tag) (vr : Vr) (head size : ℕ) → (length rest ≡ 0) ⊎ (group_place taken rest ≡ too_few)
    → group_place taken (rest ++ byte ∷ []) ≡ an_element tag vr head size → length rest + 1 ≡ head + size
element_exact taken rest byte tag vr head size w h =
    let is = element_tells taken (rest ++ byte ∷ []) tag vr head size h in
    let all = length-append rest (byte ∷ []) in
    let whole = is.whole in
    let eight = is.eight in
    elim (leb_tells (head + size) (length rest)) [
      | inl le ↦ elim w [
        | inl empty ↦ absurd (omega arith)
        | inr cut ↦ absurd (let no : too_few ≡ an_element tag vr head size = sym cut ∙ element_is taken rest tag vr head size (element_shorter taken rest (byte ∷ []) tag vr head size is le.1) in cc)
      ]
      | inr lt ↦ omega arith
    ]

-- a group that goes on one byte before ends with that byte, its second
pub end_exact : (taken : ℕ) (rest : List ℕ) (byte : ℕ) → (length rest ≡ 0) ⊎ (group_place taken rest ≡ too_few) → group_place taken (rest ++ byte ∷ []) ≡ the_end → length rest ≡ 1
unfolding group_place
end_exact taken [] byte w h = absurd (let no : too_few ≡ the_end = h in cc)
end_exact taken (a ∷ []) byte w h = refl
end_exact taken (a ∷ b ∷ bs) byte (inl e) h = absurd (omega arith)
end_exact taken (a ∷ b ∷ bs) byte (inr cut) h =
    absurd (elim (eqb_tells (number Little 2 (a ∷ b ∷ bs)) 2) [
      | inl same ↦ not_end taken (a ∷ b ∷ (bs ++ byte ∷ [])) (omega arith) (eq-eqb _ 2 (number_extends Little 2 (a ∷ b ∷ bs) (byte ∷ []) (omega arith) ∙ same.1)) h
      | inr other ↦ let bad : too_few ≡ the_end = sym cut ∙ at_other taken (a ∷ b ∷ bs) (omega arith) other.0 in cc
    ])

head_size_most : (vr : Vr) → head_size Little vr ≤ 12
head_size_most vr = elim (is_long vr) as (λ (b : Bool). cond b 12 8 ≤ 12) [ true ↦ omega arith | false ↦ omega arith ]

head_cut : (taken left : ℕ) (tag : Tag) (vr : Vr) (declared : Length) → taken ≤ 16384 → group_place_of_head taken left tag vr declared ≡ too_few → taken + left < 16384
head_cut taken left tag vr Undefined le h = absurd (let no : a_fault BadMeta ≡ too_few = h in cc)
head_cut taken left tag vr (Known n) le h =
    let a = second (is_sequence vr) (a_fault BadMeta) _ too_few h (λ e. cc) in
    let b = second (nat_lt 16384 (taken + (head_size Little vr + n))) (a_fault MetaTooLarge) _ too_few a.1 (λ e. cc) in
    let fits = ltb-false _ _ b.0 in
    elim (leb_tells (head_size Little vr + n) left) [
      | inl p ↦ absurd (
          let whole : nat_lt left (head_size Little vr + n) ≡ false = le-ltb left (head_size Little vr + n) p.1 in
          let no : an_element tag vr (head_size Little vr) n ≡ too_few = sym (ap (λ (x : Bool). cond x too_few (an_element tag vr (head_size Little vr) n)) whole) ∙ b.1 in cc)
      | inr p ↦ let lt = p.1 in omega arith
    ]

vr_cut : (taken : ℕ) (rest : List ℕ) (found : Option Vr) → taken ≤ 16384 → group_place_of_vr taken rest found ≡ too_few → (length rest < 12) ⊎ (taken + length rest < 16384)
vr_cut taken rest None le h = absurd (let no : a_fault BadMeta ≡ too_few = h in cc)
vr_cut taken rest (Some vr) le h =
    elim (leb_tells (head_size Little vr) (length rest)) [
      | inl p ↦ inr (head_cut taken (length rest) (tag_at Little rest) vr (length_at Little vr rest) le
          (sym (ap (λ (x : Bool). cond x too_few (group_place_of_head taken (length rest) (tag_at Little rest) vr (length_at Little vr rest))) (le-ltb (length rest) (head_size Little vr) p.1)) ∙ h))
      | inr p ↦ let lt = p.1 in let most = head_size_most vr in inl (omega arith)
    ]

-- what is cut is less than a head, or within the limit
pub cut_room : (taken : ℕ) (rest : List ℕ) → taken ≤ 16384 → group_place taken rest ≡ too_few → taken + length rest < 16396
cut_room taken rest le h =
    elim (leb_tells 8 (length rest)) [
      | inl p ↦
          let eight = p.1 in
          elim (eqb_tells (number Little 2 rest) 2) [
            | inl same ↦ elim (vr_cut taken rest (vr_at Little rest) le (sym (at_eight taken rest eight same.0) ∙ h)) [ inl few ↦ omega arith | inr within ↦ omega arith ]
            | inr other ↦ absurd (let bad : the_end ≡ too_few = sym (at_other taken rest (omega arith) other.0) ∙ h in cc)
          ]
      | inr p ↦ let lt = p.1 in omega arith
    ]
