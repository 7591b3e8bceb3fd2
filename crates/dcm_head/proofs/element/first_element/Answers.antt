use Rattle.std.proofs.Common.{◌≡◌, ◌∙◌, ◌+◌, sym, ap, subst, arith, drop, take, List, ℕ}
use Rattle.dcm_base.specs.declared.tag.Tag.{Tag}
use Rattle.dcm_base.specs.declared.vr.Vr.{Vr}
use Rattle.dcm_base.specs.File.MetaGroup.{an_element}
use Rattle.dcm_head.specs.declared.group.Place.{Place}
use Rattle.dcm_head.specs.declared.group.Place.TheVariants.{Element, End, TooFew, Bad}
use Rattle.dcm_head.specs.GroupPlaces.{place_is}
use Rattle.dcm_head.specs.Rewriting.{FirstIs}
use Rattle.dcm_head.proofs.MetaGroups.FirstElement.{first_is, none_is, whole_of}
use Rattle.dcm_head.proofs.element.first_element.Goals as goal

pub overflow_add-head : goal.overflow_add-head
overflow_add-head c =
    let whole = whole_of c.args.bytes.now _ _ _ _ (sym c.in-Element.ensures) in
    omega arith

pub split_at-requires : goal.split_at-requires
split_at-requires c = whole_of c.args.bytes.now _ _ _ _ (sym c.in-Element.ensures)

element_of : (p : Place) (tag : Tag) (vr : Vr) (head size : ℕ) → place_is p ≡ an_element tag vr head size → p ≡ Element tag vr head size
element_of (Element t v h s) tag vr head size e = cc
element_of End tag vr head size e = absurd cc
element_of TooFew tag vr head size e = absurd cc
element_of (Bad fault) tag vr head size e = absurd cc

pub returns-in_default-clause-none : goal.returns-in_default-clause-none
returns-in_default-clause-none c =
    none_is c.args.bytes.now c.requires (λ tag vr head size h. c.in_default.not-Element tag vr head size (element_of c.place_of.result tag vr head size (c.place_of.ensures ∙ h)))

pub returns-clause-some : goal.returns-clause-some
returns-clause-some c =
    let n : ℕ = c.in-Element.head + c.in-Element.size in
    let value : c.split_at-2.result.1.now ≡ drop c.in-Element.head (take n c.args.bytes.now) = c.split_at-2.ensures.back ∙ ap (drop c.in-Element.head) c.split_at.ensures.front in
    subst (λ (v : List ℕ). FirstIs c.args.bytes.now c.in-Element.tag c.in-Element.vr v c.split_at.result.1.now) (sym value)
    (subst (λ (a : List ℕ). FirstIs c.args.bytes.now c.in-Element.tag c.in-Element.vr (drop c.in-Element.head (take n c.args.bytes.now)) a) (sym c.split_at.ensures.back)
    (first_is c.args.bytes.now _ _ _ _ c.requires (sym c.in-Element.ensures)))
