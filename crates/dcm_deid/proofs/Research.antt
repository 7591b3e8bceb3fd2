-- What becomes of elements with pseudonyms, and where dates are moved and not kept in full.
use Rattle.std.proofs.Common.{◌≡◌, ◌≢◌, ◌∙◌, ap, sym, refl, ℕ, ℤ, Bool, true, false, ◌&&◌, ◌||◌, not, ◌==◌, if◌then◌else◌, List, [], ◌∷◌, Option, Some, None, arith}
use Rattle.std.specs.Prelude.{find}
use Rattle.std.proofs.lemmas.Bool.Decides.{nat_tests}
use Rattle.dcm_lemmas.proofs.Truth.{or_alike}
use Rattle.dcm_base.specs.declared.tag.Tag.{Tag}
use Rattle.dcm_base.specs.declared.vr.Vr.{Vr}
use Rattle.dcm_base.specs.declared.vr.Vr.TheVariants.{DA, TM, DT, PN}
use Rattle.dcm_base.specs.declared.dictionary.Dictionary.TheVariants.{Standard}
use Rattle.dcm_base.specs.Reading.Bars.{PATIENT_ID}
use Rattle.dcm_base.specs.Tables.Tag.{is_tag, tag_number}
use Rattle.dcm_base.specs.Tables.Representation.{is_sequence}
use Rattle.dcm_base.specs.Tables.Dictionary.{vr_in}
use Rattle.dcm_base.specs.Tables.Dictionary as D
use Rattle.dcm_deid.specs.declared.fate.Fate.{Fate}
use Rattle.dcm_deid.specs.declared.fate.Fate.TheVariants.{Remove, Empty, Replace, Anew, Keep}
use Rattle.dcm_deid.specs.declared.fate.NewValue.TheVariants.{Pseudonym}
use Rattle.dcm_deid.specs.declared.fate.Options.{Options}
use Rattle.dcm_deid.specs.declared.fate.Retain.{Retain}
use Rattle.dcm_deid.specs.declared.fate.Retain.TheVariants.{Uids, Device, Institution, Patient, Dates}
use Rattle.dcm_deid.specs.declared.fate.Depth.{Depth}
use Rattle.dcm_deid.specs.declared.fate.Depth.TheVariants.{Outermost, Inside}
use Rattle.dcm_deid.specs.declared.fate.ReadAs.{ReadAs}
use Rattle.dcm_deid.specs.declared.fate.ReadAs.TheVariants.{AsBytes, AsItems}
use Rattle.dcm_deid.specs.Fate.{Action, actions, fate, fate_as, fate_in_table, fate_of_known, fate_of_vr, is_given, is_kept, is_known, is_put_at, keeps, kept_as, moved_if}
use Rattle.dcm_deid.specs.Research.{OthersBecomeTheSame, PatientsGetPseudonyms, WhatSaidOfDatesGoes, WhatStaysIsMoved, moved_by_vr, says_of_dates, with_full_dates, with_moved_dates}

-- ---- pseudonyms

pub get_pseudonyms : PatientsGetPseudonyms
unfolding fate_as D.vr_in D.element_in D.elements_in D.entries D.ambiguous
get_pseudonyms options depth read asked = by_all options.pseudonyms asked depth read
  where
    by_all : (b : Bool) → b ≡ true → (at : Depth) (form : ReadAs) → fate_as (record options { pseudonyms = b }) at form PATIENT_ID ≡ Anew Pseudonym
    by_all true e Outermost AsBytes = refl
    by_all true e Outermost AsItems = refl
    by_all true e Inside AsBytes = refl
    by_all true e Inside AsItems = refl
    by_all false e at form = absurd (cc)

-- ---- one by one

-- what becomes where dates are moved of what has this fate where they are kept in full
abbrev then_moved : Vr → Fate → Fate
then_moved vr f = if is_kept f then moved_by_vr vr else f

moved_of_kept : (vr : Vr) → kept_as true vr ≡ moved_by_vr vr
moved_of_kept DA = refl
moved_of_kept DT = refl
moved_of_kept vr = refl

moved_of : (vr : Vr) (f : Fate) → moved_if true vr f ≡ then_moved vr f
moved_of vr Remove = refl
moved_of vr Empty = refl
moved_of vr Replace = refl
moved_of vr (Anew made) = refl
moved_of vr Keep = moved_of_kept vr

pub kept_of_kept : (vr : Vr) → kept_as false vr ≡ Keep
kept_of_kept DA = refl
kept_of_kept DT = refl
kept_of_kept vr = refl

unmoved : (vr : Vr) (f : Fate) → moved_if false vr f ≡ f
unmoved vr Remove = refl
unmoved vr Empty = refl
unmoved vr Replace = refl
unmoved vr (Anew made) = refl
unmoved vr Keep = kept_of_kept vr

named : (b : Bool) (vr : Vr) (f g : Fate) → g ≡ then_moved vr f → (if b then Anew Pseudonym else g) ≡ then_moved vr (if b then Anew Pseudonym else f)
named true vr f g e = refl
named false vr f g e = e

removed : (a b : Bool) (vr : Vr) (f g : Fate) → a ≡ b → g ≡ then_moved vr f → (if a then Remove else g) ≡ then_moved vr (if b then Remove else f)
removed true true vr f g e h = refl
removed true false vr f g e h = absurd (cc)
removed false true vr f g e h = absurd (cc)
removed false false vr f g e h = h

unsaid : (a b c d full moved : Bool) → d ≡ false → (a || b || c || (d && moved)) ≡ (a || b || c || (d && full))
unsaid a b c d full moved e = rw e refl

-- ---- the fates where dates are moved, by those where they are kept in full

module _ (options : Options) (days : ℤ) where
  abbrev full : Options
  full = with_full_dates options

  abbrev moved : Options
  moved = with_moved_dates options days

  same_given : (retain : Retain) → is_given full retain ≡ is_given moved retain
  same_given Uids = refl
  same_given Device = refl
  same_given Institution = refl
  same_given Patient = refl
  same_given Dates = refl

  same_keeps : (retains : List Retain) → keeps full retains ≡ keeps moved retains
  same_keeps [] = refl
  same_keeps (retain ∷ rest) = or_alike (is_given full retain) (is_given moved retain) (keeps full rest) (keeps moved rest) (same_given retain) (same_keeps rest)

  same_of_vr : (vr : Vr) → fate_of_vr full vr ≡ fate_of_vr moved vr
  same_of_vr DA = refl
  same_of_vr TM = refl
  same_of_vr DT = refl
  same_of_vr PN = refl
  same_of_vr vr = refl

  same_row : (row : Option Action) (vr : Vr) → fate_in_table full row vr ≡ fate_in_table moved row vr
  same_row (Some action) vr = ap (λ (b : Bool). if b then Keep else action.1) (same_keeps action.2)
  same_row None vr = same_of_vr vr

  module _ (tag : Tag) where
    abbrev own_vr : Vr
    own_vr = vr_in Standard tag

    abbrev row : Option Action
    row = find (λ (a : Action). a.0 == tag_number tag) actions

    by_row : moved_if true own_vr (fate_in_table moved row own_vr) ≡ then_moved own_vr (moved_if false own_vr (fate_in_table full row own_vr))
    by_row =
        moved_of own_vr (fate_in_table moved row own_vr)
        ∙ ap (then_moved own_vr) (sym (same_row row own_vr))
        ∙ ap (then_moved own_vr) (sym (unmoved own_vr (fate_in_table full row own_vr)))

    known : fate_of_known moved tag ≡ then_moved own_vr (fate_of_known full tag)
    known = named (is_tag 0x0010 0x0020 tag && options.pseudonyms) own_vr (moved_if false own_vr (fate_in_table full row own_vr)) (moved_if true own_vr (fate_in_table moved row own_vr)) by_row

    module _ (depth : Depth) (others : says_of_dates depth tag ≡ false) where
      same_put : (at : Depth) → says_of_dates at tag ≡ false → is_put_at moved at tag ≡ is_put_at full at tag
      same_put Outermost e = unsaid (is_tag 0x0012 0x0062 tag) (is_tag 0x0012 0x0063 tag) (is_tag 0x0012 0x0064 tag) (is_tag 0x0028 0x0303 tag) false true e
      same_put Inside e = refl

      as_items : fate moved depth tag ≡ then_moved own_vr (fate full depth tag)
      as_items =
          removed (is_put_at moved depth tag || not (is_known tag)) (is_put_at full depth tag || not (is_known tag)) own_vr (fate_of_known full tag) (fate_of_known moved tag)
          (ap (λ (b : Bool). b || not (is_known tag)) (same_put depth others)) known

      pub as_moved : (read : ReadAs) → fate_as moved depth read tag ≡ then_moved own_vr (fate_as full depth read tag)
      unfolding fate_as
      as_moved AsItems = as_items
      as_moved AsBytes = removed (is_sequence own_vr) (is_sequence own_vr) own_vr (fate full depth tag) (fate moved depth tag) refl as_items

-- ---- the laws

pub stays_is_moved : WhatStaysIsMoved
stays_is_moved options days depth read tag others kept = as_moved options days tag depth others read ∙ ap (then_moved (vr_in Standard tag)) kept

not_kept : (vr : Vr) (f : Fate) → f ≢ Keep → then_moved vr f ≡ f
not_kept vr Remove h = refl
not_kept vr Empty h = refl
not_kept vr Replace h = refl
not_kept vr (Anew made) h = refl
not_kept vr Keep h = absurd (h refl)

-- what says of dates stays where they are kept in full
abbrev DATES_SAID : Tag
DATES_SAID = record { group = 0x0028; element = 0x0303 }

kept_said : (options : Options) (read : ReadAs) → fate_as (with_full_dates options) Outermost read DATES_SAID ≡ Keep
unfolding fate_as D.vr_in D.element_in D.elements_in D.entries D.ambiguous actions
kept_said options AsBytes = refl
kept_said options AsItems = refl

the_one : (tag : Tag) → is_tag 0x0028 0x0303 tag ≡ true → tag ≡ DATES_SAID
the_one tag e =
    let same_group : tag.group ≡ 0x0028 = grind (arith, nat_tests) in
    let same_element : tag.element ≡ 0x0303 = grind (arith, nat_tests) in
    ap (λ (g : ℕ). (let t : Tag = record { group = g; element = tag.element } in t)) same_group
    ∙ ap (λ (e : ℕ). (let t : Tag = record { group = 0x0028; element = e } in t)) same_element

by_said : (options : Options) (days : ℤ) (depth : Depth) (read : ReadAs) (tag : Tag) (b : Bool) → says_of_dates depth tag ≡ b → fate_as (with_full_dates options) depth read tag ≢ Keep
    → fate_as (with_moved_dates options days) depth read tag ≡ fate_as (with_full_dates options) depth read tag
by_said options days depth read tag false e taken = as_moved options days tag depth e read ∙ not_kept (vr_in Standard tag) (fate_as (with_full_dates options) depth read tag) taken
by_said options days Inside read tag true e taken = absurd (cc)
by_said options days Outermost read tag true e taken =
    absurd (taken (ap (λ (t : Tag). fate_as (with_full_dates options) Outermost read t) (the_one tag e) ∙ kept_said options read))

pub others_same : OthersBecomeTheSame
others_same options days depth read tag taken = by_said options days depth read tag (says_of_dates depth tag) refl taken

put_anew : (a b c d : Bool) (f : Fate) (known : Bool) → d ≡ true → (if (a || b || c || (d && true)) || known then Remove else f) ≡ Remove
put_anew true b c d f known e = refl
put_anew false true c d f known e = refl
put_anew false false true d f known e = refl
put_anew false false false true f known e = refl
put_anew false false false false f known e = absurd (cc)

pub opaque_too : (b : Bool) (f : Fate) → f ≡ Remove → (if b then Remove else f) ≡ Remove
opaque_too true f e = refl
opaque_too false f e = e

said_goes_here : (options : Options) (days : ℤ) (depth : Depth) (tag : Tag) → says_of_dates depth tag ≡ true → fate (with_moved_dates options days) depth tag ≡ Remove
said_goes_here options days Outermost tag e =
    put_anew (is_tag 0x0012 0x0062 tag) (is_tag 0x0012 0x0063 tag) (is_tag 0x0012 0x0064 tag) (is_tag 0x0028 0x0303 tag) (fate_of_known (with_moved_dates options days) tag) (not (is_known tag)) e
said_goes_here options days Inside tag e = absurd (cc)

pub said_goes : WhatSaidOfDatesGoes
unfolding fate_as
said_goes options days depth AsItems tag e = said_goes_here options days depth tag e
said_goes options days depth AsBytes tag e = opaque_too (is_sequence (vr_in Standard tag)) (fate (with_moved_dates options days) depth tag) (said_goes_here options days depth tag e)
