-- A syntax, read by the extract.
use Rattle.std.proofs.Common.{◌≡◌, refl, ℕ, List, true}
use Rattle.dcm_base.specs.declared.dictionary.Dictionary.{Dictionary}
use Rattle.dcm_base.specs.declared.dictionary.Dictionary.TheVariants.{Extract, Standard, Signed}
use Rattle.dcm_base.specs.declared.form.Form.TheVariants.{FragmentList as a_fragment_list}
use Rattle.dcm_base.specs.declared.length.Length.{Length}
use Rattle.dcm_base.specs.declared.length.Length.TheVariants.{Known, Undefined}
use Rattle.dcm_base.specs.declared.syntax.Syntax.{Syntax}
use Rattle.dcm_base.specs.declared.syntax.Syntax.TheVariants.{Implicit as implicit_in, Little as little_in, Big as big_in}
use Rattle.dcm_base.specs.declared.tag.Tag.{Tag}
use Rattle.dcm_base.specs.declared.vr.Vr.{Vr}
use Rattle.dcm_base.specs.declared.vr.Vr.TheVariants.{SQ, UN, OB, OW}
use Rattle.dcm_base.specs.Bytes.Spelling.{form, read_as, read_in}
use Rattle.dcm_base.specs.Conversion.Recode.{is_explicit}
use Rattle.dcm_base.specs.Tables.Syntax.{dictionary_of, read_by}
use Rattle.dcm_base.specs.Tree.Value.{order}

-- the same syntax, read by the extract
abbrev pub plain : Syntax → Syntax
plain s = read_by Extract s

-- ---- forms

pub form_plain : (s : Syntax) (vr : Vr) (declared : Length) → form (plain s) vr declared ≡ form s vr declared
unfolding form
form_plain s SQ declared = refl
form_plain s UN (Known n) = refl
form_plain s UN Undefined = refl
form_plain (implicit_in d) OB Undefined = refl
form_plain (little_in d) OB Undefined = refl
form_plain (big_in d) OB Undefined = refl
form_plain (implicit_in d) OW Undefined = refl
form_plain (little_in d) OW Undefined = refl
form_plain (big_in d) OW Undefined = refl
form_plain s vr (Known n) = refl
form_plain s vr Undefined = refl

pub read_plain : (s : Syntax) (tag : Tag) (vr : Vr) → read_as (plain s) tag vr ≡ vr
read_plain (implicit_in d) tag vr = refl
read_plain (little_in d) tag vr = refl
read_plain (big_in d) tag vr = refl

pub explicit_read : (s : Syntax) (tag : Tag) (vr : Vr) → is_explicit s ≡ true → read_as s tag vr ≡ read_in (dictionary_of s) tag vr
explicit_read (implicit_in d) tag vr e = absurd (cc)
explicit_read (little_in d) tag vr e = refl
explicit_read (big_in d) tag vr e = refl

-- the head of a fragment list is not unknown
pub list_read : (d : Dictionary) (s : Syntax) (tag : Tag) (vr : Vr) → form s vr Undefined ≡ a_fragment_list → read_in d tag vr ≡ vr
unfolding form
list_read d s tag UN h = absurd (cc)
list_read Extract s tag vr h = refl
list_read Standard s tag vr h = refl
list_read Signed s tag vr h = refl

pub order_plain : (s : Syntax) (vr : Vr) (v : List ℕ) → order (plain s) vr v ≡ order s vr v
order_plain (implicit_in d) vr v = refl
order_plain (little_in d) vr v = refl
order_plain (big_in d) vr v = refl

-- ---- dictionaries

pub plain_twice : (e : Dictionary) (s : Syntax) → plain s ≡ plain (read_by e s)
plain_twice e (implicit_in d) = refl
plain_twice e (little_in d) = refl
plain_twice e (big_in d) = refl
