-- Dictionaries that differ by the sign of pixels alone: what they say of sequences is the same.
use Rattle.std.proofs.Common.{◌≡◌, ◌∙◌, ap, sym, refl, ℕ, List, true, Bool, false, Option, Some, None, if◌then◌else◌, option_map}
use Rattle.std.specs.Option.{option_map_or}
use Rattle.dcm_base.specs.declared.tag.Tag.{Tag}
use Rattle.dcm_base.specs.declared.vr.Vr.{Vr}
use Rattle.dcm_base.specs.declared.vr.Vr.TheVariants.{SQ, UN, US, SS}
use Rattle.dcm_base.specs.declared.syntax.Syntax.{Syntax}
use Rattle.dcm_base.specs.declared.syntax.Syntax.TheVariants.{Implicit as implicit_in, Little as little_in, Big as big_in}
use Rattle.dcm_base.specs.declared.length.Length.{Length}
use Rattle.dcm_base.specs.declared.length.Length.TheVariants.{Known, Undefined}
use Rattle.dcm_base.specs.declared.dictionary.Dictionary.{Dictionary}
use Rattle.dcm_base.specs.declared.dictionary.Dictionary.TheVariants.{Extract, Standard, Signed}
use Rattle.dcm_base.specs.Tables.Tag.{tag_number}
use Rattle.dcm_base.specs.Tables.Representation.{is_sequence}
use Rattle.dcm_base.specs.Tables.Syntax.{dictionary_of, read_by}
use Rattle.dcm_base.specs.Tables.Dictionary.{vr_in, signed_vr, if_signed, element_in, elements_in, ambiguous, numbered, unlisted_vr}
use Rattle.dcm_base.specs.Bytes.Spelling.{a_sequence, form, inside, says_sign, is_one, after, dictionary_after, sign_after, read_in, read_as}

abbrev pub unsigned : Vr → Vr
unsigned SS = US
unsigned vr = vr

-- dictionaries that differ by the sign alone
abbrev pub Alike : Dictionary → Dictionary → Type 0
Alike e d = (t : Tag) → (unsigned (vr_in e t) ≡ unsigned (vr_in d t)) × (read_in e t UN ≡ read_in d t UN)

pub alike_then : (e d f : Dictionary) → Alike e d → Alike d f → Alike e f
alike_then e d f p q t = ((p t).0 ∙ (q t).0, (p t).1 ∙ (q t).1)

unsigned_signed : (vr : Vr) → unsigned (signed_vr vr) ≡ unsigned vr
unsigned_signed US = refl
unsigned_signed vr = refl

unsigned_row : (o : Option (Vr × List ℕ)) (other : Vr)
    → unsigned (option_map_or (λ (e : Vr × List ℕ). e.0) (option_map (λ (e : Vr × List ℕ). (signed_vr e.0, e.1)) o) other) ≡ unsigned (option_map_or (λ (e : Vr × List ℕ). e.0) o other)
unsigned_row None other = refl
unsigned_row (Some e) other = unsigned_signed e.0

found_or : (o : Option (Vr × List ℕ)) (v w : Vr) → unsigned v ≡ unsigned w → unsigned (option_map_or (λ (e : Vr × List ℕ). e.0) o v) ≡ unsigned (option_map_or (λ (e : Vr × List ℕ). e.0) o w)
found_or None v w same = same
found_or (Some e) v w same = refl

signed_same : (t : Tag) → unsigned (vr_in Signed t) ≡ unsigned (vr_in Standard t)
unfolding vr_in element_in elements_in
signed_same t = found_or (element_in Standard t) _ _ (unsigned_row (numbered ambiguous (tag_number t)) (unlisted_vr t))

unsigned_is_sequence : (v : Vr) → is_sequence (unsigned v) ≡ is_sequence v
unsigned_is_sequence SS = refl
unsigned_is_sequence v = refl

-- the sign makes no unknown element a sequence
signed_unknown : (t : Tag) → read_in Signed t UN ≡ read_in Standard t UN
signed_unknown t = ap (λ (c : Bool). if c then SQ else UN) (sym (unsigned_is_sequence (vr_in Signed t)) ∙ ap is_sequence (signed_same t) ∙ unsigned_is_sequence (vr_in Standard t))

if_signed_unknown : (b : Bool) (d : Dictionary) (t : Tag) → read_in (if_signed b d) t UN ≡ read_in d t UN
if_signed_unknown b Extract t = refl
if_signed_unknown true Standard t = signed_unknown t
if_signed_unknown false Standard t = refl
if_signed_unknown true Signed t = refl
if_signed_unknown false Signed t = sym (signed_unknown t)

if_signed_same : (b : Bool) (d : Dictionary) (t : Tag) → unsigned (vr_in (if_signed b d) t) ≡ unsigned (vr_in d t)
if_signed_same b Extract t = refl
if_signed_same true Standard t = signed_same t
if_signed_same false Standard t = refl
if_signed_same true Signed t = refl
if_signed_same false Signed t = sym (signed_same t)

after_alike : (c b : Bool) (d : Dictionary) → Alike (if c then if_signed b d else d) d
after_alike true b d t = (if_signed_same b d t, if_signed_unknown b d t)
after_alike false b d t = (refl, refl)

-- where pixels are signed and where they are not
pub signed_alike : Alike Signed Standard
signed_alike = after_alike true true Standard

pub unsigned_sequence : (vr : Vr) → unsigned vr ≡ SQ → vr ≡ SQ
unsigned_sequence SS e = absurd cc
unsigned_sequence vr e = e

pub sign_alike : (e : Dictionary) (t : Tag) (vr : Vr) (v : List ℕ) → Alike (sign_after e t vr v) e
unfolding sign_after
sign_alike e t vr v = after_alike (says_sign t) (is_one vr v) e

pub alike_behind : (e d : Dictionary) (t : Tag) (vr : Vr) (v : List ℕ) → Alike e d → Alike (dictionary_after e t vr v) d
alike_behind Extract d t vr v same = same
alike_behind Standard d t vr v same = alike_then _ Standard d (sign_alike Standard t vr v) same
alike_behind Signed d t vr v same = alike_then _ Signed d (sign_alike Signed t vr v) same

form_unsigned : (d : Dictionary) (v : Vr) → form (implicit_in d) (unsigned v) Undefined ≡ form (implicit_in d) v Undefined
unfolding form
form_unsigned d SS = refl
form_unsigned d v = refl

pub form_by : (e d : Dictionary) (v : Vr) → form (implicit_in d) v Undefined ≡ form (implicit_in e) v Undefined
unfolding form
form_by e d SQ = refl
form_by e d UN = refl
form_by e d v = refl

-- the form of an implicit head is told but for the sign
pub sequence_alike : (e d : Dictionary) (v w : Vr) → unsigned v ≡ unsigned w → form (implicit_in e) v Undefined ≡ a_sequence → form (implicit_in d) w Undefined ≡ a_sequence
sequence_alike e d v w same h = sym (form_unsigned d w) ∙ ap (λ (x : Vr). form (implicit_in d) x Undefined) (sym same) ∙ form_unsigned d v ∙ form_by e d v ∙ h

pub alike_self : (d : Dictionary) → Alike d d
alike_self d t = (refl, refl)

-- an element is read as the same by both
pub read_alike : (e d : Dictionary) (t : Tag) (vr : Vr) → Alike e d → read_in e t vr ≡ read_in d t vr
read_alike e d t UN same = (same t).1
read_alike Extract Extract t vr same = refl
read_alike Extract Standard t vr same = refl
read_alike Extract Signed t vr same = refl
read_alike Standard Extract t vr same = refl
read_alike Standard Standard t vr same = refl
read_alike Standard Signed t vr same = refl
read_alike Signed Extract t vr same = refl
read_alike Signed Standard t vr same = refl
read_alike Signed Signed t vr same = refl

pub read_by_dictionary : (d : Dictionary) (s : Syntax) → dictionary_of (read_by d s) ≡ d
read_by_dictionary d (implicit_in e) = refl
read_by_dictionary d (little_in e) = refl
read_by_dictionary d (big_in e) = refl

pub inside_dictionary : (s : Syntax) (vr : Vr) → dictionary_of (inside s vr) ≡ dictionary_of s
unfolding inside
inside_dictionary s UN = refl
inside_dictionary s vr = refl

-- what comes after a leaf is read by such a dictionary
pub after_leaf_alike : (s : Syntax) (t : Tag) (vr : Vr) (v : List ℕ) → Alike (dictionary_after (dictionary_of s) t vr v) (dictionary_of s)
after_leaf_alike s t vr v = alike_behind (dictionary_of s) (dictionary_of s) t vr v (alike_self (dictionary_of s))

-- ---- the representation by which an element is read

pub read_sequence : (s : Syntax) (t : Tag) → read_as s t SQ ≡ SQ
read_sequence (implicit_in d) t = refl
read_sequence (little_in Extract) t = refl
read_sequence (little_in Standard) t = refl
read_sequence (little_in Signed) t = refl
read_sequence (big_in Extract) t = refl
read_sequence (big_in Standard) t = refl
read_sequence (big_in Signed) t = refl

unknown_form : (s : Syntax) (c : Bool) → form s (if c then SQ else UN) Undefined ≡ form s UN Undefined
unfolding form
unknown_form s true = refl
unknown_form s false = refl

-- of undefined length an element is the same either way
undefined_in : (s : Syntax) (d : Dictionary) (t : Tag) (vr : Vr) → form s (read_in d t vr) Undefined ≡ form s vr Undefined
undefined_in s Extract t vr = refl
undefined_in s Standard t UN = unknown_form s (is_sequence (vr_in Standard t))
undefined_in s Standard t vr = refl
undefined_in s Signed t UN = unknown_form s (is_sequence (vr_in Signed t))
undefined_in s Signed t vr = refl

pub undefined_same : (s : Syntax) (t : Tag) (vr : Vr) → form s (read_as s t vr) Undefined ≡ form s vr Undefined
undefined_same (implicit_in d) t vr = refl
undefined_same (little_in d) t vr = undefined_in (little_in d) d t vr
undefined_same (big_in d) t vr = undefined_in (big_in d) d t vr
