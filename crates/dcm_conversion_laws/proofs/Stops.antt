-- A machine stops where one with the extract stops, where an element that this one goes on with says what it holds. But an
-- unknown head may be too deep for it that is barred there.
use Rattle.std.proofs.Common.{◌≡◌, ◌≢◌, ◌∙◌, ap, sym, refl, subst, ℕ, ◌+◌, List, [], ◌∷◌, length, drop, Option, Some, None, Bool, true, false, not, inl, inr, ◌⊎◌}
use Rattle.std.specs.Prelude.{◌==◌, ◌&&◌, nat_le, nat_lt, if◌then◌else◌}
use Rattle.dcm_base.specs.declared.dictionary.Dictionary.{Dictionary}
use Rattle.dcm_base.specs.declared.dictionary.Dictionary.TheVariants.{Extract, Standard, Signed}
use Rattle.dcm_base.specs.declared.fault.Fault.{Fault}
use Rattle.dcm_base.specs.declared.fault.Fault.TheVariants.{EndsEarly, PassesEnd, TagNotAllowed, TooDeep, UndefinedLength}
use Rattle.dcm_base.specs.declared.form.Form.{Form}
use Rattle.dcm_base.specs.declared.form.Form.TheVariants.{Value as a_value, Sequence as a_sequence}
use Rattle.dcm_base.specs.declared.length.Length.{Length}
use Rattle.dcm_base.specs.declared.length.Length.TheVariants.{Known, Undefined}
use Rattle.dcm_base.specs.declared.level.Container.{Container}
use Rattle.dcm_base.specs.declared.level.Level.{Level}
use Rattle.dcm_base.specs.declared.syntax.Syntax.{Syntax}
use Rattle.dcm_base.specs.declared.syntax.Syntax.TheVariants.{Implicit as implicit_in, Little as little_in, Big as big_in}
use Rattle.dcm_base.specs.declared.tag.Tag.{Tag}
use Rattle.dcm_base.specs.declared.vr.Vr.{Vr}
use Rattle.dcm_base.specs.declared.vr.Vr.TheVariants.{SQ, UN}
use Rattle.dcm_base.specs.Bytes.Head.{head_size, length_at, long_length, tag_at, vr_at}
use Rattle.dcm_base.specs.Bytes.Spelling.{form, read_as, read_in}
use Rattle.dcm_base.specs.Conversion.Recode.{is_explicit}
use Rattle.dcm_base.specs.Reading.Place.{counts, depth, distance, is_allowed, is_undefined, least, passes, room}
use Rattle.dcm_base.specs.Reading.Stop.{HeadBar, Stop, barred, complete, element_stop, first_case, has_no_form, is_fragment_list, head_stop, is_empty, is_the_data_set, item_stop, opens_list, or_else, place_stop, refused, with_length}
use Rattle.dcm_base.specs.Tables.Dictionary.{vr_in}
use Rattle.dcm_base.specs.Tables.Number.{number}
use Rattle.dcm_base.specs.Tables.Representation.{is_sequence}
use Rattle.dcm_base.specs.Tables.Syntax.{dictionary_of}
use Rattle.dcm_base.specs.Tables.Tag.{is_item}
use Rattle.dcm_base.proofs.DataSets.After.{tag_at_by}
use Rattle.dcm_base.proofs.DataSets.Alike.{Alike}
use Rattle.dcm_stream.specs.Reading.{in_syntax}
use Rattle.dcm_conversion_laws.proofs.Plain.{explicit_read, form_plain, plain, read_plain}

-- ---- what is open

abbrev pub plain_levels : List Level → List Level
plain_levels [] = []
plain_levels (l ∷ ls) = in_syntax (plain l.syntax) l ∷ plain_levels ls

-- explicit, and read by the dictionary, whatever the sign
abbrev pub KnownLevels : Dictionary → List Level → Type 0
KnownLevels e [] = Unit {0}
KnownLevels e (l ∷ ls) = (is_explicit l.syntax ≡ true) × Alike (dictionary_of l.syntax) e × KnownLevels e ls

pub room_plain : (p : ℕ) (ls : List Level) → room p (plain_levels ls) ≡ room p ls
unfolding room
room_plain p [] = refl
room_plain p (l ∷ ls) = ap (least (distance p l.end_offset)) (room_plain p ls)

depth_plain : (ls : List Level) → depth (plain_levels ls) ≡ depth ls
unfolding depth
depth_plain [] = refl
depth_plain (l ∷ ls) = ap (λ (n : ℕ). counts l.container + n) (depth_plain ls)

-- ---- heads

pub tag_plain : (s : Syntax) (b : List ℕ) → tag_at (plain s) b ≡ tag_at s b
tag_plain s b = tag_at_by Extract s b

pub vr_plain : (s : Syntax) (b : List ℕ) → is_explicit s ≡ true → vr_at (plain s) b ≡ vr_at s b
unfolding vr_at
vr_plain (implicit_in d) b e = absurd (cc)
vr_plain (little_in d) b e = refl
vr_plain (big_in d) b e = refl

pub length_plain : (s : Syntax) (vr : Vr) (b : List ℕ) → length_at (plain s) vr b ≡ length_at s vr b
unfolding length_at
length_plain (implicit_in d) vr b = refl
length_plain (little_in d) vr b = refl
length_plain (big_in d) vr b = refl

pub size_plain : (s : Syntax) (vr : Vr) → head_size (plain s) vr ≡ head_size s vr
size_plain (implicit_in d) vr = refl
size_plain (little_in d) vr = refl
size_plain (big_in d) vr = refl

pub number_plain : (s : Syntax) (n : ℕ) (b : List ℕ) → number (plain s) n b ≡ number s n b
number_plain (implicit_in d) n b = refl
number_plain (little_in d) n b = refl
number_plain (big_in d) n b = refl

-- ---- forms

is_unknown : (vr : Vr) → (vr ≡ UN) ⊎ (vr ≢ UN)
is_unknown UN = inl refl
is_unknown vr = inr (λ e. (cc))

known_read : (d : Dictionary) (tag : Tag) (vr : Vr) → vr ≢ UN → read_in d tag vr ≡ vr
known_read d tag UN other = absurd (other refl)
known_read Extract tag vr other = refl
known_read Standard tag vr other = refl
known_read Signed tag vr other = refl

unknown_or_list : (c : Bool) → ((if c then SQ else UN) ≡ UN) ⊎ ((if c then SQ else UN) ≡ SQ)
unknown_or_list true = inr refl
unknown_or_list false = inl refl

unknown_read : (d : Dictionary) (tag : Tag) → (read_in d tag UN ≡ UN) ⊎ (read_in d tag UN ≡ SQ)
unknown_read Extract tag = inl refl
unknown_read Standard tag = unknown_or_list (is_sequence (vr_in Standard tag))
unknown_read Signed tag = unknown_or_list (is_sequence (vr_in Signed tag))

value_form : (s : Syntax) (n : ℕ) → form s UN (Known n) ≡ a_value
unfolding form
value_form s n = refl

open_form : (s : Syntax) → form s UN Undefined ≡ a_sequence
unfolding form
open_form s = refl

list_form : (s : Syntax) (declared : Length) → form s SQ declared ≡ a_sequence
unfolding form
list_form s declared = refl

-- a head is of one form to both, but for an unknown value of a tag that the dictionary calls a sequence
pub data Forms (s : Syntax) (tag : Tag) (vr : Vr) (declared : Length) : Type 0 where
  same : form (plain s) (read_as (plain s) tag vr) declared ≡ form s (read_as s tag vr) declared → Forms s tag vr declared
  differ : vr ≡ UN → read_in (dictionary_of s) tag UN ≡ SQ → form (plain s) (read_as (plain s) tag vr) declared ≡ a_value → form s (read_as s tag vr) declared ≡ a_sequence → Forms s tag vr declared

plain_form : (s : Syntax) (tag : Tag) (vr : Vr) (declared : Length) → form (plain s) (read_as (plain s) tag vr) declared ≡ form s vr declared
plain_form s tag vr declared = ap (λ (x : Vr). form (plain s) x declared) (read_plain s tag vr) ∙ form_plain s vr declared

own_form : (s : Syntax) (tag : Tag) (vr w : Vr) (declared : Length) → is_explicit s ≡ true → read_in (dictionary_of s) tag vr ≡ w → form s (read_as s tag vr) declared ≡ form s w declared
own_form s tag vr w declared e is = ap (λ (x : Vr). form s x declared) (explicit_read s tag vr e ∙ is)

unknown_forms : (s : Syntax) (tag : Tag) (declared : Length) → is_explicit s ≡ true → (read_in (dictionary_of s) tag UN ≡ UN) ⊎ (read_in (dictionary_of s) tag UN ≡ SQ) → Forms s tag UN declared
unknown_forms s tag declared e (inl is) = same (plain_form s tag UN declared ∙ sym (own_form s tag UN UN declared e is))
unknown_forms s tag (Known n) e (inr is) = differ refl is (plain_form s tag UN (Known n) ∙ value_form s n) (own_form s tag UN SQ (Known n) e is ∙ list_form s (Known n))
unknown_forms s tag Undefined e (inr is) = same (plain_form s tag UN Undefined ∙ open_form s ∙ sym (own_form s tag UN SQ Undefined e is ∙ list_form s Undefined))

forms_by : (s : Syntax) (tag : Tag) (vr : Vr) (declared : Length) → is_explicit s ≡ true → (vr ≡ UN) ⊎ (vr ≢ UN) → Forms s tag vr declared
forms_by s tag vr declared e (inl un) = subst (λ (x : Vr). Forms s tag x declared) (sym un) (unknown_forms s tag declared e (unknown_read (dictionary_of s) tag))
forms_by s tag vr declared e (inr other) = same (plain_form s tag vr declared ∙ sym (own_form s tag vr vr declared e (known_read (dictionary_of s) tag vr other)))

pub forms : (s : Syntax) (tag : Tag) (vr : Vr) (declared : Length) → is_explicit s ≡ true → Forms s tag vr declared
forms s tag vr declared e = forms_by s tag vr declared e (is_unknown vr)

not_both : UN ≡ SQ → ⊥
not_both e = cc

-- what says that it is unknown to the dictionary is no sequence to it
pub never_list : (e d : Dictionary) (tag : Tag) (vr : Vr) → Alike d e → vr ≡ UN → read_in d tag UN ≡ SQ → read_in e tag vr ≡ vr → ⊥
never_list e d tag vr alike un list says =
    not_both (sym (subst (λ (x : Vr). read_in e tag x ≡ x) un says) ∙ sym (alike tag).1 ∙ list)

-- ---- an element

abbrev stop_of : Option Fault → (head : ℕ) → Length → Option ℕ → ℕ → Form → ℕ → List ℕ → Option Stop
stop_of bar head declared space lists kind p rest = first_case (
    (passes head space, refused PassesEnd p)
    ∷ (nat_lt (length rest) head, refused EndsEarly (p + length rest))
    ∷ (has_no_form kind, refused UndefinedLength p)
    ∷ (passes (with_length head declared) space, refused PassesEnd p)
    ∷ (opens_list kind && nat_le 64 lists, refused TooDeep p)
    ∷ barred bar p)

-- of what bars an unknown head, each fault is a late one: the one stops with it, and the other first as it is too deep
pub record Deeper (Late : Fault → Type 0) (p : ℕ) (x y : Option Stop) : Type 0 where
  pub fault : Fault
  pub late : Late fault
  pub first_is : x ≡ Some (refused fault p)
  pub other_is : y ≡ Some (refused TooDeep p)

abbrev pub Near : (Fault → Type 0) → ℕ → Option Stop → Option Stop → Type 0
Near Late p x y = (x ≡ y) ⊎ Deeper Late p x y

last_near : (Late : Fault → Type 0) (q : Bool) (o : Option Fault) (p : ℕ) → ((fault : Fault) → o ≡ Some fault → Late fault) → (first_case (barred o p) ≡ None → ⊥) → Near Late p (first_case (barred o p)) (if q then Some (refused TooDeep p) else first_case (barred o p))
last_near Late q None p late some = absurd (some refl)
last_near Late true (Some fault) p late some = inr (record { fault = fault; late = late fault refl; first_is = refl; other_is = refl })
last_near Late false (Some fault) p late some = inl refl

earlier_near : (Late : Fault → Type 0) (c : Bool) (stop : Stop) (a b : Option Stop) (p : ℕ) → ((if c then Some stop else a) ≡ None → ⊥) → ((a ≡ None → ⊥) → Near Late p a b) → Near Late p (if c then Some stop else a) (if c then Some stop else b)
earlier_near Late true stop a b p some near = inl refl
earlier_near Late false stop a b p some near = near some

kinds_near : (Late : Fault → Type 0) (bar : Option Fault) (head : ℕ) (declared : Length) (space : Option ℕ) (lists p : ℕ) (rest : List ℕ) → ((fault : Fault) → bar ≡ Some fault → Late fault) → (stop_of bar head declared space lists a_value p rest ≡ None → ⊥)
    → Near Late p (stop_of bar head declared space lists a_value p rest) (stop_of bar head declared space lists a_sequence p rest)
kinds_near Late bar head declared space lists p rest late some =
    let last : Option Stop = first_case (barred bar p) in
    let deep : Option Stop = if nat_le 64 lists then Some (refused TooDeep p) else last in
    let c : Bool = passes (with_length head declared) space in
    let b : Bool = nat_lt (length rest) head in
    earlier_near Late (passes head space) (refused PassesEnd p) (if b then Some (refused EndsEarly (p + length rest)) else if c then Some (refused PassesEnd p) else last) (if b then Some (refused EndsEarly (p + length rest)) else if c then Some (refused PassesEnd p) else deep) p some (λ some.
    earlier_near Late b (refused EndsEarly (p + length rest)) (if c then Some (refused PassesEnd p) else last) (if c then Some (refused PassesEnd p) else deep) p some (λ some.
    earlier_near Late c (refused PassesEnd p) last deep p some (λ some. last_near Late (nat_le 64 lists) bar p late some)))

near_from : (Late : Fault → Type 0) (p : ℕ) (x y z : Option Stop) → x ≡ y → Near Late p y z → Near Late p x z
near_from Late p x y z e (inl f) = inl (e ∙ f)
near_from Late p x y z e (inr d) = inr (record { fault = d.fault; late = d.late; first_is = e ∙ d.first_is; other_is = d.other_is })

near_to : (Late : Fault → Type 0) (p : ℕ) (x y z : Option Stop) → Near Late p x y → y ≡ z → Near Late p x z
near_to Late p x y z (inl f) e = inl (f ∙ e)
near_to Late p x y z (inr d) e = inr (record { fault = d.fault; late = d.late; first_is = d.first_is; other_is = sym e ∙ d.other_is })

-- an unknown head is barred with a late fault alone
abbrev pub BarsLate : (Fault → Type 0) → HeadBar → Type 0
BarsLate Late bar = (tag : Tag) (declared : Length) (fault : Fault) → bar tag UN declared ≡ Some fault → Late fault

module _ (Late : Fault → Type 0) (e : Dictionary) (bar : HeadBar) (bars_late : BarsLate Late bar) where
  module _ (s : Syntax) (explicit : is_explicit s ≡ true) (alike : Alike (dictionary_of s) e) (ls : List Level) (p : ℕ) (rest : List ℕ) where
    abbrev tag : Tag
    tag = tag_at s rest

    -- the element that goes on says what it holds
    abbrev Says : Option Stop → Vr → Type 0
    Says stop vr = stop ≡ None → form (plain s) (read_as (plain s) tag vr) (length_at s vr rest) ≡ a_value → read_in e tag vr ≡ vr

    parts_plain : (vr : Vr) → element_stop bar (plain s) (plain_levels ls) p rest (Some vr) ≡ stop_of (bar tag vr (length_at s vr rest)) (head_size s vr) (length_at s vr rest) (room p ls) (depth ls) (form (plain s) (read_as (plain s) tag vr) (length_at s vr rest)) p rest
    parts_plain vr =
        ap (λ (t : Tag). stop_of (bar t vr (length_at (plain s) vr rest)) (head_size (plain s) vr) (length_at (plain s) vr rest) (room p (plain_levels ls)) (depth (plain_levels ls)) (form (plain s) (read_as (plain s) t vr) (length_at (plain s) vr rest)) p rest) (tag_plain s rest)
        ∙ ap (λ (l : Length). stop_of (bar tag vr l) (head_size (plain s) vr) l (room p (plain_levels ls)) (depth (plain_levels ls)) (form (plain s) (read_as (plain s) tag vr) l) p rest) (length_plain s vr rest)
        ∙ ap (λ (n : ℕ). stop_of (bar tag vr (length_at s vr rest)) n (length_at s vr rest) (room p (plain_levels ls)) (depth (plain_levels ls)) (form (plain s) (read_as (plain s) tag vr) (length_at s vr rest)) p rest) (size_plain s vr)
        ∙ ap (λ (r : Option ℕ). stop_of (bar tag vr (length_at s vr rest)) (head_size s vr) (length_at s vr rest) r (depth (plain_levels ls)) (form (plain s) (read_as (plain s) tag vr) (length_at s vr rest)) p rest) (room_plain p ls)
        ∙ ap (λ (n : ℕ). stop_of (bar tag vr (length_at s vr rest)) (head_size s vr) (length_at s vr rest) (room p ls) n (form (plain s) (read_as (plain s) tag vr) (length_at s vr rest)) p rest) (depth_plain ls)

    by_forms : (vr : Vr) → Forms s tag vr (length_at s vr rest) → Says (element_stop bar (plain s) (plain_levels ls) p rest (Some vr)) vr
        → Near Late p (element_stop bar (plain s) (plain_levels ls) p rest (Some vr)) (element_stop bar s ls p rest (Some vr))
    by_forms vr (same is) says = inl (parts_plain vr ∙ ap (λ (k : Form). stop_of (bar tag vr (length_at s vr rest)) (head_size s vr) (length_at s vr rest) (room p ls) (depth ls) k p rest) is)
    by_forms vr (differ un list value sequence) says =
        let of : Form → Option Stop = λ k. stop_of (bar tag vr (length_at s vr rest)) (head_size s vr) (length_at s vr rest) (room p ls) (depth ls) k p rest in
        let first : element_stop bar (plain s) (plain_levels ls) p rest (Some vr) ≡ of a_value = parts_plain vr ∙ ap of value in
        near_from Late p (element_stop bar (plain s) (plain_levels ls) p rest (Some vr)) (of a_value) (element_stop bar s ls p rest (Some vr)) first
        (near_to Late p (of a_value) (of a_sequence) (element_stop bar s ls p rest (Some vr))
        (kinds_near Late (bar tag vr (length_at s vr rest)) (head_size s vr) (length_at s vr rest) (room p ls) (depth ls) p rest
        (λ fault is. bars_late tag (length_at s vr rest) fault (sym (ap (λ (x : Vr). bar tag x (length_at s vr rest)) un) ∙ is))
        (λ none. never_list e (dictionary_of s) tag vr alike un list (says (first ∙ none) value)))
        (ap of (sym sequence)))

    element_alike : (o : Option Vr) → ((vr : Vr) → o ≡ Some vr → Says (element_stop bar (plain s) (plain_levels ls) p rest o) vr) → Near Late p (element_stop bar (plain s) (plain_levels ls) p rest o) (element_stop bar s ls p rest o)
    element_alike None says = inl refl
    element_alike (Some vr) says = by_forms vr (forms s tag vr (length_at s vr rest) explicit) (says vr refl)

  -- ---- a place

  item_alike : (c : Container) (ls : List Level) (p : ℕ) (declared : Length) → item_stop c (plain_levels ls) p declared ≡ item_stop c ls p declared
  item_alike c ls p declared = ap (λ (r : Option ℕ). first_case ((is_fragment_list c && is_undefined declared, refused UndefinedLength p) ∷ (passes (with_length 8 declared) r, refused PassesEnd p) ∷ [])) (room_plain p ls)

  branch_alike : (a : Bool) (x y i j : Option Stop) (p : ℕ) → (a ≡ true → Near Late p x y) → i ≡ j → Near Late p (if a then x else i) (if a then y else j)
  branch_alike true x y i j p f g = f refl
  branch_alike false x y i j p f g = inl g

  after_alike : (before x y : Option Stop) (p : ℕ) → (before ≡ None → Near Late p x y) → Near Late p (or_else before x) (or_else before y)
  after_alike None x y p f = f refl
  after_alike (Some stop) x y p f = inl refl

  after_none : (before x : Option Stop) → before ≡ None → x ≡ None → or_else before x ≡ None
  after_none None x b n = n
  after_none (Some stop) x b n = b

  branch_none : (a : Bool) (x i : Option Stop) → a ≡ true → x ≡ None → (if a then x else i) ≡ None
  branch_none true x i t n = n
  branch_none false x i t n = absurd (cc)

  -- where l is the innermost one: its syntax is a variable of its own
  module _ (l : Level) (explicit : is_explicit l.syntax ≡ true) (alike : Alike (dictionary_of l.syntax) e) (around : List Level) (p : ℕ) (rest : List ℕ) where
    abbrev s : Syntax
    s = l.syntax

    abbrev here : Level
    here = in_syntax (plain s) l

    abbrev is_element : Bool
    is_element = not ((tag_at s rest).group == 0xFFFE)

    abbrev first_stop : Option Vr → Option Stop
    first_stop o = element_stop bar (plain s) (plain_levels around) p rest o

    abbrev item_part : Option Stop
    item_part = if is_item (tag_at s rest) then item_stop l.container (plain_levels around) p (long_length (number (plain s) 4 (drop 4 rest))) else None

    head_parts : head_stop bar here (plain_levels around) p rest ≡ (if is_element then first_stop (vr_at s rest) else item_part)
    head_parts =
        ap (λ (t : Tag). if not (t.group == 0xFFFE) then first_stop (vr_at (plain s) rest) else (if is_item t then item_stop l.container (plain_levels around) p (long_length (number (plain s) 4 (drop 4 rest))) else None)) (tag_plain s rest)
        ∙ ap (λ (o : Option Vr). if is_element then first_stop o else item_part) (vr_plain s rest explicit)

    -- the element that a place goes on with says what it holds
    abbrev pub Goes : Option Stop → Type 0
    Goes stop = stop ≡ None → (vr : Vr) → vr_at s rest ≡ Some vr → is_element ≡ true → form (plain s) (read_as (plain s) (tag_at s rest) vr) (length_at s vr rest) ≡ a_value → read_in e (tag_at s rest) vr ≡ vr

    items_plain : item_part ≡ (if is_item (tag_at s rest) then item_stop l.container around p (long_length (number s 4 (drop 4 rest))) else None)
    items_plain =
        ap (λ (o : Option Stop). if is_item (tag_at s rest) then o else None)
        (item_alike l.container around p (long_length (number (plain s) 4 (drop 4 rest))) ∙ ap (λ (n : ℕ). item_stop l.container around p (long_length n)) (number_plain s 4 (drop 4 rest)))

    abbrev own_items : Option Stop
    own_items = if is_item (tag_at s rest) then item_stop l.container around p (long_length (number s 4 (drop 4 rest))) else None

    head_alike : Goes (head_stop bar here (plain_levels around) p rest) → Near Late p (head_stop bar here (plain_levels around) p rest) (head_stop bar l around p rest)
    head_alike goes =
        near_from Late p (head_stop bar here (plain_levels around) p rest) (if is_element then first_stop (vr_at s rest) else item_part) (head_stop bar l around p rest) head_parts
        (branch_alike is_element (first_stop (vr_at s rest)) (element_stop bar s around p rest (vr_at s rest)) item_part own_items p
        (λ t. element_alike s explicit alike around p rest (vr_at s rest) (λ vr is none value. goes (head_parts ∙ branch_none is_element (first_stop (vr_at s rest)) item_part t none) vr is t value))
        items_plain)

    abbrev before : Option ℕ → Tag → Option Stop
    before r t = first_case (
        (passes 8 r, refused PassesEnd p)
        ∷ (is_the_data_set l.container && is_empty rest, complete)
        ∷ (nat_lt (length rest) 8, refused EndsEarly (p + length rest))
        ∷ (not (is_allowed l.container l.declared t), refused TagNotAllowed p)
        ∷ [])

    place_parts : place_stop bar here (plain_levels around) p rest ≡ or_else (before (room p around) (tag_at s rest)) (head_stop bar here (plain_levels around) p rest)
    place_parts =
        ap (λ (r : Option ℕ). or_else (before r (tag_at (plain s) rest)) (head_stop bar here (plain_levels around) p rest)) (room_plain p around)
        ∙ ap (λ (t : Tag). or_else (before (room p around) t) (head_stop bar here (plain_levels around) p rest)) (tag_plain s rest)

    pub place_alike : Goes (place_stop bar here (plain_levels around) p rest) → Near Late p (place_stop bar here (plain_levels around) p rest) (place_stop bar l around p rest)
    place_alike goes =
        near_from Late p (place_stop bar here (plain_levels around) p rest) (or_else (before (room p around) (tag_at s rest)) (head_stop bar here (plain_levels around) p rest)) (place_stop bar l around p rest) place_parts
        (after_alike (before (room p around) (tag_at s rest)) (head_stop bar here (plain_levels around) p rest) (head_stop bar l around p rest) p
        (λ b. head_alike (λ none. goes (place_parts ∙ after_none (before (room p around) (tag_at s rest)) (head_stop bar here (plain_levels around) p rest) b none))))
