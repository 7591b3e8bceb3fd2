-- The edits that the words of a command line mean.
use Rattle.std.specs.Prelude.{ℕ, suc, List, [], ◌∷◌, length, Option, Some, None, option_map, unwrap_or, Result, Ok, Err}
use Rattle.std.specs.Prelude.{Bool, true, false, ◌&&◌, ◌||◌, ◌==◌, not, nat_le, nat_lt, if◌then◌else◌, codes, bytes_eq}
use Rattle.std.specs.List.{list_all, slice_split}
use Rattle.std.specs.Option.{is_some}
use Rattle.std.specs.Str.{byte}
use Rattle.dcm_base.specs.declared.tag.Tag.{Tag}
use Rattle.dcm_base.specs.declared.tag.TheConstants.{META_GROUP}
use Rattle.dcm_base.specs.declared.vr.Vr.{Vr}
use Rattle.dcm_base.specs.declared.fault.EditRefusal.{EditRefusal}
use Rattle.dcm_base.specs.declared.fault.EditRefusal.TheVariants.{BadOption, UnknownTag, ValueDoesNotFit}
use Rattle.dcm_base.specs.declared.fault.EditRefusal.TheVariants.{SequenceMisused, MetaGroup, Overlap, TooMany}
use Rattle.dcm_base.specs.Tables.Representation.{is_sequence}
use Rattle.dcm_base.specs.declared.dictionary.Dictionary.{Dictionary}
use Rattle.dcm_base.specs.declared.dictionary.Dictionary.TheVariants.{Extract, Standard}
use Rattle.dcm_base.specs.Tables.Dictionary.{element_in, tag_in}
use Rattle.dcm_base.specs.Lines.ReadValue.{tag_of_text, number_in, value_of_word}
use Rattle.dcm_edits.specs.declared.parse.Settings.{Settings}
use Rattle.dcm_edits.specs.Edit.{Index, number, every, PathEdit, step, insert, modify, erase, erase_item, Edit, on_path}
use Rattle.dcm_edits.specs.Edit.{modify_all, erase_all, erase_private}
use Rattle.dcm_edits.specs.Overlap.{first_overlap}

infixl 10 ◌>>=◌
abbrev pub ◌>>=◌ : {A B : Type 0} → Result A EditRefusal → (A → Result B EditRefusal) → Result B EditRefusal
(Ok x) >>= f = f x
(Err e) >>= f = Err e

-- a tag as it is written, by number or by keyword, and the index after it
pub data TagName : Type 0 where
  by_number : (tag : Tag) → TagName
  by_keyword : (word : List ℕ) → TagName

-- what is between two dots of a path
pub record PathPart : Type 0 where
  pub name : TagName
  pub index : Option Index

abbrev pub or_refuse : {A : Type 0} → EditRefusal → Option A → Result A EditRefusal
or_refuse u None = Err u
or_refuse u (Some x) = Ok x

-- the bytes that no keyword has
abbrev pub is_of_path : ℕ → Bool
is_of_path c = c == byte "." || c == byte "[" || c == byte "]"

abbrev pub is_keyword : List ℕ → Bool
is_keyword cs = list_all (λ c. not (is_of_path c)) cs

-- a name that begins with a parenthesis is a number, and any other one is a keyword
abbrev pub tag_name : List ℕ → Option TagName
tag_name [] = None
tag_name (c ∷ cs) =
    if c == byte "("
    then option_map by_number (tag_of_text (c ∷ cs))
    else (if is_keyword (c ∷ cs) then Some (by_keyword (c ∷ cs)) else None)

-- a star, or 1 to 9 digits
abbrev pub index_of : List ℕ → Option Index
index_of text =
    if bytes_eq text (codes "*")
    then Some every
    else (if nat_le 1 (length text) && nat_le (length text) 9 then option_map number (number_in 10 0 text) else None)

-- a text cut at the first byte of a kind, with that byte in neither part
pub record Cut : Type 0 where
  pub before : List ℕ
  pub after : Option (List ℕ)

abbrev pub cut : List ℕ → Option (List ℕ) → Cut
cut before after = record { before = before; after = after }

abbrev pub onto : ℕ → Cut → Cut
onto c k = cut (c ∷ k.before) k.after

abbrev pub cut_at : ℕ → List ℕ → Cut
cut_at b [] = cut [] None
cut_at b (c ∷ cs) = if c == b then cut [] (Some cs) else onto c (cut_at b cs)

-- an index in brackets, which end the part
abbrev pub with_index : Option TagName → Cut → Option PathPart
with_index None k = None
with_index (Some s) k = elim k.after [
  | None ↦ None
  | Some rest ↦ (if bytes_eq rest [] then option_map (λ i. record { name = s; index = Some i }) (index_of k.before)
      else None)
]

abbrev pub part_of_cut : Cut → Option PathPart
part_of_cut k = elim k.after [
  | None ↦ option_map (λ s. record { name = s; index = None }) (tag_name k.before)
  | Some inside ↦ with_index (tag_name k.before) (cut_at (byte "]") inside)
]

abbrev pub part_of : List ℕ → Option PathPart
part_of text = part_of_cut (cut_at (byte "[") text)

abbrev pub prepended : PathPart → Option (List PathPart) → Option (List PathPart)
prepended m o = option_map (λ ms. m ∷ ms) o

abbrev pub parts_of : List (List ℕ) → Option (List PathPart)
parts_of [] = Some []
parts_of (part ∷ parts) = elim (part_of part) [ None ↦ None | Some m ↦ prepended m (parts_of parts) ]

-- -i, -m, -e, -ma and -ea
pub data Kind : Type 0 where
  inserts modifies erases modifies_all erases_all : Kind

abbrev pub has_index : PathPart → Bool
has_index m = is_some m.index

-- every part but the last has an index
abbrev pub leads : List PathPart → Bool
leads [] = false
leads (m ∷ []) = true
leads (m ∷ n ∷ ms) = has_index m && leads (n ∷ ms)

abbrev pub ends_in_tag : List PathPart → Bool
ends_in_tag [] = false
ends_in_tag (m ∷ []) = not (has_index m)
ends_in_tag (m ∷ n ∷ ms) = ends_in_tag (n ∷ ms)

-- the indexes of a path at most
abbrev pub DEPTH_LIMIT : ℕ
DEPTH_LIMIT = 64

abbrev pub index_count : List PathPart → ℕ
index_count [] = 0
index_count (m ∷ ms) = if has_index m then suc (index_count ms) else index_count ms

-- at most 64 indexes; a path that erases may end in an item, and -ma and -ea take one tag alone
abbrev pub has_form : Kind → List PathPart → Bool
has_form inserts ms = leads ms && ends_in_tag ms && nat_le (index_count ms) DEPTH_LIMIT
has_form modifies ms = leads ms && ends_in_tag ms && nat_le (index_count ms) DEPTH_LIMIT
has_form erases ms = leads ms && nat_le (index_count ms) DEPTH_LIMIT
has_form modifies_all ms = length ms == 1 && ends_in_tag ms
has_form erases_all ms = length ms == 1 && ends_in_tag ms

-- a part whose tag is known
pub record Known : Type 0 where
  pub tag : Tag
  pub vr : Vr
  pub index : Option Index

-- a tag of the dictionary, but of no meta group
abbrev pub known_tag : Dictionary → Option Index → Tag → Result Known EditRefusal
known_tag d index tag =
    if tag.group == META_GROUP
    then Err MetaGroup
    else (or_refuse UnknownTag (element_in d tag) >>= λ e. Ok (record { tag = tag; vr = e.0; index = index }))

abbrev pub known_part : Dictionary → TagName → Option Index → Result Known EditRefusal
known_part d (by_number tag) index = known_tag d index tag
known_part d (by_keyword word) index = or_refuse UnknownTag (tag_in d word) >>= known_tag d index

abbrev pub known_parts : Dictionary → List PathPart → Result (List Known) EditRefusal
known_parts d [] = Ok []
known_parts d (m ∷ ms) = known_part d m.name m.index >>= λ k. known_parts d ms >>= λ ks. Ok (k ∷ ks)

abbrev pub is_indexed : Known → Bool
is_indexed k = is_some k.index

-- each indexed tag is a sequence's, and a new value is no sequence's
abbrev pub uses_sequences : Bool → List Known → Bool
uses_sequences valued [] = true
uses_sequences valued (k ∷ ks) =
    (if is_indexed k then is_sequence k.vr else not (valued && is_sequence k.vr)) && uses_sequences valued ks

abbrev pub takes_value : Kind → Bool
takes_value inserts = true
takes_value modifies = true
takes_value modifies_all = true
takes_value erases = false
takes_value erases_all = false

abbrev pub item_or_element : Tag → Option Index → PathEdit
item_or_element tag None = erase tag
item_or_element tag (Some index) = erase_item tag index

abbrev pub step_to : Tag → Option Index → PathEdit → PathEdit
step_to tag None edit = edit
step_to tag (Some index) edit = step tag index edit

-- the representation of the last part, from the first part and those after it
abbrev pub last_vr : Known → List Known → Vr
last_vr k [] = k.vr
last_vr k (l ∷ ks) = last_vr l ks

-- the edit at the last part, and the steps to it
abbrev pub on_steps : (Known → PathEdit) → Known → List Known → PathEdit
on_steps at_end k [] = at_end k
on_steps at_end k (l ∷ ks) = step_to k.tag k.index (on_steps at_end l ks)

-- the edit on a path with its value
abbrev pub edit_on : Kind → Known → List Known → List ℕ → Edit
edit_on inserts k ks value = on_path (on_steps (λ x. insert x.tag x.vr value) k ks)
edit_on modifies k ks value = on_path (on_steps (λ x. modify x.tag x.vr value) k ks)
edit_on erases k ks value = on_path (on_steps (λ x. item_or_element x.tag x.index) k ks)
edit_on modifies_all k ks value = modify_all k.tag k.vr value
edit_on erases_all k ks value = erase_all k.tag

-- the value of a new element, by the dictionary's representation of its tag
abbrev pub value_for : Kind → Vr → List ℕ → Result (List ℕ) EditRefusal
value_for kind vr text = or_refuse ValueDoesNotFit (if takes_value kind then value_of_word vr text else Some [])

-- a path has a part at least
abbrev pub valued_edit : Kind → List Known → List ℕ → Result Edit EditRefusal
valued_edit kind [] text = Err BadOption
valued_edit kind (k ∷ ks) text = value_for kind (last_vr k ks) text >>= λ value. Ok (edit_on kind k ks value)

abbrev pub edit_of_known : Kind → List ℕ → List Known → Result Edit EditRefusal
edit_of_known kind text ks = if uses_sequences (takes_value kind) ks then valued_edit kind ks text
    else Err SequenceMisused

abbrev pub edit_of_parts : Dictionary → Kind → List ℕ → List PathPart → Result Edit EditRefusal
edit_of_parts d kind text parts = if has_form kind parts then (known_parts d parts >>= edit_of_known kind text)
    else Err BadOption

-- one edit, from its path and its value
abbrev pub meant_edit : Dictionary → Kind → List ℕ → List ℕ → Result Edit EditRefusal
meant_edit d kind path_text value_text =
    or_refuse BadOption (parts_of (slice_split (λ c. c == byte ".") path_text)) >>= edit_of_parts d kind value_text

abbrev pub meant_word : Dictionary → Kind → List ℕ → Result Edit EditRefusal
meant_word d kind word =
    if takes_value kind
    then (let k = cut_at (byte "=") word in meant_edit d kind k.before (unwrap_or k.after []))
    else meant_edit d kind word []

pub data OptionWord : Type 0 where
  takes_word : (kind : Kind) → OptionWord
  private_word : OptionWord
  unknown_word : OptionWord

abbrev pub option_word : List ℕ → OptionWord
option_word w =
    if bytes_eq w (codes "-e") then takes_word erases
    else if bytes_eq w (codes "-ea") then takes_word erases_all
    else if bytes_eq w (codes "-ep") then private_word
    else if bytes_eq w (codes "-i") then takes_word inserts
    else if bytes_eq w (codes "-m") then takes_word modifies
    else if bytes_eq w (codes "-ma") then takes_word modifies_all
    else unknown_word

abbrev pub takes_next : OptionWord → Bool
takes_next (takes_word kind) = true
takes_next private_word = false
takes_next unknown_word = false

-- the words that name a dictionary, which are no edits
abbrev pub dictionary_word : List ℕ → Option Dictionary
dictionary_word w =
    if bytes_eq w (codes "-dict") then Some Extract
    else (if bytes_eq w (codes "+dict") then Some Standard else None)

-- the word by which an output that is there is overwritten, which is no edit
abbrev pub is_overwrite : List ℕ → Bool
is_overwrite w = bytes_eq w (codes "+ow")

-- a word that is no edit: it says something of all of them
abbrev pub is_setting : List ℕ → Bool
is_setting w = is_some (dictionary_word w) || is_overwrite w

-- the extract, and an output that is there stays
abbrev pub no_settings : Settings
no_settings = record { dictionary = Extract; overwrites = false }

-- of several dictionaries the last one counts
abbrev pub and_setting : Settings → List ℕ → Settings
and_setting s w = record {
  dictionary = unwrap_or (dictionary_word w) s.dictionary;
  overwrites = s.overwrites || is_overwrite w;
}

-- what words say of all edits where an option may be
abbrev pub settings_after : Settings → List (List ℕ) → Settings
settings_after s [] = s
settings_after s (w ∷ []) = elim (takes_next (option_word w)) [ true ↦ s | false ↦ and_setting s w ]
settings_after s (w ∷ v ∷ words) = elim (takes_next (option_word w))
    [ true ↦ settings_after s words | false ↦ settings_after (and_setting s w) (v ∷ words) ]

abbrev pub settings_of : List (List ℕ) → Settings
settings_of words = settings_after no_settings words

-- the words of the edits alone
abbrev pub unless_setting : List ℕ → List (List ℕ) → List (List ℕ)
unless_setting w words = if is_setting w then words else w ∷ words

abbrev pub without_settings : List (List ℕ) → List (List ℕ)
without_settings [] = []
without_settings (w ∷ []) = unless_setting w []
without_settings (w ∷ v ∷ words) = elim (takes_next (option_word w)) [
  | true ↦ w ∷ v ∷ without_settings words
  | false ↦ unless_setting w (without_settings (v ∷ words))
]

-- a refusal, and the number of the edit from 1
pub record InEdit : Type 0 where
  pub refusal : EditRefusal
  pub number : ℕ

abbrev pub in_edit : EditRefusal → ℕ → InEdit
in_edit u n = record { refusal = u; number = n }

abbrev pub at_edit : {A : Type 0} → ℕ → Result A EditRefusal → Result A InEdit
at_edit n (Ok x) = Ok x
at_edit n (Err u) = Err (in_edit u n)

abbrev pub and_then : Edit → Result (List Edit) InEdit → Result (List Edit) InEdit
and_then e (Ok es) = Ok (e ∷ es)
and_then e (Err u) = Err u

-- so many edits may be in a command line
abbrev pub EDIT_LIMIT : ℕ
EDIT_LIMIT = 64

-- the edits from number n on, one after another
abbrev pub meant_from : Dictionary → ℕ → List (List ℕ) → Result (List Edit) InEdit
meant_from d n [] = Ok []
meant_from d n (w ∷ []) =
    if nat_lt EDIT_LIMIT n
    then Err (in_edit TooMany n)
    else elim (option_word w) [
      | private_word ↦ Ok (erase_private ∷ [])
      | takes_word kind ↦ Err
          (in_edit BadOption n)
      | unknown_word ↦ Err (in_edit BadOption n)
    ]
meant_from d n (w ∷ v ∷ words) =
    if nat_lt EDIT_LIMIT n
    then Err (in_edit TooMany n)
    else elim (option_word w) [
      | private_word ↦ and_then erase_private (meant_from d (suc n) (v ∷ words))
      | takes_word kind ↦ elim (at_edit n (meant_word d kind v))
          [ Ok e ↦ and_then e (meant_from d (suc n) words) | Err u ↦ Err u ]
      | unknown_word ↦ Err (in_edit BadOption n)
    ]

abbrev pub apart : List Edit → Result (List Edit) InEdit
apart es = elim (first_overlap 1 [] es) [ None ↦ Ok es | Some n ↦ Err (in_edit Overlap n) ]

-- the edits by a dictionary, or the first refusal
abbrev pub meant_edits_in : Dictionary → List (List ℕ) → Result (List Edit) InEdit
meant_edits_in d words = elim (meant_from d 1 (without_settings words)) [ Ok es ↦ apart es | Err u ↦ Err u ]

-- those by the extract
abbrev pub meant_edits : List (List ℕ) → Result (List Edit) InEdit
meant_edits = meant_edits_in Extract
