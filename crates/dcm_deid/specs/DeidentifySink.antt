-- Identity taken out in one pass over the atoms of a data set.
use Rattle.std.specs.Prelude.{ℕ, zero, suc, ◌+◌, nat_lt, length, List, [], ◌∷◌, ◌++◌, codes, Option, Some, None}
use Rattle.std.specs.Prelude.{option_map, fold, Bool, true, false, ◌&&◌, ◌||◌, not, if◌then◌else◌}
use Rattle.dcm_base.specs.declared.tag.Tag.{Tag}
use Rattle.dcm_base.specs.declared.vr.Vr.{Vr}
use Rattle.dcm_base.specs.declared.vr.Vr.TheVariants.{CS, LO, SH, SQ}
use Rattle.dcm_base.specs.declared.length.Length.{Length}
use Rattle.dcm_base.specs.declared.length.Length.TheVariants.{Undefined}
use Rattle.dcm_base.specs.declared.syntax.Syntax.{Syntax}
use Rattle.dcm_base.specs.Tables.Syntax.{Little}
use Rattle.dcm_base.specs.Tables.Tag.{is_tag, is_above, below}
use Rattle.dcm_base.specs.Tables.Transfer.{is_pad, without_pads}
use Rattle.dcm_base.specs.Tables.Representation.{pad}
use Rattle.dcm_base.specs.Tree.Value.{evened, order}
use Rattle.dcm_base.specs.declared.form.Form.{Form}
use Rattle.dcm_base.specs.declared.form.Form.TheVariants.{Value as a_value, Sequence as a_sequence}
use Rattle.dcm_base.specs.Bytes.Spelling.{form, read_as}
use Rattle.dcm_base.specs.Reading.Bars.{holds_identity}
use Rattle.dcm_base.specs.Steps.Atoms.{Atom, opens, value_byte, closes_leaf, opens_item, closes_item, closes_sequence}
use Rattle.dcm_base.specs.Steps.Atoms.{opens_fragment, ends}
use Rattle.dcm_dates.specs.Moved.{MOST_HELD, moved as moved_dates}
use Rattle.dcm_dates.specs.declared.moving.DateKind.TheVariants.{Da, Dt}
use Rattle.dcm_head.specs.declared.head.Head.{Head}
use Rattle.dcm_stream.specs.declared.token.Bar.{Bar as SinkBar}
use Rattle.dcm_stream.specs.declared.token.Bar.TheVariants.{Order, Identity}
use Rattle.dcm_stream.specs.Skip.{opened, closed}
use Rattle.dcm_stream.specs.Tokens.{leaf_atoms}
use Rattle.dcm_deid.specs.declared.fate.Fate.{Fate}
use Rattle.dcm_deid.specs.declared.fate.Fate.TheVariants.{Empty, Replace, Anew, Keep}
use Rattle.dcm_deid.specs.declared.fate.NewValue.{NewValue}
use Rattle.dcm_deid.specs.declared.fate.NewValue.TheVariants.{MovedDate, MovedDateTime}
use Rattle.dcm_deid.specs.declared.fate.Options.{Options}
use Rattle.dcm_deid.specs.declared.fate.Depth.{Depth}
use Rattle.dcm_deid.specs.declared.fate.Depth.TheVariants.{Outermost, Inside}
use Rattle.dcm_deid.specs.declared.fate.ReadAs.{ReadAs}
use Rattle.dcm_deid.specs.declared.fate.ReadAs.TheVariants.{AsBytes, AsItems}
use Rattle.dcm_deid.specs.Fate.{are_full, are_left, fate_as, is_kept}
use Rattle.dcm_deid.specs.declared.deidentifier.Seen.{Seen}
use Rattle.dcm_deid.specs.Deidentify.{Renaming, dummy}
use Rattle.dcm_deid.specs.Emptied.{has_bytes, is_moved}
use Rattle.dcm_deid.specs.MadeNew.{days_of, made_new}
use Rattle.dcm_deid.specs.Saying.{dates_became, dates_code, dates_meaning, tag_at}
use Rattle.dcm_deid.specs.Pixels.{says_of_pixels, means_yes}

-- ---- the value of an open element

-- what becomes of an element, the first bytes of its value, and whether others than padding come after them
pub record Held : Type 0 where
  pub fate : Fate
  pub tag : Tag
  pub vr : Vr
  pub syntax : Syntax
  pub bytes : List ℕ
  pub is_longer : Bool

abbrev pub nothing_held : Fate → Tag → Vr → Syntax → Held
nothing_held fate tag vr syntax = record { fate = fate; tag = tag; vr = vr; syntax = syntax; bytes = []; is_longer = false }

-- with one more byte
abbrev pub held_with : Held → ℕ → Held
held_with h byte =
    if nat_lt (length h.bytes) MOST_HELD
    then record { fate = h.fate; tag = h.tag; vr = h.vr; syntax = h.syntax; bytes = h.bytes ++ byte ∷ []; is_longer = h.is_longer }
    else record {
      fate = h.fate;
      tag = h.tag;
      vr = h.vr;
      syntax = h.syntax;
      bytes = h.bytes;
      is_longer = h.is_longer || not (is_pad byte);
    }

-- in little endian order
abbrev pub ordered : Held → List ℕ
ordered h = order h.syntax h.vr h.bytes

-- what takes the place of a value that is made anew
abbrev pub made_of : Renaming → Fate → Vr → List ℕ → List ℕ
made_of new (Anew made) vr value = evened (pad vr) (new made (without_pads value))
made_of new _ vr value = []

abbrev pub new_of : Renaming → Held → List ℕ
new_of new h = if h.is_longer then [] else made_of new h.fate h.vr (ordered h)

abbrev pub is_yes : Held → Bool
is_yes h = not h.is_longer && means_yes (ordered h)

-- whether moved dates are nothing
abbrev pub come_to_nothing : Options → NewValue → List ℕ → Bool
come_to_nothing options MovedDate dates = not (has_bytes (moved_dates Da (days_of options.dates) dates))
come_to_nothing options MovedDateTime dates = not (has_bytes (moved_dates Dt (days_of options.dates) dates))
come_to_nothing options _ dates = false

-- whether dates that have more than padding vanish
abbrev pub vanish : Options → NewValue → List ℕ → Bool
vanish options made value = has_bytes (without_pads value) && come_to_nothing options made (without_pads value)

-- so they do where they are longer than is held
abbrev pub vanish_by : Options → Fate → (is_longer : Bool) → List ℕ → Bool
vanish_by options (Anew made) is_longer value = is_moved made && (is_longer || vanish options made value)
vanish_by options _ is_longer value = false

abbrev pub is_emptied : Options → Held → Bool
is_emptied options h = vanish_by options h.fate h.is_longer (ordered h)

-- ---- where the sink is

-- no more are counted
abbrev pub MOST_COUNTED : ℕ
MOST_COUNTED = 18446744073709551615

abbrev pub counted : (is_one : Bool) → ℕ → ℕ
counted is_one count = if is_one && nat_lt count MOST_COUNTED then count + 1 else count

-- the last tags of the innermost open data set and of those around it, how much is open of an element that is not
-- written, the value of an open element that is held until it ends, and what was seen of values that ended
pub record Place : Type 0 where
  pub last : Option Tag
  pub outer : List (Option Tag)
  pub dropped : ℕ
  pub held : Option Held
  pub seen : Seen

pub record State : Type 0 where
  pub options : Options
  pub key : List ℕ
  pub place : Place

-- no more than so many data sets are open around the innermost one
abbrev pub MOST_AROUND : ℕ
MOST_AROUND = 64

abbrev pub nothing_seen : Seen
nothing_seen = record { may_show = false; emptied = 0 }

abbrev pub first_place : Place
first_place = record { last = None; outer = []; dropped = 0; held = None; seen = nothing_seen }

-- before the first atom
abbrev pub begun : Options → (key : List ℕ) → State
begun options key = record { options = options; key = key; place = first_place }

-- ---- what becomes of an element

abbrev pub depth_of : List (Option Tag) → Depth
depth_of [] = Outermost
depth_of (last ∷ outer) = Inside

abbrev pub form_after : Tag → Vr → Length → Syntax → Form
form_after tag vr declared s = form s (read_as s tag vr) declared

abbrev pub read_by : Form → ReadAs
read_by a_sequence = AsItems
read_by _ = AsBytes

abbrev pub fate_at : Options → Place → Form → Tag → Fate
fate_at options p form tag = fate_as options (depth_of p.outer) (read_by form) tag

-- the values that have to be known when they end
abbrev pub is_held : Fate → Form → Tag → Bool
is_held (Anew made) a_value tag = true
is_held Keep a_value tag = says_of_pixels tag
is_held _ _ tag = false

-- ---- after an atom

abbrev pub moved : Place → (last : Option Tag) → (outer : List (Option Tag)) → (dropped : ℕ) → Place
moved p last outer dropped =
    record { last = last; outer = outer; dropped = dropped; held = p.held; seen = p.seen }

abbrev pub holding : Place → Option Held → Place
holding p held =
    record { last = p.last; outer = p.outer; dropped = p.dropped; held = held; seen = p.seen }

abbrev pub held_if : Bool → Fate → Tag → Vr → Syntax → Option Held
held_if is_held fate tag vr s = if is_held then Some (nothing_held fate tag vr s) else None

-- an element of this fate is left out unless it is kept, and its value is held where it has to be known
abbrev pub judged : Place → Fate → Form → Tag → Vr → Syntax → Place
judged p fate form tag vr s = holding
    (moved p p.last p.outer (opened p.dropped (not (is_kept fate)))) (held_if (is_held fate form tag) fate tag vr s)

abbrev pub judged_at : Options → Place → Tag → Vr → Length → Syntax → Place
judged_at options p tag vr declared s =
    judged p (fate_at options p (form_after tag vr declared s) tag) (form_after tag vr declared s) tag vr s

-- within what is left out nothing is judged
abbrev pub judged_by_depth : ℕ → Options → Place → Tag → Vr → Length → Syntax → Place
judged_by_depth zero options p tag vr declared s = judged_at options p tag vr declared s
judged_by_depth (suc n) options p tag vr declared s = moved p p.last p.outer (opened p.dropped true)

-- it is the last one of its data set
abbrev pub with_last : Place → Tag → Place
with_last p tag = moved p (Some tag) p.outer p.dropped

abbrev pub after_head : Options → Place → Tag → Vr → Length → Syntax → Place
after_head options p tag vr declared s = with_last (judged_by_depth p.dropped options p tag vr declared s) tag

-- within what is left out, after a head, and after an element with its whole value
abbrev pub head_within : Place → Tag → Place
head_within p tag = moved p (Some tag) p.outer (opened p.dropped true)

abbrev pub whole_within : Place → Tag → Place
whole_within p tag = moved p (Some tag) p.outer (closed (opened p.dropped true))

abbrev pub with_byte : Place → ℕ → Place
with_byte p byte = holding p (option_map (λ h. held_with h byte) p.held)

abbrev pub with_bytes : Place → List ℕ → Place
with_bytes p bytes = fold with_byte p bytes

abbrev pub says_yes : ℕ → Option Held → Bool
says_yes zero None = false
says_yes zero (Some h) = is_yes h
says_yes (suc n) held = false

-- where dates that were moved have nothing left
abbrev pub seeing : (is_one : Bool) → Seen → Seen
seeing is_one seen = record { may_show = seen.may_show; emptied = counted is_one seen.emptied }

abbrev pub counting : Place → (is_one : Bool) → Place
counting p is_one =
    record { last = p.last; outer = p.outer; dropped = p.dropped; held = p.held; seen = seeing is_one p.seen }

-- what was seen, with a value that ends
abbrev pub seen_after : Options → (dropped : ℕ) → Option Held → Seen → Seen
seen_after options dropped None seen = seen
seen_after options dropped (Some h) seen = record {
  may_show = says_yes dropped (Some h) || seen.may_show;
  emptied = counted (is_emptied options h) seen.emptied;
}

abbrev pub after_value : Options → Place → Place
after_value options p =
    record {
      last = p.last;
      outer = p.outer;
      dropped = closed p.dropped;
      held = None;
      seen = seen_after options p.dropped p.held p.seen;
    }

abbrev pub in_item : Place → Place
in_item p = if nat_lt (length p.outer) MOST_AROUND then moved p None (p.last ∷ p.outer) (opened p.dropped false) else p

abbrev pub after_item : Place → List (Option Tag) → Place
after_item p [] = moved p p.last [] (closed p.dropped)
after_item p (last ∷ outer) = moved p last outer (closed p.dropped)

abbrev pub next_place : Options → Place → Atom → Place
next_place options p (opens tag vr declared s) = after_head options p tag vr declared s
next_place options p (value_byte byte) = with_byte p byte
next_place options p closes_leaf = after_value options p
next_place options p (opens_item declared) = in_item p
next_place options p closes_item = after_item p p.outer
next_place options p closes_sequence = moved p p.last p.outer (closed p.dropped)
next_place options p (opens_fragment size) = moved p p.last p.outer (opened p.dropped false)
next_place options p ends = p

abbrev pub next : State → Atom → State
next s a = record { options = s.options; key = s.key; place = next_place s.options s.place a }

-- ---- the elements that say what was done

abbrev pub code_atoms : List ℕ → List ℕ → List Atom
code_atoms code meaning =
    opens_item Undefined ∷ (leaf_atoms (tag_at 0x0008 0x0100) SH code
    ++ (leaf_atoms (tag_at 0x0008 0x0102) SH (codes "DCM")
    ++ (leaf_atoms (tag_at 0x0008 0x0104) LO meaning ++ closes_item ∷ [])))

abbrev pub code_atoms_if : Bool → List ℕ → List ℕ → List Atom
code_atoms_if given code meaning = if given then code_atoms code meaning else []

abbrev pub method_atoms : Options → List Atom
method_atoms options =
    code_atoms (codes "113100") (codes "Basic Application Confidentiality Profile")
    ++ (code_atoms_if (are_left options.dates) (dates_code options.dates) (dates_meaning options.dates)
    ++ (code_atoms_if options.patient (codes "113108") (codes "Retain Patient Characteristics Option")
    ++ (code_atoms_if options.device (codes "113109") (codes "Retain Device Identity Option")
    ++ (code_atoms_if options.uids (codes "113110") (codes "Retain UIDs Option")
    ++ code_atoms_if options.institution (codes "113112") (codes "Retain Institution Identity Option")))))

abbrev pub methods_said : Options → List Atom
methods_said options = opens (tag_at 0x0012 0x0064) SQ Undefined Little ∷ (method_atoms options ++ closes_sequence ∷ [])

abbrev pub dates_said : Options → List Atom
dates_said options =
    leaf_atoms (tag_at 0x0028 0x0303) CS (dates_became options.dates)

-- what says what became of dates is not put where it was there and stays
abbrev pub is_there : Options → (last tag : Tag) → Bool
is_there options last tag = are_full options.dates && (is_tag 0x0028 0x0303 tag && is_tag 0x0028 0x0303 last)

abbrev pub is_after : Options → (last : Option Tag) → Tag → Bool
is_after options None tag = true
is_after options (Some last) tag = not (below tag last) && not (is_there options last tag)

abbrev pub is_before : (next : Option Tag) → Tag → Bool
is_before None tag = true
is_before (Some next) tag = below tag next

-- whether an element of this tag is put after the last one of the outermost data set and before the next one
abbrev pub is_due : Options → (last next : Option Tag) → Tag → Bool
is_due options last next tag = is_after options last tag && is_before next tag

abbrev pub atoms_if : Bool → List Atom → List Atom
atoms_if given atoms = if given then atoms else []

abbrev pub removed_due : Options → (last next : Option Tag) → List Atom
removed_due options last next =
    atoms_if (is_due options last next (tag_at 0x0012 0x0062)) (leaf_atoms (tag_at 0x0012 0x0062) CS (codes "YES"))

abbrev pub method_due : Options → (last next : Option Tag) → List Atom
method_due options last next =
    atoms_if (is_due options last next (tag_at 0x0012 0x0063))
    (leaf_atoms (tag_at 0x0012 0x0063) LO (codes "dcmtools dcmdeid, PS3.15 2021b"))

abbrev pub codes_due : Options → (last next : Option Tag) → List Atom
codes_due options last next = atoms_if (is_due options last next (tag_at 0x0012 0x0064)) (methods_said options)

abbrev pub dates_due : Options → (last next : Option Tag) → List Atom
dates_due options last next = atoms_if (is_due options last next (tag_at 0x0028 0x0303)) (dates_said options)

abbrev pub said_between : Options → (last next : Option Tag) → List Atom
said_between options last next =
    removed_due options last next
    ++ (method_due options last next ++ (codes_due options last next ++ dates_due options last next))

abbrev pub said_before : Options → Place → (next : Option Tag) → List Atom
said_before options p next = said_at options p.last p.outer next where
  said_at : Options → Option Tag → List (Option Tag) → Option Tag → List Atom
  said_at options last [] next = said_between options last next
  said_at options last (l ∷ outer) next = []

-- ---- what is passed on of an atom

-- the length of a sequence counts what is taken out of it
abbrev pub kept_length : Form → Length → Length
kept_length a_sequence declared = Undefined
kept_length _ declared = declared

abbrev pub empty_sequence : Tag → Vr → List Atom
empty_sequence tag vr = opens tag vr Undefined Little ∷ closes_sequence ∷ []

-- what an element becomes, as far as its head determines it
abbrev pub head_by : Fate → Form → Tag → Vr → Length → Syntax → List Atom
head_by Keep form tag vr declared s = opens tag vr (kept_length form declared) s ∷ []
head_by Empty a_sequence tag vr declared s = empty_sequence tag vr
head_by Replace a_sequence tag vr declared s = empty_sequence tag vr
head_by (Anew made) a_sequence tag vr declared s = empty_sequence tag vr
head_by Empty a_value tag vr declared s = leaf_atoms tag vr []
head_by Replace a_value tag vr declared s = leaf_atoms tag vr (dummy vr)
head_by _ _ tag vr declared s = []

abbrev pub element_passed : Options → Place → Tag → Vr → Length → Syntax → List Atom
element_passed options p tag vr declared s =
    head_by (fate_at options p (form_after tag vr declared s) tag) (form_after tag vr declared s) tag vr declared s

-- of an element that is not left out
abbrev pub passed_open : Options → Place → Atom → List Atom
passed_open options p (opens tag vr declared s) =
    said_before options p (Some tag) ++ element_passed options p tag vr declared s
passed_open options p (value_byte byte) = value_byte byte ∷ []
passed_open options p closes_leaf = closes_leaf ∷ []
passed_open options p (opens_item declared) = opens_item Undefined ∷ []
passed_open options p closes_item = closes_item ∷ []
passed_open options p closes_sequence = closes_sequence ∷ []
passed_open options p (opens_fragment size) = opens_fragment size ∷ []
passed_open options p ends = said_before options p None ++ ends ∷ []

abbrev pub new_value_atoms : Renaming → Option Held → List Atom
new_value_atoms new None = []
new_value_atoms new (Some h) = leaf_atoms h.tag h.vr (new_of new h)

-- of one that is left out: what is made of its value, at its end
abbrev pub passed_left_out : Renaming → Place → Atom → List Atom
passed_left_out new p closes_leaf = new_value_atoms new p.held
passed_left_out new p _ = []

abbrev pub passed_by_depth : ℕ → Options → (key : List ℕ) → Place → Atom → List Atom
passed_by_depth zero options key p a = passed_open options p a
passed_by_depth (suc n) options key p a = passed_left_out (made_new options key) p a

abbrev pub passed : State → Atom → List Atom
passed s a = passed_by_depth s.place.dropped s.options s.key s.place a

-- ---- what is barred

abbrev pub identity_barred : Tag → Option SinkBar
identity_barred tag = if holds_identity tag then Some Identity else None

-- a tag that is not above the last one of its data set, and then an element out of which identity cannot be taken
abbrev pub deidentify_bar : State → Head → Option SinkBar
deidentify_bar s head = if is_above head.tag s.place.last then identity_barred head.tag else Some Order
