-- What a head leads to: a fault, the want of more bytes, or what it opens or closes.
use Rattle.std.specs.Prelude.{◌≡◌, ◌⊎◌, ℕ, ◌+◌, List, length, drop, Bool, true, false, ◌&&◌, ◌==◌, nat_le}
use Rattle.std.specs.Prelude.{if◌then◌else◌, Option, Some, None, option_map, MatchOption, Result, Ok, Err, ⊤}
use Rattle.dcm_base.specs.declared.syntax.Syntax.{Syntax}
use Rattle.dcm_base.specs.declared.length.Length.{Length}
use Rattle.dcm_base.specs.declared.length.Length.TheVariants.{Known, Undefined}
use Rattle.dcm_base.specs.declared.form.Form.{Form}
use Rattle.dcm_base.specs.declared.form.Form.TheVariants.{Value as a_value, Nothing as no_form}
use Rattle.dcm_base.specs.declared.level.Container.{Container}
use Rattle.dcm_base.specs.declared.level.Level.{Level}
use Rattle.dcm_base.specs.declared.fault.Fault.{Fault}
use Rattle.dcm_base.specs.declared.fault.Fault.TheVariants.{EndsEarly, UndefinedLength, PassesEnd, TooDeep}
use Rattle.dcm_base.specs.declared.fault.Fault.TheVariants.{NotAscending, FragmentsBarred, IdentityStays, NoPatientId}
use Rattle.dcm_base.specs.Steps.Atoms.{Atom, opens, opens_item, opens_fragment}
use Rattle.dcm_base.specs.declared.level.Container.TheVariants.{Item as an_item, Sequence as a_sequence}
use Rattle.dcm_base.specs.declared.level.Container.TheVariants.{FragmentList as a_fragment_list}
use Rattle.dcm_base.specs.Reading.Place.{level, room, passes, depth, is_undefined}
use Rattle.dcm_base.specs.Reading.Stop.{refused, HeadBar, opens_list, has_no_form, is_fragment_list, with_length}
use Rattle.dcm_base.specs.Reading.Stop.{place_stop, is_early}
use Rattle.dcm_base.specs.Bytes.Head.{tag_at}
use Rattle.dcm_base.specs.Tables.Tag.{is_item}
use Rattle.dcm_base.specs.Bytes.Spelling.{form, inside, read_as}
use Rattle.dcm_head.specs.declared.head.Head.{Head}
use Rattle.dcm_head.specs.declared.head.HeadRead.TheVariants.{Done}
use Rattle.dcm_head.specs.HeadRead.{tag_read}
use Rattle.dcm_stream.specs.declared.token.Bar.{Bar}
use Rattle.dcm_stream.specs.declared.token.Bar.TheVariants.{Order, Fragments, Identity, Patient}
use Rattle.dcm_stream.specs.declared.judge.Opening.{Opening}
use Rattle.dcm_stream.specs.declared.judge.Opening.TheVariants as opening
use Rattle.dcm_stream.specs.declared.judge.Judged.{Judged}
use Rattle.dcm_stream.specs.declared.judge.Judged.TheVariants as judged
use Rattle.dcm_stream.specs.Reading.{Opened, Sign, sign_of, value_opens, container_opens, without_value, element_opens}
use Rattle.dcm_stream.specs.Reading.{item_opens, head_opens, closes}

-- the fault by which a sink's bar is reported
abbrev pub fault_of : Bar → Fault
fault_of Order = NotAscending
fault_of Fragments = FragmentsBarred
fault_of Identity = IdentityStays
fault_of Patient = NoPatientId

-- what a sink refuses of itself, in a state
abbrev pub bars_head : {S : Type 0} → (S → Head → Option Bar) → S → HeadBar
bars_head bars s tag vr declared = option_map fault_of (bars s (record { tag = tag; vr = vr; length = declared }))

-- the atom of what a head opens or closes
abbrev pub opening_atom : Opening → Atom
opening_atom (opening.Leaf head s size) = opens head.tag head.vr head.length s
opening_atom (opening.Sequence head s) = opens head.tag head.vr head.length s
opening_atom (opening.FragmentList head s) = opens head.tag head.vr head.length s
opening_atom (opening.Item s declared) = opens_item declared
opening_atom (opening.Fragment size) = opens_fragment size
opening_atom (opening.End container) = closes container

-- what is open after it, where its contents begin at this offset
abbrev pub opened_by : (begin : ℕ) → List Level → Opening → Opened
opened_by begin levels (opening.Leaf head s size) =
    value_opens levels (sign_of head.tag head.vr) (opens head.tag head.vr head.length s) size
opened_by begin levels (opening.Sequence head s) =
    container_opens (level a_sequence (inside s head.vr) head.length begin) levels
    (opens head.tag head.vr head.length s)
opened_by begin levels (opening.FragmentList head s) =
    container_opens (level a_fragment_list s Undefined begin) levels (opens head.tag head.vr head.length s)
opened_by begin levels (opening.Item s declared) =
    container_opens (level an_item s declared begin) levels (opens_item declared)
opened_by begin levels (opening.Fragment size) = value_opens levels None (opens_fragment size) size
opened_by begin levels (opening.End container) = without_value (drop 1 levels) (closes container)

-- what follows the head of an element
abbrev pub head_form : Syntax → Head → Form
head_form s head = form s (read_as s head.tag head.vr) head.length

-- the head of an element with a value is of that form, and tells its size
abbrev pub IsSized : Opening → Type 0
IsSized (opening.Leaf head s size) = (head_form s head ≡ a_value) × (head.length ≡ Known size)
IsSized _ = ⊤

-- where bytes open something, that is so
abbrev pub OpensSized : Judged → Type 0
OpensSized (judged.Opens o size) = IsSized o
OpensSized _ = ⊤

-- it opens a value or fragment of so many bytes
abbrev pub OpensValue : Opening → (size : ℕ) → Type 0
OpensValue (opening.Leaf head s n) size = n ≡ size
OpensValue (opening.Fragment n) size = n ≡ size
OpensValue _ size = ⊥

-- it opens or closes a container, and then these are open
abbrev pub LeadsTo : (begin : ℕ) → List Level → Opening → (behind : List Level) → Type 0
LeadsTo begin levels (opening.Leaf head s size) behind = ⊥
LeadsTo begin levels (opening.Fragment size) behind = ⊥
LeadsTo begin levels o behind = opened_by begin levels o ≡ without_value behind (opening_atom o)

-- the sign of the value that it opens
abbrev pub opened_sign : Opening → Option Sign
opened_sign (opening.Leaf head s size) = sign_of head.tag head.vr
opened_sign _ = None

-- why an element is refused whose head is whole, but for the sink's bars
abbrev pub shape_fault : Form → (size : ℕ) → Length → Option ℕ → (depth : ℕ) → Option Fault
shape_fault form size declared room depth =
    if passes size room then Some PassesEnd
    else (if has_no_form form then Some UndefinedLength
    else (if passes (with_length size declared) room then Some PassesEnd
    else (if opens_list form && nat_le 64 depth then Some TooDeep else None)))

-- a fragment of no known length
abbrev pub is_unsized_fragment : Container → Length → Bool
is_unsized_fragment container declared = is_fragment_list container && is_undefined declared

-- why an item is refused
abbrev pub item_fault : Container → Length → Option ℕ → Option Fault
item_fault container declared room =
    if is_unsized_fragment container declared then Some UndefinedLength
    else (if passes (with_length 8 declared) room then Some PassesEnd else None)

-- the first fault, where there is one
abbrev pub or_fault : Option Fault → Option Fault → Option Fault
or_fault None later = later
or_fault (Some fault) later = Some fault

-- why an element with this head of so many bytes is refused
abbrev pub element_fault : HeadBar → Syntax → List Level → (position : ℕ) → Head → (size : ℕ) → Option Fault
element_fault bar s levels position head size =
    or_fault (shape_fault (head_form s head) size head.length (room position levels) (depth levels))
    (bar head.tag head.vr head.length)

-- what opens or closes with it, wherever its contents begin
abbrev pub OpensAs : ((begin : ℕ) → List Level → Opened) → Opening → Type 0
OpensAs f o = (begin : ℕ) (levels : List Level) → f begin levels ≡ opened_by begin levels o

-- an element of this form and length opens nothing
abbrev pub OpensNothing : Form → Length → Type 0
OpensNothing f declared = (f ≡ no_form) ⊎ ((f ≡ a_value) × (declared ≡ Undefined))

-- what an element of this form opens
abbrev pub OpensElement : Form → Syntax → Head → Option Opening → Type 0
OpensElement f s head o = MatchOption o (OpensNothing f head.length)
    (OpensAs (element_opens f s head.tag head.vr head.length))

-- the answer on the head of an element, but for the sink's bars
abbrev pub JudgesShape : Syntax → Head → (size : ℕ) → Option ℕ → (depth : ℕ) → Result Opening Fault → Type 0
JudgesShape s head size room depth (Err fault) = shape_fault (head_form s head) size head.length room depth
    ≡ Some fault
JudgesShape s head size room depth (Ok o) =
    (shape_fault (head_form s head) size head.length room depth ≡ None)
    × OpensAs (element_opens (head_form s head) s head.tag head.vr head.length) o

-- the answer on the head of an element
abbrev pub JudgesElement : HeadBar → Syntax → List Level → (position : ℕ) → Head → (size : ℕ) → Result Opening Fault
    → Type 0
JudgesElement bar s levels position head size (Err fault) =
    (element_fault bar s levels position head size ≡ Some fault) × (is_early fault ≡ false)
JudgesElement bar s levels position head size (Ok o) =
    (element_fault bar s levels position head size ≡ None)
    × OpensAs (element_opens (head_form s head) s head.tag head.vr head.length) o

-- what an item opens, but a fragment of no known length
abbrev pub OpensItem : Level → Length → Option Opening → Type 0
OpensItem inner declared None = is_unsized_fragment inner.container declared ≡ true
OpensItem inner declared (Some o) = (is_unsized_fragment inner.container declared ≡ false)
    × OpensAs (item_opens inner.container inner.syntax declared) o

-- the answer on the head of an item
abbrev pub JudgesItem : Level → Length → Option ℕ → Result Opening Fault → Type 0
JudgesItem inner declared room (Err fault) = (item_fault inner.container declared room ≡ Some fault)
    × (is_early fault ≡ false)
JudgesItem inner declared room (Ok o) = (item_fault inner.container declared room ≡ None)
    × OpensAs (item_opens inner.container inner.syntax declared) o

-- why a head of so many bytes is refused where it may come, and what it opens or closes
abbrev pub head_fault : HeadBar → Level → List Level → (position : ℕ) → Head → (size : ℕ) → Option Fault
head_fault bar inner levels position head size =
    if head.tag.group == 0xFFFE then (if is_item head.tag
    then item_fault inner.container head.length (room position levels) else None)
    else element_fault bar inner.syntax levels position head size

abbrev pub opens_with : Level → Head → (begin : ℕ) → List Level → Opened
opens_with inner head begin levels =
    if head.tag.group == 0xFFFE
    then (if is_item head.tag then item_opens inner.container inner.syntax head.length begin levels
    else without_value (drop 1 levels) (closes inner.container))
    else element_opens (head_form inner.syntax head) inner.syntax head.tag head.vr head.length begin levels

abbrev pub JudgesHead : HeadBar → Level → List Level → (position : ℕ) → Head → (size : ℕ) → Result Opening Fault
    → Type 0
JudgesHead bar inner levels position head size (Err fault) =
    (head_fault bar inner levels position head size ≡ Some fault) × (is_early fault ≡ false)
JudgesHead bar inner levels position head size (Ok o) = (head_fault bar inner levels position head size ≡ None)
    × OpensAs (opens_with inner head) o

-- the answer on the front of bytes at a place: a fault, the want of more bytes, or a whole head of so many bytes
abbrev pub Judges : HeadBar → Level → List Level → (position : ℕ) → List ℕ → Judged → Type 0
Judges bar inner levels position bytes (judged.Refused fault) =
    (place_stop bar inner levels position bytes ≡ Some (refused fault position)) × (is_early fault ≡ false)
Judges bar inner levels position bytes judged.More = place_stop bar inner levels position bytes
    ≡ Some (refused EndsEarly (position + length bytes))
Judges bar inner levels position bytes (judged.Opens o size) =
    (place_stop bar inner levels position bytes ≡ None)
    × ((begin : ℕ) → head_opens begin bytes levels ≡ opened_by begin levels o)
    × ((head : Head) × (tag_read inner.syntax bytes (tag_at inner.syntax bytes) ≡ Done head size))
