-- A machine holds little.
use Rattle.std.proofs.Common.{◌≡◌, ℕ, zero, suc, ◌+◌, ◌*◌, ◌≤◌, ◌<◌, List, [], ◌∷◌, ◌++◌, length, drop, Option, Some, None, Bool, true, false, cond, not, inl, inr, refl, sym, ap, ◌∙◌, subst, arith}
use Rattle.std.specs.Prelude.{◌==◌, ◌&&◌, ◌||◌, nat_lt, nat_le, is_some}
use Rattle.std.proofs.lemmas.Bool.{cases_Bool, and_parts, leb-false}
use Rattle.dcm_base.specs.declared.tag.Tag.{Tag}
use Rattle.dcm_base.specs.declared.vr.Vr.{Vr}
use Rattle.dcm_base.specs.declared.syntax.Syntax.{Syntax}
use Rattle.dcm_base.specs.declared.fault.Fault.TheVariants.{PassesEnd, TooLong}
use Rattle.dcm_base.specs.declared.length.Length.{Length}
use Rattle.dcm_base.specs.Tables.Number.{number}
use Rattle.dcm_base.specs.Tables.Tag.{is_item, is_item_end}
use Rattle.dcm_base.specs.Bytes.Head.{tag_at, length_at, long_length}
use Rattle.dcm_base.specs.declared.form.Form.{Form}
use Rattle.dcm_base.specs.declared.form.Form.TheVariants.{Value as a_value, Sequence as sequence_form, FragmentList as fragment_form, Nothing as no_form}
use Rattle.dcm_base.specs.Bytes.Spelling.{form, read_as}
use Rattle.dcm_base.specs.declared.level.Container.{Container}
use Rattle.dcm_base.specs.declared.level.Level.{Level}
use Rattle.dcm_base.specs.declared.level.Container.TheVariants.{DataSet as the_data_set, Item as an_item, Sequence as a_sequence, FragmentList as a_fragment_list}
use Rattle.dcm_base.specs.Reading.Place.{level, counts, depth, room, passes, is_data, is_undefined, is_allowed}
use Rattle.dcm_base.specs.Reading.Stop.{Stop, refused, HeadBar, innermost_stop, is_the_data_set, opens_list, is_undecided}
use Rattle.dcm_base.specs.Reading.Reads.{INPUT_LIMIT}
use Rattle.dcm_base.specs.Steps.Atoms.{Atom, value_byte}
use Rattle.dcm_stream.specs.Reading.{Reading, start_of, Opened, ends_at, closes, element_opens, item_opens, head_opens, full_closed, room_stop, settled, head_read, byte_read, read_byte, Sign, sign_of, sign_reads, signed_by, in_syntax, left_levels, value_left, size_of}
use Rattle.dcm_stream.specs.Bounds.{may_hold, are_nested, IsSmall, StaysSmall}
use Rattle.dcm_stream.proofs.Heads.Stops.{NeverEarly, FitsHead, fits_element, fits_item, fits_delimiter, Fits, place_none, place_short}
use Rattle.dcm_stream.proofs.Heads.Opening.{opens_element, opens_other}
use Rattle.dcm_stream.proofs.Steps.AfterHeads.{data_false, item_end_no_item, list_allows, fragments_allow, special_group}

-- ---- how many containers

slack : Container → ℕ
slack the_data_set = 1
slack an_item = 1
slack a_sequence = 0
slack a_fragment_list = 0

slack_step : (o i : Container) (n d : ℕ) → may_hold o i ≡ true → n ≤ 2 * d + slack o → n + 1 ≤ 2 * (counts i + d) + slack i
unfolding slack
slack_step a_sequence an_item n d m h = omega arith
slack_step the_data_set a_sequence n d m h = omega arith
slack_step the_data_set a_fragment_list n d m h = omega arith
slack_step an_item a_sequence n d m h = omega arith
slack_step an_item a_fragment_list n d m h = omega arith
slack_step o i n d m h = absurd (cc)

slack_top : (c : Container) (d : ℕ) → is_the_data_set c ≡ true → 1 ≤ 2 * (counts c + d) + slack c
unfolding slack
slack_top the_data_set d h = omega arith
slack_top an_item d h = absurd (cc)
slack_top a_sequence d h = absurd (cc)
slack_top a_fragment_list d h = absurd (cc)

few_by : (inner : Level) (outer : List Level) → are_nested (inner ∷ outer) ≡ true → length (inner ∷ outer) ≤ 2 * depth (inner ∷ outer) + slack inner.container
unfolding are_nested depth
few_by inner [] h = slack_top inner.container 0 (and_parts _ _ h).0
few_by inner (next ∷ outer) h =
    let k = and_parts (may_hold next.container inner.container) (are_nested (next ∷ outer)) h in
    let few = few_by next outer k.1 in
    omega (arith, slack_step next.container inner.container (length (next ∷ outer)) (depth (next ∷ outer)) k.0 few)

slack_one : (c : Container) → slack c ≤ 1
unfolding slack
slack_one the_data_set = omega arith
slack_one an_item = omega arith
slack_one a_sequence = omega arith
slack_one a_fragment_list = omega arith

pub few : (ls : List Level) → are_nested ls ≡ true → depth ls ≤ 64 → length ls ≤ 129
unfolding are_nested
few [] h le = omega arith
few (inner ∷ outer) h le = omega (arith, few_by inner outer h, slack_one inner.container)

-- ---- containers that close

inside_of : (inner : Level) (outer : List Level) → are_nested (inner ∷ outer) ≡ true → is_the_data_set inner.container ≡ false → are_nested outer ≡ true
unfolding are_nested
inside_of inner [] h e = let k = (and_parts (is_the_data_set inner.container) (not (is_some inner.end_offset)) h).0 in absurd (cc)
inside_of inner (next ∷ outer) h e = (and_parts (may_hold next.container inner.container) (are_nested (next ∷ outer)) h).1

depth_outer : (inner : Level) (outer : List Level) → depth outer ≤ depth (inner ∷ outer)
unfolding depth
depth_outer inner outer = omega arith

pub no_end : (position : ℕ) (e : Option ℕ) → not (is_some e) ≡ true → ends_at position e ≡ false
no_end position None h = refl
no_end position (Some end) h = absurd (cc)

-- nested right, and not too deep
pub record Small (ls : List Level) : Type 0 where
  pub nested : are_nested ls ≡ true
  pub shallow : depth ls ≤ 64

closed_small : (position : ℕ) (ls : List Level) → Small ls → Small (full_closed position ls).0
unfolding full_closed are_nested
closed_small position [] h = h
closed_small position (inner ∷ []) h =
    let e = no_end position inner.end_offset (and_parts (is_the_data_set inner.container) (not (is_some inner.end_offset)) h.nested).1 in
    subst (λ (x : Bool). Small (cond {A = List Level × List Atom} x ((full_closed position []).0, closes inner.container ∷ (full_closed position []).1) (inner ∷ [], [])).0) (sym e) h
closed_small position (inner ∷ next ∷ outer) h =
    let k = and_parts (may_hold next.container inner.container) (are_nested (next ∷ outer)) h.nested in
    let rest : Small (next ∷ outer) = record { nested = k.1; shallow = omega (arith, depth_outer inner (next ∷ outer), h.shallow) } in
    let closed = closed_small position (next ∷ outer) rest in
    elim (cases_Bool (ends_at position inner.end_offset)) [
      | inl e ↦ subst (λ (x : Bool). Small (cond {A = List Level × List Atom} x ((full_closed position (next ∷ outer)).0, closes inner.container ∷ (full_closed position (next ∷ outer)).1) (inner ∷ next ∷ outer, [])).0) (sym e) closed
      | inr e ↦ subst (λ (x : Bool). Small (cond {A = List Level × List Atom} x ((full_closed position (next ∷ outer)).0, closes inner.container ∷ (full_closed position (next ∷ outer)).1) (inner ∷ next ∷ outer, [])).0) (sym e) h
    ]

-- ---- containers that open

element_in : (c : Container) (declared : Length) (tag : Tag) → (tag.group == 0xFFFE) ≡ false → is_allowed c declared tag ≡ true → (may_hold c a_sequence ≡ true) × (may_hold c a_fragment_list ≡ true)
element_in the_data_set declared tag g h = (refl, refl)
element_in an_item declared tag g h = (refl, refl)
element_in a_sequence declared tag g h = elim (list_allows declared tag h) [ inl i ↦ absurd (special_group tag 0xE000 i g) | inr k ↦ absurd (special_group tag 0xE0DD k.1 g) ]
element_in a_fragment_list declared tag g h = elim (fragments_allow declared tag h) [ inl i ↦ absurd (special_group tag 0xE000 i g) | inr k ↦ absurd (special_group tag 0xE0DD k g) ]

set_refuses : (u : Bool) (tag : Tag) → (tag.group == 0xFFFE) ≡ true → is_item tag ≡ true → (is_data tag || (u && is_item_end tag)) ≡ true → ⊥
set_refuses false tag g i h = let k : (is_data tag || false) ≡ false = ap (λ (x : Bool). x || false) (data_false tag g) in cc
set_refuses true tag g i h = item_end_no_item tag (sym (ap (λ (x : Bool). x || is_item_end tag) (data_false tag g)) ∙ h) i

pushed : (inner next : Level) (outer : List Level) → may_hold next.container inner.container ≡ true → Small (next ∷ outer) → counts inner.container + depth (next ∷ outer) ≤ 64 → Small (inner ∷ next ∷ outer)
unfolding are_nested depth
pushed inner next outer m h d = record { nested = ap (λ (x : Bool). x && are_nested (next ∷ outer)) m ∙ h.nested; shallow = d }

-- the syntax of a container changes neither
signed_small : (sign : Sign) (inner : Level) (outer : List Level) → Small (inner ∷ outer) → Small (in_syntax (signed_by sign inner.syntax) inner ∷ outer)
unfolding are_nested depth
signed_small sign inner [] h = record { nested = h.nested; shallow = h.shallow }
signed_small sign inner (next ∷ outer) h = record { nested = h.nested; shallow = h.shallow }

pub left_small : (left : ℕ) (sign : Option Sign) (ls : List Level) → Small ls → Small (left_levels left sign ls)
left_small zero None ls h = h
left_small zero (Some sign) [] h = h
left_small zero (Some sign) (inner ∷ outer) h = signed_small sign inner outer h
left_small (suc left) sign ls h = h

element_small : (f : Form) (s : Syntax) (tag : Tag) (vr : Vr) (l : Length) (begin : ℕ) (next : Level) (outer : List Level) → may_hold next.container a_sequence ≡ true → may_hold next.container a_fragment_list ≡ true
    → (opens_list f && nat_le 64 (depth (next ∷ outer))) ≡ false → Small (next ∷ outer) → Small (element_opens f s tag vr l begin (next ∷ outer)).levels
element_small a_value s tag vr l begin next outer m m' d h = left_small (size_of l) (sign_of tag vr) (next ∷ outer) h
element_small no_form s tag vr l begin next outer m m' d h = h
element_small sequence_form s tag vr l begin next outer m m' d h = pushed _ next outer m h (let lt = leb-false 64 (depth (next ∷ outer)) d in omega arith)
element_small fragment_form s tag vr l begin next outer m m' d h = pushed _ next outer m' h (let lt = leb-false 64 (depth (next ∷ outer)) d in omega arith)

item_small : (c : Container) (s : Syntax) (declared l : Length) (tag : Tag) (begin : ℕ) (next : Level) (outer : List Level) → next.container ≡ c → (tag.group == 0xFFFE) ≡ true → is_item tag ≡ true → is_allowed c declared tag ≡ true
    → Small (next ∷ outer) → Small (item_opens c s l begin (next ∷ outer)).levels
unfolding is_allowed
item_small the_data_set s declared l tag begin next outer c g i a h = let k = data_false tag g in absurd (cc)
item_small an_item s declared l tag begin next outer c g i a h = absurd (set_refuses (is_undefined declared) tag g i a)
item_small a_sequence s declared l tag begin next outer c g i a h = pushed (level an_item s l begin) next outer (ap (λ (x : Container). may_hold x an_item) c) h (let d = h.shallow in omega arith)
item_small a_fragment_list s declared l tag begin next outer c g i a h = left_small (size_of l) None (next ∷ outer) h

delimiter_in : (c : Container) (declared : Length) (tag : Tag) → (tag.group == 0xFFFE) ≡ true → is_allowed c declared tag ≡ true → is_the_data_set c ≡ false
unfolding is_allowed
delimiter_in the_data_set declared tag g h = let k = data_false tag g in absurd (cc)
delimiter_in an_item declared tag g h = refl
delimiter_in a_sequence declared tag g h = refl
delimiter_in a_fragment_list declared tag g h = refl

head_small : (begin : ℕ) (inner : Level) (outer : List Level) (position : ℕ) (z : List ℕ) → Small (inner ∷ outer) → Fits inner (inner ∷ outer) position z → FitsHead inner (inner ∷ outer) position z
    → Small (head_opens begin z (inner ∷ outer)).levels
head_small begin inner outer position z h fits (fits_element vr g f) =
    let m = element_in inner.container inner.declared (tag_at inner.syntax z) g fits.allowed in
    subst (λ (o : Opened). Small o.levels) (sym (opens_element begin z inner outer vr g f.vr_is))
    (element_small (form inner.syntax (read_as inner.syntax (tag_at inner.syntax z) vr) (length_at inner.syntax vr z)) inner.syntax (tag_at inner.syntax z) vr (length_at inner.syntax vr z) begin inner outer m.0 m.1 f.shallow h)
head_small begin inner outer position z h fits (fits_item g i u f) =
    subst (λ (o : Opened). Small o.levels) (sym (opens_other begin z inner outer true g i))
    (item_small inner.container inner.syntax inner.declared (long_length (number inner.syntax 4 (drop 4 z))) (tag_at inner.syntax z) begin inner outer refl g i fits.allowed h)
head_small begin inner outer position z h fits (fits_delimiter g i) =
    subst (λ (o : Opened). Small o.levels) (sym (opens_other begin z inner outer false g i))
    (record {
      nested = inside_of inner outer h.nested (delimiter_in inner.container inner.declared (tag_at inner.syntax z) g fits.allowed);
      shallow = omega (arith, depth_outer inner outer, h.shallow);
    })

-- ---- a byte

room_left : (position : ℕ) (ls : List Level) (full : Bool) → passes 8 (room position ls) ≡ full → room_stop position ls ≡ None → passes 8 (room position ls) ≡ false
room_left position ls false e h = e
room_left position ls true e h =
    let k = sym (ap (λ (x : Bool). cond x (Some (refused PassesEnd position)) None) e) ∙ h in absurd (cc)

settled_small : (position : ℕ) (o : Opened) (left : ℕ) → Small o.levels → IsSmall (settled position o left).0
settled_small position o zero h =
    let k = closed_small position o.levels h in
    let ls = (full_closed position o.levels).0 in
    record { head_is = omega arith; nested = k.nested; shallow = k.shallow; no_head = λ lt. refl; room_for = λ going none. room_left position ls (passes 8 (room position ls)) refl going }
settled_small position o (suc n) h = record { head_is = omega arith; nested = h.nested; shallow = h.shallow; no_head = λ lt. refl; room_for = λ going none. absurd (omega arith) }

pub levels_accept : (bar : HeadBar) (begin : ℕ) (ls : List Level) (position : ℕ) (z : List ℕ) → Small ls → innermost_stop bar ls position z ≡ None → Small (head_opens begin z ls).levels
levels_accept bar begin [] position z h e = h
levels_accept bar begin (inner ∷ outer) position z h e = let fits = place_none bar inner (inner ∷ outer) position z e in head_small begin inner outer position z h fits fits.head

levels_keep : (bar : HeadBar) (ls : List Level) (position : ℕ) (z : List ℕ) → NeverEarly bar → is_undecided (innermost_stop bar ls position z) ≡ true → length z < 12
levels_keep bar [] position z never u = absurd (cc)
levels_keep bar (inner ∷ outer) position z never u = let short = place_short bar inner (inner ∷ outer) position z never u in short.small

stopped_small : (r : Reading) (stop : Stop) → IsSmall r → IsSmall (record r { head = []; halt = Some stop })
stopped_small r stop h = record { head_is = omega arith; nested = h.nested; shallow = h.shallow; no_head = λ lt. refl; room_for = λ going none. absurd (cc) }

read_small : (bar : HeadBar) (r : Reading) (z : List ℕ) (stop : Option Stop) → NeverEarly bar → IsSmall r → r.left ≡ 0 → innermost_stop bar r.levels r.position z ≡ stop → IsSmall (head_read r z stop).0
read_small bar r z None never h left e =
    let o = head_opens (r.position + length z) z r.levels in
    settled_small (r.position + length z) o o.left (levels_accept bar (r.position + length z) r.levels r.position z (record { nested = h.nested; shallow = h.shallow }) e)
read_small bar r z (Some stop) never h left e =
    elim (cases_Bool (is_undecided (Some stop))) [
      | inl u ↦ subst (λ (x : Bool). IsSmall (cond {A = Reading × List Atom} x (record r { head = z }, []) (record r { head = []; halt = Some stop }, [])).0) (sym u)
          (record { head_is = levels_keep bar r.levels r.position z never (ap is_undecided e ∙ u); nested = h.nested; shallow = h.shallow; no_head = λ lt. absurd (omega arith); room_for = h.room_for })
      | inr u ↦ subst (λ (x : Bool). IsSmall (cond {A = Reading × List Atom} x (record r { head = z }, []) (record r { head = []; halt = Some stop }, [])).0) (sym u) (stopped_small r stop h)
    ]

byte_small : (bar : HeadBar) (r : Reading) (b : ℕ) (halt : Option Stop) (within : Bool) (n : ℕ) → NeverEarly bar → IsSmall r → r.left ≡ n → IsSmall (byte_read bar r b halt within n).0
byte_small bar r b (Some stop) within n never h left = h
byte_small bar r b None false n never h left = stopped_small r (refused TooLong INPUT_LIMIT) h
byte_small bar r b None true (suc n) never h left =
    settled_small (r.position + 1) (value_left n (sign_reads (b ∷ []) r.sign) r.levels (value_byte b ∷ [])) n (left_small n (sign_reads (b ∷ []) r.sign) r.levels (record { nested = h.nested; shallow = h.shallow }))
byte_small bar r b None true zero never h left = read_small bar r (r.head ++ b ∷ []) (innermost_stop bar r.levels r.position (r.head ++ b ∷ [])) never h left refl

pub stays_small : (r : Reading) → IsSmall r → StaysSmall r
unfolding read_byte
stays_small r h =
    record {
      containers = few r.levels h.nested h.shallow;
      next = λ bar b never. byte_small bar r b r.halt (nat_lt (r.position + length r.head) INPUT_LIMIT) r.left never h refl;
    }

pub start_small : (s : Syntax) (start : ℕ) → IsSmall (start_of s start)
unfolding are_nested depth room
start_small s start = record { head_is = omega arith; nested = refl; shallow = omega arith; no_head = λ lt. refl; room_for = λ going none. refl }
