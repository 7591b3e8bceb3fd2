-- What a machine shows never has more than 64 sequences and fragment lists open.
use Rattle.std.proofs.Common.{◌≡◌, ◌∙◌, ap, sym, refl, subst, ℕ, zero, suc, ◌+◌, ◌≤◌, List, [], ◌∷◌, ◌++◌, length, drop, Option, Some, None, Bool, true, false, cond, inl, inr, arith}
use Rattle.std.specs.Prelude.{fold, ◌==◌, ◌&&◌, not, nat_lt, nat_le, is_some}
use Rattle.std.proofs.lemmas.Bool.{cases_Bool, and_parts, leb-false}
use Rattle.std.proofs.lemmas.List.{append-nil}
use Rattle.std.proofs.lemmas.List.Sums.{fold-append}
use Rattle.dcm_base.specs.declared.tag.Tag.{Tag}
use Rattle.dcm_base.specs.declared.vr.Vr.{Vr}
use Rattle.dcm_base.specs.declared.syntax.Syntax.{Syntax}
use Rattle.dcm_base.specs.declared.length.Length.{Length}
use Rattle.dcm_base.specs.declared.form.Form.{Form}
use Rattle.dcm_base.specs.declared.form.Form.TheVariants.{Value as a_value, Sequence as sequence_form, FragmentList as fragment_form, Nothing as no_form}
use Rattle.dcm_base.specs.declared.level.Container.{Container}
use Rattle.dcm_base.specs.declared.level.Level.{Level}
use Rattle.dcm_base.specs.declared.level.Container.TheVariants.{DataSet as the_data_set, Item as an_item, Sequence as a_sequence, FragmentList as a_fragment_list}
use Rattle.dcm_base.specs.Tables.Number.{number}
use Rattle.dcm_base.specs.Bytes.Head.{tag_at, length_at, long_length}
use Rattle.dcm_base.specs.declared.length.Length.TheVariants.{Undefined}
use Rattle.dcm_base.specs.Bytes.Spelling.{form, inside, read_as}
use Rattle.dcm_base.specs.Reading.Place.{level, counts, depth, is_allowed}
use Rattle.dcm_base.specs.Reading.Stop.{Stop, complete, refused, HeadBar, innermost_stop, is_the_data_set, opens_list, is_undecided}
use Rattle.dcm_base.specs.Reading.Reads.{INPUT_LIMIT}
use Rattle.dcm_base.specs.Steps.Atoms.{Atom, opens, value_byte, closes_leaf, opens_item, opens_fragment, ends}
use Rattle.dcm_stream.specs.Reading.{Reading, start_of, Opened, closing, size_of, ends_at, closes, element_opens, item_opens, head_opens, full_closed, settled, head_read, byte_read, read_byte, reads_byte, read_all, end_shows, Sign, sign_of, sign_reads, left_levels, value_left}
use Rattle.dcm_stream.specs.Bounds.{may_hold, are_nested, IsSmall}
use Rattle.dcm_stream.proofs.Runs.Bounds.{left_small, Small, levels_accept, stays_small, start_small, no_end}
use Rattle.dcm_stream.proofs.Steps.AfterHeads.{data_false}
use Rattle.dcm_stream.proofs.Heads.Stops.{NeverEarly, FitsHead, fits_element, fits_item, fits_delimiter, Fits, place_none}
use Rattle.dcm_stream.proofs.Heads.Opening.{opens_element, opens_other}
use Rattle.dcm_sinks.specs.Laws.{one_less, lists_behind, StaysShallow}
use Rattle.dcm_sinks.proofs.Dumps.OpenLists.{stays_on}

-- ---- atoms, one after another

pub shallow_none : (n : ℕ) → n ≤ 64 → StaysShallow n []
shallow_none n h = λ first rest e. nothing_first first rest e
  where
    nothing_first : (first rest : List Atom) → [] ≡ first ++ rest → fold lists_behind n first ≤ 64
    nothing_first [] rest e = h
    nothing_first (a ∷ first) rest e = absurd (cc)

shallow_more : (n : ℕ) (a : Atom) (atoms : List Atom) → n ≤ 64 → StaysShallow (lists_behind n a) atoms → StaysShallow n (a ∷ atoms)
shallow_more n a atoms h k = λ first rest e. one_first first rest e
  where
    one_first : (first rest : List Atom) → a ∷ atoms ≡ first ++ rest → fold lists_behind n first ≤ 64
    one_first [] rest e = h
    one_first (b ∷ first) rest e =
        let same : a ≡ b = cc in
        let others : atoms ≡ first ++ rest = cc in
        subst (λ (x : Atom). fold lists_behind (lists_behind n x) first ≤ 64) same (k first rest others)

shallow_both : (n : ℕ) (xs ys : List Atom) → StaysShallow n xs → StaysShallow (fold lists_behind n xs) ys → StaysShallow n (xs ++ ys)
shallow_both n [] ys h k = k
shallow_both n (x ∷ xs) ys h k = shallow_more n x (xs ++ ys) (h [] (x ∷ xs) refl) (shallow_both (lists_behind n x) xs ys (stays_on n x xs h) k)

-- from so many open sequences and fragment lists to so many
pub record Leads (n : ℕ) (atoms : List Atom) (m : ℕ) : Type 0 where
  pub comes : fold lists_behind n atoms ≡ m
  pub shallow : StaysShallow n atoms

pub leads_nowhere : (n : ℕ) → n ≤ 64 → Leads n [] n
leads_nowhere n h = record { comes = refl; shallow = shallow_none n h }

pub leads_more : (n k m : ℕ) (a : Atom) (atoms : List Atom) → n ≤ 64 → lists_behind n a ≡ k → Leads k atoms m → Leads n (a ∷ atoms) m
leads_more n k m a atoms h e l = record {
  comes = ap (λ (x : ℕ). fold lists_behind x atoms) e ∙ l.comes;
  shallow = shallow_more n a atoms h (subst (λ (x : ℕ). StaysShallow x atoms) (sym e) l.shallow);
}

pub leads_both : (n k m : ℕ) (xs ys : List Atom) → Leads n xs k → Leads k ys m → Leads n (xs ++ ys) m
leads_both n k m xs ys l r = record {
  comes = fold-append lists_behind n xs ys ∙ ap (λ (x : ℕ). fold lists_behind x ys) l.comes ∙ r.comes;
  shallow = shallow_both n xs ys l.shallow (subst (λ (x : ℕ). StaysShallow x ys) (sym l.comes) r.shallow);
}

pub leads_within : (n m : ℕ) (xs : List Atom) → Leads n xs m → m ≤ 64
leads_within n m xs l = subst (λ (x : ℕ). x ≤ 64) l.comes (l.shallow xs [] (sym (append-nil xs)))

-- ---- containers that close

one_more : (n : ℕ) → one_less (1 + n) ≡ n
one_more n = let e : 1 + n ≡ suc n = omega arith in ap one_less e

closes_one : (c : Container) (n : ℕ) → is_the_data_set c ≡ false → lists_behind (counts c + n) (closes c) ≡ n
closes_one the_data_set n h = absurd (cc)
closes_one an_item n h = omega arith
closes_one a_sequence n h = one_more n
closes_one a_fragment_list n h = one_more n

held_no_set : (outer inner : Container) → may_hold outer inner ≡ true → is_the_data_set inner ≡ false
held_no_set outer an_item h = refl
held_no_set outer a_sequence h = refl
held_no_set outer a_fragment_list h = refl
held_no_set the_data_set the_data_set h = absurd (cc)
held_no_set an_item the_data_set h = absurd (cc)
held_no_set a_sequence the_data_set h = absurd (cc)
held_no_set a_fragment_list the_data_set h = absurd (cc)

depth_of : (inner : Level) (outer : List Level) → depth (inner ∷ outer) ≡ counts inner.container + depth outer
unfolding depth
depth_of inner outer = refl

closed_leads : (position : ℕ) (ls : List Level) → are_nested ls ≡ true → depth ls ≤ 64 → Leads (depth ls) (full_closed position ls).1 (depth (full_closed position ls).0)
unfolding full_closed are_nested
closed_leads position [] h d = absurd (cc)
closed_leads position (inner ∷ []) h d =
    let e = no_end position inner.end_offset (and_parts (is_the_data_set inner.container) (not (is_some inner.end_offset)) h).1 in
    let by = λ (x : Bool). cond {A = List Level × List Atom} x ((full_closed position []).0, closes inner.container ∷ (full_closed position []).1) (inner ∷ [], []) in
    subst (λ (x : Bool). Leads (depth (inner ∷ [])) (by x).1 (depth (by x).0)) (sym e) (leads_nowhere (depth (inner ∷ [])) d)
closed_leads position (inner ∷ next ∷ outer) h d =
    let k = and_parts (may_hold next.container inner.container) (are_nested (next ∷ outer)) h in
    let less : depth (next ∷ outer) ≤ 64 = omega (arith, depth_of inner (next ∷ outer), d) in
    let rest = closed_leads position (next ∷ outer) k.1 less in
    let by = λ (x : Bool). cond {A = List Level × List Atom} x ((full_closed position (next ∷ outer)).0, closes inner.container ∷ (full_closed position (next ∷ outer)).1) (inner ∷ next ∷ outer, []) in
    let one : lists_behind (depth (inner ∷ next ∷ outer)) (closes inner.container) ≡ depth (next ∷ outer) =
    ap (λ (x : ℕ). lists_behind x (closes inner.container)) (depth_of inner (next ∷ outer)) ∙ closes_one inner.container (depth (next ∷ outer)) (held_no_set next.container inner.container k.0) in
    elim (cases_Bool (ends_at position inner.end_offset)) [
      | inl e ↦ subst (λ (x : Bool). Leads (depth (inner ∷ next ∷ outer)) (by x).1 (depth (by x).0)) (sym e)
          (leads_more (depth (inner ∷ next ∷ outer)) (depth (next ∷ outer)) (depth (full_closed position (next ∷ outer)).0) (closes inner.container) (full_closed position (next ∷ outer)).1 d one rest)
      | inr e ↦ subst (λ (x : Bool). Leads (depth (inner ∷ next ∷ outer)) (by x).1 (depth (by x).0)) (sym e) (leads_nowhere (depth (inner ∷ next ∷ outer)) d)
    ]

-- ---- heads

closing_leads : (n size : ℕ) → n ≤ 64 → Leads n (closing size) n
closing_leads n zero h = leads_more n n n closes_leaf [] h refl (leads_nowhere n h)
closing_leads n (suc size) h = leads_nowhere n h

deeper_by : (n : ℕ) (l : Level) (around : List Level) (a : Atom) → lists_behind (depth around) a ≡ n → n ≡ depth (l ∷ around) → depth around ≤ 64 → n ≤ 64 → Leads (depth around) (a ∷ []) (depth (l ∷ around))
deeper_by n l around a e f h k = leads_more (depth around) (depth (l ∷ around)) (depth (l ∷ around)) a [] h (e ∙ f) (leads_nowhere (depth (l ∷ around)) (subst (λ (x : ℕ). x ≤ 64) f k))

-- another syntax changes no depth
depth_left : (left : ℕ) (sign : Option Sign) (ls : List Level) → depth (left_levels left sign ls) ≡ depth ls
unfolding depth
depth_left zero None ls = refl
depth_left zero (Some sign) [] = refl
depth_left zero (Some sign) (inner ∷ outer) = refl
depth_left (suc left) sign ls = refl

element_leads : (f : Form) (s : Syntax) (tag : Tag) (vr : Vr) (l : Length) (begin : ℕ) (around : List Level) → form s (read_as s tag vr) l ≡ f → depth around ≤ 64 → (opens_list f && nat_le 64 (depth around)) ≡ false
    → Leads (depth around) (element_opens f s tag vr l begin around).atoms (depth (element_opens f s tag vr l begin around).levels)
unfolding depth
element_leads a_value s tag vr l begin around e h d =
    subst (λ (n : ℕ). Leads (depth around) (opens tag vr l s ∷ closing (size_of l)) n) (sym (depth_left (size_of l) (sign_of tag vr) around)) (leads_more (depth around) (depth around) (depth around) (opens tag vr l s) (closing (size_of l)) h (ap (λ (g : Form). cond (opens_list g) (suc (depth around)) (depth around)) e) (closing_leads (depth around) (size_of l) h))
element_leads no_form s tag vr l begin around e h d = leads_nowhere (depth around) h
element_leads sequence_form s tag vr l begin around e h d =
    let lt = leb-false 64 (depth around) d in
    deeper_by (suc (depth around)) (level a_sequence (inside s vr) l begin) around (opens tag vr l s) (ap (λ (g : Form). cond (opens_list g) (suc (depth around)) (depth around)) e) (omega arith) h (omega arith)
element_leads fragment_form s tag vr l begin around e h d =
    let lt = leb-false 64 (depth around) d in
    deeper_by (suc (depth around)) (level a_fragment_list s Undefined begin) around (opens tag vr l s) (ap (λ (g : Form). cond (opens_list g) (suc (depth around)) (depth around)) e) (omega arith) h (omega arith)

in_item : (s : Syntax) (l : Length) (begin : ℕ) (around : List Level) → depth around ≤ 64 → Leads (depth around) (opens_item l ∷ []) (depth (level an_item s l begin ∷ around))
unfolding depth
in_item s l begin around h = deeper_by (depth around) (level an_item s l begin) around (opens_item l) refl (omega arith) h h

item_leads : (c : Container) (s : Syntax) (l : Length) (begin : ℕ) (around : List Level) → depth around ≤ 64 → Leads (depth around) (item_opens c s l begin around).atoms (depth (item_opens c s l begin around).levels)
item_leads the_data_set s l begin around h = in_item s l begin around h
item_leads an_item s l begin around h = in_item s l begin around h
item_leads a_sequence s l begin around h = in_item s l begin around h
item_leads a_fragment_list s l begin around h =
    subst (λ (n : ℕ). Leads (depth around) (opens_fragment (size_of l) ∷ closing (size_of l)) n) (sym (depth_left (size_of l) None around))
    (leads_more (depth around) (depth around) (depth around) (opens_fragment (size_of l)) (closing (size_of l)) h refl (closing_leads (depth around) (size_of l) h))

delimiter_in : (c : Container) (declared : Length) (tag : Tag) → (tag.group == 0xFFFE) ≡ true → is_allowed c declared tag ≡ true → is_the_data_set c ≡ false
unfolding is_allowed
delimiter_in the_data_set declared tag g h = let k = data_false tag g in absurd (cc)
delimiter_in an_item declared tag g h = refl
delimiter_in a_sequence declared tag g h = refl
delimiter_in a_fragment_list declared tag g h = refl

delimiter_leads : (inner : Level) (outer : List Level) → is_the_data_set inner.container ≡ false → depth (inner ∷ outer) ≤ 64 → Leads (depth (inner ∷ outer)) (closes inner.container ∷ []) (depth outer)
delimiter_leads inner outer e h =
    leads_more (depth (inner ∷ outer)) (depth outer) (depth outer) (closes inner.container) [] h
    (ap (λ (x : ℕ). lists_behind x (closes inner.container)) (depth_of inner outer) ∙ closes_one inner.container (depth outer) e)
    (leads_nowhere (depth outer) (omega (arith, depth_of inner outer, h)))

abbrev OpenedLeads : ℕ → Opened → Type 0
OpenedLeads n o = Leads n o.atoms (depth o.levels)

head_leads : (begin : ℕ) (inner : Level) (outer : List Level) (position : ℕ) (z : List ℕ) → Small (inner ∷ outer) → Fits inner (inner ∷ outer) position z → FitsHead inner (inner ∷ outer) position z
    → OpenedLeads (depth (inner ∷ outer)) (head_opens begin z (inner ∷ outer))
head_leads begin inner outer position z h fits (fits_element vr g f) =
    let l = length_at inner.syntax vr z in
    subst (λ (o : Opened). OpenedLeads (depth (inner ∷ outer)) o) (sym (opens_element begin z inner outer vr g f.vr_is))
    (element_leads (form inner.syntax (read_as inner.syntax (tag_at inner.syntax z) vr) l) inner.syntax (tag_at inner.syntax z) vr l begin (inner ∷ outer) refl h.shallow f.shallow)
head_leads begin inner outer position z h fits (fits_item g i u f) =
    subst (λ (o : Opened). OpenedLeads (depth (inner ∷ outer)) o) (sym (opens_other begin z inner outer true g i))
    (item_leads inner.container inner.syntax (long_length (number inner.syntax 4 (drop 4 z))) begin (inner ∷ outer) h.shallow)
head_leads begin inner outer position z h fits (fits_delimiter g i) =
    subst (λ (o : Opened). OpenedLeads (depth (inner ∷ outer)) o) (sym (opens_other begin z inner outer false g i))
    (delimiter_leads inner outer (delimiter_in inner.container inner.declared (tag_at inner.syntax z) g fits.allowed) h.shallow)

levels_lead : (bar : HeadBar) (begin : ℕ) (ls : List Level) (position : ℕ) (z : List ℕ) → Small ls → innermost_stop bar ls position z ≡ None → OpenedLeads (depth ls) (head_opens begin z ls)
levels_lead bar begin [] position z h e = leads_nowhere (depth []) h.shallow
levels_lead bar begin (inner ∷ outer) position z h e = let fits = place_none bar inner (inner ∷ outer) position z e in head_leads begin inner outer position z h fits fits.head

-- ---- bytes

abbrev ReadLeads : ℕ → Reading × List Atom → Type 0
ReadLeads n p = Leads n p.1 (depth p.0.levels)

settled_leads : (n position : ℕ) (o : Opened) (left : ℕ) → Small o.levels → OpenedLeads n o → ReadLeads n (settled position o left)
settled_leads n position o zero h l =
    leads_both n (depth o.levels) (depth (full_closed position o.levels).0) o.atoms (full_closed position o.levels).1 l (closed_leads position o.levels h.nested h.shallow)
settled_leads n position o (suc left) h l = l

read_leads : (bar : HeadBar) (r : Reading) (z : List ℕ) (stop : Option Stop) → Small r.levels → innermost_stop bar r.levels r.position z ≡ stop → ReadLeads (depth r.levels) (head_read r z stop)
read_leads bar r z None h e =
    let o = head_opens (r.position + length z) z r.levels in
    settled_leads (depth r.levels) (r.position + length z) o o.left (levels_accept bar (r.position + length z) r.levels r.position z h e) (levels_lead bar (r.position + length z) r.levels r.position z h e)
read_leads bar r z (Some stop) h e =
    let by = λ (x : Bool). cond {A = Reading × List Atom} x (record r { head = z }, []) (record r { head = []; halt = Some stop }, []) in
    elim (cases_Bool (is_undecided (Some stop))) [
      | inl u ↦ subst (λ (x : Bool). ReadLeads (depth r.levels) (by x)) (sym u) (leads_nowhere (depth r.levels) h.shallow)
      | inr u ↦ subst (λ (x : Bool). ReadLeads (depth r.levels) (by x)) (sym u) (leads_nowhere (depth r.levels) h.shallow)
    ]

byte_leads : (bar : HeadBar) (r : Reading) (b : ℕ) (halt : Option Stop) (within : Bool) (n : ℕ) → Small r.levels → ReadLeads (depth r.levels) (byte_read bar r b halt within n)
byte_leads bar r b (Some stop) within n h = leads_nowhere (depth r.levels) h.shallow
byte_leads bar r b None false n h = leads_nowhere (depth r.levels) h.shallow
byte_leads bar r b None true (suc n) h =
    let sign : Option Sign = sign_reads (b ∷ []) r.sign in
    settled_leads (depth r.levels) (r.position + 1) (value_left n sign r.levels (value_byte b ∷ [])) n (left_small n sign r.levels h)
    (subst (λ (m : ℕ). Leads (depth r.levels) (value_byte b ∷ closing n) m) (sym (depth_left n sign r.levels))
    (leads_more (depth r.levels) (depth r.levels) (depth r.levels) (value_byte b) (closing n) h.shallow refl (closing_leads (depth r.levels) n h.shallow)))
byte_leads bar r b None true zero h = read_leads bar r (r.head ++ b ∷ []) (innermost_stop bar r.levels r.position (r.head ++ b ∷ [])) h refl

reads_leads : (bar : HeadBar) (r : Reading) (b : ℕ) → Small r.levels → ReadLeads (depth r.levels) (read_byte bar r b)
unfolding read_byte
reads_leads bar r b h = byte_leads bar r b r.halt (nat_lt (r.position + length r.head) INPUT_LIMIT) r.left h

all_lead : (bars : List Atom → HeadBar) → ((atoms : List Atom) → NeverEarly (bars atoms)) → (bytes : List ℕ) (r : Reading) (atoms : List Atom) → IsSmall r → ReadLeads 0 (r, atoms)
    → ReadLeads 0 (fold (reads_byte bars) (r, atoms) bytes)
all_lead bars never [] r atoms h l = l
all_lead bars never (b ∷ bytes) r atoms h l =
    let q = read_byte (bars atoms) r b in
    all_lead bars never bytes q.0 (atoms ++ q.1) ((stays_small r h).next (bars atoms) b (never atoms))
    (leads_both 0 (depth r.levels) (depth q.0.levels) atoms q.1 l (reads_leads (bars atoms) r b (record { nested = h.nested; shallow = h.shallow })))

start_leads : (s : Syntax) (start : ℕ) → ReadLeads 0 (start_of s start, [])
unfolding depth
start_leads s start = leads_nowhere 0 (omega arith)

-- over any bytes
pub machine_shallow : (bars : List Atom → HeadBar) → ((atoms : List Atom) → NeverEarly (bars atoms)) → (s : Syntax) (start : ℕ) (bytes : List ℕ) → StaysShallow 0 (read_all bars s start bytes).1
machine_shallow bars never s start bytes = (all_lead bars never bytes (start_of s start) [] (start_small s start) (start_leads s start)).shallow

end_leads : (n : ℕ) (stop : Stop) → n ≤ 64 → Leads n (end_shows stop) n
end_leads n complete h = leads_more n n n ends [] h refl (leads_nowhere n h)
end_leads n (refused fault offset) h = leads_nowhere n h

-- and at their end
pub machine_shallow_ended : (bars : List Atom → HeadBar) → ((atoms : List Atom) → NeverEarly (bars atoms)) → (s : Syntax) (start : ℕ) (bytes : List ℕ) (stop : Stop) → StaysShallow 0 ((read_all bars s start bytes).1 ++ end_shows stop)
machine_shallow_ended bars never s start bytes stop =
    let n : ℕ = depth (read_all bars s start bytes).0.levels in
    let l = all_lead bars never bytes (start_of s start) [] (start_small s start) (start_leads s start) in
    (leads_both 0 n n (read_all bars s start bytes).1 (end_shows stop) l (end_leads n stop (leads_within 0 n (read_all bars s start bytes).1 l))).shallow
