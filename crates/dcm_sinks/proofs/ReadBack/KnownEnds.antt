-- A machine over the bytes of heads and values, where no container has a known end.
use Rattle.std.proofs.Common.{◌≡◌, ℕ, zero, suc, ◌+◌, ◌≤◌, ◌<◌, List, [], ◌∷◌, ◌++◌, length, drop, Option, Some, None, Bool, true, false, cond, not, inl, inr, refl, sym, ap, ◌∙◌, subst, arith, length-append, length-drop, append_assoc}
use Rattle.std.specs.Prelude.{◌==◌, ◌&&◌, nat_lt, nat_le, fold}
use Rattle.std.proofs.lemmas.Bool.{cases_Bool, lt-ltb, le-ltb}
use Rattle.std.proofs.lemmas.List.Sums.{fold-append}
use Rattle.dcm_lemmas.proofs.Options.{some_same}
use Rattle.dcm_base.specs.declared.level.Container.{Container}
use Rattle.dcm_base.specs.declared.tag.Tag.{Tag}
use Rattle.dcm_base.specs.declared.vr.Vr.{Vr}
use Rattle.dcm_base.specs.declared.syntax.Syntax.{Syntax}
use Rattle.dcm_base.specs.declared.fault.Fault.{Fault}
use Rattle.dcm_base.specs.declared.fault.Fault.TheVariants.{EndsEarly, UndefinedLength, PassesEnd, TooDeep}
use Rattle.dcm_base.specs.declared.length.Length.{Length}
use Rattle.dcm_base.specs.Tables.Number.{number}
use Rattle.dcm_base.specs.Tables.Tag.{is_item, item_tag}
use Rattle.dcm_base.specs.Bytes.Head.{ElementHead, ItemHead, Delimiter, tag_at, vr_at, long_length, head_size}
use Rattle.dcm_base.specs.Bytes.Spelling.{form, read_as}
use Rattle.dcm_base.specs.declared.level.Level.{Level}
use Rattle.dcm_base.specs.Reading.Place.{room, passes, depth, is_allowed, is_undefined, least, distance}
use Rattle.dcm_base.specs.Reading.Stop.{Stop, refused, HeadBar, is_empty, is_the_data_set, is_fragment_list, opens_list, has_no_form, with_length, barred, element_stop, item_stop, head_stop, place_stop, first_case, is_undecided}
use Rattle.dcm_base.specs.Reading.Reads.{INPUT_LIMIT}
use Rattle.dcm_base.specs.Steps.Atoms.{value_byte, Atom}
use Rattle.dcm_base.proofs.DataSets.Extend.{tag_at_extends, vr_at_extends}
use Rattle.dcm_base.proofs.DataSets.Heads.{eight_le_head_size}
use Rattle.dcm_stream.specs.Reading.{Reading, Opened, element_opens, item_opens, head_opens, ends_at, closes, full_closed, settled, head_read, byte_read, read_byte, Sign, sign_reads, sign_ends, left_sign, left_levels, value_left, without_value}
use Rattle.dcm_stream.proofs.Steps.StopsStay.{tests, element_tests, place_extends, is_empty_long}
use Rattle.dcm_stream.proofs.Heads.Stops.{FitsHead, fits_element, fits_item, fits_delimiter, Fits, place_none}
use Rattle.dcm_stream.proofs.Heads.Opening.{JustHead, opens_element, opens_other}
use Rattle.std.proofs.lemmas.List.{append-nil}

-- ---- a reading on its way

-- n bytes of a value are to come, or a head
abbrev pub at_value : (position : ℕ) → (left : ℕ) → Option Sign → List Level → Reading
at_value position left sign ls = record { position = position; head = []; left = left; sign = sign; levels = ls; halt = None }

abbrev pub at_head : (position : ℕ) → List Level → Reading
at_head position ls = at_value position 0 None ls

abbrev pub goes_by : HeadBar → Reading → ℕ → Reading
goes_by bar r b = (read_byte bar r b).0

abbrev pub goes : HeadBar → Reading → List ℕ → Reading
goes bar r bytes = fold (goes_by bar) r bytes

-- over these bytes, wherever they stand
abbrev pub Leads : HeadBar → List Level → List ℕ → (left : ℕ) → Option Sign → List Level → Type 0
Leads bar ls bytes left sign ms = (p : ℕ) → p + length bytes ≤ INPUT_LIMIT → goes bar (at_head p ls) bytes ≡ at_value (p + length bytes) left sign ms

abbrev pub Passes : HeadBar → List Level → List ℕ → List Level → Type 0
Passes bar ls bytes ms = Leads bar ls bytes 0 None ms

pub passes_none : (bar : HeadBar) (ls : List Level) → Passes bar ls [] ls
passes_none bar ls p le = ap (λ (n : ℕ). at_head n ls) (let e : p ≡ p + 0 = omega arith in e)

pub passes_both : (bar : HeadBar) (ls ms ns : List Level) (y z : List ℕ) → Passes bar ls y ms → Passes bar ms z ns → Passes bar ls (y ++ z) ns
passes_both bar ls ms ns y z h k p le =
    let size : length (y ++ z) ≡ length y + length z = length-append y z in
    fold-append (goes_by bar) (at_head p ls) y z
    ∙ ap (λ (r : Reading). fold (goes_by bar) r z) (h p (omega (arith, size)))
    ∙ k (p + length y) (omega (arith, size))
    ∙ ap (λ (n : ℕ). at_head n ns) (let e : p + length y + length z ≡ p + length (y ++ z) = omega (arith, size) in e)

-- ---- no known ends

abbrev pub Endless : List Level → Type 0
Endless [] = Unit {0}
Endless (inner ∷ outer) = (inner.end_offset ≡ None) × Endless outer

pub endless_room : (position : ℕ) (ls : List Level) → Endless ls → room position ls ≡ None
unfolding room
endless_room position [] h = refl
endless_room position (inner ∷ outer) h = by_end inner.end_offset (room position outer) h.0 (endless_room position outer h.1)
  where
    by_end : (e r : Option ℕ) → e ≡ None → r ≡ None → least (distance position e) r ≡ None
    by_end None r p q = q
    by_end (Some n) r p q = absurd (cc)

endless_closed : (position : ℕ) (ls : List Level) → Endless ls → full_closed position ls ≡ (ls, [])
unfolding full_closed
endless_closed position [] h = refl
endless_closed position (inner ∷ outer) h =
    ap (λ (e : Option ℕ). cond {A = List Level × List Atom} (ends_at position e) ((full_closed position outer).0, closes inner.container ∷ (full_closed position outer).1) (inner ∷ outer, [])) h.0

pub settled_at : (position : ℕ) (o : Opened) (left : ℕ) → Endless o.levels → (settled position o left).0 ≡ at_value position left o.sign o.levels
settled_at position o (suc n) h = refl
settled_at position o zero h =
    let e : (full_closed position o.levels).0 ≡ o.levels = ap (λ (p : List Level × List Atom). p.0) (endless_closed position o.levels h) in
    ap (λ (ls : List Level). record { position = position; head = []; left = 0; sign = o.sign; levels = ls; halt = cond (passes 8 (room position ls)) (Some (refused PassesEnd position)) None }) e
    ∙ ap (λ (r : Option ℕ). record { position = position; head = []; left = 0; sign = o.sign; levels = o.levels; halt = cond (passes 8 r) (Some (refused PassesEnd position)) None }) (endless_room position o.levels h)

-- ---- values

-- another syntax changes no end
pub endless_left : (left : ℕ) (sign : Option Sign) (ls : List Level) → Endless ls → Endless (left_levels left sign ls)
endless_left zero None ls h = h
endless_left zero (Some sign) [] h = h
endless_left zero (Some sign) (inner ∷ outer) h = h
endless_left (suc left) sign ls h = h

byte_of_value : (bar : HeadBar) (p n : ℕ) (sign : Option Sign) (ls : List Level) (b : ℕ) → Endless ls → p < INPUT_LIMIT
    → (let next : Option Sign = sign_reads (b ∷ []) sign in goes_by bar (at_value p (suc n) sign ls) b ≡ at_value (p + 1) n (left_sign n next) (left_levels n next ls))
unfolding read_byte
byte_of_value bar p n sign ls b h lt =
    ap (λ (t : Bool). (byte_read bar (at_value p (suc n) sign ls) b None t (suc n)).0) (lt-ltb (p + 0) INPUT_LIMIT (omega arith))
    ∙ settled_at (p + 1) (value_left n (sign_reads (b ∷ []) sign) ls (value_byte b ∷ [])) n (endless_left n (sign_reads (b ∷ []) sign) ls h)

-- what is kept of a value, by the bytes that came
module _ (kept : List ℕ → Option Sign) (more : (w : List ℕ) (b : ℕ) → sign_reads (b ∷ []) (kept w) ≡ kept (w ++ b ∷ [])) where
  -- so many bytes are to come after some
  abbrev within_value : (position left : ℕ) → List ℕ → List Level → Reading
  within_value p n w ls = at_value p n (left_sign n (kept w)) (left_levels n (kept w) ls)

  value_goes : (bar : HeadBar) (n : ℕ) (ls : List Level) (w v : List ℕ) (p : ℕ) → Endless ls → length v ≡ n → p + n ≤ INPUT_LIMIT → goes bar (within_value p n w ls) v ≡ at_head (p + n) (sign_ends (kept (w ++ v)) ls)
  value_goes bar n ls w [] p h l le =
      ap (λ (k : ℕ). within_value p k w ls) (sym l) ∙ ap (λ (k : ℕ). at_head k (sign_ends (kept w) ls)) (let e : p ≡ p + n = omega (arith, l) in e)
      ∙ ap (λ (x : List ℕ). at_head (p + n) (sign_ends (kept x) ls)) (sym (append-nil w))
  value_goes bar zero ls w (b ∷ v) p h l le = absurd (omega (arith, l))
  value_goes bar (suc n) ls w (b ∷ v) p h l le =
      ap (λ (r : Reading). fold (goes_by bar) r v) (byte_of_value bar p n (kept w) ls b h (omega arith) ∙ ap (λ (x : Option Sign). at_value (p + 1) n (left_sign n x) (left_levels n x ls)) (more w b))
      ∙ value_goes bar n ls (w ++ b ∷ []) v (p + 1) h (omega (arith, l)) (omega arith)
      ∙ ap (λ (k : ℕ). at_head k (sign_ends (kept ((w ++ b ∷ []) ++ v)) ls)) (let e : p + 1 + n ≡ p + suc n = omega arith in e)
      ∙ ap (λ (x : List ℕ). at_head (p + suc n) (sign_ends (kept x) ls)) (append_assoc w (b ∷ []) v)

  -- a head of a value, and the value
  pub value_passes : (bar : HeadBar) (ls ms : List Level) (z v : List ℕ) (n : ℕ) → Leads bar ls z n (left_sign n (kept [])) (left_levels n (kept []) ms) → Endless ms → length v ≡ n → Passes bar ls (z ++ v) (sign_ends (kept v) ms)
  value_passes bar ls ms z v n h free l p le =
      let size : length (z ++ v) ≡ length z + length v = length-append z v in
      fold-append (goes_by bar) (at_head p ls) z v
      ∙ ap (λ (r : Reading). fold (goes_by bar) r v) (h p (omega (arith, size)))
      ∙ value_goes bar n ms [] v (p + length z) free l (omega (arith, size, l))
      ∙ ap (λ (k : ℕ). at_head k (sign_ends (kept v) ms)) (let e : p + length z + n ≡ p + length (z ++ v) = omega (arith, size, l) in e)

-- ---- the bytes of a head

-- fewer bytes than those of a head leave its end undecided
before_whole : (bar : HeadBar) (inner : Level) (around : List Level) (position : ℕ) (h more : List ℕ) → place_stop bar inner around position (h ++ more) ≡ None → JustHead inner.syntax (h ++ more) → 0 < length more
    → is_undecided (place_stop bar inner around position h) ≡ true
before_whole bar inner around position h more none just some =
    elim (cases_Bool (is_undecided (place_stop bar inner around position h))) [
      | inl u ↦ u
      | inr u ↦
          let fits = place_none bar inner around position h (sym (place_extends bar inner around position h more u) ∙ none) in
          absurd (too_whole fits fits.head)
    ]
  where
    too_whole : Fits inner around position h → FitsHead inner around position h → ⊥
    too_whole fits (fits_element vr g f) =
        let g' = ap (λ (t : Tag). t.group == 0xFFFE) (tag_at_extends inner.syntax h more (omega (arith, fits.eight))) ∙ g in
        let v' = vr_at_extends inner.syntax h more fits.eight ∙ f.vr_is in
        omega (arith, just.element vr g' v', f.whole, length-append h more)
    too_whole fits (fits_item g i u f) =
        let g' = ap (λ (t : Tag). t.group == 0xFFFE) (tag_at_extends inner.syntax h more (omega (arith, fits.eight))) ∙ g in
        omega (arith, just.other g', fits.eight, length-append h more)
    too_whole fits (fits_delimiter g i) =
        let g' = ap (λ (t : Tag). t.group == 0xFFFE) (tag_at_extends inner.syntax h more (omega (arith, fits.eight))) ∙ g in
        omega (arith, just.other g', fits.eight, length-append h more)

-- bytes of a head have come
abbrev within_head : (position : ℕ) → List ℕ → List Level → Reading
within_head p h ls = record { position = p; head = h; left = 0; sign = None; levels = ls; halt = None }

asks : (bar : HeadBar) (p : ℕ) (h : List ℕ) (inner : Level) (outer : List Level) (b : ℕ) → p + length h < INPUT_LIMIT
    → goes_by bar (within_head p h (inner ∷ outer)) b ≡ (head_read (within_head p h (inner ∷ outer)) (h ++ b ∷ []) (place_stop bar inner (inner ∷ outer) p (h ++ b ∷ []))).0
unfolding read_byte
asks bar p h inner outer b lt = ap (λ (t : Bool). (byte_read bar (within_head p h (inner ∷ outer)) b None t 0).0) (lt-ltb (p + length h) INPUT_LIMIT lt)

waits_by : (r : Reading) (z : List ℕ) (stop : Option Stop) → is_undecided stop ≡ true → (head_read r z stop).0 ≡ record r { head = z }
waits_by r z None u = absurd (cc)
waits_by r z (Some stop) u = ap (λ (t : Bool). (cond {A = Reading × List Atom} t (record r { head = z }, []) (record r { head = []; halt = Some stop }, [])).0) u

opened_at : (position : ℕ) → List ℕ → List Level → Reading
opened_at begin z ls = (settled begin (head_opens begin z ls) (head_opens begin z ls).left).0

head_goes : (bar : HeadBar) (p : ℕ) (inner : Level) (outer : List Level) (h : List ℕ) (b : ℕ) (t : List ℕ) → place_stop bar inner (inner ∷ outer) p (h ++ b ∷ t) ≡ None → JustHead inner.syntax (h ++ b ∷ t) → p + length (h ++ b ∷ t) ≤ INPUT_LIMIT
    → goes bar (within_head p h (inner ∷ outer)) (b ∷ t) ≡ opened_at (p + length (h ++ b ∷ t)) (h ++ b ∷ t) (inner ∷ outer)
unfolding opened_at
head_goes bar p inner outer h b [] none just le =
    asks bar p h inner outer b (omega (arith, length-append h (b ∷ [])))
    ∙ ap (λ (stop : Option Stop). (head_read (within_head p h (inner ∷ outer)) (h ++ b ∷ []) stop).0) none
head_goes bar p inner outer h b (c ∷ t) none just le =
    let same : (h ++ b ∷ []) ++ c ∷ t ≡ h ++ b ∷ c ∷ t = append_assoc h (b ∷ []) (c ∷ t) in
    let none' = ap (place_stop bar inner (inner ∷ outer) p) same ∙ none in
    let just' = subst (JustHead inner.syntax) (sym same) just in
    let size = length-append h (b ∷ c ∷ t) in
    ap (λ (r : Reading). fold (goes_by bar) r (c ∷ t))
    (asks bar p h inner outer b (omega (arith, size))
    ∙ waits_by (within_head p h (inner ∷ outer)) (h ++ b ∷ []) (place_stop bar inner (inner ∷ outer) p (h ++ b ∷ [])) (before_whole bar inner (inner ∷ outer) p (h ++ b ∷ []) (c ∷ t) none' just' (omega arith)))
    ∙ head_goes bar p inner outer (h ++ b ∷ []) c t none' just' (subst (λ (z : List ℕ). p + length z ≤ INPUT_LIMIT) (sym same) le)
    ∙ ap (λ (z : List ℕ). opened_at (p + length z) z (inner ∷ outer)) same

-- a head that nothing refuses
pub head_leads : (bar : HeadBar) (p : ℕ) (inner : Level) (outer : List Level) (z : List ℕ) (o : Opened) → place_stop bar inner (inner ∷ outer) p z ≡ None → JustHead inner.syntax z → p + length z ≤ INPUT_LIMIT
    → head_opens (p + length z) z (inner ∷ outer) ≡ o → Endless o.levels → goes bar (at_head p (inner ∷ outer)) z ≡ at_value (p + length z) o.left o.sign o.levels
unfolding opened_at
head_leads bar p inner outer [] o none just le is free = let eight = (place_none bar inner (inner ∷ outer) p [] none).eight in absurd (omega (arith, eight))
head_leads bar p inner outer (b ∷ t) o none just le is free =
    head_goes bar p inner outer [] b t none just le
    ∙ ap (λ (x : Opened). (settled (p + length (b ∷ t)) x x.left).0) is
    ∙ settled_at (p + length (b ∷ t)) o o.left free

-- ---- what the heads say

nothing_behind : (n : ℕ) (z : List ℕ) → [] ≡ drop n z → length z ≤ n
nothing_behind n z e = omega (arith, ap length e, length-drop n z)

pub no_empty : (a : Bool) (z : List ℕ) → 8 ≤ length z → (a && is_empty z) ≡ false
no_empty true z le = is_empty_long z le
no_empty false z le = refl

-- no test but the head's own
place_free : (bar : HeadBar) (inner : Level) (outer : List Level) (p : ℕ) (z : List ℕ) → Endless (inner ∷ outer) → 8 ≤ length z → is_allowed inner.container inner.declared (tag_at inner.syntax z) ≡ true
    → place_stop bar inner (inner ∷ outer) p z ≡ head_stop bar inner (inner ∷ outer) p z
place_free bar inner outer p z free le allowed =
    let h = head_stop bar inner (inner ∷ outer) p z in
    let c2 = is_the_data_set inner.container && is_empty z in
    let c3 = nat_lt (length z) 8 in
    let c4 = not (is_allowed inner.container inner.declared (tag_at inner.syntax z)) in
    ap (λ (r : Option ℕ). tests (passes 8 r) c2 c3 c4 p (length z) h) (endless_room p (inner ∷ outer) free)
    ∙ ap (λ (t : Bool). tests false t c3 c4 p (length z) h) (no_empty (is_the_data_set inner.container) z le)
    ∙ ap (λ (t : Bool). tests false false t c4 p (length z) h) (le-ltb (length z) 8 le)
    ∙ ap (λ (t : Bool). tests false false false (not t) p (length z) h) allowed

long_enough : (s : Syntax) (t : Tag) (vr : Vr) (l : Length) (z : List ℕ) → ElementHead s t vr l z [] → 8 ≤ length z
long_enough s t vr l z h = let le = eight_le_head_size s vr in omega (arith, h.whole)

element_just : (s : Syntax) (t : Tag) (vr : Vr) (l : Length) (z : List ℕ) → ElementHead s t vr l z [] → (t.group == 0xFFFE) ≡ false → JustHead s z
element_just s t vr l z h g = record {
  other = λ e. let k : (t.group == 0xFFFE) ≡ true = ap (λ (x : Tag). x.group == 0xFFFE) h.tag_is ∙ e in absurd (cc);
  element = λ v e f. let same : vr ≡ v = some_same vr v (h.vr_is ∙ f) in let le = nothing_behind (head_size s vr) z h.after_is in
      ap (λ (n : ℕ). n) (let k : length z ≡ head_size s vr = omega (arith, h.whole) in k) ∙ ap (head_size s) same;
}

-- an element's own tests
element_free : (bar : HeadBar) (s : Syntax) (around : List Level) (p : ℕ) (z : List ℕ) (t : Tag) (vr : Vr) (l : Length) → Endless around → ElementHead s t vr l z []
    → has_no_form (form s (read_as s t vr) l) ≡ false → (opens_list (form s (read_as s t vr) l) && nat_le 64 (depth around)) ≡ false → bar t vr l ≡ None → element_stop bar s around p z (vr_at s z) ≡ None
element_free bar s around p z t vr l free h has shallow unbarred =
    ap (λ (v : Option Vr). element_stop bar s around p z v) (sym h.vr_is)
    ∙ ap (λ (x : Length). element_tests (passes (head_size s vr) (room p around)) (nat_lt (length z) (head_size s vr)) (bar (tag_at s z) vr x) s around p (length z) (tag_at s z) vr x) (sym h.length_is)
    ∙ ap (λ (x : Tag). element_tests (passes (head_size s vr) (room p around)) (nat_lt (length z) (head_size s vr)) (bar x vr l) s around p (length z) x vr l) (sym h.tag_is)
    ∙ ap (λ (x : Option Fault). element_tests (passes (head_size s vr) (room p around)) (nat_lt (length z) (head_size s vr)) x s around p (length z) t vr l) unbarred
    ∙ ap (λ (x : Bool). element_tests (passes (head_size s vr) (room p around)) x None s around p (length z) t vr l) (le-ltb (length z) (head_size s vr) h.whole)
    ∙ all_free (passes (head_size s vr) (room p around)) (has_no_form (form s (read_as s t vr) l)) (passes (with_length (head_size s vr) l) (room p around)) (opens_list (form s (read_as s t vr) l) && nat_le 64 (depth around))
    (roomy (head_size s vr) (room p around) (endless_room p around free)) has (roomy (with_length (head_size s vr) l) (room p around) (endless_room p around free)) shallow
  where
    roomy : (n : ℕ) (r : Option ℕ) → r ≡ None → passes n r ≡ false
    roomy n None e = refl
    roomy n (Some k) e = absurd (cc)

    all_free : (c1 c3 c4 c5 : Bool) → c1 ≡ false → c3 ≡ false → c4 ≡ false → c5 ≡ false
        → first_case ((c1, refused PassesEnd p) ∷ (false, refused EndsEarly (p + length z)) ∷ (c3, refused UndefinedLength p) ∷ (c4, refused PassesEnd p) ∷ (c5, refused TooDeep p) ∷ barred None p) ≡ None
    all_free false false false false a b c d = refl
    all_free true c3 c4 c5 a b c d = absurd (cc)
    all_free false true c4 c5 a b c d = absurd (cc)
    all_free false false true c5 a b c d = absurd (cc)
    all_free false false false true a b c d = absurd (cc)

-- an element's head leads to what it opens
pub element_leads : (bar : HeadBar) (inner : Level) (outer : List Level) (p : ℕ) (z : List ℕ) (t : Tag) (vr : Vr) (l : Length) (o : Opened) → Endless (inner ∷ outer) → ElementHead inner.syntax t vr l z []
    → (t.group == 0xFFFE) ≡ false → is_allowed inner.container inner.declared t ≡ true → has_no_form (form inner.syntax (read_as inner.syntax t vr) l) ≡ false
    → (opens_list (form inner.syntax (read_as inner.syntax t vr) l) && nat_le 64 (depth (inner ∷ outer))) ≡ false → bar t vr l ≡ None → p + length z ≤ INPUT_LIMIT
    → element_opens (form inner.syntax (read_as inner.syntax t vr) l) inner.syntax t vr l (p + length z) (inner ∷ outer) ≡ o → Endless o.levels → goes bar (at_head p (inner ∷ outer)) z ≡ at_value (p + length z) o.left o.sign o.levels
element_leads bar inner outer p z t vr l o free h g allowed has shallow unbarred le is o_free =
    let s : Syntax = inner.syntax in
    let g' : ((tag_at s z).group == 0xFFFE) ≡ false = ap (λ (x : Tag). x.group == 0xFFFE) (sym h.tag_is) ∙ g in
    let none : place_stop bar inner (inner ∷ outer) p z ≡ None =
    place_free bar inner outer p z free (long_enough s t vr l z h) (ap (is_allowed inner.container inner.declared) (sym h.tag_is) ∙ allowed)
    ∙ ap (λ (x : Bool). cond (not x) (element_stop bar s (inner ∷ outer) p z (vr_at s z)) (cond (is_item (tag_at s z)) (item_stop inner.container (inner ∷ outer) p (long_length (number s 4 (drop 4 z)))) None)) g'
    ∙ element_free bar s (inner ∷ outer) p z t vr l free h has shallow unbarred in
    let opened : head_opens (p + length z) z (inner ∷ outer) ≡ o =
    opens_element (p + length z) z inner outer vr g' (sym h.vr_is)
    ∙ ap (λ (x : Length). element_opens (form s (read_as s (tag_at s z) vr) x) s (tag_at s z) vr x (p + length z) (inner ∷ outer)) (sym h.length_is)
    ∙ ap (λ (x : Tag). element_opens (form s (read_as s x vr) l) s x vr l (p + length z) (inner ∷ outer)) (sym h.tag_is)
    ∙ is in
    head_leads bar p inner outer z o none (element_just s t vr l z h g) le opened o_free

-- ---- items and delimiters

special_just : (s : Syntax) (t : Tag) (z : List ℕ) → t ≡ tag_at s z → (t.group == 0xFFFE) ≡ true → length z ≡ 8 → JustHead s z
special_just s t z is g eight = record {
  other = λ e. eight;
  element = λ v e f. let k : (t.group == 0xFFFE) ≡ false = ap (λ (x : Tag). x.group == 0xFFFE) is ∙ e in absurd (cc);
}

item_free : (c : Container) (around : List Level) (p : ℕ) (l : Length) → Endless around → (is_fragment_list c && is_undefined l) ≡ false → item_stop c around p l ≡ None
item_free c around p l free h = by_tests (is_fragment_list c && is_undefined l) (room p around) h (endless_room p around free)
  where
    by_tests : (c1 : Bool) (r : Option ℕ) → c1 ≡ false → r ≡ None → first_case ((c1, refused UndefinedLength p) ∷ (passes (with_length 8 l) r, refused PassesEnd p) ∷ []) ≡ None
    by_tests false None a b = refl
    by_tests true r a b = absurd (cc)
    by_tests false (Some n) a b = absurd (cc)

pub item_leads : (bar : HeadBar) (inner : Level) (outer : List Level) (p : ℕ) (z : List ℕ) (l : Length) (o : Opened) → Endless (inner ∷ outer) → ItemHead inner.syntax l z []
    → is_allowed inner.container inner.declared item_tag ≡ true → (is_fragment_list inner.container && is_undefined l) ≡ false → p + length z ≤ INPUT_LIMIT
    → item_opens inner.container inner.syntax l (p + length z) (inner ∷ outer) ≡ o → Endless o.levels → goes bar (at_head p (inner ∷ outer)) z ≡ at_value (p + length z) o.left o.sign o.levels
item_leads bar inner outer p z l o free h allowed known le is o_free =
    let s : Syntax = inner.syntax in
    let low = nothing_behind 8 z h.after_is in
    let eight : length z ≡ 8 = omega (arith, low, h.whole) in
    let g : ((tag_at s z).group == 0xFFFE) ≡ true = ap (λ (x : Tag). x.group == 0xFFFE) (sym h.tag_is) in
    let i : is_item (tag_at s z) ≡ true = ap is_item (sym h.tag_is) in
    let none : place_stop bar inner (inner ∷ outer) p z ≡ None =
    place_free bar inner outer p z free h.whole (ap (is_allowed inner.container inner.declared) (sym h.tag_is) ∙ allowed)
    ∙ ap (λ (x : Bool). cond (not x) (element_stop bar s (inner ∷ outer) p z (vr_at s z)) (cond (is_item (tag_at s z)) (item_stop inner.container (inner ∷ outer) p (long_length (number s 4 (drop 4 z)))) None)) g
    ∙ ap (λ (x : Bool). cond x (item_stop inner.container (inner ∷ outer) p (long_length (number s 4 (drop 4 z)))) None) i
    ∙ ap (λ (x : Length). item_stop inner.container (inner ∷ outer) p x) (sym h.length_is)
    ∙ item_free inner.container (inner ∷ outer) p l free known in
    let opened : head_opens (p + length z) z (inner ∷ outer) ≡ o =
    opens_other (p + length z) z inner outer true g i
    ∙ ap (λ (x : Length). item_opens inner.container inner.syntax x (p + length z) (inner ∷ outer)) (sym h.length_is)
    ∙ is in
    head_leads bar p inner outer z o none (special_just s item_tag z h.tag_is refl eight) le opened o_free

-- a delimiter closes the innermost container
pub delimiter_passes : (bar : HeadBar) (inner : Level) (outer : List Level) (z : List ℕ) (t : Tag) → Endless (inner ∷ outer) → Delimiter inner.syntax t z []
    → is_allowed inner.container inner.declared t ≡ true → (t.group == 0xFFFE) ≡ true → is_item t ≡ false → Passes bar (inner ∷ outer) z outer
delimiter_passes bar inner outer z t free h allowed special no_item p le =
    let s : Syntax = inner.syntax in
    let low = nothing_behind 8 z h.after_is in
    let eight : length z ≡ 8 = omega (arith, low, h.whole) in
    let g : ((tag_at s z).group == 0xFFFE) ≡ true = ap (λ (x : Tag). x.group == 0xFFFE) (sym h.tag_is) ∙ special in
    let i : is_item (tag_at s z) ≡ false = ap is_item (sym h.tag_is) ∙ no_item in
    let none : place_stop bar inner (inner ∷ outer) p z ≡ None =
    place_free bar inner outer p z free h.whole (ap (is_allowed inner.container inner.declared) (sym h.tag_is) ∙ allowed)
    ∙ ap (λ (x : Bool). cond (not x) (element_stop bar s (inner ∷ outer) p z (vr_at s z)) (cond (is_item (tag_at s z)) (item_stop inner.container (inner ∷ outer) p (long_length (number s 4 (drop 4 z)))) None)) g
    ∙ ap (λ (x : Bool). cond x (item_stop inner.container (inner ∷ outer) p (long_length (number s 4 (drop 4 z)))) None) i in
    head_leads bar p inner outer z (without_value outer (closes inner.container)) none (special_just s t z h.tag_is special eight) le (opens_other (p + length z) z inner outer false g i) free.1
