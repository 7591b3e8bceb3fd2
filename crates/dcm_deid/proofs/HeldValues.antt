-- What a held value says, by the whole value.
use Rattle.std.proofs.Common.{◌≡◌, ◌<◌, ◌≤◌, ◌+◌, ◌*◌, ℕ, zero, suc, List, [], ◌∷◌, ◌++◌, length, take, drop, fold, Bool, true, false, ◌||◌, not, refl, sym, ap, ◌∙◌, arith, append_assoc, subst, reverse}
use Rattle.std.specs.Prelude.{nat_lt, if◌then◌else◌}
use Rattle.std.proofs.lemmas.Bool.{lt-ltb, cases_lt}
use mathlib.Core.Logic.{⊎_elim}
use Rattle.std.proofs.lemmas.List.{length-append, append-nil, length-take, length-drop, take-append-drop, take_all, drop_all}
use Rattle.std.proofs.lemmas.List.Sums.{fold-append}
use Rattle.std.proofs.Math.Seq.{take-append_seam, drop-append_seam}
use Rattle.dcm_base.specs.declared.tag.Tag.{Tag}
use Rattle.dcm_base.specs.declared.vr.Vr.{Vr}
use Rattle.dcm_base.specs.declared.vr.Vr.TheVariants.{AT, US, SS, OW, UL, SL, FL, OF, OL, FD, OD, OV, SV, UV}
use Rattle.dcm_base.specs.declared.syntax.Syntax.{Syntax}
use Rattle.dcm_base.specs.declared.syntax.Syntax.TheVariants.{Implicit as implicit_in, Little as little_in, Big as big_in}
use Rattle.dcm_base.specs.Tables.Representation.{pad, unit}
use Rattle.dcm_base.specs.Tables.Transfer.{is_pad, before_pads, without_pads}
use Rattle.dcm_base.specs.Tree.Value.{evened, order, turned}
use Rattle.dcm_base.proofs.Conversions.Order.{order_twice, order_none, length-order, turned_cons, turned_short, unit_some}
use Rattle.dcm_sinks.proofs.Conversions.Turned.{turned_behind}
use Rattle.dcm_stream.proofs.Containers.Reversed.{turned_cons as reverse_cons}
use Rattle.dcm_deid.specs.declared.fate.Fate.{Fate}
use Rattle.dcm_deid.specs.declared.fate.Fate.TheVariants.{Anew}
use Rattle.dcm_deid.specs.declared.fate.NewValue.{NewValue}
use Rattle.dcm_deid.specs.Deidentify.{Renaming}
use Rattle.dcm_deid.specs.DeidentifySink.{Held, nothing_held, held_with, new_of}

-- nothing is made of more bytes than are held
abbrev pub NothingOfLong : Renaming → Type 0
NothingOfLong new = (made : NewValue) (u : List ℕ) → 256 < length u → new made u ≡ []

abbrev pub holds : Fate → Tag → Vr → Syntax → List ℕ → Bool → Held
holds fate tag vr s bytes longer = record { fate = fate; tag = tag; vr = vr; syntax = s; bytes = bytes; is_longer = longer }

-- whether a byte that is no padding came, or did before
abbrev pub longer_after : Bool → List ℕ → Bool
longer_after l [] = l
longer_after l (b ∷ bytes) = longer_after (l || not (is_pad b)) bytes

-- ---- the first bytes, and the others

one_more : (fate : Fate) (tag : Tag) (vr : Vr) (s : Syntax) (bytes : List ℕ) (l t : Bool) (b : ℕ) → t ≡ true
    → (if t then holds fate tag vr s (bytes ++ b ∷ []) l else holds fate tag vr s bytes (l || not (is_pad b))) ≡ holds fate tag vr s (bytes ++ b ∷ []) l
one_more fate tag vr s bytes l t b e = rw e refl

one_longer : (fate : Fate) (tag : Tag) (vr : Vr) (s : Syntax) (bytes : List ℕ) (l t : Bool) (b : ℕ) → t ≡ false
    → (if t then holds fate tag vr s (bytes ++ b ∷ []) l else holds fate tag vr s bytes (l || not (is_pad b))) ≡ holds fate tag vr s bytes (l || not (is_pad b))
one_longer fate tag vr s bytes l t b e = rw e refl

room_left : (n : ℕ) → n < 256 → nat_lt n 256 ≡ true
room_left n h = lt-ltb n 256 h

first_bytes : (fate : Fate) (tag : Tag) (vr : Vr) (s : Syntax) (bytes more : List ℕ) (l : Bool) → length bytes + length more ≤ 256 → fold held_with (holds fate tag vr s bytes l) more ≡ holds fate tag vr s (bytes ++ more) l
first_bytes fate tag vr s bytes [] l h = ap (λ (x : List ℕ). holds fate tag vr s x l) (sym (append-nil bytes))
first_bytes fate tag vr s bytes (b ∷ more) l h =
    ap (λ (x : Held). fold held_with x more) (one_more fate tag vr s bytes l (nat_lt (length bytes) 256) b (room_left (length bytes) (omega (arith, h))))
    ∙ first_bytes fate tag vr s (bytes ++ b ∷ []) more l (omega (arith, h, length-append bytes (b ∷ [])))
    ∙ ap (λ (x : List ℕ). holds fate tag vr s x l) (append_assoc bytes (b ∷ []) more)

no_room : (n : ℕ) → n ≡ 256 → nat_lt n 256 ≡ false
no_room n e = ap (λ (m : ℕ). nat_lt m 256) e

other_bytes : (fate : Fate) (tag : Tag) (vr : Vr) (s : Syntax) (bytes more : List ℕ) (l : Bool) → length bytes ≡ 256 → fold held_with (holds fate tag vr s bytes l) more ≡ holds fate tag vr s bytes (longer_after l more)
other_bytes fate tag vr s bytes [] l h = refl
other_bytes fate tag vr s bytes (b ∷ more) l h =
    ap (λ (x : Held). fold held_with x more) (one_longer fate tag vr s bytes l (nat_lt (length bytes) 256) b (no_room (length bytes) h))
    ∙ other_bytes fate tag vr s bytes more (l || not (is_pad b)) h

-- ---- padding

pub pads_gone : (bytes : List ℕ) (l : Bool) → longer_after l bytes ≡ false → (l ≡ false) × (without_pads bytes ≡ [])
unfolding without_pads
pads_gone [] l e = (e, refl)
pads_gone (b ∷ bytes) l e =
    let h = pads_gone bytes (l || not (is_pad b)) e in
    (left_false l (is_pad b) h.0, ap (before_pads b) h.1 ∙ pad_alone (is_pad b) (b ∷ []) (right_false l (is_pad b) h.0))
  where
    left_false : (l p : Bool) → (l || not p) ≡ false → l ≡ false
    left_false false p e = refl
    left_false true p e = e

    right_false : (l p : Bool) → (l || not p) ≡ false → p ≡ true
    right_false false true e = refl
    right_false false false e = cc
    right_false true p e = cc

    pad_alone : (p : Bool) (x : List ℕ) → p ≡ true → (if p then [] else x) ≡ []
    pad_alone p x e = rw e refl

pub pads_after : (bytes more : List ℕ) → without_pads more ≡ [] → without_pads (bytes ++ more) ≡ without_pads bytes
unfolding without_pads
pads_after [] more e = e
pads_after (b ∷ bytes) more e = ap (before_pads b) (pads_after bytes more e)

cons_left : (t : Bool) (b : ℕ) (rest : List ℕ) → t ≡ is_pad b → (t ≡ true → 0 < length rest) → 0 < length (before_pads b rest)
cons_left true b [] e h = absurd (omega (arith, h refl))
cons_left false b [] e h = subst (λ (t : Bool). 0 < length (if t then [] else b ∷ [])) e (let l : 0 < length (b ∷ []) = omega arith in l)
cons_left t b (x ∷ rest) e h = omega arith

pub some_left : (bytes : List ℕ) → longer_after false bytes ≡ true → 0 < length (without_pads bytes)
unfolding without_pads
some_left [] e = absurd (cc)
some_left (b ∷ bytes) e = cons_left (is_pad b) b (without_pads bytes) refl (λ is. some_left bytes (sym (ap (λ (t : Bool). longer_after (not t) bytes) is) ∙ e))

pub more_left : (bytes more : List ℕ) → 0 < length (without_pads more) → length bytes < length (without_pads (bytes ++ more))
unfolding without_pads
more_left [] more h = h
more_left (b ∷ bytes) more h = one_before (without_pads (bytes ++ more)) (more_left bytes more h)
  where
    one_before : (rest : List ℕ) → length bytes < length rest → length (b ∷ bytes) < length (before_pads b rest)
    one_before [] h = absurd (omega (arith, h))
    one_before (x ∷ rest) h = omega (arith, h)

-- ---- where a value is split

split_at : (fate : Fate) (tag : Tag) (vr : Vr) (s : Syntax) (v : List ℕ) → fold held_with (nothing_held fate tag vr s) v ≡ holds fate tag vr s (take 256 v) (longer_after false (drop 256 v))
split_at fate tag vr s v =
    ⊎_elim
    (λ (short : length v < 257).
    first_bytes fate tag vr s [] v false (omega (arith, short))
    ∙ ap (λ (x : List ℕ). holds fate tag vr s x false) (sym (take_all 256 v (omega (arith, short))))
    ∙ ap (λ (x : List ℕ). holds fate tag vr s (take 256 v) (longer_after false x)) (sym (drop_all 256 v (omega (arith, short)))))
    (λ (long : 257 ≤ length v).
    let is_full : length (take 256 v) ≡ 256 = omega (arith, length-take 256 v, long) in
    ap (fold held_with (nothing_held fate tag vr s)) (sym (take-append-drop 256 v))
    ∙ fold-append held_with (nothing_held fate tag vr s) (take 256 v) (drop 256 v)
    ∙ ap (λ (h : Held). fold held_with h (drop 256 v)) (first_bytes fate tag vr s [] (take 256 v) false (omega (arith, is_full)))
    ∙ other_bytes fate tag vr s (take 256 v) (drop 256 v) false is_full)
    (cases_lt (length v) 257)

-- ---- the order of a value

or_swap : (a b c : Bool) → ((a || b) || c) ≡ ((a || c) || b)
or_swap true b c = refl
or_swap false true true = refl
or_swap false true false = refl
or_swap false false true = refl
or_swap false false false = refl

longer_or : (l p : Bool) (bytes : List ℕ) → longer_after (l || p) bytes ≡ (longer_after l bytes || p)
longer_or l p [] = refl
longer_or l p (b ∷ bytes) = ap (λ (x : Bool). longer_after x bytes) (or_swap l p (not (is_pad b))) ∙ longer_or (l || not (is_pad b)) p bytes

longer_both : (l : Bool) (a b : List ℕ) → longer_after l (a ++ b) ≡ longer_after (longer_after l a) b
longer_both l [] b = refl
longer_both l (x ∷ a) b = longer_both (l || not (is_pad x)) a b

longer_reverse : (l : Bool) (a : List ℕ) → longer_after l (reverse a) ≡ longer_after l a
longer_reverse l [] = refl
longer_reverse l (x ∷ a) =
    ap (longer_after l) (reverse_cons x a)
    ∙ longer_both l (reverse a) (x ∷ [])
    ∙ ap (λ (t : Bool). t || not (is_pad x)) (longer_reverse l a)
    ∙ sym (longer_or l (not (is_pad x)) a)

module _ (k : ℕ) (some : 0 < k) where
  longer_within : (n : ℕ) (l : Bool) (v : List ℕ) → length v ≤ n → longer_after l (turned k v) ≡ longer_after l v
  longer_within zero l v h = ap (longer_after l) (turned_short k some v (omega (arith, h, some)))
  longer_within (suc n) l v h =
      ⊎_elim
      (λ (short : length v < k). ap (longer_after l) (turned_short k some v short))
      (λ (long : k ≤ length v).
      let u : List ℕ = take k v in
      let w : List ℕ = drop k v in
      let whole : u ++ w ≡ v = take-append-drop k v in
      let is_unit : length u ≡ k = omega (arith, length-take k v, long) in
      ap (λ x. longer_after l (turned k x)) (sym whole)
      ∙ ap (longer_after l) (turned_cons k some u w is_unit)
      ∙ longer_both l (reverse u) (turned k w)
      ∙ longer_within n (longer_after l (reverse u)) w (omega (arith, length-drop k v, some, h, long))
      ∙ ap (λ (t : Bool). longer_after t w) (longer_reverse l u)
      ∙ sym (longer_both l u w)
      ∙ ap (longer_after l) whole)
      (cases_lt (length v) k)

longer_order : (s : Syntax) (vr : Vr) (l : Bool) (v : List ℕ) → longer_after l (order s vr v) ≡ longer_after l v
longer_order (implicit_in d) vr l v = refl
longer_order (little_in d) vr l v = refl
longer_order (big_in d) vr l v = longer_within (unit vr) (unit_some vr) (length v) l v (omega arith)

-- 256 bytes are whole units
whole_units : (vr : Vr) → (n : ℕ) × (256 ≡ n * unit vr)
whole_units AT = (128, omega arith)
whole_units US = (128, omega arith)
whole_units SS = (128, omega arith)
whole_units OW = (128, omega arith)
whole_units UL = (64, omega arith)
whole_units SL = (64, omega arith)
whole_units FL = (64, omega arith)
whole_units OF = (64, omega arith)
whole_units OL = (64, omega arith)
whole_units FD = (32, omega arith)
whole_units OD = (32, omega arith)
whole_units OV = (32, omega arith)
whole_units SV = (32, omega arith)
whole_units UV = (32, omega arith)
whole_units _ = (256, omega arith)

order_parts : (s : Syntax) (vr : Vr) (a b : List ℕ) → length a ≡ 256 → order s vr (a ++ b) ≡ order s vr a ++ order s vr b
order_parts (implicit_in d) vr a b h = refl
order_parts (little_in d) vr a b h = refl
order_parts (big_in d) vr a b h = turned_behind (unit vr) (unit_some vr) (whole_units vr).0 a b (h ∙ (whole_units vr).1)

first_of : (a b : List ℕ) → length a ≡ 256 → take 256 (a ++ b) ≡ a
first_of a b h = ap (λ (n : ℕ). take n (a ++ b)) (sym h) ∙ take-append_seam a b

rest_of : (a b : List ℕ) → length a ≡ 256 → drop 256 (a ++ b) ≡ b
rest_of a b h = ap (λ (n : ℕ). drop n (a ++ b)) (sym h) ∙ drop-append_seam a b

order_split : (s : Syntax) (vr : Vr) (v : List ℕ) → (take 256 (order s vr v) ≡ order s vr (take 256 v)) × (drop 256 (order s vr v) ≡ order s vr (drop 256 v))
order_split s vr v =
    ⊎_elim
    (λ (short : length v < 257).
    let all : length v ≤ 256 = omega (arith, short) in
    let same : length (order s vr v) ≤ 256 = omega (arith, short, length-order s vr v) in
    (take_all 256 (order s vr v) same ∙ ap (order s vr) (sym (take_all 256 v all)), drop_all 256 (order s vr v) same ∙ sym (order_none s vr) ∙ ap (order s vr) (sym (drop_all 256 v all))))
    (λ (long : 257 ≤ length v).
    let a : List ℕ = take 256 v in
    let b : List ℕ = drop 256 v in
    let is_full : length a ≡ 256 = omega (arith, length-take 256 v, long) in
    let parts : order s vr v ≡ order s vr a ++ order s vr b = ap (order s vr) (sym (take-append-drop 256 v)) ∙ order_parts s vr a b is_full in
    let full : length (order s vr a) ≡ 256 = length-order s vr a ∙ is_full in
    (ap (take 256) parts ∙ first_of (order s vr a) (order s vr b) full, ap (drop 256) parts ∙ rest_of (order s vr a) (order s vr b) full))
    (cases_lt (length v) 257)

-- a whole value is held by its first bytes, in order
pub held_whole : (fate : Fate) (tag : Tag) (vr : Vr) (s : Syntax) (v : List ℕ) → fold held_with (nothing_held fate tag vr s) (order s vr v) ≡ holds fate tag vr s (order s vr (take 256 v)) (longer_after false (drop 256 v))
held_whole fate tag vr s v =
    split_at fate tag vr s (order s vr v)
    ∙ ap (λ (x : List ℕ). holds fate tag vr s x (longer_after false (drop 256 (order s vr v)))) (order_split s vr v).0
    ∙ ap (λ (x : List ℕ). holds fate tag vr s (order s vr (take 256 v)) (longer_after false x)) (order_split s vr v).1
    ∙ ap (holds fate tag vr s (order s vr (take 256 v))) (longer_order s vr false (drop 256 v))

-- ---- what is made of it

pub some_more : (bytes : List ℕ) → longer_after false bytes ≡ true → 0 < length bytes
some_more [] e = absurd (cc)
some_more (b ∷ bytes) e = omega arith

new_by : (new : Renaming) (made : NewValue) (vr : Vr) (v : List ℕ) (t : Bool) → NothingOfLong new → t ≡ longer_after false (drop 256 v)
    → (if t then [] else evened (pad vr) (new made (without_pads (take 256 v)))) ≡ evened (pad vr) (new made (without_pads v))
new_by new made vr v false none e = ap (λ (x : List ℕ). evened (pad vr) (new made x)) (sym (pads_after (take 256 v) (drop 256 v) (pads_gone (drop 256 v) false (sym e)).1) ∙ ap without_pads (take-append-drop 256 v))
new_by new made vr v true none e =
    let some : 0 < length (drop 256 v) = some_more (drop 256 v) (sym e) in
    let full : length (take 256 v) ≡ 256 = omega (arith, length-take 256 v, length-drop 256 v, some) in
    let long : length (take 256 v) < length (without_pads v) = subst (λ (x : List ℕ). length (take 256 v) < length (without_pads x)) (take-append-drop 256 v) (more_left (take 256 v) (drop 256 v) (some_left (drop 256 v) (sym e))) in
    sym (ap (evened (pad vr)) (none made (without_pads v) (omega (arith, full, long))))

-- a value that is made anew
pub new_is : (new : Renaming) (made : NewValue) (tag : Tag) (vr : Vr) (s : Syntax) (v : List ℕ) → NothingOfLong new
    → new_of new (fold held_with (nothing_held (Anew made) tag vr s) (order s vr v)) ≡ evened (pad vr) (new made (without_pads v))
new_is new made tag vr s v none =
    ap (new_of new) (held_whole (Anew made) tag vr s v)
    ∙ ap (λ (x : List ℕ). if longer_after false (drop 256 v) then [] else evened (pad vr) (new made (without_pads x))) (order_twice s vr (take 256 v))
    ∙ new_by new made vr v (longer_after false (drop 256 v)) none refl
