-- The new values of edits are bytes, where the words of the command line are.
use Rattle.std.proofs.Common.{◌≡◌, refl, subst, ℕ, List, [], ◌∷◌, ◌++◌, Option, Some, None, Ok, Bool, true, false}
use Rattle.std.specs.Prelude.{if◌then◌else◌, ◌-◌, ◌*◌, ◌^◌, ◌%◌, ◌==◌, nat_le, nat_lt, unwrap_or}
use Rattle.std.specs.Int.{bytes_low_first}
use Rattle.std.specs.List.{slice_split}
use Rattle.std.specs.Str.{byte}
use Rattle.dcm_lemmas.proofs.Options.{some_is}
use Rattle.dcm_base.specs.declared.dictionary.Dictionary.{Dictionary}
use Rattle.dcm_base.specs.declared.tag.Tag.{Tag}
use Rattle.dcm_base.specs.declared.vr.Vr.{Vr}
use Rattle.dcm_base.specs.declared.vr.Vr.TheVariants.{SQ}
use Rattle.dcm_base.specs.declared.fault.EditRefusal.TheVariants.{BadOption, SequenceMisused, ValueDoesNotFit}
use Rattle.dcm_base.specs.Lines.ReadValue.{◌>>=◌, decimal_number, hex_number, unsigned_value, positive_value, negative_value, signed_value, tag_of_text, tag_value, hex_value, each_part, within_limit, is_no_value, takes_bytes, value_in, value_of_text, value_of_word}
use Rattle.dcm_base.specs.Tables.Representation.{unit}
use Rattle.dcm_base.specs.Dump.ValueText.{Shape, text, identifier, unsigned, signed, tags, hexadecimal, shape}
use Rattle.dcm_base.proofs.DumpsBack.Numbers.{Bytes-append}
use Rattle.dcm_base.proofs.DumpsBack.DigitNumbers.{bind_some, if_some}
use Rattle.dcm_base.proofs.DumpsBack.Texts.{Bytes}
use Rattle.dcm_edits.specs.Edit.{Index, PathEdit, insert, modify, Edit}
use Rattle.dcm_edits.specs.EditWords.{Cut, cut, onto, cut_at, parts_of, Known, known_parts, has_form, uses_sequences, takes_value, Kind, inserts, modifies, erases, modifies_all, erases_all, last_vr, on_steps, step_to, item_or_element, edit_on, value_for, edit_of_known, edit_of_parts, meant_edit, meant_edits_in, or_refuse}
use Rattle.dcm_edits.proofs.Words.EditWordLemmas.{bind_ok, ok_is, if_ok, or_refused}
use Rattle.dcm_edits.proofs.Words.WordValues.{AllFine, AllHave, fine_edits_have}
use Rattle.dcm_editor_laws.proofs.ReadBack.BytesKept.{low_bytes, PathBytes, EditBytes, AllEditBytes}

some_bytes : (w v : List ℕ) → Bytes w → (let o : Option (List ℕ) = Some w in o ≡ Some v) → Bytes v
some_bytes w v h p = subst Bytes (some_is w v p) h

-- a value is made
abbrev Made : Option (List ℕ) → Type 0
Made o = (v : List ℕ) → o ≡ Some v → Bytes v

if_made : (c : Bool) (w : List ℕ) → Bytes w → Made (if c then Some w else None)
if_made c w h v p = some_bytes w v h (if_some c (Some w) v p).1

-- ---- numbers

unsigned_made : (size : ℕ) (cs : List ℕ) → Made (unsigned_value size cs)
unsigned_made size cs v p =
    let q = bind_some (decimal_number cs) (λ n. if nat_lt n (256 ^ size) then Some (bytes_low_first 0 size n) else None) v p in
    if_made (nat_lt q.0 (256 ^ size)) (bytes_low_first 0 size q.0) (low_bytes 0 size q.0) v q.2

positive_made : (size : ℕ) (cs : List ℕ) → Made (positive_value size cs)
positive_made size cs v p =
    let q = bind_some (decimal_number cs) (λ n. if nat_lt (2 * n) (256 ^ size) then Some (bytes_low_first 0 size n) else None) v p in
    if_made (nat_lt (2 * q.0) (256 ^ size)) (bytes_low_first 0 size q.0) (low_bytes 0 size q.0) v q.2

negative_made : (size : ℕ) (cs : List ℕ) → Made (negative_value size cs)
negative_made size cs v p =
    let q = bind_some (decimal_number cs) (λ n. if nat_le (2 * n) (256 ^ size) then Some (bytes_low_first 0 size ((256 ^ size - n) % 256 ^ size)) else None) v p in
    if_made (nat_le (2 * q.0) (256 ^ size)) (bytes_low_first 0 size ((256 ^ size - q.0) % 256 ^ size)) (low_bytes 0 size ((256 ^ size - q.0) % 256 ^ size)) v q.2

either_made : (c : Bool) (x y : Option (List ℕ)) → Made x → Made y → Made (if c then x else y)
either_made true x y h k = h
either_made false x y h k = k

signed_made : (size : ℕ) (cs : List ℕ) → Made (signed_value size cs)
signed_made size [] v p = absurd cc
signed_made size (c ∷ cs) v p = either_made (c == byte "-") (negative_value size cs) (positive_value size (c ∷ cs)) (negative_made size cs) (positive_made size (c ∷ cs)) v p

tag_made : (cs : List ℕ) → Made (tag_value cs)
tag_made cs v p =
    let q = bind_some (tag_of_text cs) (λ (tag : Tag). Some (bytes_low_first 0 2 tag.group ++ bytes_low_first 0 2 tag.element)) v p in
    some_bytes _ v (Bytes-append (bytes_low_first 0 2 q.0.group) (bytes_low_first 0 2 q.0.element) (low_bytes 0 2 q.0.group) (low_bytes 0 2 q.0.element)) q.2

hex_made : (size : ℕ) (cs : List ℕ) → Made (hex_value size cs)
hex_made size cs v p =
    let q = bind_some (hex_number (2 * size) cs) (λ n. Some (bytes_low_first 0 size n)) v p in
    some_bytes (bytes_low_first 0 size q.0) v (low_bytes 0 size q.0) q.2

parts_made : (read : List ℕ → Option (List ℕ)) → ((cs : List ℕ) → Made (read cs)) → (parts : List (List ℕ)) → Made (each_part read parts)
parts_made read h [] v p = some_bytes [] v tt p
parts_made read h (part ∷ parts) v p =
    let q = bind_some (read part) (λ bytes. each_part read parts >>= λ more. Some (bytes ++ more)) v p in
    let r = bind_some (each_part read parts) (λ more. Some (q.0 ++ more)) v q.2 in
    some_bytes (q.0 ++ r.0) v (Bytes-append q.0 r.0 (h part q.0 q.1) (parts_made read h parts r.0 r.1)) r.2

-- ---- values

value_made : (s : Shape) (size : ℕ) (cs : List ℕ) → takes_bytes s ≡ false → Made (value_in s size cs)
value_made text size cs e v p = absurd cc
value_made identifier size cs e v p = absurd cc
value_made unsigned size cs e v p = parts_made (unsigned_value size) (unsigned_made size) (slice_split (λ c. c == byte "\\") cs) v p
value_made signed size cs e v p = parts_made (signed_value size) (signed_made size) (slice_split (λ c. c == byte "\\") cs) v p
value_made tags size cs e v p = parts_made tag_value tag_made (slice_split (λ c. c == byte "\\") cs) v p
value_made hexadecimal size cs e v p = parts_made (hex_value size) (hex_made size) (slice_split (λ c. c == byte "\\") cs) v p

limit_made : (w : List ℕ) → Bytes w → Made (within_limit w)
limit_made w h v p = some_bytes w v h (if_some _ (Some w) v p).1

limited_made : (o : Option (List ℕ)) → Made o → Made (o >>= within_limit)
limited_made o h v p = let q = bind_some o within_limit v p in limit_made q.0 (h q.0 q.1) v q.2

text_made : (vr : Vr) (cs : List ℕ) → takes_bytes (shape vr) ≡ false → Made (value_of_text vr cs)
text_made SQ cs e v p = absurd cc
text_made vr cs e v p =
    either_made (is_no_value cs) (Some []) (value_in (shape vr) (unit vr) cs >>= within_limit) (λ w q. some_bytes [] w tt q)
    (limited_made (value_in (shape vr) (unit vr) cs) (value_made (shape vr) (unit vr) cs e)) v p

word_made : (vr : Vr) (cs : List ℕ) → Bytes cs → Made (value_of_word vr cs)
word_made vr [] h v p = some_bytes [] v tt p
word_made vr (c ∷ cs) h v p = by_test (takes_bytes (shape vr)) refl p
  where
    by_test : (b : Bool) → takes_bytes (shape vr) ≡ b → (if b then within_limit (c ∷ cs) else value_of_text vr (c ∷ cs)) ≡ Some v → Bytes v
    by_test true e q = limit_made (c ∷ cs) h v q
    by_test false e q = text_made vr (c ∷ cs) e v q

value_bytes : (kind : Kind) (vr : Vr) (word v : List ℕ) → Bytes word → value_for kind vr word ≡ Ok v → Bytes v
value_bytes kind vr word v h p =
    either_made (takes_value kind) (value_of_word vr word) (Some []) (word_made vr word h) (λ w q. some_bytes [] w tt q) v
    (or_refused ValueDoesNotFit (if takes_value kind then value_of_word vr word else Some []) v p)

-- ---- edits

step_bytes : (tag : Tag) (o : Option Index) (edit : PathEdit) → PathBytes edit → PathBytes (step_to tag o edit)
step_bytes tag None edit h = h
step_bytes tag (Some index) edit h = h

steps_bytes : (at_end : Known → PathEdit) (k : Known) (ks : List Known) → ((x : Known) → PathBytes (at_end x)) → PathBytes (on_steps at_end k ks)
steps_bytes at_end k [] h = h k
steps_bytes at_end k (l ∷ ks) h = step_bytes k.tag k.index (on_steps at_end l ks) (steps_bytes at_end l ks h)

erased_bytes : (tag : Tag) (o : Option Index) → PathBytes (item_or_element tag o)
erased_bytes tag None = tt
erased_bytes tag (Some index) = tt

on_bytes : (kind : Kind) (k : Known) (ks : List Known) (v : List ℕ) → Bytes v → EditBytes (edit_on kind k ks v)
on_bytes inserts k ks v h = steps_bytes (λ x. insert x.tag x.vr v) k ks (λ x. h)
on_bytes modifies k ks v h = steps_bytes (λ x. modify x.tag x.vr v) k ks (λ x. h)
on_bytes erases k ks v h = steps_bytes (λ x. item_or_element x.tag x.index) k ks (λ x. erased_bytes x.tag x.index)
on_bytes modifies_all k ks v h = h
on_bytes erases_all k ks v h = tt

known_bytes : (kind : Kind) (v : List ℕ) (ks : List Known) (e : Edit) → Bytes v → edit_of_known kind v ks ≡ Ok e → EditBytes e
known_bytes kind v [] e fine h = absurd cc
known_bytes kind v (k ∷ ks) e fine h =
    let r = bind_ok (value_for kind (last_vr k ks) v) (λ value. Ok (edit_on kind k ks value)) e (if_ok (uses_sequences (takes_value kind) (k ∷ ks)) SequenceMisused _ e h) in
    subst (λ (x : Edit). EditBytes x) (ok_is _ _ r.2) (on_bytes kind k ks r.0 (value_bytes kind (last_vr k ks) v r.0 fine r.1))

meant_bytes : (d : Dictionary) (kind : Kind) (p v : List ℕ) (e : Edit) → Bytes v → meant_edit d kind p v ≡ Ok e → EditBytes e
meant_bytes d kind p v e fine h =
    let a = bind_ok (or_refuse BadOption (parts_of (slice_split (λ c. c == byte ".") p))) (edit_of_parts d kind v) e h in
    let b = bind_ok (known_parts d a.0) (edit_of_known kind v) e (if_ok (has_form kind a.0) BadOption _ e a.2) in
    known_bytes kind v b.0 e fine b.2

-- ---- words

part_bytes : (t : Bool) (k l : Cut) → Bytes (unwrap_or k.after []) → Bytes (unwrap_or l.after []) → Bytes (unwrap_or (if t then k else l).after [])
part_bytes true k l h g = h
part_bytes false k l h g = g

cut_bytes : (b : ℕ) (w : List ℕ) → Bytes w → Bytes (unwrap_or (cut_at b w).after [])
cut_bytes b [] h = tt
cut_bytes b (c ∷ cs) h = part_bytes (c == b) (cut [] (Some cs)) (onto c (cut_at b cs)) h.1 (cut_bytes b cs h.1)

all_bytes : (es : List Edit) → AllHave EditBytes es → AllEditBytes es
all_bytes [] h = tt
all_bytes (e ∷ es) h = (h.0, all_bytes es h.1)

pub words_bytes : (d : Dictionary) (words : List (List ℕ)) (es : List Edit) → AllFine Bytes words → meant_edits_in d words ≡ Ok es → AllEditBytes es
words_bytes d words es fine q = all_bytes es (fine_edits_have d Bytes tt (cut_bytes (byte "=")) EditBytes tt (meant_bytes d) words es fine q)
