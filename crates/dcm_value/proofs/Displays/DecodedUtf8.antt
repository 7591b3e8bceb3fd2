-- What is shown by Specific Character Set is UTF-8, also where it is cut.
use Rattle.std.proofs.Common.{◌≡◌, ◌≤◌, ◌<◌, ℕ, zero, suc, ◌+◌, ◌-◌, ◌/◌, ◌%◌, ◌==◌, ◌&&◌, not, ltb, Bool, true, false, cond, List, [], ◌∷◌, ◌++◌, length, take, drop, replicate, slice_index, codes, Option, Some, None, ap, sym, subst, ◌∙◌, refl, arith, append-nil, lt-ltb, le-ltb}
use Rattle.std.specs.Prelude.{flat_map, IsUtf8, encode_utf8_all}
use Rattle.std.specs.Str.{IsCharBoundary}
use Rattle.std.specs.Char.{encode_utf8}
use Rattle.std.specs.List.{list_all}
use Rattle.std.specs.Option.{option_map_or}
use Rattle.std.proofs.lemmas.Bool.{and_parts, cases_Bool, cases_lt, cond-true, cond-false}
use Rattle.std.proofs.lemmas.Bool.Decides.{nat_tests}
use Rattle.std.proofs.lemmas.Grind.{flat_map-append}
use Rattle.std.proofs.lemmas.List.{length-append, take-append-drop, get_or-append-add, get_or_past}
use Rattle.std.proofs.lemmas.List.Folds.{list_all-append}
use Rattle.std.proofs.lemmas.Str.{IsUtf8-append, IsUtf8-take, IsUtf8-from_ascii}
use Rattle.std.proofs.Math.Seq.{get_or-append_right, take-append_seam}
use mathlib.Core.Logic.{⊎_elim}
use Rattle.dcm_lemmas.proofs.Truth.{true_false}
use Rattle.dcm_base.specs.declared.vr.Vr.{Vr}
use Rattle.dcm_base.specs.declared.mode.Mode.{Mode}
use Rattle.dcm_base.specs.declared.mode.Mode.TheVariants.{Short, Full}
use Rattle.dcm_base.specs.Tables.Representation.{pad}
use Rattle.dcm_base.specs.Tables.Uid.{uid_name}
use Rattle.dcm_base.specs.Dump.ValueText.{unpadded, padded}
use Rattle.dcm_text.specs.declared.first.Meaning.{Meaning}
use Rattle.dcm_text.specs.declared.first.Meaning.TheVariants as meaning
use Rattle.dcm_text.specs.declared.set.TextKind.{TextKind}
use Rattle.dcm_text.specs.declared.set.TextKind.TheVariants.{OneValue}
use Rattle.dcm_text.specs.declared.sets.Sets.{Sets}
use Rattle.dcm_text.specs.Sets.{sets_of}
use Rattle.dcm_text.specs.Decoding.{Piece}
use Rattle.dcm_text.specs.Runs.{State, Run, begun, run}
use Rattle.dcm_text.specs.Shown.{percent, is_dumped, dumped_piece, dumped}
use Rattle.dcm_text.specs.Laws.{is_byte}
use Rattle.dcm_text.proofs.Runs.{two_pieces, whole_run}
use Rattle.dcm_text.proofs.Sound.{dump_utf8}
use Rattle.dcm_value.specs.Decoded.{goes_on, cut_size}
use Rattle.dcm_value.specs.DecodedProgress.{sets_for, kind_of, is_named, decoded_identified, shown_pieces}
use Rattle.dcm_value.specs.DecodedDisplay.{decoded_display, decoded_shortened}
use Rattle.dcm_value.specs.DecodedLaws.{DecodedIsUtf8, SoFarIsUtf8}
use Rattle.dcm_value.proofs.Displays.DecodedAsBefore.{low, low_ascii, low_name}

-- ---- the first byte of a character goes on none

low_starts : (b : ℕ) → b < 128 → goes_on b ≡ false
low_starts b l = grind (arith, nat_tests)

high_starts : (b : ℕ) → 192 ≤ b → goes_on b ≡ false
high_starts b l = grind (arith, nat_tests)

record Begins (bytes : List ℕ) : Type 0 where
  first : ℕ
  tail : List ℕ
  is : bytes ≡ first ∷ tail
  few : length tail ≤ 3
  starts : goes_on first ≡ false

-- a term of the type given
abbrev by : (A : Type 0) → A → A
by A a = a

begins : (c : ℕ) → Begins (encode_utf8 c)
unfolding encode_utf8
begins c =
    ⊎_elim
    (λ one. record {
      first = c;
      tail = [];
      is = cond-true _ _ _ (by (ltb c 128 ≡ true) (grind (arith, nat_tests)));
      few = omega arith;
      starts = low_starts c one;
    })
    (λ more.
    let not_one : ltb c 128 ≡ false = grind (arith, nat_tests) in
    ⊎_elim
    (λ two. record {
      first = 192 + c / 64;
      tail = (128 + c % 64) ∷ [];
      is = cond-false _ _ _ not_one ∙ cond-true _ _ _ (by (ltb c 2048 ≡ true) (grind (arith, nat_tests)));
      few = omega arith;
      starts = high_starts (192 + c / 64) (omega arith);
    })
    (λ wide.
    let not_two : ltb c 2048 ≡ false = grind (arith, nat_tests) in
    ⊎_elim
    (λ three. record {
      first = 224 + c / 4096;
      tail = (128 + (c / 64) % 64) ∷ (128 + c % 64) ∷ [];
      is = cond-false _ _ _ not_one ∙ cond-false _ _ _ not_two ∙ cond-true _ _ _ (by (ltb c 65536 ≡ true) (grind (arith, nat_tests)));
      few = omega arith;
      starts = high_starts (224 + c / 4096) (omega arith);
    })
    (λ four.
    let not_three : ltb c 65536 ≡ false = grind (arith, nat_tests) in
    record {
      first = 240 + c / 262144;
      tail = (128 + (c / 4096) % 64) ∷ (128 + (c / 64) % 64) ∷ (128 + c % 64) ∷ [];
      is = cond-false _ _ _ not_one ∙ cond-false _ _ _ not_two ∙ cond-false _ _ _ not_three;
      few = omega arith;
      starts = high_starts (240 + c / 262144) (omega arith);
    })
    (cases_lt c 65536))
    (cases_lt c 2048))
    (cases_lt c 128)

-- what stands before a text that begins so begins so
start_append : (xs ys : List ℕ) → goes_on (slice_index xs 0) ≡ false → goes_on (slice_index ys 0) ≡ false → goes_on (slice_index (xs ++ ys) 0) ≡ false
start_append [] ys e f = f
start_append (x ∷ xs) ys e f = e

char_start : (c : ℕ) → goes_on (slice_index (encode_utf8 c) 0) ≡ false
char_start c = let b = begins c in ap (λ (x : List ℕ). goes_on (slice_index x 0)) b.is ∙ b.starts

chars_start : (cs : List ℕ) → goes_on (slice_index (encode_utf8_all cs) 0) ≡ false
chars_start [] = refl
chars_start (c ∷ cs) = start_append (encode_utf8 c) (encode_utf8_all cs) (char_start c) (chars_start cs)

-- ---- no four bytes in a row go on characters

abbrev At : List ℕ → ℕ → Type 0
At d i = goes_on (slice_index d i) ≡ true

record Four (d : List ℕ) (i : ℕ) : Type 0 where
  one : At d i
  two : At d (i + 1)
  three : At d (i + 2)
  four : At d (i + 3)

among : (d : List ℕ) (i n : ℕ) → Four d i → i < n → n ≤ i + 3 → At d n
among d i n f l m =
    ⊎_elim
    (λ a. subst (At d) (let e : i + 1 ≡ n = omega arith in e) f.two)
    (λ a. ⊎_elim
    (λ b. subst (At d) (let e : i + 2 ≡ n = omega arith in e) f.three)
    (λ b. subst (At d) (let e : i + 3 ≡ n = omega arith in e) f.four)
    (cases_lt n (i + 3)))
    (cases_lt n (i + 2))

none_in : (first : ℕ) (tail rest : List ℕ) → length tail ≤ 3 → goes_on first ≡ false → goes_on (slice_index rest 0) ≡ false
    → ((j : ℕ) → Four rest j → ⊥) → (i : ℕ) → Four (first ∷ (tail ++ rest)) i → ⊥
none_in first tail rest few starts next none i f =
    let d : List ℕ = first ∷ (tail ++ rest) in
    let n : ℕ = length (first ∷ tail) in
    ⊎_elim
    (λ zero_. true_false (goes_on first) (subst (At d) (let e : i ≡ 0 = omega arith in e) f.one) starts)
    (λ some. ⊎_elim
    (λ within. true_false (goes_on (slice_index d n)) (among d i n f within (omega arith)) (ap goes_on (at_rest n (omega arith) ∙ ap (λ k. slice_index rest k) (let e : n - n ≡ 0 = omega arith in e)) ∙ next))
    (λ past. none (i - n) (record {
      one = in_rest i (i - n) past (omega arith) f.one;
      two = in_rest (i + 1) (i - n + 1) (omega arith) (omega arith) f.two;
      three = in_rest (i + 2) (i - n + 2) (omega arith) (omega arith) f.three;
      four = in_rest (i + 3) (i - n + 3) (omega arith) (omega arith) f.four;
    }))
    (cases_lt i n))
    (cases_lt i 1)
  where
    at_rest : (k : ℕ) → length (first ∷ tail) ≤ k → slice_index (first ∷ (tail ++ rest)) k ≡ slice_index rest (k - length (first ∷ tail))
    at_rest k l = get_or-append_right (first ∷ tail) rest k 0 l

    in_rest : (k j : ℕ) → length (first ∷ tail) ≤ k → k - length (first ∷ tail) ≡ j → At (first ∷ (tail ++ rest)) k → At rest j
    in_rest k j l e h = sym (ap goes_on (at_rest k l ∙ ap (λ x. slice_index rest x) e)) ∙ h

no_four : (cs : List ℕ) (i : ℕ) → Four (encode_utf8_all cs) i → ⊥
no_four [] i f = true_false (goes_on (slice_index [] i)) f.one (ap goes_on (get_or_past [] i 0 (omega arith)))
no_four (c ∷ cs) i f =
    let b = begins c in
    none_in b.first b.tail (encode_utf8_all cs) b.few b.starts (chars_start cs) (λ j h. no_four cs j h) i
    (subst (λ (x : List ℕ). Four (x ++ encode_utf8_all cs) i) b.is f)

-- ---- the cut is where a character begins

boundary : (d : List ℕ) (n : ℕ) → n ≤ length d → goes_on (slice_index d n) ≡ false → IsCharBoundary d n
boundary d n l e = (l, λ within high. starts (slice_index d n) e high)
  where
    starts : (b : ℕ) → goes_on b ≡ false → 128 ≤ b → 192 ≤ b
    starts b e h = grind (arith, nat_tests)

cut_boundary : (d : List ℕ) → IsUtf8 d → 66 < length d → IsCharBoundary d (cut_size d)
cut_boundary d u long =
    let size : Bool → Bool → Bool → ℕ = λ a b c. cond (not a) 63 (cond (not b) 62 (cond (not c) 61 60)) in
    let at : ℕ → Bool = λ k. goes_on (slice_index d k) in
    let stands : (n : ℕ) → n ≤ 63 → at n ≡ false → IsCharBoundary d n = λ n l e. boundary d n (omega arith) e in
    ⊎_elim
    (λ a. ⊎_elim
    (λ b. ⊎_elim
    (λ c. subst (IsCharBoundary d) (sym (ap (λ x. size x (at 62) (at 61)) a ∙ ap (λ x. size true x (at 61)) b ∙ ap (λ x. size true true x) c))
    (stands 60 (omega arith) (not_true (at 60) (λ e. no_four u.0 60 (subst (λ x. Four x 60) (sym u.1.1) (record { one = e; two = c; three = b; four = a }))))))
    (λ c. subst (IsCharBoundary d) (sym (ap (λ x. size x (at 62) (at 61)) a ∙ ap (λ x. size true x (at 61)) b ∙ ap (λ x. size true true x) c)) (stands 61 (omega arith) c))
    (cases_Bool (at 61)))
    (λ b. subst (IsCharBoundary d) (sym (ap (λ x. size x (at 62) (at 61)) a ∙ ap (λ x. size true x (at 61)) b)) (stands 62 (omega arith) b))
    (cases_Bool (at 62)))
    (λ a. subst (IsCharBoundary d) (sym (ap (λ x. size x (at 62) (at 61)) a)) (stands 63 (omega arith) a))
    (cases_Bool (at 63))
  where
    not_true : (t : Bool) → (t ≡ true → ⊥) → t ≡ false
    not_true true h = absurd (h refl)
    not_true false h = refl

-- ---- a display

pub low_utf8 : (d : List ℕ) → list_all low d ≡ true → IsUtf8 d
low_utf8 d e = IsUtf8-from_ascii d (low_ascii d e)

pub spaces_low : (n : ℕ) → list_all low (replicate n 32) ≡ true
spaces_low zero = refl
spaces_low (suc n) = spaces_low n

pub padded_utf8 : (d : List ℕ) → IsUtf8 d → IsUtf8 (padded d)
padded_utf8 d u = IsUtf8-append d (replicate (40 - length d) 32) u (low_utf8 (replicate (40 - length d) 32) (spaces_low (40 - length d)))

cut_utf8 : (d : List ℕ) → IsUtf8 d → 66 < length d → IsUtf8 (take (cut_size d) d ++ codes "...")
cut_utf8 d u long = IsUtf8-append (take (cut_size d) d) (codes "...") (IsUtf8-take d (cut_size d) u (cut_boundary d u long)) (low_utf8 (codes "...") refl)

shortened_utf8 : (mode : Mode) (d : List ℕ) → IsUtf8 d → IsUtf8 (decoded_shortened mode d)
shortened_utf8 Full d u = u
shortened_utf8 Short d u =
    let cut : Bool → List ℕ = λ t. cond t (take (cut_size d) d ++ codes "...") d in
    ⊎_elim
    (λ long. subst (λ t. IsUtf8 (cut t)) (sym (lt-ltb 66 (length d) long)) (cut_utf8 d u long))
    (λ few. subst (λ t. IsUtf8 (cut t)) (sym (le-ltb 66 (length d) few)) u)
    (cases_lt 66 (length d))

bracketed_utf8 : (t : List ℕ) → IsUtf8 t → IsUtf8 (codes "[" ++ t ++ codes "]")
bracketed_utf8 t u = IsUtf8-append (codes "[" ++ t) (codes "]") (IsUtf8-append (codes "[") t (low_utf8 (codes "[") refl) u) (low_utf8 (codes "]") refl)

bytes_taken : (n : ℕ) (v : List ℕ) → list_all is_byte v ≡ true → list_all is_byte (take n v) ≡ true
bytes_taken n v e =
    (and_parts (list_all is_byte (take n v)) (list_all is_byte (drop n v))
    (sym (list_all-append is_byte (take n v) (drop n v)) ∙ ap (list_all is_byte) (take-append-drop n v) ∙ e)).0

bytes_unpadded : (vr : Vr) (v : List ℕ) → list_all is_byte v ≡ true → list_all is_byte (unpadded vr v) ≡ true
bytes_unpadded vr v e = go (length v % 2 == 0 && slice_index v (length v - 1) == pad vr)
  where
    go : (t : Bool) → list_all is_byte (cond t (take (length v - 1) v) v) ≡ true
    go true = bytes_taken (length v - 1) v e
    go false = e

identified_utf8 : (uid : List ℕ) → list_all is_byte uid ≡ true → IsUtf8 (decoded_identified uid)
identified_utf8 uid e = go (uid_name uid) refl
  where
    go : (o : Option (List ℕ)) → uid_name uid ≡ o → IsUtf8 (option_map_or (λ name. codes "=" ++ name) o (codes "[" ++ dumped (sets_of []) OneValue uid ++ codes "]"))
    go None h = bracketed_utf8 (dumped (sets_of []) OneValue uid) (dump_utf8 (sets_of []) OneValue uid e)
    go (Some name) h = low_utf8 (codes "=" ++ name) (low_name uid name h)

display_utf8 : (vr : Vr) (sets : Sets) (v : List ℕ) → list_all is_byte v ≡ true → IsUtf8 (decoded_display vr sets v)
display_utf8 vr sets [] e = low_utf8 (codes "(no value available)") refl
display_utf8 vr sets (b ∷ bs) e =
    let t : List ℕ = unpadded vr (b ∷ bs) in
    let bytes : list_all is_byte t ≡ true = bytes_unpadded vr (b ∷ bs) e in
    go t bytes (is_named vr (length (b ∷ bs)))
  where
    go : (t : List ℕ) → list_all is_byte t ≡ true → (x : Bool) → IsUtf8 (cond x (decoded_identified t) (codes "[" ++ dumped (sets_for vr sets) (kind_of vr) t ++ codes "]"))
    go t bytes true = identified_utf8 t bytes
    go t bytes false = bracketed_utf8 (dumped (sets_for vr sets) (kind_of vr) t) (dump_utf8 (sets_for vr sets) (kind_of vr) t bytes)

pub decoded_text_is_utf8 : DecodedIsUtf8
decoded_text_is_utf8 mode vr sets v e = padded_utf8 _ (shortened_utf8 mode (decoded_display vr sets v) (display_utf8 vr sets v e))

-- ---- a part of a display

percents_start : (bs : List ℕ) → goes_on (slice_index (flat_map percent bs) 0) ≡ false
percents_start [] = refl
percents_start (b ∷ bs) = refl

piece_start : (bytes : List ℕ) (m : Meaning) → goes_on (slice_index (dumped_piece (bytes, m)) 0) ≡ false
piece_start bytes (meaning.Character c) = go (is_dumped c)
  where
    go : (t : Bool) → goes_on (slice_index (cond t (encode_utf8 c) (flat_map percent bytes)) 0) ≡ false
    go true = char_start c
    go false = percents_start bytes
piece_start bytes meaning.Unknown = percents_start bytes
piece_start bytes meaning.Designation = refl

pieces_start : (ps : List Piece) → goes_on (slice_index (flat_map dumped_piece ps) 0) ≡ false
pieces_start [] = refl
pieces_start (p ∷ ps) = start_append (dumped_piece p) (flat_map dumped_piece ps) (piece_start p.0 p.1) (pieces_start ps)

front_utf8 : (xs ys : List ℕ) → IsUtf8 (xs ++ ys) → goes_on (slice_index ys 0) ≡ false → IsUtf8 xs
front_utf8 xs ys u e =
    let same : length xs + 0 ≡ length xs = omega arith in
    let first : slice_index (xs ++ ys) (length xs) ≡ slice_index ys 0 = ap (slice_index (xs ++ ys)) (sym same) ∙ get_or-append-add xs ys 0 0 in
    subst IsUtf8 (take-append_seam xs ys)
    (IsUtf8-take (xs ++ ys) (length xs) u (boundary (xs ++ ys) (length xs) (omega (arith, length-append xs ys)) (ap goes_on first ∙ e)))

decided_utf8 : (sets : Sets) (kind : TextKind) (v : List ℕ) → list_all is_byte v ≡ true → IsUtf8 (shown_pieces (run false (begun sets kind) v))
unfolding dumped
decided_utf8 sets kind v e =
    let s : State = begun sets kind in
    let r : Run = run false s v in
    let q : Run = run true r.1 [] in
    let all : dumped sets kind v ≡ shown_pieces r ++ shown_pieces q =
    ap (flat_map dumped_piece) (sym (whole_run sets kind v))
    ∙ ap (λ (x : List ℕ). shown_pieces (run true s x)) (sym (append-nil v))
    ∙ ap shown_pieces (two_pieces true s v [])
    ∙ flat_map-append dumped_piece r.0 q.0
    in
    front_utf8 (shown_pieces r) (shown_pieces q) (subst IsUtf8 all (dump_utf8 sets kind v e)) (pieces_start q.0)

pub decoded_so_far_is_utf8 : SoFarIsUtf8
decoded_so_far_is_utf8 vr sets size v e = go (is_named vr size)
  where
    go : (t : Bool) → IsUtf8 (cond t [] (codes "[" ++ shown_pieces (run false (begun (sets_for vr sets) (kind_of vr)) v)))
    go true = low_utf8 [] refl
    go false = IsUtf8-append (codes "[") _ (low_utf8 (codes "[") refl) (decided_utf8 (sets_for vr sets) (kind_of vr) v e)
