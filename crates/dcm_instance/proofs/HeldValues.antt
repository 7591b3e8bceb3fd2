-- What is held of a value, by the whole value.
use Rattle.std.proofs.Common.{◌≡◌, ◌∙◌, ap, sym, refl, ℕ, ◌+◌, ◌<◌, ◌≤◌, List, [], ◌∷◌, ◌++◌, append_assoc, length, take, drop, fold, Bool, true, false, ◌||◌, ◌&&◌, not, Option, Some, None, arith}
use Rattle.std.specs.Prelude.{nat_le, nat_lt, if◌then◌else◌}
use Rattle.std.specs.List.{list_all}
use Rattle.std.proofs.lemmas.Bool.{lt-leb, cases_lt}
use mathlib.Core.Logic.{⊎_elim}
use Rattle.std.proofs.lemmas.List.{length-append, append-nil, length-take, take-append-drop, take_all, drop_all}
use Rattle.std.proofs.lemmas.List.Sums.{fold-append}
use Rattle.dcm_base.specs.Tables.Transfer.{is_pad, without_pads}
use Rattle.dcm_deid.proofs.Dropped.{item_room}
use Rattle.dcm_deid.proofs.HeldValues.{longer_after, more_left, pads_after, pads_gone, some_left}
use Rattle.dcm_uid.specs.Uid.{is_uid_byte}
use Rattle.dcm_instance.specs.UidSink.{Held, held_uid, held_with, nothing_held}
use Rattle.dcm_instance.specs.Uids.{fit, is_fit, names_a_folder}

abbrev holds : List ℕ → Bool → Held
holds bytes longer = record { bytes = bytes; is_longer = longer }

-- ---- the first bytes, and the others

one_more : (bytes : List ℕ) (l t : Bool) (b : ℕ) → t ≡ true → (if t then holds (bytes ++ b ∷ []) l else holds bytes (l || not (is_pad b))) ≡ holds (bytes ++ b ∷ []) l
one_more bytes l t b e = rw e refl

one_longer : (bytes : List ℕ) (l t : Bool) (b : ℕ) → t ≡ false → (if t then holds (bytes ++ b ∷ []) l else holds bytes (l || not (is_pad b))) ≡ holds bytes (l || not (is_pad b))
one_longer bytes l t b e = rw e refl

no_room : (n : ℕ) → n ≡ 64 → nat_lt n 64 ≡ false
no_room n e = ap (λ (m : ℕ). nat_lt m 64) e

first_bytes : (bytes more : List ℕ) (l : Bool) → length bytes + length more ≤ 64 → fold held_with (holds bytes l) more ≡ holds (bytes ++ more) l
first_bytes bytes [] l h = ap (λ (x : List ℕ). holds x l) (sym (append-nil bytes))
first_bytes bytes (b ∷ more) l h =
    ap (λ (x : Held). fold held_with x more) (one_more bytes l (nat_lt (length bytes) 64) b (item_room (length bytes) (omega (arith, h))))
    ∙ first_bytes (bytes ++ b ∷ []) more l (omega (arith, h, length-append bytes (b ∷ [])))
    ∙ ap (λ (x : List ℕ). holds x l) (append_assoc bytes (b ∷ []) more)

other_bytes : (bytes more : List ℕ) (l : Bool) → length bytes ≡ 64 → fold held_with (holds bytes l) more ≡ holds bytes (longer_after l more)
other_bytes bytes [] l h = refl
other_bytes bytes (b ∷ more) l h =
    ap (λ (x : Held). fold held_with x more) (one_longer bytes l (nat_lt (length bytes) 64) b (no_room (length bytes) h))
    ∙ other_bytes bytes more (l || not (is_pad b)) h

split_at : (v : List ℕ) → fold held_with nothing_held v ≡ holds (take 64 v) (longer_after false (drop 64 v))
split_at v =
    ⊎_elim
    (λ (short : length v < 65).
    first_bytes [] v false (omega (arith, short))
    ∙ ap (λ (x : List ℕ). holds x false) (sym (take_all 64 v (omega (arith, short))))
    ∙ ap (λ (x : List ℕ). holds (take 64 v) (longer_after false x)) (sym (drop_all 64 v (omega (arith, short)))))
    (λ (long : 65 ≤ length v).
    let is_full : length (take 64 v) ≡ 64 = omega (arith, length-take 64 v, long) in
    ap (fold held_with nothing_held) (sym (take-append-drop 64 v))
    ∙ fold-append held_with nothing_held (take 64 v) (drop 64 v)
    ∙ ap (λ (h : Held). fold held_with h (drop 64 v)) (first_bytes [] (take 64 v) false (omega (arith, is_full)))
    ∙ other_bytes (take 64 v) (drop 64 v) false is_full)
    (cases_lt (length v) 65)

-- ---- what is fit

abbrev kept : List ℕ → Option (List ℕ)
kept u = if is_fit u then Some u else None

second_false : (a b c : Bool) → b ≡ false → (a && (b && c)) ≡ false
second_false true b c e = rw e refl
second_false false b c e = refl

long_unfit : (u : List ℕ) → 64 < length u → is_fit u ≡ false
long_unfit u h = second_false (nat_lt 0 (length u)) (nat_le (length u) 64) (list_all is_uid_byte u && not (names_a_folder u)) (lt-leb (length u) 64 h)

none_kept : (u : List ℕ) (t : Bool) → t ≡ false → (if t then Some u else None) ≡ None
none_kept u t e = rw e refl

longer_full : (v : List ℕ) → longer_after false (drop 64 v) ≡ true → length (take 64 v) ≡ 64
longer_full v e =
    ⊎_elim
    (λ (short : length v < 65). absurd (let no : true ≡ false = sym e ∙ ap (longer_after false) (drop_all 64 v (omega (arith, short))) in cc))
    (λ (long : 65 ≤ length v). let size : length (take 64 v) ≡ 64 = omega (arith, length-take 64 v, long) in size)
    (cases_lt (length v) 65)

by_rest : (v : List ℕ) (t : Bool) → longer_after false (drop 64 v) ≡ t → held_uid (holds (take 64 v) t) ≡ fit v
by_rest v false e =
    ap kept (sym (pads_after (take 64 v) (drop 64 v) (pads_gone (drop 64 v) false e).1) ∙ ap without_pads (take-append-drop 64 v))
by_rest v true e =
    let more : length (take 64 v) < length (without_pads (take 64 v ++ drop 64 v)) = more_left (take 64 v) (drop 64 v) (some_left (drop 64 v) e) in
    let whole : length (without_pads (take 64 v ++ drop 64 v)) ≡ length (without_pads v) = ap (λ (x : List ℕ). length (without_pads x)) (take-append-drop 64 v) in
    let full = longer_full v e in
    sym (none_kept (without_pads v) (is_fit (without_pads v)) (long_unfit (without_pads v) (omega (arith, more, whole, full))))

pub held_is_fit : (v : List ℕ) → held_uid (fold held_with nothing_held v) ≡ fit v
held_is_fit v = ap held_uid (split_at v) ∙ by_rest v (longer_after false (drop 64 v)) refl
