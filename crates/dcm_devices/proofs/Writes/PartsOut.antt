-- Bytes that go out as a row of parts.
use Rattle.std.proofs.Common.{◌≡◌, ◌∙◌, sym, ap, subst, ℕ, suc, ◌<◌, List, ◌∷◌, ◌++◌, length, take, drop, get_or, Option, None, Some, Result, Ok, Err, append_assoc, length-append, drop-cons, ◌+◌}
use Rattle.std.specs.Prelude.{IsErr, flat_map}
use Rattle.std.specs.Io.KnownBytes.{append_known}
use Rattle.std.proofs.lemmas.Grind.{flat_map-append}
use Rattle.std.proofs.lemmas.List.{take-append-drop}
use Rattle.dcm_devices.specs.Device.{AppendsFront, FitsRoom, Puts}
use Rattle.dcm_devices.proofs.Writes.Puts.{RoomLeft, fits_behind, front_longer, puts_behind, puts_err, room_longer}

-- the call failed at one of them
pub parts_failed : {X T E : Type 0} (f : X → List ℕ) (old mid new : Option (List ℕ)) (xs : List X) (i : ℕ) (d : X) (r : Result T E) → i < length xs
    → mid ≡ append_known old (flat_map f (take i xs)) → IsErr r → AppendsFront mid new (f (get_or xs i d)) → Puts old new (flat_map f xs) r
parts_failed {X} {T} {E} f old mid new xs i d r h went failed front =
    let x : X = get_or xs i d in
    let before : List ℕ = flat_map f (take i xs) in
    let after : List ℕ = flat_map f (drop (suc i) xs) in
    let whole : take i xs ++ (x ∷ drop (suc i) xs) ≡ xs = ap (λ ys. take i xs ++ ys) (sym (drop-cons xs i d h)) ∙ take-append-drop i xs in
    let text : (before ++ f x) ++ after ≡ flat_map f xs = append_assoc before (f x) after ∙ sym (flat_map-append f (take i xs) (x ∷ drop (suc i) xs)) ∙ ap (flat_map f) whole in
    puts_err old new (flat_map f xs) r failed (subst (AppendsFront old new) text (front_longer after (behind old mid new before (f x) went front)))
  where
    behind : (old mid new : Option (List ℕ)) (xs ys : List ℕ) → mid ≡ append_known old xs → AppendsFront mid new ys → AppendsFront old new (xs ++ ys)
    behind old mid new xs ys went front = puts_behind {T = ℕ} {E = ℕ} old mid new xs ys (Err 0) went front

-- there was no room for one of them
pub parts_too_long : {X T E : Type 0} (f : X → List ℕ) (old mid new : Option ℕ) (xs : List X) (i : ℕ) (d : X) (r put : Result T E) → i < length xs
    → RoomLeft old mid (length (flat_map f (take i xs))) → IsErr r → IsErr put → FitsRoom mid new (length (f (get_or xs i d))) put → FitsRoom old new (length (flat_map f xs)) r
parts_too_long {X} {T} {E} f old mid new xs i d r put h went failed put_failed no_room =
    let x : X = get_or xs i d in
    let before : List ℕ = flat_map f (take i xs) in
    let after : List ℕ = flat_map f (drop (suc i) xs) in
    let whole : take i xs ++ (x ∷ drop (suc i) xs) ≡ xs = ap (λ ys. take i xs ++ ys) (sym (drop-cons xs i d h)) ∙ take-append-drop i xs in
    let text : (before ++ f x) ++ after ≡ flat_map f xs = append_assoc before (f x) after ∙ sym (flat_map-append f (take i xs) (x ∷ drop (suc i) xs)) ∙ ap (flat_map f) whole in
    let size : (length before + length (f x)) + length after ≡ length (flat_map f xs) = ap (λ n. n + length after) (sym (length-append before (f x))) ∙ sym (length-append (before ++ f x) after) ∙ ap length text in
    subst (λ n. FitsRoom {T = T} {E = E} old new n r) size (longer old new (length before + length (f x)) (length after) r put failed put_failed (fits_behind old mid new (length before) (length (f x)) put went no_room))
  where
    longer : (old new : Option ℕ) (n k : ℕ) (r put : Result T E) → IsErr r → IsErr put → FitsRoom old new n put → FitsRoom old new (n + k) r
    longer old new n k (Ok x) put e e' h = cc
    longer old new n k (Err x) (Ok y) e e' h = cc
    longer None new n k (Err x) (Err y) e e' h = h
    longer (Some room) new n k (Err x) (Err y) e e' h = room_longer T (Some room) new n k x h

-- a failure in the first part
pub part_failed : {T E : Type 0} (old new : Option (List ℕ)) (first put rest all : List ℕ) (r : Result T E) → IsErr r → put ≡ first → all ≡ first ++ rest → AppendsFront old new put → Puts old new all r
part_failed {T} {E} old new first put rest all r failed same whole front =
    subst (λ bs. Puts {T = T} {E = E} old new bs r) (sym whole) (puts_err old new (first ++ rest) r failed (front_longer rest (subst (AppendsFront old new) same front)))

-- one part and then another
pub parts_put : {T E : Type 0} (old mid new : Option (List ℕ)) (first put second put_next all : List ℕ) (r : Result T E) → put ≡ first → put_next ≡ second → all ≡ first ++ second → mid ≡ append_known old put → Puts mid new put_next r → Puts old new all r
parts_put {T} {E} old mid new first put second put_next all r same same_next whole went next =
    subst (λ bs. Puts {T = T} {E = E} old new bs r) (sym whole)
    (puts_behind old mid new first second r (went ∙ ap (append_known old) same) (subst (λ bs. Puts {T = T} {E = E} mid new bs r) same_next next))
