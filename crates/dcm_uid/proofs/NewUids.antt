-- New UIDs and what takes the place of one are short.
use Rattle.std.proofs.Common.{◌≡◌, ◌<◌, ◌≤◌, ◌^◌, ℕ, List, [], length, Bool, true, false, arith, refl}
use Rattle.std.specs.Prelude.{◌&&◌, not, if◌then◌else◌, nat_le, nat_lt, ◌==◌}
use Rattle.std.specs.List.{list_any}
use Rattle.std.specs.Fmt.{decimal}
use Rattle.std.proofs.lemmas.Bool.{leb-true}
use Rattle.itoa.proofs.Decimal.{length_wide}
use Rattle.dcm_uid.specs.Uid.{IsNewUid, is_one_uid, is_standard, new_uid, replaced, uuid_number}
use Rattle.dcm_uid.specs.Hmac.{hmac_sha256}
use Rattle.dcm_uid.proofs.Decimals.{digits_of_decimal, positive}
use Rattle.dcm_uid.proofs.Digests.{hmac_fits}

pub new_uids : (key b : List ℕ) → IsNewUid (new_uid key b)
unfolding new_uid
new_uids key b =
    let n = uuid_number (hmac_sha256 key b) in
    let low : n < 2 ^ 128 = hmac_fits key b in
    let some : 0 < n = positive _ in
    let d = digits_of_decimal n (omega arith) in
    let most = length_wide n low in
    record {
      digits = decimal n;
      whole = refl;
      all_digits = d.all_digits;
      there = d.there;
      short = omega (arith, most);
      leads = d.leads some;
    }

middle : (a b c : Bool) → (a && (b && c)) ≡ true → b ≡ true
middle true true c e = refl
middle true false c e = absurd (cc)
middle false b c e = absurd (cc)

short_by : (one standard : Bool) (key b : List ℕ) → is_one_uid b ≡ one → length (if not one then [] else if standard then b else new_uid key b) ≤ 64
short_by false standard key b e = omega arith
short_by true true key b e = leb-true (length b) 64 (middle (nat_lt 0 (length b)) (nat_le (length b) 64) (not (list_any (λ x. x == 92) b)) e)
short_by true false key b e = let short = (new_uids key b).short in omega (arith, short)

pub replaced_short : (key b : List ℕ) → length (replaced key b) ≤ 64
replaced_short key b = short_by (is_one_uid b) (is_standard b) key b refl
