-- A text in brackets stands for its bytes, and a name for its identifier.
use Rattle.std.proofs.Common.{◌≡◌, ◌≤◌, ◌<◌, ℕ, zero, suc, ◌+◌, ◌/◌, ◌%◌, ◌==◌, ◌&&◌, ◌||◌, List, [], ◌∷◌, ◌++◌, length, codes, Option, Some, None, ap, sym, ◌∙◌, arith, refl, append_assoc, cond, true, false, Bool, nat_lt, subst}
use Rattle.std.specs.Prelude.{bytes_eq, find, option_map}
use Rattle.std.specs.Option.{option_map_or}
use Rattle.std.proofs.lemmas.Bool.{false≢true, ltb-true, cases_Bool, cases_lt, eqb-true}
use mathlib.Core.Logic.{⊎_elim}
use Rattle.std.proofs.lemmas.List.{length-append}
use Rattle.dcm_base.proofs.DumpsBack.Texts.{byte_digits}
use Rattle.dcm_base.proofs.DumpsBack.Values.{length-escaped}
use Rattle.dcm_lemmas.proofs.Lists.{bytes_same}
use Rattle.dcm_lemmas.proofs.Options.{some_same as some_is_list}
use Rattle.dcm_lemmas.proofs.Truth.{and_parts}
use Rattle.dcm_base.specs.Tables.Number.{AreBytes}
use Rattle.dcm_base.specs.Tables.Uid.{Named, uids, uid_name, uid_of, name_in, uid_in}
use Rattle.dcm_base.specs.Dump.ValueText.{upper, lower, escape, escaped, bracketed, identified}
use Rattle.dcm_base.specs.Lines.ReadValue.{◌>>=◌, digit, bracketed_value, text_value, uid_value}
use Rattle.dcm_value.proofs.ReadBack.Parts.{plain_byte}

-- a test of each number below n
abbrev pub all_below : (ℕ → Bool) → ℕ → Bool
all_below t zero = true
all_below t (suc n) = t n && all_below t n

pub one_below : (t : ℕ → Bool) (n d : ℕ) → all_below t n ≡ true → d < n → t d ≡ true
one_below t zero d e l = absurd (omega arith)
one_below t (suc n) d e l =
    ⊎_elim
    (λ less. one_below t n d (and_parts (t n) (all_below t n) e).1 less)
    (λ last. let same : d ≡ n = omega arith in ap t same ∙ (and_parts (t n) (all_below t n) e).0)
    (cases_lt d n)

pub some_same : (o : Option ℕ) (d : ℕ) → option_map_or (λ x. x == d) o false ≡ true → o ≡ Some d
some_same None d e = absurd (false≢true e)
some_same (Some x) d e = ap Some (eqb-true x d e)

-- the digits of a half byte
upper_tests : all_below (λ d. option_map_or (λ x. x == d) (digit 16 (upper d)) false) 16 ≡ true
upper_tests = refl

lower_tests : all_below (λ d. option_map_or (λ x. x == d) (digit 16 (lower d)) false) 16 ≡ true
lower_tests = refl

-- the tests of a byte that is escaped
none_of : (a b c d : Bool) → a || b || c || d ≡ false → (c ≡ false) × (d ≡ false)
none_of false false false false e = (refl, refl)
none_of true b c d e = cc
none_of false true c d e = cc
none_of false false true d e = cc
none_of false false false true e = cc

escape_back : (b : ℕ) (rest : List ℕ) → b < 256 → bracketed_value (escape b ++ rest) ≡ (bracketed_value rest >>= λ more. Some (b ∷ more))
escape_back b rest l =
    ⊎_elim
    (λ t. ap (λ x. bracketed_value (cond x (37 ∷ upper (b / 16) ∷ upper (b % 16) ∷ []) (b ∷ []) ++ rest)) t ∙ ap (λ o. o >>= λ b. bracketed_value rest >>= λ more. Some (b ∷ more)) (byte_digits b l))
    (λ f.
    let tests = none_of (nat_lt b 32) (b == 127) (b == 37) (b == 93) f in
    ap (λ x. bracketed_value (cond x (37 ∷ upper (b / 16) ∷ upper (b % 16) ∷ []) (b ∷ []) ++ rest)) f ∙ plain_byte b rest tests.1 tests.0)
    (cases_Bool (nat_lt b 32 || b == 127 || b == 37 || b == 93))

bracketed_back : (w : List ℕ) → AreBytes w → bracketed_value (escaped w ++ codes "]") ≡ Some w
bracketed_back [] h = refl
bracketed_back (b ∷ bs) h =
    ap bracketed_value (append_assoc (escape b) (escaped bs) (codes "]"))
    ∙ escape_back b (escaped bs ++ codes "]") (h 0)
    ∙ ap (λ o. o >>= λ more. Some (b ∷ more)) (bracketed_back bs (λ i. h (suc i)))

pub text_back : (w : List ℕ) → AreBytes w → text_value (bracketed w) ≡ Some w
text_back w h = bracketed_back w h

-- each row of the table leads back
abbrev leads_back : List Named → List Named → Bool
leads_back all [] = true
leads_back all (u ∷ us) = option_map_or (λ uid. bytes_eq uid u.0) (uid_in all u.1) false && leads_back all us

rows_back : leads_back uids uids ≡ true
unfolding uids
rows_back = refl

abbrev short_rows : List Named → Bool
short_rows [] = true
short_rows (u ∷ us) = nat_lt (length u.0) 64 && short_rows us

rows_short : short_rows uids ≡ true
unfolding uids
rows_short = refl

some_list : (o : Option (List ℕ)) (v : List ℕ) → option_map_or (λ x. bytes_eq x v) o false ≡ true → o ≡ Some v
some_list None v e = absurd (false≢true e)
some_list (Some x) v e = ap Some (bytes_same x v e)

-- what a name in the table leads back to
name_back : (all us : List Named) (uid name : List ℕ) → leads_back all us ≡ true → short_rows us ≡ true → name_in us uid ≡ Some name → (uid_in all name ≡ Some uid) × (length uid < 64)
name_back all [] uid name e f h = cc
name_back all (u ∷ us) uid name e f h =
    ⊎_elim
    (λ t.
    let same : u.0 ≡ uid = bytes_same u.0 uid t in
    let is : Some u.1 ≡ Some name = ap (λ b. option_map (λ (x : Named). x.1) (cond b (Some u) (find (λ x. bytes_eq x.0 uid) us))) (sym t) ∙ h in
    let called : u.1 ≡ name = some_is_list u.1 name is in
    let found : uid_in all u.1 ≡ Some u.0 = some_list (uid_in all u.1) u.0 first.0 in (
      ap (uid_in all) (sym called) ∙ found ∙ ap Some same,
      subst (λ x. length x < 64) same (ltb-true (length u.0) 64 short.0),
    ))
    (λ t.
    let rest : name_in us uid ≡ Some name = ap (λ b. option_map (λ (x : Named). x.1) (cond b (Some u) (find (λ x. bytes_eq x.0 uid) us))) (sym t) ∙ h in
    name_back all us uid name first.1 short.1 rest)
    (cases_Bool (bytes_eq u.0 uid))
  where
    first : (option_map_or (λ uid. bytes_eq uid u.0) (uid_in all u.1) false ≡ true) × (leads_back all us ≡ true)
    first = and_parts _ _ e

    short : (nat_lt (length u.0) 64 ≡ true) × (short_rows us ≡ true)
    short = and_parts _ _ f

named_back : (uid : List ℕ) (o : Option (List ℕ)) → AreBytes uid → name_in uids uid ≡ o → uid_value (option_map_or (λ name. codes "=" ++ name) o (bracketed uid)) ≡ Some uid
unfolding uid_of
named_back uid None h e = text_back uid h
named_back uid (Some name) h e = (name_back uids uids uid name rows_back rows_short e).0

pub uid_back : (uid : List ℕ) → AreBytes uid → uid_value (identified uid) ≡ Some uid
unfolding uid_name
uid_back uid h = named_back uid (name_in uids uid) h refl

pub text_few : (w : List ℕ) (n : ℕ) → length (bracketed w) ≤ n → length w ≤ n
text_few w n l = let longer = length-escaped w in omega (arith, length-append (codes "[" ++ escaped w) (codes "]"), length-append (codes "[") (escaped w))

few_named : (uid : List ℕ) (o : Option (List ℕ)) → name_in uids uid ≡ o → length (option_map_or (λ name. codes "=" ++ name) o (bracketed uid)) ≤ 16384 → length uid ≤ 16384
few_named uid None e l = text_few uid 16384 l
few_named uid (Some name) e l = let short = (name_back uids uids uid name rows_back rows_short e).1 in omega arith

pub uid_few : (uid : List ℕ) → length (identified uid) ≤ 16384 → length uid ≤ 16384
unfolding uid_name
uid_few uid l = few_named uid (name_in uids uid) refl l
