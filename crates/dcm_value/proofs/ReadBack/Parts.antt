-- A value that is read part by part.
use Rattle.std.proofs.Common.{◌≡◌, ◌≢◌, ◌≤◌, ◌<◌, ℕ, ◌+◌, ◌-◌, ◌==◌, ◌||◌, List, [], ◌∷◌, ◌++◌, length, take, drop, get_or, Option, Some, None, Result, Ok, Err, ap, sym, ◌∙◌, arith, refl, append_assoc, append-nil, cond, false, not, nat_lt, ◌⊎◌, subst, ne_eqb, lt-ltb, le-ltb}
use Rattle.std.proofs.Math.Seq.{take-length}
use mathlib.Core.Logic.{⊎_elim}
use Rattle.std.specs.Prelude.{MatchResult, IsErr, position}
use Rattle.std.specs.List.{position_or_len}
use Rattle.std.specs.Str.{byte}
use Rattle.std.proofs.lemmas.Bool.{le-leb, lt-leb, cases_lt}
use Rattle.std.proofs.lemmas.List.{length-append}
use Rattle.std.proofs.lemmas.List.Splits.{slice_split_first}
use Rattle.dcm_lemmas.proofs.Lists.{one_part}
use Rattle.dcm_lemmas.proofs.Options.{none_is, some_back}
use Rattle.dcm_base.specs.declared.vr.Vr.{Vr}
use Rattle.dcm_base.specs.declared.vr.Vr.TheVariants.{AE, AS, AT, CS, DA, DS, DT, FD, FL, IS, LO, LT, OB, OD, OF, OL, OV, OW, PN, SH, SL, SQ, SS, ST, SV, TM, UC, UI, UL, UN, UR, US, UT, UV}
use Rattle.dcm_base.specs.Tables.Representation.{unit}
use Rattle.dcm_base.specs.Dump.ValueText.{Shape, text, identifier, unsigned, signed, tags, hexadecimal, shape}
use Rattle.dcm_base.specs.Lines.ReadValue.{◌>>=◌, within_limit, VALUE_LIMIT, only_if, each_part, joined, hex_number, bracketed_value, value_in, value_of_text, is_no_value}
use Rattle.dcm_value.specs.declared.way.Way.TheVariants.{InUnits}
use Rattle.dcm_value.specs.Way.{way_of}
use Rattle.dcm_value.specs.Units.{kind_of}
use Rattle.dcm_value.specs.Parts.{part_value}
use Rattle.dcm_value.specs.Taking.{Reads, TakesPart, behind}

behind_twice : (a b : List ℕ) (o : Option (List ℕ)) → behind a (behind b o) ≡ behind (a ++ b) o
behind_twice a b None = refl
behind_twice a b (Some m) = ap Some (sym (append_assoc a b m))

too_long : (front : List ℕ) (o : Option (List ℕ)) → VALUE_LIMIT < length front → (behind front o >>= within_limit) ≡ None
too_long front None l = refl
too_long front (Some m) l = ap (λ b. only_if b (Some (front ++ m))) (lt-leb (length (front ++ m)) VALUE_LIMIT (omega (arith, length-append front m)))

-- one part more
pub took : (meant part rest : Option (List ℕ)) (old new : List ℕ) → meant ≡ behind old (part >>= λ b. behind b rest) → (bytes : List ℕ) × (part ≡ Some bytes) × (new ≡ old ++ bytes) × (length new ≤ VALUE_LIMIT) → meant ≡ behind new rest
took meant part rest old new is t =
    is ∙ ap (λ p. behind old (p >>= λ b. behind b rest)) t.1 ∙ behind_twice old t.0 rest ∙ ap (λ x. behind x rest) (sym t.2)

pub failed : (meant part rest : Option (List ℕ)) (old : List ℕ) → meant ≡ behind old (part >>= λ b. behind b rest) → (part ≡ None) ⊎ ((bytes : List ℕ) × (part ≡ Some bytes) × (VALUE_LIMIT < length (old ++ bytes))) → (meant >>= within_limit) ≡ None
failed meant part rest old is f =
    ap (λ m. m >>= within_limit) is
    ∙ ⊎_elim
    (λ none. ap (λ p. behind old (p >>= λ b. behind b rest) >>= within_limit) none)
    (λ t. ap (λ p. behind old (p >>= λ b. behind b rest) >>= within_limit) t.1 ∙ ap (λ m. m >>= within_limit) (behind_twice old t.0 rest) ∙ too_long (old ++ t.0) rest t.2)
    f

pub reads_err : {T E : Type 0} (meant : Option (List ℕ)) (v : List ℕ) (r : Result T E) → IsErr r → (meant >>= within_limit) ≡ None → Reads meant v r
reads_err meant v (Ok x) e h = cc
reads_err meant v (Err x) e h = h

-- the last part
pub reads_last : {T E : Type 0} (meant part : Option (List ℕ)) (old new : List ℕ) (r : Result T E) → meant ≡ behind old (part >>= λ b. behind b (Some [])) → TakesPart part old new r → Reads meant new r
reads_last meant part old new (Ok x) is t = (took meant part (Some []) old new is t ∙ ap Some (append-nil new), t.3)
reads_last meant part old new (Err x) is f = failed meant part (Some []) old is f

-- a byte as it stands
pub plain_byte : (x : ℕ) (xs : List ℕ) → (x == byte "]") ≡ false → (x == byte "%") ≡ false → bracketed_value (x ∷ xs) ≡ behind (x ∷ []) (bracketed_value xs)
plain_byte x [] a b = ap (λ t. cond t (Some []) None) a
plain_byte x (y ∷ []) a b =
    ap (λ t. cond (t || x == byte "%") None (bracketed_value (y ∷ []) >>= λ more. Some (x ∷ more))) a ∙ ap (λ t. cond (false || t) None (bracketed_value (y ∷ []) >>= λ more. Some (x ∷ more))) b
plain_byte x (y ∷ z ∷ zs) a b =
    let escaped : Option (List ℕ) = hex_number 2 (y ∷ z ∷ []) >>= λ b. bracketed_value zs >>= λ more. Some (b ∷ more) in
    let plain : Option (List ℕ) = bracketed_value (y ∷ z ∷ zs) >>= λ more. Some (x ∷ more) in
    ap (λ t. cond t None (cond (x == byte "%") escaped plain)) a ∙ ap (λ t. cond t escaped plain) b

-- the first byte and the others
first_apart : (v : List ℕ) → 0 < length v → v ≡ get_or v 0 0 ∷ take (length v - 1) (drop 1 v)
first_apart [] l = absurd (omega arith)
first_apart (x ∷ xs) l = ap (λ ys. x ∷ ys) (sym (ap (λ k. take k xs) (let e : length (x ∷ xs) - 1 ≡ length xs = omega arith in e) ∙ take-length xs))

pub plain_text : (v : List ℕ) → 0 < length v → get_or v 0 0 ≢ 93 → get_or v 0 0 ≢ 37 → bracketed_value v ≡ behind (get_or v 0 0 ∷ []) (bracketed_value (take (length v - 1) (drop 1 v)))
plain_text v l a b = ap bracketed_value (first_apart v l) ∙ plain_byte (get_or v 0 0) (take (length v - 1) (drop 1 v)) (ne_eqb (get_or v 0 0) 93 a) (ne_eqb (get_or v 0 0) 37 b)

-- an escaped byte
pub escaped_text : (P : Option (List ℕ) → Type 0) (v : List ℕ) → 0 < length v → get_or v 0 0 ≡ 37 → P (bracketed_value (37 ∷ take (length v - 1) (drop 1 v))) → P (bracketed_value v)
escaped_text P v l is p = subst (λ x. P (bracketed_value x)) (ap (λ x. x ∷ take (length v - 1) (drop 1 v)) (sym is) ∙ sym (first_apart v l)) p

pub some_place : (n m at : ℕ) → cond (nat_lt n m) (Some n) None ≡ Some at → (n < m) × (at ≡ n)
some_place n m at e =
    ⊎_elim
    (λ l. (l, some_back n at (sym (ap (λ b. cond b (Some n) None) (lt-ltb n m l)) ∙ e)))
    (λ l. absurd (none_is at (sym (sym (ap (λ b. cond b (Some n) None) (le-ltb n m l)) ∙ e))))
    (cases_lt n m)

pub no_place : (n m : ℕ) → cond (nat_lt n m) (Some n) None ≡ None → m ≤ n
no_place n m e =
    ⊎_elim
    (λ l. absurd (none_is n (sym (ap (λ b. cond b (Some n) None) (lt-ltb n m l)) ∙ e)))
    (λ l. l)
    (cases_lt n m)

pub joined_first : (read : List ℕ → Option (List ℕ)) (v : List ℕ) (at : ℕ) → position (λ b. b == 92) v ≡ Some at → joined read v ≡ (read (take at v) >>= λ b. behind b (joined read (drop (at + 1) v)))
joined_first read v at e =
    let place = some_place (position_or_len (λ b. b == 92) v) (length v) at e in
    ap (each_part read) (slice_split_first (λ b. b == 92) v 0 place.0)
    ∙ ap (λ k. read (take k v) >>= λ b. behind b (joined read (drop (k + 1) v))) (sym place.1)

pub joined_last : (read : List ℕ → Option (List ℕ)) (v : List ℕ) → position (λ b. b == 92) v ≡ None → joined read v ≡ (read v >>= λ b. behind b (Some []))
joined_last read v e = ap (each_part read) (one_part (λ b. b == 92) v (no_place (position_or_len (λ b. b == 92) v) (length v) e))

-- a shape that is read part by part
pub in_parts : (s : Shape) (size : ℕ) (cs : List ℕ) → way_of s 0 ≡ InUnits → value_in s size cs ≡ joined (part_value (kind_of s) size) cs
in_parts text size cs e = cc
in_parts identifier size cs e = cc
in_parts unsigned size cs e = refl
in_parts signed size cs e = refl
in_parts tags size cs e = refl
in_parts hexadecimal size cs e = refl

-- what is meant by a text that is not that of no value
pub meant_by : (vr : Vr) (cs : List ℕ) → vr ≢ SQ → is_no_value cs ≡ false → value_of_text vr cs ≡ (value_in (shape vr) (unit vr) cs >>= within_limit)
meant_by AE cs n e = ap (λ b. cond b (Some []) (value_in (shape AE) (unit AE) cs >>= within_limit)) e
meant_by AS cs n e = ap (λ b. cond b (Some []) (value_in (shape AS) (unit AS) cs >>= within_limit)) e
meant_by AT cs n e = ap (λ b. cond b (Some []) (value_in (shape AT) (unit AT) cs >>= within_limit)) e
meant_by CS cs n e = ap (λ b. cond b (Some []) (value_in (shape CS) (unit CS) cs >>= within_limit)) e
meant_by DA cs n e = ap (λ b. cond b (Some []) (value_in (shape DA) (unit DA) cs >>= within_limit)) e
meant_by DS cs n e = ap (λ b. cond b (Some []) (value_in (shape DS) (unit DS) cs >>= within_limit)) e
meant_by DT cs n e = ap (λ b. cond b (Some []) (value_in (shape DT) (unit DT) cs >>= within_limit)) e
meant_by FD cs n e = ap (λ b. cond b (Some []) (value_in (shape FD) (unit FD) cs >>= within_limit)) e
meant_by FL cs n e = ap (λ b. cond b (Some []) (value_in (shape FL) (unit FL) cs >>= within_limit)) e
meant_by IS cs n e = ap (λ b. cond b (Some []) (value_in (shape IS) (unit IS) cs >>= within_limit)) e
meant_by LO cs n e = ap (λ b. cond b (Some []) (value_in (shape LO) (unit LO) cs >>= within_limit)) e
meant_by LT cs n e = ap (λ b. cond b (Some []) (value_in (shape LT) (unit LT) cs >>= within_limit)) e
meant_by OB cs n e = ap (λ b. cond b (Some []) (value_in (shape OB) (unit OB) cs >>= within_limit)) e
meant_by OD cs n e = ap (λ b. cond b (Some []) (value_in (shape OD) (unit OD) cs >>= within_limit)) e
meant_by OF cs n e = ap (λ b. cond b (Some []) (value_in (shape OF) (unit OF) cs >>= within_limit)) e
meant_by OL cs n e = ap (λ b. cond b (Some []) (value_in (shape OL) (unit OL) cs >>= within_limit)) e
meant_by OV cs n e = ap (λ b. cond b (Some []) (value_in (shape OV) (unit OV) cs >>= within_limit)) e
meant_by OW cs n e = ap (λ b. cond b (Some []) (value_in (shape OW) (unit OW) cs >>= within_limit)) e
meant_by PN cs n e = ap (λ b. cond b (Some []) (value_in (shape PN) (unit PN) cs >>= within_limit)) e
meant_by SH cs n e = ap (λ b. cond b (Some []) (value_in (shape SH) (unit SH) cs >>= within_limit)) e
meant_by SL cs n e = ap (λ b. cond b (Some []) (value_in (shape SL) (unit SL) cs >>= within_limit)) e
meant_by SQ cs n e = absurd (n refl)
meant_by SS cs n e = ap (λ b. cond b (Some []) (value_in (shape SS) (unit SS) cs >>= within_limit)) e
meant_by ST cs n e = ap (λ b. cond b (Some []) (value_in (shape ST) (unit ST) cs >>= within_limit)) e
meant_by SV cs n e = ap (λ b. cond b (Some []) (value_in (shape SV) (unit SV) cs >>= within_limit)) e
meant_by TM cs n e = ap (λ b. cond b (Some []) (value_in (shape TM) (unit TM) cs >>= within_limit)) e
meant_by UC cs n e = ap (λ b. cond b (Some []) (value_in (shape UC) (unit UC) cs >>= within_limit)) e
meant_by UI cs n e = ap (λ b. cond b (Some []) (value_in (shape UI) (unit UI) cs >>= within_limit)) e
meant_by UL cs n e = ap (λ b. cond b (Some []) (value_in (shape UL) (unit UL) cs >>= within_limit)) e
meant_by UN cs n e = ap (λ b. cond b (Some []) (value_in (shape UN) (unit UN) cs >>= within_limit)) e
meant_by UR cs n e = ap (λ b. cond b (Some []) (value_in (shape UR) (unit UR) cs >>= within_limit)) e
meant_by US cs n e = ap (λ b. cond b (Some []) (value_in (shape US) (unit US) cs >>= within_limit)) e
meant_by UT cs n e = ap (λ b. cond b (Some []) (value_in (shape UT) (unit UT) cs >>= within_limit)) e
meant_by UV cs n e = ap (λ b. cond b (Some []) (value_in (shape UV) (unit UV) cs >>= within_limit)) e

-- within the limit
pub within : (v : List ℕ) → length v ≤ VALUE_LIMIT → within_limit v ≡ Some v
within v l = ap (λ b. only_if b (Some v)) (le-leb (length v) VALUE_LIMIT l)

pub means : {T E : Type 0} (all meant : Option (List ℕ)) (v : List ℕ) (r : Result T E) → all ≡ (meant >>= within_limit) → Reads meant v r → MatchResult r (λ _. all ≡ Some v) (λ _. all ≡ None)
means all meant v (Ok x) is h = is ∙ ap (λ m. m >>= within_limit) h.0 ∙ within v h.1
means all meant v (Err x) is h = is ∙ h
