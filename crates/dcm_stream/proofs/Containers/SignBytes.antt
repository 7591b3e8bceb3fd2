-- How a value begins is told by its first eight bytes.
use Rattle.std.proofs.Common.{◌≡◌, ℕ, zero, suc, ◌+◌, ◌-◌, ◌<◌, ◌≤◌, ◌%◌, ◌==◌, min, get_or, List, [], ◌∷◌, ◌++◌, length, take, Bool, true, false, if◌then◌else◌, refl, sym, ap, ◌∙◌, arith, append_assoc}
use Rattle.dcm_lemmas.proofs.Lists.{take_none, take_twice}
use Rattle.dcm_lemmas.proofs.Truth.{and_true}
use Rattle.dcm_base.specs.declared.vr.Vr.{Vr}
use Rattle.dcm_base.specs.declared.vr.Vr.TheVariants.{AT, US, SS, OW, UL, SL, FL, OF, OL, FD, OD, OV, SV, UV}
use Rattle.dcm_base.specs.declared.syntax.Syntax.{Syntax}
use Rattle.dcm_base.specs.declared.syntax.Syntax.TheVariants.{Implicit as implicit_in, Little as little_in, Big as big_in}
use Rattle.dcm_base.specs.Tables.Representation.{unit, pad}
use Rattle.dcm_base.specs.Tree.Value.{turned, order, evened}
use Rattle.dcm_base.specs.Bytes.Spelling.{is_one}
use Rattle.std.specs.Prelude.{bytes_eq, ◌&&◌}
use Rattle.std.proofs.Math.Seq.{take-append-add}
use Rattle.dcm_base.specs.Tables.Syntax.{is_big}
use Rattle.dcm_base.proofs.Conversions.Order.{turned_cons, turned_short, turned_unit, unit_some, order_twice}

-- the first two bytes with a pad byte
abbrev pub begins : ℕ → List ℕ → List ℕ
begins p v = take 2 (evened p v)

two_by : (p a b : ℕ) (rest : List ℕ) (c : Bool) → take 2 (if c then (a ∷ b ∷ rest) else ((a ∷ b ∷ rest) ++ p ∷ [])) ≡ a ∷ b ∷ []
two_by p a b rest true = refl
two_by p a b rest false = refl

pub begins_two : (p a b : ℕ) (rest : List ℕ) → begins p (a ∷ b ∷ rest) ≡ a ∷ b ∷ []
begins_two p a b rest = two_by p a b rest (length (a ∷ b ∷ rest) % 2 == 0)

some_one : 0 < 1
some_one = omega arith

some_two : 0 < 2
some_two = omega arith

some_four : 0 < 4
some_four = omega arith

some_eight : 0 < 8
some_eight = omega arith

-- ---- units turned round

pub turned_one : (p a b : ℕ) (rest : List ℕ) → begins p (turned 1 (a ∷ b ∷ rest)) ≡ a ∷ b ∷ []
turned_one p a b rest =
    ap (begins p) (turned_cons 1 some_one (a ∷ []) (b ∷ rest) refl ∙ ap (λ (x : List ℕ). a ∷ x) (turned_cons 1 some_one (b ∷ []) rest refl)) ∙ begins_two p a b (turned 1 rest)

pub turned_two : (p a b : ℕ) (rest : List ℕ) → begins p (turned 2 (a ∷ b ∷ rest)) ≡ b ∷ a ∷ []
turned_two p a b rest = ap (begins p) (turned_cons 2 some_two (a ∷ b ∷ []) rest refl) ∙ begins_two p b a (turned 2 rest)

pub turned_four : (p a b c d : ℕ) (rest : List ℕ) → begins p (turned 4 (a ∷ b ∷ c ∷ d ∷ rest)) ≡ d ∷ c ∷ []
turned_four p a b c d rest = ap (begins p) (turned_cons 4 some_four (a ∷ b ∷ c ∷ d ∷ []) rest refl) ∙ begins_two p d c (b ∷ a ∷ turned 4 rest)

pub turned_eight : (p a b c d e f g h : ℕ) (rest : List ℕ) → begins p (turned 8 (a ∷ b ∷ c ∷ d ∷ e ∷ f ∷ g ∷ h ∷ rest)) ≡ h ∷ g ∷ []
turned_eight p a b c d e f g h rest =
    ap (begins p) (turned_cons 8 some_eight (a ∷ b ∷ c ∷ d ∷ e ∷ f ∷ g ∷ h ∷ []) rest refl) ∙ begins_two p h g (f ∷ e ∷ d ∷ c ∷ b ∷ a ∷ turned 8 rest)

-- ---- the first eight bytes

-- what holds of short lists, and of their beginning where they are longer
by_eight : (order_by : List ℕ → List ℕ) → ((a b c d e f g h : ℕ) (rest : List ℕ) → order_by (a ∷ b ∷ c ∷ d ∷ e ∷ f ∷ g ∷ h ∷ []) ≡ order_by (a ∷ b ∷ c ∷ d ∷ e ∷ f ∷ g ∷ h ∷ rest)) → (v : List ℕ) → order_by (take 8 v) ≡ order_by v
by_eight order_by long [] = refl
by_eight order_by long (a ∷ []) = refl
by_eight order_by long (a ∷ b ∷ []) = refl
by_eight order_by long (a ∷ b ∷ c ∷ []) = refl
by_eight order_by long (a ∷ b ∷ c ∷ d ∷ []) = refl
by_eight order_by long (a ∷ b ∷ c ∷ d ∷ e ∷ []) = refl
by_eight order_by long (a ∷ b ∷ c ∷ d ∷ e ∷ f ∷ []) = refl
by_eight order_by long (a ∷ b ∷ c ∷ d ∷ e ∷ f ∷ g ∷ []) = refl
by_eight order_by long (a ∷ b ∷ c ∷ d ∷ e ∷ f ∷ g ∷ h ∷ rest) = long a b c d e f g h rest

-- whatever holds of the four sizes of units holds of each representation's
pub by_unit : (P : ℕ → Type 0) → P 1 → P 2 → P 4 → P 8 → (vr : Vr) → P (unit vr)
by_unit P one two four eight AT = two
by_unit P one two four eight US = two
by_unit P one two four eight SS = two
by_unit P one two four eight OW = two
by_unit P one two four eight UL = four
by_unit P one two four eight SL = four
by_unit P one two four eight FL = four
by_unit P one two four eight OF = four
by_unit P one two four eight OL = four
by_unit P one two four eight FD = eight
by_unit P one two four eight OD = eight
by_unit P one two four eight OV = eight
by_unit P one two four eight SV = eight
by_unit P one two four eight UV = eight
by_unit P one two four eight vr = one

turned_begins : (p k : ℕ) → Type 0
turned_begins p k = (v : List ℕ) → begins p (turned k (take 8 v)) ≡ begins p (turned k v)

units_begin : (p : ℕ) (vr : Vr) → turned_begins p (unit vr)
unfolding turned_begins
units_begin p vr =
    by_unit (λ k. turned_begins p k)
    (by_eight (λ v. begins p (turned 1 v)) (λ a b c d e f g h rest. turned_one p a b (c ∷ d ∷ e ∷ f ∷ g ∷ h ∷ []) ∙ sym (turned_one p a b (c ∷ d ∷ e ∷ f ∷ g ∷ h ∷ rest))))
    (by_eight (λ v. begins p (turned 2 v)) (λ a b c d e f g h rest. turned_two p a b (c ∷ d ∷ e ∷ f ∷ g ∷ h ∷ []) ∙ sym (turned_two p a b (c ∷ d ∷ e ∷ f ∷ g ∷ h ∷ rest))))
    (by_eight (λ v. begins p (turned 4 v)) (λ a b c d e f g h rest. turned_four p a b c d (e ∷ f ∷ g ∷ h ∷ []) ∙ sym (turned_four p a b c d (e ∷ f ∷ g ∷ h ∷ rest))))
    (by_eight (λ v. begins p (turned 8 v)) (λ a b c d e f g h rest. turned_eight p a b c d e f g h [] ∙ sym (turned_eight p a b c d e f g h rest)))
    vr

order_begins : (s : Syntax) (vr : Vr) (p : ℕ) (v : List ℕ) → begins p (order s vr (take 8 v)) ≡ begins p (order s vr v)
unfolding turned_begins
order_begins (implicit_in d) vr p v = by_eight (begins p) (λ a b c d' e f g h rest. begins_two p a b (c ∷ d' ∷ e ∷ f ∷ g ∷ h ∷ []) ∙ sym (begins_two p a b (c ∷ d' ∷ e ∷ f ∷ g ∷ h ∷ rest))) v
order_begins (little_in d) vr p v = by_eight (begins p) (λ a b c d' e f g h rest. begins_two p a b (c ∷ d' ∷ e ∷ f ∷ g ∷ h ∷ []) ∙ sym (begins_two p a b (c ∷ d' ∷ e ∷ f ∷ g ∷ h ∷ rest))) v
order_begins (big_in d) vr p v = units_begin p vr v

-- the first bytes of what is written tell how the value begins
pub one_told : (s : Syntax) (vr : Vr) (value : List ℕ) → is_one vr (order s vr (take 8 (order s vr value))) ≡ is_one vr value
one_told s vr value =
    ap (λ (x : List ℕ). bytes_eq x (1 ∷ 0 ∷ [])) (order_begins s vr (pad vr) (order s vr value) ∙ ap (begins (pad vr)) (order_twice s vr value))

pub kept_more : (n : ℕ) (xs ys zs : List ℕ) → take n (take n (xs ++ ys) ++ zs) ≡ take n (xs ++ (ys ++ zs))
kept_more n xs ys zs = take_twice n (xs ++ ys) zs ∙ ap (take n) (append_assoc xs ys zs)

-- ---- the bytes of one

one_by : (n m : ℕ) (a b : Bool) → (n == 1) ≡ a → (m == 0) ≡ b → bytes_eq (n ∷ m ∷ []) (1 ∷ 0 ∷ []) ≡ ((n == 1) && (m == 0))
one_by n m a b p q = ap (λ (x : Bool). (n == 1) && x) (and_true (m == 0))

pub pair_is : (p a b : ℕ) (rest : List ℕ) → ((a == 1) && (b == 0)) ≡ bytes_eq (begins p (a ∷ b ∷ rest)) (1 ∷ 0 ∷ [])
pair_is p a b rest = sym (ap (λ (x : List ℕ). bytes_eq x (1 ∷ 0 ∷ [])) (begins_two p a b rest) ∙ one_by a b (a == 1) (b == 0) refl refl)

pub order_unturned : (s : Syntax) (vr : Vr) (v : List ℕ) → is_big s ≡ false → order s vr v ≡ v
order_unturned (implicit_in d) vr v e = refl
order_unturned (little_in d) vr v e = refl
order_unturned (big_in d) vr v e = absurd cc

one_unturned : (p : ℕ) (v : List ℕ) → begins p (turned 1 v) ≡ begins p v
one_unturned p [] = ap (begins p) (turned_short 1 some_one [] (omega arith))
one_unturned p (a ∷ []) = ap (begins p) (turned_unit 1 some_one (a ∷ []) refl)
one_unturned p (a ∷ b ∷ rest) = turned_one p a b rest ∙ sym (begins_two p a b rest)

is_unit_one : (k : ℕ) → 0 < k → k ≤ 1 → k ≡ 1
is_unit_one k some le = omega arith

pub big_order : (s : Syntax) (vr : Vr) (v : List ℕ) → is_big s ≡ true → order s vr v ≡ turned (unit vr) v
big_order (implicit_in d) vr v e = absurd cc
big_order (little_in d) vr v e = absurd cc
big_order (big_in d) vr v e = refl

-- where no unit is turned round
pub plain_one : (s : Syntax) (vr : Vr) (v : List ℕ) → is_big s ≡ false → bytes_eq (begins (pad vr) v) (1 ∷ 0 ∷ []) ≡ is_one vr (order s vr v)
plain_one s vr v e = ap (λ (x : List ℕ). bytes_eq (begins (pad vr) x) (1 ∷ 0 ∷ [])) (sym (order_unturned s vr v e))

pub single_one : (s : Syntax) (vr : Vr) (v : List ℕ) → is_big s ≡ true → unit vr ≤ 1 → bytes_eq (begins (pad vr) v) (1 ∷ 0 ∷ []) ≡ is_one vr (order s vr v)
single_one s vr v e le =
    ap (λ (x : List ℕ). bytes_eq x (1 ∷ 0 ∷ []))
    (sym (one_unturned (pad vr) v) ∙ ap (λ (k : ℕ). begins (pad vr) (turned k v)) (sym (is_unit_one (unit vr) (unit_some vr) le)) ∙ ap (begins (pad vr)) (sym (big_order s vr v e)))

pub short_one : (s : Syntax) (vr : Vr) (v : List ℕ) → is_big s ≡ true → length v < unit vr → bytes_eq (begins (pad vr) v) (1 ∷ 0 ∷ []) ≡ is_one vr (order s vr v)
short_one s vr v e lt = ap (λ (x : List ℕ). bytes_eq (begins (pad vr) x) (1 ∷ 0 ∷ [])) (sym (turned_short (unit vr) (unit_some vr) v lt) ∙ sym (big_order s vr v e))

-- the last two bytes of the first unit
abbrev Ends : ℕ → ℕ → Type 0
Ends p k = (v : List ℕ) → 1 < k → k ≤ length v → begins p (turned k v) ≡ get_or v (k - 1) 0 ∷ get_or v (k - 2) 0 ∷ []

ends_two : (p : ℕ) → Ends p 2
ends_two p [] some long = absurd (omega arith)
ends_two p (a ∷ []) some long = absurd (omega arith)
ends_two p (a ∷ b ∷ rest) some long = turned_two p a b rest

ends_four : (p : ℕ) → Ends p 4
ends_four p [] some long = absurd (omega arith)
ends_four p (a ∷ []) some long = absurd (omega arith)
ends_four p (a ∷ b ∷ []) some long = absurd (omega arith)
ends_four p (a ∷ b ∷ c ∷ []) some long = absurd (omega arith)
ends_four p (a ∷ b ∷ c ∷ d ∷ rest) some long = turned_four p a b c d rest

ends_eight : (p : ℕ) → Ends p 8
ends_eight p [] some long = absurd (omega arith)
ends_eight p (a ∷ []) some long = absurd (omega arith)
ends_eight p (a ∷ b ∷ []) some long = absurd (omega arith)
ends_eight p (a ∷ b ∷ c ∷ []) some long = absurd (omega arith)
ends_eight p (a ∷ b ∷ c ∷ d ∷ []) some long = absurd (omega arith)
ends_eight p (a ∷ b ∷ c ∷ d ∷ e ∷ []) some long = absurd (omega arith)
ends_eight p (a ∷ b ∷ c ∷ d ∷ e ∷ f ∷ []) some long = absurd (omega arith)
ends_eight p (a ∷ b ∷ c ∷ d ∷ e ∷ f ∷ g ∷ []) some long = absurd (omega arith)
ends_eight p (a ∷ b ∷ c ∷ d ∷ e ∷ f ∷ g ∷ h ∷ rest) some long = turned_eight p a b c d e f g h rest

ends_one : (p : ℕ) → Ends p 1
ends_one p v some long = absurd (omega arith)

unit_ends : (p : ℕ) (vr : Vr) → Ends p (unit vr)
unit_ends p vr = by_unit (λ k. Ends p k) (ends_one p) (ends_two p) (ends_four p) (ends_eight p) vr

pub turned_is_one : (s : Syntax) (vr : Vr) (v : List ℕ) → is_big s ≡ true → 1 < unit vr → unit vr ≤ length v → ((get_or v (unit vr - 1) 0 == 1) && (get_or v (unit vr - 2) 0 == 0)) ≡ is_one vr (order s vr v)
turned_is_one s vr v e some long =
    sym (ap (λ (x : List ℕ). bytes_eq x (1 ∷ 0 ∷ [])) (ap (begins (pad vr)) (big_order s vr v e) ∙ unit_ends (pad vr) vr v some long)
    ∙ one_by (get_or v (unit vr - 1) 0) (get_or v (unit vr - 2) 0) (get_or v (unit vr - 1) 0 == 1) (get_or v (unit vr - 2) 0 == 0) refl refl)

-- ---- the first bytes, as they are take_twice

take_least : (n : ℕ) (ys : List ℕ) → take (min (length ys) n) ys ≡ take n ys
take_least zero ys = ap (λ (k : ℕ). take k ys) (let e : min (length ys) 0 ≡ 0 = omega arith in e)
take_least (suc n) [] = take_none (min 0 (suc n))
take_least (suc n) (y ∷ ys) =
    ap (λ (k : ℕ). take k (y ∷ ys)) (let e : min (length (y ∷ ys)) (suc n) ≡ suc (min (length ys) n) = omega arith in e) ∙ ap (λ (zs : List ℕ). y ∷ zs) (take_least n ys)

pub kept_least : (xs ys : List ℕ) → length xs ≤ 8 → xs ++ take (min (length ys) (8 - length xs)) ys ≡ take 8 (xs ++ ys)
kept_least xs ys le =
    let all : length xs + (8 - length xs) ≡ 8 = omega arith in
    ap (λ (zs : List ℕ). xs ++ zs) (take_least (8 - length xs) ys) ∙ sym (take-append-add xs ys (8 - length xs)) ∙ ap (λ (n : ℕ). take n (xs ++ ys)) all
