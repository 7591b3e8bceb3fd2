-- Names that lead to something below the folder of the outputs: that of a walk, those of the folders on its way, that of the part of a run, and that of an instance.
use Rattle.std.specs.Prelude.{codes, decimal, ◌==◌, ◌||◌, ◌/◌, ◌%◌, not, if◌then◌else◌, nat_le, nat_lt}
use Rattle.std.proofs.lemmas.Bool.{eqb-true}
use Rattle.std.specs.List.{list_all}
use Rattle.std.specs.Fmt.{digits, digits_onto, digit_glyph}
use Rattle.std.proofs.Common.{◌≡◌, ◌∙◌, refl, sym, ap, subst, ℕ, zero, suc, ◌+◌, ◌≤◌, List, [], ◌∷◌, ◌++◌, length, take, drop, Bool, true, false, ◌&&◌, Option, Some, None, Result, Ok, arith, append_assoc}
use Rattle.dcm_cli.proofs.Passes.Readers.{allows_nothing}
use Rattle.dcm_lemmas.proofs.Options.{one_value}
use Rattle.dcm_lemmas.proofs.Truth.{and_both, and_first, and_second, neither_second, true_false}
use Rattle.dcm_base.specs.Tree.Front.{Front, front as a_front}
use Rattle.dcm_base.specs.declared.syntax.Syntax.{Syntax}
use Rattle.dcm_base.specs.Tables.Transfer.{without_pads}
use Rattle.dcm_uid.specs.Uid.{is_uid_byte}
use Rattle.dcm_cli.specs.Calls.{Reader}
use Rattle.dcm_files.specs.Devices.{MayDo}
use Rattle.dcm_instance.specs.declared.names.Instance.{Instance}
use Rattle.dcm_instance.specs.declared.names.InstanceUid.TheVariants as uids
use Rattle.dcm_instance.specs.declared.names.NoInstance.{NoInstance}
use Rattle.dcm_instance.specs.ReadInstance.{FileNames, no_set, of_set}
use Rattle.dcm_instance.specs.Uids.{Uids, instance_name, uids_of, is_fit, fit_of, named, instance_in, uid_in, value_in, up_to_series, uid_tag, names_a_folder}
use Rattle.dcm_walk.specs.Folder.{IsFit}
use Rattle.dcm_walk.specs.List.{IsSlash}
use Rattle.dcm_walk.specs.Names.{PATH_LIMIT, below, is_slash, is_dot, ends_part, after_dot, begins_part, goes_below, leads_below}
use Rattle.dcm_walk.specs.Visits.{Named}
use Rattle.dcm_trees.specs.Instance as instance
use Rattle.dcm_trees.specs.Instance.{FindsInstance}
use Rattle.dcm_trees.specs.Run.{part_name}
use Rattle.dcm_tree_laws.specs.Stays.{IsOfOutput, within}
use Rattle.dcm_tree_laws.proofs.Ways.{WayFolder, way_folder}

-- ---- truth values

-- ---- the front of a name, up to a slash

ends_front : (front rest : List ℕ) → ends_part (front ++ (47 ∷ rest)) ≡ ends_part front
ends_front [] rest = refl
ends_front (b ∷ bs) rest = refl

if_append : (t : Bool) (xs ys zs : List ℕ) → (if t then (xs ++ zs) else (ys ++ zs)) ≡ (if t then xs else ys) ++ zs
if_append true xs ys zs = refl
if_append false xs ys zs = refl

dot_front : (front rest : List ℕ) → after_dot (front ++ (47 ∷ rest)) ≡ after_dot front ++ (47 ∷ rest)
dot_front [] rest = refl
dot_front (b ∷ bs) rest = if_append (is_dot b) bs (b ∷ bs) (47 ∷ rest)

-- a part begins so
abbrev begins_by : (at_once after_one after_two : Bool) → Bool
begins_by a b c = not a && not b && not c

begins_same : (a b c d e f : Bool) → a ≡ d → b ≡ e → c ≡ f → begins_by a b c ≡ begins_by d e f
begins_same a b c d e f x y z = ap (λ (t : Bool). begins_by t b c) x ∙ ap (λ (t : Bool). begins_by d t c) y ∙ ap (λ (t : Bool). begins_by d e t) z

begins_front : (front rest : List ℕ) → begins_part (front ++ (47 ∷ rest)) ≡ begins_part front
begins_front front rest =
    let whole : List ℕ = front ++ (47 ∷ rest) in
    begins_same (ends_part whole) (ends_part (after_dot whole)) (ends_part (after_dot (after_dot whole))) (ends_part front) (ends_part (after_dot front)) (ends_part (after_dot (after_dot front)))
    (ends_front front rest)
    (ap ends_part (dot_front front rest) ∙ ends_front (after_dot front) rest)
    (ap (λ (x : List ℕ). ends_part (after_dot x)) (dot_front front rest) ∙ ap ends_part (dot_front (after_dot front) rest) ∙ ends_front (after_dot (after_dot front)) rest)

-- one byte of a name that goes on below, whatever it is
goes_one : (zero_byte slash other begins more goes : Bool) → other ≡ begins → (more ≡ true → goes ≡ true) → (not zero_byte && (not slash || other) && more) ≡ true → (not zero_byte && (not slash || begins) && goes) ≡ true
goes_one true slash other begins more goes same onwards e = absurd (cc)
goes_one false true other begins more goes same onwards e = and_both begins goes (sym same ∙ and_first other more e) (onwards (and_second other more e))
goes_one false false other begins more goes same onwards e = onwards e

goes_front : (front rest : List ℕ) → goes_below (front ++ (47 ∷ rest)) ≡ true → goes_below front ≡ true
goes_front [] rest e = refl
goes_front (b ∷ bs) rest e = goes_one (b == 0) (is_slash b) (begins_part (bs ++ (47 ∷ rest))) (begins_part bs) (goes_below (bs ++ (47 ∷ rest))) (goes_below bs) (begins_front bs rest) (goes_front bs rest) e

leads_front : (front rest : List ℕ) → leads_below (front ++ (47 ∷ rest)) ≡ true → leads_below front ≡ true
leads_front front rest e =
    and_both (begins_part front) (goes_below front) (sym (begins_front front rest) ∙ and_first (begins_part (front ++ (47 ∷ rest))) (goes_below (front ++ (47 ∷ rest))) e)
    (goes_front front rest (and_second (begins_part (front ++ (47 ∷ rest))) (goes_below (front ++ (47 ∷ rest))) e))

pub leads_folder : (relative folder behind : List ℕ) → relative ≡ below folder behind → leads_below relative ≡ true → leads_below folder ≡ true
leads_folder relative folder behind cut e = leads_front folder behind (ap leads_below (sym (append_assoc folder (codes "/") behind) ∙ sym cut) ∙ e)

-- each folder on the way to an output is in that of the outputs
pub way_is_within : (output relative path : List ℕ) → path ≡ below output relative → leads_below relative ≡ true → (at size : ℕ) → length output + 1 ≤ at → IsSlash (drop at path) (Some size) → IsOfOutput output (take (at + size) path)
way_is_within output relative path is leads at size least slash =
    let w : WayFolder output relative (take (at + size) path) = way_folder output relative path is at size least slash in
    within w.folder (leads_folder relative w.folder w.behind w.cut leads) w.is

-- ---- the name of a walk

not_unfit : (long leads : Bool) → (long || not leads) ≡ false → leads ≡ true
not_unfit true leads e = absurd (cc)
not_unfit false true e = refl
not_unfit false false e = absurd (cc)

pub fit_leads : (n : Named) → IsFit n → leads_below n.relative ≡ true
fit_leads n f = not_unfit (nat_lt PATH_LIMIT (length n.path)) (leads_below n.relative) f.fits

-- ---- bytes that are no slash

-- a byte that is neither 00 nor a slash
abbrev is_plain : ℕ → Bool
is_plain b = not (b == 0) && not (is_slash b)

plain_one : (zero_byte slash begins goes : Bool) → (not zero_byte && not slash) ≡ true → goes ≡ true → (not zero_byte && (not slash || begins) && goes) ≡ true
plain_one true slash begins goes p g = absurd (cc)
plain_one false true begins goes p g = absurd (cc)
plain_one false false begins goes p g = g

-- such bytes before what goes on below
plain_goes : (bytes rest : List ℕ) → list_all is_plain bytes ≡ true → goes_below rest ≡ true → goes_below (bytes ++ rest) ≡ true
plain_goes [] rest p g = g
plain_goes (b ∷ bs) rest p g =
    plain_one (b == 0) (is_slash b) (begins_part (bs ++ rest)) (goes_below (bs ++ rest)) (and_first (is_plain b) (list_all is_plain bs) p) (plain_goes bs rest (and_second (is_plain b) (list_all is_plain bs) p) g)

begins_of : (bytes : List ℕ) → ends_part bytes ≡ false → ends_part (after_dot bytes) ≡ false → ends_part (after_dot (after_dot bytes)) ≡ false → begins_part bytes ≡ true
begins_of bytes x y z = begins_same (ends_part bytes) (ends_part (after_dot bytes)) (ends_part (after_dot (after_dot bytes))) false false false x y z

ends_if : (t : Bool) (xs ys : List ℕ) → ends_part xs ≡ false → ends_part ys ≡ false → ends_part (if t then xs else ys) ≡ false
ends_if true xs ys x y = x
ends_if false xs ys x y = y

dot_ends_if : (t : Bool) (xs ys : List ℕ) → ends_part (after_dot xs) ≡ false → ends_part (after_dot ys) ≡ false → ends_part (after_dot (if t then xs else ys)) ≡ false
dot_ends_if true xs ys x y = x
dot_ends_if false xs ys x y = y

-- three bytes that are no slash begin a part
three_begin : (a b c : ℕ) (rest : List ℕ) → is_slash a ≡ false → is_slash b ≡ false → is_slash c ≡ false → begins_part (a ∷ b ∷ c ∷ rest) ≡ true
three_begin a b c rest x y z =
    let once : ends_part (after_dot (a ∷ b ∷ c ∷ rest)) ≡ false = ends_if (is_dot a) (b ∷ c ∷ rest) (a ∷ b ∷ c ∷ rest) y x in
    begins_of (a ∷ b ∷ c ∷ rest) x once (dot_ends_if (is_dot a) (b ∷ c ∷ rest) (a ∷ b ∷ c ∷ rest) (ends_if (is_dot b) (c ∷ rest) (b ∷ c ∷ rest) z y) once)

-- two, where they are not both points
no_dot : (t : Bool) (xs ys : List ℕ) → t ≡ false → ends_part ys ≡ false → ends_part (if t then xs else ys) ≡ false
no_dot true xs ys e y = absurd (cc)
no_dot false xs ys e y = y

two_third : (s t : Bool) (a b : ℕ) → is_dot b ≡ t → (s ≡ true → t ≡ true → ⊥) → is_slash a ≡ false → is_slash b ≡ false → ends_part (after_dot (if s then (b ∷ []) else (a ∷ b ∷ []))) ≡ false
two_third true true a b e not_both x y = absurd (not_both refl refl)
two_third true false a b e not_both x y = no_dot (is_dot b) [] (b ∷ []) e y
two_third false t a b e not_both x y = ends_if (is_dot a) (b ∷ []) (a ∷ b ∷ []) y x

two_begin : (a b : ℕ) → (is_dot a ≡ true → is_dot b ≡ true → ⊥) → is_slash a ≡ false → is_slash b ≡ false → begins_part (a ∷ b ∷ []) ≡ true
two_begin a b not_both x y =
    begins_of (a ∷ b ∷ []) x (ends_if (is_dot a) (b ∷ []) (a ∷ b ∷ []) y x) (two_third (is_dot a) (is_dot b) a b refl not_both x y)

-- one that is no point
one_third : (s : Bool) (a : ℕ) → is_dot a ≡ s → (s ≡ true → ⊥) → is_slash a ≡ false → ends_part (after_dot (if s then [] else (a ∷ []))) ≡ false
one_third true a e not_dot x = absurd (not_dot refl)
one_third false a e not_dot x = no_dot (is_dot a) [] (a ∷ []) e x

one_second : (s : Bool) (a : ℕ) → (s ≡ true → ⊥) → is_slash a ≡ false → ends_part (if s then [] else (a ∷ [])) ≡ false
one_second true a not_dot x = absurd (not_dot refl)
one_second false a not_dot x = x

one_begins : (a : ℕ) → (is_dot a ≡ true → ⊥) → is_slash a ≡ false → begins_part (a ∷ []) ≡ true
one_begins a not_dot x = begins_of (a ∷ []) x (one_second (is_dot a) a not_dot x) (one_third (is_dot a) a refl not_dot x)

-- ---- a unique identifier that is fit

plain_by : (b : ℕ) (s t : Bool) → (b == 0) ≡ s → (b == 47) ≡ t → (b ≡ 0 → ⊥) → (b ≡ 47 → ⊥) → is_plain b ≡ true
plain_by b true t x y some other = absurd (some (eqb-true b 0 x))
plain_by b false true x y some other = absurd (other (eqb-true b 47 y))
plain_by b false false x y some other = and_both (not (b == 0)) (not (b == 47)) (ap not x) (ap not y)

uid_not : (b n : ℕ) → is_uid_byte b ≡ true → is_uid_byte n ≡ false → b ≡ n → ⊥
uid_not b n of_uid other is = true_false (is_uid_byte n) (subst (λ (x : ℕ). is_uid_byte x ≡ true) is of_uid) other

uid_plain : (b : ℕ) → is_uid_byte b ≡ true → is_plain b ≡ true
uid_plain b of_uid = plain_by b (b == 0) (b == 47) refl refl (uid_not b 0 of_uid refl) (uid_not b 47 of_uid refl)

all_plain : (u : List ℕ) → list_all is_uid_byte u ≡ true → list_all is_plain u ≡ true
all_plain [] e = refl
all_plain (b ∷ bs) e =
    and_both (is_plain b) (list_all is_plain bs) (uid_plain b (and_first (is_uid_byte b) (list_all is_uid_byte bs) e)) (all_plain bs (and_second (is_uid_byte b) (list_all is_uid_byte bs) e))

pub fit_plain : (u : List ℕ) → is_fit u ≡ true → list_all is_plain u ≡ true
fit_plain u e =
    let rest : Bool = list_all is_uid_byte u && not (names_a_folder u) in
    all_plain u (and_first (list_all is_uid_byte u) (not (names_a_folder u)) (and_second (nat_le (length u) 64) rest (and_second (nat_lt 0 (length u)) (nat_le (length u) 64 && rest) e)))

no_slash : (b : ℕ) (bs : List ℕ) → list_all is_plain (b ∷ bs) ≡ true → is_slash b ≡ false
no_slash b bs p = neither_second (b == 0) (is_slash b) (and_first (is_plain b) (list_all is_plain bs) p)

rest_plain : (b : ℕ) (bs : List ℕ) → list_all is_plain (b ∷ bs) ≡ true → list_all is_plain bs ≡ true
rest_plain b bs p = and_second (is_plain b) (list_all is_plain bs) p

no_point : (a : ℕ) → is_fit (a ∷ []) ≡ true → is_dot a ≡ true → ⊥
no_point a e dot = true_false (is_fit (46 ∷ [])) (subst (λ (x : ℕ). is_fit (x ∷ []) ≡ true) (eqb-true a 46 dot) e) refl

no_points : (a b : ℕ) → is_fit (a ∷ b ∷ []) ≡ true → is_dot a ≡ true → is_dot b ≡ true → ⊥
no_points a b e dot point =
    true_false (is_fit (46 ∷ 46 ∷ [])) (subst (λ (x : ℕ). is_fit (46 ∷ x ∷ []) ≡ true) (eqb-true b 46 point) (subst (λ (x : ℕ). is_fit (x ∷ b ∷ []) ≡ true) (eqb-true a 46 dot) e)) refl

-- it begins a part
fit_begins : (u : List ℕ) → is_fit u ≡ true → list_all is_plain u ≡ true → begins_part u ≡ true
fit_begins [] e p = true_false (is_fit []) e refl
fit_begins (a ∷ []) e p = one_begins a (no_point a e) (no_slash a [] p)
fit_begins (a ∷ b ∷ []) e p = two_begin a b (no_points a b e) (no_slash a (b ∷ []) p) (no_slash b [] (rest_plain a (b ∷ []) p))
fit_begins (a ∷ b ∷ c ∷ rest) e p =
    let q : list_all is_plain (b ∷ c ∷ rest) ≡ true = rest_plain a (b ∷ c ∷ rest) p in
    three_begin a b c rest (no_slash a (b ∷ c ∷ rest) p) (no_slash b (c ∷ rest) q) (no_slash c rest (rest_plain b (c ∷ rest) q))

-- and so it does with an ending
named_begins : (u : List ℕ) → is_fit u ≡ true → list_all is_plain u ≡ true → begins_part (u ++ codes ".dcm") ≡ true
named_begins [] e p = true_false (is_fit []) e refl
named_begins (a ∷ []) e p = three_begin a 46 100 (99 ∷ 109 ∷ []) (no_slash a [] p) refl refl
named_begins (a ∷ b ∷ []) e p = three_begin a b 46 (100 ∷ 99 ∷ 109 ∷ []) (no_slash a (b ∷ []) p) (no_slash b [] (rest_plain a (b ∷ []) p)) refl
named_begins (a ∷ b ∷ c ∷ rest) e p =
    let q : list_all is_plain (b ∷ c ∷ rest) ≡ true = rest_plain a (b ∷ c ∷ rest) p in
    three_begin a b c (rest ++ codes ".dcm") (no_slash a (b ∷ c ∷ rest) p) (no_slash b (c ∷ rest) q) (no_slash c rest (rest_plain b (c ∷ rest) q))

-- ---- the name of an instance

pub record AllFit (u : Uids) : Type 0 where
  pub study : is_fit u.study ≡ true
  pub series : is_fit u.series ≡ true
  pub instance : is_fit u.instance ≡ true

slash_goes : (rest : List ℕ) → begins_part rest ≡ true → goes_below rest ≡ true → goes_below (47 ∷ rest) ≡ true
slash_goes rest begins goes = and_both (begins_part rest) (goes_below rest) begins goes

-- one of its folders, with what is behind it
part_goes : (u rest : List ℕ) → is_fit u ≡ true → begins_part rest ≡ true → goes_below rest ≡ true → (begins_part (u ++ (47 ∷ rest)) ≡ true) × (goes_below (u ++ (47 ∷ rest)) ≡ true)
part_goes u rest e begins goes = (begins_front u rest ∙ fit_begins u e (fit_plain u e), plain_goes u (47 ∷ rest) (fit_plain u e) (slash_goes rest begins goes))

name_apart : (a b c d : List ℕ) → a ++ codes "/" ++ b ++ codes "/" ++ c ++ d ≡ a ++ (47 ∷ (b ++ (47 ∷ (c ++ d))))
name_apart a b c d =
    append_assoc (a ++ codes "/" ++ b ++ codes "/") c d
    ∙ append_assoc (a ++ codes "/" ++ b) (codes "/") (c ++ d)
    ∙ append_assoc (a ++ codes "/") b (47 ∷ (c ++ d))
    ∙ append_assoc a (codes "/") (b ++ (47 ∷ (c ++ d)))

pub instance_leads : (u : Uids) → AllFit u → leads_below (instance_name u) ≡ true
instance_leads u f =
    let file : List ℕ = u.instance ++ codes ".dcm" in
    let below_series : (begins_part (u.series ++ (47 ∷ file)) ≡ true) × (goes_below (u.series ++ (47 ∷ file)) ≡ true) =
    part_goes u.series file f.series (named_begins u.instance f.instance (fit_plain u.instance f.instance)) (plain_goes u.instance (codes ".dcm") (fit_plain u.instance f.instance) refl) in
    let whole : (begins_part (u.study ++ (47 ∷ (u.series ++ (47 ∷ file)))) ≡ true) × (goes_below (u.study ++ (47 ∷ (u.series ++ (47 ∷ file)))) ≡ true) =
    part_goes u.study (u.series ++ (47 ∷ file)) f.study below_series.0 below_series.1 in
    ap leads_below (name_apart u.study u.series u.instance (codes ".dcm")) ∙ and_both (begins_part (u.study ++ (47 ∷ (u.series ++ (47 ∷ file))))) (goes_below (u.study ++ (47 ∷ (u.series ++ (47 ∷ file))))) whole.0 whole.1

-- ---- which a file names

-- a value that is taken is fit
abbrev OfFit : Option (List ℕ) → Type 0
OfFit o = (u : List ℕ) → o ≡ Some u → is_fit u ≡ true

if_fit : (t : Bool) (v u : List ℕ) → is_fit v ≡ t → (if t then Some v else None) ≡ Some u → is_fit u ≡ true
if_fit true v u e is = subst (λ (x : List ℕ). is_fit x ≡ true) (one_value (Some v) v u refl is) e
if_fit false v u e is = absurd (cc)

fits_of : (o : Option (List ℕ)) → OfFit (fit_of o)
fits_of None u is = absurd (cc)
fits_of (Some value) u is = if_fit (is_fit (without_pads value)) (without_pads value) u refl is

same_uids : (r : Result Uids NoInstance) (a b : Uids) → r ≡ Ok a → r ≡ Ok b → a ≡ b
same_uids r a b e f = cc

named_fits : (a b c : Option (List ℕ)) (u : Uids) → OfFit a → OfFit b → OfFit c → named a b c ≡ Ok u → AllFit u
named_fits None b c u x y z is = absurd (cc)
named_fits (Some a) None c u x y z is = absurd (cc)
named_fits (Some a) (Some b) None u x y z is = absurd (cc)
named_fits (Some a) (Some b) (Some c) u x y z is =
    let all : Uids = record { study = a; series = b; instance = c } in
    subst AllFit (same_uids (named (Some a) (Some b) (Some c)) all u refl is) (record { study = x a refl; series = y b refl; instance = z c refl })

set_fits : (s : Syntax) (set : Front) (u : Uids) → instance_in s set ≡ Ok u → AllFit u
set_fits s (a_front whole open_tree reached closed) u is =
    named_fits (uid_in uids.Study s (a_front whole open_tree reached closed)) (uid_in uids.Series s (a_front whole open_tree reached closed)) (uid_in uids.Instance s (a_front whole open_tree reached closed)) u
    (fits_of (value_in (uid_tag uids.Study) s (up_to_series whole))) (fits_of (value_in (uid_tag uids.Series) s (up_to_series whole))) (fits_of (value_in (uid_tag uids.Instance) s (up_to_series whole))) is

file_fits : (bytes : List ℕ) (answer : Result Uids NoInstance) (u : Uids) → answer ≡ Ok u → FileNames bytes answer → AllFit u
file_fits bytes answer u ok (no_set fault offset reads is) = absurd (cc)
file_fits bytes answer u ok (of_set m group coding set stop head reads is) = set_fits coding.syntax set u (sym is ∙ ok)

pub file_leads : (bytes : List ℕ) (u : Uids) → FileNames bytes (Ok u) → leads_below (instance_name u) ≡ true
file_leads bytes u names = instance_leads u (file_fits bytes (Ok u) u refl names)

-- which is found in the part: a file of these bytes names it
pub found_names : {S I O : Type 0} (may : MayDo S I O) (r : Reader I) (part : List ℕ) (before : S) (i : Instance) (after : S) → FindsInstance may r part before (Ok i) after → (bytes : List ℕ) × FileNames bytes (Ok (uids_of i))
found_names may r part before i after (instance.not_opened opens is) = absurd (cc)
found_names may r part before i after (instance.was_read input left opened opens reads back) = (reads.given ++ [], reads.comes [] (allows_nothing reads.how))

-- ---- the part of a run

plain_least : (b : ℕ) → 48 ≤ b → is_plain b ≡ true
plain_least b least = plain_by b (b == 0) (b == 47) refl refl (λ e. omega (arith, least, e)) (λ e. omega (arith, least, e))

least_if : (t : Bool) (a b : ℕ) → 48 ≤ a → 48 ≤ b → 48 ≤ (if t then a else b)
least_if true a b x y = x
least_if false a b x y = y

glyph_goes : (d : ℕ) (rest : List ℕ) → goes_below rest ≡ true → goes_below (digit_glyph false d ∷ rest) ≡ true
glyph_goes d rest goes =
    let glyph : ℕ = digit_glyph false d in
    plain_one (glyph == 0) (is_slash glyph) (begins_part rest) (goes_below rest) (plain_least glyph (least_if (nat_lt d 10) (48 + d) (87 + d) (omega arith) (omega arith))) goes

goes_if : (t : Bool) (xs ys : List ℕ) → goes_below xs ≡ true → goes_below ys ≡ true → goes_below (if t then xs else ys) ≡ true
goes_if true xs ys x y = x
goes_if false xs ys x y = y

digits_go : (k n : ℕ) (rest : List ℕ) → goes_below rest ≡ true → goes_below (digits_onto k 10 false n rest) ≡ true
digits_go zero n rest goes = goes
digits_go (suc k) n rest goes =
    goes_if (n / 10 == 0) (digit_glyph false (n % 10) ∷ rest) (digits_onto k 10 false (n / 10) (digit_glyph false (n % 10) ∷ rest)) (glyph_goes (n % 10) rest goes)
    (digits_go k (n / 10) (digit_glyph false (n % 10) ∷ rest) (glyph_goes (n % 10) rest goes))

decimal_goes : (n : ℕ) → goes_below (decimal n) ≡ true
unfolding digits
decimal_goes n = digits_go 64 n [] refl

part_leads : (number : ℕ) → leads_below (part_name number) ≡ true
part_leads number = and_both (begins_part (part_name number)) (goes_below (part_name number)) refl (decimal_goes number)

pub part_is_within : (output part : List ℕ) (number : ℕ) → part ≡ below output (part_name number) → IsOfOutput output part
part_is_within output part number is = within (part_name number) (part_leads number) is
