-- Names of one part, and the paths of what is below a folder.
use Rattle.std.proofs.Common.{◌≡◌, ◌∙◌, refl, sym, ap, subst, inl, inr, ◌⊎◌, ℕ, suc, ◌+◌, ◌<◌, ◌≤◌, List, [], ◌∷◌, ◌++◌, length, take, drop, Bool, true, false, ◌&&◌, arith, append_assoc, length-append}
use Rattle.std.specs.Prelude.{◌||◌, ◌==◌, codes, not, nat_lt, if◌then◌else◌}
use Rattle.std.specs.Str.{IsUtf8}
use Rattle.std.proofs.lemmas.Bool.{eqb-true, le-ltb}
use Rattle.std.proofs.lemmas.List.{append_cancel_left, take_all, length-take}
use Rattle.std.proofs.lemmas.Str.{IsUtf8-take, IsCharBoundary-before_ascii}
use Rattle.std.proofs.Math.Seq.{drop-append_seam, take-append_seam, get_or-append_seam}
use Rattle.dcm_lemmas.proofs.Lists.{cons_alike, heads_alike, tails_alike}
use Rattle.dcm_lemmas.proofs.Truth.{and_second}
use Rattle.dcm_names.specs.Names.{NAME_LIMIT}
use Rattle.dcm_walk.specs.Folder.{IsFit, named_at}
use Rattle.dcm_walk.specs.Names.{PATH_LIMIT, below, is_slash, begins_part, goes_below, leads_below, is_part_file}
use Rattle.dcm_tree_laws.specs.Visited.{IsOnePart, depth}
use Rattle.dcm_tree_laws.proofs.Below.{leads_folder}

-- ---- paths

-- what is at a path, or below it
abbrev pub AtOrBelow : (path other : List ℕ) → Type 0
AtOrBelow path other = (other ≡ path) ⊎ ((behind : List ℕ) × (other ≡ below path behind))

pub below_twice : (root folder name : List ℕ) → below (below root folder) name ≡ below root (below folder name)
below_twice root folder name = ap (λ (x : List ℕ). x ++ name) (append_assoc (root ++ codes "/") folder (codes "/")) ∙ append_assoc (root ++ codes "/") (folder ++ codes "/") name

pub below_same : (folder a b : List ℕ) → below folder a ≡ below folder b → a ≡ b
below_same folder a b e = append_cancel_left (folder ++ codes "/") a b e

-- what is at or below a name in a folder is in this
pub in_folder : (folder name other : List ℕ) → AtOrBelow (below folder name) other → (inner : List ℕ) × ((other ≡ below folder inner) × AtOrBelow name inner)
in_folder folder name other (inl e) = (name, (e, inl refl))
in_folder folder name other (inr (behind, e)) = (below name behind, (e ∙ below_twice folder name behind, inr (behind, refl)))

pub below_folder : (folder name other : List ℕ) → AtOrBelow (below folder name) other → (inner : List ℕ) × (other ≡ below folder inner)
below_folder folder name other at = let x = in_folder folder name other at in (x.0, x.1.0)

-- ---- names of one part

rest_one : (b : ℕ) (bs : List ℕ) → IsOnePart (b ∷ bs) → IsOnePart bs
rest_one b bs one = λ folder behind e. one (b ∷ folder) behind (ap (λ (x : List ℕ). b ∷ x) e)

-- a slash does not begin it
not_slash : (b : ℕ) (bs : List ℕ) → IsOnePart (b ∷ bs) → b ≡ 47 → ⊥
not_slash b bs one e = one [] bs (ap (λ (c : ℕ). c ∷ bs) e)

first_part : (a b r s : List ℕ) → IsOnePart a → IsOnePart b → below a r ≡ below b s → a ≡ b
first_part [] [] r s one other e = refl
first_part [] (y ∷ ys) r s one other e = absurd (not_slash y ys other (sym (heads_alike 47 y r (below ys s) e)))
first_part (x ∷ xs) [] r s one other e = absurd (not_slash x xs one (heads_alike x 47 (below xs r) s e))
first_part (x ∷ xs) (y ∷ ys) r s one other e =
    cons_alike x y xs ys (heads_alike x y (below xs r) (below ys s) e) (first_part xs ys r s (rest_one x xs one) (rest_one y ys other) (tails_alike x y (below xs r) (below ys s) e))

same_part : (a b x : List ℕ) → IsOnePart a → IsOnePart b → AtOrBelow a x → AtOrBelow b x → a ≡ b
same_part a b x one other (inl e) (inl f) = sym e ∙ f
same_part a b x one other (inl e) (inr (s, f)) = absurd (one b s (sym e ∙ f))
same_part a b x one other (inr (r, e)) (inl f) = absurd (other a r (sym f ∙ e))
same_part a b x one other (inr (r, e)) (inr (s, f)) = first_part a b r s one other (sym e ∙ f)

-- what is at or below two names in a folder is of one name
pub same_name : (folder a b path : List ℕ) → IsOnePart a → IsOnePart b → AtOrBelow (below folder a) path → AtOrBelow (below folder b) path → a ≡ b
same_name folder a b path one other at in_other =
    let x = in_folder folder a path at in
    let y = in_folder folder b path in_other in
    same_part a b x.0 one other x.1.1 (subst (AtOrBelow b) (below_same folder y.0 x.0 (sym y.1.0 ∙ x.1.0)) y.1.1)

-- ---- the first part of a name

pub data Cut (relative : List ℕ) : Type 0 where
  is_one : IsOnePart relative → Cut relative
  has_more : (first rest : List ℕ) → IsOnePart first → relative ≡ below first rest → depth relative ≡ suc (depth rest) → Cut relative

none_is_below : (folder behind : List ℕ) → [] ≡ below folder behind → ⊥
none_is_below [] behind e = absurd (cc)
none_is_below (b ∷ bs) behind e = absurd (cc)

none_one : IsOnePart []
none_one folder behind e = none_is_below folder behind e

slash_is : (b : ℕ) (t : Bool) → is_slash b ≡ t → t ≡ false → b ≡ 47 → ⊥
slash_is b t e f is = absurd (let x : is_slash 47 ≡ t = ap is_slash (sym is) ∙ e in cc)

with_first : (b : ℕ) (bs : List ℕ) → is_slash b ≡ false → IsOnePart bs → IsOnePart (b ∷ bs)
with_first b bs plain one [] behind e = slash_is b false plain refl (heads_alike b 47 bs behind e)
with_first b bs plain one (c ∷ cs) behind e = one cs behind (tails_alike b c bs (below cs behind) e)

deep : (t : Bool) (b : ℕ) (bs : List ℕ) → is_slash b ≡ t → depth (b ∷ bs) ≡ (if t then suc (depth bs) else depth bs)
deep t b bs e = ap (λ (u : Bool). if u then suc (depth bs) else depth bs) e

cut_first : (t : Bool) (b : ℕ) (bs : List ℕ) → is_slash b ≡ t → Cut bs → Cut (b ∷ bs)
cut_first true b bs e c = has_more [] bs none_one (ap (λ (x : ℕ). x ∷ bs) (eqb-true b 47 e)) (deep true b bs e)
cut_first false b bs e (is_one part) = is_one (with_first b bs e part)
cut_first false b bs e (has_more first rest part is n) = has_more (b ∷ first) rest (with_first b first e part) (ap (λ (x : List ℕ). b ∷ x) is) (deep false b bs e ∙ n)

pub cut : (relative : List ℕ) → Cut relative
cut [] = is_one none_one
cut (b ∷ bs) = cut_first (is_slash b) b bs refl (cut bs)

-- ---- what leads below

and_last : (a b c : Bool) → (a && b && c) ≡ true → c ≡ true
and_last true true c e = e
and_last true false c e = absurd (cc)
and_last false b c e = absurd (cc)

behind_slash : (begins goes : Bool) → (not false && (not true || begins) && goes) ≡ true → (begins && goes) ≡ true
behind_slash begins goes e = e

goes_rest : (first rest : List ℕ) → goes_below (first ++ (47 ∷ rest)) ≡ true → leads_below rest ≡ true
goes_rest [] rest e = e
goes_rest (b ∷ bs) rest e = goes_rest bs rest (and_last (not (b == 0)) (not (is_slash b) || begins_part (bs ++ (47 ∷ rest))) (goes_below (bs ++ (47 ∷ rest))) e)

pub leads_rest : (first rest : List ℕ) → leads_below (below first rest) ≡ true → leads_below rest ≡ true
leads_rest first rest e =
    goes_rest first rest (and_second (begins_part (first ++ (47 ∷ rest))) (goes_below (first ++ (47 ∷ rest))) (ap leads_below (sym (append_assoc first (codes "/") rest)) ∙ e))

-- ---- what can be looked at

-- what is behind the path of a folder
pub past_root : (root relative : List ℕ) → drop (length root + 1) (below root relative) ≡ relative
past_root root relative = ap (λ (n : ℕ). drop n (below root relative)) (sym (length-append root (codes "/"))) ∙ drop-append_seam (root ++ codes "/") relative

-- the name of what is below a folder, as it is
pub name_below : (root relative : List ℕ) → length (below root relative) ≤ PATH_LIMIT → take NAME_LIMIT (drop (length root + 1) (below root relative)) ≡ relative
name_below root relative fits = ap (take NAME_LIMIT) (past_root root relative) ∙ take_all NAME_LIMIT relative (omega (arith, fits, length-append (root ++ codes "/") relative))

-- a name that is cut off is another one
pub cut_off : (n : ℕ) (xs ys : List ℕ) → take n xs ≡ ys → length ys < n → xs ≡ ys
cut_off n xs ys e less = sym (take_all n xs (omega (arith, less, ap length e, length-take n xs))) ∙ e

fits_so : (long leads : Bool) → long ≡ false → leads ≡ true → (long || not leads) ≡ false
fits_so true leads e f = absurd (cc)
fits_so false true e f = refl
fits_so false false e f = absurd (cc)

pub is_fit : (root relative : List ℕ) → length (below root relative) ≤ PATH_LIMIT → IsUtf8 (below root relative) → leads_below relative ≡ true → is_part_file relative ≡ false → IsFit (named_at (length root + 1) (below root relative))
is_fit root relative fits text leads no_part = record {
  fits = fits_so (nat_lt PATH_LIMIT (length (below root relative))) (leads_below (take NAME_LIMIT (drop (length root + 1) (below root relative)))) (le-ltb PATH_LIMIT (length (below root relative)) fits)
      (ap leads_below (name_below root relative fits) ∙ leads);
  text = text;
  of_no_run = ap is_part_file (name_below root relative fits) ∙ no_part;
}

-- ---- the folders on the way

pub text_front : (front rest : List ℕ) → IsUtf8 (front ++ (47 ∷ rest)) → IsUtf8 front
text_front front rest text =
    subst IsUtf8 (take-append_seam front (47 ∷ rest))
    (IsUtf8-take (front ++ (47 ∷ rest)) (length front) text (IsCharBoundary-before_ascii (front ++ (47 ∷ rest)) (length front) (omega (arith, length-append front (47 ∷ rest)))
    (subst (λ (b : ℕ). b < 128) (sym (get_or-append_seam front 47 rest 0)) (omega arith))))

part_front : (front rest : List ℕ) → is_part_file (front ++ rest) ≡ false → is_part_file front ≡ false
part_front [] rest e = refl
part_front (a ∷ []) rest e = refl
part_front (a ∷ b ∷ []) rest e = refl
part_front (a ∷ b ∷ c ∷ []) rest e = refl
part_front (a ∷ b ∷ c ∷ d ∷ []) rest e = refl
part_front (a ∷ b ∷ c ∷ d ∷ f ∷ []) rest e = refl
part_front (a ∷ b ∷ c ∷ d ∷ f ∷ g ∷ front) rest e = e

pub fit_way : (root relative front behind : List ℕ) → relative ≡ below front behind → length (below root relative) ≤ PATH_LIMIT → IsUtf8 (below root relative) → leads_below relative ≡ true → is_part_file relative ≡ false
    → IsFit (named_at (length root + 1) (below root front))
fit_way root relative front behind is fits text leads no_part =
    let whole : below root relative ≡ below root front ++ (47 ∷ behind) = ap (below root) is ∙ sym (below_twice root front behind) ∙ append_assoc (below root front) (codes "/") behind in
    is_fit root front (omega (arith, fits, ap length whole, length-append (below root front) (47 ∷ behind))) (text_front (below root front) behind (subst IsUtf8 whole text)) (leads_folder relative front behind is leads)
    (part_front front (47 ∷ behind) (ap is_part_file (sym (is ∙ append_assoc front (codes "/") behind)) ∙ no_part))
