-- The normal form of a data set is converted to the same bytes.
use Rattle.std.proofs.Common.{◌≡◌, ℕ, ◌%◌, List, [], ◌∷◌, ◌++◌, length, map, flat_map, Bool, true, false, not, refl, ap, ◌∙◌, arith, length-append, sym, subst}
use Rattle.std.specs.Prelude.{◌==◌, ◌&&◌, if◌then◌else◌, nat_lt}
use Rattle.std.proofs.lemmas.Bool.Decides.{nat_tests}
use Rattle.std.proofs.lemmas.Bool.{eqb-true}
use Rattle.dcm_lemmas.proofs.Lists.{joined_alike}
use Rattle.dcm_base.specs.declared.tag.Tag.{Tag}
use Rattle.dcm_base.specs.declared.vr.Vr.{Vr}
use Rattle.dcm_base.specs.declared.vr.Vr.TheVariants.{SQ, UN}
use Rattle.dcm_base.specs.declared.syntax.Syntax.{Syntax}
use Rattle.dcm_base.specs.declared.syntax.Syntax.TheVariants.{Implicit as implicit_in, Little as little_in, Big as big_in}
use Rattle.dcm_base.specs.declared.dictionary.Dictionary.{Dictionary}
use Rattle.dcm_base.specs.declared.length.Length.TheVariants.{Known, Undefined}
use Rattle.dcm_base.specs.Tree.Tree.{Trees, no_tree, leaf, sequence, fragments, Items, no_item, item}
use Rattle.dcm_base.specs.Tables.Representation.{is_long, pad}
use Rattle.dcm_base.specs.Tree.Value.{order, evened}
use Rattle.dcm_base.specs.Conversion.Recode.{head, even, is_explicit, item_head, item_delimiter, sequence_delimiter, too_long, leaf_head, leaf_bytes, recoded_leaf, recoded_fragment, unless_dropped, recode_set, recode_items}
use Rattle.dcm_base.specs.declared.dictionary.Dictionary.{Dictionary}
use Rattle.dcm_base.specs.Tables.Dictionary.{if_signed}
use Rattle.dcm_base.specs.Tables.Syntax.{read_by, dictionary_of}
use Rattle.dcm_base.specs.Bytes.Spelling.{after, is_one, dictionary_after, sign_after}
use Rattle.dcm_base.specs.declared.dictionary.Dictionary.TheVariants.{Extract, Standard, Signed}
use Rattle.dcm_base.proofs.DataSets.After.{after_same}
use Rattle.dcm_base.specs.Conversion.Normal.{normal_vr, normal_sequence_vr, normal_value, unless_group_length, normal, normal_items}
use Rattle.dcm_base.proofs.Conversions.Order.{order_twice, length-order}

-- ---- sizes

evened_odd : (p : ℕ) (v : List ℕ) (t : Bool) → (length v % 2 == 0) ≡ t → length (if t then v else v ++ p ∷ []) ≡ even (length v)
evened_odd p v true e = let two : length v % 2 ≡ 0 = grind (arith, nat_tests, e) in omega (arith, two)
evened_odd p v false e = let one : length v % 2 ≡ 1 = grind (arith, nat_tests, e) in omega (arith, one, length-append v (p ∷ []))

pub evened_size : (p : ℕ) (v : List ℕ) → length (evened p v) ≡ even (length v)
evened_size p v = evened_odd p v (length v % 2 == 0) refl

pub even_even : (n : ℕ) → even (even n) ≡ even n
even_even n = omega arith

pub evened_same : (p : ℕ) (v : List ℕ) (n : ℕ) → length v ≡ even n → evened p v ≡ v
evened_same p v n e =
    let two : length v % 2 ≡ 0 = omega (arith, e) in
    ap (λ (k : ℕ). if k == 0 then v else v ++ p ∷ []) two

pub leaf_size : (s : Syntax) (vr : Vr) (size : ℕ) (v : List ℕ) → length (leaf_bytes s vr size v) ≡ length v
leaf_size s vr size v = by_test (too_long s vr size)
  where
    by_test : (t : Bool) → length (if t then v else order s vr v) ≡ length v
    by_test true = refl
    by_test false = length-order s vr v

pub normal_size : (s : Syntax) (t : Tag) (vr : Vr) (v : List ℕ) → length (normal_value s t vr v) ≡ even (length v)
normal_size s t vr v =
    length-order s (normal_vr s t vr (length v)) (evened (pad vr) (leaf_bytes s vr (length v) v))
    ∙ evened_size (pad vr) (leaf_bytes s vr (length v) v)
    ∙ ap even (leaf_size s vr (length v) v)

-- ---- leaves

same_size : (s : Syntax) (vr : Vr) (n : ℕ) → too_long s vr (even n) ≡ too_long s vr n
same_size s vr n = ap (λ (k : ℕ). is_explicit s && (not (is_long vr) && nat_lt 65534 k)) (even_even n)

-- the head is the same, and the bytes are, whether the value is too long or not
module _ (s : Syntax) (t : Tag) (vr : Vr) (n : ℕ) where
  head_again : (c : Bool) → too_long s vr n ≡ c → head s t (if too_long s (if c then UN else vr) (even n) then UN else (if c then UN else vr)) (Known (even (even n))) ≡ head s t (if c then UN else vr) (Known (even n))
  head_again true e = unknown (too_long s UN (even n))
    where
      unknown : (d : Bool) → head s t (if d then UN else UN) (Known (even (even n))) ≡ head s t UN (Known (even n))
      unknown true = ap (λ (k : ℕ). head s t UN (Known k)) (even_even n)
      unknown false = ap (λ (k : ℕ). head s t UN (Known k)) (even_even n)
  head_again false e =
      ap (λ (d : Bool). head s t (if d then UN else vr) (Known (even (even n)))) (same_size s vr n ∙ e) ∙ ap (λ (k : ℕ). head s t vr (Known k)) (even_even n)

explicit_same : (s : Syntax) (vr : Vr) (n : ℕ) (u : List ℕ) (c : Bool) → too_long s vr n ≡ c → length u ≡ even n
    → evened (pad (if c then UN else vr)) (leaf_bytes s (if c then UN else vr) (even n) (order s (if c then UN else vr) u)) ≡ u
explicit_same s vr n u true e l = by_test (too_long s UN (even n)) (never s)
  where
    never : (s : Syntax) → too_long s UN (even n) ≡ false
    never (implicit_in d) = refl
    never (little_in d) = refl
    never (big_in d) = refl

    by_test : (d : Bool) → d ≡ false → evened (pad UN) (if d then order s UN u else order s UN (order s UN u)) ≡ u
    by_test true k = absurd (cc)
    by_test false k = ap (evened (pad UN)) (order_twice s UN u) ∙ evened_same (pad UN) u n l
explicit_same s vr n u false e l = by_test (too_long s vr (even n)) (same_size s vr n ∙ e)
  where
    by_test : (d : Bool) → d ≡ false → evened (pad vr) (if d then order s vr u else order s vr (order s vr u)) ≡ u
    by_test true k = absurd (cc)
    by_test false k = ap (evened (pad vr)) (order_twice s vr u) ∙ evened_same (pad vr) u n l

-- a leaf that is written and read is written alike
explicit_again : (s : Syntax) (t : Tag) (vr : Vr) (n m : ℕ) (u : List ℕ) (c : Bool) → too_long s vr n ≡ c → length u ≡ even n → m ≡ even n
    → leaf_head s t (if c then UN else vr) m ++ evened (pad (if c then UN else vr)) (leaf_bytes s (if c then UN else vr) m (order s (if c then UN else vr) u)) ≡ head s t (if c then UN else vr) (Known (even n)) ++ u
explicit_again s t vr n m u c e l k =
    ap (λ (x : ℕ). leaf_head s t (if c then UN else vr) x ++ evened (pad (if c then UN else vr)) (leaf_bytes s (if c then UN else vr) x (order s (if c then UN else vr) u))) k
    ∙ joined_alike (head_again s t vr n c e) (explicit_same s vr n u c e l)

pub leaf_again : (s : Syntax) (t : Tag) (vr : Vr) (v : List ℕ) → recoded_leaf s t (normal_vr s t vr (length v)) (normal_value s t vr v) ≡ recoded_leaf s t vr v
leaf_again (implicit_in d) t vr v =
    let u : List ℕ = evened (pad vr) v in
    let size : length u ≡ even (length v) = evened_size (pad vr) v in
    joined_alike (ap (λ (k : ℕ). head (implicit_in d) t vr (Known (even k))) size ∙ ap (λ (k : ℕ). head (implicit_in d) t vr (Known k)) (even_even (length v))) (evened_same (pad (normal_vr (implicit_in d) t vr (length v))) u (length v) size)
leaf_again (little_in d) t vr v =
    let u : List ℕ = evened (pad vr) (leaf_bytes (little_in d) vr (length v) v) in
    explicit_again (little_in d) t vr (length v) (length (normal_value (little_in d) t vr v)) u (too_long (little_in d) vr (length v)) refl (evened_size (pad vr) (leaf_bytes (little_in d) vr (length v) v) ∙ ap even (leaf_size (little_in d) vr (length v) v)) (normal_size (little_in d) t vr v)
leaf_again (big_in d) t vr v =
    let u : List ℕ = evened (pad vr) (leaf_bytes (big_in d) vr (length v) v) in
    explicit_again (big_in d) t vr (length v) (length (normal_value (big_in d) t vr v)) u (too_long (big_in d) vr (length v)) refl (evened_size (pad vr) (leaf_bytes (big_in d) vr (length v) v) ∙ ap even (leaf_size (big_in d) vr (length v) v)) (normal_size (big_in d) t vr v)

-- ---- fragments

pub fragment_again : (s : Syntax) (v : List ℕ) → recoded_fragment s (evened 0 v) ≡ recoded_fragment s v
fragment_again s v =
    let size : length (evened 0 v) ≡ even (length v) = evened_size 0 v in
    joined_alike (ap (λ (k : ℕ). item_head s (Known (even k))) size ∙ ap (λ (k : ℕ). item_head s (Known k)) (even_even (length v))) (evened_same 0 (evened 0 v) (length v) size)

pub fragments_again : (s : Syntax) (values : List (List ℕ)) → flat_map (recoded_fragment s) (map (evened 0) values) ≡ flat_map (recoded_fragment s) values
fragments_again s [] = refl
fragments_again s (v ∷ values) = joined_alike (fragment_again s v) (fragments_again s values)

-- ---- data sets

sequences_alike : (s : Syntax) (t : Tag) (a b c d : List ℕ) → a ≡ b → c ≡ d
    → unless_dropped t (head s t SQ Undefined ++ a ++ sequence_delimiter s) ++ c ≡ unless_dropped t (head s t SQ Undefined ++ b ++ sequence_delimiter s) ++ d
sequences_alike s t a b c d p q = ap (λ (z : List ℕ). unless_dropped t (head s t SQ Undefined ++ z ++ sequence_delimiter s) ++ c) p ∙ ap (λ (z : List ℕ). unless_dropped t (head s t SQ Undefined ++ b ++ sequence_delimiter s) ++ z) q

item_bytes_alike : (s : Syntax) (a b c d : List ℕ) → a ≡ b → c ≡ d → item_head s Undefined ++ a ++ item_delimiter s ++ c ≡ item_head s Undefined ++ b ++ item_delimiter s ++ d
item_bytes_alike s a b c d p q = ap (λ (z : List ℕ). item_head s Undefined ++ z ++ item_delimiter s ++ c) p ∙ ap (λ (z : List ℕ). item_head s Undefined ++ b ++ item_delimiter s ++ z) q

-- a tree is dropped or stays, as its bytes do
kept_bytes : (s : Syntax) (t : Tag) (tree : Trees → Trees) (x y : List ℕ) (more : Trees) (others : List ℕ) (c : Bool) → (t.element == 0) ≡ c
    → recode_set s (tree more) ≡ unless_dropped t x ++ recode_set s more → x ≡ y → recode_set s more ≡ others
    → recode_set s (if c then more else tree more) ≡ (if c then [] else y) ++ others
kept_bytes s t tree x y more others true e is same rest = rest
kept_bytes s t tree x y more others false e is same rest = is ∙ ap (λ (c : Bool). (if c then [] else x) ++ recode_set s more) e ∙ joined_alike same rest

mutual
  unfolding recode_set

  pub recode_by : (e : Dictionary) (s : Syntax) (x : Trees) → recode_set (read_by e s) x ≡ recode_set s x
  recode_by e s no_tree = refl
  recode_by e (implicit_in d) (leaf t vr v rest) = ap (λ (z : List ℕ). unless_dropped t (recoded_leaf (implicit_in d) t vr v) ++ z) (recode_by e (implicit_in d) rest)
  recode_by e (little_in d) (leaf t vr v rest) = ap (λ (z : List ℕ). unless_dropped t (recoded_leaf (little_in d) t vr v) ++ z) (recode_by e (little_in d) rest)
  recode_by e (big_in d) (leaf t vr v rest) = ap (λ (z : List ℕ). unless_dropped t (recoded_leaf (big_in d) t vr v) ++ z) (recode_by e (big_in d) rest)
  recode_by e (implicit_in d) (sequence t vr size items rest) = sequences_alike (implicit_in d) t _ _ _ _ (items_by e (implicit_in d) items) (recode_by e (implicit_in d) rest)
  recode_by e (little_in d) (sequence t vr size items rest) = sequences_alike (little_in d) t _ _ _ _ (items_by e (little_in d) items) (recode_by e (little_in d) rest)
  recode_by e (big_in d) (sequence t vr size items rest) = sequences_alike (big_in d) t _ _ _ _ (items_by e (big_in d) items) (recode_by e (big_in d) rest)
  recode_by e (implicit_in d) (fragments t vr values rest) = ap (λ (z : List ℕ). unless_dropped t (head (implicit_in d) t vr Undefined ++ flat_map (recoded_fragment (implicit_in d)) values ++ sequence_delimiter (implicit_in d)) ++ z) (recode_by e (implicit_in d) rest)
  recode_by e (little_in d) (fragments t vr values rest) = ap (λ (z : List ℕ). unless_dropped t (head (little_in d) t vr Undefined ++ flat_map (recoded_fragment (little_in d)) values ++ sequence_delimiter (little_in d)) ++ z) (recode_by e (little_in d) rest)
  recode_by e (big_in d) (fragments t vr values rest) = ap (λ (z : List ℕ). unless_dropped t (head (big_in d) t vr Undefined ++ flat_map (recoded_fragment (big_in d)) values ++ sequence_delimiter (big_in d)) ++ z) (recode_by e (big_in d) rest)

  pub items_by : (e : Dictionary) (s : Syntax) (x : Items) → recode_items (read_by e s) x ≡ recode_items s x
  items_by e s no_item = refl
  items_by e (implicit_in d) (item size set rest) = item_bytes_alike (implicit_in d) _ _ _ _ (recode_by e (implicit_in d) set) (items_by e (implicit_in d) rest)
  items_by e (little_in d) (item size set rest) = item_bytes_alike (little_in d) _ _ _ _ (recode_by e (little_in d) set) (items_by e (little_in d) rest)
  items_by e (big_in d) (item size set rest) = item_bytes_alike (big_in d) _ _ _ _ (recode_by e (big_in d) set) (items_by e (big_in d) rest)

-- what is alike in one syntax is so in the other
recode_across : (e : Dictionary) (s : Syntax) (x y : Trees) → recode_set (read_by e s) x ≡ recode_set (read_by e s) y → recode_set s x ≡ recode_set s y
recode_across e s x y h = sym (recode_by e s x) ∙ h ∙ recode_by e s y

mutual
  unfolding normal recode_set

  pub recodes_normal : (s : Syntax) (set : Trees) → recode_set s (normal s set) ≡ recode_set s set
  recodes_normal s no_tree = refl
  recodes_normal s (leaf t vr v rest) =
      kept_bytes s t (leaf t (normal_vr s t vr (length v)) (normal_value s t vr v)) (recoded_leaf s t (normal_vr s t vr (length v)) (normal_value s t vr v)) (recoded_leaf s t vr v) (normal (after s t (normal_vr s t vr (length v)) (normal_value s t vr v)) rest) (recode_set s rest) (t.element == 0) refl
      refl (leaf_again s t vr v)
      (recode_across (dictionary_after (dictionary_of s) t (normal_vr s t vr (length v)) (normal_value s t vr v)) s (normal (after s t (normal_vr s t vr (length v)) (normal_value s t vr v)) rest) rest (recodes_normal (after s t (normal_vr s t vr (length v)) (normal_value s t vr v)) rest))
  recodes_normal s (sequence t vr declared items rest) =
      kept_bytes s t (sequence t (normal_sequence_vr s t) Undefined (normal_items s items)) (head s t SQ Undefined ++ recode_items s (normal_items s items) ++ sequence_delimiter s) (head s t SQ Undefined ++ recode_items s items ++ sequence_delimiter s)
      (normal s rest) (recode_set s rest) (t.element == 0) refl
      refl (ap (λ x. head s t SQ Undefined ++ x ++ sequence_delimiter s) (items_normal s items)) (recodes_normal s rest)
  recodes_normal s (fragments t vr values rest) =
      kept_bytes s t (fragments t vr (map (evened 0) values)) (head s t vr Undefined ++ flat_map (recoded_fragment s) (map (evened 0) values) ++ sequence_delimiter s) (head s t vr Undefined ++ flat_map (recoded_fragment s) values ++ sequence_delimiter s)
      (normal s rest) (recode_set s rest) (t.element == 0) refl
      refl (ap (λ x. head s t vr Undefined ++ x ++ sequence_delimiter s) (fragments_again s values)) (recodes_normal s rest)

  pub items_normal : (s : Syntax) (items : Items) → recode_items s (normal_items s items) ≡ recode_items s items
  items_normal s no_item = refl
  items_normal s (item declared set rest) = joined_alike (ap (λ x. item_head s Undefined ++ x ++ item_delimiter s) (recodes_normal s set)) (items_normal s rest)

-- ---- a normal form has no other

implicit_value : (d : Dictionary) (t : Tag) (vr : Vr) (v : List ℕ) → normal_value (implicit_in d) t (normal_vr (implicit_in d) t vr (length v)) (normal_value (implicit_in d) t vr v) ≡ normal_value (implicit_in d) t vr v
implicit_value d t vr v = evened_same (pad (normal_vr (implicit_in d) t vr (length v))) (evened (pad vr) v) (length v) (evened_size (pad vr) v)

vr_again : (s : Syntax) (vr : Vr) (n : ℕ) (c : Bool) → too_long s vr n ≡ c → (if too_long s (if c then UN else vr) (even n) then UN else (if c then UN else vr)) ≡ (if c then UN else vr)
vr_again s vr n true e = unknown (too_long s UN (even n))
  where
    unknown : (d : Bool) → (if d then UN else UN) ≡ UN
    unknown true = refl
    unknown false = refl
vr_again s vr n false e = ap (λ (d : Bool). if d then UN else vr) (same_size s vr n ∙ e)

-- what a leaf reads back as, once more
pub record Again (s : Syntax) (t : Tag) (vr : Vr) (v : List ℕ) : Type 0 where
  pub vrs : normal_vr s t (normal_vr s t vr (length v)) (length (normal_value s t vr v)) ≡ normal_vr s t vr (length v)
  pub values : normal_value s t (normal_vr s t vr (length v)) (normal_value s t vr v) ≡ normal_value s t vr v

explicit_value : (s : Syntax) (vr w x : Vr) (n m : ℕ) (u : List ℕ) → w ≡ x → m ≡ even n → evened (pad x) (leaf_bytes s x (even n) (order s x u)) ≡ u → order s w (evened (pad x) (leaf_bytes s x m (order s x u))) ≡ order s x u
explicit_value s vr w x n m u e k h = ap (λ (y : Vr). order s y (evened (pad x) (leaf_bytes s x m (order s x u)))) e ∙ ap (λ (j : ℕ). order s x (evened (pad x) (leaf_bytes s x j (order s x u)))) k ∙ ap (order s x) h

pub leaf_once : (s : Syntax) (t : Tag) (vr : Vr) (v : List ℕ) → Again s t vr v
leaf_once (implicit_in d) t vr v = record { vrs = refl; values = implicit_value d t vr v }
leaf_once (little_in d) t vr v =
    let c : Bool = too_long (little_in d) vr (length v) in
    let u : List ℕ = evened (pad vr) (leaf_bytes (little_in d) vr (length v) v) in
    let size : length u ≡ even (length v) = evened_size (pad vr) (leaf_bytes (little_in d) vr (length v) v) ∙ ap even (leaf_size (little_in d) vr (length v) v) in
    let m : length (normal_value (little_in d) t vr v) ≡ even (length v) = normal_size (little_in d) t vr v in
    let vrs = ap (λ (k : ℕ). if too_long (little_in d) (if c then UN else vr) k then UN else (if c then UN else vr)) m ∙ vr_again (little_in d) vr (length v) c refl in
    record { vrs = vrs; values = explicit_value (little_in d) vr _ (if c then UN else vr) (length v) (length (normal_value (little_in d) t vr v)) u vrs m (explicit_same (little_in d) vr (length v) u c refl size) }
leaf_once (big_in d) t vr v =
    let c : Bool = too_long (big_in d) vr (length v) in
    let u : List ℕ = evened (pad vr) (leaf_bytes (big_in d) vr (length v) v) in
    let size : length u ≡ even (length v) = evened_size (pad vr) (leaf_bytes (big_in d) vr (length v) v) ∙ ap even (leaf_size (big_in d) vr (length v) v) in
    let m : length (normal_value (big_in d) t vr v) ≡ even (length v) = normal_size (big_in d) t vr v in
    let vrs = ap (λ (k : ℕ). if too_long (big_in d) (if c then UN else vr) k then UN else (if c then UN else vr)) m ∙ vr_again (big_in d) vr (length v) c refl in
    record { vrs = vrs; values = explicit_value (big_in d) vr _ (if c then UN else vr) (length v) (length (normal_value (big_in d) t vr v)) u vrs m (explicit_same (big_in d) vr (length v) u c refl size) }

fragments_once : (values : List (List ℕ)) → map (evened 0) (map (evened 0) values) ≡ map (evened 0) values
fragments_once [] = refl
fragments_once (v ∷ values) = alike (evened_same 0 (evened 0 v) (length v) (evened_size 0 v)) (fragments_once values)
  where
    alike : {a b : List ℕ} {c d : List (List ℕ)} → a ≡ b → c ≡ d → a ∷ c ≡ b ∷ d
    alike p q = cc

kept_tree : (s s2 : Syntax) (t : Tag) (tree other : Trees → Trees) (more : Trees) (c : Bool) → (t.element == 0) ≡ c → normal s (tree more) ≡ unless_group_length t other (normal s2 more)
    → ((x : Trees) → other x ≡ tree x) → ((t.element == 0) ≡ true → s2 ≡ s) → normal s2 more ≡ more → normal s (if c then more else tree more) ≡ (if c then more else tree more)
kept_tree s s2 t tree other more true e is same own rest = subst (λ (k : Syntax). normal k more ≡ more) (own e) rest
kept_tree s s2 t tree other more false e is same own rest = is ∙ ap (λ (c : Bool). if c then normal s2 more else other (normal s2 more)) e ∙ same (normal s2 more) ∙ ap tree rest

pub own_dictionary : (s : Syntax) → read_by (dictionary_of s) s ≡ s
own_dictionary (implicit_in d) = refl
own_dictionary (little_in d) = refl
own_dictionary (big_in d) = refl

zero_is_other : (n : ℕ) → (n == 0) ≡ true → (n == 0x103) ≡ false
zero_is_other n e = subst (λ (k : ℕ). (k == 0x103) ≡ false) (sym (eqb-true n 0 e)) refl

sign_dropped : (d : Dictionary) (t : Tag) (v : Vr) (x : List ℕ) → (t.element == 0) ≡ true → sign_after d t v x ≡ d
unfolding sign_after
sign_dropped d t v x e =
    ap (λ (b : Bool). if both_hold (t.group == 0x28) b then if_signed (is_one v x) d else d) (zero_is_other t.element e)
    ∙ ap (λ (b : Bool). if b then if_signed (is_one v x) d else d) (never (t.group == 0x28))
  where
    both_hold : Bool → Bool → Bool
    both_hold a b = a && b

    never : (a : Bool) → (a && false) ≡ false
    never true = refl
    never false = refl

-- the length of a group says no sign
dropped_dictionary : (d : Dictionary) (t : Tag) (v : Vr) (x : List ℕ) → (t.element == 0) ≡ true → dictionary_after d t v x ≡ d
dropped_dictionary Extract t v x e = refl
dropped_dictionary Standard t v x e = sign_dropped Standard t v x e
dropped_dictionary Signed t v x e = sign_dropped Signed t v x e

pub dropped_own : (s : Syntax) (t : Tag) (v : Vr) (x : List ℕ) → (t.element == 0) ≡ true → after s t v x ≡ s
dropped_own s t v x e = ap (λ (d : Dictionary). read_by d s) (dropped_dictionary (dictionary_of s) t v x e) ∙ own_dictionary s

leaves_alike : (t : Tag) (v w : Vr) (x y : List ℕ) (more : Trees) → v ≡ w → x ≡ y → leaf t v x more ≡ leaf t w y more
leaves_alike t v w x y more p q = cc

pub items_alike : (a b : Trees) (c d : Items) → a ≡ b → c ≡ d → item Undefined a c ≡ item Undefined b d
items_alike a b c d p q = cc

mutual
  unfolding normal

  pub normal_once : (s : Syntax) (set : Trees) → normal s (normal s set) ≡ normal s set
  normal_once s no_tree = refl
  normal_once s (leaf t vr v rest) =
      let w : Vr = normal_vr s t vr (length v) in
      let x : List ℕ = normal_value s t vr v in
      let again = leaf_once s t vr v in
      let s2 : Syntax = after s t w x in
      let same : after s t (normal_vr s t w (length x)) (normal_value s t w x) ≡ s2 = after_same s t t _ w _ x [] [] (refl, again.vrs, again.values, refl) in
      kept_tree s s2 t (leaf t w x) (leaf t (normal_vr s t w (length x)) (normal_value s t w x)) (normal s2 rest) (t.element == 0) refl
      (ap (λ (k : Syntax). unless_group_length t (leaf t (normal_vr s t w (length x)) (normal_value s t w x)) (normal k (normal s2 rest))) same)
      (λ more. leaves_alike t (normal_vr s t w (length x)) w (normal_value s t w x) x more again.vrs again.values) (dropped_own s t w x) (normal_once s2 rest)
  normal_once s (sequence t vr declared items rest) =
      kept_tree s s t (sequence t (normal_sequence_vr s t) Undefined (normal_items s items)) (sequence t (normal_sequence_vr s t) Undefined (normal_items s (normal_items s items))) (normal s rest) (t.element == 0) refl refl
      (λ more. ap (λ (x : Items). sequence t (normal_sequence_vr s t) Undefined x more) (items_once s items)) (λ e. refl) (normal_once s rest)
  normal_once s (fragments t vr values rest) =
      kept_tree s s t (fragments t vr (map (evened 0) values)) (fragments t vr (map (evened 0) (map (evened 0) values))) (normal s rest) (t.element == 0) refl refl
      (λ more. ap (λ (x : List (List ℕ)). fragments t vr x more) (fragments_once values)) (λ e. refl) (normal_once s rest)

  pub items_once : (s : Syntax) (items : Items) → normal_items s (normal_items s items) ≡ normal_items s items
  items_once s no_item = refl
  items_once s (item declared set rest) = items_alike _ _ _ _ (normal_once s set) (items_once s rest)
