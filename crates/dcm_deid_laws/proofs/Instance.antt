-- The instance that is named in what is read back.
use Rattle.std.proofs.Common.{◌≡◌, ◌∙◌, ap, sym, refl, ℕ, ◌≤◌, List, [], ◌∷◌, length, Bool, true, false, Option, Some, ◌⊎◌, inl, inr, ◌==◌, if◌then◌else◌}
use Rattle.dcm_base.specs.declared.dictionary.Dictionary.{Dictionary}
use Rattle.dcm_base.specs.declared.syntax.Syntax.{Syntax}
use Rattle.dcm_base.specs.declared.syntax.Syntax.TheVariants.{Implicit as implicit_in, Little as little_in, Big as big_in}
use Rattle.dcm_base.specs.declared.tag.Tag.{Tag}
use Rattle.dcm_base.specs.declared.vr.Vr.{Vr}
use Rattle.dcm_base.specs.declared.vr.Vr.TheVariants.{UI}
use Rattle.dcm_base.specs.Bytes.Spelling.{after, dictionary_after}
use Rattle.dcm_base.specs.Conversion.NewMeta.{with_syntax, without_syntax}
use Rattle.dcm_base.specs.Conversion.Normal.{normal, normal_value, normal_vr}
use Rattle.dcm_base.specs.Conversion.Recode.{even, too_long}
use Rattle.dcm_base.specs.Tables.Representation.{pad}
use Rattle.dcm_base.specs.Tables.Syntax.{Little, dictionary_of, is_big, read_by}
use Rattle.dcm_base.specs.Tables.Tag.{below, is_tag, same_tag}
use Rattle.dcm_base.specs.Tables.Transfer.{without_pads}
use Rattle.dcm_base.specs.Tree.Tree.{Trees, no_tree, leaf, sequence, fragments, Items, then_trees}
use Rattle.dcm_base.specs.Tree.Value.{evened, order}
use Rattle.dcm_base.proofs.Conversions.NormalForm.{evened_same, evened_size}
use Rattle.dcm_base.proofs.Conversions.Order.{length-order, order_twice}
use Rattle.dcm_base.proofs.Dictionaries.TagOrder.{tag_is}
use Rattle.dcm_sinks.specs.MetaAgain.{elements_again}
use Rattle.dcm_deid.specs.declared.fate.NewValue.TheVariants.{Uid}
use Rattle.dcm_deid.specs.declared.fate.Fate.{Fate}
use Rattle.dcm_deid.specs.declared.fate.Fate.TheVariants.{Remove, Empty, Replace, Anew, Keep}
use Rattle.dcm_deid.specs.declared.fate.Options.{Options}
use Rattle.dcm_deid.specs.declared.fate.Depth.TheVariants.{Outermost}
use Rattle.dcm_deid.specs.declared.fate.ReadAs.TheVariants.{AsBytes, AsItems}
use Rattle.dcm_deid.specs.Fate.{fate_as}
use Rattle.dcm_deid.specs.Deidentify.{value_by, leaf_by, sequence_by, fragments_by, deidentified_set}
use Rattle.dcm_deid.specs.MadeNew.{made_new}
use Rattle.dcm_deid.specs.Saying.{put_in, said, tag_at}
use Rattle.dcm_deid.specs.Uids.{unpadded}
use Rattle.dcm_deid.proofs.Trees.Instances.{own_fate, without_pad}
use Rattle.dcm_deid.proofs.Trees.Said.{set_with, set_with_all}
use Rattle.dcm_deid_laws.proofs.Clean.{short_value}
use Rattle.dcm_deid_laws.proofs.Ready.{renamed_short}

-- ---- in a data set

abbrev own : Tag
own = tag_at 0x0008 0x0018

-- the bytes of a short value of even length are written as they are, but for padding
written_pads : (s : Syntax) (t : Tag) (vr : Vr) (u : List ℕ) (n : ℕ) → length u ≡ even n → length u ≤ 256 → without_pads (normal_value s t vr u) ≡ without_pads u
written_pads (implicit_in d) t vr u n e h = without_pad vr u
written_pads (little_in d) t vr u n e h = ap without_pads (short_value (little_in d) t vr u h tt) ∙ without_pad vr u
written_pads (big_in d) t vr u n e h =
    let s : Syntax = big_in d in
    ap without_pads (short_value s t vr u h tt ∙ ap (order s vr) (evened_same (pad vr) (order s vr u) n (length-order s vr u ∙ e)) ∙ order_twice s vr u)

-- so is the instance
abbrev IsShort : List ℕ → Type 0
IsShort v = (n : ℕ) × (length v ≡ even n) × (length v ≤ 256)

abbrev NamesShort : Trees → Type 0
NamesShort no_tree = Unit {0}
NamesShort (leaf t vr v rest) = (same_tag t own ≡ true → IsShort v) × NamesShort rest
NamesShort (sequence t vr declared items rest) = NamesShort rest
NamesShort (fragments t vr parts rest) = NamesShort rest

stays_there : (t : Tag) → same_tag t own ≡ true → (t.element == 0) ≡ false
stays_there t e = ap (λ (x : Tag). x.element == 0) (tag_is t own e)

own_if : (c : Bool) (x y : Trees) (u : Option (List ℕ)) → unpadded own x ≡ u → unpadded own y ≡ u → unpadded own (if c then x else y) ≡ u
own_if true x y u h k = h
own_if false x y u h k = k

dropped_or : (c : Bool) (x : Trees) (tree : Trees → Trees) (u : Option (List ℕ)) → unpadded own x ≡ u → ((r : Trees) → unpadded own (tree r) ≡ unpadded own r) → unpadded own (if c then x else tree x) ≡ u
dropped_or true x tree u e h = e
dropped_or false x tree u e h = h x ∙ e

leaf_names : (s : Syntax) (t : Tag) (vr : Vr) (v : List ℕ) (rest : Trees) (c : Bool) → same_tag t own ≡ c → (same_tag t own ≡ true → without_pads (normal_value s t vr v) ≡ without_pads v)
    → unpadded own (normal (after s t (normal_vr s t vr (length v)) (normal_value s t vr v)) rest) ≡ unpadded own rest → unpadded own (normal s (leaf t vr v rest)) ≡ (if c then Some (without_pads v) else unpadded own rest)
unfolding normal
leaf_names s t vr v rest true e same more =
    let w : Vr = normal_vr s t vr (length v) in
    let x : List ℕ = normal_value s t vr v in
    let r : Trees = normal (after s t w x) rest in
    ap (λ (b : Bool). unpadded own (if b then r else leaf t w x r)) (stays_there t e) ∙ ap (λ (b : Bool). if b then Some (without_pads x) else unpadded own r) e
    ∙ ap (λ (y : List ℕ). Some y) (same e)
leaf_names s t vr v rest false e same more =
    let w : Vr = normal_vr s t vr (length v) in
    let x : List ℕ = normal_value s t vr v in
    dropped_or (t.element == 0) (normal (after s t w x) rest) (leaf t w x) (unpadded own rest) more (λ r. ap (λ (b : Bool). if b then Some (without_pads x) else unpadded own r) e)

pub normal_names : (s : Syntax) (x : Trees) → NamesShort x → unpadded own (normal s x) ≡ unpadded own x
unfolding normal
normal_names s no_tree h = refl
normal_names s (leaf t vr v rest) h =
    leaf_names s t vr v rest (same_tag t own) refl (λ e. let k = h.0 e in written_pads s t vr v k.0 k.1 k.2) (normal_names (after s t (normal_vr s t vr (length v)) (normal_value s t vr v)) rest h.1)
normal_names s (sequence t vr declared items rest) h = own_if (t.element == 0) _ _ (unpadded own rest) (normal_names s rest h) (normal_names s rest h)
normal_names s (fragments t vr parts rest) h = own_if (t.element == 0) _ _ (unpadded own rest) (normal_names s rest h) (normal_names s rest h)

-- in little endian any value is, but for padding
either : (c : Bool) (v : List ℕ) → (if c then v else v) ≡ v
either true v = refl
either false v = refl

little_value : (d : Dictionary) (t : Tag) (vr : Vr) (v : List ℕ) → without_pads (normal_value (little_in d) t vr v) ≡ without_pads v
little_value d t vr v = ap (λ (y : List ℕ). without_pads (evened (pad vr) y)) (either (too_long (little_in d) vr (length v)) v) ∙ without_pad vr v

little_pads : (s : Syntax) → is_big s ≡ false → (t : Tag) (vr : Vr) (v : List ℕ) → without_pads (normal_value s t vr v) ≡ without_pads v
little_pads (implicit_in d) is t vr v = without_pad vr v
little_pads (little_in d) is t vr v = little_value d t vr v
little_pads (big_in d) is t vr v = absurd (let no : true ≡ false = is in cc)

pub big_by : (d : Dictionary) (s : Syntax) → is_big (read_by d s) ≡ is_big s
big_by d (implicit_in e) = refl
big_by d (little_in e) = refl
big_by d (big_in e) = refl

big_after : (s : Syntax) (t : Tag) (vr : Vr) (v : List ℕ) → is_big s ≡ false → is_big (after s t vr v) ≡ false
big_after s t vr v is = big_by (dictionary_after (dictionary_of s) t vr v) s ∙ is

little_names : (s : Syntax) (x : Trees) → is_big s ≡ false → unpadded own (normal s x) ≡ unpadded own x
unfolding normal
little_names s no_tree is = refl
little_names s (leaf t vr v rest) is =
    leaf_names s t vr v rest (same_tag t own) refl (λ e. little_pads s is t vr v)
    (little_names (after s t (normal_vr s t vr (length v)) (normal_value s t vr v)) rest (big_after s t (normal_vr s t vr (length v)) (normal_value s t vr v) is))
little_names s (sequence t vr declared items rest) is = own_if (t.element == 0) _ _ (unpadded own rest) (little_names s rest is) (little_names s rest is)
little_names s (fragments t vr parts rest) is = own_if (t.element == 0) _ _ (unpadded own rest) (little_names s rest is) (little_names s rest is)

module _ (options : Options) (key : List ℕ) (new : options.uids ≡ false) where
  abbrev left : Trees → Trees
  left x = deidentified_set options (made_new options key) Outermost x

  own_new : (t : Tag) → same_tag t own ≡ true → fate_as options Outermost AsBytes t ≡ Anew Uid
  own_new t e = ap (fate_as options Outermost AsBytes) (tag_is t own e) ∙ own_fate options ∙ ap (λ (b : Bool). if b then Keep else Anew Uid) new

  leaf_left : (fate : Fate) (t : Tag) (vr : Vr) (v : List ℕ) (rest : Trees) → fate_as options Outermost AsBytes t ≡ fate → NamesShort rest → NamesShort (leaf_by fate t vr (value_by (made_new options key) fate vr v) rest)
  leaf_left Remove t vr v rest e h = h
  leaf_left Empty t vr v rest e h = (λ same. absurd (let no : Empty ≡ Anew Uid = sym e ∙ own_new t same in cc), h)
  leaf_left Replace t vr v rest e h = (λ same. absurd (let no : Replace ≡ Anew Uid = sym e ∙ own_new t same in cc), h)
  leaf_left (Anew made) t vr v rest e h =
      (λ same. (length (made_new options key made (without_pads v)), evened_size (pad vr) (made_new options key made (without_pads v)), renamed_short options key made vr (without_pads v)), h)
  leaf_left Keep t vr v rest e h = (λ same. absurd (let no : Keep ≡ Anew Uid = sym e ∙ own_new t same in cc), h)

  sequence_left : (fate : Fate) (t : Tag) (vr : Vr) (items : Items) (rest : Trees) → NamesShort rest → NamesShort (sequence_by fate t vr items rest)
  sequence_left Remove t vr items rest h = h
  sequence_left Empty t vr items rest h = h
  sequence_left Replace t vr items rest h = h
  sequence_left (Anew made) t vr items rest h = h
  sequence_left Keep t vr items rest h = h

  fragments_left : (fate : Fate) (t : Tag) (vr : Vr) (parts : List (List ℕ)) (rest : Trees) → NamesShort rest → NamesShort (fragments_by fate t vr parts rest)
  fragments_left Remove t vr parts rest h = h
  fragments_left Empty t vr parts rest h = h
  fragments_left Replace t vr parts rest h = h
  fragments_left (Anew made) t vr parts rest h = h
  fragments_left Keep t vr parts rest h = h

  left_names : (x : Trees) → NamesShort (left x)
  left_names no_tree = tt
  left_names (leaf t vr v rest) = leaf_left (fate_as options Outermost AsBytes t) t vr v (left rest) refl (left_names rest)
  left_names (sequence t vr declared items rest) = sequence_left (fate_as options Outermost AsItems t) t vr _ (left rest) (left_names rest)
  left_names (fragments t vr parts rest) = fragments_left (fate_as options Outermost AsBytes t) t vr parts (left rest) (left_names rest)

  names_if : (c : Bool) (x y : Trees) → NamesShort x → NamesShort y → NamesShort (if c then x else y)
  names_if true x y h k = h
  names_if false x y h k = k

  abbrev NamesNone : Trees → Type 0
  NamesNone e = (x : Trees) → NamesShort x → NamesShort (then_trees e x)

  put_names : (t : Tag) (e x : Trees) → NamesNone e → NamesShort e → NamesShort x → NamesShort (put_in t e x)
  put_names t e no_tree none k h = k
  put_names t e (leaf u vr v rest) none k h = names_if (below t u) _ _ (none (leaf u vr v rest) h) (h.0, put_names t e rest none k h.1)
  put_names t e (sequence u vr declared items rest) none k h = names_if (below t u) _ _ (none (sequence u vr declared items rest) h) (put_names t e rest none k h)
  put_names t e (fragments u vr parts rest) none k h = names_if (below t u) _ _ (none (fragments u vr parts rest) h) (put_names t e rest none k h)

  abbrev NameNone : List (Tag × Trees) → Type 0
  NameNone [] = Unit {0}
  NameNone (new ∷ news) = NamesNone new.1 × NamesShort new.1 × NameNone news

  all_names : (news : List (Tag × Trees)) (x : Trees) → NameNone news → NamesShort x → NamesShort (set_with_all news x)
  all_names [] x k h = h
  all_names (new ∷ news) x k h = all_names news (set_with new x) k.2 (names_if _ x (put_in new.0 new.1 x) h (put_names new.0 new.1 x k.0 k.1 h))

  said_none : NameNone (said options)
  said_none =
      (λ x h. (λ same. absurd (cc), h), (λ same. absurd (cc), tt), (λ x h. (λ same. absurd (cc), h), (λ same. absurd (cc), tt), (λ x h. h, tt, (λ x h. (λ same. absurd (cc), h), (λ same. absurd (cc), tt), tt))))

  all_left_names : (s : Syntax) (x : Trees) → unpadded own (normal s (set_with_all (said options) (left x))) ≡ unpadded own (set_with_all (said options) (left x))
  all_left_names s x = normal_names s (set_with_all (said options) (left x)) (all_names (said options) (left x) said_none (left_names x))

-- where unique identifiers are replaced, or the syntax is not big endian
pub written_names : (options : Options) (key : List ℕ) (s : Syntax) (x : Trees) → (options.uids ≡ false) ⊎ (is_big s ≡ false)
    → unpadded own (normal s (set_with_all (said options) (deidentified_set options (made_new options key) Outermost x))) ≡ unpadded own (set_with_all (said options) (deidentified_set options (made_new options key) Outermost x))
written_names options key s x (inl new) = all_left_names options key new s x
written_names options key s x (inr little) = little_names s (set_with_all (said options) (deidentified_set options (made_new options key) Outermost x)) little

-- ---- in the head of a file

abbrev instance : Tag
instance = tag_at 0x0002 0x0003

head_if : (c : Bool) (x y : Trees) (u : Option (List ℕ)) → unpadded instance x ≡ u → unpadded instance y ≡ u → unpadded instance (if c then x else y) ≡ u
head_if true x y u h k = h
head_if false x y u h k = k

named_syntax : (t : Tag) (b : Bool) → same_tag t instance ≡ b → is_tag 2 0x10 t ≡ true → b ≡ false
named_syntax t true e at = absurd (let no : is_tag 2 0x10 instance ≡ true = sym (ap (is_tag 2 0x10) (tag_is t instance e)) ∙ at in cc)
named_syntax t false e at = refl

module _ (t : Tag) (vr : Vr) (v : List ℕ) (rest : Trees) where
  -- the leaf that names the transfer syntax names no instance
  dropped_leaf : is_tag 2 0x10 t ≡ true → (w : Vr) (x : List ℕ) (r : Trees) → unpadded instance (leaf t w x r) ≡ unpadded instance r
  dropped_leaf e w x r = ap (λ (b : Bool). if b then Some (without_pads x) else unpadded instance r) (named_syntax t (same_tag t instance) refl e)

  kept_leaf : (r : Trees) → unpadded instance r ≡ unpadded instance rest → unpadded instance (leaf t vr v r) ≡ unpadded instance (leaf t vr v rest)
  kept_leaf r e = ap (λ (u : Option (List ℕ)). if same_tag t instance then Some (without_pads v) else u) e

  without_leaf : (c : Bool) (r : Trees) → is_tag 2 0x10 t ≡ c → unpadded instance r ≡ unpadded instance rest → unpadded instance (if c then r else leaf t vr v r) ≡ unpadded instance (leaf t vr v rest)
  without_leaf true r e h = h ∙ sym (dropped_leaf e vr v rest)
  without_leaf false r e h = kept_leaf r h

  with_leaf : (c : Bool) (w : Vr) (uid : List ℕ) (q r : Trees) → is_tag 2 0x10 t ≡ c → unpadded instance q ≡ unpadded instance rest → unpadded instance r ≡ unpadded instance rest
      → unpadded instance (if c then leaf t w uid q else leaf t vr v r) ≡ unpadded instance (leaf t vr v rest)
  with_leaf true w uid q r e h k = dropped_leaf e w uid q ∙ h ∙ sym (dropped_leaf e vr v rest)
  with_leaf false w uid q r e h k = kept_leaf r k

head_without : (x : Trees) → unpadded instance (without_syntax x) ≡ unpadded instance x
head_without no_tree = refl
head_without (leaf t vr v rest) = without_leaf t vr v rest (is_tag 2 0x10 t) (without_syntax rest) refl (head_without rest)
head_without (sequence t vr declared items rest) = head_without rest
head_without (fragments t vr values rest) = head_without rest

head_with : (uid : List ℕ) (x : Trees) → unpadded instance (with_syntax uid x) ≡ unpadded instance x
head_with uid no_tree = refl
head_with uid (leaf t vr v rest) = with_leaf t vr v rest (is_tag 2 0x10 t) UI uid (without_syntax rest) (with_syntax uid rest) refl (head_without rest) (head_with uid rest)
head_with uid (sequence t vr declared items rest) = head_with uid rest
head_with uid (fragments t vr values rest) = head_with uid rest

head_pads : (t : Tag) (vr : Vr) (v : List ℕ) → without_pads (normal_value Little t vr v) ≡ without_pads v
head_pads t vr v = little_pads Little refl t vr v

head_stays : (t : Tag) → same_tag t instance ≡ true → (t.element == 0) ≡ false
head_stays t e = ap (λ (x : Tag). x.element == 0) (tag_is t instance e)

head_leaf : (t : Tag) (vr w : Vr) (v x : List ℕ) (rest r : Trees) (c : Bool) → same_tag t instance ≡ c → without_pads x ≡ without_pads v → unpadded instance r ≡ unpadded instance rest
    → unpadded instance (if t.element == 0 then r else leaf t w x r) ≡ (if c then Some (without_pads v) else unpadded instance rest)
head_leaf t vr w v x rest r true e same more =
    ap (λ (b : Bool). unpadded instance (if b then r else leaf t w x r)) (head_stays t e) ∙ ap (λ (b : Bool). if b then Some (without_pads x) else unpadded instance r) e ∙ ap (λ (y : List ℕ). Some y) same
head_leaf t vr w v x rest r false e same more =
    head_if (t.element == 0) r (leaf t w x r) (unpadded instance rest) more (ap (λ (b : Bool). if b then Some (without_pads x) else unpadded instance r) e ∙ more)

head_normal : (x : Trees) → unpadded instance (normal Little x) ≡ unpadded instance x
unfolding normal
head_normal no_tree = refl
head_normal (leaf t vr v rest) =
    head_leaf t vr (normal_vr Little t vr (length v)) v (normal_value Little t vr v) rest (normal Little rest) (same_tag t instance) refl (head_pads t vr v) (head_normal rest)
head_normal (sequence t vr declared items rest) = head_if (t.element == 0) _ _ (unpadded instance rest) (head_normal rest) (head_normal rest)
head_normal (fragments t vr values rest) = head_if (t.element == 0) _ _ (unpadded instance rest) (head_normal rest) (head_normal rest)

pub head_again : (uid : List ℕ) (x : Trees) → unpadded instance (elements_again x uid) ≡ unpadded instance x
head_again uid x = head_normal (with_syntax uid x) ∙ head_with uid x
