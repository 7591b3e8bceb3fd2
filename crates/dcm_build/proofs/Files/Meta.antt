-- The bytes of a meta group that is built, and the elements that they spell.
use Rattle.std.proofs.Common.{◌≡◌, ◌∙◌, ap, sym, refl, subst, ℕ, zero, suc, ◌+◌, ◌-◌, ◌≤◌, ◌<◌, nat_lt, Option, Result, replicate, List, [], ◌∷◌, ◌++◌, length, take, drop, cond, Bool, true, false, arith}
use Rattle.std.specs.Prelude.{IsErr}
use Rattle.std.specs.Io.KnownBytes.{append_known}
use Rattle.std.proofs.lemmas.Bool.Decides.{nat_tests}
use Rattle.std.proofs.lemmas.List.{append-nil, take_at, drop_at, drop-drop}
use Rattle.dcm_base.specs.declared.tag.Tag.{Tag}
use Rattle.dcm_base.specs.declared.vr.Vr.{Vr}
use Rattle.dcm_base.specs.Tables.Syntax.{Little}
use Rattle.dcm_base.specs.declared.length.Length.TheVariants.{Known}
use Rattle.dcm_base.specs.declared.form.Form.TheVariants.{Value as a_value}
use Rattle.dcm_base.specs.Lines.Build.{named_syntax}
use Rattle.dcm_devices.specs.Device.{Puts, AppendsFront}
use Rattle.dcm_base.specs.Bytes.Head.{ElementHead, head_size}
use Rattle.dcm_base.specs.File.MetaGroup.{GroupPlace, an_element, the_end, too_few, a_fault, group_place, AreMeta}
use Rattle.dcm_base.specs.File.MetaReads.{PREFIX, syntax_value}
use Rattle.dcm_base.specs.Conversion.NewMeta.{new_meta}
use Rattle.dcm_base.specs.Tables.Number.{IsTag}
use Rattle.dcm_base.specs.Conversion.Recode.{head}
use Rattle.dcm_base.specs.Reading.Size.{trees_size}
use Rattle.dcm_base.specs.Bytes.Spelling.{form, TreesAt, Spells}
use Rattle.dcm_base.specs.Tables.Tag.{is_tag}
use Rattle.dcm_base.specs.Tree.Tree.{Trees, no_tree, leaf, sequence, fragments, then_trees}
use Rattle.dcm_base.proofs.DataSets.Extend.{element_extends, trees_extend}
use Rattle.dcm_base.proofs.DataSets.Heads.{eight_le_head_size}
use Rattle.dcm_base.proofs.DataSets.Path.{trees_then_at}
use Rattle.dcm_devices.proofs.Writes.Puts.{puts_behind, puts_err, front_longer}
use Rattle.dcm_base.proofs.DataSets.Sizes.{element_takes, trees_take}
use Rattle.dcm_head.specs.Rewriting.{FirstIs, NoneIs, OfElements}
use Rattle.dcm_head.proofs.MetaGroups.Elements.{element_is}
use Rattle.dcm_head.proofs.Heads.Written.{element_spelled}
use Rattle.dcm_head.proofs.MetaGroups.OneGroup.{LeafAt, first_leaf, leaf_is, leaf_size, empty_spelled}
use Rattle.dcm_build.specs.NewGroup.{Shown, shown, trees_of, elements_by, elements_of, IsGroup}
use Rattle.dcm_base.proofs.DataSets.After.{after_little}
use Rattle.dcm_base.specs.declared.syntax.Syntax.{Syntax}

-- ---- one element more

abbrev with_leaf : Trees → Tag → Vr → List ℕ → Trees
with_leaf meta tag vr v = then_trees meta (leaf tag vr v no_tree)

pub one_shown : (meta : Trees) (tag : Tag) (vr : Vr) (v : List ℕ) → trees_size Little (with_leaf meta tag vr v) ≡ trees_size Little meta + (head_size Little vr + length v)
unfolding trees_size
one_shown no_tree tag vr v = omega arith
one_shown (leaf t r w rest) tag vr v = let i = one_shown rest tag vr v in omega (arith, i)
one_shown (sequence t r declared items rest) tag vr v = let i = one_shown rest tag vr v in omega (arith, i)
one_shown (fragments t r values rest) tag vr v = let i = one_shown rest tag vr v in omega (arith, i)

meta_more : (meta : Trees) (tag : Tag) (vr : Vr) (v : List ℕ) → AreMeta meta → tag.group ≡ 2 → AreMeta (with_leaf meta tag vr v)
unfolding AreMeta
meta_more no_tree tag vr v m g = (g, tt)
meta_more (leaf t r w rest) tag vr v m g = (m.0, meta_more rest tag vr v m.1 g)
meta_more (sequence t r declared items rest) tag vr v m g = absurd m
meta_more (fragments t r values rest) tag vr v m g = absurd m

alone : (tag : Tag) (vr : Vr) (v own : List ℕ) → LeafAt tag vr v own [] → Spells Little (leaf tag vr v no_tree) own
unfolding TreesAt
alone tag vr v own l = ([], l.formed, l.head, refl)

spelled_more : (meta : Trees) (bytes own : List ℕ) (tag : Tag) (vr : Vr) (v : List ℕ) → Spells Little meta bytes → LeafAt tag vr v own [] → Spells Little (with_leaf meta tag vr v) (bytes ++ own)
spelled_more meta bytes own tag vr v s l = trees_then_at Little meta (leaf tag vr v no_tree) (bytes ++ own) own [] (trees_extend Little meta bytes [] own s) (subst (λ (k : Syntax). TreesAt k (leaf tag vr v no_tree) own []) (sym (after_little meta)) (alone tag vr v own l))

-- an element with the true length of its value
head_at : (tag : Tag) (vr : Vr) (n : ℕ) → IsTag tag → tag.group ≡ 2 → n < 65536 → ElementHead Little tag vr (Known n) (head Little tag vr (Known n)) []
head_at tag vr n is g short = record { no_item = λ h. omega (arith, h, g); head = element_spelled Little tag vr (Known n) is tt (λ k. short) (λ k. omega (arith, short)) }

element_at : (tag : Tag) (vr : Vr) (v : List ℕ) → IsTag tag → tag.group ≡ 2 → length v < 65536 → form Little vr (Known (length v)) ≡ a_value → LeafAt tag vr v (head Little tag vr (Known (length v)) ++ v) []
element_at tag vr v is g short f = record {
  formed = f;
  head = subst (ElementHead Little tag vr (Known (length v)) (head Little tag vr (Known (length v)) ++ v)) (sym (append-nil v))
      (element_extends Little tag vr (Known (length v)) (head Little tag vr (Known (length v))) [] v (head_at tag vr (length v) is g short));
}

pub trees_more : (meta : List Shown) (tag : Tag) (vr : Vr) (v : List ℕ) → trees_of (meta ++ shown tag vr v ∷ []) ≡ with_leaf (trees_of meta) tag vr v
trees_more [] tag vr v = refl
trees_more (s ∷ more) tag vr v = ap (λ (x : Trees). leaf s.tag s.vr s.value x) (trees_more more tag vr v)

-- ---- bytes are read as the elements that they spell

none_read : (n : ℕ) → elements_by n [] ≡ []
unfolding elements_by group_place
none_read zero = refl
none_read (suc n) = refl

read_at : ℕ → List ℕ → GroupPlace → List Shown
read_at n bytes place = elim place [
  | an_element tag vr head size ↦ shown tag vr (take size (drop head bytes)) ∷ elements_by n (drop (head + size) bytes)
  | the_end ↦ []
  | too_few ↦ []
  | a_fault fault ↦ []
]

one_read : (n : ℕ) (bytes others : List ℕ) (tag : Tag) (vr : Vr) (v : List ℕ) (rest : List Shown) → group_place 0 bytes ≡ an_element tag vr (head_size Little vr) (length v) → LeafAt tag vr v bytes others → elements_by n others ≡ rest
    → elements_by (suc n) bytes ≡ shown tag vr v ∷ rest
unfolding elements_by read_at
one_read n bytes others tag vr v rest is l more =
    let value : take (length v) (drop (head_size Little vr) bytes) ≡ v = ap (take (length v)) (sym l.head.after_is) ∙ take_at v others (length v) refl in
    let after : drop (head_size Little vr + length v) bytes ≡ others = sym (drop-drop (length v) (head_size Little vr) bytes) ∙ ap (drop (length v)) (sym l.head.after_is) ∙ drop_at v others (length v) refl in
    ap (λ (p : GroupPlace). read_at n bytes p) is
    ∙ ap (λ (x : List ℕ). shown tag vr x ∷ elements_by n (drop (head_size Little vr + length v) bytes)) value
    ∙ ap (λ (x : List ℕ). shown tag vr v ∷ elements_by n x) after
    ∙ ap (λ (x : List Shown). shown tag vr v ∷ x) more

read_back : (meta : List Shown) (n : ℕ) (bytes : List ℕ) → length bytes ≤ n → length bytes ≤ 16384 → Spells Little (trees_of meta) bytes → AreMeta (trees_of meta) → elements_by n bytes ≡ meta
unfolding AreMeta
read_back [] n bytes room le s m = ap (λ (x : List ℕ). elements_by n x) (empty_spelled bytes [] s) ∙ none_read n
read_back (x ∷ more) zero bytes room le s m =
    let f = first_leaf x.tag x.vr x.value (trees_of more) bytes [] s in
    let size = leaf_size x.tag x.vr x.value bytes f.0 f.1 in
    let eight = eight_le_head_size Little x.vr in
    absurd (omega (arith, size, eight, room))
read_back (x ∷ more) (suc n) bytes room le s m =
    let f = first_leaf x.tag x.vr x.value (trees_of more) bytes [] s in
    let size = leaf_size x.tag x.vr x.value bytes f.0 f.1 in
    let eight = eight_le_head_size Little x.vr in
    one_read n bytes f.0 x.tag x.vr x.value more
    (element_is 0 bytes x.tag x.vr (head_size Little x.vr) (length x.value) (leaf_is 0 x.tag x.vr x.value bytes f.0 f.1 m.0 (omega (arith, size, le))))
    f.1
    (read_back more n f.0 (omega (arith, size, eight, room)) (omega (arith, size, le)) f.2 m.1)

group_read : (meta : List Shown) (bytes : List ℕ) → length bytes ≤ 16384 → Spells Little (trees_of meta) bytes → AreMeta (trees_of meta) → elements_of bytes ≡ meta
group_read meta bytes le s m = read_back meta (length bytes) bytes (omega arith) le s m

group_of : (meta : List Shown) (bytes : List ℕ) → length bytes ≤ 16384 → Spells Little (trees_of meta) bytes → AreMeta (trees_of meta) → IsGroup bytes
group_of meta bytes le s m = record {
  spelled = subst (λ (x : List Shown). Spells Little (trees_of x) bytes) (sym (group_read meta bytes le s m)) s;
  meta = subst (λ (x : List Shown). AreMeta (trees_of x)) (sym (group_read meta bytes le s m)) m;
}

-- ---- a group

pub group_size : (bytes : List ℕ) → IsGroup bytes → length bytes ≡ trees_size Little (trees_of (elements_of bytes))
group_size bytes g = let size = trees_take Little (trees_of (elements_of bytes)) bytes [] g.spelled in omega (arith, size)

pub no_group : IsGroup []
unfolding elements_by AreMeta TreesAt
no_group = record { spelled = refl; meta = tt }

pub none_of : elements_of [] ≡ []
none_of = none_read 0

pub full_by : (bytes : List ℕ) (now : List Shown) (n size : ℕ) → IsGroup bytes → elements_of bytes ≡ now → n ≡ length bytes → n ≤ 16384 → nat_lt (16384 - n) size ≡ nat_lt 16384 (trees_size Little (trees_of now) + size)
full_by bytes now n size g is e le =
    let shown_is : trees_size Little (trees_of now) ≡ n = ap (λ (x : List Shown). trees_size Little (trees_of x)) (sym is) ∙ sym (group_size bytes g) ∙ sym e in
    same_test n (trees_size Little (trees_of now)) size shown_is le
  where
    same_test : (n m size : ℕ) → m ≡ n → n ≤ 16384 → nat_lt (16384 - n) size ≡ nat_lt 16384 (m + size)
    same_test n m size e le = grind (arith, nat_tests, e, le)

-- there is room for the head of one element more, and for its value
pub fits : (bytes h : List ℕ) (now : List Shown) (tag : Tag) (vr : Vr) (n : ℕ) → IsGroup bytes → elements_of bytes ≡ now → IsTag tag → tag.group ≡ 2
    → trees_size Little (trees_of now) + (head_size Little vr + n) ≤ 16384 → h ≡ head Little tag vr (Known n) → (length bytes + length h) + n ≤ 16384
fits bytes h now tag vr n g is named two room e =
    let size = group_size bytes g in
    let same = ap (λ (x : List Shown). trees_size Little (trees_of x)) is in
    let short : n < 65536 = omega (arith, room) in
    let takes = element_takes Little tag vr (Known n) (head Little tag vr (Known n)) [] (head_at tag vr n named two short) in
    let own = ap length e in
    omega (arith, size, same, takes, own, room)

-- with one element more
pub record Grows (all : List ℕ) (now : List Shown) (tag : Tag) (vr : Vr) (v : List ℕ) : Type 0 where
  pub is_group : IsGroup all
  pub elements : elements_of all ≡ now ++ shown tag vr v ∷ []

grows_from : (bytes all : List ℕ) (tag : Tag) (vr : Vr) (v : List ℕ) → IsGroup bytes → IsTag tag → tag.group ≡ 2 → form Little vr (Known (length v)) ≡ a_value
    → trees_size Little (trees_of (elements_of bytes)) + (head_size Little vr + length v) ≤ 16384 → all ≡ bytes ++ (head Little tag vr (Known (length v)) ++ v) → Grows all (elements_of bytes) tag vr v
grows_from bytes all tag vr v g is two f room e =
    let own : List ℕ = head Little tag vr (Known (length v)) ++ v in
    let before : List Shown = elements_of bytes in
    let whole : trees_of (before ++ shown tag vr v ∷ []) ≡ with_leaf (trees_of before) tag vr v = trees_more before tag vr v in
    let short : length v < 65536 = omega (arith, room) in
    let l = element_at tag vr v is two short f in
    let s : Spells Little (with_leaf (trees_of before) tag vr v) (bytes ++ own) = spelled_more (trees_of before) bytes own tag vr v g.spelled l in
    let m = meta_more (trees_of before) tag vr v g.meta two in
    let size = trees_take Little (with_leaf (trees_of before) tag vr v) (bytes ++ own) [] s in
    let more = one_shown (trees_of before) tag vr v in
    let le : length (bytes ++ own) ≤ 16384 = omega (arith, size, more, room) in
    let spelled : Spells Little (trees_of (before ++ shown tag vr v ∷ [])) (bytes ++ own) = subst (λ (x : Trees). Spells Little x (bytes ++ own)) (sym whole) s in
    let meta : AreMeta (trees_of (before ++ shown tag vr v ∷ [])) = subst AreMeta (sym whole) m in
    record {
      is_group = subst IsGroup (sym e) (group_of (before ++ shown tag vr v ∷ []) (bytes ++ own) le spelled meta);
      elements = ap (λ (x : List ℕ). elements_of x) e ∙ group_read (before ++ shown tag vr v ∷ []) (bytes ++ own) le spelled meta;
    }

pub grows : (bytes all : List ℕ) (now : List Shown) (tag : Tag) (vr : Vr) (v : List ℕ) → IsGroup bytes → elements_of bytes ≡ now → IsTag tag → tag.group ≡ 2 → form Little vr (Known (length v)) ≡ a_value
    → trees_size Little (trees_of now) + (head_size Little vr + length v) ≤ 16384 → all ≡ bytes ++ (head Little tag vr (Known (length v)) ++ v) → Grows all now tag vr v
grows bytes all now tag vr v g is named two f room e =
    subst (λ (x : List Shown). Grows all x tag vr v) is
    (grows_from bytes all tag vr v g named two f (subst (λ (x : List Shown). trees_size Little (trees_of x) + (head_size Little vr + length v) ≤ 16384) (sym is) room) e)

-- ---- the transfer syntax that it names

-- these bytes are left of a group that names this transfer syntax, and no element before them names one
pub record Remain (rest named : List ℕ) : Type 0 where
  pub elements : Trees
  pub spelled : Spells Little elements rest
  pub meta : AreMeta elements
  pub same : syntax_value elements ≡ named

pub remain_all : (all : Trees) (group : List ℕ) → Spells Little all group → AreMeta all → Remain group (syntax_value all)
remain_all all group s m = record { elements = all; spelled = s; meta = m; same = refl }

other : (t : Bool) (v w : List ℕ) → t ≡ false → cond t v w ≡ w
other true v w e = absurd (cc)
other false v w e = refl

this : (t : Bool) (v w : List ℕ) → t ≡ true → cond t v w ≡ v
this true v w e = refl
this false v w e = absurd (cc)

pub remain_more : (rest named : List ℕ) (tag : Tag) (vr : Vr) (value after : List ℕ) → Remain rest named → FirstIs rest tag vr value after → is_tag 2 0x10 tag ≡ false → Remain after named
remain_more rest named tag vr value after r first e =
    let one = first.2 r.elements r.spelled r.meta in
    record {
      elements = one.0;
      spelled = one.2;
      meta = one.3;
      same = sym (other (is_tag 2 0x10 tag) value (syntax_value one.0) e) ∙ ap (λ (x : Trees). syntax_value x) (sym one.1) ∙ r.same;
    }

pub remain_first : (rest named : List ℕ) (tag : Tag) (vr : Vr) (value after : List ℕ) → Remain rest named → FirstIs rest tag vr value after → is_tag 2 0x10 tag ≡ true → value ≡ named
remain_first rest named tag vr value after r first e =
    let one = first.2 r.elements r.spelled r.meta in
    sym (this (is_tag 2 0x10 tag) value (syntax_value one.0) e) ∙ ap (λ (x : Trees). syntax_value x) (sym one.1) ∙ r.same

pub remain_none : (rest named : List ℕ) → Remain rest named → NoneIs rest → [] ≡ named
remain_none rest named r none = ap (λ (x : Trees). syntax_value x) (sym (none r.elements r.spelled r.meta)) ∙ r.same

-- ---- what stands before a data set

start_is : replicate {A = ℕ} 128 0 ++ (PREFIX ++ []) ≡ replicate {A = ℕ} 128 0 ++ PREFIX
start_is = ap (λ (x : List ℕ). replicate {A = ℕ} 128 0 ++ x) (append-nil PREFIX)

pub put_whole : {T E : Type 0} (old mid new : Option (List ℕ)) (bytes run uid : List ℕ) (now : List Shown) (r : Result T E) → IsGroup bytes → elements_of bytes ≡ now → run ≡ bytes → uid ≡ named_syntax (trees_of now)
    → mid ≡ append_known old (replicate {A = ℕ} 128 0 ++ (PREFIX ++ [])) → OfElements run (λ elements. Puts mid new (new_meta elements uid) r) → Puts old new ((replicate {A = ℕ} 128 0 ++ PREFIX) ++ new_meta (trees_of now) (named_syntax (trees_of now))) r
put_whole {T} {E} old mid new bytes run uid now r g is e u went h =
    let all : Trees = trees_of (elements_of bytes) in
    let own : Puts {T = T} {E = E} mid new (new_meta all uid) r = h all (subst (λ (x : List ℕ). Spells Little all x) (sym e) g.spelled) g.meta in
    puts_behind old mid new (replicate {A = ℕ} 128 0 ++ PREFIX) (new_meta (trees_of now) (named_syntax (trees_of now))) r (went ∙ ap (append_known old) start_is)
    (subst (λ (x : List ℕ). Puts {T = T} {E = E} mid new (new_meta (trees_of now) x) r) u (subst (λ (x : List Shown). Puts {T = T} {E = E} mid new (new_meta (trees_of x) uid) r) is own))

pub put_failed : {T E : Type 0} (old new : Option (List ℕ)) (more : List ℕ) (r : Result T E) → AppendsFront old new (replicate {A = ℕ} 128 0 ++ (PREFIX ++ [])) → IsErr r → Puts old new ((replicate {A = ℕ} 128 0 ++ PREFIX) ++ more) r
put_failed old new more r front failed = puts_err old new ((replicate {A = ℕ} 128 0 ++ PREFIX) ++ more) r failed (front_longer more (subst (AppendsFront old new) start_is front))
