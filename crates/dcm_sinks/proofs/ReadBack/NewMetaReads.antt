-- A meta group that was written anew reads back.
use Rattle.std.proofs.Common.{◌≡◌, ◌≢◌, ◌∙◌, ap, sym, refl, subst, ℕ, ◌≤◌, ◌<◌, List, [], ◌∷◌, ◌++◌, length, Bool, true, false, cond, Result, Ok, Err, arith, length-append}
use Rattle.std.specs.Prelude.{◌==◌, ◌%◌, ◌&&◌}
use Rattle.std.specs.Int.{w32, to_le_bytes}
use Rattle.std.proofs.lemmas.List.{append-nil}
use Rattle.std.proofs.lemmas.Bool.Decides.{nat_tests}
use Rattle.dcm_base.specs.declared.tag.Tag.{Tag}
use Rattle.dcm_base.specs.declared.vr.Vr.{Vr}
use Rattle.dcm_base.specs.declared.vr.Vr.TheVariants.{UI, UL}
use Rattle.dcm_base.specs.declared.syntax.Coding.{Coding}
use Rattle.dcm_base.specs.Tables.Syntax.{Little}
use Rattle.dcm_base.specs.declared.transfer.Deflated.{Deflated as DeflatedSyntax}
use Rattle.dcm_base.specs.declared.length.Length.TheVariants.{Known}
use Rattle.dcm_base.specs.declared.form.Form.TheVariants.{Value as a_value}
use Rattle.dcm_base.specs.Tables.Tag.{is_tag}
use Rattle.dcm_base.specs.Tree.Tree.{Trees, no_tree, leaf, sequence, fragments}
use Rattle.dcm_base.specs.Tables.Number.{AreBytes, IsTag}
use Rattle.dcm_base.specs.Tree.Value.{evened}
use Rattle.dcm_base.specs.Bytes.Head.{ElementHead}
use Rattle.dcm_base.specs.Bytes.Spelling.{form, TreesAt, Spells}
use Rattle.dcm_base.specs.Tables.Transfer.{is_pad, before_pads, without_pads, coding_of}
use Rattle.dcm_base.specs.File.MetaGroup.{META_LIMIT, GroupPlace, an_element, the_end, too_few, a_fault, group_place, AreMeta, GroupReads}
use Rattle.dcm_base.specs.File.MetaReads.{Meta, MetaReads, begins, syntax_value, coded, named, answer_behind, PREFIX, too_short, no_prefix, with_group}
use Rattle.dcm_base.specs.Conversion.Recode.{even, too_long, leaf_head, recoded_leaf, unless_dropped, recode_set}
use Rattle.dcm_base.specs.Conversion.NewMeta.{without_syntax, with_syntax, new_elements, group_length, new_meta}
use Rattle.dcm_base.specs.Conversion.Normal.{normal_vr, normal_value, normal}
use Rattle.dcm_base.proofs.DumpsBack.Texts.{Bytes, bytes_of}
use Rattle.dcm_base.proofs.Conversions.NormalForm.{normal_size}
use Rattle.dcm_head.proofs.MetaGroups.Transfers.{pads_more}
use Rattle.dcm_sinks.specs.MetaAgain.{elements_again, Renews, Names, ReadsRenewed}
use Rattle.dcm_sinks.proofs.ReadBack.Written.{leaf_plain, leaf_at}
use Rattle.dcm_sinks.proofs.ReadBack.Sources.{bytes_parts, element_tag, length_known, bytes_of_head, target_value}

-- ---- the file

-- what is known of a file whose meta group was read
pub record Grouped (file : List ℕ) (m : Meta) (coding : Coding) : Type 0 where
  pub long : length m.preamble ≡ 128
  pub group : List ℕ
  pub spelled : Spells Little m.elements group
  pub meta : AreMeta m.elements
  pub bytes : Bytes file → Bytes group
  pub uid_is : m.uid ≡ without_pads (syntax_value m.elements)
  pub some : m.uid ≢ []
  pub coding_is : coding_of m.uid ≡ Ok coding

record SameMeta (m meta : Meta) (coding : Coding) : Type 0 where
  same : m ≡ meta
  some : m.uid ≢ []
  coding_is : coding_of m.uid ≡ Ok coding

by_coding : (m meta : Meta) (g group : List ℕ) (c : Coding) (r : Result Coding DeflatedSyntax) → coding_of meta.uid ≡ r → begins m g c ≡ coded meta group r → (m ≡ meta) × (coding_of meta.uid ≡ Ok c)
by_coding m meta g group c (Ok d) k e = (cc, k ∙ cc)
by_coding m meta g group c (Err x) k e = cc

by_uid : (m meta : Meta) (g group : List ℕ) (c : Coding) (uid : List ℕ) → meta.uid ≡ uid → begins m g c ≡ named meta group uid → SameMeta m meta c
by_uid m meta g group c [] is e = cc
by_uid m meta g group c (x ∷ uid) is e =
    let k = by_coding m meta g group c (coding_of meta.uid) refl e in
    let uids : m.uid ≡ meta.uid = ap (λ (y : Meta). y.uid) k.0 in
    record {
      same = k.0;
      some = λ none. (let no : x ∷ uid ≡ [] = sym is ∙ sym uids ∙ none in cc);
      coding_is = ap coding_of uids ∙ k.1;
    }

by_place : (m : Meta) (g : List ℕ) (c : Coding) (size : ℕ) (preamble : List ℕ) (elements : Trees) (group : List ℕ) (behind : GroupPlace) → begins m g c ≡ answer_behind size preamble elements group behind
    → SameMeta m (record { preamble = preamble; elements = elements; uid = without_pads (syntax_value elements) }) c
by_place m g c size preamble elements group the_end e = by_uid m _ g group c (without_pads (syntax_value elements)) refl e
by_place m g c size preamble elements group too_few e = cc
by_place m g c size preamble elements group (a_fault fault) e = cc
by_place m g c size preamble elements group (an_element tag vr head value) e = cc

grouped_by : (file : List ℕ) (m : Meta) (c : Coding) (preamble bytes : List ℕ) (elements : Trees) (group : List ℕ) (behind : GroupPlace) → file ≡ preamble ++ (PREFIX ++ bytes) → length preamble ≡ 128
    → GroupReads bytes elements group behind → SameMeta m (record { preamble = preamble; elements = elements; uid = without_pads (syntax_value elements) }) c → Grouped file m c
grouped_by file m c preamble bytes elements group behind parts long reads k =
    let same : m.elements ≡ elements = ap (λ (x : Meta). x.elements) k.same in
    record {
      long = ap (λ (x : Meta). length x.preamble) k.same ∙ long;
      group = group;
      spelled = subst (λ (x : Trees). Spells Little x group) (sym same) reads.spelled;
      meta = subst AreMeta (sym same) reads.meta;
      bytes = λ h. (
          let behind_prefix = (bytes_parts preamble (PREFIX ++ bytes) (subst Bytes parts h)).1 in
          (bytes_parts group reads.rest (subst Bytes reads.parts (bytes_parts PREFIX bytes behind_prefix).1)).0
          );
      uid_is = ap (λ (x : Meta). x.uid) k.same ∙ ap (λ (x : Trees). without_pads (syntax_value x)) (sym same);
      some = k.some;
      coding_is = k.coding_is;
    }

grouped : (file : List ℕ) (m : Meta) (group : List ℕ) (c : Coding) → MetaReads file (begins m group c) → Grouped file m c
grouped file m group c (too_short few e) = cc
grouped file m group c (no_prefix preamble prefix bytes parts long four not e) = cc
grouped file m group c (with_group preamble bytes others elements behind parts long reads e) =
    grouped_by file m c preamble bytes elements others behind parts long reads (by_place m group c (length file) preamble elements others behind e)

-- ---- the elements of a group

-- each is a value of group 2, whose head can be written
unfoldable pub CanWrite : Trees → Type 0
CanWrite no_tree = Unit {0}
CanWrite (leaf t vr v rest) = (t.group ≡ 2) × IsTag t × (length v < 0xFFFFFFFF) × (form Little vr (Known (length v)) ≡ a_value) × CanWrite rest
CanWrite (sequence t vr declared items rest) = ⊥
CanWrite (fragments t vr values rest) = ⊥

can_write : (x : Trees) (b p : List ℕ) → TreesAt Little x b p → AreMeta x → Bytes b → CanWrite x
unfolding CanWrite AreMeta TreesAt
can_write no_tree b p h m k = tt
can_write (leaf t vr v rest) b p (others, formed, head, more) m k =
    let behind = bytes_parts v others (bytes_of_head Little t vr (Known (length v)) b (v ++ others) head k) in
    (m.0, element_tag Little t vr (Known (length v)) b (v ++ others) head k, length_known Little vr b (length v) k head.length_is, formed, can_write rest others p more m.1 behind.1)
can_write (sequence t vr declared items rest) b p h m k = m
can_write (fragments t vr values rest) b p h m k = m

without_can : (x : Trees) → CanWrite x → CanWrite (without_syntax x)
unfolding CanWrite
without_can no_tree h = tt
without_can (leaf t vr v rest) h = by_tag (is_tag 2 0x10 t) (without_can rest h.4)
  where
    by_tag : (c : Bool) → CanWrite (without_syntax rest) → CanWrite (cond c (without_syntax rest) (leaf t vr v (without_syntax rest)))
    by_tag true k = k
    by_tag false k = (h.0, h.1, h.2, h.3, k)
without_can (sequence t vr declared items rest) h = h
without_can (fragments t vr values rest) h = h

identifier : (n : ℕ) → form Little UI (Known n) ≡ a_value
unfolding form
identifier n = refl

with_can : (uid : List ℕ) (x : Trees) → length uid < 0xFFFFFFFF → CanWrite x → CanWrite (with_syntax uid x)
unfolding CanWrite
with_can uid no_tree few h = tt
with_can uid (leaf t vr v rest) few h = by_tag (is_tag 2 0x10 t) (with_can uid rest few h.4)
  where
    by_tag : (c : Bool) → CanWrite (with_syntax uid rest) → CanWrite (cond c (leaf t UI uid (without_syntax rest)) (leaf t vr v (with_syntax uid rest)))
    by_tag true k = (h.0, h.1, few, identifier (length uid), without_can rest h.4)
    by_tag false k = (h.0, h.1, h.2, h.3, k)
with_can uid (sequence t vr declared items rest) few h = h
with_can uid (fragments t vr values rest) few h = h

-- ---- what they are written as

no_special : (t : Tag) → t.group ≡ 2 → t.group ≢ 0xFFFE
no_special t e = λ k. omega (arith, e, k)

leaf_told : (t : Tag) (vr : Vr) (n : ℕ) → t.group ≡ 2 → IsTag t → n < 0xFFFFFFFF → ElementHead Little t (normal_vr Little t vr n) (Known (even n)) (leaf_head Little t vr n) []
leaf_told t vr n g h fits = record { no_item = no_special t g; head = leaf_plain Little t vr n h fits }

leaf_written : (t : Tag) (vr : Vr) (v : List ℕ) (more : Trees) (r z : List ℕ) (c : Bool) → t.group ≡ 2 → IsTag t → length v < 0xFFFFFFFF → form Little vr (Known (length v)) ≡ a_value
    → TreesAt Little more (r ++ z) z
    → TreesAt Little (cond c more (leaf t (normal_vr Little t vr (length v)) (normal_value Little t vr v) more)) ((cond c [] (recoded_leaf Little t vr v) ++ r) ++ z) z
leaf_written t vr v more r z true g h few formed rest = rest
leaf_written t vr v more r z false g h few formed rest =
    leaf_at Little t (normal_vr Little t vr (length v)) (even (length v)) (normal_value Little t vr v) (leaf_head Little t vr (length v)) (normal_value Little t vr v) r z more (normal_size Little t vr v)
    (target_value Little Little t vr (length v) formed refl) (leaf_told t vr (length v) g h few) refl rest

group_written : (x : Trees) (z : List ℕ) → CanWrite x → TreesAt Little (normal Little x) (recode_set Little x ++ z) z
unfolding CanWrite normal recode_set TreesAt
group_written no_tree z h = refl
group_written (leaf t vr v rest) z h = leaf_written t vr v (normal Little rest) (recode_set Little rest) z (t.element == 0) h.0 h.1 h.2 h.3 (group_written rest z h.4)
group_written (sequence t vr declared items rest) z h = absurd h
group_written (fragments t vr values rest) z h = absurd h

leaf_stays : (t : Tag) (vr : Vr) (v : List ℕ) (more : Trees) (c : Bool) → t.group ≡ 2 → AreMeta more → AreMeta (cond c more (leaf t vr v more))
unfolding AreMeta
leaf_stays t vr v more true g m = m
leaf_stays t vr v more false g m = (g, m)

stays_meta : (x : Trees) → CanWrite x → AreMeta (normal Little x)
unfolding CanWrite normal AreMeta
stays_meta no_tree h = tt
stays_meta (leaf t vr v rest) h = leaf_stays t (normal_vr Little t vr (length v)) (normal_value Little t vr v) (normal Little rest) (t.element == 0) h.0 (stays_meta rest h.4)
stays_meta (sequence t vr declared items rest) h = absurd h
stays_meta (fragments t vr values rest) h = absurd h

-- ---- the transfer syntax

padded : (p : ℕ) (v : List ℕ) (c : Bool) → is_pad p ≡ true → without_pads (cond c v (v ++ p ∷ [])) ≡ without_pads v
padded p v true h = refl
padded p v false h = pads_more v p h

either : (c : Bool) (v : List ℕ) → cond c v v ≡ v
either true v = refl
either false v = refl

named_value : (t : Tag) (uid : List ℕ) → normal_value Little t UI uid ≡ evened 0 uid
named_value t uid = ap (evened 0) (either (too_long Little UI (length uid)) uid)

unpadded : (t : Tag) (uid : List ℕ) → without_pads (normal_value Little t UI uid) ≡ without_pads uid
unpadded t uid = ap without_pads (named_value t uid) ∙ padded 0 uid (length uid % 2 == 0) refl

named_tag : (t : Tag) (a b : Bool) → (t.element == 16) ≡ b → (a && b) ≡ true → (t.element == 0) ≡ false
named_tag t true true e h = let is : t.element ≡ 16 = grind (arith, nat_tests, e) in ap (λ (n : ℕ). n == 0) is
named_tag t true false e h = absurd (cc)
named_tag t false b e h = absurd (cc)

kept_tag : (t : Tag) → is_tag 2 0x10 t ≡ true → (t.element == 0) ≡ false
kept_tag t h = named_tag t (t.group == 2) (t.element == 16) refl h

-- the element that names it stays
first_names : (t : Tag) (vr : Vr) (v : List ℕ) (more others : Trees) (d : Bool) → is_tag 2 0x10 t ≡ true → d ≡ false → syntax_value (cond d others (leaf t vr v more)) ≡ v
first_names t vr v more others true h e = absurd (cc)
first_names t vr v more others false h e = ap (λ (c : Bool). cond c v (syntax_value more)) h

-- others do not name it
not_named : (t : Tag) (vr : Vr) (v : List ℕ) (more : Trees) (d : Bool) → is_tag 2 0x10 t ≡ false → syntax_value (cond d more (leaf t vr v more)) ≡ syntax_value more
not_named t vr v more true h = refl
not_named t vr v more false h = ap (λ (c : Bool). cond c v (syntax_value more)) h

-- at an element that names it, and at any other
module _ (uid : List ℕ) (t : Tag) (vr : Vr) (v : List ℕ) (rest : Trees) where
  names_at : (c : Bool) → is_tag 2 0x10 t ≡ c → (cond c v (syntax_value rest) ≢ []) → (syntax_value rest ≢ [] → without_pads (syntax_value (normal Little (with_syntax uid rest))) ≡ without_pads uid)
      → without_pads (syntax_value (normal Little (cond c (leaf t UI uid (without_syntax rest)) (leaf t vr v (with_syntax uid rest))))) ≡ without_pads uid
  unfolding normal
  names_at true e some more =
      ap without_pads (first_names t (normal_vr Little t UI (length uid)) (normal_value Little t UI uid) (normal Little (without_syntax rest)) (normal Little (without_syntax rest)) (t.element == 0) e (kept_tag t e)) ∙ unpadded t uid
  names_at false e some more =
      ap without_pads (not_named t (normal_vr Little t vr (length v)) (normal_value Little t vr v) (normal Little (with_syntax uid rest)) (t.element == 0) e) ∙ more some

  short_at : (c : Bool) → is_tag 2 0x10 t ≡ c → (cond c v (syntax_value rest) ≢ []) → (syntax_value rest ≢ [] → length uid ≤ length (recode_set Little (with_syntax uid rest)))
      → length uid ≤ length (recode_set Little (cond c (leaf t UI uid (without_syntax rest)) (leaf t vr v (with_syntax uid rest))))
  unfolding recode_set
  short_at true e some more =
      let bytes : List ℕ = recode_set Little (without_syntax rest) in
      let stays = ap (λ (d : Bool). length (cond d [] (recoded_leaf Little t UI uid) ++ bytes)) (kept_tag t e) in
      let whole = length-append (recoded_leaf Little t UI uid) bytes in
      let one = length-append (leaf_head Little t UI (length uid)) (normal_value Little t UI uid) in
      let size = normal_size Little t UI uid in
      omega (arith, stays, whole, one, size)
  short_at false e some more =
      let one = more some in
      let whole = length-append (unless_dropped t (recoded_leaf Little t vr v)) (recode_set Little (with_syntax uid rest)) in
      omega (arith, one, whole)

names_again : (uid : List ℕ) (x : Trees) → AreMeta x → syntax_value x ≢ [] → without_pads (syntax_value (normal Little (with_syntax uid x))) ≡ without_pads uid
unfolding AreMeta
names_again uid no_tree m some = absurd (some refl)
names_again uid (leaf t vr v rest) m some = names_at uid t vr v rest (is_tag 2 0x10 t) refl some (names_again uid rest m.1)
names_again uid (sequence t vr declared items rest) m some = absurd m
names_again uid (fragments t vr values rest) m some = absurd m

uid_within : (uid : List ℕ) (x : Trees) → AreMeta x → syntax_value x ≢ [] → length uid ≤ length (recode_set Little (with_syntax uid x))
unfolding AreMeta
uid_within uid no_tree m some = absurd (some refl)
uid_within uid (leaf t vr v rest) m some = short_at uid t vr v rest (is_tag 2 0x10 t) refl some (uid_within uid rest m.1)
uid_within uid (sequence t vr declared items rest) m some = absurd m
uid_within uid (fragments t vr values rest) m some = absurd m

-- ---- the group

abbrev length_tag : Tag
length_tag = record { group = 2; element = 0 }

-- the element that tells the length, and others
length_written : (n : ℕ) (more : Trees) (r z : List ℕ) → TreesAt Little more (r ++ z) z → TreesAt Little (leaf length_tag UL (to_le_bytes w32 n) more) ((group_length n ++ r) ++ z) z
unfolding form
length_written n more r z rest =
    leaf_at Little length_tag UL 4 (to_le_bytes w32 n) (leaf_head Little length_tag UL 4) (to_le_bytes w32 n) r z more refl refl (leaf_told length_tag UL 4 refl (omega arith, omega arith) (omega arith)) refl rest

module _ (uid : List ℕ) (x : Trees) (can : CanWrite (with_syntax uid x)) where
  again_spelled : Spells Little (elements_again x uid) (new_meta x uid)
  again_spelled =
      subst (λ (b : List ℕ). TreesAt Little (elements_again x uid) b []) (append-nil (new_meta x uid))
      (length_written (length (new_elements x uid)) (normal Little (with_syntax uid x)) (new_elements x uid) [] (group_written (with_syntax uid x) [] can))

  again_meta : AreMeta (elements_again x uid)
  unfolding AreMeta
  again_meta = (refl, stays_meta (with_syntax uid x) can)

  again_reads : (set : List ℕ) → length (new_meta x uid) ≤ META_LIMIT → group_place (length (new_meta x uid)) set ≡ the_end → GroupReads (new_meta x uid ++ set) (elements_again x uid) (new_meta x uid) the_end
  again_reads set within ends = record { rest = set; parts = refl; spelled = again_spelled; meta = again_meta; within = within; behind_is = sym ends; no_element = refl }

named_again : (preamble : List ℕ) (elements : Trees) (group u uid : List ℕ) (c : Coding) → u ≡ uid → uid ≢ [] → coding_of uid ≡ Ok c
    → begins (record { preamble = preamble; elements = elements; uid = uid }) group c ≡ named (record { preamble = preamble; elements = elements; uid = u }) group u
named_again preamble elements group u [] c e some k = absurd (some refl)
named_again preamble elements group u (b ∷ uid) c e some k =
    sym (ap (coded (record { preamble = preamble; elements = elements; uid = b ∷ uid }) group) k) ∙ ap (λ (v : List ℕ). named (record { preamble = preamble; elements = elements; uid = v }) group v) (sym e)

-- ---- the law

short : (n size limit : ℕ) → n ≤ size → size ≤ limit → limit ≤ 16384 → n < 0xFFFFFFFF
short n size limit a b c = omega arith

named_some : (m : Meta) → m.uid ≡ without_pads (syntax_value m.elements) → m.uid ≢ [] → syntax_value m.elements ≢ []
unfolding without_pads
named_some m is some none = some (is ∙ ap without_pads none)

-- elements of a group, one of which names a transfer syntax
pub record IsGroup (x : Trees) : Type 0 where
  pub can : CanWrite x
  pub meta : AreMeta x
  pub some : syntax_value x ≢ []

-- such as those that were read of a file
pub group_read : (file : List ℕ) (m : Meta) (group : List ℕ) (c : Coding) → AreBytes file → MetaReads file (begins m group c) → IsGroup m.elements
group_read file m group c are reads =
    let g = grouped file m group c reads in
    record { can = can_write m.elements g.group [] g.spelled g.meta (g.bytes (bytes_of file are)); meta = g.meta; some = named_some m g.uid_is g.some }

-- are read again where they are written anew, after any preamble
pub written_anew : (preamble : List ℕ) (x : Trees) (uid set : List ℕ) (coding : Coding) → length preamble ≡ 128 → IsGroup x → length (new_meta x uid) ≤ META_LIMIT → group_place (length (new_meta x uid)) set ≡ the_end → Names uid coding
    → MetaReads (preamble ++ (PREFIX ++ (new_meta x uid ++ set))) (begins (record { preamble = preamble; elements = elements_again x uid; uid = uid }) (new_meta x uid) coding)
written_anew preamble x uid set coding long g within ends n =
    let group : List ℕ = new_meta x uid in
    let few : length uid < 0xFFFFFFFF = short (length uid) (length group) META_LIMIT (let one = uid_within uid x g.meta g.some in let whole = length-append (group_length (length (new_elements x uid))) (new_elements x uid) in omega (arith, one, whole)) within (omega arith) in
    let is : without_pads (syntax_value (elements_again x uid)) ≡ uid = names_again uid x g.meta g.some ∙ n.no_pad in
    with_group preamble (group ++ set) group (elements_again x uid) the_end refl long (again_reads uid x (with_can uid x few g.can) set within ends)
    (named_again preamble (elements_again x uid) group (without_pads (syntax_value (elements_again x uid))) uid coding is n.some n.coding_is)

pub any : (file uid set : List ℕ) (m : Meta) (was coding : Coding) → Renews file m was uid set → Names uid coding → ReadsRenewed m uid set coding
any file uid set m was coding r n =
    written_anew m.preamble m.elements uid set coding (grouped file m r.group was r.reads).long (group_read file m r.group was r.are_bytes r.reads) r.within r.ends n

before_once : (b : ℕ) (w : List ℕ) → without_pads w ≡ w → without_pads (before_pads b w) ≡ before_pads b w
unfolding without_pads
before_once b [] h = by_pad (is_pad b) refl
  where
    by_pad : (c : Bool) → is_pad b ≡ c → without_pads (cond c [] (b ∷ [])) ≡ cond c [] (b ∷ [])
    by_pad true e = refl
    by_pad false e = ap (λ (c : Bool). cond c [] (b ∷ [])) e
before_once b (x ∷ w) h = ap (before_pads b) h

pads_once : (v : List ℕ) → without_pads (without_pads v) ≡ without_pads v
unfolding without_pads
pads_once [] = refl
pads_once (b ∷ v) = before_once b (without_pads v) (pads_once v)

own_names : (file : List ℕ) (m : Meta) (coding : Coding) → Grouped file m coding → Names m.uid coding
own_names file m coding g = record { some = g.some; no_pad = ap without_pads g.uid_is ∙ pads_once (syntax_value m.elements) ∙ sym g.uid_is; coding_is = g.coding_is }

pub names_read : (file : List ℕ) (m : Meta) (group : List ℕ) (coding : Coding) → MetaReads file (begins m group coding) → Names m.uid coding
names_read file m group coding reads = own_names file m coding (grouped file m group coding reads)

pub own : (file set : List ℕ) (m : Meta) (coding : Coding) → Renews file m coding m.uid set → ReadsRenewed m m.uid set coding
own file set m coding r = any file m.uid set m coding coding r (own_names file m coding (grouped file m r.group coding r.reads))
