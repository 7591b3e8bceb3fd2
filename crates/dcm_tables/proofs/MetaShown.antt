-- The elements of a meta group that are whole, by what the reading of a file's head has found.
use Rattle.std.proofs.Common.{◌≡◌, ◌∙◌, ap, sym, subst, refl, ℕ, ◌+◌, ◌-◌, ◌≤◌, ◌<◌, List, [], ◌∷◌, ◌++◌, append_assoc, length, length-append, length-drop, take, drop, Bool, true, false, cond, nat_eq, nat_lt, Option, Some, None, inl, inr, arith, eq-eqb}
use Rattle.std.specs.Prelude.{fold, bytes_eq}
use Rattle.std.proofs.lemmas.Bool.{le-ltb}
use Rattle.std.proofs.lemmas.Slice.Eq.{bytes_eq-Decides}
use Rattle.std.proofs.lemmas.List.{take_at, drop_at, length-take, take-append-drop, append-nil}
use Rattle.std.proofs.lemmas.List.Sums.{fold-append}
use Rattle.dcm_base.specs.declared.fault.Fault.TheVariants.{EndsEarly, NoPrefix}
use Rattle.dcm_base.specs.Tables.Syntax.{Little}
use Rattle.dcm_base.specs.Tree.Tree.{Trees, no_tree}
use Rattle.dcm_base.specs.Bytes.Spelling.{Spells}
use Rattle.dcm_base.specs.File.MetaGroup.{AreMeta, group_place, is_element}
use Rattle.dcm_base.specs.File.MetaReads.{PREFIX}
use Rattle.dcm_head.proofs.MetaGroups.OneMeta.{long as size_of}
use Rattle.dcm_head.specs.declared.meta_read.MetaEnd.{MetaEnd}
use Rattle.dcm_head.specs.MetaReading.{Reading, at_start, meta_step, meta_finished, finished_from, group_ended, refusing, group_of, step_from, at_place}
use Rattle.dcm_head.specs.MetaReading as reading
use Rattle.dcm_head.proofs.HeadReading.State.{Described, before, within, no_file, over, early, described}
use Rattle.dcm_head.proofs.HeadReading.Stays.{stays}
use Rattle.dcm_head.proofs.MetaGroups.LastElement.{none_meta, none_spelled}
use Rattle.dcm_head.proofs.MetaGroups.Places.{at_empty}
use Rattle.dcm_cli.specs.Pass.{head_read}
use Rattle.dcm_tables.specs.RowOf.{ShowsMeta, no_group, of_group, has_prefix}

-- the elements that were found, of a file
pub record Shown (r : Reading) (file : List ℕ) : Type 0 where
  pub elements : Trees
  pub shows : ShowsMeta file elements
  pub spelled : Spells Little elements (group_of r)
  pub meta : AreMeta elements

-- ---- the prefix

prefix_false : (bytes : List ℕ) → (take 4 (drop 128 bytes) ≡ PREFIX → ⊥) → has_prefix bytes ≡ false
prefix_false bytes other = by_test (has_prefix bytes) refl
  where
    by_test : (b : Bool) → has_prefix bytes ≡ b → has_prefix bytes ≡ false
    by_test true e = absurd (other ((bytes_eq-Decides (take 4 (drop 128 bytes)) PREFIX).0 e))
    by_test false e = e

prefix_true : (bytes : List ℕ) → take 4 (drop 128 bytes) ≡ PREFIX → has_prefix bytes ≡ true
prefix_true bytes e = ap (λ (x : List ℕ). bytes_eq x PREFIX) e

fourth : (file preamble prefix rest : List ℕ) → file ≡ preamble ++ (prefix ++ rest) → length preamble ≡ 128 → length prefix ≡ 4 → take 4 (drop 128 file) ≡ prefix
fourth file preamble prefix rest parts long four =
    ap (λ (x : List ℕ). take 4 (drop 128 x)) parts ∙ ap (take 4) (drop_at preamble (prefix ++ rest) 128 long) ∙ take_at prefix rest 4 four

after_prefix : (file preamble prefix rest : List ℕ) → file ≡ preamble ++ (prefix ++ rest) → length preamble ≡ 128 → length prefix ≡ 4 → drop 132 file ≡ rest
after_prefix file preamble prefix rest parts long four =
    let all = length-append preamble prefix in
    ap (drop 132) (parts ∙ sym (append_assoc preamble prefix rest)) ∙ drop_at (preamble ++ prefix) rest 132 (omega arith)

few_no_prefix : (bytes : List ℕ) → length bytes < 132 → take 4 (drop 128 bytes) ≡ PREFIX → ⊥
few_no_prefix bytes few e =
    let size = ap length e in
    let four : length PREFIX ≡ 4 = refl in
    let cut = length-take 4 (drop 128 bytes) in
    let left = length-drop 128 bytes in
    omega arith

-- ---- the group of a reading

same_group : (q : Reading) → group_of (meta_finished q) ≡ group_of q
same_group q = by_end q.end
  where
    by_test : (t : Bool) (x y : Reading) → group_of x ≡ group_of q → group_of y ≡ group_of q → group_of (cond t x y) ≡ group_of q
    by_test true x y h k = h
    by_test false x y h k = k

    by_end : (end : Option MetaEnd) → group_of (finished_from q end) ≡ group_of q
    by_end (Some e) = refl
    by_end None = by_test (nat_eq (length q.bytes) q.place) (group_ended q) (refusing q EndsEarly (length q.bytes)) refl refl

group_at : (q : Reading) (preamble group more : List ℕ) → q.bytes ≡ preamble ++ (PREFIX ++ (group ++ more)) → length preamble ≡ 128 → q.place ≡ 132 + length group → group_of q ≡ group
group_at q preamble group more bytes long place =
    let size : q.place - 132 ≡ length group = omega arith in
    let all : drop 132 q.bytes ≡ group ++ more = after_prefix q.bytes preamble PREFIX (group ++ more) bytes long refl in
    (λ i. take (size i) (all i)) ∙ take_at group more (length group) refl

group_none : (q : Reading) → q.place ≡ 132 → group_of q ≡ []
group_none q place = ap (λ (n : ℕ). take (n - 132) (drop 132 q.bytes)) place

-- ---- a file without the prefix

ends_with : (ys : List ℕ) → length ys ≡ 1 → (b : ℕ) × (ys ≡ b ∷ [])
ends_with [] e = cc
ends_with (b ∷ []) e = (b, refl)
ends_with (b ∷ c ∷ ys) e = absurd (omega (arith, e))

-- the first 131 bytes
early_read : (q : List ℕ) → length q ≡ 131 → head_read q ≡ early q
early_read q size = by_cases (described q)
  where
    by_cases : Described (head_read q) q → head_read q ≡ early q
    by_cases (before few is) = is
    by_cases (within w) = absurd (let all = size_of q w.preamble PREFIX (w.group ++ w.rest) w.parts w.long refl in omega arith)
    by_cases (no_file n) = absurd (let all = size_of q n.preamble n.prefix n.rest n.parts n.long n.four in omega arith)
    by_cases (over o) = absurd (let all = size_of q o.preamble PREFIX (o.group ++ o.rest) o.parts o.long refl in omega arith)

place_by : (r x y : Reading) (few at fits : Bool) → few ≡ false → at ≡ true → r.place ≡ 132 → x.place ≡ 132 → (let z : Reading = cond few r (cond at (cond fits r x) y) in z.place) ≡ 132
place_by r x y true at fits f a h k = absurd (cc)
place_by r x y false false fits f a h k = absurd (cc)
place_by r x y false true true f a h k = h
place_by r x y false true false f a h k = k

-- and one more
place_there : (q : List ℕ) (byte : ℕ) → length q ≡ 131 → (head_read (q ++ byte ∷ [])).place ≡ 132
place_there q byte size =
    let r : Reading = record { bytes = q ++ byte ∷ []; place = 132; uid_at = 0; uid_size = 0; end = None } in
    let all = length-append q (byte ∷ []) in
    let step : head_read (q ++ byte ∷ []) ≡ meta_step (early q) byte = fold-append meta_step at_start q (byte ∷ []) ∙ ap (λ (x : Reading). meta_step x byte) (early_read q size) in
    let there : (meta_step (early q) byte).place ≡ 132 =
    place_by r (refusing r NoPrefix 128) (at_place r (group_place (132 - 132) (drop 132 (q ++ byte ∷ [])))) (nat_lt (length (q ++ byte ∷ [])) 132) (nat_eq (length (q ++ byte ∷ [])) 132) (reading.has_prefix (q ++ byte ∷ []))
    (le-ltb (length (q ++ byte ∷ [])) 132 (omega arith)) (eq-eqb (length (q ++ byte ∷ [])) 132 (omega arith)) refl refl in
    ap (λ (x : Reading). x.place) step ∙ there

place_of_first : (u : List ℕ) → length u ≡ 132 → (head_read u).place ≡ 132
place_of_first u size =
    let front = length-take 131 u in
    let left = length-drop 131 u in
    let last = ends_with (drop 131 u) (omega arith) in
    let whole : u ≡ take 131 u ++ last.0 ∷ [] = sym (take-append-drop 131 u) ∙ ap (λ (x : List ℕ). take 131 u ++ x) last.1 in
    ap (λ (x : List ℕ). (head_read x).place) whole ∙ place_there (take 131 u) last.0 (omega arith)

no_file_place : (file : List ℕ) (preamble prefix rest : List ℕ) → file ≡ preamble ++ (prefix ++ rest) → length preamble ≡ 128 → length prefix ≡ 4 → (prefix ≡ PREFIX → ⊥) → (head_read file).place ≡ 132
no_file_place file preamble prefix rest parts long four other = by_cases (described (preamble ++ prefix))
  where
    there : take 4 (drop 128 (preamble ++ prefix)) ≡ prefix
    there = fourth (preamble ++ prefix) preamble prefix [] (ap (λ (x : List ℕ). preamble ++ x) (sym (append-nil prefix))) long four

    size : length (preamble ++ prefix) ≡ 132
    size = let all = length-append preamble prefix in omega arith

    same : (r : Reading) (end : MetaEnd) → r ≡ head_read (preamble ++ prefix) → r.end ≡ Some end → head_read file ≡ r
    same r end is e =
        ap head_read (parts ∙ sym (append_assoc preamble prefix rest))
        ∙ fold-append meta_step at_start (preamble ++ prefix) rest
        ∙ ap (λ (x : Reading). fold meta_step x rest) (sym is)
        ∙ stays r end rest e

    by_cases : Described (head_read (preamble ++ prefix)) (preamble ++ prefix) → (head_read file).place ≡ 132
    by_cases (before few is) = absurd (omega (arith, few, size))
    by_cases (within w) = absurd (other (sym there ∙ fourth (preamble ++ prefix) w.preamble PREFIX (w.group ++ w.rest) w.parts w.long refl))
    by_cases (no_file n) = ap (λ (x : Reading). x.place) (same (head_read (preamble ++ prefix)) _ refl n.end_is) ∙ place_of_first (preamble ++ prefix) size
    by_cases (over o) = absurd (other (sym there ∙ fourth (preamble ++ prefix) o.preamble PREFIX (o.group ++ o.rest) o.parts o.long refl))

-- ---- any file

with_none : (r : Reading) (file : List ℕ) → has_prefix file ≡ false → group_of r ≡ [] → Shown r file
with_none r file none group = record {
  elements = no_tree;
  shows = no_group none refl;
  spelled = subst (Spells Little no_tree) (sym group) none_spelled;
  meta = none_meta;
}

with_group : (r : Reading) (file preamble group rest : List ℕ) (elements : Trees) → file ≡ preamble ++ (PREFIX ++ (group ++ rest)) → length preamble ≡ 128 → Spells Little elements group → AreMeta elements → length group ≤ 16384
    → is_element (group_place (length group) rest) ≡ false → group_of r ≡ group → Shown r file
with_group r file preamble group rest elements parts long spelled meta limit ends is = record {
  elements = elements;
  shows = of_group group (group_place (length group) rest) (prefix_true file (fourth file preamble PREFIX (group ++ rest) parts long refl))
      (record { rest = rest; parts = after_prefix file preamble PREFIX (group ++ rest) parts long refl; spelled = spelled; meta = meta; within = limit; behind_is = refl; no_element = ends });
  spelled = subst (Spells Little elements) (sym is) spelled;
  meta = meta;
}

shown_by : (r : Reading) (file : List ℕ) → group_of r ≡ group_of (head_read file) → Described (head_read file) file → Shown r file
shown_by r file same (before few is) = with_none r file (prefix_false file (few_no_prefix file few)) (same ∙ ap group_of is)
shown_by r file same (within w) =
    with_group r file w.preamble w.group w.rest w.elements w.parts w.long w.spelled w.meta w.limit waits
    (same ∙ group_at (head_read file) w.preamble w.group w.rest (w.bytes_is ∙ w.parts) w.long w.place_is)
  where
    waits : is_element (group_place (length w.group) w.rest) ≡ false
    waits = elim w.waits [
      | inl none ↦ ap is_element (at_empty (length w.group) w.rest none)
      | inr cut ↦ ap is_element cut
    ]
shown_by r file same (no_file n) =
    with_none r file (prefix_false file (λ e. n.other (sym (fourth file n.preamble n.prefix n.rest n.parts n.long n.four) ∙ e)))
    (same ∙ group_none (head_read file) (no_file_place file n.preamble n.prefix n.rest n.parts n.long n.four n.other))
shown_by r file same (over o) =
    with_group r file o.preamble o.group o.rest o.elements o.parts o.long o.spelled o.meta o.limit (ap is_element (sym o.behind_is) ∙ o.no_element)
    (same ∙ group_at (head_read file) o.preamble o.group o.came o.bytes_is o.long o.place_is)

pub shown : (r : Reading) (file : List ℕ) → meta_finished (head_read file) ≡ r → Shown r file
shown r file is = shown_by r file (ap group_of (sym is) ∙ same_group (head_read file)) (described file)
