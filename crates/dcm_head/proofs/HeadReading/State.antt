-- What a reading is behind the bytes so far.
use Rattle.std.proofs.Common.{◌≡◌, ◌≢◌, ◌∙◌, ◌⊎◌, inl, inr, ◌+◌, ◌-◌, ◌≤◌, ◌<◌, List, [], ◌∷◌, ◌++◌, length, take, drop, ℕ, Bool, true, false, not, cond, nat_lt, nat_eq, Some, None, refl, ap, sym, subst, arith, append_assoc, length-append, length-drop, eq-eqb}
use Rattle.std.specs.Prelude.{fold, bytes_eq, ◌&&◌}
use Rattle.std.proofs.lemmas.Bool.{lt-ltb, le-ltb, ne_eqb}
use Rattle.std.proofs.lemmas.Bool.Decides.{leb_tells, not_from_Decides}
use Rattle.std.proofs.lemmas.Slice.Eq.{bytes_eq-Decides}
use Rattle.std.proofs.lemmas.List.{drop_at, take-append-drop, take-append-le, drop-append-le, drop-drop, length-take, length-take-le, take_all, append-nil}
use Rattle.dcm_lemmas.proofs.Lists.{bytes_same}
use Rattle.dcm_lemmas.proofs.Truth.{and_parts, not_true}
use Rattle.dcm_base.specs.declared.tag.Tag.{Tag}
use Rattle.dcm_base.specs.declared.vr.Vr.{Vr}
use Rattle.dcm_base.specs.declared.fault.Fault.TheVariants.{EndsEarly, NoPrefix}
use Rattle.dcm_base.specs.Tables.Syntax.{Little}
use Rattle.dcm_base.specs.Tables.Tag.{is_tag}
use Rattle.dcm_base.specs.Tree.Tree.{Trees, no_tree}
use Rattle.dcm_base.specs.Bytes.Spelling.{Spells}
use Rattle.dcm_base.specs.File.MetaGroup.{GroupPlace}
use Rattle.dcm_base.specs.File.MetaGroup.{an_element, the_end, too_few, a_fault}
use Rattle.dcm_head.specs.declared.meta_read.MetaEnd.{MetaEnd}
use Rattle.dcm_head.specs.declared.meta_read.MetaEnd.TheVariants.{Refused}
use Rattle.dcm_base.specs.Tables.Transfer.{without_pads}
use Rattle.dcm_base.specs.File.MetaGroup.{group_place, AreMeta, is_element}
use Rattle.dcm_base.specs.File.MetaReads.{PREFIX, syntax_value}
use Rattle.dcm_head.specs.MetaReading.{Reading, at_start, meta_step, step_from, reached, at_place, behind, is_first_syntax, has_prefix, group_end, uid_of}
use Rattle.dcm_head.proofs.MetaGroups.Elements.{element_tells, element_exact}
use Rattle.dcm_head.proofs.HeadReading.MoreBytes.{place_settles}
use Rattle.dcm_head.proofs.MetaGroups.LastElement.{with_leaf, leaf_of, spelled_more, meta_more, none_meta, none_spelled, has_syntax, has_more, value_more, no_syntax}
use Rattle.dcm_head.proofs.MetaGroups.Transfers.{nothing_left, pads_front}

-- the transfer syntax of the elements is where the reading has it
pub record UidIs (r : Reading) (elements : Trees) : Type 0 where
  pub found : nat_eq r.uid_at 0 ≡ not (has_syntax elements)
  pub uid : uid_of r ≡ without_pads (syntax_value elements)
  pub size : r.uid_size ≡ length (without_pads (syntax_value elements))
  pub within : r.uid_at + r.uid_size ≤ length r.bytes

-- in the group
pub record Within (r : Reading) (p : List ℕ) : Type 0 where
  pub preamble : List ℕ
  pub group : List ℕ
  pub rest : List ℕ
  pub elements : Trees
  pub parts : p ≡ preamble ++ (PREFIX ++ (group ++ rest))
  pub long : length preamble ≡ 128
  pub spelled : Spells Little elements group
  pub meta : AreMeta elements
  pub limit : length group ≤ 16384
  pub place_is : r.place ≡ 132 + length group
  pub bytes_is : r.bytes ≡ p
  pub going : r.end ≡ None
  pub waits : (length rest ≡ 0) ⊎ (group_place (length group) rest ≡ too_few)
  pub uid : UidIs r elements

abbrev pub end_at : ℕ → List ℕ → GroupPlace → MetaEnd
end_at place uid the_end = group_end place uid
end_at place uid too_few = Refused (record { fault = EndsEarly; at = place })
end_at place uid (a_fault fault) = Refused (record { fault = fault; at = place })
end_at place uid (an_element tag vr head size) = Refused (record { fault = EndsEarly; at = place })

-- behind the group
pub record Over (r : Reading) (p : List ℕ) : Type 0 where
  pub preamble : List ℕ
  pub group : List ℕ
  pub rest : List ℕ
  pub came : List ℕ
  pub elements : Trees
  pub behind : GroupPlace
  pub parts : p ≡ preamble ++ (PREFIX ++ (group ++ rest))
  pub long : length preamble ≡ 128
  pub spelled : Spells Little elements group
  pub meta : AreMeta elements
  pub limit : length group ≤ 16384
  pub two : 2 ≤ length rest
  pub behind_is : behind ≡ group_place (length group) rest
  pub no_cut : behind ≡ too_few → ⊥
  pub no_element : is_element behind ≡ false
  pub place_is : r.place ≡ 132 + length group
  pub bytes_is : r.bytes ≡ preamble ++ (PREFIX ++ (group ++ came))
  pub end_is : r.end ≡ Some (end_at (132 + length group) (uid_of r) behind)
  pub uid : uid_of r ≡ without_pads (syntax_value elements)

pub record NoFile (r : Reading) (p : List ℕ) : Type 0 where
  pub preamble : List ℕ
  pub prefix : List ℕ
  pub rest : List ℕ
  pub parts : p ≡ preamble ++ (prefix ++ rest)
  pub long : length preamble ≡ 128
  pub four : length prefix ≡ 4
  pub other : prefix ≢ PREFIX
  pub end_is : r.end ≡ Some (Refused (record { fault = NoPrefix; at = 128 }))

abbrev pub early : List ℕ → Reading
early p = record { bytes = p; place = 132; uid_at = 0; uid_size = 0; end = None }

pub data Described (r : Reading) (p : List ℕ) : Type 0 where
  before : length p < 132 → r ≡ early p → Described r p
  within : Within r p → Described r p
  no_file : NoFile r p → Described r p
  over : Over r p → Described r p

bytes_other : (xs ys : List ℕ) → bytes_eq xs ys ≡ false → xs ≡ ys → ⊥
bytes_other xs ys h = not_from_Decides (bytes_eq xs ys) (bytes_eq-Decides xs ys) h

-- the bytes behind the group
pub behind_group : (preamble group more : List ℕ) → length preamble ≡ 128 → drop (132 + length group) (preamble ++ (PREFIX ++ (group ++ more))) ≡ more
behind_group preamble group more long =
    let regrouped : preamble ++ (PREFIX ++ (group ++ more)) ≡ (preamble ++ (PREFIX ++ group)) ++ more =
    ap (λ (x : List ℕ). preamble ++ x) (sym (append_assoc PREFIX group more)) ∙ sym (append_assoc preamble (PREFIX ++ group) more) in
    let a = length-append preamble (PREFIX ++ group) in
    let b = length-append PREFIX group in
    let four : length PREFIX ≡ 4 = refl in
    ap (drop (132 + length group)) regrouped ∙ drop_at (preamble ++ (PREFIX ++ group)) more (132 + length group) (omega arith)

other_leaf : (e : Trees) (tag : Tag) (vr : Vr) (value : List ℕ) → (not (has_syntax e) && is_tag 2 0x10 tag) ≡ false → (has_syntax (with_leaf e tag vr value) ≡ has_syntax e) × (syntax_value (with_leaf e tag vr value) ≡ syntax_value e)
other_leaf e tag vr value h =
    let go : (has is : Bool) → has_syntax e ≡ has → is_tag 2 0x10 tag ≡ is → (not has && is) ≡ false → (has_syntax (with_leaf e tag vr value) ≡ has_syntax e) × (syntax_value (with_leaf e tag vr value) ≡ syntax_value e) =
    λ has. elim has as (λ (has : Bool). (is : Bool) → has_syntax e ≡ has → is_tag 2 0x10 tag ≡ is → (not has && is) ≡ false → (has_syntax (with_leaf e tag vr value) ≡ has_syntax e) × (syntax_value (with_leaf e tag vr value) ≡ syntax_value e)) [
      | true ↦ λ is eh et g. (
        has_more e tag vr value ∙ ap (λ (x : Bool). cond x true (is_tag 2 0x10 tag)) eh ∙ sym eh,
        value_more e tag vr value ∙ ap (λ (x : Bool). cond x (syntax_value e) (cond (is_tag 2 0x10 tag) value [])) eh,
      )
      | false ↦ λ is. elim is as (λ (is : Bool). has_syntax e ≡ false → is_tag 2 0x10 tag ≡ is → (true && is) ≡ false → (has_syntax (with_leaf e tag vr value) ≡ has_syntax e) × (syntax_value (with_leaf e tag vr value) ≡ syntax_value e)) [
        | true ↦ λ eh et g. absurd (let no : true ≡ false = g in cc)
        | false ↦ λ eh et g. (
          has_more e tag vr value ∙ (λ i. cond (eh i) true (et i)) ∙ sym eh,
          value_more e tag vr value ∙ (λ i. cond (eh i) (syntax_value e) (cond (et i) value [])) ∙ sym (no_syntax e eh),
        )
      ]
    ] in
    go (has_syntax e) (is_tag 2 0x10 tag) refl refl h

first_leaf_syntax : (e : Trees) (tag : Tag) (vr : Vr) (value : List ℕ) → has_syntax e ≡ false → is_tag 2 0x10 tag ≡ true → (has_syntax (with_leaf e tag vr value) ≡ true) × (syntax_value (with_leaf e tag vr value) ≡ value)
first_leaf_syntax e tag vr value h t = (has_more e tag vr value ∙ (λ i. cond (h i) true (t i)), value_more e tag vr value ∙ (λ i. cond (h i) (syntax_value e) (cond (t i) value [])))

pads_short : (value : List ℕ) → length (without_pads value) ≤ length value
pads_short value =
    let a = ap length (pads_front value) in
    let b = length-take (length (without_pads value)) value in
    omega arith

parts_more : (preamble group rest : List ℕ) (byte : ℕ) → (preamble ++ (PREFIX ++ (group ++ rest))) ++ byte ∷ [] ≡ preamble ++ (PREFIX ++ (group ++ (rest ++ byte ∷ [])))
parts_more preamble group rest byte =
    append_assoc preamble (PREFIX ++ (group ++ rest)) (byte ∷ [])
    ∙ ap (λ (x : List ℕ). preamble ++ x) (append_assoc PREFIX (group ++ rest) (byte ∷ []) ∙ ap (λ (x : List ℕ). PREFIX ++ x) (append_assoc group rest (byte ∷ [])))

-- a reading that is over
step_over : (r : Reading) (byte : ℕ) (end : MetaEnd) → r.end ≡ Some end → meta_step r byte ≡ r
step_over r byte end h = ap (step_from r byte) h

no_file_more : (r : Reading) (p : List ℕ) (byte : ℕ) → NoFile r p → Described (meta_step r byte) (p ++ byte ∷ [])
no_file_more r p byte n =
    subst (λ (x : Reading). Described x (p ++ byte ∷ [])) (sym (step_over r byte _ n.end_is)) (no_file (record {
      preamble = n.preamble;
      prefix = n.prefix;
      rest = n.rest ++ byte ∷ [];
      parts = ap (λ (x : List ℕ). x ++ byte ∷ []) n.parts ∙ append_assoc n.preamble (n.prefix ++ n.rest) (byte ∷ []) ∙ ap (λ (x : List ℕ). n.preamble ++ x) (append_assoc n.prefix n.rest (byte ∷ []));
      long = n.long;
      four = n.four;
      other = n.other;
      end_is = n.end_is;
    }))

over_more : (r : Reading) (p : List ℕ) (byte : ℕ) → Over r p → Described (meta_step r byte) (p ++ byte ∷ [])
over_more r p byte o =
    let two = o.two in
    let all = length-append o.rest (byte ∷ []) in
    subst (λ (x : Reading). Described x (p ++ byte ∷ [])) (sym (step_over r byte _ o.end_is)) (over (record {
      preamble = o.preamble;
      group = o.group;
      rest = o.rest ++ byte ∷ [];
      came = o.came;
      elements = o.elements;
      behind = o.behind;
      parts = ap (λ (x : List ℕ). x ++ byte ∷ []) o.parts ∙ parts_more o.preamble o.group o.rest byte;
      long = o.long;
      spelled = o.spelled;
      meta = o.meta;
      limit = o.limit;
      two = omega arith;
      behind_is = o.behind_is ∙ sym (place_settles (length o.group) o.rest (byte ∷ []) o.two (λ h. o.no_cut (o.behind_is ∙ h)));
      no_cut = o.no_cut;
      no_element = o.no_element;
      place_is = o.place_is;
      bytes_is = o.bytes_is;
      end_is = o.end_is;
      uid = o.uid;
    }))

-- the last byte of the prefix
reached_prefix : (p : List ℕ) (has : Bool) → length p ≡ 132 → has_prefix p ≡ has → reached (early p) ≡ cond has (early p) (record { bytes = p; place = 132; uid_at = 0; uid_size = 0; end = Some (Refused (record { fault = NoPrefix; at = 128 })) })
reached_prefix p has n h =
    let long : nat_lt (length p) 132 ≡ false = le-ltb (length p) 132 (omega arith) in
    let all : nat_eq (length p) 132 ≡ true = eq-eqb (length p) 132 n in
    (λ i. cond (long i) (early p) (cond (all i) (cond (h i) (early p) (record { bytes = p; place = 132; uid_at = 0; uid_size = 0; end = Some (Refused (record { fault = NoPrefix; at = 128 })) })) (at_place (early p) (group_place 0 (drop 132 p)))))

reached_early : (p : List ℕ) → length p < 132 → reached (early p) ≡ early p
reached_early p few =
    ap (λ (b : Bool). cond b (early p) (cond (nat_eq (length p) 132) (cond (has_prefix p) (early p) (record { bytes = p; place = 132; uid_at = 0; uid_size = 0; end = Some (Refused (record { fault = NoPrefix; at = 128 })) })) (at_place (early p) (group_place 0 (drop 132 p)))))
    (lt-ltb (length p) 132 few)

step_early : (p : List ℕ) (byte : ℕ) → meta_step (early p) byte ≡ reached (early (p ++ byte ∷ []))
step_early p byte = refl

no_uid : (r : Reading) → r.uid_at ≡ 0 → r.uid_size ≡ 0 → UidIs r no_tree
no_uid r a s = record {
  found = eq-eqb r.uid_at 0 a;
  uid = ap (λ (n : ℕ). take n (drop r.uid_at r.bytes)) s ∙ sym nothing_left;
  size = s ∙ sym (ap length nothing_left);
  within = omega arith;
}

prefix_read : (p : List ℕ) (has : Bool) → length p ≡ 132 → has_prefix p ≡ has → Described (reached (early p)) p
prefix_read p true n h =
    subst (λ (x : Reading). Described x p) (sym (reached_prefix p true n h)) (within (record {
      preamble = take 128 p;
      group = [];
      rest = [];
      elements = no_tree;
      parts = sym (take-append-drop 128 p) ∙ ap (λ (x : List ℕ). take 128 p ++ x) (bytes_same (drop 128 p) PREFIX h);
      long = length-take-le 128 p (omega arith);
      spelled = none_spelled;
      meta = none_meta;
      limit = omega arith;
      place_is = refl;
      bytes_is = refl;
      going = refl;
      waits = inl refl;
      uid = no_uid (early p) refl refl;
    }))
prefix_read p false n h =
    subst (λ (x : Reading). Described x p) (sym (reached_prefix p false n h)) (no_file (record {
      preamble = take 128 p;
      prefix = drop 128 p;
      rest = [];
      parts = sym (take-append-drop 128 p) ∙ ap (λ (x : List ℕ). take 128 p ++ x) (sym (append-nil (drop 128 p)));
      long = length-take-le 128 p (omega arith);
      four = let left = length-drop 128 p in omega arith;
      other = λ e. bytes_other (drop 128 p) PREFIX h e;
      end_is = refl;
    }))

before_more : (p : List ℕ) (byte : ℕ) → length p < 132 → Described (meta_step (early p) byte) (p ++ byte ∷ [])
before_more p byte few =
    let all = length-append p (byte ∷ []) in
    elim (leb_tells 132 (length (p ++ byte ∷ []))) [
      | inl le ↦ let least = le.1 in prefix_read (p ++ byte ∷ []) (has_prefix (p ++ byte ∷ [])) (omega arith) refl
      | inr lt ↦
          subst (λ (x : Reading). Described x (p ++ byte ∷ [])) (sym (reached_early (p ++ byte ∷ []) lt.1)) (before lt.1 refl)
    ]

dropped : (r : Reading) (p : List ℕ) (byte : ℕ) (w : Within r p) → drop r.place (r.bytes ++ byte ∷ []) ≡ w.rest ++ byte ∷ []
dropped r p byte w =
    let bytes : r.bytes ++ byte ∷ [] ≡ w.preamble ++ (PREFIX ++ (w.group ++ (w.rest ++ byte ∷ []))) = ap (λ (x : List ℕ). x ++ byte ∷ []) (w.bytes_is ∙ w.parts) ∙ parts_more w.preamble w.group w.rest byte in
    (λ i. drop (w.place_is i) (bytes i)) ∙ behind_group w.preamble w.group (w.rest ++ byte ∷ []) w.long

-- one byte more of the group
step_within : (r : Reading) (p : List ℕ) (byte : ℕ) → (w : Within r p) → meta_step r byte ≡ at_place (record r { bytes = r.bytes ++ byte ∷ [] }) (group_place (length w.group) (w.rest ++ byte ∷ []))
step_within r p byte w =
    let long = w.long in
    let place_is = w.place_is in
    let bytes_is = ap length w.bytes_is in
    let parts = ap length w.parts in
    let a = length-append w.preamble (PREFIX ++ (w.group ++ w.rest)) in
    let b = length-append PREFIX (w.group ++ w.rest) in
    let d = length-append w.group w.rest in
    let more = length-append r.bytes (byte ∷ []) in
    let q : Reading = record r { bytes = r.bytes ++ byte ∷ [] } in
    let many : nat_lt (length q.bytes) 132 ≡ false = le-ltb (length q.bytes) 132 (omega arith) in
    let other : nat_eq (length q.bytes) 132 ≡ false = ne_eqb (length q.bytes) 132 (λ h. omega arith) in
    let taken : r.place - 132 ≡ length w.group = omega arith in
    let rest : drop r.place q.bytes ≡ w.rest ++ byte ∷ [] = dropped r p byte w in
    ap (step_from r byte) w.going
    ∙ ap (λ (x : Bool). cond x q (cond (nat_eq (length q.bytes) 132) (cond (has_prefix q.bytes) q (record q { end = Some (Refused (record { fault = NoPrefix; at = 128 })) })) (at_place q (group_place (r.place - 132) (drop r.place q.bytes))))) many
    ∙ ap (λ (x : Bool). cond x (cond (has_prefix q.bytes) q (record q { end = Some (Refused (record { fault = NoPrefix; at = 128 })) })) (at_place q (group_place (r.place - 132) (drop r.place q.bytes)))) other
    ∙ (λ i. at_place q (group_place (taken i) (rest i)))

-- the transfer syntax stays where it is
uid_longer : (r q : Reading) (elements : Trees) (more : List ℕ) → UidIs r elements → q.bytes ≡ r.bytes ++ more → q.uid_at ≡ r.uid_at → q.uid_size ≡ r.uid_size → UidIs q elements
uid_longer r q elements more u b a s =
    let all = ap length b ∙ length-append r.bytes more in
    let within = u.within in
    let le : r.uid_at ≤ length r.bytes = omega arith in
    let left = length-drop r.uid_at r.bytes in
    let fits : r.uid_size ≤ length (drop r.uid_at r.bytes) = omega arith in
    record {
      found = ap (λ (n : ℕ). nat_eq n 0) a ∙ u.found;
      uid = (λ i. take (s i) (drop (a i) (b i))) ∙ ap (take r.uid_size) (drop-append-le r.uid_at r.bytes more le) ∙ take-append-le r.uid_size (drop r.uid_at r.bytes) more fits ∙ u.uid;
      size = s ∙ u.size;
      within = omega arith;
    }

cut_more : (r : Reading) (p : List ℕ) (byte : ℕ) (w : Within r p) → group_place (length w.group) (w.rest ++ byte ∷ []) ≡ too_few → Described (meta_step r byte) (p ++ byte ∷ [])
cut_more r p byte w h =
    let q : Reading = record r { bytes = r.bytes ++ byte ∷ [] } in
    subst (λ (x : Reading). Described x (p ++ byte ∷ [])) (sym (step_within r p byte w ∙ ap (at_place q) h)) (within (record {
      preamble = w.preamble;
      group = w.group;
      rest = w.rest ++ byte ∷ [];
      elements = w.elements;
      parts = ap (λ (x : List ℕ). x ++ byte ∷ []) w.parts ∙ parts_more w.preamble w.group w.rest byte;
      long = w.long;
      spelled = w.spelled;
      meta = w.meta;
      limit = w.limit;
      place_is = w.place_is;
      bytes_is = ap (λ (x : List ℕ). x ++ byte ∷ []) w.bytes_is;
      going = w.going;
      waits = inr h;
      uid = uid_longer r q w.elements (byte ∷ []) w.uid refl refl refl;
    }))

-- an end of the group or a fault, told by two bytes or more
over_with : (r : Reading) (p : List ℕ) (byte : ℕ) (w : Within r p) (behind : GroupPlace) → group_place (length w.group) (w.rest ++ byte ∷ []) ≡ behind → (behind ≡ too_few → ⊥) → is_element behind ≡ false → 1 ≤ length w.rest
    → at_place (record r { bytes = r.bytes ++ byte ∷ [] }) behind ≡ record r { bytes = r.bytes ++ byte ∷ []; end = Some (end_at r.place (uid_of (record r { bytes = r.bytes ++ byte ∷ [] })) behind) }
    → Described (meta_step r byte) (p ++ byte ∷ [])
over_with r p byte w behind h n e one leads =
    let q : Reading = record r { bytes = r.bytes ++ byte ∷ [] } in
    let z : Reading = record r { bytes = r.bytes ++ byte ∷ []; end = Some (end_at r.place (uid_of q) behind) } in
    let all = length-append w.rest (byte ∷ []) in
    let u = uid_longer r q w.elements (byte ∷ []) w.uid refl refl refl in
    subst (λ (x : Reading). Described x (p ++ byte ∷ [])) (sym (step_within r p byte w ∙ ap (at_place q) h ∙ leads)) (over (record {
      preamble = w.preamble;
      group = w.group;
      rest = w.rest ++ byte ∷ [];
      came = w.rest ++ byte ∷ [];
      elements = w.elements;
      behind = behind;
      parts = ap (λ (x : List ℕ). x ++ byte ∷ []) w.parts ∙ parts_more w.preamble w.group w.rest byte;
      long = w.long;
      spelled = w.spelled;
      meta = w.meta;
      limit = w.limit;
      two = omega arith;
      behind_is = sym h;
      no_cut = n;
      no_element = e;
      place_is = w.place_is;
      bytes_is = ap (λ (x : List ℕ). x ++ byte ∷ []) (w.bytes_is ∙ w.parts) ∙ parts_more w.preamble w.group w.rest byte;
      end_is = ap (λ (n : ℕ). Some (end_at n (uid_of q) behind)) w.place_is;
      uid = u.uid;
    }))

-- one byte is never told
some_rest : (taken : ℕ) (rest : List ℕ) (byte : ℕ) (behind : GroupPlace) → group_place taken (rest ++ byte ∷ []) ≡ behind → (behind ≡ too_few → ⊥) → 1 ≤ length rest
unfolding group_place
some_rest taken [] byte behind h n = absurd (n (sym h))
some_rest taken (b ∷ rest) byte behind h n = omega arith

-- whether the element is the first that names the transfer syntax
elsewhere : (r q : Reading) (elements : Trees) (more : List ℕ) (tag : Tag) (vr : Vr) (value : List ℕ) → UidIs r elements → is_first_syntax r.uid_at tag ≡ false
    → q.bytes ≡ r.bytes ++ more → q.uid_at ≡ r.uid_at → q.uid_size ≡ r.uid_size → UidIs q (with_leaf elements tag vr value)
elsewhere r q elements more tag vr value u h b a s =
    let v = uid_longer r q elements more u b a s in
    let same = other_leaf elements tag vr value (sym (ap (λ (x : Bool). x && is_tag 2 0x10 tag) u.found) ∙ h) in
    record {
      found = v.found ∙ ap not (sym same.0);
      uid = v.uid ∙ ap without_pads (sym same.1);
      size = v.size ∙ ap (λ (x : List ℕ). length (without_pads x)) (sym same.1);
      within = v.within;
    }

here : (q : Reading) (elements : Trees) (tag : Tag) (vr : Vr) (value : List ℕ) (at : ℕ) → has_syntax elements ≡ false → is_tag 2 0x10 tag ≡ true → q.uid_at ≡ at → 0 < at → q.uid_size ≡ length (without_pads value)
    → drop at q.bytes ≡ value → at ≤ length q.bytes → UidIs q (with_leaf elements tag vr value)
here q elements tag vr value at none is a some s d le =
    let first = first_leaf_syntax elements tag vr value none is in
    let left = length-drop at q.bytes in
    let value_size = ap length d in
    let short = pads_short value in
    record {
      found = ne_eqb q.uid_at 0 (λ e. omega arith) ∙ ap not (sym first.0);
      uid = (λ i. take (s i) (drop (a i) q.bytes)) ∙ ap (take (length (without_pads value))) d ∙ pads_front value ∙ ap without_pads (sym first.1);
      size = s ∙ ap (λ (x : List ℕ). length (without_pads x)) (sym first.1);
      within = omega arith;
    }

uid_cases : (r : Reading) (p : List ℕ) (byte : ℕ) (w : Within r p) (tag : Tag) (vr : Vr) (head size : ℕ) → length (w.rest ++ byte ∷ []) ≡ head + size
    → {D : Type 0}
    → ((z : Reading) → at_place (record r { bytes = r.bytes ++ byte ∷ [] }) (an_element tag vr head size) ≡ z → z.bytes ≡ r.bytes ++ byte ∷ [] → z.place ≡ r.place + head + size → z.end ≡ None
    → UidIs z (with_leaf w.elements tag vr (drop head (w.rest ++ byte ∷ []))) → D)
    → D
uid_cases r p byte w tag vr head size all {D} make =
    let q : Reading = record r { bytes = r.bytes ++ byte ∷ [] } in
    let value : List ℕ = drop head (w.rest ++ byte ∷ []) in
    let there : drop (r.place + head) q.bytes ≡ value = sym (drop-drop head r.place q.bytes) ∙ ap (drop head) (dropped r p byte w) in
    let left = length-drop head (w.rest ++ byte ∷ []) in
    let whole : take size (drop (r.place + head) q.bytes) ≡ value = ap (take size) there ∙ take_all size value (omega arith) in
    let first : Reading = record { bytes = q.bytes; place = r.place + head + size; uid_at = r.place + head; uid_size = length (without_pads (take size (drop (r.place + head) q.bytes))); end = r.end } in
    let other : Reading = record { bytes = q.bytes; place = r.place + head + size; uid_at = r.uid_at; uid_size = r.uid_size; end = r.end } in
    let place_is = w.place_is in
    let ends = length-drop r.place q.bytes in
    let same = ap length (dropped r p byte w) in
    let count = length-append w.rest (byte ∷ []) in
    let go : (b : Bool) → is_first_syntax r.uid_at tag ≡ b → D =
    λ b. elim b as (λ (b : Bool). is_first_syntax r.uid_at tag ≡ b → D) [
      | true ↦ λ h.
          let t = and_parts (nat_eq r.uid_at 0) (is_tag 2 0x10 tag) h in
          let none : has_syntax w.elements ≡ false = not_true (has_syntax w.elements) (sym w.uid.found ∙ t.0) in
          make first (ap (λ (x : Bool). cond x first other) h) refl refl w.going
          (here first w.elements tag vr value (r.place + head) none t.1 refl (omega arith) (ap (λ (x : List ℕ). length (without_pads x)) whole) there (omega arith))
      | false ↦ λ h.
          make other (ap (λ (x : Bool). cond x first other) h) refl refl w.going
          (elsewhere r other w.elements (byte ∷ []) tag vr value w.uid h refl refl refl)
    ] in
    go (is_first_syntax r.uid_at tag) refl

element_more : (r : Reading) (p : List ℕ) (byte : ℕ) (w : Within r p) (tag : Tag) (vr : Vr) (head size : ℕ) → group_place (length w.group) (w.rest ++ byte ∷ []) ≡ an_element tag vr head size → Described (meta_step r byte) (p ++ byte ∷ [])
element_more r p byte w tag vr head size h =
    let q : Reading = record r { bytes = r.bytes ++ byte ∷ [] } in
    let own : List ℕ = w.rest ++ byte ∷ [] in
    let is = element_tells (length w.group) own tag vr head size h in
    let exact = element_exact (length w.group) w.rest byte tag vr head size w.waits h in
    let count = length-append w.rest (byte ∷ []) in
    let all : length own ≡ head + size = omega arith in
    let value : List ℕ = drop head own in
    let l = leaf_of (length w.group) own tag vr head size is all in
    let sizes = length-append w.group own in
    let fits = is.fits in
    let place_is = w.place_is in
    let at_end : r.place + head + size ≡ 132 + length (w.group ++ own) = omega arith in
    let parts : p ++ byte ∷ [] ≡ w.preamble ++ (PREFIX ++ ((w.group ++ own) ++ [])) =
    ap (λ (x : List ℕ). x ++ byte ∷ []) w.parts ∙ parts_more w.preamble w.group w.rest byte ∙ ap (λ (x : List ℕ). w.preamble ++ (PREFIX ++ x)) (sym (append-nil (w.group ++ own))) in
    let two : tag.group ≡ 2 = sym (ap (λ (t : Tag). t.group) is.tag_is) ∙ is.meta in
    let make : (z : Reading) → at_place q (an_element tag vr head size) ≡ z → z.bytes ≡ r.bytes ++ byte ∷ [] → z.place ≡ r.place + head + size → z.end ≡ None → UidIs z (with_leaf w.elements tag vr value) → Described (meta_step r byte) (p ++ byte ∷ []) =
    λ z leads b a e u.
    subst (λ (x : Reading). Described x (p ++ byte ∷ [])) (sym (step_within r p byte w ∙ ap (at_place q) h ∙ leads)) (within (record {
      preamble = w.preamble;
      group = w.group ++ own;
      rest = [];
      elements = with_leaf w.elements tag vr value;
      parts = parts;
      long = w.long;
      spelled = spelled_more w.elements w.group own tag vr value w.meta w.spelled l;
      meta = meta_more w.elements tag vr value w.meta two;
      limit = omega arith;
      place_is = a ∙ at_end;
      bytes_is = b ∙ ap (λ (x : List ℕ). x ++ byte ∷ []) w.bytes_is;
      going = e;
      waits = inl refl;
      uid = u;
    })) in
    uid_cases r p byte w tag vr head size all make

within_more : (r : Reading) (p : List ℕ) (byte : ℕ) → Within r p → Described (meta_step r byte) (p ++ byte ∷ [])
within_more r p byte w =
    let go : (q : GroupPlace) → group_place (length w.group) (w.rest ++ byte ∷ []) ≡ q → Described (meta_step r byte) (p ++ byte ∷ []) =
    λ q. elim q as (λ (q : GroupPlace). group_place (length w.group) (w.rest ++ byte ∷ []) ≡ q → Described (meta_step r byte) (p ++ byte ∷ [])) [
      | an_element tag vr head size ↦ λ h. element_more r p byte w tag vr head size h
      | the_end ↦ λ h. over_with r p byte w the_end h (λ e. cc) refl (some_rest (length w.group) w.rest byte the_end h (λ e. cc)) refl
      | too_few ↦ λ h. cut_more r p byte w h
      | a_fault fault ↦ λ h. over_with r p byte w (a_fault fault) h (λ e. cc) refl (some_rest (length w.group) w.rest byte (a_fault fault) h (λ e. cc)) refl
    ] in
    go (group_place (length w.group) (w.rest ++ byte ∷ [])) refl

pub described_step : (r : Reading) (p : List ℕ) (byte : ℕ) → Described r p → Described (meta_step r byte) (p ++ byte ∷ [])
described_step r p byte (before few is) = subst (λ (x : Reading). Described (meta_step x byte) (p ++ byte ∷ [])) (sym is) (before_more p byte few)
described_step r p byte (within w) = within_more r p byte w
described_step r p byte (no_file n) = no_file_more r p byte n
described_step r p byte (over o) = over_more r p byte o

described_on : (bytes : List ℕ) (r : Reading) (p : List ℕ) → Described r p → Described (fold meta_step r bytes) (p ++ bytes)
described_on [] r p d = subst (Described r) (sym (append-nil p)) d
described_on (b ∷ bytes) r p d =
    subst (Described (fold meta_step (meta_step r b) bytes)) (append_assoc p (b ∷ []) bytes) (described_on bytes (meta_step r b) (p ++ b ∷ []) (described_step r p b d))

pub described : (file : List ℕ) → Described (fold meta_step at_start file) file
described file = described_on file at_start [] (before (omega arith) refl)
