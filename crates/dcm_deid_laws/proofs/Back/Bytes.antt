-- What is written of a data set of which dates alone are made anew is bytes.
use Rattle.std.proofs.Common.{◌≡◌, ◌≢◌, sym, refl, subst, ℕ, ◌<◌, List, [], ◌∷◌, ◌++◌, length, Bool, true, false, arith, if◌then◌else◌}
use Rattle.std.specs.Prelude.{codes, nat_lt, ◌==◌, ◌%◌, replicate}
use Rattle.std.specs.List.{list_all}
use Rattle.std.specs.Int.{to_le_bytes, w32}
use Rattle.std.proofs.lemmas.Bool.{and_parts, ltb-true}
use Rattle.dcm_base.specs.declared.tag.Tag.{Tag}
use Rattle.dcm_base.specs.declared.vr.Vr.{Vr}
use Rattle.dcm_base.specs.declared.vr.Vr.TheVariants.{SQ}
use Rattle.dcm_base.specs.Conversion.NewMeta.{group_length, leaf_if, new_meta, new_elements, renewed, with_syntax, without_syntax}
use Rattle.dcm_base.specs.Tables.Representation.{is_text, letters, pad}
use Rattle.dcm_base.specs.Tables.Syntax.{Little}
use Rattle.dcm_base.specs.Tables.Tag.{below, is_tag}
use Rattle.dcm_base.specs.Tables.Transfer.{before_pads, is_pad, without_pads}
use Rattle.dcm_base.specs.File.MetaReads.{syntax_value}
use Rattle.dcm_base.specs.Tree.Tree.{Trees, no_tree, leaf, sequence, fragments, Items, no_item, item, then_trees}
use Rattle.dcm_base.specs.Tree.Value.{evened}
use Rattle.dcm_base.proofs.DumpsBack.Numbers.{Bytes-append}
use Rattle.dcm_base.proofs.DumpsBack.Texts.{Bytes}
use Rattle.dcm_editor.proofs.ReadBack.BytesRead.{EachBytes, HoldBytes, HoldsBytes}
use Rattle.dcm_editor_laws.proofs.ReadBack.BytesKept.{low_bytes, set_written, if_bytes, if_holds}
use Rattle.dcm_edits.specs.Edit.{has}
use Rattle.dcm_deid.specs.declared.fate.Fate.{Fate}
use Rattle.dcm_deid.specs.declared.fate.Fate.TheVariants.{Remove, Empty, Replace, Anew, Keep}
use Rattle.dcm_deid.specs.declared.fate.NewValue.{NewValue}
use Rattle.dcm_deid.specs.declared.fate.Options.{Options}
use Rattle.dcm_deid.specs.declared.fate.Temporal.{Temporal}
use Rattle.dcm_deid.specs.declared.fate.Temporal.TheVariants.{Removed, Full, Modified}
use Rattle.dcm_deid.specs.declared.fate.Depth.{Depth}
use Rattle.dcm_deid.specs.declared.fate.Depth.TheVariants.{Inside}
use Rattle.dcm_deid.specs.declared.fate.ReadAs.TheVariants.{AsBytes, AsItems}
use Rattle.dcm_deid.specs.declared.meta.MetaFate.{MetaFate}
use Rattle.dcm_deid.specs.declared.meta.MetaFate.TheVariants.{Remove as meta_goes, Keep as meta_stays, Uid as meta_new}
use Rattle.dcm_deid.specs.Fate.{are_left, fate_as}
use Rattle.dcm_deid.specs.Deidentify.{Renaming, dummy, value_by, leaf_by, sequence_by, fragments_by, deidentified_set, items_by_fate}
use Rattle.dcm_deid.specs.Meta.{implementation, meta_fate, meta_renewing, stays, value_by_fate}
use Rattle.dcm_deid.specs.Saying.{code_if, dates_became, dates_code, dates_meaning, methods, put_in, said}
use Rattle.dcm_deid.proofs.Trees.Said.{set_with, set_with_all}

-- ---- values

-- by a test of each
all_bytes : (v : List ℕ) → list_all (λ b. nat_lt b 256) v ≡ true → Bytes v
all_bytes [] e = tt
all_bytes (b ∷ v) e = let parts = and_parts (nat_lt b 256) (list_all (λ b. nat_lt b 256) v) e in (ltb-true b 256 parts.0, all_bytes v parts.1)

pad_byte : (c : Bool) → (if c then 32 else 0) < 256
pad_byte true = omega arith
pad_byte false = omega arith

padded_bytes : (vr : Vr) (v : List ℕ) → Bytes v → Bytes (evened (pad vr) v)
padded_bytes vr v h = if_bytes (length v % 2 == 0) v (v ++ pad vr ∷ []) h (Bytes-append v (pad vr ∷ []) h (pad_byte (is_text vr), tt))

dummy_small : (vr : Vr) → list_all (λ b. nat_lt b 256) (dummy vr) ≡ true
unfolding dummy
dummy_small SQ = refl
dummy_small vr = refl

before_bytes : (b : ℕ) (v : List ℕ) → b < 256 → Bytes v → Bytes (before_pads b v)
before_bytes b [] h k = if_bytes (is_pad b) [] (b ∷ []) tt (h, tt)
before_bytes b (next ∷ v) h k = (h, k)

unpadded_bytes : (v : List ℕ) → Bytes v → Bytes (without_pads v)
unfolding without_pads
unpadded_bytes [] h = tt
unpadded_bytes (b ∷ v) h = before_bytes b (without_pads v) h.0 (unpadded_bytes v h.1)

-- ---- data sets

-- what is made is bytes
abbrev pub MakesBytes : Options → (new : Renaming) → Type 0
MakesBytes options new = (depth : Depth) (t : Tag) (made : NewValue) (b : List ℕ) → fate_as options depth AsBytes t ≡ Anew made → Bytes (new made b)

module _ (options : Options) (new : Renaming) (makes : MakesBytes options new) where
  abbrev left : Depth → Trees → Trees
  left depth x = deidentified_set options new depth x

  abbrev items_left : Items → Items
  items_left x = items_by_fate (fate_as options) (value_by new) x

  leaf_holds : (depth : Depth) (fate : Fate) (t : Tag) (vr : Vr) (v : List ℕ) (rest : Trees) → fate_as options depth AsBytes t ≡ fate → Bytes v → HoldsBytes rest → HoldsBytes (leaf_by fate t vr (value_by new fate vr v) rest)
  leaf_holds depth Remove t vr v rest e h k = k
  leaf_holds depth Empty t vr v rest e h k = (tt, k)
  leaf_holds depth Replace t vr v rest e h k = (all_bytes (dummy vr) (dummy_small vr), k)
  leaf_holds depth (Anew made) t vr v rest e h k = (padded_bytes vr (new made (without_pads v)) (makes depth t made (without_pads v) e), k)
  leaf_holds depth Keep t vr v rest e h k = (h, k)

  sequence_holds : (fate : Fate) (t : Tag) (vr : Vr) (items : Items) (rest : Trees) → HoldBytes items → HoldsBytes rest → HoldsBytes (sequence_by fate t vr items rest)
  sequence_holds Remove t vr items rest h k = k
  sequence_holds Empty t vr items rest h k = (tt, k)
  sequence_holds Replace t vr items rest h k = (tt, k)
  sequence_holds (Anew made) t vr items rest h k = (tt, k)
  sequence_holds Keep t vr items rest h k = (h, k)

  list_holds : (fate : Fate) (t : Tag) (vr : Vr) (parts : List (List ℕ)) (rest : Trees) → EachBytes parts → HoldsBytes rest → HoldsBytes (fragments_by fate t vr parts rest)
  list_holds Remove t vr parts rest h k = k
  list_holds Empty t vr parts rest h k = k
  list_holds Replace t vr parts rest h k = k
  list_holds (Anew made) t vr parts rest h k = k
  list_holds Keep t vr parts rest h k = (h, k)

  mutual
    set_holds : (depth : Depth) (x : Trees) → HoldsBytes x → HoldsBytes (left depth x)
    set_holds depth no_tree h = tt
    set_holds depth (leaf t vr v rest) h = leaf_holds depth (fate_as options depth AsBytes t) t vr v (left depth rest) refl h.0 (set_holds depth rest h.1)
    set_holds depth (sequence t vr declared items rest) h = sequence_holds (fate_as options depth AsItems t) t vr (items_left items) (left depth rest) (items_hold items h.0) (set_holds depth rest h.1)
    set_holds depth (fragments t vr parts rest) h = list_holds (fate_as options depth AsBytes t) t vr parts (left depth rest) h.0 (set_holds depth rest h.1)

    items_hold : (x : Items) → HoldBytes x → HoldBytes (items_left x)
    items_hold no_item h = tt
    items_hold (item declared set rest) h = (set_holds Inside set h.0, items_hold rest h.1)

  -- ---- with what is put

  then_holds : (e x : Trees) → HoldsBytes e → HoldsBytes x → HoldsBytes (then_trees e x)
  then_holds no_tree x h k = k
  then_holds (leaf t vr v rest) x h k = (h.0, then_holds rest x h.1 k)
  then_holds (sequence t vr declared items rest) x h k = (h.0, then_holds rest x h.1 k)
  then_holds (fragments t vr parts rest) x h k = (h.0, then_holds rest x h.1 k)

  put_holds : (t : Tag) (e x : Trees) → HoldsBytes e → HoldsBytes x → HoldsBytes (put_in t e x)
  put_holds t e no_tree h k = h
  put_holds t e (leaf u vr v rest) h k = if_holds (below t u) _ _ (then_holds e (leaf u vr v rest) h k) (k.0, put_holds t e rest h k.1)
  put_holds t e (sequence u vr declared items rest) h k = if_holds (below t u) _ _ (then_holds e (sequence u vr declared items rest) h k) (k.0, put_holds t e rest h k.1)
  put_holds t e (fragments u vr parts rest) h k = if_holds (below t u) _ _ (then_holds e (fragments u vr parts rest) h k) (k.0, put_holds t e rest h k.1)

  abbrev AllHold : List (Tag × Trees) → Type 0
  AllHold [] = Unit {0}
  AllHold (one ∷ others) = HoldsBytes one.1 × AllHold others

  all_hold : (news : List (Tag × Trees)) (x : Trees) → AllHold news → HoldsBytes x → HoldsBytes (set_with_all news x)
  all_hold [] x h k = k
  all_hold (one ∷ others) x h k = all_hold others (set_with one x) h.1 (if_holds (has one.0 x) x (put_in one.0 one.1 x) k (put_holds one.0 one.1 x h.0 k))

  codes_hold : (b : Bool) (code meaning : List ℕ) (rest : Items) → Bytes code → Bytes meaning → HoldBytes rest → HoldBytes (code_if b code meaning rest)
  codes_hold true code meaning rest c m h = ((c, (all_bytes (codes "DCM") refl, (m, tt))), h)
  codes_hold false code meaning rest c m h = h

  code_bytes : (dates : Temporal) → Bytes (dates_code dates)
  code_bytes Removed = all_bytes (codes "113106") refl
  code_bytes Full = all_bytes (codes "113106") refl
  code_bytes (Modified days) = all_bytes (codes "113107") refl

  meaning_bytes : (dates : Temporal) → Bytes (dates_meaning dates)
  meaning_bytes Removed = all_bytes (codes "Retain Longitudinal Temporal Information Full Dates Option") refl
  meaning_bytes Full = all_bytes (codes "Retain Longitudinal Temporal Information Full Dates Option") refl
  meaning_bytes (Modified days) = all_bytes (codes "Retain Longitudinal Temporal Information Modified Dates Option") refl

  became_bytes : (dates : Temporal) → Bytes (dates_became dates)
  became_bytes Removed = all_bytes (codes "REMOVED") refl
  became_bytes Full = all_bytes (codes "UNMODIFIED") refl
  became_bytes (Modified days) = all_bytes (codes "MODIFIED") refl

  methods_hold : HoldBytes (methods options)
  methods_hold =
      codes_hold true (codes "113100") (codes "Basic Application Confidentiality Profile") _ (all_bytes (codes "113100") refl) (all_bytes (codes "Basic Application Confidentiality Profile") refl)
      (codes_hold (are_left options.dates) (dates_code options.dates) (dates_meaning options.dates) _ (code_bytes options.dates) (meaning_bytes options.dates)
      (codes_hold options.patient (codes "113108") (codes "Retain Patient Characteristics Option") _ (all_bytes (codes "113108") refl) (all_bytes (codes "Retain Patient Characteristics Option") refl)
      (codes_hold options.device (codes "113109") (codes "Retain Device Identity Option") _ (all_bytes (codes "113109") refl) (all_bytes (codes "Retain Device Identity Option") refl)
      (codes_hold options.uids (codes "113110") (codes "Retain UIDs Option") _ (all_bytes (codes "113110") refl) (all_bytes (codes "Retain UIDs Option") refl)
      (codes_hold options.institution (codes "113112") (codes "Retain Institution Identity Option") no_item (all_bytes (codes "113112") refl) (all_bytes (codes "Retain Institution Identity Option") refl) tt)))))

  said_hold : AllHold (said options)
  said_hold = ((all_bytes (codes "YES") refl, tt), ((all_bytes (codes "dcmtools dcmdeid, PS3.15 2021b") refl, tt), ((methods_hold, tt), ((became_bytes options.dates, tt), tt))))

  pub left_holds : (depth : Depth) (x : Trees) → HoldsBytes x → HoldsBytes (set_with_all (said options) (left depth x))
  left_holds depth x h = all_hold (said options) (left depth x) said_hold (set_holds depth x h)

-- ---- the group

module _ (options : Options) (key : List ℕ) (given : options.uids ≡ true) where
  kept_or : (a b c : Bool) → c ≡ true → (if a then meta_stays else if b then (if c then meta_stays else meta_new) else meta_goes) ≢ meta_new
  kept_or true b c e = λ k. cc
  kept_or false true true e = λ k. cc
  kept_or false true false e = absurd (cc)
  kept_or false false c e = λ k. cc

  one_renewed : (fate : MetaFate) (t : Tag) (vr : Vr) (v : List ℕ) (rest : Trees) → fate ≢ meta_new → Bytes v → HoldsBytes rest → HoldsBytes (leaf_if (value_by_fate fate key v) t vr rest)
  one_renewed meta_goes t vr v rest other h k = k
  one_renewed meta_stays t vr v rest other h k = (h, k)
  one_renewed meta_new t vr v rest other h k = absurd (other refl)

  renewed_holds : (x : Trees) → HoldsBytes x → HoldsBytes (renewed (meta_renewing options key) implementation x)
  renewed_holds no_tree h = (all_bytes (codes "2.25.313428391727201999114611669686557106709") refl, (all_bytes (codes "DCMTOOLS") refl, tt))
  renewed_holds (leaf t vr v rest) h = one_renewed (meta_fate options t) t vr v (renewed (meta_renewing options key) implementation rest) (kept_or (stays t) (is_tag 2 3 t) options.uids given) h.0 (renewed_holds rest h.1)
  renewed_holds (sequence t vr declared items rest) h = (h.0, renewed_holds rest h.1)
  renewed_holds (fragments t vr parts rest) h = (h.0, renewed_holds rest h.1)

  without_holds : (x : Trees) → HoldsBytes x → HoldsBytes (without_syntax x)
  without_holds no_tree h = tt
  without_holds (leaf t vr v rest) h = if_holds (is_tag 2 0x10 t) _ _ (without_holds rest h.1) (h.0, without_holds rest h.1)
  without_holds (sequence t vr declared items rest) h = (h.0, without_holds rest h.1)
  without_holds (fragments t vr parts rest) h = (h.0, without_holds rest h.1)

  with_holds : (uid : List ℕ) (x : Trees) → Bytes uid → HoldsBytes x → HoldsBytes (with_syntax uid x)
  with_holds uid no_tree u h = tt
  with_holds uid (leaf t vr v rest) u h = if_holds (is_tag 2 0x10 t) _ _ (u, without_holds rest h.1) (h.0, with_holds uid rest u h.1)
  with_holds uid (sequence t vr declared items rest) u h = (h.0, with_holds uid rest u h.1)
  with_holds uid (fragments t vr parts rest) u h = (h.0, with_holds uid rest u h.1)

  uid_bytes : (x : Trees) → HoldsBytes x → Bytes (syntax_value x)
  uid_bytes no_tree h = tt
  uid_bytes (leaf t vr v rest) h = if_bytes (is_tag 2 0x10 t) v (syntax_value rest) h.0 (uid_bytes rest h.1)
  uid_bytes (sequence t vr declared items rest) h = uid_bytes rest h.1
  uid_bytes (fragments t vr parts rest) h = uid_bytes rest h.1

  length_bytes : (n : ℕ) → Bytes (group_length n)
  unfolding letters
  length_bytes n = Bytes-append (2 ∷ 0 ∷ 0 ∷ 0 ∷ 85 ∷ 76 ∷ 4 ∷ 0 ∷ []) (to_le_bytes w32 n) (all_bytes (2 ∷ 0 ∷ 0 ∷ 0 ∷ 85 ∷ 76 ∷ 4 ∷ 0 ∷ []) refl) (low_bytes 0 4 n)

  pub group_bytes : (x : Trees) (uid : List ℕ) → HoldsBytes x → uid ≡ without_pads (syntax_value x) → Bytes (new_meta (renewed (meta_renewing options key) implementation x) uid)
  group_bytes x uid h is =
      let left : Trees = renewed (meta_renewing options key) implementation x in
      let named : Bytes uid = subst Bytes (sym is) (unpadded_bytes (syntax_value x) (uid_bytes x h)) in
      Bytes-append (group_length (length (new_elements left uid))) (new_elements left uid) (length_bytes _) (set_written Little (with_syntax uid left) (with_holds uid left named (renewed_holds x h)))

pub no_preamble_bytes : Bytes (replicate 128 0)
no_preamble_bytes = all_bytes (replicate 128 0) refl

pub prefix_bytes : Bytes (codes "DICM")
prefix_bytes = all_bytes (codes "DICM") refl
