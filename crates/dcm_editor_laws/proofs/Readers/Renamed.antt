-- The normal form by another dictionary, of a normal form.
use Rattle.std.proofs.Common.{◌≡◌, ◌∙◌, ap, sym, refl, ℕ, List, [], ◌∷◌, length, map, Bool, true, false}
use Rattle.std.specs.Prelude.{if◌then◌else◌, ◌==◌}
use Rattle.dcm_lemmas.proofs.Choice.{if_false}
use Rattle.dcm_base.specs.declared.length.Length.TheVariants.{Undefined}
use Rattle.dcm_base.specs.declared.dictionary.Dictionary.{Dictionary}
use Rattle.dcm_base.specs.declared.syntax.Syntax.{Syntax}
use Rattle.dcm_base.specs.declared.syntax.Syntax.TheVariants.{Implicit as implicit_in, Little as little_in, Big as big_in}
use Rattle.dcm_base.specs.declared.tag.Tag.{Tag}
use Rattle.dcm_base.specs.declared.vr.Vr.{Vr}
use Rattle.dcm_base.specs.Tables.Dictionary.{vr_in}
use Rattle.dcm_base.specs.Tree.Front.{Front, front}
use Rattle.dcm_base.specs.Conversion.Normal.{normal, normal_front, normal_items, normal_sequence_vr, normal_value, normal_vr, whole_front}
use Rattle.dcm_base.specs.Tables.Representation.{pad}
use Rattle.dcm_base.specs.Tables.Syntax.{read_by, dictionary_of}
use Rattle.dcm_base.specs.Tree.Tree.{Trees, no_tree, leaf, sequence, fragments, Items, no_item, item}
use Rattle.dcm_base.specs.Tree.Value.{evened}
use Rattle.dcm_base.proofs.Conversions.NormalForm.{evened_same, evened_size, normal_once, dropped_own, items_alike}
use Rattle.dcm_base.specs.Bytes.Spelling.{dictionary_after}
use Rattle.dcm_editor_laws.proofs.Readers.NormalForms.{little_alike, big_alike}

-- ---- an implicit one

module _ (d e : Dictionary) where
  value_again : (t : Tag) (vr : Vr) (v : List ℕ) → evened (pad (vr_in d t)) (evened (pad vr) v) ≡ evened (pad vr) v
  value_again t vr v = evened_same (pad (vr_in d t)) (evened (pad vr) v) (length v) (evened_size (pad vr) v)

  fragments_again : (values : List (List ℕ)) → map (evened 0) (map (evened 0) values) ≡ map (evened 0) values
  fragments_again [] = refl
  fragments_again (v ∷ values) = both (evened_same 0 (evened 0 v) (length v) (evened_size 0 v)) (fragments_again values)
    where
      both : {a b : List ℕ} {c d : List (List ℕ)} → a ≡ b → c ≡ d → a ∷ c ≡ b ∷ d
      both h k = cc

-- what is dropped from the first is dropped from both
kept_again : (e k : Dictionary) (t : Tag) (g : Bool) (tree other again : Trees → Trees) (more rest : Trees) → (t.element == 0) ≡ g
    → normal (implicit_in e) (tree more) ≡ (if t.element == 0 then normal (implicit_in k) more else again (normal (implicit_in k) more))
    → ((r : Trees) → again r ≡ other r) → ((t.element == 0) ≡ true → k ≡ e) → normal (implicit_in k) more ≡ rest → normal (implicit_in e) (if g then more else tree more) ≡ (if g then rest else other rest)
kept_again e k t true tree other again more rest is n same own h = ap (λ (x : Dictionary). normal (implicit_in x) more) (sym (own is)) ∙ h
kept_again e k t false tree other again more rest is n same own h = n ∙ if_false (t.element == 0) _ _ is ∙ ap again h ∙ same rest

implicit_same : (d e : Dictionary) → (let s : Syntax = implicit_in d in s ≡ implicit_in e) → d ≡ e
implicit_same d e h = ap dictionary_of h

mutual
  unfolding normal

  implicit_again : (d e : Dictionary) (x : Trees) → normal (implicit_in e) (normal (implicit_in d) x) ≡ normal (implicit_in e) x
  implicit_again d e no_tree = refl
  implicit_again d e (leaf t vr v rest) =
      let y : List ℕ = evened (pad vr) v in
      let d2 : Dictionary = dictionary_after d t (vr_in d t) y in
      let e2 : Dictionary = dictionary_after e t (vr_in e t) y in
      let same : evened (pad (vr_in d t)) y ≡ y = value_again d e t vr v in
      kept_again e e2 t (t.element == 0) (leaf t (vr_in d t) y) (leaf t (vr_in e t) y) (leaf t (vr_in e t) (evened (pad (vr_in d t)) y)) (normal (implicit_in d2) rest) (normal (implicit_in e2) rest) refl
      (ap (λ (z : List ℕ). let k : Dictionary = dictionary_after e t (vr_in e t) z in if t.element == 0 then normal (implicit_in k) (normal (implicit_in d2) rest) else leaf t (vr_in e t) (evened (pad (vr_in d t)) y) (normal (implicit_in k) (normal (implicit_in d2) rest))) same)
      (λ r. ap (λ (u : List ℕ). leaf t (vr_in e t) u r) same) (λ g. implicit_same e2 e (dropped_own (implicit_in e) t (vr_in e t) y g)) (implicit_again d2 e2 rest)
  implicit_again d e (sequence t vr size items rest) =
      let inner = implicit_items_again d e items in
      kept_again e e t (t.element == 0) (sequence t (vr_in d t) Undefined (normal_items (implicit_in d) items)) (sequence t (vr_in e t) Undefined (normal_items (implicit_in e) items))
      (sequence t (vr_in e t) Undefined (normal_items (implicit_in e) (normal_items (implicit_in d) items))) (normal (implicit_in d) rest) (normal (implicit_in e) rest) refl
      refl (λ r. ap (λ (i : Items). sequence t (vr_in e t) Undefined i r) inner) (λ g. refl) (implicit_again d e rest)
  implicit_again d e (fragments t vr values rest) =
      kept_again e e t (t.element == 0) (fragments t vr (map (evened 0) values)) (fragments t vr (map (evened 0) values)) (fragments t vr (map (evened 0) (map (evened 0) values))) (normal (implicit_in d) rest) (normal (implicit_in e) rest) refl
      refl (λ r. ap (λ (vs : List (List ℕ)). fragments t vr vs r) (fragments_again d e values)) (λ g. refl) (implicit_again d e rest)

  implicit_items_again : (d e : Dictionary) (x : Items) → normal_items (implicit_in e) (normal_items (implicit_in d) x) ≡ normal_items (implicit_in e) x
  implicit_items_again d e no_item = refl
  implicit_items_again d e (item size set rest) = items_alike _ _ _ _ (implicit_again d e set) (implicit_items_again d e rest)

again_by : (e : Dictionary) (s : Syntax) (x : Trees) → normal (read_by e s) (normal s x) ≡ normal (read_by e s) x
again_by e (implicit_in d) x = implicit_again d e x
again_by e (little_in d) x = little_alike e d (normal (little_in d) x) ∙ normal_once (little_in d) x ∙ little_alike d e x
again_by e (big_in d) x = big_alike e d (normal (big_in d) x) ∙ normal_once (big_in d) x ∙ big_alike d e x

-- the normal form by a dictionary is that of the normal form by another
pub renamed : (e : Dictionary) (s : Syntax) (f : Front) → normal_front (read_by e s) (normal_front s f) ≡ normal_front (read_by e s) f
renamed e s (front whole o reached closed) = ap whole_front (again_by e s whole)
