-- The atoms of a meta group's elements, one after another.
use Rattle.std.proofs.Common.{◌≡◌, ◌∙◌, refl, ap, sym, subst, ℕ, ◌≤◌, length, List, [], ◌∷◌, ◌++◌, map, Option, Result, append_assoc, arith, if◌then◌else◌}
use Rattle.std.specs.Prelude.{fold, IsErr}
use Rattle.std.specs.Io.KnownBytes.{append_known}
use Rattle.std.proofs.lemmas.List.{append-nil}
use Rattle.std.proofs.lemmas.List.Sums.{fold-append}
use Rattle.dcm_lemmas.proofs.Options.{known_twice}
use Rattle.dcm_base.specs.declared.tag.Tag.{Tag}
use Rattle.dcm_base.specs.declared.vr.Vr.{Vr}
use Rattle.dcm_base.specs.declared.form.Form.{Form}
use Rattle.dcm_base.specs.declared.length.Length.TheVariants.{Known}
use Rattle.dcm_base.specs.Tables.Syntax.{Little}
use Rattle.dcm_base.specs.Tree.Tree.{Trees, no_tree, leaf, sequence, fragments}
use Rattle.dcm_base.specs.Bytes.Spelling.{Spells, TreesAt}
use Rattle.dcm_base.specs.File.MetaGroup.{AreMeta}
use Rattle.dcm_base.specs.Reading.Stop.{opens_list}
use Rattle.dcm_base.specs.Steps.Atoms.{Atom, opens, value_byte, closes_leaf, trees_then, ShowTrees}
use Rattle.dcm_base.specs.Steps.Steps.{outputs, Goes}
use Rattle.dcm_base.proofs.Writes.Runs.{outputs-append, goes_on, goes_failed}
use Rattle.dcm_base.proofs.DataSets.Shown.{trees_shown}
use Rattle.dcm_devices.specs.Device.{AppendsFront}
use Rattle.dcm_head.specs.Rewriting.{FirstIs, NoneIs}
use Rattle.dcm_sinks.specs.Laws.{StaysShallow, lists_behind}
use Rattle.dcm_stream.specs.Tokens.{leaf_atoms}
use Rattle.dcm_named.specs.Meta.{meta_atoms}

pub first_atoms : (tag : Tag) (vr : Vr) (value : List ℕ) (rest : Trees) → meta_atoms (leaf tag vr value rest) ≡ leaf_atoms tag vr value ++ meta_atoms rest
unfolding trees_then
first_atoms tag vr value rest = ap (λ (xs : List Atom). opens tag vr (Known (length value)) Little ∷ xs) (sym (append_assoc (map value_byte value) (closes_leaf ∷ []) (trees_then Little rest [])))

no_atoms : meta_atoms no_tree ≡ []
unfolding trees_then
no_atoms = refl

-- ---- they open no list

shallow_cons : (n m : ℕ) (a : Atom) (atoms : List Atom) → n ≤ 64 → lists_behind n a ≡ m → StaysShallow m atoms → StaysShallow n (a ∷ atoms)
shallow_cons n m a atoms le e h = λ first rest is. at_front first rest is
  where
    at_front : (first rest : List Atom) → a ∷ atoms ≡ first ++ rest → fold lists_behind n first ≤ 64
    at_front [] rest is = le
    at_front (x ∷ xs) rest is =
        let same : a ≡ x = cc in
        let others : atoms ≡ xs ++ rest = cc in
        subst (λ (k : ℕ). fold lists_behind k xs ≤ 64) (sym e ∙ ap (lists_behind n) same) (h xs rest others)

shallow_bytes : (v : List ℕ) (atoms : List Atom) → StaysShallow 0 atoms → StaysShallow 0 (map value_byte v ++ atoms)
shallow_bytes [] atoms h = h
shallow_bytes (b ∷ v) atoms h = shallow_cons 0 0 (value_byte b) (map value_byte v ++ atoms) (omega arith) refl (shallow_bytes v atoms h)

nothing_open : StaysShallow 0 []
nothing_open = λ first rest is. none first rest is
  where
    none : (first rest : List Atom) → [] ≡ first ++ rest → fold lists_behind 0 first ≤ 64
    none [] rest is = omega arith
    none (x ∷ xs) rest is = absurd (cc)

pub meta_shallow : (x : Trees) (bytes : List ℕ) → Spells Little x bytes → AreMeta x → StaysShallow 0 (meta_atoms x)
unfolding TreesAt AreMeta trees_then
meta_shallow no_tree bytes s m = nothing_open
meta_shallow (leaf tag vr value rest) bytes s m =
    shallow_cons 0 0 (opens tag vr (Known (length value)) Little) _ (omega arith) (ap (λ (f : Form). if opens_list f then 1 else 0) s.1)
    (shallow_bytes value (closes_leaf ∷ meta_atoms rest) (shallow_cons 0 0 closes_leaf (meta_atoms rest) (omega arith) refl (meta_shallow rest s.0 s.3 m.1)))
meta_shallow (sequence tag vr declared items rest) bytes s m = absurd m
meta_shallow (fragments tag vr values rest) bytes s m = absurd m

pub meta_shown : (x : Trees) (bytes : List ℕ) → Spells Little x bytes → ShowTrees x (meta_atoms x) []
meta_shown x bytes s = trees_shown Little x bytes [] [] s

-- ---- one after another

-- these bytes are left of the spelling of all elements, and the atoms of those before them were taken
pub record Left (rest : List ℕ) (all : Trees) : Type 0 where
  pub elements : Trees
  pub spelled : Spells Little elements rest
  pub meta : AreMeta elements
  pub gone : List Atom
  pub whole : gone ++ meta_atoms elements ≡ meta_atoms all

abbrev pub left_all : (group : List ℕ) (all : Trees) → Spells Little all group → AreMeta all → Left group all
left_all group all s m = record { elements = all; spelled = s; meta = m; gone = []; whole = refl }

abbrev pub left_more : (rest : List ℕ) (all : Trees) (tag : Tag) (vr : Vr) (value after : List ℕ) → Left rest all → FirstIs rest tag vr value after → Left after all
left_more rest all tag vr value after l first =
    let one = first.2 l.elements l.spelled l.meta in
    record {
      elements = one.0;
      spelled = one.2;
      meta = one.3;
      gone = l.gone ++ leaf_atoms tag vr value;
      whole =
          append_assoc l.gone (leaf_atoms tag vr value) (meta_atoms one.0)
          ∙ ap (λ (xs : List Atom). l.gone ++ xs) (sym (first_atoms tag vr value one.0))
          ∙ ap (λ (x : Trees). l.gone ++ meta_atoms x) (sym one.1)
          ∙ l.whole;
    }

pub left_none : (rest : List ℕ) (all : Trees) (l : Left rest all) → NoneIs rest → l.gone ≡ meta_atoms all
left_none rest all l none =
    let empty = none l.elements l.spelled l.meta in
    sym (append-nil l.gone) ∙ ap (λ (xs : List Atom). l.gone ++ xs) (sym no_atoms) ∙ ap (λ (x : Trees). l.gone ++ meta_atoms x) (sym empty) ∙ l.whole

-- one more was taken
pub left_taken : {S : Type 0} (step : S → Atom → S) (writes : S → Atom → List ℕ) (s m t : S) (held mid holds : Option (List ℕ)) (gone one given : List Atom) → given ≡ one → m ≡ fold step s gone → mid ≡ append_known held (outputs step writes s gone)
    → t ≡ fold step m given → holds ≡ append_known mid (outputs step writes m given) → (t ≡ fold step s (gone ++ one)) × (holds ≡ append_known held (outputs step writes s (gone ++ one)))
left_taken step writes s m t held mid holds gone one given same state bytes more went = (
  more ∙ ap (fold step m) same ∙ ap (λ u. fold step u one) state ∙ sym (fold-append step s gone one),
  went
      ∙ ap (λ (xs : List Atom). append_known mid (outputs step writes m xs)) same
      ∙ ap (λ (known : Option (List ℕ)). append_known known (outputs step writes m one)) bytes
      ∙ known_twice held (outputs step writes s gone) (outputs step writes m one)
      ∙ ap (λ u. append_known held (outputs step writes s gone ++ outputs step writes u one)) state
      ∙ ap (append_known held) (sym (outputs-append step writes s gone one)),
)

-- a failure at one of them
pub left_failed : {S T E : Type 0} (step : S → Atom → S) (writes : S → Atom → List ℕ) (s m t : S) (held mid holds : Option (List ℕ)) (rest : List ℕ) (all : Trees) (tag : Tag) (vr : Vr) (value after : List ℕ) (given : List Atom) (r : Result T E)
    → (l : Left rest all) → given ≡ leaf_atoms tag vr value → FirstIs rest tag vr value after → m ≡ fold step s l.gone → mid ≡ append_known held (outputs step writes s l.gone) → IsErr r
    → AppendsFront mid holds (outputs step writes m given) → Goes step writes s held t holds (meta_atoms all) r
left_failed step writes s m t held mid holds rest all tag vr value after given r l same first state bytes is went =
    let one = first.2 l.elements l.spelled l.meta in
    let whole : l.gone ++ (leaf_atoms tag vr value ++ meta_atoms one.0) ≡ meta_atoms all =
    ap (λ (xs : List Atom). l.gone ++ xs) (sym (first_atoms tag vr value one.0)) ∙ ap (λ (x : Trees). l.gone ++ meta_atoms x) (sym one.1) ∙ l.whole in
    subst (λ (xs : List Atom). Goes step writes s held t holds xs r) whole
    (goes_on step writes s held m mid t holds l.gone (leaf_atoms tag vr value ++ meta_atoms one.0) r state bytes
    (goes_failed step writes m mid t holds (leaf_atoms tag vr value) (meta_atoms one.0) r is (subst (λ (xs : List Atom). AppendsFront mid holds (outputs step writes m xs)) same went)))

-- all were taken
pub left_done : {S : Type 0} (step : S → Atom → S) (writes : S → Atom → List ℕ) (s t : S) (held holds : Option (List ℕ)) (rest : List ℕ) (all : Trees) (l : Left rest all) → NoneIs rest → t ≡ fold step s l.gone → holds ≡ append_known held (outputs step writes s l.gone)
    → (t ≡ fold step s (meta_atoms all)) × (holds ≡ append_known held (outputs step writes s (meta_atoms all)))
left_done step writes s t held holds rest all l none state bytes =
    let e = left_none rest all l none in
    (state ∙ ap (fold step s) e, bytes ∙ ap (λ (xs : List Atom). append_known held (outputs step writes s xs)) e)
