-- The elements of a meta group, taken one after another.
use Rattle.std.proofs.Common.{◌≡◌, ◌∙◌, sym, ap, refl, ℕ, List, fold}
use Rattle.std.proofs.lemmas.List.Sums.{fold-append}
use Rattle.dcm_base.specs.declared.tag.Tag.{Tag}
use Rattle.dcm_base.specs.declared.vr.Vr.{Vr}
use Rattle.dcm_base.specs.Tables.Syntax.{Little}
use Rattle.dcm_base.specs.Tree.Tree.{Trees}
use Rattle.dcm_base.specs.Bytes.Spelling.{Spells}
use Rattle.dcm_base.specs.File.MetaGroup.{AreMeta}
use Rattle.dcm_head.specs.Rewriting.{FirstIs, NoneIs, OfElements}
use Rattle.dcm_table.specs.Meta.{element_atoms, meta_atoms}
use Rattle.dcm_table.specs.TableSink.{State, next, cleared}
use Rattle.dcm_table.proofs.EachSlot.{same_columns}

-- what is left of the elements leads from here to where all of them lead
pub record Left (first now : State) (elements : Trees) (rest : List ℕ) : Type 0 where
  pub trees : Trees
  pub spelled : Spells Little trees rest
  pub meta : AreMeta trees
  pub leads : fold next now (meta_atoms trees) ≡ fold next first (meta_atoms elements)

pub record MetaSoFar (first now : State) (group rest : List ℕ) : Type 0 where
  pub left : (elements : Trees) → Spells Little elements group → AreMeta elements → Left first now elements rest
  pub columns : cleared now ≡ cleared first

pub meta_none : (first : State) (group : List ℕ) → MetaSoFar first first group group
meta_none first group = record { left = λ elements spelled meta. record { trees = elements; spelled = spelled; meta = meta; leads = refl }; columns = refl }

pub meta_more : (first now new : State) (group rest after value : List ℕ) (tag : Tag) (vr : Vr) → MetaSoFar first now group rest → FirstIs rest tag vr value after → new ≡ fold next now (element_atoms tag vr value) → MetaSoFar first new group after
meta_more first now new group rest after value tag vr s is e = record {
  left = λ elements spelled meta.
      let l = s.left elements spelled meta in
      let f = is.2 l.trees l.spelled l.meta in
      record {
        trees = f.0;
        spelled = f.2;
        meta = f.3;
        leads =
            ap (λ (t : State). fold next t (meta_atoms f.0)) e
            ∙ sym (fold-append next now (element_atoms tag vr value) (meta_atoms f.0))
            ∙ ap (λ (t : Trees). fold next now (meta_atoms t)) (sym f.1)
            ∙ l.leads;
      };
  columns = ap cleared e ∙ same_columns (element_atoms tag vr value) now ∙ s.columns;
}

pub meta_all : (first now : State) (group rest : List ℕ) → MetaSoFar first now group rest → NoneIs rest → OfElements group (λ (elements : Trees). now ≡ fold next first (meta_atoms elements))
meta_all first now group rest s none = λ elements spelled meta.
    let l = s.left elements spelled meta in
    ap (λ (t : Trees). fold next now (meta_atoms t)) (sym (none l.trees l.spelled l.meta)) ∙ l.leads
