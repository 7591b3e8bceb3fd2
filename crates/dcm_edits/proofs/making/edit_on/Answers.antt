use Rattle.std.proofs.Common.{rules, ◌∷◌, [], ◌++◌, Ok, Err, map, sym, ◌∙◌, ap, subst}
use Rattle.dcm_edits.specs.declared.form.Kind.{Kind}
use Rattle.dcm_edits.specs.Edit.{on_path}
use Rattle.dcm_edits.specs.EditWords as words
use Rattle.dcm_edits.specs.Making.{known_as, kind_as, Makes, steps_to, is_of_all}
use Rattle.dcm_edits.specs.Meaning.{edit_of}
use Rattle.dcm_edits.proofs.Words.Makings.{inserted, modified, erased, modified_all, insert_failed, modify_failed}
use Rattle.dcm_edits.proofs.making.edit_on.Goals as goal

pub returns-in_err-element-in-Inserts : goal.returns-in_err-element-in-Inserts
returns-in_err-element-in-Inserts g c =
    let ks = map known_as c.args.leading.now in
    let k = known_as c.args.last in
    let kind = ap (λ (x : Kind). words.valued_edit (kind_as x) (ks ++ k ∷ []) c.args.text.now) c.in-Inserts.is in
    let none = insert_failed g.row.A.Denot ks k c.args.text.now c.in_err-element-in-Inserts.field-0.0 c.in_err-element-in-Inserts.ensures in
    let made = subst (Makes (edit_of {A = g.row.A.Denot}) (Err c.in_err-element-in-Inserts.field-0.0)) (sym kind) none in
    search rules

pub returns-in_ok-element-in-Inserts : goal.returns-in_ok-element-in-Inserts
returns-in_ok-element-in-Inserts g c =
    let ks = map known_as c.args.leading.now in
    let k = known_as c.args.last in
    let kind = ap (λ (x : Kind). words.valued_edit (kind_as x) (ks ++ k ∷ []) c.args.text.now) c.in-Inserts.is in
    let meant = kind ∙ inserted ks k c.args.text.now c.in_ok-element-in-Inserts.element c.in_ok-element-in-Inserts.ensures in
    subst (Makes edit_of c.on_path.result) (sym meant) c.on_path.ensures

pub returns-in_err-element-in-Modifies : goal.returns-in_err-element-in-Modifies
returns-in_err-element-in-Modifies g c =
    let ks = map known_as c.args.leading.now in
    let k = known_as c.args.last in
    let kind = ap (λ (x : Kind). words.valued_edit (kind_as x) (ks ++ k ∷ []) c.args.text.now) c.in-Modifies.is in
    let none = modify_failed g.row.A.Denot ks k c.args.text.now c.in_err-element-in-Modifies.field-0.0 c.in_err-element-in-Modifies.ensures in
    let made = subst (Makes (edit_of {A = g.row.A.Denot}) (Err c.in_err-element-in-Modifies.field-0.0)) (sym kind) none in
    search rules

pub returns-in_ok-element-in-Modifies : goal.returns-in_ok-element-in-Modifies
returns-in_ok-element-in-Modifies g c =
    let ks = map known_as c.args.leading.now in
    let k = known_as c.args.last in
    let kind = ap (λ (x : Kind). words.valued_edit (kind_as x) (ks ++ k ∷ []) c.args.text.now) c.in-Modifies.is in
    let meant = kind ∙ modified ks k c.args.text.now c.in_ok-element-in-Modifies.element c.in_ok-element-in-Modifies.ensures in
    subst (Makes edit_of c.on_path-in-Modifies.result) (sym meant) c.on_path-in-Modifies.ensures

pub returns-in-Erases : goal.returns-in-Erases
returns-in-Erases g c =
    let ks = map known_as c.args.leading.now in
    let k = known_as c.args.last in
    let kind = ap (λ (x : Kind). words.valued_edit (kind_as x) (ks ++ k ∷ []) c.args.text.now) c.in-Erases.is in
    let meant = kind ∙ erased ks k c.args.text.now ∙ ap (λ p. Ok (on_path (steps_to ks p))) (sym c.erasing.ensures) in
    subst (Makes edit_of c.on_path-in-Erases.result) (sym meant) c.on_path-in-Erases.ensures

pub returns-in_ok-new_element-in-ModifiesAll : goal.returns-in_ok-new_element-in-ModifiesAll
returns-in_ok-new_element-in-ModifiesAll g c =
    let ks = map known_as c.args.leading.now in
    let k = known_as c.args.last in
    let kind = ap (λ (x : Kind). words.valued_edit (kind_as x) (ks ++ k ∷ []) c.args.text.now) c.in-ModifiesAll.is in
    let alone = ap (map known_as) (c.requires (ap is_of_all c.in-ModifiesAll.is)) in
    kind ∙ modified_all ks k c.args.text.now c.in_ok-new_element-in-ModifiesAll.field-0 alone c.in_ok-new_element-in-ModifiesAll.ensures
