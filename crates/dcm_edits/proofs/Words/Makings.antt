-- Edits with their values.
use Rattle.std.proofs.Common.{◌≡◌, ℕ, List, [], ◌∷◌, ◌++◌, Result, Ok, Err, refl, ◌∙◌, ap}
use Rattle.dcm_base.specs.declared.tag.Tag.{Tag}
use Rattle.dcm_base.specs.declared.vr.Vr.{Vr}
use Rattle.dcm_base.specs.declared.fault.EditRefusal.{EditRefusal}
use Rattle.dcm_edits.specs.declared.edit.NewElement.{NewElement}
use Rattle.dcm_edits.specs.declared.fault.Failure.{Failure}
use Rattle.dcm_edits.specs.declared.fault.Failure.TheVariants.{Refused, Memory}
use Rattle.dcm_edits.specs.Edit.{PathEdit, insert, modify, Edit, on_path, modify_all}
use Rattle.dcm_edits.specs.EditWords.{◌>>=◌, Known, inserts, modifies, modifies_all, erases, item_or_element, on_steps, last_vr, valued_edit}
use Rattle.dcm_edits.specs.Making.{Makes, word_value, with_value, steps_to}
use Rattle.dcm_edits.specs.Meaning.{edit_of}
use Rattle.dcm_edits.proofs.Words.EditWordLemmas.{ok_is}
use Rattle.dcm_edits.proofs.Words.Steps.{steps_end, vr_end}

abbrev Element : Type 0
Element = Tag × Vr × List ℕ

abbrev element_of : {A : Type 0} → NewElement A → Element
element_of e = (e.tag, e.vr, e.value.items)

element_is : (r : Result (List ℕ) EditRefusal) (tag : Tag) (vr : Vr) (e : Element) → (r >>= λ v. Ok (tag, vr, v)) ≡ Ok e → (r ≡ Ok e.2) × (tag ≡ e.0) × (vr ≡ e.1)
element_is (Ok v) tag vr e p =
    let q : (let x : Element = (tag, vr, v) in x ≡ e) = ok_is (tag, vr, v) e p in
    (ap (λ (x : Element). Ok x.2) q, ap (λ (x : Element). x.0) q, ap (λ (x : Element). x.1) q)
element_is (Err u) tag vr e p = cc

element_failed : (r : Result (List ℕ) EditRefusal) (tag : Tag) (vr : Vr) (u : EditRefusal) → (let x : Result Element EditRefusal = (r >>= λ v. Ok (tag, vr, v)) in x ≡ Err u) → r ≡ Err u
element_failed (Ok v) tag vr u p = cc
element_failed (Err w) tag vr u p = cc

-- an edit with a value of this representation
abbrev valued : (List ℕ → Edit) → Vr → List ℕ → Result Edit EditRefusal
valued f vr text = word_value vr text >>= λ value. Ok (f value)

valued_made : (f : List ℕ → Edit) (vr : Vr) (k : Known) (text : List ℕ) (e : Element) → vr ≡ k.vr → with_value k.tag k.vr text ≡ Ok e → valued f vr text ≡ Ok (f e.2)
valued_made f vr k text e is p =
    ap (λ (x : Vr). valued f x text) is ∙ ap (λ r. r >>= λ value. Ok (f value)) (element_is (word_value k.vr text) k.tag k.vr e p).0

valued_failed : (f : List ℕ → Edit) (vr : Vr) (k : Known) (text : List ℕ) (u : EditRefusal) → vr ≡ k.vr → with_value k.tag k.vr text ≡ Err u → valued f vr text ≡ Err u
valued_failed f vr k text u is p =
    ap (λ (x : Vr). valued f x text) is ∙ ap (λ r. r >>= λ value. Ok (f value)) (element_failed (word_value k.vr text) k.tag k.vr u p)

failed : (A : Type 0) (f : List ℕ → Edit) (vr : Vr) (k : Known) (text : List ℕ) (failure : Failure) → vr ≡ k.vr → Makes (element_of {A = A}) (Err failure) (with_value k.tag k.vr text)
    → Makes (edit_of {A = A}) (Err failure) (valued f vr text)
failed A f vr k text (Refused u) is p = valued_failed f vr k text u is p
failed A f vr k text Memory is p = tt

pub insert_failed : (A : Type 0) (ks : List Known) (k : Known) (text : List ℕ) (failure : Failure) → Makes (element_of {A = A}) (Err failure) (with_value k.tag k.vr text)
    → Makes (edit_of {A = A}) (Err failure) (valued_edit inserts (ks ++ k ∷ []) text)
insert_failed A [] k text failure p = failed A (λ value. on_path (insert k.tag k.vr value)) k.vr k text failure refl p
insert_failed A (x ∷ ks) k text failure p =
    failed A (λ value. on_path (on_steps (λ y. insert y.tag y.vr value) x (ks ++ k ∷ []))) (last_vr x (ks ++ k ∷ [])) k text failure (vr_end x ks k) p

pub modify_failed : (A : Type 0) (ks : List Known) (k : Known) (text : List ℕ) (failure : Failure) → Makes (element_of {A = A}) (Err failure) (with_value k.tag k.vr text)
    → Makes (edit_of {A = A}) (Err failure) (valued_edit modifies (ks ++ k ∷ []) text)
modify_failed A [] k text failure p = failed A (λ value. on_path (modify k.tag k.vr value)) k.vr k text failure refl p
modify_failed A (x ∷ ks) k text failure p =
    failed A (λ value. on_path (on_steps (λ y. modify y.tag y.vr value) x (ks ++ k ∷ []))) (last_vr x (ks ++ k ∷ [])) k text failure (vr_end x ks k) p

put_alike : (at_end : Tag → Vr → List ℕ → PathEdit) (ks : List Known) (k : Known) (e : Element) → (k.tag ≡ e.0) × (k.vr ≡ e.1)
    → on_path (steps_to ks (at_end k.tag k.vr e.2)) ≡ on_path (steps_to ks (at_end e.0 e.1 e.2))
put_alike at_end ks k e p =
    ap (λ t. on_path (steps_to ks (at_end t k.vr e.2))) p.0 ∙ ap (λ v. on_path (steps_to ks (at_end e.0 v e.2))) p.1

-- on a path of one part
made_alone : (at_end : Tag → Vr → List ℕ → PathEdit) (k : Known) (text : List ℕ) (e : Element) → with_value k.tag k.vr text ≡ Ok e
    → valued (λ value. on_path (at_end k.tag k.vr value)) k.vr text ≡ Ok (on_path (at_end e.0 e.1 e.2))
made_alone at_end k text e p =
    let is = element_is (word_value k.vr text) k.tag k.vr e p in
    valued_made (λ value. on_path (at_end k.tag k.vr value)) k.vr k text e refl p ∙ ap Ok (put_alike at_end [] k e (is.1, is.2))

-- after parts that lead to it
made_after : (at_end : Tag → Vr → List ℕ → PathEdit) (x : Known) (ks : List Known) (k : Known) (text : List ℕ) (e : Element) → with_value k.tag k.vr text ≡ Ok e
    → valued (λ value. on_path (on_steps (λ y. at_end y.tag y.vr value) x (ks ++ k ∷ []))) (last_vr x (ks ++ k ∷ [])) text ≡ Ok (on_path (steps_to (x ∷ ks) (at_end e.0 e.1 e.2)))
made_after at_end x ks k text e p =
    let is = element_is (word_value k.vr text) k.tag k.vr e p in
    valued_made (λ value. on_path (on_steps (λ y. at_end y.tag y.vr value) x (ks ++ k ∷ []))) (last_vr x (ks ++ k ∷ [])) k text e (vr_end x ks k) p
    ∙ ap (λ (s : PathEdit). Ok (on_path s)) (steps_end (λ y. at_end y.tag y.vr e.2) x ks k)
    ∙ ap Ok (put_alike at_end (x ∷ ks) k e (is.1, is.2))

pub inserted : {A : Type 0} (ks : List Known) (k : Known) (text : List ℕ) (e : NewElement A) → with_value k.tag k.vr text ≡ Ok (element_of e)
    → valued_edit inserts (ks ++ k ∷ []) text ≡ Ok (on_path (steps_to ks (insert e.tag e.vr e.value.items)))
inserted [] k text e p = made_alone (λ tag vr value. insert tag vr value) k text (element_of e) p
inserted (x ∷ ks) k text e p = made_after (λ tag vr value. insert tag vr value) x ks k text (element_of e) p

pub modified : {A : Type 0} (ks : List Known) (k : Known) (text : List ℕ) (e : NewElement A) → with_value k.tag k.vr text ≡ Ok (element_of e)
    → valued_edit modifies (ks ++ k ∷ []) text ≡ Ok (on_path (steps_to ks (modify e.tag e.vr e.value.items)))
modified [] k text e p = made_alone (λ tag vr value. modify tag vr value) k text (element_of e) p
modified (x ∷ ks) k text e p = made_after (λ tag vr value. modify tag vr value) x ks k text (element_of e) p

pub erased : (ks : List Known) (k : Known) (text : List ℕ) → valued_edit erases (ks ++ k ∷ []) text ≡ Ok (on_path (steps_to ks (item_or_element k.tag k.index)))
erased [] k text = refl
erased (x ∷ ks) k text = ap (λ (p : PathEdit). Ok (on_path p)) (steps_end (λ y. item_or_element y.tag y.index) x ks k)

pub modified_all : {A : Type 0} (ks : List Known) (k : Known) (text : List ℕ) (e : NewElement A) → ks ≡ [] → with_value k.tag k.vr text ≡ Ok (element_of e)
    → valued_edit modifies_all (ks ++ k ∷ []) text ≡ Ok (modify_all e.tag e.vr e.value.items)
modified_all [] k text e p q =
    let is = element_is (word_value k.vr text) k.tag k.vr (element_of e) q in
    valued_made (λ value. modify_all k.tag k.vr value) k.vr k text (element_of e) refl q
    ∙ ap (λ t. Ok (modify_all t k.vr e.value.items)) is.1
    ∙ ap (λ v. Ok (modify_all e.tag v e.value.items)) is.2
modified_all (x ∷ ks) k text e p q = cc
