-- What the lines of a dump mean has the form that it says.
use Rattle.std.proofs.Common.{◌≡◌, refl, ℕ, List, cond, Option, Some, None, Bool, true, false, ◌&&◌}
use Rattle.std.specs.Prelude.{codes, bytes_eq}
use Rattle.dcm_lemmas.proofs.Truth.{and_first}
use Rattle.dcm_base.specs.declared.tag.Tag.{Tag}
use Rattle.dcm_base.specs.declared.vr.Vr.{Vr}
use Rattle.dcm_base.specs.declared.vr.Vr.TheVariants.{SQ, UN, OB, OW}
use Rattle.dcm_base.specs.Tables.Syntax.{Little}
use Rattle.dcm_base.specs.declared.length.Length.TheVariants.{Known, Undefined}
use Rattle.dcm_base.specs.declared.form.Form.TheVariants.{Value as a_value, Sequence as a_sequence, FragmentList as a_fragment_list}
use Rattle.dcm_base.specs.Lines.Build.{lacks_value}
use Rattle.dcm_base.specs.Bytes.Spelling.{form}
use Rattle.dcm_base.specs.Tables.Tag.{is_item, is_item_end, is_sequence_end}
use Rattle.dcm_base.specs.Lines.ReadValue.{value_of_text}
use Rattle.dcm_base.specs.Tables.Representation.{vr_of}
use Rattle.dcm_base.specs.Lines.Line.{Step, show_leaf, begin_sequence, begin_fragments, begin_item, show_fragment, end_item, end_sequence, Meaning, nothing, one, by_characters, no_line, is_marked, comment_meaning, means, with_value, only_where, value_field, is_skipped, begins, item_meaning, element_meaning, may_be_sequence, may_be_fragments, is_item_group, Parts, parts, meaning_of}
use Rattle.dcm_build.proofs.Files.Shows.{HasForm}

abbrev pub MeansForm : Meaning → Type 0
MeansForm nothing = Unit {0}
MeansForm (one step) = HasForm step
MeansForm by_characters = Unit {0}
MeansForm no_line = Unit {0}

either : (b : Bool) (m n : Meaning) → MeansForm m → MeansForm n → MeansForm (cond b m n)
either true m n h k = h
either false m n h k = k

where_true : (b : Bool) (m n : Meaning) → (b ≡ true → MeansForm m) → MeansForm n → MeansForm (cond b m n)
where_true true m n h k = h refl
where_true false m n h k = k

value_form : (show : List ℕ → Step) (cs : List ℕ) → ((v : List ℕ) → HasForm (show v)) → MeansForm (with_value show cs)
value_form show cs h = either (is_skipped (value_field cs).rest) (one (show (value_field cs).value)) no_line (h (value_field cs).value) tt

leaf_form : (tag : Tag) (vr : Vr) (o : Option (List ℕ)) → ((n : ℕ) → form Little vr (Known n) ≡ a_value) → HasForm (show_leaf tag vr o)
leaf_form tag vr None h = tt
leaf_form tag vr (Some v) h = h

text_form : (tag : Tag) (vr : Vr) (cs : List ℕ) → HasForm (show_leaf tag vr (value_of_text vr cs))
unfolding form
text_form tag SQ cs = tt
text_form tag vr cs = leaf_form tag vr (value_of_text vr cs) (λ n. refl)

-- a value that its text stands for is no sequence
pub leaf_has_form : (tag : Tag) (vr : Vr) (text : List ℕ) (n : ℕ) → lacks_value (show_leaf tag vr (value_of_text vr text)) ≡ false → form Little vr (Known n) ≡ a_value
leaf_has_form tag vr text n h = of_value (value_of_text vr text) (text_form tag vr text) h
  where
    of_value : (o : Option (List ℕ)) → HasForm (show_leaf tag vr o) → lacks_value (show_leaf tag vr o) ≡ false → form Little vr (Known n) ≡ a_value
    of_value None f h = absurd (let no : true ≡ false = h in cc)
    of_value (Some v) f h = f n

sequence_form : (vr : Vr) → may_be_sequence vr ≡ true → form Little vr Undefined ≡ a_sequence
unfolding form
sequence_form SQ h = refl
sequence_form UN h = refl
sequence_form vr h = absurd (let no : false ≡ true = h in cc)

list_form : (vr : Vr) → may_be_fragments vr ≡ true → form Little vr Undefined ≡ a_fragment_list
unfolding form
list_form OB h = refl
list_form OW h = refl
list_form vr h = absurd (let no : false ≡ true = h in cc)

element_form : (tag : Tag) (vr : Option Vr) (cs : List ℕ) → MeansForm (element_meaning tag vr cs)
element_form tag None cs = tt
element_form tag (Some vr) cs =
    let rest : Meaning = with_value (λ v. show_leaf tag vr (value_of_text vr v)) cs in
    let lists : Meaning = cond (may_be_fragments vr && begins (codes "(PixelSequence") cs) (one (begin_fragments tag vr)) rest in
    where_true (may_be_sequence vr && begins (codes "(Sequence with") cs) (one (begin_sequence tag vr)) lists (λ e. sequence_form vr (and_first (may_be_sequence vr) _ e))
    (where_true (may_be_fragments vr && begins (codes "(PixelSequence") cs) (one (begin_fragments tag vr)) rest (λ e. list_form vr (and_first (may_be_fragments vr) _ e))
    (value_form (λ v. show_leaf tag vr (value_of_text vr v)) cs (λ v. text_form tag vr v)))

item_form : (tag : Tag) (letters cs : List ℕ) → MeansForm (item_meaning tag letters cs)
item_form tag letters cs =
    let begun : Meaning = only_where (bytes_eq letters (codes "na") && begins (codes "(Item with") cs) begin_item in
    let ended : Meaning = only_where (bytes_eq letters (codes "na") && begins (codes "(ItemDelimitationItem") cs) end_item in
    let over : Meaning = only_where (is_sequence_end tag && bytes_eq letters (codes "na") && begins (codes "(SequenceDelimitationItem") cs) end_sequence in
    let later : Meaning = cond (is_item_end tag) ended over in
    either (is_item tag && bytes_eq letters (codes "pi")) (with_value (λ v. show_fragment (value_of_text OB v)) cs) (cond (is_item tag) begun later)
    (value_form (λ v. show_fragment (value_of_text OB v)) cs (λ v. tt))
    (either (is_item tag) begun later (either _ (one begin_item) no_line tt tt)
    (either (is_item_end tag) ended over (either _ (one end_item) no_line tt tt) (either _ (one end_sequence) no_line tt tt)))

meaning_form : (p : Option Parts) → MeansForm (meaning_of p)
meaning_form None = tt
meaning_form (Some p) = either (is_item_group p.tag) (item_meaning p.tag p.letters p.rest) (element_meaning p.tag (vr_of p.letters) p.rest) (item_form p.tag p.letters p.rest) (element_form p.tag (vr_of p.letters) p.rest)

pub means_form : (line : List ℕ) → MeansForm (means line)
means_form line = either (is_skipped line) (comment_meaning line) (meaning_of (parts line)) (either (is_marked line) by_characters nothing tt tt) (meaning_form (parts line))
