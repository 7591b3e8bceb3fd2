-- Nothing of what is taken out of a file is in the answer to it.
use Rattle.std.proofs.Common.{◌≡◌, ◌∙◌, ap, sym, subst, refl, ℕ, ◌+◌, ℤ, arith, List, [], ◌++◌, Bool, true, false, ◌||◌, Option, None, Some}
use Rattle.std.specs.Prelude.{if◌then◌else◌, ◌&&◌}
use Rattle.dcm_base.specs.declared.syntax.Coding.{Coding}
use Rattle.dcm_base.specs.declared.syntax.Syntax.{Syntax}
use Rattle.dcm_base.specs.declared.tag.Tag.{Tag}
use Rattle.dcm_base.specs.declared.vr.Vr.{Vr}
use Rattle.dcm_base.specs.declared.dictionary.Dictionary.TheVariants.{Standard}
use Rattle.dcm_base.specs.Conversion.NewMeta.{leaf_if, new_meta, renewed}
use Rattle.dcm_base.specs.Conversion.Recode.{recode}
use Rattle.dcm_base.specs.File.MetaReads.{Meta, PREFIX, syntax_value}
use Rattle.dcm_base.specs.Lines.Build.{usable}
use Rattle.dcm_base.specs.Tables.Syntax.{coding_by}
use Rattle.dcm_base.specs.Tables.Tag.{is_tag}
use Rattle.dcm_base.specs.Tables.Transfer.{without_pads}
use Rattle.dcm_base.specs.Tree.Front.{Front}
use Rattle.dcm_base.specs.Tree.Tree.{Trees, no_tree, leaf, sequence, fragments}
use Rattle.dcm_build_laws.proofs.Rebuilds.FilesBuild.{headed}
use Rattle.dcm_uid.specs.Uid.{new_value, replaced}
use Rattle.dcm_deid.specs.Alike.{Alike, moving, vanished}
use Rattle.dcm_deid.specs.declared.fate.Depth.TheVariants.{Outermost}
use Rattle.dcm_deid.specs.declared.fate.Options.{Options}
use Rattle.dcm_deid.specs.declared.meta.MetaFate.{MetaFate}
use Rattle.dcm_deid.specs.declared.meta.MetaFate.TheVariants.{Remove, Keep, Uid}
use Rattle.dcm_deid.specs.Deidentify.{deidentified_set}
use Rattle.dcm_deid.specs.Emptied.{dates_emptied, emptied}
use Rattle.dcm_deid.specs.Fate.{fate_as}
use Rattle.dcm_deid.specs.Meta.{implementation, meta_fate, meta_renewing, no_preamble, value_by_fate}
use Rattle.dcm_deid.specs.Pixels.{may_show}
use Rattle.dcm_deid.specs.MadeNew.{made_new}
use Rattle.dcm_deid.specs.Saying.{deidentified, said, whole_of}
use Rattle.dcm_deid.proofs.Trees.Again.{nothing_flows}
use Rattle.dcm_deid.proofs.Trees.Vanished.{by_left}
use Rattle.dcm_deid.proofs.Trees.Unnamed.{same_unnamed}
use Rattle.dcm_deid.specs.Unnamed.{names_nobody}
use Rattle.dcm_base.specs.Lines.Ascending.{FrontAscends}
use Rattle.dcm_base.specs.Reading.Bars.{identity_bar}
use Rattle.dcm_base.specs.Reading.Stop.{complete}
use Rattle.dcm_editor.proofs.ReadBack.EditReads.{shown_whole}
use Rattle.dcm_editor.proofs.ReadBack.IdentityBar.{identity, identity_in_order}
use Rattle.dcm_cli.specs.declared.ending.Remarks.{Remarks}
use Rattle.dcm_cli.specs.Remarks.{remark_lines, remarks_at}
use Rattle.dcm_deid.proofs.Trees.Said.{nothing_flows_out, of_whole, same_said, set_with_all}
use Rattle.dcm_words.specs.Words.{Job, deidentify}
use Rattle.dcm_cli.specs.Answer.{Answer, answer, shows_identity, status_of_lines}
use Rattle.dcm_cli.specs.ErrorLines.{pixels_line}
use Rattle.dcm_run_laws.specs.Flows.{NothingFlows, leaves, meta_left, value_left}
use Rattle.dcm_cli.proofs.Passes.DeidentifyReads.{IsWhole, read_is_whole}
use Rattle.dcm_run_laws.proofs.ReadBack.ReadsAgain.{begins_within, read_of}

-- ---- the meta group

module _ (options : Options) where
  -- the transfer syntax stays
  stays_by : (a b c : Bool) (other : MetaFate) → c ≡ true → (if a || b || c then Keep else other) ≡ Keep
  stays_by true b true other h = refl
  stays_by false true true other h = refl
  stays_by false false true other h = refl
  stays_by a b false other h = absurd (let no : false ≡ true = h in cc)

  value_by : (left : Option (List ℕ)) (t : Bool) (tag : Tag) (vr : Vr) (value : List ℕ) (others rest : Trees) → is_tag 2 0x10 tag ≡ t → (t ≡ true → left ≡ Some value) → syntax_value others ≡ syntax_value rest
      → syntax_value (leaf_if left tag vr others) ≡ syntax_value (leaf tag vr value rest)
  value_by left true tag vr value others rest at stays same =
      ap (λ (l : Option (List ℕ)). syntax_value (leaf_if l tag vr others)) (stays refl) ∙ ap (λ (bs : List ℕ). if is_tag 2 0x10 tag then value else bs) same
  value_by None false tag vr value others rest at stays same = same ∙ sym (ap (λ (t : Bool). if t then value else syntax_value rest) at)
  value_by (Some v) false tag vr value others rest at stays same =
      ap (λ (t : Bool). if t then v else syntax_value others) at ∙ same ∙ sym (ap (λ (t : Bool). if t then value else syntax_value rest) at)

  syntax_left : (elements : Trees) → syntax_value (renewed (leaves options) no_tree elements) ≡ syntax_value elements
  syntax_left no_tree = refl
  syntax_left (leaf tag vr value rest) =
      value_by (leaves options tag vr value) (is_tag 2 0x10 tag) tag vr value (renewed (leaves options) no_tree rest) rest refl
      (λ e. ap (λ (f : MetaFate). value_left f value) (stays_by (is_tag 2 1 tag) (is_tag 2 2 tag) (is_tag 2 0x10 tag) _ e)) (syntax_left rest)
  syntax_left (sequence tag vr declared items rest) = syntax_left rest
  syntax_left (fragments tag vr values rest) = syntax_left rest

  -- the new values are known from what is left
  module _ (key : List ℕ) where
    abbrev from_left : MetaFate → List ℕ → Option (List ℕ)
    from_left Remove left = None
    from_left Keep left = Some left
    from_left Uid left = Some (replaced key left)

    abbrev anew : Tag → Vr → List ℕ → Option (List ℕ)
    anew tag vr left = from_left (meta_fate options tag) left

    leaf_anew : (fate : MetaFate) (tag : Tag) (vr : Vr) (value : List ℕ) (left rest : Trees) → meta_fate options tag ≡ fate → renewed anew implementation left ≡ rest
        → renewed anew implementation (leaf_if (value_left fate value) tag vr left) ≡ leaf_if (value_by_fate fate key value) tag vr rest
    unfolding new_value
    leaf_anew Remove tag vr value left rest at e = e
    leaf_anew Keep tag vr value left rest at e = ap (λ (f : MetaFate). leaf_if (from_left f value) tag vr (renewed anew implementation left)) at ∙ ap (leaf tag vr value) e
    leaf_anew Uid tag vr value left rest at e =
        ap (λ (f : MetaFate). leaf_if (from_left f (without_pads value)) tag vr (renewed anew implementation left)) at ∙ ap (leaf tag vr (replaced key (without_pads value))) e

    all_anew : (elements : Trees) → renewed anew implementation (renewed (leaves options) no_tree elements) ≡ renewed (meta_renewing options key) implementation elements
    all_anew no_tree = refl
    all_anew (leaf tag vr value rest) = leaf_anew (meta_fate options tag) tag vr value (renewed (leaves options) no_tree rest) _ refl (all_anew rest)
    all_anew (sequence tag vr declared items rest) = ap (sequence tag vr declared items) (all_anew rest)
    all_anew (fragments tag vr values rest) = ap (fragments tag vr values) (all_anew rest)

    pub group_alike : (m n : Meta) → meta_left options m ≡ meta_left options n → renewed (meta_renewing options key) implementation m.elements ≡ renewed (meta_renewing options key) implementation n.elements
    group_alike m n e = sym (all_anew m.elements) ∙ ap (renewed anew implementation) e ∙ all_anew n.elements

  pub syntax_alike : (m n : Meta) → meta_left options m ≡ meta_left options n → syntax_value m.elements ≡ syntax_value n.elements
  syntax_alike m n e = sym (syntax_left m.elements) ∙ ap syntax_value e ∙ syntax_left n.elements

-- ---- the data set

module _ (options : Options) (key : List ℕ) (d e : ℤ) (f g : Front) (v : IsWhole f) (w : IsWhole g) (rises : FrontAscends f) (ascends : FrontAscends g) (alike : Alike options Outermost d e (whole_of f) (whole_of g)) where
  abbrev one : Options
  one = moving options d

  abbrev two : Options
  two = moving options e

  abbrev without : Options → Front → Front
  without o x = deidentified o (made_new o key) x

  sets_alike : Alike options Outermost d e v.set w.set
  sets_alike = subst (λ (x : Front). Alike options Outermost d e v.set (whole_of x)) w.is (subst (λ (x : Front). Alike options Outermost d e (whole_of x) (whole_of g)) v.is alike)

  pub bytes_alike : (target : Syntax) → recode target (without one f) ≡ recode target (without two g)
  bytes_alike target =
      ap (λ (x : Front). recode target (without one x)) v.is ∙ nothing_flows_out options key target v.reached w.reached d e v.set w.set sets_alike
      ∙ ap (λ (x : Front). recode target (without two x)) (sym w.is)

  shows_set : (o : Options) (x : Front) (u : IsWhole x) → shows_identity o key x ≡ may_show (set_with_all (said o) (deidentified_set o (made_new o key) Outermost u.set))
  shows_set o x u = ap (shows_identity o key) u.is ∙ ap (λ (y : Front). may_show (whole_of y)) (of_whole o (made_new o key) u.reached u.set)

  pub shows_alike : shows_identity one key f ≡ shows_identity two key g
  shows_alike =
      shows_set one f v ∙ ap (λ (x : Trees). may_show (set_with_all (said one) x)) (nothing_flows options key Outermost d e v.set w.set sets_alike)
      ∙ ap (λ (news : List (Tag × Trees)). may_show (set_with_all news (deidentified_set two (made_new two key) Outermost w.set))) (same_said options d e)
      ∙ sym (shows_set two g w)

  -- as many dates have nothing left
  set_emptied : (o : Options) (x : Front) (u : IsWhole x) → dates_emptied o (made_new o key) x ≡ vanished o Outermost u.set
  unfolding dates_emptied
  set_emptied o x u =
      let all : ℕ = emptied (fate_as o) (made_new o key) Outermost u.set in
      let same : all + 0 ≡ all = omega arith in
      ap (dates_emptied o (made_new o key)) u.is ∙ same ∙ by_left o key (fate_as o) Outermost u.set

  pub emptied_alike : dates_emptied one (made_new one key) f ≡ dates_emptied two (made_new two key) g
  emptied_alike = set_emptied one f v ∙ sets_alike.same_vanished ∙ sym (set_emptied two g w)

  -- and PatientID of both names nobody, or of neither
  pub unnamed_alike : (options.pseudonyms && names_nobody f) ≡ (options.pseudonyms && names_nobody g)
  unnamed_alike =
      ap (λ (x : Front). options.pseudonyms && names_nobody x) v.is
      ∙ same_unnamed options d e v.reached w.reached None None v.set w.set options.pseudonyms refl (subst FrontAscends v.is rises).0 (subst FrontAscends w.is ascends).0 sets_alike
      ∙ sym (ap (λ (x : Front). options.pseudonyms && names_nobody x) w.is)

-- ---- the answer

abbrev answer_of : Remarks → (shows : Bool) → List ℕ → Answer
answer_of remarks shows output = record {
  output = output;
  lines = remark_lines remarks ++ (if shows then pixels_line else []);
  status = status_of_lines (if shows then pixels_line else []);
}

pub nothing_flows_in_answers : NothingFlows
nothing_flows_in_answers options reports key first second d e a b m n f g h k left alike =
    let one : Options = moving options d in
    let two : Options = moving options e in
    let job : Job = deidentify one reports key in
    let other : Job = deidentify two reports key in
    let r = read_of job first m h.coding f h.answers.source h.source_is h.answers.reads in
    let s = read_of other second n k.coding g k.answers.source k.source_is k.answers.reads in
    let v = read_is_whole h.coding.syntax _ _ f (begins_within first m r.group r.head.named r.head.head) r.set in
    let w = read_is_whole k.coding.syntax _ _ g (begins_within second n s.group s.head.named s.head.head) s.set in
    let rises = (shown_whole identity identity_bar identity_in_order h.coding.syntax _ _ f complete (begins_within first m r.group r.head.named r.head.head) r.set).ascends in
    let ascends = (shown_whole identity identity_bar identity_in_order k.coding.syntax _ _ g complete (begins_within second n s.group s.head.named s.head.head) s.set).ascends in
    let x = headed first m r.group r.head.named r.head.head in
    let y = headed second n s.group s.head.named s.head.head in
    let values : syntax_value m.elements ≡ syntax_value n.elements = syntax_alike options m n left in
    let uids : m.uid ≡ n.uid = x.uid_is ∙ ap (λ (bs : List ℕ). without_pads bs) values ∙ sym y.uid_is in
    let named : Some r.head.named ≡ Some s.head.named = sym x.names ∙ ap (λ (bs : List ℕ). usable (without_pads bs)) values ∙ y.names in
    let same_name : r.head.named ≡ s.head.named = cc in
    let codings : h.coding ≡ k.coding = r.head.coding_is ∙ ap (coding_by Standard) same_name ∙ sym s.head.coding_is in
    let groups = group_alike options key m n left in
    let header : Trees → List ℕ → List ℕ = λ elements uid. no_preamble ++ PREFIX ++ new_meta elements uid in
    let outputs : header (renewed (meta_renewing options key) implementation m.elements) m.uid ++ recode h.coding.syntax (deidentified one (made_new one key) f)
    ≡ header (renewed (meta_renewing options key) implementation n.elements) n.uid ++ recode k.coding.syntax (deidentified two (made_new two key) g) =
    ap (λ (t : Trees). header t m.uid ++ recode h.coding.syntax (deidentified one (made_new one key) f)) groups
    ∙ ap (λ (u : List ℕ). header (renewed (meta_renewing options key) implementation n.elements) u ++ recode h.coding.syntax (deidentified one (made_new one key) f)) uids
    ∙ ap (λ (c : Coding). header (renewed (meta_renewing options key) implementation n.elements) n.uid ++ recode c.syntax (deidentified one (made_new one key) f)) codings
    ∙ ap (λ (bs : List ℕ). header (renewed (meta_renewing options key) implementation n.elements) n.uid ++ bs) (bytes_alike options key d e f g v w rises ascends alike k.coding.syntax)
    in
    let shows : (reports && shows_identity one key f) ≡ (reports && shows_identity two key g) = ap (λ (b : Bool). reports && b) (shows_alike options key d e f g v w rises ascends alike) in
    let header_of : List ℕ → List ℕ = λ bs. header (renewed (meta_renewing options key) implementation n.elements) n.uid ++ bs in
    let remarks : Remarks = remarks_at job f in
    let also : Remarks = remarks_at other g in
    let same_remarks : remarks ≡ also =
    ap (λ (unnamed : Bool). record { unnamed = unnamed; emptied = dates_emptied one (made_new one key) f; unknown = false }) (unnamed_alike options key d e f g v w rises ascends alike)
    ∙ ap (λ (count : ℕ). record { unnamed = options.pseudonyms && names_nobody g; emptied = count; unknown = false }) (emptied_alike options key d e f g v w rises ascends alike)
    in
    h.answers.answer_is ∙ ap (answer job) h.source_is
    ∙ ap (answer_of remarks (reports && shows_identity one key f)) outputs
    ∙ ap (λ (b : Bool). answer_of remarks b (header_of (recode k.coding.syntax (deidentified two (made_new two key) g)))) shows
    ∙ ap (λ (r : Remarks). answer_of r (reports && shows_identity two key g) (header_of (recode k.coding.syntax (deidentified two (made_new two key) g)))) same_remarks
    ∙ sym (k.answers.answer_is ∙ ap (answer other) k.source_is)
