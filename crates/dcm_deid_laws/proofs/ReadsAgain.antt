-- What is written without identity reads back as its normal form.
use Rattle.std.proofs.Common.{◌≡◌, ◌∙◌, ap, sym, refl, subst, ℕ, ℤ, ◌+◌, ◌≤◌, List, [], length, None, Option, true, append-nil, Some, ◌∷◌, ◌++◌, Bool, false, arith, if◌then◌else◌}
use Rattle.std.specs.Prelude.{neg_ℤ}
use Rattle.dcm_base.specs.declared.dictionary.Dictionary.{Dictionary}
use Rattle.dcm_base.specs.declared.dictionary.Dictionary.TheVariants.{Extract, Standard}
use Rattle.dcm_base.specs.declared.syntax.Syntax.{Syntax}
use Rattle.dcm_base.specs.declared.tag.Tag.{Tag}
use Rattle.dcm_base.specs.Bytes.Spelling.{last_tag}
use Rattle.dcm_base.specs.Conversion.Normal.{normal, normal_front, whole_front}
use Rattle.dcm_base.specs.Conversion.Recode.{recode, recode_set}
use Rattle.dcm_base.specs.Reading.Bars.{ascending_bar, holds_identity, identity_bar, identity_fault, innermost_reached, target_bar}
use Rattle.dcm_base.specs.Reading.Reads.{INPUT_LIMIT, Reads}
use Rattle.dcm_base.specs.Reading.Stop.{Bar, HeadBar, Stop, complete, is_early_bar}
use Rattle.dcm_base.specs.Tables.Syntax.{read_by}
use Rattle.dcm_base.specs.Tree.Front.{Front}
use Rattle.dcm_base.specs.Tree.Tree.{Trees}
use Rattle.dcm_base.proofs.DataSets.OneAnswer.{reads_once}
use Rattle.dcm_base.proofs.DumpsBack.Texts.{Bytes, bytes_of}
use Rattle.dcm_base.proofs.DataSets.OwnSyntax.{own_reads}
use Rattle.dcm_sinks.proofs.ReadBack.RecodeReads.{IsReady, read_ready, source_whole}
use Rattle.dcm_editor_laws.proofs.ReadBack.BytesKept.{set_written}
use Rattle.dcm_editor_laws.proofs.ReadBack.EditedReads.{front_reads}
use Rattle.dcm_editor_laws.proofs.ReadBack.Plain.{plain, plain_fits, plain_read}
use Rattle.dcm_editor_laws.proofs.ReadBack.StaysReady.{FrontReady}
use Rattle.dcm_editor_laws.proofs.Readers.Bytes.{front_alike}
use Rattle.dcm_editor_laws.proofs.Readers.Opened.{front_ready_by, standard_opens}
use Rattle.dcm_deid.specs.Alike.{moving}
use Rattle.dcm_deid.specs.MadeNew.{made_new}
use Rattle.dcm_deid.specs.declared.fate.Options.{Options}
use Rattle.dcm_deid.specs.declared.fate.Depth.TheVariants.{Outermost}
use Rattle.dcm_deid.specs.declared.fate.ReadAs.TheVariants.{AsBytes}
use Rattle.dcm_deid.specs.Deidentify.{deidentified_set}
use Rattle.dcm_deid.specs.Fate.{fate_as}
use Rattle.dcm_deid_laws.specs.Laws.{MakesNothingAnew, MovesDatesAlone, left_moved}
use Rattle.dcm_deid.specs.Remains.{AreClean}
use Rattle.dcm_deid.specs.Saying.{deidentified, read_whole, said, unsaid, whole_of}
use Rattle.dcm_deid.proofs.Trees.Said.{of_whole, only_said_is_put, set_with_all}
use Rattle.dcm_deid_laws.specs.Clean.{NothingIsLeft, WrittenIsClean}
use Rattle.dcm_deid_laws.specs.Taken.{Takes}
use Rattle.dcm_deid_laws.proofs.Clean.{set_back, unsaid_clean}
use Rattle.dcm_deid_laws.proofs.Named.{AreNamed, spelled_named}
use Rattle.dcm_deid_laws.proofs.Back.Again.{left_there_again, moved_back_framed as set_framed}
use Rattle.dcm_deid_laws.proofs.Back.Bytes.{MakesBytes, left_holds}
use Rattle.dcm_deid_laws.proofs.Back.Dates.{made_bytes}
use Rattle.dcm_deid_laws.proofs.Back.Framed.{IsFramed}
use Rattle.dcm_deid_laws.proofs.Twice.Fates.{dates_alone}
use Rattle.dcm_deid_laws.proofs.Twice.Again.{Knows, twice}
use Rattle.dcm_deid_laws.proofs.Unsaid.{unsaid_normal}
use Rattle.dcm_base.specs.declared.fault.Fault.{Fault}
use Rattle.dcm_base.specs.declared.fault.Fault.TheVariants.{IdentityStays, NotAscending}
use Rattle.dcm_base.specs.Lines.Ascending.{FrontAscends}
use Rattle.dcm_base.specs.Steps.Atoms.{Atom, ends, front_atoms}
use Rattle.dcm_base.specs.Tables.Tag.{is_above}
use Rattle.dcm_stream.specs.Follows.{BarsAs}
use Rattle.dcm_stream.specs.Reading.{end_shows, finish, read_all}
use Rattle.dcm_stream.proofs.Steps.Follows.{answers}
use Rattle.dcm_sinks.proofs.ReadBack.Accepted.{AllAccepted, machine_accepted}
use Rattle.dcm_editor.proofs.ReadBack.BytesRead.{HoldsBytes, trees_read}
use Rattle.dcm_editor.proofs.ReadBack.ReadsAscend.{reads_ascend}
use Rattle.dcm_deid_laws.proofs.Allowed.{Passes, all_left_passes, identity_heads, normal_passes, read_passes}
use Rattle.dcm_deid_laws.proofs.IdentityReads.{identity_reads}
use Rattle.dcm_deid_laws.proofs.NotBarred.{less_barred, not_barred}
use Rattle.dcm_deid_laws.proofs.Ready.{left_ready, plain_ready}

-- ---- bars

heads_never_early : (b : Bool) → is_early_bar (if b then Some IdentityStays else None) ≡ false
heads_never_early true = refl
heads_never_early false = refl

free_head : (a : Bool) (fault : Option Fault) → (if a then fault else Some NotAscending) ≡ None → fault ≡ None
free_head true fault e = e
free_head false fault e = absurd (cc)

in_order : (a : Bool) (fault : Option Fault) → (if a then fault else Some NotAscending) ≡ None → (if a then None else Some NotAscending) ≡ None
in_order true fault e = refl
in_order false fault e = absurd (cc)

-- ---- what is left

module _ (options : Options) (key : List ℕ) (s : Syntax) (at : ℕ) (f : Front) (h : Takes options key s at f) where
  -- what is left
  abbrev left : Front
  left = deidentified options (made_new options key) f

  abbrev left_of : Trees → Trees
  left_of set = set_with_all (said options) (deidentified_set options (made_new options key) Outermost set)

  own : Reads (target_bar s) s h.start h.bytes f complete
  own = own_reads s h.start h.bytes f complete (not_barred identity_bar s h.start h.bytes f h.reads)

  in_plain : Reads (target_bar (plain s)) s h.start h.bytes f complete
  in_plain = plain_read s h.start h.bytes f complete own

  -- it was read whole
  pub was_ready : IsReady (plain s) f
  was_ready = read_ready (plain s) s h.start h.bytes f h.begins h.are_bytes in_plain (plain_fits s (target_bar (plain s)) h.start h.bytes f complete in_plain)

  pub left_is : (trees : Trees) → f ≡ whole_front trees → left ≡ read_whole (last_tag None trees) (left_of trees)
  left_is trees is = ap (deidentified options (made_new options key)) is ∙ of_whole options (made_new options key) (last_tag None trees) trees

  pub is_ready : FrontReady s left
  is_ready =
      let w = was_ready in
      subst (FrontReady s) (sym (left_is w.trees w.is)) (left_ready options key s h.by_standard w.trees w.ready, refl)

  is_plain : FrontReady (plain s) left
  is_plain =
      let w = was_ready in
      subst (FrontReady (plain s)) (sym (left_is w.trees w.is)) (plain_ready s 0 (left_of w.trees) (left_ready options key s h.by_standard w.trees w.ready), refl)

  -- by each dictionary
  ready_by : (e : Dictionary) → FrontReady (read_by e s) left
  ready_by e = front_ready_by e s left (standard_opens e s left h.by_standard is_ready) is_plain

  pub deidentified_reads : (e : Dictionary) → Reads (target_bar (read_by e s)) (read_by e s) at (recode s left) (normal_front (read_by e s) left) complete
  deidentified_reads e =
      let same : recode (read_by e s) left ≡ recode s left = front_alike e s s left is_ready in
      subst (λ (bytes : List ℕ). Reads (target_bar (read_by e s)) (read_by e s) at bytes (normal_front (read_by e s) left) complete) same
      (front_reads (read_by e s) at left (ready_by e) (subst (λ (bytes : List ℕ). at + length bytes ≤ INPUT_LIMIT) (sym same) h.within))

  own_again : Reads (target_bar s) s at (recode s left) (normal_front s left) complete
  own_again = front_reads s at left is_ready h.within

  -- ---- nothing that was taken is in it

  abbrev Clean : Trees → Type 0
  Clean set = AreClean (WrittenIsClean options key) (fate_as options) Outermost set

  left_unsaid : (trees : Trees) → unsaid (left_of trees) ≡ unsaid (deidentified_set options (made_new options key) Outermost trees)
  left_unsaid trees =
      sym (ap (λ (g : Front). unsaid (whole_of g)) (of_whole options (made_new options key) (last_tag None trees) trees)) ∙ only_said_is_put options (made_new options key) (last_tag None trees) trees

  back_is_clean : (trees : Trees) → AreNamed s trees → Clean (unsaid (normal s (left_of trees)))
  back_is_clean trees named =
      let set : Trees = deidentified_set options (made_new options key) Outermost trees in
      let same : unsaid (normal s set) ≡ unsaid (normal s (left_of trees)) = unsaid_normal s set ∙ ap (normal s) (sym (left_unsaid trees)) ∙ sym (unsaid_normal s (left_of trees)) in
      subst Clean same (unsaid_clean options key Outermost (normal s set) (set_back options key s Outermost trees named))

  pub left_is_clean : NothingIsLeft options key (normal_front s left)
  left_is_clean =
      let w = source_whole (plain s) s h.start h.bytes f h.begins h.are_bytes in_plain in
      subst (λ (g : Front). NothingIsLeft options key (normal_front s g)) (sym (left_is w.trees w.is)) (back_is_clean w.trees (spelled_named s w.trees h.bytes [] w.spelled))

  pub taken_is_gone : (again : Front) (stop : Stop) → Reads (target_bar s) s at (recode s left) again stop → (stop ≡ complete) × NothingIsLeft options key again
  taken_is_gone again stop reads =
      let one = reads_once (target_bar s) s at (recode s left) again (normal_front s left) stop complete reads own_again in
      (one.1, subst (NothingIsLeft options key) (sym one.0) left_is_clean)

  -- ---- a second time

  written_whole : (reached : Option Tag) (x : Trees) → recode s (read_whole reached x) ≡ recode_set s x
  unfolding recode
  written_whole reached x = append-nil (recode_set s x)

  again_is : (set : Trees) → deidentified options (made_new options key) (whole_front set) ≡ read_whole (last_tag None set) (left_of set)
  again_is set = of_whole options (made_new options key) (last_tag None set) set

  knows : Knows s
  knows = λ e. (let no : Standard ≡ Extract = sym h.by_standard ∙ e in cc)

  pub deidentified_twice : MakesNothingAnew options → recode s (deidentified options (made_new options key) (normal_front s left)) ≡ recode s left
  deidentified_twice given =
      let w = source_whole (plain s) s h.start h.bytes f h.begins h.are_bytes in_plain in
      let is : left ≡ read_whole (last_tag None w.trees) (left_of w.trees) = left_is w.trees w.is in
      let again : Trees = normal s (left_of w.trees) in
      ap (λ (g : Front). recode s (deidentified options (made_new options key) (normal_front s g))) is
      ∙ ap (recode s) (again_is again)
      ∙ written_whole (last_tag None again) (left_of again)
      ∙ twice options key given s w.trees (spelled_named s w.trees h.bytes [] w.spelled) knows
      ∙ sym (written_whole (last_tag None w.trees) (left_of w.trees))
      ∙ ap (recode s) (sym is)

  -- ---- it can be read by dcmdeid again

  -- what was read holds no identity of its own
  read_heads : (trees : Trees) → f ≡ whole_front trees → AllAccepted identity_heads (front_atoms s (whole_front trees))
  read_heads trees is =
      let heads : List Atom → HeadBar = λ atoms. identity_heads in
      let bar : Bar = λ g. identity_heads in
      let same : BarsAs heads bar = record { agree = λ g atoms shows tag vr declared. refl; never_early = λ g tag vr declared. heads_never_early (holds_identity tag) } in
      let a = answers heads bar same s h.start h.bytes h.begins in
      let end = finish (read_all heads s h.start h.bytes).0 in
      let own_one = less_barred identity_bar bar (λ g tag vr declared e. free_head (is_above tag (innermost_reached g)) (identity_fault tag) e) s h.start h.bytes f h.reads in
      let shown : (read_all heads s h.start h.bytes).1 ++ end_shows end ≡ front_atoms s f = a.shown ∙ ap (front_atoms s) (reads_once bar s h.start h.bytes a.f f end complete a.reads own_one).0 in
      subst (AllAccepted identity_heads) (shown ∙ ap (front_atoms s) is) (machine_accepted identity_heads s h.start h.bytes end)

  read_in_order : FrontAscends f
  read_in_order =
      reads_ascend s h.start h.bytes f complete h.begins
      (less_barred identity_bar ascending_bar (λ g tag vr declared e. in_order (is_above tag (innermost_reached g)) (identity_fault tag) e) s h.start h.bytes f h.reads)

  trees_pass : (trees : Trees) → f ≡ whole_front trees → Passes None trees
  unfolding front_atoms
  trees_pass trees is =
      let ascends : FrontAscends (whole_front trees) = subst FrontAscends is read_in_order in
      (read_passes s trees (ends ∷ []) None ascends.0 (read_heads trees is)).0

  pub reads_for_it : Reads identity_bar s at (recode s left) (normal_front s left) complete
  reads_for_it =
      let w = was_ready in
      let again : Trees = normal s (left_of w.trees) in
      let is : normal_front s left ≡ whole_front again = ap (normal_front s) (left_is w.trees w.is) in
      let limit : at + length (recode s left) ≤ INPUT_LIMIT = h.within in
      subst (λ (g : Front). Reads identity_bar s at (recode s left) g complete) (sym is)
      (identity_reads s at (recode s left) again (omega (arith, limit)) (normal_passes s None (left_of w.trees) (all_left_passes options key w.trees (trees_pass w.trees w.is)))
      (subst (λ (g : Front). Reads (target_bar s) s at (recode s left) g complete) is own_again))

-- ---- there and back again

module _ (options : Options) (key : List ℕ) (days : ℤ) (s : Syntax) (at : ℕ) (f : Front) (h : Takes (moving options days) key s at f) (given : MovesDatesAlone options) where
  abbrev there : Options
  there = moving options days

  abbrev away : Options
  away = moving options (neg_ℤ days)

  -- without identity and with what says so, read whole
  abbrev made : Options → Trees → Trees
  made by set = set_with_all (said by) (deidentified_set by (made_new by key) Outermost set)

  made_is : (by : Options) (set : Trees) → deidentified by (made_new by key) (whole_front set) ≡ read_whole (last_tag None set) (made by set)
  made_is by set = of_whole by (made_new by key) (last_tag None set) set

  written : (by : Options) (set : Trees) → recode s (deidentified by (made_new by key) (whole_front set)) ≡ recode_set s (made by set)
  unfolding recode
  written by set = ap (recode s) (made_is by set) ∙ append-nil (recode_set s (made by set))

  recodes_whole : (x : Trees) (reached : Option Tag) → recode s (read_whole reached x) ≡ recode_set s x
  unfolding recode
  recodes_whole x reached = append-nil (recode_set s x)

  framed_by : (x y u v : List ℕ) → x ≡ u → y ≡ v → IsFramed u v → IsFramed x y
  framed_by x y u v e g k = subst (λ (z : List ℕ). IsFramed z y) (sym e) (subst (IsFramed u) (sym g) k)

  pub there_and_back : recode s (left_moved options key days (normal_front s (left_moved options key (neg_ℤ days) (normal_front s (left_moved options key days f))))) ≡ recode s (left_moved options key days f)
  there_and_back =
      let w = source_whole (plain s) s h.start h.bytes f h.begins h.are_bytes (in_plain there key s at f h) in
      let first : Trees = normal s (made there w.trees) in
      let second : Trees = normal s (made away first) in
      let one : left_moved options key days f ≡ read_whole (last_tag None w.trees) (made there w.trees) = ap (left_moved options key days) w.is ∙ made_is there w.trees in
      ap (λ (g : Front). recode s (left_moved options key days (normal_front s (left_moved options key (neg_ℤ days) (normal_front s g))))) one
      ∙ ap (λ (g : Front). recode s (left_moved options key days (normal_front s g))) (made_is away first)
      ∙ written there second
      ∙ left_there_again options key days given s w.trees (spelled_named s w.trees h.bytes [] w.spelled)
      ∙ sym (ap (λ (g : Front). recode s (left_moved options key days g)) w.is ∙ written there w.trees)

  -- what is written in between is as long, and begins alike
  pub moved_back_framed : IsFramed (recode s (left_moved options key (neg_ℤ days) (normal_front s (left_moved options key days f)))) (recode s (left_moved options key days f))
  moved_back_framed =
      let w = source_whole (plain s) s h.start h.bytes f h.begins h.are_bytes (in_plain there key s at f h) in
      let first : Trees = normal s (made there w.trees) in
      let one : left_moved options key days f ≡ read_whole (last_tag None w.trees) (made there w.trees) = ap (left_moved options key days) w.is ∙ made_is there w.trees in
      subst (λ (g : Front). IsFramed (recode s (left_moved options key (neg_ℤ days) (normal_front s g))) (recode s g)) (sym one)
      (framed_by _ _ _ _ (written away first) (recodes_whole (made there w.trees) (last_tag None w.trees)) (set_framed options key days given s w.trees (spelled_named s w.trees h.bytes [] w.spelled)))

  -- what is written is bytes
  makes : MakesBytes there (made_new there key)
  makes = λ depth t what b e. made_bytes options key days given.2 what b (dates_alone there given.0 given.1 what depth AsBytes t e)

  pub left_bytes : Bytes (recode s (left_moved options key days f))
  left_bytes =
      let w = source_whole (plain s) s h.start h.bytes f h.begins h.are_bytes (in_plain there key s at f h) in
      let source : HoldsBytes w.trees = (trees_read s w.trees h.bytes [] w.spelled (bytes_of h.bytes h.are_bytes)).0 in
      subst Bytes (sym (ap (λ (g : Front). recode s (left_moved options key days g)) w.is ∙ written there w.trees))
      (set_written s (made there w.trees) (left_holds there (made_new there key) makes Outermost w.trees source))
