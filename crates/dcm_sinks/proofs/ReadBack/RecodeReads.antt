-- The bytes of a conversion read back as the normal form.
use Rattle.std.proofs.Common.{◌≡◌, ◌∙◌, ap, sym, refl, subst, ℕ, ◌+◌, ◌≤◌, List, [], ◌∷◌, ◌++◌, length, Option, Some, None, Bool, true, false, cond, inl, inr, arith, length-append}
use Rattle.std.specs.Prelude.{fold, ◌==◌, ◌&&◌}
use Rattle.std.proofs.lemmas.List.{append-nil}
use Rattle.dcm_base.specs.declared.tag.Tag.{Tag}
use Rattle.dcm_base.specs.declared.vr.Vr.{Vr}
use Rattle.dcm_base.specs.declared.syntax.Syntax.{Syntax}
use Rattle.dcm_base.specs.declared.syntax.Syntax.TheVariants.{Implicit as implicit_in, Little as little_in, Big as big_in}
use Rattle.dcm_base.specs.Tables.Syntax.{Little}
use Rattle.dcm_base.specs.declared.fault.Fault.{Fault}
use Rattle.dcm_base.specs.declared.fault.Fault.TheVariants.{EndsEarly}
use Rattle.dcm_base.specs.declared.length.Length.{Length}
use Rattle.dcm_base.specs.declared.length.Length.TheVariants.{Undefined}
use Rattle.dcm_base.specs.Tree.Tree.{Trees}
use Rattle.dcm_base.specs.Tree.Front.{Front, front, OpenTree, nothing_open, open_leaf, open_sequence, open_fragments}
use Rattle.dcm_base.specs.Tables.Number.{AreBytes}
use Rattle.dcm_base.specs.Bytes.Spelling.{form, last_tag, TreesAt, SpellsFront, after_trees}
use Rattle.dcm_base.specs.declared.level.Container.TheVariants.{DataSet as the_data_set}
use Rattle.dcm_base.specs.Reading.Place.{depth}
use Rattle.dcm_base.specs.Reading.Stop.{Stop, complete, refused, Bar, HeadBar, is_empty, is_early_bar}
use Rattle.dcm_base.specs.Reading.Bars.{is_fragment_form, target_bar}
use Rattle.dcm_base.specs.Reading.Reads.{INPUT_LIMIT, Reads, ended}
use Rattle.dcm_base.specs.Conversion.Recode.{recode, recode_set}
use Rattle.dcm_base.specs.Conversion.Normal.{normal, whole_front, normal_front, FitsTarget, FrontFits}
use Rattle.dcm_base.specs.Steps.Atoms.{Atom, ends, front_atoms, trees_then}
use Rattle.dcm_base.proofs.DumpsBack.Texts.{bytes_of}
use Rattle.dcm_base.proofs.DataSets.Whole.{trees_same, at_end_NoElement}
use Rattle.dcm_base.proofs.DataSets.OneAnswer.{reads_once}
use Rattle.dcm_stream.proofs.Steps.ReadsSome.{never}
use Rattle.dcm_stream.specs.Reading.{Reading, start_of, reads_byte, read_all, read_byte, is_top, stop_at_end, finish, end_shows}
use Rattle.dcm_stream.specs.Follows.{BarsAs}
use Rattle.dcm_stream.proofs.Steps.Follows.{answers, follows}
use Rattle.dcm_sinks.specs.Laws.{StaysShallow}
use Rattle.dcm_sinks.specs.Conversion.{Converts}
use Rattle.dcm_sinks.proofs.ReadBack.Shallow.{machine_shallow_ended}
use Rattle.dcm_base.proofs.Conversions.NormalForm.{recodes_normal}
use Rattle.dcm_sinks.proofs.ReadBack.HasRoom.{Ready}
use Rattle.dcm_sinks.proofs.ReadBack.Written.{trees_written}
use Rattle.dcm_sinks.proofs.ReadBack.KnownEnds.{goes}
use Rattle.dcm_sinks.proofs.ReadBack.WrittenRead.{target_heads, endless_level, set_takes, trees_read}
use Rattle.dcm_sinks.proofs.ReadBack.Accepted.{AllAccepted, machine_accepted}
use Rattle.dcm_sinks.proofs.ReadBack.Sources.{Fine, all_fine, trees_ready}

-- ---- bars

abbrev target_atoms : Syntax → List Atom → HeadBar
target_atoms target = λ atoms. target_heads target

pub same_heads : (target : Syntax) (f : Front) (tag : Tag) (vr : Vr) (declared : Length) → target_heads target tag vr declared ≡ target_bar target f tag vr declared
same_heads (little_in d) f tag vr declared = refl
same_heads (implicit_in d) f tag vr declared = refl
same_heads (big_in d) f tag vr declared = refl

pub never_early : (target : Syntax) (f : Front) (tag : Tag) (vr : Vr) (declared : Length) → is_early_bar (target_bar target f tag vr declared) ≡ false
never_early (little_in d) f tag vr declared = refl
never_early (implicit_in d) f tag vr declared = never (is_fragment_form (form Little vr declared))
never_early (big_in d) f tag vr declared = never (is_fragment_form (form Little vr declared))

target_bars : (target : Syntax) → BarsAs (target_atoms target) (target_bar target)
target_bars target = record { agree = λ f atoms w tag vr declared. same_heads target f tag vr declared; never_early = never_early target }

-- ---- at an end without fault nothing is open

pub longer : (xs : List Atom) → xs ++ ends ∷ [] ≡ xs → ⊥
longer xs e = omega (arith, ap length e, length-append xs (ends ∷ []))

nothing_is_open : (s : Syntax) (whole : Trees) (o : OpenTree) (reached : Option Tag) (was : Bool) (atoms : List Atom) → atoms ≡ front_atoms s (front whole o reached was) → atoms ++ ends ∷ [] ≡ front_atoms s (front whole o reached true) → o ≡ nothing_open
unfolding front_atoms
nothing_is_open s whole nothing_open reached was atoms a e = refl
nothing_is_open s whole (open_leaf tag vr size value) reached was atoms a e = absurd (longer atoms (e ∙ sym a))
nothing_is_open s whole (open_sequence tag vr declared items last) reached was atoms a e = absurd (longer atoms (e ∙ sym a))
nothing_is_open s whole (open_fragments tag vr values last) reached was atoms a e = absurd (longer atoms (e ∙ sym a))

-- these trees are spelled by all bytes, and are what is read
pub record Whole (s : Syntax) (bytes : List ℕ) (f : Front) : Type 0 where
  pub trees : Trees
  pub spelled : TreesAt s trees bytes []
  pub is : f ≡ whole_front trees

whole_by : (s : Syntax) (bytes : List ℕ) (whole : Trees) (o : OpenTree) (reached : Option Tag) (was : Bool) (f : Front) → o ≡ nothing_open → SpellsFront s (front whole o reached was) bytes → front whole o reached true ≡ f → Whole s bytes f
unfolding SpellsFront
whole_by s bytes whole nothing_open reached was f none (others, at, op, re, cl) e =
    record { trees = whole; spelled = subst (TreesAt s whole bytes) op at; is = sym e ∙ ap (λ (r : Option Tag). front whole nothing_open r true) re }
whole_by s bytes whole (open_leaf tag vr size value) reached was f none spelled e = absurd (cc)
whole_by s bytes whole (open_sequence tag vr declared items last) reached was f none spelled e = absurd (cc)
whole_by s bytes whole (open_fragments tag vr values last) reached was f none spelled e = absurd (cc)

whole_of : (s : Syntax) (bytes : List ℕ) (g f : Front) (atoms : List Atom) → SpellsFront s g bytes → atoms ≡ front_atoms s g → atoms ++ ends ∷ [] ≡ front_atoms s (ended complete g) → ended complete g ≡ f → Whole s bytes f
whole_of s bytes (front whole o reached was) f atoms spelled a e is = whole_by s bytes whole o reached was f (nothing_is_open s whole o reached was atoms a e) spelled is

empty_is : (bytes : List ℕ) → is_empty bytes ≡ true → bytes ≡ []
empty_is [] e = refl
empty_is (b ∷ bytes) e = absurd (cc)

third : (a b c : Bool) (fault : Fault) (offset : ℕ) → cond (a && b && c) complete (refused fault offset) ≡ complete → c ≡ true
third true true true fault offset e = refl
third true true false fault offset e = absurd (cc)
third true false c fault offset e = absurd (cc)
third false b c fault offset e = absurd (cc)

no_head_left : (r : Reading) → r.halt ≡ None → finish r ≡ complete → r.head ≡ []
unfolding finish
no_head_left r none e =
    empty_is r.head
    (third (r.left == 0) (is_top r.levels) (is_empty r.head) EndsEarly (r.position + length r.head) (ap (λ (x : Option Stop). stop_at_end x r) (sym none) ∙ e))

refused_halt : (r : Reading) (fault : Fault) (offset : ℕ) → r.halt ≡ Some (refused fault offset) → finish r ≡ complete → ⊥
unfolding finish
refused_halt r fault offset h e = let k : refused fault offset ≡ complete = sym (ap (λ (x : Option Stop). stop_at_end x r) h) ∙ e in cc

module _ (bars : List Atom → HeadBar) (bar : Bar) (same : BarsAs bars bar) where
  -- what is read without fault is whole, and its atoms are those of the machine
  read_whole : (s : Syntax) (start : ℕ) (bytes : List ℕ) (f : Front) → start ≤ INPUT_LIMIT → finish (read_all bars s start bytes).0 ≡ complete → Reads bar s start bytes f complete → Whole s bytes f
  read_whole s start bytes f le end reads =
      elim (follows bars bar same s start bytes le) [
        | inl h ↦
            let none : (read_all bars s start bytes).0.head ≡ [] = no_head_left (read_all bars s start bytes).0 h.going end in
            let all : bytes ≡ h.read = h.parts ∙ ap (λ (x : List ℕ). h.read ++ x) none ∙ append-nil h.read in
            let one = reads_once bar s start bytes (ended (finish (read_all bars s start bytes).0) h.f) f (finish (read_all bars s start bytes).0) complete h.reads reads in
            whole_of s bytes h.f f (read_all bars s start bytes).1 (subst (SpellsFront s h.f) (sym all) h.spelled) h.atoms_are
            (ap (λ (x : Stop). (read_all bars s start bytes).1 ++ end_shows x) (sym end) ∙ h.shown ∙ ap (λ (x : Stop). front_atoms s (ended x h.f)) end)
            (ap (λ (x : Stop). ended x h.f) (sym end) ∙ one.0)
        | inr h ↦ absurd (refused_halt (read_all bars s start bytes).0 h.fault h.offset h.halt_is end)
      ]

  finishes : (s : Syntax) (start : ℕ) (bytes : List ℕ) (f : Front) → start ≤ INPUT_LIMIT → Reads bar s start bytes f complete → finish (read_all bars s start bytes).0 ≡ complete
  finishes s start bytes f le reads =
      let a = answers bars bar same s start bytes le in
      (reads_once bar s start bytes a.f f (finish (read_all bars s start bytes).0) complete a.reads reads).1

  shows : (s : Syntax) (start : ℕ) (bytes : List ℕ) (f : Front) → start ≤ INPUT_LIMIT → Reads bar s start bytes f complete → (read_all bars s start bytes).1 ++ end_shows (finish (read_all bars s start bytes).0) ≡ front_atoms s f
  shows s start bytes f le reads =
      let a = answers bars bar same s start bytes le in
      a.shown ∙ ap (front_atoms s) (reads_once bar s start bytes a.f f (finish (read_all bars s start bytes).0) complete a.reads reads).0

-- ---- the source

whole_atoms : (s : Syntax) (trees : Trees) → front_atoms s (whole_front trees) ≡ trees_then s trees (ends ∷ [])
unfolding front_atoms
whole_atoms s trees = refl

module _ (target s : Syntax) (start : ℕ) (bytes : List ℕ) (f : Front) (le : start ≤ INPUT_LIMIT) (are : AreBytes bytes) (reads : Reads (target_bar target) s start bytes f complete) where
  pub source_whole : Whole s bytes f
  source_whole = read_whole (target_atoms target) (target_bar target) (target_bars target) s start bytes f le (finishes (target_atoms target) (target_bar target) (target_bars target) s start bytes f le reads) reads

  pub source_fine : Fine (target_heads target) 0 (trees_then s source_whole.trees (ends ∷ []))
  source_fine =
      let w = source_whole in
      let bars = target_atoms target in
      let end = finish (read_all bars s start bytes).0 in
      let atoms_are : (read_all bars s start bytes).1 ++ end_shows end ≡ trees_then s w.trees (ends ∷ []) =
      shows bars (target_bar target) (target_bars target) s start bytes f le reads ∙ ap (front_atoms s) w.is ∙ whole_atoms s w.trees in
      let accepted : AllAccepted (target_heads target) (trees_then s w.trees (ends ∷ [])) = subst (AllAccepted (target_heads target)) atoms_are (machine_accepted (target_heads target) s start bytes end) in
      let shallow : StaysShallow 0 (trees_then s w.trees (ends ∷ [])) = subst (StaysShallow 0) atoms_are
      (machine_shallow_ended bars (λ atoms tag vr declared. ap is_early_bar (same_heads target f tag vr declared) ∙ never_early target f tag vr declared) s start bytes end) in
      all_fine (target_heads target) 0 (trees_then s w.trees (ends ∷ [])) accepted shallow

  source_ready : FitsTarget target source_whole.trees → Ready target 0 source_whole.trees
  source_ready fits = (trees_ready target s 0 source_whole.trees bytes [] (ends ∷ []) source_whole.spelled (bytes_of bytes are) source_fine).0.0 fits

-- ---- the target

reading_goes : (bar : HeadBar) (bytes : List ℕ) (r : Reading) (atoms : List Atom) → (fold (reads_byte (λ xs. bar)) (r, atoms) bytes).0 ≡ goes bar r bytes
reading_goes bar [] r atoms = refl
reading_goes bar (b ∷ bytes) r atoms = reading_goes bar bytes (read_byte bar r b).0 (atoms ++ (read_byte bar r b).1)

top_depth : (s : Syntax) → depth (endless_level the_data_set s Undefined ∷ []) ≡ 0
unfolding depth
top_depth s = refl

ends_well : (s : Syntax) (position : ℕ) → finish (record { position = position; head = []; left = 0; sign = None; levels = endless_level the_data_set s Undefined ∷ []; halt = None }) ≡ complete
unfolding finish
ends_well s position = refl

module _ (target : Syntax) (at : ℕ) (set : Trees) (limit : at + length (recode_set target set) ≤ INPUT_LIMIT) (ready : Ready target 0 set) where
  target_finishes : finish (read_all (target_atoms target) target at (recode_set target set)).0 ≡ complete
  target_finishes =
      ap finish (reading_goes (target_heads target) (recode_set target set) (start_of target at) []
      ∙ trees_read target the_data_set Undefined [] set_takes tt 0 set (top_depth target) ready at limit)
      ∙ ends_well (after_trees target (normal target set)) (at + length (recode_set target set))

  spelled_normal : TreesAt target (normal target set) (recode_set target set) []
  spelled_normal = subst (λ (x : List ℕ). TreesAt target (normal target set) x []) (append-nil (recode_set target set)) (trees_written target 0 set [] ready)

  target_reads : Reads (target_bar target) target at (recode_set target set) (whole_front (normal target set)) complete
  target_reads =
      let bars = target_atoms target in
      let bytes : List ℕ = recode_set target set in
      let le : at ≤ INPUT_LIMIT = omega (arith, limit) in
      let a = answers bars (target_bar target) (target_bars target) target at bytes le in
      let reads : Reads (target_bar target) target at bytes a.f complete = subst (Reads (target_bar target) target at bytes a.f) target_finishes a.reads in
      let w = read_whole bars (target_bar target) (target_bars target) target at bytes a.f le target_finishes reads in
      let same : w.trees ≡ normal target set = (trees_same target w.trees (normal target set) bytes [] [] w.spelled spelled_normal (at_end_NoElement target) (at_end_NoElement target)).0 in
      subst (λ (x : Front). Reads (target_bar target) target at bytes x complete) (w.is ∙ ap whole_front same) reads

-- ---- the laws

-- a data set in which nothing is open
set_recodes : (target : Syntax) (set : Trees) (reached : Option Tag) (closed : Bool) → recode target (front set nothing_open reached closed) ≡ recode_set target set
unfolding recode
set_recodes target set reached closed = append-nil (recode_set target set)

pub whole_recodes : (target : Syntax) (set : Trees) → recode target (whole_front set) ≡ recode_set target set
whole_recodes target set = set_recodes target set (last_tag None set) true

-- f is whole, and the target has room for it
pub record IsReady (target : Syntax) (f : Front) : Type 0 where
  pub trees : Trees
  pub is : f ≡ whole_front trees
  pub ready : Ready target 0 trees

pub read_ready : (target s : Syntax) (start : ℕ) (bytes : List ℕ) (f : Front) → start ≤ INPUT_LIMIT → AreBytes bytes → Reads (target_bar target) s start bytes f complete → FrontFits target f → IsReady target f
read_ready target s start bytes f le are reads fits =
    let w = source_whole target s start bytes f le are reads in
    record { trees = w.trees; is = w.is; ready = source_ready target s start bytes f le are reads (subst (FrontFits target) w.is fits) }

-- what is written of it reads back
pub ready_reads : (target : Syntax) (at : ℕ) (set : Trees) (reached : Option Tag) (closed : Bool) → at + length (recode target (front set nothing_open reached closed)) ≤ INPUT_LIMIT → Ready target 0 set
    → Reads (target_bar target) target at (recode target (front set nothing_open reached closed)) (whole_front (normal target set)) complete
ready_reads target at set reached closed limit ready =
    let same : recode target (front set nothing_open reached closed) ≡ recode_set target set = set_recodes target set reached closed in
    subst (λ (x : List ℕ). Reads (target_bar target) target at x (whole_front (normal target set)) complete) (sym same)
    (target_reads target at set (subst (λ (x : List ℕ). at + length x ≤ INPUT_LIMIT) same limit) ready)

pub recode_reads : (target s : Syntax) (start at : ℕ) (bytes : List ℕ) (f : Front) → Converts target s start at bytes f → Reads (target_bar target) target at (recode target f) (normal_front target f) complete
recode_reads target s start at bytes f h =
    let r = read_ready target s start bytes f h.begins h.are_bytes h.reads h.fits in
    let limit : at + length (recode target (whole_front r.trees)) ≤ INPUT_LIMIT = subst (λ (x : Front). at + length (recode target x) ≤ INPUT_LIMIT) r.is h.within in
    subst (λ (x : Front). Reads (target_bar target) target at (recode target x) (normal_front target x) complete) (sym r.is) (ready_reads target at r.trees (last_tag None r.trees) true limit r.ready)

pub recode_twice : (target s : Syntax) (start at : ℕ) (bytes : List ℕ) (f g : Front) (stop : Stop) → Converts target s start at bytes f → Reads (target_bar target) target at (recode target f) g stop → (stop ≡ complete) × (recode target g ≡ recode target f)
recode_twice target s start at bytes f g stop h again =
    let w = source_whole target s start bytes f h.begins h.are_bytes h.reads in
    let one = reads_once (target_bar target) target at (recode target f) g (normal_front target f) stop complete again (recode_reads target s start at bytes f h) in (
      one.1,
      ap (recode target) one.0
          ∙ ap (λ (x : Front). recode target (normal_front target x)) w.is
          ∙ whole_recodes target (normal target w.trees)
          ∙ recodes_normal target w.trees
          ∙ sym (whole_recodes target w.trees)
          ∙ ap (recode target) (sym w.is),
    )
