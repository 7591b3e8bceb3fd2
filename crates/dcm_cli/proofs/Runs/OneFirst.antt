-- The first reading of a file ends in one way, and in some.
use Rattle.std.proofs.Common.{◌≡◌, ◌∙◌, ap, sym, subst, refl, ℕ, ◌≤◌, List, length, drop, Option, arith}
use Rattle.dcm_base.specs.declared.fault.Fault.{Fault}
use Rattle.dcm_base.specs.declared.fault.Stop.{Stop as FaultAt}
use Rattle.dcm_base.specs.declared.dictionary.Dictionary.TheVariants.{Standard}
use Rattle.dcm_base.specs.declared.syntax.Coding.{Coding}
use Rattle.dcm_base.specs.Tables.Syntax.{coding_by}
use Rattle.dcm_base.specs.Tree.Front.{Front}
use Rattle.dcm_base.specs.File.MetaReads.{Meta, MetaAnswer, MetaReads, begins, refused}
use Rattle.dcm_base.specs.Reading.Bars.{no_bar, patient_bar}
use Rattle.dcm_base.specs.Reading.Reads.{INPUT_LIMIT, Reads}
use Rattle.dcm_base.specs.Reading.Stop.{Stop}
use Rattle.dcm_base.proofs.DataSets.OneAnswer.{reads_once}
use Rattle.dcm_head.proofs.HeadReading.State.{described}
use Rattle.dcm_head.proofs.HeadReading.Answers.{told}
use Rattle.dcm_head.proofs.MetaGroups.OneMeta.{one_meta}
use Rattle.dcm_cli.specs.declared.first.FirstEnd.{FirstEnd}
use Rattle.dcm_cli.specs.declared.first.FirstEnd.TheVariants.{Refused}
use Rattle.dcm_cli.specs.Answer.{HeadIs, set_at}
use Rattle.dcm_cli.specs.First.{fault_at, first_end, patient_of, FirstReads, no_set, of_set, SetReads}
use Rattle.dcm_cli.proofs.Passes.FirstSets.{both_read}
use Rattle.dcm_cli.proofs.Passes.MetaHeads.{group_spelled}
use Rattle.dcm_cli.proofs.Runs.OneSource.{heads_alike}
use Rattle.dcm_cli.proofs.Runs.Sure.{beginnings_alike}

pub never_begins : (f : Fault) (n : ℕ) (m : Meta) (group : List ℕ) (coding : Coding) → refused f n ≡ begins m group coding → ⊥
never_begins f n m group coding e = cc

faults_alike : (f g : Fault) (m n : ℕ) → refused f m ≡ refused g n → Refused (record { fault = f; at = m }) ≡ Refused (record { fault = g; at = n })
faults_alike f g m n e = let fault : f ≡ g = cc in let offset : m ≡ n = cc in cc

module _ (key bytes : List ℕ) where
  abbrev Both : List ℕ → Coding → Front → Front → Stop → Stop → Type 0
  Both group coding before set up_to stop = SetReads coding.syntax (set_at group) (drop (set_at group) bytes) before set up_to stop

  same_end : (g h : List ℕ) (c d : Coding) (x y f t : Front) (a b p q : Stop) → g ≡ h → c ≡ d → Both g c x f a p → Both h d y t b q
      → first_end key (fault_at a) (fault_at p) (patient_of c.syntax f) (length bytes) ≡ first_end key (fault_at b) (fault_at q) (patient_of d.syntax t) (length bytes)
  same_end g h c d x y f t a b p q groups codings one other =
      let there : Both g c y t b q = subst (λ (z : Coding). Both g z y t b q) (sym codings) (subst (λ (z : List ℕ). Both z d y t b q) (sym groups) other) in
      let up = reads_once patient_bar c.syntax (set_at g) (drop (set_at g) bytes) x y a b one.up_to_patient there.up_to_patient in
      let all = reads_once no_bar c.syntax (set_at g) (drop (set_at g) bytes) f t p q one.whole there.whole in
      ap (λ (z : Stop). first_end key (fault_at z) (fault_at p) (patient_of c.syntax f) (length bytes)) up.1
      ∙ ap (λ (z : Stop). first_end key (fault_at b) (fault_at z) (patient_of c.syntax f) (length bytes)) all.1
      ∙ ap (λ (z : Front). first_end key (fault_at b) (fault_at q) (patient_of c.syntax z) (length bytes)) all.0
      ∙ ap (λ (z : Coding). first_end key (fault_at b) (fault_at q) (patient_of z.syntax t) (length bytes)) codings

  pub one_first : (a b : FirstEnd) → FirstReads key bytes a → FirstReads key bytes b → a ≡ b
  one_first a b (no_set f m h e) (no_set g n k d) = e ∙ faults_alike f g m n (one_meta bytes (refused f m) (refused g n) h k) ∙ sym d
  one_first a b (no_set f n h e) (of_set m group coding before set up_to stop k reads d) = absurd (never_begins f n m group k.named (one_meta bytes (refused f n) (begins m group k.named) h k.head))
  one_first a b (of_set m group coding before set up_to stop k reads d) (no_set f n h e) = absurd (never_begins f n m group k.named (one_meta bytes (refused f n) (begins m group k.named) h k.head))
  one_first a b (of_set m g c x f u p h reads e) (of_set n k d y t v q i others w) =
      let same = beginnings_alike m n g k c d (heads_alike Standard bytes m n g k c d h i) in
      e ∙ same_end g k c d x y f t u v p q same.1 same.2 reads others ∙ sym w

  by_head : (said : MetaAnswer) → MetaReads bytes said → (end : FirstEnd) × FirstReads key bytes end
  by_head (refused fault offset) head = (Refused (record { fault = fault; at = offset }), no_set fault offset head refl)
  by_head (begins m group named) head =
      let coding : Coding = coding_by Standard named in
      let h : HeadIs Standard bytes m group coding = record { named = named; head = head; coding_is = refl } in
      let small = (group_spelled bytes m group named head).2 in
      let le : set_at group ≤ INPUT_LIMIT = omega (arith, small) in
      let both = both_read coding.syntax (set_at group) le (drop (set_at group) bytes) in
      (_, of_set m group coding both.before both.set _ _ h both.reads refl)

  pub some_first : (end : FirstEnd) × FirstReads key bytes end
  some_first = let t = told _ bytes (described bytes) in by_head t.answer t.reads
