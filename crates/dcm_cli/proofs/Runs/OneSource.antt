-- A file is read in one way, and by a conversion to its own transfer syntax as by a dump.
use Rattle.std.proofs.Common.{◌≡◌, ◌∙◌, ap, sym, subst, ℕ, List, drop, None, true, false, refl}
use Rattle.dcm_base.specs.declared.fault.Fault.{Fault}
use Rattle.dcm_base.specs.declared.fault.Fault.TheVariants.{CannotChange}
use Rattle.dcm_base.specs.declared.mode.Mode.{Mode}
use Rattle.dcm_base.specs.declared.syntax.Coding.{Coding}
use Rattle.dcm_base.specs.Tree.Front.{Front}
use Rattle.dcm_base.specs.File.MetaReads.{Meta, begins, refused as meta_refused}
use Rattle.dcm_base.specs.Reading.Reads.{Reads}
use Rattle.dcm_base.specs.Reading.Stop.{Stop}
use Rattle.dcm_words.specs.Words.{Job, dump, convert}
use Rattle.dcm_base.proofs.DataSets.OneAnswer.{reads_once}
use Rattle.dcm_head.proofs.MetaGroups.OneMeta.{one_meta}
use Rattle.dcm_cli.specs.Answer.{job_dictionary, HeadIs, Source, unopened, file as a_file, set_at, job_bar, refuses_change, FileReads, not_opened, not_changed, opened}
use Rattle.dcm_base.proofs.DataSets.OwnSyntax.{own_reads}
use Rattle.dcm_base.specs.Tables.Syntax.{coding_by}
use Rattle.dcm_base.specs.declared.dictionary.Dictionary.{Dictionary}
use Rattle.dcm_cli.proofs.Runs.Sure.{beginnings_alike}

faults_alike : (f g : Fault) (m n : ℕ) → meta_refused f m ≡ meta_refused g n → unopened f m ≡ unopened g n
faults_alike f g m n e = let fault : f ≡ g = cc in let offset : m ≡ n = cc in cc

pub never_begins : (f : Fault) (n : ℕ) (m : Meta) (group : List ℕ) (coding : Coding) → meta_refused f n ≡ begins m group coding → ⊥
never_begins f n m group coding e = cc

never_both : (job : Job) (c d : Coding) → c ≡ d → refuses_change job c ≡ true → refuses_change job d ≡ false → ⊥
never_both job c d same refuses changes = let e : refuses_change job c ≡ refuses_change job d = ap (refuses_change job) same in cc

-- one head, however it is read
pub heads_alike : (d : Dictionary) (bytes : List ℕ) (m n : Meta) (g h : List ℕ) (c e : Coding) → HeadIs d bytes m g c → HeadIs d bytes n h e → begins m g c ≡ begins n h e
heads_alike d bytes m n g h c e x y =
    let a = beginnings_alike m n g h x.named y.named (one_meta bytes (begins m g x.named) (begins n h y.named) x.head y.head) in
    let metas : m ≡ n = a.0 in
    let groups : g ≡ h = a.1 in
    let codings : c ≡ e = x.coding_is ∙ ap (coding_by d) a.2 ∙ sym y.coding_is in
    cc

module _ (job : Job) (bytes : List ℕ) where
  abbrev SetReads : List ℕ → Coding → Front → Stop → Type 0
  SetReads group coding set stop = Reads (job_bar job coding) coding.syntax (set_at group) (drop (set_at group) bytes) set stop

  same_file : (m n : Meta) (g h : List ℕ) (c d : Coding) (x y : Front) (s t : Stop) → begins m g c ≡ begins n h d → SetReads g c x s → SetReads h d y t → a_file m c x s ≡ a_file n d y t
  same_file m n g h c d x y s t e p q =
      let k = beginnings_alike m n g h c d e in
      let there : SetReads g c y t = subst (λ (z : Coding). SetReads g z y t) (sym k.2) (subst (λ (z : List ℕ). SetReads z d y t) (sym k.1) q) in
      let one = reads_once (job_bar job c) c.syntax (set_at g) (drop (set_at g) bytes) x y s t p there in
      ap (λ (z : Meta). a_file z c x s) k.0 ∙ ap (λ (z : Coding). a_file n z x s) k.2 ∙ ap (λ (z : Front). a_file n d z s) one.0 ∙ ap (a_file n d y) one.1

  pub one_source : (x y : Source) → FileReads job bytes x → FileReads job bytes y → x ≡ y
  one_source x y (not_opened f m h e) (not_opened g n k d) = e ∙ faults_alike f g m n (one_meta bytes (meta_refused f m) (meta_refused g n) h k) ∙ sym d
  one_source x y (not_opened f n h e) (not_changed m group coding k r d) = absurd (never_begins f n m group k.named (one_meta bytes (meta_refused f n) (begins m group k.named) h k.head))
  one_source x y (not_opened f n h e) (opened m group coding set stop k r reads d) = absurd (never_begins f n m group k.named (one_meta bytes (meta_refused f n) (begins m group k.named) h k.head))
  one_source x y (not_changed m group coding k r d) (not_opened f n h e) = absurd (never_begins f n m group k.named (one_meta bytes (meta_refused f n) (begins m group k.named) h k.head))
  one_source x y (not_changed m g c h r e) (not_changed n k d i q f) =
      let a = beginnings_alike m n g k c d (heads_alike (job_dictionary job) bytes m n g k c d h i) in
      e ∙ ap (λ (z : List ℕ). unopened CannotChange (set_at z)) a.1 ∙ sym f
  one_source x y (not_changed m g c h r e) (opened n k d set stop i q reads f) =
      let a = beginnings_alike m n g k c d (heads_alike (job_dictionary job) bytes m n g k c d h i) in
      absurd (never_both job c d a.2 r q)
  one_source x y (opened m group coding set stop k r reads d) (not_opened f n h e) = absurd (never_begins f n m group k.named (one_meta bytes (meta_refused f n) (begins m group k.named) h k.head))
  one_source x y (opened n k d set stop i q reads f) (not_changed m g c h r e) =
      let a = beginnings_alike m n g k c d (heads_alike (job_dictionary job) bytes m n g k c d h i) in
      absurd (never_both job c d a.2 r q)
  one_source x y (opened m g c set stop h r reads e) (opened n k d other end i q others f) =
      e ∙ same_file m n g k c d set other stop end (heads_alike (job_dictionary job) bytes m n g k c d h i) reads others ∙ sym f

-- what a dump reads
pub own_source : (d : Dictionary) (mode : Mode) (bytes : List ℕ) (source : Source) → FileReads (dump d mode None) bytes source → FileReads (convert d None) bytes source
own_source d mode bytes source (not_opened f n h e) = not_opened f n h e
own_source d mode bytes source (not_changed m group coding h r e) = absurd (cc)
own_source d mode bytes source (opened m group coding set stop h r reads e) = opened m group coding set stop h refl (own_reads coding.syntax (set_at group) (drop (set_at group) bytes) set stop reads) e
