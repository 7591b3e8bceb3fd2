-- The reading of a file for the unique identifiers of its instance, in the words of the definitions.
use Rattle.std.proofs.Common.{◌≡◌, ◌∙◌, ap, sym, subst, refl, ◌⊎◌, inl, inr, ℕ, ◌≤◌, List, [], ◌++◌, append_assoc, length, drop, Bool, true, Option, Some, None, arith}
use Rattle.std.specs.Prelude.{Ok, Err}
use Rattle.std.proofs.lemmas.List.{append-nil, drop-append-le}
use Rattle.dcm_base.specs.declared.dictionary.Dictionary.TheVariants.{Standard}
use Rattle.dcm_base.specs.declared.fault.Stop.{Stop as FaultAt}
use Rattle.dcm_base.specs.declared.syntax.Coding.{Coding}
use Rattle.dcm_base.specs.Tables.Syntax.{coding_by}
use Rattle.dcm_base.specs.Tree.Front.{Front}
use Rattle.dcm_base.specs.Reading.Bars.{no_bar}
use Rattle.dcm_base.specs.Reading.Reads.{INPUT_LIMIT, Reads}
use Rattle.dcm_base.specs.Reading.Stop.{Stop}
use Rattle.dcm_head.specs.declared.meta_read.MetaEnd.TheVariants as meta_ends
use Rattle.dcm_head.specs.MetaReading.{Reading as HeadReading, meta_finished}
use Rattle.dcm_cli.specs.declared.ending.HeadEnding.{HeadEnding}
use Rattle.dcm_cli.specs.declared.ending.HeadEnding.TheVariants as heads
use Rattle.dcm_cli.specs.declared.head.Beginning.{Beginning}
use Rattle.dcm_cli.specs.Answer.{set_at}
use Rattle.dcm_cli.specs.InputCalls.{Reader, How, in_part, to_end, with_failure, Allows, TellsHow}
use Rattle.dcm_cli.specs.Opening.{HeadRead}
use Rattle.dcm_cli.specs.Pass.{Begins, FailsHead, HeadGoesOn, HeadReads, head_read, set_bytes}
use Rattle.dcm_cli.proofs.Passes.MetaHeads.{Opened, not_opened, ended_stays, finished_same, goes_on_still}
use Rattle.dcm_cli.proofs.Passes.Opens.{head_opened}
use Rattle.dcm_cli.proofs.Passes.Readers.{allows_any, allows_nothing, nothing_follows, ends_empty, for_another, joined}
use Rattle.dcm_cli.proofs.Runs.Stopping.{began_gave}
use Rattle.dcm_instance.specs.declared.names.InstanceUid.TheVariants.{Study, Series, Instance}
use Rattle.dcm_instance.specs.declared.names.NoInstance.TheVariants.{Unfit, Unread}
use Rattle.dcm_instance.specs.ReadInstance.{Comes, FileNames, no_set, of_set, IsUndecided, in_meta, in_set, ReadsInstance, TellsUnread}
use Rattle.dcm_instance.specs.Searching.{InstanceCalls, no_head, set_searched, end_of_head, Searches, SearchEnds, SearchGoesOn, by_bytes, at_end, not_read, decided, ended}
use Rattle.dcm_instance.specs.Uids.{named, uid_in}
use Rattle.dcm_instance.proofs.Sets.{Answer, all_read, decided_as, ended_as, still_undecided, undecided_by}

-- ---- the head of a file

head_undecided : (bytes : List ℕ) → HeadGoesOn bytes → IsUndecided bytes
head_undecided bytes going = let still = goes_on_still bytes going in in_meta still.0 still.1 still.2

-- a head that is at fault is so whatever follows
finished_over : (m : HeadReading) (read rest : List ℕ) (how : How) (stop : FaultAt) → Allows how rest → FailsHead m how read (heads.Refused stop) → meta_finished (head_read (read ++ rest)) ≡ m
finished_over m read rest how stop ok f = by_finish f.1
  where
    by_finish : (m ≡ head_read read) ⊎ ((how ≡ to_end) × (m ≡ meta_finished (head_read read))) → meta_finished (head_read (read ++ rest)) ≡ m
    by_finish (inl e) = ap meta_finished (ended_stays m read rest (meta_ends.Refused stop) e f.0) ∙ finished_same m (meta_ends.Refused stop) f.0
    by_finish (inr x) =
        ap (λ (bs : List ℕ). meta_finished (head_read (read ++ bs))) (nothing_follows how rest ok x.0)
        ∙ ap (λ (bs : List ℕ). meta_finished (head_read bs)) (append-nil read)
        ∙ sym x.1

refused_file : (file : List ℕ) (m : HeadReading) (stop : FaultAt) → meta_finished (head_read file) ≡ m → m.end ≡ Some (meta_ends.Refused stop) → FileNames file (Err (Unfit Study))
refused_file file m stop fin is = no_set stop.fault stop.at (not_opened m file stop fin is) refl

-- ---- a file whose data set was searched

module _ (read : List ℕ) (how : How) (buffer : List ℕ) (m : HeadReading) (b : Beginning) (named : Coding) (begins : Begins m b buffer how read) (end_is : m.end ≡ Some (meta_ends.Ended named)) where
  abbrev coding : Coding
  coding = coding_by Standard named

  abbrev buffered : List ℕ
  buffered = set_bytes b buffer

  h : HeadRead Standard read how buffer m b coding m.place
  h = record { begins = begins; named = named; end_is = end_is; coding_is = refl; start_is = refl }

  within : m.place ≤ length read
  within = let p = begins.place in omega (arith, p)

  -- the bytes of the data set
  set_there : (more : List ℕ) → drop m.place (read ++ more) ≡ buffered ++ more
  set_there more = drop-append-le m.place read more within ∙ ap (λ (bs : List ℕ). bs ++ more) begins.set

  module _ (more : List ℕ) (ok : Allows how more) where
    abbrev o : Opened Standard m (read ++ more)
    o = head_opened Standard read more how ok buffer m b coding m.place h

    small : m.place ≤ INPUT_LIMIT
    small = let most = o.within in let place = o.place_is in omega (arith, most, place)

    placed : (f : Front) (stop : Stop) → Reads no_bar coding.syntax m.place (buffered ++ more) f stop → Reads no_bar coding.syntax (set_at o.group) (drop (set_at o.group) (read ++ more)) f stop
    placed f stop reads =
        subst (λ (n : ℕ). Reads no_bar coding.syntax n (drop n (read ++ more)) f stop) o.place_is (subst (λ (bs : List ℕ). Reads no_bar coding.syntax m.place bs f stop) (sym (set_there more)) reads)

    -- the input has ended
    at_its_end : (answer : Answer) → answer ≡ ended coding.syntax m.place (buffered ++ more) → FileNames (read ++ more) answer
    at_its_end answer is =
        let all = all_read coding.syntax m.place small (buffered ++ more) in
        of_set o.m o.group coding all.set _ o.reads (placed all.set _ all.reads) (ended_as coding.syntax m.place small (buffered ++ more) answer is)

    -- more bytes can still change it
    undecided_at : decided coding.syntax m.place (buffered ++ more) ≡ None → IsUndecided (read ++ more)
    undecided_at none =
        let all = all_read coding.syntax m.place small (buffered ++ more) in
        let still = still_undecided coding.syntax m.place small (buffered ++ more) (undecided_by coding.syntax m.place small (buffered ++ more) none) in
        in_set o.m o.group coding all.set _ o.reads (placed all.set _ all.reads) still.0 still.1

  -- the bytes decide it
  decided_at : (more rest : List ℕ) (ok : Allows how (more ++ rest)) (answer : Answer) → decided coding.syntax m.place (buffered ++ more) ≡ Some answer → FileNames ((read ++ more) ++ rest) answer
  decided_at more rest ok answer is =
      let p = o (more ++ rest) ok in
      let d = decided_as coding.syntax m.place (small (more ++ rest) ok) (buffered ++ more) rest answer is in
      subst (λ (bs : List ℕ). FileNames bs answer) (sym (append_assoc read more rest))
      (of_set p.m p.group coding d.set d.stop p.reads
      (placed (more ++ rest) ok d.set d.stop (subst (λ (bs : List ℕ). Reads no_bar coding.syntax m.place bs d.set d.stop) (append_assoc buffered more rest) d.reads))
      d.answer_is)

-- ---- any file

-- reading did not fail
abbrev IsRead : Answer → Type 0
IsRead (Ok uids) = Unit {0}
IsRead (Err (Unfit which)) = Unit {0}
IsRead (Err Unread) = ⊥

named_read : (a b c : Option (List ℕ)) → IsRead (named a b c)
named_read None b c = tt
named_read (Some x) None c = tt
named_read (Some x) (Some y) None = tt
named_read (Some x) (Some y) (Some z) = tt

file_read : (bytes : List ℕ) (answer : Answer) → FileNames bytes answer → IsRead answer
file_read bytes answer (no_set fault offset refused is) = subst IsRead (sym is) tt
file_read bytes answer (of_set m group coding set stop head reads is) =
    subst IsRead (sym is) (named_read (uid_in Study coding.syntax set) (uid_in Series coding.syntax set) (uid_in Instance coding.syntax set))

comes_by : (given : List ℕ) (how : How) (answer : Answer) → IsRead answer → ((rest : List ℕ) → Allows how rest → FileNames (given ++ rest) answer) → Comes given how answer
comes_by given how (Ok uids) is reads = reads
comes_by given how (Err (Unfit which)) is reads = reads
comes_by given how (Err Unread) is reads = absurd is

tells_read : (failed_before failed_after : Bool) (answer : Answer) → IsRead answer → failed_after ≡ failed_before → TellsUnread failed_before failed_after answer
tells_read failed_before failed_after (Ok uids) is same = same
tells_read failed_before failed_after (Err (Unfit which)) is same = same
tells_read failed_before failed_after (Err Unread) is same = absurd is

was_read : (given : List ℕ) (how : How) (answer : Answer) (failed_before failed_after : Bool) → ((rest : List ℕ) → Allows how rest → FileNames (given ++ rest) answer) → failed_after ≡ failed_before
    → Comes given how answer × TellsUnread failed_before failed_after answer
was_read given how answer failed_before failed_after reads same =
    let is : IsRead answer = file_read (given ++ []) answer (reads [] (allows_nothing how)) in
    (comes_by given how answer is reads, tells_read failed_before failed_after answer is same)

module _ {R : Type 0} (r : Reader R) (before after : R) where
  no_failure : (mid : R) (how : How) → r.has_failed mid ≡ r.has_failed before → (how ≡ in_part) ⊎ (how ≡ to_end) → TellsHow (r.has_failed mid) (r.has_failed after) how → r.has_failed after ≡ r.has_failed before
  no_failure mid how same (inl is) tells = subst (λ (h : How). TellsHow (r.has_failed mid) (r.has_failed after) h) is tells ∙ same
  no_failure mid how same (inr is) tells = subst (λ (h : How). TellsHow (r.has_failed mid) (r.has_failed after) h) is tells ∙ same

  set_comes : (m : HeadReading) (had held : List ℕ) (b : Beginning) (mid : R) (named : Coding) (answer : Answer) → HeadReads r before mid m had held (Ok b) → m.end ≡ Some (meta_ends.Ended named)
      → Searches r mid after (coding_by Standard named).syntax m.place b.is_over (set_bytes b held) answer → ReadsInstance r before after answer
  set_comes m had held b mid named answer head end_is set =
      let begins : Begins m b held head.how head.read = head.outcome in
      let j = joined r HeadGoesOn (SearchGoesOn (coding_by Standard named).syntax m.place b.is_over (set_bytes b held)) IsUndecided before mid after head.read set.more head.how set.how head.reads set.reads head_undecided
      (λ more is going. undecided_at head.read head.how held m b named begins end_is more (allows_any head.how is more) going.1)
      (λ more going. began_gave r before mid m b held head.read head.how head.outcome head.reads going.0)
      in
      let done : Comes (head.read ++ set.more) j.how answer × TellsUnread (r.has_failed before) (r.has_failed after) answer = by_end j.how (λ rest ok. j.allows rest ok) set.ends in
      record { given = head.read ++ set.more; how = j.how; reads = j.reads; comes = done.0; failed = done.1 }
    where
      here : (how : How) → ((rest : List ℕ) → Allows how rest → Allows head.how (set.more ++ rest) × Allows set.how rest) → Allows head.how set.more
      here how allows = subst (Allows head.how) (append-nil set.more) (allows [] (allows_nothing how)).0

      nothing_left : (how : How) → ((rest : List ℕ) → Allows how rest → Allows head.how (set.more ++ rest) × Allows set.how rest) → ((b.is_over ≡ true) × (set.how ≡ in_part)) ⊎ (set.how ≡ to_end) → (rest : List ℕ) → Allows how rest → rest ≡ []
      nothing_left how allows (inl over) rest ok = ends_empty set.more rest (nothing_follows head.how (set.more ++ rest) (allows rest ok).0 (head.outcome.over over.0))
      nothing_left how allows (inr is) rest ok = nothing_follows set.how rest (allows rest ok).1 is

      which : ((b.is_over ≡ true) × (set.how ≡ in_part)) ⊎ (set.how ≡ to_end) → (set.how ≡ in_part) ⊎ (set.how ≡ to_end)
      which (inl over) = inl over.1
      which (inr is) = inr is

      unread_here : (how : How) → ((rest : List ℕ) → Allows how rest → Allows head.how (set.more ++ rest) × Allows set.how rest) → (a : Answer) → set.how ≡ with_failure → decided (coding_by Standard named).syntax m.place (set_bytes b held ++ set.more) ≡ None
          → a ≡ Err Unread → Comes (head.read ++ set.more) how a × TellsUnread (r.has_failed before) (r.has_failed after) a
      unread_here how allows a is none was =
          subst (λ (x : Answer). Comes (head.read ++ set.more) how x × TellsUnread (r.has_failed before) (r.has_failed after) x) (sym was)
          (undecided_at head.read head.how held m b named head.outcome end_is set.more (here how allows) none, subst (λ (h : How). TellsHow (r.has_failed mid) (r.has_failed after) h) is set.reads.failed)

      by_end : (how : How) → ((rest : List ℕ) → Allows how rest → Allows head.how (set.more ++ rest) × Allows set.how rest) → SearchEnds (coding_by Standard named).syntax m.place b.is_over (set_bytes b held ++ set.more) set.how answer
          → Comes (head.read ++ set.more) how answer × TellsUnread (r.has_failed before) (r.has_failed after) answer
      by_end how allows (by_bytes is some) =
          was_read (head.read ++ set.more) how answer (r.has_failed before) (r.has_failed after)
          (λ rest ok. decided_at head.read head.how held m b named head.outcome end_is set.more rest (allows rest ok).0 answer some)
          (no_failure mid set.how head.failed (inl is) set.reads.failed)
      by_end how allows (at_end over is) =
          was_read (head.read ++ set.more) how answer (r.has_failed before) (r.has_failed after)
          (λ rest ok. subst (λ (bs : List ℕ). FileNames ((head.read ++ set.more) ++ bs) answer) (sym (nothing_left how allows over rest ok))
          (subst (λ (bs : List ℕ). FileNames bs answer) (sym (append-nil (head.read ++ set.more))) (at_its_end head.read head.how held m b named head.outcome end_is set.more (here how allows) answer is)))
          (no_failure mid set.how head.failed (which over) set.reads.failed)
      by_end how allows (not_read is none was) = unread_here how allows answer is none was

  head_comes : (m : HeadReading) (had held : List ℕ) (ending : HeadEnding) → HeadReads r before after m had held (Err ending) → ReadsInstance r before after (end_of_head ending)
  head_comes m had held (heads.Refused stop) head = record {
    given = head.read;
    how = head.how;
    reads = for_another r HeadGoesOn IsUndecided before after head.read head.how head_undecided head.reads;
    comes = λ rest ok. refused_file (head.read ++ rest) m stop (finished_over m head.read rest head.how stop ok head.outcome) head.outcome.0;
    failed = head.failed;
  }
  head_comes m had held (heads.Unread count) head = record {
    given = head.read;
    how = head.how;
    reads = for_another r HeadGoesOn IsUndecided before after head.read head.how head_undecided head.reads;
    comes = head_undecided head.read (ap (λ (x : HeadReading). x.end) (sym head.outcome.0) ∙ head.outcome.1);
    failed = head.failed;
  }

  pub instance_comes : (answer : Answer) → InstanceCalls r before after answer → ReadsInstance r before after answer
  instance_comes answer (no_head m had held ending head is) = subst (ReadsInstance r before after) (sym is) (head_comes m had held ending head)
  instance_comes answer (set_searched m had held b mid named head end_is set) = set_comes m had held b mid named answer head end_is set
