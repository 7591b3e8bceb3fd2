-- What is done with files that are shown leaves over files in memory, one name after another.
use Rattle.std.proofs.Common.{◌≡◌, ◌∙◌, ap, sym, subst, refl, ℕ, ◌<◌, ◌≤◌, List, [], ◌∷◌, ◌++◌, length, length-append, arith, Bool, true, false, Option, Some, None, Result, Ok, Err}
use Rattle.std.specs.Prelude.{max, IfOk}
use Rattle.std.specs.Io.KnownBytes.{append_known}
use Rattle.dcm_lemmas.proofs.Numbers.{max_same}
use Rattle.dcm_lemmas.proofs.Options.{known_nothing, known_twice}
use Rattle.dcm_devices.specs.declared.device.WriteFailed.{WriteFailed}
use Rattle.dcm_devices.specs.declared.memory.MemIn.{MemIn}
use Rattle.dcm_devices.specs.declared.memory.Measured.{Measured}
use Rattle.dcm_devices.specs.Device.{AppendsFront}
use Rattle.dcm_files.specs.declared.memory.MemSystem.{MemSystem}
use Rattle.dcm_files.specs.declared.opened.FileKind.{FileKind}
use Rattle.dcm_files.specs.declared.opened.FileKind.TheVariants.{Regular, Directory, Other, Unknown}
use Rattle.dcm_files.specs.declared.opened.Opened.{Opened}
use Rattle.dcm_files.specs.declared.opened.Unopened.{Unopened}
use Rattle.dcm_files.specs.Devices.{clash}
use Rattle.dcm_files.specs.Memory.{may_do}
use Rattle.dcm_names.specs.Names.{can_be_opened}
use Rattle.dcm_names.specs.NamedLines.{unopened_line}
use Rattle.dcm_cli.specs.declared.ending.Remarks.{Remarks}
use Rattle.dcm_cli.specs.declared.ending.Verdict.{Verdict}
use Rattle.dcm_cli.specs.Change.{Change}
use Rattle.dcm_cli.specs.ErrorLines.{Reports}
use Rattle.dcm_cli.specs.Program.{Follows}
use Rattle.dcm_cli.specs.Run.{Answered, Remarked}
use Rattle.dcm_cli.specs.Status.{DEVICE, DONE}
use Rattle.dcm_cli.proofs.Passes.Readers.{known}
use Rattle.dcm_cli.proofs.Runs.OneRemark.{one_remark, some_remark}
use Rattle.dcm_cli.proofs.Runs.InMemory.{memory_reader, memory_writer}
use Rattle.dcm_each.specs.Each.{Writing, DoesAt, not_opened, done_at}
use Rattle.dcm_each.specs.InMemory.{file_of}
use Rattle.dcm_each.proofs.InMemory.{Told, told_of, told_then, front_less, held, opened_is}
use Rattle.dcm_dumps.specs.Heading.{heading}
use Rattle.dcm_dumps.specs.Dumps.{Manner, Shown, DoesDump, is_output, headed as shown_headed, ShowsFile, shown as file_shown, unread, not_headed, not_written, not_flushed, dumps_into, next_number, remark_lines, verdict_lines, verdict_status}
use Rattle.dcm_dumps.specs.DumpsInMemory.{Texts, no_texts, and_texts, Place, passed, headed, AllCome, Showing, unopened, shown, FileComes}
use Rattle.dcm_dumps.proofs.Texts.{one_text}
use Rattle.dcm_dumps.proofs.TextsAlike.{Split, both_texts, texts_none}

abbrev pub place : Shown Measured → Place
place x = record { number = x.number; is_first = x.is_first }

-- all of a text was written, and its lines were reported
pub record All (t : Texts) (last : Place) (errors : Change) (from to : Shown Measured) (status : ℕ) : Type 0 where
  pub grown : held to.out ≡ append_known (held from.out) t.text
  pub fine : to.out.out.failed ≡ from.out.out.failed
  pub told : Told errors t.lines
  pub status_is : status ≡ t.status
  pub at : place to ≡ last

-- the output failed before it had all of it
pub record Less (t : Texts) (from to : Shown Measured) : Type 0 where
  pub less : List ℕ
  pub grown : held to.out ≡ append_known (held from.out) less
  pub fewer : length less < length t.text
  pub failed : to.out.out.failed ≡ true

abbrev pub Left : Texts → Place → Change → (from to : Shown Measured) → Result ℕ WriteFailed → Type 0
Left t last errors from to (Ok status) = All t last errors from to status
Left t last errors from to (Err failure) = Less t from to

pub all_then : (a b : Texts) (middle last : Place) (whole first second : Change) (from mid to : Shown Measured) (m n k : ℕ) → All a middle first from mid n → All b last second mid to k → Follows whole first second → m ≡ max n k
    → All (and_texts a b) last whole from to m
all_then a b middle last whole first second from mid to m n k x y follows is = record {
  grown = y.grown ∙ ap (λ (h : Option (List ℕ)). append_known h b.text) x.grown ∙ known_twice (held from.out) a.text b.text;
  fine = y.fine ∙ x.fine;
  told = told_then whole first second follows a.lines b.lines x.told y.told;
  status_is = max_same n a.status k b.status m is x.status_is y.status_is;
  at = y.at;
}

-- a text, and then less than another one
pub less_then : (a b : Texts) (after : List ℕ) (middle : Place) (first : Change) (from mid to : Shown Measured) (t : Texts) (n : ℕ) → t.text ≡ a.text ++ (b.text ++ after) → All a middle first from mid n → Less b mid to → Less t from to
less_then a b after middle first from mid to t n is x y = record {
  less = a.text ++ y.less;
  grown = y.grown ∙ ap (λ (h : Option (List ℕ)). append_known h y.less) x.grown ∙ known_twice (held from.out) a.text y.less;
  fewer =
      let l = length-append a.text y.less in
      let p = ap length is ∙ length-append a.text (b.text ++ after) in
      let q = length-append b.text after in
      let f = y.fewer in
      omega (arith, l, p, q, f);
  failed = y.failed;
}

-- ---- one file

no_clash : (kind : FileKind) (cause : Unopened) → clash kind Other ≡ Some cause → ⊥
no_clash (Regular d n s) cause e = cc
no_clash Directory cause e = cc
no_clash Other cause e = cc
no_clash Unknown cause e = cc

module _ (h : Showing) (name : List ℕ) (errors : Change) where
  abbrev pub manner : Manner
  manner = record { job = h.job; output = Other; total = h.total }

  same_left : (t u : Texts) (p q : Place) (from to : Shown Measured) (r o : Result ℕ WriteFailed) → t ≡ u → p ≡ q → r ≡ o → Left t p errors from to r → Left u q errors from to o
  same_left t u p q from to r o e f g left =
      subst (λ (x : Result ℕ WriteFailed). Left u q errors from to x) g (subst (λ (x : Place). Left u x errors from to r) f (subst (λ (x : Texts). Left x p errors from to r) e left))

  -- the dump of a file is that of its bytes
  same_text : (from : Place) (bytes text : List ℕ) (verdict : Verdict) (remarks : Remarks) (t : Texts) (last : Place) → Answered h.job bytes text verdict → Remarked h.job bytes remarks → FileComes h from name (Some bytes) t last
      → (shown h from name text verdict remarks ≡ t) × (headed from ≡ last)
  same_text from bytes text verdict remarks t last was remarked (other, said, told, is, as_told, same, at) =
      let one = one_text h.job bytes text other verdict said was is in
      let also = one_remark h.job bytes remarks told remarked as_told in
      ((λ i. shown h from name (one.0 i) (one.1 i) (also i)) ∙ sym same, sym at)

  module _ (from to : Shown Measured) (input left : MemIn) (result : Result ℕ WriteFailed) (t : Texts) (last : Place) (comes : FileComes h (place from) name (Some input.rest.now) t last) where
    abbrev head : List ℕ
    head = heading from.is_first (next_number from.number) h.total name

    -- less than the dump was written
    less_left : (text : List ℕ) (verdict : Verdict) (front : List ℕ) (failure : WriteFailed) → Answered h.job input.rest.now text verdict → held to.out ≡ append_known (held from.out) front → length front < length (head ++ text)
        → to.out.out.failed ≡ true → result ≡ Err failure → Left t last errors from to result
    less_left text verdict front failure was grown fewer failed is =
        let r = some_remark h.job input.rest.now in
        let s = same_text (place from) input.rest.now text verdict r.0 t last was r.1 comes in
        same_left (shown h (place from) name text verdict r.0) t (headed (place from)) last from to (Err failure) result s.0 s.1 (sym is) (record { less = front; grown = grown; fewer = fewer; failed = failed })

    shows_left : ShowsFile memory_reader memory_writer h.job head name errors from.out to.out input result left → to.number ≡ next_number from.number → IfOk result (λ status. to.is_first ≡ false) → Left t last errors from to result
    shows_left (file_shown given how text verdict remarks reads all remarked sound went fine flushed line is) number first =
        let k = known memory_reader _ input left given how reads input.rest.now refl in
        let was = subst (λ (bytes : List ℕ). Answered h.job bytes text verdict) (sym k.2) (all k.0 k.1) in
        let told = subst (λ (bytes : List ℕ). Remarked h.job bytes remarks) (sym k.2) (remarked k.0 k.1) in
        let s = same_text (place from) input.rest.now text verdict remarks t last was told comes in
        same_left (shown h (place from) name text verdict remarks) t (headed (place from)) last from to (Ok (verdict_status verdict)) result s.0 s.1 (sym is)
        (record { grown = went; fine = fine; told = told_of errors (remark_lines name remarks ++ verdict_lines name verdict) line; status_is = refl; at = λ i. record { number = number i; is_first = (subst (λ (r : Result ℕ WriteFailed). IfOk r (λ status. to.is_first ≡ false)) is first) i } })
    shows_left (unread given how text remarks reads sure remarked failed went fine flushed line is) number first = absurd (let no : false ≡ true = failed in cc)
    shows_left (not_headed failure front failed same line is) number first =
        let few = front_less front in
        let l = length-append head comes.0 in
        less_left comes.0 comes.1 front.front failure comes.3 front.grown (omega (arith, few, l)) failed is
    shows_left (not_written given how failure reads each failed line is) number first =
        let k = known memory_reader _ input left given how reads input.rest.now refl in
        let e = each k.0 k.1 in
        less_left e.0 e.1 e.3.front failure (subst (λ (bytes : List ℕ). Answered h.job bytes e.0 e.1) (sym k.2) e.2) e.3.grown (front_less e.3) failed is
    shows_left (not_flushed given how text failure reads is_text went failed no_room line is) number first = absurd (let no : Some _ ≡ None = no_room in cc)

    pub dump_left : (i : Opened MemIn) → i.device ≡ input → DoesDump memory_reader memory_writer manner name errors from to i result left → Left t last errors from to result
    dump_left i same (is_output cause clashes line passes back is) = absurd (no_clash i.kind cause clashes)
    dump_left i same (shown_headed none shows number first) =
        shows_left (subst (λ (x : MemIn). ShowsFile memory_reader memory_writer h.job head name errors from.out to.out x result left) same shows) number first

  -- one name, whose file is opened or not
  pub at_left : (s : MemSystem) (path : List ℕ) (t : Texts) (last : Place) (from to : Shown Measured) (result : Result ℕ WriteFailed) (after : MemSystem)
      → DoesAt may_do (dumps_into memory_reader memory_writer manner) name path (can_be_opened name) errors from to s result after → FileComes h (place from) name (file_of s name path) t last → Left t last errors from to result × (after ≡ s)
  at_left s path t last from to result after (not_opened opens line passes is) comes =
      let o = opened_is s (can_be_opened name) path None after opens in
      let c = subst (λ (f : Option (List ℕ)). FileComes h (place from) name f t last) o.0 comes in (
        same_left (unopened name) t (passed (place from)) last from to (Ok DEVICE) result (sym c.0) (sym c.1) (sym is)
            (record {
              grown = ap (λ (x : Shown Measured). held x.out) passes ∙ sym (known_nothing (held from.out));
              fine = ap (λ (x : Shown Measured). x.out.out.failed) passes;
              told = told_of errors (unopened_line name) line;
              status_is = refl;
              at = ap place passes;
            }),
        o.1,
      )
  at_left s path t last from to result after (done_at i left has opens does back) comes =
      let o = opened_is s (can_be_opened name) path (Some i) has opens in
      (dump_left from to i.device left result t last (subst (λ (f : Option (List ℕ)). FileComes h (place from) name f t last) o.0 comes) i refl does, back ∙ o.1)

-- ---- names, one after another

-- nothing was done
pub nothing_left : (errors : Change) (from to : Shown Measured) (t : Texts) (last : Place) (status : ℕ) → Reports errors [] → to ≡ from → t ≡ no_texts → last ≡ place from → status ≡ DONE → All t last errors from to status
nothing_left errors from to t last status line same none at is = record {
  grown = ap (λ (x : Shown Measured). held x.out) same ∙ sym (known_nothing (held from.out)) ∙ ap (λ (x : Texts). append_known (held from.out) x.text) (sym none);
  fine = ap (λ (x : Shown Measured). x.out.out.failed) same;
  told = subst (λ (x : Texts). Told errors x.lines) (sym none) (told_of errors [] line);
  status_is = is ∙ ap (λ (x : Texts). x.status) (sym none);
  at = ap place same ∙ sym at;
}

module _ {X : Type 0} (s : MemSystem) (Does : X → Writing MemSystem (Shown Measured)) (Comes : Place → X → Texts → Place → Type 0)
    (name_left : (name : X) (t : Texts) (last : Place) (errors : Change) (from to : Shown Measured) (result : Result ℕ WriteFailed) (after : MemSystem) → Does name errors from to s result after → Comes (place from) name t last
    → Left t last errors from to result × (after ≡ s)) where
  -- one name after others
  pub one_more : (start : Place) (others : List X) (name : X) (t : Texts) (last : Place) (p : Split Comes start others (name ∷ []) t last) (errors of_others of_name : Change) (from mid to : Shown Measured) (reached ended status : ℕ) (between after : MemSystem)
      → All p.first p.mid of_others from mid reached × (between ≡ s) → Does name of_name mid to between (Ok ended) after → Follows errors of_others of_name → status ≡ max reached ended → All t last errors from to status × (after ≡ s)
  one_more start others name t last p errors of_others of_name from mid to reached ended status between after first does follows is =
      let one = p.of_later in
      let next = name_left name one.1 one.0 of_name mid to (Ok ended) after (subst (λ (z : MemSystem). Does name of_name mid to z (Ok ended) after) first.1 does)
      (subst (λ (q : Place). Comes q name one.1 one.0) (sym first.0.at) one.3)
      in
      let later : p.later ≡ one.1 = one.5 ∙ both_texts refl one.4.0 ∙ texts_none one.1 in
      let there : one.0 ≡ last = sym one.4.1 in (
        subst (λ (z : Texts). All z last errors from to status) (sym (p.whole ∙ both_texts refl later))
            (all_then p.first one.1 p.mid last errors of_others of_name from mid to status reached ended first.0 (subst (λ (q : Place). All one.1 q of_name mid to ended) there next.0) follows is),
        next.1,
      )

  -- and the output failed at it
  pub one_failed : (start : Place) (others later : List X) (name : X) (t : Texts) (last : Place) (p : Split Comes start others (name ∷ later) t last) (of_others of_name : Change) (from mid to : Shown Measured) (reached : ℕ) (failure : WriteFailed) (between after : MemSystem)
      → All p.first p.mid of_others from mid reached × (between ≡ s) → Does name of_name mid to between (Err failure) after → Less t from to × (after ≡ s)
  one_failed start others later name t last p of_others of_name from mid to reached failure between after first does =
      let one = p.of_later in
      let next = name_left name one.1 one.0 of_name mid to (Err failure) after (subst (λ (z : MemSystem). Does name of_name mid to z (Err failure) after) first.1 does)
      (subst (λ (q : Place). Comes q name one.1 one.0) (sym first.0.at) one.3)
      in
      let is : t.text ≡ p.first.text ++ (one.1.text ++ one.2.text) = ap (λ (x : Texts). x.text) (p.whole ∙ both_texts refl one.5) in
      (less_then p.first one.1 one.2.text p.mid of_others from mid to t reached is first.0 next.0, next.1)
