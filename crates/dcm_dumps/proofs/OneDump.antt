-- Words that ask for dumps of several files come to one outcome over files in memory.
use Rattle.std.proofs.Common.{◌≡◌, ◌∙◌, ap, sym, subst, refl, ℕ, List, [], ◌∷◌, true, Option, Some, None, Result, Ok, Err}
use Rattle.dcm_base.specs.Lines.Build as build
use Rattle.dcm_files.specs.declared.memory.MemSystem.{MemSystem}
use Rattle.dcm_names.specs.Names.{names_of}
use Rattle.dcm_words.specs.Words.{Job, dump, dump_decoded, dump_named, convert, build as building, modify, deidentify}
use Rattle.dcm_table_words.specs.Table.{Name, file, list}
use Rattle.dcm_cli.specs.declared.ending.Verdict.{Verdict}
use Rattle.dcm_cli.specs.Answer.{ReadAnswers, Answer, output_of}
use Rattle.dcm_cli.specs.Run.{Answered, ReadEnds, verdict_of_source, verdict_of_line_stop}
use Rattle.dcm_cli.proofs.Runs.OneAnswer.{some_answer}
use Rattle.dcm_cli.proofs.Runs.OneRemark.{one_remark, some_remark}
use Rattle.dcm_each.specs.Each.{listed_path}
use Rattle.dcm_each.specs.InMemory.{file_of}
use Rattle.dcm_dumps.specs.declared.plan.DumpsUsage.{DumpsUsage}
use Rattle.dcm_dumps.specs.Words.{Dumps, meant_dumps}
use Rattle.dcm_dumps.specs.DumpsInMemory.{Texts, no_texts, and_texts, Place, at_first, passed, headed, AllCome, Showing, unopened, shown, FileComes, ListedComes, ListComes, NameComes, DumpsOutcome, refused, dumped, showing, DumpsCome, DumpsComeBy}
use Rattle.dcm_dumps.proofs.Texts.{one_text}
use Rattle.dcm_dumps.proofs.TextsAlike.{both_texts}

-- ---- a file has a text

abbrev Some_text : Job → List ℕ → Type 0
Some_text job input = (text : List ℕ) × (verdict : Verdict) × Answered job input text verdict

of_read : (job : Job) (input : List ℕ) (a : Answer) → ReadAnswers job input a → (text : List ℕ) × (verdict : Verdict) × ReadEnds job input text verdict
of_read job input a reads =
    (output_of job reads.source, verdict_of_source job reads.source, record { source = reads.source; reads = reads.reads; out_is = refl; verdict_is = refl })

some_text : (job : Job) (input : List ℕ) → Some_text job input
some_text (dump d mode bare) input = let x = some_answer (dump d mode bare) input in of_read (dump d mode bare) input x.0 x.1
some_text (dump_decoded d mode bare) input = let x = some_answer (dump_decoded d mode bare) input in of_read (dump_decoded d mode bare) input x.0 x.1
some_text (dump_named texts d mode bare named) input = let x = some_answer (dump_named texts d mode bare named) input in of_read (dump_named texts d mode bare named) input x.0 x.1
some_text (convert d target) input = let x = some_answer (convert d target) input in of_read (convert d target) input x.0 x.1
some_text (building limit) input = (build.built_bytes (build.built limit input).built, verdict_of_line_stop (build.built limit input).told, record { out_is = refl; verdict_is = refl })
some_text (modify d edits) input = let x = some_answer (modify d edits) input in of_read (modify d edits) input x.0 x.1
some_text (deidentify options reports key) input = let x = some_answer (deidentify options reports key) input in of_read (deidentify options reports key) input x.0 x.1

-- ---- one after another

-- the same, and at the same place
abbrev Same : (t u : Texts) (p q : Place) → Type 0
Same t u p q = (t ≡ u) × (p ≡ q)

module _ {X : Type 0} (Comes : Place → X → Texts → Place → Type 0) where
  module _ (one : (from : Place) (x : X) (t u : Texts) (p q : Place) → Comes from x t p → Comes from x u q → Same t u p q) where
    all_one : (from : Place) (xs : List X) (t u : Texts) (p q : Place) → AllCome Comes from xs t p → AllCome Comes from xs u q → Same t u p q
    all_one from [] t u p q a b = (a.0 ∙ sym b.0, a.1 ∙ sym b.1)
    all_one from (x ∷ xs) t u p q (mid, first, later, comes, rest, is) (mid', first', later', comes', rest', is') =
        let f = one from x first first' mid mid' comes comes' in
        let l = all_one mid xs later later' p q rest (subst (λ (m : Place). AllCome Comes m xs later' q) (sym f.1) rest') in
        (is ∙ both_texts f.0 l.0 ∙ sym is', l.1)

  module _ (some : (from : Place) (x : X) → (t : Texts) × (p : Place) × Comes from x t p) where
    all_some : (from : Place) (xs : List X) → (t : Texts) × (p : Place) × AllCome Comes from xs t p
    all_some from [] = (no_texts, from, (refl, refl))
    all_some from (x ∷ xs) =
        let a = some from x in
        let b = all_some a.1 xs in
        (and_texts a.0 b.0, b.1, (a.1, a.0, b.0, a.2, b.2, refl))

-- ---- names

module _ (s : MemSystem) (h : Showing) where
  one_file : (from : Place) (name : List ℕ) (f : Option (List ℕ)) (t u : Texts) (p q : Place) → FileComes h from name f t p → FileComes h from name f u q → Same t u p q
  one_file from name None t u p q a b = (a.0 ∙ sym b.0, a.1 ∙ sym b.1)
  one_file from name (Some bytes) t u p q (text, verdict, remarks, said, told, is, at) (text', verdict', remarks', said', told', is', at') =
      let one = one_text h.job bytes text text' verdict verdict' said said' in
      let also = one_remark h.job bytes remarks remarks' told told' in
      (is ∙ (λ i. shown h from name (one.0 i) (one.1 i) (also i)) ∙ sym is', at ∙ sym at')

  some_file : (from : Place) (name : List ℕ) (f : Option (List ℕ)) → (t : Texts) × (p : Place) × FileComes h from name f t p
  some_file from name None = (unopened name, passed from, (refl, refl))
  some_file from name (Some bytes) =
      let x = some_text h.job bytes in
      let r = some_remark h.job bytes in
      (shown h from name x.0 x.1 r.0, headed from, (x.0, x.1, r.0, x.2, r.1, refl, refl))

  one_listed : (from : Place) (name : List ℕ) (t u : Texts) (p q : Place) → ListedComes s h from name t p → ListedComes s h from name u q → Same t u p q
  one_listed from name t u p q a b = one_file from name (file_of s name (listed_path name)) t u p q a b

  some_listed : (from : Place) (name : List ℕ) → (t : Texts) × (p : Place) × ListedComes s h from name t p
  some_listed from name = some_file from name (file_of s name (listed_path name))

  one_list : (from : Place) (path : List ℕ) (f : Option (List ℕ)) (t u : Texts) (p q : Place) → ListComes s h from path f t p → ListComes s h from path f u q → Same t u p q
  one_list from path None t u p q a b = (a.0 ∙ sym b.0, a.1 ∙ sym b.1)
  one_list from path (Some bytes) t u p q a b = all_one (ListedComes s h) one_listed from (names_of bytes true) t u p q a b

  some_list : (from : Place) (path : List ℕ) (f : Option (List ℕ)) → (t : Texts) × (p : Place) × ListComes s h from path f t p
  some_list from path None = (unopened path, from, (refl, refl))
  some_list from path (Some bytes) = all_some (ListedComes s h) some_listed from (names_of bytes true)

  one_name : (from : Place) (name : Name) (t u : Texts) (p q : Place) → NameComes s h from name t p → NameComes s h from name u q → Same t u p q
  one_name from (file path) t u p q a b = one_file from path (file_of s path path) t u p q a b
  one_name from (list path) t u p q a b = one_list from path (file_of s path path) t u p q a b

  some_name : (from : Place) (name : Name) → (t : Texts) × (p : Place) × NameComes s h from name t p
  some_name from (file path) = some_file from path (file_of s path path)
  some_name from (list path) = some_list from path (file_of s path path)

-- ---- words

one_by : (s : MemSystem) (meant : Result Dumps DumpsUsage) (a b : DumpsOutcome) → DumpsComeBy s meant a → DumpsComeBy s meant b → a ≡ b
one_by s (Err u) a b p q = p ∙ sym q
one_by s (Ok d) a b (t, come, is) (u, comes, was) =
    is ∙ ap dumped (all_one (NameComes s (showing d)) (one_name s (showing d)) at_first d.names t u come.0 comes.0 come.1 comes.1).0 ∙ sym was

pub one_outcome : (words : List (List ℕ)) (s : MemSystem) (a b : DumpsOutcome) → DumpsCome words s a → DumpsCome words s b → a ≡ b
one_outcome words s a b p q = one_by s (meant_dumps words) a b p q

some_by : (s : MemSystem) (meant : Result Dumps DumpsUsage) → (o : DumpsOutcome) × DumpsComeBy s meant o
some_by s (Err u) = (refused u, refl)
some_by s (Ok d) =
    let t = all_some (NameComes s (showing d)) (some_name s (showing d)) at_first d.names in
    (dumped t.0, (t.0, (t.1, t.2), refl))

pub some_outcome : (words : List (List ℕ)) (s : MemSystem) → (o : DumpsOutcome) × DumpsCome words s o
some_outcome words s = some_by s (meant_dumps words)
