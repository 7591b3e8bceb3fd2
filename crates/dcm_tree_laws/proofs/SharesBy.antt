-- Each name is of one share, and the rows of all shares are those of one run.
use Rattle.std.proofs.Common.{◌≡◌, ◌≢◌, ◌∙◌, refl, sym, ap, subst, inl, inr, ◌⊎◌, ◌≤◌, ◌<◌, ℕ, ◌+◌, ◌%◌, zero, suc, ℤ, List, [], ◌∷◌, ◌++◌, Bool, true, false, arith, append_assoc}
use Rattle.std.specs.List.{concat}
use Rattle.std.specs.List.Sorted.{IsPermutation}
use Rattle.std.proofs.Math.Dec.{eqb}
use Rattle.std.proofs.lemmas.Bool.{eqb-true, eq-eqb}
use Rattle.std.proofs.lemmas.List.{append-nil}
use Rattle.std.proofs.lemmas.Bool.Decides.{eqb_tells}
use Rattle.std.proofs.lemmas.List.Folds.{concat-append}
use Rattle.std.proofs.lemmas.List.Sorted.{IsPermutation-refl, IsPermutation-sym, IsPermutation-trans, IsPermutation-to_front, IsPermutation-append_left, IsPermutation-append_right}
use Rattle.std.proofs.lemmas.Nat.{mod_below}
use Rattle.dcm_deid.specs.declared.fate.Options.{Options}
use Rattle.dcm_words.specs.Words.{Job, deidentify, with_days}
use Rattle.dcm_cli.proofs.Runs.OneAnswer.{one_answer}
use Rattle.dcm_cli.proofs.Runs.OneFirst.{one_first}
use Rattle.dcm_cli.specs.Answer.{Answer, Answers}
use Rattle.dcm_cli.specs.First.{FirstReads}
use Rattle.dcm_cli.specs.declared.first.FirstEnd.TheVariants.{Days}
use Rattle.dcm_trees.specs.declared.file.Done.{Done}
use Rattle.dcm_trees.specs.Fate.{word}
use Rattle.dcm_trees.specs.Share.{hash, is_of}
use Rattle.dcm_trees.specs.Task.{Task, same, by_days}
use Rattle.dcm_trees.specs.Work.{row, output_of}
use Rattle.dcm_tree_laws.specs.OneRow.{no_visit, of_another, and_row}
use Rattle.dcm_tree_laws.specs.Rows.{Visit}
use Rattle.dcm_tree_laws.specs.Shares.{OneShare, row_of, row_if, rows_in, rows_of_runs, RowsOfRuns, ManifestOfShare, OneOutput}
use Rattle.dcm_tree_laws.specs.Single.{IsJobOf, of_all, of_days}

-- ---- the share of a name

pub one_share : OneShare
one_share count relative some =
    let less : hash relative % count < count = mod_below (hash relative) count some in
    record {
      number = hash relative % count + 1;
      first = omega arith;
      last = omega (arith, less);
      its = eq-eqb (hash relative % count + 1) (hash relative % count + 1) refl;
      alone = λ other is. sym (eqb-true (hash relative % count + 1) other is);
    }

pub of_one : (relative : List ℕ) → is_of 1 1 relative ≡ true
of_one relative =
    let less : hash relative % 1 < 1 = mod_below (hash relative) 1 (omega arith) in
    eq-eqb (hash relative % 1 + 1) 1 (omega (arith, less))

-- ---- one name more

row_here : (b : Bool) (text : List ℕ) (rows : List (List ℕ)) → b ≡ true → row_if b text ++ rows ≡ text ∷ rows
row_here true text rows is = refl
row_here false text rows is = absurd (cc)

row_not_here : (b : Bool) (text : List ℕ) (rows : List (List ℕ)) → b ≡ false → row_if b text ++ rows ≡ rows
row_not_here true text rows is = absurd (cc)
row_not_here false text rows is = refl

both : (a b c d : List (List ℕ)) → a ≡ b → c ≡ d → a ++ c ≡ b ++ d
both a b c d e f = cc

not_of : (a b : ℕ) → a ≢ b → ((eqb a b ≡ true) × (a ≡ b)) ⊎ ((eqb a b ≡ false) × (a ≢ b)) → eqb a b ≡ false
not_of a b apart (inl e) = absurd (apart e.1)
not_of a b apart (inr e) = e.0

module _ (became : Visit → Done) (count : ℕ) (v : Visit) (visits : List Visit) where
  not_in : (number : ℕ) → hash v.named.relative % count + 1 ≢ number → rows_in became number count (v ∷ visits) ≡ rows_in became number count visits
  not_in number apart =
      row_not_here (is_of number count v.named.relative) (row_of became v) (rows_in became number count visits) (not_of (hash v.named.relative % count + 1) number apart (eqb_tells (hash v.named.relative % count + 1) number))

  -- not in the runs before that of its share
  not_yet : (last : ℕ) → last < hash v.named.relative % count + 1 → rows_of_runs became count last (v ∷ visits) ≡ rows_of_runs became count last visits
  not_yet zero less = refl
  not_yet (suc last) less =
      both (rows_of_runs became count last (v ∷ visits)) (rows_of_runs became count last visits) (rows_in became (suc last) count (v ∷ visits)) (rows_in became (suc last) count visits)
      (not_yet last (omega (arith, less))) (not_in (suc last) (λ e. omega (arith, less, e)))

  moved : (xs ys : List (List ℕ)) (r : List ℕ) → IsPermutation (r ∷ (xs ++ ys)) (xs ++ r ∷ ys)
  moved xs ys r =
      IsPermutation-sym (xs ++ r ∷ ys) (r ∷ (xs ++ ys)) (subst (λ (l : List (List ℕ)). IsPermutation l (r ∷ (xs ++ ys))) (append_assoc xs (r ∷ []) ys)
      (IsPermutation-append_left ys (xs ++ r ∷ []) (r ∷ xs) (IsPermutation-to_front xs r)))

  -- in that run
  in_its : (last : ℕ) → hash v.named.relative % count + 1 ≡ suc last → IsPermutation (row_of became v ∷ rows_of_runs became count (suc last) visits) (rows_of_runs became count (suc last) (v ∷ visits))
  in_its last is =
      subst (IsPermutation (row_of became v ∷ rows_of_runs became count (suc last) visits))
      (sym (both (rows_of_runs became count last (v ∷ visits)) (rows_of_runs became count last visits) (rows_in became (suc last) count (v ∷ visits)) (row_of became v ∷ rows_in became (suc last) count visits)
      (not_yet last (omega (arith, is)))
      (row_here (is_of (suc last) count v.named.relative) (row_of became v) (rows_in became (suc last) count visits) (eq-eqb (hash v.named.relative % count + 1) (suc last) is))))
      (moved (rows_of_runs became count last visits) (rows_in became (suc last) count visits) (row_of became v))

  in_another : (last : ℕ) → hash v.named.relative % count + 1 ≢ suc last → IsPermutation (row_of became v ∷ rows_of_runs became count last visits) (rows_of_runs became count last (v ∷ visits))
      → IsPermutation (row_of became v ∷ rows_of_runs became count (suc last) visits) (rows_of_runs became count (suc last) (v ∷ visits))
  in_another last apart before =
      subst (λ (rows : List (List ℕ)). IsPermutation (row_of became v ∷ rows_of_runs became count (suc last) visits) (rows_of_runs became count last (v ∷ visits) ++ rows)) (sym (not_in (suc last) apart))
      (IsPermutation-append_left (rows_in became (suc last) count visits) (row_of became v ∷ rows_of_runs became count last visits) (rows_of_runs became count last (v ∷ visits)) before)

  least_of : (last : ℕ) → hash v.named.relative % count + 1 ≤ suc last → hash v.named.relative % count + 1 ≢ suc last → hash v.named.relative % count + 1 ≤ last
  least_of last less apart = omega (arith, less, apart)

  in_last : (last : ℕ) → ((eqb (hash v.named.relative % count + 1) (suc last) ≡ true) × (hash v.named.relative % count + 1 ≡ suc last))
      ⊎ ((eqb (hash v.named.relative % count + 1) (suc last) ≡ false) × (hash v.named.relative % count + 1 ≢ suc last))
      → (hash v.named.relative % count + 1 ≢ suc last → IsPermutation (row_of became v ∷ rows_of_runs became count last visits) (rows_of_runs became count last (v ∷ visits)))
      → IsPermutation (row_of became v ∷ rows_of_runs became count (suc last) visits) (rows_of_runs became count (suc last) (v ∷ visits))
  in_last last (inl e) before = in_its last e.1
  in_last last (inr e) before = in_another last e.1 (before e.1)

  in_one : (last : ℕ) → hash v.named.relative % count + 1 ≤ last → IsPermutation (row_of became v ∷ rows_of_runs became count last visits) (rows_of_runs became count last (v ∷ visits))
  in_one zero less = absurd (omega (arith, less))
  in_one (suc last) less = in_last last (eqb_tells (hash v.named.relative % count + 1) (suc last)) (λ apart. in_one last (least_of last less apart))

no_rows : (became : Visit → Done) (count last : ℕ) → rows_of_runs became count last [] ≡ []
no_rows became count zero = refl
no_rows became count (suc last) = both (rows_of_runs became count last []) [] [] [] (no_rows became count last) refl

pub rows_of_all : RowsOfRuns
rows_of_all became count [] some = subst (IsPermutation []) (sym (no_rows became count count)) (IsPermutation-refl [])
rows_of_all became count (v ∷ visits) some =
    let less : hash v.named.relative % count < count = mod_below (hash v.named.relative) count some in
    let r : List ℕ = row_of became v in
    subst (λ (rows : List (List ℕ)). IsPermutation rows (rows_of_runs became count count (v ∷ visits))) (sym (row_here (is_of 1 1 v.named.relative) r (rows_in became 1 1 visits) (of_one v.named.relative)))
    (IsPermutation-trans (r ∷ rows_in became 1 1 visits) (r ∷ rows_of_runs became count count visits) (rows_of_runs became count count (v ∷ visits))
    (IsPermutation-append_right (r ∷ []) (rows_in became 1 1 visits) (rows_of_runs became count count visits) (rows_of_all became count visits some))
    (in_one became count v visits count (omega (arith, less))))

-- ---- the rows of a manifest

only_row : (b : Bool) (text : List ℕ) → row_if b text ++ [] ≡ row_if b text
only_row true text = refl
only_row false text = refl

one_more : (became : Visit → Done) (number count : ℕ) (earlier : List Visit) (v : Visit) → rows_in became number count (earlier ++ v ∷ []) ≡ rows_in became number count earlier ++ row_if (is_of number count v.named.relative) (row_of became v)
one_more became number count [] v = only_row (is_of number count v.named.relative) (row_of became v)
one_more became number count (x ∷ earlier) v =
    ap (λ (rows : List (List ℕ)). row_if (is_of number count x.named.relative) (row_of became x) ++ rows) (one_more became number count earlier v)
    ∙ sym (append_assoc (row_if (is_of number count x.named.relative) (row_of became x)) (rows_in became number count earlier) (row_if (is_of number count v.named.relative) (row_of became v)))

no_text : (b : Bool) (text rows : List ℕ) → b ≡ false → rows ≡ rows ++ concat (row_if b text)
no_text true text rows is = absurd (cc)
no_text false text rows is = sym (append-nil rows)

its_text : (b : Bool) (text rows : List ℕ) → b ≡ true → rows ++ text ≡ rows ++ concat (row_if b text)
its_text true text rows is = ap (λ (l : List ℕ). rows ++ l) (sym (append-nil text))
its_text false text rows is = absurd (cc)

more_text : (became : Visit → Done) (number count : ℕ) (earlier visits : List Visit) (v : Visit) → visits ≡ earlier ++ v ∷ [] → concat (rows_in became number count earlier) ++ concat (row_if (is_of number count v.named.relative) (row_of became v)) ≡ concat (rows_in became number count visits)
more_text became number count earlier visits v more =
    sym (concat-append (rows_in became number count earlier) (row_if (is_of number count v.named.relative) (row_of became v)))
    ∙ ap concat (sym (one_more became number count earlier v) ∙ ap (rows_in became number count) (sym more))

same_row : (became : Visit → Done) (v : Visit) (done : Done) → done ≡ became v → row v.named.name (output_of v.named done) (word done.fate) ≡ row_of became v
same_row became v done is = ap (λ (d : Done). row v.named.name (output_of v.named d) (word d.fate)) is

pub manifest_of_share : ManifestOfShare
manifest_of_share became shared visits text (no_visit v t) = t ∙ sym (ap (λ (l : List Visit). concat (rows_in became shared.part.number shared.part.count l)) v)
manifest_of_share became shared visits text (of_another earlier v rows none more) =
    no_text (is_of shared.part.number shared.part.count v.named.relative) (row_of became v) text none
    ∙ ap (λ (l : List ℕ). l ++ concat (row_if (is_of shared.part.number shared.part.count v.named.relative) (row_of became v))) (manifest_of_share became shared earlier text rows)
    ∙ more_text became shared.part.number shared.part.count earlier visits v more
manifest_of_share became shared visits text (and_row earlier before v done rows share is more t) =
    t ∙ ap (λ (l : List ℕ). before ++ l) (same_row became v done is)
    ∙ its_text (is_of shared.part.number shared.part.count v.named.relative) (row_of became v) before share
    ∙ ap (λ (l : List ℕ). l ++ concat (row_if (is_of shared.part.number shared.part.count v.named.relative) (row_of became v))) (manifest_of_share became shared earlier before rows)
    ∙ more_text became shared.part.number shared.part.count earlier visits v more

-- ---- outputs

same_job : (a b : Job) → same a ≡ same b → a ≡ b
same_job a b e = cc

pub not_same : (job : Job) (options : Options) (reports : Bool) (key : List ℕ) → same job ≡ by_days options reports key → ⊥
not_same job options reports key e = absurd (cc)

same_days : (a b : ℤ) → Days a ≡ Days b → a ≡ b
same_days a b e = cc

pub same_key : (o p : Options) (r q : Bool) (k l : List ℕ) → by_days o r k ≡ by_days p q l → k ≡ l
same_key o p r q k l e = cc

same_moved : (o p : Options) (r q : Bool) (k l : List ℕ) (d e : ℤ) → by_days o r k ≡ by_days p q l → d ≡ e → deidentify (with_days o d) r k ≡ deidentify (with_days p e) q l
same_moved o p r q k l d e alike moved =
    let options : o ≡ p = cc in
    let reports : r ≡ q = cc in
    let key : k ≡ l = cc in
    ap (λ (x : Options). deidentify (with_days x d) r k) options ∙ ap (λ (x : ℤ). deidentify (with_days p x) r k) moved ∙ ap (λ (x : Bool). deidentify (with_days p e) x k) reports ∙ ap (deidentify (with_days p e) q) key

pub one_job : (task : Task) (bytes : List ℕ) (a b : Job) → IsJobOf task bytes a → IsJobOf task bytes b → a ≡ b
one_job task bytes a b (of_all t) (of_all u) = same_job a b (sym t ∙ u)
one_job task bytes a b (of_all t) (of_days o r k d u f is) = absurd (not_same a o r k (sym t ∙ u))
one_job task bytes a b (of_days o r k d u f is) (of_all t) = absurd (not_same b o r k (sym t ∙ u))
one_job task bytes a b (of_days o r k d t f is) (of_days p q l e u g was) =
    let task_same : by_days o r k ≡ by_days p q l = sym t ∙ u in
    let days : d ≡ e = same_days d e (one_first k bytes (Days d) (Days e) f (subst (λ (x : List ℕ). FirstReads x bytes (Days e)) (sym (same_key o p r q k l task_same)) g)) in
    is ∙ same_moved o p r q k l d e task_same days ∙ sym was

pub one_output : OneOutput
one_output task bytes one other a b =
    let job : a.job ≡ b.job = one_job task bytes a.job b.job a.is_job b.is_job in
    let answer : a.answer ≡ b.answer = one_answer b.job bytes a.answer b.answer (subst (λ (j : Job). Answers j bytes a.answer) job a.answers) b.answers in
    a.output_is ∙ ap (λ (x : Answer). x.output) answer ∙ sym b.output_is
