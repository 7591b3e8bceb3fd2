use Rattle.std.proofs.Common.{◌≡◌, ◌∙◌, sym, subst, List, [], ℕ, Bor, true, false}
use Rattle.dcm_words.specs.Words.{modify_plan_in}
use Rattle.dcm_words.specs.Plans.{GivesUnlessMemory}
use Rattle.dcm_words.proofs.ModifyWords.{between, few_words, two_paths, paths_here, no_input, no_output}
use Rattle.dcm_words.proofs.plans.plan_modify.Goals as goal
use Rattle.dcm_words.proofs.plans.plan_modify.Goals.{then-not-is_path-via-then-not-is_path, then-not-is_path-via-else-not-is_path+then-not-is_path-2}

abbrev no_word : Bor (List ℕ)
no_word = record { ref_ptr = (0, 0); now = [] }

pub returns-in_default-clause-meant : goal.returns-in_default-clause-meant
returns-in_default-clause-meant g c = few_words c.args.words.now c.in_default.len_below

pub returns-in_default-clause-memory : goal.returns-in_default-clause-memory
returns-in_default-clause-memory g c = λ none. few_words c.args.words.now c.in_default.len_below

pub returns-then-not-is_path-clause-meant : goal.returns-then-not-is_path-clause-meant
returns-then-not-is_path-clause-meant g c =
    elim c.then-not-is_path.branch [
      | then-not-is_path-via-then-not-is_path w ↦ no_input c.args.words.now no_word c.in-len2-up.len_at_least w.if-not-is_path.ensures
      | then-not-is_path-via-else-not-is_path+then-not-is_path-2 w ↦ no_output c.args.words.now no_word c.in-len2-up.len_at_least w.if-not-is_path-2.ensures
    ]

pub returns-then-not-is_path-clause-memory : goal.returns-then-not-is_path-clause-memory
returns-then-not-is_path-clause-memory g c = λ none.
    elim c.then-not-is_path.branch [
      | then-not-is_path-via-then-not-is_path w ↦ no_input c.args.words.now no_word c.in-len2-up.len_at_least w.if-not-is_path.ensures
      | then-not-is_path-via-else-not-is_path+then-not-is_path-2 w ↦ no_output c.args.words.now no_word c.in-len2-up.len_at_least w.if-not-is_path-2.ensures
    ]

pub returns-clause-meant : goal.returns-clause-meant
returns-clause-meant g c =
    let words = between c.args.words.now no_word c.in-len2-up.len_at_least in
    let meant = subst (λ s. GivesUnlessMemory c.plan_edits.result (modify_plan_in s words)) c.settings_of.ensures c.plan_edits.ensures in
    subst
    (λ m. GivesUnlessMemory c.plan_edits.result m)
    (sym (two_paths c.args.words.now no_word c.in-len2-up.len_at_least c.if-not-is_path.ensures c.if-not-is_path-2.ensures))
    meant

pub returns-clause-memory : goal.returns-clause-memory
returns-clause-memory g c = λ none.
    absurd (let here : true ≡ false = sym (paths_here c.args.words.now no_word c.in-len2-up.len_at_least c.if-not-is_path.ensures c.if-not-is_path-2.ensures) ∙ none in cc)
