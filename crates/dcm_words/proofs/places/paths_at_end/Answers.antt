use Rattle.std.proofs.Common.{List, [], ℕ, Bor, ap, ◌∙◌}
use Rattle.dcm_words.proofs.PathsApart.{few_words, two_here, no_input, no_output, with_settings}
use Rattle.dcm_words.proofs.ModifyWords.{between}
use Rattle.dcm_words.proofs.places.paths_at_end.Goals as goal
use Rattle.dcm_words.proofs.places.paths_at_end.Goals.{then-not-is_path-via-then-not-is_path, then-not-is_path-via-else-not-is_path+then-not-is_path-2}

abbrev no_word : Bor (List ℕ)
no_word = record { ref_ptr = (0, 0); now = [] }

pub returns-in_default : goal.returns-in_default
returns-in_default c = few_words c.args.words.now c.in_default.len_below

pub returns-then-not-is_path : goal.returns-then-not-is_path
returns-then-not-is_path c =
    elim c.then-not-is_path.branch [
      | then-not-is_path-via-then-not-is_path w ↦ no_input c.args.words.now no_word c.in-len2-up.len_at_least w.if-not-is_path.ensures
      | then-not-is_path-via-else-not-is_path+then-not-is_path-2 w ↦ no_output c.args.words.now no_word c.in-len2-up.len_at_least w.if-not-is_path-2.ensures
    ]

pub returns : goal.returns
returns c =
    ap (with_settings (between c.args.words.now no_word c.in-len2-up.len_at_least)) c.settings_of.ensures
    ∙ two_here c.args.words.now no_word c.in-len2-up.len_at_least c.if-not-is_path.ensures c.if-not-is_path-2.ensures
