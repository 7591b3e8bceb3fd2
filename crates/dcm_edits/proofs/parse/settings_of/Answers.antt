use Rattle.std.proofs.Common.{◌+◌, drop, sym, ◌∙◌, ap, arith}
use Rattle.dcm_edits.specs.EditWords.{settings_after}
use Rattle.dcm_edits.specs.Making.{texts}
use Rattle.dcm_edits.proofs.Words.SettingWords.{no_word, said_behind_at, said_here_at}
use Rattle.dcm_edits.proofs.parse.settings_of.Goals as goal

pub loop-place-preserved-then-takes_next : goal.loop-place-preserved-then-takes_next
loop-place-preserved-then-takes_next c =
    let takes = sym c.takes_next.ensures ∙ c.if-takes_next.true in
    record {
      same = c.loop-place.invariant.same ∙ said_behind_at c.loop-place.settings c.loop-place.place c.args.words.now no_word c.loop-place-test.true takes;
      within = omega (arith, c.loop-place-test.true);
    }

pub loop-place-preserved : goal.loop-place-preserved
loop-place-preserved c =
    let alone = sym c.takes_next.ensures ∙ c.if-takes_next.false in
    record {
      same = c.loop-place.invariant.same
          ∙ said_here_at c.loop-place.settings c.loop-place.place c.args.words.now no_word c.loop-place-test.true alone
          ∙ ap (λ s. settings_after s (texts (drop (c.loop-place.place + 1) c.args.words.now))) (sym c.and_setting-settings.ensures);
      within = omega (arith, c.loop-place-test.true);
    }
