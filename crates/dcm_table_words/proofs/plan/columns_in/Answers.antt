use Rattle.std.proofs.Common.{◌∙◌, sym, ◌++◌, ◌∷◌, [], drop, arith, length-append}
use Rattle.dcm_table_words.specs.Table.{Column}
use Rattle.dcm_table_words.specs.Columns.{column_as}
use Rattle.dcm_table_words.specs.declared.saying.Tool.TheVariants.{Table}
use Rattle.dcm_table_words.specs.Said.{said_as, sayings_of}
use Rattle.dcm_table_words.proofs.Columns.{column_more, kept_more, on_same, some_wide, all_meant}
use Rattle.dcm_table_words.proofs.plan.columns_in.Goals as goal

pub loop-saying-preserved-in-Ok : goal.loop-saying-preserved-in-Ok
loop-saying-preserved-in-Ok c =
    let loop = c.loop-saying.invariant in
    let column : Column = column_as c.in-Ok.column in
    let size = length-append loop.read (column ∷ []) in
    record {
      read = loop.read ++ column ∷ [];
      same = loop.same ∙ column_more c.loop-saying.number loop.read _ _ _ _ column c.in-Some.ensures.said (sym c.in-Some-column_said.ensures) c.in-Ok.ensures;
      counted = omega (arith, size, loop.counted);
      kept = kept_more column_as 64 loop.read c.loop-saying.columns.items c.try_push.new.self.items c.in-Ok.column c.try_push.result loop.kept c.try_push.ensures.variant c.try_push.ensures.ok (on_same (λ v. v.items) _ _ c.try_push.result c.try_push.ensures.err);
      few = let wide = some_wide (said_as c.in-Some.saying) in omega (arith, loop.few, c.in-Some.ensures.place, wide);
    }

pub returns : goal.returns
returns c =
    let loop = c.loop-saying.invariant in
    all_meant (sayings_of Table c.args.words.now) (sayings_of Table (drop c.loop-saying.at c.args.words.now)) loop.read _ c.loop-saying.number loop.same c.in_default.ensures loop.counted loop.kept c.if-number-eq0.false c.if-number-gt-MOST_COLUMNS.false
