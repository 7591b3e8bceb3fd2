use Rattle.std.proofs.Common.{sym, ◌∙◌}
use Rattle.dcm_tables.specs.TableProgram.{of_table, of_dumps, of_tree, of_others}
use Rattle.dcm_tables.proofs.program.obey.Goals as goal

pub returns-then-asks_table-clause-obeys : goal.returns-then-asks_table-clause-obeys
returns-then-asks_table-clause-obeys g c = of_table (sym c.asks_table.ensures ∙ c.if-asks_table.true) c.obey_table.ensures.obeys

pub returns-then-asks_dumps-clause-obeys : goal.returns-then-asks_dumps-clause-obeys
returns-then-asks_dumps-clause-obeys g c =
    of_dumps (sym c.asks_table.ensures ∙ c.if-asks_table.false) (sym c.asks_dumps.ensures ∙ c.if-asks_dumps.true) c.obey_dumps.ensures.obeys

pub returns-then-asks_tree-clause-obeys : goal.returns-then-asks_tree-clause-obeys
returns-then-asks_tree-clause-obeys g c =
    of_tree (sym c.asks_table.ensures ∙ c.if-asks_table.false) (sym c.asks_dumps.ensures ∙ c.if-asks_dumps.false) (sym c.asks_tree.ensures ∙ c.if-asks_tree.true)
    c.obey_tree.ensures.obeys

pub returns-clause-obeys : goal.returns-clause-obeys
returns-clause-obeys g c =
    of_others (sym c.asks_table.ensures ∙ c.if-asks_table.false) (sym c.asks_dumps.ensures ∙ c.if-asks_dumps.false) (sym c.asks_tree.ensures ∙ c.if-asks_tree.false)
    c.obey.ensures.obeys
