use Rattle.dcm_trees.proofs.part.name_output.Goals as goal

pub returns : goal.returns
returns g c = record {
  naming = c.give_name-naming.result;
  named = c.give_name-naming.new.system;
  gives = c.give_name-naming.ensures;
  clears = c.clear_part.ensures;
  told = c.tell_naming.ensures.line;
  becomes = c.tell_naming.ensures.fate;
}
