use Rattle.std.proofs.Common.{◌∙◌, sym}
use Rattle.dcm_stream.proofs.Heads.PlainLeaves.{may_come}
use Rattle.dcm_stream.proofs.cursor_runs.dictionary_inside.Goals as goal

pub returns-in-Little : goal.returns-in-Little
returns-in-Little c =
    let inner = c.in_ok-inner.inner in
    record {
      inner = inner;
      inner_is = sym c.in_ok-inner.ensures;
      syntax_is = c.in-Little.is;
      may_come = λ tag e. may_come inner.container inner.declared tag (sym c.holds_elements.ensures ∙ c.if-holds_elements.true) e;
    }
