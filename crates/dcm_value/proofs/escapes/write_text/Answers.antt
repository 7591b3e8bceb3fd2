use Rattle.std.proofs.Common.{◌≡◌, ◌-◌, ◌++◌, ◌∙◌, ap, sym, arith, ℕ, List, length, take, drop}
use Rattle.dcm_base.specs.Dump.ValueText.{escaped}
use Rattle.dcm_value.proofs.Displays.StoredTexts.{escaped_slice, escaped_rest}
use Rattle.dcm_value.proofs.escapes.write_text.Goals as goal

pub loop-at-preserved : goal.loop-at-preserved
loop-at-preserved c =
    let v : List ℕ = c.args.bytes.now in
    let at : ℕ = c.loop-at.at in
    let n : ℕ = c.write_next-count.result.0 in
    record {
      text = c.write_next-count.ensures.text
          ∙ ap (λ (xs : List ℕ). xs ++ escaped (take n (take (length v - at) (drop at v)))) c.loop-at.invariant.text
          ∙ sym (escaped_slice at n v);
      before = omega (arith, c.loop-at-test.true, c.write_next-count.ensures.few);
      within = omega (arith, c.loop-at.invariant.within, c.write_next-count.ensures.within);
      size = c.write_next-count.ensures.size ∙ c.loop-at.invariant.size;
    }

pub returns-clause-text : goal.returns-clause-text
returns-clause-text c =
    let v : List ℕ = c.args.bytes.now in
    let at : ℕ = c.loop-at.at in
    c.write_singly.ensures.text
    ∙ ap (λ (xs : List ℕ). xs ++ escaped (take (length v - at) (drop at v))) c.loop-at.invariant.text
    ∙ sym (escaped_rest at v)
