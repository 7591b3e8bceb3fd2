use Rattle.std.proofs.Common.{rules, arith, ◌≡◌, ◌*◌, ◌∙◌, ℕ, Bool, List, take, drop}
use Rattle.dcm_value.specs.Numbers.{number_text, shown_number}
use Rattle.dcm_value.proofs.UnitOrder.Decimals.{numbers_next, text_of}
use Rattle.dcm_value.proofs.decimals.write_sized.Goals as goal

pub loop-at-preserved : goal.loop-at-preserved
loop-at-preserved g c =
    let k : ℕ = g.row.K in
    let at : ℕ = c.loop-at.at in
    let v : List ℕ = c.args.units.now in
    let signed : Bool = c.args.is_signed in
    let big : Bool = c.args.is_big in
    let n : ℕ = c.number-number.result in
    let before : List ℕ = take c.loop-at.end c.loop-at.text in
    let after : List ℕ = take c.write_number-end.result c.write_number-end.new.text in
    let shown : List ℕ = shown_number signed k n in
    let one : number_text signed big (take k (drop (k * at) v)) ≡ shown = text_of signed big k n (take k (drop (k * at) v)) (search rules) (search rules) in
    record {
      text = numbers_next (number_text signed big) k at v before after shown one c.loop-at.invariant.text c.write_number-end.ensures.text;
      within = omega arith;
      size = c.write_number-end.ensures.size ∙ c.loop-at.invariant.size;
    }
