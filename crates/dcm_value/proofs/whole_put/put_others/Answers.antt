use Rattle.std.proofs.Common.{rules, ◌≡◌, ◌++◌, [], List, ℕ, Bool, cond, length, codes, ap, sym, ◌∙◌, arith, append_assoc, append-nil}
use Rattle.std.specs.Prelude.{flat_map, nat_lt}
use Rattle.dcm_text.specs.Decoding.{Piece}
use Rattle.dcm_text.specs.Shown.{dumped_piece}
use Rattle.dcm_text.specs.TextPieces.{pieces_left}
use Rattle.dcm_devices.proofs.Writes.Puts.{puts_err}
use Rattle.dcm_value.specs.NextPiece.{shown_of}
use Rattle.dcm_value.proofs.Displays.OutInBlocks.{out_more, out_fails, out_ends, block_split, block_room}
use Rattle.dcm_value.proofs.Displays.WholeTexts.{left_shown, left_counted, left_fewer}
use Rattle.dcm_value.proofs.whole_put.put_others.Goals as goal

-- what comes next stands in the block behind the others
in_block : (block now next left rest : List ℕ) → left ≡ next ++ rest → now ≡ block ++ next → block ++ left ≡ now ++ rest
in_block block now next left rest e f =
    ap (λ (x : List ℕ). block ++ x) e ∙ sym (append_assoc block next rest) ∙ ap (λ (x : List ℕ). x ++ rest) (sym f)

pub loop-next-preserved : goal.loop-next-preserved
loop-next-preserved g c =
    let block : List ℕ = c.show.new.shown.items in
    let full : Bool = nat_lt 756 (length block) in
    let rest : List ℕ = flat_map dumped_piece (pieces_left c.next_of.new.pieces) in
    let follows = c.in-Some.ensures.next in
    let whole =
    in_block c.loop-next.block.items block (shown_of c.in-Some.next) _ rest
    (left_shown c.loop-next.pieces c.next_of.new.pieces c.in-Some.next follows) c.show.ensures.items
    in
    let kept : c.put_full.new.block.items ≡ cond full [] block = c.in_ok-put_full.ensures.block in
    let many = left_counted c.loop-next.pieces c.next_of.new.pieces c.in-Some.next follows in
    let fewer = left_fewer c.loop-next.pieces c.next_of.new.pieces c.in-Some.next follows in
    record {
      out = out_more _ (cond full block []) (c.put_full.new.block.items ++ rest) c.loop-next.invariant.out
          (whole ∙ block_split full block rest ∙ ap (λ (x : List ℕ). cond full block [] ++ (x ++ rest)) (sym kept)) c.in_ok-put_full.ensures.wrote.bytes;
      failed = c.in_ok-put_full.ensures.wrote.failed ∙ c.loop-next.invariant.failed;
      room = omega (arith, ap length kept, block_room block);
      count = omega (arith, c.loop-next.invariant.count, c.backslashes.ensures.count, many);
      few = omega (arith, c.loop-next.invariant.few, c.backslashes.ensures.few, fewer);
    }

pub returns-in_err-put_full-clause-wrote : goal.returns-in_err-put_full-clause-wrote
returns-in_err-put_full-clause-wrote g c =
    let block : List ℕ = c.show.new.shown.items in
    let full : Bool = nat_lt 756 (length block) in
    let rest : List ℕ = flat_map dumped_piece (pieces_left c.next_of.new.pieces) in
    let whole =
    in_block c.loop-next.block.items block (shown_of c.in-Some.next) _ rest
    (left_shown c.loop-next.pieces c.next_of.new.pieces c.in-Some.next c.in-Some.ensures.next) c.show.ensures.items
    in
    record {
      bytes = out_fails _ (cond full block []) (cond full [] block ++ rest) (codes "]") c.from_residual.result c.loop-next.invariant.out
          (whole ∙ block_split full block rest) c.from_residual.ensures.0 c.in_err-put_full.ensures.wrote.bytes;
      failed = search rules;
    }

pub returns-in_err-put_all-clause-wrote : goal.returns-in_err-put_all-clause-wrote
returns-in_err-put_all-clause-wrote g c =
    let block : List ℕ = c.loop-next.block.items in
    let none : block ++ flat_map dumped_piece (pieces_left c.loop-next.pieces) ≡ block =
    ap (λ (ps : List Piece). block ++ flat_map dumped_piece ps) c.in_default.ensures.none ∙ append-nil block
    in
    record {
      bytes = out_ends _ c.as_slice.result.now (codes "]") c.from_residual-in_err-put_all.result c.loop-next.invariant.out
          (c.as_slice.ensures.value ∙ c.push.ensures.items ∙ ap (λ (x : List ℕ). x ++ codes "]") (sym none))
          (puts_err _ _ _ c.from_residual-in_err-put_all.result c.from_residual-in_err-put_all.ensures.0 c.in_err-put_all.ensures.wrote.bytes);
      failed = search rules;
    }
