use Rattle.std.proofs.Common.{rules, ◌≡◌, ◌∙◌, sym, ap, subst, refl, ℕ, ◌+◌, List, [], ◌++◌, map, append_assoc, suc, Some, None, arith}
use Rattle.std.proofs.lemmas.List.{append-nil}
use Rattle.dcm_base.specs.declared.tag.Tag.{Tag}
use Rattle.dcm_base.specs.Steps.Atoms.{Atom, trees_then}
use Rattle.dcm_base.specs.Tree.Tree.{no_tree}
use Rattle.dcm_base.specs.Tables.Syntax.{Little}
use Rattle.dcm_editor.specs.Asking.{new_tag}
use Rattle.dcm_editor.specs.Masks.{asked}
use Rattle.dcm_edits.specs.Meaning.{edit_of}
use Rattle.dcm_edits.specs.NewOnes.{puts, above_last, first_new}
use Rattle.dcm_edits.specs.Overlap.{AreApart, ArePublic}
use Rattle.dcm_stream.specs.Sinks.{Takes}
use Rattle.dcm_editor.proofs.Masks.Answering.{going_along}
use Rattle.dcm_editor.proofs.EditSinks.Passing.{takes_nothing}
use Rattle.dcm_editor.proofs.Masks.Meaning.{asked_apart, asked_public, made_within}
use Rattle.dcm_editor.proofs.EditSinks.Taken.{then_taken, both_taken, failed_taken, Took}
use Rattle.dcm_editor.proofs.Masks.LeastNew.{none_in_gap, least_in_gap, first_in_gap, is_sequence_at}
use Rattle.dcm_editor.proofs.Trees.NewRows.{row, one_row, row_next, row_ends, seen_sequence, opened, closed, made_row, short_of, fewer_above}
use Rattle.dcm_editor.proofs.new.+put.Goals as goal

-- ---- the new elements of a gap

pub put_new-put_one-requires : goal.put_new-put_one-requires
put_new-put_one-requires g t c κs within =
    let es = asked c.args.asked.now.depth c.args.asked.now.mask 0 (map edit_of c.args.asked.now.edits.now) in
    let here = first_in_gap c.loop-new.left es c.in-Some.new c.in-Some.ensures in
    (omega (arith, c.decreases), (within.0, (within.1, (c.requires.short, (c.requires.apart, (c.requires.public, here))))))

pub put_new-returns-in_err-put_one : goal.put_new-returns-in_err-put_one
put_new-returns-in_err-put_one g t c =
    let es = asked c.args.asked.now.depth c.args.asked.now.mask 0 (map edit_of c.args.asked.now.edits.now) in
    let left = c.loop-new.left in
    let tag = new_tag c.in-Some.new in
    let front = c.loop-new.invariant.front in
    let later = row (record { last = Some tag; next = left.next }) es in
    let r = c.from_residual.result in
    let next = row_next left.last left.next tag es (least_in_gap left es c.in-Some.new c.in-Some.ensures) in
    record {
      takes = subst (λ (xs : List Atom). Takes g.S.Sink c.args.sink.now c.put_one.new.sink xs r) (sym c.loop-new.invariant.atoms)
          (then_taken g.S.Sink c.args.sink.now c.loop-new.sink c.put_one.new.sink front (row left es) r (c.loop-new.invariant.state, c.loop-new.invariant.bytes)
          (subst (λ (xs : List Atom). Takes g.S.Sink c.loop-new.sink c.put_one.new.sink xs r) (sym next)
          (failed_taken g.S.Sink c.loop-new.sink c.put_one.new.sink (one_row tag es) later r c.from_residual.ensures.0 c.in_err-put_one.ensures.takes)));
      failed = search rules;
      kept = search rules;
    }

pub put_new-loop-new-init : goal.put_new-loop-new-init
put_new-loop-new-init g t c =
    let taken = takes_nothing g.S.Sink c.args.sink.now [] refl in
    record {
      front = [];
      atoms = refl;
      state = taken.0;
      bytes = taken.1;
      failed = refl;
      kept = refl;
    }

pub put_new-loop-new-smaller : goal.put_new-loop-new-smaller
put_new-loop-new-smaller g t c =
    let es = asked c.args.asked.now.depth c.args.asked.now.mask 0 (map edit_of c.args.asked.now.edits.now) in
    let left = c.loop-new.left in
    fewer_above left.last left.next c.tag.result es (least_in_gap left es c.in-Some.new c.in-Some.ensures ∙ ap (λ (u : Tag). Some u) (sym c.tag.ensures))

pub put_new-loop-new-preserved : goal.put_new-loop-new-preserved
put_new-loop-new-preserved g t c =
    let es = asked c.args.asked.now.depth c.args.asked.now.mask 0 (map edit_of c.args.asked.now.edits.now) in
    let left = c.loop-new.left in
    let tag = new_tag c.in-Some.new in
    let front = c.loop-new.invariant.front in
    let least = least_in_gap left es c.in-Some.new c.in-Some.ensures in
    let next = row_next left.last left.next tag es least in
    let goes_on = λ (u : Tag). one_row tag es ++ row (record { last = Some u; next = left.next }) es in
    let taken = both_taken g.S.Sink c.args.sink.now c.loop-new.sink c.put_one.new.sink front (one_row tag es) (c.loop-new.invariant.state, c.loop-new.invariant.bytes) c.in_ok-put_one.ensures.takes in
    record {
      front = front ++ one_row tag es;
      atoms = c.loop-new.invariant.atoms ∙ ap (λ (xs : List Atom). front ++ xs) (next ∙ ap goes_on (sym c.tag.ensures)) ∙ sym (append_assoc front (one_row tag es) _);
      state = taken.0;
      bytes = taken.1;
      failed = c.in_ok-put_one.ensures.failed ∙ c.loop-new.invariant.failed;
      kept = c.in_ok-put_one.ensures.kept ∙ c.loop-new.invariant.kept;
    }

pub put_new-returns : goal.put_new-returns
put_new-returns g t c =
    let es = asked c.args.asked.now.depth c.args.asked.now.mask 0 (map edit_of c.args.asked.now.edits.now) in
    let left = c.loop-new.left in
    let front = c.loop-new.invariant.front in
    let all = c.loop-new.invariant.atoms ∙ ap (λ (xs : List Atom). front ++ xs) (row_ends left es (none_in_gap left es c.in_default.ensures)) ∙ append-nil front in
    record { takes = subst (λ (xs : List Atom). Took g.S.Sink c.args.sink.now c.loop-new.sink xs) (sym all) (c.loop-new.invariant.state, c.loop-new.invariant.bytes); failed = search rules; kept = search rules }

-- ---- one of them

pub put_one-put_sequence-requires : goal.put_one-put_sequence-requires
put_one-put_sequence-requires g t c κs within =
    let here = is_sequence_at c.args.new c.in-Sequence.tag (asked c.args.asked.now.depth c.args.asked.now.mask 0 (map edit_of c.args.asked.now.edits.now)) c.in-Sequence.is c.requires.here in
    let deep = short_of c.args.asked.now.depth c.args.asked.now.mask 0 c.in-Sequence.tag (map edit_of c.args.asked.now.edits.now) c.requires.short here in
    (omega (arith, c.decreases, deep), (within.0, (within.1, (deep, (c.requires.short, (c.requires.apart, (c.requires.public, here)))))))

-- ---- a sequence

pub put_sequence-returns-in_err-open_made : goal.put_sequence-returns-in_err-open_made
put_sequence-returns-in_err-open_made g t c =
    let tag = c.args.tag in
    let x = first_new tag (asked c.args.asked.now.depth c.args.asked.now.mask 0 (map edit_of c.args.asked.now.edits.now)) in
    let made = seen_sequence x tag c.requires.here in
    let r = c.from_residual.result in
    record {
      takes = subst (λ (xs : List Atom). Takes g.S.Sink c.args.sink.now c.open_made.new.sink xs r) (made_row x tag made.0 made.0 made.1 refl)
          (failed_taken g.S.Sink c.args.sink.now c.open_made.new.sink (opened tag) (trees_then Little made.0 [] ++ closed) r c.from_residual.ensures.0 c.in_err-open_made.ensures.takes);
      failed = search rules;
      kept = search rules;
    }

pub put_sequence-put_new-requires : goal.put_sequence-put_new-requires
put_sequence-put_new-requires g t c κs within =
    let edits = map edit_of c.args.asked.now.edits.now in
    let inner = c.answering-mask.result in
    let goes = going_along c.args.asked.now.depth c.args.asked.now.mask inner 0 c.args.tag 0 edits c.answering-mask.ensures in
    let apart = asked_apart c.args.asked.now.depth c.args.asked.now.mask inner c.args.tag 0 edits goes c.requires.apart in
    let public = asked_public c.args.asked.now.depth c.args.asked.now.mask inner c.args.tag 0 edits goes c.requires.public in
    let few = c.requires.depth in
    let deeper : suc c.args.asked.now.depth ≡ c.args.asked.now.depth + 1 = omega arith in (
      omega (arith, c.decreases, few),
      (within.0, (within.1, (c.requires.short, (subst (λ (d : ℕ). AreApart (asked d inner 0 edits)) deeper apart, subst (λ (d : ℕ). ArePublic (asked d inner 0 edits)) deeper public)))),
    )

pub put_sequence-returns-in_err-put_new : goal.put_sequence-returns-in_err-put_new
put_sequence-returns-in_err-put_new g t c =
    let edits = map edit_of c.args.asked.now.edits.now in
    let tag = c.args.tag in
    let inner = c.answering-mask.result in
    let x = first_new tag (asked c.args.asked.now.depth c.args.asked.now.mask 0 edits) in
    let made = seen_sequence x tag c.requires.here in
    let goes = going_along c.args.asked.now.depth c.args.asked.now.mask inner 0 tag 0 edits c.answering-mask.ensures in
    let deeper : suc c.args.asked.now.depth ≡ c.args.asked.now.depth + 1 = omega arith in
    let held = made_within c.args.asked.now.depth c.args.asked.now.mask inner tag made.0 edits c.requires.apart c.requires.public goes made.1 ∙ ap (λ (d : ℕ). puts (above_last None) (asked d inner 0 edits) no_tree) deeper in
    let set = puts (above_last None) (asked (c.args.asked.now.depth + 1) inner 0 edits) no_tree in
    let r = c.from_residual-in_err-put_new.result in
    record {
      takes = subst (λ (xs : List Atom). Takes g.S.Sink c.args.sink.now c.put_new.new.sink xs r) (made_row x tag made.0 set made.1 held)
          (then_taken g.S.Sink c.args.sink.now c.open_made.new.sink c.put_new.new.sink (opened tag) (trees_then Little set [] ++ closed) r c.in_ok-open_made.ensures.takes
          (failed_taken g.S.Sink c.open_made.new.sink c.put_new.new.sink (trees_then Little set []) closed r c.from_residual-in_err-put_new.ensures.0 c.in_err-put_new.ensures.takes));
      failed = search rules;
      kept = search rules;
    }

pub put_sequence-returns : goal.put_sequence-returns
put_sequence-returns g t c =
    let edits = map edit_of c.args.asked.now.edits.now in
    let tag = c.args.tag in
    let inner = c.answering-mask.result in
    let x = first_new tag (asked c.args.asked.now.depth c.args.asked.now.mask 0 edits) in
    let made = seen_sequence x tag c.requires.here in
    let goes = going_along c.args.asked.now.depth c.args.asked.now.mask inner 0 tag 0 edits c.answering-mask.ensures in
    let deeper : suc c.args.asked.now.depth ≡ c.args.asked.now.depth + 1 = omega arith in
    let held = made_within c.args.asked.now.depth c.args.asked.now.mask inner tag made.0 edits c.requires.apart c.requires.public goes made.1 ∙ ap (λ (d : ℕ). puts (above_last None) (asked d inner 0 edits) no_tree) deeper in
    let set = puts (above_last None) (asked (c.args.asked.now.depth + 1) inner 0 edits) no_tree in
    let r = c.close_made.result in
    record {
      takes = subst (λ (xs : List Atom). Takes g.S.Sink c.args.sink.now c.close_made.new.sink xs r) (made_row x tag made.0 set made.1 held)
          (then_taken g.S.Sink c.args.sink.now c.open_made.new.sink c.close_made.new.sink (opened tag) (trees_then Little set [] ++ closed) r c.in_ok-open_made.ensures.takes
          (then_taken g.S.Sink c.open_made.new.sink c.put_new.new.sink c.close_made.new.sink (trees_then Little set []) closed r c.in_ok-put_new.ensures.takes c.close_made.ensures.takes));
      failed = search rules;
      kept = search rules;
    }
