use Rattle.std.proofs.Common.{rules, arith, refl, ◌≡◌, ◌∙◌, ap, sym}
use Rattle.dcm_files.specs.HostFolder.{no_name, is_dots}
use Rattle.dcm_files.proofs.Listings.{next_failed, next_ended, next_given, next_endless, one_more_passed}
use Rattle.dcm_files.proofs.host_folder.HostFolder.next.Goals as goal

pub loop-passed-init : goal.loop-passed-init
loop-passed-init g c = no_name refl

pub returns-in_err-refill : goal.returns-in_err-refill
returns-in_err-refill g c = next_failed g.D.Read.remaining g.D.StdReader.may_read _ _ _ _ _ _ _ (search rules) c.loop-passed.invariant c.in_err-refill.ensures

pub returns-then-not-branch : goal.returns-then-not-branch
returns-then-not-branch g c = next_ended g.D.Read.remaining g.D.StdReader.may_read _ _ _ _ _ c.if-not-branch.true c.loop-passed.invariant c.in_ok-refill.ensures

pub returns-then-not-is_dots : goal.returns-then-not-is_dots
returns-then-not-is_dots g c =
    let dots : is_dots c.take.new.name.items ≡ c.is_dots.result = sym (c.is_dots.ensures ∙ ap is_dots c.as_slice.ensures.value) in
    next_given g.D.Read.remaining g.D.StdReader.may_read _ _ _ _ _ _ _ c.if-not-branch.false (dots ∙ c.if-not-is_dots.true) c.loop-passed.invariant c.in_ok-refill.ensures c.take.ensures

pub loop-passed-preserved : goal.loop-passed-preserved
loop-passed-preserved g c =
    let dots : is_dots c.take.new.name.items ≡ c.is_dots.result = sym (c.is_dots.ensures ∙ ap is_dots c.as_slice.ensures.value) in
    one_more_passed g.D.Read.remaining g.D.StdReader.may_read _ _ _ _ _ _ _ c.if-not-branch.false (dots ∙ c.if-not-is_dots.false) c.loop-passed.invariant c.in_ok-refill.ensures c.take.ensures

pub returns : goal.returns
returns g c = next_endless g.D.Read.remaining g.D.StdReader.may_read _ _ _ _ (omega arith) c.loop-passed.invariant
