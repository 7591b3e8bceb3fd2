-- How the closing of an output went.
use Rattle.std.proofs.Common.{◌≡◌, ◌∙◌, sym, subst, refl, ap, ℕ, List, true, false, Option, Result, Ok, Err}
use Rattle.std.specs.declared.io.Error.{Error}
use Rattle.dcm_devices.specs.Writing.{Writer}
use Rattle.dcm_files.specs.Devices.{MayDo}
use Rattle.dcm_words.specs.Words.{Job}
use Rattle.dcm_cli.specs.declared.ending.Ending.{Ending}
use Rattle.dcm_cli.specs.declared.ending.Ending.TheVariants.{Worked, Unread, Output}
use Rattle.dcm_cli.specs.declared.ending.Verdict.TheVariants.{Done, PixelsMayShow, Refused, RefusedLine}
use Rattle.dcm_cli.specs.Calls.{Reader, Finishes}
use Rattle.dcm_trees.specs.Fate.{is_written}
use Rattle.dcm_trees.specs.Lines.{ending_fate}
use Rattle.dcm_trees.specs.Part.{Fills, after_closing}
use Rattle.dcm_tree_laws.specs.FileSystem.{FileSystem, Host, Number, may_do, ClosesAs, ClosesOutput}

-- the file keeps some bytes
pub closes_kept : {A : Type 0} (now : Option Number) (all : List ℕ) (before : FileSystem) (r : Result A Error) (after : FileSystem) → ClosesAs r now all before after → (kept : List ℕ) × ClosesOutput now all kept before after
closes_kept now all before (Ok a) after closes = (all, closes)
closes_kept now all before (Err e) after closes = closes

-- where the closing does not fail, the job ended as it had
pub nothing_lost : (ended : Ending) (closing : Result (Unit {0}) Error) → closing ≡ Ok _ → after_closing ended closing ≡ ended
nothing_lost (Worked (Done unplaced)) (Ok x) is = refl
nothing_lost (Worked (Done unplaced)) (Err e) is = absurd (cc)
nothing_lost (Worked PixelsMayShow) closing is = refl
nothing_lost (Worked (Refused stop)) closing is = refl
nothing_lost (Worked (RefusedLine stop)) closing is = refl
nothing_lost (Unread count) closing is = refl
nothing_lost Output closing is = refl

undone : {A : Type 0} (ending x : Ending) → ending ≡ x → is_written (ending_fate x) ≡ false → is_written (ending_fate ending) ≡ true → A
undone ending x is not done = absurd (let no : false ≡ true = sym not ∙ sym (ap (λ (y : Ending). is_written (ending_fate y)) is) ∙ done in cc)

-- where all was done, the closing did not fail
all_kept : (ended ending : Ending) (closing : Result (Unit {0}) Error) → ending ≡ after_closing ended closing → is_written (ending_fate ending) ≡ true → (ended ≡ ending) × (closing ≡ Ok _)
all_kept (Worked (Done unplaced)) ending (Ok x) is done = (sym is, refl)
all_kept (Worked (Done unplaced)) ending (Err e) is done = undone ending Output is refl done
all_kept (Worked PixelsMayShow) ending closing is done = undone ending (Worked PixelsMayShow) is refl done
all_kept (Worked (Refused stop)) ending closing is done = undone ending (Worked (Refused stop)) is refl done
all_kept (Worked (RefusedLine stop)) ending closing is done = undone ending (Worked (RefusedLine stop)) is refl done
all_kept (Unread count) ending closing is done = undone ending (Unread count) is refl done
all_kept Output ending closing is done = undone ending Output is refl done

-- and the job itself ended so
pub finished_of : {S I O : Type 0} {may : MayDo S I O} {r : Reader I} {w : Writer O} {job : Job} {input : I} {output : O} {before : S} {ending : Ending} {after : S} (f : Fills may r w job input output before ending after) → is_written (ending_fate ending) ≡ true
    → Finishes r w job input f.left output f.written ending
finished_of {r = r} {w = w} {job = job} {input = input} {output = output} {ending = ending} f done =
    subst (λ (x : Ending). Finishes r w job input f.left output f.written x) (all_kept f.ended ending f.closing f.ending_is done).0 f.finished

-- and the file keeps all bytes
pub closes_whole : {I O : Type 0} {h : Host I O} {r : Reader I} {w : Writer O} {job : Job} {input : I} {output : O} {before : FileSystem} {ending : Ending} {after : FileSystem} (f : Fills (may_do h) r w job input output before ending after) → is_written (ending_fate ending) ≡ true
    → ClosesOutput before.written (h.took f.written) (h.took f.written) before f.closed
closes_whole {h = h} {before = before} {ending = ending} f done =
    subst (λ (x : Result (Unit {0}) Error). ClosesAs x before.written (h.took f.written) before f.closed) (all_kept f.ended ending f.closing f.ending_is done).1 f.closes
