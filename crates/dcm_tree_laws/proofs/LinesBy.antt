-- A run over a list visits its lines, in order.
use Rattle.std.proofs.Common.{◌≡◌, ◌∙◌, refl, sym, ap, inl, inr, ◌⊎◌, ℕ, List, [], ◌∷◌, ◌++◌, Bool, true, false, Some, None, Result, Ok, Err, append_assoc}
use Rattle.std.specs.Prelude.{take}
use Rattle.std.proofs.lemmas.List.{append-nil}
use Rattle.dcm_devices.specs.Device.{Gave, no_calls, and_call}
use Rattle.dcm_devices.specs.Writing.{Writer}
use Rattle.dcm_files.specs.Folders.{FoldersDo}
use Rattle.dcm_names.specs.Names.{NAME_LIMIT, names_of}
use Rattle.dcm_names.specs.Reader.{Calls, AnswersEnd}
use Rattle.dcm_walk.specs.declared.folder.FolderNumber.{FolderNumber}
use Rattle.dcm_walk.specs.declared.list.ListEnd.{ListEnd}
use Rattle.dcm_walk.specs.declared.visitor.Stopped.{Stopped}
use Rattle.dcm_walk.specs.declared.visitor.What.{What}
use Rattle.dcm_walk.specs.List as walk
use Rattle.dcm_walk.specs.List.{DoesLine, Listed, DoesLines, WalksList, named_line}
use Rattle.dcm_walk.specs.Visits.{Named, Visits}
use Rattle.dcm_cli.specs.Calls.{Reader}
use Rattle.dcm_trees.specs.declared.progress.Work.{Work}
use Rattle.dcm_trees.specs.Work.{visits_of}
use Rattle.dcm_trees.specs.World.{World}
use Rattle.dcm_tree_laws.specs.FileSystem.{Host}
use Rattle.dcm_tree_laws.specs.Laws.{over}
use Rattle.dcm_tree_laws.specs.Lines.{visited_names, line_names, LinesVisited, to_its_end, not_read, LinesAreVisited}
use Rattle.dcm_tree_laws.specs.Rows.{Visit, noted}
use Rattle.dcm_tree_laws.specs.Single.{as_held}
use Rattle.dcm_tree_laws.proofs.StopsBy.{SaysWhy, work_says}

-- ---- lists

visits_append : (a b : List Visit) → visited_names (a ++ b) ≡ visited_names a ++ visited_names b
visits_append [] b = refl
visits_append (v ∷ vs) b = ap (λ (rest : List Named). v.named ∷ rest) (visits_append vs b)

lines_append : (a b : List (List ℕ)) → line_names (a ++ b) ≡ line_names a ++ line_names b
lines_append [] b = refl
lines_append (line ∷ lines) b = ap (λ (rest : List Named). named_line (take NAME_LIMIT line) ∷ rest) (lines_append lines b)

names_nothing : (names : List Named) → names ++ [] ≡ names
names_nothing [] = refl
names_nothing (n ∷ ns) = ap (λ (rest : List Named). n ∷ rest) (names_nothing ns)

-- ---- what the list gave

module _ {I O : Type 0} (h : Host I O) (r : Reader I) where
  gave : (old : I) (bytes : List ℕ) (new : I) → Gave (as_held h r).gets old bytes new → h.holds old ≡ bytes ++ h.holds new
  gave old bytes new (no_calls b n) = sym (ap (λ (front : List ℕ). front ++ h.holds new) b ∙ ap h.holds n)
  gave old bytes new (and_call before piece mid more call some is) =
      gave old before mid more ∙ ap (λ (rest : List ℕ). before ++ rest) call.1.0 ∙ sym (append_assoc before piece (h.holds new)) ∙ ap (λ (front : List ℕ). front ++ h.holds new) (sym is)

  called : (is_over : Bool) (before : I) (more : List ℕ) (after : I) → Calls (as_held h r).gets is_over before more after → h.holds before ≡ more ++ h.holds after
  called false before more after calls = gave before more after calls
  called true before more after (mid, calls, (own, held)) = gave before more mid calls ∙ ap (λ (rest : List ℕ). more ++ rest) held.0

  at_end : (is_over : Bool) (before : I) (more : List ℕ) (after : I) → Calls (as_held h r).gets is_over before more after → is_over ≡ true → h.holds after ≡ []
  at_end false before more after calls e = absurd (cc)
  at_end true before more after (mid, calls, (own, held)) e = held.1 refl

  if_over : (is_over : Bool) (at left : I) (given : List ℕ) (names : List (List ℕ)) → (is_over ≡ true → h.holds at ≡ []) → (ends : AnswersEnd (as_held h r).gets is_over at left given names)
      → ((is_over ≡ false) × Calls (as_held h r).gets true at ends.more left) ⊎ ((is_over ≡ true) × (ends.more ≡ []) × (left ≡ at)) → h.holds at ≡ ends.more
  if_over is_over at left given names none ends (inl (goes, calls)) =
      called true at ends.more left calls ∙ ap (λ (rest : List ℕ). ends.more ++ rest) (at_end true at ends.more left calls refl) ∙ append-nil ends.more
  if_over is_over at left given names none ends (inr (over, nothing, same)) = none over ∙ sym nothing

  -- nothing is left of a list that is read to its end
  all_given : (is_over : Bool) (at left : I) (given : List ℕ) (names : List (List ℕ)) → (is_over ≡ true → h.holds at ≡ []) → (ends : AnswersEnd (as_held h r).gets is_over at left given names) → h.holds at ≡ ends.more
  all_given is_over at left given names none ends = if_over is_over at left given names none ends ends.calls

  -- ---- its lines

  module _ {V S F : Type 0} (d : FoldersDo S O F) (visits : Visits V S) (output : FolderNumber) where
    -- a line is one visit
    line_noted : (line : List ℕ) (from : V × List Visit) (before : S) (e : Result (Unit {0}) Stopped) (to : V × List Visit) (after : S) → DoesLine d (noted visits) output line from before e to after
        → (what : What) × (to.1 ≡ from.1 ++ record { named = named_line line; what = what } ∷ [])
    line_noted line from before e to after (walk.not_fit what judged v) = (what, v.1)
    line_noted line from before e to after (walk.looked what mid fit looks v) = (what, v.1)

    record Told (input : I) (from to : List Visit) (given : List ℕ) (left : I) (is_over : Bool) (names : List (List ℕ)) : Type 0 where
      bytes : h.holds input ≡ given ++ h.holds left
      end : is_over ≡ true → h.holds left ≡ []
      named : visited_names to ≡ visited_names from ++ line_names names

    told : (from : V × List Visit) (before : S) (input : I) (to : V × List Visit) (after : S) (given : List ℕ) (left : I) (is_over : Bool) (names : List (List ℕ))
        → Listed (as_held h r).gets (DoesLine d (noted visits) output) from before input to after given left is_over names → Told input from.1 to.1 given left is_over names
    told from before input to after given left is_over names (walk.none_listed t a g l o n) = record {
      bytes = sym (ap (λ (x : List ℕ). x ++ h.holds left) g ∙ ap h.holds l);
      end = λ e. absurd (let both : true ≡ false = sym e ∙ o in cc);
      named = ap (λ (x : V × List Visit). visited_names x.1) t ∙ sym (names_nothing (visited_names from.1)) ∙ ap (λ (x : List (List ℕ)). visited_names from.1 ++ line_names x) (sym n);
    }
    told from before input to after given left is_over names (walk.and_line earlier more others name mid between at had calls line g n) =
        let t : Told input from.1 mid.1 earlier at false others = told from before input mid between earlier at false others had in
        let one : (what : What) × (to.1 ≡ mid.1 ++ record { named = named_line (take NAME_LIMIT name); what = what } ∷ []) = line_noted (take NAME_LIMIT name) mid between (Ok _) to after line in
        record {
          bytes = t.bytes ∙ ap (λ (x : List ℕ). earlier ++ x) (called is_over at more left calls) ∙ sym (append_assoc earlier more (h.holds left)) ∙ ap (λ (x : List ℕ). x ++ h.holds left) (sym g);
          end = at_end is_over at more left calls;
          named =
              ap visited_names one.1 ∙ visits_append mid.1 _ ∙ ap (λ (x : List Named). x ++ named_line (take NAME_LIMIT name) ∷ []) t.named ∙ append_assoc (visited_names from.1) (line_names others) (named_line (take NAME_LIMIT name) ∷ [])
              ∙ ap (λ (x : List Named). visited_names from.1 ++ x) (sym (lines_append others (name ∷ []))) ∙ ap (λ (x : List (List ℕ)). visited_names from.1 ++ line_names x) (sym n);
        }

    -- all of them, where the walk was not stopped
    lines_visited : (from : V) (before : S) (input : I) (e : Result ListEnd Stopped) (to : V × List Visit) (after : S) (left : I) → ((x : Stopped) → e ≡ Err x → ⊥)
        → WalksList d (noted visits) (as_held h r).gets output (from, []) before input e to after left → LinesVisited (h.holds input) e to.1
    lines_visited from before input e to after left stopped (walk.all_done given was_over names at listed ends is) =
        let t : Told input [] to.1 given at was_over names = told (from, []) before input to after given at was_over names listed in
        let whole : h.holds input ≡ given ++ ends.more = t.bytes ∙ ap (λ (x : List ℕ). given ++ x) (all_given was_over at left given names t.end ends) in
        to_its_end is (t.named ∙ ap line_names ends.all ∙ ap (λ (x : List ℕ). line_names (names_of x true)) (sym whole))
    lines_visited from before input e to after left stopped (walk.not_read given was_over names count at listed ends is) =
        let t : Told input [] to.1 given at was_over names = told (from, []) before input to after given at was_over names listed in
        not_read count (given ++ ends.more) (h.holds ends.mid) is
        (t.bytes ∙ ap (λ (x : List ℕ). given ++ x) (gave at ends.more ends.mid ends.calls) ∙ sym (append_assoc given ends.more (h.holds ends.mid))) ends.count (t.named ∙ ap line_names ends.all)
    lines_visited from before input e to after left stopped (walk.was_stopped given more is_over names others name x mid between at listed calls rest line is) = absurd (stopped x is)

-- ---- the run

line_says : {S I O F W E : Type 0} (w : World S I O F E) (m : Writer W) (output : FolderNumber) (line : List ℕ) (from : Work W × E) (before : S) (e : Stopped) (to : Work W × E) (after : S) → DoesLine w.folders (visits_of w m) output line from before (Err e) to after
    → SaysWhy to
line_says w m output line from before e to after (walk.not_fit what judged v) = work_says w m (named_line line) what from before e to after v
line_says w m output line from before e to after (walk.looked what mid fit looks v) = work_says w m (named_line line) what from mid e to after v

not_stopped : {S I O F W E : Type 0} (w : World S I O F E) (m : Writer W) (output : FolderNumber) (from : Work W × E) (before : S) (input : I) (e : Result ListEnd Stopped) (to : Work W × E) (after : S) (left : I) → to.0.stop ≡ None
    → WalksList w.folders (visits_of w m) w.reader.gets output from before input e to after left → (x : Stopped) → e ≡ Err x → ⊥
not_stopped w m output from before input e to after left none (walk.all_done given was_over names at listed ends is) x other = absurd (let both : Ok _ ≡ Err x = sym is ∙ other in cc)
not_stopped w m output from before input e to after left none (walk.not_read given was_over names count at listed ends is) x other = absurd (let both : Ok _ ≡ Err x = sym is ∙ other in cc)
not_stopped w m output from before input e to after left none (walk.was_stopped given more is_over names others name y mid between at listed calls rest line is) x other =
    let why = line_says w m output (take NAME_LIMIT name) mid between y to after line in
    absurd (let both : Some why.0 ≡ None = sym why.1 ∙ none in cc)

pub lines_are_visited : {I O F W E : Type 0} (r : Reader I) (w : Writer O) (m : Writer W) (e : Writer E) → LinesAreVisited F r w m e
lines_are_visited {I} {O} {F} {W} {E} r w m e h run list begun input headed from before status left to after read v stop has =
    lines_visited h r (over {F = F} h (as_held h r) w e).folders (visits_of (over {F = F} h (as_held h r) w e) m) begun.number (v.start, from) before input v.walked ((v.last, v.told), has.visits) after read
    (not_stopped (over {F = F} h (as_held h r) w e) m begun.number (v.start, from) before input v.walked (v.last, v.told) after read stop v.walks) has.walks
