-- What was at the start stays at each step.
use Rattle.std.proofs.Common.{◌≡◌, ◌∙◌, refl, sym, ap, subst, inl, inr, ◌⊎◌, ℕ, List, [], false, Option, Some, None}
use Rattle.std.specs.Prelude.{◌≢◌}
use Rattle.dcm_files.specs.declared.folders.Found.{Found}
use Rattle.dcm_files.specs.declared.folders.FoundKind.TheVariants.{Folder}
use Rattle.dcm_tree_laws.specs.FileSystem.{FileSystem, Tree, Number, Host, number_of, place_of, Puts, Fills, SameBytes, SameNames, Notes, IsFresh}
use Rattle.dcm_tree_laws.specs.FileSystem.{MakesFolder, MakesFile, TakesPieces, no_piece, and_piece, Closes, ClosesOutput, MakesLink, Moves, MovesWhat, a_file, same_file, a_folder, Removes, at_path, HasWay}
use Rattle.dcm_tree_laws.specs.Stays.{OfEach}
use Rattle.dcm_tree_laws.proofs.Near.{LeadsIn, StaysIn}
use Rattle.dcm_tree_laws.proofs.Steps.{Phase, idle, writing, whole, is_writing, StepIn, folder, part_made, filled, not_filled, named, moved, removed, left, not_removed}

-- ---- the names in a tree

-- it may be given to something: it is that of the part, or nothing is there
abbrev IsUntaken : {I O : Type 0} → Host I O → (part : List ℕ) → Tree → (place : List ℕ) → Type 0
IsUntaken h part t place = (place ≡ place_of h part) ⊎ (t.at place ≡ None)

was_there : {I O : Type 0} (h : Host I O) (part : List ℕ) (t u : Tree) (place p : List ℕ) (f : Found) → p ≢ place_of h part → t.at p ≡ Some f → IsUntaken h part t place
    → (p ≡ place) ⊎ (u.at p ≡ t.at p) → u.at p ≡ Some f
was_there h part t u place p f other is untaken (inr e) = e ∙ is
was_there h part t u place p f other is (inl at_part) (inl e) = absurd (other (e ∙ at_part))
was_there h part t u place p f other is (inr nothing) (inl e) = absurd (cc)

is_new : {I O : Type 0} (h : Host I O) (Of : List ℕ → Type 0) (start t u : Tree) (place p : List ℕ) → LeadsIn h Of place → (t.at p ≡ start.at p) ⊎ LeadsIn h Of p
    → (p ≡ place) ⊎ (u.at p ≡ t.at p) → (u.at p ≡ start.at p) ⊎ LeadsIn h Of p
is_new h Of start t u place p there old (inl e) = inr (subst (LeadsIn h Of) (sym e) there)
is_new h Of start t u place p there (inl was) (inr e) = inl (e ∙ was)
is_new h Of start t u place p there (inr l) (inr e) = inr l

-- a name that is given, or taken, where it may be
pub names_stay : {I O : Type 0} (h : Host I O) (part : List ℕ) (Of : List ℕ → Type 0) (start t u : Tree) (place : List ℕ) (what : Option Found) → StaysIn h part Of start t → Puts place what t u → SameBytes t u
    → IsUntaken h part t place → LeadsIn h Of place → StaysIn h part Of start u
names_stay h part Of start t u place what stays puts same untaken there = record {
  there = λ p f other was. was_there h part t u place p f other (stays.there p f other was) untaken (puts.elsewhere p);
  bytes = λ p f other was. same (number_of f) ∙ stays.bytes p f other was;
  new = λ p. is_new h Of start t u place p there (stays.new p) (puts.elsewhere p);
}

-- ---- the bytes of its files

-- no file that was at the start has this number, but for the part
abbrev pub IsApart : {I O : Type 0} → Host I O → (part : List ℕ) → (start : Tree) → Number → Type 0
IsApart h part start n = (place : List ℕ) (f : Found) → place ≢ place_of h part → start.at place ≡ Some f → number_of f ≢ n

pub fresh_is_apart : {I O : Type 0} (h : Host I O) (part : List ℕ) (Of : List ℕ → Type 0) (start t : Tree) (n : Number) → StaysIn h part Of start t → IsFresh t n → IsApart h part start n
fresh_is_apart h part Of start t n stays fresh p f other was = fresh p f (stays.there p f other was)

other_bytes : (t u : Tree) (n m : Number) (bytes : List ℕ) → m ≢ n → t.bytes m ≡ bytes → (m ≡ n) ⊎ (u.bytes m ≡ t.bytes m) → u.bytes m ≡ bytes
other_bytes t u n m bytes apart is (inl e) = absurd (apart e)
other_bytes t u n m bytes apart is (inr e) = e ∙ is

still_new : {I O : Type 0} (h : Host I O) (Of : List ℕ → Type 0) (start t u : Tree) (p : List ℕ) → (t.at p ≡ start.at p) ⊎ LeadsIn h Of p → u.at p ≡ t.at p → (u.at p ≡ start.at p) ⊎ LeadsIn h Of p
still_new h Of start t u p (inl was) e = inl (e ∙ was)
still_new h Of start t u p (inr l) e = inr l

pub bytes_stay : {I O : Type 0} (h : Host I O) (part : List ℕ) (Of : List ℕ → Type 0) (start t u : Tree) (n : Number) (bytes : List ℕ) → StaysIn h part Of start t → Fills n bytes t u → SameNames t u
    → IsApart h part start n → StaysIn h part Of start u
bytes_stay h part Of start t u n bytes stays fills same apart = record {
  there = λ p f other was. same p ∙ stays.there p f other was;
  bytes = λ p f other was. other_bytes t u n (number_of f) (start.bytes (number_of f)) (apart p f other was) (stays.bytes p f other was) (fills.others (number_of f));
  new = λ p. still_new h Of start t u p (stays.new p) (same p);
}

-- a new file at the part's place
pub made_stays : {I O : Type 0} (h : Host I O) (part : List ℕ) (Of : List ℕ → Type 0) (start t u : Tree) (n : Number) (what : Option Found) → StaysIn h part Of start t → Puts (place_of h part) what t u
    → Fills n [] t u → IsApart h part start n → LeadsIn h Of (place_of h part) → StaysIn h part Of start u
made_stays h part Of start t u n what stays puts fills apart there = record {
  there = λ p f other was. was_there h part t u (place_of h part) p f other (stays.there p f other was) (inl refl) (puts.elsewhere p);
  bytes = λ p f other was. other_bytes t u n (number_of f) (start.bytes (number_of f)) (apart p f other was) (stays.bytes p f other was) (fills.others (number_of f));
  new = λ p. is_new h Of start t u (place_of h part) p there (stays.new p) (puts.elsewhere p);
}

-- ---- a file system at a phase of a run

-- the file that is being written was not there at the start
abbrev pub IsQuiet : {I O : Type 0} → Host I O → (part : List ℕ) → Tree → Phase → Option Number → Type 0
IsQuiet h part start idle now = now ≡ None
IsQuiet h part start (writing mode) now = (n : Number) × (now ≡ Some n) × IsApart h part start n
IsQuiet h part start (whole bytes) now = now ≡ None

pub record Keeps {I O : Type 0} (h : Host I O) (part : List ℕ) (Of : List ℕ → Type 0) (start : Tree) (at : Phase) (s : FileSystem) : Type 0 where
  pub stays : StaysIn h part Of start s.now
  pub earlier : OfEach (StaysIn h part Of start) s.earlier
  pub quiet : IsQuiet h part start at s.written

-- the same where nothing is said of the phase
pub record Held {I O : Type 0} (h : Host I O) (part : List ℕ) (Of : List ℕ → Type 0) (start : Tree) (s : FileSystem) : Type 0 where
  pub stays : StaysIn h part Of start s.now
  pub earlier : OfEach (StaysIn h part Of start) s.earlier

noted : {I O : Type 0} (h : Host I O) (part : List ℕ) (Of : List ℕ → Type 0) (start : Tree) (before after : FileSystem) (w : Option Number) → StaysIn h part Of start before.now → OfEach (StaysIn h part Of start) before.earlier
    → Notes w before after → OfEach (StaysIn h part Of start) after.earlier
noted h part Of start before after w stays earlier notes = subst (OfEach (StaysIn h part Of start)) (sym notes.noted) (stays, earlier)

-- a name was given or taken
renamed : {I O : Type 0} (h : Host I O) (part : List ℕ) (Of : List ℕ → Type 0) (start : Tree) (at : Phase) (before after : FileSystem) (place : List ℕ) (what : Option Found)
    → Keeps h part Of start at before → Puts place what before.now after.now → SameBytes before.now after.now → Notes before.written before after
    → IsUntaken h part before.now place → LeadsIn h Of place → Keeps h part Of start at after
renamed h part Of start at before after place what keeps puts same notes untaken there = record {
  stays = names_stay h part Of start before.now after.now place what keeps.stays puts same untaken there;
  earlier = noted h part Of start before after before.written keeps.stays keeps.earlier notes;
  quiet = subst (IsQuiet h part start at) (sym notes.written_is) keeps.quiet;
}

-- bytes went into the file that is being written
took : {I O : Type 0} (h : Host I O) (part : List ℕ) (Of : List ℕ → Type 0) (start : Tree) (before after : FileSystem) (n : Number) (bytes : List ℕ) (w : Option Number)
    → Held h part Of start before → Fills n bytes before.now after.now → SameNames before.now after.now → Notes w before after → IsApart h part start n → Held h part Of start after
took h part Of start before after n bytes w held fills same notes apart = record {
  stays = bytes_stay h part Of start before.now after.now n bytes held.stays fills same apart;
  earlier = noted h part Of start before after w held.stays held.earlier notes;
}

took_pieces : {I O : Type 0} (h : Host I O) (part : List ℕ) (Of : List ℕ → Type 0) (start : Tree) (before : FileSystem) (n : Number) (all : List ℕ) (after : FileSystem)
    → Held h part Of start before → IsApart h part start n → TakesPieces n all before after → Held h part Of start after
took_pieces h part Of start before n all after held apart (no_piece e) = subst (Held h part Of start) (sym e) held
took_pieces h part Of start before n all after held apart (and_piece mid front rest pieces is takes) =
    took h part Of start mid after n front (Some n) (took_pieces h part Of start before n all mid held apart pieces) takes.fills takes.names takes.notes apart

took_all : {I O : Type 0} (h : Host I O) (part : List ℕ) (Of : List ℕ → Type 0) (start : Tree) (before after : FileSystem) (n : Number) (all kept : List ℕ)
    → Held h part Of start before → IsApart h part start n → Closes n all kept before after → Held h part Of start after
took_all h part Of start before after n all kept held apart closes =
    took h part Of start closes.last after n kept None (took_pieces h part Of start before n all closes.last held apart closes.pieces) closes.fills closes.names closes.notes apart

closed_quiet : (n : Number) (all kept : List ℕ) (before after : FileSystem) → Closes n all kept before after → after.written ≡ None
closed_quiet n all kept before after closes = closes.notes.written_is

same_number : (a b : Number) → Some a ≡ Some b → b ≡ a
same_number a b e = cc

-- its Of was closed
closed : {I O : Type 0} (h : Host I O) (part : List ℕ) (Of : List ℕ → Type 0) (start : Tree) (mode : ℕ) (before after : FileSystem) (now : Option Number) (all kept : List ℕ)
    → Held h part Of start before → IsQuiet h part start (writing mode) now → ClosesOutput now all kept before after → Held h part Of start after × (after.written ≡ None)
closed h part Of start mode before after (Some n) all kept held quiet closes = (took_all h part Of start before after n all kept held (subst (IsApart h part start) (same_number n quiet.0 quiet.1) quiet.2) closes, closed_quiet n all kept before after closes)
closed h part Of start mode before after None all kept held quiet closes = absurd (cc)

held : {I O : Type 0} (h : Host I O) (part : List ℕ) (Of : List ℕ → Type 0) (start : Tree) (at : Phase) (s : FileSystem) → Keeps h part Of start at s → Held h part Of start s
held h part Of start at s keeps = record { stays = keeps.stays; earlier = keeps.earlier }

-- at a phase in which nothing is written
at_rest : {I O : Type 0} (h : Host I O) (part : List ℕ) (Of : List ℕ → Type 0) (start : Tree) (at : Phase) (now : Option Number) → is_writing at ≡ false → IsQuiet h part start at now → now ≡ None
at_rest h part Of start idle now rest quiet = quiet
at_rest h part Of start (writing mode) now rest quiet = absurd (cc)
at_rest h part Of start (whole bytes) now rest quiet = quiet

then_idle : {I O : Type 0} (h : Host I O) (part : List ℕ) (Of : List ℕ → Type 0) (start : Tree) (at : Phase) (s : FileSystem) → is_writing at ≡ false → Keeps h part Of start at s → Keeps h part Of start idle s
then_idle h part Of start at s rest keeps = record { stays = keeps.stays; earlier = keeps.earlier; quiet = at_rest h part Of start at s.written rest keeps.quiet }

as_phase : {I O : Type 0} (h : Host I O) (part : List ℕ) (Of : List ℕ → Type 0) (start : Tree) (at then : Phase) (s : FileSystem) → then ≡ at → Keeps h part Of start at s → Keeps h part Of start then s
as_phase h part Of start at then s is keeps = subst (λ (k : Phase). Keeps h part Of start k s) (sym is) keeps

as_state : {I O : Type 0} (h : Host I O) (part : List ℕ) (Of : List ℕ → Type 0) (start : Tree) (at : Phase) (s t : FileSystem) → t ≡ s → Keeps h part Of start at s → Keeps h part Of start at t
as_state h part Of start at s t is keeps = subst (Keeps h part Of start at) (sym is) keeps

-- ---- each step

leads_there : {I O : Type 0} (h : Host I O) (Of : List ℕ → Type 0) (path : List ℕ) → Of path → LeadsIn h Of (place_of h path)
leads_there h Of path of_output = record { path = path; of_output = of_output; leads = refl }

by_folder : {I O : Type 0} (h : Host I O) (part : List ℕ) (Of : List ℕ → Type 0) (start : Tree) (at : Phase) (before after : FileSystem) (path : List ℕ) (mode : ℕ) → Of path → MakesFolder h path mode before after
    → Keeps h part Of start at before → Keeps h part Of start at after
by_folder h part Of start at before after path mode of_output makes keeps =
    renamed h part Of start at before after (place_of h path) (Some makes.made) keeps makes.puts makes.bytes makes.notes (inr makes.nothing) (leads_there h Of path of_output)

by_part : {I O : Type 0} (h : Host I O) (part : List ℕ) (Of : List ℕ → Type 0) (start : Tree) (at : Phase) (before after : FileSystem) (mode : ℕ) → Of part → MakesFile h part mode before after
    → Keeps h part Of start at before → Keeps h part Of start (writing (h.masked mode)) after
by_part h part Of start at before after mode of_output makes keeps =
    let apart : IsApart h part start (number_of makes.made) = fresh_is_apart h part Of start before.now (number_of makes.made) keeps.stays makes.fresh in
    record {
      stays = made_stays h part Of start before.now after.now (number_of makes.made) (Some makes.made) keeps.stays makes.puts makes.empty apart (leads_there h Of part of_output);
      earlier = noted h part Of start before after (Some (number_of makes.made)) keeps.stays keeps.earlier makes.notes;
      quiet = (number_of makes.made, makes.notes.written_is, apart);
    }

is_quiet : {I O : Type 0} (h : Host I O) (part : List ℕ) (start : Tree) (at : Phase) (now : Option Number) → is_writing at ≡ false → now ≡ None → IsQuiet h part start at now
is_quiet h part start idle now rest none = none
is_quiet h part start (writing mode) now rest none = absurd (cc)
is_quiet h part start (whole bytes) now rest none = none

by_closing : {I O : Type 0} (h : Host I O) (part : List ℕ) (Of : List ℕ → Type 0) (start : Tree) (mode : ℕ) (then : Phase) (before after : FileSystem) (all kept : List ℕ) → is_writing then ≡ false → ClosesOutput before.written all kept before after
    → Keeps h part Of start (writing mode) before → Keeps h part Of start then after
by_closing h part Of start mode then before after all kept rest closes keeps =
    let does : Held h part Of start after × (after.written ≡ None) = closed h part Of start mode before after before.written all kept (held h part Of start (writing mode) before keeps) keeps.quiet closes in
    record { stays = does.0.stays; earlier = does.0.earlier; quiet = is_quiet h part start then after.written rest does.1 }

by_link : {I O : Type 0} (h : Host I O) (part : List ℕ) (Of : List ℕ → Type 0) (start : Tree) (at : Phase) (before after : FileSystem) (path : List ℕ) → Of path → MakesLink h part path before after
    → Keeps h part Of start at before → Keeps h part Of start at after
by_link h part Of start at before after path of_output links keeps =
    renamed h part Of start at before after (place_of h path) (Some links.linked) keeps links.puts links.bytes links.notes (inr links.nothing) (leads_there h Of path of_output)

by_removal : {I O : Type 0} (h : Host I O) (part : List ℕ) (Of : List ℕ → Type 0) (start : Tree) (at : Phase) (before after : FileSystem) → Of part → Removes h part before after
    → Keeps h part Of start at before → Keeps h part Of start at after
by_removal h part Of start at before after of_output removes keeps =
    renamed h part Of start at before after (place_of h part) None keeps removes.puts removes.bytes removes.notes (inl refl) (leads_there h Of part of_output)

-- ---- a part that is moved

moved_there : {I O : Type 0} (h : Host I O) (part : List ℕ) (t u : Tree) (place p : List ℕ) (f : Found) → p ≢ place_of h part → t.at p ≡ Some f → t.at place ≡ None
    → ((p ≡ place_of h part) ⊎ (p ≡ place)) ⊎ (u.at p ≡ t.at p) → u.at p ≡ Some f
moved_there h part t u place p f other is nothing (inl (inl e)) = absurd (other e)
moved_there h part t u place p f other is nothing (inl (inr e)) = absurd (cc)
moved_there h part t u place p f other is nothing (inr e) = e ∙ is

moved_new : {I O : Type 0} (h : Host I O) (part : List ℕ) (Of : List ℕ → Type 0) (start t u : Tree) (place p : List ℕ) → LeadsIn h Of (place_of h part) → LeadsIn h Of place → (t.at p ≡ start.at p) ⊎ LeadsIn h Of p
    → ((p ≡ place_of h part) ⊎ (p ≡ place)) ⊎ (u.at p ≡ t.at p) → (u.at p ≡ start.at p) ⊎ LeadsIn h Of p
moved_new h part Of start t u place p there to old (inl (inl e)) = inr (subst (LeadsIn h Of) (sym e) there)
moved_new h part Of start t u place p there to old (inl (inr e)) = inr (subst (LeadsIn h Of) (sym e) to)
moved_new h part Of start t u place p there to old (inr e) = still_new h Of start t u p old e

move_stays : {I O : Type 0} (h : Host I O) (part : List ℕ) (Of : List ℕ → Type 0) (start : Tree) (before after : FileSystem) (path : List ℕ) → Of part → Of path → at_path h before.now path ≡ None
    → Moves h part path before after → StaysIn h part Of start before.now → StaysIn h part Of start after.now
move_stays h part Of start before after path of_output to nothing moves stays = record {
  there = λ p f other was. moved_there h part before.now after.now (place_of h path) p f other (stays.there p f other was) nothing (moves.elsewhere p);
  bytes = λ p f other was. moves.bytes (number_of f) ∙ stays.bytes p f other was;
  new = λ p. moved_new h part Of start before.now after.now (place_of h path) p (leads_there h Of part of_output) (leads_there h Of path to) (stays.new p) (moves.elsewhere p);
}

-- no folder is at the part
abbrev pub NoFolder : {I O : Type 0} → Host I O → (part : List ℕ) → Tree → Type 0
NoFolder h part t = (f : Found) → at_path h t part ≡ Some f → f.kind ≢ Folder

by_move : {I O : Type 0} (h : Host I O) (part : List ℕ) (Of : List ℕ → Type 0) (start : Tree) (at : Phase) (before after : FileSystem) (path : List ℕ) → Of part → Of path
    → (HasWay h before.now path → at_path h before.now path ≡ None) → NoFolder h part before.now → MovesWhat h part path before after → Keeps h part Of start at before → Keeps h part Of start at after
by_move h part Of start at before after path of_output to nothing no_folder (a_file moves) keeps = record {
  stays = move_stays h part Of start before after path of_output to (nothing moves.way) moves keeps.stays;
  earlier = noted h part Of start before after before.written keeps.stays keeps.earlier moves.notes;
  quiet = subst (IsQuiet h part start at) (sym moves.notes.written_is) keeps.quiet;
}
by_move h part Of start at before after path of_output to nothing no_folder (same_file one other way from is same e) keeps = as_state h part Of start at before after e keeps
by_move h part Of start at before after path of_output to nothing no_folder (a_folder one is kind stays) keeps = absurd (no_folder one is kind)

-- ---- all of them

pub not_idle : (bytes : List ℕ) → whole bytes ≡ idle → ⊥
not_idle bytes e = absurd (cc)

whole_rest : (then : Phase) (bytes : List ℕ) → then ≡ whole bytes → is_writing then ≡ false
whole_rest then bytes e = ap is_writing e

idle_rest : (then : Phase) → then ≡ idle → is_writing then ≡ false
idle_rest then e = ap is_writing e

pub each_keeps : {I O : Type 0} (h : Host I O) (IsWhole : ℕ → List ℕ → Type 0) (part : List ℕ) (Of : List ℕ → Type 0) (start : Tree) → Of part → (at : Phase) (before : FileSystem) (then : Phase) (after : FileSystem)
    → (is_writing at ≡ false → at ≢ idle → NoFolder h part before.now) → StepIn h IsWhole part Of at before then after → Keeps h part Of start at before → Keeps h part Of start then after
each_keeps h IsWhole part Of start of_output at before then after no_folder (folder path mode rest to makes same) keeps =
    as_phase h part Of start at then after same (by_folder h part Of start at before after path mode to makes keeps)
each_keeps h IsWhole part Of start of_output at before then after no_folder (part_made mode rest makes is) keeps =
    as_phase h part Of start (writing (h.masked mode)) then after is (by_part h part Of start at before after mode of_output makes keeps)
each_keeps h IsWhole part Of start of_output at before then after no_folder (filled mode bytes was closes done is) keeps =
    by_closing h part Of start mode then before after bytes bytes (whole_rest then bytes is) closes (as_phase h part Of start at (writing mode) before (sym was) keeps)
each_keeps h IsWhole part Of start of_output at before then after no_folder (not_filled mode bytes kept was closes is) keeps =
    by_closing h part Of start mode then before after bytes kept (idle_rest then is) closes (as_phase h part Of start at (writing mode) before (sym was) keeps)
each_keeps h IsWhole part Of start of_output at before then after no_folder (named bytes path was to links same) keeps =
    as_phase h part Of start at then after same (by_link h part Of start at before after path to links keeps)
each_keeps h IsWhole part Of start of_output at before then after no_folder (moved bytes path was to nothing moves is) keeps =
    as_phase h part Of start idle then after is
    (then_idle h part Of start at after (whole_rest at bytes was)
    (by_move h part Of start at before after path of_output to nothing (no_folder (whole_rest at bytes was) (λ e. not_idle bytes (sym was ∙ e))) moves keeps))
each_keeps h IsWhole part Of start of_output at before then after no_folder (removed rest removes is) keeps =
    as_phase h part Of start idle then after is (then_idle h part Of start at after rest (by_removal h part Of start at before after of_output removes keeps))
each_keeps h IsWhole part Of start of_output at before then after no_folder (left rest same is) keeps =
    as_phase h part Of start idle then after is (then_idle h part Of start at after rest (as_state h part Of start at before after same keeps))
each_keeps h IsWhole part Of start of_output at before then after no_folder (not_removed now rest same is) keeps =
    as_phase h part Of start idle then after is
    (then_idle h part Of start at after rest (subst (Keeps h part Of start at) (sym same) (record { stays = keeps.stays; earlier = keeps.earlier; quiet = keeps.quiet })))
