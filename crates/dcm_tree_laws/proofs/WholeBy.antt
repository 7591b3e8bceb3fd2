-- After each step every output that has its name is complete.
use Rattle.std.proofs.Common.{◌≡◌, ◌∙◌, refl, sym, subst, inl, inr, ◌⊎◌, ℕ, List, false, Option, Some, None}
use Rattle.std.specs.Prelude.{◌≢◌}
use Rattle.dcm_lemmas.proofs.Options.{none_or_some, one_value, one_value as same_number}
use Rattle.dcm_files.specs.declared.folders.Found.{Found}
use Rattle.dcm_files.specs.declared.folders.FoundKind.TheVariants.{File, Folder}
use Rattle.dcm_tree_laws.specs.FileSystem.{FileSystem, Tree, Number, Host, number_of, place_of, Puts, Fills, SameBytes, SameNames, Notes, IsFresh, at_path}
use Rattle.dcm_tree_laws.specs.FileSystem.{MakesFile, TakesPieces, no_piece, and_piece, Closes, ClosesOutput, MovesWhat, a_file, same_file, a_folder, Removes}
use Rattle.dcm_tree_laws.specs.Stays.{OfEach}
use Rattle.dcm_tree_laws.specs.Whole.{IsWholeAt, nothing, was_there, a_folder as is_folder, an_output, NoneHalf}
use Rattle.dcm_tree_laws.proofs.Steps.{Phase, idle, writing, whole, is_writing, StepIn, folder, part_made, filled, not_filled, named, moved, removed, left, not_removed}

-- ---- one place

pub kept_at : (IsWhole : ℕ → List ℕ → Type 0) (start t u : Tree) (p : List ℕ) → u.at p ≡ t.at p → ((f : Found) → t.at p ≡ Some f → u.bytes (number_of f) ≡ t.bytes (number_of f)) → IsWholeAt IsWhole start t p
    → IsWholeAt IsWhole start u p
kept_at IsWhole start t u p same bytes (nothing e) = nothing (same ∙ e)
kept_at IsWhole start t u p same bytes (was_there f e at_start b) = was_there f (same ∙ e) at_start (bytes f e ∙ b)
kept_at IsWhole start t u p same bytes (is_folder f e kind) = is_folder f (same ∙ e) kind
kept_at IsWhole start t u p same bytes (an_output f e kind done) = an_output f (same ∙ e) kind (subst (IsWhole f.mode) (sym (bytes f e)) done)

-- ---- the part

-- it is a file
pub record HasPart {I O : Type 0} (h : Host I O) (part : List ℕ) (t : Tree) : Type 0 where
  pub file : Found
  pub is : at_path h t part ≡ Some file
  pub kind : file.kind ≡ File

-- at no other place is what has this number
abbrev pub IsAlone : {I O : Type 0} → Host I O → (part : List ℕ) → Tree → Number → Type 0
IsAlone h part t n = (place : List ℕ) (f : Found) → place ≢ place_of h part → t.at place ≡ Some f → number_of f ≢ n

pub record IsWritten {I O : Type 0} (h : Host I O) (part : List ℕ) (s : FileSystem) (mode : ℕ) : Type 0 where
  pub has : HasPart h part s.now
  pub mode_is : has.file.mode ≡ mode
  pub written : s.written ≡ Some (number_of has.file)
  pub alone : IsAlone h part s.now (number_of has.file)

pub record IsFilled {I O : Type 0} (h : Host I O) (IsWhole : ℕ → List ℕ → Type 0) (part : List ℕ) (s : FileSystem) (bytes : List ℕ) : Type 0 where
  pub has : HasPart h part s.now
  pub done : IsWhole has.file.mode (s.now.bytes (number_of has.file))

abbrev pub PartAt : {I O : Type 0} → Host I O → (IsWhole : ℕ → List ℕ → Type 0) → (part : List ℕ) → FileSystem → Phase → Type 0
PartAt h IsWhole part s idle = Unit {0}
PartAt h IsWhole part s (writing mode) = IsWritten h part s mode
PartAt h IsWhole part s (whole bytes) = IsFilled h IsWhole part s bytes

pub record Holds {I O : Type 0} (h : Host I O) (IsWhole : ℕ → List ℕ → Type 0) (part : List ℕ) (start : Tree) (at : Phase) (s : FileSystem) : Type 0 where
  pub none_half : NoneHalf h IsWhole part start s.now
  pub earlier : OfEach (NoneHalf h IsWhole part start) s.earlier
  pub part_at : PartAt h IsWhole part s at

noted : {I O : Type 0} (h : Host I O) (IsWhole : ℕ → List ℕ → Type 0) (part : List ℕ) (start : Tree) (before after : FileSystem) (w : Option Number) → NoneHalf h IsWhole part start before.now → OfEach (NoneHalf h IsWhole part start) before.earlier
    → Notes w before after → OfEach (NoneHalf h IsWhole part start) after.earlier
noted h IsWhole part start before after w half earlier notes = subst (OfEach (NoneHalf h IsWhole part start)) (sym notes.noted) (half, earlier)

-- ---- a name where nothing was

new_at : (IsWhole : ℕ → List ℕ → Type 0) (start t u : Tree) (place p : List ℕ) → SameBytes t u → IsWholeAt IsWhole start u place → (p ≡ place) ⊎ (u.at p ≡ t.at p) → IsWholeAt IsWhole start t p → IsWholeAt IsWhole start u p
new_at IsWhole start t u place p same is (inl e) old = subst (IsWholeAt IsWhole start u) (sym e) is
new_at IsWhole start t u place p same is (inr e) old = kept_at IsWhole start t u p e (λ f at. same (number_of f)) old

-- what is at the part stays there
stays_at : {I O : Type 0} (h : Host I O) (part place : List ℕ) (t u : Tree) (f : Found) → t.at place ≡ None → at_path h t part ≡ Some f → (place_of h part ≡ place) ⊎ (at_path h u part ≡ at_path h t part) → at_path h u part ≡ Some f
stays_at h part place t u f none is (inl e) = absurd (cc)
stays_at h part place t u f none is (inr e) = e ∙ is

filled_stays : {I O : Type 0} (h : Host I O) (IsWhole : ℕ → List ℕ → Type 0) (part place : List ℕ) (before after : FileSystem) (what : Option Found) (at : Phase) → is_writing at ≡ false → before.now.at place ≡ None
    → Puts place what before.now after.now → SameBytes before.now after.now → PartAt h IsWhole part before at → PartAt h IsWhole part after at
filled_stays h IsWhole part place before after what idle rest none puts same part_at = part_at
filled_stays h IsWhole part place before after what (writing mode) rest none puts same part_at = absurd (cc)
filled_stays h IsWhole part place before after what (whole bytes) rest none puts same part_at = record {
  has = record {
    file = part_at.has.file;
    is = stays_at h part place before.now after.now part_at.has.file none part_at.has.is (puts.elsewhere (place_of h part));
    kind = part_at.has.kind;
  };
  done = subst (IsWhole part_at.has.file.mode) (sym (same (number_of part_at.has.file))) part_at.done;
}

-- a name is given where nothing was, to what may be there
gives : {I O : Type 0} (h : Host I O) (IsWhole : ℕ → List ℕ → Type 0) (part : List ℕ) (start : Tree) (at : Phase) (before after : FileSystem) (place : List ℕ) (what : Option Found) → is_writing at ≡ false
    → before.now.at place ≡ None → Puts place what before.now after.now → SameBytes before.now after.now → Notes before.written before after → IsWholeAt IsWhole start after.now place
    → Holds h IsWhole part start at before → Holds h IsWhole part start at after
gives h IsWhole part start at before after place what rest none puts same notes is holds = record {
  none_half = λ p other. new_at IsWhole start before.now after.now place p same is (puts.elsewhere p) (holds.none_half p other);
  earlier = noted h IsWhole part start before after before.written holds.none_half holds.earlier notes;
  part_at = filled_stays h IsWhole part place before after what at rest none puts same holds.part_at;
}

-- a link to the part's file
linked_is : {I O : Type 0} (h : Host I O) (IsWhole : ℕ → List ℕ → Type 0) (part path : List ℕ) (start : Tree) (bytes : List ℕ) (before after : FileSystem) → IsFilled h IsWhole part before bytes → (f : Found) → at_path h before.now part ≡ Some f
    → at_path h after.now path ≡ Some f → SameBytes before.now after.now → IsWholeAt IsWhole start after.now (place_of h path)
linked_is h IsWhole part path start bytes before after is_filled f was there same =
    let e : is_filled.has.file ≡ f = one_value (at_path h before.now part) is_filled.has.file f is_filled.has.is was in
    an_output f there (subst (λ (g : Found). g.kind ≡ File) e is_filled.has.kind)
    (subst (IsWhole f.mode) (sym (same (number_of f))) (subst (λ (g : Found). IsWhole g.mode (before.now.bytes (number_of g))) e is_filled.done))

-- ---- the part is made

other_at : (IsWhole : ℕ → List ℕ → Type 0) (start t u : Tree) (place p : List ℕ) → p ≢ place → ((f : Found) → t.at p ≡ Some f → u.bytes (number_of f) ≡ t.bytes (number_of f)) → (p ≡ place) ⊎ (u.at p ≡ t.at p) → IsWholeAt IsWhole start t p
    → IsWholeAt IsWhole start u p
other_at IsWhole start t u place p other bytes (inl e) old = absurd (other e)
other_at IsWhole start t u place p other bytes (inr e) old = kept_at IsWhole start t u p e bytes old

same_but : (t u : Tree) (n m : Number) → m ≢ n → (m ≡ n) ⊎ (u.bytes m ≡ t.bytes m) → u.bytes m ≡ t.bytes m
same_but t u n m other (inl e) = absurd (other e)
same_but t u n m other (inr e) = e

alone_at : (t u : Tree) (n : Number) (place p : List ℕ) (f : Found) → IsFresh t n → p ≢ place → u.at p ≡ Some f → (p ≡ place) ⊎ (u.at p ≡ t.at p) → number_of f ≢ n
alone_at t u n place p f fresh other is (inl e) = absurd (other e)
alone_at t u n place p f fresh other is (inr e) = fresh p f (sym e ∙ is)

makes : {I O : Type 0} (h : Host I O) (IsWhole : ℕ → List ℕ → Type 0) (part : List ℕ) (start : Tree) (at : Phase) (before after : FileSystem) (mode : ℕ) → MakesFile h part mode before after
    → Holds h IsWhole part start at before → Holds h IsWhole part start (writing (h.masked mode)) after
makes h IsWhole part start at before after mode m holds = record {
  none_half = λ p other. other_at IsWhole start before.now after.now (place_of h part) p other
      (λ f is. same_but before.now after.now (number_of m.made) (number_of f) (m.fresh p f is) (m.empty.others (number_of f))) (m.puts.elsewhere p) (holds.none_half p other);
  earlier = noted h IsWhole part start before after (Some (number_of m.made)) holds.none_half holds.earlier m.notes;
  part_at = record {
    has = record { file = m.made; is = m.puts.there; kind = m.kind };
    mode_is = m.mode_is;
    written = m.notes.written_is;
    alone = λ p f other is. alone_at before.now after.now (number_of m.made) (place_of h part) p f m.fresh other is (m.puts.elsewhere p);
  };
}

-- ---- it is written

takes_at : {I O : Type 0} (h : Host I O) (IsWhole : ℕ → List ℕ → Type 0) (part : List ℕ) (start t u : Tree) (n : Number) (bytes : List ℕ) → Fills n bytes t u → SameNames t u → IsAlone h part t n → NoneHalf h IsWhole part start t
    → NoneHalf h IsWhole part start u
takes_at h IsWhole part start t u n bytes fills same alone half =
    λ p other. kept_at IsWhole start t u p (same p) (λ f is. same_but t u n (number_of f) (alone p f other is) (fills.others (number_of f))) (half p other)

-- the file at the part, of this number, is being written
pub record HoldsOpen {I O : Type 0} (h : Host I O) (IsWhole : ℕ → List ℕ → Type 0) (part : List ℕ) (start : Tree) (mode : ℕ) (n : Number) (s : FileSystem) : Type 0 where
  pub none_half : NoneHalf h IsWhole part start s.now
  pub earlier : OfEach (NoneHalf h IsWhole part start) s.earlier
  pub file : Found
  pub is : at_path h s.now part ≡ Some file
  pub kind : file.kind ≡ File
  pub mode_is : file.mode ≡ mode
  pub number_is : number_of file ≡ n
  pub alone : IsAlone h part s.now n

takes : {I O : Type 0} (h : Host I O) (IsWhole : ℕ → List ℕ → Type 0) (part : List ℕ) (start : Tree) (mode : ℕ) (n : Number) (bytes : List ℕ) (w : Option Number) (before after : FileSystem) → Fills n bytes before.now after.now → SameNames before.now after.now
    → Notes w before after → HoldsOpen h IsWhole part start mode n before → HoldsOpen h IsWhole part start mode n after
takes h IsWhole part start mode n bytes w before after fills same notes holds = record {
  none_half = takes_at h IsWhole part start before.now after.now n bytes fills same holds.alone holds.none_half;
  earlier = noted h IsWhole part start before after w holds.none_half holds.earlier notes;
  file = holds.file;
  is = same (place_of h part) ∙ holds.is;
  kind = holds.kind;
  mode_is = holds.mode_is;
  number_is = holds.number_is;
  alone = λ p f other is. holds.alone p f other (sym (same p) ∙ is);
}

takes_pieces : {I O : Type 0} (h : Host I O) (IsWhole : ℕ → List ℕ → Type 0) (part : List ℕ) (start : Tree) (mode : ℕ) (n : Number) (all : List ℕ) (before after : FileSystem) → TakesPieces n all before after → HoldsOpen h IsWhole part start mode n before
    → HoldsOpen h IsWhole part start mode n after
takes_pieces h IsWhole part start mode n all before after (no_piece e) holds = subst (HoldsOpen h IsWhole part start mode n) (sym e) holds
takes_pieces h IsWhole part start mode n all before after (and_piece mid front rest pieces is t) holds =
    takes h IsWhole part start mode n front (Some n) mid after t.fills t.names t.notes (takes_pieces h IsWhole part start mode n all before mid pieces holds)

takes_all : {I O : Type 0} (h : Host I O) (IsWhole : ℕ → List ℕ → Type 0) (part : List ℕ) (start : Tree) (mode : ℕ) (n : Number) (all kept : List ℕ) (before after : FileSystem) → Closes n all kept before after → HoldsOpen h IsWhole part start mode n before
    → HoldsOpen h IsWhole part start mode n after × (after.now.bytes n ≡ kept)
takes_all h IsWhole part start mode n all kept before after c holds =
    (takes h IsWhole part start mode n kept None c.last after c.fills c.names c.notes (takes_pieces h IsWhole part start mode n all before c.last c.pieces holds), c.fills.filled)

opened : {I O : Type 0} (h : Host I O) (IsWhole : ℕ → List ℕ → Type 0) (part : List ℕ) (start : Tree) (mode : ℕ) (s : FileSystem) (n : Number) → s.written ≡ Some n → Holds h IsWhole part start (writing mode) s → HoldsOpen h IsWhole part start mode n s
opened h IsWhole part start mode s n is holds =
    let same : number_of holds.part_at.has.file ≡ n = same_number s.written (number_of holds.part_at.has.file) n holds.part_at.written is in
    record {
      none_half = holds.none_half;
      earlier = holds.earlier;
      file = holds.part_at.has.file;
      is = holds.part_at.has.is;
      kind = holds.part_at.has.kind;
      mode_is = holds.part_at.mode_is;
      number_is = same;
      alone = subst (IsAlone h part s.now) same holds.part_at.alone;
    }

pub closes : {I O : Type 0} (h : Host I O) (IsWhole : ℕ → List ℕ → Type 0) (part : List ℕ) (start : Tree) (mode : ℕ) (now : Option Number) (all kept : List ℕ) (before after : FileSystem) → before.written ≡ now → ClosesOutput now all kept before after
    → Holds h IsWhole part start (writing mode) before → (n : Number) × (HoldsOpen h IsWhole part start mode n after × (after.now.bytes n ≡ kept))
closes h IsWhole part start mode (Some n) all kept before after is c holds = (n, takes_all h IsWhole part start mode n all kept before after c (opened h IsWhole part start mode before n is holds))
closes h IsWhole part start mode None all kept before after is c holds = absurd (none_or_some before.written (number_of holds.part_at.has.file) is holds.part_at.written)

to_idle : {I O : Type 0} (h : Host I O) (IsWhole : ℕ → List ℕ → Type 0) (part : List ℕ) (start : Tree) (mode : ℕ) (n : Number) (s : FileSystem) → HoldsOpen h IsWhole part start mode n s → Holds h IsWhole part start idle s
to_idle h IsWhole part start mode n s holds = record { none_half = holds.none_half; earlier = holds.earlier; part_at = tt }

to_whole : {I O : Type 0} (h : Host I O) (IsWhole : ℕ → List ℕ → Type 0) (part : List ℕ) (start : Tree) (mode : ℕ) (n : Number) (all : List ℕ) (s : FileSystem) → IsWhole mode all → s.now.bytes n ≡ all → HoldsOpen h IsWhole part start mode n s
    → Holds h IsWhole part start (whole all) s
to_whole h IsWhole part start mode n all s done is holds = record {
  none_half = holds.none_half;
  earlier = holds.earlier;
  part_at = record {
    has = record { file = holds.file; is = holds.is; kind = holds.kind };
    done = subst (λ (m : Number). IsWhole holds.file.mode (s.now.bytes m)) (sym holds.number_is) (subst (λ (k : ℕ). IsWhole k (s.now.bytes n)) (sym holds.mode_is) (subst (IsWhole mode) (sym is) done));
  };
}

-- ---- it gets a name, or is taken away

moved_at : (IsWhole : ℕ → List ℕ → Type 0) (start t u : Tree) (part place p : List ℕ) → p ≢ part → SameBytes t u → IsWholeAt IsWhole start u place → ((p ≡ part) ⊎ (p ≡ place)) ⊎ (u.at p ≡ t.at p) → IsWholeAt IsWhole start t p
    → IsWholeAt IsWhole start u p
moved_at IsWhole start t u part place p other same is (inl (inl e)) old = absurd (other e)
moved_at IsWhole start t u part place p other same is (inl (inr e)) old = subst (IsWholeAt IsWhole start u) (sym e) is
moved_at IsWhole start t u part place p other same is (inr e) old = kept_at IsWhole start t u p e (λ f at. same (number_of f)) old

rest_state : {I O : Type 0} (h : Host I O) (IsWhole : ℕ → List ℕ → Type 0) (part : List ℕ) (start : Tree) (at : Phase) (s t : FileSystem) → t ≡ s → Holds h IsWhole part start at s → Holds h IsWhole part start idle t
rest_state h IsWhole part start at s t e holds = subst (Holds h IsWhole part start idle) (sym e) (record { none_half = holds.none_half; earlier = holds.earlier; part_at = tt })

is_file : (f : Found) → f.kind ≡ File → f.kind ≢ Folder
is_file f e other = absurd (cc)

moves : {I O : Type 0} (h : Host I O) (IsWhole : ℕ → List ℕ → Type 0) (part path : List ℕ) (start : Tree) (bytes : List ℕ) (before after : FileSystem) → MovesWhat h part path before after → Holds h IsWhole part start (whole bytes) before
    → Holds h IsWhole part start idle after
moves h IsWhole part path start bytes before after (a_file m) holds = record {
  none_half = λ p other. moved_at IsWhole start before.now after.now (place_of h part) (place_of h path) p other m.bytes
      (linked_is h IsWhole part path start bytes before after holds.part_at m.moved m.was m.there m.bytes) (m.elsewhere p) (holds.none_half p other);
  earlier = noted h IsWhole part start before after before.written holds.none_half holds.earlier m.notes;
  part_at = tt;
}
moves h IsWhole part path start bytes before after (same_file one other way from to same e) holds = rest_state h IsWhole part start (whole bytes) before after e holds
moves h IsWhole part path start bytes before after (a_folder one is kind stays) holds =
    absurd (is_file one (subst (λ (g : Found). g.kind ≡ File) (one_value (at_path h before.now part) holds.part_at.has.file one holds.part_at.has.is is) holds.part_at.has.kind) kind)

removes : {I O : Type 0} (h : Host I O) (IsWhole : ℕ → List ℕ → Type 0) (part : List ℕ) (start : Tree) (at : Phase) (before after : FileSystem) → Removes h part before after → Holds h IsWhole part start at before
    → Holds h IsWhole part start idle after
removes h IsWhole part start at before after r holds = record {
  none_half = λ p other. other_at IsWhole start before.now after.now (place_of h part) p other (λ f is. r.bytes (number_of f)) (r.puts.elsewhere p) (holds.none_half p other);
  earlier = noted h IsWhole part start before after before.written holds.none_half holds.earlier r.notes;
  part_at = tt;
}

-- ---- each step

as_phase : {I O : Type 0} (h : Host I O) (IsWhole : ℕ → List ℕ → Type 0) (part : List ℕ) (start : Tree) (at then : Phase) (s : FileSystem) → then ≡ at → Holds h IsWhole part start at s → Holds h IsWhole part start then s
as_phase h IsWhole part start at then s is holds = subst (λ (k : Phase). Holds h IsWhole part start k s) (sym is) holds

pub each_holds : {I O : Type 0} (h : Host I O) (IsWhole : ℕ → List ℕ → Type 0) (part : List ℕ) (Of : List ℕ → Type 0) (start : Tree) (at : Phase) (before : FileSystem) (then : Phase) (after : FileSystem)
    → StepIn h IsWhole part Of at before then after → Holds h IsWhole part start at before → Holds h IsWhole part start then after
each_holds h IsWhole part Of start at before then after (folder path mode rest to m same) holds =
    as_phase h IsWhole part start at then after same
    (gives h IsWhole part start at before after (place_of h path) (Some m.made) rest m.nothing m.puts m.bytes m.notes (is_folder m.made m.puts.there m.kind) holds)
each_holds h IsWhole part Of start at before then after (part_made mode rest m is) holds =
    as_phase h IsWhole part start (writing (h.masked mode)) then after is (makes h IsWhole part start at before after mode m holds)
each_holds h IsWhole part Of start at before then after (filled mode bytes was c done is) holds =
    let all : (n : Number) × (HoldsOpen h IsWhole part start mode n after × (after.now.bytes n ≡ bytes)) =
    closes h IsWhole part start mode before.written bytes bytes before after refl c (as_phase h IsWhole part start at (writing mode) before (sym was) holds) in
    as_phase h IsWhole part start (whole bytes) then after is (to_whole h IsWhole part start mode all.0 bytes after done all.1.1 all.1.0)
each_holds h IsWhole part Of start at before then after (not_filled mode bytes kept was c is) holds =
    let all : (n : Number) × (HoldsOpen h IsWhole part start mode n after × (after.now.bytes n ≡ kept)) =
    closes h IsWhole part start mode before.written bytes kept before after refl c (as_phase h IsWhole part start at (writing mode) before (sym was) holds) in
    as_phase h IsWhole part start idle then after is (to_idle h IsWhole part start mode all.0 after all.1.0)
each_holds h IsWhole part Of start at before then after (named bytes path was to l same) holds =
    let at_whole : Holds h IsWhole part start (whole bytes) before = as_phase h IsWhole part start at (whole bytes) before (sym was) holds in
    as_phase h IsWhole part start (whole bytes) then after (same ∙ was)
    (gives h IsWhole part start (whole bytes) before after (place_of h path) (Some l.linked) refl l.nothing l.puts l.bytes l.notes
    (linked_is h IsWhole part path start bytes before after at_whole.part_at l.linked l.was l.puts.there l.bytes) at_whole)
each_holds h IsWhole part Of start at before then after (moved bytes path was to none m is) holds =
    as_phase h IsWhole part start idle then after is (moves h IsWhole part path start bytes before after m (as_phase h IsWhole part start at (whole bytes) before (sym was) holds))
each_holds h IsWhole part Of start at before then after (removed rest r is) holds =
    as_phase h IsWhole part start idle then after is (removes h IsWhole part start at before after r holds)
each_holds h IsWhole part Of start at before then after (left rest same is) holds =
    as_phase h IsWhole part start idle then after is (rest_state h IsWhole part start at before after same holds)
each_holds h IsWhole part Of start at before then after (not_removed now rest same is) holds =
    as_phase h IsWhole part start idle then after is (subst (Holds h IsWhole part start idle) (sym same) (record { none_half = holds.none_half; earlier = holds.earlier; part_at = tt }))

-- the part is no folder where it is whole
pub no_folder : {I O : Type 0} (h : Host I O) (IsWhole : ℕ → List ℕ → Type 0) (part : List ℕ) (start : Tree) (at : Phase) (s : FileSystem) → Holds h IsWhole part start at s → is_writing at ≡ false → at ≢ idle
    → (f : Found) → at_path h s.now part ≡ Some f → f.kind ≢ Folder
no_folder h IsWhole part start idle s holds rest other f is = absurd (other refl)
no_folder h IsWhole part start (writing mode) s holds rest other f is = absurd (cc)
no_folder h IsWhole part start (whole bytes) s holds rest other f is =
    is_file f (subst (λ (g : Found). g.kind ≡ File) (one_value (at_path h s.now part) holds.part_at.has.file f holds.part_at.has.is is) holds.part_at.has.kind)
