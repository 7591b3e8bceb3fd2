-- The name that a part gets, and the file that it is compared with, are determined by what is in the folder of the outputs.
use Rattle.std.proofs.Common.{◌≡◌, ◌∙◌, refl, sym, ap, subst, ℕ, ◌≤◌, List, [], ◌++◌, length, Bool, true, false, Option, Some, None, Result, Ok, Err, arith}
use Rattle.std.specs.Prelude.{◌≢◌}
use Rattle.std.specs.Str.{IsUtf8}
use Rattle.std.proofs.lemmas.List.{append-nil}
use Rattle.dcm_lemmas.proofs.Options.{one_value}
use Rattle.dcm_lemmas.proofs.Truth.{true_false}
use Rattle.dcm_base.specs.Reading.Reads.{INPUT_LIMIT}
use Rattle.dcm_devices.specs.Writing.{Writer}
use Rattle.dcm_files.specs.declared.folders.Found.{Found}
use Rattle.dcm_files.specs.declared.folders.Links.TheVariants.{Followed}
use Rattle.dcm_instance.specs.Same as bytes
use Rattle.dcm_cli.specs.Calls.{Reader}
use Rattle.dcm_cli.specs.InputCalls.{How, to_end, Allows}
use Rattle.dcm_tree_laws.proofs.Looking.{kind_taken}
use Rattle.dcm_trees.specs.declared.part.Naming.{Naming}
use Rattle.dcm_trees.specs.declared.part.Naming.TheVariants.{Linked, Moved, NotFree, Failed}
use Rattle.dcm_trees.specs.declared.place.Place.{Place}
use Rattle.dcm_trees.specs.declared.place.Place.TheVariants as place
use Rattle.dcm_trees.specs.Instance as instance
use Rattle.dcm_trees.specs.Instance.{ComparesFiles, FindsCopy, GivesFreeName, is_there}
use Rattle.dcm_trees.specs.Modes.{Modes}
use Rattle.dcm_trees.specs.Opening.{OpensFile}
use Rattle.dcm_trees.specs.Part as parts
use Rattle.dcm_trees.specs.Part.{MovesIfFree, GivesSecondName, GivesName, is_moved}
use Rattle.dcm_trees.specs.Place.{is_free}
use Rattle.dcm_tree_laws.specs.Determined.{FileAt, working_may, as_whole}
use Rattle.dcm_tree_laws.specs.FileSystem.{FileSystem, Tree, Host, number_of, place_of as path_place, at_path, may_do, MakesLink}
use Rattle.dcm_tree_laws.specs.Flows.{AreAlike, AlikeAt, SameOutputs}
use Rattle.dcm_tree_laws.specs.Stays.{IsOfOutput}
use Rattle.dcm_tree_laws.proofs.Alike.{alike_as, alike_kept, alike_back, alike_some, Changes, both_change, Keeps, all_kept, then_keeps, new_keeps}
use Rattle.dcm_tree_laws.proofs.Held.{GivesAll, Left, reads_left}
use Rattle.dcm_tree_laws.proofs.Looking as looking
use Rattle.dcm_tree_laws.proofs.Onwards.{calls_of, calls_quiet, Sight, unfit, fit, place_seen, Lands, Stands, stands, stands_once, IsFileAt, stands_there, Paves, paves, paves_keeps, OfOutputOn, Onward, paves_once, paved_way}
use Rattle.dcm_tree_laws.proofs.Working.{IsOpened, is_opened, compared_same}

-- ---- the name is free

-- the folders on the way were made, or not: the part got its second name, or something has it
pub data LandsPart {I O : Type 0} (h : Host I O) (part path : List ℕ) (base : ℕ) (has : Bool) (before : FileSystem) (naming : Naming) (after : FileSystem) : Type 0 where
  no_way : has ≡ false → naming ≡ Failed → after ≡ before → LandsPart h part path base has before naming after
  no_text : has ≡ true → ¬ (IsUtf8 path) → naming ≡ Failed → after ≡ before → LandsPart h part path base has before naming after
  linked : has ≡ true → IsUtf8 path → MakesLink h part path before after → naming ≡ Linked → LandsPart h part path base has before naming after
  was_there : (p : Place) → has ≡ true → IsUtf8 path → at_path h before.now path ≢ None → Stands h before.now path base p → naming ≡ NotFree p → after ≡ before → LandsPart h part path base has before naming after

-- what is at the path is looked at first
pub data Gives {I O : Type 0} (h : Host I O) (part path : List ℕ) (base : ℕ) (before : FileSystem) (naming : Naming) (after : FileSystem) : Type 0 where
  not_free : (p : Place) → Stands h before.now path base p → is_free p ≡ false → naming ≡ NotFree p → after ≡ before → Gives h part path base before naming after
  was_free : (p : Place) (has : Bool) (mid : FileSystem) → Stands h before.now path base p → is_free p ≡ true → Paves h path has mid base before → LandsPart h part path base has mid naming after → Gives h part path base before naming after

-- where something is there, and all folders on the way are, the path is not free
some_taken : {A U : Type 0} (o : Option Found) (seen : Result (Option Found) U) → o ≢ None → seen ≡ Ok o → is_free (place_seen seen) ≡ true → A
some_taken None seen some is free = absurd (some refl)
some_taken (Some f) seen some is free = absurd (kind_taken f.kind (sym (ap (λ x. is_free (place_seen x)) is) ∙ free))

sight_taken : {A I O U : Type 0} (h : Host I O) (t : Tree) (path : List ℕ) (seen : Result (Option Found) U) → IsUtf8 path → at_path h t path ≢ None → Sight h t path seen → is_free (place_seen seen) ≡ true → A
sight_taken h t path seen text some (unfit u lacks is) free = absurd (lacks text)
sight_taken h t path seen text some (fit has is) free = some_taken (at_path h t path) seen some is free

lands_taken : {A I O : Type 0} (h : Host I O) (t : Tree) (path : List ℕ) (stop : Option Bool) (p : Place) → stop ≡ None → IsUtf8 path → at_path h t path ≢ None → Lands h t path stop p → is_free p ≡ true → A
lands_taken h t path (Some why) p whole text some lands free = absurd (cc)
lands_taken h t path None p whole text some lands free = sight_taken h t path lands.seen text some lands.sight_is (sym (ap is_free lands.place_is) ∙ free)

not_free_there : {A I O : Type 0} (h : Host I O) (path : List ℕ) (base : ℕ) (s mid : FileSystem) (p : Place) → Paves h path true mid base s → IsUtf8 path → at_path h mid.now path ≢ None → Stands h mid.now path base p → is_free p ≡ true → A
not_free_there h path base s mid p way text some stand free = lands_taken h mid.now path stand.stop p (paved_way h path true mid stand.stop refl base s way stand.goes) text some stand.lands free

some_none : (o : Option Found) (f : Found) → o ≡ Some f → o ≡ None → ⊥
some_none o f is none = absurd (cc)

module _ {I O : Type 0} (F : Type 0) (h : Host I O) (r : Reader I) (w : Writer O) (part path : List ℕ) (base : ℕ) (text : IsUtf8 part) where
  moves_if_free : (f : Found) (s mid tried : FileSystem) (naming : Naming) (after : FileSystem) → Paves h path true mid base s → IsUtf8 path → at_path h mid.now path ≢ None → tried ≡ mid → MovesIfFree (working_may h r w (may_do h)) (calls_of F h) part path base tried naming after → LandsPart h part path base true mid naming after
  moves_if_free f s mid tried naming after made fits some same (parts.not_free p finds nf is) =
      let stand : Stands h mid.now path base p = subst (λ (x : FileSystem). Stands h x.now path base p) same (stands {F = F} h path base tried p after finds) in
      was_there p refl fits some stand is (looking.finds (calls_of F h) (calls_quiet F h) path base tried p after finds ∙ same)
  moves_if_free f s mid tried naming after made fits some same (parts.free p looked finds nf moves) =
      let stand : Stands h mid.now path base p = subst (λ (x : FileSystem). Stands h x.now path base p) same (stands {F = F} h path base tried p looked finds) in
      not_free_there h path base s mid p made fits some stand nf

  gives_second : (f : Found) (s mid : FileSystem) (naming : Naming) (after : FileSystem) → at_path h mid.now part ≢ None → Paves h path true mid base s → GivesSecondName (working_may h r w (may_do h)) (calls_of F h) part path base mid naming after → LandsPart h part path base true mid naming after
  gives_second f s mid naming after has made (parts.no_part_text lacks is same) = absurd (lacks text)
  gives_second f s mid naming after has made (parts.no_text t lacks is same) = no_text refl lacks is same
  gives_second f s mid naming after has made (parts.linked t fits call is) = linked refl fits call.0 is
  gives_second f s mid naming after has made (parts.was_there e tried t fits call k (parts.found p finds is)) =
      let stand : Stands h mid.now path base p = subst (λ (x : FileSystem). Stands h x.now path base p) call.0 (stands {F = F} h path base tried p after finds) in
      was_there p refl fits (call.1 has) stand is (looking.finds (calls_of F h) (calls_quiet F h) path base tried p after finds ∙ call.0)
  gives_second f s mid naming after has made (parts.not_linked e tried t fits call k moves) = moves_if_free f s mid tried naming after made fits (call.1 has) call.0 moves

  gives_name : {modes : Modes} (f : Found) (p : Place) (s : FileSystem) (naming : Naming) (after : FileSystem) → at_path h s.now part ≡ Some f → Stands h s.now path base p → is_free p ≡ true → GivesName (working_may h r w (may_do h)) (calls_of F h) modes part path base s naming after → Gives h part path base s naming after
  gives_name f p s naming after at stand nf (parts.no_way e makes is) = was_free p false after stand nf (paves {F = F} h path base s (Err e) after makes) (no_way refl is refl)
  gives_name f p s naming after at stand nf (parts.on_its_way mid makes second) =
      let made : Paves h path true mid base s = paves {F = F} h path base s (Ok _) mid makes in
      let there : at_path h mid.now part ≡ Some f = (paves_keeps h path true mid base s made).there (path_place h part) f at in
      was_free p true mid stand nf made (gives_second f s mid naming after (λ none. some_none (at_path h mid.now part) f there none) made second)

  pub gives : {modes : Modes} (f : Found) (s : FileSystem) (naming : Naming) (after : FileSystem) → at_path h s.now part ≡ Some f → GivesFreeName (working_may h r w (may_do h)) (calls_of F h) modes part path base s naming after → Gives h part path base s naming after
  gives f s naming after at (instance.not_free p finds nf is) = not_free p (stands {F = F} h path base s p after finds) nf is (looking.finds (calls_of F h) (calls_quiet F h) path base s p after finds)
  gives {modes} f s naming after at (instance.free p looked finds nf name) =
      let same : looked ≡ s = looking.finds (calls_of F h) (calls_quiet F h) path base s p looked finds in
      gives_name f p s naming after at (stands {F = F} h path base s p looked finds) nf (subst (λ (x : FileSystem). GivesName (working_may h r w (may_do h)) (calls_of F h) modes part path base x naming after) same name)

-- ---- what is so of one

link_change : {I O : Type 0} (h : Host I O) (part path : List ℕ) (s after : FileSystem) (l : MakesLink h part path s after) → Changes (path_place h path) (Some l.linked) s.now after.now
link_change h part path s after l = record { there = l.puts.there; elsewhere = l.puts.elsewhere; bytes = λ other f is. l.bytes (number_of f) }

lands_keeps : {I O : Type 0} (h : Host I O) (part path : List ℕ) (base : ℕ) (has : Bool) (s : FileSystem) (naming : Naming) (after : FileSystem) → LandsPart h part path base has s naming after → Keeps s.now after.now
lands_keeps h part path base has s naming after (no_way n is same) = subst (λ (x : FileSystem). Keeps s.now x.now) (sym same) (all_kept s.now)
lands_keeps h part path base has s naming after (no_text n t is same) = subst (λ (x : FileSystem). Keeps s.now x.now) (sym same) (all_kept s.now)
lands_keeps h part path base has s naming after (linked n t l is) = new_keeps (path_place h path) (Some l.linked) s.now after.now l.nothing (link_change h part path s after l)
lands_keeps h part path base has s naming after (was_there p n t some stand is same) = subst (λ (x : FileSystem). Keeps s.now x.now) (sym same) (all_kept s.now)

pub gives_keeps : {I O : Type 0} (h : Host I O) (part path : List ℕ) (base : ℕ) (s : FileSystem) (naming : Naming) (after : FileSystem) → Gives h part path base s naming after → Keeps s.now after.now
gives_keeps h part path base s naming after (not_free p stand nf is same) = subst (λ (x : FileSystem). Keeps s.now x.now) (sym same) (all_kept s.now)
gives_keeps h part path base s naming after (was_free p has mid stand nf made lands) = then_keeps s.now mid.now after.now (paves_keeps h path has mid base s made) (lands_keeps h part path base has mid naming after lands)

lands_stay : {I O : Type 0} (h : Host I O) (part path : List ℕ) (base : ℕ) (has : Bool) (s : FileSystem) (naming : Naming) (after : FileSystem) → LandsPart h part path base has s naming after → is_moved naming ≡ false
lands_stay h part path base has s naming after (no_way n is same) = ap is_moved is
lands_stay h part path base has s naming after (no_text n t is same) = ap is_moved is
lands_stay h part path base has s naming after (linked n t l is) = ap is_moved is
lands_stay h part path base has s naming after (was_there p n t some stand is same) = ap is_moved is

-- the part is not moved
pub gives_stay : {I O : Type 0} (h : Host I O) (part path : List ℕ) (base : ℕ) (s : FileSystem) (naming : Naming) (after : FileSystem) → Gives h part path base s naming after → is_moved naming ≡ false
gives_stay h part path base s naming after (not_free p stand nf is same) = ap is_moved is
gives_stay h part path base s naming after (was_free p has mid stand nf made lands) = lands_stay h part path base has mid naming after lands

there_is : (naming : Naming) → is_there naming ≡ true → naming ≡ NotFree place.There
there_is Linked e = absurd (cc)
there_is Moved e = absurd (cc)
there_is Failed e = absurd (cc)
there_is (NotFree place.There) e = refl
there_is (NotFree place.Free) e = absurd (cc)
there_is (NotFree place.Barred) e = absurd (cc)

pub same_place : (p q : Place) → NotFree p ≡ NotFree q → p ≡ q
same_place p q e = cc

-- where nothing else changes the file system, what has the name stays
lands_freed : {I O : Type 0} (h : Host I O) (part path : List ℕ) (base : ℕ) (has : Bool) (s mid : FileSystem) (naming : Naming) (after : FileSystem) → Paves h path has mid base s → LandsPart h part path base has mid naming after → naming ≡ NotFree place.Free → ⊥
lands_freed h part path base has s mid naming after made (no_way n is same) free = absurd (cc)
lands_freed h part path base has s mid naming after made (no_text n t is same) free = absurd (cc)
lands_freed h part path base has s mid naming after made (linked n t l is) free = absurd (cc)
lands_freed h part path base has s mid naming after made (was_there p n t some stand is same) free =
    not_free_there h path base s mid p (subst (λ (b : Bool). Paves h path b mid base s) n made) t some stand (ap is_free (same_place p place.Free (sym is ∙ free)))

pub gives_freed : {I O : Type 0} (h : Host I O) (part path : List ℕ) (base : ℕ) (s : FileSystem) (naming : Naming) (after : FileSystem) → Gives h part path base s naming after → naming ≡ NotFree place.Free → ⊥
gives_freed h part path base s naming after (not_free p stand nf is same) free = true_false (is_free p) (ap is_free (same_place p place.Free (sym is ∙ free))) nf
gives_freed h part path base s naming after (was_free p has mid stand nf made lands) free = lands_freed h part path base has s mid naming after made lands free

not_there : {A : Type 0} (naming other : Naming) → naming ≡ other → naming ≡ NotFree place.There → other ≢ NotFree place.There → A
not_there naming other is there not = absurd (not (sym is ∙ there))

stand_file : {I O : Type 0} (h : Host I O) (path : List ℕ) (base : ℕ) (s : FileSystem) (p : Place) (naming : Naming) (after : FileSystem) → Stands h s.now path base p → naming ≡ NotFree p → after ≡ s → naming ≡ NotFree place.There → IsFileAt h after.now path
stand_file h path base s p naming after stand is same there =
    subst (λ (x : FileSystem). IsFileAt h x.now path) (sym same) (stands_there h s.now path base (subst (Stands h s.now path base) (same_place p place.There (sym is ∙ there)) stand))

lands_file : {I O : Type 0} (h : Host I O) (part path : List ℕ) (base : ℕ) (has : Bool) (s : FileSystem) (naming : Naming) (after : FileSystem) → LandsPart h part path base has s naming after → naming ≡ NotFree place.There → IsFileAt h after.now path
lands_file h part path base has s naming after (no_way n is same) there = not_there naming Failed is there (λ e. absurd (cc))
lands_file h part path base has s naming after (no_text n t is same) there = not_there naming Failed is there (λ e. absurd (cc))
lands_file h part path base has s naming after (linked n t l is) there = not_there naming Linked is there (λ e. absurd (cc))
lands_file h part path base has s naming after (was_there p n t some stand is same) there = stand_file h path base s p naming after stand is same there

pub gives_file : {I O : Type 0} (h : Host I O) (part path : List ℕ) (base : ℕ) (s : FileSystem) (naming : Naming) (after : FileSystem) → Gives h part path base s naming after → is_there naming ≡ true → IsFileAt h after.now path
gives_file h part path base s naming after (not_free p stand nf is same) there = stand_file h path base s p naming after stand is same (there_is naming there)
gives_file h part path base s naming after (was_free p has mid stand nf made lands) there = lands_file h part path base has mid naming after lands (there_is naming there)

-- ---- two of them

pub record NamedAlike {I O : Type 0} (h : Host I O) (output : List ℕ) (one other : Naming) (v w : FileSystem) : Type 0 where
  pub naming : one ≡ other
  pub same : SameOutputs h output v.now w.now

both_stay : {I O : Type 0} (h : Host I O) (output : List ℕ) (one other : Naming) (s u v w : FileSystem) → one ≡ other → SameOutputs h output s.now u.now → v ≡ s → w ≡ u → NamedAlike h output one other v w
both_stay h output one other s u v w naming same first second = record {
  naming = naming;
  same = subst (λ (x : FileSystem). SameOutputs h output x.now w.now) (sym first) (subst (λ (x : FileSystem). SameOutputs h output s.now x.now) (sym second) same);
}

none_both : (t u : Tree) (a b : Option Found) → AlikeAt t u a b → a ≡ None → b ≡ None
none_both t u None None alike is = refl
none_both t u (Some f) b alike is = absurd (cc)
none_both t u None (Some g) alike is = absurd alike

-- how the path of an output lies
pub record IsPlaced (output part path : List ℕ) (base : ℕ) : Type 0 where
  pub part_of : IsOfOutput output part
  pub path_of : IsOfOutput output path
  pub way_of : OfOutputOn output path base

lands_once : {I O : Type 0} (h : Host I O) (output part path : List ℕ) (base : ℕ) (one other : Bool) (s u : FileSystem) (n k : Naming) (v w : FileSystem) → IsPlaced output part path base → one ≡ other → SameOutputs h output s.now u.now → LandsPart h part path base one s n v → LandsPart h part path base other u k w
    → NamedAlike h output n k v w
lands_once h output part path base one other s u n k v w x has same (no_way a is at) (no_way b e f) = both_stay h output n k s u v w (is ∙ sym e) same at f
lands_once h output part path base one other s u n k v w x has same (no_way a is at) (no_text b lacks e f) = true_false one (has ∙ b) a
lands_once h output part path base one other s u n k v w x has same (no_way a is at) (linked b t m e) = true_false one (has ∙ b) a
lands_once h output part path base one other s u n k v w x has same (no_way a is at) (was_there q b t some stand e f) = true_false one (has ∙ b) a
lands_once h output part path base one other s u n k v w x has same (no_text a not is at) (no_way b e f) = true_false other (sym has ∙ a) b
lands_once h output part path base one other s u n k v w x has same (no_text a not is at) (no_text b lacks e f) = both_stay h output n k s u v w (is ∙ sym e) same at f
lands_once h output part path base one other s u n k v w x has same (no_text a not is at) (linked b t m e) = absurd (not t)
lands_once h output part path base one other s u n k v w x has same (no_text a not is at) (was_there q b t some stand e f) = absurd (not t)
lands_once h output part path base one other s u n k v w x has same (linked a t l is) (no_way b e f) = true_false other (sym has ∙ a) b
lands_once h output part path base one other s u n k v w x has same (linked a t l is) (no_text b lacks e f) = absurd (lacks t)
lands_once h output part path base one other s u n k v w x has same (linked a t l is) (linked b fits m e) =
    let was : AlikeAt s.now u.now (Some l.linked) (Some m.linked) = alike_as s.now u.now (at_path h s.now part) (at_path h u.now part) (Some l.linked) (Some m.linked) (same part x.part_of) (sym l.was) (sym m.was) in
    record {
      naming = is ∙ sym e;
      same = both_change h output path s.now u.now v.now w.now (Some l.linked) (Some m.linked) same (link_change h part path s v l) (link_change h part path u w m)
          (alike_kept s.now u.now v.now w.now (Some l.linked) (Some m.linked) (λ f at. l.bytes (number_of f)) (λ f at. m.bytes (number_of f)) was);
    }
lands_once h output part path base one other s u n k v w x has same (linked a t l is) (was_there q b fits some stand e f) = absurd (some (none_both s.now u.now (at_path h s.now path) (at_path h u.now path) (same path x.path_of) l.nothing))
lands_once h output part path base one other s u n k v w x has same (was_there p a t some stand is at) (no_way b e f) = true_false other (sym has ∙ a) b
lands_once h output part path base one other s u n k v w x has same (was_there p a t some stand is at) (no_text b lacks e f) = absurd (lacks t)
lands_once h output part path base one other s u n k v w x has same (was_there p a t some stand is at) (linked b fits m e) =
    absurd (some (none_both u.now s.now (at_path h u.now path) (at_path h s.now path) (alike_back s.now u.now (at_path h s.now path) (at_path h u.now path) (same path x.path_of)) m.nothing))
lands_once h output part path base one other s u n k v w x has same (was_there p a t some stand is at) (was_there q b fits others there e f) =
    let place_is : p ≡ q = stands_once h s.now u.now path base p q (λ at size least lies. same _ (x.way_of at size least lies)) (same path x.path_of) stand there in
    both_stay h output n k s u v w (is ∙ ap NotFree place_is ∙ sym e) same at f

pub gives_once : {I O : Type 0} (h : Host I O) (output part path : List ℕ) (base : ℕ) (s u : FileSystem) (n k : Naming) (v w : FileSystem) → IsPlaced output part path base → SameOutputs h output s.now u.now → Gives h part path base s n v → Gives h part path base u k w → NamedAlike h output n k v w
gives_once h output part path base s u n k v w x same (not_free p stand nf is at) (not_free q there lacks e f) =
    let place_is : p ≡ q = stands_once h s.now u.now path base p q (λ at size least lies. same _ (x.way_of at size least lies)) (same path x.path_of) stand there in
    both_stay h output n k s u v w (is ∙ ap NotFree place_is ∙ sym e) same at f
gives_once h output part path base s u n k v w x same (not_free p stand nf is at) (was_free q has mid there its made lands) =
    let place_is : p ≡ q = stands_once h s.now u.now path base p q (λ at size least lies. same _ (x.way_of at size least lies)) (same path x.path_of) stand there in
    true_false (is_free p) (ap is_free place_is ∙ its) nf
gives_once h output part path base s u n k v w x same (was_free p has mid stand nf made lands) (not_free q there lacks e f) =
    let place_is : p ≡ q = stands_once h s.now u.now path base p q (λ at size least lies. same _ (x.way_of at size least lies)) (same path x.path_of) stand there in
    true_false (is_free p) nf (ap is_free place_is ∙ lacks)
gives_once h output part path base s u n k v w x same (was_free p one mid stand nf made lands) (was_free q other between there its others ends) =
    let way : Onward h output one other mid between = paves_once h output path base one other mid between x.way_of base s u (omega arith) same made others in
    lands_once h output part path base one other mid between n k v w x way.has way.same lands ends

-- ---- the file that is there

-- one that is compared with these bytes
pub record Copied {I O : Type 0} (h : Host I O) (path held : List ℕ) (s : FileSystem) (naming : Naming) (same : Bool) : Type 0 where
  pub none : is_there naming ≡ false → same ≡ false
  pub file : is_there naming ≡ true → IsFileAt h s.now path
  pub then : (f : Found) → is_there naming ≡ true → at_path h s.now path ≡ Some f → same ≡ true → s.now.bytes (number_of f) ≡ held
  pub back : (f : Found) → is_there naming ≡ true → at_path h s.now path ≡ Some f → s.now.bytes (number_of f) ≡ held → same ≡ true

gave_same : {first second : List ℕ} {first_how second_how : How} (same : Bool) → same ≡ true → bytes.Answers first first_how second second_how same → bytes.GaveTheSame first first_how second second_how
gave_same true is answer = answer
gave_same false is answer = absurd (cc)

all_given : {I O : Type 0} (h : Host I O) (input : I) (given : List ℕ) (how : How) → Left h input given how → how ≡ to_end → h.holds input ≡ given
all_given h input given how left is =
    let none : left.rest ≡ [] = subst (λ (x : How). Allows x left.rest) is left.allowed in
    left.whole ∙ ap (λ (rest : List ℕ). given ++ rest) none ∙ append-nil given

-- two files that are found the same have the same bytes
compared_alike : {I O : Type 0} (h : Host I O) (r : Reader I) (w : Writer O) → GivesAll h (as_whole h r) w → (first second : List ℕ) (s : FileSystem) (same : Bool) (after : FileSystem) → IsUtf8 first → IsUtf8 second → (f : FileAt h Followed s.now first) → (g : FileAt h Followed s.now second)
    → ComparesFiles (working_may h r w (may_do h)) (as_whole h r) first second s same after → same ≡ true → s.now.bytes (number_of f.file) ≡ s.now.bytes (number_of g.file)
compared_alike h r w all first second s same after text too f g (instance.no_first opens is) so = true_false same so is
compared_alike h r w all first second s same after text too f g (instance.no_second one mid tried opens fails back is) so = true_false same so is
compared_alike h r w all first second s same after text too f g (instance.both one other mid opened opens others c) so =
    let x : IsOpened h r (s.now.bytes (number_of f.file)) one s mid = is_opened h r w first s one mid text f opens in
    let y : IsOpened h r (s.now.bytes (number_of g.file)) other s opened = is_opened h r w second s other opened too g (subst (λ (t : FileSystem). OpensFile (working_may h r w (may_do h)) second t (Some other) opened) x.same others) in
    let z = c.compared in
    let gave : bytes.GaveTheSame z.first z.first_how z.second z.second_how = gave_same same so z.answer_is in
    sym x.holds
    ∙ all_given h one z.first z.first_how (reads_left h (as_whole h r) w all (bytes.InFront z.second) one c.first_left z.first z.first_how z.reads_first) gave.first_end
    ∙ gave.same
    ∙ sym (all_given h other z.second z.second_how (reads_left h (as_whole h r) w all (bytes.InFront z.first) other c.second_left z.second z.second_how z.reads_second) gave.second_end)
    ∙ y.holds

bytes_by : {I O : Type 0} (h : Host I O) (t : Tree) (path : List ℕ) (f g : Found) → at_path h t path ≡ Some f → at_path h t path ≡ Some g → t.bytes (number_of f) ≡ t.bytes (number_of g)
bytes_by h t path f g a b = ap (λ (x : Found). t.bytes (number_of x)) (one_value (at_path h t path) f g a b)

followed : {I O : Type 0} (h : Host I O) (t : Tree) (path : List ℕ) (f : IsFileAt h t path) → h.leads Followed path ≡ path_place h path → FileAt h Followed t path
followed h t path f leads = record { file = f.found; is = ap t.at leads ∙ f.is; kind = f.kind }

-- of the bytes of the part
pub copied : {I O : Type 0} (h : Host I O) (r : Reader I) (w : Writer O) (part path held : List ℕ) (s : FileSystem) (naming : Naming) (same : Bool) (after : FileSystem) → GivesAll h (as_whole h r) w → IsUtf8 part → (p : FileAt h Followed s.now part) → s.now.bytes (number_of p.file) ≡ held → length held ≤ INPUT_LIMIT
    → (is_there naming ≡ true → IsFileAt h s.now path) → (IsFileAt h s.now path → h.leads Followed path ≡ path_place h path) → FindsCopy (working_may h r w (may_do h)) (as_whole h r) naming part path s same after → Copied h path held s naming same
unfolding followed
copied h r w part path held s naming same after all text p part_is fits file leads (instance.not_there none is stays) = record {
  none = λ e. is;
  file = file;
  then = λ f there at so. true_false same so is;
  back = λ f there at so. true_false (is_there naming) there none;
}
copied h r w part path held s naming same after all text p part_is fits file leads (instance.compared there c) =
    let f : IsFileAt h s.now path = file there in
    let g : FileAt h Followed s.now path = followed h s.now path f (leads f) in
    record {
      none = λ e. true_false (is_there naming) there e;
      file = file;
      then = λ x is at so. bytes_by h s.now path x f.found at f.is ∙ sym (compared_alike h r w all part path s same after text f.text p g c so) ∙ part_is;
      back = λ x is at so. compared_same h r w all part path s same after held text f.text p g part_is (bytes_by h s.now path f.found x f.is at ∙ so) fits c;
    }

both_bools : (one other : Bool) → (one ≡ true → other ≡ true) → (other ≡ true → one ≡ true) → one ≡ other
both_bools true true first second = refl
both_bools true false first second = sym (first refl)
both_bools false true first second = second refl
both_bools false false first second = refl

copied_by : {I O : Type 0} (h : Host I O) (output path held : List ℕ) (v w : FileSystem) (n k : Naming) (there : Bool) (one other : Bool) → is_there n ≡ there → is_there k ≡ there → IsOfOutput output path → SameOutputs h output v.now w.now → Copied h path held v n one → Copied h path held w k other → one ≡ other
copied_by h output path held v w n k false one other n_is k_is of_output same x y = x.none n_is ∙ sym (y.none k_is)
copied_by h output path held v w n k true one other n_is k_is of_output same x y =
    let f : IsFileAt h v.now path = x.file n_is in
    let g : IsFileAt h w.now path = y.file k_is in
    let alike : AreAlike v.now w.now f.found g.found = alike_some v.now w.now (at_path h v.now path) (at_path h w.now path) f.found g.found (same path of_output) f.is g.is in
    let one_bytes : v.now.bytes (number_of f.found) ≡ w.now.bytes (number_of g.found) = (alike.1 f.kind).1 in
    both_bools one other (λ so. y.back g.found k_is g.is (sym one_bytes ∙ x.then f.found n_is f.is so)) (λ so. x.back f.found n_is f.is (one_bytes ∙ y.then g.found k_is g.is so))

pub copied_once : {I O : Type 0} (h : Host I O) (output path held : List ℕ) (v w : FileSystem) (n k : Naming) (one other : Bool) → IsOfOutput output path → NamedAlike h output n k v w → Copied h path held v n one → Copied h path held w k other → one ≡ other
copied_once h output path held v w n k one other of_output named x y = copied_by h output path held v w n k (is_there n) one other refl (ap is_there (sym named.naming)) of_output named.same x y
