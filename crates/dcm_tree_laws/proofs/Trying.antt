-- A part that is made before the first name of a run, to be looked at.
use Rattle.std.proofs.Common.{◌≡◌, ◌∙◌, refl, sym, ap, subst, ◌⊎◌, inl, inr, ℕ, List, Bool, true, false, Option, Some, None, Result, Ok, Err}
use Rattle.std.specs.Prelude.{◌≢◌}
use Rattle.std.specs.Str.{IsUtf8}
use Rattle.dcm_lemmas.proofs.Options.{some_same}
use Rattle.dcm_files.specs.Devices.{MayDo}
use Rattle.dcm_files.specs.Folders.{FoldersDo}
use Rattle.dcm_files.specs.declared.folders.Found.{Found}
use Rattle.dcm_trees.specs.declared.beginning.Refusal.{Refusal}
use Rattle.dcm_trees.specs.declared.part.NoPart.{NoPart}
use Rattle.dcm_trees.specs.Letters as spec
use Rattle.dcm_trees.specs.Letters.{MakesClosed, RemovesOwn, RemovesMade, IsOneName, OWN_MODE}
use Rattle.dcm_trees.specs.Part as parts
use Rattle.dcm_trees.specs.Part.{MakesPart}
use Rattle.dcm_tree_laws.specs.FileSystem.{FileSystem, Tree, Number, Host, number_of, place_of, at_path, SameNames, MakesFile, TakesPieces, no_piece, and_piece, ClosesOutput, Removes, IsHeldAt, Holds, held_there, not_there, not_seen}
use Rattle.dcm_tree_laws.proofs.Clearing.{FoldersOver, InputsOver}
use Rattle.dcm_tree_laws.proofs.Looking.{looks}
use Rattle.dcm_tree_laws.proofs.Steps.{idle, StepsIn, part_made, not_filled, removed, not_removed, goes_on, one, quiet}

-- ---- an output that is closed

pieces_at : (n : Number) (all : List ℕ) (before after : FileSystem) → TakesPieces n all before after → SameNames before.now after.now
pieces_at n all before after (no_piece e) = λ place. ap (λ (s : FileSystem). s.now.at place) e
pieces_at n all before after (and_piece mid front rest more is t) = λ place. t.names place ∙ pieces_at n all before mid more place

pub closes_at : (now : Option Number) (all kept : List ℕ) (before after : FileSystem) → ClosesOutput now all kept before after → SameNames before.now after.now
closes_at (Some n) all kept before after c = λ place. c.names place ∙ pieces_at n all before c.last c.pieces place
closes_at None all kept before after c = λ place. ap (λ (s : FileSystem). s.now.at place) c

pieces_held : (n : Number) (all : List ℕ) (before after : FileSystem) → TakesPieces n all before after → (after.held ≡ before.held) × (after.unremoved ≡ before.unremoved)
pieces_held n all before after (no_piece e) = (ap (λ (s : FileSystem). s.held) e, ap (λ (s : FileSystem). s.unremoved) e)
pieces_held n all before after (and_piece mid front rest more is t) =
    let x : (mid.held ≡ before.held) × (mid.unremoved ≡ before.unremoved) = pieces_held n all before mid more in
    (t.held_is ∙ x.0, t.notes.unremoved_is ∙ x.1)

pub closes_held : (now : Option Number) (all kept : List ℕ) (before after : FileSystem) → ClosesOutput now all kept before after → (after.held ≡ before.held) × (after.unremoved ≡ before.unremoved)
closes_held (Some n) all kept before after c =
    let x : (c.last.held ≡ before.held) × (c.last.unremoved ≡ before.unremoved) = pieces_held n all before c.last c.pieces in
    (c.held_is ∙ x.0, c.notes.unremoved_is ∙ x.1)
closes_held None all kept before after c = (ap (λ (s : FileSystem). s.held) c, ap (λ (s : FileSystem). s.unremoved) c)

others : (n m : Number) (a b : List ℕ) → m ≢ n → (m ≡ n) ⊎ (a ≡ b) → a ≡ b
others n m a b differ (inl e) = absurd (differ e)
others n m a b differ (inr e) = e

pieces_bytes : (n m : Number) (all : List ℕ) (before after : FileSystem) → m ≢ n → TakesPieces n all before after → after.now.bytes m ≡ before.now.bytes m
pieces_bytes n m all before after differ (no_piece e) = ap (λ (s : FileSystem). s.now.bytes m) e
pieces_bytes n m all before after differ (and_piece mid front rest more is t) = others n m (after.now.bytes m) (mid.now.bytes m) differ (t.fills.others m) ∙ pieces_bytes n m all before mid differ more

closes_bytes : (now : Option Number) (n m : Number) (all kept : List ℕ) (before after : FileSystem) → now ≡ Some n → m ≢ n → ClosesOutput now all kept before after → (after.now.bytes m ≡ before.now.bytes m) × (after.written ≡ None)
closes_bytes (Some k) n m all kept before after is differ c =
    let other : m ≢ k = λ e. differ (e ∙ some_same k n is) in
    (others k m (after.now.bytes m) (c.last.now.bytes m) other (c.fills.others m) ∙ pieces_bytes k m all before c.last other c.pieces, c.notes.written_is)
closes_bytes None n m all kept before after is differ c = absurd (cc)

closes_none : (now : Option Number) (n : Number) (all kept : List ℕ) (before after : FileSystem) → now ≡ Some n → ClosesOutput now all kept before after → after.written ≡ None
closes_none (Some k) n all kept before after is c = c.notes.written_is
closes_none None n all kept before after is c = absurd (cc)

-- ---- a part that was made, and closed

pub record Tried {I O : Type 0} (h : Host I O) (part : List ℕ) (before after : FileSystem) : Type 0 where
  pub mode : ℕ
  pub made : FileSystem
  pub all : List ℕ
  pub kept : List ℕ
  pub makes : MakesFile h part mode before made
  pub closes : ClosesOutput made.written all kept made after

pub tried_there : {I O : Type 0} {h : Host I O} {part : List ℕ} {before after : FileSystem} (t : Tried h part before after) → at_path h after.now part ≡ Some t.makes.made
tried_there {I} {O} {h} {part} {before} {after} t = closes_at t.made.written t.all t.kept t.made after t.closes (place_of h part) ∙ t.makes.puts.there

pub tried_none : {I O : Type 0} {h : Host I O} {part : List ℕ} {before after : FileSystem} (t : Tried h part before after) → after.written ≡ None
tried_none {after = after} t = closes_none t.made.written (number_of t.makes.made) t.all t.kept t.made after t.makes.notes.written_is t.closes

pub tried_unremoved : {I O : Type 0} {h : Host I O} {part : List ℕ} {before after : FileSystem} (t : Tried h part before after) → after.unremoved ≡ before.unremoved
tried_unremoved {after = after} t = (closes_held t.made.written t.all t.kept t.made after t.closes).1 ∙ t.makes.notes.unremoved_is

pub tried_held : {I O : Type 0} {h : Host I O} {part : List ℕ} {before after : FileSystem} (t : Tried h part before after) → IsHeldAt h after part
tried_held {after = after} t = record {
  found = t.makes.made;
  is = tried_there t;
  held_is = (closes_held t.made.written t.all t.kept t.made after t.closes).0 ∙ t.makes.held_is;
}

behind : {A : Type 0} (place at : List ℕ) (x y z : A) → x ≡ y → (place ≡ at) ⊎ (y ≡ z) → (place ≡ at) ⊎ (x ≡ z)
behind place at x y z e (inl is) = inl is
behind place at x y z e (inr f) = inr (e ∙ f)

pub tried_elsewhere : {I O : Type 0} {h : Host I O} {part : List ℕ} {before after : FileSystem} (t : Tried h part before after) (place : List ℕ) → (place ≡ place_of h part) ⊎ (after.now.at place ≡ before.now.at place)
tried_elsewhere {I} {O} {h} {part} {before} {after} t place =
    behind place (place_of h part) (after.now.at place) (t.made.now.at place) (before.now.at place) (closes_at t.made.written t.all t.kept t.made after t.closes place) (t.makes.puts.elsewhere place)

pub tried_bytes : {I O : Type 0} {h : Host I O} {part : List ℕ} {before after : FileSystem} (t : Tried h part before after) (place : List ℕ) (f : Found) → before.now.at place ≡ Some f → after.now.bytes (number_of f) ≡ before.now.bytes (number_of f)
tried_bytes {I} {O} {h} {part} {before} {after} t place f is =
    let n : Number = number_of t.makes.made in
    let m : Number = number_of f in
    let differ : m ≢ n = t.makes.fresh place f is in
    (closes_bytes t.made.written n m t.all t.kept t.made after t.makes.notes.written_is differ t.closes).0 ∙ others n m (t.made.now.bytes m) (before.now.bytes m) differ (t.makes.empty.others m)

-- ---- what becomes of it

-- all is as it was; or a part was made, and removed
pub data TriedWell {I O : Type 0} (h : Host I O) (part : List ℕ) (before after : FileSystem) : Type 0 where
  still : after ≡ before → TriedWell h part before after
  gone : (closed : FileSystem) → Tried h part before closed → Removes h part closed after → TriedWell h part before after

-- or it stays, and that is noted
pub data Trying {I O : Type 0} (h : Host I O) (part : List ℕ) (before after : FileSystem) : Type 0 where
  well : TriedWell h part before after → Trying h part before after
  stays : (closed : FileSystem) → Tried h part before closed → after ≡ record closed { unremoved = true } → Trying h part before after

pub trying_steps : {I O : Type 0} (h : Host I O) (IsWhole : ℕ → List ℕ → Type 0) (part : List ℕ) (Of : List ℕ → Type 0) (before after : FileSystem) → Trying h part before after → StepsIn h IsWhole part Of idle before idle after
trying_steps h IsWhole part Of before after (well (still same)) = quiet same
trying_steps h IsWhole part Of before after (well (gone closed t removes)) =
    goes_on (goes_on (one (part_made t.mode refl t.makes refl)) (one (not_filled (h.masked t.mode) t.all t.kept refl t.closes refl))) (one (removed refl removes refl))
trying_steps h IsWhole part Of before after (stays closed t is) =
    goes_on (goes_on (one (part_made t.mode refl t.makes refl)) (one (not_filled (h.masked t.mode) t.all t.kept refl t.closes refl))) (one (not_removed closed.held refl is refl))

from_held : (a b : FileSystem) → b ≡ a → (c : FileSystem) → c ≡ record b { unremoved = true } → c ≡ record a { unremoved = true }
from_held a b same c is = is ∙ ap (λ (s : FileSystem). record s { unremoved = true }) same

module _ {I O F : Type 0} (h : Host I O) (may : MayDo FileSystem I O) (inputs : InputsOver h may) (d : FoldersDo FileSystem O F) (folders : FoldersOver h d) where
  -- what is held is seen, and else that is noted
  held_same : (path : List ℕ) (before after : FileSystem) → Holds h path before true after → after ≡ before
  held_same path before after (held_there is at same) = same
  held_same path before after (not_there is not same) = absurd (cc)
  held_same path before after (not_seen is noted) = absurd (cc)

  held_noted : (path : List ℕ) (before after : FileSystem) → IsHeldAt h before path → Holds h path before false after → after ≡ record before { unremoved = true }
  held_noted path before after at (held_there is at_it same) = absurd (cc)
  held_noted path before after at (not_there is not same) = absurd (not at)
  held_noted path before after at (not_seen is noted) = noted

  own_removed : (part : List ℕ) (before closed : FileSystem) → Tried h part before closed → (r : Result (Unit {0}) Refusal) (after : FileSystem) → RemovesOwn may part closed r after → Trying h part before after
  own_removed part before closed t r after (spec.of_another call is) = stays closed t (held_noted part closed after (tried_held t) (inputs.holds closed part false after call))
  own_removed part before closed t r after (spec.its_own mid call (spec.removed removes is)) =
      well (gone closed t (subst (λ (s : FileSystem). Removes h part s after) (held_same part closed mid (inputs.holds closed part true mid call)) (inputs.removes mid part (Ok _) after removes)))
  own_removed part before closed t r after (spec.its_own mid call (spec.not_removed e removes is)) =
      stays closed t (from_held closed mid (held_same part closed mid (inputs.holds closed part true mid call)) after (inputs.removes mid part (Err e) after removes))

  own_gone : (part : List ℕ) (before closed : FileSystem) → Tried h part before closed → (after : FileSystem) → RemovesOwn may part closed (Ok _) after → TriedWell h part before after
  own_gone part before closed t after (spec.of_another call is) = absurd (cc)
  own_gone part before closed t after (spec.its_own mid call (spec.removed removes is)) =
      gone closed t (subst (λ (s : FileSystem). Removes h part s after) (held_same part closed mid (inputs.holds closed part true mid call)) (inputs.removes mid part (Ok _) after removes))
  own_gone part before closed t after (spec.its_own mid call (spec.not_removed e removes is)) = absurd (cc)

  made_removed : (part : List ℕ) → IsUtf8 part → (before closed : FileSystem) → Tried h part before closed → (r : Result (Unit {0}) Refusal) (after : FileSystem) → RemovesMade may part closed r after → Trying h part before after
  made_removed part text before closed t r after (spec.no_text lacks is same) = absurd (lacks text)
  made_removed part text before closed t r after (spec.by_path u own) = own_removed part before closed t r after own

  made_gone : (part : List ℕ) → IsUtf8 part → (before closed : FileSystem) → Tried h part before closed → (after : FileSystem) → RemovesMade may part closed (Ok _) after → TriedWell h part before after
  made_gone part text before closed t after (spec.no_text lacks is same) = absurd (cc)
  made_gone part text before closed t after (spec.by_path u own) = own_gone part before closed t after own

  -- ---- it is made

  part_not : (part : List ℕ) (before : FileSystem) (cause : NoPart) (after : FileSystem) → MakesPart d part OWN_MODE before (Err cause) after → after ≡ before
  part_not part before cause after (parts.no_text t is same) = same
  part_not part before cause after (parts.made opened t call is) = absurd (cc)
  part_not part before cause after (parts.is_there e t call k is) = folders.makes_as before part OWN_MODE (Err e) after call
  part_not part before cause after (parts.no_memory e t call k is) = folders.makes_as before part OWN_MODE (Err e) after call
  part_not part before cause after (parts.not_made e t call k m is) = folders.makes_as before part OWN_MODE (Err e) after call

  part_is : (part : List ℕ) (before : FileSystem) (o : O) (after : FileSystem) → MakesPart d part OWN_MODE before (Ok o) after → MakesFile h part OWN_MODE before after × IsUtf8 part
  part_is part before o after (parts.no_text t is same) = absurd (cc)
  part_is part before o after (parts.made opened t call is) = (folders.makes_as before part OWN_MODE (Ok opened) after call, t)
  part_is part before o after (parts.is_there e t call k is) = absurd (cc)
  part_is part before o after (parts.no_memory e t call k is) = absurd (cc)
  part_is part before o after (parts.not_made e t call k m is) = absurd (cc)

  closed_not : (part : List ℕ) (before : FileSystem) (refusal : Refusal) (after : FileSystem) → MakesClosed may d part before (Err refusal) after → after ≡ before
  closed_not part before refusal after (spec.not_made cause m is) = part_not part before cause after m
  closed_not part before refusal after (spec.made output mid m c is) = absurd (cc)

  closed_is : (part : List ℕ) (before after : FileSystem) → MakesClosed may d part before (Ok _) after → Tried h part before after × IsUtf8 part
  closed_is part before after (spec.not_made cause m is) = absurd (cc)
  closed_is part before after (spec.made output mid m c is) =
      let x : MakesFile h part OWN_MODE before mid × IsUtf8 part = part_is part before output mid m in
      let y : (all : List ℕ) × (kept : List ℕ) × ClosesOutput mid.written all kept mid after = inputs.closes mid output c.answer after c.call in
      (record { mode = OWN_MODE; made = mid; all = y.0; kept = y.1; makes = x.0; closes = y.2 }, x.1)

  pub one_name_trying : (part capitals : List ℕ) (before : FileSystem) (r : Result Bool Refusal) (after : FileSystem) → IsOneName may d part capitals before r after → Trying h part before after
  one_name_trying part capitals before r after (spec.not_made refusal m is) = well (still (closed_not part before refusal after m))
  one_name_trying part capitals before r after (spec.not_removed own other refusal made mid looked m l k rm is) =
      let x : Tried h part before made × IsUtf8 part = closed_is part before made m in
      made_removed part x.1 before made x.0 (Err refusal) after
      (subst (λ (s : FileSystem). RemovesMade may part s (Err refusal) after) (looks d folders.quiet capitals mid other looked k ∙ looks d folders.quiet part made own mid l) rm)
  one_name_trying part capitals before r after (spec.was_looked own other made mid looked m l k rm is) =
      let x : Tried h part before made × IsUtf8 part = closed_is part before made m in
      made_removed part x.1 before made x.0 (Ok _) after
      (subst (λ (s : FileSystem). RemovesMade may part s (Ok _) after) (looks d folders.quiet capitals mid other looked k ∙ looks d folders.quiet part made own mid l) rm)

  pub one_name_well : (part capitals : List ℕ) (before : FileSystem) (is_one : Bool) (after : FileSystem) → IsOneName may d part capitals before (Ok is_one) after → TriedWell h part before after
  one_name_well part capitals before is_one after (spec.not_made refusal m is) = absurd (cc)
  one_name_well part capitals before is_one after (spec.not_removed own other refusal made mid looked m l k rm is) = absurd (cc)
  one_name_well part capitals before is_one after (spec.was_looked own other made mid looked m l k rm is) =
      let x : Tried h part before made × IsUtf8 part = closed_is part before made m in
      made_gone part x.1 before made x.0 after
      (subst (λ (s : FileSystem). RemovesMade may part s (Ok _) after) (looks d folders.quiet capitals mid other looked k ∙ looks d folders.quiet part made own mid l) rm)

-- ---- behind a look

pub from_same : {I O : Type 0} {h : Host I O} {part : List ℕ} {before mid after : FileSystem} → mid ≡ before → Trying h part mid after → Trying h part before after
from_same {I} {O} {h} {part} {before} {mid} {after} same t = subst (λ (s : FileSystem). Trying h part s after) same t

pub well_from : {I O : Type 0} {h : Host I O} {part : List ℕ} {before mid after : FileSystem} → mid ≡ before → TriedWell h part mid after → TriedWell h part before after
well_from {I} {O} {h} {part} {before} {mid} {after} same t = subst (λ (s : FileSystem). TriedWell h part s after) same t
