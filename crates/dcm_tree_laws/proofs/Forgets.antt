-- Steps do not depend on what was noted before them.
use Rattle.std.proofs.Common.{◌≡◌, refl, ap, subst, ℕ, List, [], ◌∷◌, Option, Some, None}
use Rattle.dcm_tree_laws.specs.FileSystem.{FileSystem, Tree, Number, Host, Notes, TakesPieces, no_piece, and_piece, ClosesOutput, MovesWhat, a_file, same_file, a_folder}
use Rattle.dcm_tree_laws.proofs.Near.{IsNear}
use Rattle.dcm_tree_laws.proofs.Both.{Both, after_steps}
use Rattle.dcm_tree_laws.proofs.Steps.{Phase, idle, Step, folder, part_made, filled, not_filled, named, moved, removed, left, not_removed, Steps, no_step, and_step}

-- with these noted in the place of what was
abbrev pub with_past : List Tree → FileSystem → FileSystem
with_past past s = record { now = s.now; earlier = past; written = s.written; held = s.held; unremoved = s.unremoved }

notes_past : (w : Option Number) (past : List Tree) (before after : FileSystem) → Notes w before after → Notes w (with_past past before) (with_past (before.now ∷ past) after)
notes_past w past before after n = record { noted = refl; written_is = n.written_is; unremoved_is = n.unremoved_is }

pieces_past : (n : Number) (all : List ℕ) (past : List Tree) (before after : FileSystem) → TakesPieces n all before after → (more : List Tree) × TakesPieces n all (with_past past before) (with_past more after)
pieces_past n all past before after (no_piece e) = (past, no_piece (ap (with_past past) e))
pieces_past n all past before after (and_piece mid front rest pieces is t) =
    let x : (more : List Tree) × TakesPieces n all (with_past past before) (with_past more mid) = pieces_past n all past before mid pieces in
    (mid.now ∷ x.0, and_piece (with_past x.0 mid) front rest x.1 is (record { fills = t.fills; names = t.names; notes = notes_past (Some n) x.0 mid after t.notes; held_is = t.held_is }))

closes_past : (now : Option Number) (all kept : List ℕ) (past : List Tree) (before after : FileSystem) → ClosesOutput now all kept before after → (more : List Tree) × ClosesOutput now all kept (with_past past before) (with_past more after)
closes_past (Some n) all kept past before after c =
    let x : (more : List Tree) × TakesPieces n all (with_past past before) (with_past more c.last) = pieces_past n all past before c.last c.pieces in
    (c.last.now ∷ x.0, record { last = with_past x.0 c.last; pieces = x.1; fills = c.fills; names = c.names; notes = notes_past None x.0 c.last after c.notes; held_is = c.held_is })
closes_past None all kept past before after c = (past, ap (with_past past) c)

moves_past : {I O : Type 0} (h : Host I O) (from to : List ℕ) (past : List Tree) (before after : FileSystem) → MovesWhat h from to before after → (more : List Tree) × MovesWhat h from to (with_past past before) (with_past more after)
moves_past h from to past before after (a_file m) =
    (before.now ∷ past, a_file (record { moved = m.moved; was = m.was; way = m.way; there = m.there; gone = m.gone; elsewhere = m.elsewhere; bytes = m.bytes; notes = notes_past before.written past before after m.notes; held_is = m.held_is }))
moves_past h from to past before after (same_file one other way was is same e) = (past, same_file one other way was is same (ap (with_past past) e))
moves_past h from to past before after (a_folder one is kind stays) = (past, a_folder one is kind stays)

pub step_past : {I O : Type 0} {h : Host I O} {IsWhole : ℕ → List ℕ → Type 0} {part output : List ℕ} {at : Phase} {before : FileSystem} {then : Phase} {after : FileSystem} (past : List Tree) → Step h IsWhole part output at before then after
    → (more : List Tree) × Step h IsWhole part output at (with_past past before) then (with_past more after)
step_past {before = before} {after = after} past (folder path mode rest to m same) =
    (before.now ∷ past, folder path mode rest to (record { made = m.made; nothing = m.nothing; kind = m.kind; bits = m.bits; fresh = m.fresh; puts = m.puts; bytes = m.bytes; notes = notes_past before.written past before after m.notes; held_is = m.held_is }) same)
step_past {before = before} {after = after} past (part_made mode rest m is) =
    (before.now ∷ past, part_made mode rest (record { made = m.made; nothing = m.nothing; kind = m.kind; mode_is = m.mode_is; fresh = m.fresh; puts = m.puts; empty = m.empty; notes = notes_past _ past before after m.notes; held_is = m.held_is }) is)
step_past {before = before} {after = after} past (filled mode bytes was c done is) = let x = closes_past before.written bytes bytes past before after c in (x.0, filled mode bytes was x.1 done is)
step_past {before = before} {after = after} past (not_filled mode bytes kept was c is) = let x = closes_past before.written bytes kept past before after c in (x.0, not_filled mode bytes kept was x.1 is)
step_past {before = before} {after = after} past (named bytes path was to l same) =
    (before.now ∷ past, named bytes path was to (record { linked = l.linked; was = l.was; nothing = l.nothing; puts = l.puts; bytes = l.bytes; notes = notes_past before.written past before after l.notes; held_is = l.held_is }) same)
step_past {h = h} {part = part} {before = before} {after = after} past (moved bytes path was to nothing m is) = let x = moves_past h part path past before after m in (x.0, moved bytes path was to nothing x.1 is)
step_past {before = before} {after = after} past (removed rest r is) = (before.now ∷ past, removed rest (record { puts = r.puts; bytes = r.bytes; notes = notes_past before.written past before after r.notes; held_is = r.held_is }) is)
step_past past (not_removed held rest same is) = (past, not_removed held rest (ap (with_past past) same) is)
step_past past (left rest same is) = (past, left rest (ap (with_past past) same) is)

pub steps_past : {I O : Type 0} {h : Host I O} {IsWhole : ℕ → List ℕ → Type 0} {part output : List ℕ} {at : Phase} {before : FileSystem} {then : Phase} {after : FileSystem} (past : List Tree) → Steps h IsWhole part output at before then after
    → (more : List Tree) × Steps h IsWhole part output at (with_past past before) then (with_past more after)
steps_past past (no_step p s) = (past, no_step p (ap (with_past past) s))
steps_past past (and_step b m more last) =
    let x = steps_past past more in
    let y = step_past x.0 last in
    (y.0, and_step b (with_past x.0 m) x.1 y.1)

-- what holds after steps from any state in which nothing is being written, as if it were the first
pub after_any : {I O : Type 0} (h : Host I O) (IsWhole : ℕ → List ℕ → Type 0) (part output : List ℕ) (before : FileSystem) → before.written ≡ None → IsNear output part → (then : Phase) (after : FileSystem)
    → Steps h IsWhole part output idle before then after → (past : List Tree) × Both h IsWhole part output before.now then (with_past past after)
after_any h IsWhole part output before quiet of_output then after steps =
    let x = steps_past [] steps in (
      x.0,
      after_steps h IsWhole part (IsNear output) before.now before.held before.unremoved of_output then (with_past x.0 after)
          (subst (λ (w : Option Number). Steps h IsWhole part output idle (record { now = before.now; earlier = []; written = w; held = before.held; unremoved = before.unremoved }) then (with_past x.0 after)) quiet x.1),
    )
