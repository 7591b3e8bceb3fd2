-- A machine follows the bytes, one after another.
use Rattle.std.proofs.Common.{◌≡◌, ℕ, zero, suc, ◌+◌, ◌≤◌, List, [], ◌∷◌, ◌++◌, length, Option, Some, None, Bool, true, false, cond, inl, inr, refl, sym, ap, ◌∙◌, subst, arith, length-append, append_assoc}
use Rattle.std.specs.Prelude.{◌==◌, ◌&&◌, nat_lt, fold}
use Rattle.std.proofs.lemmas.Bool.{ltb-true, ltb-false, ne_eqb, eqb-true}
use Rattle.std.proofs.lemmas.List.{append-nil}
use Rattle.std.proofs.lemmas.List.Sums.{fold-append}
use Rattle.dcm_base.specs.declared.syntax.Syntax.{Syntax}
use Rattle.dcm_base.specs.declared.fault.Fault.{Fault}
use Rattle.dcm_base.specs.declared.fault.Fault.TheVariants.{EndsEarly, TooLong}
use Rattle.dcm_base.specs.declared.length.Length.TheVariants.{Undefined}
use Rattle.dcm_base.specs.Tree.Tree.{Trees, no_tree}
use Rattle.dcm_base.specs.Tree.Front.{Front, OpenTree, nothing_open, open_leaf, open_sequence, open_fragments, no_open_item, open_item}
use Rattle.dcm_base.specs.Bytes.Spelling.{TreesAt}
use Rattle.dcm_base.specs.declared.level.Level.{Level}
use Rattle.dcm_base.specs.declared.level.Container.TheVariants.{DataSet as the_data_set}
use Rattle.dcm_base.specs.Reading.Place.{level, room, passes, levels, tree_levels}
use Rattle.dcm_base.specs.Steps.Atoms.{Atom, ends, front_atoms, trees_then}
use Rattle.dcm_base.specs.Reading.Stop.{Stop, complete, refused, Bar, HeadBar, stop_at, value_stop, innermost_stop, is_empty, is_the_data_set, is_undecided}
use Rattle.dcm_base.specs.Reading.Reads.{Reads, INPUT_LIMIT, ended}
use Rattle.dcm_base.proofs.DataSets.Path.{Path, at_top, in_item, plug, Placed, set_stands}
use Rattle.dcm_base.proofs.DataSets.Levels.{plug_levels}
use Rattle.dcm_base.proofs.DataSets.Row.{trees_then-append}
use Rattle.dcm_base.proofs.DataSets.OneAnswer.{reads_once}
use Rattle.dcm_stream.specs.Reading.{Reading, start_of, halted, byte_read, read_byte, is_top, stop_at_end, finish, end_shows, drives_byte, reads_byte, read_all}
use Rattle.dcm_stream.specs.Follows.{BarsAs, GoesOn, HaltsAt, Follows, Answers, HaltsWhereDecided}
use Rattle.dcm_stream.proofs.Containers.Full.{LeftIs, Opens, Stands}
use Rattle.dcm_stream.proofs.Containers.Room.{passes_zero}
use Rattle.dcm_stream.proofs.Steps.Passing.{passed_none, ends_here, too_long_at}
use Rattle.dcm_stream.proofs.Steps.AfterBytes.{holds_at, stop_holding, Continues, Follow, begin_waits, empty_waits, value_step, at_head, head_step, asked_stop}

-- ---- the end of the input, and the limit

finish_is : (bars : List Atom → HeadBar) (bar : Bar) → BarsAs bars bar → (s : Syntax) (start : ℕ) (p : List ℕ) (r : Reading) (atoms : List Atom) (h : Continues bar s start p r atoms) (n : ℕ) → r.left ≡ n
    → stop_at bar s start (plug h.stands.opens.path h.stands.opens.whole h.stands.opens.open_tree) (start + length h.read) r.head ≡ Some (stop_at_end None r)
finish_is bars bar same s start p r atoms h zero left =
    let w = at_head bars bar same s start p r atoms h left in
    let ls_are : r.levels ≡ w.place.inner ∷ w.place.outer = h.stands.opens.levels_are ∙ w.place.levels_are in
    w.end_is
    ∙ sym (
    ap (λ (x : ℕ). Some (cond ((x == 0) && is_top r.levels && is_empty r.head) complete (refused EndsEarly (r.position + length r.head)))) left
    ∙ ap (λ (x : List Level). Some (cond (is_top x && is_empty r.head) complete (refused EndsEarly (r.position + length r.head)))) ls_are
    ∙ ap (λ (x : ℕ). Some (cond (is_the_data_set w.place.inner.container && is_empty r.head) complete (refused EndsEarly (x + length r.head)))) h.position_is
    )
finish_is bars bar same s start p r atoms h (suc n) left =
    let f = plug h.stands.opens.path h.stands.opens.whole h.stands.opens.open_tree in
    let position = start + length h.read in
    let holds = holds_at h.stands.opens.path h.stands.opens.whole h.stands.opens.open_tree n (subst (LeftIs h.stands.opens.open_tree) left h.stands.opens.left_is) in
    let nil : r.head ≡ [] = empty_waits position r.head (sym (ap is_undecided (stop_holding bar s start f position r.head holds)) ∙ h.waits) in
    let some : (r.left == 0) ≡ false = ne_eqb r.left 0 (λ e. omega arith) in
    let at : position ≡ r.position + length r.head = omega (arith, h.position_is, ap length nil) in
    stop_holding bar s start f position r.head holds
    ∙ ap (λ (x : List ℕ). value_stop position x) nil
    ∙ ap (λ (x : ℕ). Some (refused EndsEarly x)) at
    ∙ sym (ap (λ (x : Bool). Some (cond (x && is_top r.levels && is_empty r.head) complete (refused EndsEarly (r.position + length r.head)))) some)

too_long_step : (bars : List Atom → HeadBar) (bar : Bar) → BarsAs bars bar → (s : Syntax) (start : ℕ) (p : List ℕ) (r : Reading) (atoms : List Atom) (b : ℕ) (h : Continues bar s start p r atoms)
    → INPUT_LIMIT ≤ start + length p → Follow bar s start (p ++ b ∷ []) (halted r (refused TooLong INPUT_LIMIT)) (atoms ++ [])
too_long_step bars bar same s start p r atoms b h le =
    let f = plug h.stands.opens.path h.stands.opens.whole h.stands.opens.open_tree in
    let e = finish_is bars bar same s start p r atoms h r.left refl in
    inr (record {
      f = f;
      fault = TooLong;
      offset = INPUT_LIMIT;
      halt_is = refl;
      decided = refl;
      atoms_are = append-nil atoms ∙ h.stands.opens.atoms_are;
      reads = too_long_at bar s start p h.read r.head b f (stop_at_end None r) (omega (arith, h.within)) h.parts h.stands.spelled e (sym (ap is_undecided e) ∙ h.waits) h.passed;
    })

-- ---- a byte

step_by : (bars : List Atom → HeadBar) (bar : Bar) → BarsAs bars bar → (s : Syntax) (start : ℕ) (p : List ℕ) (r : Reading) (atoms : List Atom) (b : ℕ) → Continues bar s start p r atoms
    → (halt : Option Stop) (within : Bool) (n : ℕ) → r.halt ≡ halt → nat_lt (r.position + length r.head) INPUT_LIMIT ≡ within → r.left ≡ n
    → let q = byte_read (bars atoms) r b halt within n in Follow bar s start (p ++ b ∷ []) q.0 (atoms ++ q.1)
step_by bars bar same s start p r atoms b h (Some stop) within n halt w left = let going = h.going in absurd (cc)
step_by bars bar same s start p r atoms b h None false n halt w left =
    too_long_step bars bar same s start p r atoms b h
    (let le = ltb-false (r.position + length r.head) INPUT_LIMIT w in omega (arith, h.position_is, ap length h.parts, length-append h.read r.head))
step_by bars bar same s start p r atoms b h None true zero halt w left =
    let lt = ltb-true (r.position + length r.head) INPUT_LIMIT w in
    head_step bars bar same s start p r atoms b h (innermost_stop (bars atoms) r.levels r.position (r.head ++ b ∷ [])) (omega (arith, h.position_is, ap length h.parts, length-append h.read r.head)) left
    (asked_stop bars bar same s start p r atoms h (r.head ++ b ∷ []) left)
step_by bars bar same s start p r atoms b h None true (suc n) halt w left =
    let lt = ltb-true (r.position + length r.head) INPUT_LIMIT w in
    value_step bar s start p r atoms b n h (omega (arith, h.position_is, ap length h.parts, length-append h.read r.head)) left

halted_stays : (bar : HeadBar) (r : Reading) (b : ℕ) (stop : Stop) → r.halt ≡ Some stop → read_byte bar r b ≡ (r, [])
unfolding read_byte
halted_stays bar r b stop e = ap (λ (x : Option Stop). byte_read bar r b x (nat_lt (r.position + length r.head) INPUT_LIMIT) r.left) e

step : (bars : List Atom → HeadBar) (bar : Bar) → BarsAs bars bar → (s : Syntax) (start : ℕ) (p : List ℕ) (r : Reading) (atoms : List Atom) (b : ℕ) → Follow bar s start p r atoms
    → let q = read_byte (bars atoms) r b in Follow bar s start (p ++ b ∷ []) q.0 (atoms ++ q.1)
unfolding read_byte
step bars bar same s start p r atoms b (inl h) = step_by bars bar same s start p r atoms b h r.halt (nat_lt (r.position + length r.head) INPUT_LIMIT) r.left refl refl refl
step bars bar same s start p r atoms b (inr h) =
    subst (λ (q : Reading × List Atom). Follow bar s start (p ++ b ∷ []) q.0 (atoms ++ q.1)) (sym (halted_stays (bars atoms) r b (refused h.fault h.offset) h.halt_is))
    (inr (record {
      f = h.f;
      fault = h.fault;
      offset = h.offset;
      halt_is = h.halt_is;
      decided = h.decided;
      atoms_are = append-nil atoms ∙ h.atoms_are;
      reads = λ later. subst (λ (x : List ℕ). Reads bar s start x h.f (refused h.fault h.offset)) (sym (append_assoc p (b ∷ []) later)) (h.reads (b ∷ later));
    }))

follows_on : (bars : List Atom → HeadBar) (bar : Bar) → BarsAs bars bar → (s : Syntax) (start : ℕ) (p : List ℕ) (r : Reading) (atoms : List Atom) (more : List ℕ) → Follow bar s start p r atoms
    → let q = fold (reads_byte bars) (r, atoms) more in Follow bar s start (p ++ more) q.0 q.1
follows_on bars bar same s start p r atoms [] h = subst (λ (x : List ℕ). Follow bar s start x r atoms) (sym (append-nil p)) h
follows_on bars bar same s start p r atoms (b ∷ more) h =
    let q = read_byte (bars atoms) r b in
    subst (λ (x : List ℕ). Follow bar s start x (fold (reads_byte bars) (r, atoms) (b ∷ more)).0 (fold (reads_byte bars) (r, atoms) (b ∷ more)).1) (append_assoc p (b ∷ []) more)
    (follows_on bars bar same s start (p ++ b ∷ []) q.0 (atoms ++ q.1) more (step bars bar same s start p r atoms b h))

-- ---- the start

start_placed : (s : Syntax) → Placed s at_top no_tree nothing_open []
unfolding TreesAt
start_placed s = record { c = []; d = []; path_at = refl; trees_at = refl; open_at = refl; stays = tt }

start_opens : (s : Syntax) (start : ℕ) → Opens s start [] (level the_data_set s Undefined start ∷ []) 0 None []
unfolding front_atoms trees_then tree_levels
start_opens s start =
    record {
      path = at_top;
      whole = no_tree;
      open_tree = nothing_open;
      placed = start_placed s;
      levels_are = sym (plug_levels s start at_top no_tree nothing_open);
      atoms_are = refl;
      left_is = refl;
      sign_is = refl;
      fits = passes_zero (room (start + 0) (level the_data_set s Undefined start ∷ []));
    }

top_free : (s : Syntax) (start position : ℕ) → passes 8 (room position (level the_data_set s Undefined start ∷ [])) ≡ false
unfolding room
top_free s start position = refl

starts : (bar : Bar) (s : Syntax) (start : ℕ) → start ≤ INPUT_LIMIT → Continues bar s start [] (start_of s start) []
unfolding start_opens
starts bar s start le =
    let o = start_opens s start in
    let stands : Stands s start [] (level the_data_set s Undefined start ∷ []) 0 None [] = record { opens = o; spelled = set_stands s at_top no_tree [] (start_placed s) tt } in
    record {
      read = [];
      within = omega arith;
      going = refl;
      parts = refl;
      position_is = omega arith;
      stands = stands;
      waits = begin_waits bar s start [] (level the_data_set s Undefined start ∷ []) None [] stands.opens (top_free s start (start + 0));
      passed = passed_none bar s start [];
    }

-- ---- the end is shown

complete_at : (s : Syntax) (start : ℕ) (path : Path) (whole : Trees) (o : OpenTree) (b : List ℕ) (ls : List Level) (left : ℕ) (atoms : List Atom) → Placed s path whole o b → ls ≡ levels s start (plug path whole o) → LeftIs o left
    → atoms ≡ front_atoms s (plug path whole o) → left ≡ 0 → is_top ls ≡ true → atoms ++ ends ∷ [] ≡ front_atoms s (ended complete (plug path whole o))
unfolding front_atoms tree_levels
complete_at s start at_top whole nothing_open b ls left atoms h l e a z top = ap (λ (x : List Atom). x ++ ends ∷ []) a ∙ sym (trees_then-append s whole [] (ends ∷ []))
complete_at s start (in_item outer above tag vr declared items item_declared) whole nothing_open b ls left atoms h l e a z top =
    let k = sym (ap is_top (l ∙ plug_levels s start (in_item outer above tag vr declared items item_declared) whole nothing_open)) ∙ top in absurd (cc)
complete_at s start path whole (open_leaf tag vr size value) b ls left atoms h l e a z top = absurd (omega arith)
complete_at s start path whole (open_sequence tag vr declared items no_open_item) b ls left atoms h l e a z top =
    let k = sym (ap is_top (l ∙ plug_levels s start path whole (open_sequence tag vr declared items no_open_item))) ∙ top in absurd (cc)
complete_at s start path whole (open_sequence tag vr declared items (open_item m f)) b ls left atoms h l e a z top = absurd h.open_at
complete_at s start path whole (open_fragments tag vr values None) b ls left atoms h l e a z top =
    let k = sym (ap is_top (l ∙ plug_levels s start path whole (open_fragments tag vr values None))) ∙ top in absurd (cc)
complete_at s start path whole (open_fragments tag vr values (Some fragment)) b ls left atoms h l e a z top = absurd (omega arith)

complete_tests : (a b c : Bool) (fault : Fault) (offset : ℕ) → cond (a && b && c) complete (refused fault offset) ≡ complete → (a ≡ true) × (b ≡ true)
complete_tests true true c fault offset h = (refl, refl)
complete_tests true false c fault offset h = absurd (cc)
complete_tests false b c fault offset h = absurd (cc)

end_shown : (bar : Bar) (s : Syntax) (start : ℕ) (p : List ℕ) (r : Reading) (atoms : List Atom) (h : Continues bar s start p r atoms) (stop : Stop) → stop_at_end None r ≡ stop
    → atoms ++ end_shows stop ≡ front_atoms s (ended stop (plug h.stands.opens.path h.stands.opens.whole h.stands.opens.open_tree))
end_shown bar s start p r atoms h (refused fault offset) e = append-nil atoms ∙ h.stands.opens.atoms_are
end_shown bar s start p r atoms h complete e =
    let k = complete_tests (r.left == 0) (is_top r.levels) (is_empty r.head) EndsEarly (r.position + length r.head) e in
    let o = h.stands.opens in
    complete_at s start o.path o.whole o.open_tree h.read r.levels r.left atoms o.placed o.levels_are o.left_is o.atoms_are (eqb-true r.left 0 k.0) k.1

-- ---- the law

goes_on : (bars : List Atom → HeadBar) (bar : Bar) → BarsAs bars bar → (s : Syntax) (start : ℕ) (p : List ℕ) (r : Reading) (atoms : List Atom) → Continues bar s start p r atoms → GoesOn bar s start p r atoms
unfolding finish
goes_on bars bar same s start p r atoms h =
    let f = plug h.stands.opens.path h.stands.opens.whole h.stands.opens.open_tree in
    let e : stop_at bar s start f (start + length h.read) r.head ≡ Some (finish r) =
    finish_is bars bar same s start p r atoms h r.left refl ∙ sym (ap (λ (x : Option Stop). Some (stop_at_end x r)) h.going) in
    record {
      f = f;
      read = h.read;
      within = h.within;
      going = h.going;
      parts = h.parts;
      spelled = h.stands.spelled;
      position_is = h.position_is;
      levels_are = h.stands.opens.levels_are;
      atoms_are = h.stands.opens.atoms_are;
      undecided = sym (ap is_undecided e) ∙ h.waits;
      reads = ends_here bar s start p h.read r.head f (finish r) h.within h.parts h.stands.spelled e h.passed;
      shown = end_shown bar s start p r atoms h (finish r) (sym (ap (λ (x : Option Stop). stop_at_end x r) h.going));
    }

pub follows : (bars : List Atom → HeadBar) (bar : Bar) → BarsAs bars bar → (s : Syntax) (start : ℕ) (p : List ℕ) → start ≤ INPUT_LIMIT → Follows bars bar s start p
follows bars bar same s start p le =
    elim (follows_on bars bar same s start [] (start_of s start) [] p (inl (starts bar s start le))) [
      | inl h ↦ inl (goes_on bars bar same s start p _ _ h)
      | inr h ↦ inr h
    ]

-- ---- what follows

refusal_ends : (f : Front) (fault : Fault) (offset : ℕ) → ended (refused fault offset) f ≡ f
refusal_ends f fault offset = refl

halt_finishes : (bar : Bar) (s : Syntax) (start : ℕ) (p : List ℕ) (r : Reading) (atoms : List Atom) (h : HaltsAt bar s start p r atoms) → refused h.fault h.offset ≡ finish r
unfolding finish
halt_finishes bar s start p r atoms h = sym (ap (λ (x : Option Stop). stop_at_end x r) h.halt_is)

pub answers : (bars : List Atom → HeadBar) (bar : Bar) → BarsAs bars bar → (s : Syntax) (start : ℕ) (p : List ℕ) → start ≤ INPUT_LIMIT → Answers bars bar s start p
answers bars bar same s start p le =
    elim (follows bars bar same s start p le) [
      | inl h ↦ record { f = ended (finish (read_all bars s start p).0) h.f; reads = h.reads; shown = h.shown }
      | inr h ↦
          let e = halt_finishes bar s start p (read_all bars s start p).0 (read_all bars s start p).1 h in
          let reads : Reads bar s start p h.f (refused h.fault h.offset) = subst (λ (x : List ℕ). Reads bar s start x h.f (refused h.fault h.offset)) (append-nil p) (h.reads []) in
          record {
            f = h.f;
            reads = subst (λ (x : Stop). Reads bar s start p h.f x) e reads;
            shown = ap (λ (x : Stop). (read_all bars s start p).1 ++ end_shows x) (sym e) ∙ append-nil (read_all bars s start p).1 ∙ h.atoms_are;
          }
    ]

pub halts_where_decided : (bars : List Atom → HeadBar) (bar : Bar) → BarsAs bars bar → (s : Syntax) (start : ℕ) (p : List ℕ) → start ≤ INPUT_LIMIT → HaltsWhereDecided bars bar s start p
halts_where_decided bars bar same s start p le =
    let r = (read_all bars s start p).0 in
    elim (follows bars bar same s start p le) [
      | inl h ↦ (
        (λ e. record { within = h.within; open_end = λ f stop k. ap (λ (x : Stop). is_undecided (Some x)) (reads_once bar s start p f (ended (finish r) h.f) stop (finish r) k h.reads).1 ∙ h.undecided }),
        (λ u. h.going),
      )
      | inr h ↦ (
        (λ e. let k = sym e ∙ h.halt_is in absurd (cc)),
        (λ u.
            let reads : Reads bar s start p h.f (refused h.fault h.offset) = subst (λ (x : List ℕ). Reads bar s start x h.f (refused h.fault h.offset)) (append-nil p) (h.reads []) in
            let k = u.open_end h.f (refused h.fault h.offset) reads in
            let d = h.decided in
            absurd (cc)),
      )
    ]

-- what takes the atoms is where they lead it
pub drives : {S : Type 0} (bars : S → HeadBar) (step : S → Atom → S) (first : S) (p : List ℕ) (r : Reading) (atoms : List Atom)
    → let q = fold (reads_byte (λ (as' : List Atom). bars (fold step first as'))) (r, atoms) p in
    fold (drives_byte bars step) (r, fold step first atoms) p ≡ (q.0, fold step first q.1)
drives {S} bars step first [] r atoms = refl
drives {S} bars step first (b ∷ p) r atoms =
    let q = read_byte (bars (fold step first atoms)) r b in
    ap (λ (x : S). fold (drives_byte bars step) (q.0, x) p) (sym (fold-append step first atoms q.1))
    ∙ drives bars step first p q.0 (atoms ++ q.1)

grows_from : (bars : List Atom → HeadBar) (r : Reading) (atoms : List Atom) (p : List ℕ) → (more : List Atom) × ((fold (reads_byte bars) (r, atoms) p).1 ≡ atoms ++ more)
grows_from bars r atoms [] = ([], sym (append-nil atoms))
grows_from bars r atoms (b ∷ p) =
    let q = read_byte (bars atoms) r b in
    let k = grows_from bars q.0 (atoms ++ q.1) p in
    (q.1 ++ k.0, k.1 ∙ append_assoc atoms q.1 k.0)

pub grows : (bars : List Atom → HeadBar) (s : Syntax) (start : ℕ) (p later : List ℕ) → (more : List Atom) × ((read_all bars s start (p ++ later)).1 ≡ (read_all bars s start p).1 ++ more)
grows bars s start p later =
    let k = grows_from bars (read_all bars s start p).0 (read_all bars s start p).1 later in
    (k.0, ap (λ (x : Reading × List Atom). x.1) (fold-append (reads_byte bars) (start_of s start, []) p later) ∙ k.1)
