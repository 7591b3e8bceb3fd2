-- What stands behind each byte that a machine reads.
use Rattle.std.proofs.Common.{◌≡◌, ℕ, zero, suc, ◌+◌, ◌≤◌, ◌<◌, List, [], ◌∷◌, ◌++◌, length, Option, Some, None, Bool, true, false, cond, ◌⊎◌, inl, inr, refl, sym, ap, ◌∙◌, subst, arith, length-append, append_assoc}
use Rattle.std.proofs.lemmas.Bool.{cases_Bool}
use Rattle.std.proofs.lemmas.List.{append-nil}
use Rattle.dcm_base.specs.declared.syntax.Syntax.{Syntax}
use Rattle.dcm_base.specs.declared.fault.Fault.TheVariants.{PassesEnd}
use Rattle.dcm_base.specs.Tree.Tree.{Trees}
use Rattle.dcm_base.specs.Tree.Front.{Front, front, OpenTree, nothing_open, open_leaf, open_sequence, open_fragments, no_open_item, open_item}
use Rattle.dcm_base.specs.Bytes.Spelling.{SpellsFront}
use Rattle.dcm_base.specs.declared.level.Level.{Level}
use Rattle.dcm_base.specs.Reading.Place.{room, passes, levels, tree_levels, value_open}
use Rattle.dcm_base.specs.Steps.Atoms.{Atom, value_byte, front_atoms, Shows}
use Rattle.dcm_base.specs.Reading.Stop.{Stop, complete, refused, Bar, HeadBar, stop_at, value_stop, innermost_stop, place_stop, is_undecided}
use Rattle.dcm_base.specs.Reading.Reads.{INPUT_LIMIT}
use Rattle.dcm_base.proofs.DataSets.Path.{Path, at_top, in_item, plug, behind, Placed}
use Rattle.dcm_base.proofs.DataSets.Levels.{around, plug_levels}
use Rattle.dcm_base.proofs.DataSets.Stops.{set_level, value_open_plug}
use Rattle.dcm_base.proofs.DataSets.Shown.{front_shown}
use Rattle.dcm_base.proofs.DataSets.Between.{WholeHead, next_syntax, next_in_tree}
use Rattle.dcm_stream.specs.Reading.{Reading, halted, Opened, Sign, sign_reads, value_left, closing, head_opens, full_closed, settled, head_read}
use Rattle.dcm_stream.specs.Follows.{BarsAs, HaltsAt}
use Rattle.dcm_stream.proofs.Heads.Stops.{place_end, place_short, place_none, place_begins, place_no_room, Fits}
use Rattle.dcm_stream.proofs.Containers.Full.{LeftIs, Opens, Stands, list_level, no_sign, settles}
use Rattle.dcm_stream.proofs.Steps.AfterHeads.{LevelsFit, LevelsHead, fragments_level, head_behind}
use Rattle.dcm_stream.proofs.Steps.Values.{byte_behind}
use Rattle.dcm_stream.proofs.Steps.Passing.{Passed, passed_extends, passes_place, none_within, just_head, refused_at}

-- ---- the stop of a place

front_of : (s : Syntax) (start : ℕ) (b : List ℕ) (ls : List Level) (left : ℕ) (sign : Option Sign) (atoms : List Atom) → Opens s start b ls left sign atoms → Front
front_of s start b ls left sign atoms h = plug h.path h.whole h.open_tree

awaits_at : (s : Syntax) (path : Path) (whole : Trees) (o : OpenTree) (b : List ℕ) → Placed s path whole o b → LeftIs o 0 → value_open (plug path whole o) ≡ false
unfolding value_open
awaits_at s path whole nothing_open b h left = value_open_plug path whole nothing_open
awaits_at s path whole (open_leaf tag vr size value) b h left = absurd (omega arith)
awaits_at s path whole (open_sequence tag vr declared items no_open_item) b h left = value_open_plug path whole (open_sequence tag vr declared items no_open_item)
awaits_at s path whole (open_sequence tag vr declared items (open_item l f)) b h left = absurd h.open_at
awaits_at s path whole (open_fragments tag vr values None) b h left = value_open_plug path whole (open_fragments tag vr values None)
awaits_at s path whole (open_fragments tag vr values (Some fragment)) b h left = absurd (omega arith)

pub holds_at : (path : Path) (whole : Trees) (o : OpenTree) (n : ℕ) → LeftIs o (suc n) → value_open (plug path whole o) ≡ true
unfolding value_open
holds_at path whole nothing_open n left = absurd (omega arith)
holds_at path whole (open_leaf tag vr size value) n left = value_open_plug path whole (open_leaf tag vr size value)
holds_at path whole (open_sequence tag vr declared items last) n left = absurd (omega arith)
holds_at path whole (open_fragments tag vr values None) n left = absurd (omega arith)
holds_at path whole (open_fragments tag vr values (Some fragment)) n left = value_open_plug path whole (open_fragments tag vr values (Some fragment))

stop_awaiting : (bar : Bar) (s : Syntax) (start : ℕ) (f : Front) (position : ℕ) (rest : List ℕ) → value_open f ≡ false → stop_at bar s start f position rest ≡ innermost_stop (bar f) (levels s start f) position rest
unfolding stop_at
stop_awaiting bar s start f position rest v = ap (λ (x : Bool). cond x (value_stop position rest) (innermost_stop (bar f) (levels s start f) position rest)) v

pub stop_holding : (bar : Bar) (s : Syntax) (start : ℕ) (f : Front) (position : ℕ) (rest : List ℕ) → value_open f ≡ true → stop_at bar s start f position rest ≡ value_stop position rest
unfolding stop_at
stop_holding bar s start f position rest v = ap (λ (x : Bool). cond x (value_stop position rest) (innermost_stop (bar f) (levels s start f) position rest)) v

next_plug : (s : Syntax) (path : Path) (whole : Trees) (o : OpenTree) → next_syntax s (plug path whole o) ≡ next_in_tree (behind s path whole) o
unfolding next_syntax
next_plug s at_top whole o = refl
next_plug s (in_item outer above tag vr declared items item_declared) whole o = next_plug s outer above (open_sequence tag vr declared items (open_item item_declared (front whole o _ false)))

-- there is an innermost container, of the syntax of the next head
pub record Innermost (s : Syntax) (start : ℕ) (f : Front) : Type 0 where
  pub inner : Level
  pub outer : List Level
  pub levels_are : levels s start f ≡ inner ∷ outer
  pub syntax_is : next_syntax s f ≡ inner.syntax

innermost_at : (s : Syntax) (start : ℕ) (path : Path) (whole : Trees) (o : OpenTree) (b : List ℕ) → Placed s path whole o b → Innermost s start (plug path whole o)
unfolding tree_levels next_syntax
innermost_at s start path whole nothing_open b h =
    record { inner = set_level s start path whole; outer = around s start path; levels_are = plug_levels s start path whole nothing_open; syntax_is = next_plug s path whole nothing_open }
innermost_at s start path whole (open_leaf tag vr size value) b h =
    record { inner = set_level s start path whole; outer = around s start path; levels_are = plug_levels s start path whole (open_leaf tag vr size value); syntax_is = next_plug s path whole (open_leaf tag vr size value) }
innermost_at s start path whole (open_sequence tag vr declared items no_open_item) b h =
    record {
      inner = list_level s start path whole vr declared;
      outer = set_level s start path whole ∷ around s start path;
      levels_are = plug_levels s start path whole (open_sequence tag vr declared items no_open_item);
      syntax_is = next_plug s path whole (open_sequence tag vr declared items no_open_item);
    }
innermost_at s start path whole (open_sequence tag vr declared items (open_item l f)) b h = absurd h.open_at
innermost_at s start path whole (open_fragments tag vr values last) b h =
    record {
      inner = fragments_level s start path whole vr;
      outer = set_level s start path whole ∷ around s start path;
      levels_are = plug_levels s start path whole (open_fragments tag vr values last);
      syntax_is = next_plug s path whole (open_fragments tag vr values last);
    }

-- ---- what stands

pub record Continues (bar : Bar) (s : Syntax) (start : ℕ) (p : List ℕ) (r : Reading) (atoms : List Atom) : Type 0 where
  pub read : List ℕ
  pub within : start + length p ≤ INPUT_LIMIT
  pub going : r.halt ≡ None
  pub parts : p ≡ read ++ r.head
  pub position_is : r.position ≡ start + length read
  pub stands : Stands s start read r.levels r.left r.sign atoms
  pub waits : is_undecided (stop_at bar s start (plug stands.opens.path stands.opens.whole stands.opens.open_tree) (start + length read) r.head) ≡ true
  pub passed : Passed bar s start p (length read)

abbrev pub Follow : Bar → Syntax → (start : ℕ) → List ℕ → Reading → List Atom → Type 0
Follow bar s start p r atoms = Continues bar s start p r atoms ⊎ HaltsAt bar s start p r atoms

-- where no byte of a value is to come, and there is room, the end is undecided
pub begin_waits : (bar : Bar) (s : Syntax) (start : ℕ) (b : List ℕ) (ls : List Level) (sign : Option Sign) (atoms : List Atom) (h : Opens s start b ls 0 sign atoms) → passes 8 (room (start + length b) ls) ≡ false
    → is_undecided (stop_at bar s start (plug h.path h.whole h.open_tree) (start + length b) []) ≡ true
begin_waits bar s start b ls sign atoms h free =
    let f = plug h.path h.whole h.open_tree in
    let i = innermost_at s start h.path h.whole h.open_tree b h.placed in
    let e : stop_at bar s start f (start + length b) [] ≡ place_stop (bar f) i.inner (i.inner ∷ i.outer) (start + length b) [] =
    stop_awaiting bar s start f (start + length b) [] (awaits_at s h.path h.whole h.open_tree b h.placed h.left_is)
    ∙ ap (λ (x : List Level). innermost_stop (bar f) x (start + length b) []) i.levels_are in
    ap is_undecided e
    ∙ place_begins (bar f) i.inner (i.inner ∷ i.outer) (start + length b) (subst (λ (x : List Level). passes 8 (room (start + length b) x) ≡ false) (h.levels_are ∙ i.levels_are) free)

no_room_stops : (bar : Bar) (s : Syntax) (start : ℕ) (b : List ℕ) (ls : List Level) (sign : Option Sign) (atoms : List Atom) (h : Opens s start b ls 0 sign atoms) → passes 8 (room (start + length b) ls) ≡ true
    → stop_at bar s start (plug h.path h.whole h.open_tree) (start + length b) [] ≡ Some (refused PassesEnd (start + length b))
no_room_stops bar s start b ls sign atoms h free =
    let f = plug h.path h.whole h.open_tree in
    let i = innermost_at s start h.path h.whole h.open_tree b h.placed in
    stop_awaiting bar s start f (start + length b) [] (awaits_at s h.path h.whole h.open_tree b h.placed h.left_is)
    ∙ ap (λ (x : List Level). innermost_stop (bar f) x (start + length b) []) i.levels_are
    ∙ place_no_room (bar f) i.inner (i.inner ∷ i.outer) (start + length b) [] (subst (λ (x : List Level). passes 8 (room (start + length b) x) ≡ true) (h.levels_are ∙ i.levels_are) free)

-- ---- behind a head or a byte of a value

arrives_by : (bar : Bar) (s : Syntax) (start : ℕ) (p : List ℕ) (o : Opened) (atoms : List Atom) (full : Bool) → start + length p ≤ INPUT_LIMIT
    → let r = settled (start + length p) o 0 in
    Stands s start p r.0.levels 0 r.0.sign (atoms ++ r.1) → passes 8 (room (start + length p) r.0.levels) ≡ full → Passed bar s start p (length p) → Follow bar s start p r.0 (atoms ++ r.1)
arrives_by bar s start p o atoms true within h e passed =
    let position = start + length p in
    let ls = (full_closed position o.levels).0 in
    let f = plug h.opens.path h.opens.whole h.opens.open_tree in
    inr (record {
      f = f;
      fault = PassesEnd;
      offset = position;
      halt_is = ap (λ (x : Bool). cond x (Some (refused PassesEnd position)) None) e;
      decided = refl;
      atoms_are = h.opens.atoms_are;
      reads = refused_at bar s start p p [] f PassesEnd position within (sym (append-nil p)) h.spelled (no_room_stops bar s start p ls _ _ h.opens e) refl passed;
    })
arrives_by bar s start p o atoms false within h e passed =
    inl (record {
      read = p;
      within = within;
      going = ap (λ (x : Bool). cond x (Some (refused PassesEnd (start + length p))) None) e;
      parts = sym (append-nil p);
      position_is = refl;
      stands = h;
      waits = begin_waits bar s start p (full_closed (start + length p) o.levels).0 _ _ h.opens e;
      passed = passed;
    })

arrives : (bar : Bar) (s : Syntax) (start : ℕ) (p : List ℕ) (o : Opened) (left : ℕ) (atoms : List Atom) → start + length p ≤ INPUT_LIMIT → Opens s start p o.levels left o.sign (atoms ++ o.atoms) → Passed bar s start p (length p)
    → let r = settled (start + length p) o left in Follow bar s start p r.0 (atoms ++ r.1)
arrives bar s start p o zero atoms within h passed =
    arrives_by bar s start p o atoms (passes 8 (room (start + length p) (settled (start + length p) o 0).0.levels)) within (settles s start p o 0 atoms h) refl passed
arrives bar s start p o (suc n) atoms within h passed =
    let k = settles s start p o (suc n) atoms h in
    inl (record {
      read = p;
      within = within;
      going = refl;
      parts = sym (append-nil p);
      position_is = refl;
      stands = k;
      waits = ap is_undecided (stop_holding bar s start (plug k.opens.path k.opens.whole k.opens.open_tree) (start + length p) [] (holds_at k.opens.path k.opens.whole k.opens.open_tree n k.opens.left_is));
      passed = passed;
    })

-- ---- bars

bars_same : (bars : List Atom → HeadBar) (bar : Bar) → BarsAs bars bar → (s : Syntax) (f : Front) (b : List ℕ) (atoms : List Atom) → SpellsFront s f b → atoms ≡ front_atoms s f → bars atoms ≡ bar f
bars_same bars bar same s f b atoms spelled a =
    let shows : Shows f atoms = subst (Shows f) (sym a) (front_shown s f b spelled) in
    λ i tag vr declared. same.agree f atoms shows tag vr declared i

some_undecided : (o : Option Stop) → is_undecided o ≡ true → (stop : Stop) × (o ≡ Some stop) × (is_undecided (Some stop) ≡ true)
some_undecided None h = absurd (cc)
some_undecided (Some stop) h = (stop, refl, h)

-- ---- a byte of a value

pub empty_waits : (position : ℕ) (rest : List ℕ) → is_undecided (value_stop position rest) ≡ true → rest ≡ []
empty_waits position [] h = refl
empty_waits position (b ∷ rest) h = absurd (cc)

none_between : (x y : List ℕ) (b : ℕ) → b ∷ [] ≡ x ++ y → 0 < length x → length x < 1 → ⊥
none_between x y b e some short = omega arith

pub value_step : (bar : Bar) (s : Syntax) (start : ℕ) (p : List ℕ) (r : Reading) (atoms : List Atom) (b n : ℕ) → Continues bar s start p r atoms → start + length p < INPUT_LIMIT → r.left ≡ suc n
    → let q = settled (r.position + 1) (value_left n (sign_reads (b ∷ []) r.sign) r.levels (value_byte b ∷ [])) n in Follow bar s start (p ++ b ∷ []) q.0 (atoms ++ q.1)
value_step bar s start p r atoms b n h lt left =
    let o : Opened = value_left n (sign_reads (b ∷ []) r.sign) r.levels (value_byte b ∷ []) in
    let f = plug h.stands.opens.path h.stands.opens.whole h.stands.opens.open_tree in
    let holds = holds_at h.stands.opens.path h.stands.opens.whole h.stands.opens.open_tree n (subst (LeftIs h.stands.opens.open_tree) left h.stands.opens.left_is) in
    let nil : r.head ≡ [] = empty_waits (start + length h.read) r.head (sym (ap is_undecided (stop_holding bar s start f (start + length h.read) r.head holds)) ∙ h.waits) in
    let p_read : p ≡ h.read = h.parts ∙ ap (λ (x : List ℕ). h.read ++ x) nil ∙ append-nil h.read in
    let p' : p ++ b ∷ [] ≡ h.read ++ b ∷ [] = ap (λ (x : List ℕ). x ++ b ∷ []) p_read in
    let at : r.position + 1 ≡ start + length (p ++ b ∷ []) = omega (arith, h.position_is, length-append p (b ∷ []), ap length p_read) in
    let opens : Opens s start (h.read ++ b ∷ []) o.levels n o.sign (atoms ++ value_byte b ∷ closing n) =
    byte_behind s start h.read b n r.sign atoms r.levels (subst (λ (m : ℕ). Opens s start h.read r.levels m r.sign atoms) left h.stands.opens) in
    let opens' : Opens s start (p ++ b ∷ []) o.levels n o.sign (atoms ++ value_byte b ∷ closing n) = subst (λ (x : List ℕ). Opens s start x o.levels n o.sign (atoms ++ value_byte b ∷ closing n)) (sym p') opens in
    let before : Passed bar s start (h.read ++ b ∷ []) (length h.read) = subst (λ (x : List ℕ). Passed bar s start x (length h.read)) p' (passed_extends bar s start p (b ∷ []) (length h.read) (omega (arith, ap length p_read)) h.passed) in
    let passed : Passed bar s start (h.read ++ b ∷ []) (length (h.read ++ b ∷ [])) =
    passes_place bar s start h.read (b ∷ []) f h.stands.spelled (stop_holding bar s start f (start + length h.read) (b ∷ []) holds) before (λ x y g e some short k. none_between x y b e some short) in
    let passed' : Passed bar s start (p ++ b ∷ []) (length (p ++ b ∷ [])) = subst (λ (x : List ℕ). Passed bar s start x (length x)) (sym p') passed in
    subst (λ (m : ℕ). Follow bar s start (p ++ b ∷ []) (settled m o n).0 (atoms ++ (settled m o n).1)) (sym at)
    (arrives bar s start (p ++ b ∷ []) o n atoms (omega (arith, length-append p (b ∷ []))) opens' passed')

-- ---- a byte of a head

-- what is told of the place by the bytes of a head so far
pub record AtHead (bar : Bar) (s : Syntax) (start : ℕ) (p : List ℕ) (r : Reading) (atoms : List Atom) (h : Continues bar s start p r atoms) : Type 0 where
  pub zero_left : LeftIs h.stands.opens.open_tree 0
  pub awaits : value_open (plug h.stands.opens.path h.stands.opens.whole h.stands.opens.open_tree) ≡ false
  pub place : Innermost s start (plug h.stands.opens.path h.stands.opens.whole h.stands.opens.open_tree)
  pub not_whole : WholeHead place.inner.syntax r.head → ⊥
  pub stop_is : (rest : List ℕ) → stop_at bar s start (plug h.stands.opens.path h.stands.opens.whole h.stands.opens.open_tree) (start + length h.read) rest
      ≡ place_stop (bar (plug h.stands.opens.path h.stands.opens.whole h.stands.opens.open_tree)) place.inner (place.inner ∷ place.outer) (start + length h.read) rest
  pub end_is : stop_at bar s start (plug h.stands.opens.path h.stands.opens.whole h.stands.opens.open_tree) (start + length h.read) r.head ≡ Some (place_end place.inner (start + length h.read) r.head)

pub at_head : (bars : List Atom → HeadBar) (bar : Bar) → BarsAs bars bar → (s : Syntax) (start : ℕ) (p : List ℕ) (r : Reading) (atoms : List Atom) (h : Continues bar s start p r atoms) → r.left ≡ 0
    → AtHead bar s start p r atoms h
at_head bars bar same s start p r atoms h left =
    let f = plug h.stands.opens.path h.stands.opens.whole h.stands.opens.open_tree in
    let position = start + length h.read in
    let zero_left = subst (LeftIs h.stands.opens.open_tree) left h.stands.opens.left_is in
    let awaits = awaits_at s h.stands.opens.path h.stands.opens.whole h.stands.opens.open_tree h.read h.stands.opens.placed zero_left in
    let i = innermost_at s start h.stands.opens.path h.stands.opens.whole h.stands.opens.open_tree h.read h.stands.opens.placed in
    let e = λ (rest : List ℕ). stop_awaiting bar s start f position rest awaits ∙ ap (λ (x : List Level). innermost_stop (bar f) x position rest) i.levels_are in
    let short = place_short (bar f) i.inner (i.inner ∷ i.outer) position r.head (λ t v l. same.never_early f t v l) (sym (ap is_undecided (e r.head)) ∙ h.waits) in
    record { zero_left = zero_left; awaits = awaits; place = i; not_whole = short.not_whole; stop_is = e; end_is = e r.head ∙ short.end_is }

accepted_step : (bars : List Atom → HeadBar) (bar : Bar) → BarsAs bars bar → (s : Syntax) (start : ℕ) (p : List ℕ) (r : Reading) (atoms : List Atom) (b : ℕ) (h : Continues bar s start p r atoms)
    → start + length p < INPUT_LIMIT → r.left ≡ 0 → (w : AtHead bar s start p r atoms h)
    → stop_at bar s start (plug h.stands.opens.path h.stands.opens.whole h.stands.opens.open_tree) (start + length h.read) (r.head ++ b ∷ []) ≡ None
    → let q = head_read r (r.head ++ b ∷ []) None in Follow bar s start (p ++ b ∷ []) q.0 (atoms ++ q.1)
accepted_step bars bar same s start p r atoms b h lt left w none =
    let f = plug h.stands.opens.path h.stands.opens.whole h.stands.opens.open_tree in
    let position = start + length h.read in
    let head : List ℕ = r.head ++ b ∷ [] in
    let inner = w.place.inner in
    let outer = w.place.outer in
    let begin = r.position + length head in
    let ls_are : r.levels ≡ inner ∷ outer = h.stands.opens.levels_are ∙ w.place.levels_are in
    let fits : Fits inner (inner ∷ outer) position head = place_none (bar f) inner (inner ∷ outer) position head (sym (w.stop_is head) ∙ none) in
    let just = just_head inner (inner ∷ outer) position r.head b w.not_whole fits in
    let o = head_opens begin head r.levels in
    let opens : Opens s start (h.read ++ head) o.levels o.left o.sign (atoms ++ o.atoms) =
    head_behind s start h.read head begin atoms r.levels (subst (λ (x : Option Sign). Opens s start h.read r.levels 0 x atoms) (no_sign _ _ _ w.zero_left h.stands.opens.sign_is) (subst (λ (m : ℕ). Opens s start h.read r.levels m r.sign atoms) left h.stands.opens)) (ap (λ (x : ℕ). x + length head) h.position_is)
    (subst (λ (x : List Level). LevelsFit x position head) (sym ls_are) fits) (subst (λ (x : List Level). LevelsHead x head) (sym ls_are) just) in
    let p' : p ++ b ∷ [] ≡ h.read ++ head = ap (λ (x : List ℕ). x ++ b ∷ []) h.parts ∙ append_assoc h.read r.head (b ∷ []) in
    let sizes : length p ≡ length h.read + length r.head = ap length h.parts ∙ length-append h.read r.head in
    let at : begin ≡ start + length (p ++ b ∷ []) = omega (arith, h.position_is, ap length p', length-append h.read head) in
    let before : Passed bar s start (h.read ++ head) (length h.read) =
    subst (λ (x : List ℕ). Passed bar s start x (length h.read)) p' (passed_extends bar s start p (b ∷ []) (length h.read) (omega arith) h.passed) in
    let not_whole = λ (k : WholeHead (next_syntax s f) r.head). w.not_whole (subst (λ (x : Syntax). WholeHead x r.head) w.place.syntax_is k) in
    let passed : Passed bar s start (h.read ++ head) (length (h.read ++ head)) =
    passes_place bar s start h.read head f h.stands.spelled none before (none_within s f h.read r.head b h.stands.spelled w.awaits not_whole) in
    subst (λ (m : ℕ). Follow bar s start (p ++ b ∷ []) (settled m o o.left).0 (atoms ++ (settled m o o.left).1)) (sym at)
    (arrives bar s start (p ++ b ∷ []) o o.left atoms (omega (arith, length-append p (b ∷ [])))
    (subst (λ (x : List ℕ). Opens s start x o.levels o.left o.sign (atoms ++ o.atoms)) (sym p') opens)
    (subst (λ (x : List ℕ). Passed bar s start x (length x)) (sym p') passed))

-- one byte more of a head
kept_step : (bar : Bar) (s : Syntax) (start : ℕ) (p : List ℕ) (r : Reading) (atoms : List Atom) (b : ℕ) (h : Continues bar s start p r atoms) → start + length p < INPUT_LIMIT
    → is_undecided (stop_at bar s start (plug h.stands.opens.path h.stands.opens.whole h.stands.opens.open_tree) (start + length h.read) (r.head ++ b ∷ [])) ≡ true
    → Follow bar s start (p ++ b ∷ []) (record r { head = r.head ++ b ∷ [] }) (atoms ++ [])
kept_step bar s start p r atoms b h lt waits =
    let sizes : length p ≡ length h.read + length r.head = ap length h.parts ∙ length-append h.read r.head in
    subst (λ (x : List Atom). Follow bar s start (p ++ b ∷ []) (record r { head = r.head ++ b ∷ [] }) x) (sym (append-nil atoms))
    (inl (record {
      read = h.read;
      within = omega (arith, length-append p (b ∷ []));
      going = h.going;
      parts = ap (λ (x : List ℕ). x ++ b ∷ []) h.parts ∙ append_assoc h.read r.head (b ∷ []);
      position_is = h.position_is;
      stands = h.stands;
      waits = waits;
      passed = passed_extends bar s start p (b ∷ []) (length h.read) (omega arith) h.passed;
    }))

refused_step : (bar : Bar) (s : Syntax) (start : ℕ) (p : List ℕ) (r : Reading) (atoms : List Atom) (b : ℕ) (h : Continues bar s start p r atoms) (stop : Stop) → start + length p < INPUT_LIMIT
    → stop_at bar s start (plug h.stands.opens.path h.stands.opens.whole h.stands.opens.open_tree) (start + length h.read) (r.head ++ b ∷ []) ≡ Some stop → is_undecided (Some stop) ≡ false
    → Follow bar s start (p ++ b ∷ []) (halted r stop) (atoms ++ [])
refused_step bar s start p r atoms b h complete lt e decided = absurd (cc)
refused_step bar s start p r atoms b h (refused fault offset) lt e decided =
    let f = plug h.stands.opens.path h.stands.opens.whole h.stands.opens.open_tree in
    let sizes : length p ≡ length h.read + length r.head = ap length h.parts ∙ length-append h.read r.head in
    let p' : p ++ b ∷ [] ≡ h.read ++ (r.head ++ b ∷ []) = ap (λ (x : List ℕ). x ++ b ∷ []) h.parts ∙ append_assoc h.read r.head (b ∷ []) in
    inr (record {
      f = f;
      fault = fault;
      offset = offset;
      halt_is = refl;
      decided = decided;
      atoms_are = append-nil atoms ∙ h.stands.opens.atoms_are;
      reads = refused_at bar s start (p ++ b ∷ []) h.read (r.head ++ b ∷ []) f fault offset (omega (arith, length-append p (b ∷ []))) p' h.stands.spelled e decided
          (passed_extends bar s start p (b ∷ []) (length h.read) (omega arith) h.passed);
    })

pub head_step : (bars : List Atom → HeadBar) (bar : Bar) → BarsAs bars bar → (s : Syntax) (start : ℕ) (p : List ℕ) (r : Reading) (atoms : List Atom) (b : ℕ) (h : Continues bar s start p r atoms) (stop : Option Stop)
    → start + length p < INPUT_LIMIT → r.left ≡ 0
    → stop_at bar s start (plug h.stands.opens.path h.stands.opens.whole h.stands.opens.open_tree) (start + length h.read) (r.head ++ b ∷ []) ≡ stop
    → let q = head_read r (r.head ++ b ∷ []) stop in Follow bar s start (p ++ b ∷ []) q.0 (atoms ++ q.1)
head_step bars bar same s start p r atoms b h None lt left e = accepted_step bars bar same s start p r atoms b h lt left (at_head bars bar same s start p r atoms h left) e
head_step bars bar same s start p r atoms b h (Some stop) lt left e =
    let head : List ℕ = r.head ++ b ∷ [] in
    elim (cases_Bool (is_undecided (Some stop))) [
      | inl u ↦ subst (λ (x : Bool). let q = cond {A = Reading × List Atom} x (record r { head = head }, []) (halted r stop, []) in Follow bar s start (p ++ b ∷ []) q.0 (atoms ++ q.1)) (sym u)
          (kept_step bar s start p r atoms b h lt (ap is_undecided e ∙ u))
      | inr u ↦ subst (λ (x : Bool). let q = cond {A = Reading × List Atom} x (record r { head = head }, []) (halted r stop, []) in Follow bar s start (p ++ b ∷ []) q.0 (atoms ++ q.1)) (sym u)
          (refused_step bar s start p r atoms b h stop lt e u)
    ]

-- the machine asks for the stop of the place
pub asked_stop : (bars : List Atom → HeadBar) (bar : Bar) → BarsAs bars bar → (s : Syntax) (start : ℕ) (p : List ℕ) (r : Reading) (atoms : List Atom) (h : Continues bar s start p r atoms) (rest : List ℕ) → r.left ≡ 0
    → stop_at bar s start (plug h.stands.opens.path h.stands.opens.whole h.stands.opens.open_tree) (start + length h.read) rest ≡ innermost_stop (bars atoms) r.levels r.position rest
asked_stop bars bar same s start p r atoms h rest left =
    let f = plug h.stands.opens.path h.stands.opens.whole h.stands.opens.open_tree in
    let w = at_head bars bar same s start p r atoms h left in
    stop_awaiting bar s start f (start + length h.read) rest w.awaits
    ∙ sym (
    ap (λ (x : HeadBar). innermost_stop x r.levels r.position rest) (bars_same bars bar same s f h.read atoms h.stands.spelled h.stands.opens.atoms_are)
    ∙ ap (λ (x : List Level). innermost_stop (bar f) x r.position rest) h.stands.opens.levels_are
    ∙ ap (λ (x : ℕ). innermost_stop (bar f) (levels s start f) x rest) h.position_is
    )
