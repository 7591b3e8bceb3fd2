-- Behind each byte of a value stands a place.
use Rattle.std.proofs.Common.{◌≡◌, ℕ, zero, suc, ◌+◌, List, [], ◌∷◌, ◌++◌, length, Option, Some, None, false, refl, sym, ap, ◌∙◌, subst, arith, length-append, append_assoc}
use Rattle.dcm_base.specs.declared.tag.Tag.{Tag}
use Rattle.dcm_base.specs.declared.vr.Vr.{Vr}
use Rattle.dcm_base.specs.declared.syntax.Syntax.{Syntax}
use Rattle.dcm_base.specs.Tree.Tree.{Trees, no_tree, leaf}
use Rattle.dcm_base.specs.Tree.Front.{OpenTree, nothing_open, open_leaf, open_sequence, open_fragments}
use Rattle.dcm_base.specs.Tree.Value.{order}
use Rattle.dcm_base.specs.declared.level.Level.{Level}
use Rattle.dcm_base.specs.Reading.Place.{room, passes, levels, tree_levels}
use Rattle.dcm_base.specs.Steps.Atoms.{Atom, value_byte, closes_leaf, front_atoms}
use Rattle.dcm_base.proofs.Conversions.Order.{order_twice, length-order}
use Rattle.dcm_base.proofs.DataSets.Path.{then_trees, Path, plug, behind, Placed, byte_comes, leaf_closes, fragment_byte, fragment_closes}
use Rattle.dcm_base.proofs.DataSets.Levels.{around, plug_levels}
use Rattle.dcm_base.proofs.DataSets.Stops.{set_level}
use Rattle.dcm_base.proofs.DataSets.Row.{byte_comes_atoms, leaf_closes_atoms}
use Rattle.dcm_stream.specs.Reading.{Sign, sign_of, sign_reads, sign_ends, left_levels, left_sign, closing}
use Rattle.dcm_stream.proofs.Containers.FragmentRow.{fragment_byte_atoms, fragment_closes_atoms}
use Rattle.dcm_stream.proofs.Containers.Full.{LeftIs, SignIs, Opens}
use Rattle.dcm_stream.proofs.Containers.Signs.{sign_so_far, set_signed, reads_more}
use Rattle.dcm_stream.proofs.Steps.AfterHeads.{fragments_level}
use Rattle.dcm_stream.proofs.Containers.Room.{passes_zero, passes_less, passes_later, room_at, room_outside}

-- the room is there for each byte that is left
fits_behind : (start : ℕ) (b : List ℕ) (x n : ℕ) (ls : List Level) → passes (suc n) (room (start + length b) ls) ≡ false → passes n (room (start + length (b ++ x ∷ [])) ls) ≡ false
fits_behind start b x n ls h =
    let one : suc n ≡ 1 + n = omega arith in
    let at : start + length b + 1 ≡ start + length (b ++ x ∷ []) = omega (arith, length-append b (x ∷ [])) in
    subst (λ (p : ℕ). passes n (room p ls) ≡ false) at (passes_later 1 n (start + length b) ls (subst (λ (m : ℕ). passes m (room (start + length b) ls) ≡ false) one h))

last_byte : (atoms whole leaf_atoms open_atoms : List Atom) (x : ℕ) → atoms ≡ whole → open_atoms ≡ whole ++ value_byte x ∷ [] → leaf_atoms ≡ open_atoms ++ closes_leaf ∷ []
    → atoms ++ (value_byte x ∷ closes_leaf ∷ []) ≡ leaf_atoms
last_byte atoms whole leaf_atoms open_atoms x a o l =
    sym (append_assoc atoms (value_byte x ∷ []) (closes_leaf ∷ []))
    ∙ ap (λ (y : List Atom). (y ++ value_byte x ∷ []) ++ closes_leaf ∷ []) a
    ∙ ap (λ (y : List Atom). y ++ closes_leaf ∷ []) (sym o)
    ∙ sym l

leaf_byte : (s : Syntax) (start : ℕ) (path : Path) (whole : Trees) (tag : Tag) (vr : Vr) (size : ℕ) (value b : List ℕ) (x n : ℕ) (atoms : List Atom) → Placed s path whole (open_leaf tag vr size value) b
    → atoms ≡ front_atoms s (plug path whole (open_leaf tag vr size value)) → length value + suc n ≡ size
    → passes (suc n) (room (start + length b) (set_level s start path whole ∷ around s start path)) ≡ false
    → let sign = sign_so_far tag vr (order (behind s path whole) vr value ++ x ∷ []) in
    Opens s start (b ++ x ∷ []) (left_levels n sign (set_level s start path whole ∷ around s start path)) n (left_sign n sign) (atoms ++ value_byte x ∷ closing n)
unfolding tree_levels
leaf_byte s start path whole tag vr size value b x zero atoms h a left fits =
    let s' = behind s path whole in
    let ls = set_level s start path whole ∷ around s start path in
    let more : List ℕ = order s' vr (order s' vr value ++ x ∷ []) in
    let long : length more ≡ length value + 1 = omega (arith, length-order s' vr (order s' vr value ++ x ∷ []), length-append (order s' vr value) (x ∷ []), length-order s' vr value) in
    let full : size ≡ length more = omega arith in
    let roomy = room_at s start path whole (open_leaf tag vr size value) b (x ∷ []) h fits in
    let w = then_trees whole (leaf tag vr more no_tree) in
    record {
      path = path;
      whole = w;
      open_tree = nothing_open;
      placed = leaf_closes s path whole tag vr size more (b ++ x ∷ []) (byte_comes s path whole tag vr size value x b h roomy (omega arith)) full;
      levels_are =
          ap (λ (y : List ℕ). sign_ends (sign_so_far tag vr y) (set_level s start path whole ∷ around s start path)) (sym (order_twice s' vr (order s' vr value ++ x ∷ [])))
          ∙ set_signed s start path whole tag vr more ∙ sym (plug_levels s start path w nothing_open);
      atoms_are = last_byte atoms _ _ _ x a (byte_comes_atoms s path whole tag vr size value x) (leaf_closes_atoms s path whole tag vr size more full);
      left_is = refl;
      sign_is = refl;
      fits = passes_zero (room (start + length (b ++ x ∷ [])) (left_levels 0 (sign_so_far tag vr (order s' vr value ++ x ∷ [])) ls));
    }
leaf_byte s start path whole tag vr size value b x (suc n) atoms h a left fits =
    let s' = behind s path whole in
    let ls = set_level s start path whole ∷ around s start path in
    let more : List ℕ = order s' vr (order s' vr value ++ x ∷ []) in
    let long : length more ≡ length value + 1 = omega (arith, length-order s' vr (order s' vr value ++ x ∷ []), length-append (order s' vr value) (x ∷ []), length-order s' vr value) in
    let roomy = room_at s start path whole (open_leaf tag vr size value) b (x ∷ []) h (passes_less 1 (suc (suc n)) (room (start + length b) ls) (omega arith) fits) in
    record {
      path = path;
      whole = whole;
      open_tree = open_leaf tag vr size more;
      placed = byte_comes s path whole tag vr size value x b h roomy (omega arith);
      levels_are = sym (plug_levels s start path whole (open_leaf tag vr size more));
      atoms_are = ap (λ (y : List Atom). y ++ value_byte x ∷ []) a ∙ sym (byte_comes_atoms s path whole tag vr size value x);
      left_is = (omega arith, omega arith);
      sign_is = ap (sign_so_far tag vr) (sym (order_twice s' vr (order s' vr value ++ x ∷ [])));
      fits = fits_behind start b x (suc n) ls fits;
    }

fragment_value_byte : (s : Syntax) (start : ℕ) (path : Path) (whole : Trees) (tag : Tag) (vr : Vr) (values : List (List ℕ)) (size : ℕ) (value b : List ℕ) (x n : ℕ) (atoms : List Atom)
    → Placed s path whole (open_fragments tag vr values (Some (size, value))) b
    → atoms ≡ front_atoms s (plug path whole (open_fragments tag vr values (Some (size, value)))) → length value + suc n ≡ size
    → let ls = fragments_level s start path whole vr ∷ set_level s start path whole ∷ around s start path in
    passes (suc n) (room (start + length b) ls) ≡ false
    → Opens s start (b ++ x ∷ []) ls n None (atoms ++ value_byte x ∷ closing n)
unfolding tree_levels
fragment_value_byte s start path whole tag vr values size value b x zero atoms h a left fits =
    let outer = set_level s start path whole ∷ around s start path in
    let ls = fragments_level s start path whole vr ∷ outer in
    let more : List ℕ = value ++ x ∷ [] in
    let full : size ≡ length more = omega (arith, length-append value (x ∷ [])) in
    let roomy = room_at s start path whole (open_fragments tag vr values (Some (size, value))) b (x ∷ []) h (room_outside 1 (start + length b) (fragments_level s start path whole vr) outer fits) in
    record {
      path = path;
      whole = whole;
      open_tree = open_fragments tag vr (values ++ more ∷ []) None;
      placed = fragment_closes s path whole tag vr values size more (b ++ x ∷ []) (fragment_byte s path whole tag vr values size value x b h roomy (omega arith)) full;
      levels_are = sym (plug_levels s start path whole (open_fragments tag vr (values ++ more ∷ []) None));
      atoms_are = last_byte atoms _ _ _ x a (fragment_byte_atoms s path whole tag vr values size value x) (fragment_closes_atoms s path whole tag vr values size more full);
      left_is = refl;
      sign_is = refl;
      fits = passes_zero (room (start + length (b ++ x ∷ [])) ls);
    }
fragment_value_byte s start path whole tag vr values size value b x (suc n) atoms h a left fits =
    let outer = set_level s start path whole ∷ around s start path in
    let ls = fragments_level s start path whole vr ∷ outer in
    let more : List ℕ = value ++ x ∷ [] in
    let long : length more ≡ length value + 1 = omega (arith, length-append value (x ∷ [])) in
    let roomy = room_at s start path whole (open_fragments tag vr values (Some (size, value))) b (x ∷ []) h
    (room_outside 1 (start + length b) (fragments_level s start path whole vr) outer (passes_less 1 (suc (suc n)) (room (start + length b) ls) (omega arith) fits)) in
    record {
      path = path;
      whole = whole;
      open_tree = open_fragments tag vr values (Some (size, more));
      placed = fragment_byte s path whole tag vr values size value x b h roomy (omega arith);
      levels_are = sym (plug_levels s start path whole (open_fragments tag vr values (Some (size, more))));
      atoms_are = ap (λ (y : List Atom). y ++ value_byte x ∷ []) a ∙ sym (fragment_byte_atoms s path whole tag vr values size value x);
      left_is = (omega arith, omega arith);
      sign_is = refl;
      fits = fits_behind start b x (suc n) ls fits;
    }

-- what a byte of a value leads to
abbrev pub AfterByte : Syntax → (start : ℕ) → List ℕ → List Level → (left : ℕ) → Option Sign → List Atom → Type 0
AfterByte s start b ls left sign atoms = Opens s start b (left_levels left sign ls) left (left_sign left sign) atoms

-- where it is none that says the sign
unsigned_after : (s : Syntax) (start : ℕ) (b : List ℕ) (ls : List Level) (n : ℕ) (atoms : List Atom) → Opens s start b ls n None atoms → Opens s start b (left_levels n None ls) n (left_sign n None) atoms
unsigned_after s start b ls zero atoms h = h
unsigned_after s start b ls (suc n) atoms h = h

byte_at : (s : Syntax) (start : ℕ) (path : Path) (whole : Trees) (o : OpenTree) (b : List ℕ) (x n : ℕ) (sign : Option Sign) (atoms : List Atom) (ls : List Level)
    → Placed s path whole o b → ls ≡ levels s start (plug path whole o) → atoms ≡ front_atoms s (plug path whole o) → LeftIs o (suc n) → SignIs (behind s path whole) o sign → passes (suc n) (room (start + length b) ls) ≡ false
    → AfterByte s start (b ++ x ∷ []) ls n (sign_reads (x ∷ []) sign) (atoms ++ value_byte x ∷ closing n)
unfolding tree_levels
byte_at s start path whole nothing_open b x n sign atoms ls h l a left si fits = absurd (omega arith)
byte_at s start path whole (open_leaf tag vr size value) b x n sign atoms ls h l a left si fits =
    let e : ls ≡ set_level s start path whole ∷ around s start path = l ∙ plug_levels s start path whole (open_leaf tag vr size value) in
    let more : sign_reads (x ∷ []) sign ≡ sign_so_far tag vr (order (behind s path whole) vr value ++ x ∷ []) =
    ap (sign_reads (x ∷ [])) si ∙ reads_more (order (behind s path whole) vr value) (x ∷ []) (sign_of tag vr) in
    subst (λ (y : Option Sign). AfterByte s start (b ++ x ∷ []) ls n y (atoms ++ value_byte x ∷ closing n)) (sym more)
    (subst (λ (y : List Level). AfterByte s start (b ++ x ∷ []) y n (sign_so_far tag vr (order (behind s path whole) vr value ++ x ∷ [])) (atoms ++ value_byte x ∷ closing n)) (sym e)
    (leaf_byte s start path whole tag vr size value b x n atoms h a left.0 (subst (λ (y : List Level). passes (suc n) (room (start + length b) y) ≡ false) e fits)))
byte_at s start path whole (open_sequence tag vr declared items last) b x n sign atoms ls h l a left si fits = absurd (omega arith)
byte_at s start path whole (open_fragments tag vr values None) b x n sign atoms ls h l a left si fits = absurd (omega arith)
byte_at s start path whole (open_fragments tag vr values (Some (size, value))) b x n sign atoms ls h l a left si fits =
    let e : ls ≡ fragments_level s start path whole vr ∷ set_level s start path whole ∷ around s start path = l ∙ plug_levels s start path whole (open_fragments tag vr values (Some (size, value))) in
    subst (λ (y : Option Sign). AfterByte s start (b ++ x ∷ []) ls n (sign_reads (x ∷ []) y) (atoms ++ value_byte x ∷ closing n)) (sym si)
    (unsigned_after s start (b ++ x ∷ []) ls n (atoms ++ value_byte x ∷ closing n)
    (subst (λ (y : List Level). Opens s start (b ++ x ∷ []) y n None (atoms ++ value_byte x ∷ closing n)) (sym e)
    (fragment_value_byte s start path whole tag vr values size value b x n atoms h a left.0 (subst (λ (y : List Level). passes (suc n) (room (start + length b) y) ≡ false) e fits))))

-- behind a byte of a value stands a place
pub byte_behind : (s : Syntax) (start : ℕ) (b : List ℕ) (x n : ℕ) (sign : Option Sign) (atoms : List Atom) (ls : List Level) → Opens s start b ls (suc n) sign atoms
    → AfterByte s start (b ++ x ∷ []) ls n (sign_reads (x ∷ []) sign) (atoms ++ value_byte x ∷ closing n)
byte_behind s start b x n sign atoms ls h = byte_at s start h.path h.whole h.open_tree b x n sign atoms ls h.placed h.levels_are h.atoms_are h.left_is h.sign_is h.fits
