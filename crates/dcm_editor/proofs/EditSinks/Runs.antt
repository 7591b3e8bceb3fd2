-- Where the sink goes over the atoms of trees, and what it passes on within what is dropped.
use Rattle.std.proofs.Common.{◌≡◌, ℕ, zero, suc, List, [], ◌∷◌, ◌++◌, Option, Some, None, Bool, true, false, ◌||◌, refl, sym, ◌∙◌, ap}
use Rattle.std.specs.Prelude.{map, fold}
use Rattle.dcm_lemmas.proofs.Lists.{bits_alike}
use Rattle.dcm_base.specs.declared.tag.Tag.{Tag}
use Rattle.dcm_base.specs.declared.length.Length.{Length}
use Rattle.dcm_base.specs.Tree.Tree.{Trees, no_tree, leaf, sequence, fragments, Items, no_item, item}
use Rattle.dcm_edits.specs.Edit.{Edit, within, fate, erases, acts, element_of}
use Rattle.dcm_edits.specs.NewOnes.{above_last, is_between}
use Rattle.dcm_edits.specs.Together.{first_fate, any_erases, all_within}
use Rattle.dcm_base.specs.Bytes.Spelling.{last_tag}
use Rattle.dcm_base.specs.Tree.Value.{order}
use Rattle.dcm_base.specs.Steps.Atoms.{Atom, value_byte, closes_leaf, closes_item, closes_sequence, fragments_then, ShowTrees, ShowItems}
use Rattle.dcm_base.specs.Steps.Steps.{outputs}
use Rattle.dcm_editor.specs.EditSink.{Level, State, dropped_after_end, either, passed, has_place, makes}
use Rattle.dcm_editor.proofs.EditSinks.Unbounded.{dropped_unbounded, next_unbounded}

abbrev pub at : List Edit → Option Tag → ℕ → List Level → ℕ → List Bool → State
at es last n outer dropped found = record { level = record { edits = es; last = last; count = n }; outer = outer; dropped = dropped; found = found }

abbrev pub level : List Edit → Option Tag → ℕ → Level
level es last n = record { edits = es; last = last; count = n }

abbrev pub out : State → List Atom → List Atom
out s atoms = outputs next_unbounded passed s atoms

abbrev pub items_after : ℕ → Items → ℕ
items_after n no_item = n
items_after n (item declared set rest) = items_after (suc n) rest

abbrev pub last_count : ℕ → Trees → ℕ
last_count n no_tree = n
last_count n (leaf tag vr value rest) = last_count 0 rest
last_count n (sequence tag vr declared items rest) = last_count (items_after 0 items) rest
last_count n (fragments tag vr values rest) = last_count 0 rest

-- ---- what is found

-- at the head of an element, and at the head and the end of an item
abbrev pub head_seen : Edit → Option Tag → Tag → Bool
head_seen e last tag = acts (fate e tag) || makes (is_between last tag) (element_of e)

abbrev pub item_seen : Edit → Tag → ℕ → Bool
item_seen e tag n = erases e tag n || has_place (element_of (within e tag n))

abbrev pub end_seen : Option Tag → Edit → Bool
end_seen last e = makes (above_last last) (element_of e)

-- whether an edit finds its place on the way
abbrev mutual
  pub seen : Edit → Option Tag → Trees → Bool
  seen e last no_tree = false
  seen e last (leaf tag vr value rest) = head_seen e last tag || seen e (Some tag) rest
  seen e last (sequence tag vr declared items rest) = (head_seen e last tag || seen_items e tag 0 items) || seen e (Some tag) rest
  seen e last (fragments tag vr values rest) = head_seen e last tag || seen e (Some tag) rest

  pub seen_items : Edit → Tag → ℕ → Items → Bool
  seen_items e tag n no_item = false
  seen_items e tag n (item declared set rest) =
      ((item_seen e tag n || seen (within e tag n) None set) || end_seen (last_tag None set) (within e tag n)) || seen_items e tag (suc n) rest

pub either_none : (bs : List Bool) (es : List Edit) → either bs (map (λ e. false) es) ≡ bs
either_none [] es = refl
either_none (b ∷ bs) [] = refl
either_none (b ∷ bs) (e ∷ es) = cons_alike (b || false) b _ bs (or_none b) (either_none bs es)
  where
    or_none : (b : Bool) → (b || false) ≡ b
    or_none true = refl
    or_none false = refl

    cons_alike : (x y : Bool) (xs ys : List Bool) → x ≡ y → xs ≡ ys → x ∷ xs ≡ y ∷ ys
    cons_alike x y xs ys p q = cc

or_more : (b x y z : Bool) → (x || y) ≡ z → ((b || x) || y) ≡ (b || z)
or_more true x y z e = refl
or_more false x y z e = e

pub either_twice : (bs : List Bool) (es : List Edit) (f g h : Edit → Bool) → ((e : Edit) → (f e || g e) ≡ h e) → either (either bs (map f es)) (map g es) ≡ either bs (map h es)
either_twice [] es f g h p = refl
either_twice (b ∷ bs) [] f g h p = refl
either_twice (b ∷ bs) (e ∷ es) f g h p = bits_alike _ _ _ _ (or_more b (f e) (g e) (h e) (p e)) (either_twice bs es f g h p)

pub map_within : (es : List Edit) (tag : Tag) (n : ℕ) (f : Edit → Bool) → map f (all_within es tag n) ≡ map (λ e. f (within e tag n)) es
map_within [] tag n f = refl
map_within (e ∷ es) tag n f = ap (λ (bs : List Bool). f (within e tag n) ∷ bs) (map_within es tag n f)

pub either_within : (bs : List Bool) (es : List Edit) (tag : Tag) (n : ℕ) (f g h : Edit → Bool) → ((e : Edit) → (f e || g (within e tag n)) ≡ h e)
    → either (either bs (map f es)) (map g (all_within es tag n)) ≡ either bs (map h es)
either_within bs es tag n f g h p =
    ap (λ (x : List Bool). either (either bs (map f es)) x) (map_within es tag n g) ∙ either_twice bs es f (λ e. g (within e tag n)) h p

pub or_four : (a b c d : Bool) → (((a || b) || c) || d) ≡ (a || b || c || d)
or_four true b c d = refl
or_four false true c d = refl
or_four false false c d = refl

pub seen_item : (bs : List Bool) (es : List Edit) (tag : Tag) (n : ℕ) (declared : Length) (set : Trees) (rest : Items)
    → either (either (either (either bs (map (λ e. item_seen e tag n) es)) (map (λ e. seen e None set) (all_within es tag n))) (map (end_seen (last_tag None set)) (all_within es tag n)))
    (map (λ e. seen_items e tag (suc n) rest) es)
    ≡ either bs (map (λ e. seen_items e tag n (item declared set rest)) es)
seen_item bs es tag n declared set rest =
    let one : Edit → Bool = λ e. item_seen e tag n || seen (within e tag n) None set in
    ap (λ (y : List Bool). either (either y (map (end_seen (last_tag None set)) (all_within es tag n))) (map (λ e. seen_items e tag (suc n) rest) es))
    (either_within bs es tag n (λ e. item_seen e tag n) (λ e. seen e None set) one (λ e. refl))
    ∙ ap (λ (y : List Bool). either y (map (λ e. seen_items e tag (suc n) rest) es))
    (either_within bs es tag n one (end_seen (last_tag None set)) (λ e. one e || end_seen (last_tag None set) (within e tag n)) (λ e. refl))
    ∙ either_twice bs es (λ e. one e || end_seen (last_tag None set) (within e tag n)) (λ e. seen_items e tag (suc n) rest) (λ e. seen_items e tag n (item declared set rest)) (λ e. refl)

-- ---- what is dropped

pub end_head : (d : ℕ) (b : Bool) → dropped_after_end (dropped_unbounded d b) ≡ d
end_head zero true = refl
end_head zero false = refl
end_head (suc d) b = refl

-- ---- the states

pub fold_bytes : (u : List ℕ) (s : State) (x : List Atom) → fold next_unbounded s (map value_byte u ++ x) ≡ fold next_unbounded s x
fold_bytes [] s x = refl
fold_bytes (b ∷ u) s x = fold_bytes u s x

pub fold_fragments : (values : List (List ℕ)) (es : List Edit) (last : Option Tag) (n : ℕ) (up : List Level) (d : ℕ) (bs : List Bool) (x : List Atom)
    → fold next_unbounded (at es last n up d bs) (fragments_then values x) ≡ fold next_unbounded (at es last n up d bs) x
unfolding fragments_then
fold_fragments [] es last n up d bs x = refl
fold_fragments (value ∷ values) es last n up d bs x =
    fold_bytes value (at es last n up (dropped_unbounded d false) bs) (closes_leaf ∷ fragments_then values x)
    ∙ ap (λ (k : ℕ). fold next_unbounded (at es last n up k bs) (fragments_then values x)) (end_head d false)
    ∙ fold_fragments values es last n up d bs x

mutual
  unfolding ShowTrees last_tag

  pub fold_trees : (set : Trees) (es : List Edit) (last : Option Tag) (n : ℕ) (up : List Level) (d : ℕ) (bs : List Bool) (atoms after : List Atom) → ShowTrees set atoms after
      → fold next_unbounded (at es last n up d bs) atoms ≡ fold next_unbounded (at es (last_tag last set) (last_count n set) up d (either bs (map (λ e. seen e last set) es))) after
  fold_trees no_tree es last n up d bs atoms after p =
      ap (λ (x : List Atom). fold next_unbounded (at es last n up d bs) x) p
      ∙ ap (λ (y : List Bool). fold next_unbounded (at es last n up d y) after) (sym (either_none bs es))
  fold_trees (leaf tag vr value rest) es last n up d bs atoms after (s, others, fo, is, more) =
      ap (λ (x : List Atom). fold next_unbounded (at es last n up d bs) x) is
      ∙ fold_bytes (order s vr value) _ (closes_leaf ∷ others)
      ∙ ap (λ (k : ℕ). fold next_unbounded (at es (Some tag) 0 up k (either bs (map (λ e. head_seen e last tag) es))) others) (end_head d (acts (first_fate es tag)))
      ∙ fold_trees rest es (Some tag) 0 up d (either bs (map (λ e. head_seen e last tag) es)) others after more
      ∙ ap (λ (y : List Bool). fold next_unbounded (at es (last_tag (Some tag) rest) (last_count 0 rest) up d y) after)
      (either_twice bs es (λ e. head_seen e last tag) (λ e. seen e (Some tag) rest) (λ e. seen e last (leaf tag vr value rest)) (λ e. refl))
  fold_trees (sequence tag vr declared items rest) es last n up d bs atoms after (s, contents, others, fo, is, inner, more) =
      let bs1 : List Bool = either bs (map (λ e. head_seen e last tag) es) in
      let bs2 : List Bool = either bs1 (map (λ e. seen_items e tag 0 items) es) in
      ap (λ (x : List Atom). fold next_unbounded (at es last n up d bs) x) is
      ∙ fold_items items es tag 0 up (dropped_unbounded d (acts (first_fate es tag))) bs1 contents (closes_sequence ∷ others) inner
      ∙ ap (λ (k : ℕ). fold next_unbounded (at es (Some tag) (items_after 0 items) up k bs2) others) (end_head d (acts (first_fate es tag)))
      ∙ fold_trees rest es (Some tag) (items_after 0 items) up d bs2 others after more
      ∙ ap (λ (y : List Bool). fold next_unbounded (at es (last_tag (Some tag) rest) (last_count (items_after 0 items) rest) up d y) after)
      (ap (λ (y : List Bool). either y (map (λ e. seen e (Some tag) rest) es)) (either_twice bs es (λ e. head_seen e last tag) (λ e. seen_items e tag 0 items) (λ e. head_seen e last tag || seen_items e tag 0 items) (λ e. refl))
      ∙ either_twice bs es (λ e. head_seen e last tag || seen_items e tag 0 items) (λ e. seen e (Some tag) rest) (λ e. seen e last (sequence tag vr declared items rest))
      (λ e. refl))
  fold_trees (fragments tag vr values rest) es last n up d bs atoms after (s, others, fo, is, more) =
      ap (λ (x : List Atom). fold next_unbounded (at es last n up d bs) x) is
      ∙ fold_fragments values es (Some tag) 0 up (dropped_unbounded d (acts (first_fate es tag))) (either bs (map (λ e. head_seen e last tag) es)) (closes_sequence ∷ others)
      ∙ ap (λ (k : ℕ). fold next_unbounded (at es (Some tag) 0 up k (either bs (map (λ e. head_seen e last tag) es))) others) (end_head d (acts (first_fate es tag)))
      ∙ fold_trees rest es (Some tag) 0 up d (either bs (map (λ e. head_seen e last tag) es)) others after more
      ∙ ap (λ (y : List Bool). fold next_unbounded (at es (last_tag (Some tag) rest) (last_count 0 rest) up d y) after)
      (either_twice bs es (λ e. head_seen e last tag) (λ e. seen e (Some tag) rest) (λ e. seen e last (fragments tag vr values rest)) (λ e. refl))

  pub fold_items : (items : Items) (es : List Edit) (tag : Tag) (n : ℕ) (up : List Level) (d : ℕ) (bs : List Bool) (atoms after : List Atom) → ShowItems items atoms after
      → fold next_unbounded (at es (Some tag) n up d bs) atoms ≡ fold next_unbounded (at es (Some tag) (items_after n items) up d (either bs (map (λ e. seen_items e tag n items) es))) after
  fold_items no_item es tag n up d bs atoms after p =
      ap (λ (x : List Atom). fold next_unbounded (at es (Some tag) n up d bs) x) p
      ∙ ap (λ (y : List Bool). fold next_unbounded (at es (Some tag) n up d y) after) (sym (either_none bs es))
  fold_items (item declared set rest) es tag n up d bs atoms after (contents, others, is, inner, more) =
      let es1 : List Edit = all_within es tag n in
      let bs1 : List Bool = either bs (map (λ e. item_seen e tag n) es) in
      let bs2 : List Bool = either (either bs1 (map (λ e. seen e None set) es1)) (map (end_seen (last_tag None set)) es1) in
      ap (λ (x : List Atom). fold next_unbounded (at es (Some tag) n up d bs) x) is
      ∙ fold_trees set es1 None 0 (level es (Some tag) (suc n) ∷ up) (dropped_unbounded d (any_erases es tag n)) bs1 contents (closes_item ∷ others) inner
      ∙ ap (λ (k : ℕ). fold next_unbounded (at es (Some tag) (suc n) up k bs2) others) (end_head d (any_erases es tag n))
      ∙ fold_items rest es tag (suc n) up d bs2 others after more
      ∙ ap (λ (y : List Bool). fold next_unbounded (at es (Some tag) (items_after (suc n) rest) up d y) after)
      (seen_item bs es tag n declared set rest)

-- ---- what is passed on within what is dropped

pub dropped_bytes : (u : List ℕ) (es : List Edit) (last : Option Tag) (n : ℕ) (up : List Level) (d : ℕ) (bs : List Bool) (x : List Atom)
    → out (at es last n up (suc d) bs) (map value_byte u ++ x) ≡ out (at es last n up (suc d) bs) x
dropped_bytes [] es last n up d bs x = refl
dropped_bytes (b ∷ u) es last n up d bs x = dropped_bytes u es last n up d bs x

pub dropped_fragments : (values : List (List ℕ)) (es : List Edit) (last : Option Tag) (n : ℕ) (up : List Level) (d : ℕ) (bs : List Bool) (x : List Atom)
    → out (at es last n up (suc d) bs) (fragments_then values x) ≡ out (at es last n up (suc d) bs) x
unfolding fragments_then
dropped_fragments [] es last n up d bs x = refl
dropped_fragments (value ∷ values) es last n up d bs x =
    dropped_bytes value es last n up (suc d) bs (closes_leaf ∷ fragments_then values x)
    ∙ dropped_fragments values es last n up d bs x

mutual
  unfolding ShowTrees last_tag

  pub dropped_trees : (set : Trees) (es : List Edit) (last : Option Tag) (n : ℕ) (up : List Level) (d : ℕ) (bs : List Bool) (atoms after : List Atom) → ShowTrees set atoms after
      → out (at es last n up (suc d) bs) atoms ≡ out (at es (last_tag last set) (last_count n set) up (suc d) (either bs (map (λ e. seen e last set) es))) after
  dropped_trees no_tree es last n up d bs atoms after p =
      ap (λ (x : List Atom). out (at es last n up (suc d) bs) x) p
      ∙ ap (λ (y : List Bool). out (at es last n up (suc d) y) after) (sym (either_none bs es))
  dropped_trees (leaf tag vr value rest) es last n up d bs atoms after (s, others, fo, is, more) =
      ap (λ (x : List Atom). out (at es last n up (suc d) bs) x) is
      ∙ dropped_bytes (order s vr value) es (Some tag) 0 up (suc d) (either bs (map (λ e. head_seen e last tag) es)) (closes_leaf ∷ others)
      ∙ dropped_trees rest es (Some tag) 0 up d (either bs (map (λ e. head_seen e last tag) es)) others after more
      ∙ ap (λ (y : List Bool). out (at es (last_tag (Some tag) rest) (last_count 0 rest) up (suc d) y) after)
      (either_twice bs es (λ e. head_seen e last tag) (λ e. seen e (Some tag) rest) (λ e. seen e last (leaf tag vr value rest)) (λ e. refl))
  dropped_trees (sequence tag vr declared items rest) es last n up d bs atoms after (s, contents, others, fo, is, inner, more) =
      let bs1 : List Bool = either bs (map (λ e. head_seen e last tag) es) in
      let bs2 : List Bool = either bs1 (map (λ e. seen_items e tag 0 items) es) in
      ap (λ (x : List Atom). out (at es last n up (suc d) bs) x) is
      ∙ dropped_items items es tag 0 up (suc d) bs1 contents (closes_sequence ∷ others) inner
      ∙ dropped_trees rest es (Some tag) (items_after 0 items) up d bs2 others after more
      ∙ ap (λ (y : List Bool). out (at es (last_tag (Some tag) rest) (last_count (items_after 0 items) rest) up (suc d) y) after)
      (ap (λ (y : List Bool). either y (map (λ e. seen e (Some tag) rest) es)) (either_twice bs es (λ e. head_seen e last tag) (λ e. seen_items e tag 0 items) (λ e. head_seen e last tag || seen_items e tag 0 items) (λ e. refl))
      ∙ either_twice bs es (λ e. head_seen e last tag || seen_items e tag 0 items) (λ e. seen e (Some tag) rest) (λ e. seen e last (sequence tag vr declared items rest))
      (λ e. refl))
  dropped_trees (fragments tag vr values rest) es last n up d bs atoms after (s, others, fo, is, more) =
      ap (λ (x : List Atom). out (at es last n up (suc d) bs) x) is
      ∙ dropped_fragments values es (Some tag) 0 up (suc d) (either bs (map (λ e. head_seen e last tag) es)) (closes_sequence ∷ others)
      ∙ dropped_trees rest es (Some tag) 0 up d (either bs (map (λ e. head_seen e last tag) es)) others after more
      ∙ ap (λ (y : List Bool). out (at es (last_tag (Some tag) rest) (last_count 0 rest) up (suc d) y) after)
      (either_twice bs es (λ e. head_seen e last tag) (λ e. seen e (Some tag) rest) (λ e. seen e last (fragments tag vr values rest)) (λ e. refl))

  pub dropped_items : (items : Items) (es : List Edit) (tag : Tag) (n : ℕ) (up : List Level) (d : ℕ) (bs : List Bool) (atoms after : List Atom) → ShowItems items atoms after
      → out (at es (Some tag) n up (suc d) bs) atoms ≡ out (at es (Some tag) (items_after n items) up (suc d) (either bs (map (λ e. seen_items e tag n items) es))) after
  dropped_items no_item es tag n up d bs atoms after p =
      ap (λ (x : List Atom). out (at es (Some tag) n up (suc d) bs) x) p
      ∙ ap (λ (y : List Bool). out (at es (Some tag) n up (suc d) y) after) (sym (either_none bs es))
  dropped_items (item declared set rest) es tag n up d bs atoms after (contents, others, is, inner, more) =
      let es1 : List Edit = all_within es tag n in
      let bs1 : List Bool = either bs (map (λ e. item_seen e tag n) es) in
      let bs2 : List Bool = either (either bs1 (map (λ e. seen e None set) es1)) (map (end_seen (last_tag None set)) es1) in
      ap (λ (x : List Atom). out (at es (Some tag) n up (suc d) bs) x) is
      ∙ dropped_trees set es1 None 0 (level es (Some tag) (suc n) ∷ up) (suc d) bs1 contents (closes_item ∷ others) inner
      ∙ dropped_items rest es tag (suc n) up d bs2 others after more
      ∙ ap (λ (y : List Bool). out (at es (Some tag) (items_after (suc n) rest) up (suc d) y) after)
      (seen_item bs es tag n declared set rest)
