-- One step of a file that is built, in its fixed room and in the book.
use Rattle.std.proofs.Common.{◌≡◌, ◌∙◌, ap, sym, refl, subst, ℕ, zero, suc, ◌+◌, ◌≤◌, List, [], ◌∷◌, ◌++◌, length, append_assoc, cond, Option, Some, None, Bool, true, false, ◌&&◌, ◌||◌, not, arith}
use Rattle.std.specs.Prelude.{unwrap_or, fold, replicate, nat_le, nat_lt, is_none, Result, Ok, Err}
use Rattle.std.proofs.lemmas.Bool.{leb-false}
use Rattle.std.proofs.lemmas.List.{append-nil}
use Rattle.std.proofs.lemmas.List.Sums.{fold-append}
use Rattle.dcm_base.specs.declared.tag.Tag.{Tag}
use Rattle.dcm_base.specs.declared.vr.Vr.{Vr}
use Rattle.dcm_base.specs.declared.level.Container.{Container}
use Rattle.dcm_base.specs.declared.syntax.Coding.{Coding}
use Rattle.dcm_base.specs.Tables.Syntax.{Little}
use Rattle.dcm_base.specs.declared.length.Length.{Length}
use Rattle.dcm_base.specs.declared.length.Length.TheVariants.{Known, Undefined}
use Rattle.dcm_base.specs.declared.form.Form.{Form}
use Rattle.dcm_base.specs.declared.form.Form.TheVariants.{Value as a_value, Sequence as a_sequence, FragmentList as a_fragment_list}
use Rattle.dcm_base.specs.declared.fault.LineFault.{LineFault}
use Rattle.dcm_base.specs.declared.fault.LineFault.TheVariants.{NotAllowed, NotAscending, ValueDoesNotFit, TooDeep, BadMetaGroup, NoTransferSyntax}
use Rattle.dcm_base.specs.Steps.Atoms.{Atom, opens, value_byte, closes_leaf, opens_item, closes_item, closes_sequence, opens_fragment}
use Rattle.dcm_base.specs.Reading.Bars.{innermost_reached}
use Rattle.dcm_base.specs.Lines.Build as build
use Rattle.dcm_base.specs.Lines.Build.{Built, Refused, refused, first_fault, has_place_in, is_meta, is_opening, is_fragment_opening, allows_fragments, is_after, element_tag, lacks_value, coding_or_little, named_syntax, named_coding, no_elements, innermost, open_levels, with_step, built_bytes}
use Rattle.dcm_base.specs.Tree.Front.{Front}
use Rattle.dcm_base.specs.Lines.Line.{Step, show_leaf, begin_sequence, begin_fragments, begin_item, show_fragment, end_item, end_sequence, Meaning, nothing, one, by_characters, no_line}
use Rattle.dcm_base.specs.File.MetaGroup.{META_LIMIT}
use Rattle.dcm_base.specs.File.MetaReads.{PREFIX}
use Rattle.dcm_base.specs.Conversion.NewMeta.{new_meta}
use Rattle.dcm_base.specs.Reading.Place.{depth}
use Rattle.dcm_base.specs.Reading.Size.{trees_size}
use Rattle.dcm_base.specs.Bytes.Spelling.{form}
use Rattle.dcm_base.specs.Steps.Steps.{outputs}
use Rattle.dcm_base.specs.Reading.Stop.{opens_list}
use Rattle.dcm_base.specs.Tree.Tree.{Trees, no_tree, leaf, then_trees}
use Rattle.dcm_base.proofs.Writes.Runs.{outputs-append}
use Rattle.dcm_build.specs.declared.open_containers.Open.{Open}
use Rattle.dcm_build.specs.declared.open_containers.Open.TheVariants.{Sequence, FragmentList, Item}
use Rattle.dcm_build.specs.Building as steps
use Rattle.dcm_build.specs.Building.{BuildState, value_atoms, step_atoms, file_start, shown_size, meta_over, ends_meta, taken, taken_writes, placed, placed_writes, shows, shows_writes, tells, meaning_taken, meaning_writes}
use Rattle.dcm_sinks.specs.EncodeSink.{EncodeState, encode_start, encode_step, encode_writes}
use Rattle.dcm_sinks.specs.Laws.{lists_behind}
use Rattle.dcm_build.specs.NewGroup.{trees_of}
use Rattle.dcm_build.specs.OpenContainers.{OpenContainers, container_of, reached_in, lists_open, reaching, standing_with}
use Rattle.dcm_build.proofs.Lines.Forms.{MeansForm}
use Rattle.dcm_build.proofs.Files.Meta.{one_shown, trees_more}
use Rattle.dcm_build.proofs.Files.Shows.{HasForm, HasValue, Grown, all_grown, none_grown}
use Rattle.dcm_build.proofs.Files.OpenContainers.{HasPlace, standing_in, standing_of, all_alike, all_reached, all_stands}
use Rattle.dcm_sinks.proofs.Conversions.DataSets.{encode_steps}
use Rattle.dcm_sinks.proofs.ReadBack.Shallow.{Leads, leads_nowhere, leads_more, leads_both, leads_within}

-- ---- how many lists are open behind the atoms of a step

leads_to : (n m k : ℕ) (atoms : List Atom) → Leads n atoms m → m ≡ k → Leads n atoms k
leads_to n m k atoms l e = subst (λ (x : ℕ). Leads n atoms x) e l

value_leads : (n : ℕ) (v : List ℕ) → n ≤ 64 → Leads n (value_atoms v) n
value_leads n [] h = leads_more n n n closes_leaf [] h refl (leads_nowhere n h)
value_leads n (b ∷ bs) h = leads_more n n n (value_byte b) (value_atoms bs) h refl (value_leads n bs h)

reaching_lists : (tag : Tag) (top : Option Tag) (open_now : List Open) → lists_open (reaching tag (record { reached = top; containers = open_now })).containers ≡ lists_open open_now
reaching_lists tag top [] = refl
reaching_lists tag top (Sequence ∷ outer) = refl
reaching_lists tag top (FragmentList ∷ outer) = refl
reaching_lists tag top (Item reached ∷ outer) = refl

opened_leads : (n : ℕ) (f : Form) (tag : Tag) (vr : Vr) (declared : Length) (rest : List Atom) (m : ℕ) → n ≤ 64 → form Little vr declared ≡ f → Leads (cond (opens_list f) (suc n) n) rest m → Leads n (opens tag vr declared Little ∷ rest) m
opened_leads n f tag vr declared rest m h e l = leads_more n (cond (opens_list f) (suc n) n) m (opens tag vr declared Little) rest h (ap (λ (g : Form). cond (opens_list g) (suc n) n) e) l

item_left : (top : Option Tag) (open_now : List Open) → has_place_in (container_of open_now) end_item ≡ true → lists_open open_now ≡ lists_open (standing_with end_item (record { reached = top; containers = open_now })).containers
item_left top [] h = absurd (cc)
item_left top (Sequence ∷ outer) h = absurd (cc)
item_left top (FragmentList ∷ outer) h = absurd (cc)
item_left top (Item reached ∷ outer) h = refl

list_left : (top : Option Tag) (open_now : List Open) → has_place_in (container_of open_now) end_sequence ≡ true → lists_behind (lists_open open_now) closes_sequence ≡ lists_open (standing_with end_sequence (record { reached = top; containers = open_now })).containers
list_left top [] h = absurd (cc)
list_left top (Sequence ∷ outer) h = refl
list_left top (FragmentList ∷ outer) h = refl
list_left top (Item reached ∷ outer) h = absurd (cc)

one_leads : (n m : ℕ) (a : Atom) → n ≤ 64 → m ≤ 64 → lists_behind n a ≡ m → Leads n (a ∷ []) m
one_leads n m a h k e = leads_more n m m a [] h e (leads_nowhere m k)

step_leads : (step : Step) (st : OpenContainers) → HasForm step → HasValue step → HasPlace step st → lists_open st.containers ≤ 64 → (is_opening step && nat_le 64 (lists_open st.containers)) ≡ false
    → Leads (lists_open st.containers) (step_atoms step) (lists_open (standing_with step st).containers)
step_leads (show_leaf tag vr None) st f v h l d = absurd v
step_leads (show_leaf tag vr (Some value)) st f v h l d =
    let n : ℕ = lists_open st.containers in
    leads_to n n _ _ (opened_leads n a_value tag vr (Known (length value)) (value_atoms value) n l (f (length value)) (value_leads n value l)) (sym (reaching_lists tag st.reached st.containers))
step_leads (begin_sequence tag vr) st f v h l d =
    let n : ℕ = lists_open st.containers in
    let lt = leb-false 64 n d in
    leads_to n (suc n) _ _ (opened_leads n a_sequence tag vr Undefined [] (suc n) l f (leads_nowhere (suc n) (omega arith))) (ap suc (sym (reaching_lists tag st.reached st.containers)))
step_leads (begin_fragments tag vr) st f v h l d =
    let n : ℕ = lists_open st.containers in
    let lt = leb-false 64 n d in
    leads_to n (suc n) _ _ (opened_leads n a_fragment_list tag vr Undefined [] (suc n) l f (leads_nowhere (suc n) (omega arith))) (ap suc (sym (reaching_lists tag st.reached st.containers)))
step_leads begin_item st f v h l d = one_leads (lists_open st.containers) (lists_open st.containers) (opens_item Undefined) l l refl
step_leads (show_fragment None) st f v h l d = absurd v
step_leads (show_fragment (Some value)) st f v h l d =
    let n : ℕ = lists_open st.containers in leads_more n n n (opens_fragment (length value)) (value_atoms value) l refl (value_leads n value l)
step_leads end_item st f v h l d =
    let n : ℕ = lists_open st.containers in leads_to n n _ _ (one_leads n n closes_item l l refl) (item_left st.reached st.containers h)
step_leads end_sequence st f v h l d =
    let n : ℕ = lists_open st.containers in
    let m : ℕ = lists_behind n closes_sequence in
    leads_to n m _ _ (one_leads n m closes_sequence l (less n l) refl) (list_left st.reached st.containers h)
  where
    less : (n : ℕ) → n ≤ 64 → lists_behind n closes_sequence ≤ 64
    less zero l = l
    less (suc n) l = omega arith

-- ---- the state and what the lines have built

-- the atoms of the data set, which are written behind the meta group
pub record Sent (f : Front) (s : BuildState) (out : List ℕ) : Type 0 where
  pub atoms : List Atom
  pub grown : Grown f atoms
  pub leads : Leads 0 atoms (lists_open (standing_of f).containers)
  pub encoding : s.encoding ≡ fold encode_step (encode_start (coding_or_little (named_coding (trees_of s.meta)))) atoms
  pub written : out ≡ file_start s ++ outputs encode_step encode_writes (encode_start (coding_or_little (named_coding (trees_of s.meta)))) atoms

-- before the end of the meta group there is nothing of it
abbrev pub IsSent : Bool → Front → BuildState → List ℕ → Type 0
IsSent false f s out = (f ≡ no_elements) × (out ≡ [])
IsSent true f s out = Sent f s out

pub record Stands (b : Built) (s : BuildState) (out : List ℕ) : Type 0 where
  pub meta : trees_of s.meta ≡ b.meta
  pub ended : s.meta_ended ≡ b.meta_ended
  pub standing : s.standing ≡ standing_of b.set
  pub sent : IsSent b.meta_ended b.set s out

abbrev pub mk : Trees → Bool → Front → Built
mk meta ended set = record { meta = meta; meta_ended = ended; set = set }

-- ---- what is written is what they have built

pub stands_bytes : (b : Built) (s : BuildState) (out : List ℕ) → Stands b s out → out ≡ built_bytes b
stands_bytes b s out h = by_end b.meta b.meta_ended b.set h
  where
    by_end : (meta : Trees) (ended : Bool) (set : Front) → Stands (mk meta ended set) s out → out ≡ built_bytes (mk meta ended set)
    by_end meta false set h = h.sent.1
    by_end meta true set h =
        let w : Sent set s out = h.sent in
        w.written
        ∙ ap (λ (m : Trees). (replicate 128 0 ++ PREFIX ++ new_meta m (named_syntax m)) ++ outputs encode_step encode_writes (encode_start (coding_or_little (named_coding m))) w.atoms) h.meta
        ∙ ap (λ z. (replicate 128 0 ++ PREFIX ++ new_meta meta (named_syntax meta)) ++ z) (encode_steps (coding_or_little (named_coding meta)) set w.atoms w.leads.shallow w.grown.shows)

-- ---- checks

group_list : Step → Bool → Option Coding → List (Bool × LineFault)
group_list step ended coding = (is_meta step && ended, BadMetaGroup) ∷ ((not (is_meta step) && not ended) && is_none coding, NoTransferSyntax) ∷ []

group_checks_alike : (step : Step) (b : Built) (s : BuildState) → s.meta_ended ≡ b.meta_ended → trees_of s.meta ≡ b.meta → build.group_checks step b ≡ steps.group_checks step s
unfolding group_list
group_checks_alike step b s e m = sym (ap (λ x. group_list step x (named_coding (trees_of s.meta))) e ∙ ap (λ (x : Trees). group_list step b.meta_ended (named_coding x)) m)

step_list : Step → Container → Option Tag → ℕ → Option Coding → ℕ → List (Bool × LineFault)
step_list step c reached deep coding size =
    ((not (has_place_in c step) || (is_opening step && is_meta step)) || (is_fragment_opening step && not (allows_fragments coding)), NotAllowed)
    ∷ (not (is_meta step) && not (is_after reached (element_tag step)), NotAscending)
    ∷ (lacks_value step, ValueDoesNotFit)
    ∷ (is_opening step && nat_le 64 deep, TooDeep)
    ∷ (is_meta step && nat_lt META_LIMIT size, BadMetaGroup)
    ∷ []

size_shown : (step : Step) (meta : Trees) → trees_size Little meta + shown_size step ≡ trees_size Little (build.with_meta step meta)
size_shown (show_leaf tag vr value) meta = sym (one_shown meta tag vr (unwrap_or value []))
size_shown (begin_sequence tag vr) meta = omega arith
size_shown (begin_fragments tag vr) meta = omega arith
size_shown begin_item meta = omega arith
size_shown (show_fragment value) meta = omega arith
size_shown end_item meta = omega arith
size_shown end_sequence meta = omega arith

five : {A B C D E F : Type 0} (f : A → B → C → D → E → F) (a a' : A) (b b' : B) (c c' : C) (d d' : D) (e e' : E) → a ≡ a' → b ≡ b' → c ≡ c' → d ≡ d' → e ≡ e' → f a b c d e ≡ f a' b' c' d' e'
five f a a' b b' c c' d d' e e' p q r s t = ap (λ x. f x b c d e) p ∙ ap (λ x. f a' x c d e) q ∙ ap (λ x. f a' b' x d e) r ∙ ap (λ x. f a' b' c' x e) s ∙ ap (λ x. f a' b' c' d' x) t

step_checks_alike : (step : Step) (b : Built) (s : BuildState) (out : List ℕ) → Stands b s out → build.step_checks step b ≡ steps.step_checks step s
unfolding step_list
step_checks_alike step b s out h =
    let alike = all_alike b.set in
    sym (five (step_list step)
    (container_of s.standing.containers) (innermost (open_levels b.set))
    (reached_in s.standing.reached s.standing.containers) (innermost_reached b.set)
    (lists_open s.standing.containers) (depth (open_levels b.set))
    (named_coding (trees_of s.meta)) (named_coding b.meta)
    (trees_size Little (trees_of s.meta) + shown_size step) (trees_size Little (build.with_meta step b.meta))
    (ap (λ (x : OpenContainers). container_of x.containers) h.standing ∙ alike.container)
    (ap (λ (x : OpenContainers). reached_in x.reached x.containers) h.standing ∙ all_reached b.set)
    (ap (λ (x : OpenContainers). lists_open x.containers) h.standing ∙ alike.deep)
    (ap (λ (x : Trees). named_coding x) h.meta)
    (ap (λ (x : Trees). trees_size Little x + shown_size step) h.meta ∙ size_shown step b.meta))

-- where no check fails, this one does not
one_passes : (t : Bool) (fault : LineFault) (more : Option LineFault) → cond t (Some fault) more ≡ None → (t ≡ false) × (more ≡ None)
one_passes true fault more h = absurd (cc)
one_passes false fault more h = (refl, h)

-- what a step's checks say where none fails
pub record Checked (step : Step) (s : BuildState) : Type 0 where
  pub place : HasPlace step s.standing
  pub plain : (is_opening step && is_meta step) ≡ false
  pub valued : lacks_value step ≡ false
  pub shallow : (is_opening step && nat_le 64 (lists_open s.standing.containers)) ≡ false

or_none : (x y z : Bool) → (not x || y) || z ≡ false → (x ≡ true) × (y ≡ false)
or_none true true z h = absurd (cc)
or_none true false z h = (refl, refl)
or_none false y z h = absurd (cc)

all_checked : (step : Step) (s : BuildState) → first_fault (steps.step_checks step s) ≡ None → Checked step s
all_checked step s h =
    let a = one_passes (steps.is_misplaced step s) NotAllowed _ h in
    let b = one_passes (steps.is_out_of_order step s) NotAscending _ a.1 in
    let c = one_passes (lacks_value step) ValueDoesNotFit _ b.1 in
    let d = one_passes (steps.is_too_deep step s) TooDeep _ c.1 in
    let p = or_none (has_place_in (container_of s.standing.containers) step) (is_opening step && is_meta step) _ a.0 in
    record { place = p.0; plain = p.1; valued = c.0; shallow = d.0 }

has_value : (step : Step) → lacks_value step ≡ false → HasValue step
has_value (show_leaf tag vr None) h = absurd (let no : true ≡ false = h in cc)
has_value (show_leaf tag vr (Some v)) h = tt
has_value (begin_sequence tag vr) h = tt
has_value (begin_fragments tag vr) h = tt
has_value begin_item h = tt
has_value (show_fragment None) h = absurd (let no : true ≡ false = h in cc)
has_value (show_fragment (Some v)) h = tt
has_value end_item h = tt
has_value end_sequence h = tt

-- ---- the end of the meta group

pub same_out : (b : Built) (s : BuildState) (out : List ℕ) → Stands b s out → Stands b s (out ++ [])
same_out b s out h = subst (Stands b s) (sym (append-nil out)) h

pub none_sent : (set : Front) (s : BuildState) (out : List ℕ) → set ≡ no_elements → out ≡ [] → Sent set (meta_over s) (out ++ file_start s)
unfolding standing_in
none_sent set s out e o = record {
  atoms = [];
  grown = subst (λ (x : Front). Grown x []) (sym e) none_grown;
  leads = subst (λ (x : Front). Leads 0 [] (lists_open (standing_of x).containers)) (sym e) (leads_nowhere 0 (omega arith));
  encoding = refl;
  written = ap (λ z. z ++ file_start s) o ∙ sym (append-nil (file_start s));
}

group_over : (meta : Trees) (set : Front) (s : BuildState) (out : List ℕ) (ended m e : Bool) → e ≡ ended → Stands (mk meta ended set) s out
    → Stands (mk meta (ended || not m) set) (cond (not m && not e) (meta_over s) s) (out ++ cond (not m && not e) (file_start s) [])
group_over meta set s out true true e q h = same_out (mk meta true set) s out h
group_over meta set s out true false true q h = same_out (mk meta true set) s out h
group_over meta set s out true false false q h = absurd (cc)
group_over meta set s out false true e q h = same_out (mk meta false set) s out h
group_over meta set s out false false true q h = absurd (cc)
group_over meta set s out false false false q h =
    record { meta = h.meta; ended = refl; standing = h.standing; sent = none_sent set s out h.sent.0 h.sent.1 }

in_group_stands : (step : Step) (b : Built) (s : BuildState) (out : List ℕ) → Stands b s out → Stands (build.in_group step b) (steps.in_group step s) (out ++ cond (ends_meta step s) (file_start s) [])
in_group_stands step b s out h = group_over b.meta b.set s out b.meta_ended (is_meta step) s.meta_ended h.ended h

-- ---- a step that no check refuses

meta_stands : (step : Step) (meta : Trees) (set : Front) (s : BuildState) (out : List ℕ) → Stands (mk meta false set) s out → Stands (mk (build.with_meta step meta) false set) (steps.with_meta step s) (out ++ [])
meta_stands (show_leaf tag vr value) meta set s out h =
    let v : List ℕ = unwrap_or value [] in
    record {
      meta = trees_more s.meta tag vr v ∙ ap (λ (x : Trees). then_trees x (leaf tag vr v no_tree)) h.meta;
      ended = h.ended;
      standing = h.standing;
      sent = (h.sent.0, append-nil out ∙ h.sent.1);
    }
meta_stands (begin_sequence tag vr) meta set s out h = same_out (mk meta false set) s out h
meta_stands (begin_fragments tag vr) meta set s out h = same_out (mk meta false set) s out h
meta_stands begin_item meta set s out h = same_out (mk meta false set) s out h
meta_stands (show_fragment value) meta set s out h = same_out (mk meta false set) s out h
meta_stands end_item meta set s out h = same_out (mk meta false set) s out h
meta_stands end_sequence meta set s out h = same_out (mk meta false set) s out h

set_stands : (step : Step) (meta : Trees) (set : Front) (s : BuildState) (out : List ℕ) → Stands (mk meta true set) s out → Checked step s → HasForm step
    → Stands (mk meta true (with_step step set)) (steps.with_set step s) (out ++ outputs encode_step encode_writes s.encoding (step_atoms step))
set_stands step meta set s out h c f =
    let w : Sent set s out = h.sent in
    let start : EncodeState = encode_start (coding_or_little (named_coding (trees_of s.meta))) in
    let more : List Atom = step_atoms step in
    let v : HasValue step = has_value step c.valued in
    let place : HasPlace step (standing_of set) = subst (HasPlace step) h.standing c.place in
    let stands : standing_of (with_step step set) ≡ standing_with step (standing_of set) = all_stands step set w.grown.built place in
    let deep : lists_open (standing_of set).containers ≤ 64 = leads_within 0 (lists_open (standing_of set).containers) w.atoms w.leads in
    let shallow : (is_opening step && nat_le 64 (lists_open (standing_of set).containers)) ≡ false = subst (λ (x : OpenContainers). (is_opening step && nat_le 64 (lists_open x.containers)) ≡ false) h.standing c.shallow in
    record {
      meta = h.meta;
      ended = h.ended;
      standing = ap (λ (x : OpenContainers). standing_with step x) h.standing ∙ sym stands;
      sent = record {
        atoms = w.atoms ++ more;
        grown = all_grown step set w.atoms f v place w.grown;
        leads =
            leads_to 0 (lists_open (standing_with step (standing_of set)).containers) (lists_open (standing_of (with_step step set)).containers) (w.atoms ++ more)
            (leads_both 0 (lists_open (standing_of set).containers) (lists_open (standing_with step (standing_of set)).containers) w.atoms more w.leads (step_leads step (standing_of set) f v place deep shallow))
            (ap (λ (x : OpenContainers). lists_open x.containers) (sym stands));
        encoding = ap (λ (x : EncodeState). fold encode_step x more) w.encoding ∙ sym (fold-append encode_step start w.atoms more);
        written =
            ap (λ z. z ++ outputs encode_step encode_writes s.encoding more) w.written
            ∙ append_assoc (file_start s) (outputs encode_step encode_writes start w.atoms) (outputs encode_step encode_writes s.encoding more)
            ∙ ap (λ (x : EncodeState). file_start s ++ (outputs encode_step encode_writes start w.atoms ++ outputs encode_step encode_writes x more)) w.encoding
            ∙ ap (λ z. file_start s ++ z) (sym (outputs-append encode_step encode_writes start w.atoms more));
      };
    }

accepted_stands : (m : Bool) (step : Step) (meta : Trees) (set : Front) (s : BuildState) (out : List ℕ) → Stands (mk meta (not m) set) s out → Checked step s → HasForm step
    → Stands (cond m (mk (build.with_meta step meta) (not m) set) (mk meta (not m) (with_step step set))) (cond m (steps.with_meta step s) (steps.with_set step s)) (out ++ cond m [] (outputs encode_step encode_writes s.encoding (step_atoms step)))
accepted_stands true step meta set s out h c f = meta_stands step meta set s out h
accepted_stands false step meta set s out h c f = set_stands step meta set s out h c f

taken_stands : (step : Step) (b : Built) (s : BuildState) (out : List ℕ) → b.meta_ended ≡ not (is_meta step) → Stands b s out → Checked step s → HasForm step → Stands (build.accepted step b) (taken step s) (out ++ taken_writes step s)
taken_stands step b s out e h c f =
    subst (λ (x : Bool). Stands (cond (is_meta step) (mk (build.with_meta step b.meta) x b.set) (mk b.meta x (with_step step b.set))) (taken step s) (out ++ taken_writes step s)) (sym e)
    (accepted_stands (is_meta step) step b.meta b.set s out (subst (λ (x : Bool). Stands (mk b.meta x b.set) s out) e h) c f)

-- ---- a step with its checks

-- the same place in the input
pub record SamePlace (s before : BuildState) : Type 0 where
  pub told : s.told ≡ before.told
  pub line : s.line ≡ before.line
  pub offset : s.offset ≡ before.offset
  pub number : s.number ≡ before.number
  pub limit : s.limit ≡ before.limit

pub stays_there : (s : BuildState) → SamePlace s s
stays_there s = record { told = refl; line = refl; offset = refl; number = refl; limit = refl }

place_twice : (s t u : BuildState) → SamePlace s t → SamePlace t u → SamePlace s u
place_twice s t u a b = record { told = a.told ∙ b.told; line = a.line ∙ b.line; offset = a.offset ∙ b.offset; number = a.number ∙ b.number; limit = a.limit ∙ b.limit }

meta_place : (step : Step) (s : BuildState) → SamePlace (steps.with_meta step s) s
meta_place (show_leaf tag vr value) s = record { told = refl; line = refl; offset = refl; number = refl; limit = refl }
meta_place (begin_sequence tag vr) s = stays_there s
meta_place (begin_fragments tag vr) s = stays_there s
meta_place begin_item s = stays_there s
meta_place (show_fragment value) s = stays_there s
meta_place end_item s = stays_there s
meta_place end_sequence s = stays_there s

taken_place : (m : Bool) (step : Step) (s : BuildState) → SamePlace (cond m (steps.with_meta step s) (steps.with_set step s)) s
taken_place true step s = meta_place step s
taken_place false step s = record { told = refl; line = refl; offset = refl; number = refl; limit = refl }

group_place : (m : Bool) (s : BuildState) → SamePlace (cond m (meta_over s) s) s
group_place true s = record { told = refl; line = refl; offset = refl; number = refl; limit = refl }
group_place false s = stays_there s

-- what a step or a line has built goes on at the same place, or is refused there
abbrev pub Follows : Result Built Refused → BuildState → BuildState → List ℕ → Type 0
Follows (Ok b) before s out = Stands b s out × SamePlace s before
Follows (Err r) before s out = (s.told ≡ Some (record { fault = r.fault; offset = before.offset; line = before.number })) × (out ≡ built_bytes r.built)

first_follows : (r : Option LineFault) (b : Built) (x : Result Built Refused) (before s y : BuildState) (out z : List ℕ) → Stands b s out → SamePlace s before → (r ≡ None → Follows x before y (out ++ z))
    → Follows (elim r [ Some fault ↦ refused fault b | None ↦ x ]) before (elim r [ Some fault ↦ tells fault s | None ↦ y ]) (out ++ elim r [ Some fault ↦ [] | None ↦ z ])
first_follows None b x before s y out z h p more = more refl
first_follows (Some fault) b x before s y out z h p more =
    (ap (λ (k : ℕ). Some (record { fault = fault; offset = k; line = s.number })) p.offset ∙ ap (λ (k : ℕ). Some (record { fault = fault; offset = before.offset; line = k })) p.number, append-nil out ∙ stands_bytes b s out h)

placed_follows : (step : Step) (b : Built) (s before : BuildState) (out : List ℕ) → b.meta_ended ≡ not (is_meta step) → HasForm step → Stands b s out → SamePlace s before → Follows (build.checked step b) before (placed step s) (out ++ placed_writes step s)
placed_follows step b s before out e f h p =
    subst (λ (r : Option LineFault). Follows (elim r [ Some fault ↦ refused fault b | None ↦ Ok (build.accepted step b) ]) before (placed step s) (out ++ placed_writes step s)) (ap first_fault (sym (step_checks_alike step b s out h)))
    (first_follows (first_fault (steps.step_checks step s)) b (Ok (build.accepted step b)) before s (taken step s) out (taken_writes step s) h p
    (λ none. (taken_stands step b s out e h (all_checked step s none) f, place_twice (taken step s) s before (taken_place (is_meta step) step s) p)))

over_by : (m t : Bool) → m && t ≡ false → t || not m ≡ not m
over_by true true h = absurd (cc)
over_by true false h = refl
over_by false true h = refl
over_by false false h = refl

pub shown_follows : (step : Step) (b : Built) (s : BuildState) (out : List ℕ) → HasForm step → Stands b s out → Follows (build.with_shown step b) s (shows step s) (out ++ shows_writes step s)
shown_follows step b s out f h =
    let first : List ℕ = cond (ends_meta step s) (file_start s) [] in
    let inner : BuildState = steps.in_group step s in
    subst (λ (r : Option LineFault). Follows (elim r [ Some fault ↦ refused fault b | None ↦ build.checked step (build.in_group step b) ]) s (shows step s) (out ++ shows_writes step s)) (ap first_fault (sym (group_checks_alike step b s h.ended h.meta)))
    (first_follows (first_fault (steps.group_checks step s)) b (build.checked step (build.in_group step b)) s s (placed step inner) out (first ++ placed_writes step inner) h (stays_there s)
    (λ none.
    let ended : (is_meta step && b.meta_ended) ≡ false = ap (λ x. is_meta step && x) (sym h.ended) ∙ (one_passes (is_meta step && s.meta_ended) BadMetaGroup _ none).0 in
    subst (λ z. Follows (build.checked step (build.in_group step b)) s (placed step inner) z) (append_assoc out first (placed_writes step inner))
    (placed_follows step (build.in_group step b) inner s (out ++ first) (over_by (is_meta step) b.meta_ended ended) f (in_group_stands step b s out h) (group_place (ends_meta step s) s))))

-- ---- what a line means

pub meaning_follows : (m : Meaning) (b : Built) (s : BuildState) (out : List ℕ) → MeansForm m → Stands b s out → Follows (build.with_meaning m b) s (meaning_taken m s) (out ++ meaning_writes m s)
meaning_follows nothing b s out f h = (same_out b s out h, stays_there s)
meaning_follows (one step) b s out f h = shown_follows step b s out f h
meaning_follows by_characters b s out f h = (refl, append-nil out ∙ stands_bytes b s out h)
meaning_follows no_line b s out f h = (refl, append-nil out ∙ stands_bytes b s out h)
