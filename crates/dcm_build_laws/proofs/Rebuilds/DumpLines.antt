-- The lines of a full dump mean the steps of what it shows.
use Rattle.std.proofs.Common.{◌≡◌, ◌∙◌, ap, sym, refl, subst, ℕ, ◌+◌, ◌-◌, ◌≤◌, ◌<◌, List, [], ◌∷◌, ◌++◌, append_assoc, length, length-append, replicate, map, flat_map, codes, decimal, Some, arith}
use Rattle.dcm_lemmas.proofs.Lists.{four_joined}
use Rattle.dcm_base.specs.declared.tag.Tag.{Tag}
use Rattle.dcm_base.specs.declared.vr.Vr.{Vr}
use Rattle.dcm_base.specs.declared.vr.Vr.TheVariants.{OB}
use Rattle.dcm_base.specs.declared.mode.Mode.TheVariants.{Full}
use Rattle.dcm_base.specs.declared.length.Length.{Length}
use Rattle.dcm_base.specs.declared.length.Length.TheVariants.{Known, Undefined}
use Rattle.dcm_base.specs.Tables.Number.{HasLength}
use Rattle.dcm_base.specs.Tables.Tag.{item_tag}
use Rattle.dcm_base.specs.Tables.Representation.{letters}
use Rattle.dcm_base.specs.Tables.Dictionary.{keyword_in}
use Rattle.dcm_base.specs.Dump.ValueText.{count, display}
use Rattle.dcm_base.specs.Lines.ReadValue.{value_of_text, value_shown}
use Rattle.dcm_base.specs.Tree.Tree.{Trees, no_tree, leaf, sequence, fragments, Items, no_item, item}
use Rattle.dcm_base.specs.Dump.Dump.{length_text, line_start, line, leaf_line, fragment_line, fragment_lines, sequence_line, sequence_end_line, item_line, item_end_line, dump_set, dump_items}
use Rattle.dcm_base.specs.Lines.Line.{Step, show_leaf, show_fragment, Meaning, one, LineMeans}
use Rattle.dcm_base_laws.proofs.DumpsBack.LineMeanings.{IsSmall}
use Rattle.dcm_base.proofs.DumpsBack.Texts.{bytes_of}
use Rattle.dcm_base.proofs.DumpsBack.Values.{value_back}
use Rattle.dcm_base_laws.proofs.DumpsBack.Steps.{leaf_shows, fragment_shows, sequence_reads, fragments_read, item_reads, item_end_reads, sequence_end_reads}
use Rattle.dcm_base.specs.declared.dictionary.Dictionary.{Dictionary}
use Rattle.dcm_base.specs.Lines.Limits.{LINE_LIMIT}
use Rattle.dcm_build_laws.specs.DumpLines.{fragment_step, set_steps, items_steps, joined, AllWithin, ArePrinted, EachMeans, IsElement, ReadsBack, AllReadBack, SetReadsBack, ItemsReadBack}

-- ---- texts, one behind the other

pub joined_both : (xs ys : List (List ℕ)) → joined (xs ++ ys) ≡ joined xs ++ joined ys
joined_both [] ys = refl
joined_both (x ∷ xs) ys = ap (λ (bs : List ℕ). x ++ 10 ∷ bs) (joined_both xs ys) ∙ sym (append_assoc x (10 ∷ joined xs) (joined ys))

pub printed_both : (xs ys : List (List ℕ)) → ArePrinted xs → ArePrinted ys → ArePrinted (xs ++ ys)
printed_both [] ys h k = k
printed_both (x ∷ xs) ys h k = (h.0, printed_both xs ys h.1 k)

mean_both : (xs ys : List (List ℕ)) (ss ts : List Step) → EachMeans xs ss → EachMeans ys ts → EachMeans (xs ++ ys) (ss ++ ts)
mean_both [] ys [] ts h k = k
mean_both [] ys (s ∷ ss) ts h k = absurd h
mean_both (x ∷ xs) ys [] ts h k = absurd h
mean_both (x ∷ xs) ys (s ∷ ss) ts h k = (h.0, mean_both xs ys ss ts h.1 k)

pub first_within : (limit : ℕ) (xs ys : List (List ℕ)) → AllWithin limit (xs ++ ys) → AllWithin limit xs
first_within limit [] ys h = tt
first_within limit (x ∷ xs) ys h = (h.0, first_within limit xs ys h.1)

pub rest_within : (limit : ℕ) (xs ys : List (List ℕ)) → AllWithin limit (xs ++ ys) → AllWithin limit ys
rest_within limit [] ys h = h
rest_within limit (x ∷ xs) ys h = rest_within limit xs ys h.1

-- a text is lines that mean these steps, where none of them is too long
pub record ShortMeans (text : List ℕ) (steps : List Step) : Type 0 where
  pub lines : List (List ℕ)
  pub is : text ≡ joined lines
  pub printed : ArePrinted lines
  pub mean : AllWithin LINE_LIMIT lines → EachMeans lines steps

no_text : ShortMeans [] []
no_text = record { lines = []; is = refl; printed = tt; mean = λ w. tt }

one_line : (line : List ℕ) (step : Step) → LineMeans line (one step) → ShortMeans line (step ∷ [])
one_line line step h = record { lines = h.body ∷ []; is = h.is; printed = (h.printed, tt); mean = λ w. (h.means_is, tt) }

-- a line that means its step where this part of it is not too long
one_short : (line part : List ℕ) (m : Meaning) (step : Step) → LineMeans line m → ((body : List ℕ) → line ≡ body ++ 10 ∷ [] → length part ≤ length body) → (length part ≤ LINE_LIMIT → m ≡ one step) → ShortMeans line (step ∷ [])
one_short line part m step h shorter same =
    record { lines = h.body ∷ []; is = h.is; printed = (h.printed, tt); mean = λ w. (h.means_is ∙ same (let k = shorter h.body h.is in let l = w.0 in omega (arith, k, l)), tt) }

both_texts : (a b : List ℕ) (ss ts : List Step) → ShortMeans a ss → ShortMeans b ts → ShortMeans (a ++ b) (ss ++ ts)
both_texts a b ss ts h k = record {
  lines = h.lines ++ k.lines;
  is = ap (λ (x : List ℕ). x ++ b) h.is ∙ ap (λ (x : List ℕ). joined h.lines ++ x) k.is ∙ sym (joined_both h.lines k.lines);
  printed = printed_both h.lines k.lines h.printed k.printed;
  mean = λ w. mean_both h.lines k.lines ss ts (h.mean (first_within LINE_LIMIT h.lines k.lines w)) (k.mean (rest_within LINE_LIMIT h.lines k.lines w));
}

-- ---- values

-- a line has its display, and more before and after it
longer : (start d spaces a b c e f g : List ℕ) → length d < length (start ++ (d ++ spaces) ++ a ++ b ++ c ++ e ++ f ++ g ++ 10 ∷ [])
longer start d spaces a b c e f g =
    let display : length d ≤ length (d ++ spaces) = grows (length d) d spaces (omega arith) in
    let begun : length d ≤ length (start ++ (d ++ spaces)) = omega (arith, display, length-append start (d ++ spaces)) in
    let more : length d ≤ length (start ++ (d ++ spaces) ++ a ++ b ++ c) = grows _ _ c (grows _ _ b (grows _ _ a begun)) in
    let all : length d ≤ length (start ++ (d ++ spaces) ++ a ++ b ++ c ++ e ++ f ++ g) = grows _ _ g (grows _ _ f (grows _ _ e more)) in
    omega (arith, all, length-append (start ++ (d ++ spaces) ++ a ++ b ++ c ++ e ++ f ++ g) (10 ∷ []))
  where
    grows : (n : ℕ) (x y : List ℕ) → n ≤ length x → n ≤ length (x ++ y)
    grows n x y h = omega (arith, h, length-append x y)

display_within : (k : Dictionary) (level : ℕ) (tag : Tag) (vr d : List ℕ) (size : Length) (n : ℕ) (body : List ℕ) → line k level tag vr d size n ≡ body ++ 10 ∷ [] → length d ≤ length body
display_within k level tag vr d size n body e =
    let all : length d < length (line k level tag vr d size n) = longer (line_start level tag vr) d (replicate (40 - length d) 32) (codes " # ") (length_text size) (codes ", ") (decimal n) (codes " ") (keyword_in k tag) in
    let same : length (line k level tag vr d size n) ≡ length (body ++ 10 ∷ []) = ap length e in
    omega (arith, all, same, length-append body (10 ∷ []))

leaf_means : (k : Dictionary) (level : ℕ) (tag : Tag) (vr : Vr) (v : List ℕ) → IsElement tag → ReadsBack vr v → ShortMeans (leaf_line k Full level tag vr v) (show_leaf tag vr (Some (value_shown vr v)) ∷ [])
leaf_means k level tag vr v t r =
    let bytes = bytes_of v r.bytes in
    one_short (leaf_line k Full level tag vr v) (display vr v) (one (show_leaf tag vr (value_of_text vr (display vr v)))) (show_leaf tag vr (Some (value_shown vr v))) (leaf_shows k level tag vr v t.0 t.1 r.no_sequence bytes r.size r.units)
    (display_within k level tag (letters vr) (display vr v) (Known (length v)) (count vr v)) (λ short. ap (λ o. one (show_leaf tag vr o)) (value_back vr v r.no_sequence bytes r.units short))

fragment_means : (k : Dictionary) (level : ℕ) (v : List ℕ) → ReadsBack OB v → ShortMeans (fragment_line k Full level v) (fragment_step v ∷ [])
fragment_means k level v r =
    let bytes = bytes_of v r.bytes in
    one_short (fragment_line k Full level v) (display OB v) (one (show_fragment (value_of_text OB (display OB v)))) (fragment_step v) (fragment_shows k level v bytes r.size)
    (display_within k level item_tag (codes "pi") (display OB v) (Known (length v)) 1) (λ short. ap (λ o. one (show_fragment o)) (value_back OB v refl bytes r.units short))

-- ---- data sets

is_small : (size : Length) → HasLength size → IsSmall size
is_small (Known n) h = omega (arith, h)
is_small Undefined h = tt

fragments_mean : (k : Dictionary) (level : ℕ) (values : List (List ℕ)) → AllReadBack values → ShortMeans (flat_map (fragment_line k Full level) values) (map fragment_step values)
fragments_mean k level [] h = no_text
fragments_mean k level (v ∷ values) h =
    both_texts (fragment_line k Full level v) (flat_map (fragment_line k Full level) values) (fragment_step v ∷ []) (map fragment_step values)
    (fragment_means k level v h.0) (fragments_mean k level values h.1)

mutual
  unfolding dump_set set_steps SetReadsBack

  pub set_means : (k : Dictionary) (level : ℕ) (x : Trees) → SetReadsBack x → ShortMeans (dump_set k Full level x) (set_steps x)
  set_means k level no_tree h = no_text
  set_means k level (leaf tag vr v rest) h =
      both_texts _ _ (_ ∷ []) (set_steps rest) (leaf_means k level tag vr v h.0 h.1) (set_means k level rest h.2)
  set_means k level (sequence tag vr declared items rest) h =
      subst (λ (t : List ℕ). ShortMeans t (set_steps (sequence tag vr declared items rest)))
      (sym (four_joined (sequence_line k level tag vr declared) (dump_items k Full (level + 1) items) (sequence_end_line k level declared) (dump_set k Full level rest)))
      (both_texts _ _ (_ ∷ []) _ (one_line _ _ (sequence_reads k level tag vr declared (is_small declared h.2) h.0.0 h.0.1 h.1))
      (both_texts _ _ (items_steps items) _ (items_mean k (level + 1) items h.3)
      (both_texts _ _ (_ ∷ []) (set_steps rest) (one_line _ _ (sequence_end_reads k level declared)) (set_means k level rest h.4))))
  set_means k level (fragments tag vr values rest) h =
      subst (λ (t : List ℕ). ShortMeans t (set_steps (fragments tag vr values rest)))
      (sym (append_assoc (fragment_lines k Full level tag vr values) (sequence_end_line k level Undefined) (dump_set k Full level rest)))
      (both_texts _ _ (_ ∷ map fragment_step values) _
      (both_texts _ _ (_ ∷ []) (map fragment_step values) (one_line _ _ (fragments_read k level tag vr h.0.0 h.0.1 h.1)) (fragments_mean k (level + 1) values h.2))
      (both_texts _ _ (_ ∷ []) (set_steps rest) (one_line _ _ (sequence_end_reads k level Undefined)) (set_means k level rest h.3)))

  pub items_mean : (k : Dictionary) (level : ℕ) (x : Items) → ItemsReadBack x → ShortMeans (dump_items k Full level x) (items_steps x)
  items_mean k level no_item h = no_text
  items_mean k level (item declared set rest) h =
      subst (λ (t : List ℕ). ShortMeans t (items_steps (item declared set rest)))
      (sym (four_joined (item_line k level declared) (dump_set k Full (level + 1) set) (item_end_line k level declared) (dump_items k Full level rest)))
      (both_texts _ _ (_ ∷ []) _ (one_line _ _ (item_reads k level declared (is_small declared h.0)))
      (both_texts _ _ (set_steps set) _ (set_means k (level + 1) set h.1)
      (both_texts _ _ (_ ∷ []) (items_steps rest) (one_line _ _ (item_end_reads k level declared)) (items_mean k level rest h.2))))
