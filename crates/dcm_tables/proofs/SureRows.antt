-- Which bytes of a file decide its row.
use Rattle.std.proofs.Common.{◌≡◌, ◌∙◌, ap, sym, subst, refl, ℕ, ◌+◌, ◌≤◌, ◌<◌, List, [], ◌∷◌, ◌++◌, append_assoc, append-nil, length, length-append, take, drop, nat_eq, true, false, Option, Some, None, inl, inr, arith}
use Rattle.std.specs.Prelude.{codes, fold, ◌⊎◌}
use Rattle.std.proofs.lemmas.Bool.Decides.{leb_tells, nat_tests}
use Rattle.std.proofs.lemmas.List.{take_at, take_all, take-append-le, drop-append-le, drop_all, take-append-drop}
use Rattle.dcm_base.specs.declared.tag.Tag.{Tag}
use Rattle.dcm_base.specs.declared.fault.Fault.{Fault}
use Rattle.dcm_base.specs.declared.fault.Fault.TheVariants as faults
use Rattle.dcm_base.specs.declared.fault.Stop.{Stop as HaltStop}
use Rattle.dcm_base.specs.declared.syntax.Coding.{Coding}
use Rattle.dcm_base.specs.declared.dictionary.Dictionary.TheVariants.{Standard}
use Rattle.dcm_base.specs.Tables.Syntax.{Little}
use Rattle.dcm_base.specs.Tree.Front.{Front}
use Rattle.dcm_base.specs.Tree.Tree.{Trees}
use Rattle.dcm_base.specs.Bytes.Spelling.{Spells}
use Rattle.dcm_base.specs.File.MetaGroup.{AreMeta}
use Rattle.dcm_base.specs.File.MetaReads.{Meta, begins, is_undecided as meta_undecided}
use Rattle.dcm_base.specs.Reading.Reads.{INPUT_LIMIT, Reads}
use Rattle.dcm_base.specs.Reading.Stop.{Stop, complete, refused, is_early, is_undecided}
use Rattle.dcm_base.proofs.DataSets.OneAnswer.{reads_once}
use Rattle.dcm_base.proofs.DataSets.Whole.{trees_same, at_end_NoElement}
use Rattle.dcm_head.specs.declared.meta_read.MetaEnd.{MetaEnd}
use Rattle.dcm_head.specs.declared.meta_read.MetaEnd.TheVariants as meta_ends
use Rattle.dcm_head.specs.MetaReading.{Reading as HeadReading, HasEnded, group_of, meta_finished}
use Rattle.dcm_head.proofs.HeadReading.State.{Described, before, within, no_file, over, described}
use Rattle.dcm_head.proofs.MetaGroups.OneMeta.{one_meta}
use Rattle.dcm_stream.specs.Driven.{driven}
use Rattle.dcm_table.specs.declared.ending.RowEnd.{RowEnd}
use Rattle.dcm_table.specs.declared.ending.RowEnd.TheVariants as rows
use Rattle.dcm_table.specs.declared.ending.RowEnd.TheVariants.{Decided}
use Rattle.dcm_table.specs.Columns.{greatest_of}
use Rattle.dcm_table.specs.Ending.{end_by}
use Rattle.dcm_table.specs.Meta.{meta_atoms}
use Rattle.dcm_table.specs.Shown.{Held, held_by, held_with, meta_held, table_bar}
use Rattle.dcm_table.specs.TableSink.{State, begun, next, table_bar_of}
use Rattle.dcm_table.proofs.RowCells.{held_at}
use Rattle.dcm_table.proofs.MetaCells.{meta_settles}
use Rattle.dcm_cli.specs.Answer.{set_at}
use Rattle.dcm_cli.specs.Pass.{head_read}
use Rattle.dcm_cli.proofs.Passes.MetaHeads.{Opened, opened, one_head as same_opened, ended_stays, finished_same, group_spelled}
use Rattle.dcm_tables.specs.Laws.{Decides}
use Rattle.dcm_tables.specs.RowOf.{ShowsSet, RowOf, of_meta, of_set, IsUndecided, in_meta, in_set, end_of}
use Rattle.dcm_tables.proofs.MetaShown.{shown}
use Rattle.dcm_tables.proofs.OneRow.{one_row, one_set}
use Rattle.dcm_tables.proofs.RowReads.{head_undecided, refused_row}
use Rattle.dcm_tables.proofs.TableReads.{table_halts, table_refuses, set_undecided}

-- all files that begin with these bytes have this row
pub record IsSure (columns : List Tag) (bytes : List ℕ) : Type 0 where
  pub cells : Held
  pub end : RowEnd
  pub row : (rest : List ℕ) → RowOf columns (bytes ++ rest) cells end

-- ---- a head that is at fault

one_spelling : (group : List ℕ) (x y : Trees) → Spells Little x group → Spells Little y group → x ≡ y
one_spelling group x y h k = (trees_same Little x y group [] [] h k (at_end_NoElement Little) (at_end_NoElement Little)).0

module _ (columns : List Tag) (bytes : List ℕ) (end : MetaEnd) (is : (head_read bytes).end ≡ Some end) where
  -- its reading is the same, whatever follows
  finished : (rest : List ℕ) → meta_finished (head_read (bytes ++ rest)) ≡ head_read bytes
  finished rest = ap meta_finished (ended_stays (head_read bytes) bytes rest end refl is) ∙ finished_same (head_read bytes) end is

  refused_sure : (stop : HaltStop) → end ≡ meta_ends.Refused stop → IsSure columns bytes
  refused_sure stop refuses =
      let m : HeadReading = head_read bytes in
      let x = shown m (bytes ++ []) (finished []) in
      let t : State = fold next (begun columns) (meta_atoms x.elements) in
      let takes : (elements : Trees) → Spells Little elements (group_of m) → AreMeta elements → t ≡ fold next (begun columns) (meta_atoms elements) =
      λ elements spelled meta. ap (λ (e : Trees). fold next (begun columns) (meta_atoms e)) (one_spelling (group_of m) x.elements elements x.spelled spelled) in
      record {
        cells = held_by t;
        end = rows.Refused stop;
        row = λ rest. refused_row columns (bytes ++ rest) m stop t (finished rest) (is ∙ ap Some refuses) takes;
      }

-- ---- a head that is followed by a data set

-- its place is within the bytes
ended_place : (bytes : List ℕ) (named : Coding) → (head_read bytes).end ≡ Some (meta_ends.Ended named) → (head_read bytes).place ≤ length bytes
ended_place bytes named is = by_cases (described bytes)
  where
    by_cases : Described (head_read bytes) bytes → (head_read bytes).place ≤ length bytes
    by_cases (before few e) = absurd (let no : Some (meta_ends.Ended named) ≡ None = sym is ∙ ap (λ (x : HeadReading). x.end) e in cc)
    by_cases (within w) = absurd (let no : Some (meta_ends.Ended named) ≡ None = sym is ∙ w.going in cc)
    by_cases (no_file n) = absurd (let no : Some (meta_ends.Ended named) ≡ Some (meta_ends.Refused (record { fault = faults.NoPrefix; at = 128 })) = sym is ∙ n.end_is in cc)
    by_cases (over o) =
        let all = ap length o.parts ∙ length-append o.preamble (codes "DICM" ++ (o.group ++ o.rest)) in
        let a = length-append (codes "DICM") (o.group ++ o.rest) in
        let d = length-append o.group o.rest in
        let four : length (codes "DICM") ≡ 4 = refl in
        let long = o.long in
        let place = o.place_is in
        omega arith

module _ (columns : List Tag) (bytes : List ℕ) (named : Coding) (is : (head_read bytes).end ≡ Some (meta_ends.Ended named)) where
  abbrev m : HeadReading
  m = head_read bytes

  ended : HasEnded m.end
  ended = subst HasEnded (sym is) tt

  there : (rest : List ℕ) → Opened Standard m (bytes ++ rest)
  there rest = opened Standard m (bytes ++ rest) (finished columns bytes (meta_ends.Ended named) is rest) ended

  here : Opened Standard m bytes
  here = opened Standard m bytes (finished_same m (meta_ends.Ended named) is) ended

  abbrev greatest : Tag
  greatest = greatest_of columns

  abbrev held : Held
  held = meta_held columns here.m.elements

  abbrev set_bytes : List ℕ
  set_bytes = drop (set_at here.group) bytes

  small : set_at here.group ≤ INPUT_LIMIT
  small = let most = here.within in omega (arith, most)

  cut : (rest : List ℕ) → drop (set_at here.group) (bytes ++ rest) ≡ set_bytes ++ rest
  cut rest = drop-append-le (set_at here.group) bytes rest (let le = ended_place bytes named is in let place = here.place_is in omega (arith, le, place))

  going_on : (driven table_bar_of next (held_at greatest held) here.coding.syntax (set_at here.group) set_bytes).0.halt ≡ None → IsUndecided columns bytes
  going_on none =
      let u = set_undecided greatest held (meta_settles columns here.m.elements) here.coding.syntax (set_at here.group) small set_bytes none in
      in_set here.m here.group here.coding u.f u.stop (record { head = here.reads; reads = u.reads }) u.undecided

  halted_sure : (fault : Fault) (offset : ℕ) → (driven table_bar_of next (held_at greatest held) here.coding.syntax (set_at here.group) set_bytes).0.halt ≡ Some (refused fault offset) → IsSure columns bytes
  halted_sure fault offset halt =
      let r = table_refuses greatest held (meta_settles columns here.m.elements) here.coding.syntax (set_at here.group) small set_bytes fault offset halt in
      record {
        cells = held_with here.coding.syntax r.f held;
        end = end_of (refused fault offset);
        row = λ rest.
            of_set here.m here.group here.coding r.f (refused fault offset)
            (record {
              head = same_opened Standard m bytes (bytes ++ rest) here (there rest);
              reads = subst (λ (bs : List ℕ). Reads (table_bar greatest) here.coding.syntax (set_at here.group) bs r.f (refused fault offset)) (sym (cut rest)) (r.reads rest);
            })
            refl refl;
      }

  set_settles : IsUndecided columns bytes ⊎ IsSure columns bytes
  set_settles = elim (table_halts greatest held (meta_settles columns here.m.elements) here.coding.syntax (set_at here.group) small set_bytes) [
    | inl e ↦ inl (going_on e)
    | inr x ↦ inr (halted_sure x.0 x.1 x.2)
  ]

-- ---- any bytes

-- more can change how the reading ends, or they decide the row
pub settles : (columns : List Tag) (bytes : List ℕ) → IsUndecided columns bytes ⊎ IsSure columns bytes
settles columns bytes = by_end (head_read bytes).end refl
  where
    by_end : (end : Option MetaEnd) → (head_read bytes).end ≡ end → IsUndecided columns bytes ⊎ IsSure columns bytes
    by_end None is = inl (head_undecided columns bytes is)
    by_end (Some (meta_ends.Refused stop)) is = inr (refused_sure columns bytes (meta_ends.Refused stop) is stop refl)
    by_end (Some (meta_ends.Ended named)) is = set_settles columns bytes named is

-- a row that is sure is the row
sure_row : (columns : List Tag) (bytes : List ℕ) (cells : Held) (end : RowEnd) → RowOf columns bytes cells end → IsSure columns bytes → (rest : List ℕ) → RowOf columns (bytes ++ rest) cells end
sure_row columns bytes cells end row sure rest =
    let here : RowOf columns bytes sure.cells sure.end = subst (λ (bs : List ℕ). RowOf columns bs sure.cells sure.end) (append-nil bytes) (sure.row []) in
    let one = one_row columns bytes sure.cells cells sure.end end here row in
    subst (λ (x : RowEnd). RowOf columns (bytes ++ rest) cells x) one.1 (subst (λ (x : Held). RowOf columns (bytes ++ rest) x sure.end) one.0 (sure.row rest))

pub row_stays : (columns : List Tag) (bytes rest : List ℕ) (cells : Held) (end : RowEnd) → (IsUndecided columns bytes → ⊥) → RowOf columns bytes cells end → RowOf columns (bytes ++ rest) cells end
row_stays columns bytes rest cells end sure row = elim (settles columns bytes) [
  | inl u ↦ absurd (sure u)
  | inr s ↦ sure_row columns bytes cells end row s rest
]

-- ---- the least bytes that decide it

abbrev AllUndecided : List Tag → List ℕ → Type 0
AllUndecided columns front = (less more : List ℕ) → front ≡ less ++ more → length less < length front → IsUndecided columns less

-- one byte more
all_longer : (columns : List Tag) (front : List ℕ) (b : ℕ) → IsUndecided columns front → AllUndecided columns front → AllUndecided columns (front ++ b ∷ [])
all_longer columns front b here all = λ less more whole fewer.
    let size = length-append front (b ∷ []) in
    let le : length less ≤ length front = omega (arith, size, fewer) in
    let cut : less ≡ take (length less) front = sym (take_at less more (length less) refl) ∙ ap (take (length less)) (sym whole) ∙ take-append-le (length less) front (b ∷ []) le in
    elim (leb_tells (length front) (length less)) [
      | inl long ↦ subst (IsUndecided columns) (sym (cut ∙ take_all (length less) front long.1)) here
      | inr short ↦ all less (drop (length less) front) (sym (take-append-drop (length less) front) ∙ ap (λ (x : List ℕ). x ++ drop (length less) front) (sym cut)) short.1
    ]

module _ (columns : List Tag) (bytes : List ℕ) (cells : Held) (end : RowEnd) (sure : IsUndecided columns bytes → ⊥) (row : RowOf columns bytes cells end) where
  -- the row of a beginning that decides one
  found : (front others : List ℕ) → bytes ≡ front ++ others → AllUndecided columns front → IsSure columns front → Decides columns bytes cells end
  found front others whole all s =
      let one = one_row columns bytes s.cells cells s.end end (subst (λ (bs : List ℕ). RowOf columns bs s.cells s.end) (sym whole) (s.row others)) row in
      record {
        front = front;
        others = others;
        whole = whole;
        row = λ rest. subst (λ (x : RowEnd). RowOf columns (front ++ rest) cells x) one.1 (subst (λ (x : Held). RowOf columns (front ++ rest) x s.end) one.0 (s.row rest));
        least = all;
      }

  find : (others front : List ℕ) → bytes ≡ front ++ others → AllUndecided columns front → Decides columns bytes cells end
  find [] front whole all = elim (settles columns front) [
    | inl u ↦ absurd (sure (subst (IsUndecided columns) (sym (whole ∙ append-nil front)) u))
    | inr s ↦ found front [] whole all s
  ]
  find (b ∷ others) front whole all = elim (settles columns front) [
    | inl u ↦ find others (front ++ b ∷ []) (whole ∙ sym (append_assoc front (b ∷ []) others)) (all_longer columns front b u all)
    | inr s ↦ found front (b ∷ others) whole all s
  ]

  pub decides : Decides columns bytes cells end
  decides = find bytes [] refl (λ less more e fewer. absurd (omega (arith, fewer)))

-- ---- a row that a head above all columns ends

decided_fault : (fault : Fault) (stop : HaltStop) → Decided ≡ end_by fault stop → is_early fault ≡ false
decided_fault faults.EndsEarly stop e = cc
decided_fault _ stop e = refl

decided_stop : (stop : Stop) → Decided ≡ end_of stop → is_undecided (Some stop) ≡ false
decided_stop complete e = cc
decided_stop (refused fault offset) e = decided_fault fault (record { fault = fault; at = offset }) e

-- no data set is decided before its first byte
none_read : (columns : List Tag) (bytes : List ℕ) (m : Meta) (group : List ℕ) (coding : Coding) (f : Front) (stop : Stop) → ShowsSet columns bytes m group coding f stop → set_at group ≤ INPUT_LIMIT → length bytes ≤ set_at group → is_undecided (Some stop) ≡ true
none_read columns bytes m group coding f stop x le short =
    let bar = table_bar (greatest_of columns) in
    let u = set_undecided (greatest_of columns) (meta_held columns m.elements) (meta_settles columns m.elements) coding.syntax (set_at group) le [] refl in
    let here : Reads bar coding.syntax (set_at group) [] f stop = subst (λ (bs : List ℕ). Reads bar coding.syntax (set_at group) bs f stop) (drop_all (set_at group) bytes short) x.reads in
    ap (λ (z : Stop). is_undecided (Some z)) (reads_once bar coding.syntax (set_at group) [] f u.f stop u.stop here u.reads).1 ∙ u.undecided

pub decided_sure : (columns : List Tag) (bytes : List ℕ) (cells : Held) → RowOf columns bytes cells Decided → IsUndecided columns bytes → ⊥
decided_sure columns bytes cells (of_meta fault offset elements head shows is end) u = let no : Decided ≡ rows.Refused (record { fault = fault; at = offset }) = end in cc
decided_sure columns bytes cells (of_set m group coding f stop x is end) (in_meta a reads undecided) =
    let same : a ≡ begins m group x.head.named = one_meta bytes a (begins m group x.head.named) reads x.head.head in
    let at_end : nat_eq (132 + length group) (length bytes) ≡ true = ap (meta_undecided (length bytes)) (sym same) ∙ undecided in
    let small = (group_spelled bytes m group x.head.named x.head.head).2 in
    let still = none_read columns bytes m group coding f stop x (omega (arith, small)) (grind (arith, nat_tests, at_end)) in
    let no : false ≡ true = sym (decided_stop stop end) ∙ still in
    cc
decided_sure columns bytes cells (of_set m group coding f stop x is end) (in_set n g d k other y undecided) =
    let same = one_set columns bytes m n group g coding d f k stop other x y in
    let no : false ≡ true = sym (decided_stop stop end) ∙ ap (λ (z : Stop). is_undecided (Some z)) same.stops ∙ undecided in
    cc
