-- What the reading of a file's head has said of the file.
use Rattle.std.proofs.Common.{◌≡◌, ◌∙◌, ap, sym, subst, ℕ, ◌+◌, ◌≤◌, ◌<◌, List, [], ◌∷◌, ◌++◌, length, take, true, false, Option, None, Some, refl, arith, inl, inr}
use Rattle.std.specs.Prelude.{fold, nat_eq, ◌⊎◌, Result, Ok, Err}
use Rattle.std.proofs.lemmas.List.Sums.{fold-append}
use Rattle.std.proofs.lemmas.Bool.Decides.{nat_tests}
use Rattle.dcm_base.specs.declared.fault.Stop.{Stop as HaltStop}
use Rattle.dcm_base.specs.declared.syntax.Coding.{Coding}
use Rattle.dcm_base.specs.Tables.Syntax.{Little, coding_by}
use Rattle.dcm_base.specs.declared.transfer.Deflated.{Deflated as DeflatedSyntax}
use Rattle.dcm_base.specs.Tree.Tree.{Trees}
use Rattle.dcm_base.specs.Bytes.Spelling.{Spells}
use Rattle.dcm_base.specs.Tables.Transfer.{coding_of, without_pads}
use Rattle.dcm_base.specs.File.MetaGroup.{META_LIMIT, AreMeta, GroupPlace, an_element, the_end, too_few, a_fault}
use Rattle.dcm_base.proofs.DataSets.Whole.{trees_same, at_end_NoElement}
use Rattle.dcm_base.specs.File.MetaReads.{Meta, MetaAnswer, MetaReads, begins, refused, coded, named, answer_behind, syntax_value, too_short, no_prefix, with_group, is_undecided, PREFIX}
use Rattle.dcm_base.specs.Conversion.NewMeta.{new_meta}
use Rattle.dcm_base.specs.declared.dictionary.Dictionary.{Dictionary}
use Rattle.dcm_head.specs.declared.meta_read.MetaEnd.{MetaEnd}
use Rattle.dcm_head.specs.declared.meta_read.MetaEnd.TheVariants.{Refused, Ended}
use Rattle.dcm_head.specs.MetaReading.{Reading, HasEnded, Says, meta_step, meta_finished, finished_from, group_of, uid_of}
use Rattle.dcm_head.proofs.HeadReading.Stays.{stays}
use Rattle.dcm_head.proofs.HeadReading.State.{described}
use Rattle.dcm_head.proofs.HeadReading.Answers.{told}
use Rattle.dcm_head.proofs.MetaGroups.OneMeta.{one_meta}
use Rattle.dcm_cli.specs.Pass.{head_read}
use Rattle.dcm_cli.specs.Answer.{HeadIs}
use Rattle.dcm_cli.specs.Opening.{HeadChange, head_text}

-- ---- the elements of the group

by_coding : (m meta : Meta) (group others : List ℕ) (coding : Coding) (r : Result Coding DeflatedSyntax) → begins m group coding ≡ coded meta others r → (m ≡ meta) × (group ≡ others)
by_coding m meta group others coding (Ok c) e = (cc, cc)
by_coding m meta group others coding (Err x) e = cc

by_uid : (m meta : Meta) (group others uid : List ℕ) (coding : Coding) → begins m group coding ≡ named meta others uid → (m ≡ meta) × (group ≡ others)
by_uid m meta group others [] coding e = cc
by_uid m meta group others (b ∷ uid) coding e = by_coding m meta group others coding (coding_of meta.uid) e

by_place : (m : Meta) (group : List ℕ) (coding : Coding) (size : ℕ) (preamble : List ℕ) (elements : Trees) (others : List ℕ) (behind : GroupPlace) → begins m group coding ≡ answer_behind size preamble elements others behind
    → (m.elements ≡ elements) × (group ≡ others)
by_place m group coding size preamble elements others the_end e =
    let uid = without_pads (syntax_value elements) in
    let meta : Meta = record { preamble = preamble; elements = elements; uid = uid } in
    let same = by_uid m meta group others uid coding e in
    (ap (λ (x : Meta). x.elements) same.0, same.1)
by_place m group coding size preamble elements others too_few e = cc
by_place m group coding size preamble elements others (a_fault fault) e = cc
by_place m group coding size preamble elements others (an_element tag vr head value) e = cc

pub group_spelled : (file : List ℕ) (m : Meta) (group : List ℕ) (coding : Coding) → MetaReads file (begins m group coding) → Spells Little m.elements group × AreMeta m.elements × (length group ≤ META_LIMIT)
group_spelled file m group coding (too_short few e) = cc
group_spelled file m group coding (no_prefix preamble prefix bytes parts long four not e) = cc
group_spelled file m group coding (with_group preamble bytes others elements behind parts long reads e) =
    let same = by_place m group coding (length file) preamble elements others behind e in
    (subst (λ (t : Trees). Spells Little t group) (sym same.0) (subst (λ (bs : List ℕ). Spells Little elements bs) (sym same.1) reads.spelled), subst AreMeta (sym same.0) reads.meta, subst (λ (bs : List ℕ). length bs ≤ META_LIMIT) (sym same.1) reads.within)

-- ---- what was said

pub record Opened (d : Dictionary) (r : Reading) (file : List ℕ) : Type 0 where
  pub m : Meta
  pub group : List ℕ
  pub coding : Coding
  pub reads : HeadIs d file m group coding
  pub end_is : r.end ≡ Some (Ended reads.named)
  pub place_is : r.place ≡ 132 + length group
  pub preamble_is : take 128 r.bytes ≡ m.preamble
  pub group_is : group_of r ≡ group
  pub uid_is : uid_of r ≡ m.uid
  pub spelled : Spells Little m.elements group
  pub meta : AreMeta m.elements
  pub within : length group ≤ META_LIMIT

not_refused : (end : Option MetaEnd) (stop : HaltStop) → HasEnded end → end ≡ Some (Refused stop) → ⊥
not_refused None stop h e = absurd h
not_refused (Some (Refused s)) stop h e = absurd h
not_refused (Some (Ended coding)) stop h e = cc

opened_by : (d : Dictionary) (r : Reading) (file : List ℕ) (answer : MetaAnswer) → HasEnded r.end → MetaReads file answer → Says r answer → Opened d r file
opened_by d r file (refused fault offset) h reads said = absurd (not_refused r.end (record { fault = fault; at = offset }) h said)
opened_by d r file (begins m group coding) h reads said =
    let spelled = group_spelled file m group coding reads in
    record {
      m = m;
      group = group;
      coding = coding_by d coding;
      reads = record { named = coding; head = reads; coding_is = refl };
      end_is = said.0;
      place_is = said.1;
      preamble_is = said.2;
      group_is = said.3;
      uid_is = said.4;
      spelled = spelled.0;
      meta = spelled.1;
      within = spelled.2;
    }

-- the group has ended
pub opened : (d : Dictionary) (r : Reading) (file : List ℕ) → meta_finished (head_read file) ≡ r → HasEnded r.end → Opened d r file
opened d r file e h =
    let t = told (head_read file) file (described file) in
    opened_by d r file t.answer h t.reads (subst (λ (x : Reading). Says x t.answer) e t.said)

not_ended : (r : Reading) (stop : HaltStop) (m : Meta) (group : List ℕ) (coding : Coding) → r.end ≡ Some (Refused stop) → Says r (begins m group coding) → ⊥
not_ended r stop m group coding e said = let no : Some (Refused stop) ≡ Some (Ended coding) = sym e ∙ said.0 in cc

refused_by : (r : Reading) (file : List ℕ) (stop : HaltStop) (answer : MetaAnswer) → r.end ≡ Some (Refused stop) → MetaReads file answer → Says r answer → MetaReads file (refused stop.fault stop.at)
refused_by r file stop (begins m group coding) e reads said = absurd (not_ended r stop m group coding e said)
refused_by r file stop (refused fault offset) e reads said =
    let same : Some (Refused stop) ≡ Some (Refused (record { fault = fault; at = offset })) = sym e ∙ said in
    let is : stop ≡ record { fault = fault; at = offset } = cc in
    subst (λ (s : HaltStop). MetaReads file (refused s.fault s.at)) (sym is) reads

one_meta_of : (m n : Meta) → m.preamble ≡ n.preamble → m.elements ≡ n.elements → m.uid ≡ n.uid → m ≡ n
one_meta_of m n p e u =
    let x : Meta = record { preamble = m.preamble; elements = m.elements; uid = m.uid } in
    let y : Meta = record { preamble = n.preamble; elements = n.elements; uid = n.uid } in
    let same : x ≡ y = cc in
    same

-- two inputs of one such reading begin with the same head
pub same_head : (d : Dictionary) (r : Reading) (file other : List ℕ) (m : Meta) (group : List ℕ) (coding : Coding) → MetaReads file (begins m group coding) → Says r (begins m group coding) → Opened d r other → MetaReads other (begins m group coding)
same_head d r file other m group coding reads said x =
    let groups : x.group ≡ group = sym x.group_is ∙ said.3 in
    let codings : Some (Ended x.reads.named) ≡ Some (Ended coding) = sym x.end_is ∙ said.0 in
    let coding_is : x.reads.named ≡ coding = cc in
    let elements : x.m.elements ≡ m.elements =
    (trees_same Little x.m.elements m.elements group [] [] (subst (Spells Little x.m.elements) groups x.spelled) (group_spelled file m group coding reads).0 (at_end_NoElement Little) (at_end_NoElement Little)).0 in
    let metas : x.m ≡ m = one_meta_of x.m m (sym x.preamble_is ∙ said.2) elements (sym x.uid_is ∙ said.4) in
    let same : begins x.m x.group x.reads.named ≡ begins m group coding = cc in
    subst (MetaReads other) same x.reads.head

pub one_head : (d : Dictionary) (r : Reading) (file other : List ℕ) (o : Opened d r file) → Opened d r other → HeadIs d other o.m o.group o.coding
one_head d r file other o x = record {
  named = o.reads.named;
  head = same_head d r file other o.m o.group o.reads.named o.reads.head (o.end_is, o.place_is, o.preamble_is, o.group_is, o.uid_is) x;
  coding_is = o.reads.coding_is;
}

-- it is at fault
pub not_opened : (r : Reading) (file : List ℕ) (stop : HaltStop) → meta_finished (head_read file) ≡ r → r.end ≡ Some (Refused stop) → MetaReads file (refused stop.fault stop.at)
not_opened r file stop e h =
    let t = told (head_read file) file (described file) in
    refused_by r file stop t.answer h t.reads (subst (λ (x : Reading). Says x t.answer) e t.said)

-- an end stays whatever follows
pub ended_stays : (r : Reading) (read rest : List ℕ) (end : MetaEnd) → r ≡ head_read read → r.end ≡ Some end → head_read (read ++ rest) ≡ r
ended_stays r read rest end e h = fold-append meta_step (head_read []) read rest ∙ ap (λ (x : Reading). fold meta_step x rest) (sym e) ∙ stays r end rest h

pub finished_same : (r : Reading) (end : MetaEnd) → r.end ≡ Some end → meta_finished r ≡ r
finished_same r end h = ap (finished_from r) h

some_end : (end : Option MetaEnd) → HasEnded end → (e : MetaEnd) × (end ≡ Some e)
some_end None h = absurd h
some_end (Some e) h = (e, refl)

pub has_end : (r : Reading) → HasEnded r.end → (e : MetaEnd) × (r.end ≡ Some e)
has_end r h = some_end r.end h

-- while it goes on, more bytes can change the answer
pub goes_on_still : (read : List ℕ) → (head_read read).end ≡ None → (answer : MetaAnswer) × MetaReads read answer × (is_undecided (length read) answer ≡ true)
goes_on_still read none =
    let t = told (head_read read) read (described read) in
    (t.answer, t.reads, by_going t.answer t.going)
  where
    by_going : (a : MetaAnswer) → ((is_undecided (length read) a ≡ true) × ((head_read read).end ≡ None)) ⊎ ((is_undecided (length read) a ≡ false) × (end : MetaEnd) × ((head_read read).end ≡ Some end)) → is_undecided (length read) a ≡ true
    by_going a (inl x) = x.0
    by_going a (inr x) = absurd (let no : None ≡ Some x.1 = sym none ∙ x.2 in cc)

-- a group that was ended by what follows it
pub ends_before : (d : Dictionary) (r : Reading) (read : List ℕ) → r ≡ head_read read → (o : Opened d r read) → r.place ≤ length read → 132 + length o.group < length read
ends_before d r read e o le =
    let t = told (head_read read) read (described read) in
    let not_at : is_undecided (length read) (begins o.m o.group o.reads.named) ≡ false = by_going t.answer (one_meta read t.answer (begins o.m o.group o.reads.named) t.reads o.reads.head) t.going in
    apart (132 + length o.group) (length read) not_at (subst (λ (n : ℕ). n ≤ length read) o.place_is le)
  where
    some : (head_read read).end ≡ Some (Ended o.reads.named)
    some = ap (λ (x : Reading). x.end) (sym e) ∙ o.end_is

    by_going : (a : MetaAnswer) → a ≡ begins o.m o.group o.reads.named → ((is_undecided (length read) a ≡ true) × ((head_read read).end ≡ None)) ⊎ ((is_undecided (length read) a ≡ false) × (end : MetaEnd) × ((head_read read).end ≡ Some end))
        → is_undecided (length read) (begins o.m o.group o.reads.named) ≡ false
    by_going a is (inl x) = absurd (let no : Some (Ended o.reads.named) ≡ None = sym some ∙ x.1 in cc)
    by_going a is (inr x) = ap (is_undecided (length read)) (sym is) ∙ x.0

    apart : (m n : ℕ) → nat_eq m n ≡ false → m ≤ n → m < n
    apart m n not le = grind (arith, nat_tests, not, le)

-- its head written anew
pub head_anew : (change : HeadChange) (d : Dictionary) (r : Reading) (file : List ℕ) (o : Opened d r file) (uid written : List ℕ) → written ≡ uid
    → head_text change r written o.m.elements ≡ change.preamble o.m.preamble ++ PREFIX ++ new_meta (change.elements o.m.elements) uid
head_anew change d r file o uid written e =
    ap (λ (bs : List ℕ). change.preamble bs ++ PREFIX ++ new_meta (change.elements o.m.elements) written) o.preamble_is
    ∙ ap (λ (u : List ℕ). change.preamble o.m.preamble ++ PREFIX ++ new_meta (change.elements o.m.elements) u) e
