-- Names that are done one after another.
use Rattle.std.proofs.Common.{◌≡◌, ◌∙◌, ap, sym, subst, refl, ℕ, List, [], ◌∷◌, ◌++◌, append_assoc, length, take, Bool, true, false, Result, Ok, Err, inl, inr, arith}
use Rattle.std.specs.Prelude.{codes, max, nat_le, flat_map}
use Rattle.std.proofs.lemmas.List.{append-nil, take_all, length-take}
use Rattle.std.proofs.lemmas.Bool.{leb-true}
use Rattle.dcm_lemmas.proofs.Truth.{and_first}
use Rattle.dcm_devices.specs.declared.device.WriteFailed.{WriteFailed}
use Rattle.dcm_devices.specs.Writing.{Writer, Wrote}
use Rattle.dcm_files.specs.Devices.{MayDo}
use Rattle.dcm_names.specs.Names.{NAME_LIMIT, can_be_opened, shown_byte, shown_name}
use Rattle.dcm_names.specs.NamedLines.{unopened_line}
use Rattle.dcm_names.specs.Names.{names_of}
use Rattle.dcm_names.specs.Reader.{AnswersName, HasRead, ended_names, pending}
use Rattle.dcm_names.specs.declared.list_reader.ListReader.{ListReader}
use Rattle.dcm_cli.specs.Calls.{Reader}
use Rattle.dcm_cli.specs.Change.{Change, change_of}
use Rattle.dcm_cli.specs.ErrorLines.{Reports}
use Rattle.dcm_cli.specs.Program.{Follows}
use Rattle.dcm_table_words.specs.Table.{Name}
use Rattle.dcm_each.specs.Each.{Work, Writing, DoesAt, DoesListed, not_tried, refused, opened_at, not_opened, done_at, listed_path, DoneSoFar, and_done, DoesAll, all_names, failed_at, Listed, and_name, DoesNames, not_written}

-- one change of a writer after another
pub follows : {E : Type 0} (w : Writer E) (first mid last : E) → Follows (change_of w first last) (change_of w first mid) (change_of w mid last)
follows w first mid last = record { begins = (refl, refl); meets = (refl, refl); ends = (refl, refl) }

-- ---- a name in a list, of which the first bytes are held

pub openable_whole : (name : List ℕ) → can_be_opened name ≡ true → take NAME_LIMIT name ≡ name
openable_whole name e = take_all NAME_LIMIT name (leb-true (length name) NAME_LIMIT (and_first (nat_le (length name) NAME_LIMIT) _ e))

pub shown_front : (name : List ℕ) → shown_name (take NAME_LIMIT name) ≡ shown_name name
unfolding shown_name
shown_front name =
    let size = length-take NAME_LIMIT name in
    ap (flat_map shown_byte) (take_all NAME_LIMIT (take NAME_LIMIT name) (omega (arith, size)))

same_line : (name : List ℕ) → unopened_line (take NAME_LIMIT name) ≡ unopened_line name
same_line name = ap (λ (shown : List ℕ). codes "dcmtools: " ++ shown ++ codes ": " ++ codes "input cannot be opened" ++ 10 ∷ []) (shown_front name)

module _ {S I O X : Type 0} (may : MayDo S I O) (work : Work I X) (errors : Change) (from to : X) (before : S) (result : Result ℕ WriteFailed) (after : S) where
  -- what is not opened has no file
  unopened_as : (name held path other : List ℕ) → held ≡ take NAME_LIMIT name → DoesAt may work held path false errors from to before result after → DoesAt may work name other false errors from to before result after
  unopened_as name held path other is (not_opened (not_tried shut none same) line out was) =
      not_opened (not_tried refl refl same) (subst (Reports errors) (ap unopened_line is ∙ same_line name) line) out was
  unopened_as name held path other is (not_opened (refused cause openable tried none) line out was) = absurd (let wrong : false ≡ true = openable in cc)
  unopened_as name held path other is (done_at i left has (not_tried shut none same) does back) = absurd (cc)
  unopened_as name held path other is (done_at i left has (opened_at j openable tried some) does back) = absurd (let wrong : false ≡ true = openable in cc)
  unopened_as name held path other is (not_opened (opened_at j openable tried some) line out was) = absurd (let wrong : false ≡ true = openable in cc)
  unopened_as name held path other is (done_at i left has (refused cause openable tried none) does back) = absurd (let wrong : false ≡ true = openable in cc)

  listed_by : (b : Bool) (name held path : List ℕ) → can_be_opened name ≡ b → held ≡ take NAME_LIMIT name → path ≡ listed_path held → DoesAt may work held path b errors from to before result after
      → DoesAt may work name (listed_path name) b errors from to before result after
  listed_by true name held path can is at does =
      let whole : held ≡ name = is ∙ openable_whole name can in
      subst (λ (n : List ℕ). DoesAt may work n (listed_path n) true errors from to before result after) whole
      (subst (λ (p : List ℕ). DoesAt may work held p true errors from to before result after) at does)
  listed_by false name held path can is at does = unopened_as name held path (listed_path name) is does

  pub listed : (b : Bool) (name held path : List ℕ) → b ≡ can_be_opened name → held ≡ take NAME_LIMIT name → path ≡ listed_path held → DoesAt may work held path b errors from to before result after → DoesListed may work name errors from to before result after
  listed b name held path can is at does =
      subst (λ (c : Bool). DoesAt may work name (listed_path name) c errors from to before result after) can (listed_by b name held path (sym can) is at does)

-- ---- one name after another

module _ {S X E : Type 0} (e : Writer E) (Does : Name → Writing S X) (old now new : E) (from mid to : X) (before between after : S) (front : List Name) (status : ℕ)
    (so_far : DoneSoFar Does from before (change_of e old now) mid front status between) where
  pub done_more : (name : Name) (ended reached : ℕ) → reached ≡ max status ended → Does name (change_of e now new) mid to between (Ok ended) after → DoneSoFar Does from before (change_of e old new) to (front ++ name ∷ []) reached after
  done_more name ended reached is does = and_done front name status ended mid between (change_of e old now) (change_of e now new) so_far does (follows e old now new) refl is

  pub done_failed : (names later : List Name) (name : Name) (failure : WriteFailed) (r : Result ℕ WriteFailed) → r ≡ Err failure → names ≡ front ++ name ∷ later → Does name (change_of e now new) mid to between (Err failure) after → DoesAll Does names (change_of e old new) from to before r after
  done_failed names later name failure r is whole does = failed_at front later name status mid between (change_of e old now) (change_of e now new) failure so_far does (follows e old now new) whole is

pub all_done_of : {S X : Type 0} (Does : Name → Writing S X) (errors : Change) (from to : X) (before after : S) (names front rest : List Name) (status : ℕ) → DoneSoFar Does from before errors to front status after → names ≡ front ++ rest → rest ≡ [] → DoesAll Does names errors from to before (Ok status) after
all_done_of Does errors from to before after names front rest status done whole none =
    all_names status (subst (λ (ns : List Name). DoneSoFar Does from before errors to ns status after) (sym (whole ∙ ap (λ (ns : List Name). front ++ ns) none ∙ append-nil front)) done) refl

-- the next name goes to the front
pub front_more : (names front rest later : List Name) (name : Name) → names ≡ front ++ rest → rest ≡ name ∷ later → names ≡ (front ++ name ∷ []) ++ later
front_more names front rest later name whole is = whole ∙ ap (λ (ns : List Name). front ++ ns) is ∙ sym (append_assoc front (name ∷ []) later)

pub whole_next : (names front rest later : List Name) (name : Name) → names ≡ front ++ rest → rest ≡ name ∷ later → names ≡ front ++ name ∷ later
whole_next names front rest later name whole is = whole ∙ ap (λ (ns : List Name). front ++ ns) is

-- ---- one name of a list after another

module _ {S I X E : Type 0} (e : Writer E) (r : Reader I) (Does : List ℕ → Writing S X) (old now new : E) (from mid to : X) (input at left : I) (before between after : S) (given : List ℕ) (was_over : Bool) (front : List (List ℕ)) (status : ℕ)
    (so_far : Listed r.gets Does from input before (change_of e old now) mid given at was_over front status between) (reader : ListReader) where
  so_far_going : was_over ≡ false → Listed r.gets Does from input before (change_of e old now) mid given at false front status between
  so_far_going going = subst (λ (b : Bool). Listed r.gets Does from input before (change_of e old now) mid given at b front status between) going so_far

  pub listed_more : (a : AnswersName r.gets was_over at left reader given front) (ended reached : ℕ) → reached ≡ max status ended → Does a.name (change_of e now new) mid to between (Ok ended) after
      → Listed r.gets Does from input before (change_of e old new) to (given ++ a.more) left reader.is_over (front ++ a.name ∷ []) reached after
  listed_more a ended reached is does = and_name given a.more front a.name status ended mid at between (change_of e old now) (change_of e now new) (so_far_going a.going) a.calls does (follows e old now new) refl refl is

  -- the names that were answered are the first ones of the list
  first_names : (b : Bool) (all : List ℕ) (names : List (List ℕ)) → reader.is_over ≡ b → HasRead reader all names → (others : List (List ℕ)) × (names_of all b ≡ names ++ others)
  first_names true all names over has = ([], sym (has.over over) ∙ sym (append-nil names))
  first_names false all names over has = (ended_names [] (pending reader), (has.going over).names)

  pub listed_failed : (path : List ℕ) (a : AnswersName r.gets was_over at left reader given front) (failure : WriteFailed) (result : Result ℕ WriteFailed) → result ≡ Err failure → Does a.name (change_of e now new) mid to between (Err failure) after
      → DoesNames r Does path (change_of e old new) from to input left before result after
  listed_failed path a failure result is does =
      let f = first_names reader.is_over (given ++ a.more) (front ++ a.name ∷ []) refl a.has_read in
      not_written given a.more front f.0 a.name reader.is_over status mid at between (change_of e old now) (change_of e now new) failure (so_far_going a.going) a.calls (f.1 ∙ append_assoc front (a.name ∷ []) f.0) does (follows e old now new) is

-- ---- lines

-- a line was written, or its writer failed with a beginning of it
pub told : {E T Y : Type 0} (w : Writer E) (old new : E) (line : List ℕ) (r : Result T Y) → Wrote w old new line r → Reports (change_of w old new) line
told w old new line (Ok t) wrote = inl (wrote.bytes, wrote.failed)
told w old new line (Err e) wrote = inr (wrote.bytes, wrote.failed)
