-- A list that is read name by name.
use Rattle.std.proofs.Common.{◌≡◌, ◌∙◌, ap, sym, refl, ℕ, suc, ◌+◌, ◌-◌, ◌<◌, ◌≤◌, List, [], ◌∷◌, ◌++◌, append_assoc, length, Bool, true, false, arith}
use Rattle.std.specs.Prelude.{filter}
use Rattle.std.proofs.lemmas.List.{append-nil}
use Rattle.dcm_names.specs.declared.list_reader.ListReader.{ListReader}
use Rattle.dcm_devices.specs.declared.device.ReadFailed.{ReadFailed}
use Rattle.dcm_names.specs.Held.{Holds}
use Rattle.dcm_names.specs.Names.{has_bytes, open_line, ended_lines, names_of}
use Rattle.dcm_names.specs.Reader.{pending, ended_names, EndsPending, PassesPending, EndsName, PassesNames, HoldsPiece, HoldsNone, HoldsFailed, HasRead, Going, Calls, Answers, TellsNext, Refills, last_answer, READ_LIMIT, PIECE, bytes_left, most_left}
use Rattle.std.proofs.Common.{subst, length-append, ◌⊎◌, inl, inr}
use Rattle.std.specs.Prelude.{Option, Some, Ok, if◌then◌else◌}
use Rattle.std.proofs.lemmas.List.Elements.{filter-append}
use Rattle.dcm_devices.specs.Device.{Gave, and_call}
use Rattle.dcm_names.specs.declared.list_reader.NextName.TheVariants.{Name, End, Unread}
use Rattle.dcm_names.proofs.Lists.{lines_of_two, open_of_two}

-- no line that ended on the way from one state to another is a name
pub record Passes (old new : ListReader) (line : List ℕ) : Type 0 where
  pub now : List ℕ
  pub held : Holds new.line now
  pub names : ended_names line (pending old) ≡ ended_names now (pending new)
  pub goes_on : open_line line (pending old) ≡ open_line now (pending new)

pub none_passed : (v : ListReader) (line : List ℕ) → Holds v.line line → Passes v v line
none_passed v line held = record { now = line; held = held; names = refl; goes_on = refl }

no_name : (line : List ℕ) (lines : List (List ℕ)) → has_bytes line ≡ false → filter has_bytes (line ∷ lines) ≡ filter has_bytes lines
no_name [] lines e = refl
no_name (b ∷ bs) lines e = cc

a_name : (line : List ℕ) (lines : List (List ℕ)) → has_bytes line ≡ true → filter has_bytes (line ∷ lines) ≡ line ∷ filter has_bytes lines
a_name [] lines e = cc
a_name (b ∷ bs) lines e = refl

-- an empty line more; the last state holds none
pub one_passed : (old mid new last : ListReader) (line : List ℕ) (p : Passes old mid line) (e : EndsPending mid new p.now) → has_bytes e.ended ≡ false
    → Holds last.line [] → pending last ≡ pending new → Passes old last line
one_passed old mid new last line p e none held same = record {
  now = [];
  held = held;
  names = p.names ∙ ap (filter has_bytes) e.lines ∙ no_name e.ended (ended_lines [] (pending new)) none ∙ ap (ended_names []) (sym same);
  goes_on = p.goes_on ∙ e.goes_on ∙ ap (open_line []) (sym same);
}

-- a name after them
pub name_ended : (old mid new : ListReader) (line : List ℕ) (p : Passes old mid line) (e : EndsPending mid new p.now) → has_bytes e.ended ≡ true → EndsName old new line
name_ended old mid new line p e some = record {
  name = e.ended;
  held = e.held;
  names = p.names ∙ ap (filter has_bytes) e.lines ∙ a_name e.ended (ended_lines [] (pending new)) some;
  goes_on = p.goes_on ∙ e.goes_on;
}

-- or none
pub none_ended : (old mid new : ListReader) (line : List ℕ) (p : Passes old mid line) (e : PassesPending mid new p.now) → PassesNames old new line
none_ended old mid new line p e = record {
  held = rw p.goes_on e.held;
  names = p.names ∙ ap (filter has_bytes) e.lines;
  all = e.all;
}

-- ---- more bytes

names_of_two : (line front back : List ℕ) → ended_names line (front ++ back) ≡ ended_names line front ++ ended_names (open_line line front) back
names_of_two line front back = ap (filter has_bytes) (lines_of_two line front back) ∙ filter-append has_bytes (ended_lines line front) (ended_lines (open_line line front) back)

-- bytes after two beginnings that come to the same, but for names
pub names_after : (given held more : List ℕ) (named : List (List ℕ)) → ended_names [] given ≡ named ++ ended_names [] held → open_line [] given ≡ open_line [] held
    → ended_names [] (given ++ more) ≡ named ++ ended_names [] (held ++ more)
names_after given held more named names last =
    names_of_two [] given more
    ∙ ap (λ ns. ns ++ ended_names (open_line [] given) more) names
    ∙ ap (λ l. (named ++ ended_names [] held) ++ ended_names l more) last
    ∙ append_assoc named (ended_names [] held) (ended_names (open_line [] held) more)
    ∙ ap (λ ns. named ++ ns) (sym (names_of_two [] held more))

pub last_after : (given held more : List ℕ) → open_line [] given ≡ open_line [] held → open_line [] (given ++ more) ≡ open_line [] (held ++ more)
last_after given held more last = open_of_two [] given more ∙ ap (λ l. open_line l more) last ∙ sym (open_of_two [] held more)

-- the reader has read on, and no name ended so far
pub record ReadOn (old new : ListReader) (more : List ℕ) : Type 0 where
  pub line : List ℕ
  pub held : Holds new.line line
  pub names : ended_names [] (pending old ++ more) ≡ ended_names line (pending new)
  pub last : open_line [] (pending old ++ more) ≡ open_line line (pending new)
  pub count : new.read ≡ old.read + length more
  pub over : new.is_over ≡ old.is_over

pub nothing_read : (old new : ListReader) → Holds new.line [] → pending new ≡ pending old → new.read ≡ old.read → new.is_over ≡ old.is_over → ReadOn old new []
nothing_read old new held same read over = record {
  line = [];
  held = held;
  names = ap (ended_names []) (append-nil (pending old) ∙ sym same);
  last = ap (open_line []) (append-nil (pending old) ∙ sym same);
  count = omega (arith, read);
  over = over;
}

-- ---- how many bytes may still be taken

-- a piece came after all bytes that were held
pub left_more : (first old taken new : ListReader) (piece : List ℕ) → bytes_left old ≤ bytes_left first → taken.read ≡ old.read → taken.at ≡ taken.filled → taken.read ≤ READ_LIMIT → new.read ≡ taken.read + length piece → length piece ≤ PIECE → new.filled - new.at ≡ length piece
    → bytes_left new ≤ bytes_left first
left_more first old taken new piece left same all few count room size = omega (arith, left, same, all, few, count, room, size)

-- a name was taken
pub one_fewer : (first old new : ListReader) → first.is_over ≡ false → new.is_over ≡ first.is_over → bytes_left old ≤ bytes_left first → new.read ≡ old.read → new.filled ≡ old.filled → old.at < new.at → most_left new < most_left first
one_fewer first old new going over left same filled later =
    let within = new.ordered in
    let fewer : bytes_left new < bytes_left first = omega (arith, left, same, filled, later, within) in
    subst (λ (b : Bool). (if b then 0 else suc (bytes_left new)) < most_left first) (sym (over ∙ going))
    (subst (λ (b : Bool). suc (bytes_left new) < (if b then 0 else suc (bytes_left first))) (sym going) (omega (arith, fewer)))

-- or the last one
pub none_left : (first new : ListReader) → first.is_over ≡ false → new.is_over ≡ true → most_left new < most_left first
none_left first new going over =
    subst (λ (b : Bool). (if b then 0 else suc (bytes_left new)) < most_left first) (sym over)
    (subst (λ (b : Bool). 0 < (if b then 0 else suc (bytes_left first))) (sym going) (omega arith))

-- ---- whether the reader has failed

-- it has not in the last call, whether or not the last line is a name
pub last_tells : (before after : Bool) (some : Bool) → after ≡ before → TellsNext before after (last_answer some)
last_tells before after true same = same
last_tells before after false same = same

-- it had not before the last call
pub failed_since : (first before after : Bool) (read : ℕ) → (after ≡ true) ⊎ ((READ_LIMIT < read) × (after ≡ before)) → before ≡ first → (after ≡ true) ⊎ ((READ_LIMIT < read) × (after ≡ first))
failed_since first before after read (inl failed) same = inl failed
failed_since first before after read (inr long) same = inr (long.0, long.1 ∙ same)

module _ {R : Type 0} (gets : R → Option (List ℕ) → R → Type 0) where
  pub piece_read : (start before after : R) (old now taken new : ListReader) (more : List ℕ) → Gave gets start more before → (r : ReadOn old now more) → PassesNames now taken r.line → taken.read ≡ now.read → taken.is_over ≡ now.is_over
      → HoldsPiece gets before after taken new → (all : List ℕ) × Gave gets start all after × ReadOn old new all
  piece_read start before after old now taken new more gave r passes read over piece =
      let whole = append_assoc (pending old) more piece.piece in
      let none = r.names ∙ passes.names in
      let line = r.last in (
        more ++ piece.piece,
        and_call more piece.piece before gave piece.call piece.some refl,
        record {
          line = open_line r.line (pending now);
          held = subst (λ l. Holds l (open_line r.line (pending now))) (sym piece.line) passes.held;
          names =
              ap (ended_names []) (sym whole)
              ∙ names_of_two [] (pending old ++ more) piece.piece
              ∙ ap (λ ns. ns ++ ended_names (open_line [] (pending old ++ more)) piece.piece) none
              ∙ ap (λ l. ended_names l piece.piece) line
              ∙ ap (ended_names (open_line r.line (pending now))) (sym piece.held);
          last =
              ap (open_line []) (sym whole)
              ∙ open_of_two [] (pending old ++ more) piece.piece
              ∙ ap (λ l. open_line l piece.piece) line
              ∙ ap (open_line (open_line r.line (pending now))) (sym piece.held);
          count = let size = length-append more piece.piece in omega (arith, size, r.count, read, piece.count);
          over = piece.over ∙ over ∙ r.over;
        },
      )

  pub a_name_read : (start after : R) (old now new : ListReader) (more : List ℕ) → Gave gets start more after → (r : ReadOn old now more) → EndsName now new r.line → new.read ≡ now.read → new.is_over ≡ now.is_over → old.is_over ≡ false
      → (given : List ℕ) (named : List (List ℕ)) → HasRead old given named → Answers gets start after old new given named Name
  a_name_read start after old now new more gave r ends read over going given named has =
      let g = has.going going in
      let not_over = over ∙ r.over ∙ going in
      record {
        going = going;
        more = more;
        name = ends.name;
        calls = subst (λ b. Calls gets b start more after) (sym not_over) gave;
        held = ends.held;
        has_read = record {
          going = λ e. record {
            names =
                names_after given (pending old) more named g.names g.last
                ∙ ap (λ ns. named ++ ns) (r.names ∙ ends.names)
                ∙ sym (append_assoc named (ends.name ∷ []) (ended_names [] (pending new)));
            last = last_after given (pending old) more g.last ∙ r.last ∙ ends.goes_on;
            count = let size = length-append given more in omega (arith, size, read, r.count, g.count);
          };
          over = λ e. absurd (let wrong : true ≡ false = sym e ∙ not_over in cc);
        };
      }

  -- all bytes, and the names in them but for the last line
  whole_list : (old now taken : ListReader) (more : List ℕ) (r : ReadOn old now more) → PassesNames now taken r.line → (given : List ℕ) (named : List (List ℕ)) → Going old given named
      → names_of (given ++ more) true ≡ named ++ filter has_bytes (open_line r.line (pending now) ∷ [])
  whole_list old now taken more r passes given named g =
      filter-append has_bytes (ended_lines [] (given ++ more)) (open_line [] (given ++ more) ∷ [])
      ∙ ap (λ ns. ns ++ filter has_bytes (open_line [] (given ++ more) ∷ [])) (names_after given (pending old) more named g.names g.last ∙ ap (λ ns. named ++ ns) (r.names ∙ passes.names) ∙ append-nil named)
      ∙ ap (λ l. named ++ filter has_bytes (l ∷ [])) (last_after given (pending old) more g.last ∙ r.last)

  pub list_ended : (start before after : R) (old now taken new : ListReader) (more : List ℕ) → Gave gets start more before → (r : ReadOn old now more) → PassesNames now taken r.line → gets before (Some []) after → new.line ≡ taken.line → new.is_over ≡ true
      → old.is_over ≡ false → (given : List ℕ) (named : List (List ℕ)) → HasRead old given named → (b : Bool) → has_bytes (open_line r.line (pending now)) ≡ b → Answers gets start after old new given named (last_answer b)
  list_ended start before after old now taken new more gave r passes call line over going given named has true some =
      let whole = whole_list old now taken more r passes given named (has.going going) in
      record {
        going = going;
        more = more;
        name = open_line r.line (pending now);
        calls = subst (λ b. Calls gets b start more after) (sym over) (before, gave, call);
        held = subst (λ l. Holds l (open_line r.line (pending now))) (sym line) passes.held;
        has_read = record {
          going = λ e. absurd (let wrong : true ≡ false = sym over ∙ e in cc);
          over = λ e. ap (λ ns. named ++ ns) (sym (a_name (open_line r.line (pending now)) [] some)) ∙ sym whole;
        };
      }
  list_ended start before after old now taken new more gave r passes call line over going given named has false none =
      let whole = whole_list old now taken more r passes given named (has.going going) in
      record {
        more = more;
        calls = inl (going, (before, gave, call));
        all = sym (append-nil named) ∙ ap (λ ns. named ++ ns) (sym (no_name (open_line r.line (pending now)) [] none)) ∙ sym whole;
      }

  pub list_unread : (start before after : R) (old now taken new : ListReader) (more : List ℕ) → Gave gets start more before → (r : ReadOn old now more) → PassesNames now taken r.line → taken.read ≡ now.read → HoldsFailed gets before after taken new
      → old.is_over ≡ false → (given : List ℕ) (named : List (List ℕ)) → HasRead old given named → Answers gets start after old new given named (Unread new.read)
  list_unread start before after old now taken new more gave r passes read failed going given named has =
      let g = has.going going in
      record {
        going = going;
        more = more;
        mid = before;
        calls = gave;
        cause = failed.cause;
        all = sym (append-nil named) ∙ ap (λ ns. named ++ ns) (sym (r.names ∙ passes.names)) ∙ sym (names_after given (pending old) more named g.names g.last);
        count = let size = length-append given more in omega (arith, size, read, r.count, g.count, failed.count);
      }

  pub list_over : (start : R) (old : ListReader) → old.is_over ≡ true → (given : List ℕ) (named : List (List ℕ)) → HasRead old given named → Answers gets start start old old given named End
  list_over start old over given named has = record { more = []; calls = inr (over, refl, refl); all = has.over over ∙ ap (λ bs. names_of bs true) (sym (append-nil given)) }

  pub holds_piece : (before after : R) (old new : ListReader) (b : Bool) → b ≡ true → Refills {E = ReadFailed} gets before after old new (Ok b) → HoldsPiece gets before after old new
  holds_piece before after old new true is h = h
  holds_piece before after old new false is h = cc

  pub holds_none : (before after : R) (old new : ListReader) (b : Bool) → b ≡ false → Refills {E = ReadFailed} gets before after old new (Ok b) → HoldsNone gets before after old new
  holds_none before after old new true is h = cc
  holds_none before after old new false is h = h
