use Rattle.std.proofs.Common.{◌≡◌, ◌∙◌, ap, ℕ, ◌+◌, List, [], ◌++◌, append_assoc, length, length-append, take, sym, subst, refl, inl, inr, None, Some, arith}
use Rattle.std.proofs.lemmas.List.{append-nil, length-take-le}
use Rattle.dcm_devices.specs.Device.{no_calls}
use Rattle.dcm_cli.specs.InputCalls.{in_part, to_end, with_failure}
use Rattle.dcm_cli.specs.Pass.{set_bytes}
use Rattle.dcm_cli.specs.Searching.{Searched, SearchGoesOn, SearchEnds, by_bytes, at_end, not_read, decided}
use Rattle.dcm_cli.proofs.Passes.FirstSets.{within_limit}
use Rattle.dcm_cli.proofs.Passes.Passes.{read_nothing, read_twice}
use Rattle.dcm_cli.proofs.Passes.Readers.{members, gave_on, nothing_read, piece_read, end_read, failed_read}
use Rattle.dcm_cli.proofs.Runs.Texts.{none_of}
use Rattle.dcm_cli.proofs.first.search_set.Goals as goal

pub returns-in-Some : goal.returns-in-Some
returns-in-Some g c =
    let s = c.args.coding.syntax in
    let start = c.args.start in
    let buffered = set_bytes c.args.beginning c.args.buffer.now in
    let searched = c.feed_beginning.ensures.searched s start c.new-search.ensures in
    let by : decided c.args.key.now s start buffered ≡ Some c.in-Some.end = sym (c.decided.ensures s start buffered searched) ∙ c.in-Some.is in
    record {
      more = [];
      how = in_part;
      reads = nothing_read (members g.R.Device g.R.DeviceIn) (SearchGoesOn c.args.key.now s start c.args.beginning.is_over buffered) c.args.input.now;
      ends = by_bytes refl (subst (λ (bytes : List ℕ). decided c.args.key.now s start bytes ≡ Some c.in-Some.end) (sym (append-nil buffered)) by);
      over = λ is. refl;
    }

pub returns-then-beginning : goal.returns-then-beginning
returns-then-beginning g c =
    let s = c.args.coding.syntax in
    let start = c.args.start in
    let buffered = set_bytes c.args.beginning c.args.buffer.now in
    let searched = c.feed_beginning.ensures.searched s start c.new-search.ensures in
    record {
      more = [];
      how = in_part;
      reads = nothing_read (members g.R.Device g.R.DeviceIn) (SearchGoesOn c.args.key.now s start c.args.beginning.is_over buffered) c.args.input.now;
      ends = subst (λ (bytes : List ℕ). SearchEnds c.args.key.now s start c.args.beginning.is_over bytes in_part c.end.result) (sym (append-nil buffered))
          (at_end (inl (c.if-beginning.true, refl)) (c.end.ensures s start buffered searched (sym c.requires.count)));
      over = λ is. refl;
    }

pub loop-size-init : goal.loop-size-init
loop-size-init g c =
    let s = c.args.coding.syntax in
    let start = c.args.start in
    let buffered = set_bytes c.args.beginning c.args.buffer.now in
    let searched = c.feed_beginning.ensures.searched s start c.new-search.ensures in
    let none : decided c.args.key.now s start buffered ≡ None = sym (c.decided.ensures s start buffered searched) ∙ none_of c.decided.result c.in_default.not-Some in
    let same = sym (append-nil buffered) in
    let count = c.requires.count in
    let most = within_limit s start c.requires.start c.args.key.now buffered none in
    record {
      front = [];
      calls = no_calls refl refl;
      given = read_nothing (g.R.DeviceIn.remaining c.args.input.now);
      searched = subst (λ (bytes : List ℕ). Searched s start bytes c.feed_beginning.new.self) same searched;
      none = subst (λ (bytes : List ℕ). decided c.args.key.now s start bytes ≡ None) same none;
      count = sym count ∙ ap (λ (bytes : List ℕ). start + length bytes) same;
      within = omega (arith, count, most);
      unread = refl;
      size = refl;
    }

pub returns-in-Ok-None : goal.returns-in-Ok-None
returns-in-Ok-None g c =
    let s = c.args.coding.syntax in
    let start = c.args.start in
    let buffered = set_bytes c.args.beginning c.args.buffer.now in
    let loop = c.loop-size in
    let i = loop.invariant in
    record {
      more = i.front;
      how = to_end;
      reads = end_read (members g.R.Device g.R.DeviceIn) (SearchGoesOn c.args.key.now s start c.args.beginning.is_over buffered) _ loop.input c.next_piece.new.input i.front i.calls i.given i.unread (c.if-beginning.false, i.none)
          (rw c.in-Ok-None.field-0-is at c.in-Ok-None.ensures.bytes) (rw c.in-Ok-None.field-0-is at c.in-Ok-None.ensures.call) c.in-Ok-None.ensures.failed;
      ends = at_end (inr refl) (c.end-in-Ok-None.ensures s start (buffered ++ i.front) i.searched ((rw c.in-Ok-None.field-0-is at c.in-Ok-None.ensures.count) ∙ i.count));
      over = λ is. absurd (let no = c.if-beginning.false in cc);
    }

pub returns-in-Err : goal.returns-in-Err
returns-in-Err g c =
    let s = c.args.coding.syntax in
    let start = c.args.start in
    let buffered = set_bytes c.args.beginning c.args.buffer.now in
    let loop = c.loop-size in
    let i = loop.invariant in
    record {
      more = i.front;
      how = with_failure;
      reads = failed_read (members g.R.Device g.R.DeviceIn) (SearchGoesOn c.args.key.now s start c.args.beginning.is_over buffered) _ loop.input c.next_piece.new.input i.front i.calls i.given i.unread (c.if-beginning.false, i.none)
          c.in-Err.ensures.bytes c.in-Err.ensures.call c.in-Err.ensures.failed;
      ends = not_read refl i.none (let n = c.in-Err.ensures.count ∙ i.count in cc);
      over = λ is. absurd (let no = c.if-beginning.false in cc);
    }

pub returns-in-Some-decided : goal.returns-in-Some-decided
returns-in-Some-decided g c =
    let s = c.args.coding.syntax in
    let start = c.args.start in
    let buffered = set_bytes c.args.beginning c.args.buffer.now in
    let loop = c.loop-size in
    let i = loop.invariant in
    let piece : List ℕ = take c.in-Ok-Some.size c.next_piece.new.buffer in
    let searched = subst (λ (bytes : List ℕ). Searched s start bytes c.feed.new.self) (append_assoc buffered i.front piece) (c.feed.ensures.searched s start (buffered ++ i.front) i.searched) in
    record {
      more = i.front ++ piece;
      how = in_part;
      reads = piece_read (members g.R.Device g.R.DeviceIn) (SearchGoesOn c.args.key.now s start c.args.beginning.is_over buffered) _ loop.input c.next_piece.new.input i.front i.calls i.given i.unread (c.if-beginning.false, i.none)
          c.next_piece.new.buffer c.in-Ok-Some.size
          (rw c.in-Ok-Some.field-0-is at c.in-Ok-Some.ensures.bytes) (rw c.in-Ok-Some.field-0-is at c.in-Ok-Some.ensures.call) c.in-Ok-Some.ensures.failed;
      ends = by_bytes refl (sym (c.decided-in-loop-size.ensures s start (buffered ++ (i.front ++ piece)) searched) ∙ c.in-Some-decided.is);
      over = λ is. absurd (let no = c.if-beginning.false in cc);
    }

pub loop-size-preserved : goal.loop-size-preserved
loop-size-preserved g c =
    let s = c.args.coding.syntax in
    let start = c.args.start in
    let buffered = set_bytes c.args.beginning c.args.buffer.now in
    let loop = c.loop-size in
    let i = loop.invariant in
    let piece : List ℕ = take c.in-Ok-Some.size c.next_piece.new.buffer in
    let came = rw c.in-Ok-Some.field-0-is at c.in-Ok-Some.ensures.bytes in
    let counted = rw c.in-Ok-Some.field-0-is at c.in-Ok-Some.ensures.count in
    let long = length-take-le c.in-Ok-Some.size c.next_piece.new.buffer came.1 in
    let all : (buffered ++ i.front) ++ piece ≡ buffered ++ (i.front ++ piece) = append_assoc buffered i.front piece in
    let searched = subst (λ (bytes : List ℕ). Searched s start bytes c.feed.new.self) all (c.feed.ensures.searched s start (buffered ++ i.front) i.searched) in
    let none : decided c.args.key.now s start (buffered ++ (i.front ++ piece)) ≡ None = sym (c.decided-in-loop-size.ensures s start (buffered ++ (i.front ++ piece)) searched) ∙ none_of c.decided-in-loop-size.result c.in_default-decided.not-Some in
    let whole = length-append (buffered ++ i.front) piece in
    let count : c.next_piece.new.read ≡ start + length (buffered ++ (i.front ++ piece)) = (let before = i.count in omega (arith, before, whole, long, counted)) ∙ ap (λ (bytes : List ℕ). start + length bytes) all in
    let most = within_limit s start c.requires.start c.args.key.now (buffered ++ (i.front ++ piece)) none in
    record {
      front = i.front ++ piece;
      calls = gave_on g.R.DeviceIn.gets _ _ _ i.front c.next_piece.new.buffer c.in-Ok-Some.size i.calls came.0 came.1 (rw c.in-Ok-Some.field-0-is at c.in-Ok-Some.ensures.call);
      given = read_twice _ _ _ i.front piece i.given came.2;
      searched = searched;
      none = none;
      count = count;
      within = omega (arith, count, most);
      unread = c.in-Ok-Some.ensures.failed ∙ i.unread;
      size = c.next_piece.ensures.kept ∙ i.size;
    }

pub loop-size-smaller : goal.loop-size-smaller
loop-size-smaller g c =
    let s = c.args.coding.syntax in
    let start = c.args.start in
    let buffered = set_bytes c.args.beginning c.args.buffer.now in
    let i = c.loop-size.invariant in
    let piece : List ℕ = take c.in-Ok-Some.size c.next_piece.new.buffer in
    let came = rw c.in-Ok-Some.field-0-is at c.in-Ok-Some.ensures.bytes in
    let counted = rw c.in-Ok-Some.field-0-is at c.in-Ok-Some.ensures.count in
    let long = length-take-le c.in-Ok-Some.size c.next_piece.new.buffer came.1 in
    let searched = c.feed.ensures.searched s start (buffered ++ i.front) i.searched in
    let none : decided c.args.key.now s start ((buffered ++ i.front) ++ piece) ≡ None = sym (c.decided-in-loop-size.ensures s start ((buffered ++ i.front) ++ piece) searched) ∙ none_of c.decided-in-loop-size.result c.in_default-decided.not-Some in
    let whole = length-append (buffered ++ i.front) piece in
    let most = within_limit s start c.requires.start c.args.key.now ((buffered ++ i.front) ++ piece) none in
    let before = i.count in
    let some = came.0 in
    omega (arith, before, whole, long, counted, some, most)
