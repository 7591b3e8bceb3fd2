use Rattle.std.proofs.Common.{◌≡◌, subst, get_or, length, ℕ, arith, rules}
use Rattle.dcm_build.proofs.Lines.Pieces.{first_of, bytes_taken, more_stands, more_read, limit_at, too_long, newline_halts}
use Rattle.dcm_build.specs.Builder.{line_at}
use Rattle.dcm_build.proofs.line_reader.LineReader.read_some.Goals as goal

pub returns-then-read-ge-INPUT_LIMIT-clause-fed : goal.returns-then-read-ge-INPUT_LIMIT-clause-fed
returns-then-read-ge-INPUT_LIMIT-clause-fed g c = record {
  feeds =
      let reader = c.args.self.now in
      let size : c.len.result ≡ length reader.line.items = c.len.ensures.value in
      limit_at ℕ reader (g.W.DeviceOut.contents c.args.out.now) c.args.piece.now c.halt.result c.requires.some (omega (arith, size)) c.halt.ensures;
  failed = search rules;
}

pub returns-then-n-gt0-clause-fed : goal.returns-then-n-gt0-clause-fed
returns-then-n-gt0-clause-fed g c = record {
  feeds =
      let reader = c.args.self.now in
      let front = c.split_at.result.0.now in
      let bytes = c.split_at-then-n-gt0.result.0.now in
      let n : ℕ = c.line_end-n.result in
      let size : c.len.result ≡ length reader.line.items = c.len.ensures.value in
      let again : c.len-2.result ≡ length reader.line.items = c.len-2.ensures.value in
      let taken : length bytes ≡ n = c.split_at-then-n-gt0.ensures.front_len in
      let fits : length front ≡ c.min.result = c.split_at.ensures.front_len in
      let whole = first_of c.args.piece.now front bytes c.min.result n c.split_at.ensures.front c.split_at-then-n-gt0.ensures.front c.line_end-n.ensures.within (omega (arith, fits)) in
      rw (← whole) (bytes_taken reader c.read_line_bytes.new.self (g.W.DeviceOut.contents c.args.out.now) bytes c.read_line_bytes.ensures.file c.read_line_bytes.ensures.line (rw c.split_at-then-n-gt0.ensures.front c.line_end-n.ensures.plain) (omega (arith, size, taken, fits)) (omega (arith, again, taken, fits)));
  failed = search rules;
}

pub returns-then-n-gt0-clause-stands : goal.returns-then-n-gt0-clause-stands
returns-then-n-gt0-clause-stands g c =
    let reader = c.args.self.now in
    let front = c.split_at.result.0.now in
    let bytes = c.split_at-then-n-gt0.result.0.now in
    let n : ℕ = c.line_end-n.result in
    let size : c.len.result ≡ length reader.line.items = c.len.ensures.value in
    let again : c.len-2.result ≡ length reader.line.items = c.len-2.ensures.value in
    let taken : length bytes ≡ n = c.split_at-then-n-gt0.ensures.front_len in
    let fits : length front ≡ c.min.result = c.split_at.ensures.front_len in
    more_stands (line_at reader) _ bytes c.read_line_bytes.ensures.line c.requires.stands (omega (arith, size, taken, fits)) (omega (arith, again, taken, fits))

pub returns-then-n-gt0-clause-size : goal.returns-then-n-gt0-clause-size
returns-then-n-gt0-clause-size g c =
    let reader = c.args.self.now in
    let bytes = c.split_at-then-n-gt0.result.0.now in
    let n : ℕ = c.line_end-n.result in
    let taken : length bytes ≡ n = c.split_at-then-n-gt0.ensures.front_len in
    let read = more_read (line_at reader) _ bytes c.read_line_bytes.ensures.line in
    omega (arith, taken, read)

pub returns-then-n-gt0-clause-within : goal.returns-then-n-gt0-clause-within
returns-then-n-gt0-clause-within g c =
    let reader = c.args.self.now in
    let front = c.split_at.result.0.now in
    let bytes = c.split_at-then-n-gt0.result.0.now in
    let n : ℕ = c.line_end-n.result in
    let size : c.len.result ≡ length reader.line.items = c.len.ensures.value in
    let taken : length bytes ≡ n = c.split_at-then-n-gt0.ensures.front_len in
    let fits : length front ≡ c.min.result = c.split_at.ensures.front_len in
    let read = more_read (line_at reader) _ bytes c.read_line_bytes.ensures.line in
    omega (arith, size, taken, fits, read)

pub returns-in_err-end_line-clause-fed : goal.returns-in_err-end_line-clause-fed
returns-in_err-end_line-clause-fed g c = record {
  feeds =
      let reader = c.args.self.now in
      let size : c.len.result ≡ length reader.line.items = c.len.ensures.value in
      newline_halts (Unit {0}) reader c.end_line.new.self _ _ c.args.piece.now c.in_err-end_line.field-0.0 c.from_residual.result c.requires.some (omega (arith, size)) c.if-piece-eq10.true c.in_err-end_line.ensures.reached.reaches c.from_residual.ensures.1;
  failed = search rules;
}

pub returns-clause-fed : goal.returns-clause-fed
returns-clause-fed g c = record {
  feeds =
      let reader = c.args.self.now in
      let size : c.len.result ≡ length reader.line.items = c.len.ensures.value in
      let again : c.len-2.result ≡ length reader.line.items = c.len-2.ensures.value in
      let none : c.line_end-n.result ≡ 0 = omega arith in
      too_long ℕ reader (g.W.DeviceOut.contents c.args.out.now) c.args.piece.now c.split_at.result.0.now c.min.result c.halt-2.result c.requires.some (omega (arith, size)) c.split_at.ensures.front (λ zero. omega (arith, size, again, zero)) (λ some. subst (λ (k : ℕ). get_or c.split_at.result.0.now k 0 ≡ 10) none (c.line_end-n.ensures.newline (omega (arith, none, some)))) c.if-piece-eq10.false c.halt-2.ensures;
  failed = search rules;
}
