-- The filter as the program holds it, and what it does to a sink of lines.
use Rattle.std.specs.Prelude.{◌≡◌, ℕ, Bool, false, not, ◌&&◌, ◌||◌, List, map, reverse, Result, OnOk}
use Rattle.dcm_base.specs.Bytes.Spelling.{form, read_as}
use Rattle.dcm_base.specs.Steps.Atoms.{Atom}
use Rattle.dcm_base.specs.Steps.Steps.{Goes}
use Rattle.dcm_devices.specs.Device.{Puts, Tells}
use Rattle.dcm_stream.specs.Skip.{depth, is_open}
use Rattle.dcm_sinks.specs.declared.dump.line_sink.LineSink.{Ghosts}
use Rattle.dcm_stream.specs.declared.token.Token.{Token}
use Rattle.dcm_stream.specs.declared.token.Token.TheVariants.{Open, Bytes, CloseLeaf, OpenItem, CloseItem, CloseSeq}
use Rattle.dcm_stream.specs.declared.token.Token.TheVariants.{OpenFragment, End}
use Rattle.dcm_named.specs.declared.filter.Filter.{Filter}
use Rattle.dcm_named.specs.declared.filter.Outside.{Outside}
use Rattle.dcm_named.specs.Named.{is_named, step_text}
use Rattle.dcm_named.specs.Filter.{Place, begins_at_head, is_one, begins_at_end, way_if}
use Rattle.dcm_named.specs.NamedSink.{named_step, named_writes}

abbrev pub place : Filter → Place
place f = record {
  tags = f.tags.now;
  ways = f.ways;
  mode = f.mode;
  way = map (λ (o : Outside). o.tag) (reverse f.outermost_first.items);
  shown = depth f.shown;
}

-- ---- whole tokens

abbrev pub token_shows : Place → Token → Bool
token_shows p (Open head syntax) = is_open p.shown || is_named p.tags head.tag
token_shows p (Bytes bytes) = is_open p.shown
token_shows p CloseLeaf = is_open p.shown
token_shows p (OpenItem declared) = is_open p.shown
token_shows p CloseItem = is_open p.shown
token_shows p CloseSeq = is_open p.shown
token_shows p (OpenFragment size) = is_open p.shown
token_shows p End = is_open p.shown

abbrev pub token_begins : Place → Token → Bool
token_begins p (Open head syntax) = not (is_open p.shown) && (is_named p.tags head.tag
    && begins_at_head (form syntax (read_as syntax head.tag head.vr) head.length) p.mode)
token_begins p (Bytes bytes) = false
token_begins p CloseLeaf = is_one p.shown && begins_at_end p.mode
token_begins p (OpenItem declared) = false
token_begins p CloseItem = false
token_begins p CloseSeq = false
token_begins p (OpenFragment size) = false
token_begins p End = false

abbrev pub token_before : Place → Token → List ℕ
token_before p token = way_if (token_begins p token && p.ways) p.way

-- a sequence of the way, and a dot
abbrev pub outside_text : Outside → List ℕ
outside_text o = step_text o.tag

-- ---- what a call does

-- a text was written before a line, or a beginning of it where the call failed, and what writes lines is in the state
-- that it was in
pub record PutText {S T E : Type 0} (lines : Ghosts S) (old new : S) (text : List ℕ) (r : Result T E) : Type 0 where
  pub state : OnOk r (lines.state new ≡ lines.state old)
  pub bytes : Puts (lines.contents old) (lines.contents new) text r
  pub failed : Tells (lines.has_failed old) (lines.has_failed new) r
  pub kept : lines.kept new ≡ lines.kept old

-- a filter and what writes lines took these atoms, or a beginning of their output went out where the call failed
pub record Filtered {S T E : Type 0} (lines : Ghosts S) (before after : Place) (old new : S) (atoms : List Atom)
    (r : Result T E) : Type 0 where
  pub goes : Goes (named_step lines.step lines.over) (named_writes lines.writes) (before, lines.state old)
      (lines.contents old) (after, lines.state new) (lines.contents new) atoms r
  pub failed : Tells (lines.has_failed old) (lines.has_failed new) r
  pub kept : lines.kept new ≡ lines.kept old
