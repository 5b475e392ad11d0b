-- What `why` says of a file is clean.
use Rattle.std.proofs.Common.{◌≡◌, inl, inr, ℕ, Bool, refl, subst, List, [], ◌∷◌, ◌++◌, length, Option, Some, None}
use Rattle.std.specs.Prelude.{◌==◌, IfSome, codes, decimal, true, false, not}
use Rattle.std.specs.List.{list_all}
use Rattle.std.proofs.lemmas.Option.{slice_get_within, get_or_from_slice_get}
use Rattle.std.proofs.lemmas.List.Elements.{All-nil, All-get_or}
use Rattle.ans_model.specs.Bytes.{IsByte}
use Rattle.ans_model.specs.declared.cell.Cell.{Cell}
use Rattle.ans_model.specs.declared.cell.Position.{Position}
use Rattle.ans_model.specs.declared.fault.Cause.{Cause}
use Rattle.ans_model.specs.declared.fault.Cause.TheVariants.{UnknownCell}
use Rattle.ans_model.specs.declared.fault.Fault.{Fault}
use Rattle.ans_model.specs.declared.start.Start.{Start}
use Rattle.ans_model.specs.Screen.State.{Size, State, IsSize, IsByteCell, IsWellFormed, cell_at, index}
use Rattle.ans_model.specs.Screen.StartClass.{IsStart, none_known, all_known, low_start, high_start}
use Rattle.ans_model.specs.Screen.Step.{final}
use Rattle.ans_model.specs.Sequence.Reads.{Reads}
use Rattle.ans_model.specs.Sequence.TokenKind.{TokenKind}
use Rattle.ans_model.proofs.Reading.{reads_bytes}
use Rattle.ans_model.proofs.StartLemmas.{low_is_start, high_is_start}
use Rattle.ans_pens.proofs.MoreLines.{well_formed_after}
use Rattle.ans_sauce.specs.declared.found.Found.{Found}
use Rattle.ans_sauce.specs.declared.found.Found.TheVariants as found
use Rattle.ans_sauce.specs.declared.parts.Parts.{Parts}
use Rattle.ans_sauce.specs.Found.{IsFound}
use Rattle.ans_sauce.specs.Parts.{content_of, record_of, size_of}
use Rattle.ans_sauce.specs.Split.{IsSplit}
use Rattle.ans_model.specs.Verdict.LastFault.{IsDeserved}
use Rattle.ans_pens.specs.Evidence.{ShowsNamed}
use Rattle.ans_why.specs.HintRows.{Hint, Words, words_for}
use Rattle.ans_why.specs.HintRows as row
use Rattle.ans_why.specs.HintsText.{counted_line, counted_words, first_at, hint_line, hints_text, wider_line}
use Rattle.ans_why.specs.HintsText.{latin_told, mark_line, pass_hints_text, text_lines, told_text}
use Rattle.ans_why.specs.HintsText.{wider_told}
use Rattle.ans_why.specs.TextDamage.{lost_told}
use Rattle.ans_why.specs.WidthsText.{exchanged_line, fitting_line, fitting_lines, lines_words, widths_lines}
use Rattle.ans_why.specs.declared.text_damage.TextDamage.{TextDamage}
use Rattle.ans_why.specs.declared.why.RecordRefusal.{RecordRefusal}
use Rattle.ans_hints.specs.RowEnds.{are_all_ended, wider_rows}
use Rattle.ans_hints.specs.declared.row_ends.WiderRows.{WiderRows}
use Rattle.ans_hints.specs.declared.other_widths.OtherWidths.{OtherWidths}
use Rattle.ans_kinds.specs.declared.players.Players.{Players}
use Rattle.ans_kinds.specs.declared.players.Players.TheVariants.{Agreeing, Any, InNamedColours}
use Rattle.ans_hints.specs.Hints.{much_dark}
use Rattle.ans_hints.specs.declared.hints.Hints.{Hints}
use Rattle.ans_pens.specs.declared.times.Times.{Times}
use Rattle.ans_why.specs.Blamed.{AreToBlame}
use Rattle.ans_why.specs.Explained.{IsShown, IsReliance, IsSaidOfLines, IsTrueOf, Why}
use Rattle.ans_why.specs.WhyText.{after_end_mark_text, blamed_line, blamed_text, shown_lines, reliance_lines}
use Rattle.ans_why.specs.WhyText.{enough_lines, known_line, found_line, lines_line, taller_line, torn_text, why_text}
use Rattle.ans_why.specs.WhyText.{file_lines, returns_text, wide_told}
use Rattle.ans_why.specs.declared.known_bytes.Known.{Known}
use Rattle.ans_why.specs.declared.known_bytes.Known.TheVariants.{Music}
use Rattle.ans_why.specs.declared.known_bytes.Known.TheVariants as known
use Rattle.ans_why.specs.declared.terminal_letters.Terminal.{Terminal}
use Rattle.ans_why.specs.declared.terminal_letters.Terminal.TheVariants.{Repeats}
use Rattle.ans_why.specs.declared.why.Enough.{Enough}
use Rattle.ans_why.specs.declared.why.Reliance.{Reliance}
use Rattle.ans_why.specs.declared.why.Shown.{Shown}
use Rattle.ans_why.specs.declared.why.Shown.TheVariants.{Cursors, Cells}
use Rattle.ans_sauce.specs.declared.judged.Judged.TheVariants.{NoContent, Refused, Passes}
use Rattle.ans_check_laws.specs.CleanTexts.{IsCleanText}
use Rattle.ans_check_laws.proofs.CleanLines.{clean_lines, fault_told_clean, parts_are_bytes}
use Rattle.ans_check_laws.proofs.CleanPlayers.{players_clean}
use Rattle.ans_check_laws.proofs.CleanPieces.{clean_bool, clean_option, AreBytes, bytes_left, bytes_right, clean_nil}
use Rattle.ans_check_laws.proofs.CleanPieces.{clean_append, clean_decimal, clean_flat_map, clean_if}
use Rattle.ans_check_laws.proofs.CleanPieces.{clean_pieces, is_plain, plain_text}

-- ---- bytes of a file

content_is_bytes : (file : List ℕ) (parts : Parts) → IsSplit file parts → AreBytes file → AreBytes (content_of parts)
content_is_bytes file parts split bytes =
    let body = (parts_are_bytes file split.apart split.accepts bytes).body in
    rw split.shows.content (search clean_pieces)

sauce_is_bytes : (file : List ℕ) (parts : Parts) → IsSplit file parts → AreBytes file → AreBytes (record_of parts)
sauce_is_bytes file parts split bytes =
    rw split.shows.sauce (parts_are_bytes file split.apart split.accepts bytes).sauce

-- the bytes to blame are of the content
blamed_is_bytes : (z : Size) (class : Start) (content : List ℕ) (fault : Fault) (text : List ℕ) → AreBytes content
    → AreToBlame z class content fault text → AreBytes text
blamed_is_bytes z class content fault text bytes (inl (h, is)) =
    rw is (bytes_left h.text h.rest (bytes_right h.front (h.text ++ h.rest) (rw h.whole at bytes)))
blamed_is_bytes z class content fault text bytes (inr (inl (h, is))) =
    rw is (bytes_right h.front h.text (rw h.whole at bytes))
blamed_is_bytes z class content fault text bytes (inr (inr (h, is))) = rw is (record { each = All-nil IsByte })

blamed_text_clean : (bytes : List ℕ) → AreBytes bytes → IsCleanText (blamed_text bytes)
blamed_text_clean [] h = clean_nil
blamed_text_clean (byte ∷ more) h = search clean_lines depth 20

blamed_line_clean : (name : List ℕ) (fault : Fault) (bytes : List ℕ) → IsCleanText name → AreBytes bytes
    → IsCleanText (blamed_line name fault bytes)
blamed_line_clean name fault bytes h g =
    let blamed = blamed_text_clean bytes g in
    search (clean_lines, fault_told_clean) depth 20

-- ---- what the two plays show

-- a screen's cell is one of bytes after a play from a start
played_cell : (z : Size) (class : Start) (s : State) (content : List ℕ) (tokens : List TokenKind) (p : Position)
    (c : Cell) → IsSize z → IsStart z class s → Reads content tokens
    → cell_at z (final z s tokens).screen p ≡ Some c → IsByteCell c
played_cell z class s content tokens p c size start reads is =
    let screen = (final z s tokens).screen in
    let k = index z p in
    let well : IsWellFormed z (final z s tokens) =
    well_formed_after z s tokens size.some_columns (reads_bytes content tokens reads) start.well_formed in
    subst IsByteCell (get_or_from_slice_get screen k c c is)
    (All-get_or IsByteCell screen k c (slice_get_within screen k c is) well.bytes)

module _ (z : Size) (class : Start) (content : List ℕ) (low high : Cell) where
  named_cells : (cause : Cause) → IsSize z → ShowsNamed z class content cause (Some (low, high))
      → IsByteCell low × IsByteCell high
  named_cells (UnknownCell row column) size h = (
    played_cell z class (low_start z class) content h.tokens h.position low size
        (low_is_start z class size.some_columns) h.reads h.low_is,
    played_cell z class (high_start z class) content h.tokens h.position high size
        (high_is_start z class size.some_columns) h.reads h.high_is,
  )
  named_cells cause size h = absurd h

shown_clean : (z : Size) (class : Start) (content : List ℕ) (fault : Fault) (shown : Shown) → IsSize z
    → IsShown z class content fault shown → IsCleanText (shown_lines shown)
shown_clean z class content fault (Cursors low high) size h = search clean_lines depth 20
shown_clean z class content fault (Cells low high) size h =
    let bytes = named_cells z class content low high fault.cause size h in
    search (clean_lines, bytes.0.0, bytes.0.1, bytes.1.0, bytes.1.1) depth 20

-- ---- what is relied on

deserved_size : (z : Size) (class : Start) (content : List ℕ) (fault : Fault) → IsDeserved z class content fault
    → IsSize z
deserved_size z class content fault (inl h) = h.size
deserved_size z class content fault (inr (inl h)) = h.size
deserved_size z class content fault (inr (inr h)) = h.size

relied_clean : (P : Type 0) (z : Size) (file_length : ℕ) (content : List ℕ) (r : Option Reliance) → AreBytes content
    → IfSome r (λ r. P × IsReliance z file_length content r) → IsCleanText (reliance_lines r)
relied_clean P z file_length content None bytes h = clean_nil
relied_clean P z file_length content (Some r) bytes (p, h) =
    let size = deserved_size z none_known content r.fault h.deserved in
    let shown = shown_clean z none_known content r.fault r.shown size h.shown in
    let blamed = blamed_line_clean (codes "because") r.fault r.bytes.now (plain_text (codes "because") refl)
    (blamed_is_bytes z none_known content r.fault r.bytes.now bytes h.bytes) in
    search clean_lines depth 20

-- ---- hints

-- the texts of a hint are clean
record IsCleanHint (hint : Hint) : Type 0 where
  before : IsCleanText hint.before
  one : IsCleanText hint.what.one
  more : IsCleanText hint.what.more
  advice_one : IsCleanText hint.advice.one
  advice_more : IsCleanText hint.advice.more

words_clean : (words : Words) (count : ℕ) → IsCleanText words.one → IsCleanText words.more
    → IsCleanText (words_for words count)
words_clean words count one more = clean_if (count == 1) words.one words.more one more

first_at_clean : (count : ℕ) → IsCleanText (words_for first_at count)
first_at_clean count =
    words_clean first_at count (plain_text (codes ", at ") refl) (plain_text (codes ", first at ") refl)

counted_words_clean : (what : Words) (times : Times) → IsCleanText what.one → IsCleanText what.more
    → IsCleanText (counted_words what times)
counted_words_clean what times one more =
    clean_append (decimal times.count) _ (clean_decimal times.count)
    (clean_append (codes " ") _ (plain_text (codes " ") refl)
    (clean_append (words_for what times.count) _ (words_clean what times.count one more)
    (clean_append (words_for first_at times.count) (decimal times.first) (first_at_clean times.count)
    (clean_decimal times.first))))

hint_line_clean : (text : List ℕ) → IsCleanText text → IsCleanText (hint_line text)
hint_line_clean text h = search clean_lines depth 20

counted_clean : (hint : Hint) (times : Option Times) → IsCleanHint hint → IsCleanText (counted_line hint times)
counted_clean hint None h = clean_nil
counted_clean hint (Some times) h =
    hint_line_clean (hint.before ++ (counted_words hint.what times ++ words_for hint.advice times.count))
    (clean_append hint.before _ h.before
    (clean_append (counted_words hint.what times) (words_for hint.advice times.count)
    (counted_words_clean hint.what times h.one h.more)
    (words_clean hint.advice times.count h.advice_one h.advice_more)))

hint_clean : (hint : Hint) → list_all is_plain hint.before ≡ true → list_all is_plain hint.what.one ≡ true
    → list_all is_plain hint.what.more ≡ true → list_all is_plain hint.advice.one ≡ true
    → list_all is_plain hint.advice.more ≡ true → IsCleanHint hint
hint_clean hint a b c d e = record {
  before = plain_text hint.before a;
  one = plain_text hint.what.one b;
  more = plain_text hint.what.more c;
  advice_one = plain_text hint.advice.one d;
  advice_more = plain_text hint.advice.more e;
}

feeds_hint : (mixed : Bool) → IsCleanHint (row.bare_line_feeds mixed)
feeds_hint true = hint_clean _ refl refl refl refl refl
feeds_hint false = hint_clean _ refl refl refl refl refl

ended_hint : (mixed : Bool) → IsCleanHint (row.ended_rows mixed)
ended_hint true = hint_clean _ refl refl refl refl refl
ended_hint false = hint_clean _ refl refl refl refl refl

told_clean : (hints : Hints) (wider : Option WiderRows) (font : List ℕ) → AreBytes font
    → IsCleanText (told_text hints wider font)
told_clean hints wider font bytes =
    let feeds = counted_clean (row.bare_line_feeds hints.row_ends.returns) hints.loose_line_feeds
    (feeds_hint hints.row_ends.returns) in
    let ended = counted_clean (row.ended_rows (not (are_all_ended hints.row_ends))) hints.row_ends.ended
    (ended_hint (not (are_all_ended hints.row_ends))) in
    let over = counted_clean row.overprints hints.row_ends.overprints (hint_clean _ refl refl refl refl refl) in
    let wide = counted_clean row.wide_characters hints.wide_characters (hint_clean _ refl refl refl refl refl) in
    let two = counted_clean row.two_byte_letters hints.two_byte_letters (hint_clean _ refl refl refl refl refl) in
    let latin = counted_clean row.latin_letters (latin_told font hints.latin_letters)
    (hint_clean _ refl refl refl refl refl) in
    let boards = counted_clean row.board_codes hints.board_codes (hint_clean _ refl refl refl refl refl) in
    let modern = counted_clean row.modern_colours hints.later_colours (hint_clean _ refl refl refl refl refl) in
    let off = counted_clean row.off_switches hints.off_switches (hint_clean _ refl refl refl refl refl) in
    let blinking = counted_clean row.blinking hints.blinking_glyphs (hint_clean _ refl refl refl refl refl) in
    let grey = counted_clean row.dark_grey (much_dark hints) (hint_clean _ refl refl refl refl refl) in
    search (clean_option wider_line, clean_lines) depth 30 fits 5000

hints_clean : (hints : Hints) (font : List ℕ) → AreBytes font → IsCleanText (hints_text hints font)
hints_clean hints font bytes = told_clean hints (wider_rows hints.row_ends) font bytes

pass_hints_clean : (hints : Hints) (font : List ℕ) → AreBytes font → IsCleanText (pass_hints_text hints font)
pass_hints_clean hints font bytes = told_clean hints (wider_told hints) font bytes

-- ---- damage, other widths, and the command for everywhere

mark_clean : (mark : Bool) → IsCleanText (mark_line mark)
mark_clean true = plain_text (mark_line true) refl
mark_clean false = clean_nil

text_clean : (damage : TextDamage) → IsCleanText (text_lines damage)
text_clean damage =
    clean_append (counted_line row.lost_escapes (lost_told damage)) _
    (counted_clean row.lost_escapes (lost_told damage) (hint_clean _ refl refl refl refl refl))
    (clean_append (counted_line row.shown_escapes damage.shown_escapes) _
    (counted_clean row.shown_escapes damage.shown_escapes (hint_clean _ refl refl refl refl refl))
    (clean_append (counted_line row.short_escapes damage.short_escapes) _
    (counted_clean row.short_escapes damage.short_escapes (hint_clean _ refl refl refl refl refl))
    (clean_append (counted_line row.converted damage.converted) _
    (counted_clean row.converted damage.converted (hint_clean _ refl refl refl refl refl))
    (clean_append (counted_line row.lone_returns damage.returns) (mark_line damage.mark)
    (counted_clean row.lone_returns damage.returns (hint_clean _ refl refl refl refl refl))
    (mark_clean damage.mark)))))

file_damage_clean : (said : RecordRefusal) → IsCleanText (file_lines said)
file_damage_clean said =
    clean_append (text_lines said.damage) (counted_line row.wide_characters (wide_told said)) (text_clean said.damage)
    (counted_clean row.wide_characters (wide_told said) (hint_clean _ refl refl refl refl refl))

lines_words_clean : (lines : ℕ) → IsCleanText (lines_words lines)
lines_words_clean lines =
    clean_if (lines == 1) _ _ (plain_text (codes " stated line comes out: --columns ") refl)
    (plain_text (codes " stated lines come out: --columns ") refl)

fitting_clean : (lines : ℕ) (width : Option ℕ) → IsCleanText (fitting_line lines width)
fitting_clean lines None = clean_nil
fitting_clean lines (Some width) =
    hint_line_clean (codes "with " ++ (decimal width ++ (codes " columns the "
    ++ (decimal lines ++ (lines_words lines ++ decimal width))))) (search (lines_words_clean, clean_lines) depth 20)

exchanged_clean : (z : Size) (exchanged : Bool) → IsCleanText (exchanged_line z exchanged)
exchanged_clean z false = clean_nil
exchanged_clean z true = search clean_lines depth 20

widths_clean : (z : Size) (widths : OtherWidths) → IsCleanText (widths_lines z widths)
widths_clean z widths =
    clean_append (fitting_lines z.lines widths.fitting) (exchanged_line z widths.exchanged)
    (clean_flat_map (fitting_line z.lines) widths.fitting (fitting_clean z.lines)) (exchanged_clean z widths.exchanged)

-- ---- what is found

found_clean : (file : List ℕ) (found : Found) (cause : Cause) → AreBytes file → IsFound file found cause
    → IsCleanText (found_line found)
found_clean file (found.Version version) cause bytes h =
    let of_file : AreBytes version.now = rw h.1 (search clean_pieces) in
    search clean_lines depth 20
found_clean file (found.Grown offset size returns) cause bytes h =
    let text : IsCleanText (returns_text returns) = clean_if (returns == 1) _ _
    (plain_text (codes " of them a return that a transfer as text may have put in") refl)
    (plain_text (codes " of them returns that a transfer as text may have put in") refl) in
    search clean_lines depth 20
found_clean file found cause bytes h = search (clean_bool after_end_mark_text, clean_lines) depth 20

-- ---- the text

lines_clean : (lines : Option ℕ) (torn : Bool) → IsCleanText (lines_line lines torn)
lines_clean None torn = clean_nil
lines_clean (Some n) torn = search (clean_bool torn_text, clean_lines) depth 20

terminal_clean : (what : Terminal) → IsCleanText (known_line (Some (known.Terminal what)))
terminal_clean Repeats = plain_text (known_line (Some (known.Terminal Repeats))) refl
terminal_clean what = plain_text (known_line (Some (known.Terminal what))) refl

known_clean : (known : Option Known) → IsCleanText (known_line known)
known_clean None = clean_nil
known_clean (Some Music) = plain_text (known_line (Some Music)) refl
known_clean (Some (known.Terminal what)) = terminal_clean what
known_clean (Some is) = plain_text (known_line (Some is)) refl

ruleset clean_answers = (
  hints_clean,
  pass_hints_clean,
  text_clean,
  file_damage_clean,
  widths_clean,
  known_clean,
  lines_clean,
  players_clean,
  clean_lines,
)

enough_clean : (file : List ℕ) (cause : Cause) (damage : TextDamage) (enough : Option Enough) → AreBytes file
    → IsSaidOfLines file cause enough → IsCleanText (enough_lines damage enough)
enough_clean file cause damage None bytes h = clean_nil
enough_clean file cause damage (Some e) bytes h =
    let font : AreBytes e.font.now = rw h.some.1.font (search clean_pieces) in
    search clean_answers depth 20

pub why_clean : (file : List ℕ) (why : Why) → AreBytes file → IsTrueOf file why → IsCleanText (why_text why)
why_clean file (NoContent said) bytes h =
    let blamed = blamed_line_clean (codes "fault") said.fault [] (plain_text (codes "fault") refl)
    (record { each = All-nil IsByte }) in
    let found = found_clean file said.found said.fault.cause bytes h.found in
    let enough = enough_clean file said.fault.cause said.damage said.enough bytes h.enough in
    search clean_answers depth 20
why_clean file (Refused parts r) bytes (split, h) =
    let sauce = sauce_is_bytes file parts split bytes in
    let content = content_is_bytes file parts split bytes in
    let blamed = blamed_line_clean (codes "fault") r.fault r.bytes.now (plain_text (codes "fault") refl)
    (blamed_is_bytes (size_of parts) all_known (content_of parts) r.fault r.bytes.now content h.bytes) in
    search clean_answers depth 20
why_clean file (Passes parts pass) bytes (split, h) =
    let sauce = sauce_is_bytes file parts split bytes in
    let relied = relied_clean _ (size_of parts) (length file) (content_of parts) pass.reliance
    (content_is_bytes file parts split bytes) h.relies in
    search (clean_bool taller_line, clean_answers) depth 20
