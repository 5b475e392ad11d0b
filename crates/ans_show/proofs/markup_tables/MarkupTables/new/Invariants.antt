use Rattle.std.proofs.Common.{◌≡◌, ℕ, ◌<◌, length, get_or}
use Rattle.ans_show.specs.declared.short_text.ShortText.{ShortText}
use Rattle.ans_show.specs.Markups.{break_in, character_in}
use Rattle.ans_show.specs.ShortTexts.{short_bytes}
use Rattle.ans_show.proofs.markup_tables.MarkupTables.new.Given as goal

abbrev pub invariant-loop-byte : goal.invariant-loop-byte
invariant-loop-byte l = record {
  breaks : length l.breaks ≡ 256;
  characters : length l.characters ≡ 256;
  broken : (b : ℕ) (d : ShortText 48) → b < l.byte → short_bytes (get_or l.breaks b d) ≡ break_in l.markup b;
  shown : (b : ℕ) (d : ShortText 8) → b < l.byte → short_bytes (get_or l.characters b d) ≡ character_in l.markup b;
}
