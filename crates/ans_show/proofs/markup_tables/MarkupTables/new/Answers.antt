use Rattle.std.proofs.Common.{arith, ◌<◌, length, ◌∙◌}
use Rattle.std.proofs.lemmas.List.{length-set}
use Rattle.ans_show.specs.declared.short_text.ShortText.{ShortText}
use Rattle.ans_show.specs.Markups.{break_in, character_in}
use Rattle.ans_show.specs.ShortTexts.{short_bytes}
use Rattle.ans_show.proofs.TablesGrow.{text_more}
use Rattle.ans_show.proofs.markup_tables.MarkupTables.new.Goals as goal

pub loop-byte-preserved : goal.loop-byte-preserved
loop-byte-preserved c =
    let h = c.loop-byte.invariant in
    let i = c.loop-byte.byte in
    let breaks : i < length c.loop-byte.breaks = omega arith in
    let characters : i < length c.loop-byte.characters = omega arith in
    record {
      breaks = length-set _ _ _ ∙ h.breaks;
      characters = length-set _ _ _ ∙ h.characters;
      broken = text_more (λ (t : ShortText 48). short_bytes t) (break_in c.args.markup) c.loop-byte.breaks i
          c.run_break.result breaks h.broken c.run_break.ensures;
      shown = text_more (λ (t : ShortText 8). short_bytes t) (character_in c.args.markup) c.loop-byte.characters i
          c.character.result characters h.shown c.character.ensures;
    }
