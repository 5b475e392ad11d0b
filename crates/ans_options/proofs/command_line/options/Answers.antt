use Rattle.std.proofs.Common.{option_map}
use Rattle.std.specs.Prelude.{string_bytes}
use Rattle.ans_model.specs.Text.Words.{texts_of}
use Rattle.ans_options.specs.CommandLine.{AreOptionsOf}
use Rattle.ans_options.proofs.FlagLemmas.{flagless, mend_asked, mistaken_asked, no_cells, no_topic, one_asked}
use Rattle.ans_options.proofs.FlagLemmas.{redraw_asked, table_asked, why_asked}
use Rattle.ans_options.proofs.command_line.options.Goals as goal

one : (c : goal.In-One) → AreOptionsOf (texts_of c.args.words.now) c.in-One.options
    (option_map string_bytes c.in-One.file)
one c = one_asked (texts_of c.args.words.now) c.in_ok-options.field-0 _ _ c.in_ok-options.ensures.ok c.in-One.is

pub returns-in-One-clause-ok : goal.returns-in-One-clause-ok
returns-in-One-clause-ok c = one c

pub returns-in-One-clause-flagless : goal.returns-in-One-clause-flagless
returns-in-One-clause-flagless c = flagless (texts_of c.args.words.now) _ _ (one c)

pub returns-in-One-clause-cells : goal.returns-in-One-clause-cells
returns-in-One-clause-cells c = no_cells (texts_of c.args.words.now) _ _ (one c)

pub returns-in-Why-clause-ok : goal.returns-in-Why-clause-ok
returns-in-Why-clause-ok c =
    why_asked (texts_of c.args.words.now) c.in_ok-options.field-0 _ c.in_ok-options.ensures.ok c.in-Why.is

pub returns-in-Table-clause-ok : goal.returns-in-Table-clause-ok
returns-in-Table-clause-ok c =
    rw c.plain.ensures
    (table_asked (texts_of c.args.words.now) c.in_ok-options.field-0 _ _ c.in_ok-options.ensures.ok c.in-Table.is)

pub returns-in-Mend-clause-ok : goal.returns-in-Mend-clause-ok
returns-in-Mend-clause-ok c =
    rw c.plain-in-Mend.ensures
    (mend_asked (texts_of c.args.words.now) c.in_ok-options.field-0 _ _ _ c.in_ok-options.ensures.ok c.in-Mend.is)

pub returns-in-Redraw-clause-ok : goal.returns-in-Redraw-clause-ok
returns-in-Redraw-clause-ok c =
    rw c.plain-in-Redraw.ensures
    (redraw_asked (texts_of c.args.words.now) c.in_ok-options.field-0 _ _ c.in_ok-options.ensures.ok c.in-Redraw.is)

pub returns-in-Mistaken-clause-ok : goal.returns-in-Mistaken-clause-ok
returns-in-Mistaken-clause-ok c =
    rw c.plain-in-Mistaken.ensures
    (mistaken_asked (texts_of c.args.words.now) c.in_ok-options.field-0 _ _ c.in_ok-options.ensures.ok
    c.in-Mistaken.is)

pub unreachable-requires : goal.unreachable-requires
unreachable-requires c =
    no_topic (texts_of c.args.words.now) c.in_ok-options.field-0 _ c.in_ok-options.ensures.ok c.in-Meaning.is
