use Rattle.std.proofs.Common.{◌≡◌, List, ℕ, ◌++◌, codes, decimal, append_assoc, sym, ◌∙◌}
use Rattle.ans_model.specs.Inside.ShownKind.{shown_kind}
use Rattle.ans_model.specs.Text.FaultText.{line_of}
use Rattle.ans_model.specs.Text.TokensText.{token_name}
use Rattle.ans_tokens.specs.Token.{kind_of, start_of, length_of}
use Rattle.ans_write.proofs.PutsLemmas.{Puts-same, Puts-then}
use Rattle.ans_report.proofs.GlyphsPut.{glyph_line_told}
use Rattle.ans_report.proofs.tokens_text.put_token.Goals as goal

-- the line of any token
line_is : (start length name : List ℕ)
    → start ++ (codes " " ++ (length ++ (codes " " ++ (name ++ codes "\n"))))
    ≡ line_of (start ++ (codes " " ++ (length ++ (codes " " ++ name))))
line_is start length name = simp append_assoc

pub returns-in-Glyph-clause-puts : goal.returns-in-Glyph-clause-puts
returns-in-Glyph-clause-puts g c =
    let t = c.args.token.now in
    Puts-same (glyph_line_told (start_of t) c.in-Glyph.byte (length_of t) (kind_of t)
    (sym c.kind.ensures ∙ c.in-Glyph.is) (sym c.length.ensures ∙ c.if-length-eq1.true))
    (rw c.start.ensures at c.put_glyph.ensures.puts)

pub returns-in_default-clause-puts : goal.returns-in_default-clause-puts
returns-in_default-clause-puts g c =
    let t = c.args.token.now in
    Puts-same (line_is (decimal (start_of t)) (decimal (length_of t)) (token_name (shown_kind (kind_of t))))
    (Puts-then (rw c.start-in_default.ensures at c.put_decimal.ensures)
    (rw (c.kind.ensures, c.length-in_default.ensures) at c.put_rest.ensures))
