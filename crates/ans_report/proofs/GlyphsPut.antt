-- The lines of glyphs, whose offsets share all but their last digit by tens.
use Rattle.std.proofs.Common.{◌≡◌, ◌↔◌, ℕ, ◌+◌, ◌*◌, ◌/◌, ◌%◌, ◌^◌, ◌<◌, ◌≤◌, List, [], ◌∷◌, ◌++◌, length}
use Rattle.std.proofs.Common.{get_or, drop, map, codes, decimal, Option, Ok, Err, refl, sym, ap, ap₂, ◌∙◌, arith}
use Rattle.std.proofs.Common.{append_assoc}
use Rattle.std.specs.Prelude.{Result, IsOk, OnOk}
use Rattle.std.specs.Fmt.{digits}
use Rattle.std.specs.List.{concat}
use Rattle.std.proofs.lemmas.Bool.{false≢true}
use Rattle.std.proofs.lemmas.Fmt.{decimal_digit, decimal_step_wide}
use Rattle.std.proofs.lemmas.List.{drop_all, drop_more}
use Rattle.ans_model.specs.Sequence.TokenKind as token
use Rattle.ans_model.specs.declared.kind.Kind.{Kind}
use Rattle.ans_model.specs.declared.kind.Kind.TheVariants.{Glyph}
use Rattle.ans_model.specs.Inside.ShownKind.{shown_kind}
use Rattle.ans_model.specs.Text.FaultText.{line_of}
use Rattle.ans_model.specs.Text.Hexadecimal.{hex_byte}
use Rattle.ans_model.specs.Text.TokensText.{token_lines, token_name}
use Rattle.ans_tokens.specs.Walk.{Front, IsRunNext, front_past}
use Rattle.ans_tokens.proofs.Runs.{past_texts, past_tokens}
use Rattle.ans_write.specs.Puts.{Puts}
use Rattle.ans_write.specs.declared.outbox.Outbox.{Outbox}
use Rattle.ans_write.proofs.PutsLemmas.{Puts-nothing, Puts-same, Puts-then}
use Rattle.ans_report.specs.GlyphLines.{AreReady, glyph_line, line_end, run_lines}
use Rattle.ans_report.specs.declared.tokens_text.Tens.{Tens}
use Rattle.ans_report.proofs.TokensPut.{token_lines-append}

-- ---- ten offsets
-- from 10 on the digits of the tens stand before the last
share_tens : (q last : ℕ) → 0 < q → 10 * q + last < 10 ^ 64 → last < 10
    → decimal (10 * q + last) ≡ decimal q ++ (48 + last) ∷ []
share_tens q last some small low =
    let tens : (10 * q + last) / 10 ≡ q = omega arith in
    let ones : (10 * q + last) % 10 ≡ last = omega arith in
    decimal_step_wide (10 * q + last) (omega arith) small ∙ ap₂ (λ (d r : ℕ). decimal d ++ (48 + r) ∷ []) tens ones

pub tens_ready : (tens : Tens) (offset : ℕ) → offset < 2 ^ 64 → 0 < offset / 10 → tens.start ≡ 10 * (offset / 10)
    → tens.digits.items ≡ decimal (offset / 10) → AreReady tens offset
tens_ready tens offset small some start digits = record {
  begin = omega (arith, start);
  share = λ last low. rw (start, digits) (share_tens (offset / 10) last some (omega arith) low);
}

-- below 10 nothing does
pub ones_ready : (tens : Tens) (offset : ℕ) → tens.start ≡ 0 → tens.digits.items ≡ [] → AreReady tens offset
ones_ready tens offset start digits = record {
  begin = omega (arith, start);
  share = λ last low.
      let same : tens.start + last ≡ last = omega (arith, start) in
      rw (same, digits) (decimal_digit last low);
}

-- they are ready for later offsets too
pub later_ready : {tens : Tens} {a b : ℕ} → a ≤ b → AreReady tens a → AreReady tens b
later_ready {tens} {a} {b} le h = record { begin = omega (arith, le, h.begin); share = h.share }

-- what an answer of `Ok` tells, where it comes
pub told_at_ok : {T E : Type 0} (r : Result T E) {P Q : Type 0} → (IsOk r ↔ Q) → Q → OnOk r P → P
told_at_ok (Ok v) h q p = p
told_at_ok (Err e) h q p = absurd (false≢true (h.1 q))

-- ---- one line
line_behind : (text : List ℕ) (byte : ℕ) → text ++ (codes " 1 glyph " ++ (hex_byte byte ++ codes "\n"))
    ≡ line_of (text ++ (codes " " ++ (decimal 1 ++ (codes " " ++ token_name (token.Glyph byte)))))
unfolding digits
line_behind text byte = sym (append_assoc text (codes " 1 glyph " ++ hex_byte byte) (codes "\n"))

line_from : (front digits : List ℕ) (last byte : ℕ) → front ++ last ∷ [] ≡ digits
    → front ++ (last ∷ (codes " 1 glyph " ++ (hex_byte byte ++ codes "\n")))
    ≡ line_of (digits ++ (codes " " ++ (decimal 1 ++ (codes " " ++ token_name (token.Glyph byte)))))
line_from front digits last byte e =
    let rest : List ℕ = codes " 1 glyph " ++ (hex_byte byte ++ codes "\n") in
    sym (append_assoc front (last ∷ []) rest) ∙ ap (λ (v : List ℕ). v ++ rest) e ∙ line_behind digits byte

-- the digits that are shared, the last one, and what follows
pub glyph_line_is : (tens : Tens) (offset byte last : ℕ) → AreReady tens offset → last < 10 → tens.start + last ≡ offset
    → tens.digits.items ++ line_end last byte ≡ glyph_line offset byte
glyph_line_is tens offset byte last h low at =
    line_from tens.digits.items (decimal offset) (48 + last) byte (sym (h.share last low) ∙ ap decimal at)

-- it is the line of such a token
pub glyph_line_told : (start b n : ℕ) (k : Kind) → k ≡ Glyph b → n ≡ 1 → glyph_line start b
    ≡ line_of (decimal start ++ (codes " " ++ (decimal n ++ (codes " " ++ token_name (shown_kind k)))))
glyph_line_told start b n k is one = rw (is, one) refl

-- ---- a run
-- with the lines of what is left of a run, all of its lines are put
abbrev pub PutsWithRest : {W : Type 0} → (W → Option (List ℕ)) → Outbox W → ℕ → List ℕ → Outbox W → ℕ → List ℕ → Type 0
PutsWithRest {W} contents first offset run now at rest =
    (c : Outbox W) → Puts contents now c (run_lines at rest) → Puts contents first c (run_lines offset run)

module _ {W : Type 0} {contents : W → Option (List ℕ)} {first : Outbox W} (offset : ℕ) (run : List ℕ) where
  pub one_line_more : {a b : Outbox W} (at i : ℕ) → i < length run
      → PutsWithRest contents first offset run a at (drop i run) → Puts contents a b (glyph_line at (get_or run i 0))
      → PutsWithRest contents first offset run b (at + 1) (drop (i + 1) run)
  one_line_more at i early h line c rest =
      h c (Puts-same (sym (ap (run_lines at) (drop_more run i 0 early))) (Puts-then line rest))

  pub run_put : {now : Outbox W} (at i : ℕ) → length run ≤ i
      → PutsWithRest contents first offset run now at (drop i run) → Puts contents first now (run_lines offset run)
  run_put {now} at i late h = h now (Puts-same (sym (ap (run_lines at) (drop_all i run late))) (Puts-nothing now))

-- the lines of a front and of a run behind it
pub lines_past : (front : Front) (offset : ℕ) (run behind : List ℕ) → IsRunNext front offset run behind
    → token_lines 0 front.tokens front.texts ++ run_lines offset run
    ≡ token_lines 0 (front_past front run behind).tokens (front_past front run behind).texts
lines_past front offset run behind next =
    let glyphs = map (λ b. token.Glyph b) run in
    let texts = map (λ b. b ∷ []) run in
    let start : offset ≡ 0 + length (concat front.texts) = omega (arith, next.starts) in
    ap (λ (k : ℕ). token_lines 0 front.tokens front.texts ++ token_lines k glyphs texts) start
    ∙ sym (token_lines-append 0 front.tokens glyphs front.texts texts next.each)
    ∙ ap₂ (token_lines 0) (sym (past_tokens front run behind)) (sym (past_texts front run behind))
