-- Whole tokens, which are played before the scanner is taken over them.
use Rattle.std.proofs.Common.{◌≡◌, ℕ, ◌+◌, ◌-◌, ◌≤◌, refl, sym, ◌∙◌, List, [], ◌++◌, length, length-append}
use Rattle.std.proofs.Common.{take, drop, None, subst}
use Rattle.std.proofs.lemmas.List.{length-take-le, take_rest}
use Rattle.std.proofs.Math.Seq.{take-add}
use Rattle.ans_model.specs.Sequence.TokenKind.{TokenKind}
use Rattle.ans_tokens.specs.ScannerView.{ScannerView}
use Rattle.ans_tokens.specs.Glyphs.{IsBetweenTokens, scanner_after}
use Rattle.ans_tokens.specs.WholeToken.{IsTokenFront}
use Rattle.ans_play.specs.HalfFault.{half_fault}
use Rattle.ans_play.specs.PlayView.{PlayView}
use Rattle.ans_play.specs.Plays.{after_token}
use Rattle.ans_play.specs.Stands.{GoesOn, PlaysWholeTokens}
use Rattle.ans_play.proofs.Feeding.{front_goes_on, goes_on_nothing, goes_on_more}
use Rattle.ans_tokens.proofs.ReadSoFar.{scanner_after-none, scanner_after-more}

-- no tokens
pub plays_no_tokens : (p : PlayView) → PlaysWholeTokens p [] p
plays_no_tokens p = record {
  scanner = refl;
  played = λ s between.
      subst (λ (c : ScannerView). GoesOn (record p { scanner = s }) [] (record p { scanner = c }))
      (sym (scanner_after-none s))
      (goes_on_nothing (record p { scanner = s }));
}

-- a whole token in front is played
pub token_is_played : (old new : PlayView) (bytes : List ℕ) (t : TokenKind) (count : ℕ) → IsTokenFront bytes t count →
    half_fault old.size old.state t ≡ None → new ≡ after_token old t → PlaysWholeTokens old (take count bytes) new
token_is_played old new bytes t count front clean made =
    let long : length (take count bytes) ≡ count = length-take-le count bytes front.within in
    record {
      scanner = rw made refl;
      played = λ s between. front_goes_on (record old { scanner = s })
          (record new { scanner = scanner_after s (length (take count bytes)) }) bytes t count between front clean
          (rw (made, long) refl);
    }

-- tokens after tokens
more_tokens : (old mid new : PlayView) (front bytes : List ℕ) → PlaysWholeTokens old front mid →
    PlaysWholeTokens mid bytes new → PlaysWholeTokens old (front ++ bytes) new
more_tokens old mid new front bytes h g = record {
  scanner = g.scanner ∙ h.scanner;
  played = λ s between.
      let later : IsBetweenTokens (scanner_after s (length front)) =
      record { nothing = between.nothing; unrefused = between.unrefused } in
      let over : scanner_after (scanner_after s (length front)) (length bytes)
      ≡ scanner_after s (length (front ++ bytes)) =
      scanner_after-more s (length front) (length bytes) (length (front ++ bytes)) (sym (length-append front bytes)) in
      subst (λ (c : ScannerView). GoesOn (record old { scanner = s }) (front ++ bytes) (record new { scanner = c }))
      over
      (goes_on_more (record old { scanner = s }) (record mid { scanner = scanner_after s (length front) })
      (record new { scanner = scanner_after (scanner_after s (length front)) (length bytes) }) front bytes
      (h.played s between) (g.played (scanner_after s (length front)) later));
}

-- the tokens after the first i bytes
pub plays_further : (old mid new : PlayView) (bytes : List ℕ) (i count : ℕ) → PlaysWholeTokens old (take i bytes) mid →
    PlaysWholeTokens mid (take count (take (length bytes - i) (drop i bytes))) new →
    PlaysWholeTokens old (take (i + count) bytes) new
plays_further old mid new bytes i count h g =
    rw (take-add i count bytes)
    (more_tokens old mid new (take i bytes) (take count (drop i bytes)) h (rw take_rest at g))

-- the scanner is taken over the tokens
pub taken_over : (old mid new : PlayView) (bytes : List ℕ) (count : ℕ) → count ≤ length bytes →
    IsBetweenTokens old.scanner → PlaysWholeTokens old (take count bytes) mid →
    new ≡ record mid { scanner = scanner_after mid.scanner count } → GoesOn old (take count bytes) new
taken_over old mid new bytes count within between h is =
    let long : length (take count bytes) ≡ count = length-take-le count bytes within in
    rw (is, h.scanner) (rw long at h.played old.scanner between)
