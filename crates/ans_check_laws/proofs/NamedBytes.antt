-- Names of colours are put with bytes that end neither a line nor a content, and take none of those away.
use Rattle.std.proofs.Common.{◌≡◌, inl, inr, ℕ, ◌-◌, ◌==◌, Bool, true, false, refl, sym, ap, ap₂, ◌∙◌, subst}
use Rattle.std.proofs.Common.{arith, ◌≤◌}
use Rattle.std.proofs.Common.{true≢false, List, [], ◌∷◌, ◌++◌, length, drop, Option}
use Rattle.std.specs.Prelude.{not, ◌&&◌, ◌||◌, nat_le, if◌then◌else◌}
use Rattle.std.specs.List.{AllByRecursion, list_all, list_any}
use Rattle.std.proofs.lemmas.Bool.{and_parts, eqb-true, or_parts}
use Rattle.std.proofs.lemmas.List.Folds.{list_any-append}
use Rattle.std.specs.Char.{is_ascii_digit}
use Rattle.ans_model.specs.Bytes.{escape, bracket, semicolon}
use Rattle.ans_model.specs.File.Layout.{is_end_mark}
use Rattle.ans_players.specs.Names.{Names, are_both}
use Rattle.ans_players.specs.Situations.{Spelled, spelled}
use Rattle.ans_players.proofs.OneSpelling.{one_spelling}
use Rattle.ans_pens.specs.declared.times.Times.{Times}
use Rattle.ans_mend.specs.LineEnds.{is_line_feed, is_return, needs_return, wants_returns}
use Rattle.ans_mend.specs.NamedColours.{AreColoursNamed, after_zero, ends_number, left_by, missing_numbers}
use Rattle.ans_mend.specs.NamedColours.{named_content, named_sequence, named_text, names_behind_token, numbers_to_zero}
use Rattle.ans_mend.specs.NamedColours.{takes_names}
use Rattle.ans_mend.specs.NamedColours.{opening, put_by, through_numbers, to_zero, way_of}
use Rattle.ans_mend.specs.NameSearch.{bytes_of}
use Rattle.ans_mend.specs.declared.naming.Way.{Way}
use Rattle.ans_mend.specs.declared.naming.Way.TheVariants.{Within, After, Between}
use Rattle.ans_check_laws.proofs.ReturnsPut.{bare_behind, has_bare, wants_by}
use Rattle.ans_names_laws.proofs.ColourTexts.{AreDigits, IsNumber, is_written, tail}
use Rattle.ans_names_laws.proofs.NamedParts.{AreSpelled, each_spelled, takes_if}
use Rattle.ans_model.specs.Sequence.TokenKind.{TokenKind, Colours}
use Rattle.ans_model.specs.Sequence.Reads.{SpellsToken}
use Rattle.ans_model.proofs.Reading.{token_nonempty}
use Rattle.std.proofs.lemmas.List.{length-append}
use Rattle.std.proofs.lemmas.Bool.Decides.{nat_tests}
use Rattle.ans_names_laws.proofs.NothingNamed.{spelled_bytes}

-- none of the bytes with which names are put passes
record IsQuiet (p : ℕ → Bool) : Type 0 where
  pub escapes : p escape ≡ false
  pub brackets : p bracket ≡ false
  pub semicolons : p semicolon ≡ false
  pub letters : p 0x6D ≡ false
  pub zeros : p 0x30 ≡ false
  pub threes : p 0x33 ≡ false
  pub fours : p 0x34 ≡ false
  pub sevens : p 0x37 ≡ false

-- ---- the parts of a sequence

through_parts : (count : ℕ) (bs : List ℕ)
    → through_numbers count bs ++ drop (length (through_numbers count bs)) bs ≡ bs
through_parts count [] = refl
through_parts count (b ∷ bs) =
    go (ends_number b) (nat_le count 1) refl refl (through_parts (count - 1) bs) (through_parts count bs)
  where
    go : (ends last : Bool) → ends_number b ≡ ends → nat_le count 1 ≡ last
        → through_numbers (count - 1) bs ++ drop (length (through_numbers (count - 1) bs)) bs ≡ bs
        → through_numbers count bs ++ drop (length (through_numbers count bs)) bs ≡ bs
        → through_numbers count (b ∷ bs) ++ drop (length (through_numbers count (b ∷ bs))) (b ∷ bs) ≡ b ∷ bs
    go true true ends_is last_is fewer same = rw (ends_is, last_is) refl
    go true false ends_is last_is fewer same = rw (ends_is, last_is) (ap (λ (v : List ℕ). b ∷ v) fewer)
    go false last ends_is last_is fewer same = rw ends_is (ap (λ (v : List ℕ). b ∷ v) same)

module _ (p : ℕ → Bool) (quiet : IsQuiet p) where
  names_none : (n : Names) → list_any p (missing_numbers n) ≡ false
  names_none n = go n.foreground n.background
    where
      go : (f b : Bool) → list_any p (missing_numbers (record { foreground = f; background = b })) ≡ false
      go true true = refl
      go true false = rw (quiet.fours, quiet.zeros) refl
      go false true = rw (quiet.threes, quiet.sevens) refl
      go false false = rw (quiet.threes, quiet.sevens, quiet.semicolons, quiet.fours, quiet.zeros) refl

  put_none : (way : Way) (names : List ℕ) → list_any p names ≡ false → list_any p (put_by way names) ≡ false
  put_none Within names none = rw quiet.semicolons none
  put_none After names none = rw (quiet.letters, quiet.escapes, quiet.brackets) none
  put_none Between names none =
      let behind : list_any p (0x6D ∷ opening) ≡ false = rw (quiet.letters, quiet.escapes, quiet.brackets) refl in
      rw (quiet.letters, quiet.escapes, quiet.brackets)
      (list_any-append p names (0x6D ∷ opening) ∙ ap₂ (λ (a b : Bool). a || b) none behind)

  end_none : (b : ℕ) → ends_number b ≡ true → p b ≡ false
  end_none b h = go (b == semicolon) (b == 0x6D) refl refl h
    where
      go : (first second : Bool) → (b == semicolon) ≡ first → (b == 0x6D) ≡ second → (first || second) ≡ true
          → p b ≡ false
      go true second first_is second_is h = ap p (eqb-true b semicolon first_is) ∙ quiet.semicolons
      go false true first_is second_is h = ap p (eqb-true b 0x6D second_is) ∙ quiet.letters
      go false false first_is second_is h = absurd (true≢false (sym h))

  -- what is left of a sequence begins with the end of a number
  rest_same : (count : ℕ) (bs : List ℕ)
      → list_any p (drop 1 (drop (length (through_numbers count bs)) bs))
      ≡ list_any p (drop (length (through_numbers count bs)) bs)
  rest_same count [] = refl
  rest_same count (b ∷ bs) =
      go (ends_number b) (nat_le count 1) refl refl (rest_same (count - 1) bs) (rest_same count bs)
    where
      go : (ends last : Bool) → ends_number b ≡ ends → nat_le count 1 ≡ last
          → list_any p (drop 1 (drop (length (through_numbers (count - 1) bs)) bs))
          ≡ list_any p (drop (length (through_numbers (count - 1) bs)) bs)
          → list_any p (drop 1 (drop (length (through_numbers count bs)) bs))
          ≡ list_any p (drop (length (through_numbers count bs)) bs)
          → list_any p (drop 1 (drop (length (through_numbers count (b ∷ bs))) (b ∷ bs)))
          ≡ list_any p (drop (length (through_numbers count (b ∷ bs))) (b ∷ bs))
      go true true ends_is last_is fewer same =
          rw (ends_is, last_is) (sym (ap (λ (v : Bool). v || list_any p bs) (end_none b ends_is)))
      go true false ends_is last_is fewer same = rw (ends_is, last_is) fewer
      go false last ends_is last_is fewer same = rw ends_is same

  left_same : (way : Way) (x : Spelled) → list_any p (left_by way (after_zero x)) ≡ list_any p (after_zero x)
  left_same Between x = rest_same (numbers_to_zero x.token) x.text
  left_same Within x = refl
  left_same After x = refl

  text_same : (n : Names) (x : Spelled) (way : Way)
      → list_any p (to_zero x ++ (put_by way (missing_numbers n) ++ left_by way (after_zero x))) ≡ list_any p x.text
  text_same n x way =
      let put : List ℕ = put_by way (missing_numbers n) in
      let left : List ℕ = left_by way (after_zero x) in
      list_any-append p (to_zero x) (put ++ left)
      ∙ ap (λ (v : Bool). list_any p (to_zero x) || v)
      (list_any-append p put left
      ∙ ap₂ (λ (a b : Bool). a || b) (put_none way (missing_numbers n) (names_none n)) (left_same way x))
      ∙ sym (list_any-append p (to_zero x) (after_zero x))
      ∙ ap (list_any p) (through_parts (numbers_to_zero x.token) x.text)

  sequence_same : (n : Names) (x : Spelled) → list_any p (named_sequence n x) ≡ list_any p x.text
  sequence_same n x = go (are_both n)
    where
      go : (both : Bool)
          → list_any p (if both then x.text else named_text (missing_numbers n) (to_zero x) (after_zero x))
          ≡ list_any p x.text
      go true = refl
      go false = text_same n x (way_of (missing_numbers n) (to_zero x) (after_zero x))

  content_same : (xs : List Spelled) → list_any p (named_content xs) ≡ list_any p (bytes_of xs)
  content_same [] = refl
  content_same (x ∷ xs) =
      list_any-append p (named_sequence (names_behind_token x xs) x) (named_content xs)
      ∙ ap₂ (λ (a b : Bool). a || b) (sequence_same (names_behind_token x xs) x) (content_same xs)
      ∙ sym (list_any-append p x.text (bytes_of xs))

quiet_returns : IsQuiet is_return
quiet_returns = record {
  escapes = refl;
  brackets = refl;
  semicolons = refl;
  letters = refl;
  zeros = refl;
  threes = refl;
  fours = refl;
  sevens = refl;
}

quiet_feeds : IsQuiet is_line_feed
quiet_feeds = record {
  escapes = refl;
  brackets = refl;
  semicolons = refl;
  letters = refl;
  zeros = refl;
  threes = refl;
  fours = refl;
  sevens = refl;
}

-- ---- line feeds that need a return

-- after some bytes of neither kind, at least one, what comes may as well come first
behind_some : (last : ℕ) (front bytes : List ℕ) → 1 ≤ length front → list_any is_return front ≡ false
    → list_any is_line_feed front ≡ false → has_bare last (front ++ bytes) ≡ has_bare 0 bytes
behind_some last [] bytes some no_return no_feed = absurd (omega (arith, some))
behind_some last (c ∷ front) bytes some no_return no_feed =
    let returns = or_parts (is_return c) (list_any is_return front) no_return in
    let feeds = or_parts (is_line_feed c) (list_any is_line_feed front) no_feed in
    ap (λ (v : Bool). (v && not (is_return last)) || has_bare c (front ++ bytes)) feeds.0
    ∙ bare_behind c front bytes returns.0 returns.1 feeds.1

-- the last byte of some, or this one
last_of : ℕ → List ℕ → ℕ
last_of last [] = last
last_of last (b ∷ bytes) = last_of b bytes

bare_parts : (last : ℕ) (front bytes : List ℕ)
    → has_bare last (front ++ bytes) ≡ (has_bare last front || has_bare (last_of last front) bytes)
unfolding last_of
bare_parts last [] bytes = refl
bare_parts last (c ∷ front) bytes =
    ap (λ (v : Bool). needs_return last c || v) (bare_parts c front bytes)
    ∙ sym (or_assoc (needs_return last c) (has_bare c front) (has_bare (last_of c front) bytes))
  where
    or_assoc : (a b c : Bool) → ((a || b) || c) ≡ (a || (b || c))
    or_assoc true b c = refl
    or_assoc false b c = refl

-- a colour sequence has neither
module _ (p : ℕ → Bool) (quiet : IsQuiet p) (no_digit : (b : ℕ) → is_ascii_digit b ≡ true → p b ≡ false) where
  digits_none : (t : List ℕ) → AreDigits t → list_any p t ≡ false
  digits_none [] h = refl
  digits_none (b ∷ t) h =
      let parts = and_parts (is_ascii_digit b) (list_all is_ascii_digit t) h in
      ap₂ (λ (v w : Bool). v || w) (no_digit b parts.0) (digits_none t parts.1)

  tail_none : (ts : List (List ℕ)) → AllByRecursion IsNumber ts → list_any p (tail ts) ≡ false
  tail_none [] h = rw quiet.letters refl
  tail_none (t ∷ ts) h =
      ap₂ (λ (v w : Bool). v || w) quiet.semicolons
      (list_any-append p t (tail ts) ∙ ap₂ (λ (v w : Bool). v || w) (digits_none t h.0.0) (tail_none ts h.1))

  colours_none : (ps text : List ℕ) → SpellsToken (Colours ps) text → list_any p text ≡ false
  colours_none ps text h =
      let is = is_written ps text h in
      let rest : list_any p (is.first ++ tail is.others) ≡ false =
      list_any-append p is.first (tail is.others)
      ∙ ap₂ (λ (v w : Bool). v || w) (digits_none is.first is.numbers.0.0) (tail_none is.others is.numbers.1) in
      ap (list_any p) is.whole
      ∙ ap₂ (λ (v w : Bool). v || w) quiet.escapes (ap₂ (λ (v w : Bool). v || w) quiet.brackets rest)

  takes_none : (t : TokenKind) (text : List ℕ) → SpellsToken t text → takes_names t ≡ true → list_any p text ≡ false
  takes_none (Colours ps) text h takes = colours_none ps text h
  takes_none _ text h takes = absurd (true≢false (sym takes))

no_return_digit : (b : ℕ) → is_ascii_digit b ≡ true → is_return b ≡ false
no_return_digit b h = grind (arith, nat_tests)

no_feed_digit : (b : ℕ) → is_ascii_digit b ≡ true → is_line_feed b ≡ false
no_feed_digit b h = grind (arith, nat_tests)

takes_some : (t : TokenKind) (text : List ℕ) → SpellsToken t text → 1 ≤ length text
takes_some t text h = go text (token_nonempty t text [] h)
  where
    go : (bytes : List ℕ) → (bytes ++ [] ≡ [] → ⊥) → 1 ≤ length bytes
    go [] none = absurd (none refl)
    go (b ∷ bytes) none = omega arith

named_some : (n : Names) (x : Spelled) → are_both n ≡ false → 1 ≤ length (named_sequence n x)
named_some n x none =
    rw none (some (way_of (missing_numbers n) (to_zero x) (after_zero x)))
  where
    put_some : (way : Way) → 1 ≤ length (put_by way (missing_numbers n))
    put_some Within = omega arith
    put_some After = omega arith
    put_some Between = omega arith

    some : (way : Way) → 1 ≤ length (to_zero x ++ (put_by way (missing_numbers n) ++ left_by way (after_zero x)))
    some way =
        let all = length-append (to_zero x) (put_by way (missing_numbers n) ++ left_by way (after_zero x)) in
        let more = length-append (put_by way (missing_numbers n)) (left_by way (after_zero x)) in
        let put = put_some way in
        omega (arith, all, more, put)

-- so names bring no line feed that needs a return, and take none away
named_bare : (xs : List Spelled) → AreSpelled xs → (last : ℕ)
    → has_bare last (named_content xs) ≡ has_bare last (bytes_of xs)
named_bare [] h last = refl
named_bare (x ∷ xs) h last =
    go (are_both (names_behind_token x xs)) refl (named_bare xs h.1)
  where
    go : (both : Bool) → are_both (names_behind_token x xs) ≡ both
        → ((l : ℕ) → has_bare l (named_content xs) ≡ has_bare l (bytes_of xs))
        → has_bare last (named_sequence (names_behind_token x xs) x ++ named_content xs)
        ≡ has_bare last (x.text ++ bytes_of xs)
    go true is more =
        ap (λ (b : Bool). has_bare last
        ((if b then x.text else named_text (missing_numbers (names_behind_token x xs)) (to_zero x) (after_zero x))
        ++ named_content xs)) is
        ∙ bare_parts last x.text (named_content xs)
        ∙ ap (λ (v : Bool). has_bare last x.text || v) (more (last_of last x.text))
        ∙ sym (bare_parts last x.text (bytes_of xs))
    go false is more =
        let takes : takes_names x.token ≡ true = takes_if x xs is in
        let returns : list_any is_return x.text ≡ false =
        takes_none is_return quiet_returns no_return_digit x.token x.text h.0 takes in
        let feeds : list_any is_line_feed x.text ≡ false =
        takes_none is_line_feed quiet_feeds no_feed_digit x.token x.text h.0 takes in
        behind_some last (named_sequence (names_behind_token x xs) x) (named_content xs)
        (named_some (names_behind_token x xs) x is)
        (sequence_same is_return quiet_returns (names_behind_token x xs) x ∙ returns)
        (sequence_same is_line_feed quiet_feeds (names_behind_token x xs) x ∙ feeds)
        ∙ more 0 ∙ sym (behind_some last x.text (bytes_of xs) (takes_some x.token x.text h.0) returns feeds)

-- ---- a content

module _ (bytes left : List ℕ) (times : Option Times) (named : AreColoursNamed bytes left times) where
  -- a byte that no name has is there after it if it was before
  any_same : (p : ℕ → Bool) → IsQuiet p → list_any p left ≡ list_any p bytes
  any_same p quiet = go named
    where
      go : AreColoursNamed bytes left times → list_any p left ≡ list_any p bytes
      go (inl t) =
          ap (list_any p) t.left_is ∙ content_same p quiet (spelled t.tokens t.reads.0)
          ∙ ap (list_any p) (spelled_bytes t.tokens t.reads.0 t.reads.1.each ∙ sym t.reads.1.whole)
      go (inr (never, is, none)) = ap (list_any p) is

  bare_same : has_bare 0 left ≡ has_bare 0 bytes
  bare_same = go named
    where
      go : AreColoursNamed bytes left times → has_bare 0 left ≡ has_bare 0 bytes
      go (inl t) =
          ap (has_bare 0) t.left_is
          ∙ named_bare (spelled t.tokens t.reads.0) (each_spelled t.tokens t.reads.0 t.reads.1.each) 0
          ∙ ap (has_bare 0) (spelled_bytes t.tokens t.reads.0 t.reads.1.each ∙ sym t.reads.1.whole)
      go (inr (never, is, none)) = ap (has_bare 0) is

  pub named_wants : (mixed : Bool) → wants_returns mixed bytes ≡ false → wants_returns mixed left ≡ false
  named_wants mixed none =
      let has : list_any is_return left ≡ list_any is_return bytes = any_same is_return quiet_returns in
      wants_by mixed left ∙ ap₂ (λ (a b : Bool). (mixed || not a) && b) has bare_same ∙ sym (wants_by mixed bytes)
      ∙ none

  pub named_unmarked : list_any is_end_mark bytes ≡ false → list_any is_end_mark left ≡ false
  named_unmarked none =
      any_same is_end_mark (record {
        escapes = refl;
        brackets = refl;
        semicolons = refl;
        letters = refl;
        zeros = refl;
        threes = refl;
        fours = refl;
        sevens = refl;
      })
      ∙ none

  -- of no bytes come none
  pub nothing_named : bytes ≡ [] → left ≡ []
  nothing_named empty = go (subst (λ (v : List ℕ). AreColoursNamed v left times) empty named)
    where
      go : AreColoursNamed [] left times → left ≡ []
      go (inl t) =
          t.left_is
          ∙ ap named_content
          (one_spelling [] t.tokens [] t.reads ([], record { each = tt; whole = refl }))
      go (inr (never, is, none)) = is
