-- What a search has found.
use Rattle.std.proofs.Common.{◌≡◌, ℕ, zero, suc, ◌+◌, ◌-◌, ◌<◌, ◌≤◌, Bool, true, false, not, List, [], ◌∷◌, ◌++◌}
use Rattle.std.proofs.Common.{length}
use Rattle.std.proofs.Common.{take, drop, refl, sym, ap, ◌∙◌, arith, subst, append_assoc, length-append, length-drop}
use Rattle.std.proofs.Common.{Option, None, Some, append-nil, get_or, is_none, is_some}
use Rattle.std.specs.Prelude.{if◌then◌else◌}
use Rattle.std.proofs.lemmas.Bool.{false≢true}
use Rattle.std.specs.List.{AllZip, concat}
use Rattle.std.proofs.Math.Seq.{take-append_seam, take-append-add, drop-append-add, drop-append_seam}
use Rattle.std.proofs.lemmas.List.{take-append-le, drop-append-le}
use Rattle.ans_model.specs.Bytes.{IsByte}
use Rattle.ans_model.specs.Inside.ShownKind.{shown_kind}
use Rattle.ans_model.specs.Sequence.TokenKind.{TokenKind, Glyph}
use Rattle.ans_model.specs.Sequence.Reads.{ReadsAs, SpellsToken}
use Rattle.ans_model.proofs.Reading.{token_nonempty}
use Rattle.ans_players.specs.Names.{Names, are_both, names_after, paints}
use Rattle.ans_players.specs.Situations.{Spelled, spelled}
use Rattle.ans_tokens.specs.Token.{kind_of, start_of, length_of}
use Rattle.ans_tokens.specs.Walk.{Front, IsRunNext, front_past, front_with}
use Rattle.ans_tokens.specs.declared.token.Token.{Token}
use Rattle.ans_tokens.proofs.Runs.{KeptByBytes, kept_past}
use Rattle.ans_pens.specs.Counted.{counted}
use Rattle.ans_pens.specs.declared.times.Times.{Times}
use Rattle.ans_kinds.proofs.KindsFound.{one, spelled_more}
use Rattle.ans_kinds.specs.NamesShown.{shown_names}
use Rattle.ans_mend.specs.NamedColours.{missing_numbers, named_content, named_sequence, named_text}
use Rattle.ans_mend.specs.NamedColours.{numbers_to_zero, takes_names, through_numbers, times_named}
use Rattle.ans_mend.specs.NameSearch.{IsNamedFirst, HasSearched, IsSearched, NoneIsNamed}
use Rattle.ans_mend.specs.NameSearch.{Waits, bytes_of, taking_after, taking_behind}
use Rattle.ans_mend.specs.declared.name_search.NamingPlace.{NamingPlace}
use Rattle.ans_mend.specs.declared.name_search.NameSearch.{NameSearch}
use Rattle.ans_mend.specs.declared.name_search.Taking.{Taking}
use Rattle.ans_kinds.specs.declared.names.Names as walked
use Rattle.ans_mend.proofs.NamesWaiting.{bytes_append}
use Rattle.ans_mend.proofs.Searching.{searched_other, searched_print, searched_taking}

-- there is a text for each token
pub texts_long : (bytes : List ℕ) (tokens : List TokenKind) (texts : List (List ℕ)) → ReadsAs bytes tokens texts
    → length texts ≡ length tokens
texts_long bytes tokens texts reads = go tokens texts reads.each
  where
    go : (ts : List TokenKind) (xs : List (List ℕ)) → AllZip SpellsToken ts xs → length xs ≡ length ts
    go [] [] h = refl
    go [] (x ∷ xs) h = absurd h
    go (t ∷ ts) [] h = absurd h
    go (t ∷ ts) (x ∷ xs) h = let more = go ts xs h.1 in omega (arith, more)

pub spelled_bytes : (tokens : List TokenKind) (texts : List (List ℕ)) → length texts ≡ length tokens
    → bytes_of (spelled tokens texts) ≡ concat texts
spelled_bytes [] [] long = refl
spelled_bytes [] (x ∷ texts) long = absurd (omega (arith, long))
spelled_bytes (t ∷ tokens) [] long = absurd (omega (arith, long))
spelled_bytes (t ∷ tokens) (x ∷ texts) long =
    ap (λ (v : List ℕ). x ++ v) (spelled_bytes tokens texts (omega (arith, long)))

some_tokens : (xs : List Spelled) (x : Spelled) (ys : List Spelled) → 0 < length (xs ++ x ∷ ys)
some_tokens xs x ys = omega (arith, length-append xs (x ∷ ys))

-- tokens have bytes
some_bytes : (tokens : List TokenKind) (texts : List (List ℕ)) → ReadsAs (concat texts) tokens texts
    → 0 < length (spelled tokens texts) → 0 < length (concat texts)
some_bytes [] texts reads some = absurd (omega (arith, some))
some_bytes (t ∷ tokens) [] reads some = absurd reads.each
some_bytes (t ∷ tokens) (x ∷ texts) reads some = go x refl
  where
    go : (y : List ℕ) → x ≡ y → 0 < length (x ++ concat texts)
    go [] is = absurd (token_nonempty t x [] reads.each.0 (append-nil x ∙ is))
    go (b ∷ y) is = rw is (omega arith)

-- ---- a token more
module _ (first old : NameSearch) (front : Front) (t : TokenKind) (text behind : List ℕ)
    (h : HasSearched first front true old) where
  pub searched_more : (new : NameSearch) (goes_on : Bool) → new.behind ≡ length behind
      → IsSearched goes_on new.taking (shown_names new.named) (spelled front.tokens front.texts ++ one t text ∷ [])
      → HasSearched first (front_with front t text behind) goes_on new
  searched_more new goes_on at searched = record {
    texts = let long = h.texts in
        omega (arith, long, length-append front.texts (text ∷ []), length-append front.tokens (t ∷ []));
    behind = at;
    searched = subst (λ (v : List Spelled). IsSearched goes_on new.taking (shown_names new.named) v)
        (sym (spelled_more front.tokens t front.texts text h.texts)) searched;
  }

  -- it prints or clears
  pub printed : (new : NameSearch) (goes_on : Bool) → paints t ≡ true → new.behind ≡ length behind
      → new.taking ≡ (if are_both (shown_names old.named) then None else old.taking) → new.named ≡ old.named
      → is_some new.taking ≡ not goes_on → HasSearched first (front_with front t text behind) goes_on new
  printed new goes_on prints at taking_is named_is some =
      let xs : List Spelled = spelled front.tokens front.texts in
      let n : Names = shown_names old.named in
      let stops : goes_on ≡ is_none new.taking = none_if new.taking goes_on some in
      searched_more new goes_on at
      (subst (λ (v : Bool). IsSearched v new.taking (shown_names new.named) (xs ++ one t text ∷ [])) (sym stops)
      (subst (λ (v : walked.Names). IsSearched (is_none new.taking) new.taking (shown_names v) (xs ++ one t text ∷ []))
      (sym named_is)
      (subst (λ (v : Option Taking). IsSearched (is_none v) v n (xs ++ one t text ∷ [])) (sym taking_is)
      (searched_print xs (one t text) n old.taking (are_both n) prints refl h.searched))))
    where
      none_if : (o : Option Taking) (b : Bool) → is_some o ≡ not b → b ≡ is_none o
      none_if None true is = refl
      none_if None false is = absurd (false≢true is)
      none_if (Some x) true is = absurd (false≢true (sym is))
      none_if (Some x) false is = refl

  -- it does neither
  pub passed : (new : NameSearch) (token : Token) → paints t ≡ false → shown_kind (kind_of token) ≡ t
      → start_of token ≡ length (concat front.texts) → length_of token ≡ length text
      → new.behind ≡ length behind → new.taking ≡ taking_after old.taking token
      → shown_names new.named ≡ names_after (shown_names old.named) t
      → HasSearched first (front_with front t text behind) true new
  passed new token other kind_is starts long at taking_is named_is =
      let xs : List Spelled = spelled front.tokens front.texts in
      let n : Names = shown_names old.named in
      searched_more new true at
      (subst (λ (v : Names). IsSearched true new.taking v (xs ++ one t text ∷ [])) (sym named_is)
      (subst (λ (v : Option Taking). IsSearched true v (names_after n t) (xs ++ one t text ∷ [])) (sym taking_is)
      (by (takes_names t) refl)))
    where
      by : (takes : Bool) → takes_names t ≡ takes
          → IsSearched true (taking_after old.taking token) (names_after (shown_names old.named) t)
          (spelled front.tokens front.texts ++ one t text ∷ [])
      by true is =
          let xs : List Spelled = spelled front.tokens front.texts in
          let n : Names = shown_names old.named in
          let taking : Taking =
          record { start = start_of token; length = length_of token; numbers = numbers_to_zero t } in
          let now : taking_after old.taking token ≡ Some taking = rw (kind_is, is) refl in
          subst (λ (v : Option Taking). IsSearched true v (names_after n t) (xs ++ one t text ∷ [])) (sym now)
          (searched_taking xs (one t text) n old.taking taking other is h.searched
          (starts ∙ ap length (sym (spelled_bytes front.tokens front.texts h.texts))) long refl)
      by false is =
          let xs : List Spelled = spelled front.tokens front.texts in
          let n : Names = shown_names old.named in
          let now : taking_after old.taking token ≡ old.taking = rw (kind_is, is) refl in
          subst (λ (v : Option Taking). IsSearched true v (names_after n t) (xs ++ one t text ∷ [])) (sym now)
          (searched_other xs (one t text) n old.taking other is h.searched)

-- ---- plain bytes
-- the search after each byte of a run, where nothing waits after the first
abbrev pub search_after : NameSearch → ℕ → NameSearch
search_after old zero = old
search_after old (suc k) = record old { taking = None; behind = old.behind - suc k }

still_none : (both : Bool) → ◌≡◌ {A = Option Taking} None (if both then None else None)
still_none true = refl
still_none false = refl

prints_each : (first old : NameSearch) (offset : ℕ) (run behind : List ℕ) → taking_behind old ≡ None
    → KeptByBytes (λ k front. HasSearched first front true (search_after old k)) offset run behind
prints_each first old offset run behind nothing zero byte front rest next h =
    printed first old front (Glyph byte) (byte ∷ []) rest h (search_after old 1) true refl
    (omega (arith, h.behind, ap length next.whole)) (sym nothing) refl refl
prints_each first old offset run behind nothing (suc k) byte front rest next h =
    printed first (search_after old (suc k)) front (Glyph byte) (byte ∷ []) rest h (search_after old (suc (suc k)))
    true refl (omega (arith, h.behind, ap length next.whole)) (still_none (are_both (shown_names old.named))) refl refl

pub printed_past : (first old new : NameSearch) (offset : ℕ) (run behind : List ℕ) (front : Front)
    → ((k : ℕ) → k < length run → IsByte (get_or run k 0)) → taking_behind old ≡ None → 0 < length run
    → new ≡ record old { taking = None; behind = old.behind - length run } → IsRunNext front offset run behind
    → HasSearched first front true old → HasSearched first (front_past front run behind) true new
printed_past first old new offset [] behind front bytes nothing some is next h = absurd (omega (arith, some))
printed_past first old new offset (b ∷ run) behind front bytes nothing some is next h =
    subst (λ (v : NameSearch). HasSearched first (front_past front (b ∷ run) behind) true v) (sym is)
    (kept_past (λ k front. HasSearched first front true (search_after old k)) offset (b ∷ run) behind front bytes
    (prints_each first old offset (b ∷ run) behind nothing) next h)

-- ---- in the end
-- whatever waits at the end stays
content_stays : (xs : List Spelled) (taking : Option Taking) (n : Names) → IsSearched true taking n xs
    → named_content xs ≡ bytes_of xs
content_stays xs None n h =
    ap named_content (sym (append-nil xs)) ∙ h.content [] ∙ append-nil (bytes_of xs)
content_stays xs (Some taking) n h =
    ap named_content (sym (append-nil xs)) ∙ h.content []
    ∙ ap (λ (v : List ℕ). bytes_of h.before ++ (h.waiting.text ++ v)) (append-nil (bytes_of h.after))
    ∙ sym (ap bytes_of h.whole ∙ bytes_append h.before (h.waiting ∷ h.after))

times_stay : (xs : List Spelled) (taking : Option Taking) (n : Names) → IsSearched true taking n xs
    → (offset : ℕ) (times : Option Times) → times_named offset times xs ≡ times
times_stay xs None n h offset times = ap (times_named offset times) (sym (append-nil xs)) ∙ h.times offset times []
times_stay xs (Some taking) n h offset times =
    ap (times_named offset times) (sym (append-nil xs)) ∙ h.times offset times []

pub none_goes : (bytes : List ℕ) (tokens : List TokenKind) (texts : List (List ℕ)) (taking : Option Taking) (n : Names)
    → ReadsAs bytes tokens texts → IsSearched true taking n (spelled tokens texts) → NoneIsNamed bytes
none_goes bytes tokens texts taking n reads h = record {
  tokens = tokens;
  texts = texts;
  reads = reads;
  content = content_stays (spelled tokens texts) taking n h
      ∙ spelled_bytes tokens texts (texts_long bytes tokens texts reads) ∙ sym reads.whole;
  times = times_stay (spelled tokens texts) taking n h;
}

-- ---- what stands in the bytes
module _ (before w after left bytes : List ℕ) (start cut rest end : ℕ)
    (whole : bytes ≡ (before ++ (w ++ after)) ++ left) (start_is : start ≡ length before) (cut_in : cut ≤ length w)
    (rest_in : rest ≤ length w) (end_is : end ≡ length (before ++ (w ++ after))) where
  apart : bytes ≡ before ++ (w ++ (after ++ left))
  apart = whole ∙ append_assoc before (w ++ after) left ∙ ap (λ (v : List ℕ). before ++ v) (append_assoc w after left)

  pub text_there : (long : ℕ) → long ≡ length w → take long (drop start bytes) ≡ w
  text_there long long_is =
      ap (λ (v : ℕ). take v (drop start bytes)) long_is
      ∙ ap (λ (v : ℕ). take (length w) (drop v bytes)) start_is
      ∙ ap (λ (v : List ℕ). take (length w) (drop (length before) v)) apart
      ∙ ap (take (length w)) (drop-append_seam before (w ++ (after ++ left)))
      ∙ take-append_seam w (after ++ left)

  pub front_there : take (start + cut) bytes ≡ before ++ take cut w
  front_there =
      ap (λ (v : ℕ). take (v + cut) bytes) start_is ∙ ap (take (length before + cut)) apart
      ∙ take-append-add before (w ++ (after ++ left)) cut
      ∙ ap (λ (v : List ℕ). before ++ v) (take-append-le cut w (after ++ left) cut_in)

  pub rest_there : take (end - (start + rest)) (drop (start + rest) bytes) ≡ drop rest w ++ after
  rest_there =
      let long : end - (start + rest) ≡ length (drop rest w ++ after) =
      omega (
        arith,
        start_is,
        end_is,
        rest_in,
        length-append before (w ++ after),
        length-append w after,
        length-append (drop rest w) after,
        length-drop rest w,
      ) in
      ap (λ (v : ℕ). take v (drop (start + rest) bytes)) long
      ∙ ap (take (length (drop rest w ++ after)))
      (ap (λ (v : ℕ). drop (v + rest) bytes) start_is ∙ ap (drop (length before + rest)) apart
      ∙ drop-append-add before (w ++ (after ++ left)) rest
      ∙ drop-append-le rest w (after ++ left) rest_in ∙ sym (append_assoc (drop rest w) after left))
      ∙ take-append_seam (drop rest w ++ after) left

-- ---- the one that waits when something is printed
module _ (bytes left : List ℕ) (tokens : List TokenKind) (texts : List (List ℕ)) (taking : Taking) (n : Names)
    (reads : ReadsAs (concat texts) tokens texts) (whole : bytes ≡ concat texts ++ left)
    (h : Waits (spelled tokens texts) taking (λ more. n)) where
  xs_bytes : concat texts ≡ bytes_of h.before ++ (h.waiting.text ++ bytes_of h.after)
  xs_bytes =
      sym (spelled_bytes tokens texts (texts_long (concat texts) tokens texts reads)) ∙ ap bytes_of h.whole
      ∙ bytes_append h.before (h.waiting ∷ h.after)

  whole_apart : bytes ≡ (bytes_of h.before ++ (h.waiting.text ++ bytes_of h.after)) ++ left
  whole_apart = whole ∙ ap (λ (v : List ℕ). v ++ left) xs_bytes

  pub waiting_within : taking.start + taking.length ≤ length bytes
  waiting_within =
      let start = h.start in
      let long = h.long in
      let all = ap length whole_apart in
      omega (
        arith,
        start,
        long,
        all,
        length-append (bytes_of h.before ++ (h.waiting.text ++ bytes_of h.after)) left,
        length-append (bytes_of h.before) (h.waiting.text ++ bytes_of h.after),
        length-append h.waiting.text (bytes_of h.after),
      )

  pub waiting_text : take taking.length (drop taking.start bytes) ≡ h.waiting.text
  waiting_text =
      text_there (bytes_of h.before) h.waiting.text (bytes_of h.after) left bytes taking.start 0 0
      (length (bytes_of h.before ++ (h.waiting.text ++ bytes_of h.after))) whole_apart h.start (omega arith)
      (omega arith) refl taking.length h.long

  pub goes_first : are_both n ≡ false → (g : NamingPlace) (cut rest : ℕ) → g.start ≡ taking.start
      → g.zero ≡ taking.start + cut → g.rest ≡ taking.start + rest → g.end ≡ length (concat texts)
      → cut ≤ rest → rest ≤ taking.length → length g.put.now ≤ 12 → rest < cut + length g.put.now
      → (named_text (missing_numbers n) (through_numbers taking.numbers h.waiting.text)
      (drop (length (through_numbers taking.numbers h.waiting.text)) h.waiting.text)
      ≡ take cut h.waiting.text ++ (g.put.now ++ drop rest h.waiting.text))
      → IsNamedFirst bytes g
  goes_first missing g cut rest start_is cut_is rest_is end_is order in_text few grows text_is =
      let w : List ℕ = h.waiting.text in
      let long = h.long in
      let start = h.start in
      let cut_in : cut ≤ length w = omega (arith, order, in_text, long) in
      let rest_in : rest ≤ length w = omega (arith, in_text, long) in
      let end_at : g.end ≡ length (bytes_of h.before ++ (w ++ bytes_of h.after)) = end_is ∙ ap length xs_bytes in
      let sum : length (bytes_of h.before ++ (w ++ bytes_of h.after))
      ≡ length (bytes_of h.before) + (length w + length (bytes_of h.after)) =
      length-append (bytes_of h.before) (w ++ bytes_of h.after)
      ∙ ap (λ (v : ℕ). length (bytes_of h.before) + v) (length-append w (bytes_of h.after)) in
      let front : take g.zero bytes ≡ bytes_of h.before ++ take cut w =
      ap (λ (v : ℕ). take v bytes) cut_is
      ∙ front_there (bytes_of h.before) w (bytes_of h.after) left bytes taking.start cut rest g.end whole_apart start
      cut_in rest_in end_at in
      let later : take (g.end - g.rest) (drop g.rest bytes) ≡ drop rest w ++ bytes_of h.after =
      ap (λ (v : ℕ). take (g.end - v) (drop v bytes)) rest_is
      ∙ rest_there (bytes_of h.before) w (bytes_of h.after) left bytes taking.start cut rest g.end whole_apart start
      cut_in rest_in end_at in
      let sequence : named_sequence n h.waiting ≡ take cut w ++ (g.put.now ++ drop rest w) =
      rw missing (rw h.numbers at text_is) in
      record {
        tokens = tokens;
        texts = texts;
        reads = subst (λ (v : List ℕ). ReadsAs v tokens texts)
            (sym (ap (λ (v : ℕ). take v bytes) end_is ∙ ap (take (length (concat texts))) whole
            ∙ take-append_seam (concat texts) left)) reads;
        start = omega (arith, start_is, cut_is);
        zero = omega (arith, cut_is, rest_is, order);
        rest = omega (arith, rest_is, end_at, sum, start, in_text, long);
        some = rw end_is (some_bytes tokens texts reads (rw h.whole (some_tokens h.before h.waiting h.after)));
        within = let all = ap length whole ∙ length-append (concat texts) left in omega (arith, end_is, all);
        few = few;
        more = omega (arith, rest_is, cut_is, grows);
        content = λ more.
            h.content more
            ∙ ap (λ (v : List ℕ). bytes_of h.before ++ (v ++ (bytes_of h.after ++ named_content more))) sequence
            ∙ parts (bytes_of h.before) (take cut w) g.put.now (drop rest w) (bytes_of h.after) (named_content more)
            ∙ ap (λ (v : List ℕ). v ++ (g.put.now ++ ((drop rest w ++ bytes_of h.after) ++ named_content more)))
            (sym front)
            ∙ ap (λ (v : List ℕ). take g.zero bytes ++ (g.put.now ++ (v ++ named_content more))) (sym later);
        times = λ offset times more.
            h.times offset times more
            ∙ ap (λ (v : ℕ). times_named (offset + v) (counted times (not (are_both n)) (offset + taking.start)) more)
            (ap length (sym (xs_bytes ∙ sym (ap bytes_of h.whole ∙ bytes_append h.before (h.waiting ∷ h.after))))
            ∙ sym end_is)
            ∙ ap (λ (v : Bool). times_named (offset + g.end) (counted times (not v) (offset + taking.start)) more)
            missing
            ∙ ap (λ (v : ℕ). times_named (offset + g.end) (counted times true (offset + v)) more) (sym start_is);
      }
    where
      parts : (a b p c d e : List ℕ) → a ++ ((b ++ (p ++ c)) ++ (d ++ e)) ≡ (a ++ b) ++ (p ++ ((c ++ d) ++ e))
      parts a b p c d e =
          ap (λ (v : List ℕ). a ++ v) (append_assoc b (p ++ c) (d ++ e)
          ∙ ap (λ (v : List ℕ). b ++ v) (append_assoc p c (d ++ e)
          ∙ ap (λ (v : List ℕ). p ++ v) (sym (append_assoc c d e))))
          ∙ sym (append_assoc a b (p ++ ((c ++ d) ++ e)))
