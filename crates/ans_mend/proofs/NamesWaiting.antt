-- What a search has been over, with one token more.
use Rattle.std.proofs.Common.{◌≡◌, ℕ, ◌+◌, Bool, true, false, not, List, [], ◌∷◌, ◌++◌, length, map, fold, refl}
use Rattle.std.proofs.Common.{sym, ap}
use Rattle.std.proofs.Common.{◌∙◌, arith, append_assoc, length-append, Option, append-nil}
use Rattle.std.specs.Prelude.{◌==◌}
use Rattle.std.specs.List.{concat, list_any}
use Rattle.std.proofs.lemmas.Bool.{false≢true}
use Rattle.std.proofs.lemmas.List.{map-append}
use Rattle.std.proofs.lemmas.List.Folds.{concat-append}
use Rattle.ans_model.specs.Sequence.TokenKind.{TokenKind, Glyph, Bell, BackSpace, LineFeed, CarriageReturn, Tab, Up}
use Rattle.ans_model.specs.Sequence.TokenKind.{Down, Forward, Backward, Place, Clear, EraseLine, Save, Restore, Colours}
use Rattle.ans_model.specs.Sequence.TokenKind.{Wrap, Mode, Keys, Ask}
use Rattle.ans_players.specs.Names.{Names, are_both, names_after, names_behind, unnamed}
use Rattle.ans_players.specs.Situations.{Spelled}
use Rattle.ans_pens.specs.Counted.{counted}
use Rattle.ans_pens.specs.declared.times.Times.{Times}
use Rattle.ans_mend.specs.NamedColours.{is_zero, named_content, named_sequence, names_at_print}
use Rattle.ans_mend.specs.NamedColours.{names_behind_token, numbers_to_zero, takes_names, times_named}
use Rattle.ans_mend.specs.NameSearch.{NoneWaits, Waits, bytes_of}
use Rattle.ans_mend.specs.declared.name_search.Taking.{Taking}

-- ---- names after a 0

-- the numbers after a 0 count alone, whatever was named before
pub same_after_zero : (n m : Names) (numbers : List ℕ) → list_any is_zero numbers ≡ true
    → fold names_behind n numbers ≡ fold names_behind m numbers
same_after_zero n m [] h = absurd (false≢true h)
same_after_zero n m (k ∷ numbers) h =
    go (k == 0) refl (λ later. same_after_zero (names_behind n k) (names_behind m k) numbers later)
  where
    go : (z : Bool) → (k == 0) ≡ z
        → (list_any is_zero numbers ≡ true → fold names_behind n (k ∷ numbers) ≡ fold names_behind m (k ∷ numbers))
        → fold names_behind n (k ∷ numbers) ≡ fold names_behind m (k ∷ numbers)
    go true is later =
        let same : names_behind n k ≡ names_behind m k = rw is refl in
        ap (λ (v : Names). fold names_behind v numbers) same
    go false is later = later (rw is at h)

pub same_names_after : (n m : Names) (t : TokenKind) → takes_names t ≡ true → names_after n t ≡ names_after m t
same_names_after n m (Colours parameters) h = same_after_zero n m parameters h
same_names_after n m (Glyph byte) h = absurd (false≢true h)
same_names_after n m Bell h = absurd (false≢true h)
same_names_after n m BackSpace h = absurd (false≢true h)
same_names_after n m LineFeed h = absurd (false≢true h)
same_names_after n m CarriageReturn h = absurd (false≢true h)
same_names_after n m Tab h = absurd (false≢true h)
same_names_after n m (Up k) h = absurd (false≢true h)
same_names_after n m (Down k) h = absurd (false≢true h)
same_names_after n m (Forward k) h = absurd (false≢true h)
same_names_after n m (Backward k) h = absurd (false≢true h)
same_names_after n m (Place row column) h = absurd (false≢true h)
same_names_after n m Clear h = absurd (false≢true h)
same_names_after n m EraseLine h = absurd (false≢true h)
same_names_after n m Save h = absurd (false≢true h)
same_names_after n m Restore h = absurd (false≢true h)
same_names_after n m (Wrap on) h = absurd (false≢true h)
same_names_after n m Mode h = absurd (false≢true h)
same_names_after n m Keys h = absurd (false≢true h)
same_names_after n m Ask h = absurd (false≢true h)

-- ---- a token more

-- the tokens stay, if this one comes next
pub record Settled (xs : List Spelled) (x : Spelled) : Type 0 where
  pub content : (more : List Spelled) → named_content (xs ++ x ∷ more) ≡ bytes_of xs ++ named_content (x ∷ more)
  pub times : (offset : ℕ) (times : Option Times) (more : List Spelled)
      → times_named offset times (xs ++ x ∷ more) ≡ times_named (offset + length (bytes_of xs)) times (x ∷ more)

pub bytes_append : (xs ys : List Spelled) → bytes_of (xs ++ ys) ≡ bytes_of xs ++ bytes_of ys
bytes_append xs ys =
    ap concat (map-append (λ (x : Spelled). x.text) xs ys)
    ∙ concat-append (map (λ (x : Spelled). x.text) xs) (map (λ (x : Spelled). x.text) ys)

-- before the first token
pub nothing_waits : NoneWaits []
nothing_waits = record {
  content = λ more. refl;
  times = λ offset times more. ap (λ (v : ℕ). times_named v times more) (omega arith);
}

module _ (xs : List Spelled) (x : Spelled) where
  together : (more : List Spelled) → (xs ++ x ∷ []) ++ more ≡ xs ++ x ∷ more
  together more = append_assoc xs (x ∷ []) more

  bytes_more : bytes_of (xs ++ x ∷ []) ≡ bytes_of xs ++ x.text
  bytes_more = bytes_append xs (x ∷ []) ∙ ap (λ (v : List ℕ). bytes_of xs ++ v) (append-nil x.text)

  long_more : (offset : ℕ)
      → offset + length (bytes_of (xs ++ x ∷ [])) ≡ offset + length (bytes_of xs) + length x.text
  long_more offset =
      ap (λ (v : List ℕ). offset + length v) bytes_more
      ∙ ap (λ (v : ℕ). offset + v) (length-append (bytes_of xs) x.text) ∙ omega arith

  -- a token that takes no names away stays
  stays : takes_names x.token ≡ false → (more : List Spelled)
      → named_content (x ∷ more) ≡ x.text ++ named_content more
  stays keeps more = rw keeps refl

  stays_times : takes_names x.token ≡ false → (offset : ℕ) (times : Option Times) (more : List Spelled)
      → times_named offset times (x ∷ more) ≡ times_named (offset + length x.text) times more
  stays_times keeps offset times more = rw keeps refl

  pub settled_none : NoneWaits xs → Settled xs x
  settled_none h = record {
    content = λ more. h.content (x ∷ more);
    times = λ offset times more. h.times offset times (x ∷ more);
  }

  -- nothing was missing for the one that waits
  pub settled_waits : (taking : Taking) (named : List Spelled → Names) → Waits xs taking named
      → ((more : List Spelled) → are_both (named (x ∷ more)) ≡ true) → Settled xs x
  settled_waits taking named h both = record {
    content = λ more.
        let sequence : named_sequence (named (x ∷ more)) h.waiting ≡ h.waiting.text = rw (both more) refl in
        h.content (x ∷ more)
        ∙ ap (λ (v : List ℕ). bytes_of h.before ++ (v ++ (bytes_of h.after ++ named_content (x ∷ more)))) sequence
        ∙ ap (λ (v : List ℕ). bytes_of h.before ++ v)
        (sym (append_assoc h.waiting.text (bytes_of h.after) (named_content (x ∷ more))))
        ∙ sym (append_assoc (bytes_of h.before) (h.waiting.text ++ bytes_of h.after) (named_content (x ∷ more)))
        ∙ ap (λ (v : List ℕ). v ++ named_content (x ∷ more))
        (sym (ap bytes_of h.whole ∙ bytes_append h.before (h.waiting ∷ h.after)));
    times = λ offset times more.
        h.times offset times (x ∷ more)
        ∙ ap (λ (v : Bool). times_named (offset + length (bytes_of xs))
        (counted times (not v) (offset + taking.start)) (x ∷ more)) (both more);
  }

  pub none_after : Settled xs x → takes_names x.token ≡ false → NoneWaits (xs ++ x ∷ [])
  none_after h keeps = record {
    content = λ more.
        ap named_content (together more) ∙ h.content more ∙ ap (λ (v : List ℕ). bytes_of xs ++ v) (stays keeps more)
        ∙ sym (append_assoc (bytes_of xs) x.text (named_content more))
        ∙ ap (λ (v : List ℕ). v ++ named_content more) (sym bytes_more);
    times = λ offset times more.
        ap (times_named offset times) (together more) ∙ h.times offset times more
        ∙ stays_times keeps (offset + length (bytes_of xs)) times more
        ∙ ap (λ (v : ℕ). times_named v times more) (sym (long_more offset));
  }

  -- a token that takes the names away waits
  pub waits_after : (taking : Taking) → Settled xs x → takes_names x.token ≡ true
      → taking.start ≡ length (bytes_of xs) → taking.length ≡ length x.text
      → taking.numbers ≡ numbers_to_zero x.token
      → Waits (xs ++ x ∷ []) taking (names_at_print (names_after unnamed x.token))
  waits_after taking h takes start long numbers = record {
    before = xs;
    waiting = x;
    after = [];
    whole = refl;
    start = start;
    long = long;
    numbers = numbers;
    content = λ more.
        let names : names_behind_token x more ≡ names_at_print (names_after unnamed x.token) more = rw takes refl in
        ap named_content (together more) ∙ h.content more
        ∙ ap (λ (v : Names). bytes_of xs ++ (named_sequence v x ++ named_content more)) names;
    times = λ offset times more.
        let names : names_behind_token x more ≡ names_at_print (names_after unnamed x.token) more = rw takes refl in
        ap (times_named offset times) (together more) ∙ h.times offset times more
        ∙ ap (λ (v : Names). times_named (offset + length (bytes_of xs) + length x.text)
        (counted times (not (are_both v)) (offset + length (bytes_of xs))) more) names
        ∙ ap (λ (v : ℕ). times_named v (counted times
        (not (are_both (names_at_print (names_after unnamed x.token) more))) (offset + length (bytes_of xs))) more)
        (sym (long_more offset))
        ∙ ap (λ (v : ℕ). times_named (offset + length (bytes_of (xs ++ x ∷ []))) (counted times
        (not (are_both (names_at_print (names_after unnamed x.token) more))) (offset + v)) more) (sym start);
  }

  -- one that waits already goes on waiting, or gets its names now
  pub waits_on : (taking : Taking) (named later : List Spelled → Names) → Waits xs taking named
      → takes_names x.token ≡ false → ((more : List Spelled) → named (x ∷ more) ≡ later more)
      → Waits (xs ++ x ∷ []) taking later
  waits_on taking named later h keeps goes = record {
    before = h.before;
    waiting = h.waiting;
    after = h.after ++ x ∷ [];
    whole = ap (λ (v : List Spelled). v ++ x ∷ []) h.whole ∙ append_assoc h.before (h.waiting ∷ h.after) (x ∷ []);
    start = h.start;
    long = h.long;
    numbers = h.numbers;
    content = λ more.
        let after : bytes_of h.after ++ named_content (x ∷ more) ≡ bytes_of (h.after ++ x ∷ []) ++ named_content more =
        ap (λ (v : List ℕ). bytes_of h.after ++ v) (stays keeps more)
        ∙ sym (append_assoc (bytes_of h.after) x.text (named_content more))
        ∙ ap (λ (v : List ℕ). v ++ named_content more)
        (sym (bytes_append h.after (x ∷ []) ∙ ap (λ (v : List ℕ). bytes_of h.after ++ v) (append-nil x.text))) in
        ap named_content (together more) ∙ h.content (x ∷ more)
        ∙ ap (λ (v : Names). bytes_of h.before
        ++ (named_sequence v h.waiting ++ (bytes_of h.after ++ named_content (x ∷ more)))) (goes more)
        ∙ ap (λ (v : List ℕ). bytes_of h.before ++ (named_sequence (later more) h.waiting ++ v)) after;
    times = λ offset times more.
        ap (times_named offset times) (together more) ∙ h.times offset times (x ∷ more)
        ∙ ap (λ (v : Names). times_named (offset + length (bytes_of xs))
        (counted times (not (are_both v)) (offset + taking.start)) (x ∷ more)) (goes more)
        ∙ stays_times keeps (offset + length (bytes_of xs))
        (counted times (not (are_both (later more))) (offset + taking.start)) more
        ∙ ap (λ (v : ℕ). times_named v (counted times (not (are_both (later more))) (offset + taking.start)) more)
        (sym (long_more offset));
  }
