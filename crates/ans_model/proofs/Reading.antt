-- Bytes are read in one way at most.
use Rattle.std.proofs.Common.{◌≡◌, ◌≢◌, ◌⊎◌, inl, inr, ℕ, Bool, true, false, not, ◌&&◌, ◌==◌, All, Result, codes}
use Rattle.std.proofs.Common.{List, [], ◌∷◌, ◌++◌, length, refl, ap, ap₂, sym, ◌∙◌, arith, append_assoc}
use Rattle.std.proofs.Common.{length-append, Ok, Err}
use Rattle.std.specs.Prelude.{MatchResult, if◌then◌else◌, ⊤}
use Rattle.std.proofs.lemmas.List.{append-nil}
use Rattle.std.proofs.lemmas.List.Elements.{All-nil, All-cons}
use Rattle.std.specs.List.{AllZip, AllByRecursion, concat, list_any}
use Rattle.ans_model.specs.Bytes.{IsByte, escape}
use Rattle.ans_model.specs.Sequence.TokenKind.{TokenKind, PrintsByte, Glyph, Bell, BackSpace, LineFeed}
use Rattle.ans_model.specs.Sequence.TokenKind.{CarriageReturn, Tab, Up, Down, Forward, Backward, Clear, EraseLine}
use Rattle.ans_model.specs.Sequence.TokenKind.{Save, Restore, Wrap, Mode, Ask}
use Rattle.ans_model.specs.declared.fault.Cause.{Cause}
use Rattle.ans_model.specs.declared.fault.Cause.TheVariants.{UnknownSequence, WrongParameters}
use Rattle.ans_model.specs.Verdict.Certain.{IsCertain}
use Rattle.ans_model.specs.Sequence.Spelling.{Member, Raw, Spells, IsUnfinished}
use Rattle.ans_model.specs.Sequence.Meaning.{is_marked, is_quoted, distance, move, place, colours, only_if, Entry}
use Rattle.ans_model.specs.Sequence.Meaning.{table, is_one_of, look_up, has_a_meaning, meaning}
use Rattle.ans_model.specs.Sequence.Reads.{kind_of_byte, SpellsToken, Reads}
use Rattle.ans_model.specs.Verdict.FirstFault.{IsBroken, IsRefused}
use Rattle.ans_model.proofs.Spelling.{head_of, tail_of, first_or, one_spelling_in_front}

-- Nothing that is spelled goes on.
pub spelled_not_unfinished : (r : Raw) (a : List ℕ) → Spells r a → IsUnfinished a → ⊥
spelled_not_unfinished r a h o =
    let t = one_spelling_in_front r o.raw a (a ++ o.rest) o.rest [] h.loose o.spelled.loose
    (sym (append-nil (a ++ o.rest))) in
    let none : length o.rest ≡ 0 = ap length t.2 in
    omega (arith, o.more, none)

-- a sequence begins with ESC
pub sequence_first : (r : Raw) (a x : List ℕ) → Spells r a → first_or 0 (a ++ x) ≡ escape
sequence_first r a x h = rw h.loose.whole

-- where nothing is, nothing is unfinished
pub nothing_not_unfinished : (text : List ℕ) → text ≡ [] → IsUnfinished text → ⊥
nothing_not_unfinished text e o = let none : length text ≡ 0 = ap length e in omega (arith, o.begun, none)

-- no byte but ESC begins a sequence
pub byte_not_sequence : (b : ℕ) (a x y : List ℕ) (r : Raw) → b ≢ escape → Spells r a → b ∷ x ≡ a ++ y → ⊥
byte_not_sequence b a x y r n h e = n (ap (first_or 0) e ∙ sequence_first r a y h ∙ refl)

-- two tokens at the front of one list are the same
pub one_token_in_front : (t u : TokenKind) (a b x y : List ℕ) → SpellsToken t a → SpellsToken u b → a ++ x ≡ b ++ y
    → (t ≡ u) × (a ≡ b) × (x ≡ y)
one_token_in_front t u a b x y (inl h) (inl g) e =
    let s : h.byte ∷ x ≡ g.byte ∷ y = ap (λ (v : List ℕ). v ++ x) (sym h.whole) ∙ e
    ∙ ap (λ (v : List ℕ). v ++ y) g.whole in (
      h.means ∙ ap kind_of_byte (head_of s) ∙ sym g.means,
      h.whole ∙ ap (λ (v : ℕ). v ∷ []) (head_of s) ∙ sym g.whole,
      tail_of s,
    )
one_token_in_front t u a b x y (inl h) (inr g) e =
    absurd (byte_not_sequence h.byte b x y g.raw h.not_escape g.spelled (ap (λ (v : List ℕ). v ++ x) (sym h.whole) ∙ e))
one_token_in_front t u a b x y (inr h) (inl g) e =
    absurd (byte_not_sequence g.byte a y x h.raw g.not_escape h.spelled
    (ap (λ (v : List ℕ). v ++ y) (sym g.whole) ∙ sym e))
one_token_in_front t u a b x y (inr h) (inr g) e =
    let s = one_spelling_in_front h.raw g.raw a b x y h.spelled.loose g.spelled.loose e in
    let means : Ok t ≡ Ok u = sym h.means ∙ ap meaning s.0 ∙ g.means in
    (cc means, s.1, s.2)

-- a token has a byte
pub token_nonempty : (t : TokenKind) (a x : List ℕ) → SpellsToken t a → a ++ x ≡ [] → ⊥
token_nonempty t a x (inl h) e =
    let s : h.byte ∷ x ≡ [] = ap (λ (v : List ℕ). v ++ x) (sym h.whole) ∙ e in
    cc
token_nonempty t a x (inr h) e =
    let s : ◌≡◌ {A = ℕ} escape 0 = sym (sequence_first h.raw a x h.spelled) ∙ ap (first_or 0) e in
    omega arith

-- equal bytes that are texts of tokens are texts of the same tokens
one_list_of_texts : (ts us : List TokenKind) (xs zs : List (List ℕ)) → AllZip SpellsToken ts xs
    → AllZip SpellsToken us zs
    → concat xs ≡ concat zs → ts ≡ us
one_list_of_texts [] [] xs zs h g e = refl
one_list_of_texts [] (u ∷ us) [] [] h g e = absurd g
one_list_of_texts [] (u ∷ us) [] (b ∷ zs) h g e = absurd (token_nonempty u b (concat zs) g.0 (sym e))
one_list_of_texts [] (u ∷ us) (a ∷ xs) zs h g e = absurd h
one_list_of_texts (t ∷ ts) [] [] zs h g e = absurd h
one_list_of_texts (t ∷ ts) [] (a ∷ xs) [] h g e = absurd (token_nonempty t a (concat xs) h.0 e)
one_list_of_texts (t ∷ ts) [] (a ∷ xs) (b ∷ zs) h g e = absurd g
one_list_of_texts (t ∷ ts) (u ∷ us) [] zs h g e = absurd h
one_list_of_texts (t ∷ ts) (u ∷ us) (a ∷ xs) [] h g e = absurd g
one_list_of_texts (t ∷ ts) (u ∷ us) (a ∷ xs) (b ∷ zs) h g e =
    let s = one_token_in_front t u a b (concat xs) (concat zs) h.0 g.0 e in
    ap₂ (λ (v : TokenKind) (w : List TokenKind). v ∷ w) s.0 (one_list_of_texts ts us xs zs h.1 g.1 s.2)

-- There is at most one list of tokens that bytes are read as.
pub one_reading : (bytes : List ℕ) (ts us : List TokenKind) → Reads bytes ts → Reads bytes us → ts ≡ us
one_reading bytes ts us h g = one_list_of_texts ts us h.0 g.0 h.1.each g.1.each (sym h.1.whole ∙ g.1.whole)

-- of two fronts of one list, one begins the other
pub one_begins_the_other : (a b x y : List ℕ) → a ++ x ≡ b ++ y → ((w : List ℕ) × (a ≡ b ++ w))
    ⊎ ((c : ℕ) × (w : List ℕ) × (b ≡ a ++ c ∷ w) × (x ≡ c ∷ (w ++ y)))
one_begins_the_other a [] x y e = inl (a, refl)
one_begins_the_other [] (v ∷ b) x y e = inr (v, b, refl, e)
one_begins_the_other (u ∷ a) (v ∷ b) x y e =
    let same : u ≡ v = head_of e in
    elim (one_begins_the_other a b x y (tail_of e)) [
      | inl w ↦ inl (w.0, ap₂ (λ (m : ℕ) (n : List ℕ). m ∷ n) same w.1)
      | inr w ↦ inr (w.0, w.1, ap₂ (λ (m : ℕ) (n : List ℕ). m ∷ n) (sym same) w.2, w.3)
    ]

-- an unfinished sequence begins with ESC
pub unfinished_first : (a x : List ℕ) → IsUnfinished a → first_or 0 (a ++ x) ≡ escape
unfinished_first [] x o = absurd (omega (arith, o.begun))
unfinished_first (u ∷ a) x o = ap (first_or 0) o.spelled.loose.whole

-- nothing that is spelled begins an unfinished sequence
pub spelled_no_front : (r : Raw) (a y : List ℕ) → Spells r a → IsUnfinished (a ++ y) → ⊥
spelled_no_front r a y h o =
    let l = one_spelling_in_front r o.raw a ((a ++ y) ++ o.rest) (y ++ o.rest) [] h.loose o.spelled.loose
    (sym (append_assoc a y o.rest) ∙ sym (append-nil ((a ++ y) ++ o.rest))) in
    let none : length (y ++ o.rest) ≡ 0 = ap length l.2 in
    omega (arith, o.more, none, length-append y o.rest)

-- no token begins an unfinished sequence
pub unfinished_no_token : (t : TokenKind) (a y : List ℕ) → SpellsToken t a → IsUnfinished (a ++ y) → ⊥
unfinished_no_token t a y (inl h) o = h.not_escape
    (ap (λ (v : List ℕ). first_or 0 ((v ++ y) ++ [])) (sym h.whole) ∙ unfinished_first (a ++ y) [] o)
unfinished_no_token t a y (inr h) o = spelled_no_front h.raw a y h.spelled o

-- texts of tokens are no unfinished sequence
unfinished_texts : (ts : List TokenKind) (xs : List (List ℕ)) → AllZip SpellsToken ts xs → IsUnfinished (concat xs) → ⊥
unfinished_texts [] [] h o = omega (arith, o.begun)
unfinished_texts [] (x ∷ xs) h o = h
unfinished_texts (t ∷ ts) [] h o = h
unfinished_texts (t ∷ ts) (x ∷ xs) h o = unfinished_no_token t x (concat xs) h.0 o

-- What goes on is no reading.
pub unfinished_not_read : (text : List ℕ) (ts : List TokenKind) → IsUnfinished text → Reads text ts → ⊥
unfinished_not_read text ts o h = unfinished_texts ts h.0 h.1.each (rw h.1.whole at o)

-- a broken text and what follows, by the byte that breaks it
pub broken_whole : (text : List ℕ) (c : Cause) (x : List ℕ) (h : IsBroken text c) → text ++ x ≡ h.part ++ (h.byte ∷ x)
broken_whole text c x h = ap (λ (v : List ℕ). v ++ x) h.whole ∙ append_assoc h.part (h.byte ∷ []) x

-- what is spelled does not begin with what is broken, nor the other way round
pub spelled_broken : (raw : Raw) (a text x y : List ℕ) (cause : Cause) → Spells raw a → IsBroken text cause
    → text ++ x ≡ a ++ y → ⊥
spelled_broken raw a text x y cause g h e =
    let s : h.part ++ (h.byte ∷ x) ≡ a ++ y = sym (broken_whole text cause x h) ∙ e in
    elim (one_begins_the_other h.part a (h.byte ∷ x) y s) [
      | inl w ↦
          let o : IsUnfinished h.part = h.unfinished in
          let l = one_spelling_in_front raw o.raw a (h.part ++ o.rest) (w.0 ++ o.rest) [] g.loose o.spelled.loose
          (sym (append_assoc a w.0 o.rest) ∙ ap (λ (v : List ℕ). v ++ o.rest) (sym w.1)
          ∙ sym (append-nil (h.part ++ o.rest))) in
          let none : length (w.0 ++ o.rest) ≡ 0 = ap length l.2 in
          omega (arith, o.more, none, length-append w.0 o.rest)
      | inr w ↦
          let same : h.byte ≡ w.0 = head_of w.3 in
          let longer : a ≡ text ++ w.1 = w.2 ∙ ap (λ (v : ℕ). h.part ++ v ∷ w.1) (sym same)
          ∙ sym (append_assoc h.part (h.byte ∷ []) w.1) ∙ ap (λ (v : List ℕ). v ++ w.1) (sym h.whole) in
          h.not_prefix (record { raw = raw; rest = w.1; spelled = rw longer at g })
    ]

-- no token begins what the reading refuses
pub refused_no_token : (t : TokenKind) (text a x y : List ℕ) (cause : Cause) → IsRefused text cause → SpellsToken t a
    → text ++ x ≡ a ++ y → ⊥
refused_no_token t text a x y cause (inl h) (inl g) e =
    byte_not_sequence g.byte text y x h.raw g.not_escape h.spelled (ap (λ (v : List ℕ). v ++ y) (sym g.whole) ∙ sym e)
refused_no_token t text a x y cause (inl h) (inr g) e =
    let s = one_spelling_in_front h.raw g.raw text a x y h.spelled.loose g.spelled.loose e in
    let apart : Err cause ≡ Ok t = sym h.means ∙ ap meaning s.0 ∙ g.means in
    cc
refused_no_token t text a x y cause (inr h) (inl g) e =
    g.not_escape
    (ap (first_or 0) (ap (λ (v : List ℕ). v ++ y) (sym g.whole) ∙ sym e ∙ broken_whole text cause x h)
    ∙ unfinished_first h.part (h.byte ∷ x) h.unfinished)
refused_no_token t text a x y cause (inr h) (inr g) e = spelled_broken g.raw a text x y cause g.spelled h e

-- what is refused has a byte
pub refused_nonempty : (text x : List ℕ) (cause : Cause) → IsRefused text cause → text ++ x ≡ [] → ⊥
refused_nonempty text x cause (inl h) e =
    let s : ◌≡◌ {A = ℕ} escape 0 = sym (sequence_first h.raw text x h.spelled) ∙ ap (first_or 0) e in
    omega arith
refused_nonempty text x cause (inr h) e =
    let s : ◌≡◌ {A = ℕ} escape 0 = sym (unfinished_first h.part (h.byte ∷ x) h.unfinished)
    ∙ ap (first_or 0) (sym (broken_whole text cause x h) ∙ e) in
    omega arith

-- texts of tokens do not begin with what is refused
refused_texts : (text x : List ℕ) (cause : Cause) (ts : List TokenKind) (xs : List (List ℕ)) → IsRefused text cause
    → AllZip SpellsToken ts xs → text ++ x ≡ concat xs → ⊥
refused_texts text x cause [] [] h g e = refused_nonempty text x cause h e
refused_texts text x cause [] (a ∷ xs) h g e = g
refused_texts text x cause (t ∷ ts) [] h g e = g
refused_texts text x cause (t ∷ ts) (a ∷ xs) h g e = refused_no_token t text a x (concat xs) cause h g.0 e

-- No tokens are read from what the reading refuses, whatever follows it.
pub refused_not_read : (text x : List ℕ) (cause : Cause) (ts : List TokenKind) → IsRefused text cause
    → Reads (text ++ x) ts → ⊥
refused_not_read text x cause ts h g = refused_texts text x cause ts g.0 h g.1.each g.1.whole

-- What is printed is a byte. A sequence means no print.
by_test : (P : TokenKind → Type 0) (b : Bool) (t u : TokenKind) → P t → P u → P (if b then t else u)
by_test P true t u h g = h
by_test P false t u h g = g

-- what a byte prints is a byte
byte_token_prints : (b : ℕ) → IsByte b → PrintsByte (kind_of_byte b)
byte_token_prints b h =
    by_test PrintsByte (b == 0x07) Bell _ tt
    (by_test PrintsByte (b == 0x08) BackSpace _ tt
    (by_test PrintsByte (b == 0x09) Tab _ tt
    (by_test PrintsByte (b == 0x0A) LineFeed _ tt
    (by_test PrintsByte (b == 0x0D) CarriageReturn (Glyph b) tt h))))

-- no byte outside sequences is the token
abbrev pub IsOfSequence : TokenKind → Type 0
IsOfSequence (Glyph byte) = ⊥
IsOfSequence Bell = ⊥
IsOfSequence BackSpace = ⊥
IsOfSequence Tab = ⊥
IsOfSequence LineFeed = ⊥
IsOfSequence CarriageReturn = ⊥
IsOfSequence _ = ⊤

prints_none : (t : TokenKind) → IsOfSequence t → PrintsByte t
prints_none (Glyph byte) h = absurd h
prints_none _ h = tt

-- the causes for which a sequence has no meaning
abbrev pub IsOfMeaning : Cause → Type 0
IsOfMeaning UnknownSequence = ⊤
IsOfMeaning WrongParameters = ⊤
IsOfMeaning _ = ⊥

-- what a sequence means is no byte's token, and what it is refused for is its meaning
abbrev pub MeansWell : Result TokenKind Cause → Type 0
MeansWell means = MatchResult means IsOfSequence IsOfMeaning

-- a test that refuses keeps what is proved
err_or : (b : Bool) (c : Cause) (r : Result TokenKind Cause) → IsOfMeaning c → MeansWell r
    → MeansWell (if b then Err c else r)
err_or true c r g h = g
err_or false c r g h = h

only_if_well : (b : Bool) (t : TokenKind) → IsOfSequence t → MeansWell (only_if b t)
only_if_well true t h = h
only_if_well false t h = tt

move_well : (by : ℕ → TokenKind) (ms : List Member) → ((n : ℕ) → IsOfSequence (by n)) → MeansWell (move by ms)
move_well by [] h = h 1
move_well by (m ∷ []) h = h (distance m)
move_well by (m ∷ n ∷ ms) h = tt

place_well : (ms : List Member) → MeansWell (place ms)
place_well [] = tt
place_well (m ∷ []) = tt
place_well (m ∷ n ∷ []) = tt
place_well (m ∷ n ∷ o ∷ ms) = tt

colours_well : (ms : List Member) → IsOfSequence (colours ms)
colours_well [] = tt
colours_well (m ∷ ms) = tt

look_up_well : (es : List Entry) (letter : ℕ) → AllByRecursion (λ e. MeansWell e.means) es
    → MeansWell (look_up es letter)
look_up_well [] letter h = tt
look_up_well (e ∷ es) letter h = here (is_one_of e.letters letter) h.0 (look_up_well es letter h.1)
  where
    here : (b : Bool) → MeansWell e.means → MeansWell (look_up es letter)
        → MeansWell (if b then e.means else look_up es letter)
    here true m more = m
    here false m more = more

-- one more
also : {A B : Type 0} → A → B → A × B
also a b = (a, b)

-- each entry of the table is such
table_well : (raw : Raw) → AllByRecursion (λ e. MeansWell e.means) (table raw)
table_well raw =
    also (move_well Up raw.members (λ n. tt))
    (also (move_well Down raw.members (λ n. tt))
    (also (move_well Forward raw.members (λ n. tt))
    (also (move_well Backward raw.members (λ n. tt))
    (also (place_well raw.members)
    (also (only_if_well _ Clear tt)
    (also (only_if_well _ EraseLine tt)
    (also (only_if_well _ Save tt)
    (also (only_if_well _ Restore tt)
    (also (colours_well raw.members)
    (also (by_test IsOfSequence _ (Wrap true) Mode tt tt)
    (also (by_test IsOfSequence _ (Wrap false) Mode tt tt)
    (also tt (also (only_if_well _ Ask tt) tt)))))))))))))

-- so is the meaning of each sequence
pub means_well : (raw : Raw) → MeansWell (meaning raw)
means_well raw =
    err_or (not (has_a_meaning raw)) UnknownSequence _ tt
    (err_or (is_marked raw.mark && not (is_one_of (codes "hl") raw.letter)) UnknownSequence _ tt
    (err_or (list_any is_quoted raw.members && not (is_one_of (codes "p") raw.letter)) WrongParameters _ tt
    (look_up_well (table raw) raw.letter (table_well raw))))

-- what is refused for its meaning is certain
pub meaning_certain : (c : Cause) → IsOfMeaning c → IsCertain c
meaning_certain UnknownSequence h = tt
meaning_certain WrongParameters h = tt
meaning_certain _ h = absurd h

-- what a token prints is a byte
pub token_prints : (t : TokenKind) (text : List ℕ) → SpellsToken t text → PrintsByte t
token_prints t text (inl h) = rw h.means (byte_token_prints h.byte h.is_byte)
token_prints t text (inr h) = prints_none t (rw h.means at (means_well h.raw))

tokens_print : (ts : List TokenKind) (xs : List (List ℕ)) → AllZip SpellsToken ts xs → All PrintsByte ts
tokens_print [] xs h = All-nil PrintsByte
tokens_print (t ∷ ts) [] h = absurd h
tokens_print (t ∷ ts) (x ∷ xs) h = All-cons PrintsByte t ts (token_prints t x h.0) (tokens_print ts xs h.1)

-- what is read prints bytes only
pub reads_bytes : (bytes : List ℕ) (ts : List TokenKind) → Reads bytes ts → All PrintsByte ts
reads_bytes bytes ts h = tokens_print ts h.0 h.1.each
